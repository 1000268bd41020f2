use Rattle.std.proofs.Common.{◌≡◌, ◌∙◌, Err, Result, ap, rules, sym}
use Rattle.cdb_codec.specs.declared.command.Cdb.{Cdb}
use Rattle.cdb_codec.specs.declared.command.CdbFault.{CdbFault}
use Rattle.cdb_codec.specs.declared.command.CdbFault.TheVariants.{Field}
use Rattle.cdb_codec.specs.Decoded.{decoded}
use Rattle.cdb_codec.specs.Forms.{Fits, form}
use Rattle.cdb_codec.proofs.Inverse.{decoded_form, is_form as form_of, is_form_turned as form_turned}
use Rattle.cdb_codec.proofs.command.Cdb.decode.Goals as goal

fits : (c : goal.Else-ne) → Fits c.in_ok-cdb.cdb
fits c = c.in_ok-cdb.ensures.fits (search rules)

is_form : (c : goal.Else-ne) → c.args.bytes.now ≡ form c.in_ok-cdb.cdb
is_form c = search (form_of, form_turned)

pub returns-clause-found : goal.returns-clause-found
returns-clause-found c = (fits c, is_form c)

pub returns-clause-value : goal.returns-clause-value
returns-clause-value c = sym (ap decoded (is_form c) ∙ decoded_form c.in_ok-cdb.cdb (fits c))

is_field : (c : goal.Joined-then-not-has_served_protect) → ◌≡◌ {A = Result Cdb CdbFault} (Err Field) (decoded c.args.bytes.now)
is_field c = search rules

pub returns-then-not-has_served_protect-clause-only : goal.returns-then-not-has_served_protect-clause-only
returns-then-not-has_served_protect-clause-only c d f e = is_field c ∙ ap decoded e ∙ decoded_form d f
