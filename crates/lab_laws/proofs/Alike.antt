-- What came of a run is the same as itself.
use Rattle.std.proofs.Common.{◌≡◌, true, eqb, ◌&&◌, List, [], ◌∷◌, refl, ap, ◌∙◌}
use Rattle.std.specs.Prelude.{if◌then◌else◌, unwrap_or}
use Rattle.std.specs.Str.{bytes_eq}
use Rattle.std.proofs.lemmas.Bool.{and_from}
use Rattle.pi_tuple.specs.declared.checks.Check.{Check}
use Rattle.pi_tuple.specs.declared.checks.Check.TheVariants.{Guard, AppTag, RefTag}
use Rattle.bio_core.specs.declared.fate.Why.{Why}
use Rattle.bio_core.specs.declared.fate.Why.TheVariants as why
use Rattle.stack_ops.specs.declared.reply.BadBlock.{BadBlock}
use Rattle.stack_ops.specs.declared.reply.Reply.{Reply}
use Rattle.stack_ops.specs.declared.reply.Reply.TheVariants as reply
use Rattle.rig_api.specs.Image.{units_from}
use Rattle.rig_api.specs.declared.units.UnitSpec.{UnitSpec}
use Rattle.script_laws.specs.Keeping.{Each}
use Rattle.flip_sweep.specs.Comes.{CameTo}
use Rattle.flip_sweep.specs.Verdicts.{are_same_blocks, are_same_replies, first_spoilt, is_same, is_same_block, is_same_check, is_same_reply, is_same_why, verdict_of}
use Rattle.flip_sweep.specs.declared.verdict.Verdict.TheVariants.{Same, Unseen}
use Rattle.image_rig.proofs.FreshHead.{same_bytes}
use Rattle.lab_laws.proofs.Listing.{IsQuiet, found_nowhere}
use Rattle.lab_laws.proofs.Scrubbed.{same_units}
use Rattle.small_laws.proofs.Tests.{eqb_self}

same_check : (c : Check) → is_same_check c c ≡ true
same_check Guard = refl
same_check AppTag = refl
same_check RefTag = refl

same_why : (w : Why) → is_same_why w w ≡ true
same_why (why.Adapter c) = same_check c
same_why (why.Target c) = same_check c
same_why (why.Block c) = same_check c
same_why (why.App c) = same_check c
same_why why.Medium = refl
same_why (why.Refused key asc ascq) = and_from (eqb key key) (eqb asc asc && eqb ascq ascq) (eqb_self key) (and_from (eqb asc asc) (eqb ascq ascq) (eqb_self asc) (eqb_self ascq))
same_why why.Short = refl

same_blocks : (bs : List BadBlock) → are_same_blocks bs bs ≡ true
same_blocks [] = refl
same_blocks (b ∷ bs) = and_from (is_same_block b b) (are_same_blocks bs bs) (and_from (eqb b.k b.k) (is_same_why b.why b.why) (eqb_self b.k) (same_why b.why)) (same_blocks bs)

same_reply : (r : Reply) → is_same_reply r r ≡ true
same_reply reply.Silent = refl
same_reply reply.Whole = refl
same_reply (reply.Bad bs) = same_blocks bs
same_reply (reply.Shown bytes) = same_bytes bytes
same_reply reply.Medium = refl

same_replies : (rs : List Reply) → are_same_replies rs rs ≡ true
same_replies [] = refl
same_replies (r ∷ rs) = and_from (is_same_reply r r) (are_same_replies rs rs) (same_reply r) (same_replies rs)

same_came : (c : CameTo) → is_same c c ≡ true
same_came c =
    and_from (are_same_replies c.replies c.replies) (bytes_eq c.pages c.pages && bytes_eq c.stored c.stored) (same_replies c.replies)
    (and_from (bytes_eq c.pages c.pages) (bytes_eq c.stored c.stored) (same_bytes c.pages) (same_bytes c.stored))

-- beside a run that lists nothing, the same comes to the same
pub comes_to_same : (us : List UnitSpec) (c : CameTo) → Each IsQuiet c.replies → verdict_of us c c ≡ Same
comes_to_same us c h =
    let spoilt = first_spoilt 0 (units_from us c.stored) (units_from us c.stored) in
    ap (λ o. unwrap_or o (unwrap_or spoilt (if is_same c c then Same else Unseen))) (found_nowhere 1 c.replies h)
    ∙ ap (λ o. unwrap_or o (if is_same c c then Same else Unseen)) (same_units 0 (units_from us c.stored))
    ∙ ap (λ b. if b then Same else Unseen) (same_came c)
