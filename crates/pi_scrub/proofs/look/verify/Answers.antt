use Rattle.std.proofs.Common.{◌≡◌, ap, ◌∙◌}
use Rattle.cdb_codec.specs.Forms.{Fits, form}
use Rattle.pi_scrub.specs.Looks.{verify_of}
use Rattle.pi_scrub.proofs.Judging.{told_looked, units_stay}
use Rattle.pi_scrub.proofs.look.verify.Goals as goal

pub returns-clause-told : goal.returns-clause-told
returns-clause-told g c =
    let cdb : c.deref.result.now ≡ form (verify_of c.args.ty c.args.lba c.args.n) = c.deref.ensures.0 ∙ c.encode-cdb.ensures ∙ ap form c.verify_of.ensures.value in
    let fits : Fits (verify_of c.args.ty c.args.lba c.args.n) = rw c.verify_of.ensures.value at c.verify_of.ensures.fits in
    let answer = rw cdb at c.exchange.ensures.exchanged.calm in
    λ us e calm w. told_looked _ us c.args.dev c.args.lba c.args.n c.args.ty c.exchange.result _ _ _ fits w (answer us e calm)

pub returns-clause-units : goal.returns-clause-units
returns-clause-units g c =
    let cdb : c.deref.result.now ≡ form (verify_of c.args.ty c.args.lba c.args.n) = c.deref.ensures.0 ∙ c.encode-cdb.ensures ∙ ap form c.verify_of.ensures.value in
    let fits : Fits (verify_of c.args.ty c.args.lba c.args.n) = rw c.verify_of.ensures.value at c.verify_of.ensures.fits in
    let answer = rw cdb at c.exchange.ensures.exchanged.stopped in
    units_stay _ _ _ c.args.dev c.args.lba c.args.n c.args.ty _ _ _ _ c.exchange.result _ _ c.exchange.ensures.exchanged.standing (g.met.R.Rig.laid c.args.rig.now) (g.met.R.Rig.laid c.exchange.new.self) c.exchange.ensures.exchanged.tells fits
    (λ us e. (let k = answer us e in (k.0, k.2)))
