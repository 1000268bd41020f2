use Rattle.std.proofs.Common.{◌≡◌, ap, sym, ◌∙◌, arith, take, take_all}
use Rattle.std.proofs.lemmas.List.{length-take}
use Rattle.rig_api.specs.Headers.{specs_in}
use Rattle.image_rig.specs.Heads.{head_in}
use Rattle.image_rig.proofs.Heads.{right_head, right_units, same_version, has_version}
use Rattle.image_rig.proofs.image_head.ImageHead.units.Goals as goal

pub returns-in-Some : goal.returns-in-Some
returns-in-Some c =
    let h = c.args.self.now in
    let r = right_head (head_in h) c.requires in
    let n = length-take h.have h.first in
    let whole : take h.have h.first ≡ h.first = take_all h.have h.first (omega (arith, h.long, r.whole)) in
    let v = same_version (head_in h) r c.in-Some.version (sym c.version.ensures ∙ c.in-Some.is) in
    c.specs_in.ensures ∙ ap (specs_in c.in-Some.version) (sym whole) ∙ ap (λ w. specs_in w (take h.have h.first)) (sym v) ∙ sym (right_units (head_in h) r)

pub returns-in-None : goal.returns-in-None
returns-in-None c = absurd (has_version (head_in c.args.self.now) c.requires (sym c.version.ensures ∙ c.in-None.is))
