use Rattle.std.proofs.Common.{◌≡◌, ap, sym, ◌∙◌, arith, take, take_all}
use Rattle.std.proofs.lemmas.List.{length-take}
use Rattle.rig_api.specs.Head.{fault_of_header}
use Rattle.rig_api.specs.Headers.{image_size, is_header, specs_in}
use Rattle.image_rig.specs.Heads.{head_in}
use Rattle.image_rig.proofs.Heads.{fault_none, fault_short, fault_table}
use Rattle.image_rig.proofs.image_head.ImageHead.fault.Goals as goal

pub returns-in_default : goal.returns-in_default
returns-in_default c = fault_none (head_in c.args.self.now) (sym c.version.ensures ∙ c.in_default.is)

pub returns-then-self-lt512 : goal.returns-then-self-lt512
returns-then-self-lt512 c =
    let n = length-take c.args.self.now.have c.args.self.now.first in
    fault_short (head_in c.args.self.now) c.in-Some.version (sym c.version.ensures ∙ c.in-Some.is) (omega (arith, c.args.self.now.long))

pub returns : goal.returns
returns c =
    let h = c.args.self.now in
    let n = length-take h.have h.first in
    let whole : take h.have h.first ≡ h.first = take_all h.have h.first (omega (arith, h.long, c.if-self-lt512.false)) in
    c.header_fault.ensures
    ∙ ap (λ b. fault_of_header (is_header c.in-Some.version b) h.size (image_size (specs_in c.in-Some.version b))) (sym whole)
    ∙ fault_table (head_in h) c.in-Some.version (sym c.version.ensures ∙ c.in-Some.is) (omega (arith, h.long, c.if-self-lt512.false))
