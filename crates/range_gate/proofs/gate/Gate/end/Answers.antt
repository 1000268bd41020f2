use Rattle.std.proofs.Common.{◌-◌, length, arith, ap, ◌∙◌}
use Rattle.std.proofs.lemmas.List.{length-set}
use Rattle.range_gate.specs.Gates.{has_ended, phase_at}
use Rattle.range_gate.specs.declared.phase.Phase.TheVariants.{Ended}
use Rattle.range_gate.proofs.Unended.{ended-whole, stands}
use Rattle.range_gate.proofs.gate.Gate.end.Goals as goal

pub place_of-at-requires : goal.place_of-at-requires
place_of-at-requires c =
    let g = ap (λ v. v.phases) c.self.view_is in
    let n = ap length g in
    stands c.self.inside.phases.items c.self.inside.live.items c.deref.result.now (c.args.op - 1) c.self.invariant.2 (omega arith) c.deref.ensures.value
    (ap (λ v. has_ended (phase_at v (c.args.op - 1))) g ∙ ap has_ended c.requires.admitted)

pub invariant_of-self : goal.invariant_of-self
invariant_of-self c =
    let g = ap (λ v. v.phases) c.self.view_is in
    let n = ap length g in
    let m = length-set c.self.inside.phases.items (c.args.op - 1) Ended in
    let s = c.set_phase.ensures in
    let l = ap length s in
    let p = c.self.invariant.0 in
    let q = c.self.invariant.1 in (
      omega arith,
      omega arith,
      ended-whole c.self.inside.phases.items c.set_phase.new.phases.items c.self.inside.live.items c.remove-gone.new.self.items c.deref.result.now (c.args.op - 1) c.place_of-at.result c.self.invariant.2 (omega arith) c.deref.ensures.value
          c.place_of-at.ensures.within c.place_of-at.ensures.place c.remove-gone.ensures.items c.set_phase.ensures,
    )
