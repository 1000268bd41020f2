use Rattle.range_gate.specs.declared.footprint.Footprint.{Footprint}
use Rattle.range_gate.specs.Conflicts.{Conflict}
use Rattle.range_gate.specs.Windows.{clashes}
use Rattle.std.proofs.Common.{◌≡◌, ◌<◌, ℕ, ◌↔◌, true, slice_index_or, length, arith, ap, sym, subst, ◌∙◌, replicate, rules}
use Rattle.std.proofs.lemmas.List.{length-replicate}
use Rattle.range_gate.specs.declared.phase.Phase.TheVariants.{Waiting}
use Rattle.range_gate.specs.Gates.{conflict_at, unended}
use Rattle.range_gate.proofs.Layouts.{conflicts}
use Rattle.range_gate.proofs.Unended.{unended-fresh}
use Rattle.range_gate.proofs.gate.Gate.new.Goals as goal

pub invariant_of-result : goal.invariant_of-result
invariant_of-result c =
    let n = c.len-count.result in
    let p : c.in_ok-phases.phases.items ≡ replicate n Waiting = search rules in
    let l : length c.in_ok-phases.phases.items ≡ n = ap length p ∙ length-replicate n Waiting in
    let k = c.in_ok-kept.ensures.count in
    let d = ap length c.deref.ensures.value in (
      omega (arith, c.len-count.ensures, c.deref.ensures.len),
      omega (arith, c.len-count.ensures, c.requires),
      c.in_ok-live.ensures ∙ sym (unended-fresh n) ∙ ap (λ v. unended v n) (sym p) ∙ ap (unended c.in_ok-phases.phases.items) (sym l),
    )

pub returns : goal.returns
returns c =
    let n = c.len-count.result in
    let p : c.in_ok-phases.phases.items ≡ replicate n Waiting = search rules in
    record {
      phases = p ∙ ap (λ m. replicate m Waiting) (omega (arith, c.len-count.ensures));
      conflicts = subst (λ v. (i j : ℕ) (d : Footprint) → i < length v → j < length v → (conflict_at (clashes c.in_ok-kept.kept.items) i j ≡ true) ↔ Conflict (slice_index_or v i d) (slice_index_or v j d)) c.deref.ensures.value (conflicts c.deref.result.now c.in_ok-kept.kept.items c.in_ok-kept.ensures);
    }
