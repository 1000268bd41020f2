use Rattle.std.proofs.Common.{◌≡◌, ◌<◌, ℕ, ◌+◌, Bool, false, List, length, get_or, sym, ap, ◌∙◌, arith}
use Rattle.std.specs.List.{list_any}
use Rattle.std.proofs.lemmas.List.{get_or-map, get_or_default, length-map, same_lists, take_all}
use Rattle.fault_schedule.specs.declared.fault.FaultLine.{FaultLine}
use Rattle.merge_queue.specs.Groups.{numbers}
use Rattle.merge_queue.proofs.Linking.{length-numbers}
use Rattle.stack_steps.proofs.Picks.{get-numbers}
use Rattle.stack_walk_laws.specs.Shifts.{shifted_by, shifts}
use Rattle.stack_core.proofs.start.shifted_ops.Goals as goal

-- marks that are right one by one are right
all-marked : (faults : List FaultLine) (n : ℕ) (marks : List Bool) → length marks ≡ n → ((i : ℕ) → i < n → get_or marks i false ≡ list_any (shifts (i + 1)) faults) → marks ≡ shifted_by faults n
all-marked faults n marks l h =
    same_lists marks (shifted_by faults n) (l ∙ sym (length-map (numbers 0 n) (λ i. list_any (shifts (i + 1)) faults) ∙ length-numbers 0 n)) (λ k d lt. at k d (omega (arith, lt, l)))
  where
    at : (k : ℕ) (d : Bool) → k < n → get_or marks k d ≡ get_or (shifted_by faults n) k d
    at k d lt =
        let m = length-numbers 0 n in
        let g = get-numbers 0 n k 0 lt in
        let e : get_or (numbers 0 n) k 0 ≡ k = omega (arith, g) in
        get_or_default marks k d false (omega (arith, lt, l)) ∙ h k lt
        ∙ sym (get_or-map (λ i. list_any (shifts (i + 1)) faults) (numbers 0 n) k 0 d (omega (arith, lt, m)) ∙ ap (λ i. list_any (shifts (i + 1)) faults) e)

pub returns : goal.returns
returns c =
    let faults = c.args.faults.now in
    let t = take_all c.loop-line.line-index faults c.loop-line-test.false in
    all-marked faults c.args.n c.loop-line.shifted.items c.loop-line.invariant.count
    (λ i lt. c.loop-line.invariant.marked i lt ∙ ap (list_any (shifts (i + 1))) t)
