use Rattle.std.proofs.Common.{rules}
use Rattle.std.proofs.lemmas.List.Sorted.{All-permutation, IsNonDecreasingBy-from_sort_by_key}
use Rattle.range_gate.specs.Prints.{IsSound, begins}
use Rattle.range_gate.proofs.Rising.{rises}
use Rattle.range_gate.proofs.print.sorted.Goals as goal

pub returns-clause-rises : goal.returns-clause-rises
returns-clause-rises c =
    rises c.sort_unstable_by_key.new.self.items
    (All-permutation IsSound c.in_ok-segs.segs.items c.sort_unstable_by_key.new.self.items c.sort_unstable_by_key.ensures.permutation c.in_ok-segs.ensures.sound)
    (IsNonDecreasingBy-from_sort_by_key begins _ c.sort_unstable_by_key.ensures.sorted (λ a r q k. search rules))
