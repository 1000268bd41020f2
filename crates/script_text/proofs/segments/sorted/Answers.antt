use Rattle.std.proofs.Common.{rules, sym, subst}
use Rattle.std.specs.List.{All}
use Rattle.std.proofs.lemmas.List.Sorted.{All-permutation, IsNonDecreasingBy-from_sort_by_key}
use Rattle.stack_ops.specs.Passed.{IsSound, begins}
use Rattle.stack_ops.proofs.Passed.{rises}
use Rattle.script_text.proofs.segments.sorted.Goals as goal

pub returns-clause-rises : goal.returns-clause-rises
returns-clause-rises c =
    rises c.sort_unstable_by_key.new.self.items
    (All-permutation IsSound c.in_ok-segs.segs.items c.sort_unstable_by_key.new.self.items c.sort_unstable_by_key.ensures.permutation (subst (All IsSound) (sym c.in_ok-segs.ensures) c.requires))
    (IsNonDecreasingBy-from_sort_by_key begins _ c.sort_unstable_by_key.ensures.sorted (λ a r q k. search rules))
