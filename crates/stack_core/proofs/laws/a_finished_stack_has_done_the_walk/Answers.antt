use Rattle.std.proofs.Common.{List, [], Option, Some, None, ap, subst, sym, drop}
use Rattle.rig_api.specs.Target.{Stored}
use Rattle.stack_core.specs.Walking.{EndsTold}
use Rattle.stack_core.proofs.WalkEnds.{ends_told}
use Rattle.stack_core.proofs.laws.a_finished_stack_has_done_the_walk.Goals as goal

abbrev told_or : Option (List Stored) → List Stored
told_or (Some us) = us
told_or None = []

pub returns : goal.returns
returns c = λ m fine n opening first s us armed st log k w none f bound.
    subst (λ x. EndsTold m n opening s.sheet.ops s x (drop first log)) (sym (ap told_or w.told_are)) (ends_told m fine n opening first s (Some us) armed st log k w (none w.walks.view w.walks.holds) f bound)
