use Rattle.std.proofs.Common.{List, [], Option, Some, None, ap, drop, subst, sym, take}
use Rattle.page_pool.specs.Cells.{flat}
use Rattle.rig_api.specs.Target.{Stored}
use Rattle.dix_adapter.specs.Ways.{blocks_told}
use Rattle.stack_walk_laws.specs.Passed.{recorded}
use Rattle.stack_core.specs.Walking.{EndsFallen}
use Rattle.stack_core.proofs.WalkEnds.{ends_falling}
use Rattle.stack_core.proofs.laws.a_finished_stack_has_done_the_falling_walk.Goals as goal

abbrev told_or : Option (List Stored) → List Stored
told_or (Some us) = us
told_or None = []

pub returns : goal.returns
returns c = λ m fine n opening first s us armed st log k w none f long bound takes.
    subst (λ x. EndsFallen m n opening s.sheet.ops (take n (flat s.pool)) (blocks_told x) s.replies.items (recorded m (drop first log))) (sym (ap told_or (w.1).told_are))
    (ends_falling m fine n opening first s (Some us) armed st log k w (none (w.1).walks.view (w.1).walks.holds) f long bound takes)
