-- Where no store call failed, by what is told: of some runs and replies out of more, and while the count of faults doesn't rise.
use Rattle.std.proofs.Common.{ℕ, ◌+◌, List, ◌++◌, arith}
use Rattle.dix_base.specs.Told.{Calm}
use Rattle.stack_ops.specs.declared.reply.Reply.{Reply}
use Rattle.mirror_volume.specs.LegsPassed.{RoseBy, medium_replies}
use Rattle.mirror_volume.proofs.LegsPassed.{none_named}
use Rattle.mirror_volume.specs.LegRuns.{LegRun, NoneUnscheduled, all_unscheduled}
use Rattle.mirror_volume.proofs.Lines.{overwrites-append}
use Rattle.mirror_volume.proofs.Runs.{all_unscheduled-append}

pub unnamed-first : (xs ys : List LegRun) (first last : List Reply) → NoneUnscheduled (xs ++ ys) (first ++ last) → NoneUnscheduled xs first
unnamed-first xs ys first last h = record {
  legs = (let a = all_unscheduled-append xs ys in let n = h.legs in omega (arith, a, n));
  overwrites = (let a = overwrites-append first last in let n = h.overwrites in omega (arith, a, n));
}

pub unnamed-last : (xs ys : List LegRun) (first last : List Reply) → NoneUnscheduled (xs ++ ys) (first ++ last) → NoneUnscheduled ys last
unnamed-last xs ys first last h = record {
  legs = (let a = all_unscheduled-append xs ys in let n = h.legs in omega (arith, a, n));
  overwrites = (let a = overwrites-append first last in let n = h.overwrites in omega (arith, a, n));
}

-- While the count doesn't rise none failed.
pub calm-unnamed : (runs : List LegRun) (replies : List Reply) (old new : ℕ) → RoseBy (all_unscheduled runs + medium_replies replies) old new → Calm old new → NoneUnscheduled runs replies
calm-unnamed runs replies old new rose calm = let none = none_named (all_unscheduled runs + medium_replies replies) old new rose calm in record { legs = omega (arith, none); overwrites = omega (arith, none) }
