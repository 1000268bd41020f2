use Rattle.std.proofs.Common.{◌≡◌, ◌≤◌, ◌-◌, length}
use Rattle.std.specs.List.{All}
use Rattle.std.specs.Vec.{vec_capacity}
use Rattle.merge_queue.specs.Groups.{put_all}
use Rattle.stack_laws.specs.Rests.{rests}
use Rattle.stack_steps.specs.Parts.{Ends, rests_from}
use Rattle.stack_steps.proofs.rests.put_rests.Given as goal

abbrev pub invariant-loop-at : goal.invariant-loop-at
invariant-loop-at g l = record {
  within : l.at ≤ length l.fates;
  ends : All Ends (rests_from (g.P.Requests.plan l.plan) l.bios l.at l.fates);
  groups : put_all (rests_from (g.P.Requests.plan l.plan) l.bios l.at l.fates) l.queue.groups ≡ put_all (rests (g.P.Requests.plan l.plan) l.bios l.fates) l.initial.queue.groups;
  room : l.queue.room ≡ l.initial.queue.room;
  capacity : vec_capacity l.scratch ≡ vec_capacity l.initial.scratch;
}

abbrev pub decreases-loop-at : goal.decreases-loop-at
decreases-loop-at g l = length l.fates - l.at
