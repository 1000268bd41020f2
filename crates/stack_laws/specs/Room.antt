-- How much room the rig must still have.
use Rattle.std.specs.Prelude.{◌≡◌, ℕ, ◌+◌, ◌-◌, if◌then◌else◌, List, length}
use Rattle.merge_queue.specs.Passed.{Fate}
use Rattle.merge_queue.specs.Groups.{size}
use Rattle.merge_queue.specs.Index.{total}
use Rattle.stack_laws.specs.Blocks.{settled_count}
use Rattle.stack_laws.specs.Plan.{Plan}
use Rattle.stack_laws.specs.View.{View, OpView, Command}
use Rattle.stack_laws.specs.Steps.{Step, End, Complete, Admit, Cut, Join, Send}
use Rattle.stack_laws.specs.Measure.{over_ops, blocks_left}

abbrev pub unmarked : OpView → ℕ
unmarked o = total (λ b. if b then 0 else 1) o.settled

-- blocks that aren't settled, and commands that are sent and not completed
abbrev pub unsettled : View → ℕ
unsettled v = total unmarked v.ops

abbrev pub in_flight : View → ℕ
in_flight v = total (λ c. if c.completed then 0 else 1) v.commands

-- exchanges that may still come
abbrev pub exchanges_left : View → ℕ
exchanges_left v = unsettled v - in_flight v

-- blocks that may still be carried: uncut, in a queue, or untouched in a command that isn't completed
abbrev pub untouched_in : Command → ℕ
untouched_in c = if c.completed then 0 else length c.fates - settled_count c.fates

abbrev pub frames_left : Plan → View → ℕ
frames_left p v = over_ops blocks_left p.requests v.ops + (total (total size) v.queues + total untouched_in v.commands)

-- an unsettled block is uncut, in a queue or in a command that isn't completed
abbrev pub size_in : Command → ℕ
size_in c = if c.completed then 0 else size c.bios

abbrev pub Accounted : Plan → View → Type 0
Accounted p v = unsettled v ≡ over_ops blocks_left p.requests v.ops + (total (total size) v.queues + total size_in v.commands)

-- what a step takes of the room for exchanges and for frames
abbrev pub exchanges_of : Step → ℕ
exchanges_of (End i) = 0
exchanges_of (Complete j) = 0
exchanges_of (Admit i) = 0
exchanges_of (Cut i) = 0
exchanges_of (Join d i j) = 0
exchanges_of (Send d i) = 1

abbrev pub frames_of : Step → List Fate → ℕ
frames_of (End i) fates = 0
frames_of (Complete j) fates = 0
frames_of (Admit i) fates = 0
frames_of (Cut i) fates = 0
frames_of (Join d i j) fates = 0
frames_of (Send d i) fates = settled_count fates
