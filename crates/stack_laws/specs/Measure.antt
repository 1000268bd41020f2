-- How many steps, sends and pieces can still come.
use Rattle.std.specs.Prelude.{◌≡◌, ◌≤◌, ℕ, zero, suc, ◌+◌, ◌-◌, ◌*◌, false, nat_lt, if◌then◌else◌, List, [], ◌∷◌, length}
use Rattle.std.specs.List.{All}
use Rattle.merge_queue.specs.Passed.{Fate}
use Rattle.merge_queue.specs.Groups.{size, Group}
use Rattle.merge_queue.specs.Index.{total}
use Rattle.stack_laws.specs.Blocks.{settled_count}
use Rattle.stack_laws.specs.Plan.{Plan, PlannedOp, request_at}
use Rattle.stack_laws.specs.Pieces.{greatest_piece}
use Rattle.range_gate.specs.declared.phase.Phase.{Phase}
use Rattle.range_gate.specs.declared.phase.Phase.TheVariants.{Waiting, Admitted, Ended}
use Rattle.stack_laws.specs.View.{View, OpView, Command}
use Rattle.stack_laws.specs.Steps.{Step, End, Complete, Admit, Cut, Join, Send}
use Rattle.stack_laws.specs.Runs.{blocks_of_requests}

abbrev pub rank : Phase → ℕ
rank Waiting = 2
rank Admitted = 1
rank Ended = 0

-- an op is admitted and ends; each block is cut, sent and completed, and takes part in two joins
abbrev pub op_weight : PlannedOp → OpView → ℕ
op_weight r o = rank o.phase + 5 * (r.count - o.cut)

abbrev pub blocks_left : PlannedOp → OpView → ℕ
blocks_left r o = r.count - o.cut

abbrev pub over_ops : (PlannedOp → OpView → ℕ) → List PlannedOp → List OpView → ℕ
over_ops f [] os = 0
over_ops f (r ∷ rs) [] = 0
over_ops f (r ∷ rs) (o ∷ os) = f r o + over_ops f rs os

abbrev pub group_weight : Group → ℕ
group_weight g = 3 * size g + 1

abbrev pub command_weight : Command → ℕ
command_weight c = if c.completed then 0 else 3 * size c.bios

-- what is left to do
abbrev pub measure : Plan → View → ℕ
measure p v = over_ops op_weight p.requests v.ops + (total (total group_weight) v.queues + total command_weight v.commands)

-- commands that can still be sent
abbrev pub command_sends : Command → ℕ
command_sends c = if c.completed then 0 else size c.bios - 1

abbrev pub sends_left : Plan → View → ℕ
sends_left p v = over_ops blocks_left p.requests v.ops + (total (total size) v.queues + total command_sends v.commands)

-- the greatest pieces of op i from block k on, at most n of them
abbrev pub pieces_from : Plan → ℕ → ℕ → ℕ → ℕ
pieces_from p i zero k = 0
pieces_from p i (suc n) k = let more = pieces_from p i n (k + greatest_piece p i k) in if nat_lt k (request_at p i).count then suc more else 0

-- the steps taken so far and what is left are at most two for each op and five for each block;
-- the commands sent so far and those that can still be sent are at most the blocks
pub record StepsCounted (p : Plan) (v : View) : Type 0 where
  pub steps : v.steps + measure p v ≤ 2 * length p.requests + 5 * blocks_of_requests p.requests
  pub sends : length v.commands + sends_left p v ≤ blocks_of_requests p.requests

-- ---- where every block is good and every piece the greatest

-- the greatest pieces of the requests, each being cut from its first block on
abbrev pub greatest_pieces : Plan → ℕ → List PlannedOp → ℕ
greatest_pieces p i [] = 0
greatest_pieces p i (r ∷ rs) = pieces_from p i r.count 0 + greatest_pieces p (suc i) rs

-- those that aren't cut yet
abbrev pub pieces_left : Plan → ℕ → List PlannedOp → List OpView → ℕ
pieces_left p i [] os = 0
pieces_left p i (r ∷ rs) [] = 0
pieces_left p i (r ∷ rs) (o ∷ os) = pieces_from p i (r.count - o.cut) o.cut + pieces_left p (suc i) rs os

abbrev pub AllSettled : List Fate → Type 0
AllSettled fates = settled_count fates ≡ length fates

abbrev pub IsWhole : Command → Type 0
IsWhole c = c.completed ≡ false → AllSettled c.fates

-- where a step sends a group, all its blocks are settled
abbrev pub AnsweredWhole : Step → List Fate → Type 0
AnsweredWhole (End i) fates = Unit {0}
AnsweredWhole (Complete j) fates = Unit {0}
AnsweredWhole (Admit i) fates = Unit {0}
AnsweredWhole (Cut i) fates = Unit {0}
AnsweredWhole (Join d i j) fates = Unit {0}
AnsweredWhole (Send d i) fates = AllSettled fates

pub record Thrifty (p : Plan) (v : View) : Type 0 where
  pub few : length v.commands + (total length v.queues + pieces_left p 0 p.requests v.ops) ≤ greatest_pieces p 0 p.requests
  pub whole : All IsWhole v.commands
