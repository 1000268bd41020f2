-- What holds between two steps.
use Rattle.std.specs.Prelude.{◌≡◌, ◌<◌, ◌≤◌, ℕ, ◌+◌, ◌-◌, true, false, nat_lt, if◌then◌else◌, List, [], length, get_or}
use Rattle.std.specs.List.{All}
use Rattle.merge_queue.specs.Passed.{Fate}
use Rattle.stack_laws.specs.Blocks.{BlockId, run_of, blocks, times, settled_count}
use Rattle.merge_queue.specs.Groups.{size, Group}
use Rattle.merge_queue.specs.Index.{total}
use Rattle.stack_laws.specs.Plan.{Plan, PlannedOp, request_at}
use Rattle.range_gate.specs.Gates.{is_waiting, has_ended}
use Rattle.stack_laws.specs.View.{View, OpView, Command, all_true, op_at, group_at}
use Rattle.stack_laws.specs.Runs.{Rig}
use Rattle.stack_laws.specs.Steps.{Step, End, Complete, Admit, Cut, Join, Send}

-- the blocks of an admitted request that aren't cut
abbrev pub uncut : ℕ → PlannedOp → OpView → List BlockId
uncut i r o = if is_waiting o.phase then [] else run_of i o.cut (r.count - o.cut)

-- how often block k of op i stands in these groups, in all queues, in commands that aren't completed
abbrev pub in_groups : ℕ → ℕ → List Group → ℕ
in_groups i k q = total (λ g. times i k (blocks g)) q

abbrev pub in_queues : ℕ → ℕ → List (List Group) → ℕ
in_queues i k qs = total (in_groups i k) qs

abbrev pub in_commands : ℕ → ℕ → List Command → ℕ
in_commands i k cs = total (λ c. if c.completed then 0 else times i k (blocks c.bios)) cs

-- 1 for a settled block
abbrev pub is_marked : OpView → ℕ → ℕ
is_marked o k = if get_or o.settled k false then 1 else 0

-- in how many places block k of op i is
abbrev pub places : Plan → View → ℕ → ℕ → ℕ
places p v i k = times i k (uncut i (request_at p i) (op_at v i)) + (in_queues i k v.queues + (in_commands i k v.commands + is_marked (op_at v i) k))

-- 1 for a block of a request that was admitted
abbrev pub due : PlannedOp → OpView → ℕ → ℕ
due r o k = if is_waiting o.phase then 0 else if nat_lt k r.count then 1 else 0

-- fates for a group: one for each block, and at least one block is settled
pub record Settles (g : Group) (fates : List Fate) : Type 0 where
  pub each : length fates ≡ size g
  pub some : 0 < settled_count fates

abbrev pub HasBlocks : Group → Type 0
HasBlocks g = 0 < size g

pub record Open (p : Plan) (c : Command) : Type 0 where
  pub device : c.dev < p.devices
  pub settles : Settles c.bios c.fates

abbrev pub IsOpen : Plan → Command → Type 0
IsOpen p c = c.completed ≡ false → Open p c

-- the blocks of all requests lie on the devices
abbrev pub OnDevices : Plan → Type 0
OnDevices p = (i k : ℕ) → k < (request_at p i).count → (p.place ((request_at p i).first + k)).dev < p.devices

pub record Sound (p : Plan) (v : View) : Type 0 where
  pub ops : length v.ops ≡ length p.requests
  pub devices : length v.queues ≡ p.devices
  -- each block of an admitted request is in just one place, and no other block is in any
  pub one_place : (i k : ℕ) → places p v i k ≡ due (request_at p i) (op_at v i) k
  pub lengths : (i : ℕ) → length (op_at v i).settled ≡ (request_at p i).count
  pub cuts : (i : ℕ) → (op_at v i).cut ≤ (request_at p i).count
  pub fresh : (i : ℕ) → is_waiting (op_at v i).phase ≡ true → (op_at v i).cut ≡ 0
  pub ended : (i : ℕ) → has_ended (op_at v i).phase ≡ true → all_true (op_at v i).settled ≡ true
  -- all earlier ops that conflict with an admitted op have ended
  pub order : (j i : ℕ) → j < i → i < length v.ops → is_waiting (op_at v i).phase ≡ false → p.conflicts j i ≡ true → has_ended (op_at v j).phase ≡ true
  pub groups : All (All HasBlocks) v.queues
  pub commands : All (IsOpen p) v.commands

-- where a step sends a group, the rig's fates for it settle at least one block
abbrev pub Answered : View → Step → List Fate → Type 0
Answered v (End i) fates = Unit {0}
Answered v (Complete j) fates = Unit {0}
Answered v (Admit i) fates = Unit {0}
Answered v (Cut i) fates = Unit {0}
Answered v (Join d i j) fates = Unit {0}
Answered v (Send d i) fates = Settles (group_at v d i) fates

abbrev pub AllEnded : View → Type 0
AllEnded v = (i : ℕ) → i < length v.ops → has_ended (op_at v i).phase ≡ true

-- a rig whose every answer settles at least one block
abbrev pub RigSettles : Rig → Type 0
RigSettles rig = (n : ℕ) (g : Group) → HasBlocks g → Settles g (rig n g)
