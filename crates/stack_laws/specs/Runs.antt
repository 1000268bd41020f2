-- Whole runs by a schedule, and what they send.
use Rattle.std.specs.Prelude.{ℕ, zero, suc, ◌+◌, ◌*◌, Bool, true, false, if◌then◌else◌, List, [], ◌∷◌, length, map, drop, replicate}
use Rattle.merge_queue.specs.Passed.{Dir, Fate, Good}
use Rattle.merge_queue.specs.Groups.{size, Group, lba_of, dir_of}
use Rattle.stack_laws.specs.Plan.{Plan, PlannedOp}
use Rattle.stack_laws.specs.View.{View, Command, start, group_at}
use Rattle.stack_laws.specs.Steps.{Step, End, Complete, Admit, Cut, Join, Send, enabled, chosen, step}

-- one entry of a schedule
pub record ScheduleEntry : Type 0 where
  pub word : ℕ
  pub cut : ℕ

abbrev pub entry_of : List ScheduleEntry → ScheduleEntry
entry_of [] = record { word = 0; cut = 0 }
entry_of (e ∷ es) = e

-- the group that a step takes
abbrev pub taken : View → Step → Group
taken v (End i) = []
taken v (Complete j) = []
taken v (Admit i) = []
taken v (Cut i) = []
taken v (Join d i j) = []
taken v (Send d i) = group_at v d i

abbrev pub no_steps : List Step → Bool
no_steps [] = true
no_steps (s ∷ ss) = false

-- A rig gives fates to the blocks of a group that is sent as the command of this number.
abbrev pub Rig : Type 0
Rig = ℕ → Group → List Fate

abbrev pub all_good : Rig
all_good n g = replicate (size g) Good

abbrev pub by_word : Plan → Rig → ScheduleEntry → View → View
by_word p rig e v = let s = chosen p v e.word in step p v s e.cut (rig (length v.commands) (taken v s))

-- at most n steps, by the entries and then by (0, 0)
abbrev pub run : Plan → Rig → ℕ → List ScheduleEntry → View → View
run p rig zero es v = v
run p rig (suc n) es v = let more = run p rig n (drop 1 es) (by_word p rig (entry_of es) v) in if no_steps (enabled p v) then v else more

abbrev pub blocks_of_requests : List PlannedOp → ℕ
blocks_of_requests [] = 0
blocks_of_requests (r ∷ rs) = r.count + blocks_of_requests rs

abbrev pub most_steps : Plan → ℕ
most_steps p = 2 * length p.requests + 5 * blocks_of_requests p.requests

-- device, direction, first address and number of blocks of a command
pub record SentCommand : Type 0 where
  pub dev : ℕ
  pub dir : Dir
  pub lba : ℕ
  pub count : ℕ

abbrev pub sent : Command → SentCommand
sent c = record { dev = c.dev; dir = dir_of c.bios; lba = lba_of c.bios; count = size c.bios }

abbrev pub end_of : Plan → Rig → List ScheduleEntry → View
end_of p rig es = run p rig (most_steps p) es (start p)

abbrev pub sends_with : Plan → Rig → List ScheduleEntry → List SentCommand
sends_with p rig es = map sent (end_of p rig es).commands

-- the groups that are sent where every block is good
abbrev pub sends_of : Plan → List ScheduleEntry → List SentCommand
sends_of p es = sends_with p all_good es
