-- What a script's run sends, by its requests, its volume and its schedule.
use Rattle.std.specs.Prelude.{◌≡◌, ◌≤◌, ℕ, List, [], ◌∷◌, ◌++◌, length}
use Rattle.std.specs.List.{All, AllByRecursion as Each}
use Rattle.rig_api.specs.Log.{LogEntry as Record}
use Rattle.script_text.specs.Passed.{Reply}
use Rattle.stack_laws.specs.Comes.{Comes}
use Rattle.stack_laws.specs.Measure.{greatest_pieces}
use Rattle.stack_laws.specs.Plan.{Plan}
use Rattle.stack_laws.specs.Runs.{ScheduleEntry, blocks_of_requests, sends_of}
use Rattle.stack_laws.specs.Steps.{enabled}
use Rattle.stack_laws.specs.View.{View}
use Rattle.volume_table.specs.Tables.{Table}
use Rattle.script_text.specs.declared.script.Script.{Script}
use Rattle.dix_adapter.specs.Groups.{mode_of}
use Rattle.stack_core.specs.OnRecord.{AreOnRecord, AreRecords, HasQueues, HasSent, IsFormed, IsOfRequests, ListsNone}
use Rattle.stack_core.specs.Passed.{requests_from, plan_of, shifted_by}
use Rattle.stack_core.specs.Stacks.{plan_in}
use Rattle.stack_core.specs.declared.stack.Stack.{Stack}

-- the entries of a schedule, each a word and a cut
abbrev pub entries_of : List (ℕ × ℕ) → List ScheduleEntry
entries_of [] = []
entries_of (w ∷ ws) = record { word = w.0; cut = w.1 } ∷ entries_of ws

-- the script with these words and cuts as its schedule
abbrev pub by_words : Script → List (ℕ × ℕ) → Script
by_words s words = record s { schedule = words }

-- the plan of a script's requests over its volume, with so many queues
abbrev pub plan_for : Script → Table → (queues : ℕ) → Plan
plan_for s t queues = plan_of s.ops (shifted_by s.faults (length s.ops)) (requests_from s.mode.dix s.pages s.ops) t s.limits queues

-- This is that plan, with a queue for each device up to the last one on which a block of a request lies.
pub record IsPlanFor (s : Script) (t : Table) (p : Plan) : Type 0 where
  pub is : p ≡ plan_for s t p.devices
  pub queues : HasQueues p

-- The schedule has chosen the steps of the plan, one after another up to the last, where each command that was sent gave fates to its blocks; those that it left untouched were put back, to be sent again.
-- The records are, in order and one for one, those of these commands, but for some that the adapter held back, of each of which a block is bad.
pub record HasCome (p : Plan) (es : List ScheduleEntry) (log : List Record) : Type 0 where
  pub view : View
  pub comes : Comes p es view.steps view
  pub ended : enabled p view ≡ []
  pub on_record : AreOnRecord view.commands log

-- The records of a run are at most as many as its requests have blocks.
-- Whichever blocks are listed, they are those of the commands to which plan and schedule come, by what the answers left to send again.
-- Each is of a READ or WRITE in the form that the script's mode and the volume's type call for, and, whichever blocks are listed, of blocks of its requests, where these lie and with their labels.
-- Where the replies list no block they are, in order and one for one, those of the groups that are sent where all blocks are good;
-- so where besides no entry of the schedule cuts, they are at most as many as the greatest pieces of the requests.
pub record SendsFor (s : Script) (t : Table) (log : List Record) (replies : List Reply) : Type 0 where
  pub plan : Plan
  pub is_plan : IsPlanFor s t plan
  pub few : length log ≤ blocks_of_requests plan.requests
  pub formed : Each (IsFormed s.mode t.ty) log
  pub of_requests : Each (IsOfRequests plan) log
  pub came : HasCome plan (entries_of s.schedule) log
  pub sent : ListsNone replies → AreRecords (sends_of plan (entries_of s.schedule)) log
  pub pieces : ListsNone replies → All (λ e. e.cut ≡ 0) (entries_of s.schedule) → length log ≤ greatest_pieces plan 0 plan.requests

-- ---- some steps

-- The stack goes on by a schedule, and these records are made, each of a group of its plan, in the form that the adapter calls for.
pub record SendsBy (es : List ScheduleEntry) (old new : Stack) (log log' : List Record) : Type 0 where
  pub more : List Record
  pub records : log' ≡ log ++ more
  pub formed : Each (IsFormed (mode_of old.adapter) old.adapter.ty) more
  pub of_requests : Each (IsOfRequests (plan_in old.sheet)) more
  pub on : (before : List Record) → HasSent es old before → HasSent es new (before ++ more)
