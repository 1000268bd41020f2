use Rattle.std.specs.Prelude.{ℕ, ◌≡◌, List, [], get_or, Option, Some, None, Result, Err}
use Rattle.walk_laws.specs.Passed.{Op, State, act, tell, Sent, told_by, plain_tells, Why, Short}
use Rattle.fault_schedule.specs.declared.Label.{Label}
use Rattle.walk_laws.specs.ScriptWalk.{acts_from, script_replies, script_walk}
use Rattle.walk_laws.specs.Settings.{Setting}
use Rattle.run_laws.specs.Records.{Mixed, find, sents, writes_at}

-- A run over any rig, by what stands on record of it.

abbrev pub came_in : Option Sent → Result (List ℕ) Why
came_in None = Err Short
came_in (Some e) = e.came

-- what came of a block, as it stands there
abbrev pub came_by : List Sent → Label → Result (List ℕ) Why
came_by es label = came_in (find label es)

-- the same run over a device that answers so
abbrev pub told : Setting → List Sent → Setting
told m es = record m { site = record m.site { device = told_by (came_by es) } }

-- These entries and ends are of that run: those of its blocks, in whatever order, and the writes of each place in its order.
pub record IsRecordOfRun (m : Setting) (ops : List Op) (opening : State) (es : List Sent) : Type 0 where
  pub all : Mixed (sents (plain_tells act tell (acts_from m 1 ops) opening)) es
  pub writes : (c : ℕ) → get_or (script_walk m ops opening).logs c [] ≡ writes_at m.site c es

-- The walk over this record is the walk itself: what it answers of each block, its replies, its pages and its carried frames. Stored blocks may differ, since over a record nobody reads them.
pub record IsSameWalk (m : Setting) (ops : List Op) (opening : State) (es : List Sent) : Type 0 where
  pub answers : plain_tells act tell (acts_from (told m es) 1 ops) opening ≡ plain_tells act tell (acts_from m 1 ops) opening
  pub replies : script_replies (told m es) ops opening ≡ script_replies m ops opening
  pub bytes : (script_walk (told m es) ops opening).bytes ≡ (script_walk m ops opening).bytes
  pub logs : (script_walk (told m es) ops opening).logs ≡ (script_walk m ops opening).logs
