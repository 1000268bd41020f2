use Rattle.std.specs.Prelude.{ℕ, suc, List, [], ◌∷◌, ◌++◌, Option, Some, None}
use Rattle.page_pool.specs.Cells.{gather}
use Rattle.stack_ops.specs.Passed.{Why, Adapter, App, Block as ByOwner, Medium, Refused, Short, Target}
use Rattle.stack_ops.specs.declared.op.Op.{Op}
use Rattle.block_path.specs.Passed.{data_of, tuple_of}
use Rattle.block_path.specs.Acts.{State, act, tell}
use Rattle.walk_laws.specs.ScriptWalk.{act_of}
use Rattle.walk_laws.specs.Settings.{Block, Setting}
use Rattle.walk_laws.specs.Steps.{Alters, Reads, Seals, Sets, Shows, Step, Writes, WritesPi, steps_of}

-- What is past in a walk: which blocks of writes were accepted, and which stored blocks were overwritten.

-- data and application tag of a block
pub record Brought : Type 0 where
  pub body : List ℕ
  pub app : ℕ

abbrev pub brought_by : (size : ℕ) → List ℕ → Brought
brought_by size frame = record { body = data_of size frame; app = (tuple_of size frame).app }

-- A block of a write was accepted, with what it brought; or it was lost, at a fault of the medium; or the stored block of a cell was overwritten.
pub data Event : Type 0 where
  Accepted : Block → Brought → Event
  Lost : Block → Event
  Overwritten : (cell : ℕ) → Event

-- what comes of a block of a write, by what its reply lists it for
abbrev pub event_of : Option Why → Block → Brought → List Event
event_of None b e = Accepted b e ∷ []
event_of (Some Medium) b e = Lost b ∷ []
event_of (Some (Adapter check)) b e = []
event_of (Some (Target check)) b e = []
event_of (Some (ByOwner check)) b e = []
event_of (Some (App check)) b e = []
event_of (Some (Refused key asc ascq)) b e = []
event_of (Some Short) b e = []

abbrev pub events_of : Setting → Step → State → List Event
events_of m (Sets at values) s = []
events_of m (Shows at) s = []
events_of m (Seals body tuple app rtag) s = []
events_of m (Writes b app body) s = event_of (tell (act_of m (Writes b app body)) s).why b (record { body = gather 0 body s.bytes; app = app })
events_of m (WritesPi b frame) s = event_of (tell (act_of m (WritesPi b frame)) s).why b (brought_by m.size (gather 0 frame s.bytes))
events_of m (Reads b owner to) s = []
events_of m (Alters dev lba change) s = Overwritten (m.site.cell dev lba) ∷ []

-- the steps of the ops from op i on
abbrev pub steps_from : Setting → (i : ℕ) → List Op → List Step
steps_from m i [] = []
steps_from m i (op ∷ ops) = steps_of m i op ++ steps_from m (suc i) ops

-- what is past after these steps, the newest first
abbrev pub past_after : Setting → List Step → State → List Event → List Event
past_after m [] s past = past
past_after m (step ∷ steps) s past = past_after m steps (act (act_of m step) s) (events_of m step s ++ past)
