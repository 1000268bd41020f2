use Rattle.std.specs.Prelude.{ℕ, ◌≡◌, ◌+◌, Bool, true, false, eqb, if◌then◌else◌, List, [], ◌∷◌, ◌++◌, length, ◌⊎◌, Option, Some, None, Err}
use Rattle.page_pool.specs.Cells.{gather, scatter}
use Rattle.walk_laws.specs.Passed.{Op, data_of, tuple_of, Act, Effect, State, act, tell, ActAnswer, Device, plain, volume_len, Why, Adapter, App, Block as ByOwner, TheVariantsMedium as Medium, Refused, Short, Target}
use Rattle.walk_laws.specs.CalmRun.{AllFit, IsCalm, LiesInImage}
use Rattle.walk_laws.specs.FirstLayer.{last_accepted}
use Rattle.walk_laws.specs.Past.{Accepted, Brought, Event, Lost, Overwritten, brought_by, event_of}
use Rattle.walk_laws.specs.PlainMap.{all_pass, finds_of_app, finds_plainly}
use Rattle.walk_laws.specs.ScriptWalk.{act_of}
use Rattle.walk_laws.specs.Settings.{Block, Setting}
use Rattle.walk_laws.specs.Steps.{Alters, Reads, Seals, Sets, Shows, Step, Writes, WritesPi}
use Rattle.walk_laws.specs.UnderMap.{AreClean}
use Rattle.pi_tuple.specs.declared.TheConstants.{TUPLE}

-- A walk in which store calls fail. Which blocks' calls fail, and what a write then leaves in its cell, is given from outside.

-- a device whose store calls fail
abbrev pub failing : Device
failing = record { stores = λ r frame. Err Medium; sends = λ r stored. Err Medium; leaves = λ r old frame. frame }

abbrev pub over_failing : Setting → Setting
over_failing m = record m { site = record m.site { device = failing } }

-- A write that came as far as the medium leaves these bytes in its cell.
abbrev pub left_by : Option Why → List ℕ → Effect ActAnswer → Effect ActAnswer
left_by None left e = e
left_by (Some Medium) left e = record { written = record e.written { blocks = left ∷ [] }; answer = e.answer }
left_by (Some (Adapter check)) left e = e
left_by (Some (Target check)) left e = e
left_by (Some (ByOwner check)) left e = e
left_by (Some (App check)) left e = e
left_by (Some (Refused key asc ascq)) left e = e
left_by (Some Short) left e = e

abbrev pub leaving : List ℕ → Effect ActAnswer → Effect ActAnswer
leaving left e = left_by e.answer.why left e

-- what a step does whose store call fails
abbrev pub fallen : Setting → List ℕ → Step → Act ActAnswer
fallen m left step = record (act_of (over_failing m) step) { compute = λ seen. leaving left ((act_of (over_failing m) step).compute seen) }

abbrev pub or_fallen : Setting → Step → Option (List ℕ) → Act ActAnswer
or_fallen m step None = act_of m step
or_fallen m step (Some left) = fallen m left step

-- what a step does, where `falls` says of each block whether its store call fails, and what that leaves
abbrev pub may_fall : Setting → (falls : Block → Option (List ℕ)) → Step → Act ActAnswer
may_fall m falls (Sets at values) = act_of m (Sets at values)
may_fall m falls (Shows at) = act_of m (Shows at)
may_fall m falls (Seals body tuple app rtag) = act_of m (Seals body tuple app rtag)
may_fall m falls (Writes b app body) = or_fallen m (Writes b app body) (falls b)
may_fall m falls (WritesPi b frame) = or_fallen m (WritesPi b frame) (falls b)
may_fall m falls (Reads b owner to) = or_fallen m (Reads b owner to) (falls b)
may_fall m falls (Alters dev lba change) = act_of m (Alters dev lba change)

-- what is past after a step of which this was found
abbrev pub events_when : Setting → Option Why → Step → State → List Event
events_when m why (Sets at values) s = []
events_when m why (Shows at) s = []
events_when m why (Seals body tuple app rtag) s = []
events_when m why (Writes b app body) s = event_of why b (record { body = gather 0 body s.bytes; app = app })
events_when m why (WritesPi b frame) s = event_of why b (brought_by m.size (gather 0 frame s.bytes))
events_when m why (Reads b owner to) s = []
events_when m why (Alters dev lba change) s = Overwritten (m.site.cell dev lba) ∷ []

-- the cells after these steps, and what is past then
abbrev pub falling_walk : Setting → (falls : Block → Option (List ℕ)) → List Step → State → State
falling_walk m falls steps s = plain (λ step s. act (may_fall m falls step) s) steps s

abbrev pub falling_past : Setting → (falls : Block → Option (List ℕ)) → List Step → State → List Event → List Event
falling_past m falls [] s past = past
falling_past m falls (step ∷ steps) s past = falling_past m falls steps (act (may_fall m falls step) s) (events_when m (tell (may_fall m falls step) s).why step s ++ past)

-- Since the last accepted write of this virtual block another one of it was listed for a fault of the medium.
abbrev pub is_lost : Block → List Event → Bool
is_lost b [] = false
is_lost b (Accepted a e ∷ past) = if eqb a.virt b.virt then false else is_lost b past
is_lost b (Lost a ∷ past) = if eqb a.virt b.virt then true else is_lost b past
is_lost b (Overwritten cell ∷ past) = is_lost b past

-- A frame of these data, as long as the host has it, lands and isn't listed; where tuples pass all the way it has this application tag.
pub record LandsAs (m : Setting) (a : Act ActAnswer) (to : List ℕ) (e : Brought) (s : State) : Type 0 where
  pub not_listed : (tell a s).why ≡ None
  pub frame : List ℕ
  pub size : length frame ≡ (if m.mode.dix then m.size + TUPLE else m.size)
  pub body : data_of m.size frame ≡ e.body
  pub app : all_pass m ≡ true → (tuple_of m.size frame).app ≡ e.app
  pub lands : (act a s).bytes ≡ scatter to frame s.bytes

-- What comes of a block, if its store call doesn't fail: of a read it lands as the last accepted write, unless it is lost; of a write it isn't listed where the plain map accepts it.
abbrev pub IsServed : Setting → (opening : State) → List Event → (falls : Block → Option (List ℕ)) → Step → State → Type 0
IsServed m opening past falls (Sets at values) s = Unit {0}
IsServed m opening past falls (Shows at) s = Unit {0}
IsServed m opening past falls (Seals body tuple app rtag) s = Unit {0}
IsServed m opening past falls (Writes b app body) s = let why = (tell (may_fall m falls (Writes b app body)) s).why in finds_plainly m app ≡ None → (why ≡ Some Medium) ⊎ (why ≡ None)
IsServed m opening past falls (WritesPi b frame) s =
    let why = (tell (may_fall m falls (WritesPi b frame)) s).why in
    let seen = gather 0 frame s.bytes in finds_of_app m b (data_of m.size seen) (tuple_of m.size seen) ≡ None → (why ≡ Some Medium) ⊎ (why ≡ None)
IsServed m opening past falls (Reads b owner to) s =
    let a = may_fall m falls (Reads b owner to) in is_lost b past ≡ false → ((tell a s).why ≡ Some Medium) ⊎ LandsAs m a to (last_accepted m opening b past) s
IsServed m opening past falls (Alters dev lba change) s = Unit {0}

-- A run without scheduled faults over a clean image. Escapes may be supplied.
pub record IsFallingRun (m : Setting) (ops : List Op) (opening : State) : Type 0 where
  pub calm : IsCalm m
  pub lies : LiesInImage m (volume_len m.entries) opening.blocks
  pub clean : AreClean m opening.blocks
  pub fit : AllFit m ops
