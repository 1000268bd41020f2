use Rattle.std.specs.Prelude.{ℕ, ◌≡◌, ◌≤◌, List, [], ◌∷◌, ◌++◌, length, replicate, Some, None, is_some}
use Rattle.dix_base.specs.Told.{Calm}
use Rattle.rig_api.specs.Frames.{joined}
use Rattle.rig_api.specs.Target.{Answer, Stored}
use Rattle.rig_api.specs.Log.{LogEntry, entry_of}
use Rattle.rig_api.specs.Telling.{Standing, answer_of, at_front, spec_at, with_blocks}
use Rattle.rig_api.specs.declared.rig.Outcome.{Outcome}
use Rattle.rig_api.specs.State.{RigState}
use Rattle.vector_lines.specs.declared.line.VectorLine.{VectorLine}
pub use Rattle.record_laws.specs.Answered.{room_by, room_of, room_under}

-- The commands of a list, each done on its device as it stands, without labels.

-- the block size of a line's device
abbrev pub size_of : Standing → VectorLine → ℕ
size_of s l = (spec_at s l.dev).size

-- The record is that of the line's command on the line's device, with this outcome and these bytes in the room for what it reads.
pub record IsLineRecord (s : Standing) (l : VectorLine) (e : LogEntry) : Type 0 where
  pub outcome : Outcome
  pub into : List ℕ
  pub room : length into ≡ room_of (size_of s l) l.cdb
  pub entry : e ≡ entry_of (size_of s l) l.dev l.cdb [] outcome l.out into

-- Each line has one record, in their order.
abbrev pub AreRecords : Standing → List VectorLine → List LogEntry → Type 0
AreRecords s [] [] = Unit {0}
AreRecords s [] (e ∷ es) = ⊥
AreRecords s (l ∷ ls) [] = ⊥
AreRecords s (l ∷ ls) (e ∷ es) = IsLineRecord s l e × AreRecords s ls es

-- ---- what they come to over units that are told, where no store call fails

-- what the unit answers to the command of a line
abbrev pub answer_to : Standing → List Stored → VectorLine → Answer
answer_to s us l = answer_of us [] l.dev l.cdb [] l.out (room_of (size_of s l) l.cdb) None

abbrev pub entry_by : Standing → VectorLine → Answer → LogEntry
entry_by s l a = entry_of (size_of s l) l.dev l.cdb [] (record { done = a.done; sense = a.sense }) l.out (at_front (joined a.sent) (replicate (room_of (size_of s l) l.cdb) 0))

-- its record, and the units after it
abbrev pub entry_to : Standing → List Stored → VectorLine → LogEntry
entry_to s us l = entry_by s l (answer_to s us l)

abbrev pub units_to : Standing → List Stored → VectorLine → List Stored
units_to s us l = with_blocks us l.dev (answer_to s us l).blocks

-- the records of all lines, one after another, and the units after the last
abbrev pub answers_over : Standing → List Stored → List VectorLine → List LogEntry
answers_over s us [] = []
answers_over s us (l ∷ ls) = entry_to s us l ∷ answers_over s (units_to s us l) ls

abbrev pub units_over : Standing → List Stored → List VectorLine → List Stored
units_over s us [] = us
units_over s us (l ∷ ls) = units_over s (units_to s us l) ls

-- ---- over a rig

-- The commands of these lines were done, and nothing else. Over any rig each has one record, in order; where the blocks are told and the count of faults didn't rise, records and blocks are the units' answers, one after another.
pub record HaveDone (lines : List VectorLine) (old new : RigState) : Type 0 where
  pub entries : List LogEntry
  pub log : new.log ≡ old.log ++ entries
  pub records : AreRecords old.standing lines entries
  pub told : (us : List Stored) → old.units ≡ Some us → Calm old.faults new.faults
      → (entries ≡ answers_over old.standing us lines) × (new.units ≡ Some (units_over old.standing us lines))
  pub tells : is_some new.image ≡ is_some old.image
  pub armed : new.armed ≡ old.armed
  pub standing : new.standing ≡ old.standing
  pub count : old.faults ≤ new.faults

-- The commands of some lines, from the first on, were done, and nothing else.
pub record HaveDoneSome (lines : List VectorLine) (old new : RigState) : Type 0 where
  pub first : List VectorLine
  pub left : List VectorLine
  pub lines_are : lines ≡ first ++ left
  pub done : HaveDone first old new

-- The command of a line was done, or, where there was no memory, not.
pub record LineWasDone (l : VectorLine) (old new : RigState) : Type 0 where
  pub entry : LogEntry
  pub log : new.log ≡ old.log ++ (entry ∷ [])
  pub is : IsLineRecord old.standing l entry
  pub told : (us : List Stored) → old.units ≡ Some us → Calm old.faults new.faults
      → (entry ≡ entry_to old.standing us l) × (new.units ≡ Some (units_to old.standing us l))
  pub tells : is_some new.image ≡ is_some old.image
  pub armed : new.armed ≡ old.armed
  pub standing : new.standing ≡ old.standing
  pub count : old.faults ≤ new.faults

pub record VectorsStay (old new : RigState) : Type 0 where
  pub log : new.log ≡ old.log
  pub units : new.units ≡ old.units
  pub image : new.image ≡ old.image
  pub armed : new.armed ≡ old.armed
  pub standing : new.standing ≡ old.standing
  pub count : old.faults ≤ new.faults
