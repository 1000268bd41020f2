use Rattle.std.specs.Prelude.{ℕ, ◌≡◌, ◌*◌, min, List, [], ◌∷◌, ◌++◌, length, replicate, Some, None, Result, Ok, Err}
use Rattle.std.specs.List.{All}
use Rattle.dix_base.specs.Told.{Calm}
use Rattle.rig_api.specs.Passed.{joined, sent_size, stored_size, request_of, Answer, Stored, decoded, Cdb, CdbFault, Label}
use Rattle.rig_api.specs.declared.request.Request.{Request}
use Rattle.rig_api.specs.declared.request.Request.TheVariants.{Read, ReadCapacity, Verify, Write}
use Rattle.rig_api.specs.Log.{LogEntry, moved_of}
use Rattle.rig_api.specs.State.{Exchanged, RigState}
use Rattle.rig_api.specs.Telling.{Standing, answer_of, at_front, spec_at, unit_at, with_blocks}
use Rattle.rig_api.specs.declared.rig.Outcome.{Outcome}

-- Records that are what their units answer.

abbrev pub room_by : (size : ℕ) → Request → ℕ
room_by size (Read c) = c.n * sent_size c.protect size
room_by size (Write c) = 0
room_by size (Verify c) = 0
room_by size (ReadCapacity len) = min len 32

abbrev pub room_under : (size : ℕ) → Result Cdb CdbFault → ℕ
room_under size (Ok cdb) = room_by size (request_of cdb)
room_under size (Err fault) = 0

-- the bytes that a command reads from a unit of this block size, for which it gets room
abbrev pub room_of : (size : ℕ) → List ℕ → ℕ
room_of size cdb = room_under size (decoded cdb)

abbrev pub FramesBy : (size : ℕ) → Request → List ℕ → Type 0
FramesBy size (Read c) out = out ≡ []
FramesBy size (Write c) out = length out ≡ c.n * sent_size c.protect size
FramesBy size (Verify c) out = out ≡ []
FramesBy size (ReadCapacity len) out = out ≡ []

abbrev pub FramesUnder : (size : ℕ) → Result Cdb CdbFault → List ℕ → Type 0
FramesUnder size (Ok cdb) out = FramesBy size (request_of cdb) out
FramesUnder size (Err fault) out = out ≡ []

-- Of a write these bytes have the length of all its frames; with any other command none are sent.
abbrev pub AreFrames : (size : ℕ) → List ℕ → List ℕ → Type 0
AreFrames size cdb out = FramesUnder size (decoded cdb) out

-- the bytes that the command of a record reads
abbrev pub room_for : Standing → LogEntry → ℕ
room_for s e = room_of (spec_at s e.what.dev).size e.what.cdb

-- what the record's unit answers to its command, without faults, where these bytes are sent with it
abbrev pub answer_with : Standing → List Stored → List Label → (out : List ℕ) → LogEntry → Answer
answer_with s us labels out e = answer_of us [] e.what.dev e.what.cdb labels out (room_for s e) None

-- The record is of this answer, whatever bytes were sent.
pub record IsAnswerTo (s : Standing) (us : List Stored) (e : LogEntry) : Type 0 where
  pub labels : List Label
  pub out : List ℕ
  pub frames : AreFrames (spec_at s e.what.dev).size e.what.cdb out
  pub outcome : e.what.outcome ≡ record { done = (answer_with s us labels out e).done; sense = (answer_with s us labels out e).sense }
  pub moved : e.moved ≡ moved_of (spec_at s e.what.dev).size e.what.cdb e.what.outcome out (at_front (joined (answer_with s us labels out e).sent) (replicate (room_for s e) 0))

-- So is each of these, one after another, and these units are left.
abbrev pub AreAnswersTo : Standing → List Stored → List LogEntry → (left : List Stored) → Type 0
AreAnswersTo s us [] left = left ≡ us
AreAnswersTo s us (e ∷ es) left = (a : IsAnswerTo s us e) × AreAnswersTo s (with_blocks us e.what.dev (answer_with s us a.labels a.out e).blocks) es left

-- The records that came are so, and the rig tells the units that they leave.
pub record Answers (us : List Stored) (old new : RigState) : Type 0 where
  pub records : List LogEntry
  pub log : new.log ≡ old.log ++ records
  pub left : List Stored
  pub answered : AreAnswersTo old.standing us records left
  pub units : new.units ≡ Some left

-- So it is where a rig tells its units, no fault is armed and no store call failed; and devices and armed faults stay.
abbrev pub PutsAnswers : (old new : RigState) → Type 0
PutsAnswers old new = (us : List Stored) → old.units ≡ Some us → old.armed ≡ [] → Calm old.faults new.faults → Answers us old new × (new.standing ≡ old.standing) × (new.armed ≡ old.armed)

-- What a rig that tells its blocks puts on record of one exchange is so, without faults and where no store call failed: with room for just what the command reads, where blocks have their sizes and the bytes sent the length of all frames.
abbrev pub ExchangePuts : Type 0
ExchangePuts = (old new : RigState) (dev : ℕ) (cdb : List ℕ) (labels : List Label) (out before came : List ℕ) (o : Outcome) (us : List Stored) → Exchanged old new dev cdb labels out before came o → old.units ≡ Some us → old.armed ≡ [] → Calm old.faults new.faults →
    All (λ block. length {A = ℕ} block ≡ stored_size (unit_at us dev).ty (unit_at us dev).size) (unit_at us dev).blocks → (spec_at old.standing dev).size ≡ (unit_at us dev).size → length before ≡ room_of (spec_at old.standing dev).size cdb →
    AreFrames (spec_at old.standing dev).size cdb out → Answers us old new
