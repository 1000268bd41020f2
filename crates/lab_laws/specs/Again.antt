use Rattle.std.specs.Prelude.{ℕ, ◌≡◌, ◌+◌, ◌<◌, ◌≤◌, ◌^◌, IfSome, Ok, false, List, [], ◌∷◌, ◌++◌, length, map, drop, replicate, Some, None}
use Rattle.std.specs.List.{All, AllByRecursion as Each}
use Rattle.hex.specs.Hex.{IsBytes}
use Rattle.dix_base.specs.Told.{Calm}
use Rattle.page_pool.specs.Cells.{flat}
use Rattle.fault_schedule.specs.declared.Label.{Label}
use Rattle.bio_core.specs.declared.bio.Bio.{Bio}
use Rattle.bio_core.specs.declared.fate.Fate.{Fate}
use Rattle.bio_core.specs.declared.request.Dir.TheVariants.{Read, Write}
use Rattle.bio_core.specs.declared.request.Io.{Io}
use Rattle.sense_codes.specs.Written.{written}
use Rattle.rig_api.specs.Frames.{joined, stored_size}
use Rattle.rig_api.specs.Image.{units_in}
use Rattle.rig_api.specs.Target.{Answer, Stored}
use Rattle.rig_api.specs.Log.{LogEntry, entry_of, moved_of}
use Rattle.rig_api.specs.State.{Exchanged, RigState}
use Rattle.rig_api.specs.Telling.{Standing, answer_of, at_front, spec_at, specs_of, unit_at, with_blocks}
use Rattle.rig_api.specs.declared.rig.Outcome.{Outcome}
use Rattle.dix_adapter.specs.declared.adapter.Adapter.{Adapter}
use Rattle.dix_adapter.specs.Carried.{Fetched, WasSent, any_bad, sends}
use Rattle.dix_adapter.specs.Groups.{IsCarriedGroup, IsProtect, blocks_in, first_of}
use Rattle.dix_adapter.specs.Ways.{WentOut}
use Rattle.vector_lines.specs.Printed.{out_of}
use Rattle.vector_lines.specs.Texts.{list_in}
use Rattle.vector_lines.specs.declared.line.VectorLine.{VectorLine}
use Rattle.image_laws.specs.Passed.{Facts, Finished}
use Rattle.vector_runs.specs.Answered.{HasAnswered}
use Rattle.vector_runs.specs.Done.{answers_over, room_of, units_over}
use Rattle.vector_runs.specs.ListText.{list_text}
use Rattle.vector_runs.specs.Played.{HasListed, HasPlayed}
use Rattle.vector_runs.specs.RecordText.{vectors_text}
use Rattle.vector_runs.specs.declared.playing.Played.TheVariants as played
use Rattle.dix_base.specs.declared.reading.TheConstants.{MOST_BYTES}

-- Vectors that are done again as a list.

-- the bytes that the command of a record reads
abbrev pub room_for : Standing → LogEntry → ℕ
room_for s e = room_of (spec_at s e.what.dev).size e.what.cdb

-- what the record's unit answers to its command, without faults, where its moved bytes are sent, if it is a write's
abbrev pub answer_for : Standing → List Stored → List Label → LogEntry → Answer
answer_for s us labels e = answer_of us [] e.what.dev e.what.cdb labels (out_of e.what.cdb e.moved) (room_for s e) None

-- The record is of this answer.
pub record IsDoneAgain (s : Standing) (us : List Stored) (e : LogEntry) : Type 0 where
  pub labels : List Label
  pub outcome : e.what.outcome ≡ record { done = (answer_for s us labels e).done; sense = (answer_for s us labels e).sense }
  pub moved : e.moved ≡ moved_of (spec_at s e.what.dev).size e.what.cdb e.what.outcome (out_of e.what.cdb e.moved) (at_front (joined (answer_for s us labels e).sent) (replicate (room_for s e) 0))

-- So is each of these, one after another, and these units are left.
abbrev pub AreAnswered : Standing → List Stored → List LogEntry → (left : List Stored) → Type 0
AreAnswered s us [] left = left ≡ us
AreAnswered s us (e ∷ es) left = (a : IsDoneAgain s us e) × AreAnswered s (with_blocks us e.what.dev (answer_for s us a.labels e).blocks) es left

-- What a rig that tells its blocks puts on record of one exchange, without faults and where no store call failed, is so: with room for just what the command reads, and where all that was sent was moved.
-- Whatever stood in the buffer, and where blocks have their sizes.
abbrev pub ExchangeAnswers : Type 0
ExchangeAnswers = (old new : RigState) (dev : ℕ) (cdb : List ℕ) (labels : List Label) (out before came : List ℕ) (o : Outcome) (us : List Stored) → Exchanged old new dev cdb labels out before came o → old.units ≡ Some us → old.armed ≡ [] → Calm old.faults new.faults →
    All (λ block. length {A = ℕ} block ≡ stored_size (unit_at us dev).ty (unit_at us dev).size) (unit_at us dev).blocks → (spec_at old.standing dev).size ≡ (unit_at us dev).size → length before ≡ room_of (spec_at old.standing dev).size cdb →
    let e = entry_of (spec_at old.standing dev).size dev cdb labels o out came in out_of cdb e.moved ≡ out →
    (new.log ≡ old.log ++ (e ∷ [])) × ((a : IsDoneAgain old.standing us e) × (new.units ≡ Some (with_blocks us dev (answer_for old.standing us a.labels e).blocks)))

-- A group of a stack over such a rig, before and after its command: no fault is armed, an application tag is expected only where the host has tuples, no store call failed, and the unit behind it has the group's size of block.
pub record IsToldGroup (a : Adapter) (ios : List Io) (req : List Bio) (pool : List (List ℕ)) (us : List Stored) (old new : RigState) : Type 0 where
  pub protect : IsProtect a.protect
  pub faults : a.tamper ≡ []
  pub mask : a.dix ≡ false → a.mask ≡ 0
  pub group : IsCarriedGroup a pool (spec_at old.standing (first_of req).dev).size ios req
  pub units : old.units ≡ Some us
  pub armed : old.armed ≡ []
  pub calm : Calm old.faults new.faults
  pub size : (spec_at old.standing (first_of req).dev).size ≡ (unit_at us (first_of req).dev).size
  pub stored : All (λ block. length {A = ℕ} block ≡ stored_size (unit_at us (first_of req).dev).ty (unit_at us (first_of req).dev).size) (unit_at us (first_of req).dev).blocks

-- One record came to the log, of an answer, and the units are as it leaves them.
abbrev pub PutsAnswer : List Stored → (old new : RigState) → Type 0
PutsAnswer us old new = (e : LogEntry) × ((new.log ≡ old.log ++ (e ∷ [])) × ((a : IsDoneAgain old.standing us e) × (new.units ≡ Some (with_blocks us e.what.dev (answer_for old.standing us a.labels e).blocks))))

-- So it is of each write that the adapter passes and sends,
abbrev pub WriteAnswers : Type 0
WriteAnswers = (a : Adapter) (ios : List Io) (req : List Bio) (pool pool' : List (List ℕ)) (us : List Stored) (fates : List Fate) (old new : RigState) → IsToldGroup a ios req pool us old new → (first_of req).dir ≡ Write →
    any_bad (map (sends a ios (flat pool)) (blocks_in req)) ≡ false → WasSent a ios req pool pool' fates old new → WentOut a ios req (flat pool) us None fates old new → PutsAnswer us old new

-- and of each read.
abbrev pub ReadAnswers : Type 0
ReadAnswers = (a : Adapter) (ios : List Io) (req : List Bio) (pool pool' : List (List ℕ)) (us : List Stored) (fates : List Fate) (old new : RigState) → IsToldGroup a ios req pool us old new → (first_of req).dir ≡ Read →
    Fetched a ios req pool pool' fates old new → PutsAnswer us old new

-- the lines of a list that their vectors are, from this number on
abbrev pub lines_of : (number : ℕ) → List LogEntry → List VectorLine
lines_of n [] = []
lines_of n (e ∷ es) = record { number = n; dev = e.what.dev; cdb = e.what.cdb; out = out_of e.what.cdb e.moved } ∷ lines_of (n + 1) es

-- What the form of a line holds: a device of 32 bits, a command block of 1 to 32 bytes, a count of blocks of 64 bits, at most 2,097,152 moved bytes, and bytes in all of them.
pub record IsWritten (e : LogEntry) : Type 0 where
  pub dev : e.what.dev < 2 ^ 32
  pub cdb : IsBytes e.what.cdb
  pub some : 1 ≤ length e.what.cdb
  pub few : length e.what.cdb ≤ 32
  pub done : e.what.outcome.done < 2 ^ 64
  pub sense : IfSome e.what.outcome.sense (λ s. IsBytes (written s))
  pub moved : IsBytes e.moved
  pub most : length e.moved ≤ 2097152

-- The text of their vectors is a list of these lines, where it isn't too long.
abbrev pub TextReads : Type 0
TextReads = (es : List LogEntry) → Each IsWritten es → length (vectors_text es) ≤ MOST_BYTES → list_in (vectors_text es) ≡ Ok (lines_of 2 es)

-- Their vectors, done as a list over the same units, are the same text and leave the same units.
abbrev pub SameAgain : Type 0
SameAgain = (s : Standing) (us left : List Stored) (es : List LogEntry) → AreAnswered s us es left →
    let lines = lines_of 2 es in (list_text lines (answers_over s us lines) ≡ vectors_text es) × (units_over s us lines ≡ left)

-- So it is of the records of a script that was run, whose vectors are written, over an image that is told and where no store call failed:
-- their vectors, done as a list over the units of that image, are the same text, and leave the units that the run left.
abbrev pub RunAgain : Type 0
RunAgain = (run : Finished) (f : Facts) (image : List ℕ) → f.rig.image ≡ Some image → Calm f.rig.faults f.rig_after.faults → HasPlayed (played.Ran run) f →
    let s = f.rig_after.standing in let us = units_in (specs_of s) image in let records = drop run.first f.rig_after.log in let lines = lines_of 2 records in
    (list_text lines (answers_over s us lines) ≡ vectors_text records) × (f.rig_after.units ≡ Some (units_over s us lines))

-- And where that list was done over a rig whose image is the same, and no store call failed either, its text is the same and the rig tells the same units.
abbrev pub ListAgain : Type 0
ListAgain = (run : Finished) (f : Facts) (image : List ℕ) → f.rig.image ≡ Some image → Calm f.rig.faults f.rig_after.faults → HasPlayed (played.Ran run) f →
    let records = drop run.first f.rig_after.log in let lines = lines_of 2 records in
    (name : List ℕ) (old new : RigState) → old.image ≡ Some image → Calm old.faults new.faults → (a : HasAnswered name lines old new) →
    (list_text lines a.done.entries ≡ vectors_text records) × (new.units ≡ f.rig_after.units)

-- So it is of two calls of which the second takes the text that the first wrote, and does it over a rig whose image is as the first one's was: it writes the same text, and the rig tells the same units.
-- The records have the widths of a list's lines.
abbrev pub TextAgain : Type 0
TextAgain = (run : Finished) (f : Facts) (image : List ℕ) → f.rig.image ≡ Some image → Calm f.rig.faults f.rig_after.faults → HasPlayed (played.Ran run) f →
    let records = drop run.first f.rig_after.log in Each IsWritten records →
    (lines : List VectorLine) (first : ℕ) (g : Facts) → g.rig.image ≡ Some image → Calm g.rig.faults g.rig_after.faults → (k : HasListed lines first g) → k.held.text ≡ vectors_text records →
    (list_text lines (drop first g.rig_after.log) ≡ vectors_text records) × (g.rig_after.units ≡ f.rig_after.units)
