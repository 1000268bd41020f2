use Rattle.std.specs.Prelude.{ℕ, ◌≡◌, ◌+◌, ◌*◌, ◌≤◌, min, List, [], ◌∷◌, length, take, slice_index_or, Bool, true, ltb, ◌&&◌, Option, Some, None, Result, Ok, Err}
use Rattle.cdb_codec.specs.Decoded.{decoded}
use Rattle.cdb_codec.specs.declared.command.Rw.{Rw}
use Rattle.cdb_codec.specs.declared.command.Cdb.{Cdb}
use Rattle.cdb_codec.specs.declared.command.CdbFault.{CdbFault}
use Rattle.rig_api.specs.Frames.{sent_size}
use Rattle.rig_api.specs.Requests.{blocks_of, request_of}
use Rattle.rig_api.specs.declared.request.Request.{Request}
use Rattle.rig_api.specs.declared.request.Request.TheVariants.{Read, Write, Verify, ReadCapacity}
use Rattle.sense_codes.specs.declared.Sense.{Sense}
use Rattle.fault_schedule.specs.declared.Label.{Label}
use Rattle.rig_api.specs.declared.rig.Record.{Record}
use Rattle.rig_api.specs.declared.rig.Outcome.{Outcome}
use Rattle.cdb_codec.specs.Passed.{TUPLE}

-- a record with its labels and its moved bytes
pub record LogEntry : Type 0 where
  pub what : Record
  pub labels : List Label
  pub moved : List ℕ

-- further records, labels and moved bytes that need no memory
pub record Room : Type 0 where
  pub records : ℕ
  pub labels : ℕ
  pub moved : ℕ

-- There is room for so many exchanges of together so many blocks of at most this size: a frame for each block and 32 bytes for each exchange, one label for each of both.
pub record HasRoom (size exchanges blocks : ℕ) (r : Room) : Type 0 where
  pub records : exchanges ≤ r.records
  pub labels : exchanges + blocks ≤ r.labels
  pub moved : (size + TUPLE) * blocks + 32 * exchanges ≤ r.moved

-- the first frames of a buffer: those of the blocks that are done
abbrev pub frames_done : (size : ℕ) → Rw → (done : ℕ) → List ℕ → List ℕ
frames_done size c done buffer = take (min done c.n * sent_size c.protect size) buffer

-- what a request moves between host and unit: frames to the unit or from it, or the data of READ CAPACITY
abbrev pub moved_by : (size : ℕ) → Request → (done : ℕ) → (out into : List ℕ) → List ℕ
moved_by size (Read c) done out into = frames_done size c done into
moved_by size (Write c) done out into = frames_done size c done out
moved_by size (Verify c) done out into = []
moved_by size (ReadCapacity len) done out into = into

abbrev pub moved_under : (size : ℕ) → Result Cdb CdbFault → (done : ℕ) → (out into : List ℕ) → List ℕ
moved_under size (Ok cdb) done out into = moved_by size (request_of cdb) done out into
moved_under size (Err fault) done out into = []

-- the moved bytes of an exchange with a unit of this block size
abbrev pub moved_of : (size : ℕ) → List ℕ → Outcome → (out into : List ℕ) → List ℕ
moved_of size cdb o out into = moved_under size (decoded cdb) o.done out into

-- the labels of the blocks that are done and of the one where it ended
abbrev pub labels_of : List ℕ → Outcome → List Label → List Label
labels_of cdb o labels = take (min (o.done + 1) (blocks_of cdb)) labels

-- the entry of an exchange
abbrev pub entry_of : (size dev : ℕ) → List ℕ → List Label → Outcome → (out into : List ℕ) → LogEntry
entry_of size dev cdb labels o out into = record {
  what = record { dev = dev; cdb = cdb; outcome = o };
  labels = labels_of cdb o labels;
  moved = moved_of size cdb o out into;
}

abbrev pub capacity_by : Request → ℕ → ℕ
capacity_by (Read c) room = 0
capacity_by (Write c) room = 0
capacity_by (Verify c) room = 0
capacity_by (ReadCapacity len) room = room

abbrev pub capacity_under : Result Cdb CdbFault → ℕ → ℕ
capacity_under (Ok cdb) room = capacity_by (request_of cdb) room
capacity_under (Err fault) room = 0

-- the bytes that READ CAPACITY moves: all that there is room for
abbrev pub capacity_len : List ℕ → (room : ℕ) → ℕ
capacity_len cdb room = capacity_under (decoded cdb) room

abbrev pub moved_len : (size : ℕ) → List ℕ → Outcome → (out into : List ℕ) → ℕ
moved_len size cdb o out into = length (moved_of size cdb o out into)

abbrev pub labels_len : List ℕ → Outcome → List Label → ℕ
labels_len cdb o labels = length (labels_of cdb o labels)

abbrev pub no_entry : LogEntry
no_entry = record { what = record { dev = 0; cdb = []; outcome = record { done = 0; sense = None } }; labels = []; moved = [] }

abbrev pub entry_at : List LogEntry → ℕ → LogEntry
entry_at log i = slice_index_or log i no_entry

-- a sense key has four bits
abbrev pub has_key : Option Sense → Bool
has_key None = true
has_key (Some s) = ltb s.key 16

abbrev pub have_keys : List LogEntry → Bool
have_keys [] = true
have_keys (e ∷ log) = has_key e.what.outcome.sense && have_keys log

-- MEDIUM ERROR
abbrev pub IsMediumSense : Option Sense → Type 0
IsMediumSense None = ⊥
IsMediumSense (Some s) = s.key ≡ 3

abbrev pub IsMedium : Outcome → Type 0
IsMedium o = IsMediumSense o.sense
