use Rattle.std.specs.Prelude.{ℕ, zero, suc, ◌+◌, ◌-◌, ◌&&◌, Bool, true, false, is_some, min, eqb, leb, ltb, if◌then◌else◌, List, [], ◌∷◌, ◌++◌, take, drop, get_or, Option, Some, None, Result, Ok, Err}
use Rattle.std.specs.Str.{bytes_eq}
use Rattle.bio_core.specs.declared.request.Dir.{Dir}
use Rattle.bio_core.specs.declared.request.Dir.TheVariants.{Read as In, Write as Out}
use Rattle.cdb_codec.specs.Decoded.{decoded}
use Rattle.cdb_codec.specs.declared.command.Rw.{Rw}
use Rattle.cdb_codec.specs.declared.command.Cdb.{Cdb}
use Rattle.cdb_codec.specs.declared.command.CdbFault.{CdbFault}
use Rattle.fault_schedule.specs.Altered.{altered}
use Rattle.fault_schedule.specs.declared.Label.{Label}
use Rattle.fault_schedule.specs.declared.fault.Crossing.{Crossing}
use Rattle.fault_schedule.specs.declared.fault.Crossing.TheVariants.{HostToAdapter, AdapterToHost}
use Rattle.fault_schedule.specs.declared.fault.FaultLine.{FaultLine}
use Rattle.rig_api.specs.Frames.{sent_size}
use Rattle.rig_api.specs.Log.{LogEntry}
use Rattle.rig_api.specs.Requests.{request_of}
use Rattle.rig_api.specs.declared.request.Request.{Request}
use Rattle.rig_api.specs.declared.request.Request.TheVariants.{Read, Write, Verify, ReadCapacity}
use Rattle.script_text.specs.declared.script.Script.{Script}
use Rattle.stack_ops.specs.declared.op.Op.{Op}
use Rattle.stack_ops.specs.declared.op.Op.TheVariants.{Write as WriteOp, Fetch, WritePi, FetchPi}
use Rattle.stack_ops.specs.declared.reply.Reply.{Reply}
use Rattle.stack_ops.specs.declared.reply.Reply.TheVariants.{Silent}
use Rattle.walk_laws.specs.ReadsAs.{listed_in}
use Rattle.run_words.specs.declared.asked.Asked.{Asked}
use Rattle.run_words.specs.declared.lies.Lie.{Lie}
use Rattle.run_words.specs.declared.lies.Lie.TheVariants.{Stale, Wrong}

-- Which blocks of reads that nobody lists aren't what was last accepted: from the script, the records of its run and the replies alone.

-- ---- what a script asks for

-- an op as a request, whose blocks stand from this place on; another op asks for none
abbrev pub asked_one : (start : ℕ) → Op → Asked
asked_one start (WriteOp v n body app) = record { way = Some Out; first = v; count = n; start = start }
asked_one start (WritePi v n body tuples) = record { way = Some Out; first = v; count = n; start = start }
asked_one start (Fetch v n body) = record { way = Some In; first = v; count = n; start = start }
asked_one start (FetchPi v n body tuples) = record { way = Some In; first = v; count = n; start = start }
asked_one start _ = record { way = None; first = 0; count = 0; start = start }

-- the blocks of all ops stand one after another
abbrev pub asked_from : (start : ℕ) → List Op → List Asked
asked_from start [] = []
asked_from start (op ∷ ops) = asked_one start op ∷ asked_from (start + (asked_one start op).count) ops

abbrev pub no_request : Asked
no_request = record { way = None; first = 0; count = 0; start = 0 }

-- what judges reads: what the ops ask for, the fault lines, and the bytes of data in a block
pub record Book : Type 0 where
  pub asked : List Asked
  pub faults : List FaultLine
  pub size : ℕ

abbrev pub book_of : Script → Book
book_of script = record { asked = asked_from 0 script.ops; faults = script.faults; size = script.block }

-- ops are counted from 0 here; their numbers, in labels, from 1
abbrev pub request_in : List Asked → (i : ℕ) → Asked
request_in asked i = get_or asked i no_request

abbrev pub label_of : (i k : ℕ) → Label
label_of i k = record { op = suc i; k = k }

-- ---- what commands moved

-- a block that was done: whose it was, and its frame as it stands on record
pub record MovedBlock : Type 0 where
  pub label : Label
  pub frame : List ℕ

-- The frames of the blocks that were done stand one after another.
abbrev pub blocks_from : (frame : ℕ) → List Label → (done : ℕ) → (moved : List ℕ) → List MovedBlock
blocks_from frame [] done moved = []
blocks_from frame (label ∷ labels) zero moved = []
blocks_from frame (label ∷ labels) (suc done) moved = record { label = label; frame = take frame moved } ∷ blocks_from frame labels done (drop frame moved)

abbrev pub blocks_done : (size : ℕ) → Rw → LogEntry → List MovedBlock
blocks_done size c e = blocks_from (sent_size c.protect size) e.labels (min e.what.outcome.done c.n) e.moved

abbrev pub blocks_asked : (size : ℕ) → Request → LogEntry → List MovedBlock
blocks_asked size (Read c) e = blocks_done size c e
blocks_asked size (Write c) e = blocks_done size c e
blocks_asked size (Verify c) e = []
blocks_asked size (ReadCapacity len) e = []

abbrev pub blocks_under : (size : ℕ) → Result Cdb CdbFault → LogEntry → List MovedBlock
blocks_under size (Ok cdb) e = blocks_asked size (request_of cdb) e
blocks_under size (Err fault) e = []

-- the blocks of reads and writes that a record moved
abbrev pub blocks_moved : (size : ℕ) → LogEntry → List MovedBlock
blocks_moved size e = blocks_under size (decoded e.what.cdb) e

abbrev pub all_moved : (size : ℕ) → List LogEntry → List MovedBlock
all_moved size [] = []
all_moved size (e ∷ log) = blocks_moved size e ++ all_moved size log

abbrev pub is_labelled : Label → MovedBlock → Bool
is_labelled label m = eqb m.label.op label.op && eqb m.label.k label.k

-- the frame of the first that stands there of a block
abbrev pub frame_for : Label → List MovedBlock → Option (List ℕ)
frame_for label [] = None
frame_for label (m ∷ moved) = if is_labelled label m then Some m.frame else frame_for label moved

-- ---- what writes brought, and what landed

-- the data of a frame at the host's end: a flip there that is done once more is undone
abbrev pub data_at : Book → Crossing → Label → Option (List ℕ) → Option (List ℕ)
data_at b at label None = None
data_at b at label (Some frame) = Some (altered b.faults at label (take b.size frame))

abbrev pub is_way : Dir → Option Dir → Bool
is_way Out (Some Out) = true
is_way In (Some In) = true
is_way way _ = false

-- The op is such a request, and has this virtual block.
abbrev pub has_block : Dir → Asked → (v : ℕ) → Bool
has_block way a v = is_way way a.way && (leb a.first v && ltb (v - a.first) a.count)

abbrev pub unless_listed : Option (List ℕ) → (listed : Bool) → Option (List ℕ)
unless_listed came true = None
unless_listed came false = came

-- An op wrote the virtual block, with these data or with others; or it didn't.
abbrev pub same_as : (came : List ℕ) → Option (List ℕ) → Option Bool
same_as came None = None
same_as came (Some brought) = Some (bytes_eq brought came)

abbrev pub older_by : Option Bool → (i : ℕ) → Lie → Lie
older_by None i rest = rest
older_by (Some true) i rest = Stale (suc i)
older_by (Some false) i rest = rest

abbrev pub lie_by : Option Bool → Lie → Option Lie → Option Lie
lie_by None old rest = rest
lie_by (Some true) old rest = None
lie_by (Some false) old rest = Some old

-- The reply of op i lists block k.
abbrev pub is_listed : List Reply → (i k : ℕ) → Bool
is_listed replies i k = is_some (listed_in (get_or replies i Silent) k)

module _ (b : Book) (moved : List MovedBlock) (replies : List Reply) where
  -- the data of block k of an op at the host's end, where a command moved it and its reply doesn't list it
  abbrev pub data_of : Crossing → (i k : ℕ) → Option (List ℕ)
  data_of at i k = unless_listed (data_at b at (label_of i k) (frame_for (label_of i k) moved)) (is_listed replies i k)

  -- what an accepted write of this op brought for a virtual block
  abbrev pub brought : (i v : ℕ) → Option (List ℕ)
  brought i v = if has_block Out (request_in b.asked i) v then data_of HostToAdapter i (v - (request_in b.asked i).first) else None

  -- what landed of block k of a read
  abbrev pub landed : (i k : ℕ) → Option (List ℕ)
  landed i k = if is_way In (request_in b.asked i).way then data_of AdapterToHost i k else None

  abbrev pub brings : (came : List ℕ) → (v i : ℕ) → Option Bool
  brings came v i = same_as came (brought i v)

  -- data that aren't those of the newest write: the newest of these ops that brought them, if one did
  abbrev pub older : (came : List ℕ) → (v i : ℕ) → Lie
  older came v zero = Wrong
  older came v (suc i) = older_by (brings came v i) i (older came v i)

  -- by the newest of these ops that wrote the virtual block; where none did, the data aren't judged
  abbrev pub lie_in : (came : List ℕ) → (v i : ℕ) → Option Lie
  lie_in came v zero = None
  lie_in came v (suc i) = lie_by (brings came v i) (older came v i) (lie_in came v i)

  abbrev pub lie_of : Option (List ℕ) → (v i : ℕ) → Option Lie
  lie_of None v i = None
  lie_of (Some came) v i = lie_in came v i

  -- what is wrong with block k of an op, a read, though nobody lists it
  abbrev pub lie_at : (i k : ℕ) → Option Lie
  lie_at i k = lie_of (landed i k) ((request_in b.asked i).first + k) i
