use Rattle.std.specs.Prelude.{ℕ, zero, suc, ◌≡◌, ◌⊎◌, ◌≤◌, ◌<◌, true, false, List, length, take, Option, Some, None}
use Rattle.fault_schedule.specs.declared.Label.{Label}
use Rattle.bio_core.specs.declared.request.Dir.TheVariants.{Read as In}
use Rattle.block_path.specs.declared.route.Route.{Route}
use Rattle.fault_schedule.specs.Altered.{altered}
use Rattle.fault_schedule.specs.declared.fault.Crossing.TheVariants.{AdapterToHost, HostToAdapter}
use Rattle.fault_schedule.specs.declared.fault.FaultLine.{FaultLine}
use Rattle.rig_api.specs.Frames.{data_of}
use Rattle.rig_api.specs.Log.{LogEntry}
use Rattle.run_laws.specs.TakenWalk.{carried_of, landed_of}
use Rattle.stack_ops.specs.declared.reply.Reply.{Reply}
use Rattle.walk_laws.specs.Settings.{Setting, block_of, route}
use Rattle.run_laws.specs.Records.{Moved, entry_for, recorded}
use Rattle.run_words.specs.Lies.{Book, MovedBlock, all_moved, brought, frame_for, is_listed, is_way, label_of, landed, lie_in, request_in}
use Rattle.run_words.specs.Lies.{data_of as judged_data}
use Rattle.run_words.specs.declared.asked.Asked.{Asked}
use Rattle.run_words.specs.declared.lies.Lie.TheVariants.{Stale, Wrong}

-- What the lines of unseen blocks say, and of which frames.

-- an accepted write of a virtual block: its op, counted from 0, and what it brought
pub record WriteOf : Type 0 where
  pub op : ℕ
  pub data_is : List ℕ

abbrev pub write_or : Option (List ℕ) → (op : ℕ) → Option WriteOf → Option WriteOf
write_or None op rest = rest
write_or (Some came) op rest = Some (record { op = op; data_is = came })

module _ (b : Book) (moved : List MovedBlock) (replies : List Reply) where
  -- the newest of the ops before this one
  abbrev pub newest : (v i : ℕ) → Option WriteOf
  newest v zero = None
  newest v (suc i) = write_or (brought b moved replies i v) i (newest v i)

  -- None of the ops from one on brought these data.
  abbrev pub BroughtByNone : (came : List ℕ) → (v from before : ℕ) → Type 0
  BroughtByNone came v from before = (j : ℕ) → from < suc j → j < before → brought b moved replies j v ≡ Some came → ⊥

  -- Op j brought these data, it is older than the newest, and no later one brought them.
  pub record IsStale (came : List ℕ) (v i : ℕ) (w : WriteOf) : Type 0 where
    pub op : ℕ
    pub older : op < w.op
    pub same : brought b moved replies op v ≡ Some came
    pub later : BroughtByNone came v (suc op) i
    pub told : lie_in b moved replies came v i ≡ Some (Stale (suc op))

  -- No op before brought them.
  pub record IsWrong (came : List ℕ) (v i : ℕ) : Type 0 where
    pub never : BroughtByNone came v 0 i
    pub told : lie_in b moved replies came v i ≡ Some Wrong

  -- Data that came of a virtual block for op i: nothing is said where no op before it wrote that, or the newest that did brought them; else they are stale or wrong.
  pub record IsJudgedSo (came : List ℕ) (v i : ℕ) : Type 0 where
    pub unknown : newest v i ≡ None → lie_in b moved replies came v i ≡ None
    pub right : (w : WriteOf) → newest v i ≡ Some w → w.data_is ≡ came → lie_in b moved replies came v i ≡ None
    pub lies : (w : WriteOf) → newest v i ≡ Some w → (w.data_is ≡ came → ⊥) → IsStale came v i w ⊎ IsWrong came v i

abbrev pub frame_in : Option Moved → Option (List ℕ)
frame_in None = None
frame_in (Some x) = Some x.frame

-- The frame that is judged of a block is that of its entry in the log, of any setting with blocks of this size.
abbrev pub IsOfItsEntry : Setting → List LogEntry → Label → Type 0
IsOfItsEntry m log label = frame_for label (all_moved m.size log) ≡ frame_in (entry_for (recorded m log) label)

-- The data that are judged of a frame that landed are those that landed, and those of a frame that was sent are those that the host brought: what the adapter makes of tuples leaves data as they are, and a flip that is done once more is undone.
pub record IsAtHost (faults : List FaultLine) (r : Route) (frame : List ℕ) : Type 0 where
  pub landed : altered faults AdapterToHost r.label (take r.size frame) ≡ data_of r.size (landed_of faults r frame)
  pub brought : altered faults HostToAdapter r.label (take r.size (carried_of faults r frame)) ≡ data_of r.size frame

-- what judges the reads of a run in this setting
abbrev pub book_for : Setting → List Asked → Book
book_for m asked = record { asked = asked; faults = m.site.faults; size = m.size }

-- Of block k of op i, which is virtual block v: where it isn't listed and has an entry, the data that are judged are those of the walk that takes this log.
pub record IsOfTheWalk (m : Setting) (asked : List Asked) (log : List LogEntry) (replies : List Reply) (i k v : ℕ) : Type 0 where
  -- A read: those that land of the entry's frame.
  pub landed_is : is_way In (request_in asked i).way ≡ true → is_listed replies i k ≡ false → (x : Moved) → entry_for (recorded m log) (label_of i k) ≡ Some x → m.size ≤ length x.frame
      → landed (book_for m asked) (all_moved m.size log) replies i k ≡ Some (data_of m.size (landed_of m.site.faults (route m (block_of (suc i) v k)) x.frame))
  -- A write: those in the pages, where the entry has what the adapter sends of them.
  pub brought_is : is_listed replies i k ≡ false → (x : Moved) (own : List ℕ) → entry_for (recorded m log) (label_of i k) ≡ Some x → x.frame ≡ carried_of m.site.faults (route m (block_of (suc i) v k)) own → m.size ≤ length own
      → judged_data (book_for m asked) (all_moved m.size log) replies HostToAdapter i k ≡ Some (data_of m.size own)
