use Rattle.std.specs.Prelude.{ℕ, ◌≡◌, ◌+◌, ◌*◌, ◌≤◌, false, not, ◌&&◌, if◌then◌else◌, List, [], length, map, drop, Some, None, IfOk, Result, Ok, Err}
use Rattle.dix_base.specs.Told.{Calm}
use Rattle.std.specs.List.{AllByRecursion as Each}
use Rattle.pi_tuple.specs.Finds.{is_zero}
use Rattle.page_pool.specs.Cells.{flat}
use Rattle.bio_core.specs.declared.bio.Bio.{Bio}
use Rattle.bio_core.specs.declared.fate.Fate.{Fate}
use Rattle.bio_core.specs.declared.fate.Why.{Why}
use Rattle.bio_core.specs.declared.request.Dir.{Dir}
use Rattle.bio_core.specs.declared.request.Dir.TheVariants.{Read as In, Write as Out}
use Rattle.bio_core.specs.declared.request.Io.{Io}
use Rattle.cdb_codec.specs.Decoded.{decoded}
use Rattle.rig_api.specs.Frames.{joined, sent_size}
use Rattle.rig_api.specs.Passing.{to_medium}
use Rattle.rig_api.specs.Requests.{request_of}
use Rattle.rig_api.specs.declared.request.Request.{Request}
use Rattle.rig_api.specs.declared.request.Request.TheVariants.{Read, ReadCapacity, Verify, Write}
use Rattle.rig_api.specs.Target.{Stored}
use Rattle.rig_api.specs.Log.{LogEntry}
use Rattle.block_path.specs.declared.route.Route.{Route}
use Rattle.block_path.specs.Acts.{State, act, tell}
use Rattle.block_path.specs.Blocks.{Sent}
use Rattle.block_path.specs.Routes.{host_size, passage}
use Rattle.block_path.specs.Serial.{plain_tells}
use Rattle.block_path.specs.WayOut.{to_wire}
use Rattle.dix_adapter.specs.declared.adapter.Adapter.{Adapter}
use Rattle.dix_adapter.specs.Carried.{any_bad, frame_sent, sends}
use Rattle.dix_adapter.specs.Groups.{IsCarriedGroup, blocks_in, size}
use Rattle.dix_adapter.specs.Ways.{WentOut}
use Rattle.stack_ops.specs.declared.op.Op.{Op}
use Rattle.walk_laws.specs.CalmRun.{AllFit, IsCalm}
use Rattle.walk_laws.specs.ScriptWalk.{acts_from}
use Rattle.walk_laws.specs.Settings.{Setting}
use Rattle.run_laws.specs.Records.{sents}
use Rattle.rig_api.specs.State.{RigState}
use Rattle.script_text.specs.Language.{script_in}
use Rattle.script_text.specs.declared.script.Script.{Script}
use Rattle.image_laws.specs.Passed.{Facts, HasRun, Finished}
use Rattle.vector_runs.specs.Played.{HasPlayed}
use Rattle.vector_runs.specs.Unplayed.{unplayed}
use Rattle.vector_runs.specs.declared.playing.Played.TheVariants as played
use Rattle.pi_tuple.specs.declared.TheConstants.{TUPLE}

-- What passes the adapter passes the target, where no fault is scheduled: so no write ends early.

-- A frame of the host's size is found bad by the adapter, or the target takes what the adapter sends of it: in each mode and type, if an application tag is expected only where the host has tuples.
abbrev pub BlockPasses : Type 0
BlockPasses = (r : Route) (frame : List ℕ) → length frame ≡ host_size r → (r.mode.dix ≡ false → r.mode.mask ≡ 0) → IfOk (to_wire [] r frame) (λ carried. (stored : List ℕ) × (to_medium [] (passage [] r) carried ≡ Ok stored))

-- A write whose blocks the adapter passes, over units that are told and where no store call failed, is done whole, and the moved bytes of its record are all its frames.
abbrev pub CommandPasses : Type 0
CommandPasses = (a : Adapter) (ios : List Io) (req : List Bio) (pool : List (List ℕ)) (bytes : ℕ) (us : List Stored) (fates : List Fate) (old new : RigState) → a.tamper ≡ [] → (a.dix ≡ false → a.mask ≡ 0) → IsCarriedGroup a pool bytes ios req →
    let sent = map (sends a ios (flat pool)) (blocks_in req) in
    any_bad sent ≡ false → (w : WentOut a ios req (flat pool) us None fates old new) → (w.entry.what.outcome.done ≡ size req) × (w.entry.moved ≡ joined (map frame_sent sent))

-- ---- a run

-- the bytes of a frame between adapter and target
abbrev pub width : Setting → ℕ
width m = if m.mode.dif && not (is_zero m.ty) then m.size + TUPLE else m.size

-- What came of a block of a write is its whole frame: it didn't end its command.
abbrev pub IsWhole : (bytes : ℕ) → Dir → Result (List ℕ) Why → Type 0
IsWhole bytes In came = Unit {0}
IsWhole bytes Out (Ok frame) = length frame ≡ bytes
IsWhole bytes Out (Err why) = ⊥

abbrev pub WasTaken : Setting → Sent → Type 0
WasTaken m e = IsWhole (width m) e.dir e.came

-- In the walk of a script without faults each block of a write that is sent is taken.
abbrev pub WalkPasses : Type 0
WalkPasses = (m : Setting) (ops : List Op) (opening : State) → IsCalm m → AllFit m ops → Each (WasTaken m) (sents (plain_tells act tell (acts_from m 1 ops) opening))

-- All blocks of a write are done, and all its frames were moved. Of another command nothing is said.
abbrev pub AreDone : (size : ℕ) → Request → LogEntry → Type 0
AreDone size (Read c) e = Unit {0}
AreDone size (Write c) e = (c.n ≤ e.what.outcome.done) × (c.n * sent_size c.protect size ≤ length e.moved)
AreDone size (Verify c) e = Unit {0}
AreDone size (ReadCapacity len) e = Unit {0}

abbrev pub IsNotCut : (size : ℕ) → LogEntry → Type 0
IsNotCut size e = IfOk (decoded e.what.cdb) (λ cdb. AreDone size (request_of cdb) e)

-- In a run of a script without `fault`, `shift` and `overwrite` lines, over an image that is told and without a store call that failed, no write ends early.
abbrev pub RunPasses : Type 0
RunPasses = (run : Finished) (script : Script) (name text image : List ℕ) (old new : RigState) → script_in text ≡ Ok script → unplayed script ≡ None → old.image ≡ Some image → Calm old.faults new.faults → (h : HasRun run script name old new) →
    Each (IsNotCut script.block) h.followed.any_rig.goes.more

-- So it is of all records whose vectors are written.
abbrev pub VectorsPass : Type 0
VectorsPass = (run : Finished) (f : Facts) (image : List ℕ) → f.rig.image ≡ Some image → Calm f.rig.faults f.rig_after.faults → (h : HasPlayed (played.Ran run) f) → Each (IsNotCut h.0.block) (drop run.first f.rig_after.log)
