-- What comes of the blocks of a run in which store calls may have failed, by the laws of a stack at its end.
use Rattle.std.proofs.Common.{◌≡◌, ◌<◌, ℕ, ◌*◌, List, ◌∷◌, ◌++◌, length, take, replicate, None, sym, ap, subst}
use Rattle.std.specs.Prelude.{All}
use Rattle.std.proofs.Math.Seq.{take-length}
use Rattle.std.proofs.lemmas.List.{length-replicate}
use Rattle.page_pool.specs.Cells.{flat}
use Rattle.page_pool.specs.declared.segs.Seg.{Seg}
use Rattle.integrity_payload.specs.declared.payload.Owner.{Owner}
use Rattle.integrity_payload.specs.declared.payload.Owner.TheVariants.{App}
use Rattle.block_path.specs.Acts.{State}
use Rattle.block_path.specs.Blocks.{Sent}
use Rattle.block_path.specs.Moves.{hidden}
use Rattle.stack_walk_laws.specs.Passed.{blocks_told}
use Rattle.rig_api.specs.Log.{LogEntry}
use Rattle.rig_api.specs.Target.{Stored}
use Rattle.stack_ops.specs.declared.op.Op.{Op}
use Rattle.stack_ops.specs.declared.op.Op.TheVariants.{Write, WritePi}
use Rattle.stack_ops.specs.declared.reply.Reply.{Reply}
use Rattle.volume_table.specs.Tables.{Table}
use Rattle.walk_laws.specs.PlainMap.{finds_plainly}
use Rattle.walk_laws.specs.Settings.{Setting}
use Rattle.run_laws.specs.FallingReads.{HasRoom}
use Rattle.run_laws.specs.FallingWrites.{finds_then}
use Rattle.walk_laws.specs.ReadsAs.{read_op}
use Rattle.run_laws.specs.StoreFaults.{IsFallingRun}
use Rattle.run_laws.specs.Records.{recorded}
use Rattle.stack_walk_laws.specs.AtTheEnd.{EndsAsFalling, IsWrittenOrFails, ReadsOrFails}
use Rattle.stack_walk_laws.specs.Falls.{of_blocks}
use Rattle.script_text.specs.declared.script.Script.{Script}
use Rattle.script_stack.proofs.Passed.{falling-run, room-of-read, room-of-write, IsBoundOver}
use Rattle.run_command.specs.Fallen.{AllReadOrFail, AllWriteOrFail, HasServed}
use Rattle.run_command.specs.Premises.{IsQuietRun, opening_told, setting_told}

-- the law of reads
abbrev pub ReadsFallLaw : Type 0
ReadsFallLaw = (m : Setting) (bytes : ℕ) (before after : List Op) (owner : Owner) (v n k : ℕ) (body tuples : List Seg) (opening : State) (pages : List ℕ) (blocks : List (List ℕ)) (replies : List Reply) (es : List Sent)
    → let ops = before ++ (read_op owner v n body tuples ∷ after) in
    IsFallingRun m ops (hidden bytes opening) → HasRoom m (length (hidden bytes opening).bytes) owner n body tuples → k < n
    → (e : EndsAsFalling m bytes ops opening pages blocks replies es) → ReadsOrFails m (of_blocks e.falls) before owner v n body tuples (hidden bytes opening) replies k

-- the laws of writes
abbrev pub OwnFallLaw : Type 0
OwnFallLaw = (m : Setting) (bytes : ℕ) (before after : List Op) (v n k : ℕ) (body : List Seg) (app : ℕ) (opening : State) (pages : List ℕ) (blocks : List (List ℕ)) (replies : List Reply) (es : List Sent)
    → let ops = before ++ (Write v n body app ∷ after) in
    IsFallingRun m ops (hidden bytes opening) → k < n → finds_plainly m app ≡ None → EndsAsFalling m bytes ops opening pages blocks replies es → IsWrittenOrFails (length before) replies k

abbrev pub BroughtFallLaw : Type 0
BroughtFallLaw = (m : Setting) (bytes : ℕ) (before after : List Op) (v n k : ℕ) (body tuples : List Seg) (opening : State) (pages : List ℕ) (blocks : List (List ℕ)) (replies : List Reply) (es : List Sent)
    → let ops = before ++ (WritePi v n body tuples ∷ after) in
    IsFallingRun m ops (hidden bytes opening) → HasRoom m (length (hidden bytes opening).bytes) App n body tuples → k < n → (e : EndsAsFalling m bytes ops opening pages blocks replies es)
    → finds_then m (of_blocks e.falls) before v body tuples (hidden bytes opening) k ≡ None → IsWrittenOrFails (length before) replies k

-- A script's opening has no private pages.
all-own : (s : Script) (us : List Stored) → hidden (4096 * s.pages) (opening_told s us) ≡ opening_told s us
all-own s us =
    ap (λ (bytes : List ℕ). record (opening_told s us) { bytes = bytes })
    (subst (λ (k : ℕ). take {A = ℕ} k (replicate (4096 * s.pages) 0) ≡ replicate (4096 * s.pages) 0) (length-replicate {A = ℕ} (4096 * s.pages) 0) (take-length {A = ℕ} (replicate (4096 * s.pages) 0)))

-- the end of a run of this script
abbrev pub Ends : Script → Table → (us left : List Stored) → (pool : List (List ℕ)) → List LogEntry → List Reply → List Op → Type 0
Ends s t us left pool log replies ops = EndsAsFalling (setting_told s t us) (4096 * s.pages) ops (opening_told s us) (take (4096 * s.pages) (flat pool)) (blocks_told left) replies (recorded (setting_told s t us) log)

quiet_run : (s : Script) (t : Table) (us : List Stored) → IsBoundOver s t us → All (All (λ x. x < 256)) (blocks_told us) → IsQuietRun s t us → IsFallingRun (setting_told s t us) s.ops (hidden (4096 * s.pages) (opening_told s us))
quiet_run s t us b bytes q = falling-run s t us b q.faults q.overwrites bytes q.clean

all_read : (s : Script) (t : Table) (us left : List Stored) (pool : List (List ℕ)) (log : List LogEntry) (replies : List Reply) → ReadsFallLaw → IsBoundOver s t us → All (All (λ x. x < 256)) (blocks_told us) → IsQuietRun s t us → (e : Ends s t us left pool log replies s.ops) →
    AllReadOrFail (setting_told s t us) e.falls s.ops (opening_told s us) replies
all_read s t us left pool log replies law b bytes q e before after owner v n k body tuples is l =
    let m = setting_told s t us in
    let room = room-of-read s t us before after owner v n body tuples b.keeps is in
    subst (λ (o : State). ReadsOrFails m (of_blocks e.falls) before owner v n body tuples o replies k) (all-own s us)
    (subst (λ (ops : List Op). (x : Ends s t us left pool log replies ops) → IsFallingRun m ops (hidden (4096 * s.pages) (opening_told s us)) → ReadsOrFails m (of_blocks x.falls) before owner v n body tuples (hidden (4096 * s.pages) (opening_told s us)) replies k) (sym is)
    (λ x run. law m (4096 * s.pages) before after owner v n k body tuples (opening_told s us) (take (4096 * s.pages) (flat pool)) (blocks_told left) replies (recorded m log) run room l x)
    e (quiet_run s t us b bytes q))

all_write : (s : Script) (t : Table) (us left : List Stored) (pool : List (List ℕ)) (log : List LogEntry) (replies : List Reply) → OwnFallLaw → BroughtFallLaw → IsBoundOver s t us → All (All (λ x. x < 256)) (blocks_told us) → IsQuietRun s t us → (e : Ends s t us left pool log replies s.ops) →
    AllWriteOrFail (setting_told s t us) e.falls s.ops (opening_told s us) replies
all_write s t us left pool log replies own brought b bytes q e =
    let m = setting_told s t us in
    record {
      own = λ before after v n k body app is l found.
          own m (4096 * s.pages) before after v n k body app (opening_told s us) (take (4096 * s.pages) (flat pool)) (blocks_told left) replies (recorded m log)
          (subst (λ (ops : List Op). IsFallingRun m ops (hidden (4096 * s.pages) (opening_told s us))) is (quiet_run s t us b bytes q)) l found (subst (Ends s t us left pool log replies) is e);
      brought = λ before after v n k body tuples is l found.
          subst (λ (ops : List Op). (x : Ends s t us left pool log replies ops) → IsFallingRun m ops (hidden (4096 * s.pages) (opening_told s us)) → finds_then m (of_blocks x.falls) before v body tuples (opening_told s us) k ≡ None → IsWrittenOrFails (length before) replies k) (sym is)
          (λ x run none. brought m (4096 * s.pages) before after v n k body tuples (opening_told s us) (take (4096 * s.pages) (flat pool)) (blocks_told left) replies (recorded m log) run
          (room-of-write s t us before after v n body tuples b.keeps is) l x (subst (λ (o : State). finds_then m (of_blocks x.falls) before v body tuples o k ≡ None) (sym (all-own s us)) none))
          e (quiet_run s t us b bytes q) found;
    }

pub served : (s : Script) (t : Table) (us left : List Stored) (pool : List (List ℕ)) (log : List LogEntry) (replies : List Reply) → ReadsFallLaw → OwnFallLaw → BroughtFallLaw → IsBoundOver s t us → All (All (λ x. x < 256)) (blocks_told us) → IsQuietRun s t us → Ends s t us left pool log replies s.ops → HasServed s t us left pool log replies
served s t us left pool log replies reads own brought b bytes q e = record {
  ends = e;
  reads = all_read s t us left pool log replies reads b bytes q e;
  writes = all_write s t us left pool log replies own brought b bytes q e;
}
