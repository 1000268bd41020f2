-- What a run comes to over a rig that tells its blocks, whatever its store calls did: some of them may have failed.
use Rattle.std.specs.Prelude.{ℕ, ◌≡◌, ◌*◌, ◌<◌, List, ◌∷◌, ◌++◌, length, take, None}
use Rattle.page_pool.specs.Cells.{flat}
use Rattle.page_pool.specs.declared.segs.Seg.{Seg}
use Rattle.integrity_payload.specs.declared.payload.Owner.{Owner}
use Rattle.block_path.specs.Acts.{State}
use Rattle.stack_walk_laws.specs.Passed.{blocks_told}
use Rattle.rig_api.specs.Log.{LogEntry}
use Rattle.rig_api.specs.Target.{Stored}
use Rattle.stack_ops.specs.declared.op.Op.{Op}
use Rattle.stack_ops.specs.declared.op.Op.TheVariants.{Write, WritePi}
use Rattle.stack_ops.specs.declared.reply.Reply.{Reply}
use Rattle.volume_table.specs.Tables.{Table}
use Rattle.walk_laws.specs.PlainMap.{finds_plainly}
use Rattle.walk_laws.specs.Settings.{Setting}
use Rattle.run_laws.specs.FallingWrites.{finds_then}
use Rattle.walk_laws.specs.ReadsAs.{read_op}
use Rattle.run_laws.specs.Records.{recorded}
use Rattle.stack_walk_laws.specs.AtTheEnd.{EndsAsFalling, IsWrittenOrFails, ReadsOrFails}
use Rattle.stack_walk_laws.specs.Falls.{Falls, of_blocks}
use Rattle.script_text.specs.declared.script.Script.{Script}
use Rattle.run_command.specs.Premises.{opening_told, setting_told}
use Rattle.page_pool.specs.declared.TheConstants.{PAGE}

-- Each block of each read is listed for the medium, or it isn't listed and lands as the last accepted write, unless it is lost.
abbrev pub AllReadOrFail : Setting → Falls → List Op → State → List Reply → Type 0
AllReadOrFail m falls ops opening replies = (before after : List Op) (owner : Owner) (v n k : ℕ) (body tuples : List Seg) → ops ≡ before ++ (read_op owner v n body tuples ∷ after) → k < n
    → ReadsOrFails m (of_blocks falls) before owner v n body tuples opening replies k

-- Each block of each write that the plain map accepts is listed for the medium or not at all: by the tag of the write, or by the application's tuple.
pub record AllWriteOrFail (m : Setting) (falls : Falls) (ops : List Op) (opening : State) (replies : List Reply) : Type 0 where
  pub own : (before after : List Op) (v n k : ℕ) (body : List Seg) (app : ℕ) → ops ≡ before ++ (Write v n body app ∷ after) → k < n → finds_plainly m app ≡ None → IsWrittenOrFails (length before) replies k
  pub brought : (before after : List Op) (v n k : ℕ) (body tuples : List Seg) → ops ≡ before ++ (WritePi v n body tuples ∷ after) → k < n → finds_then m (of_blocks falls) before v body tuples opening k ≡ None → IsWrittenOrFails (length before) replies k

-- Replies, pages and stored blocks are those of the script's ops done one after another, but for the store calls that failed, and the records hold what these carry.
-- A block of a read that isn't lost, and one of a write that the plain map accepts, fails at the medium alone.
pub record HasServed (script : Script) (table : Table) (us left : List Stored) (pool : List (List ℕ)) (log : List LogEntry) (replies : List Reply) : Type 0 where
  pub ends : EndsAsFalling (setting_told script table us) (PAGE * script.pages) script.ops (opening_told script us) (take (PAGE * script.pages) (flat pool)) (blocks_told left) replies (recorded (setting_told script table us) log)
  pub reads : AllReadOrFail (setting_told script table us) ends.falls script.ops (opening_told script us) replies
  pub writes : AllWriteOrFail (setting_told script table us) ends.falls script.ops (opening_told script us) replies
