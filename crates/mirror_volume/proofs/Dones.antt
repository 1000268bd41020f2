-- What a write and a read of a mirror come to is what their ops ask for.
use Rattle.std.proofs.Common.{◌≡◌, ℕ, List, length, take, drop, Option, ap, ◌∙◌, subst}
use Rattle.std.specs.Prelude.{IfOk, Result}
use Rattle.std.proofs.lemmas.List.{length-map}
use Rattle.std.proofs.lemmas.Result.{IfOk-weaker}
use Rattle.bio_core.specs.declared.fate.Why.{Why}
use Rattle.page_pool.specs.declared.segs.Seg.{Seg}
use Rattle.page_pool.specs.Pages.{Wrote, byte_at, bytes_in}
use Rattle.page_pool.specs.Places.{range_of, total}
use Rattle.page_pool.proofs.Placing.{length-places_in}
use Rattle.page_pool.proofs.Spreads.{range-all}
use Rattle.stack_ops.specs.declared.op.Op.TheVariants.{Fetch, Write}
use Rattle.stack_ops.specs.declared.reply.Reply.{Reply}
use Rattle.walk_laws.specs.ScriptWalk.{bad_from, whole_or_bad}
use Rattle.script_text.specs.declared.script.Script.{Script}
use Rattle.mirror_laws.specs.declared.marks.Marks.{Marks}
use Rattle.mirror_volume.specs.declared.piece.Piece.{Piece}
use Rattle.mirror_volume.specs.Asked.{IsReadOf, ReadBy, ReadOnBoth}
use Rattle.mirror_volume.specs.LegRuns.{AllOwn, LegRun}
use Rattle.mirror_volume.specs.OnOps.{DidOp, IsWriteOf, OpAsks, Sides, WroteBy, whole_request}
use Rattle.rig_api.specs.State.{RigState}

-- as many bytes as the data have
pub data-long : (pool : List (List ℕ)) (body : List Seg) → length (bytes_in pool body 0 (total body)) ≡ total body
data-long pool body = length-map (range_of body 0 (total body)) (byte_at pool) ∙ ap length (range-all body) ∙ length-places_in body

module _ {E : Type 0} (s : Script) (half number v n : ℕ) (body : List Seg) (old new : Sides) (before after : RigState) (runs : List LegRun) (result : Result Reply E) (q : Piece) (whole : q ≡ whole_request number v n) (bytes : List ℕ) where
  pub did-write : (app : ℕ) → bytes ≡ bytes_in old.pool body 0 (total body) → new.pool ≡ old.pool → AllOwn (IsWriteOf s half q.op q.v q.n app bytes) runs → IfOk result (WroteBy s half q.op q.v q.n app bytes old.marks new.marks runs)
      → AllOwn (OpAsks s half number (Write v n body app) old.pool) runs × IfOk result (DidOp s half number (Write v n body app) old new before after runs)
  did-write app copied same own by =
      let data_is = bytes_in old.pool body 0 (total body) in
      let asked : AllOwn (IsWriteOf s half number v n app data_is) runs =
      subst (λ (p : Piece). AllOwn (IsWriteOf s half p.op p.v p.n app data_is) runs) whole (subst (λ (bs : List ℕ). AllOwn (IsWriteOf s half q.op q.v q.n app bs) runs) copied own) in
      let done : IfOk result (WroteBy s half number v n app data_is old.marks new.marks runs) =
      subst (λ (p : Piece). IfOk result (WroteBy s half p.op p.v p.n app data_is old.marks new.marks runs)) whole
      (subst (λ (bs : List ℕ). IfOk result (WroteBy s half q.op q.v q.n app bs old.marks new.marks runs)) copied by) in
      (asked, IfOk-weaker result (WroteBy s half number v n app data_is old.marks new.marks runs) (DidOp s half number (Write v n body app) old new before after runs) (λ reply w. ((same, w), tt)) done)

  pub reads : AllOwn (IsReadOf s half q) runs → AllOwn (OpAsks s half number (Fetch v n body) old.pool) runs
  reads own = subst (λ (p : Piece). AllOwn (IsReadOf s half p) runs) whole own

  pub did-fetch : (marks : List Marks) (listed : List (Option Why)) → marks ≡ take n (drop v old.marks) → new.marks ≡ old.marks → Wrote old.pool new.pool (range_of body 0 (total body)) bytes
      → ReadOnBoth s half q marks runs listed bytes → IfOk result (λ (reply : Reply). reply ≡ whole_or_bad (bad_from 0 listed))
      → IfOk result (DidOp s half number (Fetch v n body) old new before after runs)
  did-fetch marks listed marks_are kept wrote read replied =
      let runs0 = read.runs0 in
      let runs1 = read.runs1 in
      let by = subst (λ (p : Piece). ReadBy s half p (take n (drop v old.marks)) runs0 runs1 listed bytes) whole (subst (λ (ms : List Marks). ReadBy s half q ms runs0 runs1 listed bytes) marks_are read.read) in
      IfOk-weaker result (λ (reply : Reply). reply ≡ whole_or_bad (bad_from 0 listed)) (DidOp s half number (Fetch v n body) old new before after runs)
      (λ reply e. (record { runs0 = runs0; runs1 = runs1; listed = listed; bytes = bytes; runs_are = read.runs_are; read = by; pages = wrote; marks = kept; reply_is = e }, tt)) replied
