-- A script without lines that say that the medium fails a block asks its legs without such lines.
use Rattle.std.proofs.Common.{◌≡◌, ℕ, zero, suc, ◌+◌, ◌-◌, ◌*◌, min, take, drop, Bool, true, false, if◌then◌else◌, List, [], ◌∷◌, ◌++◌, sym, ap, subst, ◌∙◌}
use Rattle.std.proofs.lemmas.Bool.{or_from, or_parts}
use Rattle.fault_schedule.specs.Altered.{has_fail, is_fail}
use Rattle.fault_schedule.specs.declared.fault.FaultLine.{FaultLine}
use Rattle.page_pool.specs.declared.segs.Seg.{Seg}
use Rattle.page_pool.specs.Pages.{bytes_in}
use Rattle.page_pool.specs.Places.{total}
use Rattle.stack_ops.specs.declared.op.Op.{Op}
use Rattle.stack_ops.specs.declared.op.Op.TheVariants.{Fetch, FetchPi, Fill, Overwrite, Put, Seal, Show, Wait, Write, WritePi}
use Rattle.stack_ops.specs.declared.reply.Reply.{Reply}
use Rattle.script_text.specs.declared.script.Script.{Script}
use Rattle.mirror_laws.specs.declared.marks.Marks.{Marks}
use Rattle.mirror_volume.specs.declared.piece.Piece.{Piece}
use Rattle.mirror_volume.specs.Asked.{AreOf, fresh_on0, part_of, rest_wanted, stretches}
use Rattle.mirror_volume.specs.Inner.{own_faults, pages_for, read_script, write_script}
use Rattle.mirror_volume.specs.LegRuns.{LegRun}
use Rattle.mirror_volume.specs.OnOps.{FetchedBy, OpBy, Sides, WroteBy, whole_request}
use Rattle.mirror_volume.proofs.Renumbered.{is_own, own_line}
use Rattle.mirror_volume.proofs.Runs.{NoneFails, none_fails-append}

own-unfailing : (p : Piece) (request : ℕ) (faults : List FaultLine) → has_fail faults ≡ false → has_fail (own_faults p request faults) ≡ false
own-unfailing p request [] h = h
own-unfailing p request (f ∷ faults) h = let q = or_parts (is_fail f.kind) (has_fail faults) h in by q.0 (is_own p request f) (own-unfailing p request faults q.1) where
  by : is_fail f.kind ≡ false → (c : Bool) → has_fail (own_faults p request faults) ≡ false → has_fail (if c then own_line p request f ∷ own_faults p request faults else own_faults p request faults) ≡ false
  by one true rest = or_from (is_fail f.kind) (has_fail (own_faults p request faults)) one rest
  by one false rest = rest

module _ (s : Script) (half : ℕ) (none : has_fail s.faults ≡ false) where
  written : (p : Piece) (app : ℕ) (bytes : List ℕ) (own : Script) → own ≡ write_script s half p app bytes → has_fail own.faults ≡ false
  written p app bytes own e = ap (λ (x : Script). has_fail x.faults) e ∙ own-unfailing p (suc (pages_for (p.n * s.block))) s.faults none

  asked : (script : Piece → Script) → ((p : Piece) → has_fail (script p).faults ≡ false) → (p : Piece) (ss : List (ℕ × ℕ)) (runs : List LegRun) → AreOf script p ss runs → NoneFails runs
  asked script h p [] [] are = tt
  asked script h p [] (r ∷ runs) are = absurd are
  asked script h p (x ∷ ss) [] are = absurd are
  asked script h p (x ∷ ss) (r ∷ runs) are = (ap (λ (y : Script). has_fail y.faults) are.0 ∙ h (part_of p x), asked script h p ss runs are.1)

  read : (p : Piece) → has_fail (read_script s half p).faults ≡ false
  read p = own-unfailing p 1 s.faults none

  -- nothing was run
  unasked : (runs : List LegRun) → runs ≡ [] → NoneFails runs
  unasked runs e = subst NoneFails (sym e) tt

  wrote : (op v n app : ℕ) (bytes : List ℕ) (old new : List Marks) (runs : List LegRun) (reply : Reply) → WroteBy s half op v n app bytes old new runs reply → NoneFails runs
  wrote op v n app bytes old new runs reply w = subst NoneFails (sym w.runs_are) (written (whole_request op v n) app bytes w.on0.own w.own0, (written (record (whole_request op v n) { on1 = true }) app bytes w.on1.own w.own1, tt))

  fetched : (op v n : ℕ) (body : List Seg) (old new : Sides) (runs : List LegRun) (reply : Reply) → FetchedBy s half op v n body old new runs reply → NoneFails runs
  fetched op v n body old new runs reply w =
      let marks = take n (drop v old.marks) in
      subst NoneFails (sym w.runs_are)
      (none_fails-append w.runs0 w.runs1 (asked (read_script s half) read (whole_request op v n) (stretches (fresh_on0 marks)) w.runs0 w.read.on0)
      (asked (read_script s half) read (record (whole_request op v n) { on1 = true }) (stretches (rest_wanted marks w.read.found0)) w.runs1 w.read.on1))

  pub op-unfailing : (op : ℕ) (x : Op) (old new : Sides) (runs : List LegRun) (reply : Reply) → OpBy s half op x old new runs reply → NoneFails runs
  op-unfailing op (Fill seg byte) old new runs reply by = unasked runs by.0.none
  op-unfailing op (Put page off bytes) old new runs reply by = unasked runs by.0.none
  op-unfailing op (Show seg) old new runs reply by = unasked runs by.0.none
  op-unfailing op (Seal n body tuples app rtag) old new runs reply by = unasked runs by.0.none
  op-unfailing op (Write v n body app) old new runs reply by = wrote op v n app (bytes_in old.pool body 0 (total body)) old.marks new.marks runs reply by.1
  op-unfailing op (Fetch v n body) old new runs reply by = fetched op v n body old new runs reply by
  op-unfailing op (WritePi v n body tuples) old new runs reply by = unasked runs by.0.none
  op-unfailing op (FetchPi v n body tuples) old new runs reply by = unasked runs by.0.none
  op-unfailing op (Overwrite dev lba change) old new runs reply by = unasked runs by.0.none
  op-unfailing op Wait old new runs reply by = unasked runs by.0.none
