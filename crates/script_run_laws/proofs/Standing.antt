-- A bound script stands on ground.
use Rattle.std.proofs.Common.{◌≡◌, ◌<◌, ◌≤◌, ℕ, suc, ◌+◌, ◌*◌, List, [], length, drop, refl, ◌∙◌, arith, Option, Some, None}
use Rattle.std.proofs.lemmas.List.{length-drop}
use Rattle.volume_table.specs.declared.device.DeviceInfo.{DeviceInfo}
use Rattle.volume_table.specs.Tables.{MadeFor, Table}
use Rattle.run_laws.specs.Passed.{Setting}
use Rattle.stack_walk_laws.specs.Ground.{Ground}
use Rattle.stack_walk_laws.specs.Spots.{op_in as op_at}
use Rattle.script_laws.specs.Passed.{ScriptFault, Script, binding_fault, expect_fault, faults_fault, op_fault, ops_fault, or_else}
use Rattle.script_run_laws.specs.Bound.{IsSettingOf}
use Rattle.script_run_laws.specs.SuitsStack.{IsStackOp, SuitsStack}
use Rattle.stack_walk_laws.specs.Seals.{IsSealed}
use Rattle.script_run_laws.proofs.Ops.{kind-of, logged-op, no-fault, placed-all, rules-at, seal-of}
use Rattle.script_run_laws.proofs.Places.{one-each}
use Rattle.script_run_laws.proofs.Shifts.{stored-apart}
use Rattle.script_run_laws.proofs.Spreads.{asked-by, spread-op}

pub or-none : (a b : Option ScriptFault) → or_else a b ≡ None → (a ≡ None) × (b ≡ None)
or-none None b e = (refl, e)
or-none (Some f) b e = absurd cc

-- no line of a fault or of an op is at fault
pub record IsBound (s : Script) (t : Table) (devices : List DeviceInfo) : Type 0 where
  pub faults : faults_fault t devices s.block s.ops [] s.faults s.lines ≡ None
  pub ops : ops_fault t devices s.block s.ops (drop (length s.faults) s.lines) ≡ None

pub bound : (s : Script) (t : Table) (devices : List DeviceInfo) → binding_fault s t devices ≡ None → IsBound s t devices
bound s t devices h =
    let a = or-none (expect_fault s t.ty) _ h in
    let b = or-none (faults_fault t devices s.block s.ops [] s.faults s.lines) (ops_fault t devices s.block s.ops (drop (length s.faults) s.lines)) a.1 in
    record { faults = b.0; ops = b.1 }

pub stands-on-ground : (m : Setting) (s : Script) (t : Table) (devices : List DeviceInfo) (logs : ℕ) → SuitsStack s → length s.lines ≡ length s.faults + length s.ops → MadeFor t devices s.block → binding_fault s t devices ≡ None → IsSettingOf m s t devices logs → Ground m (4096 * s.pages) logs s.ops
stands-on-ground m s t devices logs k n made h is =
    let b = bound s t devices h in
    let lines = length-drop (length s.faults) s.lines in
    let long : length s.ops ≤ length (drop (length s.faults) s.lines) = omega arith in
    let few : length s.faults ≤ length s.lines = omega arith in
    let dix = s.mode.dix in
    let rules : (i : ℕ) → i < length s.ops → IsStackOp dix s.pages s.block (op_at s.ops i) = λ i l. rules-at dix s.pages s.block s.ops i k.ops_are l in
    let fine : (i : ℕ) → i < length s.ops → op_fault t devices s.block (op_at s.ops i) ≡ None = λ i l. no-fault t devices s.block s.ops (drop (length s.faults) s.lines) i long b.ops l in
    record {
      one = one-each m s t devices logs made is;
      placed = placed-all m t devices dix s.pages s.block s.ops (drop (length s.faults) s.lines) is.size is.entries long k.ops_are b.ops;
      kinds = λ i l. kind-of dix s.pages s.block (op_at s.ops i) (rules i l);
      spread = λ i l some. spread-op m t devices dix s.pages s.block (suc i) (op_at s.ops i) (rules i l) (fine i l)
          (λ v c e w. stored-apart m s t devices logs made is few b.faults (suc i) v c (asked-by s.ops i l ∙ e) w) some;
      logged = λ i j l within. logged-op m s t devices logs (suc i) j (op_at s.ops i) made is (fine i l) within;
    }

pub seals-whole : (m : Setting) (s : Script) → SuitsStack s → m.size ≡ s.block → (i : ℕ) → i < length s.ops → IsSealed m (op_at s.ops i)
seals-whole m s k z i l = seal-of m s.mode.dix s.pages s.block (op_at s.ops i) z (rules-at s.mode.dix s.pages s.block s.ops i k.ops_are l)
