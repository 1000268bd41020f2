-- The blocks of a request of a bound script are spread.
use Rattle.std.proofs.Common.{◌≡◌, ◌<◌, ◌≤◌, ℕ, zero, suc, ◌+◌, Bool, List, [], ◌∷◌, length, refl, ap, arith, Some, None}
use Rattle.std.specs.Prelude.{slice_get}
use Rattle.volume_table.specs.declared.device.DeviceInfo.{DeviceInfo}
use Rattle.volume_table.specs.Places.{volume_len}
use Rattle.volume_table.specs.Tables.{Table}
use Rattle.run_laws.specs.Passed.{Setting, Op, Fetch, FetchPi, Fill, Overwrite, Put, Seal, Show, Wait, Write, WritePi}
use Rattle.run_laws.specs.OpsApart.{AreStoredApart, IsSpread}
use Rattle.run_laws.specs.ScriptMoves.{fates_of}
use Rattle.stack_walk_laws.specs.Spots.{op_in as op_at}
use Rattle.script_laws.specs.Passed.{op_fault, request_at, request_by, request_of, both_fault, data_fault}
use Rattle.script_run_laws.specs.SuitsStack.{IsStackOp}
use Rattle.script_run_laws.proofs.Bodies.{alone-of, both-of}
use Rattle.script_run_laws.proofs.Ops.{in-range}
use Rattle.script_run_laws.proofs.Segments.{distinct-body, distinct-both, stands}
use Rattle.script_laws.proofs.OpForms.{no_fault}

pub got-op : (ops : List Op) (i : ℕ) → i < length ops → slice_get ops i ≡ Some (op_at ops i)
got-op [] i l = absurd (omega arith)
got-op (op ∷ ops) zero l = refl
got-op (op ∷ ops) (suc i) l = got-op ops i (omega arith)

pub asked-by : (ops : List Op) (i : ℕ) → i < length ops → request_at ops (suc i) ≡ request_of (op_at ops i)
asked-by ops i l = ap request_by (got-op ops i l)

-- where a write's blocks are stored, wherever a shift moves them
abbrev pub Stored : Setting → Table → (i : ℕ) → Op → Type 0
Stored m t i op = (v n : ℕ) → request_of op ≡ Some (v, n) → v + n ≤ volume_len t.entries → AreStoredApart m i v n

pub spread-op : (m : Setting) (t : Table) (devices : List DeviceInfo) (dix : Bool) (pages size i : ℕ) (op : Op) → IsStackOp dix pages size op → op_fault t devices size op ≡ None → Stored m t i op → 0 < fates_of op → IsSpread m i op
spread-op m t devices dix pages size i (Fill seg byte) k h s l = absurd (omega arith)
spread-op m t devices dix pages size i (Put page off bytes) k h s l = absurd (omega arith)
spread-op m t devices dix pages size i (Show seg) k h s l = absurd (omega arith)
spread-op m t devices dix pages size i (Seal n body tuples app rtag) k h s l = absurd (omega arith)
spread-op m t devices dix pages size i (Write v n body app) k h s l = s v n refl (in-range t v n h)
spread-op m t devices dix pages size i (Fetch v n body) k h s l =
    let a = alone-of pages size n body (no_fault (data_fault pages size n body) _ _ k.rules) in
    distinct-body pages body (stands pages body a.body_is.inside) a.overlap
spread-op m t devices dix pages size i (WritePi v n body tuples) k h s l =
    let b = both-of pages size n body tuples (no_fault (both_fault pages size n body tuples) _ _ k.rules) in
    (s v n refl (in-range t v n h), distinct-both pages body tuples (stands pages body b.body_is.inside) (stands pages tuples b.tuples_are.inside) b.overlap)
spread-op m t devices dix pages size i (FetchPi v n body tuples) k h s l =
    let b = both-of pages size n body tuples (no_fault (both_fault pages size n body tuples) _ _ k.rules) in
    distinct-both pages body tuples (stands pages body b.body_is.inside) (stands pages tuples b.tuples_are.inside) b.overlap
spread-op m t devices dix pages size i (Overwrite dev lba change) k h s l = absurd (omega arith)
spread-op m t devices dix pages size i Wait k h s l = absurd (omega arith)
