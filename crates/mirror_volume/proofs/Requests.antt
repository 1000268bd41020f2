-- The requests of a mirror's script lie in its pages and on the mirror.
use Rattle.std.proofs.Common.{◌≡◌, ◌<◌, ◌≤◌, ℕ, zero, suc, ◌+◌, ◌*◌, Bool, true, false, not, eqb, ◌||◌, if◌then◌else◌, List, [], ◌∷◌, length, drop, map, refl, ap, arith, Some, None}
use Rattle.std.specs.Prelude.{nat_eq, nat_lt, slice_get}
use Rattle.std.specs.List.{IsDistinct, list_any}
use Rattle.std.proofs.lemmas.Bool.{eqb-true, ltb-false, or_parts}
use Rattle.std.proofs.lemmas.List.{length-drop, length-map}
use Rattle.std.proofs.lemmas.Map.Steps.{length-le_from_distinct_below}
use Rattle.page_pool.specs.declared.segs.Seg.{Seg}
use Rattle.page_pool.specs.Cells.{cell}
use Rattle.page_pool.specs.Places.{PageByte, places_in, total}
use Rattle.page_pool.specs.Walking.{AllStandIn}
use Rattle.page_pool.proofs.Placing.{length-places_in}
use Rattle.range_gate.specs.Cells.{cells_of}
use Rattle.rig_api.specs.declared.change.Change.{Change}
use Rattle.stack_ops.specs.declared.op.Op.{Op}
use Rattle.stack_ops.specs.declared.op.Op.TheVariants.{Overwrite}
use Rattle.volume_table.specs.declared.device.DeviceInfo.{DeviceInfo}
use Rattle.volume_table.specs.Places.{volume_len}
use Rattle.volume_table.specs.Tables.{Table}
use Rattle.script_lines.specs.declared.kind.ScriptKind.TheVariants.{BadFault, BadRange}
use Rattle.script_text.specs.Bindings.{is_alterable, is_bad_change, or_else}
use Rattle.rig_api.specs.Frames.{stored_size}
use Rattle.script_text.specs.declared.script.Script.{Script}
use Rattle.script_text.specs.Ops.{data_fault}
use Rattle.mirror_volume.proofs.LegsPassed.{IsChange, good-change, alone-of, if-none, op-keeps, distinct-body, stands, or-none, stack-op, line-none}
use Rattle.mirror_volume.specs.LegsPassed.{table_of, IsStackOp, faults_fault, length_fault, mode_fault, op_fault, ops_fault, range_fault}
use Rattle.mirror_volume.specs.MirrorScript.{IsPiece}
use Rattle.mirror_volume.specs.OnOps.{whole_request}
use Rattle.mirror_volume.specs.Standing.{IsBoundMirror, half_of, op_at}
use Rattle.script_lines.specs.declared.TheConstants.{MOST_MEMORY}

-- ---- an op is not at fault

none-at-fault : (protect : ℕ) (t : Table) (devices : List DeviceInfo) (size : ℕ) (ops : List Op) (lines : List ℕ) (i : ℕ) → length ops ≤ length lines → ops_fault protect t devices size ops lines ≡ None → i < length ops → op_fault protect t devices size (op_at ops i) ≡ None
none-at-fault protect t devices size [] lines i l h b = absurd (omega arith)
none-at-fault protect t devices size (op ∷ ops) [] i l h b = absurd (omega arith)
none-at-fault protect t devices size (op ∷ ops) (line ∷ lines) zero l h b = (line-none line (op_fault protect t devices size op) (ops_fault protect t devices size ops lines) h).0
none-at-fault protect t devices size (op ∷ ops) (line ∷ lines) (suc i) l h b =
    none-at-fault protect t devices size ops lines i (omega arith) (line-none line (op_fault protect t devices size op) (ops_fault protect t devices size ops lines) h).1 (omega arith)

pub op-fits : (s : Script) (devices : List DeviceInfo) (k : ℕ) → IsBoundMirror s devices → k < length s.ops → op_fault s.mode.protect (table_of s devices) devices s.block (op_at s.ops k) ≡ None
op-fits s devices k is l =
    let t = table_of s devices in
    let ops = ops_fault s.mode.protect t devices s.block s.ops (drop (length s.faults) s.lines) in
    let faults = faults_fault s.mode.protect (stored_size t.ty s.block) s.ops [] s.faults s.lines in
    let a = or-none (mode_fault s.mode t.ty) (or_else (length_fault (volume_len t.entries)) (or_else faults ops)) is.bound in
    let b = or-none (length_fault (volume_len t.entries)) (or_else faults ops) a.1 in
    let c = or-none faults ops b.1 in
    let lines = length-drop (length s.faults) s.lines in
    let total = is.lines in
    let many : length s.ops ≤ length (drop (length s.faults) s.lines) = omega arith in
    none-at-fault s.mode.protect t devices s.block s.ops (drop (length s.faults) s.lines) k many c.1 l

pub op-rules : (s : Script) (devices : List DeviceInfo) (k : ℕ) → IsBoundMirror s devices → k < length s.ops → IsStackOp s.mode.dix s.pages s.block (op_at s.ops k)
op-rules s devices k is l = stack-op s.mode.dix s.pages s.block (op_at s.ops k) (op-keeps s is.keeps k l)

-- what an overwrite changes is there, and what it copies
pub overwrite-fits : (protect : ℕ) (t : Table) (devices : List DeviceInfo) (size dev lba : ℕ) (change : Change) → op_fault protect t devices size (Overwrite dev lba change) ≡ None → IsChange devices t.ty size dev lba change
overwrite-fits protect t devices size dev lba change h =
    let bad = is_bad_change t devices size change || not (is_alterable t.ty size lba (slice_get devices dev)) in
    let a = if-none (not (eqb protect 1) || bad) BadFault None h in
    let b = (or_parts (not (eqb protect 1)) bad a.0).1 in
    good-change t devices size dev lba change (ap (λ c. if c then Some BadFault else None) b)

-- ---- a request

below-pages : (pages q : ℕ) (ps : List PageByte) → AllStandIn pages ps → list_any (eqb q) (map cell ps) ≡ true → q < 4096 * pages
below-pages pages q [] h a = absurd cc
below-pages pages q (p ∷ ps) h a = by (eqb q (cell p)) refl a (λ b. below-pages pages q ps h.1 b) where
  by : (c : Bool) → eqb q (cell p) ≡ c → c || list_any (eqb q) (map cell ps) ≡ true → (list_any (eqb q) (map cell ps) ≡ true → q < 4096 * pages) → q < 4096 * pages
  by true e b rest = let i = eqb-true q (cell p) e in let x = h.0.in_pool in let y = h.0.in_page in omega (arith, i, x, y)
  by false e b rest = rest b

-- n blocks from v on, and the data of as many in the pages
pub record IsRequest (s : Script) (half v n : ℕ) (body : List Seg) : Type 0 where
  pub some : 1 ≤ n
  pub room : n * s.block ≤ MOST_MEMORY
  pub inside : v + n ≤ half
  pub long : total body ≡ n * s.block
  pub stand : AllStandIn s.pages (places_in body)
  pub distinct : IsDistinct nat_eq (cells_of body)

-- the places of the data are different ones of the pages
few-bytes : (pages : ℕ) (body : List Seg) → AllStandIn pages (places_in body) → IsDistinct nat_eq (cells_of body) → total body ≤ 4096 * pages
few-bytes pages body h d =
    let l = length-le_from_distinct_below (cells_of body) (4096 * pages) d (λ q. below-pages pages q (places_in body) h) in
    let a = length-map (places_in body) cell in
    let b = length-places_in body in
    omega (arith, l, a, b)

pub request-fits : (s : Script) (devices : List DeviceInfo) (v n : ℕ) (body : List Seg) → IsBoundMirror s devices → data_fault s.pages s.block n body ≡ None → range_fault (half_of s devices) v n ≡ None → IsRequest s (half_of s devices) v n body
request-fits s devices v n body is good range =
    let a = alone-of s.pages s.block n body good in
    let half = half_of s devices in
    let r = if-none (nat_lt 1024 n || nat_lt half (v + n)) BadRange None range in
    let w = or_parts (nat_lt 1024 n) (nat_lt half (v + n)) r.0 in
    let stand = stands s.pages body a.body_is.inside in
    let distinct = distinct-body s.pages body stand a.overlap in
    let few = few-bytes s.pages body stand distinct in
    let pages = is.keeps.pages_are.high_is in
    let long = a.body_is.long in
    record {
      some = a.body_is.some;
      room = omega (arith, few, pages, long);
      inside = ltb-false half (v + n) w.1;
      long = long;
      stand = stand;
      distinct = distinct;
    }

pub whole-piece : (s : Script) (half op v n : ℕ) (body : List Seg) → IsRequest s half v n body → IsPiece s.block half (whole_request op v n)
whole-piece s half op v n body h = record { some = h.some; room = h.room; inside = h.inside }
