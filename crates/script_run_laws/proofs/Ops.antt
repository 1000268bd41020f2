-- Each op of a bound script lies in the pages and in the volume, and is a request of some blocks, or done whole; each block of a request has a log.
use Rattle.std.proofs.Common.{◌≡◌, ◌<◌, ◌≤◌, ◌⊎◌, ℕ, zero, suc, ◌+◌, ◌*◌, Bool, true, false, ◌&&◌, List, [], ◌∷◌, length, get_or, refl, sym, ap, ◌∙◌, subst, inl, inr, arith, Option, Some, None}
use Rattle.std.specs.Prelude.{nat_le, nat_lt}
use Rattle.std.proofs.lemmas.Bool.{and_parts, ltb-false}
use Rattle.std.proofs.lemmas.List.Elements.{All-append}
use Rattle.integrity_payload.specs.declared.payload.Owner.TheVariants.{App as OfApp, Block as OfBlock}
use Rattle.page_pool.specs.Places.{total}
use Rattle.range_gate.specs.Cells.{cells_of}
use Rattle.volume_table.specs.declared.device.DeviceInfo.{DeviceInfo}
use Rattle.volume_table.specs.declared.entry.Entry.{Entry}
use Rattle.volume_table.specs.Places.{volume_len}
use Rattle.volume_table.specs.Tables.{MadeFor, Table}
use Rattle.run_laws.specs.Passed.{AreVolumeBlocks, Setting, block_of, Reads, Step, Writes, WritesPi, body_of, frame_at, steps_of, put_seg, touches, Op, Fetch, FetchPi, Fill, Overwrite, Put, Seal, Show, Wait, Write, WritePi}
use Rattle.run_laws.specs.OpsApart.{IsPlaced}
use Rattle.run_laws.specs.ScriptMoves.{fates_of}
use Rattle.run_laws.specs.EarlierWrites.{HasLog}
use Rattle.stack_walk_laws.specs.Gate.{AllPlaced, IsAlone as IsNoRequest}
use Rattle.stack_walk_laws.specs.Spots.{no_step, op_in as op_at}
use Rattle.stack_walk_laws.proofs.Spots.{each_first}
use Rattle.script_laws.specs.Passed.{ScriptFault, Script, at_line, op_fault, ops_fault, range_fault, both_fault, data_fault, is_inside, ScriptKind, BadRange}
use Rattle.script_laws.specs.Keeping.{Each}
use Rattle.script_laws.proofs.OpForms.{no_fault, found_inside}
use Rattle.script_run_laws.specs.Bound.{IsSettingOf}
use Rattle.script_run_laws.specs.SuitsStack.{IsStackOp}
use Rattle.stack_walk_laws.specs.Seals.{IsSealed}
use Rattle.script_run_laws.proofs.Bodies.{alone-of, both-of, if-none}
use Rattle.script_run_laws.proofs.Places.{home-logged}
use Rattle.script_run_laws.proofs.Segments.{cells-below, none-below, one-stands, pages-append, stands, touched-in-pages}

-- ---- an op in the volume

pub in-range : (t : Table) (v n : ℕ) → range_fault t (Some (v, n)) ≡ None → v + n ≤ volume_len t.entries
in-range t v n h =
    let a = if-none (nat_lt (volume_len t.entries) (v + n)) BadRange None h in
    ltb-false (volume_len t.entries) (v + n) a.0

blocks-of : (m : Setting) (t : Table) (size v n bytes : ℕ) → m.size ≡ size → m.entries ≡ t.entries → bytes ≡ n * size → v + n ≤ volume_len t.entries → AreVolumeBlocks m v n bytes
blocks-of m t size v n bytes z e l w =
    record { within = subst (λ (es : List Entry). v + n ≤ volume_len es) (sym e) w; bytes_are = l ∙ ap (λ k. n * k) (sym z) }

pub eights : (n bytes : ℕ) → bytes ≡ 8 * n → bytes ≡ n * 8
eights n bytes h = omega arith

pub placed-op : (m : Setting) (t : Table) (devices : List DeviceInfo) (dix : Bool) (pages size : ℕ) (op : Op) → m.size ≡ size → m.entries ≡ t.entries → IsStackOp dix pages size op → op_fault t devices size op ≡ None → IsPlaced m (4096 * pages) op
placed-op m t devices dix pages size (Fill seg byte) z e k h =
    let st = one-stands pages seg (found_inside (is_inside pages seg) _ _ k.rules) in
    record { in_pages = touched-in-pages pages true (seg ∷ []) st; reads = none-below (4096 * pages); writes = cells-below pages (seg ∷ []) st; blocks = tt }
placed-op m t devices dix pages size (Put page off bytes) z e k h =
    let st = one-stands pages (put_seg page off bytes) (found_inside (is_inside pages (put_seg page off bytes)) _ _ k.rules) in
    record { in_pages = touched-in-pages pages true (put_seg page off bytes ∷ []) st; reads = none-below (4096 * pages); writes = cells-below pages (put_seg page off bytes ∷ []) st; blocks = tt }
placed-op m t devices dix pages size (Show seg) z e k h =
    let st = one-stands pages seg (and_parts (is_inside pages seg) (nat_le seg.len 64) (found_inside (is_inside pages seg && nat_le seg.len 64) _ _ k.rules)).0 in
    record { in_pages = touched-in-pages pages false (seg ∷ []) st; reads = cells-below pages (seg ∷ []) st; writes = none-below (4096 * pages); blocks = tt }
placed-op m t devices dix pages size (Seal n body tuples app rtag) z e k h =
    let b = both-of pages size n body tuples (no_fault (both_fault pages size n body tuples) _ _ k.rules) in
    let p = stands pages body b.body_is.inside in
    let q = stands pages tuples b.tuples_are.inside in
    record {
      in_pages = pages-append (touches false body) (touches true tuples) (touched-in-pages pages false body p) (touched-in-pages pages true tuples q);
      reads = cells-below pages body p;
      writes = cells-below pages tuples q;
      blocks = tt;
    }
placed-op m t devices dix pages size (Write v n body app) z e k h =
    let a = alone-of pages size n body (no_fault (data_fault pages size n body) _ _ k.rules) in
    let p = stands pages body a.body_is.inside in
    record { in_pages = touched-in-pages pages false body p; reads = cells-below pages body p; writes = none-below (4096 * pages); blocks = blocks-of m t size v n (total body) z e a.body_is.long (in-range t v n h) }
placed-op m t devices dix pages size (Fetch v n body) z e k h =
    let a = alone-of pages size n body (no_fault (data_fault pages size n body) _ _ k.rules) in
    let p = stands pages body a.body_is.inside in
    record { in_pages = touched-in-pages pages true body p; reads = none-below (4096 * pages); writes = cells-below pages body p; blocks = blocks-of m t size v n (total body) z e a.body_is.long (in-range t v n h) }
placed-op m t devices dix pages size (WritePi v n body tuples) z e k h =
    let b = both-of pages size n body tuples (no_fault (both_fault pages size n body tuples) _ _ k.rules) in
    let p = stands pages body b.body_is.inside in
    let q = stands pages tuples b.tuples_are.inside in
    record {
      in_pages = pages-append (touches false body) (touches true tuples) (touched-in-pages pages false body p) (touched-in-pages pages true tuples q);
      reads = cells-below pages body p;
      writes = cells-below pages tuples q;
      blocks = (blocks-of m t size v n (total body) z e b.body_is.long (in-range t v n h), eights n (total tuples) b.tuples_are.long);
    }
placed-op m t devices dix pages size (FetchPi v n body tuples) z e k h =
    let b = both-of pages size n body tuples (no_fault (both_fault pages size n body tuples) _ _ k.rules) in
    let p = stands pages body b.body_is.inside in
    let q = stands pages tuples b.tuples_are.inside in
    record {
      in_pages = pages-append (touches true body) (touches true tuples) (touched-in-pages pages true body p) (touched-in-pages pages true tuples q);
      reads = none-below (4096 * pages);
      writes = All-append (λ i. i < 4096 * pages) (cells_of body) (cells_of tuples) (cells-below pages body p) (cells-below pages tuples q);
      blocks = (blocks-of m t size v n (total body) z e b.body_is.long (in-range t v n h), eights n (total tuples) b.tuples_are.long);
    }
placed-op m t devices dix pages size (Overwrite dev lba change) z e k h = record { in_pages = tt; reads = none-below (4096 * pages); writes = none-below (4096 * pages); blocks = tt }
placed-op m t devices dix pages size Wait z e k h = record { in_pages = tt; reads = none-below (4096 * pages); writes = none-below (4096 * pages); blocks = tt }

-- ---- all ops

pub line-none : (line : ℕ) (k : Option ScriptKind) (rest : Option ScriptFault) → at_line line k rest ≡ None → (k ≡ None) × (rest ≡ None)
line-none line None rest h = (refl, h)
line-none line (Some k) rest h = absurd cc

pub placed-all : (m : Setting) (t : Table) (devices : List DeviceInfo) (dix : Bool) (pages size : ℕ) (ops : List Op) (lines : List ℕ) → m.size ≡ size → m.entries ≡ t.entries → length ops ≤ length lines → Each (IsStackOp dix pages size) ops → ops_fault t devices size ops lines ≡ None → AllPlaced m (4096 * pages) ops
placed-all m t devices dix pages size [] lines z e l k h = tt
placed-all m t devices dix pages size (op ∷ ops) [] z e l k h = absurd (omega arith)
placed-all m t devices dix pages size (op ∷ ops) (line ∷ lines) z e l k h =
    let p = line-none line (op_fault t devices size op) (ops_fault t devices size ops lines) h in
    (placed-op m t devices dix pages size op z e k.0 p.0, placed-all m t devices dix pages size ops lines z e (omega arith) k.1 p.1)

pub no-fault : (t : Table) (devices : List DeviceInfo) (size : ℕ) (ops : List Op) (lines : List ℕ) (i : ℕ) → length ops ≤ length lines → ops_fault t devices size ops lines ≡ None → i < length ops → op_fault t devices size (op_at ops i) ≡ None
no-fault t devices size [] lines i l h b = absurd (omega arith)
no-fault t devices size (op ∷ ops) [] i l h b = absurd (omega arith)
no-fault t devices size (op ∷ ops) (line ∷ lines) zero l h b = (line-none line (op_fault t devices size op) (ops_fault t devices size ops lines) h).0
no-fault t devices size (op ∷ ops) (line ∷ lines) (suc i) l h b = no-fault t devices size ops lines i (omega arith) (line-none line (op_fault t devices size op) (ops_fault t devices size ops lines) h).1 (omega arith)

pub each-at : (P : Op → Type 0) (ops : List Op) (i : ℕ) → Each P ops → i < length ops → P (op_at ops i)
each-at P [] i h b = absurd (omega arith)
each-at P (op ∷ ops) zero h b = h.0
each-at P (op ∷ ops) (suc i) h b = each-at P ops i h.1 (omega arith)

pub rules-at : (dix : Bool) (pages size : ℕ) (ops : List Op) (i : ℕ) → Each (IsStackOp dix pages size) ops → i < length ops → IsStackOp dix pages size (op_at ops i)
rules-at dix pages size ops i h b = each-at (IsStackOp dix pages size) ops i h b

-- ---- kinds of ops

pub at-least-one : (n : ℕ) → 1 ≤ n → 0 < n
at-least-one n h = omega arith

pub kind-of : (dix : Bool) (pages size : ℕ) (op : Op) → IsStackOp dix pages size op → IsNoRequest op ⊎ (0 < fates_of op)
kind-of dix pages size (Fill seg byte) k = inl tt
kind-of dix pages size (Put page off bytes) k = inl tt
kind-of dix pages size (Show seg) k = inl tt
kind-of dix pages size (Seal n body tuples app rtag) k = inl tt
kind-of dix pages size (Write v n body app) k = inr (at-least-one n (alone-of pages size n body (no_fault (data_fault pages size n body) _ _ k.rules)).body_is.some)
kind-of dix pages size (Fetch v n body) k = inr (at-least-one n (alone-of pages size n body (no_fault (data_fault pages size n body) _ _ k.rules)).body_is.some)
kind-of dix pages size (WritePi v n body tuples) k = inr (at-least-one n (both-of pages size n body tuples (no_fault (both_fault pages size n body tuples) _ _ k.rules)).body_is.some)
kind-of dix pages size (FetchPi v n body tuples) k = inr (at-least-one n (both-of pages size n body tuples (no_fault (both_fault pages size n body tuples) _ _ k.rules)).body_is.some)
kind-of dix pages size (Overwrite dev lba change) k = inl tt
kind-of dix pages size Wait k = inl tt

-- ---- what a `seal` takes

pub seal-of : (m : Setting) (dix : Bool) (pages size : ℕ) (op : Op) → m.size ≡ size → IsStackOp dix pages size op → IsSealed m op
seal-of m dix pages size (Fill seg byte) z k = tt
seal-of m dix pages size (Put page off bytes) z k = tt
seal-of m dix pages size (Show seg) z k = tt
seal-of m dix pages size (Seal n body tuples app rtag) z k =
    let b = both-of pages size n body tuples (no_fault (both_fault pages size n body tuples) _ _ k.rules) in
    b.body_is.long ∙ ap (λ x. n * x) (sym z)
seal-of m dix pages size (Write v n body app) z k = tt
seal-of m dix pages size (Fetch v n body) z k = tt
seal-of m dix pages size (WritePi v n body tuples) z k = tt
seal-of m dix pages size (FetchPi v n body tuples) z k = tt
seal-of m dix pages size (Overwrite dev lba change) z k = tt
seal-of m dix pages size Wait z k = tt

-- ---- logs

pub logged-op : (m : Setting) (s : Script) (t : Table) (devices : List DeviceInfo) (logs i k : ℕ) (op : Op) → MadeFor t devices s.block → IsSettingOf m s t devices logs → op_fault t devices s.block op ≡ None → k < fates_of op → HasLog m logs (get_or (steps_of m i op) k no_step)
logged-op m s t devices logs i k (Fill seg byte) made is h l = absurd (omega arith)
logged-op m s t devices logs i k (Put page off bytes) made is h l = absurd (omega arith)
logged-op m s t devices logs i k (Show seg) made is h l = absurd (omega arith)
logged-op m s t devices logs i k (Seal n body tuples app rtag) made is h l = absurd (omega arith)
logged-op m s t devices logs i k (Write v n body app) made is h l =
    let w = in-range t v n h in
    subst (λ (x : Step). HasLog m logs x) (sym (each_first n (λ j. Writes (block_of i v j) app (body_of m.size body j)) k no_step l)) (home-logged m s t devices logs (v + k) made is (omega arith))
logged-op m s t devices logs i k (Fetch v n body) made is h l =
    let w = in-range t v n h in
    subst (λ (x : Step). HasLog m logs x) (sym (each_first n (λ j. Reads (block_of i v j) OfBlock (body_of m.size body j)) k no_step l)) (home-logged m s t devices logs (v + k) made is (omega arith))
logged-op m s t devices logs i k (WritePi v n body tuples) made is h l =
    let w = in-range t v n h in
    subst (λ (x : Step). HasLog m logs x) (sym (each_first n (λ j. WritesPi (block_of i v j) (frame_at m.size body tuples j)) k no_step l)) (home-logged m s t devices logs (v + k) made is (omega arith))
logged-op m s t devices logs i k (FetchPi v n body tuples) made is h l =
    let w = in-range t v n h in
    subst (λ (x : Step). HasLog m logs x) (sym (each_first n (λ j. Reads (block_of i v j) OfApp (frame_at m.size body tuples j)) k no_step l)) (home-logged m s t devices logs (v + k) made is (omega arith))
logged-op m s t devices logs i k (Overwrite dev lba change) made is h l = absurd (omega arith)
logged-op m s t devices logs i k Wait made is h l = absurd (omega arith)
