-- Footprints as cells.
use Rattle.std.proofs.Common.{◌≡◌, ℕ, zero, suc, ◌+◌, ◌<◌, ◌≤◌, ◌⊎◌, inl, inr, Bool, true, false, ◌||◌, eqb, List, [], ◌∷◌, ◌++◌, map, Option, Some, None, refl, sym, ◌∙◌, ⊎_elim, arith}
use Rattle.std.specs.List.{Contains}
use Rattle.std.proofs.lemmas.Bool.{cases_Bool, eqb-true, false_from_ne_true, or_cases}
use Rattle.page_pool.specs.Places.{PageByte, IsAmong, places_in, places_of}
use Rattle.page_pool.specs.Walking.{InPages}
use Rattle.range_gate.specs.declared.footprint.Reach.{Reach}
use Rattle.range_gate.specs.declared.footprint.Touch.{Touch}
use Rattle.range_gate.specs.declared.footprint.Footprint.{Footprint}
use Rattle.range_gate.specs.Prints.{is_same}
use Rattle.range_gate.specs.Conflicts.{Conflict, ShareBlock, ShareByte}
use Rattle.page_pool.specs.Cells.{cell, is_in, share_a_cell}
use Rattle.page_pool.proofs.Celled.{same_cell}
use Rattle.range_gate.specs.Cells.{AllInPages, Cells, block_cells, byte_cells, cells_clash, cells_of, in_turn, on_side, segs_that}
use Rattle.range_gate.proofs.Layouts.{behind, first, same_of}

abbrev In : ℕ → List ℕ → Type 0
In i [] = ⊥
In i (j ∷ js) = (i ≡ j) ⊎ In i js

in_by : (i : ℕ) (js : List ℕ) → is_in i js ≡ true → In i js
in_by i [] e = absurd (cc)
in_by i (j ∷ js) e = ⊎_elim (λ (a : eqb i j ≡ true). inl (eqb-true i j a)) (λ (a : is_in i js ≡ true). inr (in_by i js a)) (or_cases (eqb i j) (is_in i js) e)

abbrev Both : List ℕ → List ℕ → Type 0
Both is js = (i : ℕ) × In i is × In i js

both_by : (is js : List ℕ) → share_a_cell is js ≡ true → Both is js
both_by [] js e = absurd (cc)
both_by (i ∷ is) js e =
    ⊎_elim
    (λ (a : is_in i js ≡ true). (i, inl refl, in_by i js a))
    (λ (a : share_a_cell is js ≡ true). let r = both_by is js a in (r.0, inr r.1, r.2))
    (or_cases (is_in i js) (share_a_cell is js) e)

-- ---- blocks

turns : (v n i : ℕ) → In i (in_turn v n) → (v ≤ i) × (i < v + n)
turns v zero i h = absurd h
turns v (suc n) i (inl h) = (omega arith, omega arith)
turns v (suc n) i (inr h) = let r = turns (suc v) n i h in let a = r.0 in let b = r.1 in (omega arith, omega arith)

abbrev Reached : Bool → Option Reach → ℕ → Type 0
Reached w x i = (r : Reach) × (x ≡ Some r) × (r.first ≤ i) × (i < r.first + r.count) × (r.writes ≡ w)

written_out : (b : Bool) (r : Reach) (i : ℕ) → r.writes ≡ b → In i (on_side b (in_turn r.first r.count)).writes → Reached true (Some r) i
written_out true r i e h = let t = turns r.first r.count i h in (r, refl, t.0, t.1, e)
written_out false r i e h = absurd h

read_out : (b : Bool) (r : Reach) (i : ℕ) → r.writes ≡ b → In i (on_side b (in_turn r.first r.count)).reads → Reached false (Some r) i
read_out true r i e h = absurd h
read_out false r i e h = let t = turns r.first r.count i h in (r, refl, t.0, t.1, e)

block_written : (x : Option Reach) (i : ℕ) → In i (block_cells x).writes → Reached true x i
block_written None i h = absurd h
block_written (Some r) i h = written_out r.writes r i refl h

block_read : (x : Option Reach) (i : ℕ) → In i (block_cells x).reads → Reached false x i
block_read None i h = absurd h
block_read (Some r) i h = read_out r.writes r i refl h

share_block : (w v : Bool) (f g : Footprint) (i : ℕ) → (w || v) ≡ true → Reached w f.blocks i → Reached v g.blocks i → ShareBlock f g
share_block w v f g i e a b = (
  i,
  (a.0, a.1, a.2, a.3),
  (b.0, b.1, b.2, b.3),
  ⊎_elim (λ (x : w ≡ true). inl (a.0, a.1, a.2, a.3, a.4 ∙ x)) (λ (x : v ≡ true). inr (b.0, b.1, b.2, b.3, b.4 ∙ x)) (or_cases w v e),
)

blocks_shared : (f g : Footprint) → cells_clash (block_cells f.blocks) (block_cells g.blocks) ≡ true → ShareBlock f g
blocks_shared f g e =
    ⊎_elim
    (λ (a : share_a_cell (block_cells f.blocks).reads (block_cells g.blocks).writes ≡ true).
    let r = both_by _ _ a in share_block false true f g r.0 refl (block_read f.blocks r.0 r.1) (block_written g.blocks r.0 r.2))
    (λ (a : (share_a_cell (block_cells g.blocks).reads (block_cells f.blocks).writes || share_a_cell (block_cells f.blocks).writes (block_cells g.blocks).writes) ≡ true).
    ⊎_elim
    (λ (b : share_a_cell (block_cells g.blocks).reads (block_cells f.blocks).writes ≡ true).
    let r = both_by _ _ b in share_block true false f g r.0 refl (block_written f.blocks r.0 r.2) (block_read g.blocks r.0 r.1))
    (λ (b : share_a_cell (block_cells f.blocks).writes (block_cells g.blocks).writes ≡ true).
    let r = both_by _ _ b in share_block true true f g r.0 refl (block_written f.blocks r.0 r.1) (block_written g.blocks r.0 r.2))
    (or_cases _ _ a))
    (or_cases _ _ e)

-- ---- bytes

abbrev Held : Bool → List Touch → ℕ → Type 0
Held w ts i = (t : Touch) × (b : PageByte) × Contains ts t × (t.writes ≡ w) × IsAmong (places_of t.seg) b × (b.off < 4096) × (i ≡ cell b)

abbrev At : List PageByte → ℕ → Type 0
At ps i = (b : PageByte) × IsAmong ps b × (b.off < 4096) × (i ≡ cell b)

held_place : (ps : List PageByte) (i : ℕ) → InPages ps → In i (map cell ps) → At ps i
held_place [] i p h = absurd h
held_place (b ∷ ps) i p (inl h) = (b, inl refl, p.0, h)
held_place (b ∷ ps) i p (inr h) = let r = held_place ps i p.1 h in (r.0, inr r.1, r.2, r.3)

either : (ps qs : List PageByte) (i : ℕ) → In i (map cell (ps ++ qs)) → In i (map cell ps) ⊎ In i (map cell qs)
either [] qs i h = inr h
either (b ∷ ps) qs i (inl h) = inl (inl h)
either (b ∷ ps) qs i (inr h) = elim (either ps qs i h) [ inl k ↦ inl (inr k) | inr k ↦ inr k ]

left_pages : (ps qs : List PageByte) → InPages (ps ++ qs) → InPages ps
left_pages [] qs h = tt
left_pages (p ∷ ps) qs h = (h.0, left_pages ps qs h.1)

held : (w : Bool) (ts : List Touch) (i : ℕ) → AllInPages ts → In i (cells_of (segs_that w ts)) → Held w ts i
held w [] i p h = absurd h
held w (t ∷ ts) i p h =
    ⊎_elim
    (λ (y : is_same t.writes w ≡ true).
    let k : In i (map cell (places_of t.seg ++ places_in (segs_that w ts))) = rw y at h in
    ⊎_elim
    (λ (a : In i (map cell (places_of t.seg))).
    let r = held_place (places_of t.seg) i (left_pages (places_of t.seg) [] p.0) a in
    (t, r.0, first t ts, same_of t.writes w y, r.1, r.2, r.3))
    (λ (a : In i (cells_of (segs_that w ts))). let r = held w ts i p.1 a in (r.0, r.1, behind t r.0 ts r.2, r.3, r.4, r.5, r.6))
    (either (places_of t.seg) (places_in (segs_that w ts)) i k))
    (λ (n : is_same t.writes w ≡ false).
    let k : In i (cells_of (segs_that w ts)) = rw n at h in
    let r = held w ts i p.1 k in (r.0, r.1, behind t r.0 ts r.2, r.3, r.4, r.5, r.6))
    (cases_Bool (is_same t.writes w))

among_same : (t : Touch) (b c : PageByte) → b ≡ c → IsAmong (places_of t.seg) b → IsAmong (places_of t.seg) c
among_same t b c e h = rw e at h

share_byte : (w v : Bool) (f g : Footprint) (i : ℕ) → (w || v) ≡ true → Held w f.bytes i → Held v g.bytes i → ShareByte f g
share_byte w v f g i e a b =
    let s = same_cell b.1 a.1 b.5 a.5 (sym b.6 ∙ a.6) in
    let m = among_same b.0 b.1 a.1 s b.4 in (
      a.1,
      (a.0, a.2, a.4),
      (b.0, b.2, m),
      ⊎_elim (λ (x : w ≡ true). inl (a.0, a.2, a.3 ∙ x, a.4)) (λ (x : v ≡ true). inr (b.0, b.2, b.3 ∙ x, m)) (or_cases w v e),
    )

bytes_shared : (f g : Footprint) → AllInPages f.bytes → AllInPages g.bytes → cells_clash (byte_cells f.bytes) (byte_cells g.bytes) ≡ true → ShareByte f g
bytes_shared f g p q e =
    ⊎_elim
    (λ (a : share_a_cell (cells_of (segs_that false f.bytes)) (cells_of (segs_that true g.bytes)) ≡ true).
    let r = both_by _ _ a in share_byte false true f g r.0 refl (held false f.bytes r.0 p r.1) (held true g.bytes r.0 q r.2))
    (λ (a : (share_a_cell (cells_of (segs_that false g.bytes)) (cells_of (segs_that true f.bytes)) || share_a_cell (cells_of (segs_that true f.bytes)) (cells_of (segs_that true g.bytes))) ≡ true).
    ⊎_elim
    (λ (b : share_a_cell (cells_of (segs_that false g.bytes)) (cells_of (segs_that true f.bytes)) ≡ true).
    let r = both_by _ _ b in share_byte true false f g r.0 refl (held true f.bytes r.0 p r.2) (held false g.bytes r.0 q r.1))
    (λ (b : share_a_cell (cells_of (segs_that true f.bytes)) (cells_of (segs_that true g.bytes)) ≡ true).
    let r = both_by _ _ b in share_byte true true f g r.0 refl (held true f.bytes r.0 p r.1) (held true g.bytes r.0 q r.2))
    (or_cases _ _ a))
    (or_cases _ _ e)

-- ---- no conflict

pub none_alone : (f g : Footprint) → ¬ Conflict f g → (f.alone ≡ false) × (g.alone ≡ false)
none_alone f g n = (false_from_ne_true f.alone (λ h. n (inl h)), false_from_ne_true g.alone (λ h. n (inr (inl h))))

pub no_block : (f g : Footprint) → ¬ Conflict f g → cells_clash (block_cells f.blocks) (block_cells g.blocks) ≡ false
no_block f g n = false_from_ne_true _ (λ h. n (inr (inr (inl (blocks_shared f g h)))))

pub no_byte : (f g : Footprint) → AllInPages f.bytes → AllInPages g.bytes → ¬ Conflict f g → cells_clash (byte_cells f.bytes) (byte_cells g.bytes) ≡ false
no_byte f g p q n = false_from_ne_true _ (λ h. n (inr (inr (inr (bytes_shared f g p q h)))))
