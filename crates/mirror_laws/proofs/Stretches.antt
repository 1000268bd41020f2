-- A repair stretch by stretch. What one block's repair writes is read of no other block.
use Rattle.std.proofs.Common.{◌≡◌, ◌<◌, ◌≤◌, ℕ, zero, suc, ◌+◌, Bool, true, false, List, [], ◌∷◌, get_or, set, Option, Some, None, refl, sym, ap, ◌∙◌, arith}
use Rattle.std.specs.Prelude.{Result, Ok, Err}
use Rattle.std.proofs.lemmas.List.{get_or-set_other}
use Rattle.bio_core.specs.declared.fate.Why.{Why}
use Rattle.integrity_payload.specs.declared.payload.Owner.TheVariants.{Block as OfBlock}
use Rattle.block_path.specs.Blocks.{stored_cell}
use Rattle.block_path.specs.WayIn.{delivered_of, way_in}
use Rattle.walk_laws.specs.Past.{brought_by}
use Rattle.walk_laws.specs.Settings.{Block, Setting, route}
use Rattle.walk_laws.specs.UnderMap.{home}
use Rattle.walk_laws.proofs.EachFrom.{each_same}
use Rattle.mirror_laws.specs.Mirror.{fresh, is_none, marks_of}
use Rattle.mirror_laws.specs.declared.marks.Marks.{Marks}
use Rattle.mirror_laws.specs.OnLegs.{stored_at, why_of, written}
use Rattle.mirror_laws.specs.Repair.{WalkedRepair, good, mended, on_leg0, on_leg1, reading, repair_block, repair_from, repaired_by, steady, writing}
use Rattle.mirror_laws.specs.LegByLeg.{HasLegs}
use Rattle.mirror_laws.specs.Stretches.{ByStretch, Need, accepted_of, after_due, due, due_data, good0, good1, lost_of, marks_mended, needs, repaired_each, stretch_repaired, whys_due}
use Rattle.mirror_laws.proofs.WriteByLegs.{fetched_home, homes_apart, stored_home}

-- one stretch after another
pub repair_join : (m : Setting) (half u n k : ℕ) (r : WalkedRepair) → repair_from m half u (n + k) r ≡ repair_from m half (u + n) k (repair_from m half u n r)
repair_join m half u zero k r =
    let e : u ≡ u + 0 = omega arith in
    let z : 0 + k ≡ k = omega arith in
    ap (λ j. repair_from m half u j r) z ∙ ap (λ w. repair_from m half w k r) e
repair_join m half u (suc n) k r =
    let e : suc u + n ≡ u + suc n = omega arith in
    let z : suc n + k ≡ suc (n + k) = omega arith in
    ap (λ j. repair_from m half u j r) z ∙ repair_join m half (suc u) n k (repair_block m half u r) ∙ ap (λ w. repair_from m half w k (repair_from m half (suc u) n (repair_block m half u r))) e

module _ (m : Setting) (half : ℕ) (legs : HasLegs m half) where
  -- what a block's repair leaves alone
  record Same (w : ℕ) (r now : WalkedRepair) : Type 0 where
    marks : marks_of now.marks w ≡ marks_of r.marks w
    on0 : get_or now.blocks (home m w) [] ≡ get_or r.blocks (home m w) []
    on1 : get_or now.blocks (home m (half + w)) [] ≡ get_or r.blocks (home m (half + w)) []

  module _ (u w : ℕ) (lu : u < half) (lw : w < half) (off : u ≡ w → ⊥) where
    mended_same : (b : Block) (mark : Bool → Marks → Marks) (came : Result (List ℕ) Why) (r : WalkedRepair) → b.virt < half + half → (b.virt ≡ w → ⊥) → (b.virt ≡ half + w → ⊥) → Same w r (mended m u b mark came r)
    mended_same b mark (Ok stored) r l p q = record {
      marks = get_or-set_other r.marks u w (mark true (marks_of r.marks u)) fresh (λ e. off (sym e));
      on0 = get_or-set_other r.blocks (stored_cell m.site (route m b)) (home m w) (m.site.device.leaves (route m b) (get_or r.blocks (stored_cell m.site (route m b)) []) stored) [] (λ e. homes_apart m half legs b.virt w l (omega (arith, lw)) p (sym (stored_home m half legs b) ∙ sym e));
      on1 = get_or-set_other r.blocks (stored_cell m.site (route m b)) (home m (half + w)) (m.site.device.leaves (route m b) (get_or r.blocks (stored_cell m.site (route m b)) []) stored) [] (λ e. homes_apart m half legs b.virt (half + w) l (omega (arith, lw)) q (sym (stored_home m half legs b) ∙ sym e));
    }
    mended_same b mark (Err why) r l p q = record { marks = get_or-set_other r.marks u w (mark false (marks_of r.marks u)) fresh (λ e. off (sym e)); on0 = refl; on1 = refl }

    repaired_same : (one other : Option (List ℕ)) (r : WalkedRepair) → Same w r (repaired_by m half u one other r)
    repaired_same None None r = record { marks = refl; on0 = refl; on1 = refl }
    repaired_same (Some frame) None r =
        mended_same (on_leg1 half u) (λ bit old. record old { leg1 = bit }) (writing m (on_leg1 half u) (brought_by m.size frame)) r (omega (arith, lu)) (λ e. omega (arith, e, lw)) (λ e. off (omega (arith, e)))
    repaired_same None (Some frame) r =
        mended_same (on_leg0 u) (λ bit old. record old { leg0 = bit }) (writing m (on_leg0 u) (brought_by m.size frame)) r (omega (arith, lu)) off (λ e. omega (arith, e, lu))
    repaired_same (Some frame) (Some other) r = record { marks = refl; on0 = refl; on1 = refl }

  -- so a reading of another block
  reading_at : (b : Block) (x y : List (List ℕ)) → get_or x (home m b.virt) [] ≡ get_or y (home m b.virt) [] → reading m b x ≡ reading m b y
  reading_at b x y e =
      ap (λ stored. delivered_of (way_in m.site.faults m.site.device (route m b) OfBlock stored))
      (ap (λ c. get_or x c []) (fetched_home m half legs b) ∙ e ∙ ap (λ c. get_or y c []) (sym (fetched_home m half legs b)))

  good_same0 : (w : ℕ) (r now : WalkedRepair) → Same w r now → good (marks_of now.marks w).leg0 (reading m (on_leg0 w) now.blocks) ≡ good (marks_of r.marks w).leg0 (reading m (on_leg0 w) r.blocks)
  good_same0 w r now h = ap (λ (k : Marks). good k.leg0 (reading m (on_leg0 w) now.blocks)) h.marks ∙ ap (good (marks_of r.marks w).leg0) (reading_at (on_leg0 w) now.blocks r.blocks h.on0)

  good_same1 : (w : ℕ) (r now : WalkedRepair) → Same w r now → good (marks_of now.marks w).leg1 (reading m (on_leg1 half w) now.blocks) ≡ good (marks_of r.marks w).leg1 (reading m (on_leg1 half w) r.blocks)
  good_same1 w r now h = ap (λ (k : Marks). good k.leg1 (reading m (on_leg1 half w) now.blocks)) h.marks ∙ ap (good (marks_of r.marks w).leg1) (reading_at (on_leg1 half w) now.blocks r.blocks h.on1)

  pub by_stretch : (u n : ℕ) (r : WalkedRepair) → u + n ≤ half → repair_from m half u n r ≡ stretch_repaired m half u n r
  by_stretch u zero r l = refl
  by_stretch u (suc n) r l =
      let now = repair_block m half u r in
      let same = λ (w : ℕ) (k : suc u ≤ w) (t : w < suc u + n). repaired_same u w (omega (arith, l)) (omega (arith, l, t)) (λ e. omega (arith, e, k))
      (good (marks_of r.marks u).leg0 (reading m (on_leg0 u) r.blocks)) (good (marks_of r.marks u).leg1 (reading m (on_leg1 half u) r.blocks)) r in
      by_stretch (suc u) n now (omega (arith, l))
      ∙ ap (λ gs. repaired_each m half (suc u) gs (good1 m half (suc u) n now) now)
      (each_same (suc u) n (λ w. good (marks_of now.marks w).leg0 (reading m (on_leg0 w) now.blocks)) (λ w. good (marks_of r.marks w).leg0 (reading m (on_leg0 w) r.blocks)) (λ w k t. good_same0 w r now (same w k t)))
      ∙ ap (λ gs. repaired_each m half (suc u) (good0 m half (suc u) n r) gs now)
      (each_same (suc u) n (λ w. good (marks_of now.marks w).leg1 (reading m (on_leg1 half w) now.blocks)) (λ w. good (marks_of r.marks w).leg1 (reading m (on_leg1 half w) r.blocks)) (λ w k t. good_same1 w r now (same w k t)))

-- the same state by equal counts
abbrev with_counts : List (List ℕ) → List Marks → (repaired lost : ℕ) → WalkedRepair
with_counts blocks marks a c = record { blocks = blocks; marks = marks; repaired = a; lost = c }

counted : (blocks : List (List ℕ)) (marks : List Marks) (a b c d : ℕ) → a ≡ b → c ≡ d → with_counts blocks marks a c ≡ with_counts blocks marks b d
counted blocks marks a b c d e k = ap (λ n. with_counts blocks marks n c) e ∙ ap (with_counts blocks marks b) k

module _ (m : Setting) (half : ℕ) where
  -- One block is written, and then the others.
  mended_then : (u : ℕ) (ns : List Need) (b : Block) (mark : Bool → Marks → Marks) (came : Result (List ℕ) Why) (r : WalkedRepair) →
      after_due m half (suc u) ns (mended m u b mark came r)
      ≡ record {
        blocks = written m (due half (suc u) ns) (due_data ns) (stored_at (stored_cell m.site (route m b)) (m.site.device.leaves (route m b)) came r.blocks);
        marks = marks_mended (suc u) ns (whys_due m half (suc u) ns) (set r.marks u (mark (is_none (why_of came)) (marks_of r.marks u)));
        repaired = r.repaired + accepted_of (why_of came ∷ whys_due m half (suc u) ns);
        lost = r.lost + lost_of ns;
      }
  mended_then u ns b mark (Ok stored) r =
      counted (written m (due half (suc u) ns) (due_data ns) (set r.blocks (stored_cell m.site (route m b)) (m.site.device.leaves (route m b) (get_or r.blocks (stored_cell m.site (route m b)) []) stored)))
      (marks_mended (suc u) ns (whys_due m half (suc u) ns) (set r.marks u (mark true (marks_of r.marks u))))
      (suc r.repaired + accepted_of (whys_due m half (suc u) ns)) (r.repaired + suc (accepted_of (whys_due m half (suc u) ns))) (r.lost + lost_of ns) (r.lost + lost_of ns) (omega arith) refl
  mended_then u ns b mark (Err why) r = refl

  pub each_is_due : (u : ℕ) (ones others : List (Option (List ℕ))) (r : WalkedRepair) → repaired_each m half u ones others r ≡ after_due m half u (needs m.size ones others) r
  each_is_due u [] others r = counted r.blocks r.marks r.repaired (r.repaired + 0) r.lost (r.lost + 0) (omega arith) (omega arith)
  each_is_due u (one ∷ ones) [] r = counted r.blocks r.marks r.repaired (r.repaired + 0) r.lost (r.lost + 0) (omega arith) (omega arith)
  each_is_due u (None ∷ ones) (None ∷ others) r =
      let ns = needs m.size ones others in
      each_is_due (suc u) ones others (record r { lost = suc r.lost })
      ∙ counted (written m (due half (suc u) ns) (due_data ns) r.blocks) (marks_mended (suc u) ns (whys_due m half (suc u) ns) r.marks)
      (r.repaired + accepted_of (whys_due m half (suc u) ns)) (r.repaired + accepted_of (whys_due m half (suc u) ns)) (suc r.lost + lost_of ns) (r.lost + suc (lost_of ns)) refl (omega arith)
  each_is_due u (Some frame ∷ ones) (None ∷ others) r =
      let came = writing m (on_leg1 half u) (brought_by m.size frame) in
      each_is_due (suc u) ones others (mended m u (on_leg1 half u) (λ bit old. record old { leg1 = bit }) came r)
      ∙ mended_then u (needs m.size ones others) (on_leg1 half u) (λ bit old. record old { leg1 = bit }) came r
  each_is_due u (None ∷ ones) (Some frame ∷ others) r =
      let came = writing m (on_leg0 u) (brought_by m.size frame) in
      each_is_due (suc u) ones others (mended m u (on_leg0 u) (λ bit old. record old { leg0 = bit }) came r)
      ∙ mended_then u (needs m.size ones others) (on_leg0 u) (λ bit old. record old { leg0 = bit }) came r
  each_is_due u (Some frame ∷ ones) (Some other ∷ others) r = each_is_due (suc u) ones others r

pub steady_legs : (m : Setting) (half : ℕ) → HasLegs m half → HasLegs (steady m) half
steady_legs m half legs = record { unshifted = λ at op. refl; long = legs.long; one_cell_each = legs.one_cell_each }

pub stretch_is : (m : Setting) (half u n : ℕ) (r : WalkedRepair) → HasLegs m half → u + n ≤ half → ByStretch m half u n r
stretch_is m half u n r legs l =
    let e = by_stretch (steady m) half (steady_legs m half legs) u n r l in
    record { each = e; writes = e ∙ each_is_due (steady m) half u (good0 (steady m) half u n r) (good1 (steady m) half u n r) r }
