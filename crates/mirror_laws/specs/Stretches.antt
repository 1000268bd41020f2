use Rattle.std.specs.Prelude.{ℕ, suc, ◌≡◌, ◌+◌, List, [], ◌∷◌, set, Option, Some, None}
use Rattle.bio_core.specs.declared.fate.Why.{Why}
use Rattle.walk_laws.specs.Past.{Brought, brought_by}
use Rattle.walk_laws.specs.Settings.{Block, Setting}
use Rattle.walk_laws.specs.Steps.{each_from}
use Rattle.mirror_laws.specs.Mirror.{is_none, marks_of}
use Rattle.mirror_laws.specs.declared.marks.Marks.{Marks}
use Rattle.mirror_laws.specs.OnLegs.{whys_written, written}
use Rattle.mirror_laws.specs.Repair.{WalkedRepair, good, on_leg0, on_leg1, reading, repair_from, repaired_by, steady}

-- The repair of a stretch of blocks: all of them are read on leg 0, then on leg 1, and then each that is good on just one is written to the other, one after another.

module _ (m : Setting) (half : ℕ) where
  -- what is good of each of n blocks from u on, on leg 0 and on leg 1, before any is repaired
  abbrev pub good0 : (u n : ℕ) → WalkedRepair → List (Option (List ℕ))
  good0 u n r = each_from u n (λ w. good (marks_of r.marks w).leg0 (reading m (on_leg0 w) r.blocks))

  abbrev pub good1 : (u n : ℕ) → WalkedRepair → List (Option (List ℕ))
  good1 u n r = each_from u n (λ w. good (marks_of r.marks w).leg1 (reading m (on_leg1 half w) r.blocks))

  -- each block repaired by what was good of it
  abbrev pub repaired_each : (u : ℕ) → List (Option (List ℕ)) → List (Option (List ℕ)) → WalkedRepair → WalkedRepair
  repaired_each u [] others r = r
  repaired_each u (one ∷ ones) [] r = r
  repaired_each u (one ∷ ones) (other ∷ others) r = repaired_each (suc u) ones others (repaired_by m half u one other r)

  abbrev pub stretch_repaired : (u n : ℕ) → WalkedRepair → WalkedRepair
  stretch_repaired u n r = repaired_each u (good0 u n r) (good1 u n r) r

-- ---- the same as writes, in the order of the blocks

-- What a block needs, by what is good of it: nothing, to be written with these on leg 0 or on leg 1, or it is lost.
pub data Need : Type 0 where
  Fine : Need
  On0 : Brought → Need
  On1 : Brought → Need
  Lost : Need

abbrev pub need_of : (size : ℕ) → (one other : Option (List ℕ)) → Need
need_of size None None = Lost
need_of size None (Some frame) = On0 (brought_by size frame)
need_of size (Some frame) None = On1 (brought_by size frame)
need_of size (Some frame) (Some other) = Fine

abbrev pub needs : (size : ℕ) → (ones others : List (Option (List ℕ))) → List Need
needs size [] others = []
needs size (one ∷ ones) [] = []
needs size (one ∷ ones) (other ∷ others) = need_of size one other ∷ needs size ones others

-- the blocks that are written, of these from u on, and what they bring
abbrev pub due : (half u : ℕ) → List Need → List Block
due half u [] = []
due half u (Fine ∷ ns) = due half (suc u) ns
due half u (On0 e ∷ ns) = on_leg0 u ∷ due half (suc u) ns
due half u (On1 e ∷ ns) = on_leg1 half u ∷ due half (suc u) ns
due half u (Lost ∷ ns) = due half (suc u) ns

abbrev pub due_data : List Need → List Brought
due_data [] = []
due_data (Fine ∷ ns) = due_data ns
due_data (On0 e ∷ ns) = e ∷ due_data ns
due_data (On1 e ∷ ns) = e ∷ due_data ns
due_data (Lost ∷ ns) = due_data ns

abbrev pub lost_of : List Need → ℕ
lost_of [] = 0
lost_of (Fine ∷ ns) = lost_of ns
lost_of (On0 e ∷ ns) = lost_of ns
lost_of (On1 e ∷ ns) = lost_of ns
lost_of (Lost ∷ ns) = suc (lost_of ns)

-- how many of the writes are accepted, by what is found of each
abbrev pub accepted_of : List (Option Why) → ℕ
accepted_of [] = 0
accepted_of (None ∷ whys) = suc (accepted_of whys)
accepted_of (Some why ∷ whys) = accepted_of whys

-- A leg that was written is fresh if that was accepted, and stale if not.
abbrev pub marks_mended : (u : ℕ) → List Need → List (Option Why) → List Marks → List Marks
marks_mended u [] whys marks = marks
marks_mended u (Fine ∷ ns) whys marks = marks_mended (suc u) ns whys marks
marks_mended u (On0 e ∷ ns) [] marks = marks
marks_mended u (On0 e ∷ ns) (why ∷ whys) marks = marks_mended (suc u) ns whys (set marks u (record (marks_of marks u) { leg0 = is_none why }))
marks_mended u (On1 e ∷ ns) [] marks = marks
marks_mended u (On1 e ∷ ns) (why ∷ whys) marks = marks_mended (suc u) ns whys (set marks u (record (marks_of marks u) { leg1 = is_none why }))
marks_mended u (Lost ∷ ns) whys marks = marks_mended (suc u) ns whys marks

module _ (m : Setting) (half u : ℕ) where
  -- what is found of the writes
  abbrev pub whys_due : List Need → List (Option Why)
  whys_due ns = whys_written m (due half u ns) (due_data ns)

  -- what all the writes that these blocks need leave
  abbrev pub after_due : List Need → WalkedRepair → WalkedRepair
  after_due ns r = record {
    blocks = written m (due half u ns) (due_data ns) r.blocks;
    marks = marks_mended u ns (whys_due ns) r.marks;
    repaired = r.repaired + accepted_of (whys_due ns);
    lost = r.lost + lost_of ns;
  }

-- What the repair of n blocks from u on leaves, block by block, is what it leaves when all are read first; and these are its writes.
pub record ByStretch (m : Setting) (half u n : ℕ) (r : WalkedRepair) : Type 0 where
  pub each : repair_from (steady m) half u n r ≡ stretch_repaired (steady m) half u n r
  pub writes : repair_from (steady m) half u n r ≡ after_due (steady m) half u (needs m.size (good0 (steady m) half u n r) (good1 (steady m) half u n r)) r
