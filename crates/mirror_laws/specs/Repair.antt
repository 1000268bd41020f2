use Rattle.std.specs.Prelude.{ℕ, zero, suc, ◌+◌, Bool, true, false, List, [], get_or, set, Option, Some, None, Result, Ok, Err}
use Rattle.bio_core.specs.declared.fate.Why.{Why}
use Rattle.integrity_payload.specs.declared.payload.Owner.TheVariants.{Block as OfBlock}
use Rattle.block_path.specs.Blocks.{fetched_cell, own_frame, stored_cell}
use Rattle.block_path.specs.Routes.{target}
use Rattle.block_path.specs.WayIn.{delivered_of, way_in}
use Rattle.block_path.specs.WayOut.{stored_of, way_out}
use Rattle.walk_laws.specs.Past.{Brought, brought_by}
use Rattle.walk_laws.specs.Settings.{Block, Setting, route}
use Rattle.mirror_laws.specs.Mirror.{Mirror, marks_of}
use Rattle.mirror_laws.specs.declared.marks.Marks.{Marks}

-- The repair of a mirror, after its script: block after block, where just one leg is good, its data and its application tag are written to the other.

-- the setting without faults
abbrev pub steady : Setting → Setting
steady m = record m { site = record m.site { faults = []; device = target [] } }

-- stored blocks and marks, and how many blocks were repaired and lost so far
pub record WalkedRepair : Type 0 where
  pub blocks : List (List ℕ)
  pub marks : List Marks
  pub repaired : ℕ
  pub lost : ℕ

-- block u on leg 0 and on leg 1, as blocks of no request of the script
abbrev pub on_leg0 : (u : ℕ) → Block
on_leg0 u = record { op = 0; k = u; virt = u }

abbrev pub on_leg1 : (half u : ℕ) → Block
on_leg1 half u = record { op = 0; k = half + u; virt = half + u }

-- A leg is good where it is fresh and delivers: what it has.
abbrev pub good : Bool → Result (List ℕ) Why → Option (List ℕ)
good true (Ok frame) = Some frame
good true (Err why) = None
good false came = None

module _ (m : Setting) where
  -- what comes of reading a block, and of writing it
  abbrev pub reading : Block → List (List ℕ) → Result (List ℕ) Why
  reading b blocks = delivered_of (way_in m.site.faults m.site.device (route m b) OfBlock (get_or blocks (fetched_cell m.site (route m b)) []))

  abbrev pub writing : Block → Brought → Result (List ℕ) Why
  writing b e = stored_of (way_out m.site.faults m.site.device (route m b) (own_frame (route m b) e.app e.body))

  -- A write that is accepted repairs the block; one that isn't leaves its leg stale, and the block is neither repaired nor lost.
  abbrev pub mended : (u : ℕ) → Block → (Bool → Marks → Marks) → Result (List ℕ) Why → WalkedRepair → WalkedRepair
  mended u b mark (Ok stored) r = record {
    blocks = set r.blocks (stored_cell m.site (route m b)) (m.site.device.leaves (route m b) (get_or r.blocks (stored_cell m.site (route m b)) []) stored);
    marks = set r.marks u (mark true (marks_of r.marks u));
    repaired = suc r.repaired;
    lost = r.lost;
  }
  mended u b mark (Err why) r = record r { marks = set r.marks u (mark false (marks_of r.marks u)) }

  -- by what is good on leg 0 and on leg 1
  abbrev pub repaired_by : (half u : ℕ) → Option (List ℕ) → Option (List ℕ) → WalkedRepair → WalkedRepair
  repaired_by half u None None r = record r { lost = suc r.lost }
  repaired_by half u (Some frame) None r = mended u (on_leg1 half u) (λ bit old. record old { leg1 = bit }) (writing (on_leg1 half u) (brought_by m.size frame)) r
  repaired_by half u None (Some frame) r = mended u (on_leg0 u) (λ bit old. record old { leg0 = bit }) (writing (on_leg0 u) (brought_by m.size frame)) r
  repaired_by half u (Some frame) (Some other) r = r

  abbrev pub repair_block : (half u : ℕ) → WalkedRepair → WalkedRepair
  repair_block half u r = repaired_by half u (good (marks_of r.marks u).leg0 (reading (on_leg0 u) r.blocks)) (good (marks_of r.marks u).leg1 (reading (on_leg1 half u) r.blocks)) r

  -- n blocks from u on
  abbrev pub repair_from : (half u n : ℕ) → WalkedRepair → WalkedRepair
  repair_from half u zero r = r
  repair_from half u (suc n) r = repair_from half (suc u) n (repair_block half u r)

-- All blocks of a mirror are looked at, without faults.
abbrev pub mirror_repair : Setting → (half : ℕ) → Mirror → WalkedRepair
mirror_repair m half s = repair_from (steady m) half 0 half (record { blocks = s.state.blocks; marks = s.marks; repaired = 0; lost = 0 })
