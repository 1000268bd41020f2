use Rattle.std.specs.Prelude.{ℕ, ◌≡◌, ◌*◌, List, length, Option}
use Rattle.bio_core.specs.declared.fate.Why.{Why}
use Rattle.walk_laws.specs.Past.{Brought}
use Rattle.mirror_laws.specs.declared.marks.Marks.{Marks}
use Rattle.mirror_volume.specs.declared.repair.Held.{Held}
use Rattle.mirror_volume.specs.declared.repair.Repair.{Repair}
use Rattle.mirror_volume.specs.declared.repair.Seen.{Seen}
use Rattle.mirror_volume.specs.LegRuns.{LegRun}
use Rattle.mirror_volume.specs.Asked.{bytes_after, found_after}
use Rattle.mirror_volume.specs.Mending.{Mended, goods, tuples_after}
use Rattle.pi_tuple.specs.declared.TheConstants.{TUPLE}

-- What a leg has of n blocks of this size.
pub record IsHeldByLeg (size n : ℕ) (h : Held) : Type 0 where
  pub good : length h.good.items ≡ n
  pub bytes : length h.bytes.items ≡ n * size
  pub tuples : length h.tuples.items ≡ n * TUPLE

-- What both legs have of them.
pub record AreHeld (size n : ℕ) (h0 h1 : Held) : Type 0 where
  pub on0 : IsHeldByLeg size n h0
  pub on1 : IsHeldByLeg size n h1

abbrev pub goods_in : (size : ℕ) → Held → List (Option Brought)
goods_in size h = goods size h.good.items h.bytes.items h.tuples.items

-- These have room for n blocks of this size: their data, their tuples, and what is found of each.
pub record HasPieceRoom (size n : ℕ) (bytes tuples : List ℕ) (found : List (Option Why)) : Type 0 where
  pub long : length bytes ≡ n * size
  pub tuples_long : length tuples ≡ n * TUPLE
  pub found_long : length found ≡ n

-- What came of n blocks so far.
pub record IsSeen (size n : ℕ) (seen : Seen) : Type 0 where
  pub found : length seen.found.items ≡ n
  pub bytes : length seen.bytes.items ≡ n * size
  pub tuples : length seen.tuples.items ≡ n * TUPLE

-- Some stretches were read, by these runs.
pub record IsAfter (size : ℕ) (stretches : List (ℕ × ℕ)) (runs : List LegRun) (old new : Seen) : Type 0 where
  pub found : new.found.items ≡ found_after stretches runs old.found.items
  pub bytes : new.bytes.items ≡ bytes_after size stretches runs old.bytes.items
  pub tuples : new.tuples.items ≡ tuples_after size stretches runs old.tuples.items

-- the marks of all blocks, and what was counted up to now; and where nothing was
abbrev pub so_far : List Marks → Repair → Mended
so_far marks done = record { marks = marks; repaired = done.repaired; lost = done.lost }

abbrev pub none_mended : List Marks → Mended
none_mended marks = record { marks = marks; repaired = 0; lost = 0 }
