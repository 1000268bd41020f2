use Rattle.std.specs.Prelude.{ℕ, zero, suc, ◌≡◌, ◌+◌, ◌-◌, ◌*◌, ◌/◌, ◌≤◌, ◌⊎◌, Bool, true, false, ◌&&◌, is_none, if◌then◌else◌, min, List, [], ◌∷◌, ◌++◌, drop, get_or, map, replicate, take, Option, Some, None}
use Rattle.bio_core.specs.declared.fate.Why.{Why}
use Rattle.page_pool.specs.Cells.{flat}
use Rattle.pi_tuple.specs.Tuples.{tuple_in}
use Rattle.walk_laws.specs.Past.{Brought}
use Rattle.script_text.specs.declared.script.Script.{Script}
use Rattle.mirror_laws.specs.declared.marks.Marks.{Marks}
use Rattle.mirror_laws.specs.Stretches.{Fine, Lost, Need, On0, On1, accepted_of, lost_of, marks_mended}
use Rattle.mirror_volume.specs.declared.piece.Piece.{Piece}
use Rattle.mirror_volume.specs.Inner.{pages_for, read_pi_script, write_script}
use Rattle.mirror_volume.specs.LegRuns.{LegRun, found_by, pool_of, replies_of}
use Rattle.mirror_volume.specs.Asked.{AreOf, bytes_after, found_after, fresh_on0, pasted, stretches}
use Rattle.page_pool.specs.declared.TheConstants.{PAGE}
use Rattle.pi_tuple.specs.declared.TheConstants.{TUPLE}

-- The repair of a stretch of blocks, by its runs on the legs.

-- all n blocks from u on, as a request of no op
abbrev pub whole_stretch : (u n : ℕ) → Piece
whole_stretch u n = record { op = 0; count = n; first = 0; n = n; v = u; on1 = false }

abbrev pub fresh_on1 : List Marks → List Bool
fresh_on1 marks = map (λ (k : Marks). k.leg1) marks

-- the tuples that landed, in the pages behind those of the data
abbrev pub tuples_after : (size : ℕ) → List (ℕ × ℕ) → List LegRun → List ℕ → List ℕ
tuples_after size [] runs tuples = tuples
tuples_after size (s ∷ ss) [] tuples = tuples
tuples_after size (s ∷ ss) (r ∷ runs) tuples =
    tuples_after size ss runs (pasted (s.0 * TUPLE) (take (s.1 * TUPLE) (drop (PAGE * pages_for (s.1 * size)) (flat (pool_of r)))) tuples)

-- which blocks were wanted, and have nothing found of them
abbrev pub delivered : List Bool → List (Option Why) → List Bool
delivered [] found = []
delivered (w ∷ wanted) [] = []
delivered (w ∷ wanted) (why ∷ found) = (w && is_none why) ∷ delivered wanted found

-- What is good of each block on a leg: its data and its application tag, where it was delivered.
abbrev pub goods : (size : ℕ) → List Bool → (bytes tuples : List ℕ) → List (Option Brought)
goods size [] bytes tuples = []
goods size (d ∷ good) bytes tuples = (if d then Some (record { body = take size bytes; app = (tuple_in tuples).app }) else None) ∷ goods size good (drop size bytes) (drop 8 tuples)

-- what was looked at on a leg, by the runs there
abbrev pub looked : (size n : ℕ) → List Bool → List LegRun → List (Option Brought)
looked size n wanted runs =
    goods size (delivered wanted (found_after (stretches wanted) runs (replicate n None))) (bytes_after size (stretches wanted) runs (replicate (n * size) 0)) (tuples_after size (stretches wanted) runs (replicate (n * TUPLE) 0))

abbrev pub need_by : Option Brought → Option Brought → Need
need_by None None = Lost
need_by None (Some e) = On0 e
need_by (Some e) None = On1 e
need_by (Some e) (Some other) = Fine

abbrev pub needs_by : List (Option Brought) → List (Option Brought) → List Need
needs_by [] others = []
needs_by (one ∷ ones) [] = []
needs_by (one ∷ ones) (other ∷ others) = need_by one other ∷ needs_by ones others

-- Each of these runs writes a block that needs it, from block u on.
abbrev pub AreMends : Script → (half n u : ℕ) → List Need → List LegRun → Type 0
AreMends s half n u [] [] = Unit {0}
AreMends s half n u [] (r ∷ runs) = ⊥
AreMends s half n u (Fine ∷ needs) runs = AreMends s half n (suc u) needs runs
AreMends s half n u (Lost ∷ needs) runs = AreMends s half n (suc u) needs runs
AreMends s half n u (On0 e ∷ needs) [] = ⊥
AreMends s half n u (On0 e ∷ needs) (r ∷ runs) = (r.own ≡ write_script s half (record (whole_stretch u n) { n = 1 }) e.app e.body) × AreMends s half n (suc u) needs runs
AreMends s half n u (On1 e ∷ needs) [] = ⊥
AreMends s half n u (On1 e ∷ needs) (r ∷ runs) = (r.own ≡ write_script s half (record (whole_stretch u n) { n = 1; on1 = true }) e.app e.body) × AreMends s half n (suc u) needs runs

-- what was found of each block that was written
abbrev pub whys_by : List LegRun → List (Option Why)
whys_by runs = map (λ (r : LegRun). get_or (found_by 1 (replies_of r)) 0 None) runs

-- the marks of all blocks, and how many were repaired and lost so far
pub record Mended : Type 0 where
  pub marks : List Marks
  pub repaired : ℕ
  pub lost : ℕ

-- Some blocks are read on a leg, as a request of no op.
pub record IsLook (s : Script) (half : ℕ) (own : Script) : Type 0 where
  pub piece : Piece
  pub no_op : piece.op ≡ 0
  pub inside : piece.v + piece.n ≤ half
  pub own_is : own ≡ read_pi_script s half piece

-- One block is written on a leg, as a request of no op.
pub record IsMend (s : Script) (half : ℕ) (own : Script) : Type 0 where
  pub piece : Piece
  pub no_op : piece.op ≡ 0
  pub one : piece.n ≡ 1
  pub inside : piece.v + 1 ≤ half
  pub app : ℕ
  pub body : List ℕ
  pub own_is : own ≡ write_script s half piece app body

-- What a repair runs on the legs, even where memory is wanting in its middle.
abbrev pub IsRepairOf : Script → (half : ℕ) → Script → Type 0
IsRepairOf s half own = IsLook s half own ⊎ IsMend s half own

pub record StretchBy (s : Script) (half u n : ℕ) (old new : Mended) (runs : List LegRun) : Type 0 where
  pub looks0 : List LegRun
  pub looks1 : List LegRun
  pub mends : List LegRun
  pub runs_are : runs ≡ looks0 ++ (looks1 ++ mends)
  pub on0 : AreOf (read_pi_script s half) (whole_stretch u n) (stretches (fresh_on0 (take n (drop u old.marks)))) looks0
  pub on1 : AreOf (read_pi_script s half) (record (whole_stretch u n) { on1 = true }) (stretches (fresh_on1 (take n (drop u old.marks)))) looks1
  pub needs : List Need
  pub needs_are : needs ≡ needs_by (looked s.block n (fresh_on0 (take n (drop u old.marks))) looks0) (looked s.block n (fresh_on1 (take n (drop u old.marks))) looks1)
  pub mends_are : AreMends s half n u needs mends
  pub new_is : new ≡ record { marks = marks_mended u needs (whys_by mends) old.marks; repaired = old.repaired + accepted_of (whys_by mends); lost = old.lost + lost_of needs }

-- Blocks of a stretch of n are mended, from block u on, by what each needs.
pub record MendsBy (s : Script) (half n u : ℕ) (needs : List Need) (old new : Mended) (runs : List LegRun) : Type 0 where
  pub mends : AreMends s half n u needs runs
  pub new_is : new ≡ record { marks = marks_mended u needs (whys_by runs) old.marks; repaired = old.repaired + accepted_of (whys_by runs); lost = old.lost + lost_of needs }

-- so many blocks are looked at in one go
abbrev pub stretch_len : ℕ
stretch_len = 128

-- `many` stretches, from block u on
abbrev pub RepairBy : Script → (half u many : ℕ) → (old new : Mended) → List LegRun → Type 0
RepairBy s half u zero old new runs = (new ≡ old) × (runs ≡ [])
RepairBy s half u (suc many) old new runs =
    (next : Mended) × ((now : List LegRun) × ((later : List LegRun) × ((runs ≡ now ++ later) × (StretchBy s half u (min stretch_len (half - u)) old next now × RepairBy s half (u + stretch_len) many next new later))))

-- how many stretches a mirror has
abbrev pub stretches_in : (half : ℕ) → ℕ
stretches_in half = (half + 127) / stretch_len
