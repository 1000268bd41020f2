-- A read by what was asked on both legs.
use Rattle.std.proofs.Common.{ℕ, suc, ◌≡◌, ◌*◌, Bool, true, List, [], ◌∷◌, Option, None, length, replicate, take, ap, refl, subst, sym, ◌∙◌, arith}
use Rattle.bio_core.specs.declared.fate.Why.{Why}
use Rattle.page_pool.specs.Cells.{flat}
use Rattle.script_text.specs.declared.script.Script.{Script}
use Rattle.mirror_laws.specs.declared.marks.Marks.{Marks}
use Rattle.mirror_volume.specs.declared.piece.Piece.{Piece}
use Rattle.mirror_volume.specs.Inner.{read_script}
use Rattle.mirror_volume.specs.Asked.{AreOf, IsInside, IsReadOf, ReadBy, bytes_after, first_listed, found_after, fresh_on0, last_listed, part_of, pasted, rest_wanted, stretches}
use Rattle.mirror_volume.specs.LegRuns.{AllOwn, LegRun, OneRun, found_by, pool_of, replies_of}
use Rattle.mirror_volume.proofs.OwnEach.{all_own-so}

-- what is asked on leg 1 is a read of the same blocks
pub on-other : (s : Script) (half : ℕ) (p : Piece) (runs : List LegRun) → AllOwn (IsReadOf s half (record p { on1 = true })) runs → AllOwn (IsReadOf s half p) runs
on-other s half p runs h = all_own-so (IsReadOf s half (record p { on1 = true })) (IsReadOf s half p) runs (λ own is. record { stretch = is.stretch; inside = is.inside; on1 = is.on1; own_is = is.own_is }) h

-- what was asked on a leg: of these blocks, over what was found and had landed before
pub record Asked (script : Piece → Script) (p : Piece) (size : ℕ) (wanted : List Bool) (runs : List LegRun) (found found' : List (Option Why)) (bytes bytes' : List ℕ) : Type 0 where
  pub of : AreOf script p (stretches wanted) runs
  pub found_is : found' ≡ found_after (stretches wanted) runs found
  pub bytes_are : bytes' ≡ bytes_after size (stretches wanted) runs bytes

pub asked-same : (script : Piece → Script) (p : Piece) (size : ℕ) (wanted wanted' : List Bool) (runs : List LegRun) (was was' found : List (Option Why)) (bytes bytes' landed : List ℕ) → wanted ≡ wanted' → was ≡ was' → bytes ≡ bytes'
    → AreOf script p (stretches wanted) runs × ((found ≡ found_after (stretches wanted) runs was) × (landed ≡ bytes_after size (stretches wanted) runs bytes)) → Asked script p size wanted' runs was' found bytes' landed
asked-same script p size wanted wanted' runs was was' found bytes bytes' landed e f b h = record {
  of = subst (λ w. AreOf script p (stretches w) runs) e h.0;
  found_is = h.1.0 ∙ (λ i. found_after (stretches (e i)) runs (f i));
  bytes_are = h.1.1 ∙ (λ i. bytes_after size (stretches (e i)) runs (b i));
}

pub read-by : (s : Script) (half : ℕ) (p : Piece) (marks : List Marks) (xs ys : List LegRun) (found0 found1 listed : List (Option Why)) (bytes0 bytes1 : List ℕ)
    → Asked (read_script s half) p s.block (fresh_on0 marks) xs (replicate p.n None) found0 (replicate (p.n * s.block) 0) bytes0
    → Asked (read_script s half) (record p { on1 = true }) s.block (rest_wanted marks found0) ys found0 found1 bytes0 bytes1
    → listed ≡ last_listed marks (rest_wanted marks found0) (first_listed marks found0) found1 → ReadBy s half p marks xs ys listed bytes1
read-by s half p marks xs ys found0 found1 listed bytes0 bytes1 first last l = record {
  found0 = found0;
  found1 = found1;
  on0 = first.of;
  on1 = last.of;
  found0_is = first.found_is;
  found1_is = last.found_is;
  listed_is = l;
  bytes_are = last.bytes_are ∙ ap (bytes_after s.block (stretches (rest_wanted marks found0)) ys) first.bytes_are;
}

-- of each block something is found, and whether it is wanted
pub first-long : (marks : List Marks) (found : List (Option Why)) → length found ≡ length marks → length (first_listed marks found) ≡ length marks
first-long [] found e = refl
first-long (k ∷ marks) [] e = absurd (omega (arith, e))
first-long (k ∷ marks) (why ∷ found) e = ap suc (first-long marks found (omega (arith, e)))

-- one stretch was asked
module _ (script : Piece → Script) (p : Piece) (size : ℕ) (s : ℕ × ℕ) (found' : List (Option Why)) (bytes' : List ℕ) where
  abbrev pub RanPart : List LegRun → Type 0
  RanPart runs = OneRun (script (part_of p s)) (λ (r : LegRun). (found' ≡ found_by s.1 (replies_of r)) × (bytes' ≡ take (s.1 * size) (flat (pool_of r)))) runs

  pub part-of : (runs : List LegRun) → RanPart runs → AreOf script p (s ∷ []) runs
  part-of runs h = subst (AreOf script p (s ∷ [])) (sym h.only) (h.own_is, tt)

  pub part-found : (runs : List LegRun) (found : List (Option Why)) → RanPart runs → pasted s.0 found' found ≡ found_after (s ∷ []) runs found
  part-found runs found h = subst (λ (rs : List LegRun). pasted s.0 found' found ≡ found_after (s ∷ []) rs found) (sym h.only) (ap (λ f. pasted s.0 f found) h.so.0)

  pub part-bytes : (runs : List LegRun) (bytes : List ℕ) → RanPart runs → pasted (s.0 * size) bytes' bytes ≡ bytes_after size (s ∷ []) runs bytes
  part-bytes runs bytes h = subst (λ (rs : List LegRun). pasted (s.0 * size) bytes' bytes ≡ bytes_after size (s ∷ []) rs bytes) (sym h.only) (ap (λ b. pasted (s.0 * size) b bytes) h.so.1)

-- the request of a stretch is a read of the piece
pub reads-part : (s : Script) (half : ℕ) (p : Piece) (stretch : ℕ × ℕ) (runs : List LegRun) → IsInside p.n stretch → AllOwn (λ own. own ≡ read_script s half (part_of p stretch)) runs → AllOwn (IsReadOf s half p) runs
reads-part s half p stretch runs h own =
    all_own-so (λ own. own ≡ read_script s half (part_of p stretch)) (IsReadOf s half p) runs (λ own e. record { stretch = stretch; inside = h; on1 = p.on1; own_is = e }) own
