-- Runs of some stretches, and then of others; where stretches lie.
use Rattle.std.proofs.Common.{ℕ, zero, suc, ◌≡◌, ◌+◌, ◌*◌, ◌≤◌, ◌<◌, Bool, true, false, List, [], ◌∷◌, ◌++◌, Option, get_or, length, take, refl, arith}
use Rattle.script_laws.specs.Keeping.{Each}
use Rattle.script_laws.proofs.Held.{each_both}
use Rattle.bio_core.specs.declared.fate.Why.{Why}
use Rattle.page_pool.specs.Cells.{flat}
use Rattle.script_text.specs.declared.script.Script.{Script}
use Rattle.mirror_volume.specs.declared.piece.Piece.{Piece}
use Rattle.mirror_volume.specs.Asked.{AreOf, IsInside, bytes_after, ended, found_after, pasted, stretches, stretches_from}
use Rattle.mirror_volume.specs.LegRuns.{LegRun, found_by, pool_of, replies_of}

pub are-of-append : (script : Piece → Script) (p : Piece) (ss ts : List (ℕ × ℕ)) (runs more : List LegRun) → AreOf script p ss runs → AreOf script p ts more → AreOf script p (ss ++ ts) (runs ++ more)
are-of-append script p [] ts [] more h k = k
are-of-append script p [] ts (r ∷ runs) more h k = absurd h
are-of-append script p (s ∷ ss) ts [] more h k = absurd h
are-of-append script p (s ∷ ss) ts (r ∷ runs) more h k = (h.0, are-of-append script p ss ts runs more h.1 k)

pub found-after-append : (script : Piece → Script) (p : Piece) (ss ts : List (ℕ × ℕ)) (runs more : List LegRun) (found : List (Option Why)) → AreOf script p ss runs
    → found_after (ss ++ ts) (runs ++ more) found ≡ found_after ts more (found_after ss runs found)
found-after-append script p [] ts [] more found h = refl
found-after-append script p [] ts (r ∷ runs) more found h = absurd h
found-after-append script p (s ∷ ss) ts [] more found h = absurd h
found-after-append script p (s ∷ ss) ts (r ∷ runs) more found h = found-after-append script p ss ts runs more (pasted s.0 (found_by s.1 (replies_of r)) found) h.1

pub bytes-after-append : (script : Piece → Script) (p : Piece) (size : ℕ) (ss ts : List (ℕ × ℕ)) (runs more : List LegRun) (bytes : List ℕ) → AreOf script p ss runs
    → bytes_after size (ss ++ ts) (runs ++ more) bytes ≡ bytes_after size ts more (bytes_after size ss runs bytes)
bytes-after-append script p size [] ts [] more bytes h = refl
bytes-after-append script p size [] ts (r ∷ runs) more bytes h = absurd h
bytes-after-append script p size (s ∷ ss) ts [] more bytes h = absurd h
bytes-after-append script p size (s ∷ ss) ts (r ∷ runs) more bytes h = bytes-after-append script p size ss ts runs more (pasted (s.0 * size) (take (s.1 * size) (flat (pool_of r))) bytes) h.1

-- ---- where stretches lie

pub each-at : {A : Type 0} (P : A → Type 0) (xs : List A) (i : ℕ) (d : A) → i < length xs → Each P xs → P (get_or xs i d)
each-at P [] i d l h = absurd (omega (arith, l))
each-at P (x ∷ xs) zero d l h = h.0
each-at P (x ∷ xs) (suc i) d l h = each-at P xs i d (omega (arith, l)) h.1

ended-inside : (n at many : ℕ) → many ≤ at → at ≤ n → Each (IsInside n) (ended at many)
ended-inside n at zero l h = tt
ended-inside n at (suc m) l h = (record { some = omega arith; inside = omega (arith, l, h) }, tt)

inside-from : (n at many : ℕ) (wanted : List Bool) → many ≤ at → at + length wanted ≤ n → Each (IsInside n) (stretches_from at many wanted)
inside-from n at many [] l h = ended-inside n at many l (omega (arith, h))
inside-from n at many (true ∷ wanted) l h = inside-from n (suc at) (suc many) wanted (omega (arith, l)) (omega (arith, h))
inside-from n at many (false ∷ wanted) l h =
    each_both (IsInside n) (ended at many) (stretches_from (suc at) 0 wanted) (ended-inside n at many l (omega (arith, h))) (inside-from n (suc at) 0 wanted (omega arith) (omega (arith, h)))

pub all-inside : (n : ℕ) (wanted : List Bool) → length wanted ≡ n → Each (IsInside n) (stretches wanted)
all-inside n wanted e = inside-from n 0 0 wanted (omega arith) (omega (arith, e))
