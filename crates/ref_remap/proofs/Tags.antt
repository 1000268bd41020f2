-- Of a mapped tuple only the tag changes.
use Rattle.std.proofs.Common.{◌≡◌, ℕ, Bool, true, false, cond, eqb, ◌&&◌, List, [], ◌∷◌, ◌++◌, length, take, drop, refl, sym, ap, ◌∙◌, arith}
use Rattle.std.specs.Int.{w32, to_be_bytes, from_be_bytes}
use Rattle.std.proofs.lemmas.List.{take-append-drop, take_at, drop_at, length-take}
use Rattle.pi_tuple.specs.declared.checks.PiType.{PiType}
use Rattle.pi_tuple.specs.Finds.{has_ref_tag}
use Rattle.pi_tuple.specs.Tuples.{ref_tag, tuple_bytes, tuple_in}
use Rattle.ref_remap.specs.Remapped.{remapped, remapped_bytes, remapped_tag}

-- the last four of eight bytes spell the tag
tag_at : (b : List ℕ) → length b ≡ 8 → (tuple_in b).rtag ≡ from_be_bytes w32 (drop 4 b)
tag_at (a ∷ b ∷ c ∷ d ∷ e ∷ f ∷ g ∷ h ∷ []) l = refl
tag_at [] l = absurd (omega arith)
tag_at (a ∷ []) l = absurd (omega arith)
tag_at (a ∷ b ∷ []) l = absurd (omega arith)
tag_at (a ∷ b ∷ c ∷ []) l = absurd (omega arith)
tag_at (a ∷ b ∷ c ∷ d ∷ []) l = absurd (omega arith)
tag_at (a ∷ b ∷ c ∷ d ∷ e ∷ []) l = absurd (omega arith)
tag_at (a ∷ b ∷ c ∷ d ∷ e ∷ f ∷ []) l = absurd (omega arith)
tag_at (a ∷ b ∷ c ∷ d ∷ e ∷ f ∷ g ∷ []) l = absurd (omega arith)
tag_at (a ∷ b ∷ c ∷ d ∷ e ∷ f ∷ g ∷ h ∷ i ∷ r) l = absurd (omega arith)

written : (t : Bool) (to : ℕ) (b : List ℕ) → tuple_bytes (tuple_in b) ≡ b →
    tuple_bytes (cond t (record { guard = (tuple_in b).guard; app = (tuple_in b).app; rtag = to }) (tuple_in b)) ≡ take 4 b ++ cond t (to_be_bytes w32 to) (drop 4 b)
written true to b e = ap (λ l. take 4 l ++ to_be_bytes w32 to) e
written false to b e = e ∙ sym (take-append-drop 4 b)

-- a mapped tuple's bytes are the mapped bytes of the tuple
pub mapped-bytes : (ty : PiType) (from to : ℕ) (b : List ℕ) → length b ≡ 8 → tuple_bytes (tuple_in b) ≡ b → tuple_bytes (remapped ty from to (tuple_in b)) ≡ remapped_bytes ty from to b
mapped-bytes ty from to b l e =
    written (has_ref_tag ty && eqb (tuple_in b).rtag (ref_tag from)) (ref_tag to) b e
    ∙ ap (λ n. take 4 b ++ cond (has_ref_tag ty && eqb n (ref_tag from)) (to_be_bytes w32 (ref_tag to)) (drop 4 b)) (tag_at b l)

four : (b : List ℕ) → length b ≡ 8 → length (take 4 b) ≡ 4
four b l = let e = length-take 4 b in omega arith

pub mapped-others : (ty : PiType) (from to : ℕ) (b : List ℕ) → length b ≡ 8 → take 4 (remapped_bytes ty from to b) ≡ take 4 b
mapped-others ty from to b l = take_at (take 4 b) (remapped_tag ty from to (drop 4 b)) 4 (four b l)

pub mapped-tag : (ty : PiType) (from to : ℕ) (b : List ℕ) → length b ≡ 8 → drop 4 (remapped_bytes ty from to b) ≡ remapped_tag ty from to (drop 4 b)
mapped-tag ty from to b l = drop_at (take 4 b) (remapped_tag ty from to (drop 4 b)) 4 (four b l)
