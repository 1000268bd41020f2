-- What an import leaves of an image outside of its place.
use Rattle.std.proofs.Common.{◌≡◌, ℕ, ◌+◌, ◌-◌, ◌*◌, ◌≤◌, List, take, drop, Option, Some, None, refl, sym, ap, subst, ◌∙◌, arith}
use Rattle.std.proofs.lemmas.List.{drop-drop, take-take}
use Rattle.std.proofs.Math.Nat.{mul-le-mul_left, mul_comm}
use Rattle.std.specs.Prelude.{min}
use Rattle.dix_base.specs.Told.{Apart, Becomes}
use Rattle.rig_api.specs.declared.units.UnitSpec.{UnitSpec}
use Rattle.image_rig.specs.LayoutPlaces.{block_len, block_place}
use Rattle.image_blocks.specs.declared.stretch.Stretch.{Stretch}
use Rattle.image_blocks.specs.Places.{IsStretch, behind_in, front_in, spec_of}
use Rattle.image_text.specs.Ends.{KeepsOutside}

-- what is apart from some bytes is apart from more
wider : (at n from m : ℕ) (old new : List ℕ) → from ≤ at → at + n ≤ from + m → Apart at n old new → Apart from m old new
wider at n from m old new f t p =
    let more : ℕ = from + m - (at + n) in
    let e : from + m ≡ at + n + more = omega arith in (
      p.0,
      sym (take-take from at new f) ∙ ap (take from) p.1 ∙ take-take from at old f,
      ap (λ i. drop i new) e ∙ sym (drop-drop more (at + n) new) ∙ ap (drop more) p.2 ∙ drop-drop more (at + n) old ∙ sym (ap (λ i. drop i old) e),
    )

wide : (at n from m : ℕ) (old new : Option (List ℕ)) → from ≤ at → at + n ≤ from + m → Becomes (Apart at n) old new → Becomes (Apart from m) old new
wide at n from m None None f t p = tt
wide at n from m None (Some new) f t p = p
wide at n from m (Some old) None f t p = p
wide at n from m (Some old) (Some new) f t p = wider at n from m old new f t p

on : (at n : ℕ) (a b c : Option (List ℕ)) → Becomes (Apart at n) a b → Becomes (Apart at n) b c → Becomes (Apart at n) a c
on at n None None None p q = tt
on at n None None (Some c) p q = q
on at n None (Some b) c p q = absurd p
on at n (Some a) None c p q = absurd p
on at n (Some a) (Some b) None p q = q
on at n (Some a) (Some b) (Some c) p q = (q.0 ∙ p.0, q.1 ∙ p.1, q.2 ∙ p.2)

-- an image that stays
pub keeps_all : (us : List UnitSpec) (s : Stretch) (x y : Option (List ℕ)) → y ≡ x → KeepsOutside us s x y
keeps_all us s x y e = subst (λ v. KeepsOutside us s x v) (sym e) (same x)
  where
    same : (x : Option (List ℕ)) → KeepsOutside us s x x
    same None = tt
    same (Some x) = (refl, refl, refl)

-- one call behind another
pub keeps_on : (us : List UnitSpec) (s : Stretch) (a b c : Option (List ℕ)) → KeepsOutside us s a b → KeepsOutside us s b c → KeepsOutside us s a c
keeps_on us s a b c p q = on (block_place us s.dev s.first) (s.count * block_len us s.dev) a b c p q

-- so many bytes were written in a stretch's place
pub keeps_written : (us : List UnitSpec) (s : Stretch) (n : ℕ) (a b c : Option (List ℕ)) → n ≡ s.count * block_len us s.dev → b ≡ a → Becomes (Apart (block_place us s.dev s.first) n) b c → KeepsOutside us s a c
keeps_written us s n a b c l e p = subst (λ v. KeepsOutside us s v c) e (subst (λ k. Becomes (Apart (block_place us s.dev s.first) k) b c) l p)

-- so many blocks before and so many others lie inside all
within : (k n c m len : ℕ) → n + c ≤ m → k * len ≤ (k + n) * len × ((k + n) * len + c * len ≤ k * len + m * len)
within k n c m len h = let a : len * (n + c) ≤ len * m = mul-le-mul_left len h in let b = mul_comm len (n + c) in let d = mul_comm len m in (omega arith, omega arith)

part : (us : List UnitSpec) (s : Stretch) (n c : ℕ) (a b : Option (List ℕ)) → (spec_of us s.dev).first ≤ s.first → n + c ≤ s.count → KeepsOutside us (record { dev = s.dev; first = s.first + n; count = c }) a b → KeepsOutside us s a b
part us s n c a b f h p =
    let k : ℕ = s.first - (spec_of us s.dev).first in
    let w = within k n c s.count (block_len us s.dev) h in
    let e : s.first + n - (spec_of us s.dev).first ≡ k + n = omega arith in
    let place : block_place us s.dev (s.first + n) ≡ block_place us s.dev s.first - k * block_len us s.dev + (k + n) * block_len us s.dev = rw e (omega arith) in
    let w0 = w.0 in
    let w1 = w.1 in
    wide (block_place us s.dev (s.first + n)) (c * block_len us s.dev) (block_place us s.dev s.first) (s.count * block_len us s.dev) a b (omega arith) (omega arith) p

-- what keeps all outside of a stretch's front
pub keeps_front : (us : List UnitSpec) (s front : Stretch) (most : ℕ) (a b : Option (List ℕ)) → IsStretch us s → front ≡ front_in s most → KeepsOutside us front a b → KeepsOutside us s a b
keeps_front us s front most a b h e p =
    let first : s.first + 0 ≡ s.first = omega arith in
    part us s 0 (min s.count most) a b h.first (omega arith) (rw first (subst (λ v. KeepsOutside us v a b) e p))

-- what keeps all outside of a piece of it
pub keeps_piece : (us : List UnitSpec) (s left piece : Stretch) (most n : ℕ) (a b : Option (List ℕ)) → IsStretch us s → piece ≡ front_in left most → left ≡ behind_in s n → n + left.count ≡ s.count → KeepsOutside us piece a b → KeepsOutside us s a b
keeps_piece us s left piece most n a b h e f g p =
    let is : piece ≡ front_in (behind_in s n) most = e ∙ ap (λ v. front_in v most) f in
    part us s n (min (s.count - n) most) a b h.first (omega arith) (subst (λ v. KeepsOutside us v a b) is p)
