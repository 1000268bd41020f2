-- The test for a shared byte of two segments is exact.
use Rattle.std.proofs.Common.{◌≡◌, ℕ, ◌+◌, ◌-◌, ◌<◌, Bool, true, max, eqb, ◌&&◌, sym, refl, ◌∙◌, ◌↔◌, arith}
use Rattle.std.specs.Prelude.{IsTrue, nat_lt}
use Rattle.std.proofs.lemmas.Bool.Decides.{nat_tests}
use Rattle.page_pool.specs.declared.segs.Seg.{Seg}
use Rattle.page_pool.specs.Places.{PageByte, Overlap, shares}
use Rattle.page_pool.proofs.Placing.{at_place}
use Rattle.page_pool.proofs.Separate.{within}

-- the test's three parts
record Parts (p q a b m n : ℕ) : Type 0 where
  pub same : p ≡ q
  pub left : max a b < a + m
  pub right : max a b < b + n

parts : (p q a b m n : ℕ) → (eqb p q && (nat_lt (max a b - a) m && nat_lt (max a b - b) n)) ≡ true → Parts p q a b m n
parts p q a b m n h = record { same = grind (arith, nat_tests); left = grind (arith, nat_tests); right = grind (arith, nat_tests) }

whole : (p q a b m n : ℕ) → p ≡ q → max a b < a + m → max a b < b + n → (eqb p q && (nat_lt (max a b - a) m && nat_lt (max a b - b) n)) ≡ true
whole p q a b m n e k l = grind (arith, nat_tests)

overlap : (s t : Seg) → shares s t ≡ true → Overlap s t
overlap s t h =
    let k = parts s.page t.page s.off t.off s.len t.len h in
    let first : PageByte = record { page = s.page; off = max s.off t.off } in
    (first, at_place s first refl (omega arith) k.left, at_place t first k.same (omega arith) k.right)

meets : (s t : Seg) → Overlap s t → shares s t ≡ true
meets s t h =
    let a = within s.page s.off s.len h.0 h.1 in
    let b = within t.page t.off t.len h.0 h.2 in
    let low = a.low in
    let high = a.high in
    let from = b.low in
    let end = b.high in
    whole s.page t.page s.off t.off s.len t.len (sym a.same ∙ b.same) (omega arith) (omega arith)

pub exact : (s t : Seg) (b : Bool) → b ≡ shares s t → IsTrue b ↔ Overlap s t
exact s t b e = (λ h. overlap s t (sym e ∙ h), λ h. e ∙ meets s t h)
