-- The numbers of blocks that lie in so many segments are those up to a bound.
use Rattle.std.proofs.Common.{◌≡◌, ◌<◌, ◌≤◌, ℕ, zero, suc, ◌+◌, ◌-◌, ◌*◌, ◌/◌, min, max, Some, Bool, true, false, List, [], ◌∷◌, length, refl, sym, ap, ◌∙◌, ⊎_elim, inl, inr, arith}
use Rattle.std.specs.Prelude.{◌↔◌}
use Rattle.std.proofs.lemmas.Bool.{cases_Bool, cases_lt, cases_eq, and_parts, leb-true, le-leb}
use Rattle.std.proofs.lemmas.Bool.Decides.{leb_tells, eqb_tells}
use Rattle.std.proofs.Math.Nat.{le-div_iff_mul-le, mul-le-mul_right, mul_comm}
use Rattle.page_pool.specs.declared.segs.Seg.{Seg}
use Rattle.page_pool.specs.Cuts.{cut}
use Rattle.page_pool.specs.Places.{total}
use Rattle.page_pool.proofs.Cutting.{length-cut, length-cut_none, cut-few}
use Rattle.integrity_payload.specs.declared.payload.Payload.{Payload}
use Rattle.pi_tuple.specs.declared.TheConstants.{TUPLE}
use Rattle.bio_core.specs.Bios.{tuple_segs}
use Rattle.stack_laws.specs.Pieces.{greatest, fits}
use Rattle.stack_laws.specs.Plan.{Plan}
use Rattle.stack_steps.specs.Reach.{reach}

-- ---- one segment of the walk

pub reach-over : (s : Seg) (ss : List Seg) (at most : ℕ) → s.len ≤ at → reach (s ∷ ss) at most ≡ reach ss (at - s.len) most
reach-over s ss at most h = rw (le-leb s.len at h) refl

pub reach-ends : (s : Seg) (ss : List Seg) (at : ℕ) → at < s.len → reach (s ∷ ss) at 0 ≡ 0
reach-ends s ss at h = elim (leb_tells s.len at) [ inl l ↦ absurd (let k = l.1 in omega arith) | inr l ↦ rw l.0 refl ]

pub reach-takes : (s : Seg) (ss : List Seg) (at most : ℕ) → at < s.len → 0 < most → reach (s ∷ ss) at most ≡ (s.len - at) + reach ss 0 (most - 1)
reach-takes s ss at most h some = elim (leb_tells s.len at) [
  | inl l ↦ absurd (let k = l.1 in omega arith)
  | inr l ↦ elim (eqb_tells most 0) [ inl z ↦ absurd (let k = z.1 in omega arith) | inr z ↦ rw (l.0, z.0) refl ]
]

-- ---- the bytes within the reach are those in so few segments

-- of a range of a list
abbrev pub Holds : List Seg → (at most len : ℕ) → Type 0
Holds ss at most len = (len ≤ reach ss at most → length (cut ss at len) ≤ most) × (length (cut ss at len) ≤ most → len ≤ reach ss at most)

no-bytes : (ss : List Seg) (at most len : ℕ) → len ≡ 0 → Holds ss at most len
no-bytes ss at most len z = let few = cut-few ss at len in ((λ _. omega arith), (λ _. omega arith))

over-one : (s : Seg) (ss : List Seg) (at most len : ℕ) → s.len ≤ at → Holds ss (at - s.len) most (len - 0) → Holds (s ∷ ss) at most len
over-one s ss at most len over rest =
    let on = reach-over s ss at most over in
    let same = length-cut_none s ss at len 0 (omega arith) refl in
    ((λ a. let r = rest.0 (omega arith) in omega arith), (λ a. let r = rest.1 (omega arith) in omega arith))

ends-here : (s : Seg) (ss : List Seg) (at len : ℕ) → at < s.len → 0 < len → Holds (s ∷ ss) at 0 len
ends-here s ss at len i l =
    let ends = reach-ends s ss at i in
    let more = length-cut s ss at len (min (s.len - at) len) refl (omega arith) in
    ((λ a. omega arith), (λ a. omega arith))

takes-one : (s : Seg) (ss : List Seg) (at most len : ℕ) → at < s.len → 0 < most → 0 < len → Holds ss 0 (most - 1) (len - min (s.len - at) len) → Holds (s ∷ ss) at most len
takes-one s ss at most len i some l rest =
    let takes = reach-takes s ss at most i some in
    let more = length-cut s ss at len (min (s.len - at) len) refl (omega arith) in
    let front : at - s.len ≡ 0 = omega arith in
    let same = ap (λ n. length (cut ss n (len - min (s.len - at) len))) front in
    ((λ a. let r = rest.0 (omega arith) in omega arith), (λ a. let r = rest.1 (omega arith) in omega arith))

pub reached : (ss : List Seg) (at most len : ℕ) → at + len ≤ total ss → Holds ss at most len
reached [] at most len h = no-bytes [] at most len (omega arith)
reached (s ∷ ss) at most len h = elim (cases_lt 0 len) [
  | inr z ↦ no-bytes (s ∷ ss) at most len (omega arith)
  | inl l ↦ elim (cases_lt at s.len) [
    | inr over ↦ over-one s ss at most len over (reached ss (at - s.len) most (len - 0) (omega arith))
    | inl i ↦ elim (cases_eq most 0) [
      | inl z ↦ rw z (ends-here s ss at len i l)
      | inr some ↦ takes-one s ss at most len i (omega arith) l (reached ss 0 (most - 1) (len - min (s.len - at) len) (omega arith))
    ]
  ]
]

-- ---- blocks of one size

pub sized : (ss : List Seg) (k size left most r n : ℕ) → (k + left) * size ≤ total ss → 0 < size → r ≡ reach ss (k * size) most → n ≤ left →
    (n ≤ r / size → length (cut ss (k * size) (n * size)) ≤ most) × (length (cut ss (k * size) (n * size)) ≤ most → n ≤ r / size)
sized ss k size left most r n room some e few =
    let more : (k + n) * size ≤ (k + left) * size = mul-le-mul_right size (omega arith) in
    let split : (k + n) * size ≡ k * size + n * size = grind arith in
    let there = reached ss (k * size) most (n * size) (omega arith) in
    let whole = le-div_iff_mul-le some in
    ((λ a. let b : n * size ≤ r = whole.0 a in there.0 (omega arith)), (λ a. let b = there.1 a in whole.1 (omega arith)))

pub no_bytes : (ss : List Seg) (at size n : ℕ) → size ≡ 0 → length (cut ss at (n * size)) ≡ 0
no_bytes ss at size n z = let few = cut-few ss at (n * size) in let e : n * size ≡ 0 = rw z (grind arith) in omega arith

-- a request's tuples are blocks of eight bytes
pub tuples : (p : Payload) (k n : ℕ) → length (cut p.tuples (k * TUPLE) (n * TUPLE)) ≡ tuple_segs (Some p) k n
tuples p k n = ap (λ a. length (cut p.tuples a (n * TUPLE))) (mul_comm k TUPLE) ∙ ap (λ a. length (cut p.tuples (TUPLE * k) a)) (mul_comm n TUPLE)

-- ---- of numbers that pass up to a bound the greatest is the bound

pub greatest-bound : (test : ℕ → Bool) (l b : ℕ) → ((n : ℕ) → n ≤ l → (n ≤ b → test n ≡ true) × (test n ≡ true → n ≤ b)) → greatest test l ≡ max (min b l) 1
greatest-bound test zero b h = omega arith
greatest-bound test (suc l) b h =
    let e = greatest-bound test l b (λ n k. h n (omega arith)) in
    let here = h (suc l) (omega arith) in
    ⊎_elim
    (λ (z : test (suc l) ≡ true). let k = here.1 z in rw z (omega arith))
    (λ (z : test (suc l) ≡ false).
    rw z (⊎_elim (λ (k : b < suc l). omega arith) (λ (k : suc l ≤ b). let w : true ≡ false = sym (here.0 k) ∙ z in cc) (cases_lt b (suc l))))
    (cases_Bool (test (suc l)))

-- ---- a piece

-- the greatest piece of an op whose next blocks have so many segments
pub greatest-piece : (p : Plan) (i k l r : ℕ) (seg pi : ℕ → ℕ → ℕ) →
    ((a b : ℕ) → seg a b ≡ p.segs i a b) → ((a b : ℕ) → pi a b ≡ p.pi_segs i a b) →
    ((n : ℕ) → n ≤ l → (n ≤ r ↔ (seg k n ≤ p.limits.max_segs) × (pi k n ≤ p.limits.max_pi_segs))) → greatest (fits p i k) l ≡ max (min r l) 1
greatest-piece p i k l r seg pi d t h = greatest-bound (fits p i k) l r each
  where
    each : (n : ℕ) → n ≤ l → (n ≤ r → fits p i k n ≡ true) × (fits p i k n ≡ true → n ≤ r)
    each n few =
        let a = h n few in
        let e = d k n in
        let f = t k n in (
          (λ m. let b = a.0 m in let c = b.0 in let g = b.1 in rw (le-leb (p.segs i k n) p.limits.max_segs (omega arith), le-leb (p.pi_segs i k n) p.limits.max_pi_segs (omega arith)) refl),
          (λ z. let b = and_parts _ _ z in let c : p.segs i k n ≤ p.limits.max_segs = leb-true _ _ b.0 in let g : p.pi_segs i k n ≤ p.limits.max_pi_segs = leb-true _ _ b.1 in a.1 (omega arith, omega arith)),
        )
