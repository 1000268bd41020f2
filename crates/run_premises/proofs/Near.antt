-- Bytes that are near, and what a guard says of a change by them.
use Rattle.std.proofs.Common.{◌≡◌, ◌≢◌, ℕ, zero, suc, ◌+◌, ◌<◌, ◌≤◌, Bool, true, false, not, ◌&&◌, eqb, ◌⊎◌, inl, inr, List, [], ◌∷◌, length, take, get_or, if◌then◌else◌, refl, sym, ap, ◌∙◌, arith, lit<}
use Rattle.std.specs.Prelude.{bit_xor, replicate, All}
use Rattle.std.specs.List.{list_all}
use Rattle.std.specs.Int.Bits.{xor_zero_l, xor_zero_r}
use Rattle.std.proofs.lemmas.Bool.{and_parts, eqb-false, eqb-true, false≢true, ne_eqb, not-true, not_from_false}
use Rattle.std.proofs.lemmas.Grind.{same_number_lists}
use Rattle.std.proofs.lemmas.List.{get_or-replicate, length-replicate}
use Rattle.pi_guard.specs.Guards.{crc}
use Rattle.pi_guard.specs.declared.GuardKind.{GuardKind}
use Rattle.pi_guard.specs.declared.GuardKind.TheVariants.{Crc, Ip}
use Rattle.fault_schedule.specs.Altered.{xored_from}
use Rattle.fault_schedule.proofs.Xored.{length-xored, get-xored}
use Rattle.guard_laws.proofs.Additive.{crc-xored}
use Rattle.pi_guard.proofs.Division.{are_bytes}
use Rattle.guard_laws.proofs.Flips.{xor_kept, xored_shown}
use Rattle.run_premises.specs.Forms.{is_near, is_none, is_seen}

-- ---- near bytes

pub none_at : (xs : List ℕ) → list_all is_none xs ≡ true → (k : ℕ) → get_or xs k 0 ≡ 0
none_at [] h k = refl
none_at (x ∷ xs) h zero = eqb-true x 0 (and_parts (is_none x) (list_all is_none xs) h).0
none_at (x ∷ xs) h (suc k) = none_at xs (and_parts (is_none x) (list_all is_none xs) h).1 k

-- Each byte outside of two places is 0, some byte isn't, and those at the two aren't both 255.
pub record Near (xs : List ℕ) : Type 0 where
  pub first : ℕ
  pub place : ℕ
  pub outside : (k : ℕ) → (k < first) ⊎ (first + 2 ≤ k) → get_or xs k 0 ≡ 0
  pub inside : place < length xs
  pub some : get_or xs place 0 ≢ 0
  pub not_all : ¬ ((get_or xs first 0 ≡ 255) × (get_or xs (first + 1) 0 ≡ 255))

one_outside : (x k : ℕ) → (k < 0) ⊎ (2 ≤ k) → get_or (x ∷ []) k 0 ≡ 0
one_outside x zero (inl l) = absurd (omega arith)
one_outside x zero (inr l) = absurd (omega arith)
one_outside x (suc k) o = refl

pair_outside : (x y : ℕ) (rest : List ℕ) → list_all is_none rest ≡ true → (k : ℕ) → (k < 0) ⊎ (2 ≤ k) → get_or (x ∷ y ∷ rest) k 0 ≡ 0
pair_outside x y rest h zero (inl l) = absurd (omega arith)
pair_outside x y rest h zero (inr l) = absurd (omega arith)
pair_outside x y rest h (suc zero) (inl l) = absurd (omega arith)
pair_outside x y rest h (suc zero) (inr l) = absurd (omega arith)
pair_outside x y rest h (suc (suc k)) o = none_at rest h k

not_two : (x y : ℕ) → not (eqb x 255 && eqb y 255) ≡ true → ¬ ((x ≡ 255) × (y ≡ 255))
not_two x y h e = let e0 = e.0 in let e1 = e.1 in both e0 e1 h where
  both : x ≡ 255 → y ≡ 255 → not (eqb x 255 && eqb y 255) ≡ true → ⊥
  both p q h = false≢true (sym (rw (p, q) refl) ∙ h)

later_outside : (x : ℕ) (xs : List ℕ) (first : ℕ) → x ≡ 0 → ((k : ℕ) → (k < first) ⊎ (first + 2 ≤ k) → get_or xs k 0 ≡ 0) → (k : ℕ) → (k < suc first) ⊎ (suc first + 2 ≤ k) → get_or (x ∷ xs) k 0 ≡ 0
later_outside x xs first e h zero o = e
later_outside x xs first e h (suc k) (inl l) = h k (inl (omega arith))
later_outside x xs first e h (suc k) (inr l) = h k (inr (omega arith))

later_not : (x : ℕ) (xs : List ℕ) (first : ℕ) → ¬ ((get_or xs first 0 ≡ 255) × (get_or xs (first + 1) 0 ≡ 255)) → ¬ ((get_or xs first 0 ≡ 255) × (get_or (x ∷ xs) (suc first + 1) 0 ≡ 255))
later_not x xs first h e = let z : suc first + 1 ≡ suc (first + 1) = omega arith in h (e.0, sym (ap (λ v. get_or (x ∷ xs) v 0) z) ∙ e.1)

later : (x : ℕ) (xs : List ℕ) → x ≡ 0 → Near xs → Near (x ∷ xs)
later x xs e h = record {
  first = suc h.first;
  place = suc h.place;
  outside = later_outside x xs h.first e h.outside;
  inside = let l = h.inside in omega arith;
  some = h.some;
  not_all = later_not x xs h.first h.not_all;
}

one_near : (x : ℕ) → x ≢ 0 → Near (x ∷ [])
one_near x n = record { first = 0; place = 0; outside = one_outside x; inside = omega arith; some = n; not_all = λ e. let e1 = e.1 in absurd (omega arith) }

two_near : (x y : ℕ) (rest : List ℕ) → x ≢ 0 → not (eqb x 255 && eqb y 255) ≡ true → list_all is_none rest ≡ true → Near (x ∷ y ∷ rest)
two_near x y rest n h k = record { first = 0; place = 0; outside = pair_outside x y rest k; inside = omega arith; some = n; not_all = not_two x y h }

near_by : (x y : ℕ) (rest : List ℕ) → (is_near (y ∷ rest) ≡ true → Near (y ∷ rest)) → (c : Bool) → is_none x ≡ c → (if c then is_near (y ∷ rest) else not (eqb x 255 && eqb y 255) && list_all is_none rest) ≡ true → Near (x ∷ y ∷ rest)
near_by x y rest next true e h = later x (y ∷ rest) (eqb-true x 0 e) (next h)
near_by x y rest next false e h = let p = and_parts (not (eqb x 255 && eqb y 255)) (list_all is_none rest) h in two_near x y rest (eqb-false x 0 e) p.0 p.1

pub near : (xs : List ℕ) → is_near xs ≡ true → Near xs
near [] h = absurd (false≢true h)
near (x ∷ []) h = one_near x (eqb-false x 0 (not-true (is_none x) h))
near (x ∷ y ∷ rest) h = near_by x y rest (near (y ∷ rest)) (is_none x) refl h

-- ---- bytes xored onto zeros

pub xored_same : (f g : ℕ → ℕ) (xs : List ℕ) → ((k : ℕ) → k < length xs → f k ≡ g k) → xored_from f 0 xs ≡ xored_from g 0 xs
xored_same f g xs h =
    same_number_lists (xored_from f 0 xs) (xored_from g 0 xs) (length-xored f 0 xs ∙ sym (length-xored g 0 xs)) (λ k l.
    let n = length-xored f 0 xs in
    let b : k < length xs = omega arith in
    let z : 0 + k ≡ k = omega arith in
    get-xored f 0 xs k b ∙ ap (λ v. bit_xor (get_or xs k 0) (f v)) z ∙ ap (bit_xor (get_or xs k 0)) (h k b) ∙ sym (ap (λ v. bit_xor (get_or xs k 0) (g v)) z) ∙ sym (get-xored g 0 xs k b))

-- the byte that is named for a place
pub named_at : (f : ℕ → ℕ) (n k : ℕ) → k < n → get_or (xored_from f 0 (replicate n 0)) k 0 ≡ f k
named_at f n k l =
    let long = length-replicate {A = ℕ} n 0 in
    let z : 0 + k ≡ k = omega arith in
    get-xored f 0 (replicate n 0) k (omega arith) ∙ ap (λ v. bit_xor v (f (0 + k))) (get_or-replicate n k 0 0 l) ∙ xor_zero_l (f (0 + k)) ∙ ap f z

pub take-xored : (f : ℕ → ℕ) (n i : ℕ) (xs : List ℕ) → take n (xored_from f i xs) ≡ xored_from f i (take n xs)
take-xored f zero i xs = refl
take-xored f (suc n) i [] = refl
take-xored f (suc n) i (x ∷ xs) = ap (λ v. bit_xor x (f i) ∷ v) (take-xored f n (i + 1) xs)

onto_itself : (xs : List ℕ) → xored_from (λ k. get_or xs k 0) 0 (replicate (length xs) 0) ≡ xs
onto_itself xs =
    let f : ℕ → ℕ = λ k. get_or xs k 0 in
    let long = length-xored f 0 (replicate (length xs) 0) ∙ length-replicate {A = ℕ} (length xs) 0 in
    same_number_lists (xored_from f 0 (replicate (length xs) 0)) xs long (λ k l. named_at f (length xs) k (omega arith))

-- nothing leaves zeros
nothing : (i : ℕ) (xs : List ℕ) → xored_from (λ k. 0) i xs ≡ xs
nothing i [] = refl
nothing i (x ∷ xs) = let rest = nothing (i + 1) xs in let first = xor_zero_r x in cc

pub crc-zeros : (n : ℕ) → crc (replicate n 0) ≡ 0
crc-zeros n =
    let f : ℕ → ℕ = λ k. 0 in
    let zs = replicate n 0 in
    let long = length-replicate {A = ℕ} n 0 in
    let e : crc zs ≡ bit_xor (crc zs) (crc (xored_from f 0 (replicate (length zs) 0))) = sym (ap crc (nothing 0 zs)) ∙ crc-xored f zs in
    let z : crc (xored_from f 0 (replicate (length zs) 0)) ≡ 0 = xor_kept (crc zs) _ (sym e) in
    ap (λ v. crc (replicate v 0)) (sym long) ∙ sym (ap crc (nothing 0 (replicate (length zs) 0))) ∙ z

pub zeros_are_bytes : (n : ℕ) → All (λ x. x < 256) (replicate n 0)
zeros_are_bytes n k d l = let long = length-replicate {A = ℕ} n 0 in rw (get_or-replicate n k 0 d (omega arith)) (lit< tt)

pub near_seen : (kind : GuardKind) (mask : List ℕ) → All (λ x. x < 256) mask → is_near mask ≡ true → is_seen kind mask ≡ true
near_seen Ip mask bytes h = h
near_seen Crc mask bytes h =
    let c = near mask h in
    let f : ℕ → ℕ = λ k. get_or mask k 0 in
    let zs = replicate (length mask) 0 in
    let long = length-replicate {A = ℕ} (length mask) 0 in
    let inside = c.inside in
    let shown = xored_shown f zs (zeros_are_bytes (length mask)) (are_bytes mask bytes) c.first c.place c.outside (omega arith) c.some in
    not_from_false (eqb (crc mask) 0) (ne_eqb (crc mask) 0 (λ e. shown (ap crc (onto_itself mask) ∙ e ∙ sym (crc-zeros (length mask)))))
