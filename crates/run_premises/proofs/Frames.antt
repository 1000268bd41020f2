-- A frame after a flip of its data and its guard.
use Rattle.std.proofs.Common.{◌≡◌, inl, inr, ℕ, zero, suc, ◌+◌, ◌-◌, ◌%◌, ◌<◌, ◌≤◌, true, List, [], ◌∷◌, ◌++◌, length, take, drop, get_or, refl, sym, ap, ◌∙◌, arith, lit<}
use Rattle.std.specs.Prelude.{bit_xor, replicate, All}
use Rattle.std.specs.Int.{w16, w32, from_be_bytes, to_be_bytes}
use Rattle.std.specs.Int.Bits.{xor_zero_r}
use Rattle.std.specs.List.{list_all}
use Rattle.std.proofs.lemmas.Bool.{cases_lt, eqb-false, not-true}
use Rattle.std.proofs.lemmas.List.{get_or-drop, get_or-take, get_or_past, length-replicate, length-take-le, take-append-drop, take-replicate, take_at}
use Rattle.std.proofs.lemmas.Nat.{xor_of_8}
use Rattle.pi_guard.specs.Guards.{crc, guard_of}
use Rattle.pi_guard.specs.declared.GuardKind.{GuardKind}
use Rattle.pi_guard.specs.declared.GuardKind.TheVariants.{Crc, Ip}
use Rattle.fault_schedule.specs.Altered.{xored_from}
use Rattle.fault_schedule.proofs.Xored.{length-xored, get-xored}
use Rattle.rig_api.specs.Frames.{data_of, tuple_of}
use Rattle.block_path.proofs.Cells.{AllBelow}
use Rattle.run_laws.proofs.Passed.{below_at, below_take, below_drop, spelled}
use Rattle.guard_laws.specs.Guarded.{guarded}
use Rattle.guard_laws.proofs.Additive.{hidden_exactly}
use Rattle.guard_laws.proofs.Flips.{xored_shown_by_each}
use Rattle.run_premises.specs.Forms.{is_none, is_seen}
use Rattle.run_premises.proofs.Near.{near, named_at, none_at, take-xored, xored_same}
use Rattle.run_premises.proofs.Sums.{guard_clears}
use Rattle.small_laws.proofs.Lists.{behind_long}

-- what is below 256 place by place is so place by place, whatever stands in for a missing one
pub all_of : (xs : List ℕ) → AllBelow 256 xs → All (λ x. x < 256) xs
all_of [] h k d l = absurd (omega arith)
all_of (x ∷ xs) h zero d l = h.0
all_of (x ∷ xs) h (suc k) d l = all_of xs h.1 k d (omega arith)

pub xored_below : (f : ℕ → ℕ) (i : ℕ) (xs : List ℕ) → ((k : ℕ) → f k < 256) → AllBelow 256 xs → AllBelow 256 (xored_from f i xs)
xored_below f i [] b h = tt
xored_below f i (x ∷ xs) b h = (xor_of_8 x (f i) h.0 (b i), xored_below f (i + 1) xs b h.1)

take_over : (p q : List ℕ) (n k : ℕ) → length p ≡ n → take (n + k) (p ++ q) ≡ p ++ take k q
take_over [] q n k e = let z : n + k ≡ k = omega arith in rw z refl
take_over (x ∷ p) q zero k e = absurd (omega arith)
take_over (x ∷ p) q (suc n) k e = let z : suc n + k ≡ suc (n + k) = omega arith in ap (λ v. take v (x ∷ (p ++ q))) z ∙ ap (λ v. x ∷ v) (take_over p q n k (omega arith))

module _ (n : ℕ) (x : List ℕ) (size : length x ≡ n + 8) (bytes : AllBelow 256 x) where
  -- data and guard are the frame's front
  pub front_is : take (n + 2) x ≡ guarded (data_of n x) (tuple_of n x).guard
  front_is =
      let g = (tuple_of n x).guard in
      ap (take (n + 2)) (sym (take-append-drop n x))
      ∙ take_over (take n x) (drop n x) n 2 (length-take-le n x (omega arith))
      ∙ ap (λ v. take n x ++ take 2 v) (sym (spelled (drop n x) (behind_long n 8 x size) (λ i. below_at 256 (drop n x) i 0 (omega arith) (below_drop 256 n x bytes))))
      ∙ ap (λ v. take n x ++ v) (take_at (to_be_bytes w16 g) (to_be_bytes w16 (tuple_of n x).app ++ to_be_bytes w32 (tuple_of n x).rtag) 2 refl)

  -- where the guard is right, that of the front is 0
  pub front_clears : (kind : GuardKind) → n % 2 ≡ 0 → (tuple_of n x).guard ≡ guard_of kind (data_of n x) → guard_of kind (take (n + 2) x) ≡ 0
  front_clears kind even right =
      let e : length (take n x) % 2 ≡ 0 = ap (λ v. v % 2) (length-take-le n x (omega arith)) ∙ even in
      ap (guard_of kind) (front_is ∙ ap (guarded (take n x)) right) ∙ guard_clears kind (take n x) e

-- all bytes that are named for a frame
abbrev pub mask : (n : ℕ) → (ℕ → ℕ) → List ℕ
mask n f = xored_from f 0 (replicate (n + 8) 0)

pub front_named : (n : ℕ) (f : ℕ → ℕ) → take (n + 2) (mask n f) ≡ xored_from f 0 (replicate (n + 2) 0)
front_named n f = take-xored f (n + 2) 0 (replicate (n + 8) 0) ∙ ap (xored_from f 0) (take-replicate (n + 2) (n + 8) 0 (omega arith))

module _ (n : ℕ) (f : ℕ → ℕ) (below : (k : ℕ) → f k < 256) (x : List ℕ) (size : length x ≡ n + 8) (bytes : AllBelow 256 x) where
  abbrev pub after : List ℕ
  after = xored_from f 0 x

  pub after_size : length after ≡ n + 8
  after_size = length-xored f 0 x ∙ size

  pub after_bytes : AllBelow 256 after
  after_bytes = xored_below f 0 x below bytes

  tail_at : list_all is_none (drop (n + 2) (mask n f)) ≡ true → (i : ℕ) → 2 ≤ i → i < 8 → get_or (drop n after) i 0 ≡ get_or (drop n x) i 0
  tail_at h i two eight =
      let z : 0 + (n + i) ≡ n + i = omega arith in
      let s : n + 2 + (i - 2) ≡ n + i = omega arith in
      let none : f (n + i) ≡ 0 =
      sym (named_at f (n + 8) (n + i) (omega arith)) ∙ ap (λ v. get_or (mask n f) v 0) (sym s) ∙ sym (get_or-drop (n + 2) (mask n f) (i - 2) 0) ∙ none_at (drop (n + 2) (mask n f)) h (i - 2) in
      get_or-drop n after i 0
      ∙ get-xored f 0 x (n + i) (omega arith)
      ∙ ap (λ v. bit_xor (get_or x (n + i) 0) (f v)) z
      ∙ ap (bit_xor (get_or x (n + i) 0)) none
      ∙ xor_zero_r (get_or x (n + i) 0)
      ∙ sym (get_or-drop n x i 0)

  -- the application tag stays
  pub app_stays : list_all is_none (drop (n + 2) (mask n f)) ≡ true → (tuple_of n after).app ≡ (tuple_of n x).app
  app_stays h =
      let a = tail_at h 2 (omega arith) (omega arith) in
      let b = tail_at h 3 (omega arith) (omega arith) in
      ap (λ v. from_be_bytes w16 (v ∷ get_or (drop n after) 3 0 ∷ [])) a ∙ ap (λ v. from_be_bytes w16 (get_or (drop n x) 2 0 ∷ v ∷ [])) b

  -- the fronts before and after
  both_clear : (kind : GuardKind) → n % 2 ≡ 0 → (tuple_of n x).guard ≡ guard_of kind (data_of n x) → (tuple_of n after).guard ≡ guard_of kind (data_of n after) →
      guard_of kind (xored_from f 0 (take (n + 2) x)) ≡ guard_of kind (take (n + 2) x)
  both_clear kind even right found =
      ap (guard_of kind) (sym (take-xored f (n + 2) 0 x)) ∙ front_clears n after after_size after_bytes kind even found ∙ sym (front_clears n x size bytes kind even right)

  pub front_size : length (take (n + 2) x) ≡ n + 2
  front_size = length-take-le (n + 2) x (omega arith)

  -- the guard that is found isn't that of the data that are found
  pub not_right : (kind : GuardKind) → n % 2 ≡ 0 → is_seen kind (take (n + 2) (mask n f)) ≡ true → (tuple_of n x).guard ≡ guard_of kind (data_of n x) → (tuple_of n after).guard ≡ guard_of kind (data_of n after) → ⊥
  not_right Crc even seen right found =
      let h = (hidden_exactly f (take (n + 2) x)).0 (both_clear Crc even right found) in
      eqb-false (crc (take (n + 2) (mask n f))) 0 (not-true _ seen) (ap crc (front_named n f ∙ ap (λ v. xored_from f 0 (replicate v 0)) (sym front_size)) ∙ h)
  not_right Ip even seen right found =
      let m = take (n + 2) (mask n f) in
      let g : ℕ → ℕ = λ k. get_or m k 0 in
      let c = near m seen in
      let at : (k : ℕ) → k < n + 2 → g k ≡ f k = λ k l. get_or-take (n + 2) (mask n f) k 0 l ∙ named_at f (n + 8) k (omega arith) in
      let long : length m ≡ n + 2 = ap length (front_named n f) ∙ length-xored f 0 (replicate (n + 2) 0) ∙ length-replicate {A = ℕ} (n + 2) 0 in
      let b : (k : ℕ) → g k < 256 = λ k. elim (cases_lt k (n + 2)) [
        | inl l ↦ rw (at k l) (below k)
        | inr l ↦ rw (get_or_past m k 0 (omega arith)) (lit< tt)
      ] in
      let inside = c.inside in
      let fs = front_size in
      xored_shown_by_each g (take (n + 2) x) (all_of (take (n + 2) x) (below_take 256 (n + 2) x bytes)) b Ip c.first c.place c.outside (omega arith) c.some c.not_all
      (ap (guard_of Ip) (xored_same g f (take (n + 2) x) (λ k l. at k (omega arith))) ∙ both_clear Ip even right found)
