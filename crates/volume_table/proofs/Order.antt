-- Entries that follow one another: which one holds a block.
use Rattle.std.proofs.Common.{◌≡◌, ℕ, ◌+◌, ◌<◌, ◌≤◌, true, false, List, [], ◌∷◌, ◌++◌, Some, find, inl, inr, sum_by, refl, sym, ap, ◌∙◌, subst, arith}
use Rattle.std.proofs.lemmas.Bool.{cases_lt}
use Rattle.std.proofs.lemmas.Bool.Decides.{nat_tests}
use Rattle.std.proofs.lemmas.List.Sums.{sum_by-append, sum_by-cons}
use Rattle.pi_tuple.specs.declared.checks.PiType.{PiType}
use Rattle.volume_table.specs.declared.device.DeviceInfo.{DeviceInfo}
use Rattle.volume_table.specs.declared.entry.Entry.{Entry}
use Rattle.volume_table.specs.Entries.{entry_len, entry_start, is_held}
use Rattle.volume_table.proofs.Fine.{AllFine}
use Rattle.volume_table.proofs.Lists.{In}

-- the first starts here, and each other where the one before it ends
abbrev pub Ordered : ℕ → List Entry → Type 0
Ordered n [] = Unit {0}
Ordered n (e ∷ rest) = (entry_start e ≡ n) × Ordered (n + entry_len e) rest

one_more : (before : List Entry) (e : Entry) → sum_by entry_len before + entry_len e ≡ sum_by entry_len (before ++ e ∷ [])
one_more before e = omega (arith, sum_by-append entry_len before (e ∷ []))

pub ordered : (ty : PiType) (before rest : List Entry) (devices : List DeviceInfo) (size : ℕ) → AllFine ty before rest devices size → Ordered (sum_by entry_len before) rest
ordered ty before [] devices size f = tt
ordered ty before (e ∷ rest) devices size f =
    (f.0.start, subst (λ (n : ℕ). Ordered n rest) (sym (one_more before e)) (ordered ty (before ++ e ∷ []) rest devices size f.1))

pub is_in : (v : ℕ) (e : Entry) → is_held v e ≡ true → (entry_start e ≤ v) × (v < entry_start e + entry_len e)
is_in v e h = grind (arith, nat_tests)

pub in_is : (v : ℕ) (e : Entry) → entry_start e ≤ v → v < entry_start e + entry_len e → is_held v e ≡ true
in_is v e p q = grind (arith, nat_tests)

pub not_in : (v : ℕ) (e : Entry) → entry_start e + entry_len e ≤ v → is_held v e ≡ false
not_in v e p = grind (arith, nat_tests)

-- each lies between the first start and the last end
pub between : (n : ℕ) (xs : List Entry) → Ordered n xs → (e : Entry) → In e xs → (n ≤ entry_start e) × (entry_start e + entry_len e ≤ n + sum_by entry_len xs)
between n [] o e i = absurd i
between n (x ∷ xs) o e i =
    elim i [
      | inl same ↦
          let s : entry_start e ≡ n = subst (λ (z : Entry). entry_start z ≡ n) same o.0 in
          let l : entry_len e ≡ entry_len x = ap entry_len (sym same) in
          let sum : sum_by entry_len (x ∷ xs) ≡ entry_len x + sum_by entry_len xs = sum_by-cons entry_len x xs in
          (omega arith, omega arith)
      | inr later ↦ let r = between (n + entry_len x) xs o.1 e later in (omega (arith, r.0), omega (arith, r.1, sum_by-cons entry_len x xs))
    ]

found_here : (v : ℕ) (x : Entry) (xs : List Entry) → is_held v x ≡ true → find (is_held v) (x ∷ xs) ≡ Some x
found_here v x xs h = rw h refl

found_later : (v : ℕ) (x : Entry) (xs : List Entry) → is_held v x ≡ false → find (is_held v) (x ∷ xs) ≡ find (is_held v) xs
found_later v x xs h = rw h refl

-- the entry that holds a block is the one that is found
pub found : (n v : ℕ) (xs : List Entry) → Ordered n xs → (e : Entry) → In e xs → is_held v e ≡ true → find (is_held v) xs ≡ Some e
found n v [] o e i h = absurd i
found n v (x ∷ xs) o e i h =
    elim i [
      | inl same ↦ subst (λ (z : Entry). find (is_held v) (x ∷ xs) ≡ Some z) same (found_here v x xs (subst (λ (z : Entry). is_held v z ≡ true) (sym same) h))
      | inr later ↦
          let b = between (n + entry_len x) xs o.1 e later in
          let s : entry_start x ≡ n = o.0 in
          let k = is_in v e h in
          found_later v x xs (not_in v x (omega (arith, b.0, k.0))) ∙ found (n + entry_len x) v xs o.1 e later h
    ]

pub record Holder (v : ℕ) (xs : List Entry) : Type 0 where
  pub entry : Entry
  pub listed : In entry xs
  pub holds : is_held v entry ≡ true

-- each block below the end has an entry
pub holder_of : (n v : ℕ) (xs : List Entry) → Ordered n xs → n ≤ v → v < n + sum_by entry_len xs → Holder v xs
holder_of n v [] o p q = absurd (omega arith)
holder_of n v (x ∷ xs) o p q =
    let s : entry_start x ≡ n = o.0 in
    let sum : sum_by entry_len (x ∷ xs) ≡ entry_len x + sum_by entry_len xs = sum_by-cons entry_len x xs in
    elim (cases_lt v (n + entry_len x)) [
      | inl below ↦ record { entry = x; listed = inl refl; holds = in_is v x (omega arith) (omega arith) }
      | inr above ↦ let r = holder_of (n + entry_len x) v xs o.1 above (omega arith) in record { entry = r.entry; listed = inr r.listed; holds = r.holds }
    ]
