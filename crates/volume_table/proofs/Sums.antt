-- Sums of lengths, and the state of the walk over the entries.
use Rattle.std.proofs.Common.{◌≡◌, ℕ, ◌+◌, ◌*◌, ◌^◌, ◌<◌, ◌≤◌, List, [], ◌∷◌, length, drop, get_or, sum_by, take, All, ap, subst, arith}
use Rattle.std.proofs.lemmas.List.{take_all}
use Rattle.std.proofs.lemmas.List.Elements.{All-head, All-tail}
use Rattle.std.proofs.lemmas.List.Sums.{sum_by-cons, sum_by_more_le}
use Rattle.pi_tuple.specs.declared.checks.PiType.{PiType}
use Rattle.volume_table.specs.declared.device.DeviceInfo.{DeviceInfo}
use Rattle.volume_table.specs.declared.entry.Entry.{Entry}
use Rattle.volume_table.specs.declared.entry.Entry.TheVariants.{Linear, Stripe}
use Rattle.volume_table.specs.Entries.{IsInRange, IsLength, entry_len}
use Rattle.volume_table.specs.Faults.{fault_from, table_fault}

pub record Judged (ty : PiType) (entries : List Entry) (devices : List DeviceInfo) (size i start : ℕ) : Type 0 where
  pub so_far : fault_from ty (take i entries) (drop i entries) devices size ≡ table_fault entries devices size
  pub sum : start ≡ sum_by entry_len (take i entries)

pub len_range : (e : Entry) → IsInRange e → IsLength (entry_len e)
len_range (Linear e) h = h
len_range (Stripe s) h = h.0

-- entries in their ranges have few blocks
pub few : (xs : List Entry) → All IsInRange xs → sum_by entry_len xs ≤ 1048576 * length xs
few [] h = omega arith
few (x ∷ xs) h = omega (arith, len_range x (All-head IsInRange x xs h), few xs (All-tail IsInRange x xs h), sum_by-cons entry_len x xs)

-- one more length still fits
pub one_fits : (xs : List Entry) (i n m : ℕ) (x : Entry) → length xs ≤ 16 → All IsInRange xs → i < length xs → x ≡ get_or xs i x → n ≡ sum_by entry_len (take i xs) → m ≡ entry_len x → n + m < 2 ^ 64
one_fits xs i n m x count ranges lt is en em =
    let more : sum_by entry_len (take i xs) + entry_len (get_or xs i x) ≤ sum_by entry_len xs = sum_by_more_le entry_len xs i x lt in
    let same : entry_len x ≡ entry_len (get_or xs i x) = ap entry_len is in
    omega (arith, few xs ranges)

-- what holds of each element up to the end holds of all
pub all_of : {X : Type 0} (P : X → Type 0) (xs : List X) (i : ℕ) → length xs ≤ i → All P (take i xs) → All P xs
all_of P xs i h all = subst (All P) (take_all i xs h) all
