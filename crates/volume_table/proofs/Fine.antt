-- What it means that no entry is at fault.
use Rattle.std.proofs.Common.{◌≡◌, ℕ, ◌+◌, ◌<◌, ◌≤◌, Bool, true, false, if◌then◌else◌, List, [], ◌∷◌, ◌++◌, length, Option, Some, None, inl, inr, sum_by, refl, subst, arith}
use Rattle.std.specs.List.{list_any}
use Rattle.std.proofs.lemmas.Bool.Decides.{nat_tests}
use Rattle.std.proofs.lemmas.Bool.{or_parts, not-false}
use Rattle.pi_tuple.specs.declared.checks.PiType.{PiType}
use Rattle.pi_tuple.specs.declared.checks.PiType.TheVariants.{Zero, One, Two, Three}
use Rattle.volume_table.specs.declared.device.DeviceInfo.{DeviceInfo}
use Rattle.volume_table.specs.declared.entry.Entry.{Entry}
use Rattle.volume_table.specs.declared.extent.Extent.{Extent}
use Rattle.volume_table.specs.declared.fault.VolumeFault.{VolumeFault}
use Rattle.volume_table.specs.declared.fault.VolumeKind.{VolumeKind}
use Rattle.volume_table.specs.declared.fault.VolumeKind.TheVariants.{Gap, UnknownDevice, PastEnd, Overlap, MixedTypes, BadChunk, BeforeStart, OtherSize}
use Rattle.volume_table.specs.Entries.{entry_len, entry_start, extents}
use Rattle.volume_table.specs.Faults.{device, do_any_meet, fault_from, fault_of, has_bad_chunk, have_shared_legs, is_before_start, is_gap, is_of_other_size, is_of_other_type, is_overlapping, is_past_end, is_type, is_unknown, or_later}
use Rattle.volume_table.specs.Tables.{IsOn}
use Rattle.volume_table.proofs.Lists.{In, in_front, in_last, none_in}
use Rattle.small_laws.proofs.Tests.{same_number}

pub record IsFine (ty : PiType) (before : List Entry) (e : Entry) (devices : List DeviceInfo) (size : ℕ) : Type 0 where
  pub start : entry_start e ≡ sum_by entry_len before
  pub known : list_any (is_unknown devices) (extents e) ≡ false
  pub chunk : has_bad_chunk e ≡ false
  pub begins : list_any (is_before_start devices) (extents e) ≡ false
  pub ends : list_any (is_past_end devices) (extents e) ≡ false
  pub legs : have_shared_legs e ≡ false
  pub clear : list_any (λ b. do_any_meet (extents e) (extents b)) before ≡ false
  pub types : list_any (is_of_other_type ty devices) (extents e) ≡ false
  pub sizes : list_any (is_of_other_size size devices) (extents e) ≡ false

pick : (b : Bool) (k : VolumeKind) (r : Option VolumeKind) → (if b then Some k else r) ≡ None → (b ≡ false) × (r ≡ None)
pick true k r h = absurd (cc)
pick false k r h = (refl, h)

fine : (ty : PiType) (before : List Entry) (e : Entry) (devices : List DeviceInfo) (size : ℕ) → fault_of ty before e devices size ≡ None → IsFine ty before e devices size
fine ty before e devices size h =
    let p1 = pick (is_gap before e) Gap _ h in
    let p2 = pick (list_any (is_unknown devices) (extents e)) UnknownDevice _ p1.1 in
    let p6 = pick (has_bad_chunk e) BadChunk _ p2.1 in
    let p7 = pick (list_any (is_before_start devices) (extents e)) BeforeStart _ p6.1 in
    let p3 = pick (list_any (is_past_end devices) (extents e)) PastEnd _ p7.1 in
    let p4 = pick (is_overlapping before e) Overlap _ p3.1 in
    let p5 = pick (list_any (is_of_other_type ty devices) (extents e)) MixedTypes _ p4.1 in
    let p8 = pick (list_any (is_of_other_size size devices) (extents e)) OtherSize _ p5.1 in
    let over = or_parts (have_shared_legs e) (list_any (λ b. do_any_meet (extents e) (extents b)) before) p4.0 in
    record {
      start = same_number (entry_start e) (sum_by entry_len before) p1.0;
      known = p2.0;
      chunk = p6.0;
      begins = p7.0;
      ends = p3.0;
      legs = over.0;
      clear = over.1;
      types = p5.0;
      sizes = p8.0;
    }

later_none : (k : Option VolumeKind) (n : ℕ) (later : Option VolumeFault) → or_later k n later ≡ None → (k ≡ None) × (later ≡ None)
later_none (Some k) n later h = absurd (cc)
later_none None n later h = (refl, h)

abbrev pub AllFine : PiType → List Entry → List Entry → List DeviceInfo → ℕ → Type 0
AllFine ty before [] devices size = Unit {0}
AllFine ty before (e ∷ rest) devices size = IsFine ty before e devices size × AllFine ty (before ++ e ∷ []) rest devices size

pub all_fine : (ty : PiType) (before rest : List Entry) (devices : List DeviceInfo) (size : ℕ) → fault_from ty before rest devices size ≡ None → AllFine ty before rest devices size
all_fine ty before [] devices size h = tt
all_fine ty before (e ∷ rest) devices size h =
    let p = later_none (fault_of ty before e devices size) (length before + 1) (fault_from ty (before ++ e ∷ []) rest devices size) h in
    (fine ty before e devices size p.0, all_fine ty (before ++ e ∷ []) rest devices size p.1)

same_type : (a b : PiType) → is_type a b ≡ true → a ≡ b
same_type Zero Zero h = refl
same_type Zero One h = absurd (cc)
same_type Zero Two h = absurd (cc)
same_type Zero Three h = absurd (cc)
same_type One Zero h = absurd (cc)
same_type One One h = refl
same_type One Two h = absurd (cc)
same_type One Three h = absurd (cc)
same_type Two Zero h = absurd (cc)
same_type Two One h = absurd (cc)
same_type Two Two h = refl
same_type Two Three h = absurd (cc)
same_type Three Zero h = absurd (cc)
same_type Three One h = absurd (cc)
same_type Three Two h = absurd (cc)
same_type Three Three h = refl

one_known : (devices : List DeviceInfo) (x : Extent) → is_unknown devices x ≡ false → x.dev < length devices
one_known devices x h = grind (arith, nat_tests)

one_begins : (devices : List DeviceInfo) (x : Extent) → is_before_start devices x ≡ false → (device devices x.dev).first ≤ x.at
one_begins devices x h = grind (arith, nat_tests)

one_ends : (devices : List DeviceInfo) (x : Extent) → is_past_end devices x ≡ false → x.at + x.len ≤ (device devices x.dev).first + (device devices x.dev).blocks
one_ends devices x h = grind (arith, nat_tests)

one_size : (size : ℕ) (devices : List DeviceInfo) (x : Extent) → is_of_other_size size devices x ≡ false → (device devices x.dev).size ≡ size
one_size size devices x h = grind (arith, nat_tests)

-- An entry's extents lie on their devices.
pub extent_on : (ty : PiType) (before : List Entry) (e : Entry) (devices : List DeviceInfo) (size : ℕ) → IsFine ty before e devices size → (x : Extent) → In x (extents e) → IsOn devices ty size x.dev x.at x.len
extent_on ty before e devices size f x i =
    record {
      known = one_known devices x (none_in (is_unknown devices) (extents e) x f.known i);
      begins = one_begins devices x (none_in (is_before_start devices) (extents e) x f.begins i);
      ends = one_ends devices x (none_in (is_past_end devices) (extents e) x f.ends i);
      type_is = same_type (device devices x.dev).ty ty (not-false _ (none_in (is_of_other_type ty devices) (extents e) x f.types i));
      size_is = one_size size devices x (none_in (is_of_other_size size devices) (extents e) x f.sizes i);
    }

pub fine_at : (ty : PiType) (before rest : List Entry) (devices : List DeviceInfo) (size : ℕ) → AllFine ty before rest devices size → (e : Entry) → In e rest → (b : List Entry) × IsFine ty b e devices size
fine_at ty before [] devices size f e i = absurd i
fine_at ty before (x ∷ rest) devices size f e i =
    elim i [
      | inl same ↦ subst (λ (z : Entry). (b : List Entry) × IsFine ty b z devices size) same (before, f.0)
      | inr later ↦ fine_at ty (before ++ x ∷ []) rest devices size f.1 e later
    ]

-- no extent of e shares a block with one of b
abbrev pub Clear : Entry → Entry → Type 0
Clear b e = do_any_meet (extents e) (extents b) ≡ false

clear_after : (ty : PiType) (before rest : List Entry) (devices : List DeviceInfo) (size : ℕ) → AllFine ty before rest devices size → (b : Entry) → In b before → (e : Entry) → In e rest → Clear b e
clear_after ty before [] devices size f b ib e ie = absurd ie
clear_after ty before (x ∷ rest) devices size f b ib e ie =
    elim ie [
      | inl same ↦ subst (λ (z : Entry). Clear b z) same (none_in (λ y. do_any_meet (extents x) (extents y)) before b f.0.clear ib)
      | inr later ↦ clear_after ty (before ++ x ∷ []) rest devices size f.1 b (in_front b before (x ∷ []) ib) e later
    ]

abbrev pub AllClear : List Entry → Type 0
AllClear [] = Unit {0}
AllClear (b ∷ rest) = ((e : Entry) → In e rest → Clear b e) × AllClear rest

pub all_clear : (ty : PiType) (before rest : List Entry) (devices : List DeviceInfo) (size : ℕ) → AllFine ty before rest devices size → AllClear rest
all_clear ty before [] devices size f = tt
all_clear ty before (b ∷ rest) devices size f =
    (clear_after ty (before ++ b ∷ []) rest devices size f.1 b (in_last b before), all_clear ty (before ++ b ∷ []) rest devices size f.1)
