use Rattle.std.specs.Prelude.{ℕ, ◌+◌, ◌*◌, ◌%◌, Bool, false, not, eqb, nat_le, nat_lt, ◌&&◌, ◌||◌, if◌then◌else◌, List, [], ◌∷◌, ◌++◌, length, codes, slice_index_or, sum_by, Option, Some, None}
use Rattle.std.specs.List.{list_any}
use Rattle.pi_tuple.specs.declared.checks.PiType.{PiType}
use Rattle.pi_tuple.specs.declared.checks.PiType.TheVariants.{Zero, One, Two, Three}
use Rattle.stripe_volume.specs.Stripes.{is_apart}
use Rattle.volume_table.specs.declared.device.DeviceInfo.{DeviceInfo}
use Rattle.volume_table.specs.declared.entry.Entry.{Entry}
use Rattle.volume_table.specs.declared.entry.Entry.TheVariants.{Linear, Stripe}
use Rattle.volume_table.specs.declared.extent.Extent.{Extent}
use Rattle.volume_table.specs.declared.fault.VolumeFault.{VolumeFault}
use Rattle.volume_table.specs.declared.fault.VolumeFault.TheVariants.{At}
use Rattle.volume_table.specs.declared.fault.VolumeKind.{VolumeKind}
use Rattle.volume_table.specs.declared.fault.VolumeKind.TheVariants.{Gap, UnknownDevice, PastEnd, Overlap, MixedTypes, BadChunk, BeforeStart, OtherSize}
use Rattle.volume_table.specs.Entries.{entry_len, entry_start, extents, first_device}

abbrev pub kind_number : VolumeKind → ℕ
kind_number Gap = 1
kind_number UnknownDevice = 2
kind_number PastEnd = 3
kind_number Overlap = 4
kind_number MixedTypes = 5
kind_number BadChunk = 6
kind_number BeforeStart = 7
kind_number OtherSize = 8

abbrev pub kind_name : VolumeKind → List ℕ
kind_name Gap = codes "Gap"
kind_name UnknownDevice = codes "UnknownDevice"
kind_name PastEnd = codes "PastEnd"
kind_name Overlap = codes "Overlap"
kind_name MixedTypes = codes "MixedTypes"
kind_name BadChunk = codes "BadChunk"
kind_name BeforeStart = codes "BeforeStart"
kind_name OtherSize = codes "OtherSize"

abbrev pub type_number : PiType → ℕ
type_number Zero = 0
type_number One = 1
type_number Two = 2
type_number Three = 3

abbrev pub is_type : PiType → PiType → Bool
is_type a b = eqb (type_number a) (type_number b)

-- the device of this number
abbrev pub device : List DeviceInfo → ℕ → DeviceInfo
device devices n = slice_index_or devices n (record { ty = Zero; blocks = 0; size = 0; first = 0 })

-- the type of the first entry's first device
abbrev pub volume_type : List Entry → List DeviceInfo → PiType
volume_type [] devices = Zero
volume_type (e ∷ rest) devices = (device devices (first_device e)).ty

-- The extents share a block: they are on one device, and each begins before the other ends.
abbrev pub do_meet : Extent → Extent → Bool
do_meet a b = eqb a.dev b.dev && (nat_lt a.at (b.at + b.len) && nat_lt b.at (a.at + a.len))

-- one of these extents shares a block with one of those
abbrev pub do_any_meet : List Extent → List Extent → Bool
do_any_meet xs ys = list_any (λ x. list_any (do_meet x) ys) xs

-- the start isn't the sum of the lengths before
abbrev pub is_gap : List Entry → Entry → Bool
is_gap before e = not (eqb (entry_start e) (sum_by entry_len before))

-- a device number isn't below the number of devices
abbrev pub is_unknown : List DeviceInfo → Extent → Bool
is_unknown devices x = nat_le (length devices) x.dev

-- the length isn't a multiple of a chunk on each leg
abbrev pub has_bad_chunk : Entry → Bool
has_bad_chunk (Linear e) = false
has_bad_chunk (Stripe s) = not (eqb (s.len % (s.chunk * length s.legs)) 0)

-- the extent begins below the device's first address
abbrev pub is_before_start : List DeviceInfo → Extent → Bool
is_before_start devices x = nat_lt x.at (device devices x.dev).first

-- it ends past the device's last block
abbrev pub is_past_end : List DeviceInfo → Extent → Bool
is_past_end devices x = nat_lt ((device devices x.dev).first + (device devices x.dev).blocks) (x.at + x.len)

-- two legs share a block
abbrev pub have_shared_legs : Entry → Bool
have_shared_legs (Linear e) = false
have_shared_legs (Stripe s) = not (is_apart s)

-- an extent shares a block with another leg or an earlier entry
abbrev pub is_overlapping : List Entry → Entry → Bool
is_overlapping before e = have_shared_legs e || list_any (λ b. do_any_meet (extents e) (extents b)) before

-- the device has another type
abbrev pub is_of_other_type : PiType → List DeviceInfo → Extent → Bool
is_of_other_type ty devices x = not (is_type (device devices x.dev).ty ty)

-- its blocks have another size
abbrev pub is_of_other_size : ℕ → List DeviceInfo → Extent → Bool
is_of_other_size size devices x = not (eqb (device devices x.dev).size size)

-- a kind of fault, with whether the entry has it
pub record AskedKind : Type 0 where
  pub kind : VolumeKind
  pub found : Bool

-- the kinds in their order
abbrev pub asked_of : PiType → List Entry → Entry → List DeviceInfo → ℕ → List AskedKind
asked_of ty before e devices size =
    record { kind = Gap; found = is_gap before e }
    ∷ record { kind = UnknownDevice; found = list_any (is_unknown devices) (extents e) }
    ∷ record { kind = BadChunk; found = has_bad_chunk e }
    ∷ record { kind = BeforeStart; found = list_any (is_before_start devices) (extents e) }
    ∷ record { kind = PastEnd; found = list_any (is_past_end devices) (extents e) }
    ∷ record { kind = Overlap; found = is_overlapping before e }
    ∷ record { kind = MixedTypes; found = list_any (is_of_other_type ty devices) (extents e) }
    ∷ record { kind = OtherSize; found = list_any (is_of_other_size size devices) (extents e) }
    ∷ []

abbrev pub first_of : List AskedKind → Option VolumeKind
first_of [] = None
first_of (a ∷ rest) = if a.found then Some a.kind else first_of rest

-- the first fault of an entry with these before it
abbrev pub fault_of : PiType → List Entry → Entry → List DeviceInfo → ℕ → Option VolumeKind
fault_of ty before e devices size = first_of (asked_of ty before e devices size)

abbrev pub or_later : Option VolumeKind → ℕ → Option VolumeFault → Option VolumeFault
or_later (Some kind) number later = Some (At number kind)
or_later None number later = later

-- the first entry at fault, numbered from 1, with its first fault
abbrev pub fault_from : PiType → List Entry → List Entry → List DeviceInfo → ℕ → Option VolumeFault
fault_from ty before [] devices size = None
fault_from ty before (e ∷ rest) devices size =
    or_later (fault_of ty before e devices size) (length before + 1) (fault_from ty (before ++ e ∷ []) rest devices size)

abbrev pub table_fault : List Entry → List DeviceInfo → ℕ → Option VolumeFault
table_fault entries devices size = fault_from (volume_type entries devices) [] entries devices size
