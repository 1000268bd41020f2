use Rattle.std.specs.Prelude.{ℕ, ◌+◌, ◌<◌, ◌≤◌, ◌&&◌, ◌-◌, ◌*◌, ◌/◌, ◌%◌, Bool, ◌||◌, eqb, if◌then◌else◌, List, slice_index, slice_set}
use Rattle.pi_blocks.specs.declared.marks.Bits.{Bits}
use Rattle.pi_blocks.specs.declared.marks.Bits.TheVariants.{Absent, Dpo, DpoAndFua, Group, Control}
use Rattle.pi_blocks.specs.declared.marks.Place.{Place}
use Rattle.pi_blocks.specs.declared.marks.Places.{Places}

-- the value of a field's bits, at their places
abbrev pub part : Bits → ℕ → ℕ
part Absent byte = 0
part Dpo byte = ((byte % 32) / 16) * 16
part DpoAndFua byte = ((byte % 32) / 8) * 8
part Group byte = byte % 32
part Control byte = byte % 256

-- a byte with another value there
abbrev pub put_part : Bits → ℕ → ℕ → ℕ
put_part Absent byte value = byte
put_part Dpo byte value = byte - ((byte % 32) / 16) * 16 + value
put_part DpoAndFua byte value = byte - ((byte % 32) / 8) * 8 + value
put_part Group byte value = byte - byte % 32 + value
put_part Control byte value = value

-- of a list of bytes
abbrev pub part_at : Place → List ℕ → ℕ
part_at p bytes = part p.bits (slice_index bytes p.at)

abbrev pub put : Place → ℕ → List ℕ → List ℕ
put p value bytes = slice_set bytes p.at (put_part p.bits (slice_index bytes p.at) value)

-- DPO in bit 4 and FUA in bit 3; VERIFY has no FUA, and READ CAPACITY neither
abbrev pub flag_bits : ℕ → Bits
flag_bits op = if eqb op 0x2F || eqb op 0x8F then Dpo else (if eqb op 0x9E then Absent else DpoAndFua)

-- GROUP NUMBER in bits 4 to 0; READ CAPACITY has none
abbrev pub group_bits : ℕ → Bits
group_bits op = if eqb op 0x2F || eqb op 0x8F then Group else (if eqb op 0x9E then Absent else Group)

-- the bytes of the flags, the group number and CONTROL: of forms of 10 bytes, of 16, and of 32 (SBC-3, 5.11 to 5.35)
abbrev pub flags_at : ℕ → ℕ
flags_at size = if eqb size 10 then 1 else (if eqb size 16 then 1 else 10)

abbrev pub group_at : ℕ → ℕ
group_at size = if eqb size 10 then 6 else (if eqb size 16 then 14 else 6)

abbrev pub control_at : ℕ → ℕ
control_at size = if eqb size 10 then 9 else (if eqb size 16 then 15 else 1)

abbrev pub places_for : ℕ → ℕ → Places
places_for op size = record {
  flags = record { at = flags_at size; bits = flag_bits op };
  group = record { at = group_at size; bits = group_bits op };
  control = record { at = control_at size; bits = Control };
}

-- the places lie in so many bytes, and behind the operation code
pub record AreInside (p : Places) (size : ℕ) : Type 0 where
  pub flags : p.flags.at < size
  pub group : p.group.at < size
  pub control : p.control.at < size

pub record AreBehind (p : Places) : Type 0 where
  pub flags : 1 ≤ p.flags.at
  pub group : 1 ≤ p.group.at
  pub control : 1 ≤ p.control.at

-- the three fields fit their bits
abbrev pub marks_fit : Places → ℕ → ℕ → ℕ → Bool
marks_fit p flags group control = eqb (part p.flags.bits flags) flags && (eqb (part p.group.bits group) group && eqb (part p.control.bits control) control)

-- bytes with these in the three places
abbrev pub marked : Places → ℕ → ℕ → ℕ → List ℕ → List ℕ
marked p flags group control bytes = put p.flags flags (put p.group group (put p.control control bytes))

-- bytes with 0 in the three places
abbrev pub without_marks : Places → List ℕ → List ℕ
without_marks p bytes = put p.control 0 (put p.group 0 (put p.flags 0 bytes))
