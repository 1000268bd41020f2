use Rattle.std.specs.Prelude.{◌≡◌, ℕ, ◌+◌, ◌-◌, ◌*◌, ◌%◌, ◌^◌, ◌<◌, ◌≤◌, Bool, true, not, eqb, ◌&&◌, if◌then◌else◌, List, ◌++◌, take, drop, Option, Some, None, bit_and}
use Rattle.wide_guard.specs.Reflected.{crc32c, crc64}
use Rattle.wide_blocks.specs.declared.block.NvmeFound.{NvmeFound}
use Rattle.wide_blocks.specs.declared.block.NvmeWant.{NvmeWant}
use Rattle.wide_blocks.specs.declared.information.Information.{Information}
use Rattle.wide_blocks.specs.declared.layout.NvmeLayout.{NvmeLayout}
use Rattle.wide_blocks.specs.Information.{info_in}
use Rattle.wide_blocks.specs.Layouts.{covered_of, has_reference, info_at, reference_bits, stride_of}

-- a block as its check sees it: the bytes that its guard is of, and the sixteen of its information
pub record WideBlock : Type 0 where
  pub guarded : List ℕ
  pub info : List ℕ

-- block i of blocks that lie one after another, each with its metadata behind its data
abbrev pub in_line : NvmeLayout → List ℕ → ℕ → WideBlock
in_line l bytes i = record { guarded = take (covered_of l) (drop (i * stride_of l) bytes); info = take 16 (drop (i * stride_of l + covered_of l) bytes) }

-- block i of data and metadata in buffers of their own
abbrev pub apart : NvmeLayout → List ℕ → List ℕ → ℕ → WideBlock
apart l body meta i = record {
  guarded = take l.data_size (drop (i * l.data_size) body) ++ take (info_at l) (drop (i * l.meta_size) meta);
  info = take 16 (drop (i * l.meta_size + info_at l) meta);
}

-- the guard of a block's bytes
abbrev pub guard_of : NvmeLayout → List ℕ → ℕ
guard_of l bytes = if eqb l.guard 32 then crc32c bytes else crc64 bytes

-- the information that no check looks at (NVM Command Set Specification, "End-to-end Data Protection"): application tag FFFFh in types 1 and 2,
-- in type 3 beside a storage and reference space of all ones
abbrev pub is_escaped : NvmeLayout → Information → Bool
is_escaped l t = eqb t.app 0xFFFF && (if has_reference l then true else eqb t.storage (2 ^ l.storage - 1) && eqb t.reference (2 ^ reference_bits l - 1))

-- a check is asked for by its flag
abbrev pub is_asked : NvmeWant → ℕ → Bool
is_asked w flag = not (eqb (bit_and w.checks flag) 0)

-- the reference tag that is wanted of block i: one more a block, modulo its width
abbrev pub ref_of : NvmeLayout → NvmeWant → ℕ → ℕ
ref_of l w i = (w.first_ref + i) % 2 ^ reference_bits l

-- the checks in their order, each with its flag, what is wanted and what is there, where the two differ in the bits that count
pub record Difference : Type 0 where
  pub differs : Bool
  pub check : ℕ
  pub expected : ℕ
  pub actual : ℕ

abbrev pub guard_check : NvmeWant → ℕ → Information → Difference
guard_check w guard t = record { differs = is_asked w 2 && not (eqb t.guard guard); check = 2; expected = guard; actual = t.guard }

abbrev pub app_check : NvmeWant → Information → Difference
app_check w t = record { differs = is_asked w 4 && not (eqb (bit_and t.app w.mask) (bit_and w.app w.mask)); check = 4; expected = w.app; actual = t.app }

abbrev pub storage_check : NvmeWant → Information → Difference
storage_check w t =
    record { differs = is_asked w 16 && not (eqb (bit_and t.storage w.storage_mask) (bit_and w.storage w.storage_mask)); check = 16; expected = w.storage; actual = t.storage }

abbrev pub ref_check : NvmeLayout → NvmeWant → ℕ → Information → Difference
ref_check l w i t =
    record { differs = is_asked w 8 && (has_reference l && not (eqb t.reference (ref_of l w i))); check = 8; expected = ref_of l w i; actual = t.reference }

-- the difference as it is told of block i
abbrev pub told_of : ℕ → Difference → NvmeFound
told_of i d = record { block = i; expected = d.expected; actual = d.actual; check = d.check }

-- What block i is found to differ in, whose bytes have this guard: nothing for an escape, else the first check that is asked for and
-- differs. The standard names no order of the checks. This is the order of PRCHK's bits, the highest first, and the storage tag before
-- the reference tag, as it stands.
abbrev pub compared : NvmeLayout → NvmeWant → ℕ → ℕ → Information → Option NvmeFound
compared l w i guard t =
    if is_escaped l t then None
    else (if (guard_check w guard t).differs then Some (told_of i (guard_check w guard t))
    else (if (app_check w t).differs then Some (told_of i (app_check w t))
    else (if (storage_check w t).differs then Some (told_of i (storage_check w t))
    else (if (ref_check l w i t).differs then Some (told_of i (ref_check l w i t)) else None))))

abbrev pub looked : NvmeLayout → NvmeWant → (ℕ → WideBlock) → ℕ → Option NvmeFound
looked l w blocks i = compared l w i (guard_of l (blocks i).guarded) (info_in l (blocks i).info)

-- none of n blocks differs, from this one on
abbrev pub AreFineFrom : NvmeLayout → NvmeWant → (ℕ → WideBlock) → (start n : ℕ) → Type 0
AreFineFrom l w blocks start n = (k : ℕ) → start ≤ k → k < n → looked l w blocks k ≡ None

-- the first of n blocks to differ is told, from this one on
pub record IsFirstWide (l : NvmeLayout) (w : NvmeWant) (blocks : ℕ → WideBlock) (start n : ℕ) (told : NvmeFound) : Type 0 where
  pub behind : start ≤ told.block
  pub inside : told.block < n
  pub differs : looked l w blocks told.block ≡ Some told
  pub first : AreFineFrom l w blocks start told.block

-- what a check of n blocks answers, from this one on
abbrev pub Checked : NvmeLayout → NvmeWant → (ℕ → WideBlock) → (start n : ℕ) → Option NvmeFound → Type 0
Checked l w blocks start n None = AreFineFrom l w blocks start n
Checked l w blocks start n (Some told) = IsFirstWide l w blocks start n told
