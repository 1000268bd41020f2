use Rattle.std.specs.Prelude.{◌≡◌, ℕ, ◌+◌, ◌*◌, ◌<◌, ◌≤◌, Bool, not, eqb, if◌then◌else◌, List, ◌++◌, take, drop, Option, Some, None, bit_and}
use Rattle.pi_guard.specs.Guards.{guard_of}
use Rattle.pi_tuple.specs.declared.tuple.Tuple.{Tuple}
use Rattle.pi_tuple.specs.declared.checks.Checks.{Checks}
use Rattle.pi_tuple.specs.declared.checks.Check.{Check}
use Rattle.pi_tuple.specs.declared.checks.Check.TheVariants.{Guard, AppTag, RefTag}
use Rattle.pi_tuple.specs.Finds.{finding}
use Rattle.pi_tuple.specs.Tuples.{ref_tag, tuple_in}
use Rattle.pi_blocks.specs.declared.layout.Layout.{Layout}
use Rattle.pi_blocks.specs.declared.block.Want.{Want}
use Rattle.pi_blocks.specs.declared.block.Found.{Found}
use Rattle.pi_blocks.specs.Layouts.{covered_of, kind_of, stride_of, type_of}

-- a block as its check sees it: the bytes that its guard is of, and the eight of its tuple
pub record Block : Type 0 where
  pub guarded : List ℕ
  pub tuple : List ℕ

-- block i of blocks that lie one after another, each with its metadata behind its data
abbrev pub in_line : Layout → List ℕ → ℕ → Block
in_line l bytes i = record { guarded = take (covered_of l) (drop (i * stride_of l) bytes); tuple = take 8 (drop (i * stride_of l + covered_of l) bytes) }

-- block i of data and metadata in buffers of their own
abbrev pub apart : Layout → List ℕ → List ℕ → ℕ → Block
apart l body meta i = record {
  guarded = take l.data_size (drop (i * l.data_size) body) ++ take l.tuple_at (drop (i * l.meta_size) meta);
  tuple = take 8 (drop (i * l.meta_size + l.tuple_at) meta);
}

-- the guard of a block's bytes
abbrev pub guard_in : Layout → Block → ℕ
guard_in l b = guard_of (kind_of l.guard) b.guarded

-- a check is asked for by its bit
abbrev pub is_asked : Want → ℕ → Bool
is_asked w bit = not (eqb (bit_and w.checks bit) 0)

abbrev pub checks_of : Want → Checks
checks_of w = record { guard = is_asked w 2; rtag = is_asked w 8; app = w.app; mask = if is_asked w 4 then w.mask else 0 }

-- the reference tag that is wanted of block i
abbrev pub ref_of : Want → ℕ → ℕ
ref_of w i = ref_tag (w.first_ref + i)

-- a check's flag
abbrev pub number_of : Check → ℕ
number_of Guard = 2
number_of AppTag = 4
number_of RefTag = 8

-- what is wanted, and what the tuple has
abbrev pub expected_of : Want → ℕ → ℕ → Check → ℕ
expected_of w i guard Guard = guard
expected_of w i guard AppTag = w.app
expected_of w i guard RefTag = ref_of w i

abbrev pub actual_of : Tuple → Check → ℕ
actual_of t Guard = t.guard
actual_of t AppTag = t.app
actual_of t RefTag = t.rtag

-- the difference that this check found in block i, whose bytes have this guard and which has this tuple
abbrev pub told_of : Want → ℕ → ℕ → Tuple → Check → Found
told_of w i guard t c = record { block = i; check = number_of c; expected = expected_of w i guard c; actual = actual_of t c }

abbrev pub told_by : (Check → Found) → Option Check → Option Found
told_by f None = None
told_by f (Some c) = Some (f c)

-- what block i is found to differ in
abbrev pub compared : Layout → Want → ℕ → ℕ → Tuple → Option Found
compared l w i guard t = told_by (told_of w i guard t) (finding (type_of l.pi_type) (checks_of w) (ref_of w i) guard t)

abbrev pub looked : Layout → Want → (ℕ → Block) → ℕ → Option Found
looked l w blocks i = compared l w i (guard_in l (blocks i)) (tuple_in (blocks i).tuple)

-- none of n blocks differs, from this one on
abbrev pub AreFineFrom : Layout → Want → (ℕ → Block) → (start n : ℕ) → Type 0
AreFineFrom l w blocks start n = (k : ℕ) → start ≤ k → k < n → looked l w blocks k ≡ None

-- none of the first n blocks differs
abbrev pub AreFine : Layout → Want → (ℕ → Block) → ℕ → Type 0
AreFine l w blocks n = (k : ℕ) → k < n → looked l w blocks k ≡ None

-- the first of n blocks to differ is told, from this one on
pub record IsFirst (l : Layout) (w : Want) (blocks : ℕ → Block) (start n : ℕ) (told : Found) : Type 0 where
  pub behind : start ≤ told.block
  pub inside : told.block < n
  pub differs : looked l w blocks told.block ≡ Some told
  pub first : AreFineFrom l w blocks start told.block

-- what a check of n blocks answers, from this one on
abbrev pub Checked : Layout → Want → (ℕ → Block) → (start n : ℕ) → Option Found → Type 0
Checked l w blocks start n None = AreFineFrom l w blocks start n
Checked l w blocks start n (Some told) = IsFirst l w blocks start n told
