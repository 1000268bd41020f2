use Rattle.std.specs.Prelude.{◌≡◌, ◌⊎◌, ℕ, ℤ, pos, ◌+◌, Bool, true, false, not, ◌&&◌, ◌||◌, eqb, nat_le, nat_lt, if◌then◌else◌, List, length, Option, Some, None, is_some, Result, Ok, Err}
use Rattle.std.specs.List.{list_all}
use Rattle.script_lines.specs.declared.kind.ScriptKind.{ScriptKind}
use Rattle.script_lines.specs.declared.kind.ScriptKind.TheVariants.{TooMany, BadFault, NoIntegrity, Memory}
use Rattle.script_lines.specs.declared.line.OpLine.{OpLine}
use Rattle.script_lines.specs.declared.line.OpLine.TheVariants.{Seal, Write, Read, WritePi, ReadPi}
use Rattle.script_lines.specs.declared.line.ScriptLine.{ScriptLine}
use Rattle.script_lines.specs.declared.line.ScriptLine.TheVariants.{Expect, Inner, Linear, Stripe, Flip, Shift, Keep, Fail, Schedule, Op}
use Rattle.script_text.specs.Drafts.{Drafted}
use Rattle.bio_core.specs.declared.TheConstants.{MOST_BLOCKS}
use Rattle.pi_tuple.specs.declared.TheConstants.{TUPLE}
use Rattle.script_text.specs.declared.TheConstants.{MOST_INNER, MOST_ENTRIES, MOST_LEGS, MOST_FAULTS, MOST_SCHEDULE, MOST_OPS, MOST_REQUEST}

-- The answer is such a one, and the rule isn't broken; or it is this kind, and the rule is broken; or it is want of memory.
abbrev pub IsUnlessBroken : {A : Type 0} → (broken : Bool) → ScriptKind → (A → Type 0) → Result A ScriptKind → Type 0
IsUnlessBroken broken kind IsSuch (Ok a) = IsSuch a × (broken ≡ false)
IsUnlessBroken broken kind IsSuch (Err k) = (k ≡ Memory) ⊎ ((k ≡ kind) × (broken ≡ true))

-- The answer is such a one, and there is no fault; or it is the fault, or want of memory.
abbrev pub IsUnlessFault : {A : Type 0} → Option ScriptKind → (A → Type 0) → Result A ScriptKind → Type 0
IsUnlessFault fault IsSuch (Ok a) = IsSuch a × (fault ≡ None)
IsUnlessFault fault IsSuch (Err k) = (k ≡ Memory) ⊎ (fault ≡ Some k)

-- The rules on a line that ask nothing of its segments.

-- an op that has to do with tuples in memory
abbrev pub needs_tuples : OpLine → Bool
needs_tuples (Seal n body tuples app rtag) = true
needs_tuples (WritePi v n body tuples) = true
needs_tuples (ReadPi v n body tuples) = true
needs_tuples (Write v n body app) = is_some app
needs_tuples _ = false

-- tuples in memory where the mode has none, or an expected tag where none is checked
abbrev pub lacks_integrity : Drafted → ScriptLine → Bool
lacks_integrity d (Expect app mask) = not d.mode.dix || not d.mode.dif
lacks_integrity d (Op op) = not d.mode.dix && needs_tuples op
lacks_integrity d _ = false

-- how many blocks a line adds to those of all requests
abbrev pub request_blocks : OpLine → ℕ
request_blocks (Write v n body app) = n
request_blocks (Read v n body) = n
request_blocks (WritePi v n body tuples) = n
request_blocks (ReadPi v n body tuples) = n
request_blocks _ = 0

-- more than 1,024 ops, or than 16,384 blocks of all requests
abbrev pub is_op_too_many : Drafted → OpLine → Bool
is_op_too_many d op = nat_le MOST_OPS (length d.ops) || nat_lt MOST_BLOCKS (d.blocks + request_blocks op)

-- more than 32 extents of inner volumes, 16 entries, 8 legs, 256 faults, 16,384 entries of the schedule
abbrev pub is_too_many : Drafted → ScriptLine → Bool
is_too_many d (Inner volume len dev at) = nat_le MOST_INNER (length d.inner)
is_too_many d (Linear e) = nat_le MOST_ENTRIES (length d.entries)
is_too_many d (Stripe start len chunk legs) = nat_le MOST_ENTRIES (length d.entries) || nat_lt MOST_LEGS (length legs)
is_too_many d (Flip op k spot off bytes) = nat_le MOST_FAULTS (length d.faults)
is_too_many d (Shift op spot by) = nat_le MOST_FAULTS (length d.faults)
is_too_many d (Keep op k bytes) = nat_le MOST_FAULTS (length d.faults)
is_too_many d (Fail op k) = nat_le MOST_FAULTS (length d.faults)
is_too_many d (Schedule entries) = nat_lt MOST_SCHEDULE (length d.schedule + length entries)
is_too_many d (Op op) = is_op_too_many d op
is_too_many d _ = false

-- 1 to 2,048 blocks
abbrev pub is_count : ℕ → Bool
is_count n = nat_le 1 n && nat_le n MOST_REQUEST

abbrev pub is_zero : ℕ → Bool
is_zero b = eqb b 0

-- An alteration goes past the end of a frame, or alters nothing.
abbrev pub is_bad_flip : (size off : ℕ) → List ℕ → Bool
is_bad_flip size off bytes = nat_lt (size + TUPLE) (off + length bytes) || list_all is_zero bytes

abbrev pub is_no_shift : ℤ → Bool
is_no_shift (pos n) = eqb n 0
is_no_shift _ = false

abbrev pub is_bad_fault : Drafted → ScriptLine → Bool
is_bad_fault d (Flip op k spot off bytes) = is_bad_flip d.block off bytes
is_bad_fault d (Shift op spot by) = is_no_shift by
is_bad_fault d _ = false

-- the first of these rules that a line breaks
abbrev pub broken_rule : Drafted → ScriptLine → Option ScriptKind
broken_rule d line =
    if lacks_integrity d line then Some NoIntegrity
    else (if is_too_many d line then Some TooMany
    else (if is_bad_fault d line then Some BadFault else None))
