use Rattle.std.specs.Prelude.{ℕ, ◌*◌, Bool, true, false, not, ◌&&◌, ◌||◌, eqb, nat_le, nat_lt, if◌then◌else◌, List, [], length, Option, Some, None, unwrap_or, Result, Ok, Err}
use Rattle.page_pool.specs.declared.segs.Seg.{Seg}
use Rattle.page_pool.specs.Places.{total}
use Rattle.rig_api.specs.declared.change.Change.TheVariants.{Flip as FlipChange, Copy as CopyChange}
use Rattle.script_lines.specs.declared.kind.ScriptKind.{ScriptKind}
use Rattle.script_lines.specs.declared.kind.ScriptKind.TheVariants.{TooMany, BadSegments, SegOverlap, BadRange, BadFault}
use Rattle.script_lines.specs.declared.line.OpLine.{OpLine}
use Rattle.script_lines.specs.declared.line.OpLine.TheVariants.{Fill, Put, Show, Seal, Write, Read, WritePi, ReadPi, Flip, Copy, Wait}
use Rattle.stack_ops.specs.declared.op.Op.{Op}
use Rattle.stack_ops.specs.declared.op.Op.TheVariants.{Fill as FillOp, Put as PutOp, Show as ShowOp, Seal as SealOp, Write as WriteOp, Fetch, WritePi as WritePiOp, FetchPi, Overwrite, Wait as WaitOp}
use Rattle.script_text.specs.Rules.{is_bad_flip, is_count}
use Rattle.script_text.specs.Segments.{are_few_each, are_inside, are_whole_tuples, do_overlap, is_inside}
use Rattle.pi_tuple.specs.declared.TheConstants.{TUPLE}

-- The data of n blocks: inside the pages, of their total, no block in more than four segments.
abbrev pub is_body : (pages size n : ℕ) → List Seg → Bool
is_body pages size n body = are_inside pages body && (eqb (total body) (size * n) && are_few_each size n body)

-- The tuples of n blocks: inside the pages, of their total, each in one segment.
abbrev pub are_tuples : (pages n : ℕ) → List Seg → Bool
are_tuples pages n tuples = are_inside pages tuples && (eqb (total tuples) (TUPLE * n) && are_whole_tuples tuples)

-- the first rule that the count and the segments of an op without tuples of its own break
abbrev pub data_fault : (pages size n : ℕ) → List Seg → Option ScriptKind
data_fault pages size n body =
    if nat_lt 512 (length body) then Some TooMany
    else (if not (is_count n) then Some BadRange
    else (if not (is_body pages size n body) then Some BadSegments
    else (if do_overlap body [] then Some SegOverlap else None)))

-- the same of an op with tuples
abbrev pub both_fault : (pages size n : ℕ) → (body tuples : List Seg) → Option ScriptKind
both_fault pages size n body tuples =
    if nat_lt 512 (length body) || nat_lt 512 (length tuples) then Some TooMany
    else (if not (is_count n) then Some BadRange
    else (if not (is_body pages size n body && are_tuples pages n tuples) then Some BadSegments
    else (if do_overlap body tuples then Some SegOverlap else None)))

abbrev pub unless : Option ScriptKind → Op → Result Op ScriptKind
unless None op = Ok op
unless (Some k) op = Err k

abbrev pub where_inside : Bool → Op → Result Op ScriptKind
where_inside true op = Ok op
where_inside false op = Err BadSegments

-- the op of a line in a script of so many pages and of blocks of this size, or the first rule that the line breaks
abbrev pub op_in : (pages size : ℕ) → OpLine → Result Op ScriptKind
op_in pages size (Fill seg byte) = where_inside (is_inside pages seg) (FillOp seg byte)
op_in pages size (Put page off bytes) = where_inside (is_inside pages (record { page = page; off = off; len = length bytes })) (PutOp page off bytes)
op_in pages size (Show seg) = where_inside (is_inside pages seg && nat_le seg.len 64) (ShowOp seg)
op_in pages size (Seal n body tuples app rtag) = unless (both_fault pages size n body tuples) (SealOp n body tuples app rtag)
op_in pages size (Write v n body app) = unless (data_fault pages size n body) (WriteOp v n body (unwrap_or app 0))
op_in pages size (Read v n body) = unless (data_fault pages size n body) (Fetch v n body)
op_in pages size (WritePi v n body tuples) = unless (both_fault pages size n body tuples) (WritePiOp v n body tuples)
op_in pages size (ReadPi v n body tuples) = unless (both_fault pages size n body tuples) (FetchPi v n body tuples)
op_in pages size (Flip dev lba off bytes) = if is_bad_flip size off bytes then Err BadFault else Ok (Overwrite dev lba (FlipChange off bytes))
op_in pages size (Copy dev lba from_dev from_lba) = Ok (Overwrite dev lba (CopyChange from_dev from_lba))
op_in pages size Wait = Ok WaitOp
