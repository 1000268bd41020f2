use Rattle.std.specs.Prelude.{ℕ, ◌+◌, List, [], ◌∷◌, length}
use Rattle.stack_ops.specs.declared.op.Op.{Op}
use Rattle.stack_ops.specs.declared.op.Op.TheVariants.{Fill, Put, Show, Seal, Write, Fetch, WritePi, FetchPi, Overwrite, Wait}
use Rattle.stack_ops.specs.declared.reply.Reply.{Reply}
use Rattle.stack_ops.specs.declared.reply.Reply.TheVariants.{Silent, Whole, Bad, Shown, Medium}
use Rattle.big_run.specs.declared.counting.OpCounts.{OpCounts}

abbrev pub no_ops : OpCounts
no_ops = record { writes = 0; reads = 0; fills = 0; shows = 0; blocks_written = 0; blocks_read = 0 }

-- a write, or a read, of n blocks more
abbrev pub with_write : ℕ → OpCounts → OpCounts
with_write n c = record c { writes = c.writes + 1; blocks_written = c.blocks_written + n }

abbrev pub with_read : ℕ → OpCounts → OpCounts
with_read n c = record c { reads = c.reads + 1; blocks_read = c.blocks_read + n }

abbrev pub with_op : OpCounts → Op → OpCounts
with_op c (Fill seg byte) = record c { fills = c.fills + 1 }
with_op c (Put page off bytes) = c
with_op c (Show seg) = record c { shows = c.shows + 1 }
with_op c (Seal n body tuples app rtag) = c
with_op c (Write v n body app) = with_write n c
with_op c (Fetch v n body) = with_read n c
with_op c (WritePi v n body tuples) = with_write n c
with_op c (FetchPi v n body tuples) = with_read n c
with_op c (Overwrite dev lba change) = c
with_op c Wait = c

-- the counts, with these ops more
abbrev pub counts_with : OpCounts → List Op → OpCounts
counts_with c [] = c
counts_with c (op ∷ ops) = counts_with (with_op c op) ops

-- all ops that are counted, and all blocks
abbrev pub ops_in : OpCounts → ℕ
ops_in c = c.writes + c.reads + (c.fills + c.shows)

abbrev pub blocks_in : OpCounts → ℕ
blocks_in c = c.blocks_written + c.blocks_read

-- how many blocks failed
abbrev pub bad_in : Reply → ℕ
bad_in Silent = 0
bad_in Whole = 0
bad_in (Bad blocks) = length blocks
bad_in (Shown bytes) = 0
bad_in Medium = 0

abbrev pub all_bad : List Reply → ℕ
all_bad [] = 0
all_bad (r ∷ rs) = bad_in r + all_bad rs
