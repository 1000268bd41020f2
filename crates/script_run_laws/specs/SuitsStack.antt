use Rattle.std.specs.Prelude.{ℕ, ◌≡◌, ◌⊎◌, ◌^◌, ◌<◌, ◌≤◌, ◌&&◌, Bool, false, not, length, Ok}
use Rattle.page_pool.specs.declared.segs.Seg.{Seg}
use Rattle.run_laws.specs.Passed.{Op, Fetch, FetchPi, Fill, Overwrite, Put, Seal, Show, Wait, Write, WritePi}
use Rattle.script_laws.specs.Passed.{Script, op_in, needs_tuples}
use Rattle.script_laws.specs.Keeping.{Each, IsProtect, IsWithin, blocks_of}
use Rattle.script_laws.specs.Lines.{line_of}
use Rattle.bio_core.specs.declared.TheConstants.{MOST_BLOCKS}

-- What a stack asks of a script: less than the rules of its language. So a layer above may make a script of its own, whose `put`s have whole pages.

-- The reference tags of a `seal` fit.
abbrev pub TagFits : Op → Type 0
TagFits (Fill seg byte) = Unit {0}
TagFits (Put page off bytes) = Unit {0}
TagFits (Show seg) = Unit {0}
TagFits (Seal n body tuples app rtag) = rtag < 2 ^ 32
TagFits (Write v n body app) = Unit {0}
TagFits (Fetch v n body) = Unit {0}
TagFits (WritePi v n body tuples) = Unit {0}
TagFits (FetchPi v n body tuples) = Unit {0}
TagFits (Overwrite dev lba change) = Unit {0}
TagFits Wait = Unit {0}

-- An op keeps the rules of its line on segments and counts, and needs no tuples where none travel from the host.
pub record IsStackOp (dix : Bool) (pages size : ℕ) (op : Op) : Type 0 where
  pub rules : op_in pages size (line_of op) ≡ Ok op
  pub integrity : not dix && needs_tuples (line_of op) ≡ false
  pub tag : TagFits op

pub record SuitsStack (s : Script) : Type 0 where
  pub protect_is : IsProtect s.mode.protect
  pub most : IsWithin 1 1024 s.limits.max_blocks
  pub pages_are : IsWithin 1 256 s.pages
  pub block_is : (s.block ≡ 512) ⊎ (s.block ≡ 4096)
  pub ops_are : Each (IsStackOp s.mode.dix s.pages s.block) s.ops
  pub ops_count : length s.ops ≤ 1024
  pub blocks_count : blocks_of s.ops ≤ MOST_BLOCKS
