-- A script that keeps the rules of its language has what a stack asks of it.
use Rattle.std.proofs.Common.{ℕ, Bool, List, [], ◌∷◌}
use Rattle.run_laws.specs.Passed.{Op, Fetch, FetchPi, Fill, Overwrite, Put, Seal, Show, Wait, Write, WritePi}
use Rattle.script_laws.specs.Passed.{Script}
use Rattle.script_laws.specs.Keeping.{Each, InRange, IsOp as KeepsRules, Keeps}
use Rattle.script_laws.specs.Lines.{line_of}
use Rattle.script_run_laws.specs.SuitsStack.{IsStackOp, SuitsStack, TagFits}

tag-of : (size : ℕ) (op : Op) → InRange size (line_of op) → TagFits op
tag-of size (Fill seg byte) r = tt
tag-of size (Put page off bytes) r = tt
tag-of size (Show seg) r = tt
tag-of size (Seal n body tuples app rtag) r = r.1
tag-of size (Write v n body app) r = tt
tag-of size (Fetch v n body) r = tt
tag-of size (WritePi v n body tuples) r = tt
tag-of size (FetchPi v n body tuples) r = tt
tag-of size (Overwrite dev lba change) r = tt
tag-of size Wait r = tt

pub stack-op : (dix : Bool) (pages size : ℕ) (op : Op) → KeepsRules dix pages size op → IsStackOp dix pages size op
stack-op dix pages size op k = record { rules = k.rules; integrity = k.integrity; tag = tag-of size op k.ranges }

stack-ops : (dix : Bool) (pages size : ℕ) (ops : List Op) → Each (KeepsRules dix pages size) ops → Each (IsStackOp dix pages size) ops
stack-ops dix pages size [] k = tt
stack-ops dix pages size (op ∷ ops) k = (stack-op dix pages size op k.0, stack-ops dix pages size ops k.1)

pub suits : (s : Script) → Keeps s → SuitsStack s
suits s k = record {
  protect_is = k.mode_is.protect_is;
  most = k.limits_are.blocks;
  pages_are = k.pages_are;
  block_is = k.block_is;
  ops_are = stack-ops s.mode.dix s.pages s.block s.ops k.ops_are;
  ops_count = k.ops_count;
  blocks_count = k.blocks_count;
}
