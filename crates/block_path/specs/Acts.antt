use Rattle.std.specs.Prelude.{ℕ, Bool, ◌||◌, List, [], Option, None}
use Rattle.bio_core.specs.declared.fate.Why.{Why}
use Rattle.range_gate.specs.Passed.{gather, scatter}
use Rattle.range_gate.specs.Cells.{Cells, cells_clash}

-- Acts on cells: what an act reads, computes and writes, and when two conflict.

-- Four kinds of cells: the bytes of all pages one after another; the stored blocks of all devices one after another; for each of these places the frames that writes carried there, the oldest first;
-- and for blocks of requests in flight what was found when they were carried.
pub record State : Type 0 where
  pub bytes : List ℕ
  pub blocks : List (List ℕ)
  pub logs : List (List (List ℕ))
  pub fates : List (Option Why)

-- what an act writes, and what it answers
pub record Effect (R : Type 0) : Type 0 where
  pub written : State
  pub answer : R

-- An act reads cells, computes, and writes cells.
pub record Act (R : Type 0) : Type 0 where
  pub bytes : Cells
  pub blocks : Cells
  pub logs : Cells
  pub fates : Cells
  pub compute : State → Effect R

-- what it reads
abbrev pub seen : {R : Type 0} → Act R → State → State
seen a s = record {
  bytes = gather 0 a.bytes.reads s.bytes;
  blocks = gather [] a.blocks.reads s.blocks;
  logs = gather [] a.logs.reads s.logs;
  fates = gather None a.fates.reads s.fates;
}

abbrev pub effect : {R : Type 0} → Act R → State → Effect R
effect a s = a.compute (seen a s)

-- what it leaves
abbrev pub act : {R : Type 0} → Act R → State → State
act a s = record {
  bytes = scatter a.bytes.writes (effect a s).written.bytes s.bytes;
  blocks = scatter a.blocks.writes (effect a s).written.blocks s.blocks;
  logs = scatter a.logs.writes (effect a s).written.logs s.logs;
  fates = scatter a.fates.writes (effect a s).written.fates s.fates;
}

-- what it answers
abbrev pub tell : {R : Type 0} → Act R → State → R
tell a s = (effect a s).answer

-- They share a cell that one of them writes.
abbrev pub conflict : {R : Type 0} → Act R → Act R → Bool
conflict a b = cells_clash a.bytes b.bytes || (cells_clash a.blocks b.blocks || (cells_clash a.logs b.logs || cells_clash a.fates b.fates))
