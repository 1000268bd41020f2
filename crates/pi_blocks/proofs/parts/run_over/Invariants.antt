use Rattle.std.proofs.Common.{◌≡◌, ◌++◌, List, ℕ, drop}
use Rattle.pi_guard.specs.Stands.{Stands, kind_of}
use Rattle.pi_blocks.specs.Parts.{all_parts}
use Rattle.pi_blocks.proofs.parts.run_over.Given as goal

abbrev pub invariant-loop-part : goal.invariant-loop-part
invariant-loop-part l = record {
  kind : kind_of l.run ≡ l.fn.kind;
  read : (b : List ℕ) × Stands l.run b × (b ++ all_parts (drop l.part-index l.parts) ≡ all_parts l.parts);
}
