use Rattle.std.proofs.Common.{ℕ, ◌<◌, ◌≤◌}
use Rattle.bio_core.specs.Bios.{block_size}
use Rattle.stack_walk_laws.specs.Sheets.{io_at}
use Rattle.stack_core.proofs.sheet.largest_block.Given as goal

abbrev pub invariant-loop-io : goal.invariant-loop-io
invariant-loop-io l = record {
  all : (i : ℕ) → i < l.io-index → 0 < (io_at l.ios i).count → block_size (io_at l.ios i) ≤ l.most;
  few : l.most ≤ 4096;
}
