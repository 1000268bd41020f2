use Rattle.std.proofs.Common.{ℕ, ◌+◌, ◌<◌, ◌≤◌}
use Rattle.volume_table.specs.Places.{place_in, volume_len}
use Rattle.stack_walk_laws.specs.Sheets.{io_at}
use Rattle.stack_core.proofs.sheet.count_devices.Given as goal

abbrev pub invariant-loop-io : goal.invariant-loop-io
invariant-loop-io l = record {
  all : (i k : ℕ) → i < l.io-index → k < (io_at l.ios i).count → (place_in l.table.entries ((io_at l.ios i).first + k)).0 < l.most;
  few : l.most ≤ 8;
  least : (n : ℕ) → ((v : ℕ) → v < volume_len l.table.entries → (place_in l.table.entries v).0 < n) → l.most ≤ n;
  tight : (n : ℕ) → ((i k : ℕ) → k < (io_at l.ios i).count → (place_in l.table.entries ((io_at l.ios i).first + k)).0 < n) → l.most ≤ n;
}
