use Rattle.std.proofs.Common.{◌≡◌, ℕ, ◌+◌, ◌<◌, ◌≤◌, get_or, length, map, take}
use Rattle.std.specs.Vec.{vec_capacity}
use Rattle.stack_laws.specs.Runs.{blocks_of_requests}
use Rattle.stack_walk_laws.specs.Sheets.{io_at, request_in}
use Rattle.stack_walk_laws.specs.Settling.{blocks_before}
use Rattle.stack_core.proofs.kept.Fates.new.Given as goal

abbrev pub invariant-loop-io : goal.invariant-loop-io
invariant-loop-io l = record {
  sum : l.blocks ≡ blocks_of_requests (map request_in (take l.io-index l.ios));
  count : length l.starts.items ≡ l.io-index;
  room : length l.ios ≤ vec_capacity l.starts;
  begin : (i : ℕ) → i < l.io-index → get_or l.starts.items i 0 ≡ blocks_before l.ios i;
  within : (i : ℕ) → i < l.io-index → get_or l.starts.items i 0 + (io_at l.ios i).count ≤ l.blocks;
}
