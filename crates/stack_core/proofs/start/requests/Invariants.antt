use Rattle.std.proofs.Common.{◌≡◌, ◌+◌, ◌*◌, ◌≤◌, ◌++◌, drop, length}
use Rattle.std.specs.Vec.{vec_capacity}
use Rattle.stack_walk_laws.specs.Requests.{pages_from, requests_from}
use Rattle.stack_core.proofs.start.requests.Given as goal

abbrev pub invariant-loop-op : goal.invariant-loop-op
invariant-loop-op l = record {
  ios : l.ios.items ++ requests_from l.dix l.next (drop l.op-index l.ops) ≡ requests_from l.dix l.pages l.ops;
  pages : pages_from l.dix l.next (drop l.op-index l.ops) ≡ pages_from l.dix l.pages l.ops;
  count : length l.ios.items ≡ l.op-index;
  room : length l.ops ≤ vec_capacity l.ios;
  few : l.next ≤ l.pages + 32 * l.op-index;
}
