use Rattle.std.proofs.Common.{◌≡◌, ◌+◌, ◌*◌, ◌^◌, ◌≤◌, drop}
use Rattle.page_pool.specs.Places.{total}
use Rattle.fault_marks.proofs.listed.total_of.Given as goal

abbrev pub invariant-loop-seg : goal.invariant-loop-seg
invariant-loop-seg l = record {
  added : l.bytes + total (drop l.seg-index l.segs) ≡ total l.segs;
  few : l.bytes ≤ l.seg-index * 2 ^ 32;
}
