use Rattle.std.proofs.Common.{◌≡◌, ◌+◌, ◌≤◌, length}
use Rattle.page_pool.specs.Cuts.{past, upto}
use Rattle.script_text.proofs.segments.count_parts.Given as goal

abbrev pub invariant-loop-part : goal.invariant-loop-part
invariant-loop-part l = record {
  parts : l.count + length (upto l.left l.walk) ≡ length (upto l.size l.initial.walk);
  ahead : past l.left l.walk ≡ past l.size l.initial.walk;
  bytes : l.count + l.left ≤ l.size;
}

abbrev pub decreases-loop-part : goal.decreases-loop-part
decreases-loop-part l = l.left
