use Rattle.std.proofs.Common.{◌≡◌, ◌+◌, length}
use Rattle.std.specs.List.{prefix_len}
use Rattle.run_premises.specs.Forms.{good_lines, is_good_line}
use Rattle.run_premises.proofs.form.good_lines.Given as goal

abbrev pub invariant-loop-rest : goal.invariant-loop-rest
invariant-loop-rest l = record {
  frame : length l.frame ≡ l.scene.size + 8;
  good : l.good + prefix_len (is_good_line l.scene.kind l.scene.size l.scene.lines.now l.scene.ops.now) l.rest ≡ good_lines l.scene.kind l.scene.size l.scene.lines.now l.scene.ops.now;
  some : l.good + length l.rest ≡ length l.scene.lines.now;
}

abbrev pub decreases-loop-rest : goal.decreases-loop-rest
decreases-loop-rest l = length l.rest
