use Rattle.std.proofs.Common.{◌≡◌, ◌++◌, drop}
use Rattle.script_text.specs.Printed.{more_segs}
use Rattle.script_text.proofs.text.Text.more_segs.Given as goal

abbrev pub invariant-loop-seg : goal.invariant-loop-seg
invariant-loop-seg l = l.self.bytes.items ++ more_segs (drop l.seg-index l.segs) ≡ l.initial.self.bytes.items ++ more_segs l.segs
