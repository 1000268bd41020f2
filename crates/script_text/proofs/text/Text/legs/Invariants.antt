use Rattle.std.proofs.Common.{◌≡◌, ◌++◌, drop}
use Rattle.script_text.specs.Printed.{legs_text}
use Rattle.script_text.proofs.text.Text.legs.Given as goal

abbrev pub invariant-loop-leg : goal.invariant-loop-leg
invariant-loop-leg l = l.self.bytes.items ++ legs_text (drop l.leg-index l.legs) ≡ l.initial.self.bytes.items ++ legs_text l.legs
