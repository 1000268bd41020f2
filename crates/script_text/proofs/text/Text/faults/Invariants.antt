use Rattle.std.proofs.Common.{◌≡◌, ◌++◌, drop}
use Rattle.script_text.specs.Printed.{faults_text}
use Rattle.script_text.proofs.text.Text.faults.Given as goal

abbrev pub invariant-loop-line : goal.invariant-loop-line
invariant-loop-line l = l.self.bytes.items ++ faults_text (drop l.line-index l.lines) ≡ l.initial.self.bytes.items ++ faults_text l.lines
