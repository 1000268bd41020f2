use Rattle.std.proofs.Common.{◌≡◌, ◌++◌, drop}
use Rattle.script_text.specs.Printed.{entries_text}
use Rattle.script_text.proofs.text.Text.entries.Given as goal

abbrev pub invariant-loop-entry : goal.invariant-loop-entry
invariant-loop-entry l = l.self.bytes.items ++ entries_text (drop l.entry-index l.entries) ≡ l.initial.self.bytes.items ++ entries_text l.entries
