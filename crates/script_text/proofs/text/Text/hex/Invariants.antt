use Rattle.std.proofs.Common.{◌≡◌, ◌++◌, drop}
use Rattle.hex.specs.Hex.{encode_lower}
use Rattle.script_text.proofs.text.Text.hex.Given as goal

abbrev pub invariant-loop-byte : goal.invariant-loop-byte
invariant-loop-byte l = l.self.bytes.items ++ encode_lower (drop l.byte-index l.bytes) ≡ l.initial.self.bytes.items ++ encode_lower l.bytes
