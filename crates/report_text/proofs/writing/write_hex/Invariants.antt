use Rattle.std.proofs.Common.{length}
use Rattle.hex.specs.Hex.{encode_lower}
use Rattle.report_text.proofs.Written.{Writing}
use Rattle.report_text.proofs.writing.write_hex.Given as goal

abbrev pub invariant-loop-rest : goal.invariant-loop-rest
invariant-loop-rest g l = Writing (g.O.Sink.taken) (g.O.Sink.faults) (encode_lower l.bytes) (encode_lower l.rest) l.initial.out l.out

abbrev pub decreases-loop-rest : goal.decreases-loop-rest
decreases-loop-rest g l = length l.rest
