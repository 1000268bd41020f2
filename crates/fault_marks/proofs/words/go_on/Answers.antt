use Rattle.fault_marks.proofs.Spans.{ended_at}
use Rattle.fault_marks.proofs.words.go_on.Goals as goal

pub returns-then-byte-eq32 : goal.returns-then-byte-eq32
returns-then-byte-eq32 c = λ rest. ended_at c.args.begun c.args.at c.args.byte _ _ rest c.in_ok-end_word.ensures c.if-byte-eq32.true
