use Rattle.script_words.proofs.Cutting.{line_cut, line_last}
use Rattle.std.proofs.Common.{arith}
use Rattle.script_words.proofs.cuts.next_line.Goals as goal

pub returns-in-Some-clause-some : goal.returns-in-Some-clause-some
returns-in-Some-clause-some c = line_cut c.args.text.now _ _ c.in-Some.ensures.some

pub returns-in-None-clause-some : goal.returns-in-None-clause-some
returns-in-None-clause-some c = line_last c.args.text.now c.in-None.ensures.none (λ z. grind (arith, z, c.if-is_empty.ensures))
