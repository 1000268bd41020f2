use Rattle.std.proofs.Common.{arith, sym}
use Rattle.call_verdict.proofs.WordLemmas.{too_many}
use Rattle.call_verdict.proofs.words.laid_out.Goals as goal

pub returns-then-words-gt8 : goal.returns-then-words-gt8
returns-then-words-gt8 c = sym (too_many c.args.words.now (omega arith))
