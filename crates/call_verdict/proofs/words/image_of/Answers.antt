use Rattle.std.proofs.Common.{arith}
use Rattle.call_verdict.proofs.WordLemmas.{no_second}
use Rattle.call_verdict.proofs.words.image_of.Goals as goal

pub returns-then-words-lt2 : goal.returns-then-words-lt2
returns-then-words-lt2 c = no_second c.args.words.now (omega arith)
