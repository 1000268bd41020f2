use Rattle.std.proofs.Common.{arith}
use Rattle.lab_run.proofs.FewWords.{no_fourth}
use Rattle.lab_run.proofs.comparing.second_of.Goals as goal

pub returns-then-words-lt4 : goal.returns-then-words-lt4
returns-then-words-lt4 c = no_fourth c.args.words.now (omega arith)
