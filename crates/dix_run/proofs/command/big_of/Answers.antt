use Rattle.std.proofs.Common.{sym}
use Rattle.dix_run.proofs.WordLemmas.{not_two}
use Rattle.dix_run.proofs.command.big_of.Goals as goal

pub returns-then-words-ne2 : goal.returns-then-words-ne2
returns-then-words-ne2 c = sym (not_two c.args.words.now c.if-words-ne2.true)
