use Rattle.std.proofs.Common.{sym}
use Rattle.dix_run.proofs.WordLemmas.{not_one_name}
use Rattle.dix_run.proofs.command.is_one_name.Goals as goal

pub returns-then-words-ne1 : goal.returns-then-words-ne1
returns-then-words-ne1 c = sym (not_one_name c.args.words.now c.if-words-ne1.true)
