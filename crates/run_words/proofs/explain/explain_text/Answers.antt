use Rattle.std.proofs.Common.{inr}
use Rattle.script_text.specs.Language.{script_in}
use Rattle.run_words.proofs.Marking.{as_read}
use Rattle.run_words.proofs.explain.explain_text.Goals as goal

pub returns-in-Ok-clause-verdict : goal.returns-in-Ok-clause-verdict
returns-in-Ok-clause-verdict g c = inr (as_read (script_in c.args.text.now) c.in-Ok.script c.explain_script.result c.args.text.now c.args.image.now _ _ c.in-Ok.ensures c.explain_script.ensures.verdict)
