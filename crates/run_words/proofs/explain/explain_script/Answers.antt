use Rattle.run_words.proofs.Inside.{explained_so}
use Rattle.run_words.proofs.Marking.{unrun}
use Rattle.run_words.proofs.explain.explain_script.Goals as goal

pub returns-in-Ok-run_script-clause-verdict : goal.returns-in-Ok-run_script-clause-verdict
returns-in-Ok-run_script-clause-verdict g c =
    explained_so c.in-Ok-run_script.run' c.in-Ok.tools.0 c.in-Ok.tools.1 c.keep.new.self c.args.script c.args.image.now (g.R.Rig.state c.args.rig.now) (g.R.Rig.state c.run_script.new.rig) c.requires c.in-Ok-run_script.ensures.verdict c.in-Ok.ensures.0
    c.in-Ok.ensures.1 c.keep.ensures.kept c.keep.ensures.first c.keep.ensures.book

pub returns-in-Err-run_script-clause-verdict : goal.returns-in-Err-run_script-clause-verdict
returns-in-Err-run_script-clause-verdict g c = unrun c.in-Err-run_script.refusal c.halted.result _ _ _ _ _ c.in-Err-run_script.ensures.verdict c.halted.ensures
