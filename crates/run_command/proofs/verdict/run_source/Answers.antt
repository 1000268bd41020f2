use Rattle.std.proofs.Common.{inl, refl}
use Rattle.std.proofs.lemmas.Result.{err_from_is_err_and}
use Rattle.run_command.proofs.Completing.{all_complete, complete}
use Rattle.run_command.proofs.Refusing.{source_run}
use Rattle.run_command.specs.Verdict.{Facts}
use Rattle.run_command.proofs.verdict.run_source.Goals as goal

pub returns-clause-verdict : goal.returns-clause-verdict
returns-clause-verdict g c = source_run c.run_script.result _ c.in_ok-script.script c.in_ok-script.ensures.reads c.run_script.ensures.verdict

pub returns-clause-complete : goal.returns-clause-complete
returns-clause-complete g c = all_complete c.run_script.result _ (source_run c.run_script.result _ c.in_ok-script.script c.in_ok-script.ensures.reads c.run_script.ensures.verdict)

pub returns-in_err-script-clause-complete : goal.returns-in_err-script-clause-complete
returns-in_err-script-clause-complete g c =
    let before = g.R.Rig.state c.args.rig.now in
    let f : Facts = record {
      name = c.args.image.now;
      left = g.S.Source.left c.args.source.now;
      left_after = g.S.Source.left c.take_script.new.source;
      reads = g.S.Source.faults c.args.source.now;
      reads_after = g.S.Source.faults c.take_script.new.source;
      rig = before;
      rig_after = before;
    } in
    let p = err_from_is_err_and c.from_residual.result c.from_residual.ensures.1 in
    rw (p.1, p.2) (complete c.in_err-script.field-0.0 f (inl (c.in_err-script.ensures.cause, refl)))
