use Rattle.std.proofs.Common.{◌∙◌, arith}
use Rattle.std.proofs.lemmas.Result.{err_from_is_err_and}
use Rattle.vector_runs.proofs.Bounds.{next_at}
use Rattle.vector_runs.proofs.Steps.{done_all, done_next, lacked_at, none_done}
use Rattle.vector_runs.proofs.doing.do_list.Goals as goal

pub do_line-requires-clause-inside : goal.do_line-requires-clause-inside
do_line-requires-clause-inside g c = (next_at _ c.loop-line.line-index c.args.lines.now c.line-item.result c.line-item.is c.loop-line-test.true c.loop-line.invariant.inside).0

pub loop-line-init : goal.loop-line-init
loop-line-init g c = record { done = none_done _; inside = c.requires.inside; calm = c.requires.calm }

pub loop-line-preserved : goal.loop-line-preserved
loop-line-preserved g c = record {
  done = done_next c.args.lines.now c.loop-line.line-index c.line-item.result _ _ _ c.line-item.is c.loop-line-test.true c.loop-line.invariant.done c.in_ok-do_line.ensures;
  inside = rw c.in_ok-do_line.ensures.standing ((next_at _ c.loop-line.line-index c.args.lines.now c.line-item.result c.line-item.is c.loop-line-test.true c.loop-line.invariant.inside).1);
  calm = c.in_ok-do_line.ensures.armed ∙ c.loop-line.invariant.calm;
}

pub returns-in_err-do_line : goal.returns-in_err-do_line
returns-in_err-do_line g c =
    let p = err_from_is_err_and c.from_residual.result c.from_residual.ensures.1 in
    rw p.1 (lacked_at c.args.lines.now c.loop-line.line-index _ _ _ c.loop-line.invariant.done c.in_err-do_line.ensures)

pub returns : goal.returns
returns g c = done_all c.args.lines.now c.loop-line.line-index _ _ (omega arith) c.loop-line.invariant.done
