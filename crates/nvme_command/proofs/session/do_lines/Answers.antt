use Rattle.std.proofs.Common.{◌∙◌}
use Rattle.std.proofs.lemmas.Result.{err_from_is_err_and}
use Rattle.nvme_command.proofs.Steps.{came_step, lacked_step}
use Rattle.nvme_command.proofs.session.do_lines.Goals as goal

pub loop-line-preserved : goal.loop-line-preserved
loop-line-preserved g c = record {
  came = came_step c.args.front.now c.loop-line.front c.args.lines.now c.loop-line.line-index c.line-item.result c.loop-line.done.text.items c.do_line.new.done.text.items c.loop-line.done.bad c.do_line.new.done.bad _ _ _
      c.loop-line.invariant.front c.line-item.is c.loop-line-test.true c.loop-line.invariant.came c.in_ok-do_line.ensures.done;
  devices = c.do_line.ensures.devices;
  calm = c.do_line.ensures.armed ∙ c.loop-line.invariant.calm;
  front = c.do_line.ensures.front ∙ c.loop-line.invariant.front;
}

pub returns-in_err-do_line : goal.returns-in_err-do_line
returns-in_err-do_line g c =
    let p = err_from_is_err_and c.from_residual.result c.from_residual.ensures.1 in
    rw p.1 (lacked_step c.args.front.now c.loop-line.front c.args.lines.now c.loop-line.line-index c.line-item.result c.loop-line.done.text.items c.loop-line.done.bad _ _ _ c.loop-line.invariant.front c.line-item.is c.loop-line-test.true c.loop-line.invariant.came
    c.in_err-do_line.ensures.done)
