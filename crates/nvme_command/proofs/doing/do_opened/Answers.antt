use Rattle.std.proofs.Common.{sym, ◌∙◌}
use Rattle.nvme_command.proofs.Steps.{exact_came}
use Rattle.nvme_command.proofs.doing.do_opened.Goals as goal

pub returns : goal.returns
returns g c = record {
  devices = c.in_ok-front.front;
  between = g.R.Rig.state c.open.new.rig;
  told = c.in_ok-front.ensures.told;
  fit = sym c.misfit.ensures ∙ c.in-None.is;
  came = c.in_ok-do_lines.ensures;
  exact = λ us e calm. exact_came c.in_ok-front.front c.args.lines.now c.in_ok-do_lines.field-0.text.items c.in_ok-do_lines.field-0.bad _ _ us c.in_ok-do_lines.ensures c.in_ok-front.ensures.told.devices_are e calm;
  laid = g.met.R.Rig.laid c.do_lines.new.rig;
}
