use Rattle.std.proofs.Common.{◌≡◌, [], take}
use Rattle.nvme_front.specs.Answers.{HasNamespaces}
use Rattle.nvme_command.specs.Done.{Came}
use Rattle.nvme_command.proofs.session.do_lines.Given as goal

abbrev pub invariant-loop-line : goal.invariant-loop-line
invariant-loop-line g l = record {
  came : Came l.initial.front (take l.line-index l.lines) l.done.text.items l.done.bad (g.R.Rig.state l.initial.rig) (g.R.Rig.state l.rig);
  devices : HasNamespaces l.front (g.R.Rig.state l.rig).standing (g.R.Rig.state l.rig).units;
  calm : (g.R.Rig.state l.rig).armed ≡ [];
  front : l.front ≡ l.initial.front;
}
