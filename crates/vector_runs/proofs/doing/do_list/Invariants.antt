use Rattle.std.proofs.Common.{◌≡◌, [], drop, take, None}
use Rattle.vector_runs.specs.Done.{HaveDone}
use Rattle.vector_runs.specs.Ranges.{out_of_range}
use Rattle.vector_runs.proofs.doing.do_list.Given as goal

abbrev pub invariant-loop-line : goal.invariant-loop-line
invariant-loop-line g l = record {
  done : HaveDone (take l.line-index l.lines)
      (g.R.Rig.state l.initial.rig)
      (g.R.Rig.state l.rig);
  inside : out_of_range (g.R.Rig.state l.rig).standing.devices (drop l.line-index l.lines) ≡ None;
  calm : (g.R.Rig.state l.rig).armed ≡ [];
}
