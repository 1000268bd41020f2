use Rattle.std.proofs.Common.{◌-◌, drop}
use Rattle.run_words.specs.Texts.{record_lines}
use Rattle.report_text.proofs.Written.{Writing}
use Rattle.run_words.proofs.records.print_records.Given as goal

abbrev pub invariant-loop-i : goal.invariant-loop-i
invariant-loop-i g l = Writing (g.O.Sink.taken) (g.O.Sink.faults) (record_lines 0 l.sites (drop l.fn.from (g.R.Rig.state l.rig).log)) (record_lines (l.i - l.fn.from) l.sites (drop l.i (g.R.Rig.state l.rig).log)) l.initial.out l.out
