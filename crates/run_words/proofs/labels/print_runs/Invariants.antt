use Rattle.std.proofs.Common.{drop}
use Rattle.run_words.specs.Texts.{run_lines, runs_from, runs_of}
use Rattle.report_text.proofs.Written.{Writing}
use Rattle.run_words.proofs.labels.print_runs.Given as goal

abbrev pub invariant-loop-label : goal.invariant-loop-label
invariant-loop-label g l = Writing (g.O.Sink.taken) (g.O.Sink.faults) (run_lines l.sites (runs_of l.labels)) (run_lines l.sites (runs_from l.run (drop l.label-index l.rest))) l.initial.out l.out
