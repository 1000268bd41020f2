use Rattle.std.proofs.Common.{drop}
use Rattle.run_words.specs.Texts.{listed_lines}
use Rattle.report_text.proofs.Written.{Writing}
use Rattle.run_words.proofs.listed.print_listed.Given as goal

abbrev pub invariant-loop-block : goal.invariant-loop-block
invariant-loop-block g l = Writing (g.O.Sink.taken) (g.O.Sink.faults) (listed_lines l.entries l.number l.site l.blocks) (listed_lines l.entries l.number l.site (drop l.block-index l.blocks)) l.initial.out l.out
