use Rattle.std.proofs.Common.{◌+◌, drop}
use Rattle.volume_table.specs.Places.{volume_len}
use Rattle.run_words.specs.Sites.{AreInside}
use Rattle.run_words.specs.Texts.{all_listed}
use Rattle.report_text.proofs.Written.{Writing}
use Rattle.run_words.proofs.listed.print_all_listed.Given as goal

abbrev pub invariant-loop-i : goal.invariant-loop-i
invariant-loop-i g l = record {
  text : Writing (g.O.Sink.taken) (g.O.Sink.faults) (all_listed l.entries 1 l.sites l.replies) (all_listed l.entries (l.i + 1) l.rest (drop l.i l.replies)) l.initial.out l.out;
  inside : AreInside (volume_len l.entries) l.rest (drop l.i l.replies);
}
