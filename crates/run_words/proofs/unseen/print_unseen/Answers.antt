use Rattle.std.proofs.Common.{ap, ◌∙◌}
use Rattle.report_text.proofs.Written.{as_text, stops, stops_first, wrote_both}
use Rattle.run_words.specs.Ledgers.{book_in, moved_in}
use Rattle.run_words.specs.Unseen.{all_unseen, unseen_text}
use Rattle.run_words.proofs.unseen.print_unseen.Goals as goal

pub returns-in_err-unseen-clause-wrote : goal.returns-in_err-unseen-clause-wrote
returns-in_err-unseen-clause-wrote g c =
    stops_first (unseen_text (all_unseen (book_in c.args.ledger.now) (moved_in c.args.ledger.now (g.R.Rig.state c.args.rig.now).log) c.args.replies.now)) c.from_residual.result c.from_residual.ensures.0 c.in_err-unseen.ensures.wrote

pub returns-in_err-write_all-clause-wrote : goal.returns-in_err-write_all-clause-wrote
returns-in_err-write_all-clause-wrote g c =
    let last = c.as_slice.ensures.value ∙ c.last_line.ensures ∙ ap unseen_text c.in_ok-unseen.ensures.count in
    wrote_both c.from_residual-in_err-write_all.result c.in_ok-unseen.ensures.wrote (as_text last (stops c.from_residual-in_err-write_all.result c.from_residual-in_err-write_all.ensures.0 c.in_err-write_all.ensures))
