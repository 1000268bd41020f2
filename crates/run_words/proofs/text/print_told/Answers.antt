use Rattle.std.proofs.Common.{ℕ, ◌≡◌, IfOk, subst}
use Rattle.report_text.proofs.Written.{as_text, stops_first, wrote_both}
use Rattle.run_words.specs.Ledgers.{book_in}
use Rattle.run_words.proofs.Printing.{same_number, same_text}
use Rattle.run_words.proofs.text.print_told.Goals as goal

pub returns-in_err-print_report-clause-wrote : goal.returns-in_err-print_report-clause-wrote
returns-in_err-print_report-clause-wrote g c =
    let t = c.args.told.now in
    let log = (g.R.Rig.state c.args.rig.now).log in
    let r = c.replies-replies.result.now in
    as_text (same_text t.guide.sites.items t.guide.entries (book_in t.ledger) log t.ledger.first t.run.first r t.run.stack.replies.items c.requires.ready.since c.replies-replies.ensures)
    (stops_first _ c.from_residual.result c.from_residual.ensures.0 c.in_err-print_report.ensures.wrote)

pub returns-in_err-print_words-clause-wrote : goal.returns-in_err-print_words-clause-wrote
returns-in_err-print_words-clause-wrote g c =
    let t = c.args.told.now in
    let log = (g.R.Rig.state c.args.rig.now).log in
    let r = c.replies-replies.result.now in
    as_text (same_text t.guide.sites.items t.guide.entries (book_in t.ledger) log t.ledger.first t.run.first r t.run.stack.replies.items c.requires.ready.since c.replies-replies.ensures)
    (wrote_both c.from_residual-in_err-print_words.result c.in_ok-print_report.ensures.wrote (stops_first _ c.from_residual-in_err-print_words.result c.from_residual-in_err-print_words.ensures.0 c.in_err-print_words.ensures))

pub returns-clause-wrote : goal.returns-clause-wrote
returns-clause-wrote g c =
    let t = c.args.told.now in
    let log = (g.R.Rig.state c.args.rig.now).log in
    let r = c.replies-replies.result.now in
    as_text (same_text t.guide.sites.items t.guide.entries (book_in t.ledger) log t.ledger.first t.run.first r t.run.stack.replies.items c.requires.ready.since c.replies-replies.ensures)
    (wrote_both c.print_unseen.result c.in_ok-print_report.ensures.wrote (wrote_both c.print_unseen.result c.in_ok-print_words.ensures c.print_unseen.ensures.wrote))

pub returns-clause-count : goal.returns-clause-count
returns-clause-count g c =
    let t = c.args.told.now in
    let log = (g.R.Rig.state c.args.rig.now).log in
    let same = same_number (book_in t.ledger) log t.ledger.first t.run.first c.replies-replies.result.now t.run.stack.replies.items c.requires.ready.since c.replies-replies.ensures in
    subst (λ (x : ℕ). IfOk c.print_unseen.result (λ n. n ≡ x)) same c.print_unseen.ensures.count
