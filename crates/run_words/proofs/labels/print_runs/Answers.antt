use Rattle.std.proofs.Common.{◌+◌, drop, sym, ap, ◌∙◌, append-nil}
use Rattle.run_words.specs.Texts.{run_lines, runs_from, runs_of}
use Rattle.run_words.proofs.Lines.{last_run, next_label}
use Rattle.report_text.proofs.Written.{as_left, begins, breaks, ends_with, writes}
use Rattle.run_words.proofs.labels.print_runs.Goals as goal

pub loop-label-init : goal.loop-label-init
loop-label-init g c = as_left (ap (λ ls. run_lines c.args.sites.now (runs_of ls)) c.in-Some.ensures.cases.0 ∙ ap (λ r. run_lines c.args.sites.now (runs_from r c.in-Some.rest.now)) (sym c.begun-run.ensures)) begins

pub returns-in_err-run : goal.returns-in_err-run
returns-in_err-run g c =
    breaks _ c.from_residual.result c.from_residual.ensures.0 (as_left (next_label c.args.sites.now c.loop-label.run c.loop-label.label-index c.in-Some.rest.now _ c.loop-label-test.true) c.loop-label.invariant) c.in_err-run.ensures.wrote

pub loop-label-preserved : goal.loop-label-preserved
loop-label-preserved g c =
    as_left (ap (λ r. run_lines c.args.sites.now (runs_from r (drop (c.loop-label.label-index + 1) c.in-Some.rest.now))) (sym c.in_ok-run.ensures.next))
    (writes (as_left (next_label c.args.sites.now c.loop-label.run c.loop-label.label-index c.in-Some.rest.now _ c.loop-label-test.true) c.loop-label.invariant) c.in_ok-run.ensures.wrote)

pub returns : goal.returns
returns g c =
    let last = last_run c.args.sites.now c.loop-label.run c.loop-label.label-index c.in-Some.rest.now c.as_slice.result.now c.loop-label-test.false (c.as_slice.ensures.value ∙ c.run_line.ensures) in
    ends_with c.write_all.result (as_left (last ∙ append-nil c.as_slice.result.now) c.loop-label.invariant) c.write_all.ensures
