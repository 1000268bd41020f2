use Rattle.std.proofs.Common.{◌≡◌, ◌<◌, ◌+◌, ◌-◌, length, drop, ap, arith}
use Rattle.std.proofs.lemmas.List.{drop_all}
use Rattle.run_words.specs.Texts.{record_lines}
use Rattle.run_words.proofs.Lines.{next_record}
use Rattle.report_text.proofs.Written.{as_left, begins, breaks, ends, writes}
use Rattle.run_words.proofs.records.print_records.Goals as goal

pub loop-i-init : goal.loop-i-init
loop-i-init g c =
    let none : 0 ≡ c.args.from - c.args.from = omega arith in
    as_left (ap (λ k. record_lines k c.args.sites.now (drop c.args.from (g.R.Rig.state c.args.rig.now).log)) none) begins

pub returns-in_err-print_entry : goal.returns-in_err-print_entry
returns-in_err-print_entry g c =
    let log = (g.R.Rig.state c.args.rig.now).log in
    let here : c.loop-i.i < length log = omega (arith, c.loop-i-test.true, c.records-i-end.ensures) in
    let next = next_record (c.loop-i.i - c.args.from) c.from.result c.loop-i.i c.args.sites.now log c.logged.result.now c.labels.result.now here c.from.ensures c.logged.ensures c.labels.ensures in
    breaks _ c.from_residual.result c.from_residual.ensures.0 (as_left next c.loop-i.invariant) c.in_err-print_entry.ensures

pub loop-i-preserved : goal.loop-i-preserved
loop-i-preserved g c =
    let log = (g.R.Rig.state c.args.rig.now).log in
    let here : c.loop-i.i < length log = omega (arith, c.loop-i-test.true, c.records-i-end.ensures) in
    let next = next_record (c.loop-i.i - c.args.from) c.from.result c.loop-i.i c.args.sites.now log c.logged.result.now c.labels.result.now here c.from.ensures c.logged.ensures c.labels.ensures in
    let step : c.loop-i.i - c.args.from + 1 ≡ c.loop-i.i + 1 - c.args.from = omega (arith, c.loop-i.auto.i) in
    as_left (ap (λ k. record_lines k c.args.sites.now (drop (c.loop-i.i + 1) log)) step) (writes (as_left next c.loop-i.invariant) c.in_ok-print_entry.ensures)

pub returns : goal.returns
returns g c = ends c.loop-i.invariant (ap (record_lines (c.loop-i.i - c.args.from) c.args.sites.now) (drop_all c.loop-i.i (g.R.Rig.state c.args.rig.now).log (omega (arith, c.loop-i-test.false, c.records-i-end.ensures))))
