use Rattle.std.proofs.Common.{◌%◌, ◌∙◌, ap, get_or, refl, arith, length-set, min}
use Rattle.fault_schedule.specs.declared.tamper.Span.{Span}
use Rattle.fault_schedule.proofs.Spans.{one-more-within}
use Rattle.fault_schedule.proofs.tamper.spans_of.Goals as goal

pub loop-i-init : goal.loop-i-init
loop-i-init c = (refl, λ k d s h. absurd (omega (arith, h)))

pub loop-i-preserved : goal.loop-i-preserved
loop-i-preserved c =
    let spans = c.loop-i.spans in
    let place = (get_or c.args.lines.now c.loop-i.i c.index-lines-i.result).op % 1024 in
    let old : Span = record { first = 0; last = 0 } in
    let new : Span = record { first = c.min.result; last = c.min-at.result } in (
      length-set spans place new ∙ c.loop-i.invariant.0,
      one-more-within spans c.args.lines.now c.loop-i.i c.index-lines-i.result old new c.loop-i.invariant.0 c.loop-i-test.true c.loop-i.invariant.1 (c.min.ensures ∙ ap (λ t. min (get_or spans place old).first t) c.min-at.ensures) c.min-at.ensures,
    )

pub returns : goal.returns
returns c = λ k d s h. c.loop-i.invariant.1 k d s (omega (arith, h))
