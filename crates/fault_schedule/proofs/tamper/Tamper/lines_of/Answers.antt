use Rattle.std.proofs.Common.{◌%◌, get_or, arith}
use Rattle.fault_schedule.specs.declared.tamper.Span.{Span}
use Rattle.fault_schedule.specs.Spans.{AreWithin, IsAround}
use Rattle.fault_schedule.proofs.Spans.{all-between}
use Rattle.fault_schedule.proofs.tamper.Tamper.lines_of.Goals as goal
use Rattle.fault_schedule.proofs.tamper.Tamper.lines_of.Goals.{then-span, else-span}

pub returns : goal.returns
returns c =
    let lines = c.as_slice-lines.result.now in
    let old : Span = record { first = 0; last = 0 } in
    let span : Span = get_or c.self.inside.spans (c.args.op % 1024) old in
    let within : AreWithin c.self.inside.spans lines = rw c.as_slice-lines.ensures c.self.invariant in
    rw (← c.self.view_is, ← c.as_slice-lines.ensures) (all-between c.args.op c.min.result c.if-span.end lines (λ k d h e.
    let around : IsAround span k = rw e at (within k d old h) in
    let early = around.0 in
    let late = around.1 in
    elim c.if-span.branch [
      | then-span w ↦ (omega (arith, early, h), omega (arith, w.end-is, h))
      | else-span w ↦ (omega (arith, early, h), omega (arith, late, w.end-is, w.min-end.ensures, w.if-span.false, h))
    ]))
