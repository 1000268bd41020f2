use Rattle.std.proofs.Common.{Ok, Err, refl}
use Rattle.std.proofs.lemmas.Result.{err_from_is_err_and}
use Rattle.call_verdict.specs.Words.{word_bytes}
use Rattle.flip_sweep.specs.declared.sweep.Unswept.TheVariants as unswept
use Rattle.lab_run.specs.Swept.{swept}
use Rattle.lab_run.proofs.Named.{sweep_good}
use Rattle.lab_run.proofs.Sweeps.{as_ends, ends_over, halted, not_by_sink, unswept_so, untaken, whole}
use Rattle.lab_run.proofs.sweeping.sweep.Goals as goal

pub sweep_script-requires-clause-layout : goal.sweep_script-requires-clause-layout
sweep_script-requires-clause-layout g c = rw c.as_slice.ensures (sweep_good (word_bytes c.args.words.now) c.args.byte c.args.units.now c.requires).1

pub sweep_script-requires-clause-byte : goal.sweep_script-requires-clause-byte
sweep_script-requires-clause-byte g c = (sweep_good (word_bytes c.args.words.now) c.args.byte c.args.units.now c.requires).0

pub returns-in_err-script-clause-came : goal.returns-in_err-script-clause-came
returns-in_err-script-clause-came g c = λ h rig second.
    let p = err_from_is_err_and c.from_residual.result c.from_residual.ensures.1 in
    rw (p.1, p.2) (untaken _ h _ _ _ _ rig second c.args.byte c.args.units.now c.in_err-script.field-0.0 _ _ _ c.in_err-script.ensures.count refl c.in_err-script.ensures.cause)

pub returns-in-Ok-clause-came : goal.returns-in-Ok-clause-came
returns-in-Ok-clause-came g c = λ h rig second.
    whole _ h _ _ _ _ rig second c.args.byte c.args.units.now c.in_ok-script.script c.in-Ok.unseen _ _ _ _ c.status_for.result c.in_ok-script.ensures.count c.in_ok-script.ensures.reads
    (ends_over (Ok c.in-Ok.unseen) c.args.byte c.as_slice.result.now c.args.units.now c.in_ok-script.script (g.O.Sink.faults c.args.out.now) (g.O.Sink.faults c.sweep_script.new.out) (g.O.Sink.taken c.args.out.now) (g.O.Sink.taken c.sweep_script.new.out) c.as_slice.ensures c.in-Ok.ensures.swept) (c.in-Ok.ensures.calm (λ e. absurd (cc))) c.status_for.ensures

pub returns-in-Err-Stopped-clause-came : goal.returns-in-Err-Stopped-clause-came
returns-in-Err-Stopped-clause-came g c = λ h rig second.
    unswept_so _ h _ _ _ _ rig second c.args.byte c.args.units.now c.in_ok-script.script c.in-Err-Stopped.refusal _ _ _ _ c.in_ok-script.ensures.count c.in_ok-script.ensures.reads
    (ends_over (Err (unswept.Stopped c.in-Err-Stopped.refusal)) c.args.byte c.as_slice.result.now c.args.units.now c.in_ok-script.script (g.O.Sink.faults c.args.out.now) (g.O.Sink.faults c.sweep_script.new.out) (g.O.Sink.taken c.args.out.now) (g.O.Sink.taken c.sweep_script.new.out) c.as_slice.ensures
    (as_ends c.in-Err-Stopped.field-0 (unswept.Stopped c.in-Err-Stopped.refusal) (swept c.args.byte c.as_slice.result.now c.in_ok-script.script) (g.O.Sink.faults c.args.out.now) (g.O.Sink.faults c.sweep_script.new.out) (g.O.Sink.taken c.args.out.now) (g.O.Sink.taken c.sweep_script.new.out) c.in-Err-Stopped.field-0-is c.in-Err-Stopped.ensures.swept))

pub returns-clause-came : goal.returns-clause-came
returns-clause-came g c = λ h rig second.
    halted _ h _ _ _ _ rig second c.args.byte c.args.units.now c.in_ok-script.script c.in-Err-Halted.halt _ _ _ _ c.halt_status.result c.in_ok-script.ensures.count c.in_ok-script.ensures.reads
    (ends_over (Err (unswept.Halted c.in-Err-Halted.halt)) c.args.byte c.as_slice.result.now c.args.units.now c.in_ok-script.script (g.O.Sink.faults c.args.out.now) (g.O.Sink.faults c.sweep_script.new.out) (g.O.Sink.taken c.args.out.now) (g.O.Sink.taken c.sweep_script.new.out) c.as_slice.ensures
    (as_ends c.in-Err-Halted.field-0 (unswept.Halted c.in-Err-Halted.halt) (swept c.args.byte c.as_slice.result.now c.in_ok-script.script) (g.O.Sink.faults c.args.out.now) (g.O.Sink.faults c.sweep_script.new.out) (g.O.Sink.taken c.args.out.now) (g.O.Sink.taken c.sweep_script.new.out) c.in-Err-Halted.field-0-is c.in-Err-Halted.ensures.swept))
    (λ z. c.in-Err-Halted.ensures.calm (not_by_sink c.in-Err-Halted.field-0 c.in-Err-Halted.halt c.in-Err-Halted.field-0-is z)) c.halt_status.ensures
