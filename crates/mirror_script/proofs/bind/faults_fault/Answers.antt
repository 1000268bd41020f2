use Rattle.std.proofs.Common.{◌<◌, length, get_or, take, sym, ap, ◌∙◌, arith}
use Rattle.mirror_script.specs.MirrorFaults.{is_bad_line}
use Rattle.mirror_script.proofs.Passing.{passes}
use Rattle.mirror_script.proofs.bind.faults_fault.Goals as goal

pub loop-i-preserved : goal.loop-i-preserved
loop-i-preserved c =
    let size = ap length c.as_slice-faults.ensures in
    let here : c.loop-i.i < length c.args.script.now.faults = omega (arith, size, c.loop-i-test.true) in
    let line : c.loop-i.i < length c.args.script.now.lines = omega (arith, here, c.requires.lines) in
    let f = c.index-faults-i.result in
    let item = sym (c.index-faults-i.is ∙ ap (λ fs. get_or fs c.loop-i.i f) c.as_slice-faults.ensures) in
    let good =
    ap (λ fs. is_bad_line c.args.script.now.mode.protect c.args.stored c.args.script.now.ops (take c.loop-i.i fs) f) (sym c.as_slice-faults.ensures)
    ∙ ap (λ os. is_bad_line c.args.script.now.mode.protect c.args.stored os (take c.loop-i.i c.as_slice-faults.result.now) f) (sym c.as_slice-ops.ensures)
    ∙ sym c.is_bad_line.ensures ∙ c.if-is_bad_line.false in
    sym (passes c.args.script.now.mode.protect c.args.stored c.args.script.now.ops c.args.script.now.faults c.args.script.now.lines c.loop-i.i f here line item good) ∙ c.loop-i.invariant
