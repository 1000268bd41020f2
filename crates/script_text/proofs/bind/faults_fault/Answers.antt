use Rattle.std.proofs.Common.{◌<◌, length, get_or, take, sym, ap, ◌∙◌, arith}
use Rattle.script_text.specs.Bindings.{is_bad_on, request_at}
use Rattle.script_text.specs.Crossings.{is_read}
use Rattle.script_text.proofs.Lines.{passes}
use Rattle.script_text.proofs.bind.faults_fault.Goals as goal

pub loop-i-preserved : goal.loop-i-preserved
loop-i-preserved c =
    let size = ap length c.as_slice-faults.ensures in
    let here : c.loop-i.i < length c.args.script.now.faults = omega (arith, size, c.loop-i-test.true) in
    let line : c.loop-i.i < length c.args.script.now.lines = omega (arith, here, c.requires.lines) in
    let f = c.index-faults-i.result in
    let item = sym (c.index-faults-i.is ∙ ap (λ fs. get_or fs c.loop-i.i f) c.as_slice-faults.ensures) in
    let good =
    ap (λ fs. is_bad_on c.args.against.table.now c.args.against.devices.now c.args.against.size (take c.loop-i.i fs) f (is_read c.args.script.now.ops f.op) (request_at c.args.script.now.ops f.op)) (sym c.as_slice-faults.ensures)
    ∙ ap (λ os. is_bad_on c.args.against.table.now c.args.against.devices.now c.args.against.size (take c.loop-i.i c.as_slice-faults.result.now) f (is_read os f.op) (request_at os f.op)) (sym c.as_slice-ops.ensures)
    ∙ sym c.is_bad_fault.ensures ∙ c.if-is_bad_fault.false in
    sym (passes c.args.against.table.now c.args.against.devices.now c.args.against.size c.args.script.now.ops c.args.script.now.faults c.args.script.now.lines c.loop-i.i f here line item good) ∙ c.loop-i.invariant
