use Rattle.std.proofs.Common.{ℕ, ◌+◌, ◌<◌, List, length, get_or, Option, Some, sym, ap, ◌∙◌, arith}
use Rattle.script_text.specs.declared.fault.ScriptFault.{ScriptFault}
use Rattle.script_text.proofs.Lines.{no_ops_left, op_at_fault, op_passes}
use Rattle.script_text.proofs.bind.ops_fault.Goals as goal

pub loop-i-preserved : goal.loop-i-preserved
loop-i-preserved c =
    let size = ap length c.as_slice-op-items.ensures in
    let here : c.loop-i.i < length c.args.script.now.ops = omega (arith, size, c.loop-i-test.true) in
    let line : length c.args.script.now.faults + c.loop-i.i < length c.args.script.now.lines = omega (arith, here, c.requires.lines) in
    let item = sym (c.op-item.is ∙ ap (λ os. get_or os c.loop-i.i c.op-item.result) c.as_slice-op-items.ensures) in
    sym (op_passes c.args.against.table.now c.args.against.devices.now c.args.against.size c.args.script.now.ops c.args.script.now.lines (length c.args.script.now.faults) c.loop-i.i c.op-item.result here line item (sym c.op_fault.ensures ∙ c.in_default.is))
    ∙ c.loop-i.invariant

pub returns-in-Some : goal.returns-in-Some
returns-in-Some c =
    let size = ap length c.as_slice-op-items.ensures in
    let here : c.loop-i.i < length c.args.script.now.ops = omega (arith, size, c.loop-i-test.true) in
    let line : length c.args.script.now.faults + c.loop-i.i < length c.args.script.now.lines = omega (arith, here, c.requires.lines) in
    let item = sym (c.op-item.is ∙ ap (λ os. get_or os c.loop-i.i c.op-item.result) c.as_slice-op-items.ensures) in
    let fault : (line : ℕ) → Option ScriptFault = λ n. Some (record { line = n; kind = c.in-Some.kind }) in
    ap (λ xs. fault (get_or xs (length c.as_slice-first.result.now + c.loop-i.i) 0)) c.as_slice-lines.ensures
    ∙ ap (λ (fs : List _). fault (get_or c.args.script.now.lines (length fs + c.loop-i.i) 0)) c.as_slice-first.ensures
    ∙ sym (op_at_fault c.args.against.table.now c.args.against.devices.now c.args.against.size c.args.script.now.ops c.args.script.now.lines (length c.args.script.now.faults) c.loop-i.i c.op-item.result c.in-Some.kind here line item (sym c.op_fault.ensures ∙ c.in-Some.is))
    ∙ c.loop-i.invariant

pub returns : goal.returns
returns c =
    let size = ap length c.as_slice-op-items.ensures in
    sym (no_ops_left c.args.against.table.now c.args.against.devices.now c.args.against.size c.args.script.now.ops _ c.loop-i.i (omega (arith, size, c.loop-i-test.false)))
    ∙ c.loop-i.invariant
