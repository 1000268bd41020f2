use Rattle.std.proofs.Common.{ℕ, ◌≡◌, ◌+◌, List, None, refl, subst, sym}
use Rattle.std.specs.Prelude.{IfOk}
use Rattle.page_pool.specs.Pages.{Wrote}
use Rattle.page_pool.specs.Places.{places_of}
use Rattle.stack_ops.specs.Footprints.{put_seg}
use Rattle.stack_ops.specs.declared.op.Op.{Op}
use Rattle.stack_ops.specs.declared.op.Op.TheVariants.{Fetch, Fill, Overwrite, Put, Show, Write}
use Rattle.script_stack.specs.Causes.{table_of}
use Rattle.mirror_volume.specs.LegsPassed.{op_fault}
use Rattle.mirror_volume.specs.OnOps.{DidOp, RanOp, Sides}
use Rattle.mirror_volume.specs.Standing.{op_at}
use Rattle.mirror_volume.proofs.Ends.{did-fill, did-idle, did-overwrite, did-put, did-show, op-is}
use Rattle.mirror_volume.proofs.Pieces.{fetch-suits, write-suits}
use Rattle.mirror_volume.proofs.Reached.{has-blocks}
use Rattle.mirror_volume.proofs.Requests.{op-fits, overwrite-fits}
use Rattle.mirror_volume.proofs.Running.{can-still}
use Rattle.mirror_volume.proofs.ops.do_op.Goals as goal
use Rattle.rig_api.specs.State.{RigState}

pub write_blocks-requires-clause-request : goal.write_blocks-requires-clause-request
write_blocks-requires-clause-request g c =
    let p = c.args.plan.now in
    write-suits p c.args.state.now.pool c.args.at c.in-Write.v c.in-Write.n c.in-Write.body c.in-Write.app c.requires.ready.plan c.requires.pages c.requires.op
    (op-is p.script.ops c.as_slice.result.now c.args.at c.index-as_slice-at.result (Write c.in-Write.v c.in-Write.n c.in-Write.body c.in-Write.app) c.as_slice.ensures c.requires.op c.index-as_slice-at.is c.in-Write.is)

pub fetch_blocks-requires-clause-request : goal.fetch_blocks-requires-clause-request
fetch_blocks-requires-clause-request g c =
    let p = c.args.plan.now in
    fetch-suits p c.args.state.now.pool c.args.at c.in-Fetch.v c.in-Fetch.n c.in-Fetch.body c.requires.ready.plan c.requires.pages c.requires.op
    (op-is p.script.ops c.as_slice.result.now c.args.at c.index-as_slice-at.result (Fetch c.in-Fetch.v c.in-Fetch.n c.in-Fetch.body) c.as_slice.ensures c.requires.op c.index-as_slice-at.is c.in-Fetch.is)

pub overwrite-requires : goal.overwrite-requires
overwrite-requires g c =
    let p = c.args.plan.now in
    let s = p.script in
    let devices = p.devices.items in
    let t = table_of s devices in
    let is = op-is p.script.ops c.as_slice.result.now c.args.at c.index-as_slice-at.result (Overwrite c.in-Overwrite.dev c.in-Overwrite.lba c.in-Overwrite.change) c.as_slice.ensures c.requires.op c.index-as_slice-at.is c.in-Overwrite.is in
    let fits = subst (λ (op : Op). op_fault s.mode.protect t devices s.block op ≡ None) is (op-fits s devices c.args.at c.requires.ready.plan.bound c.requires.op) in
    let change = overwrite-fits s.mode.protect t devices s.block c.in-Overwrite.dev c.in-Overwrite.lba c.in-Overwrite.change fits in
    has-blocks devices _ _ t.ty s.block c.in-Overwrite.dev c.in-Overwrite.lba c.in-Overwrite.change c.requires.ready.rig change

pub returns-in-Fill-clause-ran : goal.returns-in-Fill-clause-ran
returns-in-Fill-clause-ran g c =
    let p = c.args.plan.now in
    let old : Sides = record { pool = c.args.state.now.pool; marks = c.args.state.now.marks.items } in
    let now : RigState = g.R.Rig.state c.args.rig.now in
    let is = op-is p.script.ops c.as_slice.result.now c.args.at c.index-as_slice-at.result (Fill c.in-Fill.seg c.in-Fill.byte) c.as_slice.ensures c.requires.op c.index-as_slice-at.is c.in-Fill.is in
    did-fill p.script p.devices.items p.half (c.args.at + 1) c.args.state.now.used old (record { pool = c.fill.new.pool; marks = old.marks }) now (op_at p.script.ops c.args.at) c.in-Fill.seg c.in-Fill.byte is c.fill.ensures refl

pub returns-in-Put-clause-ran : goal.returns-in-Put-clause-ran
returns-in-Put-clause-ran g c =
    let p = c.args.plan.now in
    let old : Sides = record { pool = c.args.state.now.pool; marks = c.args.state.now.marks.items } in
    let now : RigState = g.R.Rig.state c.args.rig.now in
    let is = op-is p.script.ops c.as_slice.result.now c.args.at c.index-as_slice-at.result (Put c.in-Put.page c.in-Put.off c.in-Put.bytes) c.as_slice.ensures c.requires.op c.index-as_slice-at.is c.in-Put.is in
    let wrote = subst (λ (bs : List ℕ). Wrote old.pool c.put.new.pool (places_of (put_seg c.in-Put.page c.in-Put.off bs)) bs) c.as_slice-in-Put.ensures c.put.ensures in
    did-put p.script p.devices.items p.half (c.args.at + 1) c.args.state.now.used old (record { pool = c.put.new.pool; marks = old.marks }) now (op_at p.script.ops c.args.at) c.in-Put.page c.in-Put.off c.in-Put.bytes is wrote refl

pub returns-in-Show-clause-ran : goal.returns-in-Show-clause-ran
returns-in-Show-clause-ran g c =
    let p = c.args.plan.now in
    let old : Sides = record { pool = c.args.state.now.pool; marks = c.args.state.now.marks.items } in
    let now : RigState = g.R.Rig.state c.args.rig.now in
    let is = op-is p.script.ops c.as_slice.result.now c.args.at c.index-as_slice-at.result (Show c.in-Show.seg) c.as_slice.ensures c.requires.op c.index-as_slice-at.is c.in-Show.is in
    did-show p.script p.devices.items p.half (c.args.at + 1) c.args.state.now.used old now (op_at p.script.ops c.args.at) c.in-Show.seg c.shown.result is c.shown.ensures

pub returns-in-Write-clause-ran : goal.returns-in-Write-clause-ran
returns-in-Write-clause-ran g c =
    let p = c.args.plan.now in
    let old : Sides = record { pool = c.args.state.now.pool; marks = c.args.state.now.marks.items } in
    let now : RigState = g.R.Rig.state c.args.rig.now in
    let is = op-is p.script.ops c.as_slice.result.now c.args.at c.index-as_slice-at.result (Write c.in-Write.v c.in-Write.n c.in-Write.body c.in-Write.app) c.as_slice.ensures c.requires.op c.index-as_slice-at.is c.in-Write.is in
    let new : Sides = record { pool = c.write_blocks.new.state.pool; marks = c.write_blocks.new.state.marks.items } in
    let after : RigState = g.R.Rig.state c.write_blocks.new.rig in
    subst (λ (op : Op). RanOp p.script p.devices.items p.half (c.args.at + 1) op old.pool c.args.state.now.used c.write_blocks.new.state.used now after (λ runs. IfOk c.write_blocks.result (DidOp p.script p.half (c.args.at + 1) op old new now after runs))) (sym is) c.write_blocks.ensures.ran

pub returns-in-Fetch-clause-ran : goal.returns-in-Fetch-clause-ran
returns-in-Fetch-clause-ran g c =
    let p = c.args.plan.now in
    let old : Sides = record { pool = c.args.state.now.pool; marks = c.args.state.now.marks.items } in
    let now : RigState = g.R.Rig.state c.args.rig.now in
    let is = op-is p.script.ops c.as_slice.result.now c.args.at c.index-as_slice-at.result (Fetch c.in-Fetch.v c.in-Fetch.n c.in-Fetch.body) c.as_slice.ensures c.requires.op c.index-as_slice-at.is c.in-Fetch.is in
    let new : Sides = record { pool = c.fetch_blocks.new.state.pool; marks = c.fetch_blocks.new.state.marks.items } in
    let after : RigState = g.R.Rig.state c.fetch_blocks.new.rig in
    subst (λ (op : Op). RanOp p.script p.devices.items p.half (c.args.at + 1) op old.pool c.args.state.now.used c.fetch_blocks.new.state.used now after (λ runs. IfOk c.fetch_blocks.result (DidOp p.script p.half (c.args.at + 1) op old new now after runs))) (sym is) c.fetch_blocks.ensures.ran

pub returns-in-Overwrite-clause-ran : goal.returns-in-Overwrite-clause-ran
returns-in-Overwrite-clause-ran g c =
    let p = c.args.plan.now in
    let old : Sides = record { pool = c.args.state.now.pool; marks = c.args.state.now.marks.items } in
    let now : RigState = g.R.Rig.state c.args.rig.now in
    let is = op-is p.script.ops c.as_slice.result.now c.args.at c.index-as_slice-at.result (Overwrite c.in-Overwrite.dev c.in-Overwrite.lba c.in-Overwrite.change) c.as_slice.ensures c.requires.op c.index-as_slice-at.is c.in-Overwrite.is in
    let after : RigState = g.R.Rig.state c.overwrite.new.rig in
    did-overwrite p.script p.devices.items p.half (c.args.at + 1) c.args.state.now.used old now after (op_at p.script.ops c.args.at) c.in-Overwrite.dev c.in-Overwrite.lba c.in-Overwrite.change c.overwrite.result is c.overwrite.ensures.reply c.overwrite.ensures.asked c.overwrite.ensures.made c.overwrite.ensures.tells

pub returns-in-Seal-clause-ran : goal.returns-in-Seal-clause-ran
returns-in-Seal-clause-ran g c =
    let p = c.args.plan.now in
    let old : Sides = record { pool = c.args.state.now.pool; marks = c.args.state.now.marks.items } in
    let now : RigState = g.R.Rig.state c.args.rig.now in
    let is = op-is p.script.ops c.as_slice.result.now c.args.at c.index-as_slice-at.result c.index-as_slice-at.result c.as_slice.ensures c.requires.op c.index-as_slice-at.is refl in
    did-idle p.script p.devices.items p.half (c.args.at + 1) c.args.state.now.used old now (op_at p.script.ops c.args.at) c.index-as_slice-at.result is c.in-Seal.is

pub returns-in-Overwrite-clause-ready : goal.returns-in-Overwrite-clause-ready
returns-in-Overwrite-clause-ready g c = can-still _ _ c.requires.ready c.requires.ready.few c.overwrite.ensures.tells c.overwrite.ensures.standing
