use Rattle.std.proofs.Common.{◌≡◌, ◌∙◌, get_or, false, arith}
use Rattle.std.proofs.lemmas.List.{get_or_read, take_all}
use Rattle.stack_ops.specs.declared.op.Op.TheVariants.{Wait}
use Rattle.stack_ops.specs.Footprints.{footprint}
use Rattle.stack_walk_laws.specs.Sheets.{prints_of}
use Rattle.stack_walk_laws.proofs.Gates.{length-prints}
use Rattle.stack_core.proofs.Listing.{prints-more}
use Rattle.stack_core.proofs.start.footprints.Goals as goal

pub loop-i-preserved : goal.loop-i-preserved
loop-i-preserved c =
    let ops = c.args.ops.now in
    let shifted = c.args.shifted.now in
    let i = c.loop-i.i in
    let e = prints-more ops shifted i c.requires.count c.loop-i-test.true in
    let g = get_or_read ops i c.index-ops-i.result c.loop-i-test.true c.index-ops-i.is Wait in
    let f : c.in_ok-footprint_of.field-0 ≡ footprint c.index-ops-i.result (get_or shifted i false) = c.in_ok-footprint_of.ensures in
    let p = c.push_reserved.ensures.items in
    let h = c.loop-i.invariant.prints in
    record { prints = cc; room = omega arith }

pub returns : goal.returns
returns c =
    let ops = c.args.ops.now in
    let shifted = c.args.shifted.now in
    let n = length-prints ops shifted in
    c.loop-i.invariant.prints ∙ take_all c.loop-i.i (prints_of ops shifted) (omega arith)
