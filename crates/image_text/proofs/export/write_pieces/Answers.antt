use Rattle.std.proofs.Common.{◌≡◌, ◌-◌, ap, arith}
use Rattle.rig_api.specs.Frames.{frames_of, stored_size}
use Rattle.image_text.specs.Dumps.{dump_of}
use Rattle.report_text.proofs.Written.{as_left, begins, breaks, ends, writes}
use Rattle.image_text.proofs.Dumping.{dump_at}
use Rattle.image_text.proofs.Frames.{shorter}
use Rattle.image_text.proofs.export.write_pieces.Goals as goal

pub loop-left-init : goal.loop-left-init
loop-left-init g c = record { pieces = begins; long = c.requires }

pub returns-in_err-write_all : goal.returns-in_err-write_all
returns-in_err-write_all g c =
    let u = c.args.unit in
    let len = stored_size u.ty u.size in
    let rest = dump_of c.args.layout u.size (frames_of len (c.loop-left.left - 1) c.split_at.result.1.now) in
    let next = dump_at c.args.layout u.size len c.stored_len.result c.loop-left.left c.loop-left.rest.now c.split_at.result.0.now c.split_at.result.1.now c.piece_of.result.now
    c.stored_len.ensures c.split_at.ensures.front c.split_at.ensures.back c.piece_of.ensures c.loop-left-test.true in
    breaks rest c.from_residual.result c.from_residual.ensures.0 (as_left next c.loop-left.invariant.pieces) c.in_err-write_all.ensures

pub loop-left-preserved : goal.loop-left-preserved
loop-left-preserved g c =
    let u = c.args.unit in
    let len = stored_size u.ty u.size in
    let next = dump_at c.args.layout u.size len c.stored_len.result c.loop-left.left c.loop-left.rest.now c.split_at.result.0.now c.split_at.result.1.now c.piece_of.result.now
    c.stored_len.ensures c.split_at.ensures.front c.split_at.ensures.back c.piece_of.ensures c.loop-left-test.true in
    record {
      pieces = writes (as_left next c.loop-left.invariant.pieces) c.in_ok-write_all.ensures;
      long = shorter c.loop-left.left len c.stored_len.result c.loop-left.rest.now c.split_at.result.1.now c.loop-left-test.true c.loop-left.invariant.long c.stored_len.ensures c.split_at.ensures.back;
    }

pub returns : goal.returns
returns g c =
    let none : c.loop-left.left ≡ 0 = omega (arith, c.loop-left-test.false) in
    ends c.loop-left.invariant.pieces (ap (λ n. dump_of c.args.layout c.args.unit.size (frames_of (stored_size c.args.unit.ty c.args.unit.size) n c.loop-left.rest.now)) none)
