use Rattle.std.proofs.Common.{◌+◌, ◌<◌, length, arith}
use Rattle.report_text.proofs.Written.{as_left, breaks, writes}
use Rattle.run_words.specs.Ledgers.{book_in, moved_in}
use Rattle.run_words.proofs.Printing.{few_all, few_more, next_many, next_op}
use Rattle.run_words.proofs.unseen.print_ops.Goals as goal

pub returns-in_err-unseen-clause-wrote : goal.returns-in_err-unseen-clause-wrote
returns-in_err-unseen-clause-wrote g c =
    let n = length c.args.ledger.now.asked.items in
    let here : c.loop-i.i < n = omega (arith, c.loop-i-test.true, c.args.ledger.now.asked.ok) in
    let next = next_op c.args.guide.now.sites.items c.args.guide.now.entries (book_in c.args.ledger.now) (moved_in c.args.ledger.now (g.R.Rig.state c.args.rig.now).log) c.args.replies.now c.loop-i.i n here in
    breaks _ c.from_residual.result c.from_residual.ensures.0 (as_left next c.loop-i.invariant.writing) c.in_err-unseen.ensures.wrote

pub overflow_add-unseen : goal.overflow_add-unseen
overflow_add-unseen g c =
    let more = few_more c.args.ledger.now c.loop-i.i c.loop-i.unseen c.in_ok-unseen.field-0 c.requires.kept.laid c.loop-i.invariant.few c.in_ok-unseen.ensures.bound in
    let all = few_all c.args.ledger.now (c.loop-i.i + 1) c.requires.kept.laid in
    omega (arith, more, all)

pub loop-i-preserved : goal.loop-i-preserved
loop-i-preserved g c =
    let n = length c.args.ledger.now.asked.items in
    let moved = moved_in c.args.ledger.now (g.R.Rig.state c.args.rig.now).log in
    let b = book_in c.args.ledger.now in
    let here : c.loop-i.i < n = omega (arith, c.loop-i-test.true, c.args.ledger.now.asked.ok) in
    let next = next_op c.args.guide.now.sites.items c.args.guide.now.entries b moved c.args.replies.now c.loop-i.i n here in
    let many = next_many b moved c.args.replies.now c.loop-i.i n here in
    let count = c.in_ok-unseen.ensures.count in
    record {
      writing = writes (as_left next c.loop-i.invariant.writing) c.in_ok-unseen.ensures.wrote;
      count = omega (arith, c.loop-i.invariant.count, many, count);
      few = few_more c.args.ledger.now c.loop-i.i c.loop-i.unseen c.in_ok-unseen.field-0 c.requires.kept.laid c.loop-i.invariant.few c.in_ok-unseen.ensures.bound;
    }
