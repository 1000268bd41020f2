use Rattle.std.proofs.Common.{ℕ, ◌≡◌, ◌-◌, ◌<◌, List, ap, ◌∙◌, arith}
use Rattle.report_text.proofs.Written.{as_left, begins, breaks, writes}
use Rattle.run_words.specs.Ledgers.{book_in, moved_in}
use Rattle.run_words.specs.Lies.{lie_at, request_in}
use Rattle.run_words.specs.Unseen.{block_lines, unseen_blocks}
use Rattle.run_words.specs.declared.asked.Asked.{Asked}
use Rattle.run_words.proofs.Printing.{next_block, next_one, one_at_most}
use Rattle.run_words.proofs.unseen.print_op.Goals as goal

same_count : (asked items : List Asked) (i : ℕ) (one : Asked) → one ≡ request_in asked i → asked ≡ items → one.count ≡ (request_in items i).count
same_count asked items i one e f = ap (λ (x : Asked). x.count) e ∙ ap (λ (xs : List Asked). (request_in xs i).count) f

pub loop-k-init : goal.loop-k-init
loop-k-init g c =
    let n = (request_in c.args.ledger.now.asked.items c.args.i).count in
    let moved = moved_in c.args.ledger.now (g.R.Rig.state c.args.rig.now).log in
    let b = book_in c.args.ledger.now in
    let whole : n ≡ n - 0 = omega arith in
    record {
      writing = as_left (ap (block_lines c.args.guide.now.sites.items c.args.guide.now.entries b moved c.args.replies.now c.args.i 0) whole) begins;
      count = let same = ap (unseen_blocks b moved c.args.replies.now c.args.i 0) whole in omega (arith, same);
      few = omega arith;
    }

pub returns-in_err-unseen-clause-wrote : goal.returns-in_err-unseen-clause-wrote
returns-in_err-unseen-clause-wrote g c =
    let n = (request_in c.args.ledger.now.asked.items c.args.i).count in
    let here : c.loop-k.k < n = let e = same_count c.as_slice.result.now c.args.ledger.now.asked.items c.args.i c.request_in-asked.result c.request_in-asked.ensures c.as_slice.ensures.value in omega (arith, e, c.loop-k-test.true) in
    let next = next_block c.args.guide.now.sites.items c.args.guide.now.entries (book_in c.args.ledger.now) (moved_in c.args.ledger.now (g.R.Rig.state c.args.rig.now).log) c.args.replies.now c.args.i c.loop-k.k n here in
    breaks _ c.from_residual.result c.from_residual.ensures.0 (as_left next c.loop-k.invariant.writing) c.in_err-unseen.ensures.wrote

pub loop-k-preserved : goal.loop-k-preserved
loop-k-preserved g c =
    let n = (request_in c.args.ledger.now.asked.items c.args.i).count in
    let moved = moved_in c.args.ledger.now (g.R.Rig.state c.args.rig.now).log in
    let b = book_in c.args.ledger.now in
    let here : c.loop-k.k < n = let e = same_count c.as_slice.result.now c.args.ledger.now.asked.items c.args.i c.request_in-asked.result c.request_in-asked.ensures c.as_slice.ensures.value in omega (arith, e, c.loop-k-test.true) in
    let next = next_block c.args.guide.now.sites.items c.args.guide.now.entries b moved c.args.replies.now c.args.i c.loop-k.k n here in
    let one = next_one b moved c.args.replies.now c.args.i c.loop-k.k n here in
    let is_one = c.in_ok-unseen.ensures.count in
    record {
      writing = writes (as_left next c.loop-k.invariant.writing) c.in_ok-unseen.ensures.wrote;
      count = omega (arith, c.loop-k.invariant.count, one, is_one);
      few = let most = one_at_most (lie_at b moved c.args.replies.now c.args.i c.loop-k.k) in omega (arith, c.loop-k.invariant.few, is_one, most);
    }
