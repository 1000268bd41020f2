use Rattle.std.proofs.Common.{◌≡◌, ◌≤◌, ◌<◌, ◌+◌, ◌-◌, ◌^◌, suc, drop, min, refl, sym, subst, ◌∙◌, arith}
use Rattle.std.proofs.lemmas.List.{drop_all}
use Rattle.run_words.proofs.Noting.{Moves, begins, fits, goes_on, no_blocks, no_labels, no_less, noted_all, same_size}
use Rattle.run_words.proofs.ledger.Ledger.note_blocks.Goals as goal

pub overflow_add-at : goal.overflow_add-at
overflow_add-at c =
    let few = c.min-left.type_inv in
    let sum = c.loop-label.invariant.left in
    let bound = c.sent_size-frame.ensures.bound in
    let small : c.loop-label.at + c.sent_size-frame.result < 2 ^ 64 = fits c.loop-label.label-index c.sent_size-frame.result c.loop-label.at c.args.self.now.size c.loop-label.invariant.at (omega (arith, few, sum, c.min-left.ensures, c.if-left-eq0.false)) c.requires.laid.size (omega (arith, bound)) in
    omega (arith, small)

pub loop-label-init : goal.loop-label-init
loop-label-init c = record {
  laid = c.requires.laid;
  book = refl;
  at = omega arith;
  left = omega (arith, c.min-left.ensures);
  moves = subst (λ n. Moves c.args.self.now c.args.self.now c.args.number c.args.what.now c.args.labels.now c.sent_size-frame.result n 0 c.min-left.result 0) c.min-left.ensures (begins c.args.self.now c.args.number c.args.what.now c.args.labels.now c.sent_size-frame.result c.min-left.result);
}

pub loop-label-preserved : goal.loop-label-preserved
loop-label-preserved c =
    let book = c.note.ensures.book in
    let size = same_size c.loop-label.self c.args.self.now c.loop-label.invariant.book in
    let big = subst (λ n. n ≤ c.sent_size-frame.result) (sym size) (subst (λ n. c.args.self.now.size ≤ n) (sym c.sent_size-frame.ensures.value) (no_less c.args.c.protect c.args.self.now.size)) in
    let some : c.loop-label.left ≡ suc (c.loop-label.left - 1) = omega (arith, c.if-left-eq0.false) in
    record {
      laid = c.note.ensures.laid;
      book = book ∙ c.loop-label.invariant.book;
      at = grind (arith, c.loop-label.invariant.at);
      left = omega (arith, c.loop-label.invariant.left, c.if-left-eq0.false);
      moves = goes_on c.args.self.now c.loop-label.self c.note.new.self c.args.number c.args.what.now c.args.labels.now c.sent_size-frame.result (min c.args.what.now.outcome.done c.args.c.n) c.loop-label.label-index (c.loop-label.left - 1) c.loop-label.left c.loop-label.at _ c.loop-label.invariant.laid big c.loop-label-test.true some
          book c.note.ensures.spots c.loop-label.invariant.moves;
    }

pub returns-then-left-eq0 : goal.returns-then-left-eq0
returns-then-left-eq0 c =
    noted_all c.args.self.now c.loop-label.self c.args.number c.args.what.now c.args.c c.args.labels.now c.sent_size-frame.result c.loop-label.label-index c.loop-label.left c.loop-label.at c.sent_size-frame.ensures.value c.loop-label.invariant.laid c.loop-label.invariant.book
    (no_blocks c.sent_size-frame.result (drop c.loop-label.label-index c.args.labels.now) c.loop-label.left c.if-left-eq0.true) c.loop-label.invariant.moves

pub returns : goal.returns
returns c =
    noted_all c.args.self.now c.loop-label.self c.args.number c.args.what.now c.args.c c.args.labels.now c.sent_size-frame.result c.loop-label.label-index c.loop-label.left c.loop-label.at c.sent_size-frame.ensures.value c.loop-label.invariant.laid c.loop-label.invariant.book
    (no_labels c.sent_size-frame.result (drop c.loop-label.label-index c.args.labels.now) c.loop-label.left (drop_all c.loop-label.label-index c.args.labels.now c.loop-label-test.false)) c.loop-label.invariant.moves
