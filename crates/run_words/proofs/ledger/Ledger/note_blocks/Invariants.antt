use Rattle.std.proofs.Common.{◌≡◌, ◌+◌, ◌*◌, min}
use Rattle.run_words.specs.Ledgers.{IsLaidOut, book_in}
use Rattle.run_words.proofs.Noting.{Moves}
use Rattle.run_words.proofs.ledger.Ledger.note_blocks.Given as goal

abbrev pub invariant-loop-label : goal.invariant-loop-label
invariant-loop-label l = record {
  laid : IsLaidOut l.self;
  book : book_in l.self ≡ book_in l.fn.self;
  at : l.at ≡ l.label-index * l.frame;
  left : l.left + l.label-index ≡ min l.what.outcome.done l.fn.c.n;
  moves : Moves l.fn.self l.self l.number l.what l.labels l.frame (min l.what.outcome.done l.fn.c.n) l.label-index l.left l.at;
}
