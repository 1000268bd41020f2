use Rattle.std.proofs.Common.{◌≡◌, drop}
use Rattle.run_words.specs.Lies.{all_moved}
use Rattle.run_words.specs.Ledgers.{IsLaidOut, book_in}
use Rattle.run_words.proofs.Noting.{Seen}
use Rattle.run_words.proofs.ledger.Ledger.keep.Given as goal

abbrev pub invariant-loop-i : goal.invariant-loop-i
invariant-loop-i g l = record {
  laid : IsLaidOut l.self;
  book : book_in l.self ≡ book_in l.fn.self;
  seen : Seen l.self (g.R.Rig.state l.rig).log (all_moved l.fn.self.size (drop l.i (g.R.Rig.state l.rig).log)) (all_moved l.fn.self.size (drop l.fn.from (g.R.Rig.state l.rig).log));
}
