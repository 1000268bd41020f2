use Rattle.std.proofs.Common.{◌≡◌, ◌≤◌, length}
use Rattle.run_words.specs.Ledgers.{book_in, moved_in}
use Rattle.run_words.specs.Lies.{lie_in}
use Rattle.run_words.proofs.ledger.Ledger.lie_in.Given as goal

abbrev pub invariant-loop-i : goal.invariant-loop-i
invariant-loop-i g l = record {
  within : l.i ≤ length l.self.asked.items;
  same : lie_in (book_in l.self) (moved_in l.self (g.R.Rig.state l.rig).log) l.replies l.came l.v l.i ≡ lie_in (book_in l.self) (moved_in l.self (g.R.Rig.state l.rig).log) l.replies l.came l.v l.initial.i;
}

abbrev pub decreases-loop-i : goal.decreases-loop-i
decreases-loop-i g l = l.i
