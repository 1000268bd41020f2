use Rattle.std.proofs.Common.{◌≡◌, ◌≤◌, ◌+◌, ◌-◌, length}
use Rattle.report_text.proofs.Written.{Writing}
use Rattle.run_words.specs.Ledgers.{book_in, moved_in}
use Rattle.run_words.specs.Unseen.{op_lines, unseen_ops}
use Rattle.run_words.proofs.Spots.{ends_of}
use Rattle.run_words.proofs.unseen.print_ops.Given as goal

abbrev pub invariant-loop-i : goal.invariant-loop-i
invariant-loop-i g l =
    let b = book_in l.ledger in
    let moved = moved_in l.ledger (g.R.Rig.state l.rig).log in
    let n = length l.ledger.asked.items in
    record {
      writing : Writing (g.O.Sink.taken) (g.O.Sink.faults) (op_lines l.guide.sites.items l.guide.entries b moved l.replies 0 n) (op_lines l.guide.sites.items l.guide.entries b moved l.replies l.i (n - l.i)) l.initial.out l.out;
      count : unseen_ops b moved l.replies 0 n ≡ l.unseen + unseen_ops b moved l.replies l.i (n - l.i);
      few : l.unseen ≤ ends_of l.ledger.asked.items l.i;
    }
