use Rattle.std.proofs.Common.{◌≡◌, ◌≤◌, ◌+◌, ◌-◌}
use Rattle.report_text.proofs.Written.{Writing}
use Rattle.run_words.specs.Ledgers.{book_in, moved_in}
use Rattle.run_words.specs.Lies.{request_in}
use Rattle.run_words.specs.Unseen.{block_lines, unseen_blocks}
use Rattle.run_words.proofs.unseen.print_op.Given as goal

abbrev pub invariant-loop-k : goal.invariant-loop-k
invariant-loop-k g l =
    let b = book_in l.ledger in
    let moved = moved_in l.ledger (g.R.Rig.state l.rig).log in
    let n = (request_in l.ledger.asked.items l.i).count in
    record {
      writing : Writing (g.O.Sink.taken) (g.O.Sink.faults) (block_lines l.guide.sites.items l.guide.entries b moved l.replies l.i 0 n) (block_lines l.guide.sites.items l.guide.entries b moved l.replies l.i l.k (n - l.k)) l.initial.out l.out;
      count : unseen_blocks b moved l.replies l.i 0 n ≡ l.unseen + unseen_blocks b moved l.replies l.i l.k (n - l.k);
      few : l.unseen ≤ l.k;
    }
