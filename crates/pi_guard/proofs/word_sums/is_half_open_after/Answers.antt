use Rattle.pi_guard.proofs.Sums.{by_parity}
use Rattle.pi_guard.proofs.word_sums.is_half_open_after.Goals as goal

pub returns : goal.returns
returns c = by_parity c.args.half_open c.args.part.now
