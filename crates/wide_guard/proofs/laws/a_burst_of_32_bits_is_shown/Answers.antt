use Rattle.wide_guard.proofs.Bursts.{burst_32}
use Rattle.wide_guard.proofs.laws.a_burst_of_32_bits_is_shown.Goals as goal

pub returns : goal.returns
returns c = burst_32
