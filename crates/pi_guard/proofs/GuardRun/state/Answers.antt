use Rattle.std.proofs.Common.{refl}
use Rattle.pi_guard.specs.Stands.{kind_of}
use Rattle.pi_guard.proofs.Runs.{crc_kept, ip_kept}
use Rattle.pi_guard.proofs.GuardRun.state.Goals as goal
use Rattle.pi_guard.proofs.GuardRun.state.Goals.{in-Crc, in-Ip}

pub returns-clause-kind : goal.returns-clause-kind
unfolding kind_of
returns-clause-kind c = refl

pub returns-clause-same : goal.returns-clause-same
returns-clause-same c b h = elim c.match-self.branch [
  | in-Crc w ↦ crc_kept c.args.self.now _ b w.in-Crc.is refl w.value-is h
  | in-Ip w ↦ ip_kept c.args.self.now _ b w.in-Ip.is refl w.value-is refl h
]
