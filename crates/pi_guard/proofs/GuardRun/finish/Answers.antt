use Rattle.pi_guard.proofs.Runs.{crc_ends, ip_ends}
use Rattle.pi_guard.proofs.GuardRun.finish.Goals as goal

pub returns-in-Crc : goal.returns-in-Crc
returns-in-Crc c b h = crc_ends c.args.self.now b c.in-Crc.is h

pub returns-in-Ip : goal.returns-in-Ip
returns-in-Ip c b h = ip_ends c.args.self.now b c.in-Ip.is h
