use Rattle.std.proofs.Common.{refl}
use Rattle.pi_guard.specs.Stands.{kind_of}
use Rattle.pi_guard.proofs.Runs.{crc_more, ip_more}
use Rattle.pi_guard.proofs.GuardRun.update.Goals as goal

pub returns-in-Crc-clause-kind : goal.returns-in-Crc-clause-kind
unfolding kind_of
returns-in-Crc-clause-kind c = refl

pub returns-in-Crc-clause-more : goal.returns-in-Crc-clause-more
returns-in-Crc-clause-more c b h = crc_more c.args.self.now _ b c.args.part.now c.in-Crc.is refl c.register_after-self.ensures h

pub returns-in-Ip-clause-kind : goal.returns-in-Ip-clause-kind
unfolding kind_of
returns-in-Ip-clause-kind c = refl

pub returns-in-Ip-clause-more : goal.returns-in-Ip-clause-more
returns-in-Ip-clause-more c b h = ip_more c.args.self.now _ b c.args.part.now c.in-Ip.is refl c.sum_after-self.ensures c.is_half_open_after-self.ensures h
