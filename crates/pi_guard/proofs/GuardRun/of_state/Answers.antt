use Rattle.std.proofs.Common.{refl}
use Rattle.pi_guard.specs.Stands.{kind_of}
use Rattle.pi_guard.proofs.Runs.{stands_again}
use Rattle.pi_guard.proofs.GuardRun.of_state.Goals as goal

pub returns-clause-kind : goal.returns-clause-kind
unfolding kind_of
returns-clause-kind c = refl

pub returns-clause-same : goal.returns-clause-same
returns-clause-same c b h = stands_again c.args.state _ b refl refl refl refl h
