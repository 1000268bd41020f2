use Rattle.std.proofs.Common.{refl}
use Rattle.pi_guard.specs.Stands.{kind_of}
use Rattle.pi_guard.proofs.Runs.{stands_new}
use Rattle.pi_guard.proofs.GuardRun.new.Goals as goal

pub returns-clause-kind : goal.returns-clause-kind
unfolding kind_of
returns-clause-kind c = refl

pub returns-clause-none : goal.returns-clause-none
returns-clause-none c = stands_new c.args.kind _ refl refl refl refl
