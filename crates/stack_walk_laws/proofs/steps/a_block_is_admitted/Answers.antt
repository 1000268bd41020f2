use Rattle.std.proofs.Common.{◌+◌}
use Rattle.run_laws.specs.BoundRun.{fates, rooms}
use Rattle.run_laws.specs.ScriptMoves.{own_at}
use Rattle.stack_walk_laws.specs.Gate.{place}
use Rattle.stack_walk_laws.proofs.Quietly.{made_quiet}
use Rattle.stack_walk_laws.proofs.Moving.{admitted}
use Rattle.stack_walk_laws.proofs.steps.a_block_is_admitted.Goals as goal

pub returns : goal.returns
returns c = λ m n s opening now old new es may e becomes h. admitted m n s opening now old new es may h e becomes (made_quiet m (own_at (n + rooms m s.front) (place s)) (fates s.front + place s) s.step)
