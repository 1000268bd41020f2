use Rattle.std.proofs.Common.{◌+◌, get_or}
use Rattle.block_path.specs.Acts.{act, tell}
use Rattle.block_path.specs.Blocks.{silent}
use Rattle.block_path.specs.Moves.{first_why}
use Rattle.block_path.specs.Serial.{plain_tells}
use Rattle.run_laws.specs.BoundRun.{fates, rooms}
use Rattle.run_laws.specs.ScriptMoves.{own_at}
use Rattle.stack_walk_laws.specs.Gate.{parts_at, place}
use Rattle.stack_walk_laws.proofs.Quietly.{listed_as, settled_quiet}
use Rattle.stack_walk_laws.proofs.Moving.{settled}
use Rattle.stack_walk_laws.proofs.steps.a_block_is_settled.Goals as goal

pub returns : goal.returns
returns c = λ m n s opening now old new es fate may e becomes h.
    settled m n s opening now old new es may h fate (first_why fate (get_or (plain_tells act tell (parts_at m n s).settled now) 0 silent).why) e becomes
    (settled_quiet m (own_at (n + rooms m s.front) (place s)) (fates s.front + place s) s.step)
    (λ here l f. listed_as m (own_at (n + rooms m s.front) (place s)) (fates s.front + place s) s.step now fate here l f)
