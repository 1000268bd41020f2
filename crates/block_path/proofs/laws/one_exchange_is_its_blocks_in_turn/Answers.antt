use Rattle.block_path.specs.Acts.{act, conflict, tell}
use Rattle.block_path.proofs.Acts.{commutes}
use Rattle.block_path.proofs.Serial.{at_once}
use Rattle.block_path.proofs.laws.one_exchange_is_its_blocks_in_turn.Goals as goal

pub returns : goal.returns
returns g c = λ acts now h. at_once act tell conflict commutes acts now h
