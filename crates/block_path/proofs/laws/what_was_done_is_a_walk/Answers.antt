use Rattle.block_path.specs.Acts.{act, conflict, tell}
use Rattle.block_path.proofs.Acts.{commutes}
use Rattle.block_path.proofs.Serial.{any_order}
use Rattle.block_path.proofs.laws.what_was_done_is_a_walk.Goals as goal

pub returns : goal.returns
returns g c = λ acts places before after done l. let h = any_order act tell conflict commutes acts places before done after l in (h.state, h.answers)
