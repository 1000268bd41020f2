use Rattle.run_laws.proofs.BlocksApart.{blocks_apart}
use Rattle.run_laws.proofs.gate.blocks_of_a_request_have_no_moves_that_conflict.Goals as goal

pub returns : goal.returns
returns c = λ m bytes from fate i op before b after one front placed spread e. blocks_apart m bytes one from fate i front op placed spread before b after e
