use Rattle.run_laws.proofs.BlocksApart.{shifted_apart, still_apart}
use Rattle.run_laws.proofs.gate.blocks_of_a_request_are_stored_apart.Goals as goal

pub returns-clause-still : goal.returns-clause-still
returns-clause-still c = λ m i v n one s w. still_apart m i v n one s w

pub returns-clause-shifted : goal.returns-clause-shifted
returns-clause-shifted c = λ m devices image i v n lies cells w on. shifted_apart m devices image i v n lies cells w on
