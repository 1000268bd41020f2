use Rattle.std.proofs.Common.{refl}
use Rattle.block_path.proofs.ReadMoves.{own_read, read_in_two}
use Rattle.block_path.proofs.laws.a_read_in_two_moves.Goals as goal

pub returns-clause-one : goal.returns-clause-one
returns-clause-one c = λ s r owner to n now cells l z. let h = read_in_two s r owner to n now cells l z in record { bytes = h.0; blocks = refl; logs = refl; answer = h.1 }

pub returns-clause-own : goal.returns-clause-own
returns-clause-own c = λ s r owner body tuple n now h. own_read s r owner body tuple n now h
