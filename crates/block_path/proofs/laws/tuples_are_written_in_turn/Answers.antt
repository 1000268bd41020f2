use Rattle.block_path.proofs.InTurn.{made_in_turn, mapped_in_turn}
use Rattle.block_path.proofs.laws.tuples_are_written_in_turn.Goals as goal

pub returns-clause-mapped : goal.returns-clause-mapped
returns-clause-mapped c = λ old new segs ty k n from to now whole lie once l same h. mapped_in_turn old new segs now whole lie once same ty k n from to l h

pub returns-clause-made : goal.returns-clause-made
returns-clause-made c = λ old new body segs size kind ty seed app n now whole lies lie once apart l same h. made_in_turn old new segs now whole lie once same body size kind ty seed app n lies apart l h
