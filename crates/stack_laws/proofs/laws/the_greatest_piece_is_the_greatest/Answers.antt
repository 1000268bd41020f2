use Rattle.stack_laws.specs.Pieces.{fits, longest}
use Rattle.stack_laws.proofs.Keeps.{cut-some, cut-within}
use Rattle.stack_laws.proofs.Greatest.{greatest-passes, greatest-is}
use Rattle.stack_laws.proofs.laws.the_greatest_piece_is_the_greatest.Goals as goal

pub returns : goal.returns
returns c = record {
  within = λ p i k l f. greatest-passes (fits p i k) (longest p i k) l f;
  greatest = λ p i k n l f. greatest-is (fits p i k) (longest p i k) n l f;
  cut = λ c n h. (cut-some c n h, cut-within c n h);
}
