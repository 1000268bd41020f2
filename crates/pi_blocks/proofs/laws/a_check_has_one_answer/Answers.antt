use Rattle.pi_blocks.proofs.Checks.{one_answer}
use Rattle.pi_blocks.proofs.laws.a_check_has_one_answer.Goals as goal

pub returns : goal.returns
returns c = one_answer
