use Rattle.mirror_laws.proofs.Repaired.{mirror_repaired}
use Rattle.mirror_laws.proofs.a_repair_makes_both_legs_equal.Goals as goal

pub returns : goal.returns
returns c = λ m devices half ops opening run bytes. mirror_repaired m devices half ops opening run bytes
