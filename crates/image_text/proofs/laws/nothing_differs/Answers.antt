use Rattle.image_text.proofs.Differing.{nothing_differs}
use Rattle.image_text.proofs.laws.nothing_differs.Goals as goal

pub returns : goal.returns
returns c = nothing_differs
