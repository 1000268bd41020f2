use Rattle.image_text.proofs.Back.{comes_back}
use Rattle.image_text.proofs.dumps_laws.a_dump_comes_back.Goals as goal

pub returns : goal.returns
returns c = comes_back
