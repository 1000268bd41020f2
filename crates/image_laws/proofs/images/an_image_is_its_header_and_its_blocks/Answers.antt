use Rattle.image_laws.proofs.Cut.{image_is_cut}
use Rattle.image_laws.proofs.images.an_image_is_its_header_and_its_blocks.Goals as goal

pub returns : goal.returns
returns c = λ image h. image_is_cut image h
