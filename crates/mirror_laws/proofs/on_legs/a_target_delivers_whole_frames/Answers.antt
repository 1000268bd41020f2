use Rattle.mirror_laws.proofs.Sizes.{delivers_whole}
use Rattle.mirror_laws.proofs.on_legs.a_target_delivers_whole_frames.Goals as goal

pub returns : goal.returns
returns c = λ m half opening blocks legs sizes kept. delivers_whole m half opening legs sizes blocks kept
