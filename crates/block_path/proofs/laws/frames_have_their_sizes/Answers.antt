use Rattle.block_path.proofs.Sizes.{filled, in_size, mapped_sizes, out_size}
use Rattle.block_path.proofs.laws.frames_have_their_sizes.Goals as goal

pub returns-clause-out : goal.returns-clause-out
returns-clause-out c = λ faults r frame l. out_size faults r frame l

pub returns-clause-inward : goal.returns-clause-inward
returns-clause-inward c = λ faults r frame l. in_size faults r frame l

pub returns-clause-mapped : goal.returns-clause-mapped
returns-clause-mapped c = λ r frame l. mapped_sizes r frame l

pub returns-clause-fills : goal.returns-clause-fills
returns-clause-fills c = λ faults device r stored to l k. filled faults r to (device.sends r stored) l k
