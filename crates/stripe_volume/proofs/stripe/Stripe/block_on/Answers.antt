use Rattle.std.proofs.Common.{◌<◌, ◌+◌, arith}
use Rattle.stripe_volume.proofs.Places.{found, lies_there}
use Rattle.stripe_volume.proofs.stripe.Stripe.block_on.Goals as goal

-- the block is below the extent's end
in_extent : (c : goal.After-from-chunk) → found c.args.self.now c.args.i c.args.lba < c.args.self.now.start + c.args.self.now.len
in_extent c = (lies_there c.args.self.now c.args.i _ c.args.lba c.requires.legs c.requires.whole c.requires.has).0.1

pub overflow_mul-result-2 : goal.overflow_mul-result-2
overflow_mul-result-2 c = rw (c.as_slice-legs.ensures, c.from-chunk.ensures) (omega (arith, in_extent c))

pub overflow_add-result-2 : goal.overflow_add-result-2
overflow_add-result-2 c = rw (c.as_slice-legs.ensures, c.from-chunk.ensures) (omega (arith, in_extent c))

pub overflow_add-result-3 : goal.overflow_add-result-3
overflow_add-result-3 c = rw (c.as_slice-legs.ensures, c.from-chunk.ensures) (omega (arith, in_extent c))

pub returns : goal.returns
returns c = rw (c.as_slice-legs.ensures, c.from-chunk.ensures) (lies_there c.args.self.now c.args.i _ c.args.lba c.requires.legs c.requires.whole c.requires.has)
