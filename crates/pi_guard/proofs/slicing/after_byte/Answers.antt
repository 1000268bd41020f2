use Rattle.std.proofs.Common.{◌≡◌, ◌%◌}
use Rattle.std.specs.Prelude.{bit_and}
use Rattle.std.proofs.lemmas.Nat.{and_mask}
use Rattle.pi_guard.proofs.Linear.{by_one}
use Rattle.pi_guard.proofs.slicing.after_byte.Goals as goal

pub returns : goal.returns
returns c =
    let low : bit_and c.args.state 255 ≡ c.args.state % 256 = and_mask c.args.state 8 in
    let one = by_one c.args.state c.args.byte c.ranges.state.fits in
    cc
