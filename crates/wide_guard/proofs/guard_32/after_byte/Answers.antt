use Rattle.std.proofs.Common.{◌≡◌, ◌%◌}
use Rattle.std.specs.Prelude.{bit_and, bit_xor}
use Rattle.std.proofs.lemmas.Nat.{and_mask}
use Rattle.wide_guard.specs.Registers.{castagnoli}
use Rattle.wide_guard.proofs.Linear.{by_one}
use Rattle.wide_guard.proofs.guard_32.after_byte.Goals as goal

pub returns : goal.returns
returns c =
    let low : bit_and (bit_xor c.args.state c.args.byte) 255 ≡ bit_xor c.args.state c.args.byte % 256 = and_mask (bit_xor c.args.state c.args.byte) 8 in
    let one = by_one castagnoli c.args.state c.args.byte c.ranges.byte.fits in
    cc
