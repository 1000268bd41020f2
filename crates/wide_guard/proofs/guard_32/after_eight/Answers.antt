use Rattle.std.proofs.Common.{ap, ◌∙◌}
use Rattle.std.specs.Prelude.{bit_xor}
use Rattle.wide_guard.specs.Registers.{after_8, castagnoli}
use Rattle.wide_guard.proofs.Linear.{eight_with}
use Rattle.wide_guard.proofs.guard_32.after_eight.Goals as goal

pub returns : goal.returns
returns c =
    c.of_near_word.ensures ∙ ap (λ v. after_8 castagnoli (bit_xor c.from_le_bytes.result v)) c.from.ensures
    ∙ eight_with castagnoli c.args.state c.from_le_bytes.result c.args.b.now c.from_le_bytes.type_inv c.told-b c.fits-b c.from_le_bytes.ensures
