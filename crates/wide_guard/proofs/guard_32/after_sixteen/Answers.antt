use Rattle.std.proofs.Common.{ap, ◌∙◌}
use Rattle.std.specs.Prelude.{bit_xor}
use Rattle.wide_guard.specs.Registers.{after_16, castagnoli}
use Rattle.wide_guard.proofs.Linear.{sixteen_with}
use Rattle.wide_guard.proofs.guard_32.after_sixteen.Goals as goal

pub returns : goal.returns
returns c =
    ap (λ v. bit_xor v c.of_near_word-near.result) (c.of_far_word.ensures ∙ ap (λ v. after_16 castagnoli (bit_xor c.first_word.result v)) c.from.ensures)
    ∙ ap (bit_xor (after_16 castagnoli (bit_xor c.first_word.result c.args.state))) c.of_near_word-near.ensures
    ∙ sixteen_with castagnoli c.args.state c.first_word.result c.last_word.result c.args.b.now c.first_word.type_inv c.last_word.type_inv c.told-b c.fits-b c.first_word.ensures c.last_word.ensures
