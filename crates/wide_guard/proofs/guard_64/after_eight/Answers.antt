use Rattle.std.proofs.Common.{◌∙◌}
use Rattle.wide_guard.specs.Registers.{rocksoft}
use Rattle.wide_guard.proofs.Linear.{eight_with}
use Rattle.wide_guard.proofs.guard_64.after_eight.Goals as goal

pub returns : goal.returns
returns c =
    c.of_near_word.ensures
    ∙ eight_with rocksoft c.args.state c.from_le_bytes.result c.args.b.now c.from_le_bytes.type_inv c.told-b c.fits-b c.from_le_bytes.ensures
