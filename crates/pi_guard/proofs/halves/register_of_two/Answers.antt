use Rattle.std.proofs.Common.{◌∙◌}
use Rattle.pi_guard.proofs.Nibbles.{by_16}
use Rattle.pi_guard.proofs.Closing.{two_close}
use Rattle.pi_guard.proofs.halves.register_of_two.Goals as goal

pub returns : goal.returns
returns c =
    let a = c.args in
    c.register_of_pair.ensures
    ∙ rw (c.folded_in-upper.ensures, c.folded_in-lower.ensures)
    (two_close _ _ by_16 a.a a.b c.fits-a c.fits-b.0)
