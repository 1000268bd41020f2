use Rattle.std.proofs.Common.{◌∙◌}
use Rattle.pi_guard.proofs.Nibbles.{by_48, by_32, by_16}
use Rattle.pi_guard.proofs.Closing.{closes}
use Rattle.pi_guard.proofs.halves.register_of_window.Goals as goal

pub returns : goal.returns
returns c =
    let a = c.args in
    c.register_of_pair.ensures
    ∙ rw (c.folded_in-a1.ensures, c.folded_in-b1.ensures, c.folded_in-c1.ensures, c.folded_in-a2.ensures, c.folded_in-b2.ensures, c.folded_in-c2.ensures)
    (closes _ _ _ _ _ _ by_48 by_32 by_16 a.a a.b a.c a.d c.fits-a c.fits-b c.fits-c c.fits-d.0)
