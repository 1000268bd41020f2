use Rattle.std.proofs.Common.{◌++◌, ap, ◌∙◌}
use Rattle.std.specs.Prelude.{bit_xor}
use lib.Lanes.{zip2}
use Rattle.pi_guard.specs.Trails.{after_64, owed, owed_by}
use Rattle.pi_guard.proofs.Debts.{followed_64}
use Rattle.pi_guard.proofs.narrow.next_trail.Goals as goal

pub returns : goal.returns
unfolding owed after_64
returns c r h =
    let a = c.args in
    ap (λ v. owed_by (a.b ++ (a.c ++ (a.d ++ zip2 bit_xor a.m v)))) c.owed_to.ensures
    ∙ followed_64 r a.a a.b a.c a.d a.m c.fits-a.0 c.fits-b.0 c.fits-c.0 c.fits-d.0 c.fits-m.0 h
