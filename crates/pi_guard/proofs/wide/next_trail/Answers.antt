use Rattle.std.proofs.Common.{◌++◌, ap, ◌∙◌}
use Rattle.std.specs.Prelude.{bit_xor}
use lib.Lanes.{zip2}
use Rattle.pi_guard.specs.Trails.{after_128, wide_owed, wide_owed_by}
use Rattle.pi_guard.proofs.Debts.{followed_128}
use Rattle.pi_guard.proofs.wide.next_trail.Goals as goal

pub returns : goal.returns
unfolding wide_owed after_128
returns c r o =
    let x = c.args in
    ap (λ v. wide_owed_by (x.b ++ (x.c ++ (x.d ++ (x.e ++ (x.f ++ (x.g ++ (x.h ++ (zip2 bit_xor x.m v))))))))) c.owed_to.ensures
    ∙ followed_128 r x.a x.b x.c x.d x.e x.f x.g x.h x.m c.fits-a.0 c.fits-b.0 c.fits-c.0 c.fits-d.0 c.fits-e.0 c.fits-f.0 c.fits-g.0 c.fits-h.0 c.fits-m.0 o
