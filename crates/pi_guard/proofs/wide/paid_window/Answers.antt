use Rattle.pi_guard.specs.Windows.{wide_register}
use Rattle.pi_guard.specs.Trails.{after_128}
use Rattle.pi_guard.proofs.Debts.{settled_128}
use Rattle.pi_guard.proofs.wide.paid_window.Goals as goal

pub returns : goal.returns
unfolding wide_register after_128
returns c r o =
    let x = c.args in
    rw (c.owed_to.ensures, c.owed_to-2.ensures, c.owed_to-3.ensures, c.owed_to-4.ensures, c.owed_to-5.ensures, c.owed_to-6.ensures, c.owed_to-7.ensures, c.owed_to-8.ensures)
    (settled_128 r x.a x.b x.c x.d x.e x.f x.g x.h x.m1 x.m2 x.m3 x.m4 x.m5 x.m6 x.m7 x.m8 c.fits-a.0 c.fits-b.0 c.fits-c.0 c.fits-d.0 c.fits-e.0 c.fits-f.0 c.fits-g.0 c.fits-h.0 c.fits-m1.0 c.fits-m2.0 c.fits-m3.0 c.fits-m4.0 c.fits-m5.0 c.fits-m6.0 c.fits-m7.0 c.fits-m8.0 o)
