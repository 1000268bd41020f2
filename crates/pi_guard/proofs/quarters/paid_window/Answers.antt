use Rattle.std.proofs.Common.{replicate, refl, lit≤}
use Rattle.pi_guard.specs.Trails.{after_128}
use Rattle.pi_guard.specs.Broad.{four_register}
use Rattle.pi_guard.proofs.Debts.{settled_four}
use Rattle.pi_guard.proofs.quarters.paid_window.Goals as goal

pub returns : goal.returns
unfolding four_register after_128
returns c r h =
    let a = c.args in
    rw (c.owed_to.ensures, c.owed_to-2.ensures, c.owed_to-3.ensures, c.owed_to-4.ensures)
    (settled_four 32 128 24 16 2 r (replicate 32 0) a.a a.b a.c a.d a.m a.n a.o a.p (lit≤ tt) (lit≤ tt) (lit≤ tt) refl refl refl c.fits-a.0 c.fits-b.0 c.fits-c.0 c.fits-d.0 c.fits-m.0 c.fits-n.0 c.fits-o.0 c.fits-p.0 h)
