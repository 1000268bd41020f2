use Rattle.pi_guard.specs.Windows.{window_register}
use Rattle.pi_guard.specs.Trails.{after_64}
use Rattle.pi_guard.proofs.Debts.{settled_64}
use Rattle.pi_guard.proofs.narrow.paid_window.Goals as goal

pub returns : goal.returns
unfolding window_register after_64
returns c r h =
    let a = c.args in
    rw (c.owed_to.ensures, c.owed_to-2.ensures, c.owed_to-3.ensures, c.owed_to-4.ensures)
    (settled_64 r a.a a.b a.c a.d a.m a.n a.o a.p c.fits-a.0 c.fits-b.0 c.fits-c.0 c.fits-d.0 c.fits-m.0 c.fits-n.0 c.fits-o.0 c.fits-p.0 h)
