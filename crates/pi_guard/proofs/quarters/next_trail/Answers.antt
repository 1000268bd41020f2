use Rattle.std.proofs.Common.{◌++◌, ap, ◌∙◌, refl, lit≤}
use Rattle.std.specs.Prelude.{bit_xor}
use lib.Lanes.{zip2}
use Rattle.pi_guard.specs.Trails.{after_128, wide_owed_by}
use Rattle.pi_guard.specs.Broad.{four_owed}
use Rattle.pi_guard.proofs.Sparse.{sparse_128}
use Rattle.pi_guard.proofs.Debts.{followed_four}
use Rattle.pi_guard.proofs.quarters.next_trail.Goals as goal

pub returns : goal.returns
unfolding four_owed after_128
returns c r h =
    let a = c.args in
    ap (λ v. wide_owed_by (a.b ++ (a.c ++ (a.d ++ zip2 bit_xor a.m v)))) c.owed_to.ensures
    ∙ followed_four 32 128 24 16 2 r a.a a.b a.c a.d a.m sparse_128 (lit≤ tt) (lit≤ tt) (lit≤ tt) refl c.fits-a.0 c.fits-b.0 c.fits-c.0 c.fits-d.0 c.fits-m.0 h
