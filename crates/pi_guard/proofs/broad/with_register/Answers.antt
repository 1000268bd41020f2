use Rattle.std.proofs.Common.{ℕ, ◌/◌, ◌∷◌, replicate, bit_and, sym}
use Rattle.std.specs.Prelude.{bit_xor}
use Rattle.std.proofs.lemmas.Simd.{length-zip2}
use Rattle.pi_guard.proofs.Windows.{in_front, behind_front}
use Rattle.pi_guard.proofs.broad.with_register.Goals as goal

pub returns-clause-sum : goal.returns-clause-sum
returns-clause-sum c rest = in_front 30 c.args.start c.args.first rest c.fits-first.0 c.ranges.start.fits

pub returns-clause-rest : goal.returns-clause-rest
returns-clause-rest c =
    let high = c.args.start / 256 in
    let low = bit_and c.args.start 255 in
    let front = high ∷ low ∷ replicate {A = ℕ} 30 0 in
    (length-zip2 bit_xor front c.args.first (sym c.fits-first.0), behind_front 30 high low c.args.first c.fits-first.0)
