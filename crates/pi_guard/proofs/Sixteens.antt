-- The tables of the halves of a vector of 32 bytes.
use Rattle.std.proofs.Common.{◌≡◌, true, take, drop, refl}
use Rattle.pi_guard.specs.AfterZeros.{pass}
use Rattle.pi_guard.specs.Windows.{by_halves}
use Rattle.pi_guard.specs.declared.quarters.TheConstants.{FROM_96_FIRST_HIGH, FROM_96_FIRST_LOW, FROM_96_SECOND_HIGH, FROM_96_SECOND_LOW, FROM_64_FIRST_HIGH, FROM_64_FIRST_LOW, FROM_64_SECOND_HIGH, FROM_64_SECOND_LOW, FROM_32_FIRST_HIGH, FROM_32_FIRST_LOW, FROM_32_SECOND_HIGH, FROM_32_SECOND_LOW, FROM_0_FIRST_HIGH, FROM_0_FIRST_LOW, FROM_0_SECOND_HIGH, FROM_0_SECOND_LOW}
use Rattle.pi_guard.proofs.Folds.{again, half_holds, Splits, splits_by, splits_by_first}

by_112_first-high : half_holds pass 112 1 16 0 (take 16 FROM_96_FIRST_HIGH) (take 16 FROM_96_SECOND_HIGH) ≡ true
unfolding pass again
by_112_first-high = refl

by_112_first-low : half_holds pass 112 1 1 0 (take 16 FROM_96_FIRST_LOW) (take 16 FROM_96_SECOND_LOW) ≡ true
unfolding pass again
by_112_first-low = refl

pub by_112_first : Splits 112 1 (by_halves FROM_96_FIRST_HIGH FROM_96_FIRST_LOW) (by_halves FROM_96_SECOND_HIGH FROM_96_SECOND_LOW)
by_112_first = splits_by_first 112 1 FROM_96_FIRST_HIGH FROM_96_FIRST_LOW FROM_96_SECOND_HIGH FROM_96_SECOND_LOW (splits_by 112 1 (take 16 FROM_96_FIRST_HIGH) (take 16 FROM_96_FIRST_LOW) (take 16 FROM_96_SECOND_HIGH) (take 16 FROM_96_SECOND_LOW) refl refl by_112_first-high by_112_first-low)

by_96_last-high : half_holds pass 96 1 16 0 (drop 16 FROM_96_FIRST_HIGH) (drop 16 FROM_96_SECOND_HIGH) ≡ true
unfolding pass again
by_96_last-high = refl

by_96_last-low : half_holds pass 96 1 1 0 (drop 16 FROM_96_FIRST_LOW) (drop 16 FROM_96_SECOND_LOW) ≡ true
unfolding pass again
by_96_last-low = refl

pub by_96_last : Splits 96 1 (by_halves (drop 16 FROM_96_FIRST_HIGH) (drop 16 FROM_96_FIRST_LOW)) (by_halves (drop 16 FROM_96_SECOND_HIGH) (drop 16 FROM_96_SECOND_LOW))
by_96_last = splits_by 96 1 (drop 16 FROM_96_FIRST_HIGH) (drop 16 FROM_96_FIRST_LOW) (drop 16 FROM_96_SECOND_HIGH) (drop 16 FROM_96_SECOND_LOW) refl refl by_96_last-high by_96_last-low

by_80_first-high : half_holds pass 80 1 16 0 (take 16 FROM_64_FIRST_HIGH) (take 16 FROM_64_SECOND_HIGH) ≡ true
unfolding pass again
by_80_first-high = refl

by_80_first-low : half_holds pass 80 1 1 0 (take 16 FROM_64_FIRST_LOW) (take 16 FROM_64_SECOND_LOW) ≡ true
unfolding pass again
by_80_first-low = refl

pub by_80_first : Splits 80 1 (by_halves FROM_64_FIRST_HIGH FROM_64_FIRST_LOW) (by_halves FROM_64_SECOND_HIGH FROM_64_SECOND_LOW)
by_80_first = splits_by_first 80 1 FROM_64_FIRST_HIGH FROM_64_FIRST_LOW FROM_64_SECOND_HIGH FROM_64_SECOND_LOW (splits_by 80 1 (take 16 FROM_64_FIRST_HIGH) (take 16 FROM_64_FIRST_LOW) (take 16 FROM_64_SECOND_HIGH) (take 16 FROM_64_SECOND_LOW) refl refl by_80_first-high by_80_first-low)

by_64_last-high : half_holds pass 64 1 16 0 (drop 16 FROM_64_FIRST_HIGH) (drop 16 FROM_64_SECOND_HIGH) ≡ true
unfolding pass again
by_64_last-high = refl

by_64_last-low : half_holds pass 64 1 1 0 (drop 16 FROM_64_FIRST_LOW) (drop 16 FROM_64_SECOND_LOW) ≡ true
unfolding pass again
by_64_last-low = refl

pub by_64_last : Splits 64 1 (by_halves (drop 16 FROM_64_FIRST_HIGH) (drop 16 FROM_64_FIRST_LOW)) (by_halves (drop 16 FROM_64_SECOND_HIGH) (drop 16 FROM_64_SECOND_LOW))
by_64_last = splits_by 64 1 (drop 16 FROM_64_FIRST_HIGH) (drop 16 FROM_64_FIRST_LOW) (drop 16 FROM_64_SECOND_HIGH) (drop 16 FROM_64_SECOND_LOW) refl refl by_64_last-high by_64_last-low

by_48_first-high : half_holds pass 48 1 16 0 (take 16 FROM_32_FIRST_HIGH) (take 16 FROM_32_SECOND_HIGH) ≡ true
unfolding pass again
by_48_first-high = refl

by_48_first-low : half_holds pass 48 1 1 0 (take 16 FROM_32_FIRST_LOW) (take 16 FROM_32_SECOND_LOW) ≡ true
unfolding pass again
by_48_first-low = refl

pub by_48_first : Splits 48 1 (by_halves FROM_32_FIRST_HIGH FROM_32_FIRST_LOW) (by_halves FROM_32_SECOND_HIGH FROM_32_SECOND_LOW)
by_48_first = splits_by_first 48 1 FROM_32_FIRST_HIGH FROM_32_FIRST_LOW FROM_32_SECOND_HIGH FROM_32_SECOND_LOW (splits_by 48 1 (take 16 FROM_32_FIRST_HIGH) (take 16 FROM_32_FIRST_LOW) (take 16 FROM_32_SECOND_HIGH) (take 16 FROM_32_SECOND_LOW) refl refl by_48_first-high by_48_first-low)

by_32_last-high : half_holds pass 32 1 16 0 (drop 16 FROM_32_FIRST_HIGH) (drop 16 FROM_32_SECOND_HIGH) ≡ true
unfolding pass again
by_32_last-high = refl

by_32_last-low : half_holds pass 32 1 1 0 (drop 16 FROM_32_FIRST_LOW) (drop 16 FROM_32_SECOND_LOW) ≡ true
unfolding pass again
by_32_last-low = refl

pub by_32_last : Splits 32 1 (by_halves (drop 16 FROM_32_FIRST_HIGH) (drop 16 FROM_32_FIRST_LOW)) (by_halves (drop 16 FROM_32_SECOND_HIGH) (drop 16 FROM_32_SECOND_LOW))
by_32_last = splits_by 32 1 (drop 16 FROM_32_FIRST_HIGH) (drop 16 FROM_32_FIRST_LOW) (drop 16 FROM_32_SECOND_HIGH) (drop 16 FROM_32_SECOND_LOW) refl refl by_32_last-high by_32_last-low

by_16_first-high : half_holds pass 16 1 16 0 (take 16 FROM_0_FIRST_HIGH) (take 16 FROM_0_SECOND_HIGH) ≡ true
unfolding pass again
by_16_first-high = refl

by_16_first-low : half_holds pass 16 1 1 0 (take 16 FROM_0_FIRST_LOW) (take 16 FROM_0_SECOND_LOW) ≡ true
unfolding pass again
by_16_first-low = refl

pub by_16_first : Splits 16 1 (by_halves FROM_0_FIRST_HIGH FROM_0_FIRST_LOW) (by_halves FROM_0_SECOND_HIGH FROM_0_SECOND_LOW)
by_16_first = splits_by_first 16 1 FROM_0_FIRST_HIGH FROM_0_FIRST_LOW FROM_0_SECOND_HIGH FROM_0_SECOND_LOW (splits_by 16 1 (take 16 FROM_0_FIRST_HIGH) (take 16 FROM_0_FIRST_LOW) (take 16 FROM_0_SECOND_HIGH) (take 16 FROM_0_SECOND_LOW) refl refl by_16_first-high by_16_first-low)

by_0_last-high : half_holds pass 0 1 16 0 (drop 16 FROM_0_FIRST_HIGH) (drop 16 FROM_0_SECOND_HIGH) ≡ true
unfolding pass again
by_0_last-high = refl

by_0_last-low : half_holds pass 0 1 1 0 (drop 16 FROM_0_FIRST_LOW) (drop 16 FROM_0_SECOND_LOW) ≡ true
unfolding pass again
by_0_last-low = refl

pub by_0_last : Splits 0 1 (by_halves (drop 16 FROM_0_FIRST_HIGH) (drop 16 FROM_0_FIRST_LOW)) (by_halves (drop 16 FROM_0_SECOND_HIGH) (drop 16 FROM_0_SECOND_LOW))
by_0_last = splits_by 0 1 (drop 16 FROM_0_FIRST_HIGH) (drop 16 FROM_0_FIRST_LOW) (drop 16 FROM_0_SECOND_HIGH) (drop 16 FROM_0_SECOND_LOW) refl refl by_0_last-high by_0_last-low
