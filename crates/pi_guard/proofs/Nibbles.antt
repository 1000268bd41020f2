-- The tables of the folds.
use Rattle.std.proofs.Common.{◌≡◌, true, refl}
use Rattle.pi_guard.specs.AfterZeros.{pass}
use Rattle.pi_guard.specs.Windows.{by_halves}
use Rattle.pi_guard.specs.declared.halves.TheConstants.{FROM_48_FIRST_HIGH, FROM_48_FIRST_LOW, FROM_48_SECOND_HIGH, FROM_48_SECOND_LOW, FROM_32_FIRST_HIGH, FROM_32_FIRST_LOW, FROM_32_SECOND_HIGH, FROM_32_SECOND_LOW, FROM_16_FIRST_HIGH, FROM_16_FIRST_LOW, FROM_16_SECOND_HIGH, FROM_16_SECOND_LOW, FROM_8_FIRST_HIGH, FROM_8_FIRST_LOW, FROM_8_SECOND_HIGH, FROM_8_SECOND_LOW}
use Rattle.pi_guard.proofs.Folds.{again, half_holds, Splits, splits_by}

by_48-high : half_holds pass 48 1 16 0 FROM_48_FIRST_HIGH FROM_48_SECOND_HIGH ≡ true
unfolding pass again
by_48-high = refl

by_48-low : half_holds pass 48 1 1 0 FROM_48_FIRST_LOW FROM_48_SECOND_LOW ≡ true
unfolding pass again
by_48-low = refl

pub by_48 : Splits 48 1 (by_halves FROM_48_FIRST_HIGH FROM_48_FIRST_LOW) (by_halves FROM_48_SECOND_HIGH FROM_48_SECOND_LOW)
by_48 = splits_by 48 1 FROM_48_FIRST_HIGH FROM_48_FIRST_LOW FROM_48_SECOND_HIGH FROM_48_SECOND_LOW refl refl by_48-high by_48-low

by_32-high : half_holds pass 32 1 16 0 FROM_32_FIRST_HIGH FROM_32_SECOND_HIGH ≡ true
unfolding pass again
by_32-high = refl

by_32-low : half_holds pass 32 1 1 0 FROM_32_FIRST_LOW FROM_32_SECOND_LOW ≡ true
unfolding pass again
by_32-low = refl

pub by_32 : Splits 32 1 (by_halves FROM_32_FIRST_HIGH FROM_32_FIRST_LOW) (by_halves FROM_32_SECOND_HIGH FROM_32_SECOND_LOW)
by_32 = splits_by 32 1 FROM_32_FIRST_HIGH FROM_32_FIRST_LOW FROM_32_SECOND_HIGH FROM_32_SECOND_LOW refl refl by_32-high by_32-low

by_16-high : half_holds pass 16 1 16 0 FROM_16_FIRST_HIGH FROM_16_SECOND_HIGH ≡ true
unfolding pass again
by_16-high = refl

by_16-low : half_holds pass 16 1 1 0 FROM_16_FIRST_LOW FROM_16_SECOND_LOW ≡ true
unfolding pass again
by_16-low = refl

pub by_16 : Splits 16 1 (by_halves FROM_16_FIRST_HIGH FROM_16_FIRST_LOW) (by_halves FROM_16_SECOND_HIGH FROM_16_SECOND_LOW)
by_16 = splits_by 16 1 FROM_16_FIRST_HIGH FROM_16_FIRST_LOW FROM_16_SECOND_HIGH FROM_16_SECOND_LOW refl refl by_16-high by_16-low

by_8-high : half_holds pass 8 1 16 0 FROM_8_FIRST_HIGH FROM_8_SECOND_HIGH ≡ true
unfolding pass again
by_8-high = refl

by_8-low : half_holds pass 8 1 1 0 FROM_8_FIRST_LOW FROM_8_SECOND_LOW ≡ true
unfolding pass again
by_8-low = refl

pub by_8 : Splits 8 1 (by_halves FROM_8_FIRST_HIGH FROM_8_FIRST_LOW) (by_halves FROM_8_SECOND_HIGH FROM_8_SECOND_LOW)
by_8 = splits_by 8 1 FROM_8_FIRST_HIGH FROM_8_FIRST_LOW FROM_8_SECOND_HIGH FROM_8_SECOND_LOW refl refl by_8-high by_8-low
