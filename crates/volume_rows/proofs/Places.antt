-- What the rows ask of places holds.
use Rattle.std.proofs.Common.{ℕ, ◌^◌, ◌<◌, refl, arith}
use Rattle.stripe_volume.specs.declared.stripe.Stripe.{Stripe}
use Rattle.stripe_volume.specs.Stripes.{EndsFit, HasLegs, IsWhole, StripeHolds, stripe_place}
use Rattle.stripe_volume.proofs.Places.{is_on, turn}

-- where the ends of the legs fit 64 bits, the address of each block does
pub block_fits : (s : Stripe) (v : ℕ) → HasLegs s → IsWhole s → EndsFit s → StripeHolds s v → (stripe_place s v).1 < 2 ^ 64
block_fits s v legs whole fits holds =
    let on = is_on s v _ _ legs whole (holds, refl) in
    omega (arith, fits (turn s v) on.has.0, on.has.3)
