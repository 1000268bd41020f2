-- Where the blocks of a stripe lie.
use Rattle.std.proofs.Common.{◌≡◌, ℕ, ◌+◌, ◌-◌, ◌*◌, ◌/◌, ◌%◌, ◌^◌, ◌<◌, ◌≤◌, length, refl, sym, ap, ◌∙◌, arith, add_assoc}
use Rattle.std.proofs.lemmas.Nat.{div-mul-add, mod-mul-add, div-add-mod'}
use Rattle.stripe_volume.specs.declared.stripe.Stripe.{Stripe}
use Rattle.stripe_volume.specs.Stripes.{AreApart, EndsFit, HasLegs, IsWhole, LegHas, LiesAt, StripeHolds, StripeRuns, leg, place_on, stripe_place, stripe_run}
use Rattle.stripe_volume.proofs.Chunks.{HasOffset, IsSpot, has_offset, offset, spot, spot_lies}

-- k blocks further in the same chunk
further : (u k c : ℕ) → k < c - u % c → ((u + k) / c ≡ u / c) × ((u + k) % c ≡ u % c + k)
further u k c h =
    let whole : u / c * c + u % c ≡ u = div-add-mod' u c in
    let same : u + k ≡ u / c * c + (u % c + k) = omega arith in
    let below : u % c + k < c = omega arith in
    (ap (λ x. x / c) same ∙ div-mul-add (u / c) c (u % c + k) below, ap (λ x. x % c) same ∙ mod-mul-add (u / c) c (u % c + k) below)

place_on-further : (s : Stripe) (q r k : ℕ) → place_on s q (r + k) ≡ ((place_on s q r).0, (place_on s q r).1 + k)
place_on-further s q r k =
    let dev = (leg s (q % length s.legs)).dev in
    let row = (leg s (q % length s.legs)).at + q / length s.legs * s.chunk in
    let f : ℕ → ℕ × ℕ = λ x. (dev, x) in
    ap f (sym (add_assoc row r k))

pub runs : (s : Stripe) (v : ℕ) → s.start ≤ v → StripeRuns s v (stripe_run s v)
runs s v h k hk =
    let u = v - s.start in
    let there : v + k - s.start ≡ u + k = omega arith in
    let f = further u k s.chunk hk in
    let row : (v + k - s.start) / s.chunk ≡ u / s.chunk = ap (λ x. x / s.chunk) there ∙ f.0 in
    let rest : (v + k - s.start) % s.chunk ≡ u % s.chunk + k = ap (λ x. x % s.chunk) there ∙ f.1 in
    rw (row, rest) (place_on-further s (u / s.chunk) (u % s.chunk) k)

-- which leg a block lies on
abbrev pub turn : Stripe → ℕ → ℕ
turn s v = (v - s.start) / s.chunk % length s.legs

-- the block of an address that leg i has
abbrev pub found : Stripe → ℕ → ℕ → ℕ
found s i lba = s.start + spot s.chunk (length s.legs) i (lba - (leg s i).at)

pub record IsOn (s : Stripe) (v dev lba : ℕ) : Type 0 where
  pub has : LegHas s (turn s v) dev lba
  pub back : found s (turn s v) lba ≡ v

-- A block of the extent lies on a leg, and is found there.
pub is_on : (s : Stripe) (v dev lba : ℕ) → HasLegs s → IsWhole s → LiesAt s v dev lba → IsOn s v dev lba
is_on s v dev lba legs whole lies =
    let c = s.chunk in
    let n = length s.legs in
    let u = v - s.start in
    let i = u / c % n in
    let f : HasOffset s.len c n u = has_offset s.len c n u legs.0 legs.1 whole (omega arith) in
    let d : (leg s i).dev ≡ dev = ap (λ p. p.0) lies.1 in
    let a : (leg s i).at + u / c / n * c + u % c ≡ lba = ap (λ p. p.1) lies.1 in
    let o : lba - (leg s i).at ≡ offset c n u = omega arith in
    let b : u / c / n * c + u % c < s.len / n = f.below in
    record {
      has = (f.leg, d, omega arith, omega arith);
      back = rw (o, f.back) (omega arith);
    }

-- The block that is found for an address of a leg lies there.
pub lies_there : (s : Stripe) (i dev lba : ℕ) → HasLegs s → IsWhole s → LegHas s i dev lba → LiesAt s (found s i lba) dev lba
lies_there s i dev lba legs whole has =
    let c = s.chunk in
    let n = length s.legs in
    let o = lba - (leg s i).at in
    let f : IsSpot s.len c n i o = spot_lies s.len c n i o legs.0 legs.1 whole has.0 (omega arith) in
    let below : spot c n i o < s.len = f.below in
    let u : s.start + spot c n i o - s.start ≡ spot c n i o = omega arith in
    let d : (leg s i).dev ≡ dev = has.1 in
    let parts : o / c * c + o % c ≡ o = div-add-mod' o c in
    let sum : (leg s i).at + o / c * c + o % c ≡ lba = omega arith in
    ((omega arith, omega arith), rw (u, f.chunk, f.rest, f.row, f.turn, d, sum))

-- No two blocks lie at one place.
pub alone : (s : Stripe) (v w dev lba : ℕ) → HasLegs s → IsWhole s → AreApart s → LiesAt s v dev lba → LiesAt s w dev lba → v ≡ w
alone s v w dev lba legs whole apart at_v at_w =
    let a = is_on s v dev lba legs whole at_v in
    let b = is_on s w dev lba legs whole at_w in
    let same = apart (turn s v) (turn s w) dev lba a.has b.has in
    sym a.back ∙ ap (λ i. found s i lba) same ∙ b.back
