-- The tag of a block that has one is that of its address; a check that is passed.
use Rattle.std.proofs.Common.{Option, Bool, ◌≡◌, ◌<◌, true, false, eqb, if◌then◌else◌, None, Some, refl, sym, ◌∙◌, ℕ, arith}
use Rattle.std.specs.Prelude.{bit_and}
use Rattle.pi_tuple.specs.declared.checks.Check.{Check}
use Rattle.walk_laws.specs.Detectable.{if_passed}
use Rattle.pi_tuple.specs.declared.checks.PiType.{PiType}
use Rattle.pi_tuple.specs.Finds.{has_ref_tag}
use Rattle.walk_laws.specs.PlainMap.{as_expected, tag_of}
use Rattle.pi_tuple.specs.Tuples.{ref_tag}
use Rattle.pi_tuple.specs.declared.checks.PiType.TheVariants.{Zero, One, Two, Three}
use Rattle.std.proofs.lemmas.Bool.{eqb-true, false≢true, ne_eqb}
use lib.Bits.{and_zero_r}
use Rattle.walk_laws.specs.Settings.{Setting}

pub passed_all : (o : Option Check) (rest : Bool) → rest ≡ true → if_passed o rest ≡ true
passed_all None rest h = h
passed_all (Some c) rest h = refl

pub tag_right : (ty : PiType) (lba own : ℕ) → has_ref_tag ty ≡ true → tag_of ty lba own ≡ ref_tag lba
tag_right Zero lba own h = absurd (false≢true h)
tag_right One lba own h = refl
tag_right Two lba own h = refl
tag_right Three lba own h = absurd (false≢true h)

-- a tag that is as expected is so under the mask, and under none
pub mask_fits : (m : Setting) (c : Bool) (app : ℕ) → as_expected m app ≡ true → bit_and app (if c then m.mode.mask else 0) ≡ bit_and m.mode.app (if c then m.mode.mask else 0)
mask_fits m true app h = eqb-true _ _ h
mask_fits m false app h = and_zero_r app ∙ sym (and_zero_r m.mode.app)

-- a command with a protect field asks for tuples
pub field_set : (m : Setting) → 0 < m.mode.protect → eqb m.mode.protect 0 ≡ false
field_set m protect = ne_eqb m.mode.protect 0 (λ e. omega (arith, e, protect))
