-- How many words there are, and how many units in them.
use Rattle.std.proofs.Common.{ℕ, ◌≡◌, ◌<◌, suc, false, leb, List, [], ◌∷◌, ◌++◌, length, Option, Some, None, refl, ap, ◌∙◌, arith}
use Rattle.std.specs.Prelude.{String}
use Rattle.std.specs.List.{list_all}
use Rattle.rig_api.specs.Headers.{is_layout, is_spec}
use Rattle.rig_api.specs.declared.units.UnitSpec.{UnitSpec}
use Rattle.call_verdict.specs.Units.{unit_in}
use Rattle.call_verdict.specs.Words.{image_in, laid_out, units_in, with_unit, word_bytes}
use Rattle.small_laws.proofs.Tests.{second_no}

-- the units so far, with those that follow
abbrev pub joined : List UnitSpec → Option (List UnitSpec) → Option (List UnitSpec)
joined us None = None
joined us (Some more) = Some (us ++ more)

pub bytes_length : {Z : Type 0} (ws : List (String Z)) → length (word_bytes ws) ≡ length ws
bytes_length [] = refl
bytes_length (w ∷ ws) = ap suc (bytes_length ws)

pub one_unit : (u : Option UnitSpec) (rest : Option (List UnitSpec)) (us : List UnitSpec) (n : ℕ) → with_unit u rest ≡ Some us → ((more : List UnitSpec) → rest ≡ Some more → length more ≡ n) → length us ≡ suc n
one_unit None rest us n e f = absurd (cc)
one_unit (Some u) None us n e f = absurd (cc)
one_unit (Some u) (Some more) us n e f = let k : us ≡ u ∷ more = cc in ap length k ∙ ap suc (f more refl)

-- as many units as words
pub as_many : (ws : List (List ℕ)) (us : List UnitSpec) → units_in ws ≡ Some us → length us ≡ length ws
as_many [] us e = let k : us ≡ [] = cc in ap length k
as_many (w ∷ ws) us e = one_unit (unit_in w) (units_in ws) us (length ws) e (λ more p. as_many ws more p)

pub no_second : {Z : Type 0} (ws : List (String Z)) → length ws < 2 → [] ≡ image_in (word_bytes ws)
no_second [] h = refl
no_second (a ∷ []) h = refl
no_second (a ∷ b ∷ ws) h = absurd (omega arith)

none_fits : (x : Option (List UnitSpec)) (n : ℕ) → 8 < n → ((us : List UnitSpec) → x ≡ Some us → length us ≡ n) → laid_out x ≡ None
none_fits None n h f = refl
none_fits (Some us) n h f =
    let l : length us ≡ n = f us refl in
    let k : leb (length us) 8 ≡ false = grind arith in
    let no : is_layout us ≡ false = second_no (leb 1 (length us)) (leb (length us) 8) (list_all is_spec us) k in
    rw no refl

-- more than eight words order no image
pub too_many : {Z : Type 0} (ws : List (String Z)) → 8 < length ws → laid_out (units_in (word_bytes ws)) ≡ None
too_many ws h = none_fits (units_in (word_bytes ws)) (length ws) h (λ us e. as_many (word_bytes ws) us e ∙ bytes_length ws)
