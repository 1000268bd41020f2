-- Words as bytes, names of images, and units in a row.
use Rattle.std.specs.Prelude.{ℕ, Bool, false, not, eqb, if◌then◌else◌, List, [], ◌∷◌, String, string_bytes, Option, Some, None}
use Rattle.rig_api.specs.Headers.{is_layout}
use Rattle.rig_api.specs.declared.units.UnitSpec.{UnitSpec}
use Rattle.call_verdict.specs.Units.{unit_in}

-- the bytes of the words
abbrev pub word_bytes : {Z : Type 0} → List (String Z) → List (List ℕ)
word_bytes [] = []
word_bytes (w ∷ ws) = string_bytes w ∷ word_bytes ws

-- A name is not empty and doesn't begin with a hyphen.
abbrev pub is_name : List ℕ → Bool
is_name [] = false
is_name (b ∷ bytes) = not (eqb b 45)

abbrev pub with_unit : Option UnitSpec → Option (List UnitSpec) → Option (List UnitSpec)
with_unit None us = None
with_unit (Some u) None = None
with_unit (Some u) (Some us) = Some (u ∷ us)

-- the units of words, each of which is one
abbrev pub units_in : List (List ℕ) → Option (List UnitSpec)
units_in [] = Some []
units_in (w ∷ ws) = with_unit (unit_in w) (units_in ws)

-- units that an image may have
abbrev pub laid_out : Option (List UnitSpec) → Option (List UnitSpec)
laid_out None = None
laid_out (Some us) = if is_layout us then Some us else None

-- the second word, which names the image of a command that works on one
abbrev pub image_in : List (List ℕ) → List ℕ
image_in [] = []
image_in (verb ∷ []) = []
image_in (verb ∷ image ∷ words) = image
