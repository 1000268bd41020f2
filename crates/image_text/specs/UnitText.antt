use Rattle.std.specs.Prelude.{ℕ, ◌+◌, List, [], ◌∷◌, ◌++◌, codes, decimal}
use Rattle.rig_api.specs.Headers.{number_of}
use Rattle.rig_api.specs.declared.units.UnitSpec.{UnitSpec}
use Rattle.image_text.specs.ShowText.{first_line}

-- T:BLOCKS:SIZE:FIRST, the word by which `dix format` makes the unit
abbrev pub unit_word : UnitSpec → List ℕ
unit_word u = decimal (number_of u.ty) ++ (codes ":" ++ (decimal u.blocks ++ (codes ":" ++ (decimal u.size ++ (codes ":" ++ decimal u.first)))))

abbrev pub unit_line : (dev : ℕ) → UnitSpec → List ℕ
unit_line dev u = codes "unit " ++ (decimal dev ++ (codes " " ++ (unit_word u ++ codes "\n")))

-- a line for each unit, the first of which has this number
abbrev pub unit_lines : (dev : ℕ) → List UnitSpec → List ℕ
unit_lines dev [] = []
unit_lines dev (u ∷ us) = unit_line dev u ++ unit_lines (dev + 1) us

-- the text of the units of an image
abbrev pub units_text : List UnitSpec → List ℕ
units_text us = first_line ++ unit_lines 0 us
