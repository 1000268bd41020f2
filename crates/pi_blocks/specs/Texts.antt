-- What is found, in words.
use Rattle.std.specs.Prelude.{ℕ, ◌+◌, ◌-◌, ◌||◌, eqb, leb, if◌then◌else◌, List, ◌∷◌, ◌++◌, take, drop, length, codes, decimal}
use Rattle.std.specs.Int.{w16, w32, to_be_bytes}
use Rattle.hex.specs.Hex.{encode_lower}
use Rattle.pi_blocks.specs.declared.block.Found.{Found}

-- the name of the check that has this flag
abbrev pub check_name : ℕ → List ℕ
check_name check =
    if eqb check 2 then codes "guard"
    else (if eqb check 4 then codes "application tag"
    else (if eqb check 8 then codes "reference tag"
    else codes "no check"))

-- 8 hexadecimal digits of a reference tag and of what needs them, else 4
abbrev pub digits_of : ℕ → ℕ → List ℕ
digits_of check value = if eqb check 8 || leb 65536 value then encode_lower (to_be_bytes w32 value) else encode_lower (to_be_bytes w16 value)

-- as "block 7: guard wanted f684, has bdb6"
abbrev pub found_text : Found → List ℕ
found_text f =
    ((((((codes "block " ++ decimal f.block) ++ codes ": ") ++ check_name f.check) ++ codes " wanted ") ++ digits_of f.check f.expected) ++ codes ", has ") ++ digits_of f.check f.actual

-- a text in front of what memory held: as much of it as leaves room for the byte of 0 behind it, which ends it wherever there is memory at all
abbrev pub ended : List ℕ → List ℕ → List ℕ
ended text old = if eqb (length old) 0 then old else take (length old - 1) text ++ (0 ∷ drop (length (take (length old - 1) text) + 1) old)
