use Rattle.std.specs.Prelude.{ℕ, ◌^◌, ◌<◌, Bool, true, false, ◌||◌, eqb, ltb, if◌then◌else◌, List, [], ◌∷◌, ◌++◌, length, Option, Some, None, IfSome}
use Rattle.std.specs.Int.{w32, w64, to_be_bytes}
use Rattle.sense_codes.specs.declared.Sense.{Sense}
use Rattle.sense_codes.specs.declared.decode.SenseFault.{SenseFault}
use Rattle.sense_codes.specs.declared.decode.SenseFault.TheVariants.{Short, Form}

-- fixed format, 18 bytes: VALID in bit 7 of byte 0 over the response code 70h; sense key in 2; INFORMATION in 3 to 6; additional sense length 0Ah in 7; ASC in 12; ASCQ in 13 (SPC-4, 4.5.3)
abbrev pub fixed : ℕ → ℕ → Sense → List ℕ
fixed response info s = response ∷ 0 ∷ s.key ∷ (to_be_bytes w32 info ++ (0x0A ∷ 0 ∷ 0 ∷ 0 ∷ 0 ∷ s.asc ∷ s.ascq ∷ 0 ∷ 0 ∷ 0 ∷ 0 ∷ []))

-- descriptor format, 20 bytes: response code 72h; sense key; ASC; ASCQ; three bytes of 0; additional sense length 0Ch (SPC-4, 4.5.2.1).
-- Then the information descriptor: type 00h, additional length 0Ah, VALID in bit 7, a byte of 0, INFORMATION in 8 bytes (SPC-4, 4.5.2.2)
abbrev pub descriptor : ℕ → Sense → List ℕ
descriptor info s = 0x72 ∷ s.key ∷ s.asc ∷ s.ascq ∷ 0 ∷ 0 ∷ 0 ∷ 0x0C ∷ 0 ∷ 0x0A ∷ 0x80 ∷ 0 ∷ to_be_bytes w64 info

-- fixed format where there is no information or it fits its field, else descriptor format
abbrev pub written_with : Option ℕ → Sense → List ℕ
written_with None s = fixed 0x70 0 s
written_with (Some info) s = if ltb info (2 ^ 32) then fixed 0xF0 info s else descriptor info s

-- the written form of a sense
abbrev pub written : Sense → List ℕ
written s = written_with s.info s

-- the sense key has 4 bits, the information 64
pub record Fits (s : Sense) : Type 0 where
  pub key : s.key < 16
  pub info : IfSome s.info (λ i. i < 2 ^ 64)

-- no bytes, or fewer than the response code asks for
abbrev pub is_short : List ℕ → Bool
is_short [] = true
is_short (code ∷ rest) =
    if eqb code 0x70 || eqb code 0xF0 then ltb (length (code ∷ rest)) 18
    else (if eqb code 0x72 then ltb (length (code ∷ rest)) 20 else false)

-- the fault of bytes that no sense is written as
abbrev pub fault_of : List ℕ → SenseFault
fault_of b = if is_short b then Short else Form

abbrev pub fault_number : SenseFault → ℕ
fault_number Short = 1
fault_number Form = 2
