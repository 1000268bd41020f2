use Rattle.std.specs.Prelude.{ℕ, eqb, if◌then◌else◌, List, [], ◌∷◌, Option, Some, None}
use Rattle.sense_codes.specs.Written.{descriptor}
use Rattle.sense_codes.specs.declared.Sense.{Sense}
use Rattle.pi_blocks.specs.declared.sensing.SenseFields.{SenseFields}

-- the sense of these numbers
abbrev pub sense_of : SenseFields → Sense
sense_of f = record { key = f.key; asc = f.asc; ascq = f.ascq; info = if eqb f.has_info 0 then None else Some f.info }

-- the numbers of a sense
abbrev pub fields_by : Option ℕ → Sense → SenseFields
fields_by None s = record { info = 0; key = s.key; asc = s.asc; ascq = s.ascq; has_info = 0 }
fields_by (Some info) s = record { info = info; key = s.key; asc = s.asc; ascq = s.ascq; has_info = 1 }

abbrev pub sense_fields : Sense → SenseFields
sense_fields s = fields_by s.info s

-- descriptor format on wish: 8 bytes where there is no information, else 20 with its descriptor (SPC-4, 4.5.2)
abbrev pub described_with : Option ℕ → Sense → List ℕ
described_with None s = 0x72 ∷ s.key ∷ s.asc ∷ s.ascq ∷ 0 ∷ 0 ∷ 0 ∷ 0 ∷ []
described_with (Some info) s = descriptor info s

abbrev pub described : Sense → List ℕ
described s = described_with s.info s
