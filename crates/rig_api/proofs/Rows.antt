-- Worked answers: commands that are none, and long ones to types that have none.
use Rattle.std.proofs.Common.{◌≡◌, ℕ, ◌*◌, true, false, List, [], ◌∷◌, ◌++◌, length, refl}
use Rattle.std.specs.Prelude.{replicate, take, ℤ, pos, negsuc, Option, Some, None}
use Rattle.std.specs.Int.{w32, w64, to_be_bytes}
use Rattle.pi_guard.specs.Guards.{crc}
use Rattle.pi_tuple.specs.declared.checks.PiType.{PiType}
use Rattle.pi_tuple.specs.declared.checks.PiType.TheVariants.{Zero, One, Two, Three}
use Rattle.fault_schedule.specs.declared.Label.{Label}
use Rattle.fault_schedule.specs.declared.fault.Crossing.{Crossing}
use Rattle.fault_schedule.specs.declared.fault.Crossing.TheVariants.{AdapterToTarget, TargetToMedium, MediumToTarget, TargetToAdapter}
use Rattle.fault_schedule.specs.declared.fault.FaultKind.TheVariants.{Fail, Flip, Keep, Shift}
use Rattle.fault_schedule.specs.declared.fault.FaultLine.{FaultLine}
use Rattle.rig_api.specs.declared.units.UnitSpec.{UnitSpec}
use Rattle.rig_api.specs.declared.units.Version.TheVariants.{First, Second}
use Rattle.rig_api.specs.Passing.{found_in, to_medium, from_medium}
use Rattle.rig_api.specs.Target.{Stored, Answer, refusal, target_answer}
use Rattle.rig_api.specs.Headers.{header, specs_in, is_header, image_size, version_for}
use Rattle.rig_api.specs.Image.{fresh_from, fresh, formatted, units_in, migrated}

-- Worked values of the definitions, on units of four formatted blocks of 512 bytes.
abbrev unit_of : PiType → ℕ → Stored
unit_of ty first = record { ty = ty; size = 512; first = first; blocks = fresh_from ty 512 first 4 }

-- a command of ten bytes with this operation code, protect field, address below 256 and number of blocks
abbrev ten : (op protect a n : ℕ) → List ℕ
ten op protect a n = op ∷ (protect * 32) ∷ 0 ∷ 0 ∷ 0 ∷ a ∷ 0 ∷ 0 ∷ n ∷ 0 ∷ []

abbrev sixteen : (op protect : ℕ) → (a n : ℕ) → List ℕ
sixteen op protect a n = op ∷ (protect * 32) ∷ (to_be_bytes w64 a ++ (to_be_bytes w32 n ++ (0 ∷ 0 ∷ [])))

-- READ(32) is 9 and WRITE(32) 11
abbrev long : (action protect a n tag app_high app_low mask_high mask_low : ℕ) → List ℕ
long action protect a n tag app_high app_low mask_high mask_low =
    0x7F ∷ 0 ∷ 0 ∷ 0 ∷ 0 ∷ 0 ∷ 0 ∷ 0x18 ∷ 0 ∷ action ∷ (protect * 32) ∷ 0
    ∷ (to_be_bytes w64 a ++ (to_be_bytes w32 tag ++ (app_high ∷ app_low ∷ mask_high ∷ mask_low ∷ to_be_bytes w32 n)))

abbrev capacity : ℕ → List ℕ
capacity len = 0x9E ∷ 0x10 ∷ 0 ∷ 0 ∷ 0 ∷ 0 ∷ 0 ∷ 0 ∷ 0 ∷ 0 ∷ (to_be_bytes w32 len ++ (0 ∷ 0 ∷ []))

-- 511 zeros and a one, whose guard is the polynomial
abbrev one_last : List ℕ
one_last = replicate 511 0 ++ (1 ∷ [])

-- with this application tag and reference tag
abbrev tagged : (app_high app_low tag : ℕ) → List ℕ
tagged app_high app_low tag = one_last ++ (0x8B ∷ 0xB7 ∷ app_high ∷ app_low ∷ 0 ∷ 0 ∷ 0 ∷ tag ∷ [])

-- nothing done, and this sense
abbrev ends : Stored → ℕ → ℕ → ℕ → Option ℕ → Answer
ends unit key asc ascq info = record { done = 0; sense = Some (record { key = key; asc = asc; ascq = ascq; info = info }); blocks = unit.blocks; sent = [] }

abbrev no : Stored → ℕ → Answer
no unit asc = ends unit 5 asc 0 None

abbrev ask : Stored → List FaultLine → List ℕ → List Label → List ℕ → ℕ → Answer
ask unit faults cdb labels out room = target_answer unit faults cdb labels out room None

abbrev calm : Stored → List ℕ → List ℕ → ℕ → Answer
calm unit cdb out room = ask unit [] cdb [] out room

abbrev label : ℕ → ℕ → Label
label op k = record { op = op; k = k }

abbrev flip : (op k : ℕ) → Crossing → ℕ → ℕ → FaultLine
flip op k at off byte = record { op = op; k = k; at = at; kind = Flip off (byte ∷ []) }

abbrev shift : ℕ → Crossing → ℤ → FaultLine
shift op at by = record { op = op; k = 0; at = at; kind = Shift by }

abbrev keep : (op k : ℕ) → ℕ → FaultLine
keep op k bytes = record { op = op; k = k; at = TargetToMedium; kind = Keep bytes }

abbrev fail : (op k : ℕ) → Crossing → FaultLine
fail op k at = record { op = op; k = k; at = at; kind = Fail }

abbrev one : Stored
one = unit_of One 0

abbrev two : Stored
two = unit_of Two 0

abbrev three : Stored
three = unit_of Three 0

abbrev plain : Stored
plain = unit_of Zero 0

-- the same unit with these blocks
abbrev holding : Stored → List (List ℕ) → Stored
holding unit blocks = record { ty = unit.ty; size = unit.size; first = unit.first; blocks = blocks }

-- refusals, each alone
pub other_opcode : calm one (0x08 ∷ 0x20 ∷ 0 ∷ 0 ∷ 0 ∷ 2 ∷ 0 ∷ 0 ∷ 1 ∷ 0 ∷ []) [] 520
    ≡ no one 0x20
unfolding refusal target_answer to_medium from_medium found_in crc
other_opcode = refl

pub no_bytes : calm one [] [] 520
    ≡ no one 0x24
unfolding refusal target_answer to_medium from_medium found_in crc
no_bytes = refl

pub a_bit_too_much : calm one (0x28 ∷ 0x30 ∷ 0 ∷ 0 ∷ 0 ∷ 2 ∷ 0 ∷ 0 ∷ 1 ∷ 0 ∷ []) [] 520
    ≡ no one 0x24
unfolding refusal target_answer to_medium from_medium found_in crc
a_bit_too_much = refl

pub long_on_type_1 : calm one (long 9 1 2 1 2 0 0 0 0) [] 520
    ≡ no one 0x20
unfolding refusal target_answer to_medium from_medium found_in crc
long_on_type_1 = refl

pub long_on_type_3 : calm three (long 11 0 2 1 2 0 0 0 0) (replicate 512 0) 0
    ≡ no three 0x20
unfolding refusal target_answer to_medium from_medium found_in crc
long_on_type_3 = refl

pub tuples_by_ten_on_type_2 : calm two (ten 0x28 3 2 1) [] 520
    ≡ no two 0x20
unfolding refusal target_answer to_medium from_medium found_in crc
tuples_by_ten_on_type_2 = refl

pub verify_of_tuples_on_type_2 : calm two (ten 0x2F 1 2 1) [] 0
    ≡ no two 0x20
unfolding refusal target_answer to_medium from_medium found_in crc
verify_of_tuples_on_type_2 = refl

pub tuples_on_type_0 : calm plain (ten 0x2A 1 2 1) (tagged 0 0 2) 0
    ≡ no plain 0x24
unfolding refusal target_answer to_medium from_medium found_in crc
tuples_on_type_0 = refl

pub verify_of_tuples_on_type_0 : calm plain (ten 0x2F 4 2 1) [] 0
    ≡ no plain 0x24
unfolding refusal target_answer to_medium from_medium found_in crc
verify_of_tuples_on_type_0 = refl

pub past_the_end : calm one (ten 0x28 1 3 2) [] 1040
    ≡ no one 0x21
unfolding refusal target_answer to_medium from_medium found_in crc
past_the_end = refl

pub none_past_the_end : calm one (ten 0x28 1 5 0) [] 0
    ≡ no one 0x21
unfolding refusal target_answer to_medium from_medium found_in crc
none_past_the_end = refl

pub before_the_first : calm (unit_of One 2) (ten 0x28 1 1 1) [] 520
    ≡ no (unit_of One 2) 0x21
unfolding refusal target_answer to_medium from_medium found_in crc
before_the_first = refl

pub verify_past_the_end : calm one (ten 0x2F 1 4 1) [] 0
    ≡ no one 0x21
unfolding refusal target_answer to_medium from_medium found_in crc
verify_past_the_end = refl

pub room_too_short : calm one (ten 0x28 1 2 1) [] 519
    ≡ no one 0x24
unfolding refusal target_answer to_medium from_medium found_in crc
room_too_short = refl

pub room_for_tuples_too : calm one (ten 0x28 0 2 1) [] 520
    ≡ no one 0x24
unfolding refusal target_answer to_medium from_medium found_in crc
room_for_tuples_too = refl

pub out_too_short : calm one (ten 0x2A 1 2 1) (replicate 519 0) 0
    ≡ no one 0x24
unfolding refusal target_answer to_medium from_medium found_in crc
out_too_short = refl

pub shifted_below_0 : ask one (shift 7 AdapterToTarget (negsuc 2) ∷ []) (ten 0x28 1 2 1) (label 7 0 ∷ []) [] 520
    ≡ no one 0x21
unfolding refusal target_answer to_medium from_medium found_in crc
shifted_below_0 = refl

pub shifted_past_the_end : ask one (shift 7 AdapterToTarget (pos 2) ∷ []) (ten 0x2A 1 2 1) (label 7 0 ∷ []) (tagged 0 0 2) 0
    ≡ no one 0x21
unfolding refusal target_answer to_medium from_medium found_in crc
shifted_past_the_end = refl

pub fetched_past_the_end : ask one (shift 7 MediumToTarget (pos 1) ∷ []) (ten 0x28 1 3 1) (label 7 0 ∷ []) [] 520
    ≡ no one 0x21
unfolding refusal target_answer to_medium from_medium found_in crc
fetched_past_the_end = refl

-- two at a time
pub form_before_range : calm one (long 9 1 9 1 2 0 0 0 0) [] 520
    ≡ no one 0x20
unfolding refusal target_answer to_medium from_medium found_in crc
form_before_range = refl

pub tuples_before_range : calm plain (ten 0x28 1 9 1) [] 520
    ≡ no plain 0x24
unfolding refusal target_answer to_medium from_medium found_in crc
tuples_before_range = refl

pub range_before_room : calm one (ten 0x28 1 4 1) [] 519
    ≡ no one 0x21
unfolding refusal target_answer to_medium from_medium found_in crc
range_before_room = refl

pub form_before_room : calm two (ten 0x2A 1 2 1) [] 0
    ≡ no two 0x20
unfolding refusal target_answer to_medium from_medium found_in crc
form_before_room = refl

pub field_before_form : calm one (0x7F ∷ 0 ∷ 0 ∷ 0 ∷ 0 ∷ 0 ∷ 0 ∷ 0x18 ∷ 0 ∷ 9 ∷ []) [] 0
    ≡ no one 0x24
unfolding refusal target_answer to_medium from_medium found_in crc
field_before_form = refl

-- READ CAPACITY(16)
pub whole_capacity : calm one (capacity 32) [] 32
    ≡ record { done = 0; sense = None; blocks = one.blocks; sent = (0 ∷ 0 ∷ 0 ∷ 0 ∷ 0 ∷ 0 ∷ 0 ∷ 3 ∷ 0 ∷ 0 ∷ 2 ∷ 0 ∷ 1 ∷ replicate 19 0) ∷ [] }
unfolding refusal target_answer to_medium from_medium found_in crc
whole_capacity = refl

pub more_capacity : calm three (capacity 40) [] 32
    ≡ record { done = 0; sense = None; blocks = three.blocks; sent = (0 ∷ 0 ∷ 0 ∷ 0 ∷ 0 ∷ 0 ∷ 0 ∷ 3 ∷ 0 ∷ 0 ∷ 2 ∷ 0 ∷ 5 ∷ replicate 19 0) ∷ [] }
unfolding refusal target_answer to_medium from_medium found_in crc
more_capacity = refl

pub twelve_bytes_of_capacity : calm two (capacity 12) [] 12
    ≡ record { done = 0; sense = None; blocks = two.blocks; sent = (0 ∷ 0 ∷ 0 ∷ 0 ∷ 0 ∷ 0 ∷ 0 ∷ 3 ∷ 0 ∷ 0 ∷ 2 ∷ 0 ∷ []) ∷ [] }
unfolding refusal target_answer to_medium from_medium found_in crc
twelve_bytes_of_capacity = refl

pub eight_bytes_of_capacity : calm plain (capacity 8) [] 8
    ≡ record { done = 0; sense = None; blocks = plain.blocks; sent = (0 ∷ 0 ∷ 0 ∷ 0 ∷ 0 ∷ 0 ∷ 0 ∷ 3 ∷ []) ∷ [] }
unfolding refusal target_answer to_medium from_medium found_in crc
eight_bytes_of_capacity = refl

pub no_capacity : calm one (capacity 0) [] 0
    ≡ record { done = 0; sense = None; blocks = one.blocks; sent = ([]) ∷ [] }
unfolding refusal target_answer to_medium from_medium found_in crc
no_capacity = refl

pub capacity_without_room : calm one (capacity 32) [] 31
    ≡ no one 0x24
unfolding refusal target_answer to_medium from_medium found_in crc
capacity_without_room = refl

pub capacity_from_two : calm (unit_of Zero 2) (capacity 32) [] 32
    ≡ record { done = 0; sense = None; blocks = (unit_of Zero 2).blocks; sent = (0 ∷ 0 ∷ 0 ∷ 0 ∷ 0 ∷ 0 ∷ 0 ∷ 5 ∷ 0 ∷ 0 ∷ 2 ∷ 0 ∷ 0 ∷ replicate 19 0) ∷ [] }
unfolding refusal target_answer to_medium from_medium found_in crc
capacity_from_two = refl

-- reads
pub none_read : calm one (ten 0x28 1 2 0) [] 0
    ≡ record { done = 0; sense = None; blocks = one.blocks; sent = [] }
unfolding refusal target_answer to_medium from_medium found_in crc
none_read = refl

pub two_read : calm one (ten 0x28 1 1 2) [] 1040
    ≡ record { done = 2; sense = None; blocks = one.blocks; sent = fresh One 512 1 ∷ fresh One 512 2 ∷ [] }
unfolding refusal target_answer to_medium from_medium found_in crc
two_read = refl

pub data_read : calm three (sixteen 0x88 0 3 1) [] 512
    ≡ record { done = 1; sense = None; blocks = three.blocks; sent = replicate 512 0 ∷ [] }
unfolding refusal target_answer to_medium from_medium found_in crc
data_read = refl

pub type_0_read : calm plain (ten 0x28 0 3 1) [] 512
    ≡ record { done = 1; sense = None; blocks = plain.blocks; sent = replicate 512 0 ∷ [] }
unfolding refusal target_answer to_medium from_medium found_in crc
type_0_read = refl

pub type_2_read : calm two (long 9 1 3 1 3 0 0 0 0) [] 520
    ≡ record { done = 1; sense = None; blocks = two.blocks; sent = fresh Two 512 3 ∷ [] }
unfolding refusal target_answer to_medium from_medium found_in crc
type_2_read = refl

pub first_2_read : calm (unit_of One 2) (ten 0x28 1 2 1) [] 520
    ≡ record { done = 1; sense = None; blocks = (unit_of One 2).blocks; sent = fresh One 512 2 ∷ [] }
unfolding refusal target_answer to_medium from_medium found_in crc
first_2_read = refl

pub tag_of_type_2_wanted : calm two (long 9 1 3 1 4 0 0 0 0) [] 520
    ≡ ends two 11 16 3 (Some 3)
unfolding refusal target_answer to_medium from_medium found_in crc
tag_of_type_2_wanted = refl

pub second_tag_of_type_2_wanted : calm two (long 9 1 1 2 1 0 0 0 0) [] 1040
    ≡ record { done = 2; sense = None; blocks = two.blocks; sent = fresh Two 512 1 ∷ fresh Two 512 2 ∷ [] }
unfolding refusal target_answer to_medium from_medium found_in crc
second_tag_of_type_2_wanted = refl

pub app_tag_wanted : calm two (long 9 1 3 1 3 0x12 0x34 0xFF 0xFF) [] 520
    ≡ ends two 11 16 2 (Some 3)
unfolding refusal target_answer to_medium from_medium found_in crc
app_tag_wanted = refl

pub app_tag_masked : calm two (long 9 1 3 1 3 0x12 0x34 0 0xCB) [] 520
    ≡ record { done = 1; sense = None; blocks = two.blocks; sent = fresh Two 512 3 ∷ [] }
unfolding refusal target_answer to_medium from_medium found_in crc
app_tag_masked = refl

pub app_tag_only_with_all_checks : calm two (long 9 4 3 1 9 0x12 0x34 0xFF 0xFF) [] 520
    ≡ record { done = 1; sense = None; blocks = two.blocks; sent = fresh Two 512 3 ∷ [] }
unfolding refusal target_answer to_medium from_medium found_in crc
app_tag_only_with_all_checks = refl

pub foreign_tag_found : calm (holding one (tagged 0 0 9 ∷ [])) (ten 0x28 1 0 1) [] 520
    ≡ ends (holding one (tagged 0 0 9 ∷ [])) 11 16 3 (Some 0)
unfolding refusal target_answer to_medium from_medium found_in crc
foreign_tag_found = refl

pub foreign_tag_found_under_0 : calm (holding one (tagged 0 0 9 ∷ [])) (ten 0x28 0 0 1) [] 512
    ≡ ends (holding one (tagged 0 0 9 ∷ [])) 11 16 3 (Some 0)
unfolding refusal target_answer to_medium from_medium found_in crc
foreign_tag_found_under_0 = refl

pub foreign_tag_kept_under_0_of_type_2 : calm (holding two (tagged 0 0 9 ∷ [])) (ten 0x28 0 0 1) [] 512
    ≡ record { done = 1; sense = None; blocks = (holding two (tagged 0 0 9 ∷ [])).blocks; sent = one_last ∷ [] }
unfolding refusal target_answer to_medium from_medium found_in crc
foreign_tag_kept_under_0_of_type_2 = refl

pub foreign_tag_kept_under_4 : calm (holding one (tagged 0 0 9 ∷ [])) (ten 0x28 4 0 1) [] 520
    ≡ record { done = 1; sense = None; blocks = (holding one (tagged 0 0 9 ∷ [])).blocks; sent = tagged 0 0 9 ∷ [] }
unfolding refusal target_answer to_medium from_medium found_in crc
foreign_tag_kept_under_4 = refl

pub guard_found_under_4 : calm (holding one ((replicate 512 0 ++ (0 ∷ 1 ∷ 0 ∷ 0 ∷ 0 ∷ 0 ∷ 0 ∷ 0 ∷ [])) ∷ [])) (ten 0x28 4 0 1) [] 520
    ≡ ends (holding one ((replicate 512 0 ++ (0 ∷ 1 ∷ 0 ∷ 0 ∷ 0 ∷ 0 ∷ 0 ∷ 0 ∷ [])) ∷ [])) 11 16 1 (Some 0)
unfolding refusal target_answer to_medium from_medium found_in crc
guard_found_under_4 = refl

pub guard_found_under_0_of_type_3 : calm (holding three ((replicate 512 0 ++ (0 ∷ 1 ∷ 0 ∷ 0 ∷ 0 ∷ 0 ∷ 0 ∷ 0 ∷ [])) ∷ [])) (ten 0x28 0 0 1) [] 512
    ≡ ends (holding three ((replicate 512 0 ++ (0 ∷ 1 ∷ 0 ∷ 0 ∷ 0 ∷ 0 ∷ 0 ∷ 0 ∷ [])) ∷ [])) 11 16 1 (Some 0)
unfolding refusal target_answer to_medium from_medium found_in crc
guard_found_under_0_of_type_3 = refl

pub guard_kept_under_3 : calm (holding one ((replicate 512 0 ++ (0 ∷ 1 ∷ 0 ∷ 0 ∷ 0 ∷ 0 ∷ 0 ∷ 0 ∷ [])) ∷ [])) (ten 0x28 3 0 1) [] 520
    ≡ record { done = 1; sense = None; blocks = (holding one ((replicate 512 0 ++ (0 ∷ 1 ∷ 0 ∷ 0 ∷ 0 ∷ 0 ∷ 0 ∷ 0 ∷ [])) ∷ [])).blocks; sent = (replicate 512 0 ++ (0 ∷ 1 ∷ 0 ∷ 0 ∷ 0 ∷ 0 ∷ 0 ∷ 0 ∷ [])) ∷ [] }
unfolding refusal target_answer to_medium from_medium found_in crc
guard_kept_under_3 = refl

pub escape_of_type_1_sent : calm (holding one ((replicate 512 0 ++ (0 ∷ 1 ∷ 0xFF ∷ 0xFF ∷ 0 ∷ 0 ∷ 0 ∷ 9 ∷ [])) ∷ [])) (ten 0x28 1 0 1) [] 520
    ≡ record { done = 1; sense = None; blocks = (holding one ((replicate 512 0 ++ (0 ∷ 1 ∷ 0xFF ∷ 0xFF ∷ 0 ∷ 0 ∷ 0 ∷ 9 ∷ [])) ∷ [])).blocks; sent = (replicate 512 0 ++ (0 ∷ 1 ∷ 0xFF ∷ 0xFF ∷ 0 ∷ 0 ∷ 0 ∷ 9 ∷ [])) ∷ [] }
unfolding refusal target_answer to_medium from_medium found_in crc
escape_of_type_1_sent = refl

pub half_an_escape_of_type_3_found : calm (holding three ((replicate 512 0 ++ (0 ∷ 1 ∷ 0xFF ∷ 0xFF ∷ 0 ∷ 0 ∷ 0 ∷ 9 ∷ [])) ∷ [])) (ten 0x28 1 0 1) [] 520
    ≡ ends (holding three ((replicate 512 0 ++ (0 ∷ 1 ∷ 0xFF ∷ 0xFF ∷ 0 ∷ 0 ∷ 0 ∷ 9 ∷ [])) ∷ [])) 11 16 1 (Some 0)
unfolding refusal target_answer to_medium from_medium found_in crc
half_an_escape_of_type_3_found = refl

pub escape_of_type_3_sent : calm (holding three ((replicate 512 0 ++ (0 ∷ 1 ∷ 0xFF ∷ 0xFF ∷ 0xFF ∷ 0xFF ∷ 0xFF ∷ 0xFF ∷ [])) ∷ [])) (ten 0x28 1 0 1) [] 520
    ≡ record { done = 1; sense = None; blocks = (holding three ((replicate 512 0 ++ (0 ∷ 1 ∷ 0xFF ∷ 0xFF ∷ 0xFF ∷ 0xFF ∷ 0xFF ∷ 0xFF ∷ [])) ∷ [])).blocks; sent = (replicate 512 0 ++ (0 ∷ 1 ∷ 0xFF ∷ 0xFF ∷ 0xFF ∷ 0xFF ∷ 0xFF ∷ 0xFF ∷ [])) ∷ [] }
unfolding refusal target_answer to_medium from_medium found_in crc
escape_of_type_3_sent = refl

pub read_up_to_a_bad_block : calm (holding one (fresh One 512 0 ∷ tagged 0 0 9 ∷ fresh One 512 2 ∷ [])) (ten 0x28 1 0 3) [] 1560
    ≡ record { done = 1; sense = Some (record { key = 11; asc = 16; ascq = 3; info = Some 1 }); blocks = fresh One 512 0 ∷ tagged 0 0 9 ∷ fresh One 512 2 ∷ []; sent = fresh One 512 0 ∷ [] }
unfolding refusal target_answer to_medium from_medium found_in crc
read_up_to_a_bad_block = refl

pub verified_up_to_a_bad_block : calm (holding one (fresh One 512 0 ∷ tagged 0 0 9 ∷ [])) (sixteen 0x8F 1 0 2) [] 7
    ≡ record { done = 1; sense = Some (record { key = 11; asc = 16; ascq = 3; info = Some 1 }); blocks = fresh One 512 0 ∷ tagged 0 0 9 ∷ []; sent = [] }
unfolding refusal target_answer to_medium from_medium found_in crc
verified_up_to_a_bad_block = refl

pub verified_of_type_2 : calm two (ten 0x2F 0 1 3) [] 7
    ≡ record { done = 3; sense = None; blocks = two.blocks; sent = [] }
unfolding refusal target_answer to_medium from_medium found_in crc
verified_of_type_2 = refl

pub verified_without_labels : ask one (flip 7 0 MediumToTarget 0 1 ∷ shift 7 AdapterToTarget (pos 2) ∷ []) (ten 0x2F 1 3 1) (label 7 0 ∷ []) [] 0
    ≡ record { done = 1; sense = None; blocks = one.blocks; sent = [] }
unfolding refusal target_answer to_medium from_medium found_in crc
verified_without_labels = refl

pub read_stopped : target_answer one [] (ten 0x28 1 1 2) [] [] 1040 (Some (record { at = 1; left = [] }))
    ≡ record { done = 1; sense = Some (record { key = 3; asc = 17; ascq = 0; info = Some 2 }); blocks = one.blocks; sent = fresh One 512 1 ∷ [] }
unfolding refusal target_answer to_medium from_medium found_in crc
read_stopped = refl

pub read_stopped_before_a_bad_block : target_answer (holding one (tagged 0 0 9 ∷ [])) [] (ten 0x28 1 0 1) [] [] 520 (Some (record { at = 0; left = [] }))
    ≡ ends (holding one (tagged 0 0 9 ∷ [])) 3 17 0 (Some 0)
unfolding refusal target_answer to_medium from_medium found_in crc
read_stopped_before_a_bad_block = refl

-- writes
pub one_written : calm one (ten 0x2A 1 2 1) (tagged 0x12 0x34 2) 0
    ≡ record { done = 1; sense = None; blocks = fresh One 512 0 ∷ fresh One 512 1 ∷ tagged 0x12 0x34 2 ∷ fresh One 512 3 ∷ []; sent = [] }
unfolding refusal target_answer to_medium from_medium found_in crc
one_written = refl

pub first_2_written : calm (unit_of One 2) (ten 0x2A 1 3 1) (tagged 0 0 3) 0
    ≡ record { done = 1; sense = None; blocks = fresh One 512 2 ∷ tagged 0 0 3 ∷ fresh One 512 4 ∷ fresh One 512 5 ∷ []; sent = [] }
unfolding refusal target_answer to_medium from_medium found_in crc
first_2_written = refl

pub foreign_tag_not_written : calm one (ten 0x2A 1 2 1) (tagged 0 0 3) 0
    ≡ ends one 11 16 3 (Some 2)
unfolding refusal target_answer to_medium from_medium found_in crc
foreign_tag_not_written = refl

pub foreign_tag_written_under_3 : calm one (ten 0x2A 3 2 1) (tagged 0 0 9) 0
    ≡ record { done = 1; sense = None; blocks = fresh One 512 0 ∷ fresh One 512 1 ∷ tagged 0 0 9 ∷ fresh One 512 3 ∷ []; sent = [] }
unfolding refusal target_answer to_medium from_medium found_in crc
foreign_tag_written_under_3 = refl

pub tuple_made_under_0 : calm one (ten 0x2A 0 2 1) one_last 0
    ≡ record { done = 1; sense = None; blocks = fresh One 512 0 ∷ fresh One 512 1 ∷ tagged 0 0 2 ∷ fresh One 512 3 ∷ []; sent = [] }
unfolding refusal target_answer to_medium from_medium found_in crc
tuple_made_under_0 = refl

pub tuple_made_under_0_of_type_3 : calm (holding three (fresh Three 512 0 ∷ [])) (ten 0x2A 0 0 1) one_last 0
    ≡ record { done = 1; sense = None; blocks = tagged 0 0 0 ∷ []; sent = [] }
unfolding refusal target_answer to_medium from_medium found_in crc
tuple_made_under_0_of_type_3 = refl

pub data_written : calm (holding plain (replicate 512 0 ∷ [])) (ten 0x2A 0 0 1) one_last 0
    ≡ record { done = 1; sense = None; blocks = one_last ∷ []; sent = [] }
unfolding refusal target_answer to_medium from_medium found_in crc
data_written = refl

pub tag_of_type_2_written : calm two (long 11 1 1 2 9 0x12 0x34 0xFF 0xFF) (tagged 0x12 0x34 9 ++ tagged 0x12 0x34 10) 0
    ≡ record { done = 2; sense = None; blocks = fresh Two 512 0 ∷ tagged 0x12 0x34 9 ∷ tagged 0x12 0x34 10 ∷ fresh Two 512 3 ∷ []; sent = [] }
unfolding refusal target_answer to_medium from_medium found_in crc
tag_of_type_2_written = refl

pub first_of_two_written : calm one (ten 0x2A 1 2 2) (tagged 0 0 2 ++ tagged 0 0 2) 0
    ≡ record { done = 1; sense = Some (record { key = 11; asc = 16; ascq = 3; info = Some 3 }); blocks = fresh One 512 0 ∷ fresh One 512 1 ∷ tagged 0 0 2 ∷ fresh One 512 3 ∷ []; sent = [] }
unfolding refusal target_answer to_medium from_medium found_in crc
first_of_two_written = refl

pub write_stopped : target_answer one [] (ten 0x2A 1 2 1) [] (tagged 0 0 2) 0 (Some (record { at = 0; left = 1 ∷ 2 ∷ [] }))
    ≡ record { done = 0; sense = Some (record { key = 3; asc = 12; ascq = 0; info = Some 2 }); blocks = fresh One 512 0 ∷ fresh One 512 1 ∷ (1 ∷ 2 ∷ []) ∷ fresh One 512 3 ∷ []; sent = [] }
unfolding refusal target_answer to_medium from_medium found_in crc
write_stopped = refl

-- alterations and shifts
pub flip_on_the_wire_found : ask one (flip 7 1 AdapterToTarget 0 1 ∷ []) (ten 0x2A 1 2 2) (label 7 0 ∷ label 7 1 ∷ []) (tagged 0 0 2 ++ tagged 0 0 3) 0
    ≡ record { done = 1; sense = Some (record { key = 11; asc = 16; ascq = 1; info = Some 3 }); blocks = fresh One 512 0 ∷ fresh One 512 1 ∷ tagged 0 0 2 ∷ fresh One 512 3 ∷ []; sent = [] }
unfolding refusal target_answer to_medium from_medium found_in crc
flip_on_the_wire_found = refl

pub flips_that_cancel : ask one (flip 7 0 AdapterToTarget 0 1 ∷ flip 7 0 AdapterToTarget 0 1 ∷ []) (ten 0x2A 1 2 1) (label 7 0 ∷ label 7 1 ∷ []) (tagged 0 0 2) 0
    ≡ record { done = 1; sense = None; blocks = fresh One 512 0 ∷ fresh One 512 1 ∷ tagged 0 0 2 ∷ fresh One 512 3 ∷ []; sent = [] }
unfolding refusal target_answer to_medium from_medium found_in crc
flips_that_cancel = refl

pub flip_to_the_medium_stored : ask one (flip 7 0 TargetToMedium 519 1 ∷ []) (ten 0x2A 1 2 1) (label 7 0 ∷ label 7 1 ∷ []) (tagged 0 0 2) 0
    ≡ record { done = 1; sense = None; blocks = fresh One 512 0 ∷ fresh One 512 1 ∷ tagged 0 0 3 ∷ fresh One 512 3 ∷ []; sent = [] }
unfolding refusal target_answer to_medium from_medium found_in crc
flip_to_the_medium_stored = refl

-- Of the block that is written the first byte is stored, the rest is that of the block that stood there.
pub first_byte_stored : ask one (flip 7 0 TargetToMedium 0 1 ∷ keep 7 0 1 ∷ []) (ten 0x2A 1 2 1) (label 7 0 ∷ label 7 1 ∷ []) (tagged 0 0 2) 0
    ≡ record { done = 1; sense = None; blocks = fresh One 512 0 ∷ fresh One 512 1 ∷ (1 ∷ replicate 511 0 ++ (0 ∷ 0 ∷ 0 ∷ 0 ∷ 0 ∷ 0 ∷ 0 ∷ 2 ∷ [])) ∷ fresh One 512 3 ∷ []; sent = [] }
unfolding refusal target_answer to_medium from_medium found_in crc
first_byte_stored = refl

-- and 512: the data of the one, with the tuple of the other
pub tuple_not_stored : ask one (keep 7 0 512 ∷ []) (ten 0x2A 1 2 1) (label 7 0 ∷ label 7 1 ∷ []) (tagged 0 0 2) 0
    ≡ record { done = 1; sense = None; blocks = fresh One 512 0 ∷ fresh One 512 1 ∷ (one_last ++ (0 ∷ 0 ∷ 0 ∷ 0 ∷ 0 ∷ 0 ∷ 0 ∷ 2 ∷ [])) ∷ fresh One 512 3 ∷ []; sent = [] }
unfolding refusal target_answer to_medium from_medium found_in crc
tuple_not_stored = refl

-- Of two blocks the first is lost, and both are done.
pub first_lost : ask one (keep 7 0 0 ∷ []) (ten 0x2A 1 2 2) (label 7 0 ∷ label 7 1 ∷ []) (tagged 0 0 2 ++ tagged 0 0 3) 0
    ≡ record { done = 2; sense = None; blocks = fresh One 512 0 ∷ fresh One 512 1 ∷ fresh One 512 2 ∷ tagged 0 0 3 ∷ []; sent = [] }
unfolding refusal target_answer to_medium from_medium found_in crc
first_lost = refl

-- The first line of a block counts, and the flip comes before it.
pub flip_behind_what_is_kept : ask one (flip 7 0 TargetToMedium 519 1 ∷ keep 7 0 519 ∷ keep 7 0 0 ∷ []) (ten 0x2A 1 2 1) (label 7 0 ∷ label 7 1 ∷ []) (tagged 0 0 2) 0
    ≡ record { done = 1; sense = None; blocks = fresh One 512 0 ∷ fresh One 512 1 ∷ tagged 0 0 2 ∷ fresh One 512 3 ∷ []; sent = [] }
unfolding refusal target_answer to_medium from_medium found_in crc
flip_behind_what_is_kept = refl

pub flip_before_what_is_kept : ask one (flip 7 0 TargetToMedium 511 1 ∷ keep 7 0 512 ∷ []) (ten 0x2A 1 2 1) (label 7 0 ∷ label 7 1 ∷ []) (tagged 0 0 2) 0
    ≡ record { done = 1; sense = None; blocks = one.blocks; sent = [] }
unfolding refusal target_answer to_medium from_medium found_in crc
flip_before_what_is_kept = refl

-- Without a label it is stored whole.
pub nothing_kept_of_another : ask one (keep 7 0 0 ∷ []) (ten 0x2A 1 2 1) [] (tagged 0 0 2) 0
    ≡ record { done = 1; sense = None; blocks = fresh One 512 0 ∷ fresh One 512 1 ∷ tagged 0 0 2 ∷ fresh One 512 3 ∷ []; sent = [] }
unfolding refusal target_answer to_medium from_medium found_in crc
nothing_kept_of_another = refl

-- A store call that fails leaves what it left.
pub lost_and_stopped : target_answer one (keep 7 0 0 ∷ []) (ten 0x2A 1 2 1) (label 7 0 ∷ []) (tagged 0 0 2) 0 (Some (record { at = 0; left = 1 ∷ 2 ∷ [] }))
    ≡ record { done = 0; sense = Some (record { key = 3; asc = 12; ascq = 0; info = Some 2 }); blocks = fresh One 512 0 ∷ fresh One 512 1 ∷ (1 ∷ 2 ∷ []) ∷ fresh One 512 3 ∷ []; sent = [] }
unfolding refusal target_answer to_medium from_medium found_in crc
lost_and_stopped = refl

-- Of two blocks the medium can't store the second: the first is done, and what stood in the other's place stays.
pub second_not_stored : ask one (fail 7 1 TargetToMedium ∷ []) (ten 0x2A 1 2 2) (label 7 0 ∷ label 7 1 ∷ []) (tagged 0 0 2 ++ tagged 0 0 3) 0
    ≡ record { done = 1; sense = Some (record { key = 3; asc = 12; ascq = 0; info = Some 3 }); blocks = fresh One 512 0 ∷ fresh One 512 1 ∷ tagged 0 0 2 ∷ fresh One 512 3 ∷ []; sent = [] }
unfolding refusal target_answer to_medium from_medium found_in crc
second_not_stored = refl

pub second_not_sent : ask one (fail 7 1 MediumToTarget ∷ []) (ten 0x28 1 2 2) (label 7 0 ∷ label 7 1 ∷ []) [] 1040
    ≡ record { done = 1; sense = Some (record { key = 3; asc = 17; ascq = 0; info = Some 3 }); blocks = one.blocks; sent = fresh One 512 2 ∷ [] }
unfolding refusal target_answer to_medium from_medium found_in crc
second_not_sent = refl

-- Its crossing says nothing.
pub not_sent_under_another_crossing : ask one (fail 7 0 AdapterToTarget ∷ []) (ten 0x28 1 2 2) (label 7 0 ∷ label 7 1 ∷ []) [] 1040
    ≡ ends one 3 17 0 (Some 2)
unfolding refusal target_answer to_medium from_medium found_in crc
not_sent_under_another_crossing = refl

-- A write comes to the check before the medium, a read behind it.
pub found_before_it_fails : ask one (flip 7 0 AdapterToTarget 0 1 ∷ fail 7 0 TargetToMedium ∷ []) (ten 0x2A 1 2 1) (label 7 0 ∷ label 7 1 ∷ []) (tagged 0 0 2) 0
    ≡ ends one 11 16 1 (Some 2)
unfolding refusal target_answer to_medium from_medium found_in crc
found_before_it_fails = refl

pub failed_before_it_is_found : ask one (flip 7 0 MediumToTarget 0 1 ∷ fail 7 0 MediumToTarget ∷ []) (ten 0x28 1 2 1) (label 7 0 ∷ label 7 1 ∷ []) [] 520
    ≡ ends one 3 17 0 (Some 2)
unfolding refusal target_answer to_medium from_medium found_in crc
failed_before_it_is_found = refl

-- Of a block that isn't stored nothing is kept, and no store call is made that could fail.
pub lost_and_failed : target_answer one (keep 7 0 1 ∷ fail 7 0 TargetToMedium ∷ []) (ten 0x2A 1 2 1) (label 7 0 ∷ []) (tagged 0 0 2) 0 (Some (record { at = 0; left = 1 ∷ 2 ∷ [] }))
    ≡ ends one 3 12 0 (Some 2)
unfolding refusal target_answer to_medium from_medium found_in crc
lost_and_failed = refl

-- Without a label no line says so.
pub nothing_failed_of_another : ask one (fail 7 0 TargetToMedium ∷ []) (ten 0x2A 1 2 1) [] (tagged 0 0 2) 0
    ≡ record { done = 1; sense = None; blocks = fresh One 512 0 ∷ fresh One 512 1 ∷ tagged 0 0 2 ∷ fresh One 512 3 ∷ []; sent = [] }
unfolding refusal target_answer to_medium from_medium found_in crc
nothing_failed_of_another = refl

pub verified_where_a_read_fails : ask one (fail 7 0 MediumToTarget ∷ []) (ten 0x2F 1 3 1) (label 7 0 ∷ []) [] 0
    ≡ record { done = 1; sense = None; blocks = one.blocks; sent = [] }
unfolding refusal target_answer to_medium from_medium found_in crc
verified_where_a_read_fails = refl

pub flip_of_a_tuple_that_is_made : ask one (flip 7 0 TargetToMedium 519 1 ∷ flip 7 0 AdapterToTarget 519 1 ∷ []) (ten 0x2A 0 2 1) (label 7 0 ∷ label 7 1 ∷ []) one_last 0
    ≡ record { done = 1; sense = None; blocks = fresh One 512 0 ∷ fresh One 512 1 ∷ tagged 0 0 3 ∷ fresh One 512 3 ∷ []; sent = [] }
unfolding refusal target_answer to_medium from_medium found_in crc
flip_of_a_tuple_that_is_made = refl

pub flip_from_the_medium_found : ask one (flip 7 0 MediumToTarget 0 1 ∷ []) (ten 0x28 1 2 1) (label 7 0 ∷ label 7 1 ∷ []) [] 520
    ≡ ends one 11 16 1 (Some 2)
unfolding refusal target_answer to_medium from_medium found_in crc
flip_from_the_medium_found = refl

pub flip_behind_the_check_sent : ask one (flip 7 0 TargetToAdapter 511 1 ∷ []) (ten 0x28 1 2 1) (label 7 0 ∷ label 7 1 ∷ []) [] 520
    ≡ record { done = 1; sense = None; blocks = one.blocks; sent = (one_last ++ (0 ∷ 0 ∷ 0 ∷ 0 ∷ 0 ∷ 0 ∷ 0 ∷ 2 ∷ [])) ∷ [] }
unfolding refusal target_answer to_medium from_medium found_in crc
flip_behind_the_check_sent = refl

pub flip_past_the_end : ask one (flip 7 0 TargetToAdapter 512 1 ∷ []) (ten 0x28 0 2 1) (label 7 0 ∷ label 7 1 ∷ []) [] 512
    ≡ record { done = 1; sense = None; blocks = one.blocks; sent = replicate 512 0 ∷ [] }
unfolding refusal target_answer to_medium from_medium found_in crc
flip_past_the_end = refl

pub flip_of_another_label : ask one (flip 7 0 MediumToTarget 0 1 ∷ []) (ten 0x28 1 2 1) (label 6 0 ∷ label 7 0 ∷ []) [] 520
    ≡ record { done = 1; sense = None; blocks = one.blocks; sent = fresh One 512 2 ∷ [] }
unfolding refusal target_answer to_medium from_medium found_in crc
flip_of_another_label = refl

pub no_label_for_the_second : ask one (flip 7 1 MediumToTarget 0 1 ∷ []) (ten 0x28 1 2 2) (label 7 0 ∷ []) [] 1040
    ≡ record { done = 2; sense = None; blocks = one.blocks; sent = fresh One 512 2 ∷ fresh One 512 3 ∷ [] }
unfolding refusal target_answer to_medium from_medium found_in crc
no_label_for_the_second = refl

pub shift_on_the_wire : ask one (shift 7 AdapterToTarget (negsuc 0) ∷ []) (ten 0x28 1 3 1) (label 7 0 ∷ label 7 1 ∷ []) [] 520
    ≡ record { done = 1; sense = None; blocks = one.blocks; sent = fresh One 512 2 ∷ [] }
unfolding refusal target_answer to_medium from_medium found_in crc
shift_on_the_wire = refl

pub shift_on_the_wire_found : ask one (shift 7 AdapterToTarget (pos 1) ∷ []) (ten 0x2A 1 2 1) (label 7 0 ∷ label 7 1 ∷ []) (tagged 0 0 2) 0
    ≡ ends one 11 16 3 (Some 3)
unfolding refusal target_answer to_medium from_medium found_in crc
shift_on_the_wire_found = refl

pub tuple_made_at_the_shifted_address : ask one (shift 7 AdapterToTarget (negsuc 0) ∷ []) (ten 0x2A 0 3 1) (label 7 0 ∷ label 7 1 ∷ []) one_last 0
    ≡ record { done = 1; sense = None; blocks = fresh One 512 0 ∷ fresh One 512 1 ∷ tagged 0 0 2 ∷ fresh One 512 3 ∷ []; sent = [] }
unfolding refusal target_answer to_medium from_medium found_in crc
tuple_made_at_the_shifted_address = refl

pub shift_on_the_medium_found : ask one (shift 7 MediumToTarget (negsuc 0) ∷ []) (ten 0x28 1 3 1) (label 7 0 ∷ label 7 1 ∷ []) [] 520
    ≡ ends one 11 16 3 (Some 3)
unfolding refusal target_answer to_medium from_medium found_in crc
shift_on_the_medium_found = refl

pub shift_on_the_medium_kept : ask one (shift 7 MediumToTarget (pos 1) ∷ []) (ten 0x28 3 2 1) (label 7 0 ∷ label 7 1 ∷ []) [] 520
    ≡ record { done = 1; sense = None; blocks = one.blocks; sent = fresh One 512 3 ∷ [] }
unfolding refusal target_answer to_medium from_medium found_in crc
shift_on_the_medium_kept = refl

pub none_fetched_from_outside : ask one (shift 7 MediumToTarget (pos 9) ∷ []) (ten 0x28 1 3 0) (label 7 0 ∷ label 7 1 ∷ []) [] 0
    ≡ record { done = 0; sense = None; blocks = one.blocks; sent = [] }
unfolding refusal target_answer to_medium from_medium found_in crc
none_fetched_from_outside = refl

-- A write goes to its address, is checked there, and is stored at another.
pub write_stored_elsewhere : ask one (shift 7 TargetToMedium (negsuc 0) ∷ []) (ten 0x2A 1 3 1) (label 7 0 ∷ label 7 1 ∷ []) (tagged 0 0 3) 0
    ≡ record { done = 1; sense = None; blocks = fresh One 512 0 ∷ fresh One 512 1 ∷ tagged 0 0 3 ∷ fresh One 512 3 ∷ []; sent = [] }
unfolding refusal target_answer to_medium from_medium found_in crc
write_stored_elsewhere = refl

pub tuple_made_at_its_own_address : ask one (shift 7 TargetToMedium (pos 1) ∷ []) (ten 0x2A 0 2 1) (label 7 0 ∷ label 7 1 ∷ []) one_last 0
    ≡ record { done = 1; sense = None; blocks = fresh One 512 0 ∷ fresh One 512 1 ∷ fresh One 512 2 ∷ tagged 0 0 2 ∷ []; sent = [] }
unfolding refusal target_answer to_medium from_medium found_in crc
tuple_made_at_its_own_address = refl

-- All blocks of the command move.
pub two_stored_elsewhere : ask one (shift 7 TargetToMedium (pos 1) ∷ []) (ten 0x2A 1 1 2) (label 7 0 ∷ label 7 1 ∷ []) (tagged 0 0 1 ++ tagged 0 0 2) 0
    ≡ record { done = 2; sense = None; blocks = fresh One 512 0 ∷ fresh One 512 1 ∷ tagged 0 0 1 ∷ tagged 0 0 2 ∷ []; sent = [] }
unfolding refusal target_answer to_medium from_medium found_in crc
two_stored_elsewhere = refl

-- What isn't kept of it is that of the block that stood where it is stored.
pub front_stored_elsewhere : ask one (shift 7 TargetToMedium (pos 1) ∷ keep 7 0 512 ∷ []) (ten 0x2A 1 2 1) (label 7 0 ∷ label 7 1 ∷ []) (tagged 0 0 2) 0
    ≡ record { done = 1; sense = None; blocks = fresh One 512 0 ∷ fresh One 512 1 ∷ fresh One 512 2 ∷ (one_last ++ (0 ∷ 0 ∷ 0 ∷ 0 ∷ 0 ∷ 0 ∷ 0 ∷ 3 ∷ [])) ∷ []; sent = [] }
unfolding refusal target_answer to_medium from_medium found_in crc
front_stored_elsewhere = refl

-- The sense names the address that the target was told.
pub stopped_elsewhere : target_answer one (shift 7 TargetToMedium (pos 1) ∷ []) (ten 0x2A 1 2 1) (label 7 0 ∷ []) (tagged 0 0 2) 0 (Some (record { at = 0; left = 1 ∷ 2 ∷ [] }))
    ≡ record { done = 0; sense = Some (record { key = 3; asc = 12; ascq = 0; info = Some 2 }); blocks = fresh One 512 0 ∷ fresh One 512 1 ∷ fresh One 512 2 ∷ (1 ∷ 2 ∷ []) ∷ []; sent = [] }
unfolding refusal target_answer to_medium from_medium found_in crc
stopped_elsewhere = refl

pub none_stored_past_the_last : ask one (shift 7 TargetToMedium (pos 1) ∷ []) (ten 0x2A 1 3 1) (label 7 0 ∷ label 7 1 ∷ []) (tagged 0 0 3) 0 ≡ no one 0x21
unfolding refusal target_answer to_medium from_medium found_in crc
none_stored_past_the_last = refl

pub none_stored_before_the_first : ask one (shift 7 TargetToMedium (negsuc 0) ∷ []) (ten 0x2A 1 0 2) (label 7 0 ∷ label 7 1 ∷ []) (tagged 0 0 0 ++ tagged 0 0 1) 0 ≡ no one 0x21
unfolding refusal target_answer to_medium from_medium found_in crc
none_stored_before_the_first = refl

-- and only then are the host's bytes counted
pub outside_before_the_room : ask one (shift 7 TargetToMedium (pos 1) ∷ []) (ten 0x2A 1 3 1) (label 7 0 ∷ []) [] 0 ≡ no one 0x21
unfolding refusal target_answer to_medium from_medium found_in crc
outside_before_the_room = refl

pub no_block_moved : ask one (shift 7 TargetToMedium (pos 9) ∷ []) (ten 0x2A 1 3 0) (label 7 0 ∷ label 7 1 ∷ []) [] 0
    ≡ record { done = 0; sense = None; blocks = one.blocks; sent = [] }
unfolding refusal target_answer to_medium from_medium found_in crc
no_block_moved = refl

abbrev spec : PiType → (blocks size first : ℕ) → UnitSpec
spec ty blocks size first = record { ty = ty; blocks = blocks; size = size; first = first }

-- headers and images
abbrev two_units : List UnitSpec
two_units = spec One 256 512 0 ∷ spec One 256 512 0 ∷ []

abbrev header_of_two : List ℕ
header_of_two =
    0x44 ∷ 0x49 ∷ 0x58 ∷ 0x49 ∷ 0x4D ∷ 0x47 ∷ 0x30 ∷ 0x31 ∷ 0 ∷ 2 ∷ 0 ∷ 0 ∷ 0 ∷ 0 ∷ 0 ∷ 0
    ∷ 1 ∷ 0 ∷ 0 ∷ 0 ∷ 0 ∷ 0 ∷ 0 ∷ 0 ∷ 0 ∷ 0 ∷ 0 ∷ 0 ∷ 0 ∷ 0 ∷ 1 ∷ 0
    ∷ 1 ∷ 0 ∷ 0 ∷ 0 ∷ 0 ∷ 0 ∷ 0 ∷ 0 ∷ 0 ∷ 0 ∷ 0 ∷ 0 ∷ 0 ∷ 0 ∷ 1 ∷ 0
    ∷ replicate 464 0

pub two_units_written : header (version_for two_units) two_units ≡ header_of_two
unfolding header
two_units_written = refl

pub two_units_read : specs_in First header_of_two ≡ two_units
unfolding specs_in
two_units_read = refl

pub two_units_right : is_header First header_of_two ≡ true
unfolding header specs_in is_header
two_units_right = refl

pub two_units_long : image_size two_units ≡ 266752
two_units_long = refl

abbrev one_high : List UnitSpec
one_high = spec One 16 512 4294967288 ∷ []

pub one_high_written : take 48 (header (version_for one_high) one_high)
    ≡ 0x44 ∷ 0x49 ∷ 0x58 ∷ 0x49 ∷ 0x4D ∷ 0x47 ∷ 0x30 ∷ 0x32 ∷ 0 ∷ 1 ∷ 0 ∷ 0 ∷ 0 ∷ 0 ∷ 0 ∷ 0
    ∷ 1 ∷ 9 ∷ 0 ∷ 0 ∷ 0 ∷ 0 ∷ 0 ∷ 0 ∷ 0 ∷ 0 ∷ 0 ∷ 0 ∷ 0 ∷ 0 ∷ 0 ∷ 0x10
    ∷ 0 ∷ 0 ∷ 0 ∷ 0 ∷ 0xFF ∷ 0xFF ∷ 0xFF ∷ 0xF8 ∷ 0 ∷ 0 ∷ 0 ∷ 0 ∷ 0 ∷ 0 ∷ 0 ∷ 0 ∷ []
unfolding header
one_high_written = refl

pub one_high_long : image_size one_high ≡ 8832
one_high_long = refl

pub large_long : image_size (spec Two 8 4096 0 ∷ []) ≡ 33344
large_long = refl

-- the header of one unit in version 2, with this byte in place of its size exponent
abbrev with_exponent : ℕ → List ℕ
with_exponent x = 0x44 ∷ 0x49 ∷ 0x58 ∷ 0x49 ∷ 0x4D ∷ 0x47 ∷ 0x30 ∷ 0x32 ∷ 0 ∷ 1 ∷ 0 ∷ 0 ∷ 0 ∷ 0 ∷ 0 ∷ 0
    ∷ 2 ∷ x ∷ 0 ∷ 0 ∷ 0 ∷ 0 ∷ 0 ∷ 0 ∷ 0 ∷ 0 ∷ 0 ∷ 0 ∷ 0 ∷ 0 ∷ 0 ∷ 8 ∷ replicate 480 0

pub exponent_12 : is_header Second (with_exponent 12) ≡ true
unfolding header specs_in is_header
exponent_12 = refl

pub exponent_10 : is_header Second (with_exponent 10) ≡ false
unfolding header specs_in is_header
exponent_10 = refl

-- a header of version 1 with these bytes for the number of units, the type and the last byte
abbrev with_bytes : (count ty last : ℕ) → List ℕ
with_bytes count ty last = 0x44 ∷ 0x49 ∷ 0x58 ∷ 0x49 ∷ 0x4D ∷ 0x47 ∷ 0x30 ∷ 0x31 ∷ 0 ∷ count ∷ 0 ∷ 0 ∷ 0 ∷ 0 ∷ 0 ∷ 0
    ∷ ty ∷ 0 ∷ 0 ∷ 0 ∷ 0 ∷ 0 ∷ 0 ∷ 0 ∷ 0 ∷ 0 ∷ 0 ∷ 0 ∷ 0 ∷ 0 ∷ 0 ∷ 8 ∷ (replicate 479 0 ++ (last ∷ []))

pub one_unit : is_header First (with_bytes 1 3 0) ≡ true
unfolding header specs_in is_header
one_unit = refl

pub no_unit : is_header First (with_bytes 0 0 0) ≡ false
unfolding header specs_in is_header
no_unit = refl

pub nine_units : is_header First (with_bytes 9 3 0) ≡ false
unfolding header specs_in is_header
nine_units = refl

pub type_4 : is_header First (with_bytes 1 4 0) ≡ false
unfolding header specs_in is_header
type_4 = refl

pub last_byte : is_header First (with_bytes 1 3 1) ≡ false
unfolding header specs_in is_header
last_byte = refl

abbrev small : List UnitSpec
small = spec Two 2 512 0 ∷ spec Zero 1 512 0 ∷ []

pub small_long : length (formatted small) ≡ 2064
unfolding header formatted
small_long = refl

pub small_found : units_in small (formatted small)
    ≡ record { ty = Two; size = 512; first = 0; blocks = fresh Two 512 0 ∷ fresh Two 512 1 ∷ [] } ∷ record { ty = Zero; size = 512; first = 0; blocks = replicate 512 0 ∷ [] } ∷ []
unfolding header formatted
small_found = refl

pub small_migrated : units_in (specs_in Second (take 512 (migrated small (formatted small)))) (migrated small (formatted small)) ≡ units_in small (formatted small)
unfolding header specs_in formatted
small_migrated = refl

pub wrapped : (fresh One 512 4294967297) ≡ (replicate 512 0 ++ (0 ∷ 0 ∷ 0 ∷ 0 ∷ 0 ∷ 0 ∷ 0 ∷ 1 ∷ []))
wrapped = refl
