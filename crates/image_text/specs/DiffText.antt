use Rattle.std.specs.Prelude.{ℕ, ◌+◌, ◌-◌, ◌^◌, Bool, false, not, eqb, leb, ◌&&◌, ◌||◌, if◌then◌else◌, List, [], ◌∷◌, ◌++◌, length, codes, decimal}
use Rattle.std.specs.Str.{bytes_eq}
use Rattle.pi_tuple.specs.Finds.{has_ref_tag, is_zero}
use Rattle.pi_tuple.specs.Tuples.{ref_tag}
use Rattle.pi_tuple.specs.declared.checks.PiType.{PiType}
use Rattle.pi_tuple.specs.declared.tuple.Tuple.{Tuple}
use Rattle.rig_api.specs.Frames.{data_of, tuple_of}
use Rattle.image_text.specs.ShowText.{one_if}
use Rattle.image_text.specs.declared.diff.WhatDiffers.{WhatDiffers}
use Rattle.image_text.specs.declared.diff.Pair.{Pair}
use Rattle.image_text.specs.declared.unlike.Unlike.{Unlike}
use Rattle.std.specs.Int.{w16, w32, to_be_bytes}
use Rattle.hex.specs.Hex.{encode_lower}

-- What differs of two stored blocks, and the text that tells it of the blocks of two places.

-- how far a tag lies behind the low 32 bits of an address, around 2^32
abbrev pub distance : (tag low : ℕ) → ℕ
distance tag low = if leb low tag then tag - low else 2 ^ 32 + tag - low

-- what a reference tag counts as: in types 1 and 2 its distance from the low 32 bits of its own address, in type 3 itself
abbrev pub counted_tag : PiType → (lba tag : ℕ) → ℕ
counted_tag ty lba tag = if has_ref_tag ty then distance tag (ref_tag lba) else tag

-- Both units have tuples.
abbrev pub have_tuples : Pair → Bool
have_tuples p = not (is_zero p.unit.ty) && not (is_zero p.other_unit.ty)

-- what differs of the tuples of two blocks at these addresses, with what is known of their data
abbrev pub tuples_differ : Pair → (content : Bool) → (lba other : ℕ) → (one two : Tuple) → WhatDiffers
tuples_differ p content lba other one two = record {
  content = content;
  guard = not (eqb one.guard two.guard);
  app = not (eqb one.app two.app);
  tag = not (eqb (counted_tag p.unit.ty lba one.rtag) (counted_tag p.other_unit.ty other two.rtag));
}

-- the data differ, or don't, and there are no tuples to compare
abbrev pub data_alone : Bool → WhatDiffers
data_alone content = record { content = content; guard = false; app = false; tag = false }

-- the data of two blocks differ
abbrev pub data_differ : Pair → (one two : List ℕ) → Bool
data_differ p one two = not (bytes_eq (data_of p.unit.size one) (data_of p.other_unit.size two))

-- what differs of two stored blocks at these addresses: data and, where both units have tuples, guards, application tags and reference tags
abbrev pub differences : Pair → (lba other : ℕ) → (one two : List ℕ) → WhatDiffers
differences p lba other one two =
    if have_tuples p then tuples_differ p (data_differ p one two) lba other (tuple_of p.unit.size one) (tuple_of p.other_unit.size two) else data_alone (data_differ p one two)

-- Something differs.
abbrev pub differs : WhatDiffers → Bool
differs d = d.content || (d.guard || (d.app || d.tag))

-- ---- in how many bytes data differ, and in which first

abbrev pub no_byte : Unlike
no_byte = record { count = 0; at = 0; one = 0; two = 0 }

-- with two bytes that differ at this place
abbrev pub with_unlike : Unlike → (at x y : ℕ) → Unlike
with_unlike u at x y = if eqb u.count 0 then record { count = 1; at = at; one = x; two = y } else record { count = u.count + 1; at = u.at; one = u.one; two = u.two }

-- with two bytes at this place
abbrev pub with_bytes : Unlike → (at x y : ℕ) → Unlike
with_bytes u at x y = if eqb x y then u else with_unlike u at x y

-- with those of two texts, from this place on
abbrev pub unlike_from : Unlike → (at : ℕ) → (ones twos : List ℕ) → Unlike
unlike_from u at [] twos = u
unlike_from u at (x ∷ xs) [] = u
unlike_from u at (x ∷ xs) (y ∷ ys) = unlike_from (with_bytes u at x y) (at + 1) xs ys

-- of two texts
abbrev pub unlike_of : (ones twos : List ℕ) → Unlike
unlike_of ones twos = unlike_from no_byte 0 ones twos

-- ---- the words

abbrev pub text_if : Bool → List ℕ → List ℕ
text_if differ text = if differ then text else []

-- what both have
abbrev pub values_text : (one two : List ℕ) → List ℕ
values_text one two = codes " " ++ (encode_lower one ++ (codes " " ++ encode_lower two))

abbrev pub counted_text : (word : List ℕ) → ℕ → List ℕ
counted_text word n = word ++ decimal n

-- in how many bytes the data differ, where first, and what both have there
abbrev pub content_text : Unlike → List ℕ
content_text u = counted_text (codes " data ") u.count ++ (counted_text (codes " at ") u.at ++ values_text (u.one ∷ []) (u.two ∷ []))

abbrev pub field_text : (differ : Bool) → (word one two : List ℕ) → List ℕ
field_text differ word one two = text_if differ (word ++ values_text one two)

-- each field of the tuples that differs, with what both have
abbrev pub fields_text : WhatDiffers → (one two : Tuple) → List ℕ
fields_text d one two =
    field_text d.guard (codes " guard") (to_be_bytes w16 one.guard) (to_be_bytes w16 two.guard) ++ (field_text d.app (codes " app") (to_be_bytes w16 one.app) (to_be_bytes w16 two.app) ++
    field_text d.tag (codes " ref") (to_be_bytes w32 one.rtag) (to_be_bytes w32 two.rtag))

-- what differs of two blocks, in this order
abbrev pub what_text : Pair → WhatDiffers → (one two : List ℕ) → List ℕ
what_text p d one two =
    text_if d.content (content_text (unlike_of (data_of p.unit.size one) (data_of p.other_unit.size two))) ++ text_if (have_tuples p) (fields_text d (tuple_of p.unit.size one) (tuple_of p.other_unit.size two))

-- DEV LBA
abbrev pub side_text : (dev lba : ℕ) → List ℕ
side_text dev lba = decimal dev ++ (codes " " ++ decimal lba)

-- DEV LBA DEV LBA WHAT .., where something differs, else nothing
abbrev pub line_of : Pair → (lba other : ℕ) → WhatDiffers → (one two : List ℕ) → List ℕ
line_of p lba other d one two = if differs d then side_text p.dev lba ++ (codes " " ++ (side_text p.other_dev other ++ (what_text p d one two ++ codes "\n"))) else []

-- the line of two stored blocks, where they differ
abbrev pub diff_line : Pair → (lba other : ℕ) → (one two : List ℕ) → List ℕ
diff_line p lba other one two = line_of p lba other (differences p lba other one two) one two

abbrev pub diff_first : List ℕ
diff_first = codes "dix diff 1\n"

-- a line for each two blocks that differ, from these addresses on
abbrev pub diff_lines : Pair → (lba other : ℕ) → (ones twos : List (List ℕ)) → List ℕ
diff_lines p lba other [] twos = []
diff_lines p lba other (one ∷ ones) [] = []
diff_lines p lba other (one ∷ ones) (two ∷ twos) = diff_line p lba other one two ++ diff_lines p (lba + 1) (other + 1) ones twos

-- how many of these blocks differ
abbrev pub count_differ : Pair → (lba other : ℕ) → (ones twos : List (List ℕ)) → ℕ
count_differ p lba other [] twos = 0
count_differ p lba other (one ∷ ones) [] = 0
count_differ p lba other (one ∷ ones) (two ∷ twos) = one_if (differs (differences p lba other one two)) + count_differ p (lba + 1) (other + 1) ones twos

abbrev pub compared_line : (count differ : ℕ) → List ℕ
compared_line count differ = codes "compared " ++ (decimal count ++ (codes " differ " ++ (decimal differ ++ codes "\n")))

-- the text of these blocks of two units, the first of which have these addresses
abbrev pub diff_text : Pair → (first other : ℕ) → (ones twos : List (List ℕ)) → List ℕ
diff_text p first other ones twos = diff_first ++ (diff_lines p first other ones twos ++ compared_line (length ones) (count_differ p first other ones twos))
