-- A reference tag has four bytes before and after it is mapped, and each block is within the buffer.
use Rattle.std.proofs.Common.{◌≡◌, ◌≢◌, ℕ, ◌+◌, ◌*◌, ◌/◌, ◌^◌, ◌<◌, ◌≤◌, ◌⊎◌, Bool, true, false, ◌&&◌, eqb, if◌then◌else◌, List, length, take, drop, get_or, refl, ap, ◌∙◌, sym, subst, inl, inr, arith, lit<}
use Rattle.std.specs.Int.{w32, from_be_bytes, to_be_bytes}
use Rattle.std.proofs.lemmas.Bool.{and_parts, cases_lt, eqb-true, leb-true, ne_eqb, eq-eqb, cases_Bool}
use Rattle.std.proofs.lemmas.List.{get_or-drop, get_or-take, get_or_past, length-drop, length-take, length-take-le}
use Rattle.std.proofs.lemmas.Nat.{be_bytes_4, div-add-mod', from_be_bytes-to_be_bytes_4, mod_below}
use Rattle.std.proofs.Math.Nat.{mul-le-mul_right}
use Rattle.pi_tuple.specs.Finds.{has_ref_tag}
use Rattle.pi_tuple.specs.Tuples.{ref_tag}
use Rattle.ref_remap.specs.Remapped.{remapped_tag}
use Rattle.pi_blocks.specs.Laws.{AreBytes, AreFree, IsUndone, MapsTagsAlone, count_of}
use Rattle.pi_blocks.specs.Layouts.{AreBlocks, covered_of, is_good, stride_of, type_of}
use Rattle.pi_blocks.specs.Mapped.{all_mapped, mapped_tag, tag_in, tag_place}
use Rattle.pi_blocks.specs.declared.layout.Layout.{Layout}
use Rattle.pi_blocks.proofs.Maps.{four_long, own_length}
use Rattle.pi_blocks.proofs.Puts.{Fit, all_put-apart, all_put-cong, all_put-length, all_put-over, all_put-same, all_put-stands, fit_in_blocks}
use Rattle.small_laws.proofs.Numbers.{next_block}

-- in a good layout the tuple fits
pub has_room : (l : Layout) → is_good l ≡ true → l.tuple_at + 8 ≤ l.meta_size
has_room l h = leb-true (l.tuple_at + 8) l.meta_size (and_parts _ _ h).0

-- so many whole pieces of a size are within the length
pub whole_within : (length size : ℕ) → length / size * size ≤ length
whole_within length size = let e = div-add-mod' length size in omega arith

-- block i of n ends within the length
pub block_within : (i n size total : ℕ) → i < n → n * size ≤ total → i * size + size ≤ total
block_within i n size total lt le = let a : (i + 1) * size ≤ n * size = mul-le-mul_right size (omega arith) in let b = next_block i size in omega arith

-- a tag has its four bytes
pub tag_long : (l : Layout) (bytes : List ℕ) (i : ℕ) → is_good l ≡ true → i < count_of l bytes → length (tag_in l bytes i) ≡ 4
tag_long l bytes i good lt =
    let room = has_room l good in
    let ends = block_within i (count_of l bytes) (stride_of l) (length bytes) lt (whole_within (length bytes) (stride_of l)) in
    let left = length-drop (tag_place l i) bytes in
    length-take-le 4 (drop (tag_place l i) bytes) (omega arith)

pub mapped_long : (l : Layout) (from to : ℕ) (bytes : List ℕ) (i : ℕ) → is_good l ≡ true → i < count_of l bytes → length (mapped_tag l from to bytes i) ≡ 4
mapped_long l from to bytes i good lt = four_long (type_of l.pi_type) (from + i) (to + i) (tag_in l bytes i) (tag_long l bytes i good lt)

-- pieces of four bytes lie in the tags' places
pub tags_fit : (l : Layout) (bytes : List ℕ) (piece : ℕ → List ℕ) → is_good l ≡ true → ((i : ℕ) → i < count_of l bytes → length (piece i) ≡ 4) → Fit (tag_place l) piece (count_of l bytes) (length bytes)
tags_fit l bytes piece good four =
    let room = has_room l good in
    fit_in_blocks (stride_of l) (covered_of l + 4) 4 (count_of l bytes) (length bytes) piece (omega arith) (whole_within (length bytes) (stride_of l)) four

pub mapped_fit : (l : Layout) (from to : ℕ) (bytes : List ℕ) → is_good l ≡ true → Fit (tag_place l) (mapped_tag l from to bytes) (count_of l bytes) (length bytes)
mapped_fit l from to bytes good = tags_fit l bytes (mapped_tag l from to bytes) good (λ i lt. mapped_long l from to bytes i good lt)

pub tag_is_mapped : (l : Layout) (from to : ℕ) (bytes : List ℕ) (i : ℕ) → is_good l ≡ true → i < count_of l bytes → tag_in l (all_mapped l from to (count_of l bytes) bytes) i ≡ mapped_tag l from to bytes i
tag_is_mapped l from to bytes i good lt =
    ap (λ n. take n (drop (tag_place l i) (all_mapped l from to (count_of l bytes) bytes))) (sym (mapped_long l from to bytes i good lt))
    ∙ all_put-stands (tag_place l) (mapped_tag l from to bytes) (count_of l bytes) i bytes (mapped_fit l from to bytes good) lt

pub maps_tags_alone : (l : Layout) (from to : ℕ) (bytes : List ℕ) → AreBlocks l (length bytes) → MapsTagsAlone l from to bytes
maps_tags_alone l from to bytes h = record {
  long = all_put-length (tag_place l) (mapped_tag l from to bytes) (count_of l bytes) bytes (mapped_fit l from to bytes h.good);
  tags = λ i lt. tag_is_mapped l from to bytes i h.good lt;
  others = λ at size clear. all_put-apart (tag_place l) (mapped_tag l from to bytes) (count_of l bytes) at size bytes (mapped_fit l from to bytes h.good)
      (λ i lt. subst (λ n. (at + size ≤ tag_place l i) ⊎ (tag_place l i + n ≤ at)) (sym (mapped_long l from to bytes i h.good lt)) (clear i lt));
}

-- there and back

back_or : (b : Bool) (from to : ℕ) (tag : List ℕ) → length tag ≡ 4 → ((k : ℕ) → get_or tag k 0 < 256) → from_be_bytes w32 tag ≢ ref_tag to →
    (if b && eqb (from_be_bytes w32 (if b && eqb (from_be_bytes w32 tag) (ref_tag from) then to_be_bytes w32 (ref_tag to) else tag)) (ref_tag to) then to_be_bytes w32 (ref_tag from) else (if b && eqb (from_be_bytes w32 tag) (ref_tag from) then to_be_bytes w32 (ref_tag to) else tag)) ≡ tag
back_or false from to tag long small free = refl
back_or true from to tag long small free = elim (cases_Bool (eqb (from_be_bytes w32 tag) (ref_tag from))) [
  | inl own ↦
      let same : from_be_bytes w32 tag ≡ ref_tag from = eqb-true (from_be_bytes w32 tag) (ref_tag from) own in
      let there : from_be_bytes w32 (to_be_bytes w32 (ref_tag to)) ≡ ref_tag to = from_be_bytes-to_be_bytes_4 (ref_tag to) (mod_below to (2 ^ 32) (omega arith)) in
      let again = eq-eqb (from_be_bytes w32 (to_be_bytes w32 (ref_tag to))) (ref_tag to) there in
      rw own (rw again (be_bytes_4 tag (ref_tag from) long small (sym same)))
  | inr foreign ↦ let other = ne_eqb (from_be_bytes w32 tag) (ref_tag to) free in rw foreign (rw other refl)
]

small_part : (bytes : List ℕ) (width at : ℕ) → ((k : ℕ) → get_or bytes k 0 < 256) → (k : ℕ) → get_or (take width (drop at bytes)) k 0 < 256
small_part bytes width at small k = elim (cases_lt k width) [
  | inl below ↦ subst (λ n. n < 256) (sym (get_or-take width (drop at bytes) k 0 below ∙ get_or-drop at bytes k 0)) (small (at + k))
  | inr above ↦ let long = length-take width (drop at bytes) in subst (λ n. n < 256) (sym (get_or_past (take width (drop at bytes)) k 0 (omega arith))) (lit< tt)
]

pub undone : (l : Layout) (from to : ℕ) (bytes : List ℕ) → AreBlocks l (length bytes) → AreBytes bytes → AreFree l to bytes → IsUndone l from to bytes
undone l from to bytes h small free =
    let n = count_of l bytes in
    let new = all_mapped l from to n bytes in
    let back : (i : ℕ) → i < n → mapped_tag l to from new i ≡ tag_in l bytes i = λ i lt.
    ap (remapped_tag (type_of l.pi_type) (to + i) (from + i)) (tag_is_mapped l from to bytes i h.good lt)
    ∙ back_or (has_ref_tag (type_of l.pi_type)) (from + i) (to + i) (tag_in l bytes i) (tag_long l bytes i h.good lt) (small_part bytes 4 (tag_place l i) small) (free i lt) in
    all_put-cong (tag_place l) (mapped_tag l to from new) (tag_in l bytes) n new back
    ∙ (all_put-over (tag_place l) (mapped_tag l from to bytes) (tag_in l bytes) n bytes (mapped_fit l from to bytes h.good) (λ i lt. mapped_long l from to bytes i h.good lt ∙ sym (tag_long l bytes i h.good lt))
    ∙ all_put-same (tag_place l) (tag_in l bytes) n bytes (λ i lt. own_length 4 (drop (tag_place l i) bytes)))
