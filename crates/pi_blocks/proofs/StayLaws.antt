-- Blocks that were fine are fine under the new tags once they are mapped.
use Rattle.std.proofs.Common.{◌≡◌, ℕ, ◌+◌, ◌*◌, ◌<◌, ◌≤◌, List, ◌++◌, length, take, drop, Option, Some, None, true, refl, ap, ◌∙◌, sym, inl, inr, arith}
use Rattle.std.proofs.lemmas.Bool.{cases_lt}
use Rattle.std.proofs.lemmas.List.{drop-drop, drop-take, length-drop, length-take-le, take-append-drop, take-take}
use Rattle.std.proofs.Math.Nat.{mul-le-mul_right}
use Rattle.pi_tuple.specs.declared.tuple.Tuple.{Tuple}
use Rattle.pi_tuple.specs.declared.checks.Check.{Check}
use Rattle.pi_tuple.specs.Finds.{finding}
use Rattle.pi_tuple.specs.Tuples.{ref_tag, tuple_in}
use Rattle.ref_remap.specs.Remapped.{remapped, remapped_bytes, remapped_tag}
use Rattle.pi_blocks.specs.Blocks.{checks_of, guard_in, in_line, told_by, told_of}
use Rattle.pi_blocks.specs.Laws.{IsClear, StayFine, beginning_at, count_of}
use Rattle.pi_guard.specs.Guards.{guard_of}
use Rattle.pi_blocks.specs.Layouts.{AreBlocks, covered_of, is_good, kind_of, stride_of, type_of}
use Rattle.pi_blocks.specs.Mapped.{all_mapped, tag_place}
use Rattle.pi_blocks.specs.declared.block.Found.{Found}
use Rattle.pi_blocks.specs.declared.block.Want.{Want}
use Rattle.pi_blocks.specs.declared.layout.Layout.{Layout}
use Rattle.pi_blocks.proofs.MapLaws.{block_within, has_room, maps_tags_alone, tag_is_mapped, whole_within}
use Rattle.pi_blocks.proofs.Tuples.{fine_by_new_tag, remapped_is_read}
use Rattle.small_laws.proofs.Numbers.{next_block}

pub none_told : (f : Check → Found) (o : Option Check) → told_by f o ≡ None → o ≡ None
none_told f None h = refl
none_told f (Some c) h = cc

-- the bytes of block k before its tag share none with a tag
clear_before : (l : Layout) (n k at size : ℕ) → is_good l ≡ true → k * stride_of l ≤ at → at + size ≤ tag_place l k → IsClear (tag_place l) 4 n at size
clear_before l n k at size good from to i lt =
    let room = has_room l good in
    elim (cases_lt i k) [
      | inl below ↦ let a : (i + 1) * stride_of l ≤ k * stride_of l = mul-le-mul_right (stride_of l) (omega arith) in let b = next_block i (stride_of l) in inr (omega arith)
      | inr above ↦ let a : k * stride_of l ≤ i * stride_of l = mul-le-mul_right (stride_of l) above in inl (omega arith)
    ]

eight_long : (l : Layout) (bytes : List ℕ) (k : ℕ) → is_good l ≡ true → k < count_of l bytes → length (in_line l bytes k).tuple ≡ 8
eight_long l bytes k good lt =
    let room = has_room l good in
    let ends = block_within k (count_of l bytes) (stride_of l) (length bytes) lt (whole_within (length bytes) (stride_of l)) in
    let left = length-drop (k * stride_of l + covered_of l) bytes in
    length-take-le 8 (drop (k * stride_of l + covered_of l) bytes) (omega arith)

-- eight bytes as the four of guard and application tag and the four of the tag
halves : (bytes : List ℕ) (at : ℕ) → take 8 (drop at bytes) ≡ take 4 (drop at bytes) ++ take 4 (drop (at + 4) bytes)
halves bytes at =
    let eight = take 8 (drop at bytes) in
    let front : take 4 eight ≡ take 4 (drop at bytes) = take-take 4 8 (drop at bytes) (omega arith) in
    let back : drop 4 eight ≡ take 4 (drop (at + 4) bytes) = drop-take 4 4 (drop at bytes) ∙ ap (take 4) (drop-drop 4 at bytes) in
    sym (take-append-drop 4 eight) ∙ (ap (λ (f : List ℕ). f ++ drop 4 eight) front ∙ ap (λ (b : List ℕ). take 4 (drop at bytes) ++ b) back)

-- the tuple of block k is the mapped one
mapped_tuple : (l : Layout) (from to : ℕ) (bytes : List ℕ) (k : ℕ) → AreBlocks l (length bytes) → k < count_of l bytes →
    tuple_in (in_line l (all_mapped l from to (count_of l bytes) bytes) k).tuple ≡ remapped (type_of l.pi_type) (from + k) (to + k) (tuple_in (in_line l bytes k).tuple)
mapped_tuple l from to bytes k h lt =
    let new = all_mapped l from to (count_of l bytes) bytes in
    let at = k * stride_of l + covered_of l in
    let eight = (in_line l bytes k).tuple in
    let there : at + 4 ≡ tag_place l k = omega arith in
    let f = remapped_tag (type_of l.pi_type) (from + k) (to + k) in
    let front : take 4 (drop at new) ≡ take 4 (drop at bytes) = (maps_tags_alone l from to bytes h).others at 4 (clear_before l (count_of l bytes) k at 4 h.good (omega arith) (omega arith)) in
    let back : take 4 (drop (at + 4) new) ≡ f (take 4 (drop (at + 4) bytes)) =
    ap (λ m. take 4 (drop m new)) there ∙ (tag_is_mapped l from to bytes k h.good lt ∙ ap (λ m. f (take 4 (drop m bytes))) (sym there)) in
    let old_front : take 4 eight ≡ take 4 (drop at bytes) = take-take 4 8 (drop at bytes) (omega arith) in
    let old_back : drop 4 eight ≡ take 4 (drop (at + 4) bytes) = drop-take 4 4 (drop at bytes) ∙ ap (take 4) (drop-drop 4 at bytes) in
    let spelled : (in_line l new k).tuple ≡ remapped_bytes (type_of l.pi_type) (from + k) (to + k) eight =
    halves new at ∙ (ap (λ (a : List ℕ). a ++ take 4 (drop (at + 4) new)) (front ∙ sym old_front) ∙ ap (λ (b : List ℕ). take 4 eight ++ b) (back ∙ ap f (sym old_back))) in
    ap tuple_in spelled ∙ remapped_is_read (type_of l.pi_type) (from + k) (to + k) eight (eight_long l bytes k h.good lt)

pub stay_fine : (l : Layout) (w : Want) (to : ℕ) (bytes : List ℕ) → AreBlocks l (length bytes) → StayFine l w to bytes
stay_fine l w to bytes h fine k lt =
    let new = all_mapped l w.first_ref to (count_of l bytes) bytes in
    let ty = type_of l.pi_type in
    let was = in_line l bytes k in
    let now = in_line l new k in
    let guarded : now.guarded ≡ was.guarded = (maps_tags_alone l w.first_ref to bytes h).others (k * stride_of l) (covered_of l) (clear_before l (count_of l bytes) k (k * stride_of l) (covered_of l) h.good (omega arith) (omega arith)) in
    let guard : guard_in l now ≡ guard_in l was = ap (λ (b : List ℕ). guard_of (kind_of l.guard) b) guarded in
    let tuple = mapped_tuple l w.first_ref to bytes k h lt in
    let old : finding ty (checks_of w) (ref_tag (w.first_ref + k)) (guard_in l was) (tuple_in was.tuple) ≡ None = none_told _ _ (fine k lt) in
    let new_fine = fine_by_new_tag ty (checks_of w) (w.first_ref + k) (to + k) (guard_in l was) (tuple_in was.tuple) old in
    let found : finding ty (checks_of w) (ref_tag (to + k)) (guard_in l now) (tuple_in now.tuple) ≡ None =
    ap (λ g. finding ty (checks_of w) (ref_tag (to + k)) g (tuple_in now.tuple)) guard ∙ (ap (λ (t : Tuple). finding ty (checks_of w) (ref_tag (to + k)) (guard_in l was) t) tuple ∙ new_fine) in
    ap (told_by (told_of (beginning_at w to) k (guard_in l now) (tuple_in now.tuple))) found
