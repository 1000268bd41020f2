-- One more tag mapped in place; without reference tags nothing is.
use Rattle.std.proofs.Common.{◌≡◌, ℕ, ◌+◌, ◌-◌, ◌*◌, ◌≤◌, Bool, true, false, ◌&&◌, eqb, if◌then◌else◌, List, length, take, drop, refl, ap, ◌∙◌, sym, arith}
use Rattle.std.specs.Int.{w32, from_be_bytes, to_be_bytes}
use Rattle.std.proofs.lemmas.Bool.{ne_eqb}
use Rattle.std.proofs.lemmas.List.{length-drop, length-take, length-take-le, take_min}
use Rattle.pi_tuple.specs.Finds.{has_ref_tag}
use Rattle.pi_tuple.specs.Tuples.{ref_tag}
use Rattle.pi_tuple.specs.declared.checks.PiType.{PiType}
use Rattle.ref_remap.specs.Remapped.{remapped_tag}
use Rattle.pi_blocks.specs.Layouts.{stride_of, type_of}
use Rattle.pi_blocks.specs.Mapped.{all_mapped, exchanged, mapped_tag, tag_in, tag_place}
use Rattle.pi_blocks.specs.Puts.{put_at}
use Rattle.pi_blocks.proofs.Puts.{Puts, all_put-same, puts_more, same_part}
use Rattle.pi_blocks.specs.declared.layout.Layout.{Layout}
use Rattle.small_laws.proofs.Numbers.{next_block}

exchange_or : (b : Bool) (from to : ℕ) (tag : List ℕ) → b ≡ true → (if b && eqb (from_be_bytes w32 tag) (ref_tag from) then to_be_bytes w32 (ref_tag to) else tag) ≡ exchanged from to tag
exchange_or b from to tag e = ap (λ t. if t && eqb (from_be_bytes w32 tag) (ref_tag from) then to_be_bytes w32 (ref_tag to) else tag) e

-- a tag that isn't that of the one address stays
pub kept_by_exchange : (from to value own : ℕ) (tag : List ℕ) → from_be_bytes w32 tag ≡ value → own ≡ ref_tag from → ¬ (value ≡ own) → exchanged from to tag ≡ tag
kept_by_exchange from to value own tag v o differ =
    ap (λ t. if t then to_be_bytes w32 (ref_tag to) else tag) (ne_eqb (from_be_bytes w32 tag) (ref_tag from) (λ e. differ (sym v ∙ (e ∙ sym o))))

-- in a type with reference tags one that is the block's is exchanged
pub mapped_by_exchange : (ty : PiType) (from to : ℕ) (tag : List ℕ) → has_ref_tag ty ≡ true → remapped_tag ty from to tag ≡ exchanged from to tag
mapped_by_exchange ty from to tag e = exchange_or (has_ref_tag ty) from to tag e

not_exchanged : (b : Bool) (from to : ℕ) (tag : List ℕ) → b ≡ false → (if b && eqb (from_be_bytes w32 tag) (ref_tag from) then to_be_bytes w32 (ref_tag to) else tag) ≡ tag
not_exchanged b from to tag e = ap (λ t. if t && eqb (from_be_bytes w32 tag) (ref_tag from) then to_be_bytes w32 (ref_tag to) else tag) e

-- what was taken, taken by its own length
pub own_length : (width : ℕ) (xs : List ℕ) → take width xs ≡ take (length (take width xs)) xs
own_length width xs = sym (take_min width xs) ∙ ap (λ m. take m xs) (sym (length-take width xs))

-- in a type without reference tags nothing is mapped
pub unmapped : (l : Layout) (from to n : ℕ) (bytes : List ℕ) → has_ref_tag (type_of l.pi_type) ≡ false → all_mapped l from to n bytes ≡ bytes
unmapped l from to n bytes e = all_put-same (tag_place l) (mapped_tag l from to bytes) n bytes (λ i lt.
    let same : mapped_tag l from to bytes i ≡ tag_in l bytes i = not_exchanged (has_ref_tag (type_of l.pi_type)) (from + i) (to + i) (tag_in l bytes i) e in
    same ∙ (own_length 4 (drop (tag_place l i) bytes) ∙ ap (λ (p : List ℕ). take (length p) (drop (tag_place l i) bytes)) (sym same)))

four_or : (b : Bool) (to : ℕ) (tag : List ℕ) → length tag ≡ 4 → length (if b then to_be_bytes w32 to else tag) ≡ 4
four_or true to tag e = refl
four_or false to tag e = e

-- a mapped tag has four bytes
pub four_long : (ty : PiType) (from to : ℕ) (tag : List ℕ) → length tag ≡ 4 → length (remapped_tag ty from to tag) ≡ 4
four_long ty from to tag e = four_or (has_ref_tag ty && eqb (from_be_bytes w32 tag) (ref_tag from)) (ref_tag to) tag e

-- what the loop keeps
abbrev pub Maps : Layout → ℕ → ℕ → ℕ → List ℕ → List ℕ → Type 0
Maps l from to n old now = Puts (tag_place l) (mapped_tag l from to old) n (n * stride_of l) old now

pub maps_more : (l : Layout) (from to n : ℕ) (old now new : List ℕ) → l.tuple_at + 8 ≤ l.meta_size → has_ref_tag (type_of l.pi_type) ≡ true → n * stride_of l + stride_of l ≤ length now → Maps l from to n old now
    → new ≡ put_at (tag_place l n) (exchanged (from + n) (to + n) (tag_in l now n)) now → Maps l from to (n + 1) old new
maps_more l from to n old now new fits tagged inside h e =
    let next = next_block n (stride_of l) in
    let at = tag_place l n in
    let left : length (drop at now) ≡ length now - at = length-drop at now in
    let long : length (tag_in l now n) ≡ 4 = length-take-le 4 (drop at now) (omega arith) in
    let same : tag_in l now n ≡ tag_in l old n = same_part (n * stride_of l) at 4 old now (omega arith) h.rest in
    let four : length (mapped_tag l from to old n) ≡ 4 = four_long (type_of l.pi_type) (from + n) (to + n) (tag_in l old n) (ap length (sym same) ∙ long) in
    let piece : exchanged (from + n) (to + n) (tag_in l now n) ≡ mapped_tag l from to old n = ap (exchanged (from + n) (to + n)) same ∙ sym (mapped_by_exchange (type_of l.pi_type) (from + n) (to + n) (tag_in l old n) tagged) in
    puts_more (tag_place l) (mapped_tag l from to old) n (n * stride_of l) ((n + 1) * stride_of l) old now new h (e ∙ ap (λ (p : List ℕ). put_at at p now) piece) (omega arith) (omega arith) (omega arith)
