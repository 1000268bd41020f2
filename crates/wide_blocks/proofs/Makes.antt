-- One more information made, or mapped, in place.
use Rattle.std.proofs.Common.{◌≡◌, ℕ, ◌+◌, ◌-◌, ◌*◌, ◌≤◌, ◌%◌, ◌^◌, Bool, true, false, eqb, if◌then◌else◌, List, ◌++◌, length, take, drop, ap, ◌∙◌, sym, arith}
use Rattle.std.proofs.lemmas.Bool.Decides.{nat_tests}
use Rattle.std.proofs.lemmas.List.{length-drop, length-take-le, take-append-drop}
use Rattle.wide_blocks.specs.declared.layout.NvmeLayout.{NvmeLayout}
use Rattle.wide_blocks.specs.declared.making.NvmeTags.{NvmeTags}
use Rattle.wide_blocks.specs.Blocks.{WideBlock, apart, guard_of, in_line}
use Rattle.wide_blocks.specs.Information.{info_bytes, info_in}
use Rattle.wide_blocks.specs.Layouts.{covered_of, info_at, is_good, reference_bits, stride_of}
use Rattle.wide_blocks.specs.Made.{made_bytes, made_info, own_reference, place_apart, place_in_line}
use Rattle.wide_blocks.specs.Mapped.{exchanged, mapped_info, with_reference}
use Rattle.pi_blocks.specs.Puts.{put_at}
use Rattle.pi_blocks.proofs.Puts.{Puts, put_is_part, puts_more, same_part}
use Rattle.wide_blocks.proofs.Bits.{sixteen}
use Rattle.small_laws.proofs.Numbers.{next_block}

-- the information fits the metadata
pub room : (l : NvmeLayout) → is_good l ≡ true → info_at l + 16 ≤ l.meta_size
room l h = grind (arith, nat_tests)

-- the information that is made looks at nothing but the guarded bytes
pub made_by_guarded : (l : NvmeLayout) (tags : NvmeTags) (blocks others : ℕ → WideBlock) (i : ℕ) → (blocks i).guarded ≡ (others i).guarded → made_bytes l tags blocks i ≡ made_bytes l tags others i
made_by_guarded l tags blocks others i e = ap (λ (b : List ℕ). info_bytes l (record { guard = guard_of l b; app = tags.app; storage = tags.storage; reference = own_reference l tags i })) e

-- what the loop keeps
abbrev pub Makes : NvmeLayout → NvmeTags → ℕ → List ℕ → List ℕ → Type 0
Makes l tags n old now = Puts (place_in_line l) (made_bytes l tags (in_line l old)) n (n * stride_of l) old now

pub makes_more : (l : NvmeLayout) (tags : NvmeTags) (n : ℕ) (old now new : List ℕ) → is_good l ≡ true → n * stride_of l + stride_of l ≤ length now → Makes l tags n old now
    → new ≡ put_at (place_in_line l n) (made_bytes l tags (in_line l now) n) now → Makes l tags (n + 1) old new
makes_more l tags n old now new good inside h e =
    let fits = room l good in
    let next = next_block n (stride_of l) in
    let place = place_in_line l n in
    let made = made_bytes l tags (in_line l old) n in
    let guarded : take (covered_of l) (drop (n * stride_of l) now) ≡ take (covered_of l) (drop (n * stride_of l) old) = same_part (n * stride_of l) (n * stride_of l) (covered_of l) old now (omega arith) h.rest in
    let piece : made_bytes l tags (in_line l now) n ≡ made = made_by_guarded l tags (in_line l now) (in_line l old) n guarded in
    let long : length made ≡ 16 = sixteen l (made_info l tags (in_line l old) n) in
    puts_more (place_in_line l) (made_bytes l tags (in_line l old)) n (n * stride_of l) ((n + 1) * stride_of l) old now new h (e ∙ ap (λ (p : List ℕ). put_at place p now) piece) (omega arith) (omega arith) (omega arith)

abbrev pub MakesApart : NvmeLayout → NvmeTags → ℕ → List ℕ → List ℕ → List ℕ → Type 0
MakesApart l tags n body old now = Puts (place_apart l) (made_bytes l tags (apart l body old)) n (n * l.meta_size) old now

pub makes_more_apart : (l : NvmeLayout) (tags : NvmeTags) (n : ℕ) (body old now new : List ℕ) → is_good l ≡ true → n * l.meta_size + l.meta_size ≤ length now → MakesApart l tags n body old now
    → new ≡ put_at (place_apart l n) (made_bytes l tags (apart l body now) n) now → MakesApart l tags (n + 1) body old new
makes_more_apart l tags n body old now new good inside h e =
    let fits = room l good in
    let next = next_block n l.meta_size in
    let place = place_apart l n in
    let made = made_bytes l tags (apart l body old) n in
    let before = take l.data_size (drop (n * l.data_size) body) in
    let front : take (info_at l) (drop (n * l.meta_size) now) ≡ take (info_at l) (drop (n * l.meta_size) old) = same_part (n * l.meta_size) (n * l.meta_size) (info_at l) old now (omega arith) h.rest in
    let piece : made_bytes l tags (apart l body now) n ≡ made = made_by_guarded l tags (apart l body now) (apart l body old) n (ap (λ (x : List ℕ). before ++ x) front) in
    let long : length made ≡ 16 = sixteen l (made_info l tags (apart l body old) n) in
    puts_more (place_apart l) (made_bytes l tags (apart l body old)) n (n * l.meta_size) ((n + 1) * l.meta_size) old now new h (e ∙ ap (λ (p : List ℕ). put_at place p now) piece) (omega arith) (omega arith) (omega arith)

sixteen_or : (b : Bool) (made info : List ℕ) → length made ≡ 16 → length info ≡ 16 → length (if b then made else info) ≡ 16
sixteen_or true made info e f = e
sixteen_or false made info e f = f

-- mapped information has sixteen bytes
pub sixteen_long : (l : NvmeLayout) (from to : ℕ) (info : List ℕ) → length info ≡ 16 → length (exchanged l from to info) ≡ 16
sixteen_long l from to info e =
    sixteen_or (eqb (info_in l info).reference (from % 2 ^ reference_bits l)) (info_bytes l (with_reference (info_in l info) (to % 2 ^ reference_bits l))) info (sixteen l (with_reference (info_in l info) (to % 2 ^ reference_bits l))) e

abbrev pub Maps : NvmeLayout → ℕ → ℕ → ℕ → List ℕ → List ℕ → Type 0
Maps l from to n old now = Puts (place_in_line l) (mapped_info l from to old) n (n * stride_of l) old now

pub maps_more : (l : NvmeLayout) (from to n : ℕ) (old now new : List ℕ) → is_good l ≡ true → n * stride_of l + stride_of l ≤ length now → Maps l from to n old now
    → new ≡ put_at (place_in_line l n) (exchanged l (from + n) (to + n) (take 16 (drop (place_in_line l n) now))) now → Maps l from to (n + 1) old new
maps_more l from to n old now new good inside h e =
    let fits = room l good in
    let next = next_block n (stride_of l) in
    let at = place_in_line l n in
    let left : length (drop at now) ≡ length now - at = length-drop at now in
    let long : length (take 16 (drop at now)) ≡ 16 = length-take-le 16 (drop at now) (omega arith) in
    let same : take 16 (drop at now) ≡ take 16 (drop at old) = same_part (n * stride_of l) at 16 old now (omega arith) h.rest in
    let piece : exchanged l (from + n) (to + n) (take 16 (drop at now)) ≡ mapped_info l from to old n = ap (exchanged l (from + n) (to + n)) same in
    let sixteen : length (mapped_info l from to old n) ≡ 16 = sixteen_long l (from + n) (to + n) (take 16 (drop at old)) (ap length (sym same) ∙ long) in
    puts_more (place_in_line l) (mapped_info l from to old) n (n * stride_of l) ((n + 1) * stride_of l) old now new h (e ∙ ap (λ (p : List ℕ). put_at at p now) piece) (omega arith) (omega arith) (omega arith)

-- what stands there already may be put
put_back : (at width : ℕ) (bytes : List ℕ) → at + width ≤ length bytes → put_at at (take width (drop at bytes)) bytes ≡ bytes
put_back at width bytes inside =
    let left = length-drop at bytes in
    let long : length (take width (drop at bytes)) ≡ width = length-take-le width (drop at bytes) (omega arith) in
    put_is_part at width (take width (drop at bytes)) bytes long
    ∙ (ap (λ (rest : List ℕ). take at bytes ++ rest) (take-append-drop width (drop at bytes)) ∙ take-append-drop at bytes)

kept_or : (b : Bool) (made info : List ℕ) → b ≡ false → (if b then made else info) ≡ info
kept_or b made info e = ap (λ t. if t then made else info) e

-- a tag of another address stays
pub not_exchanged : (l : NvmeLayout) (from to i : ℕ) (bytes : List ℕ) → is_good l ≡ true → i * stride_of l + stride_of l ≤ length bytes →
    eqb (info_in l (take 16 (drop (place_in_line l i) bytes))).reference ((from + i) % 2 ^ reference_bits l) ≡ false →
    bytes ≡ put_at (place_in_line l i) (exchanged l (from + i) (to + i) (take 16 (drop (place_in_line l i) bytes))) bytes
not_exchanged l from to i bytes good inside e =
    let fits = room l good in
    let info = take 16 (drop (place_in_line l i) bytes) in
    let kept : exchanged l (from + i) (to + i) info ≡ info = kept_or (eqb (info_in l info).reference ((from + i) % 2 ^ reference_bits l)) (info_bytes l (with_reference (info_in l info) ((to + i) % 2 ^ reference_bits l))) info e in
    sym (ap (λ (p : List ℕ). put_at (place_in_line l i) p bytes) kept ∙ put_back (place_in_line l i) 16 bytes (omega arith))
