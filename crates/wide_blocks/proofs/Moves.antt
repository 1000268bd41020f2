-- One more block whose data are inserted, or copied.
use Rattle.std.proofs.Common.{◌≡◌, ℕ, ◌+◌, ◌*◌, ◌≤◌, true, List, ◌++◌, length, take, drop, ap, ◌∙◌, arith, rules}
use Rattle.std.proofs.lemmas.List.{length-append, length-drop, length-take-le, places, same_lists}
use Rattle.wide_blocks.specs.declared.layout.NvmeLayout.{NvmeLayout}
use Rattle.wide_blocks.specs.declared.making.NvmeTags.{NvmeTags}
use Rattle.wide_blocks.specs.Blocks.{in_line}
use Rattle.wide_blocks.specs.Layouts.{covered_of, info_at, is_good, stride_of}
use Rattle.wide_blocks.specs.Made.{made_bytes, made_info, place_in_line}
use Rattle.wide_blocks.specs.Moved.{block_at, data_at, data_of, inserted_block, joined_block, meta_of, stripped_block}
use Rattle.wide_blocks.proofs.Makes.{made_by_guarded, room}
use Rattle.pi_blocks.specs.Puts.{put_at}
use Rattle.pi_blocks.proofs.Puts.{Puts, puts_more, same_part}
use Rattle.wide_blocks.proofs.Bits.{sixteen}
use Rattle.small_laws.proofs.Numbers.{next_block}

-- where a block's bytes lie after its data were put
guarded_after : (at size info meta : ℕ) (body bytes : List ℕ) → length body ≡ size → info ≤ meta → at + (size + meta) ≤ length bytes →
    take (size + info) (drop at (put_at at body bytes)) ≡ body ++ take info (take meta (drop (at + size) bytes))
guarded_after at size info meta body bytes e le inside = same_lists _ _ (search (rules, places)) (λ k d lt. grind (arith, places))

put_behind : (at size info meta : ℕ) (body made bytes : List ℕ) → length body ≡ size → length made ≡ 16 → info + 16 ≤ meta → at + (size + meta) ≤ length bytes →
    put_at (at + (size + info)) made (put_at at body bytes) ≡ put_at at (body ++ put_at info made (take meta (drop (at + size) bytes))) bytes
put_behind at size info meta body made bytes e m le inside = same_lists _ _ (search (rules, places)) (λ k d lt. grind (arith, places))

-- a block whose data are put and whose information is made is the inserted one
pub inserted_one : (l : NvmeLayout) (tags : NvmeTags) (body bytes now : List ℕ) (i : ℕ) → is_good l ≡ true → i * stride_of l + stride_of l ≤ length bytes → i * l.data_size + l.data_size ≤ length body →
    now ≡ put_at (i * stride_of l) (data_of l body i) bytes →
    put_at (place_in_line l i) (made_bytes l tags (in_line l now) i) now ≡ put_at (block_at l i) (inserted_block l tags body bytes i) bytes
inserted_one l tags body bytes now i good inside more e =
    let fits = room l good in
    let left = length-drop (i * l.data_size) body in
    let long : length (data_of l body i) ≡ l.data_size = length-take-le l.data_size (drop (i * l.data_size) body) (omega arith) in
    let made = made_bytes l tags (joined_block l body bytes) i in
    let g : (in_line l now i).guarded ≡ (joined_block l body bytes i).guarded =
    ap (λ (b : List ℕ). take (covered_of l) (drop (i * stride_of l) b)) e
    ∙ guarded_after (i * stride_of l) l.data_size (info_at l) l.meta_size (data_of l body i) bytes long (omega arith) (omega arith) in
    let piece : made_bytes l tags (in_line l now) i ≡ made = made_by_guarded l tags (in_line l now) (joined_block l body bytes) i g in
    ap (λ (p : List ℕ). put_at (place_in_line l i) p now) piece
    ∙ ap (λ (b : List ℕ). put_at (place_in_line l i) made b) e
    ∙ put_behind (i * stride_of l) l.data_size (info_at l) l.meta_size (data_of l body i) made bytes long (sixteen l (made_info l tags (joined_block l body bytes) i)) fits (omega arith)

-- what the loop that inserts keeps
abbrev pub Inserts : NvmeLayout → NvmeTags → List ℕ → ℕ → List ℕ → List ℕ → Type 0
Inserts l tags body n old now = Puts (block_at l) (inserted_block l tags body old) n (n * stride_of l) old now

inserted-length : (l : NvmeLayout) (tags : NvmeTags) (body bytes : List ℕ) (i : ℕ) → is_good l ≡ true → i * stride_of l + stride_of l ≤ length bytes → i * l.data_size + l.data_size ≤ length body →
    length (inserted_block l tags body bytes i) ≡ stride_of l
inserted-length l tags body bytes i good inside more =
    let fits = room l good in
    let left = length-drop (i * l.data_size) body in
    let long : length (data_of l body i) ≡ l.data_size = length-take-le l.data_size (drop (i * l.data_size) body) (omega arith) in
    let there = length-drop (i * stride_of l + l.data_size) bytes in
    let meta : length (meta_of l bytes i) ≡ l.meta_size = length-take-le l.meta_size (drop (i * stride_of l + l.data_size) bytes) (omega arith) in
    let made = made_bytes l tags (joined_block l body bytes) i in
    let sixteen_long : length made ≡ 16 = sixteen l (made_info l tags (joined_block l body bytes) i) in
    let a = length-append (data_of l body i) (put_at (info_at l) made (meta_of l bytes i)) in
    let b = length-append (take (info_at l) (meta_of l bytes i)) (made ++ drop (info_at l + length made) (meta_of l bytes i)) in
    let c = length-append made (drop (info_at l + length made) (meta_of l bytes i)) in
    let d = length-take-le (info_at l) (meta_of l bytes i) (omega arith) in
    let f = length-drop (info_at l + length made) (meta_of l bytes i) in
    omega arith

-- the inserted block looks at the metadata that was there alone
inserted_by_meta : (l : NvmeLayout) (tags : NvmeTags) (body a b : List ℕ) (i : ℕ) → meta_of l a i ≡ meta_of l b i → inserted_block l tags body a i ≡ inserted_block l tags body b i
inserted_by_meta l tags body a b i e =
    let g : (joined_block l body a i).guarded ≡ (joined_block l body b i).guarded = ap (λ (m : List ℕ). data_of l body i ++ take (info_at l) m) e in
    let piece : made_bytes l tags (joined_block l body a) i ≡ made_bytes l tags (joined_block l body b) i = made_by_guarded l tags (joined_block l body a) (joined_block l body b) i g in
    ap (λ (p : List ℕ). data_of l body i ++ put_at (info_at l) p (meta_of l a i)) piece
    ∙ ap (λ (m : List ℕ). data_of l body i ++ put_at (info_at l) (made_bytes l tags (joined_block l body b) i) m) e

pub inserts_more : (l : NvmeLayout) (tags : NvmeTags) (body : List ℕ) (n : ℕ) (old now new : List ℕ) → is_good l ≡ true → n * stride_of l + stride_of l ≤ length now → length now ≡ length old →
    n * l.data_size + l.data_size ≤ length body → Inserts l tags body n old now → new ≡ put_at (block_at l n) (inserted_block l tags body now n) now → Inserts l tags body (n + 1) old new
inserts_more l tags body n old now new good inside as_long more h e =
    let next = next_block n (stride_of l) in
    let same : meta_of l now n ≡ meta_of l old n = same_part (n * stride_of l) (n * stride_of l + l.data_size) l.meta_size old now (omega arith) h.rest in
    let piece = inserted_by_meta l tags body now old n same in
    let long = inserted-length l tags body old n good (omega arith) more in
    puts_more (block_at l) (inserted_block l tags body old) n (n * stride_of l) ((n + 1) * stride_of l) old now new h (e ∙ ap (λ (p : List ℕ). put_at (block_at l n) p now) piece) (omega arith) (omega arith) (omega arith)

-- what the loop that strips keeps
abbrev pub Strips : NvmeLayout → List ℕ → ℕ → List ℕ → List ℕ → Type 0
Strips l bytes n old now = Puts (data_at l) (stripped_block l bytes) n (n * l.data_size) old now

pub strips_more : (l : NvmeLayout) (bytes : List ℕ) (n : ℕ) (old now new : List ℕ) → n * stride_of l + stride_of l ≤ length bytes → n * l.data_size + l.data_size ≤ length now → Strips l bytes n old now →
    new ≡ put_at (data_at l n) (stripped_block l bytes n) now → Strips l bytes (n + 1) old new
strips_more l bytes n old now new inside room h e =
    let next = next_block n l.data_size in
    let left = length-drop (block_at l n) bytes in
    let long : length (stripped_block l bytes n) ≡ l.data_size = length-take-le l.data_size (drop (block_at l n) bytes) (omega arith) in
    puts_more (data_at l) (stripped_block l bytes) n (n * l.data_size) ((n + 1) * l.data_size) old now new h e (omega arith) (omega arith) (omega arith)
