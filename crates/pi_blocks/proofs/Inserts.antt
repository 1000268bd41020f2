-- One more block made of data, and one more block's data copied out.
use Rattle.std.proofs.Common.{◌≡◌, ℕ, ◌+◌, ◌-◌, ◌*◌, ◌≤◌, List, length, take, drop, ap, ◌∙◌, sym, arith}
use Rattle.std.proofs.lemmas.List.{length-drop, length-take-le}
use borrow.Rule.Slice.PartMut.{put_mid}
use Rattle.pi_blocks.specs.Inserted.{block_in, data_in, inserted_block, place_of_block, place_of_data, with_data, with_tuple}
use Rattle.pi_blocks.specs.Layouts.{stride_of}
use Rattle.pi_blocks.specs.Puts.{put_at}
use Rattle.pi_blocks.specs.Stripped.{held}
use Rattle.pi_blocks.specs.declared.layout.Layout.{Layout}
use Rattle.pi_blocks.proofs.Puts.{Puts, put_is_part, puts_more}
use Rattle.small_laws.proofs.Numbers.{next_block}

-- a part that is written is a piece that is put
pub part_is_put : (at size : ℕ) (piece bytes : List ℕ) → length piece ≡ size → put_mid at (at + size - at) bytes piece ≡ put_at at piece bytes
part_is_put at size piece bytes long =
    let d : at + size - at ≡ size = omega arith in
    ap (λ k. put_mid at k bytes piece) d ∙ sym (put_is_part at size piece bytes long)

-- what the loop keeps that makes blocks
abbrev pub Inserts : Layout → ℕ → ℕ → ℕ → List ℕ → List ℕ → List ℕ → Type 0
Inserts l app first n body old now = Puts (place_of_block l) (inserted_block l app first body old) n (n * stride_of l) old now

pub inserts_more : (l : Layout) (app first n stride : ℕ) (body old now piece : List ℕ) → stride ≡ stride_of l → n * stride_of l + stride_of l ≤ length now → Inserts l app first n body old now → length piece ≡ stride_of l
    → piece ≡ with_tuple l app first n (with_data l (data_in l body n) (take (n * stride + stride - n * stride) (drop (n * stride) now))) → Inserts l app first (n + 1) body old (put_mid (n * stride) (n * stride + stride - n * stride) now piece)
inserts_more l app first n stride body old now piece s inside h long made =
    let next = next_block n (stride_of l) in
    let d : n * stride + stride - n * stride ≡ stride = omega arith in
    let there : n * stride ≡ n * stride_of l = ap (λ m. n * m) s in
    let block : take (n * stride + stride - n * stride) (drop (n * stride) now) ≡ block_in l old n =
    ap (λ m. take m (drop (n * stride) now)) (d ∙ s) ∙ (ap (λ m. take (stride_of l) (drop m now)) there ∙ ap (take (stride_of l)) h.rest) in
    let same : piece ≡ inserted_block l app first body old n = made ∙ ap (λ (b : List ℕ). with_tuple l app first n (with_data l (data_in l body n) b)) block in
    let wide : length (inserted_block l app first body old n) ≡ stride_of l = sym (ap length same) ∙ long in
    puts_more (place_of_block l) (inserted_block l app first body old) n (n * stride_of l) ((n + 1) * stride_of l) old now (put_mid (n * stride) (n * stride + stride - n * stride) now piece) h
    (part_is_put (n * stride) stride piece now (long ∙ sym s) ∙ (ap (λ m. put_at m piece now) there ∙ ap (λ (p : List ℕ). put_at (n * stride_of l) p now) same)) (omega arith) (omega arith) (omega arith)

-- what the loop keeps that copies data out
abbrev pub Strips : Layout → ℕ → List ℕ → List ℕ → List ℕ → Type 0
Strips l n blocks old now = Puts (place_of_data l) (held l blocks) n (n * l.data_size) old now

-- a block holds as many bytes as a block has data
pub held-length : (l : Layout) (i : ℕ) (blocks : List ℕ) → i * stride_of l + stride_of l ≤ length blocks → length (held l blocks i) ≡ l.data_size
held-length l i blocks inside =
    let long = length-drop (place_of_block l i) blocks in
    length-take-le l.data_size (drop (place_of_block l i) blocks) (omega arith)

pub strips_more : (l : Layout) (n : ℕ) (blocks old now new : List ℕ) → n * stride_of l + stride_of l ≤ length blocks → n * l.data_size + l.data_size ≤ length now → Strips l n blocks old now
    → new ≡ put_at (place_of_data l n) (held l blocks n) now → Strips l (n + 1) blocks old new
strips_more l n blocks old now new inside room h e =
    let next = next_block n l.data_size in
    let long = held-length l n blocks inside in
    puts_more (place_of_data l) (held l blocks) n (n * l.data_size) ((n + 1) * l.data_size) old now new h e (omega arith) (omega arith) (omega arith)
