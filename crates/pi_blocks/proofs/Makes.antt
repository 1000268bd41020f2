-- One more tuple made in place.
use Rattle.std.proofs.Common.{◌≡◌, ℕ, ◌+◌, ◌*◌, ◌≤◌, List, length, take, drop, refl, ap, ◌∙◌, arith}
use Rattle.pi_guard.specs.Guards.{guard_of}
use Rattle.pi_tuple.specs.Finds.{own_tag}
use Rattle.pi_tuple.specs.Tuples.{tuple_bytes}
use Rattle.pi_blocks.specs.Blocks.{Block, in_line}
use Rattle.pi_blocks.specs.Layouts.{covered_of, kind_of, stride_of, type_of}
use Rattle.pi_blocks.specs.Made.{made_bytes, place_in_line}
use Rattle.pi_blocks.specs.Puts.{put_at}
use Rattle.pi_blocks.specs.declared.layout.Layout.{Layout}
use Rattle.pi_blocks.proofs.Puts.{Puts, puts_more, same_part}
use Rattle.small_laws.proofs.Numbers.{next_block}

-- the tuple that is made looks at nothing but the guarded bytes
pub made_by_guarded : (l : Layout) (app first : ℕ) (blocks others : ℕ → Block) (i : ℕ) → (blocks i).guarded ≡ (others i).guarded → made_bytes l app first blocks i ≡ made_bytes l app first others i
made_by_guarded l app first blocks others i e = ap (λ (b : List ℕ). tuple_bytes (record { guard = guard_of (kind_of l.guard) b; app = app; rtag = own_tag (type_of l.pi_type) (first + i) })) e

-- what the loop keeps
abbrev pub Makes : Layout → ℕ → ℕ → ℕ → List ℕ → List ℕ → Type 0
Makes l app first n old now = Puts (place_in_line l) (made_bytes l app first (in_line l old)) n (n * stride_of l) old now

pub makes_more : (l : Layout) (app first n : ℕ) (old now new : List ℕ) → l.tuple_at + 8 ≤ l.meta_size → n * stride_of l + stride_of l ≤ length now → Makes l app first n old now
    → new ≡ put_at (place_in_line l n) (made_bytes l app first (in_line l now) n) now → Makes l app first (n + 1) old new
makes_more l app first n old now new room inside h e =
    let next = next_block n (stride_of l) in
    let place = place_in_line l n in
    let made = made_bytes l app first (in_line l old) n in
    let guarded : take (covered_of l) (drop (n * stride_of l) now) ≡ take (covered_of l) (drop (n * stride_of l) old) = same_part (n * stride_of l) (n * stride_of l) (covered_of l) old now (omega arith) h.rest in
    let piece : made_bytes l app first (in_line l now) n ≡ made = made_by_guarded l app first (in_line l now) (in_line l old) n guarded in
    let eight : length made ≡ 8 = refl in
    puts_more (place_in_line l) (made_bytes l app first (in_line l old)) n (n * stride_of l) ((n + 1) * stride_of l) old now new h (e ∙ ap (λ (p : List ℕ). put_at place p now) piece) (omega arith) (omega arith) (omega arith)
