-- Blocks whose data and tuples stand apart: where the next one begins, and what it leaves.
use Rattle.std.proofs.Common.{◌≡◌, ℕ, ◌+◌, ◌-◌, ◌*◌, ◌≤◌, List, ◌++◌, length, take, drop, Option, refl, ap, ◌∙◌, sym, arith}
use Rattle.std.proofs.lemmas.List.{drop-drop}
use Rattle.pi_guard.specs.declared.GuardKind.{GuardKind}
use Rattle.pi_guard.specs.Guards.{guard_of}
use Rattle.pi_tuple.specs.declared.tuple.Tuple.{Tuple}
use Rattle.pi_tuple.specs.Tuples.{tuple_in}
use Rattle.pi_blocks.specs.Blocks.{apart, compared, guard_in, looked}
use Rattle.pi_blocks.specs.Layouts.{kind_of}
use Rattle.pi_blocks.specs.Made.{made_bytes, place_apart}
use Rattle.pi_blocks.specs.Puts.{put_at}
use Rattle.pi_blocks.specs.declared.block.Found.{Found}
use Rattle.pi_blocks.specs.declared.block.Want.{Want}
use Rattle.pi_blocks.specs.declared.layout.Layout.{Layout}
use Rattle.pi_blocks.proofs.Makes.{made_by_guarded}
use Rattle.pi_blocks.proofs.Puts.{Puts, puts_more, same_part}
use Rattle.small_laws.proofs.Numbers.{next_block}

-- what is found in block i, whose data come next
pub looked_apart : (l : Layout) (w : Want) (body left meta : List ℕ) (i guard : ℕ) (kind : GuardKind) (t : Tuple) (found : Option Found) → left ≡ drop (i * l.data_size) body → kind ≡ kind_of l.guard →
    guard ≡ guard_of kind (take l.data_size left ++ take (i * l.meta_size + l.tuple_at - i * l.meta_size) (drop (i * l.meta_size) meta)) → found ≡ compared l w i guard t →
    t ≡ tuple_in (apart l body meta i).tuple → found ≡ looked l w (apart l body meta) i
looked_apart l w body left meta i guard kind t found e k g f read =
    let before = take l.data_size (drop (i * l.data_size) body) in
    let d : i * l.meta_size + l.tuple_at - i * l.meta_size ≡ l.tuple_at = omega arith in
    let same : guard ≡ guard_in l (apart l body meta i) =
    g ∙ (ap (λ (x : List ℕ). guard_of kind (take l.data_size x ++ take (i * l.meta_size + l.tuple_at - i * l.meta_size) (drop (i * l.meta_size) meta))) e
    ∙ (ap (λ n. guard_of kind (before ++ take n (drop (i * l.meta_size) meta))) d ∙ ap (λ m. guard_of m (before ++ take l.tuple_at (drop (i * l.meta_size) meta))) k)) in
    f ∙ (ap (λ n. compared l w i n t) same ∙ ap (λ (u : Tuple). compared l w i (guard_in l (apart l body meta i)) u) read)

-- the data of the next block come next
pub next_data : (i size : ℕ) (body left new : List ℕ) → left ≡ drop (i * size) body → new ≡ drop size left → new ≡ drop ((i + 1) * size) body
next_data i size body left new e f = f ∙ (ap (drop size) e ∙ (drop-drop size (i * size) body ∙ ap (λ n. drop n body) (sym (next_block i size))))

-- what the loop keeps
abbrev pub MakesApart : Layout → ℕ → ℕ → ℕ → List ℕ → List ℕ → List ℕ → Type 0
MakesApart l app first n body old now = Puts (place_apart l) (made_bytes l app first (apart l body old)) n (n * l.meta_size) old now

pub makes_more_apart : (l : Layout) (app first n : ℕ) (body old now new : List ℕ) → l.tuple_at + 8 ≤ l.meta_size → n * l.meta_size + l.meta_size ≤ length now → MakesApart l app first n body old now
    → new ≡ put_at (place_apart l n) (made_bytes l app first (apart l body now) n) now → MakesApart l app first (n + 1) body old new
makes_more_apart l app first n body old now new room inside h e =
    let next = next_block n l.meta_size in
    let place = place_apart l n in
    let made = made_bytes l app first (apart l body old) n in
    let before = take l.data_size (drop (n * l.data_size) body) in
    let front : take l.tuple_at (drop (n * l.meta_size) now) ≡ take l.tuple_at (drop (n * l.meta_size) old) = same_part (n * l.meta_size) (n * l.meta_size) l.tuple_at old now (omega arith) h.rest in
    let piece : made_bytes l app first (apart l body now) n ≡ made = made_by_guarded l app first (apart l body now) (apart l body old) n (ap (λ (x : List ℕ). before ++ x) front) in
    let eight : length made ≡ 8 = refl in
    puts_more (place_apart l) (made_bytes l app first (apart l body old)) n (n * l.meta_size) ((n + 1) * l.meta_size) old now new h (e ∙ ap (λ (p : List ℕ). put_at place p now) piece) (omega arith) (omega arith) (omega arith)

-- at first all data come next
pub all_left : (size : ℕ) (body : List ℕ) → body ≡ drop (0 * size) body
all_left size body = let none : 0 ≡ 0 * size = omega arith in ap (λ n. drop n body) none
