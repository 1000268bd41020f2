-- A block that comes next of those that lie over parts: what is found in it, and what is left behind it.
use Rattle.std.proofs.Common.{◌≡◌, ℕ, ◌+◌, ◌-◌, ◌*◌, ◌≤◌, List, [], ◌++◌, length, take, drop, Option, ap, ◌∙◌, arith}
use Rattle.std.proofs.lemmas.List.{append-nil, drop-drop, length-drop}
use Rattle.pi_guard.specs.declared.GuardKind.{GuardKind}
use Rattle.pi_guard.specs.Guards.{guard_of}
use Rattle.pi_tuple.specs.Finds.{own_tag}
use Rattle.pi_tuple.specs.declared.tuple.Tuple.{Tuple}
use Rattle.pi_tuple.specs.Tuples.{tuple_bytes, tuple_in}
use Rattle.pi_blocks.specs.Blocks.{compared, guard_in, in_line, looked}
use Rattle.pi_blocks.specs.Layouts.{covered_of, kind_of, stride_of, type_of}
use Rattle.pi_blocks.specs.Made.{made_bytes, place_in_line}
use Rattle.pi_blocks.specs.Puts.{put_at}
use Rattle.pi_blocks.specs.declared.block.Found.{Found}
use Rattle.pi_blocks.specs.declared.block.Want.{Want}
use Rattle.pi_blocks.specs.declared.layout.Layout.{Layout}

-- what lies behind the tuple
pub behind_tuple : (covered : ℕ) (left guarded read : List ℕ) → guarded ≡ drop covered left → read ≡ drop 8 guarded → read ≡ drop (covered + 8) left
behind_tuple covered left guarded read g r = r ∙ (ap (drop 8) g ∙ drop-drop 8 covered left)

pub rest_is_there : (stride covered : ℕ) (left read : List ℕ) → read ≡ drop (covered + 8) left → stride ≤ length left → stride - covered - 8 ≤ length read
rest_is_there stride covered left read r enough = let same = ap length r in let long = length-drop (covered + 8) left in omega arith

pub next_block_left : (stride covered : ℕ) (left read new : List ℕ) → covered + 8 ≤ stride → read ≡ drop (covered + 8) left → new ≡ drop (stride - covered - 8) read → new ≡ drop stride left
next_block_left stride covered left read new room r n =
    let all : covered + 8 + (stride - covered - 8) ≡ stride = omega arith in
    n ∙ (ap (drop (stride - covered - 8)) r ∙ (drop-drop (stride - covered - 8) (covered + 8) left ∙ ap (λ m. drop m left) all))

-- the guard of block i, which comes next
pub guard_spread : (l : Layout) (all left : List ℕ) (i covered guard : ℕ) (kind : GuardKind) → left ≡ drop (i * stride_of l) all → kind ≡ kind_of l.guard → covered ≡ covered_of l → guard ≡ guard_of kind (take covered left ++ []) →
    guard ≡ guard_in l (in_line l all i)
guard_spread l all left i covered guard kind e k v g =
    g ∙ (ap (guard_of kind) (append-nil (take covered left)) ∙ (ap (λ m. guard_of kind (take m left)) v
    ∙ (ap (λ (x : List ℕ). guard_of kind (take (covered_of l) x)) e ∙ ap (λ m. guard_of m (take (covered_of l) (drop (i * stride_of l) all))) k)))

-- what comes behind the bytes that its guard is of
pub tuple_left : (l : Layout) (all left guarded : List ℕ) (i covered : ℕ) → left ≡ drop (i * stride_of l) all → covered ≡ covered_of l → guarded ≡ drop covered left → guarded ≡ drop (i * stride_of l + covered_of l) all
tuple_left l all left guarded i covered e v next =
    next ∙ (ap (drop covered) e ∙ (drop-drop covered (i * stride_of l) all ∙ ap (λ m. drop (i * stride_of l + m) all) v))

-- the tuple that is written behind them is made
pub made_spread : (l : Layout) (app first i : ℕ) (all left new bytes : List ℕ) (covered guard rtag : ℕ) (kind : GuardKind) → left ≡ drop (i * stride_of l) all → kind ≡ kind_of l.guard → covered ≡ covered_of l →
    guard ≡ guard_of kind (take covered left ++ []) → rtag ≡ own_tag (type_of l.pi_type) (first + i) → bytes ≡ tuple_bytes (record { guard = guard; app = app; rtag = rtag }) → new ≡ put_at (place_in_line l i) bytes all →
    new ≡ put_at (place_in_line l i) (made_bytes l app first (in_line l all) i) all
made_spread l app first i all left new bytes covered guard rtag kind e k v g t b n =
    let same = guard_spread l all left i covered guard kind e k v g in
    let made : bytes ≡ made_bytes l app first (in_line l all) i =
    b ∙ (ap (λ (m : ℕ). tuple_bytes (record { guard = m; app = app; rtag = rtag })) same ∙ ap (λ (m : ℕ). tuple_bytes (record { guard = guard_in l (in_line l all i); app = app; rtag = m })) t) in
    n ∙ ap (λ (p : List ℕ). put_at (place_in_line l i) p all) made

-- what is found in block i, which comes next
pub looked_spread : (l : Layout) (w : Want) (all left guarded : List ℕ) (i covered guard : ℕ) (kind : GuardKind) (t : Tuple) (found : Option Found) → left ≡ drop (i * stride_of l) all → kind ≡ kind_of l.guard → covered ≡ covered_of l →
    guard ≡ guard_of kind (take covered left ++ []) → guarded ≡ drop covered left → t ≡ tuple_in (take 8 guarded) → found ≡ compared l w i guard t → found ≡ looked l w (in_line l all) i
looked_spread l w all left guarded i covered guard kind t found e k v g next read f =
    let same = guard_spread l all left i covered guard kind e k v g in
    let tuple : t ≡ tuple_in (in_line l all i).tuple =
    read ∙ ap (λ (x : List ℕ). tuple_in (take 8 x)) (tuple_left l all left guarded i covered e v next) in
    f ∙ (ap (λ n. compared l w i n t) same ∙ ap (λ (u : Tuple). compared l w i (guard_in l (in_line l all i)) u) tuple)
