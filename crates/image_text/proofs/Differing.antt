-- The lines of the blocks that differ are taken apart block by block, and each tells what differs.
use Rattle.std.proofs.Common.{ℕ, ◌≡◌, ◌+◌, ◌-◌, ◌<◌, Bool, true, false, not, if◌then◌else◌, ◌||◌, List, [], ◌∷◌, ◌++◌, take, drop, refl, sym, ap, ◌∙◌, arith}
use Rattle.std.proofs.lemmas.Bool.{or_parts}
use Rattle.std.proofs.lemmas.Slice.Eq.{bytes_eq-Decides}
use Rattle.std.specs.Str.{bytes_eq}
use Rattle.rig_api.specs.Frames.{frames_of, tuple_of}
use Rattle.image_text.specs.DiffText.{count_differ, data_alone, data_differ, diff_line, diff_lines, differences, differs, have_tuples, tuples_differ}
use Rattle.image_text.specs.Laws.{AllAgree, BlocksAgree, NothingDiffers}
use Rattle.image_text.specs.ShowText.{one_if}
use Rattle.image_text.specs.declared.diff.Pair.{Pair}
use Rattle.image_text.proofs.Frames.{next_frame}
use Rattle.small_laws.proofs.Tests.{same_number, no_other_number}

-- the line of the next two blocks, and the lines behind it
pub diff_at : (p : Pair) (lba other len other_len m k n : ℕ) (rest others one two more other_more line : List ℕ) → m ≡ len → k ≡ other_len → one ≡ take m rest → two ≡ take k others → more ≡ drop m rest → other_more ≡ drop k others →
    line ≡ diff_line p lba other one two → 0 < n →
    diff_lines p lba other (frames_of len n rest) (frames_of other_len n others) ≡ line ++ diff_lines p (lba + 1) (other + 1) (frames_of len (n - 1) more) (frames_of other_len (n - 1) other_more)
diff_at p lba other len other_len m k n rest others one two more other_more line e f a b c d l h =
    rw (l, a, b, c, d, e, f) (ap (λ (x : List (List ℕ)). diff_lines p lba other x (frames_of other_len n others)) (next_frame len n rest h)
    ∙ ap (diff_lines p lba other (take len rest ∷ frames_of len (n - 1) (drop len rest))) (next_frame other_len n others h))

-- two blocks more are counted
pub differ_at : (p : Pair) (lba other len other_len m k n differ next total : ℕ) (is_other : Bool) (rest others one two more other_more : List ℕ) → m ≡ len → k ≡ other_len → one ≡ take m rest → two ≡ take k others → more ≡ drop m rest → other_more ≡ drop k others →
    is_other ≡ differs (differences p lba other one two) → 0 < n → differ + count_differ p lba other (frames_of len n rest) (frames_of other_len n others) ≡ total → next ≡ differ + one_if is_other →
    next + count_differ p (lba + 1) (other + 1) (frames_of len (n - 1) more) (frames_of other_len (n - 1) other_more) ≡ total
differ_at p lba other len other_len m k n differ next total is_other rest others one two more other_more e f a b c d i h sum new =
    let step : count_differ p lba other (frames_of len n rest) (frames_of other_len n others) ≡ one_if is_other + count_differ p (lba + 1) (other + 1) (frames_of len (n - 1) more) (frames_of other_len (n - 1) other_more) =
    rw (i, a, b, c, d, e, f) (ap (λ (x : List (List ℕ)). count_differ p lba other x (frames_of other_len n others)) (next_frame len n rest h)
    ∙ ap (count_differ p lba other (take len rest ∷ frames_of len (n - 1) (drop len rest))) (next_frame other_len n others h)) in
    omega (arith, step, sum, new)

-- ---- nothing differs exactly where all are alike

bytes_by : (xs ys : List ℕ) (t : Bool) → bytes_eq xs ys ≡ t → not t ≡ false → xs ≡ ys
bytes_by xs ys true k e = (bytes_eq-Decides xs ys).0 k
bytes_by xs ys false k e = absurd (cc)

same_bytes : (xs ys : List ℕ) → not (bytes_eq xs ys) ≡ false → xs ≡ ys
same_bytes xs ys e = bytes_by xs ys (bytes_eq xs ys) refl e

no_other_bytes : (xs ys : List ℕ) → xs ≡ ys → not (bytes_eq xs ys) ≡ false
no_other_bytes xs ys e = ap not ((bytes_eq-Decides xs ys).1 e)

none_of : (a b c d : Bool) → a ≡ false → b ≡ false → c ≡ false → d ≡ false → (a || (b || (c || d))) ≡ false
none_of a b c d e f g h = rw (e, f, g, h) refl

agree_by : (p : Pair) (lba other : ℕ) (one two : List ℕ) (t : Bool) → have_tuples p ≡ t → differs (if t then tuples_differ p (data_differ p one two) lba other (tuple_of p.unit.size one) (tuple_of p.other_unit.size two) else data_alone (data_differ p one two)) ≡ false → BlocksAgree p lba other one two
agree_by p lba other one two true k e =
    let a = or_parts _ _ e in
    let b = or_parts _ _ a.1 in
    let c = or_parts _ _ b.1 in
    record { content = same_bytes _ _ a.0; tuples = λ z. record { guard = same_number _ _ b.0; app = same_number _ _ c.0; tag = same_number _ _ c.1 } }
agree_by p lba other one two false k e =
    let a = or_parts _ _ e in
    record { content = same_bytes _ _ a.0; tuples = λ z. (let both : false ≡ true = sym k ∙ z in absurd (cc)) }

agrees_so : (p : Pair) (lba other : ℕ) (one two : List ℕ) (t : Bool) → have_tuples p ≡ t → BlocksAgree p lba other one two → differs (if t then tuples_differ p (data_differ p one two) lba other (tuple_of p.unit.size one) (tuple_of p.other_unit.size two) else data_alone (data_differ p one two)) ≡ false
agrees_so p lba other one two true k h = let t = h.tuples k in none_of _ _ _ _ (no_other_bytes _ _ h.content) (no_other_number _ _ t.guard) (no_other_number _ _ t.app) (no_other_number _ _ t.tag)
agrees_so p lba other one two false k h = none_of _ false false false (no_other_bytes _ _ h.content) refl refl refl

none_counted : (b : Bool) (n : ℕ) → one_if b + n ≡ 0 → (b ≡ false) × (n ≡ 0)
none_counted true n e = absurd (omega (arith, e))
none_counted false n e = (refl, omega (arith, e))

all_agree : (p : Pair) (lba other : ℕ) (ones twos : List (List ℕ)) → count_differ p lba other ones twos ≡ 0 → AllAgree p lba other ones twos
all_agree p lba other [] twos e = tt
all_agree p lba other (one ∷ ones) [] e = tt
all_agree p lba other (one ∷ ones) (two ∷ twos) e =
    let k = none_counted (differs (differences p lba other one two)) (count_differ p (lba + 1) (other + 1) ones twos) e in
    (agree_by p lba other one two (have_tuples p) refl k.0, all_agree p (lba + 1) (other + 1) ones twos k.1)

none_differs : (p : Pair) (lba other : ℕ) (ones twos : List (List ℕ)) → AllAgree p lba other ones twos → count_differ p lba other ones twos ≡ 0
none_differs p lba other [] twos h = refl
none_differs p lba other (one ∷ ones) [] h = refl
none_differs p lba other (one ∷ ones) (two ∷ twos) h =
    let one : one_if (differs (differences p lba other one two)) ≡ 0 = ap one_if (agrees_so p lba other one two (have_tuples p) refl h.0) in
    let rest = none_differs p (lba + 1) (other + 1) ones twos h.1 in
    omega (arith, one, rest)

pub nothing_differs : NothingDiffers
nothing_differs = λ p lba other ones twos. (λ e. all_agree p lba other ones twos e, λ h. none_differs p lba other ones twos h)
