-- Tuples that were made are alone in what was written, and are found to be fine.
use Rattle.std.proofs.Common.{◌≡◌, ℕ, ◌+◌, ◌*◌, ◌/◌, ◌^◌, ◌<◌, ◌≤◌, ◌⊎◌, Bool, true, false, not, ◌&&◌, eqb, List, ◌++◌, length, take, drop, None, refl, ap, ◌∙◌, sym, subst, inl, inr, arith}
use Rattle.std.specs.Prelude.{bit_and}
use Rattle.std.proofs.lemmas.Bool.{and_right, cases_lt, eq-eqb, not_from_true}
use Rattle.std.proofs.Math.Nat.{mul-le-mul_right}
use Rattle.pi_guard.specs.Guards.{guard_of}
use Rattle.pi_guard.proofs.GuardSizes.{guard_below}
use Rattle.pi_tuple.specs.Finds.{finding, own_tag}
use Rattle.pi_tuple.specs.Tuples.{ref_tag, tuple_in}
use Rattle.pi_tuple.specs.declared.tuple.Tuple.{Tuple}
use Rattle.pi_tuple.specs.declared.checks.PiType.{PiType}
use Rattle.pi_tuple.specs.declared.checks.PiType.TheVariants.{Zero, One, Two, Three}
use Rattle.pi_tuple.specs.declared.checks.Checks.{Checks}
use Rattle.pi_tuple.proofs.TupleLaws.{own_below, read_back}
use Rattle.pi_blocks.specs.Blocks.{Block, apart, checks_of, guard_in, in_line, looked, told_by, told_of}
use Rattle.pi_blocks.specs.Laws.{AreFineWhenMade, AreFineWhenMadeApart, IsClear, MakesTuplesAlone, MakesTuplesApart, count_of}
use Rattle.pi_blocks.specs.Layouts.{covered_of, is_good, kind_of, stride_of, type_of}
use Rattle.pi_blocks.specs.Made.{made_apart, made_bytes, made_in_line}
use Rattle.pi_blocks.specs.Puts.{all_put}
use Rattle.pi_blocks.specs.declared.block.Want.{Want}
use Rattle.pi_blocks.specs.declared.layout.Layout.{Layout}
use Rattle.pi_blocks.proofs.MapLaws.{has_room, whole_within}
use Rattle.pi_blocks.proofs.Puts.{Fit, all_put-apart, all_put-length, all_put-stands, fit_in_blocks}
use Rattle.pi_blocks.proofs.Tuples.{first_by}
use Rattle.small_laws.proofs.Numbers.{next_block}

same_guard : (b : Bool) (g : ℕ) → (b && not (eqb g g)) ≡ false
same_guard b g = and_right b (not (eqb g g)) (not_from_true (eqb g g) (eq-eqb g g refl))

same_app : (app mask : ℕ) → not (eqb (bit_and app mask) (bit_and app mask)) ≡ false
same_app app mask = not_from_true _ (eq-eqb (bit_and app mask) (bit_and app mask) refl)

same_tag : (b : Bool) (lba : ℕ) → (b && not (eqb (ref_tag lba) (ref_tag lba))) ≡ false
same_tag b lba = same_guard b (ref_tag lba)

none_by : (e g a t : Bool) → g ≡ false → a ≡ false → t ≡ false → first_by e g a t ≡ None
none_by true g a t x y z = refl
none_by false g a t x y z = rw (x, y, z) refl

-- a made tuple differs in nothing from what it was made of
nothing_found : (ty : PiType) (what : Checks) (lba guard : ℕ) → finding ty what (ref_tag lba) guard (record { guard = guard; app = what.app; rtag = own_tag ty lba }) ≡ None
nothing_found Zero what lba guard = refl
nothing_found One what lba guard = none_by _ _ _ _ (same_guard what.guard guard) (same_app what.app what.mask) (same_tag what.rtag lba)
nothing_found Two what lba guard = none_by _ _ _ _ (same_guard what.guard guard) (same_app what.app what.mask) (same_tag what.rtag lba)
nothing_found Three what lba guard = none_by _ _ _ _ (same_guard what.guard guard) (same_app what.app what.mask) (and_right what.rtag false refl)

-- pieces of eight bytes at one place of each block
module _ (size off n : ℕ) (bytes : List ℕ) (piece : ℕ → List ℕ) (room : off + 8 ≤ size) (le : n * size ≤ length bytes) (eight : (i : ℕ) → length (piece i) ≡ 8) where
  fits : Fit (λ i. i * size + off) piece n (length bytes)
  fits = fit_in_blocks size off 8 n (length bytes) piece room le (λ i lt. eight i)

  pub same_length : length (all_put (λ i. i * size + off) piece n bytes) ≡ length bytes
  same_length = all_put-length (λ i. i * size + off) piece n bytes fits

  pub each_stands : (i : ℕ) → i < n → take 8 (drop (i * size + off) (all_put (λ i. i * size + off) piece n bytes)) ≡ piece i
  each_stands i lt = ap (λ m. take m (drop (i * size + off) (all_put (λ i. i * size + off) piece n bytes))) (sym (eight i)) ∙ all_put-stands (λ i. i * size + off) piece n i bytes fits lt

  pub others_stay : (at width : ℕ) → IsClear (λ i. i * size + off) 8 n at width → take width (drop at (all_put (λ i. i * size + off) piece n bytes)) ≡ take width (drop at bytes)
  others_stay at width clear = all_put-apart (λ i. i * size + off) piece n at width bytes fits (λ i lt. subst (λ m. (at + width ≤ i * size + off) ⊎ (i * size + off + m ≤ at)) (sym (eight i)) (clear i lt))

  -- the bytes before the piece of its block stay
  pub before_stays : (k : ℕ) → take off (drop (k * size) (all_put (λ i. i * size + off) piece n bytes)) ≡ take off (drop (k * size) bytes)
  before_stays k = others_stay (k * size) off (λ i lt. elim (cases_lt i k) [
    | inl below ↦ let a : (i + 1) * size ≤ k * size = mul-le-mul_right size (omega arith) in let b = next_block i size in inr (omega arith)
    | inr above ↦ let a : k * size ≤ i * size = mul-le-mul_right size above in inl (omega arith)
  ])

made_eight : (l : Layout) (app first : ℕ) (blocks : ℕ → Block) (i : ℕ) → length (made_bytes l app first blocks i) ≡ 8
made_eight l app first blocks i = refl

pub makes_tuples_alone : (l : Layout) (app first : ℕ) (bytes : List ℕ) → is_good l ≡ true → MakesTuplesAlone l app first bytes
makes_tuples_alone l app first bytes good =
    let room = has_room l good in
    let le = whole_within (length bytes) (stride_of l) in
    let piece = made_bytes l app first (in_line l bytes) in
    let eight = made_eight l app first (in_line l bytes) in
    record {
      long = same_length (stride_of l) (covered_of l) (count_of l bytes) bytes piece (omega arith) le eight;
      tuples = each_stands (stride_of l) (covered_of l) (count_of l bytes) bytes piece (omega arith) le eight;
      others = others_stay (stride_of l) (covered_of l) (count_of l bytes) bytes piece (omega arith) le eight;
    }

pub makes_tuples_apart : (l : Layout) (app first : ℕ) (body meta : List ℕ) → is_good l ≡ true → MakesTuplesApart l app first body meta
makes_tuples_apart l app first body meta good =
    let room = has_room l good in
    let le = whole_within (length meta) l.meta_size in
    let piece = made_bytes l app first (apart l body meta) in
    let eight = made_eight l app first (apart l body meta) in
    record {
      long = same_length l.meta_size l.tuple_at (length meta / l.meta_size) meta piece room le eight;
      tuples = each_stands l.meta_size l.tuple_at (length meta / l.meta_size) meta piece room le eight;
      others = others_stay l.meta_size l.tuple_at (length meta / l.meta_size) meta piece room le eight;
    }

-- a block with the tuple that was made of its bytes is fine
fine_block : (l : Layout) (w : Want) (was now : ℕ → Block) (k : ℕ) → w.app < 2 ^ 16 → (now k).guarded ≡ (was k).guarded → (now k).tuple ≡ made_bytes l w.app w.first_ref was k → looked l w now k ≡ None
fine_block l w was now k small same stands =
    let ty = type_of l.pi_type in
    let g = guard_in l (was k) in
    let guard : guard_in l (now k) ≡ g = ap (λ (b : List ℕ). guard_of (kind_of l.guard) b) same in
    let tuple = ap tuple_in stands ∙ read_back g w.app (own_tag ty (w.first_ref + k)) (guard_below (kind_of l.guard) (was k).guarded) small (own_below ty (w.first_ref + k)) in
    let found : finding ty (checks_of w) (ref_tag (w.first_ref + k)) (guard_in l (now k)) (tuple_in (now k).tuple) ≡ None =
    ap (λ n. finding ty (checks_of w) (ref_tag (w.first_ref + k)) n (tuple_in (now k).tuple)) guard
    ∙ (ap (λ (t : Tuple). finding ty (checks_of w) (ref_tag (w.first_ref + k)) g t) tuple ∙ nothing_found ty (checks_of w) (w.first_ref + k) g) in
    ap (told_by (told_of w k (guard_in l (now k)) (tuple_in (now k).tuple))) found

pub fine_when_made : (l : Layout) (w : Want) (bytes : List ℕ) → is_good l ≡ true → w.app < 2 ^ 16 → AreFineWhenMade l w bytes
fine_when_made l w bytes good small k lt =
    let room = has_room l good in
    let le = whole_within (length bytes) (stride_of l) in
    let piece = made_bytes l w.app w.first_ref (in_line l bytes) in
    let eight = made_eight l w.app w.first_ref (in_line l bytes) in
    fine_block l w (in_line l bytes) (in_line l (made_in_line l w.app w.first_ref (count_of l bytes) bytes)) k small
    (before_stays (stride_of l) (covered_of l) (count_of l bytes) bytes piece (omega arith) le eight k)
    (each_stands (stride_of l) (covered_of l) (count_of l bytes) bytes piece (omega arith) le eight k lt)

pub fine_when_made_apart : (l : Layout) (w : Want) (body meta : List ℕ) → is_good l ≡ true → w.app < 2 ^ 16 → AreFineWhenMadeApart l w body meta
fine_when_made_apart l w body meta good small k lt =
    let room = has_room l good in
    let n = length meta / l.meta_size in
    let le = whole_within (length meta) l.meta_size in
    let piece = made_bytes l w.app w.first_ref (apart l body meta) in
    let eight = made_eight l w.app w.first_ref (apart l body meta) in
    fine_block l w (apart l body meta) (apart l body (made_apart l w.app w.first_ref n body meta)) k small
    (ap (λ (x : List ℕ). take l.data_size (drop (k * l.data_size) body) ++ x) (before_stays l.meta_size l.tuple_at n meta piece room le eight k))
    (each_stands l.meta_size l.tuple_at n meta piece room le eight k lt)
