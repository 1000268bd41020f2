-- One more block of a walk over segments, in few of them.
use Rattle.std.proofs.Common.{ℕ, suc, ◌≡◌, ◌+◌, ◌-◌, ◌*◌, ◌<◌, ◌≤◌, ◌&&◌, Bool, true, leb, List, length, sym, ap, ◌∙◌, arith}
use Rattle.std.proofs.lemmas.Bool.Decides.{nat_tests}
use Rattle.page_pool.specs.declared.segs.Seg.{Seg}
use Rattle.page_pool.specs.Cuts.{past, upto}
use Rattle.page_pool.proofs.Cutting.{past-past}
use Rattle.script_text.specs.Segments.{few_from}

-- a part of the next bytes was taken
pub part_taken : (left : ℕ) (old new : List Seg) (s : Seg) → s.len ≤ left → new ≡ past s.len old → past (left - s.len) new ≡ past left old
part_taken left old new s w e =
    let sum : s.len + (left - s.len) ≡ left = omega (arith, w) in
    ap (past (left - s.len)) e ∙ past-past (left - s.len) s.len old ∙ ap (λ n. past n old) sum

-- the next block's parts are few, or it is refused
pub next_few : (size at n : ℕ) (segs : List Seg) → length (upto size (past at segs)) ≤ 4 → few_from size at (suc n) segs ≡ few_from size (at + size) n segs
next_few size at n segs h =
    let t : leb (length (upto size (past at segs))) 4 ≡ true = grind (arith, nat_tests) in
    ap (λ b. b && few_from size (at + size) n segs) t

-- one block further along a list
pub next_block : (size k n count : ℕ) (walk segs : List Seg) (all : Bool) → k < n → walk ≡ past (k * size) segs → few_from size (k * size) (n - k) segs ≡ all → count ≡ length (upto size walk) → count ≤ 4 → few_from size ((k + 1) * size) (n - (k + 1)) segs ≡ all
next_block size k n count walk segs all lt w f e few =
    let left : n - k ≡ suc (n - (k + 1)) = omega (arith, lt) in
    let at : (k + 1) * size ≡ k * size + size = omega arith in
    let h : length (upto size (past (k * size) segs)) ≤ 4 = omega (arith, ap (λ v. length (upto size v)) w, e, few) in
    ap (λ p. few_from size p (n - (k + 1)) segs) at ∙ sym (next_few size (k * size) (n - (k + 1)) segs h) ∙ sym (ap (λ m. few_from size (k * size) m segs) left) ∙ f

pub next_walk : (size k : ℕ) (walk new segs : List Seg) → walk ≡ past (k * size) segs → new ≡ past size walk → new ≡ past ((k + 1) * size) segs
next_walk size k walk new segs w e =
    let at : k * size + size ≡ (k + 1) * size = omega arith in
    e ∙ ap (past size) w ∙ past-past size (k * size) segs ∙ ap (λ p. past p segs) at
