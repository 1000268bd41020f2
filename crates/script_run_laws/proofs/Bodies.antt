-- Data and tuples of an op that keeps the rules of its line.
use Rattle.std.proofs.Common.{◌≡◌, ◌≤◌, ℕ, ◌*◌, Bool, true, false, not, ◌&&◌, ◌||◌, List, [], length, refl, ◌∙◌, arith, Option, Some, None}
use Rattle.std.specs.Prelude.{nat_le, nat_lt, eqb, if◌then◌else◌}
use Rattle.std.proofs.lemmas.Bool.{and_parts, eqb-true, leb-true, not-false}
use Rattle.page_pool.specs.Places.{total}
use Rattle.page_pool.specs.declared.segs.Seg.{Seg}
use Rattle.script_laws.specs.Passed.{are_tuples, both_fault, data_fault, is_body, is_count, are_few_each, are_inside, are_whole_tuples, do_overlap, BadRange, BadSegments, SegOverlap, TooMany}

-- ---- tests and what they say

pub if-none : {X : Type 0} (b : Bool) (x : X) (o : Option X) → (if b then Some x else o) ≡ None → (b ≡ false) × (o ≡ None)
if-none true x o h = absurd cc
if-none false x o h = (refl, h)

-- ---- data, and tuples

-- data of some blocks, inside the pages
pub record IsBody (pages size n : ℕ) (body : List Seg) : Type 0 where
  pub some : 1 ≤ n
  pub few : n ≤ 2048
  pub long : total body ≡ n * size
  pub inside : are_inside pages body ≡ true

pub record HaveTuples (pages n : ℕ) (tuples : List Seg) : Type 0 where
  pub whole : are_whole_tuples tuples ≡ true
  pub long : total tuples ≡ 8 * n
  pub inside : are_inside pages tuples ≡ true

body-of : (pages size n : ℕ) (body : List Seg) → is_count n ≡ true → is_body pages size n body ≡ true → IsBody pages size n body
body-of pages size n body c h =
    let a = and_parts (are_inside pages body) (eqb (total body) (size * n) && are_few_each size n body) h in
    let b = and_parts (eqb (total body) (size * n)) (are_few_each size n body) a.1 in
    let k = and_parts (nat_le 1 n) (nat_le n 2048) c in
    let l = eqb-true (total body) (size * n) b.0 in
    let turned : size * n ≡ n * size = grind arith in
    record { some = leb-true 1 n k.0; few = leb-true n 2048 k.1; long = l ∙ turned; inside = a.0 }

tuples-of : (pages n : ℕ) (tuples : List Seg) → are_tuples pages n tuples ≡ true → HaveTuples pages n tuples
tuples-of pages n tuples h =
    let a = and_parts (are_inside pages tuples) (eqb (total tuples) (8 * n) && are_whole_tuples tuples) h in
    let b = and_parts (eqb (total tuples) (8 * n)) (are_whole_tuples tuples) a.1 in
    record { whole = b.1; long = eqb-true (total tuples) (8 * n) b.0; inside = a.0 }

-- data alone, and data with tuples, of which no byte is there twice
pub record IsAlone (pages size n : ℕ) (body : List Seg) : Type 0 where
  pub body_is : IsBody pages size n body
  pub overlap : do_overlap body [] ≡ false

pub alone-of : (pages size n : ℕ) (body : List Seg) → data_fault pages size n body ≡ None → IsAlone pages size n body
alone-of pages size n body h =
    let a = if-none (nat_lt 512 (length body)) TooMany _ h in
    let b = if-none (not (is_count n)) BadRange _ a.1 in
    let c = if-none (not (is_body pages size n body)) BadSegments _ b.1 in
    let d = if-none (do_overlap body []) SegOverlap None c.1 in
    record { body_is = body-of pages size n body (not-false (is_count n) b.0) (not-false (is_body pages size n body) c.0); overlap = d.0 }

pub record AreBoth (pages size n : ℕ) (body tuples : List Seg) : Type 0 where
  pub body_is : IsBody pages size n body
  pub tuples_are : HaveTuples pages n tuples
  pub overlap : do_overlap body tuples ≡ false

pub both-of : (pages size n : ℕ) (body tuples : List Seg) → both_fault pages size n body tuples ≡ None → AreBoth pages size n body tuples
both-of pages size n body tuples h =
    let a = if-none (nat_lt 512 (length body) || nat_lt 512 (length tuples)) TooMany _ h in
    let b = if-none (not (is_count n)) BadRange _ a.1 in
    let c = if-none (not (is_body pages size n body && are_tuples pages n tuples)) BadSegments _ b.1 in
    let d = if-none (do_overlap body tuples) SegOverlap None c.1 in
    let w = and_parts (is_body pages size n body) (are_tuples pages n tuples) (not-false (is_body pages size n body && are_tuples pages n tuples) c.0) in
    record { body_is = body-of pages size n body (not-false (is_count n) b.0) w.0; tuples_are = tuples-of pages n tuples w.1; overlap = d.0 }
