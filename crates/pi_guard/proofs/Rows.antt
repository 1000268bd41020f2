-- Each entry of the seventeen tables is the register's.
use Rattle.std.proofs.Common.{◌≡◌, ℕ, zero, suc, ◌+◌, ◌*◌, ◌<◌, ◌^◌, Bool, true, false, ◌&&◌, eqb, List, [], ◌∷◌, length, get_or, refl, sym, ap, ◌∙◌, arith}
use Rattle.std.proofs.lemmas.Bool.{eqb-true, and_parts}
use Rattle.pi_guard.specs.AfterZeros.{pass, later, entry}
use Rattle.pi_guard.specs.declared.byte_tables.TheConstants.{TABLES}

-- the entries from the one of i on
abbrev first_row : (ℕ → ℕ) → ℕ → List ℕ → Bool
first_row f i [] = true
first_row f i (x ∷ xs) = eqb (f (i * 2 ^ 8)) x && first_row f (suc i) xs

abbrev pub follows : (ℕ → ℕ) → List ℕ → List ℕ → Bool
follows f [] ys = true
follows f (x ∷ xs) [] = false
follows f (x ∷ xs) (y ∷ ys) = eqb (f x) y && follows f xs ys

abbrev pub rows_follow : (ℕ → ℕ) → List ℕ → List (List ℕ) → Bool
rows_follow f r [] = true
rows_follow f r (s ∷ ss) = follows f r s && rows_follow f s ss

in_first : (f : ℕ → ℕ) (xs : List ℕ) (i k : ℕ) → first_row f i xs ≡ true → k < length xs → get_or xs k 0 ≡ f ((i + k) * 2 ^ 8)
in_first f [] i k h l = absurd (omega arith)
in_first f (x ∷ xs) i zero h l =
    let b = and_parts (eqb (f (i * 2 ^ 8)) x) (first_row f (suc i) xs) h in
    let e : i + 0 ≡ i = omega arith in
    sym (eqb-true (f (i * 2 ^ 8)) x b.0) ∙ ap (λ v. f (v * 2 ^ 8)) (sym e)
in_first f (x ∷ xs) i (suc k) h l =
    let b = and_parts (eqb (f (i * 2 ^ 8)) x) (first_row f (suc i) xs) h in
    let e : suc i + k ≡ i + suc k = omega arith in
    in_first f xs (suc i) k b.1 (omega arith) ∙ ap (λ v. f (v * 2 ^ 8)) e

in_next : (f : ℕ → ℕ) (xs ys : List ℕ) (k : ℕ) → follows f xs ys ≡ true → k < length xs → (k < length ys) × (get_or ys k 0 ≡ f (get_or xs k 0))
in_next f [] ys k h l = absurd (omega arith)
in_next f (x ∷ xs) [] k h l = cc
in_next f (x ∷ xs) (y ∷ ys) zero h l = (omega arith, sym (eqb-true (f x) y (and_parts (eqb (f x) y) (follows f xs ys) h).0))
in_next f (x ∷ xs) (y ∷ ys) (suc k) h l =
    let r = in_next f xs ys k (and_parts (eqb (f x) y) (follows f xs ys) h).1 (omega arith) in
    (omega arith, r.1)

unfoldable pub again : (ℕ → ℕ) → ℕ → ℕ → ℕ
again f zero r = r
again f (suc k) r = again f k (f r)

again_pass : (k r : ℕ) → again pass k r ≡ later k r
unfolding again
again_pass zero r = refl
again_pass (suc k) r = again_pass k (pass r)

pub in_row : (f : ℕ → ℕ) (ss : List (List ℕ)) (r : List ℕ) (k i : ℕ) → rows_follow f r ss ≡ true → k < length ss → i < length r →
    get_or (get_or ss k []) i 0 ≡ again f (suc k) (get_or r i 0)
unfolding again
in_row f [] r k i h l m = absurd (omega arith)
in_row f (s ∷ ss) r zero i h l m = (in_next f r s i (and_parts (follows f r s) (rows_follow f s ss) h).0 m).1
in_row f (s ∷ ss) r (suc k) i h l m =
    let b = and_parts (follows f r s) (rows_follow f s ss) h in
    let n = in_next f r s i b.0 m in
    in_row f ss s k i b.1 (omega arith) n.0 ∙ ap (again f (suc k)) n.1

-- what is computed of the table, and what follows of any table of which it holds
abbrev table_holds : (ℕ → ℕ) → List (List ℕ) → Bool
table_holds f [] = false
table_holds f (r ∷ ss) = eqb (length r) 256 && (eqb (length ss) 16 && (first_row f 0 r && rows_follow f r ss))

from_table : (f : ℕ → ℕ) (t : List (List ℕ)) (k i : ℕ) → table_holds f t ≡ true → k < 17 → i < 256 → get_or (get_or t k []) i 0 ≡ again f k (f (i * 2 ^ 8))
unfolding again
from_table f [] k i h l m = cc
from_table f (r ∷ ss) zero i h l m =
    let b = and_parts (eqb (length r) 256) (eqb (length ss) 16 && (first_row f 0 r && rows_follow f r ss)) h in
    let c = and_parts (eqb (length ss) 16) (first_row f 0 r && rows_follow f r ss) b.1 in
    let d = and_parts (first_row f 0 r) (rows_follow f r ss) c.1 in
    let e = eqb-true (length r) 256 b.0 in
    let z : 0 + i ≡ i = omega arith in
    in_first f r 0 i d.0 (omega arith) ∙ ap (λ v. f (v * 2 ^ 8)) z
from_table f (r ∷ ss) (suc k) i h l m =
    let b = and_parts (eqb (length r) 256) (eqb (length ss) 16 && (first_row f 0 r && rows_follow f r ss)) h in
    let c = and_parts (eqb (length ss) 16) (first_row f 0 r && rows_follow f r ss) b.1 in
    let d = and_parts (first_row f 0 r) (rows_follow f r ss) c.1 in
    let e = eqb-true (length r) 256 b.0 in
    let g = eqb-true (length ss) 16 c.0 in
    let z : 0 + i ≡ i = omega arith in
    in_row f ss r k i d.1 (omega arith) (omega arith) ∙ ap (again f (suc k)) (in_first f r 0 i d.0 (omega arith) ∙ ap (λ v. f (v * 2 ^ 8)) z)

it_holds : table_holds pass TABLES ≡ true
unfolding pass
it_holds = refl

pub table_entry : (k i : ℕ) → k < 17 → i < 256 → get_or (get_or TABLES k []) i 0 ≡ entry k i
unfolding entry
table_entry k i l m = from_table pass TABLES k i it_holds l m ∙ again_pass k (pass (i * 2 ^ 8))
