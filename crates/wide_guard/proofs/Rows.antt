-- Each entry of the tables is the register's.
use Rattle.std.proofs.Common.{◌≡◌, ℕ, zero, suc, ◌+◌, ◌<◌, Bool, true, false, ◌&&◌, eqb, List, [], ◌∷◌, length, get_or, refl, sym, ap, ◌∙◌, arith}
use Rattle.std.proofs.lemmas.Bool.{eqb-true, and_parts}
use Rattle.pi_guard.proofs.Rows.{again, in_row, rows_follow}
use Rattle.wide_guard.specs.Registers.{castagnoli, rocksoft, pass, later, entry}
use Rattle.wide_guard.specs.declared.tables_32.TheConstants.{TABLES as TABLES_32}
use Rattle.wide_guard.specs.declared.tables_64.TheConstants.{TABLES as TABLES_64}

-- the entries from the one of i on
abbrev first_row : (ℕ → ℕ) → ℕ → List ℕ → Bool
first_row f i [] = true
first_row f i (x ∷ xs) = eqb (f i) x && first_row f (suc i) xs

in_first : (f : ℕ → ℕ) (xs : List ℕ) (i k : ℕ) → first_row f i xs ≡ true → k < length xs → get_or xs k 0 ≡ f (i + k)
in_first f [] i k h l = absurd (omega arith)
in_first f (x ∷ xs) i zero h l =
    let b = and_parts (eqb (f i) x) (first_row f (suc i) xs) h in
    let e : i + 0 ≡ i = omega arith in
    sym (eqb-true (f i) x b.0) ∙ ap f (sym e)
in_first f (x ∷ xs) i (suc k) h l =
    let b = and_parts (eqb (f i) x) (first_row f (suc i) xs) h in
    let e : suc i + k ≡ i + suc k = omega arith in
    in_first f xs (suc i) k b.1 (omega arith) ∙ ap f e

again_pass : (p k r : ℕ) → again (pass p) k r ≡ later p k r
unfolding again
again_pass p zero r = refl
again_pass p (suc k) r = again_pass p k (pass p r)

-- what is computed of a table, and what follows of any table of which it holds
abbrev table_holds : (ℕ → ℕ) → List (List ℕ) → Bool
table_holds f [] = false
table_holds f (r ∷ ss) = eqb (length r) 256 && (eqb (length ss) 15 && (first_row f 0 r && rows_follow f r ss))

from_table : (f : ℕ → ℕ) (t : List (List ℕ)) (k i : ℕ) → table_holds f t ≡ true → k < 16 → i < 256 → get_or (get_or t k []) i 0 ≡ again f k (f i)
unfolding again
from_table f [] k i h l m = cc
from_table f (r ∷ ss) zero i h l m =
    let b = and_parts (eqb (length r) 256) (eqb (length ss) 15 && (first_row f 0 r && rows_follow f r ss)) h in
    let c = and_parts (eqb (length ss) 15) (first_row f 0 r && rows_follow f r ss) b.1 in
    let d = and_parts (first_row f 0 r) (rows_follow f r ss) c.1 in
    let e = eqb-true (length r) 256 b.0 in
    let z : 0 + i ≡ i = omega arith in
    in_first f r 0 i d.0 (omega arith) ∙ ap f z
from_table f (r ∷ ss) (suc k) i h l m =
    let b = and_parts (eqb (length r) 256) (eqb (length ss) 15 && (first_row f 0 r && rows_follow f r ss)) h in
    let c = and_parts (eqb (length ss) 15) (first_row f 0 r && rows_follow f r ss) b.1 in
    let d = and_parts (first_row f 0 r) (rows_follow f r ss) c.1 in
    let e = eqb-true (length r) 256 b.0 in
    let g = eqb-true (length ss) 15 c.0 in
    let z : 0 + i ≡ i = omega arith in
    in_row f ss r k i d.1 (omega arith) (omega arith) ∙ ap (again f (suc k)) (in_first f r 0 i d.0 (omega arith) ∙ ap f z)

holds_32 : table_holds (pass castagnoli) TABLES_32 ≡ true
unfolding pass castagnoli
holds_32 = refl

holds_64 : table_holds (pass rocksoft) TABLES_64 ≡ true
unfolding pass rocksoft
holds_64 = refl

pub entry_32 : (k i : ℕ) → k < 16 → i < 256 → get_or (get_or TABLES_32 k []) i 0 ≡ entry castagnoli k i
unfolding entry
entry_32 k i l m = from_table (pass castagnoli) TABLES_32 k i holds_32 l m ∙ again_pass castagnoli k (pass castagnoli i)

pub entry_64 : (k i : ℕ) → k < 16 → i < 256 → get_or (get_or TABLES_64 k []) i 0 ≡ entry rocksoft k i
unfolding entry
entry_64 k i l m = from_table (pass rocksoft) TABLES_64 k i holds_64 l m ∙ again_pass rocksoft k (pass rocksoft i)
