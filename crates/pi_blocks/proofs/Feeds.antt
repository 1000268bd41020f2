-- Bytes that are fed in pieces: what is left, and the guard of all so far.
use Rattle.std.proofs.Common.{◌≡◌, ℕ, ◌+◌, ◌-◌, ◌≤◌, List, ◌++◌, length, take, drop, ap, ◌∙◌, sym, subst, arith}
use Rattle.std.proofs.lemmas.List.{append_assoc, drop-drop, length-drop}
use Rattle.std.proofs.Math.Seq.{take-add}
use Rattle.pi_guard.specs.Stands.{Stands}
use Rattle.pi_guard.specs.declared.GuardRun.{GuardRun}

-- what was taken of a list before it is longer by what one part gave
count_on : (count wanted took : ℕ) → wanted ≤ count → took ≤ wanted → count - wanted + took ≡ count - (wanted - took)
count_on count wanted took w t = omega arith

pub left_on : (count wanted took : ℕ) (all left new : List ℕ) → wanted ≤ count → took ≤ wanted → left ≡ drop (count - wanted) all → new ≡ drop took left → new ≡ drop (count - (wanted - took)) all
left_on count wanted took all left new w t e f = f ∙ (ap (drop took) e ∙ (drop-drop took (count - wanted) all ∙ ap (λ n. drop n all) (count_on count wanted took w t)))

pub enough_on : (wanted took : ℕ) (left new : List ℕ) → took ≤ wanted → wanted ≤ length left → new ≡ drop took left → wanted - took ≤ length new
enough_on wanted took left new t h e = let long = length-drop took left in let same = ap length e in omega arith

pub read_on : (count wanted took : ℕ) (all left : List ℕ) (start now next : GuardRun) → wanted ≤ count → took ≤ wanted → left ≡ drop (count - wanted) all →
    ((b : List ℕ) → Stands start b → Stands now (b ++ take (count - wanted) all)) → ((b : List ℕ) → Stands now b → Stands next (b ++ take took left)) →
    (b : List ℕ) → Stands start b → Stands next (b ++ take (count - (wanted - took)) all)
read_on count wanted took all left start now next w t e before step b h =
    let both : take (count - wanted) all ++ take took left ≡ take (count - (wanted - took)) all =
    ap (λ (l : List ℕ). take (count - wanted) all ++ take took l) e ∙ (sym (take-add (count - wanted) took all) ∙ ap (λ n. take n all) (count_on count wanted took w t)) in
    subst (λ l. Stands next l) (append_assoc b (take (count - wanted) all) (take took left) ∙ ap (λ (l : List ℕ). b ++ l) both) (step (b ++ take (count - wanted) all) (before b h))
