-- Where the words of a text begin and end, byte by byte.
use Rattle.std.proofs.Common.{ℕ, zero, suc, ◌≡◌, ◌+◌, ◌-◌, ◌<◌, ◌≤◌, Bool, true, false, eqb, cond, List, [], ◌∷◌, ◌++◌, length, Option, Some, None, sym, ap, ◌∙◌, arith, append_assoc}
use Rattle.script_words.specs.Cuts.{cut}
use Rattle.fault_marks.specs.Marks.{last_end, last_end_from}
use Rattle.fault_marks.specs.Words.{behind_newline, spans_from, spans_of, text_behind}
use Rattle.fault_marks.specs.declared.words.Span.{Span}

-- a space ends the word that has begun
pub at_space : (begun : Option ℕ) (at b : ℕ) (rest : List ℕ) → eqb b 32 ≡ true → spans_from begun at [] ++ spans_from None (at + 1) rest ≡ spans_from begun at (b ∷ rest)
at_space None at b rest e = ap (λ t. cond t (spans_from None (at + 1) rest) (spans_from (Some at) (at + 1) rest)) (sym e)
at_space (Some begin) at b rest e = ap (λ t. cond t ((record { begin = begin; end = at }) ∷ spans_from None (at + 1) rest) (spans_from (Some begin) (at + 1) rest)) (sym e)

pub ended_at : (begun : Option ℕ) (at b : ℕ) (old new : List Span) (rest : List ℕ) → new ≡ old ++ spans_from begun at [] → b ≡ 32 → new ++ spans_from None (at + 1) rest ≡ old ++ spans_from begun at (b ∷ rest)
ended_at begun at b old new rest e h = rw e (append_assoc old (spans_from begun at []) (spans_from None (at + 1) rest) ∙ ap (λ x. old ++ x) (at_space begun at b rest (ap (λ x. eqb x 32) h)))

-- ---- no word ends behind its line

by_space : (t : Bool) (end most : ℕ) (a b : List Span) → last_end_from end a ≤ most → last_end_from end b ≤ most → last_end_from end (cond t a b) ≤ most
by_space true end most a b h k = h
by_space false end most a b h k = k

ends_by : (line : List ℕ) (begun : Option ℕ) (at end : ℕ) → end ≤ at → last_end_from end (spans_from begun at line) ≤ at + length line
ends_by [] None at end h = omega (arith, h)
ends_by [] (Some begin) at end h = omega arith
ends_by (b ∷ bs) None at end h =
    let x = ends_by bs None (at + 1) end (omega (arith, h)) in
    let y = ends_by bs (Some at) (at + 1) end (omega (arith, h)) in
    by_space (eqb b 32) end (at + suc (length bs)) (spans_from None (at + 1) bs) (spans_from (Some at) (at + 1) bs) (omega (arith, x)) (omega (arith, y))
ends_by (b ∷ bs) (Some begin) at end h =
    let x = ends_by bs None (at + 1) at (omega arith) in
    let y = ends_by bs (Some begin) (at + 1) end (omega (arith, h)) in
    by_space (eqb b 32) end (at + suc (length bs)) ((record { begin = begin; end = at }) ∷ spans_from None (at + 1) bs) (spans_from (Some begin) (at + 1) bs) (omega (arith, x)) (omega (arith, y))

pub ends_within : (line : List ℕ) → last_end (spans_of line) ≤ length line
ends_within line = let h = ends_by line None 0 0 (omega arith) in omega (arith, h)

-- ---- lines of a text

pub one_behind : (n m : ℕ) (text rest : List ℕ) → 0 < n → m ≡ n - 1 → rest ≡ behind_newline (cut 10 text) → text_behind m rest ≡ text_behind n text
one_behind zero m text rest p e h = absurd (omega (arith, p))
one_behind (suc n) m text rest p e h = let k : m ≡ n = omega (arith, e) in ap (λ x. text_behind x rest) k ∙ ap (λ x. text_behind n x) h

pub none_behind : (n : ℕ) (rest all : List ℕ) → n ≤ 0 → text_behind n rest ≡ all → rest ≡ all
none_behind zero rest all p e = e
none_behind (suc n) rest all p e = absurd (omega (arith, p))
