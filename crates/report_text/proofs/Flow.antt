-- A text that is written piece by piece: what is left of it, and a failure on the way.
use Rattle.std.proofs.Common.{ℕ, ◌≡◌, ◌+◌, min, List, [], ◌++◌, length, take, Option, refl, sym, ap, subst, ◌∙◌, arith, rules, append_assoc, append-nil}
use Rattle.std.proofs.lemmas.List.{places, same_lists}
use Rattle.dix_base.specs.Told.{Appended, AppendedSome}
use Rattle.dix_base.proofs.Appending.{appended_none, appended_both}

-- Of a text a first part was appended, and this rest is left.
pub record Left (text rest : List ℕ) (old now : Option (List ℕ)) : Type 0 where
  pub done : List ℕ
  pub split : done ++ rest ≡ text
  pub written : Appended done old now

pub at_start : (text : List ℕ) (x : Option (List ℕ)) → Left text text x x
at_start text x = record { done = []; split = refl; written = appended_none x }

-- a further piece was appended
pub goes_on : (text piece rest : List ℕ) (a b c : Option (List ℕ)) → Left text (piece ++ rest) a b → Appended piece b c → Left text rest a c
goes_on text piece rest a b c l p = record {
  done = l.done ++ piece;
  split = append_assoc l.done piece rest ∙ l.split;
  written = appended_both l.done piece a b c l.written p;
}

-- nothing is left
pub at_end : (text rest : List ℕ) (a b : Option (List ℕ)) → Left text rest a b → rest ≡ [] → Appended text a b
at_end text rest a b l e = subst (λ t. Appended t a b) (sym (append-nil l.done) ∙ ap (λ r. l.done ++ r) (sym e) ∙ l.split) l.written

take_both : (n : ℕ) (s t r : List ℕ) → take (length s + min n (length t)) (s ++ (t ++ r)) ≡ s ++ take n t
take_both n s t r = same_lists _ _ (search (rules, places)) (λ i d l. grind (arith, places))

-- of the next piece a prefix was appended
pub breaks_off : (text piece rest : List ℕ) (a b c : Option (List ℕ)) → Left text (piece ++ rest) a b → AppendedSome piece b c → AppendedSome text a c
breaks_off text piece rest a b c l p =
    let whole : take (length l.done + min p.0 (length piece)) text ≡ l.done ++ take p.0 piece =
    ap (take (length l.done + min p.0 (length piece))) (sym l.split) ∙ take_both p.0 l.done piece rest in
    (length l.done + min p.0 (length piece), subst (λ t. Appended t a c) (sym whole) (appended_both l.done (take p.0 piece) a b c l.written p.1))

pub stops : (text rest : List ℕ) (a b c : Option (List ℕ)) → Left text rest a b → c ≡ b → AppendedSome text a c
stops text rest a b c l e = breaks_off text [] rest a b c l (0, subst (λ x. Appended [] b x) (sym e) (appended_none b))

-- A text that was appended whole, behind which nothing more was, is a prefix of itself.
pub whole_is_part : (text : List ℕ) (a b c : Option (List ℕ)) → Appended text a b → c ≡ b → AppendedSome text a c
whole_is_part text a b c p e = stops text [] a b c (record { done = text; split = append-nil text; written = p }) e

pub part_first : (s t : List ℕ) (a b : Option (List ℕ)) → AppendedSome s a b → AppendedSome (s ++ t) a b
part_first s t a b p = breaks_off (s ++ t) s t a a b (at_start (s ++ t) a) p

after_first : (s t : List ℕ) (a b : Option (List ℕ)) → Appended s a b → Left (s ++ t) (t ++ []) a b
after_first s t a b p = record { done = s; split = ap (λ r. s ++ r) (append-nil t); written = p }

pub part_second : (s t : List ℕ) (a b c : Option (List ℕ)) → Appended s a b → AppendedSome t b c → AppendedSome (s ++ t) a c
part_second s t a b c p q = breaks_off (s ++ t) t [] a b c (after_first s t a b p) q
