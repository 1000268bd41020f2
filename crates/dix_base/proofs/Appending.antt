-- What is appended in two pieces is appended as a whole.
use Rattle.std.proofs.Common.{Option, List, ℕ, [], None, Some, sym, append-nil, ◌++◌, ◌∙◌, ap, append_assoc}
use Rattle.dix_base.specs.Told.{Appended}

pub appended_none : (x : Option (List ℕ)) → Appended [] x x
appended_none None = tt
appended_none (Some xs) = sym (append-nil xs)

pub appended_both : (s t : List ℕ) (a b c : Option (List ℕ)) → Appended s a b → Appended t b c → Appended (s ++ t) a c
appended_both s t None None None p q = tt
appended_both s t (Some a) (Some b) (Some c) p q = q ∙ ap (λ v. v ++ t) p ∙ append_assoc a s t
appended_both s t None None (Some c) p q = q
appended_both s t None (Some b) c p q = absurd p
appended_both s t (Some a) None c p q = absurd p
appended_both s t (Some a) (Some b) None p q = q
