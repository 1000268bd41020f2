-- The pieces that are written of a block, one behind another, are its line.
use Rattle.std.proofs.Common.{ℕ, ◌≡◌, List, ◌++◌, ap, ◌∙◌, append_assoc}
use Rattle.std.specs.Prelude.{decimal}

pub behind : (l m n a b : List ℕ) → m ≡ l ++ a → n ≡ m ++ b → n ≡ l ++ (a ++ b)
behind l m n a b p q = q ∙ ap (λ (x : List ℕ). x ++ b) p ∙ append_assoc l a b

-- five pieces, one behind another
pub five : (k l m n o p a b c d e : List ℕ) → l ≡ k ++ a → m ≡ l ++ b → n ≡ m ++ c → o ≡ n ++ d → p ≡ o ++ e → p ≡ k ++ (a ++ (b ++ (c ++ (d ++ e))))
five k l m n o p a b c d e s t u v w = behind k l p a (b ++ (c ++ (d ++ e))) s (behind l m p b (c ++ (d ++ e)) t (behind m n p c (d ++ e) u (behind n o p d e v w)))

-- six pieces, one behind another
pub six : (k l m n o p q a b c d e f : List ℕ) → l ≡ k ++ a → m ≡ l ++ b → n ≡ m ++ c → o ≡ n ++ d → p ≡ o ++ e → q ≡ p ++ f → q ≡ k ++ (a ++ (b ++ (c ++ (d ++ (e ++ f)))))
six k l m n o p q a b c d e f s t u v w x =
    behind k l q a (b ++ (c ++ (d ++ (e ++ f)))) s (behind l m q b (c ++ (d ++ (e ++ f))) t (behind m n q c (d ++ (e ++ f)) u (behind n o q d (e ++ f) v (behind o p q e f w x))))

-- the digits of a number that is another
pub by_number : (l m : List ℕ) (n k : ℕ) → n ≡ k → m ≡ l ++ decimal n → m ≡ l ++ decimal k
by_number l m n k e d = d ∙ ap (λ (x : ℕ). l ++ decimal x) e

-- seven pieces, one behind another
pub seven : (k l m n o p q r a b c d e f g : List ℕ) → l ≡ k ++ a → m ≡ l ++ b → n ≡ m ++ c → o ≡ n ++ d → p ≡ o ++ e → q ≡ p ++ f → r ≡ q ++ g → r ≡ k ++ (a ++ (b ++ (c ++ (d ++ (e ++ (f ++ g))))))
seven k l m n o p q r a b c d e f g s t u v w x y = behind k l r a (b ++ (c ++ (d ++ (e ++ (f ++ g))))) s (six l m n o p q r b c d e f g t u v w x y)
