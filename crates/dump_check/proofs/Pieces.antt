-- Pieces that are put one behind another into an empty line.
use Rattle.std.proofs.Common.{ℕ, ◌≡◌, Bool, true, false, List, [], ◌++◌, ap, sym, refl, true≢false, ◌∙◌, append_assoc}
use Rattle.std.specs.Prelude.{decimal}
use Rattle.image_text.proofs.Sights.{behind, seven}
use Rattle.dump_check.specs.Lines.{line_if}

pub three : (k l m n a b c : List ℕ) → l ≡ k ++ a → m ≡ l ++ b → n ≡ m ++ c → n ≡ k ++ (a ++ (b ++ c))
three k l m n a b c s t u = behind k l n a (b ++ c) s (behind l m n b c t u)

-- eleven pieces, the first three of which are laid aside
pub eleven : (k l m n o p q r s t u v a b c d e f g h i j z : List ℕ) → l ≡ k ++ a → m ≡ l ++ b → n ≡ m ++ c → o ≡ n ++ d → p ≡ o ++ e → q ≡ p ++ f → r ≡ q ++ g → s ≡ r ++ h → t ≡ s ++ i → u ≡ t ++ j → v ≡ u ++ z →
    v ≡ k ++ (a ++ (b ++ (c ++ (d ++ (e ++ (f ++ (g ++ (h ++ (i ++ (j ++ z))))))))))
eleven k l m n o p q r s t u v a b c d e f g h i j z A B C D E F G H I J Z =
    three k l m v a b (c ++ (d ++ (e ++ (f ++ (g ++ (h ++ (i ++ (j ++ z)))))))) A B
    (behind m n v c (d ++ (e ++ (f ++ (g ++ (h ++ (i ++ (j ++ z))))))) C (behind n o v d (e ++ (f ++ (g ++ (h ++ (i ++ (j ++ z)))))) D (seven o p q r s t u v e f g h i j z E F G H I J Z)))

-- a line that is shown
pub shown_if : (holds : Bool) (line : List ℕ) → holds ≡ true → line ≡ line_if holds line
shown_if true line h = refl
shown_if false line h = absurd (true≢false (sym h))
