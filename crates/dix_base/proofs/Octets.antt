-- Stores of equal bytes are equal, whatever shows that they are bytes.
use mathlib.Core.HLevel.{is_prop→PathP}
use Rattle.std.specs.Prelude.{ℕ, ◌≡◌, ◌<◌, List, All}
use Rattle.std.specs.Coded.{le_prop}
use Rattle.dix_base.specs.Forms.{Kept}

abbrev pub kept : (xs : List ℕ) → All (λ x. x < 256) xs → (openings : ℕ) → (handed : List ℕ) → Kept
kept xs p openings handed = record { bytes = xs; octets = p; openings = openings; handed = handed }

-- stores of the same bytes are the same
pub same_kept : (xs ys : List ℕ) (p : All (λ x. x < 256) xs) (q : All (λ x. x < 256) ys) (openings : ℕ) (handed : List ℕ) → xs ≡ ys → kept xs p openings handed ≡ kept ys q openings handed
same_kept xs ys p q openings handed e i = record {
  bytes = e i;
  octets = is_prop→PathP (λ j. All (λ x. x < 256) (e j)) (λ j x y k. λ n d lt. le_prop (x n d lt) (y n d lt) k) p q i;
  openings = openings;
  handed = handed;
}
