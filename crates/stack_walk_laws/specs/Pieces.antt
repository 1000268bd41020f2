use Rattle.std.specs.Prelude.{ℕ, ◌≡◌, List, [], ◌∷◌, ◌++◌}
use Rattle.block_path.specs.Acts.{Act}
use Rattle.block_path.specs.Blocks.{ActAnswer}
use Rattle.run_laws.specs.Passed.{Setting, Op}
use Rattle.stack_walk_laws.specs.Gate.{MayMove, BlockSpot, number, ops_of, parts_at, place}
use Rattle.stack_walk_laws.specs.Sending.{with_status}
use Rattle.stack_walk_laws.specs.Slots.{Status}

-- Some blocks that move on together: those of an op that is admitted, and those of a piece.

abbrev pub with_all : List BlockSpot → Status → (ℕ → ℕ → Status) → ℕ → ℕ → Status
with_all [] next status = status
with_all (s ∷ spots) next status = with_all spots next (with_status (number s) (place s) next status)

-- it is none of these
abbrev pub IsNoneOf : BlockSpot → List BlockSpot → Type 0
IsNoneOf s [] = Unit {0}
IsNoneOf s (t ∷ spots) = (number t ≡ number s → place t ≡ place s → ⊥) × IsNoneOf s spots

-- Each of these blocks of the script stands so and may move, and no two are one.
abbrev pub AllMayMove : Setting → (n : ℕ) → List Op → (ℕ → ℕ → Status) → (was : Status) → List BlockSpot → Type 0
AllMayMove m n ops status was [] = Unit {0}
AllMayMove m n ops status was (s ∷ spots) =
    (ops_of s ≡ ops) × (MayMove m n status s × ((status (number s) (place s) ≡ was) × (IsNoneOf s spots × AllMayMove m n ops status was spots)))

-- what their admission does, and what their cut does, one block after another
abbrev pub all_made : Setting → (n : ℕ) → List BlockSpot → List (Act ActAnswer)
all_made m n [] = []
all_made m n (s ∷ spots) = (parts_at m n s).made ++ all_made m n spots

abbrev pub all_cut : Setting → (n : ℕ) → List BlockSpot → List (Act ActAnswer)
all_cut m n [] = []
all_cut m n (s ∷ spots) = (parts_at m n s).cut ++ all_cut m n spots
