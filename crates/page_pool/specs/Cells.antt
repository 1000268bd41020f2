-- The bytes of all pages one after another: the cells of a pool.
use Rattle.std.specs.Prelude.{ℕ, zero, suc, ◌+◌, ◌*◌, Bool, false, eqb, ◌||◌, List, [], ◌∷◌, ◌++◌, get_or, set}
use Rattle.page_pool.specs.Places.{PageByte}
use Rattle.page_pool.specs.declared.TheConstants.{PAGE}

-- lists one after another; of a pool, its cells
abbrev pub flat : List (List ℕ) → List ℕ
flat [] = []
flat (page ∷ pages) = page ++ flat pages

-- the cell of a byte of the pool
abbrev pub cell : PageByte → ℕ
cell p = PAGE * p.page + p.off

-- what these cells hold; a cell beyond the end holds `none`
abbrev pub gather : {X : Type 0} → X → List ℕ → List X → List X
gather none [] cells = []
gather none (i ∷ at) cells = get_or cells i none ∷ gather none at cells

-- these cells get these values in turn, as many as there are; a value beyond the end is lost
abbrev pub scatter : {X : Type 0} → List ℕ → List X → List X → List X
scatter [] values cells = cells
scatter (i ∷ at) [] cells = cells
scatter (i ∷ at) (v ∷ values) cells = scatter at values (set cells i v)

-- f 0, f 1 and so on, so many of them, one after another
abbrev pub joined : {X : Type 0} → (ℕ → List X) → ℕ → List X
joined f zero = []
joined f (suc n) = joined f n ++ f n

abbrev pub is_in : ℕ → List ℕ → Bool
is_in i [] = false
is_in i (j ∷ at) = eqb i j || is_in i at

-- some cell is in both
abbrev pub share_a_cell : List ℕ → List ℕ → Bool
share_a_cell [] at = false
share_a_cell (i ∷ is) at = is_in i at || share_a_cell is at
