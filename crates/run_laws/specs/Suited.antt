use Rattle.std.specs.Prelude.{ℕ, ◌≡◌, ◌<◌, Bool, eqb, List, [], length, get_or}
use Rattle.walk_laws.specs.Passed.{stored_size, fetched_cell, stored_cell, target}
use Rattle.walk_laws.specs.Settings.{Block, Setting, route}

-- Which blocks are fine over a target.

-- A block is fine where it is as long as the one that stood there.
abbrev pub keeps_size : (opening : List (List ℕ)) → ℕ → List ℕ → Bool
keeps_size opening c block = eqb (length block) (length (get_or opening c []))

-- Behind the adapter is a target with the same faults armed, and the protect field isn't 0. What lies where the block is stored, and where it is fetched, has the size of a stored block.
pub record IsAtTarget (m : Setting) (opening : List (List ℕ)) (b : Block) : Type 0 where
  pub device : m.site.device ≡ target m.site.faults
  pub protect : 0 < m.mode.protect
  pub stored : length (get_or opening (stored_cell m.site (route m b)) []) ≡ stored_size m.ty m.size
  pub fetched : length (get_or opening (fetched_cell m.site (route m b)) []) ≡ stored_size m.ty m.size
