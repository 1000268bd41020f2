use Rattle.std.specs.Prelude.{ℕ, ◌≡◌, ◌+◌, Bool, true, suc, IfSome, List, [], ◌∷◌, ◌++◌, map, Option, Some, None}
use Rattle.walk_laws.specs.Passed.{Op, Act, State, ActAnswer, stored_cell, hidden}
use Rattle.walk_laws.specs.Past.{steps_from}
use Rattle.walk_laws.specs.ScriptWalk.{replies_by}
use Rattle.walk_laws.specs.Settings.{Block, Setting, route}
use Rattle.walk_laws.specs.Steps.{Alters, Reads, Seals, Sets, Shows, Step, Writes, WritesPi, steps_of}
use Rattle.run_laws.specs.FallingReads.{falling_replies}
use Rattle.run_laws.specs.StoreFaults.{fallen, falling_walk, leaving, over_failing}
use Rattle.run_laws.specs.ScriptMoves.{ByMoves, all_moves, by_moves, fates_of, joins, own_at, room_of}

-- A script by its moves where store calls fail: what a block does over a device whose calls fail, and in its cell lies what is left there.

-- what a move leaves whose store call fails; a move that calls none is as it was
abbrev pub spoiled : List ℕ → Act ActAnswer → Act ActAnswer
spoiled left a = record a { compute = λ seen. leaving left (a.compute seen) }

-- what a block's store call leaves, if it fails
abbrev pub left_of : (falls : Block → Option (List ℕ)) → Step → Option (List ℕ)
left_of falls (Sets at values) = None
left_of falls (Shows at) = None
left_of falls (Seals body tuple app rtag) = None
left_of falls (Writes b app body) = falls b
left_of falls (WritesPi b frame) = falls b
left_of falls (Reads b owner to) = falls b
left_of falls (Alters dev lba change) = None

-- a step by its moves
abbrev pub moves_or_fallen : Setting → (own : List ℕ) → (fate : ℕ) → Step → Option (List ℕ) → ByMoves
moves_or_fallen m own fate step None = by_moves m own fate step
moves_or_fallen m own fate step (Some left) =
    let b = by_moves (over_failing m) own fate step in record { moves = map (spoiled left) b.moves; whole = fallen m left step; join = b.join }

-- the steps from block k on, and those of the ops from op i on
abbrev pub falling_from : Setting → (falls : Block → Option (List ℕ)) → (from fate k : ℕ) → List Step → List ByMoves
falling_from m falls from fate k [] = []
falling_from m falls from fate k (step ∷ steps) = moves_or_fallen m (own_at from k) (fate + k) step (left_of falls step) ∷ falling_from m falls from fate (suc k) steps

abbrev pub falling_blocks : Setting → (falls : Block → Option (List ℕ)) → (from fate i : ℕ) → List Op → List ByMoves
falling_blocks m falls from fate i [] = []
falling_blocks m falls from fate i (op ∷ ops) = falling_from m falls from fate 0 (steps_of m i op) ++ falling_blocks m falls (from + room_of m op) (fate + fates_of op) (suc i) ops

-- all moves of the script, with its private pages behind n bytes of pages
abbrev pub falling_moves : Setting → (falls : Block → Option (List ℕ)) → (n : ℕ) → List Op → List (Act ActAnswer)
falling_moves m falls n ops = all_moves (falling_blocks m falls n 0 1 ops)

-- What is left of a block is fine where the block is stored.
abbrev pub LeavesFine : Setting → (fine : ℕ → List ℕ → Bool) → (falls : Block → Option (List ℕ)) → Type 0
LeavesFine m fine falls = (b : Block) → IfSome (falls b) (λ left. fine (stored_cell m.site (route m b)) left ≡ true)

-- The moves come to the walk in which these calls fail: pages in front of the private ones, stored blocks and carried frames, and replies.
pub record AreTheFallingWalk (m : Setting) (falls : Block → Option (List ℕ)) (n : ℕ) (ops : List Op) (opening now : State) (answers : List ActAnswer) : Type 0 where
  pub cells : hidden n now ≡ falling_walk m falls (steps_from m 1 ops) (hidden n opening)
  pub replies : replies_by m 1 ops (joins (falling_blocks m falls n 0 1 ops) answers) ≡ falling_replies m falls 1 ops (hidden n opening)
