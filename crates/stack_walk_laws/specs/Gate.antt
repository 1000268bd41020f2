use Rattle.std.specs.Prelude.{ℕ, suc, ◌+◌, ◌≡◌, ◌⊎◌, Bool, true, false, List, [], ◌∷◌, ◌++◌, length, get_or}
use Rattle.block_path.specs.Acts.{State, act, tell}
use Rattle.block_path.specs.Blocks.{silent}
use Rattle.block_path.specs.Serial.{plain_tells}
use Rattle.run_laws.specs.Passed.{acts_of, Setting, Step, steps_of, Op, Fetch, FetchPi, Fill, Overwrite, Put, Seal, Show, Wait, Write, WritePi}
use Rattle.run_laws.specs.BoundRun.{fates, rooms}
use Rattle.run_laws.specs.OpsApart.{IsPlaced, IsSpread, OneCellEach, OpsConflict}
use Rattle.run_laws.specs.ScriptMoves.{own_at}
use Rattle.stack_walk_laws.specs.Slots.{Admitted, Carried, Cut, Done, StepParts, Settled, Status, Waits, parts_of}

-- What the gate keeps: an op goes only where no earlier op that it conflicts with is still on its way.

abbrev pub is_over : Status → Bool
is_over Waits = false
is_over Admitted = false
is_over Cut = false
is_over (Carried fate) = false
is_over (Settled why) = true
is_over (Done shown) = true

-- the blocks of these steps, from block k on, are settled
abbrev pub AreOver : ℕ → List Step → (ℕ → Status) → Type 0
AreOver k [] status = Unit {0}
AreOver k (step ∷ steps) status = (is_over (status k) ≡ true) × AreOver (suc k) steps status

-- Each of these ops, of which the first has number i, is over or doesn't conflict with op j.
abbrev pub LetsIn : Setting → (ℕ → ℕ → Status) → (i : ℕ) → List Op → (j : ℕ) → Op → Type 0
LetsIn m status i [] j other = Unit {0}
LetsIn m status i (op ∷ ops) j other = (AreOver 0 (steps_of m i op) (status i) ⊎ ¬ OpsConflict m i op j other) × LetsIn m status (suc i) ops j other

-- each of these ops lies in n bytes of pages, and in the volume
abbrev pub AllPlaced : Setting → (n : ℕ) → List Op → Type 0
AllPlaced m n [] = Unit {0}
AllPlaced m n (op ∷ ops) = IsPlaced m n op × AllPlaced m n ops

-- a block of a script: its op, with the ops in front of it and behind, and its step among those of the op
pub record BlockSpot : Type 0 where
  pub front : List Op
  pub op : Op
  pub behind : List Op
  pub before : List Step
  pub step : Step
  pub after : List Step

abbrev pub ops_of : BlockSpot → List Op
ops_of s = s.front ++ (s.op ∷ s.behind)

-- the op's number, from 1, and the block's place in it, from 0
abbrev pub number : BlockSpot → ℕ
number s = suc (length s.front)

abbrev pub place : BlockSpot → ℕ
place s = length s.before

-- its moves, in a script with n bytes of pages
abbrev pub parts_at : Setting → (n : ℕ) → BlockSpot → StepParts
parts_at m n s = parts_of m (own_at (n + rooms m s.front) (place s)) (fates s.front + place s) s.step

-- The block may move: its op was let in, and its blocks are spread.
pub record MayMove (m : Setting) (n : ℕ) (status : ℕ → ℕ → Status) (s : BlockSpot) : Type 0 where
  pub one : OneCellEach m
  pub placed : AllPlaced m n s.front
  pub mine : IsPlaced m n s.op
  pub spread : IsSpread m (number s) s.op
  pub steps : steps_of m (number s) s.op ≡ s.before ++ (s.step ∷ s.after)
  pub lets : LetsIn m status 1 s.front (number s) s.op

-- an op that is no request
abbrev pub IsAlone : Op → Type 0
IsAlone (Fill seg byte) = Unit {0}
IsAlone (Put page off bytes) = Unit {0}
IsAlone (Show seg) = Unit {0}
IsAlone (Seal n body tuples app rtag) = Unit {0}
IsAlone (Write v n body app) = ⊥
IsAlone (Fetch v n body) = ⊥
IsAlone (WritePi v n body tuples) = ⊥
IsAlone (FetchPi v n body tuples) = ⊥
IsAlone (Overwrite dev lba change) = Unit {0}
IsAlone Wait = Unit {0}

-- Op i waits, and then each of its steps is done, and shows what the acts of the op show in turn; all else is where it was.
pub record BecomesDone (m : Setting) (i : ℕ) (op : Op) (now : State) (old new : ℕ → ℕ → Status) : Type 0 where
  pub waits : (k : ℕ) → old i k ≡ Waits
  pub done : (k : ℕ) → new i k ≡ Done (get_or (plain_tells act tell (acts_of m i op) now) k silent).shown
  pub elsewhere : (j k : ℕ) → (j ≡ i → ⊥) → new j k ≡ old j k
