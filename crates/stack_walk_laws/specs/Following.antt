use Rattle.std.specs.Prelude.{ℕ, suc, ◌+◌, ◌≡◌, List, [], ◌∷◌, ◌++◌, length, get_or, Option, Some, None}
use Rattle.block_path.specs.Acts.{State, act, conflict, tell}
use Rattle.block_path.specs.Blocks.{ActAnswer, Sent}
use Rattle.block_path.specs.Serial.{Serial}
use Rattle.run_laws.specs.Passed.{Setting, Step, steps_of, Op}
use Rattle.run_laws.specs.Records.{Mixed, put_sent, writes_at}
use Rattle.run_laws.specs.ScriptMoves.{by_moves, fates_of, own_at, room_of, script_moves}
use Rattle.stack_walk_laws.specs.Slots.{SlotStands, Status, parts_of, so_far}

-- A stack between two steps follows the walk.

-- the steps from block k on stand so
abbrev pub StandFrom : Setting → (from fate k : ℕ) → List Step → (ℕ → Status) → List (Option ActAnswer) → Type 0
StandFrom m from fate k [] status done = done ≡ []
StandFrom m from fate k (step ∷ steps) status done =
    let b = by_moves m (own_at from k) (fate + k) step in
    (here : List ActAnswer)
    × ((rest : List (Option ActAnswer))
    × ((done ≡ so_far b.moves here ++ rest) × (SlotStands (parts_of m (own_at from k) (fate + k) step) b.join (status k) here × StandFrom m from fate (suc k) steps status rest)))

-- the blocks of the ops from op i on stand so
abbrev pub AllStand : Setting → (from fate i : ℕ) → List Op → (ℕ → ℕ → Status) → List (Option ActAnswer) → Type 0
AllStand m from fate i [] status done = done ≡ []
AllStand m from fate i (op ∷ ops) status done =
    (here : List (Option ActAnswer))
    × ((rest : List (Option ActAnswer))
    × ((done ≡ here ++ rest) × (StandFrom m from fate 0 (steps_of m i op) (status i) here × AllStand m (from + room_of m op) (fate + fates_of op) (suc i) ops status rest)))

-- what stands on record by the moves that are done
abbrev pub sents_so_far : List (Option ActAnswer) → List Sent
sents_so_far [] = []
sents_so_far (None ∷ done) = sents_so_far done
sents_so_far (Some a ∷ done) = put_sent a.sent (sents_so_far done)

-- Cells and record are what the moves leave that are done, in whatever order they were, one after another in script order: each answered what it answers there.
-- The setting says what is behind the adapter: over any rig it is a device of which is known what stands on record; over a rig that tells its blocks, the target itself.
pub record Follows (m : Setting) (n : ℕ) (ops : List Op) (opening : State) (status : ℕ → ℕ → Status) (now : State) (es : List Sent) : Type 0 where
  pub done : List (Option ActAnswer)
  pub stand : AllStand m n 0 1 ops status done
  pub serial : Serial act tell conflict (script_moves m n ops) opening done now
  -- the frames that were carried to each place are its write entries
  pub logs : (c : ℕ) → get_or now.logs c [] ≡ writes_at m.site c es
  pub room : length now.logs ≡ length opening.logs
  -- the entries and ends are those of the blocks that were carried, or ended a command
  pub sent : Mixed (sents_so_far done) es

-- A block of an op is somewhere else, all others are where they were.
pub record Becomes (i k : ℕ) (next : Status) (old new : ℕ → ℕ → Status) : Type 0 where
  pub here : new i k ≡ next
  pub elsewhere : (j l : ℕ) → (j ≡ i → l ≡ k → ⊥) → new j l ≡ old j l
