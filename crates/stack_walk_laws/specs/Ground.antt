-- What a stack stands on: its plan is that of the script, whose ops lie in the pages and in the volume.
use Rattle.std.specs.Prelude.{◌≡◌, ◌⊎◌, ℕ, suc, ◌<◌, false, List, length}
use Rattle.stack_laws.specs.Plan.{Plan, request_at}
use Rattle.run_laws.specs.Passed.{Setting, Op}
use Rattle.run_laws.specs.OpsApart.{IsSpread, OneCellEach, OpsConflict}
use Rattle.run_laws.specs.ScriptMoves.{fates_of}
use Rattle.run_laws.specs.EarlierWrites.{HasLog}
use Rattle.stack_walk_laws.specs.Gate.{AllPlaced, IsAlone}
use Rattle.stack_walk_laws.specs.Spots.{op_in, step_in}

-- Each block of the volume has a cell of its own, and each place a log. The ops lie in n bytes of pages and in the volume; the blocks of a request are spread. An op is a request of some blocks, or done whole.
pub record Ground (m : Setting) (n logs : ℕ) (ops : List Op) : Type 0 where
  pub one : OneCellEach m
  pub placed : AllPlaced m n ops
  pub kinds : (i : ℕ) → i < length ops → IsAlone (op_in ops i) ⊎ (0 < fates_of (op_in ops i))
  pub spread : (i : ℕ) → i < length ops → 0 < fates_of (op_in ops i) → IsSpread m (suc i) (op_in ops i)
  pub logged : (i k : ℕ) → i < length ops → k < fates_of (op_in ops i) → HasLog m logs (step_in m ops i k)

-- The plan has the script's requests, and knows all their conflicts.
pub record IsPlanOf (p : Plan) (m : Setting) (ops : List Op) : Type 0 where
  pub many : length p.requests ≡ length ops
  pub count : (i : ℕ) → (request_at p i).count ≡ fates_of (op_in ops i)
  pub apart : (j i : ℕ) → j < i → i < length ops → p.conflicts j i ≡ false → ¬ OpsConflict m (suc j) (op_in ops j) (suc i) (op_in ops i)
