-- Two ways for a stack to follow the walk of its script between two steps.
use Rattle.std.specs.Prelude.{◌≡◌, ℕ, true, List, IfSome}
use Rattle.stack_ops.specs.declared.op.Op.{Op}
use Rattle.block_path.specs.Acts.{State}
use Rattle.block_path.specs.Blocks.{Sent}
use Rattle.stack_walk_laws.specs.Passed.{Setting}
use Rattle.stack_walk_laws.specs.Following.{Follows}
use Rattle.stack_walk_laws.specs.Sending.{is_carried}
use Rattle.stack_walk_laws.specs.Slots.{Status}
use Rattle.stack_walk_laws.specs.Flips.{Flips, with_flips}
use Rattle.stack_walk_laws.specs.FollowsFalling.{FollowsFalling}

-- No store call failed, or it isn't known. Or some failed, and it is known which: each overwrite among them flips its block.
pub data Course : Type 0 where
  Straight : Course
  Falling : (flips : Flips) → Course

-- what flips its block is done
abbrev pub AllFlipped : Flips → (ℕ → ℕ → Status) → Type 0
AllFlipped flips status = (i : ℕ) → IfSome (flips i) (λ mask. is_carried (status i 0) ≡ true)

abbrev pub FollowsBy : Course → (m : Setting) (n : ℕ) (ops : List Op) (opening : State) (status : ℕ → ℕ → Status) (now : State) (es : List Sent) → Type 0
FollowsBy Straight m n ops opening status now es = Follows m n ops opening status now es
FollowsBy (Falling flips) m n ops opening status now es = (f : FollowsFalling m n (with_flips flips 1 ops) opening status now.bytes now.blocks es) × ((f.after ≡ now) × AllFlipped flips status)
