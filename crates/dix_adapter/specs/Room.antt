-- How much room there is for one command.
use Rattle.std.specs.Prelude.{◌≡◌, ℕ, ◌+◌, ◌*◌, ◌≤◌, length}
use Rattle.std.specs.Vec.{vec_capacity}
use Rattle.dix_adapter.specs.declared.scratch.Scratch.{Scratch}
use Rattle.pi_tuple.specs.declared.TheConstants.{TUPLE}
use Rattle.dix_adapter.specs.declared.TheConstants.{MOST_OF_COMMAND}

-- for the frames and the labels of so many blocks, each with so many bytes of data
pub record HoldsBlocks (bytes count : ℕ) (s : Scratch) : Type 0 where
  pub frames : count * (bytes + TUPLE) + TUPLE ≤ length s.frames.items
  pub few : count ≤ MOST_OF_COMMAND
  pub labels : count ≤ vec_capacity s.labels

-- the room is as it was, for however many blocks it is
pub record KeepsRoom (old new : Scratch) : Type 0 where
  pub frames : length new.frames.items ≡ length old.frames.items
  pub labels : vec_capacity new.labels ≡ vec_capacity old.labels

-- it is as it was, and still serves so many blocks
pub record KeepsScratch (bytes count : ℕ) (old new : Scratch) : Type 0 where
  pub holds : HoldsBlocks bytes count new
  pub room : KeepsRoom old new
