-- What a group needs that is carried again and again.
use Rattle.std.specs.Prelude.{ℕ, ◌≤◌, List}
use Rattle.bio_core.specs.declared.bio.Bio.{Bio}
use Rattle.bio_core.specs.declared.request.Io.{Io}
use Rattle.dix_adapter.specs.declared.adapter.Adapter.{Adapter}
use Rattle.dix_adapter.specs.declared.scratch.Scratch.{Scratch}
use Rattle.dix_adapter.specs.Groups.{IsCarriedGroup, IsProtect, block_len, size}
use Rattle.dix_adapter.specs.Room.{HoldsBlocks}

-- The adapter has a protect field for its commands, the blocks are a group in these pages, and there is room for them and for their fates.
pub record IsRound (a : Adapter) (pool : List (List ℕ)) (ios : List Io) (req : List Bio) (s : Scratch) (capacity : ℕ) : Type 0 where
  pub protect : IsProtect a.protect
  pub bytes : ℕ
  pub group : IsCarriedGroup a pool bytes ios req
  pub scratch : HoldsBlocks (block_len ios req) (size req) s
  pub fates : size req ≤ capacity
