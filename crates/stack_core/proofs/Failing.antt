-- A `show` never replies that an overwrite failed.
use Rattle.std.proofs.Common.{◌≡◌, ℕ, false, List, refl}
use Rattle.stack_core.specs.declared.kept.Room.{Room}
use Rattle.stack_core.specs.declared.kept.Room.TheVariants.{Blocks, Bytes, Nothing, Tuples}
use Rattle.stack_core.specs.Replies.{shown}
use Rattle.stack_core.specs.Walking.{is_medium}

pub shown-silent : (bytes : List ℕ) (room : Room) → is_medium (shown bytes room) ≡ false
shown-silent bytes Nothing = refl
shown-silent bytes (Blocks v) = refl
shown-silent bytes (Bytes v) = refl
shown-silent bytes (Tuples pi) = refl
