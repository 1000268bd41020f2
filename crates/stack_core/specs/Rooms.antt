-- The room that an op gets before the first step.
use Rattle.std.specs.Prelude.{◌≡◌, ℕ, None}
use Rattle.std.specs.declared.alloc.Global.{Global}
use Rattle.std.specs.declared.vec.Vec.{Vec}
use Rattle.stack_ops.specs.declared.reply.BadBlock.{BadBlock}
use Rattle.stack_ops.specs.declared.op.Op.{Op}
use Rattle.stack_ops.specs.declared.op.Op.TheVariants.{Fill, Put, Show, Seal, Write, Fetch, WritePi, FetchPi, Overwrite, Wait}
use Rattle.stack_core.specs.declared.kept.Room.{Room}
use Rattle.stack_core.specs.declared.kept.Room.TheVariants.{Blocks, Bytes, Tuples}
use Rattle.stack_core.specs.Replies.{HoldsShown}
use Rattle.stack_walk_laws.specs.Requests.{request_of, sealed}

-- how many blocks an op has
abbrev pub blocks_in : Op → ℕ
blocks_in op = (request_of op None).count

-- the room is for bad blocks
abbrev pub IsForBlocks : Room → Type 0
IsForBlocks room = (v : Vec BadBlock Global) × (room ≡ Blocks v)

-- or for bytes
abbrev pub IsForBytes : Room → Type 0
IsForBytes room = (v : Vec ℕ Global) × (room ≡ Bytes v)

-- the room of a request is for its bad blocks, that of a `show` for its bytes, that of a `seal` is its tuples
abbrev pub Suits : Op → Room → Type 0
Suits (Fill seg byte) room = Unit {0}
Suits (Put page off bytes) room = Unit {0}
Suits (Show seg) room = IsForBytes room × HoldsShown seg.len room
Suits (Seal n body tuples app rtag) room = room ≡ Tuples (sealed n tuples app rtag)
Suits (Write v n body app) room = IsForBlocks room
Suits (Fetch v n body) room = IsForBlocks room
Suits (WritePi v n body tuples) room = IsForBlocks room
Suits (FetchPi v n body tuples) room = IsForBlocks room
Suits (Overwrite dev lba change) room = Unit {0}
Suits Wait room = Unit {0}
