use Rattle.std.specs.Prelude.{ℕ, ◌≡◌, ◌+◌, ◌*◌, ◌≤◌, List, length}
use Rattle.page_pool.specs.declared.segs.Seg.{Seg}
use Rattle.page_pool.specs.Pages.{AllLieIn}
use Rattle.page_pool.specs.Places.{NoneTwice, range_of, total}
use Rattle.mirror_volume.specs.declared.piece.Piece.{Piece}
use Rattle.mirror_volume.specs.declared.legs.Plan.{Plan}
use Rattle.mirror_volume.specs.declared.mirror.Mirror.{Mirror}
use Rattle.mirror_volume.specs.declared.mirror.State.{State}
use Rattle.mirror_volume.specs.Mending.{whole_stretch}
use Rattle.mirror_volume.specs.OnOps.{Sides, whole_request}
use Rattle.mirror_volume.specs.Standing.{IsBoundMirror, half_of}
use Rattle.script_lines.specs.declared.TheConstants.{MOST_MEMORY}

-- What a mirror goes by: a script that is bound to its devices, and the number of its blocks.
pub record IsPlan (p : Plan) : Type 0 where
  pub bound : IsBoundMirror p.script p.devices.items
  pub half : p.half ≡ half_of p.script p.devices.items

-- The piece has blocks, which are its request's and the mirror's, and their data have room in 256 pages.
pub record IsPieceOf (p : Plan) (piece : Piece) : Type 0 where
  pub some : 1 ≤ piece.n
  pub first : piece.first + piece.n ≤ piece.count
  pub count : piece.count ≤ 1024
  pub room : piece.n * p.script.block ≤ MOST_MEMORY
  pub inside : piece.v + piece.n ≤ p.half

-- All blocks of a stretch are such a piece, on leg 0.
pub record IsStretchOf (p : Plan) (whole : Piece) : Type 0 where
  pub piece : IsPieceOf p whole
  pub all : whole ≡ whole_stretch whole.v whole.n

-- All n blocks from v on, as op `op`, are such a piece. Their data are as long, lie in the pages, and no byte of a page is of two of them.
pub record IsRequestOf (p : Plan) (pool : List (List ℕ)) (op v n : ℕ) (body : List Seg) : Type 0 where
  pub piece : IsPieceOf p (whole_request op v n)
  pub long : total body ≡ n * p.script.block
  pub lie : AllLieIn pool body
  pub once : NoneTwice (range_of body 0 (total body))

-- A mirror between two ops: as many replies as ops are done, all of its pages, and a mark for each block.
pub record IsMirror (r : Mirror) : Type 0 where
  pub plan : IsPlan r.plan
  pub pages : length r.state.pool ≡ r.plan.script.pages
  pub marks : length r.state.marks.items ≡ r.plan.half
  pub used : r.state.used ≤ length r.plan.script.schedule
  pub done : length r.replies.items ≤ length r.plan.script.ops
  pub room : length r.plan.script.ops ≤ r.replies.cap

abbrev pub both_of : State → Sides
both_of state = record { pool = state.pool; marks = state.marks.items }

abbrev pub sides_of : Mirror → Sides
sides_of r = both_of r.state
