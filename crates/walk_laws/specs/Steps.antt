use Rattle.std.specs.Prelude.{ℕ, zero, suc, ◌+◌, ◌*◌, ◌%◌, ◌^◌, List, [], ◌∷◌, ◌++◌, map, replicate}
use Rattle.page_pool.specs.declared.segs.Seg.{Seg}
use Rattle.page_pool.specs.Cells.{cell}
use Rattle.page_pool.specs.Places.{range_of}
use Rattle.block_path.specs.Passed.{Owner, Block as OfBlock, App as OfApp}
use Rattle.stack_ops.specs.Passed.{Change, cells_of}
use Rattle.stack_ops.specs.declared.op.Op.{Op}
use Rattle.stack_ops.specs.declared.op.Op.TheVariants.{Fetch, FetchPi, Fill, Overwrite, Put, Seal, Show, Wait, Write, WritePi}
use Rattle.stack_ops.specs.Footprints.{put_seg}
use Rattle.walk_laws.specs.Settings.{Block, Setting, block_of}
use Rattle.pi_tuple.specs.declared.TheConstants.{TUPLE}

-- What an op does, one block after another. Bytes of pages are named by their cells, in order.
pub data Step : Type 0 where
  Sets : (at values : List ℕ) → Step
  Shows : (at : List ℕ) → Step
  Seals : (body tuple : List ℕ) → (app rtag : ℕ) → Step
  Writes : Block → (app : ℕ) → (body : List ℕ) → Step
  WritesPi : Block → (frame : List ℕ) → Step
  Reads : Block → Owner → (to : List ℕ) → Step
  Alters : (dev lba : ℕ) → Change → Step

-- the cells of the data of block k of a request, and of its tuple
abbrev pub body_of : (size : ℕ) → List Seg → ℕ → List ℕ
body_of size body k = map cell (range_of body (k * size) size)

abbrev pub tuple_of : List Seg → ℕ → List ℕ
tuple_of tuples k = map cell (range_of tuples (TUPLE * k) TUPLE)

abbrev pub frame_at : (size : ℕ) → (body tuples : List Seg) → ℕ → List ℕ
frame_at size body tuples k = body_of size body k ++ tuple_of tuples k

-- for each of n blocks, from block k on
abbrev pub each_from : {X : Type 0} → ℕ → ℕ → (ℕ → X) → List X
each_from k zero f = []
each_from k (suc n) f = f k ∷ each_from (suc k) n f

-- The steps of op i. A `wait` does nothing.
abbrev pub steps_of : Setting → (i : ℕ) → Op → List Step
steps_of m i (Fill seg byte) = Sets (cells_of (seg ∷ [])) (replicate seg.len byte) ∷ []
steps_of m i (Put page off bytes) = Sets (cells_of (put_seg page off bytes ∷ [])) bytes ∷ []
steps_of m i (Show seg) = Shows (cells_of (seg ∷ [])) ∷ []
steps_of m i (Seal n body tuples app rtag) = each_from 0 n (λ k. Seals (body_of m.size body k) (tuple_of tuples k) app ((rtag + k) % 2 ^ 32))
steps_of m i (Write v n body app) = each_from 0 n (λ k. Writes (block_of i v k) app (body_of m.size body k))
steps_of m i (Fetch v n body) = each_from 0 n (λ k. Reads (block_of i v k) OfBlock (body_of m.size body k))
steps_of m i (WritePi v n body tuples) = each_from 0 n (λ k. WritesPi (block_of i v k) (frame_at m.size body tuples k))
steps_of m i (FetchPi v n body tuples) = each_from 0 n (λ k. Reads (block_of i v k) OfApp (frame_at m.size body tuples k))
steps_of m i (Overwrite dev lba change) = Alters dev lba change ∷ []
steps_of m i Wait = []
