use Rattle.std.specs.Prelude.{ℕ, suc, ◌≡◌, ◌⊎◌, false, List, [], ◌∷◌, ◌++◌, length, get_or, Option, Some, None}
use Rattle.page_pool.specs.declared.segs.Seg.{Seg}
use Rattle.page_pool.specs.Cells.{gather}
use Rattle.integrity_payload.specs.declared.payload.Owner.{Owner}
use Rattle.bio_core.specs.declared.fate.Why.TheVariants.{Medium}
use Rattle.block_path.specs.Acts.{State}
use Rattle.block_path.specs.Blocks.{Sent}
use Rattle.block_path.specs.Moves.{hidden}
use Rattle.run_laws.specs.Passed.{last_accepted, steps_from, Block, Setting, block_of, landing, listed_in, read_op, Op, Reply, Silent}
use Rattle.run_laws.specs.FallingReads.{IsReadAs, falling_replies}
use Rattle.run_laws.specs.StoreFaults.{falling_past, falling_walk, is_lost}
use Rattle.run_laws.specs.ToldRun.{IsRecordOfRun}
use Rattle.stack_walk_laws.specs.Falls.{Falls, of_blocks, over_falls, put_really}

-- A stack once all has ended, where store calls failed.

-- Some store calls failed. Pages in front of the private ones, stored blocks and replies are those of the walk in which just these fail; what stands on record is told from the record of the walk over the device on which they fail.
pub record EndsAsFalling (m : Setting) (n : ℕ) (ops : List Op) (opening : State) (pages : List ℕ) (blocks : List (List ℕ)) (replies : List Reply) (es : List Sent) : Type 0 where
  pub falls : Falls
  pub pages_are : pages ≡ (falling_walk m (of_blocks falls) (steps_from m 1 ops) (hidden n opening)).bytes
  pub blocks_are : blocks ≡ (falling_walk m (of_blocks falls) (steps_from m 1 ops) (hidden n opening)).blocks
  pub replies_are : replies ≡ falling_replies m (of_blocks falls) 1 ops (hidden n opening)
  pub told : List Sent
  pub recorded : IsRecordOfRun (over_falls m falls) ops (hidden n opening) told
  pub on_record : es ≡ put_really m.site falls told []

-- What is listed of block k of a read that follows `before`, by these replies: unless the block is lost, it is the medium, or nothing, and then the last accepted write landed.
abbrev pub ReadsOrFails : Setting → (falls : Block → Option (List ℕ)) → (before : List Op) → Owner → (v n : ℕ) → (body tuples : List Seg) → State → List Reply → (k : ℕ) → Type 0
ReadsOrFails m falls before owner v n body tuples opening replies k =
    let b = block_of (suc (length before)) v k in
    let past = falling_past m falls (steps_from m 1 before) opening [] in
    let listed = listed_in (get_or replies (length before) Silent) k in
    let pages = (falling_walk m falls (steps_from m 1 (before ++ (read_op owner v n body tuples ∷ []))) opening).bytes in
    is_lost b past ≡ false → (listed ≡ Some Medium) ⊎ IsReadAs m owner (last_accepted m opening b past) listed (gather 0 (landing m.size owner body tuples k) pages)

-- Block k of op `at`, from 0, is listed for the medium or not at all.
abbrev pub IsWrittenOrFails : (at : ℕ) → List Reply → (k : ℕ) → Type 0
IsWrittenOrFails at replies k = let listed = listed_in (get_or replies at Silent) k in (listed ≡ Some Medium) ⊎ (listed ≡ None)
