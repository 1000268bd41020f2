-- What comes of a block, by the stack's replies.
use Rattle.std.proofs.Common.{◌<◌, ℕ, List, ◌∷◌, ◌++◌, length, sym, subst}
use Rattle.page_pool.specs.declared.segs.Seg.{Seg}
use Rattle.integrity_payload.specs.declared.payload.Owner.{Owner}
use Rattle.block_path.specs.Acts.{State}
use Rattle.block_path.specs.Blocks.{Sent}
use Rattle.block_path.specs.Moves.{hidden}
use Rattle.run_laws.specs.Passed.{Setting, read_op, Op, Reply}
use Rattle.run_laws.specs.FallingReads.{HasRoom}
use Rattle.run_laws.specs.StoreFaults.{IsFallingRun}
use Rattle.run_laws.proofs.FallingOps.{reads_or_fails}
use Rattle.stack_walk_laws.specs.AtTheEnd.{EndsAsFalling, ReadsOrFails}
use Rattle.stack_walk_laws.specs.Falls.{of_blocks}

pub reads : (m : Setting) (bytes : ℕ) (before after : List Op) (owner : Owner) (v n k : ℕ) (body tuples : List Seg) (opening : State) (pages : List ℕ) (blocks : List (List ℕ)) (replies : List Reply) (es : List Sent) →
    let ops = before ++ (read_op owner v n body tuples ∷ after) in IsFallingRun m ops (hidden bytes opening) → HasRoom m (length (hidden bytes opening).bytes) owner n body tuples → k < n →
    (e : EndsAsFalling m bytes ops opening pages blocks replies es) → ReadsOrFails m (of_blocks e.falls) before owner v n body tuples (hidden bytes opening) replies k
reads m bytes before after owner v n k body tuples opening pages blocks replies es run room l e =
    subst (λ rs. ReadsOrFails m (of_blocks e.falls) before owner v n body tuples (hidden bytes opening) rs k) (sym e.replies_are)
    (reads_or_fails m (of_blocks e.falls) before after owner v n k body tuples (hidden bytes opening) l room run)
