-- Data and tuples are copied out of pages one behind the other.
use Rattle.std.proofs.Common.{◌*◌, drop, length, take, ◌∙◌}
use Rattle.std.proofs.lemmas.Result.{IfOk-weaker}
use Rattle.page_pool.specs.Cells.{flat}
use Rattle.mirror_volume.proofs.Results.{if-not}
use Rattle.mirror_volume.proofs.legs.copy_both.Goals as goal

pub returns-in_err-copy_out-clause-copied : goal.returns-in_err-copy_out-clause-copied
returns-in_err-copy_out-clause-copied c = if-not _ c.from_residual.result c.from_residual.ensures.0

pub copy_out-requires-2-clause-lie : goal.copy_out-requires-2-clause-lie
copy_out-requires-2-clause-lie c = rw (c.pages_for-behind.ensures) c.requires.behind

pub returns-clause-copied : goal.returns-clause-copied
returns-clause-copied c =
    IfOk-weaker c.copy_out-2.result _ _ (λ u tuples. (
      c.in_ok-copy_out.ensures.bytes,
      tuples ∙ (λ i. take (length c.args.tuples.now) (drop (4096 * c.pages_for-behind.ensures i) (flat c.args.pool.now))),
    )) c.copy_out-2.ensures.bytes
