-- What a run comes to where store calls failed speaks of its opening without the private pages alone.
use Rattle.std.proofs.Common.{◌≡◌, ℕ, List, ap, subst, ◌∙◌}
use Rattle.script_text.specs.Passed.{Op, Reply}
use Rattle.dix_adapter.specs.Passed.{State, Sent, hidden}
use Rattle.script_run_laws.specs.Passed.{falling_replies, falling_walk, IsRecordOfRun}
use Rattle.stack_core.specs.Passed.{EndsAsFalling, of_blocks, over_falls, Setting, steps_from}

pub hidden-same : (m : Setting) (n : ℕ) (ops : List Op) (opening other : State) (pages : List ℕ) (blocks : List (List ℕ)) (replies : List Reply) (es : List Sent) → hidden n opening ≡ hidden n other → EndsAsFalling m n ops opening pages blocks replies es → EndsAsFalling m n ops other pages blocks replies es
hidden-same m n ops opening other pages blocks replies es e h = record {
  falls = h.falls;
  pages_are = h.pages_are ∙ ap (λ o. (falling_walk m (of_blocks h.falls) (steps_from m 1 ops) o).bytes) e;
  blocks_are = h.blocks_are ∙ ap (λ o. (falling_walk m (of_blocks h.falls) (steps_from m 1 ops) o).blocks) e;
  replies_are = h.replies_are ∙ ap (falling_replies m (of_blocks h.falls) 1 ops) e;
  told = h.told;
  recorded = subst (λ o. IsRecordOfRun (over_falls m h.falls) ops o h.told) e h.recorded;
  on_record = h.on_record;
}
