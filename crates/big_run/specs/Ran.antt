use Rattle.std.specs.Prelude.{ℕ, ◌≡◌, ◌≤◌, ◌+◌, ◌-◌, ◌^◌, false, [], ◌∷◌, codes, length, min, Some}
use Rattle.dix_base.specs.Told.{Calm}
use Rattle.pi_guard.specs.Guards.{crc}
use Rattle.report_text.specs.Report.{report}
use Rattle.script_text.specs.Generator.{big, ops_from}
use Rattle.run_command.specs.Texts.{has_bad}
use Rattle.run_command.specs.Verdict.{HasRun}
use Rattle.run_command.specs.declared.verdict.Finished.{Finished}
use Rattle.run_command.specs.Passed.{IsPlanFor, entries_of}
use Rattle.stack_laws.specs.Plan.{Plan}
use Rattle.stack_laws.specs.Runs.{blocks_of_requests, sends_of}
use Rattle.rig_api.specs.Image.{formatted}
use Rattle.big_run.specs.Counting.{all_bad, counts_with, no_ops}
use Rattle.big_run.specs.Plain.{big_replies, big_table, big_unit}
use Rattle.big_run.specs.declared.running.BigRun.{BigRun}
use Rattle.rig_api.specs.State.{RigState}

-- The script of n ops from a seed was run over the formatted image of the two units, by a rig that tells it and without a fault; and what is said of the run is so.
-- No block fails, and the replies are those of the plain map; so counts, sum and exchanges are known by the two numbers.
pub record RanBig (n seed : ℕ) (b : BigRun) : Type 0 where
  pub old : RigState
  pub new : RigState
  pub run : Finished
  pub image : old.image ≡ Some (formatted (big_unit ∷ big_unit ∷ []))
  pub none : old.log ≡ []
  pub calm : Calm old.faults new.faults
  pub ran : HasRun run (big n seed) (codes "big") old new
  pub counts_are : b.counts ≡ counts_with no_ops (ops_from n seed)
  pub bad_is : b.bad ≡ min (all_bad run.stack.replies.items) (2 ^ 64 - 1)
  pub has_bad_is : b.has_bad ≡ has_bad run.stack.replies.items
  -- the records but for one of each device
  pub exchanges_are : new.standing.devices + b.exchanges ≡ length new.log
  pub sum_is : b.sum ≡ crc (report run.stack.replies.items)
  -- The replies are those of the plain map, none of which lists a block.
  pub replies_are : run.stack.replies.items ≡ big_replies n seed
  pub none_bad : b.bad ≡ 0
  pub not_bad : b.has_bad ≡ false
  pub sum_known : b.sum ≡ crc (report (big_replies n seed))
  -- The exchanges are as many as the steps of the script's schedule send where all blocks are good, and at most as many as the requests' blocks.
  pub plan : Plan
  pub is_plan : IsPlanFor (big n seed) big_table plan
  pub few : b.exchanges ≤ blocks_of_requests plan.requests
  pub sends_are : b.exchanges ≡ length (sends_of plan (entries_of (big n seed).schedule))
