use Rattle.std.specs.Prelude.{ℕ, List, Option}
use Rattle.rig_discovery.specs.Openings.{OpenedOnce}
use Rattle.call_verdict.specs.Words.{image_in}
use Rattle.dix_run.specs.Grammar.{command_in}
use Rattle.dix_run.specs.Commands.{Ended, work_of}
use Rattle.call_verdict.specs.Verdicts.{IsComplete}
use Rattle.call_verdict.specs.declared.status.Status.{Status}
use Rattle.dix_run.specs.Verdict.{Facts, dix}

-- The rig was opened at most once more, by the name in the words.
abbrev pub OpensOnce : Facts → Type 0
OpensOnce f = OpenedOnce (image_in f.words) f.rig.standing f.rig_after.standing

-- What a call carries, whatever its source, rig and sink are: its verdict with the cause, that nothing that is right is refused, and what follows from it for those that tell what they hold.
-- What a run did is told by `followed` of the record `HasRun` of its cause, and what a script on a mirror did by `ended` and `intact` of `HasMirrored`.
pub record Carries (f : Facts) (taken taken' : Option (List ℕ)) (o n : ℕ) (result : Status) : Type 0 where
  pub ended : Ended f taken taken' o n result
  pub complete : IsComplete dix (work_of (command_in f.words)) f o n result
  pub opens : OpensOnce f
