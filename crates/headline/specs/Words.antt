use Rattle.std.specs.Prelude.{ℕ, ◌≡◌, Bool, true, false, List, [], ◌∷◌, Option, codes}
use Rattle.rig_api.specs.Target.{Stored}
use Rattle.rig_api.specs.Telling.{IsStanding, Standing, units_told}
use Rattle.script_text.specs.declared.script.Script.{Script}
use Rattle.call_verdict.specs.declared.status.Status.{Status}
use Rattle.call_verdict.specs.declared.status.Status.TheVariants as status
use Rattle.headline.specs.declared.way.Way.{Way}
use Rattle.headline.specs.declared.way.Way.TheVariants.{Run, Mirror}

-- the command of a way
abbrev pub verb_of : Way → List ℕ
verb_of Run = codes "run"
verb_of Mirror = codes "mirror"

-- the words of its call
abbrev pub words_for : Way → List (List ℕ)
words_for way = verb_of way ∷ codes "image" ∷ []

-- a sink in memory: the bytes that it took, and how many of its calls failed
pub record KeptSink : Type 0 where
  pub bytes : List ℕ
  pub faults : ℕ

-- Memory was wanting, for a call or for its report.
abbrev pub wants_memory : Status → Bool
wants_memory status.Whole = false
wants_memory status.SomeBad = false
wants_memory status.Words = false
wants_memory status.Input = false
wants_memory status.Image = false
wants_memory status.RigFault = false
wants_memory status.Memory = true
wants_memory status.ReadFault = false
wants_memory status.WriteFault = true

-- What a rig over a store in memory tells: its units are those of its image, its devices stand on a right head of the image, and no store call failed.
pub record IsTold (standing : Standing) (image : Option (List ℕ)) (units : Option (List Stored)) (faults : ℕ) : Type 0 where
  pub laid : units ≡ units_told standing image
  pub stands : IsStanding standing image
  pub calm : faults ≡ 0

-- a script with the schedule and the limits of another
abbrev pub planned_as : Script → Script → Script
planned_as script other = record script { schedule = other.schedule; limits = other.limits }
