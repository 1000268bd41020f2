-- Views that come of the first one by a schedule, whatever the fates are.
use Rattle.std.specs.Prelude.{◌≡◌, ◌<◌, ℕ, zero, suc, List, [], ◌∷◌, length, get_or, replicate}
use Rattle.merge_queue.specs.Passed.{Fate, Good}
use Rattle.merge_queue.specs.Groups.{size}
use Rattle.stack_laws.specs.Plan.{Plan}
use Rattle.stack_laws.specs.View.{View, Command, start}
use Rattle.stack_laws.specs.Steps.{chosen, enabled, step}
use Rattle.stack_laws.specs.Runs.{ScheduleEntry}
use Rattle.stack_laws.specs.Sound.{Answered}

-- entry n of a schedule, behind whose entries (0, 0) stands
abbrev pub entry_at : List ScheduleEntry → ℕ → ScheduleEntry
entry_at es n = get_or es n (record { word = 0; cut = 0 })

-- one view comes of another by the step of an entry, with some fates where it sends
pub record ComesBy (p : Plan) (e : ScheduleEntry) (u v : View) : Type 0 where
  pub some : 0 < length (enabled p u)
  pub fates : List Fate
  pub answered : Answered u (chosen p u e.word) fates
  pub is : v ≡ step p u (chosen p u e.word) e.cut fates

-- a view comes of the first one by n steps, by the entries and then by (0, 0)
abbrev pub Comes : Plan → List ScheduleEntry → ℕ → View → Type 0
Comes p es zero v = v ≡ start p
Comes p es (suc n) v = (u : View) × Comes p es n u × ComesBy p (entry_at es n) u v

-- all blocks of the commands were good
abbrev pub AllGood : List Command → Type 0
AllGood [] = Unit {0}
AllGood (c ∷ cs) = (c.fates ≡ replicate (size c.bios) Good) × AllGood cs
