-- What an outcome says of the blocks of a command.
use Rattle.std.specs.Prelude.{ℕ, suc, ◌-◌, min, ltb, if◌then◌else◌, List, [], ◌∷◌, replicate}
use Rattle.bio_core.specs.declared.fate.Fate.{Fate}
use Rattle.bio_core.specs.declared.fate.Fate.TheVariants.{Bad, Untouched}
use Rattle.block_path.specs.Senses.{why_ended}
use Rattle.rig_api.specs.declared.rig.Outcome.{Outcome}

-- how many of n blocks were done
abbrev pub done_of : ℕ → Outcome → ℕ
done_of n o = min o.done n

-- the fates of those that were not: of the one at which the command ended, and of later ones
abbrev pub rest_of : ℕ → Outcome → List Fate
rest_of n o = if ltb o.done n then Bad (why_ended o.sense) ∷ replicate (n - suc o.done) Untouched else []
