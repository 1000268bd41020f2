use Rattle.std.specs.Prelude.{ℕ, ◌≡◌, ◌+◌, ◌-◌, ◌≤◌, List, [], ◌∷◌, ◌++◌, length, take, drop, Option, Some, vec_capacity, vec_len}
use Rattle.std.specs.Global.{Vec}
use Rattle.dix_base.specs.Told.{Calm, Rose}
use Rattle.pi_tuple.specs.declared.checks.PiType.{PiType}
use Rattle.rig_api.specs.Target.{Stored}
use Rattle.rig_api.specs.Log.{LogEntry, IsMedium}
use Rattle.rig_api.specs.Telling.{unit_at}
use Rattle.rig_api.specs.declared.rig.Outcome.{Outcome}
use Rattle.pi_scrub.specs.Faults.{faults_from}
use Rattle.pi_scrub.specs.Looks.{entry_of, found_at, settled}
use Rattle.pi_scrub.specs.declared.found.Found.{Found}

-- The unit has this type, and these blocks.
pub record IsWithinUnit (ty : PiType) (lba n : ℕ) (u : Stored) : Type 0 where
  pub type_is : u.ty ≡ ty
  pub above : u.first ≤ lba
  pub below : lba + n ≤ u.first + length u.blocks

-- What a calm look at a told unit finds are the faults among the blocks that it settles.
abbrev pub Finds : (dev : ℕ) → PiType → (lba n : ℕ) → Outcome → Option (List Stored) → ℕ → ℕ → Type 0
Finds dev ty lba n o units f f' =
    (us : List Stored) → units ≡ Some us → Calm f f' → IsWithinUnit ty lba n (unit_at us dev)
    → found_at dev lba n o ≡ faults_from ty (unit_at us dev).size dev lba (take (settled n o.done) (drop (lba - (unit_at us dev).first) (unit_at us dev).blocks))

-- One look was made, and settled k blocks.
pub record Did (dev : ℕ) (ty : PiType) (lba n k : ℕ) (found found' : List Found) (old new : List LogEntry) (units : Option (List Stored)) (f f' : ℕ) : Type 0 where
  pub outcome : Outcome
  pub settled_is : k ≡ settled n outcome.done
  pub log : new ≡ old ++ (entry_of (record { dev = dev; ty = ty; lba = lba; n = n; outcome = outcome }) ∷ [])
  pub found_is : found' ≡ found ++ found_at dev lba n outcome
  pub told : Finds dev ty lba n outcome units f f'
  pub medium : IsMedium outcome → Rose f f'

-- the spare room of a vector
abbrev pub room_for : {X : Type 0} → Vec X → ℕ
room_for v = vec_capacity v - vec_len v
