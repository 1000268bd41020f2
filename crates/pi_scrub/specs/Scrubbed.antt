use Rattle.std.specs.Prelude.{ℕ, ◌≡◌, ◌+◌, ◌^◌, ◌≤◌, ◌⊎◌, Bool, List, ◌++◌, count_by}
use Rattle.rig_api.specs.Log.{LogEntry}
use Rattle.volume_table.specs.declared.device.DeviceInfo.{DeviceInfo}
use Rattle.block_path.specs.Senses.{is_medium_why}
use Rattle.pi_scrub.specs.Looks.{AreFit, Look, LookedPlace, all_entries, all_found, all_looked}
use Rattle.pi_scrub.specs.declared.found.Found.{Found}

abbrev pub is_medium : Found → Bool
is_medium f = is_medium_why f.why

-- A count rose by as much as this, or stands at its last value.
abbrev pub RoseBy : ℕ → ℕ → ℕ → Type 0
RoseBy n old new = (old + n ≤ new) ⊎ (2 ^ 64 ≤ new + 1)

-- Looks were made, one record each, and what was found is what their records say: each entry has a record of its own, which ended at its block.
-- The blocks that were to be looked at are those that these looked at, each once and in order, and then the blocks that are left. Entries of a medium are at most as many as the count of faults rose.
pub record Looked (devices : List DeviceInfo) (due left : List LookedPlace) (found found' : List Found) (old new : List LogEntry) (f f' : ℕ) : Type 0 where
  pub looks : List Look
  pub fit : AreFit devices looks
  pub log : new ≡ old ++ all_entries looks
  pub found_is : found' ≡ found ++ all_found looks
  pub once : due ≡ all_looked looks ++ left
  pub medium : RoseBy (count_by is_medium (all_found looks)) f f'
