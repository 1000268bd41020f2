use Rattle.std.specs.Prelude.{ℕ, ◌≡◌, ◌≤◌, ◌⊎◌, List}
use Rattle.dix_base.specs.Stores.{StoreState}
use Rattle.rig_discovery.specs.Openings.{OpenedOnce as RigOpenedOnce}
use Rattle.image_rig.specs.Heads.{called}
use Rattle.rig_api.specs.Telling.{Opened, Stayed}
use Rattle.call_verdict.specs.Words.{image_in}
use Rattle.lab_run.specs.Calls.{Facts, second_in}

-- What a call leaves as it was, however it ends.

-- The store was opened by this name, or not at all.
abbrev pub OpenedOnce : List ℕ → StoreState → StoreState → Type 0
OpenedOnce name old new = Stayed (called old) (called new) ⊎ Opened name (called old) (called new)

-- The store was opened at most once, by this name, and read: each byte that it tells is as before.
pub record ReadsOnce (name : List ℕ) (old new : StoreState) : Type 0 where
  pub same : new.bytes ≡ old.bytes
  pub opening : OpenedOnce name old new
  pub count : old.faults ≤ new.faults

-- The source is as before.
abbrev pub LeavesSource : Facts → Type 0
LeavesSource f = (f.left_after ≡ f.left) × (f.reads_after ≡ f.reads)

-- The rig's image was opened at most once, by the name of the words.
abbrev pub OpensRig : Facts → Type 0
OpensRig f = RigOpenedOnce (image_in f.words) f.rig.standing f.rig_after.standing × (f.rig.faults ≤ f.rig_after.faults)

-- All is as before.
pub record LeavesAll (f : Facts) : Type 0 where
  pub source : LeavesSource f
  pub rig : f.rig_after ≡ f.rig
  pub first : f.first_after ≡ f.first
  pub second : f.second_after ≡ f.second

-- The first store was read, and all else is as before.
pub record ReadsFirst (f : Facts) : Type 0 where
  pub source : LeavesSource f
  pub rig : f.rig_after ≡ f.rig
  pub first : ReadsOnce (image_in f.words) f.first f.first_after
  pub second : f.second_after ≡ f.second

-- Both stores were read, and all else is as before.
pub record ReadsBoth (f : Facts) : Type 0 where
  pub source : LeavesSource f
  pub rig : f.rig_after ≡ f.rig
  pub first : ReadsOnce (image_in f.words) f.first f.first_after
  pub second : ReadsOnce (second_in f.words) f.second f.second_after

-- The source was read, and all else is as before.
pub record ReadsSource (f : Facts) : Type 0 where
  pub source : f.reads ≤ f.reads_after
  pub rig : f.rig_after ≡ f.rig
  pub first : f.first_after ≡ f.first
  pub second : f.second_after ≡ f.second

-- The source was read and the rig used, and the stores are as before.
pub record UsesRig (f : Facts) : Type 0 where
  pub source : f.reads ≤ f.reads_after
  pub rig : OpensRig f
  pub first : f.first_after ≡ f.first
  pub second : f.second_after ≡ f.second
