use Rattle.std.specs.Prelude.{ℕ, ◌≡◌, ◌+◌, ◌-◌, ◌^◌, ◌≤◌, min, List, Option, is_some, Result, OnOk, OnErr}
use Rattle.dix_base.specs.Told.{Rose}

-- All that a store shows of itself.
pub record StoreState : Type 0 where
  -- the bytes that it holds, where it tells them
  pub bytes : Option (List ℕ)
  -- the number of bytes that it holds
  pub length : ℕ
  -- the count of faults, which never falls; one at its last value counts as risen
  pub faults : ℕ
  -- the number of calls that opened a content, which stays at its last value
  pub openings : ℕ
  -- the bytes of the name that it was handed last
  pub handed : List ℕ

-- A content was opened by this name, or the try failed: that is one opening more, and the count of faults didn't fall.
pub record WasOpened (name : List ℕ) (old new : StoreState) : Type 0 where
  pub opened : new.openings ≡ min (old.openings + 1) (2 ^ 64 - 1)
  pub named : new.handed ≡ name
  pub count : old.faults ≤ new.faults

-- The store was read: its count of faults didn't fall, and all else is as before.
pub record WasRead (old new : StoreState) : Type 0 where
  pub same : new.bytes ≡ old.bytes
  pub length : new.length ≡ old.length
  pub count : old.faults ≤ new.faults
  pub named : new.handed ≡ old.handed
  pub opened : new.openings ≡ old.openings

-- The store was written inside its length: its count of faults didn't fall, it tells its bytes or not as before, and its length, its name and its openings are as before.
pub record WasWritten (old new : StoreState) : Type 0 where
  pub tells : is_some new.bytes ≡ is_some old.bytes
  pub length : new.length ≡ old.length
  pub count : old.faults ≤ new.faults
  pub named : new.handed ≡ old.handed
  pub opened : new.openings ≡ old.openings

-- The store may hold more: its count of faults didn't fall, it tells its bytes or not as before, and its name and its openings are as before.
pub record WasExtended (old new : StoreState) : Type 0 where
  pub tells : is_some new.bytes ≡ is_some old.bytes
  pub more : old.length ≤ new.length
  pub count : old.faults ≤ new.faults
  pub named : new.handed ≡ old.handed
  pub opened : new.openings ≡ old.openings

-- The call counted a fault where it failed, and none where it went well.
pub record IsCounted {X E : Type 0} (result : Result X E) (old new : StoreState) : Type 0 where
  pub calm : OnOk result (new.faults ≡ old.faults)
  pub cause : OnErr result (Rose old.faults new.faults)
