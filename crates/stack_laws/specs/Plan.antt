-- What a run is given: its requests, where their blocks lie, how they are segmented, which of them conflict.
use Rattle.std.specs.Prelude.{ℕ, Bool, List, get_or}
use Rattle.merge_queue.specs.Passed.{Dir, Read}
use Rattle.merge_queue.specs.declared.limits.Limits.{Limits}

-- one op; one that is no read or write has no blocks
pub record PlannedOp : Type 0 where
  pub dir : Dir
  pub first : ℕ
  pub count : ℕ

pub record Place : Type 0 where
  pub dev : ℕ
  pub lba : ℕ

pub record Plan : Type 0 where
  pub requests : List PlannedOp
  pub devices : ℕ
  -- of a virtual block: its place, and how many blocks from it on lie one behind another on one device
  pub place : ℕ → Place
  pub run_from : ℕ → ℕ
  -- the segments of data and of tuples that n blocks of op i have, from block k on
  pub segs : ℕ → ℕ → ℕ → ℕ
  pub pi_segs : ℕ → ℕ → ℕ → ℕ
  -- an earlier op and a later one
  pub conflicts : ℕ → ℕ → Bool
  pub limits : Limits

abbrev pub no_request : PlannedOp
no_request = record { dir = Read; first = 0; count = 0 }

abbrev pub request_at : Plan → ℕ → PlannedOp
request_at p i = get_or p.requests i no_request
