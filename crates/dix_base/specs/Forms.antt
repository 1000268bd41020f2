use Rattle.std.specs.Prelude.{ℕ, ◌≡◌, ◌<◌, ◌↔◌, length, ◌+◌, ◌-◌, ◌^◌, ◌/◌, min, List, All, Contains, Bool, Some, None, Result, IsErr, IsErrOf, OnOk, OnErr}
use Rattle.dix_base.specs.declared.failed.StoreFault.{StoreFault}
use Rattle.dix_base.specs.declared.failed.StoreFault.TheVariants.{Failed}
use Rattle.dix_base.specs.Stores.{StoreState}

-- one more, unless at the last value
abbrev pub one_more : ℕ → ℕ
one_more n = min (n + 1) (2 ^ 64 - 1)

-- the calls of a form in memory: the numbers of those that fail, counted from 1, how many there were, and how many failed
pub record Turns : Type 0 where
  pub listed : List ℕ
  pub calls : ℕ
  pub faults : ℕ

-- The next call's number is listed.
abbrev pub IsNextListed : Turns → Type 0
IsNextListed t = Contains t.listed (one_more t.calls)

-- before the first call
abbrev pub no_turns : List ℕ → Turns
no_turns numbers = record { listed = numbers; calls = 0; faults = 0 }

-- after a call that went well
abbrev pub after_call : Turns → Turns
after_call t = record { listed = t.listed; calls = one_more t.calls; faults = t.faults }

-- after a call that failed
abbrev pub after_fault : Turns → Turns
after_fault t = record { listed = t.listed; calls = one_more t.calls; faults = one_more t.faults }

-- A call failed just where this was so, and is counted as what it was.
pub record TookTurn {X E : Type 0} (result : Result X E) (fails : Type 0) (old new : Turns) : Type 0 where
  pub failing : IsErr result ↔ fails
  pub passed : OnOk result (new ≡ after_call old)
  pub failed : OnErr result (new ≡ after_fault old)

-- A call that may end for want of memory, and then isn't counted: it failed otherwise just where it was listed.
pub record TookTurnOrMemory {X : Type 0} (result : Result X StoreFault) (old new : Turns) : Type 0 where
  pub listed : IsErrOf result Failed → IsNextListed old
  pub unlisted : OnOk result (¬ IsNextListed old)
  pub passed : OnOk result (new ≡ after_call old)
  pub failed : IsErrOf result Failed → new ≡ after_fault old

-- a source in memory: the bytes that are left
pub record Supply : Type 0 where
  pub left : List ℕ
  pub turns : Turns

-- a sink in memory: the bytes that it took, and the number of those that it still has room for
pub record Intake : Type 0 where
  pub taken : List ℕ
  pub room : ℕ
  pub turns : Turns

-- a store in memory that never fails
pub record Kept : Type 0 where
  pub bytes : List ℕ
  pub octets : All (λ x. x < 256) bytes
  pub openings : ℕ
  pub handed : List ℕ

-- what it shows
abbrev pub kept_state : Kept → StoreState
kept_state s = record { bytes = Some s.bytes; length = length s.bytes; faults = 0; openings = s.openings; handed = s.handed }

-- a store in memory that fails at the calls of a list
pub record Stock : Type 0 where
  pub bytes : List ℕ
  pub octets : All (λ x. x < 256) bytes
  pub openings : ℕ
  pub handed : List ℕ
  pub turns : Turns

-- what it shows
abbrev pub stock_state : Stock → StoreState
stock_state s = record { bytes = Some s.bytes; length = length s.bytes; faults = s.turns.faults; openings = s.openings; handed = s.handed }

-- a store that is a file: whether one is open, and its length in bytes, 0 where none is
pub record OpenFile : Type 0 where
  pub is_open : Bool
  pub len : ℕ
  pub faults : ℕ
  pub openings : ℕ
  pub handed : List ℕ

-- what it shows, which is nothing of its bytes
abbrev pub file_state : OpenFile → StoreState
file_state f = record { bytes = None; length = f.len; faults = f.faults; openings = f.openings; handed = f.handed }

-- after so many bytes more
abbrev pub longer : ℕ → OpenFile → OpenFile
longer n f = record { is_open = f.is_open; len = f.len + n; faults = f.faults; openings = f.openings; handed = f.handed }

-- after a read or a write of the file that failed
abbrev pub after_file_fault : OpenFile → OpenFile
after_file_fault f = record { is_open = f.is_open; len = f.len; faults = one_more f.faults; openings = f.openings; handed = f.handed }

-- what of a piece is written: the first half by a call that is listed, else all
abbrev pub IsPart : Turns → ℕ → ℕ → Type 0
IsPart t all part = (IsNextListed t → part ≡ all / 2) × (¬ IsNextListed t → part ≡ all)

-- There are bytes, and no room for any.
abbrev pub IsFull : ℕ → List ℕ → Type 0
IsFull room bytes = (room ≡ 0) × (0 < length bytes)
