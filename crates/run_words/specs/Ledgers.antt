use Rattle.std.specs.Prelude.{ℕ, zero, suc, ◌≡◌, ◌+◌, ◌<◌, ◌≤◌, Bool, true, false, ltb, List, [], ◌∷◌, ◌++◌, length, take, drop, get_or, slice_set, Option, Some, None}
use Rattle.fault_schedule.specs.declared.Label.{Label}
use Rattle.bio_core.specs.declared.TheConstants.{MOST_BLOCKS}
use Rattle.rig_api.specs.Log.{LogEntry, entry_at}
use Rattle.rig_api.specs.declared.rig.Record.{Record}
use Rattle.script_text.specs.declared.TheConstants.{MOST_OPS}
use Rattle.script_text.specs.declared.script.Script.{Script}
use Rattle.stack_ops.specs.declared.op.Op.{Op}
use Rattle.run_words.specs.Lies.{Book, MovedBlock, all_moved, asked_one, book_of, frame_for, label_of, request_in}
use Rattle.run_words.specs.declared.asked.Asked.{Asked}
use Rattle.run_words.specs.declared.ledger.Ledger.{Ledger}
use Rattle.run_words.specs.declared.ledger.Spot.{Spot}

-- How a ledger finds the frame of each block.

-- the blocks of all requests
abbrev pub blocks_asked_for : List Op → ℕ
blocks_asked_for [] = 0
blocks_asked_for (op ∷ ops) = (asked_one 0 op).count + blocks_asked_for ops

abbrev pub place_by : (inside : Bool) → Asked → (k : ℕ) → Option ℕ
place_by true a k = Some (a.start + k)
place_by false a k = None

abbrev pub place_in_op : Asked → (k : ℕ) → Option ℕ
place_in_op a k = place_by (ltb k a.count) a k

-- where a block stands among all, if it is one of a request
abbrev pub place_at : List Asked → (op k : ℕ) → Option ℕ
place_at asked zero k = None
place_at asked (suc i) k = place_in_op (request_in asked i) k

abbrev pub place_for : List Asked → Label → Option ℕ
place_for asked label = place_at asked label.op label.k

-- The first spot of a block stays.
abbrev pub first_kept : Option Spot → List (Option Spot) → (place : ℕ) → Spot → List (Option Spot)
first_kept (Some old) spots place spot = spots
first_kept None spots place spot = slice_set spots place (Some spot)

abbrev pub noted_at : Option ℕ → List (Option Spot) → Spot → List (Option Spot)
noted_at None spots spot = spots
noted_at (Some place) spots spot = first_kept (get_or spots place None) spots place spot

-- the spots with that of the block of this label
abbrev pub noted : List Asked → List (Option Spot) → Label → Spot → List (Option Spot)
noted asked spots label spot = noted_at (place_for asked label) spots spot

-- The spot is where the data of this frame begin, in the moved bytes of a record.
abbrev pub IsSpotOf : (size : ℕ) → List LogEntry → Option Spot → Option (List ℕ) → Type 0
IsSpotOf size log None None = Unit {0}
IsSpotOf size log None (Some frame) = ⊥
IsSpotOf size log (Some spot) None = ⊥
IsSpotOf size log (Some spot) (Some frame) = (spot.number < length log) × (take size frame ≡ take size (drop spot.at (entry_at log spot.number).moved))

-- So it is of each block of each request.
abbrev pub Knows : (size : ℕ) → List Asked → List LogEntry → List (Option Spot) → List MovedBlock → Type 0
Knows size asked log spots moved =
    (i k : ℕ) → k < (request_in asked i).count → IsSpotOf size log (get_or spots ((request_in asked i).start + k) None) (frame_for (label_of i k) moved)

-- The blocks of the ops stand one after another behind so many, and end there.
abbrev pub StandInTurn : (start : ℕ) → List Asked → (end : ℕ) → Type 0
StandInTurn start [] end = start ≡ end
StandInTurn start (a ∷ asked) end = (a.start ≡ start) × StandInTurn (start + a.count) asked end

abbrev pub book_in : Ledger → Book
book_in l = record { asked = l.asked.items; faults = l.tamper; size = l.size }

-- The ledger is of a script's size, with a place for the spot of each block.
pub record IsLaidOut (l : Ledger) : Type 0 where
  pub size : l.size ≤ 4096
  pub few : length l.asked.items ≤ MOST_OPS
  pub turn : StandInTurn 0 l.asked.items (length l.spots.items)
  pub blocks : length l.spots.items ≤ MOST_BLOCKS

-- It is that of a script, and knows no frame yet.
pub record IsNew (script : Script) (l : Ledger) : Type 0 where
  pub laid : IsLaidOut l
  pub book : book_in l ≡ book_of script
  pub knows : (log : List LogEntry) → Knows l.size l.asked.items log l.spots.items []

-- The one ledger became the other, which knows these blocks of a record, too.
pub record Notes (old new : Ledger) (number : ℕ) (what : Record) (labels : List Label) (blocks : LogEntry → List MovedBlock) : Type 0 where
  pub laid : IsLaidOut new
  pub book : book_in new ≡ book_in old
  pub knows : (log : List LogEntry) (moved : List MovedBlock) → number < length log → (entry_at log number).what ≡ what → (entry_at log number).labels ≡ labels
      → Knows old.size old.asked.items log old.spots.items moved → Knows new.size new.asked.items log new.spots.items (moved ++ blocks (entry_at log number))

-- the blocks that were moved in the records that it was kept for
abbrev pub moved_in : Ledger → List LogEntry → List MovedBlock
moved_in l log = all_moved l.size (drop l.first log)

-- It knows where each block's frame stands in these.
pub record IsKept (l : Ledger) (log : List LogEntry) : Type 0 where
  pub laid : IsLaidOut l
  pub knows : Knows l.size l.asked.items log l.spots.items (moved_in l log)

-- The blocks of each request lie in a volume of so many.
abbrev pub LieInside : (most : ℕ) → List Asked → Type 0
LieInside most [] = Unit {0}
LieInside most (a ∷ asked) = (a.first + a.count ≤ most) × LieInside most asked
