use Rattle.std.specs.Prelude.{ℕ, ◌≡◌, ◌<◌, suc, ◌+◌, ◌-◌, Bool, false, ◌&&◌, eqb, is_none, List, [], ◌∷◌, length, drop, get_or, take, Some, IfSome}
use Rattle.std.specs.List.{AllByRecursion as Each, count_by}
use Rattle.fault_schedule.specs.declared.Label.{Label}
use Rattle.integrity_payload.specs.declared.payload.Owner.{Owner}
use Rattle.walk_laws.specs.Passed.{Op, Reply, Silent, State, ActAnswer, Sent, own_cell, Route}
use Rattle.walk_laws.specs.Past.{steps_from}
use Rattle.walk_laws.specs.Settings.{Setting, route}
use Rattle.walk_laws.specs.Steps.{Alters, Reads, Seals, Sets, Shows, Step, Writes, WritesPi, steps_of}
use Rattle.walk_laws.specs.ReadsAs.{listed_in}
use Rattle.run_laws.specs.Records.{Moved, entry_for}

-- After how many write entries of its place a read's entry stands, by the replies alone.

-- a block of a write to this place that its reply doesn't list
abbrev pub is_accepted : Setting → (c : ℕ) → Reply → Step → Bool
is_accepted m c reply (Sets at values) = false
is_accepted m c reply (Shows at) = false
is_accepted m c reply (Seals body tuple app rtag) = false
is_accepted m c reply (Writes b app body) = is_none (listed_in reply b.k) && eqb (own_cell m.site (route m b)) c
is_accepted m c reply (WritesPi b frame) = is_none (listed_in reply b.k) && eqb (own_cell m.site (route m b)) c
is_accepted m c reply (Reads b owner to) = false
is_accepted m c reply (Alters dev lba change) = false

-- how many of these the ops from op i on have
abbrev pub accepted_in : Setting → (c i : ℕ) → List Op → List Reply → ℕ
accepted_in m c i [] replies = 0
accepted_in m c i (op ∷ ops) replies = count_by (is_accepted m c (get_or replies 0 Silent)) (steps_of m i op) + accepted_in m c (suc i) ops (drop 1 replies)

-- What stands on record of it stands after as many write entries of its place as earlier ops have such blocks there.
abbrev pub IsCounted : Setting → List Op → List Reply → Route → Owner → ActAnswer → Type 0
IsCounted m ops replies r owner a = IfSome a.sent (λ s. s.after ≡ accepted_in m (own_cell m.site r) 1 (take (r.label.op - 1) ops) replies)

-- A block has an entry that stands after so many.
abbrev pub StandsAfter : List Sent → Label → ℕ → Type 0
StandsAfter es label n = (x : Moved) × ((entry_for es label ≡ Some x) × (x.after ≡ n))

-- The place of a block is one of so many that have a log.
abbrev pub HasLog : Setting → (logs : ℕ) → Step → Type 0
HasLog m logs (Sets at values) = Unit {0}
HasLog m logs (Shows at) = Unit {0}
HasLog m logs (Seals body tuple app rtag) = Unit {0}
HasLog m logs (Writes b app body) = own_cell m.site (route m b) < logs
HasLog m logs (WritesPi b frame) = own_cell m.site (route m b) < logs
HasLog m logs (Reads b owner to) = own_cell m.site (route m b) < logs
HasLog m logs (Alters dev lba change) = Unit {0}

-- Each place has a log, and no frame was carried yet.
pub record LogsAreEmpty (m : Setting) (ops : List Op) (opening : State) : Type 0 where
  pub within : Each (HasLog m (length opening.logs)) (steps_from m 1 ops)
  pub empty : (c : ℕ) → get_or opening.logs c [] ≡ []
