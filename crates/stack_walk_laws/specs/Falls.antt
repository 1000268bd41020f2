use Rattle.std.specs.Prelude.{ℕ, zero, suc, Bool, true, false, if◌then◌else◌, List, [], ◌∷◌, ◌++◌, get_or, Option, Some, None, Result, Ok, Err}
use Rattle.fault_schedule.specs.declared.Label.{Label}
use Rattle.bio_core.specs.declared.fate.Why.{Why}
use Rattle.bio_core.specs.declared.fate.Why.TheVariants.{Medium}
use Rattle.block_path.specs.Blocks.{Sent, Site}
use Rattle.block_path.specs.Routes.{Device}
use Rattle.run_laws.specs.Passed.{Block, Setting, Op, Fetch, FetchPi, Fill, Overwrite, Put, Seal, Show, Wait, Write, WritePi}
use Rattle.run_laws.specs.Records.{stamped}
use Rattle.stack_walk_laws.specs.Slots.{Admitted, Carried, Cut, Done, Settled, Status, Waits}

-- Store calls that fail, as a device: of a write whose call fails it stores what the call leaves, and a read whose call fails it refuses.

-- Which blocks' store calls fail, and what each leaves. Of a read nothing is left, and what stands here of it is nobody's.
abbrev pub Falls : Type 0
Falls = Label → Option (List ℕ)

abbrev pub none_falls : Falls
none_falls label = None

abbrev pub stores_or : Option (List ℕ) → Result (List ℕ) Why → Result (List ℕ) Why
stores_or None came = came
stores_or (Some left) came = Ok left

-- what is left in the block's place: what the failed call left, all of it
abbrev pub leaves_or : Option (List ℕ) → (kept frame : List ℕ) → List ℕ
leaves_or None kept frame = kept
leaves_or (Some left) kept frame = frame

abbrev pub sends_or : Option (List ℕ) → Result (List ℕ) Why → Result (List ℕ) Why
sends_or None came = came
sends_or (Some left) came = Err Medium

-- this device, whose store calls fail so
abbrev pub falling : Falls → Device → Device
falling falls device = record {
  stores = λ r frame. stores_or (falls r.label) (device.stores r frame);
  sends = λ r stored. sends_or (falls r.label) (device.sends r stored);
  leaves = λ r old frame. leaves_or (falls r.label) (device.leaves r old frame) frame;
}

abbrev pub over_falls : Setting → Falls → Setting
over_falls m falls = record m { site = record m.site { device = falling falls m.site.device } }

-- the same of blocks, as the falling walk asks for it
abbrev pub of_blocks : Falls → Block → Option (List ℕ)
of_blocks falls b = falls (record { op = b.op; k = b.k })

-- Over that device a write whose call failed is accepted, where in truth it is listed for the medium. So is a stack's status there told from its own, and its own record from the one there.

-- its blocks are written
abbrev pub is_write : Op → Bool
is_write (Fill seg byte) = false
is_write (Put page off bytes) = false
is_write (Show seg) = false
is_write (Seal n body tuples app rtag) = false
is_write (Write v n body app) = true
is_write (Fetch v n body) = false
is_write (WritePi v n body tuples) = true
is_write (FetchPi v n body tuples) = false
is_write (Overwrite dev lba change) = false
is_write Wait = false

-- of op i, which are numbered from 1
abbrev pub writes_of : List Op → (i : ℕ) → Bool
writes_of ops zero = false
writes_of ops (suc i) = is_write (get_or ops i Wait)

-- what the store call of block k of op i left, where that is a write's and failed
abbrev pub left_of : List Op → Falls → (i k : ℕ) → Option (List ℕ)
left_of ops falls i k = if writes_of ops i then falls (record { op = i; k = k }) else None

abbrev pub forgive : Option (List ℕ) → Status → Status
forgive None status = status
forgive (Some left) Waits = Waits
forgive (Some left) Admitted = Admitted
forgive (Some left) Cut = Cut
forgive (Some left) (Carried why) = Carried None
forgive (Some left) (Settled why) = Settled None
forgive (Some left) (Done shown) = Done shown

-- a stack's status over that device
abbrev pub forgiven : List Op → Falls → (ℕ → ℕ → Status) → ℕ → ℕ → Status
forgiven ops falls status i k = forgive (left_of ops falls i k) (status i k)

-- what came of a block in truth
abbrev pub really : Option (List ℕ) → Result (List ℕ) Why → Result (List ℕ) Why
really None came = came
really (Some left) (Ok frame) = Err Medium
really (Some left) (Err why) = Err why

-- The record in truth, by the one over that device, behind what stands there: a write that is accepted there and failed has an end, in the same place, and is no write entry of its place.
abbrev pub put_really : Site → Falls → List Sent → List Sent → List Sent
put_really s falls [] es = es
put_really s falls (x ∷ told) es = put_really s falls told (es ++ (stamped s es x.label x.dir x.dev x.lba (really (falls x.label) x.came) ∷ []))
