use Rattle.std.specs.Prelude.{ℕ, if◌then◌else◌, List, ◌++◌, drop, Option, Some, None, Result, Ok, Err}
use Rattle.pi_guard.specs.Guards.{crc}
use Rattle.pi_tuple.specs.Tuples.{ref_tag}
use Rattle.pi_tuple.specs.Finds.{finding}
use Rattle.pi_tuple.specs.declared.checks.Check.{Check}
use Rattle.fault_schedule.specs.declared.fault.Crossing.TheVariants.{AdapterToHost}
use Rattle.fault_schedule.specs.declared.fault.FaultLine.{FaultLine}
use Rattle.integrity_payload.specs.Payloads.{all_asked}
use Rattle.integrity_payload.specs.declared.payload.Owner.{Owner}
use Rattle.integrity_payload.specs.declared.payload.Owner.TheVariants.{Block as OfBlock, App as OfApp}
use Rattle.ref_remap.specs.Remapped.{remapped_bytes}
use Rattle.bio_core.specs.declared.request.Dir.TheVariants.{Read}
use Rattle.bio_core.specs.declared.fate.Why.{Why}
use Rattle.bio_core.specs.declared.fate.Why.TheVariants.{Adapter, Block, App}
use Rattle.rig_api.specs.Frames.{data_of, tuple_of}
use Rattle.rig_api.specs.Passing.{then_crossed, unless}
use Rattle.block_path.specs.declared.route.Route.{Route}
use Rattle.block_path.specs.Operations.{handed_on, operation_of}
use Rattle.block_path.specs.Routes.{Device, host_finding, host_type, passes_tuples}

-- The way in of one block of a read.

-- what the adapter finds in the frame from the wire
abbrev pub adapter_finds_in : Route → List ℕ → Option Check
adapter_finds_in r frame =
    if passes_tuples r then finding r.ty (all_asked r.mode.app r.mode.mask) (ref_tag r.lba) (crc (data_of r.size frame)) (tuple_of r.size frame) else None

-- what it hands on: it passes the tuple, inserts one, strips it, or hands on the data
abbrev pub received : Route → List ℕ → List ℕ
received r frame = handed_on (operation_of r Read) r frame

-- from the wire to the host: checked, handed on, altered
unfoldable pub from_wire : List FaultLine → Route → List ℕ → Result (List ℕ) Check
from_wire faults r frame = then_crossed faults (Some r.label) AdapterToHost (unless (adapter_finds_in r frame) (received r frame))

-- A reference tag that is that of the address becomes the virtual block's, in host types 1 and 2.
abbrev pub mapped_back : Route → List ℕ → List ℕ
mapped_back r frame = if r.mode.dix then data_of r.size frame ++ remapped_bytes (host_type r.ty) r.lba r.virt (drop r.size frame) else frame

-- what the owner of the tuples finds in the frame that reached the host
abbrev pub owner_finds : Route → List ℕ → Option Check
owner_finds r frame = if r.mode.dix then host_finding r r.virt frame else None

-- It stops behind the adapter, or it comes and is found spoilt, by adapter or owner, or it is delivered: what was carried on the wire, and what the host gets.
pub data WayIn : Type 0 where
  Stops : Why → WayIn
  Spoils : Why → (carried : List ℕ) → WayIn
  Delivers : (carried frame : List ℕ) → WayIn

abbrev pub at_host : List ℕ → Result (List ℕ) Check → WayIn
at_host carried (Ok frame) = Delivers carried frame
at_host carried (Err check) = Spoils (Adapter check) carried

abbrev pub from_device : List FaultLine → Route → Result (List ℕ) Why → WayIn
from_device faults r (Ok carried) = at_host carried (from_wire faults r carried)
from_device faults r (Err why) = Stops why

-- as it comes into the pages, its tag not yet mapped back
abbrev pub comes_in : List FaultLine → Device → Route → List ℕ → WayIn
comes_in faults device r stored = from_device faults r (device.sends r stored)

-- whose finding it is: that of the block layer or of the application, whose tuple it was
abbrev pub owner_says : Owner → Check → Why
owner_says OfBlock check = Block check
owner_says OfApp check = App check

abbrev pub delivered_unless : Owner → List ℕ → List ℕ → Option Check → WayIn
delivered_unless owner carried frame None = Delivers carried frame
delivered_unless owner carried frame (Some check) = Spoils (owner_says owner check) carried

-- mapped back and verified by its owner
abbrev pub verified : Route → Owner → WayIn → WayIn
verified r owner (Stops why) = Stops why
verified r owner (Spoils why carried) = Spoils why carried
verified r owner (Delivers carried frame) = delivered_unless owner carried (mapped_back r frame) (owner_finds r (mapped_back r frame))

-- the way in: from the device, through the adapter, to the owner
abbrev pub way_in : List FaultLine → Device → Route → Owner → List ℕ → WayIn
way_in faults device r owner stored = verified r owner (comes_in faults device r stored)

-- what is delivered at its end, or why nothing is
abbrev pub delivered_of : WayIn → Result (List ℕ) Why
delivered_of (Stops why) = Err why
delivered_of (Spoils why carried) = Err why
delivered_of (Delivers carried frame) = Ok frame
