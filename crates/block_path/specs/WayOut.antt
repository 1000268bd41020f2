use Rattle.std.specs.Prelude.{ℕ, if◌then◌else◌, List, ◌++◌, drop, Option, Some, None, Result, Ok, Err}
use Rattle.pi_tuple.specs.declared.checks.Check.{Check}
use Rattle.fault_schedule.specs.Altered.{altered}
use Rattle.fault_schedule.specs.declared.fault.Crossing.TheVariants.{HostToAdapter}
use Rattle.fault_schedule.specs.declared.fault.FaultLine.{FaultLine}
use Rattle.ref_remap.specs.Remapped.{remapped_bytes}
use Rattle.bio_core.specs.declared.request.Dir.TheVariants.{Write}
use Rattle.bio_core.specs.declared.fate.Why.{Why}
use Rattle.bio_core.specs.declared.fate.Why.TheVariants.{Adapter}
use Rattle.rig_api.specs.Frames.{data_of}
use Rattle.rig_api.specs.Passing.{unless}
use Rattle.block_path.specs.declared.route.Route.{Route}
use Rattle.block_path.specs.Operations.{handed_on, operation_of}
use Rattle.block_path.specs.Routes.{Device, host_finding, host_type}

-- The way out of one block of a write.

-- A reference tag that is the virtual block's becomes that of the address, in host types 1 and 2.
abbrev pub mapped_out : Route → List ℕ → List ℕ
mapped_out r frame = if r.mode.dix then data_of r.size frame ++ remapped_bytes (host_type r.ty) r.virt r.lba (drop r.size frame) else frame

-- what the adapter finds in the frame from the host
abbrev pub adapter_finds_out : Route → List ℕ → Option Check
adapter_finds_out r frame = if r.mode.dix then host_finding r r.lba frame else None

-- what it sends: it passes the tuple, strips it, inserts one, or sends the data
abbrev pub sent : Route → List ℕ → List ℕ
sent r frame = handed_on (operation_of r Write) r frame

-- of a frame that came from the host
abbrev pub checked_out : Route → List ℕ → Result (List ℕ) Check
checked_out r frame = unless (adapter_finds_out r frame) (sent r frame)

-- from the host onto the wire: altered, checked, sent
unfoldable pub to_wire : List FaultLine → Route → List ℕ → Result (List ℕ) Check
to_wire faults r frame = checked_out r (altered faults HostToAdapter r.label frame)

-- It fails at the adapter and isn't sent, or it is refused behind it, or it is accepted: what was carried on the wire, and what is stored.
pub data WayOut : Type 0 where
  Fails : Why → WayOut
  Refuses : Why → WayOut
  Stores : (carried stored : List ℕ) → WayOut

abbrev pub at_device : List ℕ → Result (List ℕ) Why → WayOut
at_device carried (Ok stored) = Stores carried stored
at_device carried (Err why) = Refuses why

abbrev pub from_adapter : Device → Route → Result (List ℕ) Check → WayOut
from_adapter device r (Ok carried) = at_device carried (device.stores r carried)
from_adapter device r (Err check) = Fails (Adapter check)

-- of a frame whose tag is mapped out
abbrev pub goes_out : List FaultLine → Device → Route → List ℕ → WayOut
goes_out faults device r frame = from_adapter device r (to_wire faults r frame)

-- the way out: mapped out, through the adapter, to the device
abbrev pub way_out : List FaultLine → Device → Route → List ℕ → WayOut
way_out faults device r frame = goes_out faults device r (mapped_out r frame)

-- what is stored at its end, or why nothing is
abbrev pub stored_of : WayOut → Result (List ℕ) Why
stored_of (Fails why) = Err why
stored_of (Refuses why) = Err why
stored_of (Stores carried stored) = Ok stored

-- a frame, unless there is a reason why not
abbrev pub ended : Option Why → List ℕ → Result (List ℕ) Why
ended None frame = Ok frame
ended (Some why) frame = Err why
