-- A script that is bound to a volume, and its run before the first step.
use Rattle.std.specs.Prelude.{◌≡◌, ℕ, ◌+◌, ◌≤◌, Bool, true, List, length, map, None}
use Rattle.fault_schedule.specs.declared.fault.FaultLine.{FaultLine}
use Rattle.rig_api.specs.Log.{HasRoom, Room}
use Rattle.rig_api.specs.Telling.{Standing, greatest_size, specs_of}
use Rattle.script_run_laws.specs.Passed.{info_of}
use Rattle.volume_table.specs.declared.device.DeviceInfo.{DeviceInfo}
use Rattle.volume_table.specs.Tables.{MadeFor, Table}
use Rattle.stack_laws.specs.Runs.{blocks_of_requests}
use Rattle.script_text.specs.declared.script.Script.{Script}
use Rattle.script_text.specs.Bindings.{binding_fault}
use Rattle.script_run_laws.specs.SuitsStack.{SuitsStack}
use Rattle.stack_core.specs.declared.setup.Setup.{Setup}
use Rattle.stack_core.specs.declared.stack.Stack.{Stack}
use Rattle.stack_core.specs.Mediums.{HasCounted}
use Rattle.stack_core.specs.NewStacks.{IsNewStack, IsSetUp}
use Rattle.stack_core.specs.Stacks.{HasSpare, IsStack, Reaches, plan_in}
use Rattle.script_stack.specs.declared.start.Run.{Run}
use Rattle.script_stack.specs.Followed.{BeginsFalling, BeginsTold, BeginsWalks}
use Rattle.script_stack.specs.Sends.{IsPlanFor}

-- A script that suits a stack is bound without a fault to the volume that was made for it of these devices, of which there are at most eight.
pub record IsBoundTo (s : Script) (t : Table) (devices : List DeviceInfo) : Type 0 where
  pub suits : SuitsStack s
  pub lines : length s.lines ≡ length s.faults + length s.ops
  pub few : length devices ≤ 8
  pub made : MadeFor t devices s.block
  pub bound : binding_fault s t devices ≡ None

-- what the stack of a script is made for
abbrev pub setup_of : Script → Table → Setup
setup_of s t = record { table = t; mode = s.mode; limits = s.limits; pages = s.pages; faults = s.faults }

-- The run of a script, none of whose ops has begun, over a volume of these devices: a new stack for its ops, with the plan of its requests, and its schedule.
-- The stack follows the script's walk from a rig's next record on, and nothing has failed at the medium.
pub record Begins (s : Script) (t : Table) (devices : List DeviceInfo) (r : Run) : Type 0 where
  pub stack : IsStack r.stack
  pub is : IsSetUp (setup_of s t) s.ops r.stack
  pub new : IsNewStack (setup_of s t) s.ops r.stack
  pub plan : IsPlanFor s t (plan_in r.stack.sheet)
  pub schedule : r.schedule ≡ s.schedule
  pub walks : BeginsWalks s t devices r.stack
  pub falling : BeginsFalling s t devices r.stack
  pub told : BeginsTold s t devices r.stack
  pub counted : (faults : List FaultLine) (first : ℕ) → HasCounted faults first r.stack first

-- A rig with as many devices has what the ops name; one that tells its image, where these are its devices.
abbrev pub ReachesTheirs : List DeviceInfo → Stack → Type 0
ReachesTheirs devices s = (told : Bool) (st : Standing) → st.devices ≡ length devices → (told ≡ true → devices ≡ map info_of (specs_of st)) → Reaches s told st

-- Room for as many exchanges and frames as there are blocks is enough.
abbrev pub BlocksAreEnough : Stack → Type 0
BlocksAreEnough s = (st : Standing) (room : Room)
    → HasRoom (greatest_size st) (blocks_of_requests (plan_in s.sheet).requests) (blocks_of_requests (plan_in s.sheet).requests) room → HasSpare s st room
