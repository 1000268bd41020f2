use Rattle.std.specs.Prelude.{ℕ, ◌≡◌, ◌⊎◌, false, eqb, if◌then◌else◌, List, length, replicate, [], Option, Some, None, is_some}
use Rattle.rig_api.specs.Target.{Stored}
use Rattle.rig_api.specs.Log.{LogEntry}
use Rattle.rig_api.specs.State.{RigState}
use Rattle.rig_api.specs.Telling.{Standing}
use Rattle.volume_table.specs.declared.device.DeviceInfo.{DeviceInfo}
use Rattle.rig_discovery.specs.Discovery.{HasFault, HasFound}
use Rattle.nvme_front.specs.Refusals.{body_len, device_at, meta_len, refusal}
use Rattle.nvme_front.specs.Results.{IsAnswered}
use Rattle.nvme_front.specs.declared.command.NvmCommand.{NvmCommand}
use Rattle.nvme_front.specs.declared.completion.Completion.{Completion}
use Rattle.nvme_command.specs.declared.session_doing.NvmReply.{NvmReply}
use Rattle.call_refusal.specs.declared.refusal.Refusal.{Refusal}
use Rattle.call_refusal.specs.declared.refusal.Refusal.TheVariants as stop

-- Why there is no front of a rig's devices: a device's answer is at fault, and then the blocks aren't told; or there is no memory, before the first device was asked or behind the last.
abbrev pub CauseNoFront : Refusal → Standing → Option (List Stored) → (old new : List LogEntry) → (image image' : Option (List ℕ)) → Type 0
CauseNoFront (stop.BadCapacity dev) s units old new image image' = HasFault s dev old new × (is_some units ≡ false)
CauseNoFront stop.Memory s units old new image image' = ((new ≡ old) × (image' ≡ image)) ⊎ ((devices : List DeviceInfo) × HasFound s devices old new)
CauseNoFront _ s units old new image image' = ⊥

-- the metadata that a command gets: those that are given, where they are as many as it takes, else zeros
abbrev pub given : (n : ℕ) → List ℕ → List ℕ
given n meta = if eqb (length meta) n then meta else replicate n 0

-- the data that it gets: as many bytes as it takes, each this one
abbrev pub filled : List DeviceInfo → NvmCommand → (fill : ℕ) → List ℕ
filled devices c fill = replicate (body_len (device_at devices c.nsid) c) fill

-- A command that is refused with this completion sends nothing, and no buffers come back.
pub record IsRefused (x : Completion) (old new : RigState) (r : NvmReply) : Type 0 where
  pub completion : r.completion ≡ x
  pub log : new.log ≡ old.log
  pub units : new.units ≡ old.units
  pub body : r.body.items ≡ []
  pub meta : r.meta.items ≡ []

-- A command over the front of these devices, with data of this byte and the metadata that is given, was refused or done.
pub record HasReplied (devices : List DeviceInfo) (c : NvmCommand) (fill : ℕ) (meta : List ℕ) (old new : RigState) (r : NvmReply) : Type 0 where
  pub refused : (x : Completion) → refusal devices c ≡ Some x → IsRefused x old new r
  pub answered : refusal devices c ≡ None → IsAnswered devices c (filled devices c fill) (given (meta_len (device_at devices c.nsid).ty c) meta) r.body.items r.meta.items r.completion old new
