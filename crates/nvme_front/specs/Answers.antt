use Rattle.std.specs.Prelude.{ℕ, ◌≡◌, ◌-◌, List, [], ◌∷◌, ◌++◌, length, map, Option, Some}
use Rattle.cdb_codec.specs.Forms.{form}
use Rattle.fault_schedule.specs.declared.fault.FaultLine.{FaultLine}
use Rattle.rig_api.specs.Frames.{joined}
use Rattle.rig_api.specs.Target.{Answer, Stop, Stored, target_answer}
use Rattle.rig_api.specs.Log.{LogEntry, entry_of}
use Rattle.rig_api.specs.Telling.{Standing, spec_at, with_blocks}
use Rattle.rig_api.specs.declared.rig.Outcome.{Outcome}
use Rattle.volume_table.specs.declared.device.DeviceInfo.{DeviceInfo}
use Rattle.nvme_front.specs.Buffers.{body_after, meta_after, room_for, sent_by}
use Rattle.nvme_front.specs.Completions.{completed}
use Rattle.nvme_front.specs.Translation.{scsi_command}
use Rattle.nvme_front.specs.declared.command.NvmCommand.{NvmCommand}
use Rattle.nvme_front.specs.declared.completion.Completion.{Completion}

-- What a namespace answers to an NVM command: the translation of what its unit answers to the SCSI command.

-- the completion, and the host's buffers and the stored blocks afterwards
pub record NvmAnswer : Type 0 where
  pub completion : Completion
  pub body : List ℕ
  pub meta : List ℕ
  pub blocks : List (List ℕ)

abbrev pub outcome_of : Answer → Outcome
outcome_of a = record { done = a.done; sense = a.sense }

abbrev pub translated : Stored → NvmCommand → (body meta : List ℕ) → Answer → NvmAnswer
translated unit c body meta a = record {
  completion = completed c.count (outcome_of a);
  body = body_after unit.ty c unit.size (completed c.count (outcome_of a)) (joined a.sent) body;
  meta = meta_after unit.ty c unit.size (completed c.count (outcome_of a)) (joined a.sent) meta;
  blocks = a.blocks;
}

-- with these faults armed, these buffers, and a store call that fails or none; the command has no labels, so no armed fault acts on its blocks
abbrev pub nvm_answer : Stored → List FaultLine → NvmCommand → (body meta : List ℕ) → Option Stop → NvmAnswer
nvm_answer unit armed c body meta stop =
    translated unit c body meta (target_answer unit armed (form (scsi_command unit.ty c)) [] (sent_by unit.ty c unit.size body meta) (room_for unit.ty c unit.size) stop)

-- The completion, the buffers and what is told afterwards are those of the answer.
pub record IsNvmAnswer (a : NvmAnswer) (us : List Stored) (dev : ℕ) (result : Completion) (told : Option (List Stored)) (body meta : List ℕ) : Type 0 where
  pub completion : result ≡ a.completion
  pub units : told ≡ Some (with_blocks us dev a.blocks)
  pub body_is : body ≡ a.body
  pub meta_is : meta ≡ a.meta

-- One record more, of the translated command; the completion is that of its outcome, and the buffers of a read that succeeded are the frames that came.
pub record Submitted (d : DeviceInfo) (c : NvmCommand) (s : Standing) (body meta body' meta' : List ℕ) (result : Completion) (old new : List LogEntry) : Type 0 where
  pub outcome : Outcome
  pub came : List ℕ
  pub long : length came ≡ room_for d.ty c d.size
  pub recorded : new ≡ old ++ (entry_of (spec_at s (c.nsid - 1)).size (c.nsid - 1) (form (scsi_command d.ty c)) [] outcome (sent_by d.ty c d.size body meta) came ∷ [])
  pub completion : result ≡ completed c.count outcome
  pub body_is : body' ≡ body_after d.ty c d.size result came body
  pub meta_is : meta' ≡ meta_after d.ty c d.size result came meta

-- a device as its stored blocks tell it
abbrev pub device_of : Stored → DeviceInfo
device_of u = record { ty = u.ty; blocks = length u.blocks; size = u.size; first = u.first }

-- The rig has just these devices; where it tells its blocks they are its units.
pub record HasNamespaces (devices : List DeviceInfo) (s : Standing) (units : Option (List Stored)) : Type 0 where
  pub count : length devices ≡ s.devices
  pub told : (us : List Stored) → units ≡ Some us → devices ≡ map device_of us
