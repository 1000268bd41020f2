use Rattle.std.specs.Prelude.{ℕ, ◌≡◌, ◌*◌, true, List, [], length}
use Rattle.rig_api.specs.State.{Exchanged, RigState}
use Rattle.rig_api.specs.declared.rig.Outcome.{Outcome}
use Rattle.cdb_codec.specs.Forms.{Fits, form}
use Rattle.rig_api.specs.Frames.{stored_size}
use Rattle.volume_table.specs.declared.device.DeviceInfo.{DeviceInfo}
use Rattle.nvme_front.specs.Buffers.{body_after, meta_after, room_for, sent_by}
use Rattle.nvme_front.specs.Commands.{is_write}
use Rattle.nvme_front.specs.Completions.{completed}
use Rattle.nvme_front.specs.Translation.{scsi_command}
use Rattle.nvme_front.specs.declared.command.NvmCommand.{NvmCommand}
use Rattle.nvme_front.specs.declared.completion.Completion.{Completion}

-- One exchange of the translated command, and what was made of it.
pub record ExchangeDone (dev : ℕ) (d : DeviceInfo) (c : NvmCommand) (body meta body' meta' : List ℕ) (result : Completion) (old new : RigState) : Type 0 where
  pub outcome : Outcome
  pub before : List ℕ
  pub came : List ℕ
  pub fits : Fits (scsi_command d.ty c)
  pub out_long : is_write c ≡ true → length (sent_by d.ty c d.size body meta) ≡ c.count * stored_size d.ty d.size
  pub before_long : length before ≡ room_for d.ty c d.size
  pub came_long : length came ≡ room_for d.ty c d.size
  pub result_is : result ≡ completed c.count outcome
  pub body_is : body' ≡ body_after d.ty c d.size result came body
  pub meta_is : meta' ≡ meta_after d.ty c d.size result came meta
  pub exchanged : Exchanged old new dev (form (scsi_command d.ty c)) [] (sent_by d.ty c d.size body meta) before came outcome
