use Rattle.std.proofs.Common.{◌≡◌, ◌≤◌, ◌+◌, arith, ap, subst, sym, ◌∙◌, length, take, drop}
use Rattle.cdb_codec.specs.Forms.{Fits, form}
use Rattle.rig_api.specs.Requests.{blocks_of}
use Rattle.rig_api.specs.Log.{HasRoom, capacity_len}
use Rattle.rig_api.specs.Telling.{greatest_size}
use Rattle.nvme_front.specs.Translation.{scsi_command}
use Rattle.std.proofs.lemmas.List.{length-take-le}
use Rattle.nvme_front.specs.Buffers.{body_after, meta_after}
use Rattle.nvme_front.specs.Commands.{is_write}
use Rattle.nvme_front.proofs.Doing.{with-bytes}
use Rattle.nvme_front.proofs.Sending.{part-long, space}
use Rattle.nvme_front.proofs.Requests.{blocks-are, no-capacity}
use Rattle.nvme_front.proofs.front.run.Goals as goal

pub send-outcome-requires-clause-room : goal.send-outcome-requires-clause-room
send-outcome-requires-clause-room g c =
    let cdb : c.deref.result.now ≡ form (scsi_command c.args.device.ty c.args.command.now) = c.deref.ensures.0 ∙ c.encode-cdb.ensures ∙ ap form c.scsi_command.ensures.value in
    let fits : Fits (scsi_command c.args.device.ty c.args.command.now) = rw c.scsi_command.ensures.value at c.scsi_command.ensures.fits in
    subst (λ m. HasRoom (greatest_size (g.R.Rig.state c.args.rig.now).standing) 1 m (g.R.Rig.state c.args.rig.now).room) (sym (ap blocks_of cdb ∙ blocks-are c.args.device.ty c.args.command.now fits)) c.requires.room

pub send-outcome-requires-clause-capacity : goal.send-outcome-requires-clause-capacity
send-outcome-requires-clause-capacity g c =
    let cdb : c.deref.result.now ≡ form (scsi_command c.args.device.ty c.args.command.now) = c.deref.ensures.0 ∙ c.encode-cdb.ensures ∙ ap form c.scsi_command.ensures.value in
    let fits : Fits (scsi_command c.args.device.ty c.args.command.now) = rw c.scsi_command.ensures.value at c.scsi_command.ensures.fits in
    ap (λ x. capacity_len x c.room_for-room.result) cdb ∙ no-capacity c.args.device.ty c.args.command.now c.room_for-room.result fits

pub returns-clause-done : goal.returns-clause-done
returns-clause-done g c =
    let cdb : c.deref.result.now ≡ form (scsi_command c.args.device.ty c.args.command.now) = c.deref.ensures.0 ∙ c.encode-cdb.ensures ∙ ap form c.scsi_command.ensures.value in
    let fits : Fits (scsi_command c.args.device.ty c.args.command.now) = rw c.scsi_command.ensures.value at c.scsi_command.ensures.fits in
    let bytes : c.cut-2.result.0.now ≡ take c.room_for-room.result (drop c.put_out-sent.result c.send-outcome.new.frames) = c.cut-2.ensures.front ∙ ap (take c.room_for-room.result) c.cut.ensures.back in
    let fit : c.put_out-sent.result + c.room_for-room.result ≤ 4202496 = space (is_write c.args.command.now) _ _ 4202496 c.room_for-room.ensures.none c.put_out-sent.ensures.none c.put_out-sent.ensures.bound c.room_for-room.ensures.bound in
    let out : c.put_out-sent.result ≤ length c.put_out-sent.new.frames = omega (arith, c.put_out-sent.ensures.bound, c.put_out-sent.ensures.long, c.requires.frames) in
    record {
      outcome = c.send-outcome.result;
      before = take c.room_for-room.result (drop c.put_out-sent.result c.put_out-sent.new.frames);
      came = take c.room_for-room.result (drop c.put_out-sent.result c.send-outcome.new.frames);
      fits = fits;
      out_long = λ w. sym (ap length c.put_out-sent.ensures.sent) ∙ length-take-le c.put_out-sent.result c.put_out-sent.new.frames out ∙ c.put_out-sent.ensures.end w;
      before_long = part-long c.put_out-sent.result c.room_for-room.result c.put_out-sent.new.frames (omega (arith, fit, c.put_out-sent.ensures.long, c.requires.frames)) ∙ c.room_for-room.ensures.value;
      came_long = part-long c.put_out-sent.result c.room_for-room.result c.send-outcome.new.frames (omega (arith, fit, c.send-outcome.ensures.long, c.put_out-sent.ensures.long, c.requires.frames)) ∙ c.room_for-room.ensures.value;
      result_is = c.completed-done.ensures;
      body_is = c.deliver.ensures.body ∙ ap (λ x. body_after c.args.device.ty c.args.command.now c.args.device.size c.completed-done.result x c.args.body.now) bytes;
      meta_is = c.deliver.ensures.meta ∙ ap (λ x. meta_after c.args.device.ty c.args.command.now c.args.device.size c.completed-done.result x c.args.meta.now) bytes;
      exchanged = with-bytes c.args.dev _ _ _ _ _ _ c.send-outcome.result _ _ cdb c.put_out-sent.ensures.sent c.send-outcome.ensures.exchanged;
    }
