use Rattle.std.proofs.Common.{ap, refl}
use Rattle.rig_api.specs.State.{RigState}
use Rattle.nvme_front.specs.Commands.{command_in}
use Rattle.nvme_command.proofs.Steps.{refused_reply}
use Rattle.nvme_command.proofs.session.answered.Goals as goal

pub returns-in-Ok-clause-done : goal.returns-in-Ok-clause-done
returns-in-Ok-clause-done g c =
    let meta = c.as_slice.ensures in
    let replied = c.in-Ok.ensures.replied in
    record {
      command_is = refl;
      refused = λ x q. (let r = replied.refused x q in (refused_reply c.in-Ok.reply (command_in c.args.line.now.sqe) x r.completion r.body r.meta, r.log, r.units));
      submitted = λ n. (let s = (replied.answered n).submitted in rw meta at s);
      told = λ n. (let s = (replied.answered n).told in rw (meta, c.requires.calm) at s);
      never = c.in-Ok.ensures.never;
      medium = c.in-Ok.ensures.medium;
      devices_are = rw c.do_command.ensures.front at c.do_command.ensures.devices;
      tells = c.do_command.ensures.stays.tells;
      armed = c.do_command.ensures.stays.armed;
      standing = c.do_command.ensures.stays.standing;
      count = c.do_command.ensures.stays.count;
    }

pub returns-in-Err-clause-done : goal.returns-in-Err-clause-done
returns-in-Err-clause-done g c =
    let e = c.in-Err.ensures.unsent in
    record { units = ap (λ (s : RigState). s.units) e; armed = ap (λ (s : RigState). s.armed) e; log = ap (λ (s : RigState). s.log) e; standing = ap (λ (s : RigState). s.standing) e; count = c.do_command.ensures.stays.count }
