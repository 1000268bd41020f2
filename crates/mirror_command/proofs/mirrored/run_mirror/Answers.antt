use Rattle.std.proofs.Common.{[], inr}
use Rattle.std.proofs.lemmas.Result.{err_from_is_err_and}
use Rattle.mirror_command.proofs.Mirroring.{IsUp, has-devices, midway, mirrored}
use Rattle.mirror_command.proofs.Refusing.{bound_mirror}
use Rattle.mirror_command.proofs.mirrored.run_mirror.Goals as goal

pub new-requires : goal.new-requires
new-requires g c = record { bound = bound_mirror c.args.script c.in_ok-devices.devices.items c.requires c.in_ok-devices.ensures.asked.told.devices_are.few c.in_ok-devices.ensures.free }

pub serve-requires-clause-begun : goal.serve-requires-clause-begun
serve-requires-clause-begun g c = record {
  none = c.in_ok-mirror.ensures.none;
  unused = c.in_ok-mirror.ensures.unused;
  stands = rw (c.in_ok-mirror.ensures.script, c.in_ok-mirror.ensures.devices) c.in_ok-mirror.ensures.told;
}

pub serve-requires-clause-ready : goal.serve-requires-clause-ready
serve-requires-clause-ready g c = record {
  mirror = c.in_ok-mirror.ensures.mirror;
  going = c.in_ok-mirror.ensures.fine;
  rig = rw c.in_ok-mirror.ensures.devices (has-devices c.args.image.now c.in_ok-devices.devices.items _ _ c.in_ok-devices.ensures.asked (g.met.R.Rig.laid c.bind.new.rig));
}

pub returns : goal.returns
returns g c =
    let old = g.R.Rig.state c.args.rig.now in
    let told = g.R.Rig.state c.bind.new.rig in
    let new = g.R.Rig.state c.serve.new.rig in
    let devices = c.in_ok-devices.devices.items in
    let begun = c.in_ok-mirror.mirror in
    let asked = c.in_ok-devices.ensures.asked in
    let up : IsUp c.args.script c.args.image.now devices old told begun = record {
      asked = asked;
      bound = bound_mirror c.args.script devices c.requires asked.told.devices_are.few c.in_ok-devices.ensures.free;
      starts = record { mirror = c.in_ok-mirror.ensures.mirror; script_is = c.in_ok-mirror.ensures.script; devices_are = c.in_ok-mirror.ensures.devices; none = c.in_ok-mirror.ensures.none; unused = c.in_ok-mirror.ensures.unused; marks = (c.in_ok-mirror.ensures.told []).marks; pages = (c.in_ok-mirror.ensures.told []).pages };
      laid = g.met.R.Rig.laid c.bind.new.rig;
      ready = g.met.R.Rig.ready c.bind.new.rig;
      octets = g.met.R.Rig.octets c.bind.new.rig;
    } in
    mirrored c.one_good_leg_is_enough.ensures.repaired c.a_formed_mirror_has_one_good_leg.ensures c.no_fault_is_enough_under_any_protect_field.ensures.repaired c.args.script c.args.image.now devices old told new begun up c.serve.ensures.tells (g.met.R.Rig.laid c.serve.new.rig) (g.met.R.Rig.ready c.serve.new.rig)
    _ (rw (c.in_ok-mirror.ensures.script, c.in_ok-mirror.ensures.devices) at c.in_ok-repair.ensures.done)

pub returns-in_err-repair : goal.returns-in_err-repair
returns-in_err-repair g c =
    let old = g.R.Rig.state c.args.rig.now in
    let told = g.R.Rig.state c.bind.new.rig in
    let new = g.R.Rig.state c.serve.new.rig in
    let devices = c.in_ok-devices.devices.items in
    let begun = c.in_ok-mirror.mirror in
    let asked = c.in_ok-devices.ensures.asked in
    let up : IsUp c.args.script c.args.image.now devices old told begun = record {
      asked = asked;
      bound = bound_mirror c.args.script devices c.requires asked.told.devices_are.few c.in_ok-devices.ensures.free;
      starts = record { mirror = c.in_ok-mirror.ensures.mirror; script_is = c.in_ok-mirror.ensures.script; devices_are = c.in_ok-mirror.ensures.devices; none = c.in_ok-mirror.ensures.none; unused = c.in_ok-mirror.ensures.unused; marks = (c.in_ok-mirror.ensures.told []).marks; pages = (c.in_ok-mirror.ensures.told []).pages };
      laid = g.met.R.Rig.laid c.bind.new.rig;
      ready = g.met.R.Rig.ready c.bind.new.rig;
      octets = g.met.R.Rig.octets c.bind.new.rig;
    } in
    let p = err_from_is_err_and c.from_residual-in_err-repair.result c.from_residual-in_err-repair.ensures.1 in
    rw (p.1, p.2) (inr (midway c.one_good_leg_is_enough.ensures.repaired c.a_formed_mirror_has_one_good_leg.ensures c.no_fault_is_enough_under_any_protect_field.ensures.repaired c.args.script c.args.image.now devices old told new begun up c.serve.ensures.tells (g.met.R.Rig.laid c.serve.new.rig) (g.met.R.Rig.ready c.serve.new.rig)
    (rw (c.in_ok-mirror.ensures.script, c.in_ok-mirror.ensures.devices) at c.in_err-repair.ensures.done)))
