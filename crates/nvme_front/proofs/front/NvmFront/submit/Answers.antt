use Rattle.std.proofs.Common.{◌≡◌, ◌≤◌, None, arith, subst, sym}
use Rattle.nvme_front.specs.Commands.{command_in}
use Rattle.nvme_front.specs.Refusals.{refusal}
use Rattle.nvme_front.specs.declared.command.NvmCommand.{NvmCommand}
use Rattle.nvme_front.proofs.Answering.{Granted, granted, namespace-in, some-blocks}
use Rattle.nvme_front.proofs.Doing.{Clauses, all-clauses}
use Rattle.nvme_front.proofs.front.NvmFront.submit.Goals as goal
use Rattle.rig_api.specs.State.{RigState}
use Rattle.rig_api.proofs.State.{stays-exchanged}

pub run-requires-clause-there : goal.run-requires-clause-there
run-requires-clause-there g c =
    let k = namespace-in c.args.self.now c.of-command.result.nsid (granted c.args.self.now c.of-command.result (subst (λ (x : NvmCommand). refusal c.args.self.now x ≡ None) (sym c.of-command.ensures) c.requires.granted)).there in
    let a = k.0 in let b = k.1 in let e = c.requires.devices.count in omega arith

pub run-requires-clause-span : goal.run-requires-clause-span
run-requires-clause-span g c =
    let gr = granted c.args.self.now c.of-command.result (subst (λ (x : NvmCommand). refusal c.args.self.now x ≡ None) (sym c.of-command.ensures) c.requires.granted) in
    record { some = subst (λ (x : NvmCommand). 1 ≤ x.count) (sym c.of-command.ensures) (some-blocks c.args.sqe.now); few = gr.few; end = gr.end }

pub overflow_sub-command : goal.overflow_sub-command
overflow_sub-command g c = (namespace-in c.args.self.now c.of-command.result.nsid (granted c.args.self.now c.of-command.result (subst (λ (x : NvmCommand). refusal c.args.self.now x ≡ None) (sym c.of-command.ensures) c.requires.granted)).there).0

pub returns : goal.returns
returns g c =
    let gr : Granted c.args.self.now c.of-command.result = granted c.args.self.now c.of-command.result (subst (λ (x : NvmCommand). refusal c.args.self.now x ≡ None) (sym c.of-command.ensures) c.requires.granted) in
    let some : 1 ≤ c.of-command.result.count = subst (λ (x : NvmCommand). 1 ≤ x.count) (sym c.of-command.ensures) (some-blocks c.args.sqe.now) in
    let old : RigState = g.R.Rig.state c.args.rig.now in
    let new : RigState = g.R.Rig.state c.run.new.rig in
    let all : Clauses c.args.self.now (command_in c.args.sqe.now) c.args.body.now c.args.meta.now c.run.new.body c.run.new.meta c.run.result old new =
    subst (λ (x : NvmCommand). Clauses c.args.self.now x c.args.body.now c.args.meta.now c.run.new.body c.run.new.meta c.run.result old new) c.of-command.ensures
    (all-clauses c.args.self.now c.device-device.result c.of-command.result c.args.body.now c.args.meta.now c.run.new.body c.run.new.meta c.run.result old new (g.R.Rig.state c.args.rig.now).image
    c.run.ensures.done c.device-device.ensures.value gr.there some c.requires.devices (g.met.R.Rig.laid c.args.rig.now) (g.met.R.Rig.ready c.args.rig.now)) in
    record {
      answered = all.answered;
      calm = all.calm;
      stays = stays-exchanged c.run.ensures.done.exchanged;
      front = c.self.view_is;
    }
