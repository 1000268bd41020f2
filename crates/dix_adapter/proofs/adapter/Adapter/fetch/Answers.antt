use Rattle.std.proofs.Common.{◌≡◌, [], ap, sym, ◌∙◌, length, take, ◌++◌, arith}
use Rattle.std.proofs.lemmas.List.{take_at}
use Rattle.cdb_codec.specs.declared.choice.Dir2.TheVariants.{In}
use Rattle.cdb_codec.specs.Forms.{form}
use Rattle.rig_api.specs.Log.{capacity_len}
use Rattle.rig_api.specs.Telling.{greatest_size}
use Rattle.rig_api.specs.State.{Exchanged}
use Rattle.dix_adapter.specs.Carried.{command_for}
use Rattle.dix_adapter.specs.Groups.{first_of}
use Rattle.dix_adapter.proofs.Commands.{command-capacity, command-room}
use Rattle.dix_adapter.proofs.Judged.{exchanged-into}
use Rattle.dix_adapter.proofs.adapter.Adapter.fetch.Goals as goal

pub exchange-requires-clause-room : goal.exchange-requires-clause-room
exchange-requires-clause-room g c =
    command-room c.args.self.now In (first_of c.args.req.now).lba c.args.count (greatest_size (g.R.Rig.state c.args.rig.now).standing) c.encode.result.items c.deref.result.now (g.R.Rig.state c.args.rig.now).room
    (rw c.command-cdb.ensures.command at c.command-cdb.ensures.fits) (c.encode.ensures ∙ ap form c.command-cdb.ensures.command) c.deref.ensures.0 c.requires.spare

pub exchange-requires-clause-capacity : goal.exchange-requires-clause-capacity
exchange-requires-clause-capacity g c =
    let d : c.deref.result.now ≡ form (command_for c.args.self.now In (first_of c.args.req.now).lba c.args.count) = c.deref.ensures.0 ∙ c.encode.ensures ∙ ap form c.command-cdb.ensures.command in
    let z : capacity_len c.deref.result.now (length c.split_at_mut-into.result.0.now) ≡ 0 = ap (λ z. capacity_len z (length c.split_at_mut-into.result.0.now)) d ∙ command-capacity c.args.self.now In (first_of c.args.req.now).lba c.args.count (length c.split_at_mut-into.result.0.now) (rw c.command-cdb.ensures.command at c.command-cdb.ensures.fits) in
    omega (arith, z)

pub returns-clause-fits : goal.returns-clause-fits
returns-clause-fits g c = rw c.command-cdb.ensures.command at c.command-cdb.ensures.fits

pub returns-clause-exchanged : goal.returns-clause-exchanged
returns-clause-exchanged g c =
    let d : c.deref.result.now ≡ form (command_for c.args.self.now In (first_of c.args.req.now).lba c.args.count) = c.deref.ensures.0 ∙ c.encode.ensures ∙ ap form c.command-cdb.ensures.command in
    let x : Exchanged (g.R.Rig.state c.args.rig.now) (g.R.Rig.state c.exchange.new.self)
    (first_of c.args.req.now).dev c.deref.result.now c.args.labels.now [] c.split_at_mut-into.result.0.now c.exchange.new.into c.exchange.result = c.exchange.ensures.exchanged in
    let b : c.split_at_mut-into.result.0.now ≡ take c.args.len c.args.frames.now = c.split_at_mut-into.ensures.front in
    let n : c.exchange.new.into ≡ take c.args.len (c.exchange.new.into ++ c.split_at_mut-into.result.1.now) = sym (take_at c.exchange.new.into c.split_at_mut-into.result.1.now c.args.len (omega (arith, c.exchange.auto.into, c.split_at_mut-into.ensures.front_len))) in
    exchanged-into _ _ _ _ _ _ _ _ _ _ _ _ d b n x
