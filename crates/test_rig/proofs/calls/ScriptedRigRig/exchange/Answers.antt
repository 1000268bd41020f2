use Rattle.std.proofs.Common.{arith, rules}
use Rattle.test_rig.proofs.Sizes.{sizes}
use Rattle.test_rig.proofs.calls.ScriptedRigRig.exchange.Goals as goal
use Rattle.rig_api.proofs.RoomLaws.{room_for}

pub note-requires-clause-size : goal.note-requires-clause-size
note-requires-clause-size g c =
    let z = sizes (g.R.Rig.state c.args.self.now.inner).standing _ c.args.dev (g.met.R.Rig.ready c.args.self.now.inner) c.requires.device in
    omega (arith, c.size-size.ensures, z.0)

pub note-requires-clause-room : goal.note-requires-clause-room
note-requires-clause-room g c =
    let z = sizes (g.R.Rig.state c.args.self.now.inner).standing _ c.args.dev (g.met.R.Rig.ready c.args.self.now.inner) c.requires.device in
    room_for _ _ _ _ _ (omega (arith, c.size-size.ensures, z.1)) c.requires.room

pub returns : goal.returns
returns g c = record {
  exchanged = record {
    recorded = rw c.size-size.ensures at c.note.ensures.recorded;
    calm = search rules;
    stopped = search rules;
    medium = search rules;
    key = search rules;
    tells = search rules;
    standing = search rules;
    armed = search rules;
    records = search rules;
    moved = rw c.size-size.ensures at c.note.ensures.moved;
    labelled = search rules;
    count = search rules;
  };
}
