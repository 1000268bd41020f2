use Rattle.test_rig.proofs.Sizes.{greatest_few, room_for_all}
use Rattle.test_rig.proofs.calls.ScriptedRigRig.reserve.Goals as goal

pub returns-clause-room : goal.returns-clause-room
returns-clause-room g c = room_for_all _ 4096 _ _ _ c.reserve.result (greatest_few (g.R.Rig.state c.args.self.now.inner).standing _ (g.met.R.Rig.ready c.args.self.now.inner)) c.reserve.ensures.room
