use Rattle.std.proofs.Common.{refl, None, arith}
use Rattle.test_rig.proofs.Rooms.{has-room}
use Rattle.test_rig.proofs.rig.AnswerRig.forget.Goals as goal

pub returns-clause-room : goal.returns-clause-room
returns-clause-room c =
    has-room c.args.self.now.devices 1 c.args._blocks None c.clear.new.self c.clear-2.new.self c.args.self.now.open refl (omega arith) c.requires
    (omega (arith, c.args.self.now.room_labels, c.clear.ensures.capacity, c.clear.ensures.len))
    (omega (arith, c.args.self.now.room_moved, c.clear-2.ensures.capacity, c.clear-2.ensures.len))
