use Rattle.std.proofs.Common.{sym, ◌∙◌, arith}
use Rattle.test_rig.proofs.Rooms.{has-room}
use Rattle.test_rig.proofs.rig.AnswerRigRig.reserve.Goals as goal

pub returns-clause-room : goal.returns-clause-room
returns-clause-room c =
    has-room c.args.self.now.devices c.args.exchanges c.args.blocks c.args.self.now.what c.clear.new.self c.clear-2.new.self c.args.self.now.open (sym c.is_some.ensures ∙ c.if-is_some.false)
    (omega (arith, c.if-exchanges-gt1.false)) (omega (arith, c.if-blocks-gt-MOST.false))
    (omega (arith, c.args.self.now.room_labels, c.clear.ensures.capacity, c.clear.ensures.len))
    (omega (arith, c.args.self.now.room_moved, c.clear-2.ensures.capacity, c.clear-2.ensures.len))
