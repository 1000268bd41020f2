use Rattle.std.proofs.Common.{refl, None, arith}
use Rattle.test_rig.proofs.Rooms.{has-room}
use Rattle.test_rig.proofs.rig.AnswerRig.new.Goals as goal

pub returns-clause-room : goal.returns-clause-room
returns-clause-room c =
    has-room 8 1 1024 None c.in_ok-with_capacity.field-0 c.in_ok-with_capacity-2.field-0 refl refl (omega arith) (omega arith)
    (omega (arith, c.in_ok-with_capacity.ensures.capacity, c.in_ok-with_capacity.ensures.len))
    (omega (arith, c.in_ok-with_capacity-2.ensures.capacity, c.in_ok-with_capacity-2.ensures.len))
