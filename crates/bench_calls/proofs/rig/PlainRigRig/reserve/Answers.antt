use Rattle.rig_api.specs.Telling.{greatest_size}
use Rattle.rig_api.proofs.RoomLaws.{room_for}
use Rattle.image_rig.specs.Logs.{room_in}
use Rattle.test_rig.specs.Answering.{greatest_most, standing_of}
use Rattle.bench_calls.proofs.rig.PlainRigRig.reserve.Goals as goal

pub returns-clause-room : goal.returns-clause-room
returns-clause-room c =
    room_for (greatest_size (standing_of c.args.self.now.devices)) 4096 c.args.exchanges c.args.blocks (room_in c.reserve.new.self) (greatest_most c.args.self.now.devices c.args.self.now.open) c.in_ok-reserve.ensures.room
