use Rattle.std.proofs.Common.{◌≡◌, sym, ◌∙◌, arith, rules}
use Rattle.rig_api.specs.Requests.{blocks_of}
use Rattle.rig_api.specs.Telling.{greatest_size, spec_at}
use Rattle.rig_api.proofs.RoomLaws.{room_for}
use Rattle.image_rig.specs.Logs.{room_in}
use Rattle.test_rig.specs.Answering.{device_count, device_is, greatest_is, standing_of}
use Rattle.bench_calls.proofs.rig.PlainRigRig.exchange.Goals as goal

pub note-requires-clause-room : goal.note-requires-clause-room
note-requires-clause-room c =
    let g = greatest_is c.args.self.now.devices (device_count c.args.self.now.devices c.args.dev c.args.self.now.open c.requires.device) in
    room_for c.size_of.result (greatest_size (standing_of c.args.self.now.devices)) 1 (blocks_of c.args.cdb.now) (room_in c.args.self.now.log) (omega (arith, g, c.size_of.ensures.bound)) c.requires.room

pub returns : goal.returns
returns c =
    let z : (spec_at (standing_of c.args.self.now.devices) c.args.dev).size ≡ c.size_of.result = (device_is c.args.self.now.devices c.args.dev c.args.self.now.open c.requires.device).0 ∙ sym c.size_of.ensures.value in
    record {
      exchanged = record {
        recorded = rw z c.note.ensures.recorded;
        calm = search rules;
        stopped = search rules;
        medium = search rules;
        key = search rules;
        tells = search rules;
        standing = search rules;
        armed = search rules;
        records = search rules;
        moved = rw z c.note.ensures.moved;
        labelled = search rules;
        count = search rules;
      };
    }
