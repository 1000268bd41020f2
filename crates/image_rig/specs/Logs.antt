use Rattle.std.specs.Prelude.{List}
use Rattle.rig_api.specs.Log.{LogEntry, Room}
use Rattle.image_rig.specs.Entries.{entries, spare}
use Rattle.image_rig.specs.declared.log.Log.{Log}

-- what a log holds
abbrev pub logged : Log → List LogEntry
logged l = entries l.labels.items l.moved.items l.kept.items

-- the further records, labels and moved bytes for which it has room
abbrev pub room_in : Log → Room
room_in l = record { records = l.free; labels = spare l.labels; moved = spare l.moved }
