use Rattle.stack_laws.proofs.Room.{accounted-start, accounted-keeps, exchanges-fall, frames-fall}
use Rattle.stack_laws.proofs.laws.the_rig_needs_room_for_what_is_sent.Goals as goal

pub returns : goal.returns
returns c = record { first = accounted-start; accounted = accounted-keeps; exchanges = exchanges-fall; frames = frames-fall }
