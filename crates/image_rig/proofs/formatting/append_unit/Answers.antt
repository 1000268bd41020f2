use Rattle.image_rig.proofs.Formats.{zeros_room}
use Rattle.image_rig.proofs.formatting.append_unit.Goals as goal

pub append_blocks-requires-clause-zeros : goal.append_blocks-requires-clause-zeros
append_blocks-requires-clause-zeros g c = zeros_room c.args.unit.now c.stored_size-size.result c.requires c.stored_size-size.ensures.value
