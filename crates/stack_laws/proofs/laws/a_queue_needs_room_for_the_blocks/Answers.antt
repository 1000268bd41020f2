use Rattle.stack_laws.proofs.Capacity.{few-bios, few-unsettled}
use Rattle.stack_laws.proofs.laws.a_queue_needs_room_for_the_blocks.Goals as goal

pub returns : goal.returns
returns c = record { bios = few-bios; blocks = few-unsettled }
