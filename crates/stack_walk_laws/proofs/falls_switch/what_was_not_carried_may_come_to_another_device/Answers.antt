use Rattle.stack_walk_laws.proofs.Devices.{more_fall}
use Rattle.stack_walk_laws.proofs.falls_switch.what_was_not_carried_may_come_to_another_device.Goals as goal

pub returns : goal.returns
returns c = λ m n ops opening now status one two es same h. more_fall m n ops opening now status one two es same h
