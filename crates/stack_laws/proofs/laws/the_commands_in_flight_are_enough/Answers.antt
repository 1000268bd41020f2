use Rattle.stack_laws.proofs.Open.{completes-length, completes-at, sent-last}
use Rattle.stack_laws.proofs.laws.the_commands_in_flight_are_enough.Goals as goal

pub returns : goal.returns
returns c = record { count = completes-length; one = completes-at; last = sent-last }
