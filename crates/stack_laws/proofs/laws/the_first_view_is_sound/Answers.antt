use Rattle.stack_laws.proofs.Starts.{starts}
use Rattle.stack_laws.proofs.Measure.{counted-start}
use Rattle.stack_laws.proofs.Thrift.{thrifty-start}
use Rattle.stack_laws.proofs.laws.the_first_view_is_sound.Goals as goal

pub returns : goal.returns
returns c = record { sound = starts; counted = counted-start; thrifty = thrifty-start }
