use Rattle.std.specs.Prelude.{ℕ}
use Rattle.call_verdict.specs.declared.status.Status.{Status}
use Rattle.call_verdict.specs.declared.status.Status.TheVariants.{Whole, SomeBad, Words, Input, Image, RigFault, Memory, ReadFault, WriteFault}

-- the exit status
abbrev pub number_of : Status → ℕ
number_of Whole = 0
number_of SomeBad = 1
number_of Words = 2
number_of Input = 3
number_of Image = 4
number_of RigFault = 5
number_of Memory = 6
number_of ReadFault = 7
number_of WriteFault = 8
