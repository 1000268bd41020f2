-- What the faults of its parts come to in a sweep.
use Rattle.flip_sweep.specs.declared.sweep.Halt.{Halt}
use Rattle.flip_sweep.specs.declared.sweep.Halt.TheVariants as halt

-- want of memory
abbrev pub of_memory : Halt
of_memory = halt.Memory

-- a sink that failed
abbrev pub of_sink : Halt
of_sink = halt.Sink
