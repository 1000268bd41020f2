use Rattle.std.proofs.Common.{◌≡◌, ◌+◌, length, drop}
use Rattle.pi_blocks.specs.Parts.{all_of}
use Rattle.pi_blocks.proofs.spread.total.Given as goal

abbrev pub invariant-loop-part : goal.invariant-loop-part
invariant-loop-part g l = l.total + length (all_of g.P.Readable.read (drop l.part-index l.parts)) ≡ length (all_of g.P.Readable.read l.parts)
