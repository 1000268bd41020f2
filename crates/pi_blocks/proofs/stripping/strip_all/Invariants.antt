use Rattle.std.proofs.Common.{◌*◌, min}
use Rattle.pi_blocks.specs.Blocks.{Checked, in_line}
use Rattle.pi_blocks.specs.Stripped.{AreStripped}
use Rattle.pi_blocks.proofs.Bitmaps.{Marks}
use Rattle.pi_blocks.proofs.stripping.strip_all.Given as goal

abbrev pub invariant-loop-k : goal.invariant-loop-k
invariant-loop-k l = record {
  told : Checked l.layout l.want (in_line l.layout l.blocks) 0 (min (8 * l.k) l.count) l.found;
  moved : AreStripped l.layout l.want (min (8 * l.k) l.count) l.blocks l.initial.body l.body;
  marked : Marks l.layout l.want l.blocks l.count l.k l.initial.bad l.bad;
}
