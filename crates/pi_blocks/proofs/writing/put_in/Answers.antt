use Rattle.std.proofs.Common.{length}
use Rattle.std.proofs.Math.Seq.{map-set_same}
use Rattle.pi_blocks.specs.declared.parts.PartMut.{PartMut}
use Rattle.pi_blocks.proofs.writing.put_in.Goals as goal

pub returns-clause-same : goal.returns-clause-same
returns-clause-same c = record {
  there = map-set_same (λ (p : PartMut). p.bytes.ghost_name) c.args.parts.now c.args.place.part c.put.new.part _ c.put.ensures.there;
  long = map-set_same (λ (p : PartMut). length p.bytes.now) c.args.parts.now c.args.place.part c.put.new.part _ c.put.ensures.long;
}
