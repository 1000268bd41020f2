use Rattle.std.proofs.Common.{◌+◌, ◌∷◌, [], ◌++◌, ap, sym, ◌∙◌, arith}
use Rattle.dix_adapter.proofs.Blocks.{labels-more}
use Rattle.dix_adapter.proofs.outward.add_labels.Goals as goal

pub loop-i-preserved : goal.loop-i-preserved
loop-i-preserved c = record {
  items = c.push_reserved.ensures.items ∙ ap (λ z. z ++ (record { op = c.args.bio.now.op; k = c.args.bio.now.k + c.loop-i.i } ∷ [])) c.loop-i.invariant.items
      ∙ sym (labels-more c.args.bio.now.op c.args.bio.now.k c.args.bio.now.dev c.args.bio.now.lba c.args.bio.now.dir c.loop-i.i c.args.labels.now.items);
  number = omega (arith, c.push_reserved.ensures.len, c.loop-i.invariant.number);
  capacity = c.push_reserved.ensures.capacity ∙ c.loop-i.invariant.capacity;
}
