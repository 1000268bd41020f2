use Rattle.std.proofs.Common.{◌∙◌, length, refl, arith}
use Rattle.image_text.proofs.Filling.{few_on, long_on, took_on}
use Rattle.image_text.proofs.pieces.fill.Goals as goal

pub loop-got-preserved : goal.loop-got-preserved
loop-got-preserved g c =
    let inv = c.loop-got.invariant in
    record {
      few = few_on c.loop-got.got c.in-Ok.n (length c.args.into.now) c.loop-got.into inv.few inv.long c.in-Ok.ensures.bound;
      long = long_on c.loop-got.got c.loop-got.into c.take.new.buf (omega (arith, inv.few, inv.long)) c.take.auto.buf ∙ inv.long;
      whole = refl;
      taken = took_on c.loop-got.got c.in-Ok.n c.loop-got.into c.take.new.buf _ _ _ (omega (arith, inv.few, inv.long)) c.in-Ok.ensures.bound c.take.auto.buf inv.taken c.in-Ok.ensures.taken;
      calm = c.in-Ok.ensures.calm ∙ inv.calm;
      count = omega (arith, inv.count, c.take.ensures.count);
    }
