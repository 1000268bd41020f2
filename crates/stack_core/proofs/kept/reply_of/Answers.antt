use Rattle.std.proofs.Common.{[], ◌∷◌, length, get_or, ap, arith, length-append}
use Rattle.bio_core.specs.declared.fate.Fate.TheVariants.{Good}
use Rattle.stack_core.specs.Replies.{bad_from}
use Rattle.stack_core.proofs.Bads.{bad-more, bad-one}
use Rattle.stack_core.proofs.kept.reply_of.Goals as goal

pub loop-k-preserved : goal.loop-k-preserved
loop-k-preserved c =
    let fates = c.args.fates.now in
    let k = c.loop-k.k in
    let e = bad-more fates k Good c.loop-k-test.true in
    let h = c.note_bad.ensures.items in
    let b = c.loop-k.invariant.bad in
    record {
      bad = cc;
      few = omega (arith, bad-one k (get_or fates k Good), ap length h, length-append c.loop-k.bad.items (bad_from k (get_or fates k Good ∷ [])));
      room = omega arith;
    }
