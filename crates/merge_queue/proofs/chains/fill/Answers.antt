use Rattle.std.proofs.Common.{◌≡◌, ℕ, ◌+◌, ◌-◌, ap, sym, ◌∙◌, arith, slice_index_or}
use Rattle.merge_queue.specs.Chains.{after}
use Rattle.merge_queue.proofs.Linking.{after-more, fill-more}
use Rattle.merge_queue.proofs.chains.fill.Goals as goal

pub loop-b-preserved : goal.loop-b-preserved
loop-b-preserved c =
    let i = c.loop-b.b-index in
    let e : i + 1 - 1 ≡ i = omega arith in
    record {
      place = ap (λ (p : ℕ). slice_index_or c.args.next.now p 0) c.loop-b.invariant.place ∙ sym (after-more c.args.next.now c.args.first i 1);
      last = c.loop-b.invariant.place ∙ ap (after c.args.next.now c.args.first) (sym e);
      bios = fill-more c.args.next.now c.args.first i c.loop-b.place c.args.run.now c.args.bios.now c.loop-b.bios c.loop-b-test.true c.loop-b.invariant.place c.loop-b.invariant.bios;
    }
