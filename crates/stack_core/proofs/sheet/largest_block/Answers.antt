use Rattle.std.proofs.Common.{◌≡◌, ◌<◌, ◌≤◌, ap, subst, ◌∙◌, max, ⊎_elim, arith}
use Rattle.std.proofs.lemmas.Bool.{cases_lt}
use Rattle.std.proofs.lemmas.List.{get_or_read}
use Rattle.bio_core.specs.declared.request.Io.{Io}
use Rattle.bio_core.specs.Bios.{block_size}
use Rattle.stack_walk_laws.specs.Sheets.{io_at, no_io}
use Rattle.stack_core.proofs.sheet.largest_block.Goals as goal

pub loop-io-preserved : goal.loop-io-preserved
loop-io-preserved c =
    let e : c.max-most.result ≡ max c.block_bytes.result c.loop-io.most = c.max-most.ensures in
    let f = c.block_bytes.ensures.few in
    let w = c.loop-io.invariant.few in
    let q : c.io-item.result ≡ io_at c.args.ios.now c.loop-io.io-index = get_or_read c.args.ios.now c.loop-io.io-index c.io-item.result c.loop-io-test.true c.io-item.is no_io in
    record {
      all = λ i l z. ⊎_elim
          (λ (s : i < c.loop-io.io-index). let x = c.loop-io.invariant.all i s z in omega arith)
          (λ (s : c.loop-io.io-index ≤ i).
          let g : c.loop-io.io-index ≡ i = omega arith in
          let r : c.io-item.result ≡ io_at c.args.ios.now i = q ∙ ap (io_at c.args.ios.now) g in
          let y = subst (λ (io : Io). 0 < io.count → block_size io ≤ c.block_bytes.result) r c.block_bytes.ensures.all z in
          omega arith)
          (cases_lt i c.loop-io.io-index);
      few = omega arith;
    }
