use Rattle.std.proofs.Common.{◌≡◌, ◌+◌, max, ap, arith}
use Rattle.volume_table.specs.Places.{place_in}
use Rattle.stack_walk_laws.proofs.Laid.{devices-more}
use Rattle.stack_core.proofs.sheet.devices_of.Goals as goal

pub loop-k-preserved : goal.loop-k-preserved
loop-k-preserved c =
    let entries = c.args.table.now.entries in
    let first = c.args.io.now.first in
    let k = c.loop-k.k in
    let p = ap (λ q. q.0) c.place.ensures.value in
    let e : c.max-most.result ≡ max ((place_in entries (first + k)).0 + 1) c.loop-k.most = omega (arith, c.max-most.ensures) in
    record {
      within = omega (arith, c.min.ensures);
      all = devices-more entries first k c.min.result c.run_from.result c.loop-k.most c.max-most.result c.run_from.ensures.runs (omega (arith, c.min.ensures)) e c.loop-k.invariant.all;
      few = let f = c.requires.few (first + k) (omega arith) in omega arith;
      least = λ n h. (let f = h (first + k) (omega arith) in let m = c.loop-k.invariant.least n h in omega arith);
      tight = λ n h. (let f = h k c.loop-k-test.true in let m = c.loop-k.invariant.tight n h in omega arith);
    }
