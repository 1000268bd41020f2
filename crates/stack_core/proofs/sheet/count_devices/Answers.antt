use Rattle.std.proofs.Common.{◌≡◌, max, arith}
use Rattle.stack_walk_laws.proofs.Laid.{ios-more, own-blocks}
use Rattle.stack_core.proofs.sheet.count_devices.Goals as goal

pub loop-io-preserved : goal.loop-io-preserved
loop-io-preserved c =
    let e : c.max-most.result ≡ max c.devices_of.result c.loop-io.most = c.max-most.ensures in
    let f = c.devices_of.ensures.few in
    let w = c.loop-io.invariant.few in
    record {
      all = ios-more c.args.table.now.entries c.args.ios.now c.loop-io.io-index c.io-item.result c.loop-io.most c.devices_of.result c.max-most.result c.io-item.is c.loop-io-test.true c.devices_of.ensures.all e c.loop-io.invariant.all;
      few = omega arith;
      least = λ n h. (let a = c.devices_of.ensures.least n h in let b = c.loop-io.invariant.least n h in omega arith);
      tight = λ n h. (let a = c.devices_of.ensures.tight n (own-blocks c.args.table.now.entries c.args.ios.now c.loop-io.io-index c.io-item.result n c.io-item.is c.loop-io-test.true h) in let b = c.loop-io.invariant.tight n h in omega arith);
    }
