use Rattle.std.proofs.Common.{sym}
use Rattle.test_rig.specs.Answering.{device_is}
use Rattle.bench_calls.proofs.rig.PlainRigRig.first.Goals as goal

pub returns : goal.returns
returns c = sym (device_is c.args.self.now.devices c.args._dev c.args.self.now.open c.requires).1
