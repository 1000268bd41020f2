use Rattle.std.proofs.Common.{sym, ◌∙◌}
use Rattle.test_rig.specs.Answering.{device_is}
use Rattle.test_rig.proofs.rig.AnswerRigRig.size.Goals as goal

pub returns : goal.returns
returns c = c.size_of.ensures.value ∙ sym (device_is c.args.self.now.devices c.args.dev c.args.self.now.open c.requires).0
