use Rattle.std.proofs.Common.{rules}
use Rattle.sense_codes.proofs.Told.{told_70, told_F0, told_72}
use Rattle.sense_codes.proofs.decode.told.Goals as goal

pub returns-in-112 : goal.returns-in-112
returns-in-112 c = told_70 c.args.bytes.now c.of_fixed.result (search rules) c.of_fixed.ensures

pub returns-in-240 : goal.returns-in-240
returns-in-240 c = told_F0 c.args.bytes.now c.of_fixed-in-240.result (search rules) c.of_fixed-in-240.ensures

pub returns-in-114 : goal.returns-in-114
returns-in-114 c = told_72 c.args.bytes.now c.of_descriptor.result (search rules) c.of_descriptor.ensures
