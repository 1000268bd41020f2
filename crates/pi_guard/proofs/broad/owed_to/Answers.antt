use Rattle.std.proofs.Common.{ap}
use Rattle.std.specs.Prelude.{bit_xor}
use lib.Lanes.{zip2}
use Rattle.pi_guard.proofs.broad.owed_to.Goals as goal

pub returns : goal.returns
returns c = ap (λ v. zip2 bit_xor v (zip2 bit_xor c.args.b c.args.far)) c.half_on.ensures
