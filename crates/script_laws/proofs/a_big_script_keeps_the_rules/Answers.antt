use Rattle.std.proofs.Common.{subst, sym}
use Rattle.script_laws.proofs.BigKeeps.{big_keeps}
use Rattle.script_laws.proofs.Keeping.{KeepsAll}
use Rattle.script_laws.proofs.a_big_script_keeps_the_rules.Goals as goal

pub returns : goal.returns
returns c = let r = subst KeepsAll (sym c.requires.made) (big_keeps c.args.n c.args.seed c.requires.few) in record { keeps = r.keeps; numbers = r.lined }
