use Rattle.script_laws.proofs.Keeping.{read_keeps}
use Rattle.script_laws.proofs.a_read_script_keeps_the_rules.Goals as goal

pub returns : goal.returns
returns c = let r = read_keeps c.args.text.now c.args.script.now c.requires in record { keeps = r.keeps; numbers = r.lined }
