use Rattle.script_laws.proofs.RoundTrip.{reads_back}
use Rattle.script_laws.proofs.a_printed_script_is_read.Goals as goal

pub returns : goal.returns
returns c = reads_back c.args.script.now c.requires.keeps c.requires.limits
