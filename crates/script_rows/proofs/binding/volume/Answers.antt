use Rattle.script_laws.proofs.Ranges.{all_in_range}
use Rattle.script_rows.proofs.binding.volume.Goals as goal

pub new-requires-clause-count : goal.new-requires-clause-count
new-requires-clause-count c = c.requires.entries_count.high_is

pub new-requires-clause-ranges : goal.new-requires-clause-ranges
new-requires-clause-ranges c = all_in_range c.args.script.now.entries c.requires.entries_are
