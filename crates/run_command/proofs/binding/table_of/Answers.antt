use Rattle.script_laws.proofs.Ranges.{all_in_range}
use Rattle.run_command.proofs.Tables.{all_end}
use Rattle.run_command.proofs.binding.table_of.Goals as goal

pub new-requires-clause-count : goal.new-requires-clause-count
new-requires-clause-count c = c.requires.sound.keeps.entries_count.high_is

pub new-requires-clause-ranges : goal.new-requires-clause-ranges
new-requires-clause-ranges c = all_in_range c.args.script.now.entries c.requires.sound.keeps.entries_are

pub new-requires-clause-ends : goal.new-requires-clause-ends
new-requires-clause-ends c = all_end c.args.devices.now c.requires.ends
