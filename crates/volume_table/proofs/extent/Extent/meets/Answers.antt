use Rattle.std.proofs.Common.{rules}
use Rattle.volume_table.proofs.Meetings.{shared}
use Rattle.volume_table.proofs.extent.Extent.meets.Goals as goal

pub returns-then-begins_in_time-clause-shared : goal.returns-then-begins_in_time-clause-shared
returns-then-begins_in_time-clause-shared c la lb = shared c.args.self.now c.args.other.now _ (search rules) la lb
