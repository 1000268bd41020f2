use Rattle.script_laws.proofs.Ranges.{all_in_range}
use Rattle.bench_calls.proofs.run.ended.Goals as goal

pub new-requires-clause-ranges : goal.new-requires-clause-ranges
new-requires-clause-ranges c = all_in_range _ c.in-Some.ensures.keeps.entries_are
