use Rattle.std.proofs.Common.{◌≡◌, take, false}
use Rattle.std.specs.List.{list_any}
use Rattle.volume_table.specs.Entries.{extents}
use Rattle.volume_table.specs.Faults.{do_any_meet}
use Rattle.volume_table.proofs.judge.meet_earlier.Given as goal

abbrev pub invariant-loop-entry : goal.invariant-loop-entry
invariant-loop-entry l = list_any (λ b. do_any_meet l.own (extents b)) (take l.entry-index l.before) ≡ false
