use Rattle.std.proofs.Common.{◌≡◌, ◌-◌, ◌++◌, length}
use Rattle.mirror_volume.specs.Inner.{pages_for, puts}
use Rattle.mirror_volume.proofs.own.puts.Given as goal

abbrev pub invariant-loop-page : goal.invariant-loop-page
invariant-loop-page l = l.ops.items ++ puts l.page (l.page-end - l.page) l.rest ≡ l.initial.ops.items ++ puts 0 (pages_for (length l.bytes)) l.bytes
