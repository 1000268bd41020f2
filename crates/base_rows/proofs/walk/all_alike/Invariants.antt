-- Both hold as many bytes as at first.
use Rattle.std.proofs.Common.{◌≡◌, length}
use Rattle.base_rows.proofs.walk.all_alike.Given as goal

abbrev pub invariant-loop : goal.invariant-loop
invariant-loop l = (l.file.len ≡ 700000) × (length l.plain.bytes ≡ 700000)
