use Rattle.std.proofs.Common.{rules, subst}
use Rattle.std.proofs.lemmas.List.Elements.{All-more}
use Rattle.volume_table.specs.Entries.{IsInRange}
use Rattle.volume_table.proofs.Sums.{all_of}
use Rattle.volume_rows.proofs.tables.are_in_range.Goals as goal

pub loop-entry-preserved : goal.loop-entry-preserved
loop-entry-preserved c =
    All-more IsInRange c.args.entries.now c.loop-entry.entry-index c.entry-item.result c.loop-entry-test.true c.loop-entry.invariant
    (subst IsInRange c.entry-item.is (c.is_in_range.ensures (search rules)))

pub returns : goal.returns
returns c t = all_of IsInRange c.args.entries.now c.loop-entry.entry-index c.loop-entry-test.false c.loop-entry.invariant
