use Rattle.std.proofs.Common.{ℕ, ◌++◌, List, codes, ap, ◌∙◌}
use Rattle.std.specs.Prelude.{decimal}
use Rattle.dump_check.specs.Lines.{count_line}
use Rattle.image_text.proofs.Sights.{seven}
use Rattle.dump_check.proofs.summing.count_line.Goals as goal

pub returns : goal.returns
returns c =
    seven c.new-line.result.items c.add.new.line.items c.add_number.new.line.items c.add-2.new.line.items c.add_number-2.new.line.items c.add-3.new.line.items c.add_number-3.new.line.items c.add-4.new.line.items
    (codes "checked ") (decimal c.args.tally.blocks) (codes " bad ") (decimal c.args.tally.bad) (codes " unchecked ") (decimal c.args.tally.unchecked) (codes "\n")
    c.add.ensures c.add_number.ensures.items c.add-2.ensures c.add_number-2.ensures.items c.add-3.ensures c.add_number-3.ensures.items c.add-4.ensures
    ∙ ap (λ (x : List ℕ). x ++ count_line c.args.tally) c.new-line.ensures
