use Rattle.std.proofs.Common.{ℕ, ◌++◌, List, codes, ap, ◌∙◌}
use Rattle.std.specs.Prelude.{decimal}
use Rattle.image_text.specs.ShowText.{last_line}
use Rattle.image_text.proofs.Sights.{by_number, seven}
use Rattle.image_text.proofs.show.last_line.Goals as goal

pub returns : goal.returns
returns c =
    seven c.new-line.result.items c.add.new.line.items c.add_number.new.line.items c.add-2.new.line.items c.add_number-2.new.line.items c.add-3.new.line.items c.add_number-3.new.line.items c.add-4.new.line.items
    (codes "shown ") (decimal c.args.count) (codes " bad ") (decimal c.args.tally.bad) (codes " unchecked ") (decimal c.args.tally.unchecked) (codes "\n")
    c.add.ensures (by_number c.add.new.line.items _ _ _ c.from.ensures c.add_number.ensures.items) c.add-2.ensures (by_number c.add-2.new.line.items _ _ _ c.from-2.ensures c.add_number-2.ensures.items)
    c.add-3.ensures (by_number c.add-3.new.line.items _ _ _ c.from-3.ensures c.add_number-3.ensures.items) c.add-4.ensures
    ∙ ap (λ (x : List ℕ). x ++ last_line c.args.count c.args.tally) c.new-line.ensures
