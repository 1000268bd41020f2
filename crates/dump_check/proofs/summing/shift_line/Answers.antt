use Rattle.std.proofs.Common.{ℕ, ◌++◌, ◌+◌, ◌^◌, ◌%◌, List, codes, ap, ◌∙◌}
use Rattle.std.specs.Prelude.{decimal}
use Rattle.dump_check.specs.Forms.{bits_of, first_tag}
use Rattle.dump_check.specs.Lines.{shift_line, way_text}
use Rattle.image_text.proofs.Sights.{by_number, five}
use Rattle.dump_check.proofs.summing.shift_line.Goals as goal

pub returns : goal.returns
returns c =
    let f = c.args.form in
    let tag = (first_tag f + c.args.tally.shift) % 2 ^ bits_of f in
    five c.new-line.result.items c.add.new.line.items c.add_way.new.line.items c.add-2.new.line.items c.add_number.new.line.items c.add-3.new.line.items
    (codes "most reference tags are ") (way_text f c.args.tally.shift) (codes ": is the first one ") (decimal tag) (codes "?\n")
    c.add.ensures c.add_way.ensures.items c.add-2.ensures
    (by_number c.add-2.new.line.items c.add_number.new.line.items c.low.result tag
    (c.low.ensures ∙ ap (λ (x : ℕ). (c.from.result + c.from-2.result) % 2 ^ x) c.bits.ensures.bits ∙ ap (λ (x : ℕ). (x + c.from-2.result) % 2 ^ bits_of f) (c.from.ensures ∙ c.first_tag.ensures) ∙ ap (λ (x : ℕ). (first_tag f + x) % 2 ^ bits_of f) c.from-2.ensures)
    c.add_number.ensures.items) c.add-3.ensures
    ∙ ap (λ (x : List ℕ). x ++ shift_line f c.args.tally) c.new-line.ensures
