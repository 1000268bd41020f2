use Rattle.std.proofs.Common.{ℕ, ◌++◌, ◌+◌, List, codes, ap, ◌∙◌}
use Rattle.std.specs.Prelude.{decimal}
use Rattle.dump_check.specs.Lines.{bad_line, guard_text, have_text, name_of, tag_text}
use Rattle.dump_check.proofs.Pieces.{eleven}
use Rattle.dump_check.proofs.lines.line_of.Goals as goal

pub returns : goal.returns
returns c =
    let f = c.args.dump.form in
    let b = c.args.block.now in
    eleven c.new-line.result.items c.add.new.line.items c.add_number.new.line.items c.add-2.new.line.items c.add_have.new.line.items c.add-3.new.line.items c.add_guard.new.line.items c.add-4.new.line.items c.add_tag.new.line.items c.add-5.new.line.items c.add-6.new.line.items c.add-7.new.line.items
    (codes "0 ") (decimal (c.args.dump.first + c.args.i)) (codes " have ") (have_text f b) (codes " want ") (guard_text f b) (codes " ") (tag_text f c.args.i) (codes " ") (name_of c.args.found) (codes "\n")
    c.add.ensures c.add_number.ensures.items c.add-2.ensures c.add_have.ensures.items c.add-3.ensures c.add_guard.ensures.items c.add-4.ensures c.add_tag.ensures.items c.add-5.ensures
    (c.add-6.ensures ∙ ap (λ (x : List ℕ). c.add-5.new.line.items ++ x) c.name_of.ensures.name) c.add-7.ensures
    ∙ ap (λ (x : List ℕ). x ++ bad_line c.args.dump c.args.i b c.args.found) c.new-line.ensures
