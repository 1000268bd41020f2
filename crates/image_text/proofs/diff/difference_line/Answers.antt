use Rattle.std.proofs.Common.{ℕ, ◌++◌, Bool, cond, List, [], codes, sym, ap, ◌∙◌}
use Rattle.image_text.specs.DiffText.{side_text, what_text}
use Rattle.image_text.proofs.Sights.{five}
use Rattle.image_text.proofs.diff.difference_line.Goals as goal

pub returns : goal.returns
returns c =
    let p = c.args.pair in
    let here = side_text p.dev c.args.lba in
    let there = side_text p.other_dev c.args.other in
    let what = what_text p c.args.found c.args.one.now c.args.two.now in
    let text : List ℕ = here ++ (codes " " ++ (there ++ (what ++ codes "\n"))) in
    five c.new-line.result.items c.add_side.new.line.items c.add.new.line.items c.add_side-2.new.line.items c.add_what.new.line.items c.add-2.new.line.items here (codes " ") there what (codes "\n")
    c.add_side.ensures.items c.add.ensures c.add_side-2.ensures.items c.add_what.ensures.items c.add-2.ensures
    ∙ ap (λ (x : List ℕ). x ++ text) c.new-line.ensures ∙ ap (λ (b : Bool). cond b text []) (sym c.requires.differ)
