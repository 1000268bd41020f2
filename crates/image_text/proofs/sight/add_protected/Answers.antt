use Rattle.std.proofs.Common.{ℕ, ◌++◌, List, codes, ap, ◌∙◌}
use Rattle.image_text.specs.Sights.{have_text, verdict_by, verdict_text, want_text}
use Rattle.image_text.proofs.Sights.{six}
use Rattle.image_text.proofs.sight.add_protected.Goals as goal

pub returns-clause-items : goal.returns-clause-items
returns-clause-items c =
    let b = c.args.block in
    let verdict = verdict_by b.ty b.lba b.guard b.tuple in
    six c.args.line.now.items c.add.new.line.items c.add_have.new.line.items c.add-2.new.line.items c.add_want.new.line.items c.add-3.new.line.items c.add-4.new.line.items
    (codes "have ") (have_text b.ty b.tuple) (codes " want ") (want_text b.ty b.lba b.guard) (codes " ") (verdict_text verdict)
    c.add.ensures c.add_have.ensures.items c.add-2.ensures c.add_want.ensures.items c.add-3.ensures
    (c.add-4.ensures ∙ ap (λ (x : List ℕ). c.add-3.new.line.items ++ x) (c.verdict_text.ensures.text ∙ ap verdict_text c.verdict_by-verdict.ensures))
