use Rattle.std.proofs.Common.{List, drop, ap, sym, subst, ◌∙◌}
use Rattle.volume_table.specs.Places.{volume_len}
use Rattle.volume_table.specs.declared.entry.Entry.{Entry}
use Rattle.run_words.specs.Sites.{AreInside}
use Rattle.run_words.specs.Texts.{words_text}
use Rattle.run_words.specs.declared.guide.OpSite.{OpSite}
use Rattle.report_text.proofs.Written.{as_text}
use Rattle.run_words.proofs.text.print_words.Goals as goal

pub print_parts-requires-clause-table : goal.print_parts-requires-clause-table
print_parts-requires-clause-table g c = (c.requires.guides.table, c.requires.guides.entries ∙ sym c.as_slice-entries.ensures, c.requires.guides.made)

pub print_parts-requires-clause-inside : goal.print_parts-requires-clause-inside
print_parts-requires-clause-inside g c =
    subst (λ (es : List Entry). AreInside (volume_len es) c.as_slice-sites.result.now c.args.replies.now) (sym c.as_slice-entries.ensures)
    (subst (λ (s : List OpSite). AreInside (volume_len c.args.guide.now.entries) s c.args.replies.now) (sym c.as_slice-sites.ensures.value) c.requires.guides.inside)

pub returns : goal.returns
returns g c =
    let log = drop c.args.from (g.R.Rig.state c.args.rig.now).log in
    let text = ap (λ s. words_text s c.as_slice-entries.result.now log c.args.replies.now) c.as_slice-sites.ensures.value ∙ ap (λ e. words_text c.args.guide.now.sites.items e log c.args.replies.now) c.as_slice-entries.ensures in
    as_text text c.print_parts.ensures
