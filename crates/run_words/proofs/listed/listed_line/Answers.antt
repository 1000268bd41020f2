use Rattle.std.proofs.Common.{ap, ◌∙◌}
use Rattle.volume_table.specs.Places.{place_in}
use Rattle.run_words.specs.Texts.{listed_words}
use Rattle.run_words.proofs.listed.listed_line.Goals as goal

pub returns : goal.returns
returns c =
    c.words_of.ensures ∙ ap (λ p. listed_words c.args.number c.args.site c.args.block c.virtual_block-v.result p) c.place_in-place.ensures
    ∙ ap (λ v. listed_words c.args.number c.args.site c.args.block v (place_in c.args.entries.now v)) c.virtual_block-v.ensures
