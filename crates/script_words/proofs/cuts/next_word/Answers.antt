use Rattle.std.proofs.Common.{arith, sym, ◌∙◌}
use Rattle.script_words.proofs.Cutting.{word_cut, word_last}
use Rattle.script_words.proofs.cuts.next_word.Goals as goal

pub returns-then-not-is_empty-clause-some : goal.returns-then-not-is_empty-clause-some
returns-then-not-is_empty-clause-some c = sym c.loop-word.invariant.words ∙ word_cut c.loop-word.rest.now _ _ c.in-Some.ensures.some (λ z. grind (arith, z, c.if-not-is_empty.ensures))

pub returns-else-is_empty-clause-some : goal.returns-else-is_empty-clause-some
returns-else-is_empty-clause-some c = sym c.loop-word.invariant.words ∙ word_last c.loop-word.rest.now c.in_default.ensures.none (λ z. grind (arith, z, c.if-is_empty.ensures))
