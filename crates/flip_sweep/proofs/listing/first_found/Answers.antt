use Rattle.std.proofs.Common.{◌≡◌, ℕ, List, [], ◌∷◌, length, None, refl, sym, ◌∙◌, arith}
use Rattle.stack_ops.specs.declared.reply.Reply.{Reply}
use Rattle.flip_sweep.specs.Verdicts.{first_found}
use Rattle.flip_sweep.proofs.listing.first_found.Goals as goal

none_left : (op : ℕ) (was rest : List Reply) → 0 ≡ length rest → None ≡ first_found op was rest
none_left op [] [] h = refl
none_left op (w ∷ was) [] h = refl
none_left op was (r ∷ rest) h = absurd (omega (arith, h))

pub returns : goal.returns
returns c = none_left c.loop-reply.op c.loop-reply.before.now c.loop-reply.rest.now (sym c.in_default.ensures.cases) ∙ c.loop-reply.invariant.found
