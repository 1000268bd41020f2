-- What is made of the ops, one op after another.
use Rattle.std.proofs.Common.{◌≡◌, ◌<◌, ℕ, zero, suc, ◌+◌, Bool, false, List, [], ◌∷◌, ◌++◌, length, get_or, take, refl, ap, ◌∙◌, arith}
use Rattle.std.proofs.lemmas.List.{take_more}
use Rattle.range_gate.specs.declared.footprint.Footprint.{Footprint}
use Rattle.stack_ops.specs.declared.op.Op.{Op}
use Rattle.stack_ops.specs.Footprints.{footprint}
use Rattle.stack_walk_laws.specs.Sheets.{no_print, op_in, prints_of}
use Rattle.stack_walk_laws.proofs.Gates.{length-prints}

pub prints-at : (ops : List Op) (shifted : List Bool) (i : ℕ) (d : Footprint) → length shifted ≡ length ops → i < length ops → get_or (prints_of ops shifted) i d ≡ footprint (op_in ops i) (get_or shifted i false)
prints-at [] bs i d e h = absurd (omega arith)
prints-at (op ∷ ops) [] i d e h = absurd (omega arith)
prints-at (op ∷ ops) (b ∷ bs) zero d e h = refl
prints-at (op ∷ ops) (b ∷ bs) (suc i) d e h = prints-at ops bs i d (omega arith) (omega arith)

-- what one op more touches
pub prints-more : (ops : List Op) (shifted : List Bool) (i : ℕ) → length shifted ≡ length ops → i < length ops → take (i + 1) (prints_of ops shifted) ≡ take i (prints_of ops shifted) ++ footprint (op_in ops i) (get_or shifted i false) ∷ []
prints-more ops shifted i e h =
    let n = length-prints ops shifted in
    take_more (prints_of ops shifted) i no_print (omega arith) ∙ ap (λ f. take i (prints_of ops shifted) ++ f ∷ []) (prints-at ops shifted i no_print e h)
