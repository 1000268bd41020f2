-- Where no op is an overwrite none flips its block.
use Rattle.std.proofs.Common.{◌≡◌, ℕ, suc, false, List, [], ◌∷◌, Option, Some, None, refl, sym, ap, ◌∙◌}
use Rattle.std.specs.List.{list_any}
use Rattle.std.proofs.lemmas.Bool.{false≢true, or_parts}
use Rattle.run_laws.specs.Passed.{Op, Fetch, FetchPi, Fill, Overwrite, Put, Seal, Show, Wait, Write, WritePi, is_overwrite}
use Rattle.stack_walk_laws.specs.Flips.{Flips, flip_op, with_flips}

pub no_flips_in : (flips : Flips) (i : ℕ) (ops : List Op) → list_any is_overwrite ops ≡ false → with_flips flips i ops ≡ ops
no_flips_in flips i [] h = refl
no_flips_in flips i (op ∷ ops) h =
    let p = or_parts (is_overwrite op) (list_any is_overwrite ops) h in
    ap (λ (x : Op). x ∷ with_flips flips (suc i) ops) (as_it_is (flips i) op p.0) ∙ ap (λ (rest : List Op). op ∷ rest) (no_flips_in flips (suc i) ops p.1)
  where
    as_it_is : (o : Option (List ℕ)) (op : Op) → is_overwrite op ≡ false → flip_op o op ≡ op
    as_it_is None op h = refl
    as_it_is (Some mask) (Fill seg byte) h = refl
    as_it_is (Some mask) (Put page off bytes) h = refl
    as_it_is (Some mask) (Show seg) h = refl
    as_it_is (Some mask) (Seal n body tuples app rtag) h = refl
    as_it_is (Some mask) (Write v n body app) h = refl
    as_it_is (Some mask) (Fetch v n body) h = refl
    as_it_is (Some mask) (WritePi v n body tuples) h = refl
    as_it_is (Some mask) (FetchPi v n body tuples) h = refl
    as_it_is (Some mask) (Overwrite dev lba change) h = absurd (false≢true (sym h))
    as_it_is (Some mask) Wait h = refl
