use Rattle.std.proofs.Common.{ℕ, ◌≡◌, List, Option, Some, None, replicate, refl, ap, ◌∙◌}
use Rattle.run_words.specs.Lies.{asked_from}
use Rattle.run_words.specs.Ledgers.{blocks_asked_for}
use Rattle.run_words.specs.declared.ledger.Spot.{Spot}
use Rattle.run_words.proofs.NewLedger.{few_blocks, new_ledger}
use Rattle.run_words.proofs.ledger.Ledger.of.Goals as goal

no_spots : (P : Option Spot → Type 0) (spots : List (Option Spot)) (n : ℕ) → (((y : Option Spot) → P y → y ≡ None) → spots ≡ replicate n None) → ((spot : Spot) → P (Some spot) → ⊥) → spots ≡ replicate n None
no_spots P spots n h never = h is-none
  where
    is-none : (y : Option Spot) → P y → y ≡ None
    is-none None k = refl
    is-none (Some spot) k = absurd (never spot k)

pub all_asked-requires : goal.all_asked-requires
all_asked-requires c = few_blocks c.args.script.now c.as_slice.result.now c.as_slice.ensures c.requires

pub returns : goal.returns
returns c =
    let asked : c.in_ok-asked.field-0.asked.items ≡ asked_from 0 c.args.script.now.ops = c.in_ok-asked.ensures.asked ∙ ap (asked_from 0) c.as_slice.ensures in
    let blocks : c.in_ok-asked.field-0.blocks ≡ blocks_asked_for c.args.script.now.ops = c.in_ok-asked.ensures.blocks ∙ ap blocks_asked_for c.as_slice.ensures in
    let spots : c.in_ok-vec.field-0.items ≡ replicate c.in_ok-asked.field-0.blocks None = no_spots _ c.in_ok-vec.field-0.items c.in_ok-asked.field-0.blocks c.in_ok-vec.ensures.items_if_clones_equal (λ spot k. k) in
    new_ledger c.args.script.now _ c.requires asked (c.new.ensures ∙ c.in_ok-copy.ensures) refl (spots ∙ ap (λ n. replicate n None) blocks)
