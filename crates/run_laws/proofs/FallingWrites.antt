-- A block of a write that the plain map accepts, in the op's reply.
use Rattle.std.proofs.Common.{◌≡◌, ◌<◌, ℕ, suc, false, List, ◌∷◌, ◌++◌, length, drop, Option, Some, None, refl, ap, ◌∙◌, inl, inr, arith}
use Rattle.std.specs.Prelude.{◌⊎◌}
use Rattle.page_pool.specs.declared.segs.Seg.{Seg}
use Rattle.page_pool.specs.Cells.{gather, share_a_cell}
use Rattle.integrity_payload.specs.declared.payload.Owner.TheVariants.{App as OfApp}
use Rattle.range_gate.specs.Cells.{cells_of}
use Rattle.walk_laws.specs.Passed.{Op, Write, WritePi, data_of, tuple_of, State, tell, Why, TheVariantsMedium as Medium}
use Rattle.walk_laws.proofs.Passed.{Distinct, distinct, share_back}
use Rattle.walk_laws.specs.Past.{steps_from}
use Rattle.walk_laws.specs.PlainMap.{finds_of_app, finds_plainly}
use Rattle.walk_laws.specs.Settings.{Block, Setting, block_of}
use Rattle.walk_laws.specs.Steps.{Step, Writes, WritesPi, body_of, each_from, frame_at}
use Rattle.run_laws.specs.FallingReads.{HasRoom}
use Rattle.run_laws.specs.FallingWrites.{FailsAtMediumAlone, finds_then}
use Rattle.run_laws.specs.StoreFaults.{IsFallingRun, may_fall, or_fallen}
use Rattle.run_laws.proofs.FallingOps.{served, why_is}
use Rattle.walk_laws.proofs.InSteps.{later_blocks, stepped}
use Rattle.run_laws.proofs.Parts.{blocks_apart, drop_within, share_within}

either : (listed : Option Why) (why : Option Why) → listed ≡ why → (why ≡ Some Medium) ⊎ (why ≡ None) → (listed ≡ Some Medium) ⊎ (listed ≡ None)
either listed why e h = elim h [ inl medium ↦ inl (e ∙ medium) | inr none ↦ inr (e ∙ none) ]

pub own_write_fails : (m : Setting) (falls : Block → Option (List ℕ)) (before after : List Op) (v n k : ℕ) (body : List Seg) (app : ℕ) (opening : State) → let op = Write v n body app in
    IsFallingRun m (before ++ (op ∷ after)) opening → k < n → finds_plainly m app ≡ None → FailsAtMediumAlone m falls before op after opening k
own_write_fails m falls before after v n k body app opening run l own =
    let op = Write v n body app in
    let f : ℕ → Step = λ k. Writes (block_of (suc (length before)) v k) app (body_of m.size body k) in
    let here = stepped (may_fall m falls) (each_from 0 k f) (stepped (may_fall m falls) (steps_from m 1 before) opening) in
    either _ (tell (may_fall m falls (f k)) here).why (why_is m falls before after op f n k opening l refl (λ answers. refl)) (served m falls before after op f n k opening l refl (λ answers. refl) run own)

module _ (m : Setting) (falls : Block → Option (List ℕ)) (i v : ℕ) (body tuples : List Seg) where
  abbrev step_at : ℕ → Step
  step_at k = WritesPi (block_of i v k) (frame_at m.size body tuples k)

  writes_tuple : (j : ℕ) → (may_fall m falls (step_at j)).bytes.writes ≡ drop m.size (frame_at m.size body tuples j)
  writes_tuple j = by (falls (block_of i v j)) where
    by : (o : Option (List ℕ)) → (or_fallen m (step_at j) o).bytes.writes ≡ drop m.size (frame_at m.size body tuples j)
    by None = refl
    by (Some left) = refl

  -- what the op's earlier blocks write is no block's frame
  frame_stays : (k : ℕ) (s : State) → Distinct (cells_of body ++ cells_of tuples) →
      gather 0 (frame_at m.size body tuples k) (stepped (may_fall m falls) (each_from 0 k step_at) s).bytes ≡ gather 0 (frame_at m.size body tuples k) s.bytes
  frame_stays k s once =
      let frame = frame_at m.size body tuples in
      later_blocks (may_fall m falls) step_at (λ j. drop m.size (frame j)) writes_tuple (frame k) 0 k s (λ j _ g.
      let apart : share_a_cell (frame j) (frame k) ≡ false = blocks_apart m.size body tuples OfApp j k once (omega (arith, g)) in
      share_within (frame k) (frame k) (drop m.size (frame j)) (frame j) (λ c e. e) (drop_within m.size (frame j)) (share_back (frame j) (frame k) apart))

pub app_write_fails : (m : Setting) (falls : Block → Option (List ℕ)) (before after : List Op) (v n k : ℕ) (body tuples : List Seg) (opening : State) → let op = WritePi v n body tuples in
    IsFallingRun m (before ++ (op ∷ after)) opening → HasRoom m (length opening.bytes) OfApp n body tuples → k < n → finds_then m falls before v body tuples opening k ≡ None → FailsAtMediumAlone m falls before op after opening k
app_write_fails m falls before after v n k body tuples opening run room l own =
    let op = WritePi v n body tuples in
    let i = suc (length before) in
    let f : ℕ → Step = λ k. WritesPi (block_of i v k) (frame_at m.size body tuples k) in
    let began = stepped (may_fall m falls) (steps_from m 1 before) opening in
    let here = stepped (may_fall m falls) (each_from 0 k f) began in
    let same = frame_stays m falls i v body tuples k began (distinct (cells_of body ++ cells_of tuples) room.1.1.0.once) in
    let own_here = ap (λ frame. finds_of_app m (block_of i v k) (data_of m.size frame) (tuple_of m.size frame)) same ∙ own in
    either _ (tell (may_fall m falls (f k)) here).why (why_is m falls before after op f n k opening l refl (λ answers. refl)) (served m falls before after op f n k opening l refl (λ answers. refl) run own_here)
