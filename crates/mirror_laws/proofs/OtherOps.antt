-- Ops that are no requests, and ops one after another.
use Rattle.std.proofs.Common.{◌≡◌, ℕ, suc, ◌+◌, List, [], ◌∷◌, ◌++◌, length, refl, sym, ap, ◌∙◌, arith, append_assoc, append-nil}
use Rattle.stack_ops.specs.declared.op.Op.{Op}
use Rattle.stack_ops.specs.declared.op.Op.TheVariants.{Fetch, FetchPi, Fill, Overwrite, Put, Seal, Show, Wait, Write, WritePi}
use Rattle.block_path.specs.Serial.{plain}
use Rattle.block_path.proofs.InTurn.{plain_append}
use Rattle.walk_laws.specs.Past.{steps_from}
use Rattle.walk_laws.specs.ScriptWalk.{reply_of}
use Rattle.walk_laws.specs.Settings.{Setting}
use Rattle.walk_laws.specs.Steps.{Step, steps_of}
use Rattle.mirror_laws.specs.Mirror.{Mirror, done, replies_from}
use Rattle.mirror_laws.specs.LegByLeg.{NoRequest, OneMoreOp, answers_of}

pub no_request : (m : Setting) (half : ℕ) (count : ℕ → ℕ) (i : ℕ) (op : Op) (s : Mirror) → NoRequest m half count i op s
no_request m half count i (Fill seg byte) s = record { next_is = refl; reply_is = λ fails. refl }
no_request m half count i (Put page off bytes) s = record { next_is = refl; reply_is = λ fails. refl }
no_request m half count i (Show seg) s = record { next_is = refl; reply_is = λ fails. refl }
no_request m half count i (Seal n body tuples app rtag) s = tt
no_request m half count i (Write v n body app) s = tt
no_request m half count i (Fetch v n body) s = tt
no_request m half count i (WritePi v n body tuples) s = tt
no_request m half count i (FetchPi v n body tuples) s = tt
no_request m half count i (Overwrite dev lba change) s = record { next_is = refl; reply_is = λ fails. refl }
no_request m half count i Wait s = record { next_is = refl; reply_is = λ fails. refl }

pub steps_join : (m : Setting) (i : ℕ) (before after : List Op) → steps_from m i (before ++ after) ≡ steps_from m i before ++ steps_from m (i + length before) after
steps_join m i [] after = let e : i ≡ i + 0 = omega arith in ap (λ j. steps_from m j after) e
steps_join m i (op ∷ before) after =
    let e : suc i + length before ≡ i + suc (length before) = omega arith in
    ap (λ xs. steps_of m i op ++ xs) (steps_join m (suc i) before after ∙ ap (λ j. steps_from m (suc i) before ++ steps_from m j after) e)
    ∙ sym (append_assoc (steps_of m i op) (steps_from m (suc i) before) (steps_from m (i + suc (length before)) after))

module _ (m : Setting) (half : ℕ) (count : ℕ → ℕ) where
  abbrev left : List Step → Mirror → Mirror
  left = plain (done m half count)

  pub ops_join : (i : ℕ) (before after : List Op) (s : Mirror) → left (steps_from m i (before ++ after)) s ≡ left (steps_from m (i + length before) after) (left (steps_from m i before) s)
  ops_join i before after s =
      ap (λ steps. left steps s) (steps_join m i before after) ∙ plain_append (done m half count) (steps_from m i before) (steps_from m (i + length before) after) s

  pub replies_join : (i : ℕ) (before after : List Op) (s : Mirror) →
      replies_from m half count i (before ++ after) s ≡ replies_from m half count i before s ++ replies_from m half count (i + length before) after (left (steps_from m i before) s)
  replies_join i [] after s = let e : i ≡ i + 0 = omega arith in ap (λ j. replies_from m half count j after s) e
  replies_join i (op ∷ before) after s =
      let e : suc i + length before ≡ i + suc (length before) = omega arith in
      let next = left (steps_of m i op) s in
      ap (λ rs. reply_of (m.fails i) op (answers_of m half count i op s) ∷ rs)
      (replies_join (suc i) before after next
      ∙ ap (λ j. replies_from m half count (suc i) before next ++ replies_from m half count j after (left (steps_from m (suc i) before) next)) e
      ∙ ap (λ t. replies_from m half count (suc i) before next ++ replies_from m half count (i + suc (length before)) after t) (sym (plain_append (done m half count) (steps_of m i op) (steps_from m (suc i) before) s)))

  pub one_more_op : (ops : List Op) (op : Op) (s : Mirror) → OneMoreOp m half count ops op s
  one_more_op ops op s = record {
    next_is = ops_join 1 ops (op ∷ []) s ∙ ap (λ steps. left steps (left (steps_from m 1 ops) s)) (append-nil (steps_of m (1 + length ops) op));
    replies_are = replies_join 1 ops (op ∷ []) s;
  }
