-- The blocks of a script as spots of it, and when one may move.
use Rattle.std.proofs.Common.{◌≡◌, ◌⊎◌, ℕ, zero, suc, ◌+◌, ◌-◌, ◌<◌, ◌≤◌, List, [], ◌∷◌, ◌++◌, length, get_or, take, drop, refl, sym, ap, subst, ◌∙◌, arith}
use Rattle.run_laws.specs.Passed.{Setting, each_from, steps_of, Op, Fetch, FetchPi, Fill, Overwrite, Put, Seal, Show, Wait, Write, WritePi}
use Rattle.run_laws.proofs.Passed.{each_length}
use Rattle.run_laws.specs.OpsApart.{IsPlaced, IsSpread, OpsConflict}
use Rattle.run_laws.specs.ScriptMoves.{fates_of}
use Rattle.stack_walk_laws.specs.Gate.{AllPlaced, AreOver, LetsIn, MayMove, number, ops_of, place}
use Rattle.stack_walk_laws.specs.Slots.{Status}
use Rattle.stack_walk_laws.specs.Ground.{Ground}
use Rattle.stack_walk_laws.specs.Spots.{no_step, op_in, spot_at, step_in, steps_in}
use Rattle.dix_adapter.proofs.GoingOut.{take-long}

-- ---- steps of an op

pub each_at : {X : Type 0} (k n : ℕ) (f : ℕ → X) (j : ℕ) (d : X) → j < n → get_or (each_from k n f) j d ≡ f (k + j)
each_at k zero f j d h = absurd (omega arith)
each_at k (suc n) f zero d h = let e : k ≡ k + 0 = omega arith in ap f e
each_at k (suc n) f (suc j) d h = let e : suc k + j ≡ k + suc j = omega arith in each_at (suc k) n f j d (omega arith) ∙ ap f e

pub each_first : {X : Type 0} (n : ℕ) (f : ℕ → X) (j : ℕ) (d : X) → j < n → get_or (each_from 0 n f) j d ≡ f j
each_first n f j d h = let e : 0 + j ≡ j = omega arith in each_at 0 n f j d h ∙ ap f e

pub steps_count : (m : Setting) (i : ℕ) (op : Op) → 0 < fates_of op → length (steps_of m i op) ≡ fates_of op
steps_count m i (Fill seg byte) h = absurd (omega arith)
steps_count m i (Put page off bytes) h = absurd (omega arith)
steps_count m i (Show seg) h = absurd (omega arith)
steps_count m i (Seal n body tuples app rtag) h = absurd (omega arith)
steps_count m i (Write v n body app) h = each_length 0 n _
steps_count m i (Fetch v n body) h = each_length 0 n _
steps_count m i (WritePi v n body tuples) h = each_length 0 n _
steps_count m i (FetchPi v n body tuples) h = each_length 0 n _
steps_count m i (Overwrite dev lba change) h = absurd (omega arith)
steps_count m i Wait h = absurd (omega arith)

-- ---- lists cut at a place

pub cut_at : {X : Type 0} (xs : List X) (i : ℕ) (d : X) → i < length xs → xs ≡ take i xs ++ (get_or xs i d ∷ drop (suc i) xs)
cut_at [] i d h = absurd (omega arith)
cut_at (x ∷ xs) zero d h = refl
cut_at (x ∷ xs) (suc i) d h = ap (λ l. x ∷ l) (cut_at xs i d (omega arith))

pub placed_front : (m : Setting) (n i : ℕ) (ops : List Op) → AllPlaced m n ops → AllPlaced m n (take i ops)
placed_front m n zero ops h = tt
placed_front m n (suc i) [] h = tt
placed_front m n (suc i) (op ∷ ops) h = (h.0, placed_front m n i ops h.1)

pub placed_at : (m : Setting) (n i : ℕ) (ops : List Op) → i < length ops → AllPlaced m n ops → IsPlaced m n (op_in ops i)
placed_at m n i [] l h = absurd (omega arith)
placed_at m n zero (op ∷ ops) l h = h.0
placed_at m n (suc i) (op ∷ ops) l h = placed_at m n i ops (omega arith) h.1

-- the gate lets in by each op in front
lets_from : (m : Setting) (status : ℕ → ℕ → Status) (from i : ℕ) (ops : List Op) (j : ℕ) (other : Op) → i ≤ length ops
    → ((k : ℕ) → k < i → AreOver 0 (steps_of m (from + k) (op_in ops k)) (status (from + k)) ⊎ ¬ OpsConflict m (from + k) (op_in ops k) j other)
    → LetsIn m status from (take i ops) j other
lets_from m status from zero ops j other l h = tt
lets_from m status from (suc i) [] j other l h = absurd (omega arith)
lets_from m status from (suc i) (op ∷ ops) j other l h =
    let z : from + 0 ≡ from = omega arith in (
      subst (λ (x : ℕ). AreOver 0 (steps_of m x op) (status x) ⊎ ¬ OpsConflict m x op j other) z (h 0 (omega arith)),
      lets_from m status (suc from) i ops j other (omega arith)
          (λ k w. let e : from + suc k ≡ suc from + k = omega arith in subst (λ (x : ℕ). AreOver 0 (steps_of m x (op_in ops k)) (status x) ⊎ ¬ OpsConflict m x (op_in ops k) j other) e (h (suc k) (omega arith))),
    )

-- all that the gate asks of op i, from 0
abbrev pub Lets : Setting → (ℕ → ℕ → Status) → List Op → ℕ → Type 0
Lets m status ops i = (k : ℕ) → k < i → AreOver 0 (steps_in m ops k) (status (suc k)) ⊎ ¬ OpsConflict m (suc k) (op_in ops k) (suc i) (op_in ops i)

pub lets_in : (m : Setting) (status : ℕ → ℕ → Status) (ops : List Op) (i : ℕ) → i ≤ length ops → Lets m status ops i → LetsIn m status 1 (take i ops) (suc i) (op_in ops i)
lets_in m status ops i l h =
    lets_from m status 1 i ops (suc i) (op_in ops i) l
    (λ k w. let e : suc k ≡ 1 + k = omega arith in subst (λ (x : ℕ). AreOver 0 (steps_of m x (op_in ops k)) (status x) ⊎ ¬ OpsConflict m x (op_in ops k) (suc i) (op_in ops i)) e (h k w))

-- ---- spots

pub spot_number : (m : Setting) (ops : List Op) (i k : ℕ) → i < length ops → number (spot_at m ops i k) ≡ suc i
spot_number m ops i k l = ap suc (take-long i ops (omega arith))

pub spot_place : (m : Setting) (ops : List Op) (i k : ℕ) → k < length (steps_in m ops i) → place (spot_at m ops i k) ≡ k
spot_place m ops i k l = take-long k (steps_in m ops i) (omega arith)

pub spot_ops : (m : Setting) (ops : List Op) (i k : ℕ) → i < length ops → ops_of (spot_at m ops i k) ≡ ops
spot_ops m ops i k l = sym (cut_at ops i Wait l)

module _ (m : Setting) (n logs : ℕ) (ops : List Op) (g : Ground m n logs ops) (status : ℕ → ℕ → Status) where
  pub may_move : (i k : ℕ) → i < length ops → k < fates_of (op_in ops i) → Lets m status ops i → MayMove m n status (spot_at m ops i k)
  may_move i k l w h =
      let e = sym (spot_number m ops i k l) in
      let c = steps_count m (suc i) (op_in ops i) (omega arith) in
      record {
        one = g.one;
        placed = placed_front m n i ops g.placed;
        mine = placed_at m n i ops l g.placed;
        spread = subst (λ (x : ℕ). IsSpread m x (op_in ops i)) e (g.spread i l (omega arith));
        steps = subst (λ (x : ℕ). steps_of m x (op_in ops i) ≡ take k (steps_in m ops i) ++ (step_in m ops i k ∷ drop (suc k) (steps_in m ops i))) e (cut_at (steps_in m ops i) k no_step (omega arith));
        lets = subst (λ (x : ℕ). LetsIn m status 1 (take i ops) x (op_in ops i)) e (lets_in m status ops i (omega arith) h);
      }
