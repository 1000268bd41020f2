-- Some blocks of one op that move on together: their statuses, and that they may.
use Rattle.std.proofs.Common.{◌≡◌, ◌⊎◌, ℕ, zero, suc, ◌+◌, ◌<◌, ◌≤◌, List, length, refl, sym, ap, ◌∙◌, arith, ⊎_elim}
use Rattle.std.proofs.lemmas.Bool.{cases_eq}
use Rattle.run_laws.specs.Passed.{Setting, Op}
use Rattle.run_laws.specs.ScriptMoves.{fates_of}
use Rattle.stack_walk_laws.specs.Gate.{number, place}
use Rattle.stack_walk_laws.specs.Pieces.{AllMayMove, IsNoneOf, with_all}
use Rattle.stack_walk_laws.specs.Sending.{with_status}
use Rattle.stack_walk_laws.specs.Slots.{Status}
use Rattle.stack_walk_laws.proofs.Sends.{with_here, with_other}
use Rattle.stack_walk_laws.specs.Ground.{Ground}
use Rattle.stack_walk_laws.specs.Spots.{op_in, spot_at, spots_from, steps_in}
use Rattle.stack_walk_laws.proofs.Spots.{Lets, may_move, spot_number, spot_ops, spot_place, steps_count}

module _ (m : Setting) (ops : List Op) (i : ℕ) (l : i < length ops) where
  pub with_out : (k n : ℕ) (next : Status) (status : ℕ → ℕ → Status) (j q : ℕ) → k + n ≤ length (steps_in m ops i) → (j ≡ suc i → k ≤ q → q < k + n → ⊥) →
      with_all (spots_from m ops i k n) next status j q ≡ status j q
  with_out k zero next status j q w h = refl
  with_out k (suc n) next status j q w h =
      let s = spot_at m ops i k in
      let a = spot_number m ops i k l in
      let b = spot_place m ops i k (omega arith) in
      let here = with_other (number s) (place s) j q next status (λ (e : j ≡ number s) (f : q ≡ place s). h (e ∙ a) (omega (arith, f, b)) (omega (arith, f, b))) in
      with_out (suc k) n next (with_status (number s) (place s) next status) j q (omega arith) (λ (e : j ≡ suc i) (x : suc k ≤ q) (y : q < suc k + n). h e (omega arith) (omega arith)) ∙ here

  pub with_in : (k n : ℕ) (next : Status) (status : ℕ → ℕ → Status) (q : ℕ) → k + n ≤ length (steps_in m ops i) → k ≤ q → q < k + n → with_all (spots_from m ops i k n) next status (suc i) q ≡ next
  with_in k zero next status q w x y = absurd (omega arith)
  with_in k (suc n) next status q w x y =
      let s = spot_at m ops i k in
      let a = spot_number m ops i k l in
      let b = spot_place m ops i k (omega arith) in
      let new = with_status (number s) (place s) next status in
      ⊎_elim
      (λ (e : q ≡ k). with_out (suc k) n next new (suc i) q (omega arith) (λ (t : suc i ≡ suc i) (z : suc k ≤ q) (u : q < suc k + n). omega arith) ∙ with_here (number s) (place s) (suc i) q next status (sym a) (e ∙ sym b))
      (λ (ne : q ≡ k → ⊥). with_in (suc k) n next new q (omega arith) (omega (arith, ne)) (omega arith))
      (cases_eq q k)

  none_of : (k d c : ℕ) → k < d → d + c ≤ length (steps_in m ops i) → IsNoneOf (spot_at m ops i k) (spots_from m ops i d c)
  none_of k d zero h w = tt
  none_of k d (suc c) h w =
      let a = spot_place m ops i k (omega arith) in
      let b = spot_place m ops i d (omega arith) in
      ((λ (e : number (spot_at m ops i d) ≡ number (spot_at m ops i k)) (f : place (spot_at m ops i d) ≡ place (spot_at m ops i k)). omega (arith, a, b, f)), none_of k (suc d) c (omega arith) (omega arith))

  module _ (bytes logs : ℕ) (g : Ground m bytes logs ops) (status : ℕ → ℕ → Status) (was : Status) (lets : Lets m status ops i) where
    pub all_may : (k c : ℕ) → k + c ≤ fates_of (op_in ops i) → 0 < fates_of (op_in ops i) → ((q : ℕ) → k ≤ q → q < k + c → status (suc i) q ≡ was) → AllMayMove m bytes ops status was (spots_from m ops i k c)
    all_may k zero w z h = tt
    all_may k (suc c) w z h =
        let n = steps_count m (suc i) (op_in ops i) z in
        let a = spot_number m ops i k l in
        let b = spot_place m ops i k (omega arith) in (
          spot_ops m ops i k l,
          (
            may_move m bytes logs ops g status i k l (omega arith) lets,
            (
              (ap (λ x. status x (place (spot_at m ops i k))) a ∙ ap (status (suc i)) b) ∙ h k (omega arith) (omega arith),
              (none_of k (suc k) c (omega arith) (omega arith), all_may (suc k) c (omega arith) z (λ (q : ℕ) (x : suc k ≤ q) (y : q < suc k + c). h q (omega arith) (omega arith))),
            ),
          ),
        )
