-- What the gate lets in, by what is seen of a stack.
use Rattle.std.proofs.Common.{◌≡◌, ◌⊎◌, inl, inr, ℕ, suc, ◌+◌, ◌<◌, ◌≤◌, true, false, List, [], ◌∷◌, length, Option, refl, ap, arith, ⊎_elim}
use Rattle.std.proofs.lemmas.Bool.{cases_Bool, cases_lt}
use Rattle.bio_core.specs.declared.fate.Why.{Why}
use Rattle.range_gate.specs.Gates.{has_ended, is_waiting}
use Rattle.range_gate.specs.declared.phase.Phase.{Phase}
use Rattle.range_gate.specs.declared.phase.Phase.TheVariants.{Waiting, Admitted as OpAdmitted, Ended}
use Rattle.stack_laws.specs.Plan.{Plan, request_at}
use Rattle.stack_laws.specs.Sound.{Sound}
use Rattle.stack_laws.specs.View.{View, op_at}
use Rattle.stack_laws.proofs.Enabled.{all-at}
use Rattle.run_laws.specs.Passed.{Setting, Step, Op}
use Rattle.run_laws.specs.ScriptMoves.{fates_of}
use Rattle.stack_walk_laws.specs.Gate.{AreOver, is_over}
use Rattle.stack_walk_laws.specs.Slots.{Status}
use Rattle.stack_walk_laws.specs.Ground.{Ground, IsPlanOf}
use Rattle.stack_walk_laws.specs.Spots.{op_in, steps_in}
use Rattle.stack_walk_laws.specs.Statuses.{fate_in, status_in}
use Rattle.stack_walk_laws.proofs.Spots.{Lets, steps_count}
use Rattle.stack_walk_laws.proofs.WalksStanding.{is_done, is_settled}

over_from : (k : ℕ) (steps : List Step) (status : ℕ → Status) → ((q : ℕ) → k ≤ q → q < k + length steps → is_over (status q) ≡ true) → AreOver k steps status
over_from k [] status h = tt
over_from k (step ∷ steps) status h = (h k (omega arith) (omega arith), over_from (suc k) steps status (λ q a b. h q (omega arith) (omega arith)))

pub ended_waits : (h : Phase) → has_ended h ≡ true → is_waiting h ≡ false
ended_waits Waiting e = cc
ended_waits OpAdmitted e = cc
ended_waits Ended e = refl

module _ (m : Setting) (n logs : ℕ) (p : Plan) (ops : List Op) (g : Ground m n logs ops) (f : IsPlanOf p m ops) (v : View) (s : Sound p v) (shown : ℕ → ℕ → List ℕ) (why : ℕ → ℕ → Option Why) where
  -- the blocks of an op that has ended are settled, or done
  pub ended_over : (j : ℕ) → j < length ops → has_ended (op_at v j).phase ≡ true → AreOver 0 (steps_in m ops j) (status_in p v shown why (suc j))
  ended_over j l e =
      let w = ended_waits (op_at v j).phase e in
      let c = f.count j in
      ⊎_elim
      (λ (z : 0 < fates_of (op_in ops j)).
      let k = steps_count m (suc j) (op_in ops j) z in
      over_from 0 (steps_in m ops j) (status_in p v shown why (suc j))
      (λ q a b. (let n = s.lengths j in ap is_over (is_settled (request_at p j).count (op_at v j) (shown j q) (why j q) (fate_in j q v.commands) q w (omega arith) (all-at (op_at v j).settled q (s.ended j e) (omega arith))))))
      (λ (z : fates_of (op_in ops j) ≤ 0).
      over_from 0 (steps_in m ops j) (status_in p v shown why (suc j)) (λ q a b. ap is_over (is_done (request_at p j).count (op_at v j) (shown j q) (why j q) (fate_in j q v.commands) q w (omega arith))))
      (cases_lt 0 (fates_of (op_in ops j)))

  -- where all earlier ops that conflict with op i have ended, it is let in
  pub lets_of : (i : ℕ) → i < length ops → ((j : ℕ) → j < i → p.conflicts j i ≡ true → has_ended (op_at v j).phase ≡ true) → Lets m (status_in p v shown why) ops i
  lets_of i l h = λ j w. ⊎_elim
      (λ (e : p.conflicts j i ≡ true). inl (ended_over j (omega arith) (h j w e)))
      (λ (e : p.conflicts j i ≡ false). inr (f.apart j i w l e))
      (cases_Bool (p.conflicts j i))
