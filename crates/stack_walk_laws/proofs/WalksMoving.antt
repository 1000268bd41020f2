-- Statuses after an op is admitted or ends, and after a piece is cut.
use Rattle.std.proofs.Common.{◌≡◌, ◌⊎◌, ℕ, zero, suc, ◌+◌, ◌-◌, ◌<◌, ◌≤◌, Bool, true, false, List, length, get_or, Option, refl, sym, ap, subst, ◌∙◌, arith, ⊎_elim}
use Rattle.std.specs.Prelude.{if◌then◌else◌, eqb, nat_le, nat_lt}
use Rattle.bio_core.specs.declared.fate.Fate.{Fate}
use Rattle.std.proofs.lemmas.Bool.{cases_Bool, cases_eq, cases_lt, eqb-true}
use Rattle.bio_core.specs.declared.fate.Why.{Why}
use Rattle.range_gate.specs.Gates.{is_waiting}
use Rattle.stack_laws.specs.Plan.{Plan, request_at}
use Rattle.stack_laws.specs.Sound.{Sound}
use Rattle.stack_laws.specs.View.{Command, OpView, View, op_at}
use Rattle.run_laws.specs.Passed.{Setting, Op}
use Rattle.stack_walk_laws.specs.Pieces.{with_all}
use Rattle.stack_walk_laws.specs.Slots.{Admitted, Cut, Done, Settled, Status, Waits}
use Rattle.stack_walk_laws.specs.Ground.{IsPlanOf}
use Rattle.stack_walk_laws.specs.Spots.{op_in, spots_from, steps_in}
use Rattle.stack_walk_laws.specs.Statuses.{fate_in, sent_as, standing, status_in}
use Rattle.stack_walk_laws.proofs.Fates.{in_none}
use Rattle.stack_walk_laws.proofs.Spots.{steps_count}
use Rattle.stack_walk_laws.proofs.WalksStanding.{is_sent, is_settled, is_uncut, not_cut, nowhere, past, unmarked, waits}
use Rattle.stack_walk_laws.proofs.WalksTogether.{with_in, with_out}

-- another op's statuses are those that they were
pub elsewhere : (p : Plan) (v w : View) (shown new : ℕ → ℕ → List ℕ) (why : ℕ → ℕ → Option Why) (j q : ℕ) → w.commands ≡ v.commands → op_at w j ≡ op_at v j → ((request_at p j).count ≡ 0 → new j q ≡ shown j q) →
    status_in p w new why (suc j) q ≡ status_in p v shown why (suc j) q
elsewhere p v w shown new why j q c o s =
    ap (λ (x : OpView). standing (request_at p j).count x (new j q) (why j q) (fate_in j q w.commands) q) o
    ∙ (ap (λ (cs : List Command). standing (request_at p j).count (op_at v j) (new j q) (why j q) (fate_in j q cs) q) c ∙ by (is_waiting (op_at v j).phase) refl (eqb (request_at p j).count 0) refl)
  where
    old : List ℕ → Status
    old bytes = standing (request_at p j).count (op_at v j) bytes (why j q) (fate_in j q v.commands) q

    by : (b : Bool) → is_waiting (op_at v j).phase ≡ b → (z : Bool) → eqb (request_at p j).count 0 ≡ z → standing (request_at p j).count (op_at v j) (new j q) (why j q) (fate_in j q v.commands) q ≡ standing (request_at p j).count (op_at v j) (shown j q) (why j q) (fate_in j q v.commands) q
    by b e true z = ap (λ (bytes : List ℕ). standing (request_at p j).count (op_at v j) bytes (why j q) (fate_in j q v.commands) q) (s (eqb-true (request_at p j).count 0 z))
    by true e false z = rw e refl
    by false e false z = rw (e, z) refl

-- ---- admitted

module _ (p : Plan) (m : Setting) (ops : List Op) (f : IsPlanOf p m ops) (v w : View) (s : Sound p v) (shown : ℕ → ℕ → List ℕ) (why : ℕ → ℕ → Option Why) (i : ℕ) (l : i < length ops) (others : (j : ℕ) → (j ≡ i → ⊥) → op_at w j ≡ op_at v j) (same : w.commands ≡ v.commands) where
  within : 0 < (request_at p i).count → (c : ℕ) → c ≤ (request_at p i).count → c ≤ length (steps_in m ops i)
  within z c h = let n = f.count i in let k = steps_count m (suc i) (op_in ops i) (omega arith) in omega arith

  all_within : 0 < (request_at p i).count → 0 + (request_at p i).count ≤ length (steps_in m ops i)
  all_within z = let w = within z (request_at p i).count (omega arith) in omega arith

  pub admitted_statuses : is_waiting (op_at v i).phase ≡ true → is_waiting (op_at w i).phase ≡ false → (op_at w i).cut ≡ (op_at v i).cut → (op_at w i).settled ≡ (op_at v i).settled → 0 < (request_at p i).count → (j q : ℕ) →
      status_in p w shown why j q ≡ with_all (spots_from m ops i 0 (request_at p i).count) Admitted (status_in p v shown why) j q
  admitted_statuses a b c t z zero q = sym (with_out m ops i l 0 (request_at p i).count Admitted (status_in p v shown why) zero q (all_within z) (λ (e : 0 ≡ suc i) (x : 0 ≤ q) (y : q < 0 + (request_at p i).count). omega arith))
  admitted_statuses a b c t z (suc j) q =
      ⊎_elim
      (λ (e : j ≡ i). subst (λ (j : ℕ). status_in p w shown why (suc j) q ≡ with_all (spots_from m ops i 0 (request_at p i).count) Admitted (status_in p v shown why) (suc j) q) (sym e)
      (⊎_elim
      (λ (h : q < (request_at p i).count).
      let n = nowhere p v i q s a in
      is_uncut (request_at p i).count (op_at w i) (shown i q) (why i q) (fate_in i q w.commands) q b h (ap (λ x. get_or x q false) t ∙ unmarked (op_at v i) q n.0) (let x = s.fresh i a in omega arith)
      ∙ sym (with_in m ops i l 0 (request_at p i).count Admitted (status_in p v shown why) q (all_within z) (omega arith) (omega arith)))
      (λ (h : (request_at p i).count ≤ q).
      past (request_at p i).count (op_at w i) (shown i q) (why i q) (fate_in i q w.commands) q b z h
      ∙ (sym (waits (request_at p i).count (op_at v i) (shown i q) (why i q) (fate_in i q v.commands) q a)
      ∙ sym (with_out m ops i l 0 (request_at p i).count Admitted (status_in p v shown why) (suc i) q (all_within z) (λ (e : suc i ≡ suc i) (x : 0 ≤ q) (y : q < 0 + (request_at p i).count). omega arith))))
      (cases_lt q (request_at p i).count)))
      (λ (ne : j ≡ i → ⊥).
      elsewhere p v w shown shown why j q same (others j ne) (λ (e : (request_at p j).count ≡ 0). refl)
      ∙ sym (with_out m ops i l 0 (request_at p i).count Admitted (status_in p v shown why) (suc j) q (all_within z) (λ (e : suc j ≡ suc i) (x : 0 ≤ q) (y : q < 0 + (request_at p i).count). ne (omega arith))))
      (cases_eq j i)

  -- ---- cut

  pub cut_statuses : (n : ℕ) → is_waiting (op_at v i).phase ≡ false → is_waiting (op_at w i).phase ≡ false → (op_at w i).cut ≡ (op_at v i).cut + n → (op_at w i).settled ≡ (op_at v i).settled → (op_at v i).cut + n ≤ (request_at p i).count → 0 < (request_at p i).count → (j q : ℕ) →
      status_in p w shown why j q ≡ with_all (spots_from m ops i (op_at v i).cut n) Cut (status_in p v shown why) j q
  cut_statuses n a b c t h z zero q = sym (with_out m ops i l (op_at v i).cut n Cut (status_in p v shown why) zero q (within z ((op_at v i).cut + n) h) (λ (e : 0 ≡ suc i) (x : (op_at v i).cut ≤ q) (y : q < (op_at v i).cut + n). omega arith))
  cut_statuses n a b c t h z (suc j) q =
      ⊎_elim
      (λ (e : j ≡ i). subst (λ (j : ℕ). status_in p w shown why (suc j) q ≡ with_all (spots_from m ops i (op_at v i).cut n) Cut (status_in p v shown why) (suc j) q) (sym e) here)
      (λ (ne : j ≡ i → ⊥).
      elsewhere p v w shown shown why j q same (others j ne) (λ (e : (request_at p j).count ≡ 0). refl)
      ∙ sym (with_out m ops i l (op_at v i).cut n Cut (status_in p v shown why) (suc j) q (within z ((op_at v i).cut + n) h) (λ (e : suc j ≡ suc i) (x : (op_at v i).cut ≤ q) (y : q < (op_at v i).cut + n). ne (omega arith))))
      (cases_eq j i)
    where
      new : Status
      new = status_in p w shown why (suc i) q

      old : Status
      old = status_in p v shown why (suc i) q

      rest : ((op_at v i).cut ≤ q → q < (op_at v i).cut + n → ⊥) → old ≡ with_all (spots_from m ops i (op_at v i).cut n) Cut (status_in p v shown why) (suc i) q
      rest aside = sym (with_out m ops i l (op_at v i).cut n Cut (status_in p v shown why) (suc i) q (within z ((op_at v i).cut + n) h) (λ (e : suc i ≡ suc i) (x : (op_at v i).cut ≤ q) (y : q < (op_at v i).cut + n). aside x y))

      fates : fate_in i q w.commands ≡ fate_in i q v.commands
      fates = ap (fate_in i q) same

      unsettled : q < (request_at p i).count → get_or (op_at v i).settled q false ≡ false → new ≡ with_all (spots_from m ops i (op_at v i).cut n) Cut (status_in p v shown why) (suc i) q
      unsettled x u =
          let u' : get_or (op_at w i).settled q false ≡ false = ap (λ y. get_or y q false) t ∙ u in
          ⊎_elim
          (λ (y : q < (op_at v i).cut).
          is_sent (request_at p i).count (op_at w i) (shown i q) (why i q) (fate_in i q w.commands) q b x u' (omega arith)
          ∙ (ap sent_as fates ∙ (sym (is_sent (request_at p i).count (op_at v i) (shown i q) (why i q) (fate_in i q v.commands) q a x u y) ∙ rest (λ k d. omega arith))))
          (λ (y : (op_at v i).cut ≤ q). ⊎_elim
          (λ (d : q < (op_at v i).cut + n).
          let o = not_cut p v i q s a y x in
          is_sent (request_at p i).count (op_at w i) (shown i q) (why i q) (fate_in i q w.commands) q b x u' (omega arith)
          ∙ (ap sent_as (fates ∙ in_none i q v.commands o.1) ∙ sym (with_in m ops i l (op_at v i).cut n Cut (status_in p v shown why) q (within z ((op_at v i).cut + n) h) y d)))
          (λ (d : (op_at v i).cut + n ≤ q).
          is_uncut (request_at p i).count (op_at w i) (shown i q) (why i q) (fate_in i q w.commands) q b x u' (omega arith)
          ∙ (sym (is_uncut (request_at p i).count (op_at v i) (shown i q) (why i q) (fate_in i q v.commands) q a x u y) ∙ rest (λ k d'. omega arith)))
          (cases_lt q ((op_at v i).cut + n)))
          (cases_lt q (op_at v i).cut)

      marked_before : q < (request_at p i).count → get_or (op_at v i).settled q false ≡ true → (op_at v i).cut ≤ q → ⊥
      marked_before x u y = let o = not_cut p v i q s a y x in let u0 = unmarked (op_at v i) q o.0 in let e : true ≡ false = sym u ∙ u0 in cc

      here : new ≡ with_all (spots_from m ops i (op_at v i).cut n) Cut (status_in p v shown why) (suc i) q
      here =
          ⊎_elim
          (λ (x : q < (request_at p i).count). ⊎_elim
          (λ (u : get_or (op_at v i).settled q false ≡ true).
          is_settled (request_at p i).count (op_at w i) (shown i q) (why i q) (fate_in i q w.commands) q b x (ap (λ y. get_or y q false) t ∙ u)
          ∙ (sym (is_settled (request_at p i).count (op_at v i) (shown i q) (why i q) (fate_in i q v.commands) q a x u) ∙ rest (λ k d. marked_before x u k)))
          (λ (u : get_or (op_at v i).settled q false ≡ false). unsettled x u)
          (cases_Bool (get_or (op_at v i).settled q false)))
          (λ (x : (request_at p i).count ≤ q).
          past (request_at p i).count (op_at w i) (shown i q) (why i q) (fate_in i q w.commands) q b z x
          ∙ (sym (past (request_at p i).count (op_at v i) (shown i q) (why i q) (fate_in i q v.commands) q a z x) ∙ rest (λ k d. omega arith)))
          (cases_lt q (request_at p i).count)

-- ---- nothing but a phase changes, and no op goes

pub still : (p : Plan) (v w : View) (shown new : ℕ → ℕ → List ℕ) (why : ℕ → ℕ → Option Why) → w.commands ≡ v.commands → ((j : ℕ) → is_waiting (op_at w j).phase ≡ is_waiting (op_at v j).phase) → ((j : ℕ) → (op_at w j).cut ≡ (op_at v j).cut) → ((j : ℕ) → (op_at w j).settled ≡ (op_at v j).settled) →
    ((j q : ℕ) → (request_at p j).count ≡ 0 → new j q ≡ shown j q) → (j q : ℕ) → status_in p w new why j q ≡ status_in p v shown why j q
still p v w shown new why c a b t s zero q = refl
still p v w shown new why c a b t s (suc j) q =
    ap (λ (x : Bool). form x (op_at w j).cut (op_at w j).settled (new j q) (fate_in j q w.commands)) (a j)
    ∙ (ap (λ (x : ℕ). form (is_waiting (op_at v j).phase) x (op_at w j).settled (new j q) (fate_in j q w.commands)) (b j)
    ∙ (ap (λ (x : List Bool). form (is_waiting (op_at v j).phase) (op_at v j).cut x (new j q) (fate_in j q w.commands)) (t j)
    ∙ (ap (λ (cs : List Command). form (is_waiting (op_at v j).phase) (op_at v j).cut (op_at v j).settled (new j q) (fate_in j q cs)) c
    ∙ ⊎_elim
    (λ (e : eqb (request_at p j).count 0 ≡ true). ap (λ (x : List ℕ). form (is_waiting (op_at v j).phase) (op_at v j).cut (op_at v j).settled x (fate_in j q v.commands)) (s j q (eqb-true (request_at p j).count 0 e)))
    (λ (e : eqb (request_at p j).count 0 ≡ false). rw e refl)
    (cases_Bool (eqb (request_at p j).count 0)))))
  where
    form : Bool → ℕ → List Bool → List ℕ → Fate → Status
    form waits cut settled shown f = if waits then Waits else if eqb (request_at p j).count 0 then Done shown else if nat_lt q (request_at p j).count then (if get_or settled q false then Settled (why j q) else if nat_le cut q then Admitted else sent_as f) else Waits
