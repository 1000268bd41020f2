-- Blocks that move on one after another.
use Rattle.std.proofs.Common.{◌≡◌, ℕ, ◌+◌, false, true, List, [], ◌∷◌, refl, sym, ap, subst, ◌∙◌}
use Rattle.std.proofs.lemmas.Bool.{false≢true}
use Rattle.block_path.specs.Acts.{State, act}
use Rattle.block_path.specs.Blocks.{Sent}
use Rattle.block_path.specs.Serial.{plain}
use Rattle.block_path.proofs.InTurn.{plain_append}
use Rattle.run_laws.specs.Passed.{Setting, Op}
use Rattle.run_laws.specs.BoundRun.{fates, rooms}
use Rattle.run_laws.specs.ScriptMoves.{own_at}
use Rattle.stack_walk_laws.specs.Following.{Becomes, Follows}
use Rattle.stack_walk_laws.specs.Gate.{BlockSpot, is_over, number, parts_at, place}
use Rattle.stack_walk_laws.specs.Pieces.{AllMayMove, IsNoneOf, all_cut, all_made, with_all}
use Rattle.stack_walk_laws.specs.Sending.{with_status}
use Rattle.stack_walk_laws.specs.Slots.{Admitted, Cut, Status, Waits}
use Rattle.stack_walk_laws.proofs.Moving.{admitted, cut}
use Rattle.stack_walk_laws.proofs.Quietly.{cut_quiet, made_quiet}
use Rattle.stack_walk_laws.proofs.Sends.{lets_stay, with_here, with_other}

becomes : (s : BlockSpot) (next : Status) (old : ℕ → ℕ → Status) → Becomes (number s) (place s) next old (with_status (number s) (place s) next old)
becomes s next old = record { here = with_here (number s) (place s) (number s) (place s) next old refl refl; elsewhere = λ j l h. with_other (number s) (place s) j l next old h }

module _ (m : Setting) (n : ℕ) (ops : List Op) where
  others_may : (s : BlockSpot) (was next : Status) (status : ℕ → ℕ → Status) (spots : List BlockSpot) → is_over was ≡ false → status (number s) (place s) ≡ was → IsNoneOf s spots → AllMayMove m n ops status was spots →
      AllMayMove m n ops (with_status (number s) (place s) next status) was spots
  others_may s was next status [] o c e h = tt
  others_may s was next status (t ∷ spots) o c e h =
      let may = h.1.0 in
      let new = with_status (number s) (place s) next status in
      let same = λ (i l : ℕ) (over : is_over (status i l) ≡ true).
      with_other (number s) (place s) i l next status (λ p q. false≢true (sym o ∙ ap is_over (sym c ∙ sym (ap (λ j. status j (place s)) p) ∙ sym (ap (status i) q)) ∙ over)) in (
        h.0,
        (
          record { one = may.one; placed = may.placed; mine = may.mine; spread = may.spread; steps = may.steps; lets = lets_stay m status new 1 t.front (number t) t.op same may.lets },
          (with_other (number s) (place s) (number t) (place t) next status e.0 ∙ h.1.1.0, (h.1.1.1.0, others_may s was next status spots o c e.1 h.1.1.1.1)),
        ),
      )

  module _ (opening : State) where
    pub all_admitted : (spots : List BlockSpot) (now : State) (status : ℕ → ℕ → Status) (es : List Sent) → AllMayMove m n ops status Waits spots → Follows m n ops opening status now es →
        Follows m n ops opening (with_all spots Admitted status) (plain act (all_made m n spots) now) es
    all_admitted [] now status es may h = h
    all_admitted (s ∷ spots) now status es may h =
        let new = with_status (number s) (place s) Admitted status in
        let run = (parts_at m n s).made in
        let mine = subst (λ o. Follows m n o opening status now es) (sym may.0) h in
        let one = admitted m n s opening now status new es may.1.0 mine may.1.1.0 (becomes s Admitted status) (made_quiet m (own_at (n + rooms m s.front) (place s)) (fates s.front + place s) s.step) in
        let there = subst (λ o. Follows m n o opening new (plain act run now) es) may.0 one in
        subst (λ s'. Follows m n ops opening (with_all spots Admitted new) s' es) (sym (plain_append act run (all_made m n spots) now))
        (all_admitted spots (plain act run now) new es (others_may s Waits Admitted status spots refl may.1.1.0 may.1.1.1.0 may.1.1.1.1) there)

    pub all_are_cut : (spots : List BlockSpot) (now : State) (status : ℕ → ℕ → Status) (es : List Sent) → AllMayMove m n ops status Admitted spots → Follows m n ops opening status now es →
        Follows m n ops opening (with_all spots Cut status) (plain act (all_cut m n spots) now) es
    all_are_cut [] now status es may h = h
    all_are_cut (s ∷ spots) now status es may h =
        let new = with_status (number s) (place s) Cut status in
        let run = (parts_at m n s).cut in
        let mine = subst (λ o. Follows m n o opening status now es) (sym may.0) h in
        let one = cut m n s opening now status new es may.1.0 mine may.1.1.0 (becomes s Cut status) (cut_quiet m (own_at (n + rooms m s.front) (place s)) (fates s.front + place s) s.step) in
        let there = subst (λ o. Follows m n o opening new (plain act run now) es) may.0 one in
        subst (λ s'. Follows m n ops opening (with_all spots Cut new) s' es) (sym (plain_append act run (all_cut m n spots) now))
        (all_are_cut spots (plain act run now) new es (others_may s Admitted Cut status spots refl may.1.1.0 may.1.1.1.0 may.1.1.1.1) there)
