-- Acts with the same cells that do the same where they were done may stand for one another.
use Rattle.std.proofs.Common.{◌≡◌, Bool, List, [], ◌∷◌, Option, Some, None, refl, sym, ap, ◌∙◌}
use Rattle.block_path.specs.Serial.{Alike, StandFor, walk, Answered, FreeOfDone, InOrder, Serial}

module _ {S A R : Type 0} (act : A → S → S) (tell : A → S → R) (conflicts : A → A → Bool) where
  same_walk : (acts bs : List A) (ds : List (Option R)) (s : S) → StandFor act tell conflicts acts bs ds s → walk act acts ds s ≡ walk act bs ds s
  same_walk [] bs ds s h = ap (λ xs. walk act xs ds s) (sym h)
  same_walk (a ∷ acts) [] ds s h = absurd h
  same_walk (a ∷ acts) (b ∷ bs) [] s h = refl
  same_walk (a ∷ acts) (b ∷ bs) (None ∷ ds) s h = same_walk acts bs ds s h.1
  same_walk (a ∷ acts) (b ∷ bs) (Some r ∷ ds) s h = same_walk acts bs ds (act a s) h.1.1.1 ∙ ap (walk act bs ds) h.1.0

  same_answers : (acts bs : List A) (ds : List (Option R)) (s : S) → StandFor act tell conflicts acts bs ds s → Answered act tell acts ds s → Answered act tell bs ds s
  same_answers [] bs ds s h k = rw h tt
  same_answers (a ∷ acts) [] ds s h k = absurd h
  same_answers (a ∷ acts) (b ∷ bs) [] s h k = tt
  same_answers (a ∷ acts) (b ∷ bs) (None ∷ ds) s h k = same_answers acts bs ds s h.1 k
  same_answers (a ∷ acts) (b ∷ bs) (Some r ∷ ds) s h k = (k.0 ∙ h.1.1.0, rw (← h.1.0) (same_answers acts bs ds (act a s) h.1.1.1 k.1))

  same_free : (x : A) (acts bs : List A) (ds : List (Option R)) (s : S) → StandFor act tell conflicts acts bs ds s → FreeOfDone conflicts x acts ds → FreeOfDone conflicts x bs ds
  same_free x [] bs ds s h k = rw h tt
  same_free x (a ∷ acts) [] ds s h k = absurd h
  same_free x (a ∷ acts) (b ∷ bs) [] s h k = tt
  same_free x (a ∷ acts) (b ∷ bs) (None ∷ ds) s h k = same_free x acts bs ds s h.1 k
  same_free x (a ∷ acts) (b ∷ bs) (Some r ∷ ds) s h k = (sym (h.0.one x) ∙ k.0, same_free x acts bs ds (act a s) h.1.1.1 k.1)

  other_free : (a b : A) (acts : List A) (ds : List (Option R)) → Alike conflicts a b → FreeOfDone conflicts a acts ds → FreeOfDone conflicts b acts ds
  other_free a b [] ds h k = tt
  other_free a b (x ∷ acts) [] h k = tt
  other_free a b (x ∷ acts) (None ∷ ds) h k = other_free a b acts ds h k
  other_free a b (x ∷ acts) (Some r ∷ ds) h k = (sym (h.other x) ∙ k.0, other_free a b acts ds h k.1)

  same_order : (acts bs : List A) (ds : List (Option R)) (s : S) → StandFor act tell conflicts acts bs ds s → InOrder conflicts acts ds → InOrder conflicts bs ds
  same_order [] bs ds s h k = rw h tt
  same_order (a ∷ acts) [] ds s h k = absurd h
  same_order (a ∷ acts) (b ∷ bs) [] s h k = tt
  same_order (a ∷ acts) (b ∷ bs) (None ∷ ds) s h k = (other_free a b bs ds h.0 (same_free a acts bs ds s h.1 k.0), same_order acts bs ds s h.1 k.1)
  same_order (a ∷ acts) (b ∷ bs) (Some r ∷ ds) s h k = same_order acts bs ds (act a s) h.1.1.1 k

  pub stand_for : (acts bs : List A) (opening : S) (ds : List (Option R)) (now : S) → StandFor act tell conflicts acts bs ds opening → Serial act tell conflicts acts opening ds now → Serial act tell conflicts bs opening ds now
  stand_for acts bs opening ds now h k = record {
    state = k.state ∙ same_walk acts bs ds opening h;
    answers = same_answers acts bs ds opening h k.answers;
    order = same_order acts bs ds opening h k.order;
  }
  -- the outcome of an act is chosen when it is done
