-- The relation on what was done is kept by one more act, and says all at last.
use Rattle.std.proofs.Common.{◌≡◌, ℕ, zero, suc, ◌<◌, Bool, false, List, [], ◌∷◌, length, map, get_or, set, Option, Some, None, refl, sym, ap, ◌∙◌, arith}
use Rattle.std.proofs.lemmas.List.{length-set}
use Rattle.block_path.specs.Serial.{Commutes, plain, plain_tells, walk, Answered, FreeOfDone, FreeFrom, Clear, InOrder, MayAct, Serial, Leads, none_done, all_done, Apart, AllApart}

module _ {S A R : Type 0} (act : A → S → S) (tell : A → S → R) (conflicts : A → A → Bool) (c : Commutes act tell conflicts) where
  push : (a : A) (acts : List A) (ds : List (Option R)) (s : S) → FreeOfDone conflicts a acts ds → walk act acts ds (act a s) ≡ act a (walk act acts ds s)
  push a [] ds s h = refl
  push a (b ∷ acts) [] s h = refl
  push a (b ∷ acts) (None ∷ ds) s h = push a acts ds s h
  push a (b ∷ acts) (Some r ∷ ds) s h = ap (walk act acts ds) (sym (c.states a b s h.0)) ∙ push a acts ds (act b s) h.1

  push_tell : (a : A) (acts : List A) (ds : List (Option R)) (s : S) → FreeOfDone conflicts a acts ds → tell a (walk act acts ds s) ≡ tell a s
  push_tell a [] ds s h = refl
  push_tell a (b ∷ acts) [] s h = refl
  push_tell a (b ∷ acts) (None ∷ ds) s h = push_tell a acts ds s h
  push_tell a (b ∷ acts) (Some r ∷ ds) s h = push_tell a acts ds (act b s) h.1 ∙ c.first a b s h.0

  pub push_answered : (a : A) (acts : List A) (ds : List (Option R)) (s : S) → FreeOfDone conflicts a acts ds → Answered act tell acts ds s → Answered act tell acts ds (act a s)
  push_answered a [] ds s h k = tt
  push_answered a (b ∷ acts) [] s h k = tt
  push_answered a (b ∷ acts) (None ∷ ds) s h k = push_answered a acts ds s h k
  push_answered a (b ∷ acts) (Some r ∷ ds) s h k =
      (k.0 ∙ sym (c.second a b s h.0), rw (← c.states a b s h.0) (push_answered a acts ds (act b s) h.1 k.1))

  -- one more act, whichever: the state is the walk's, and the answers are
  pub done_walk : (acts : List A) (ds : List (Option R)) (i : ℕ) (a : A) (r : R) (s : S) → i < length acts → get_or acts i a ≡ a → get_or ds i (Some r) ≡ None →
      FreeFrom conflicts i a acts ds → walk act acts (set ds i (Some r)) s ≡ act a (walk act acts ds s)
  done_walk [] ds i a r s l e n h = absurd (omega arith)
  done_walk (b ∷ acts) [] i a r s l e n h = cc
  done_walk (b ∷ acts) (None ∷ ds) zero a r s l e n h = rw e (push a acts ds s h)
  done_walk (b ∷ acts) (Some x ∷ ds) zero a r s l e n h = cc
  done_walk (b ∷ acts) (None ∷ ds) (suc i) a r s l e n h = done_walk acts ds i a r s (omega arith) e n h
  done_walk (b ∷ acts) (Some x ∷ ds) (suc i) a r s l e n h = done_walk acts ds i a r (act b s) (omega arith) e n h

  pub done_answered : (acts : List A) (ds : List (Option R)) (i : ℕ) (a : A) (r : R) (s : S) → i < length acts → get_or acts i a ≡ a → get_or ds i (Some r) ≡ None →
      FreeFrom conflicts i a acts ds → r ≡ tell a (walk act acts ds s) → Answered act tell acts ds s → Answered act tell acts (set ds i (Some r)) s
  done_answered [] ds i a r s l e n h t k = tt
  done_answered (b ∷ acts) [] i a r s l e n h t k = cc
  done_answered (b ∷ acts) (None ∷ ds) zero a r s l e n h t k = rw e (t ∙ push_tell a acts ds s h, push_answered a acts ds s h k)
  done_answered (b ∷ acts) (Some x ∷ ds) zero a r s l e n h t k = cc
  done_answered (b ∷ acts) (None ∷ ds) (suc i) a r s l e n h t k = done_answered acts ds i a r s (omega arith) e n h t k
  done_answered (b ∷ acts) (Some x ∷ ds) (suc i) a r s l e n h t k = (k.0, done_answered acts ds i a r (act b s) (omega arith) e n h t k.1)

-- what the gate keeps is what the walk needs
pub free_at : {A R : Type 0} (conflicts : A → A → Bool) (acts : List A) (ds : List (Option R)) (i : ℕ) (a : A) (r : R) → get_or acts i a ≡ a → get_or ds i (Some r) ≡ None →
    InOrder conflicts acts ds → FreeFrom conflicts i a acts ds
free_at conflicts [] ds i a r e n h = tt
free_at conflicts (b ∷ acts) [] i a r e n h = tt
free_at conflicts (b ∷ acts) (None ∷ ds) zero a r e n h = rw (← e) h.0
free_at conflicts (b ∷ acts) (Some x ∷ ds) zero a r e n h = cc
free_at conflicts (b ∷ acts) (None ∷ ds) (suc i) a r e n h = free_at conflicts acts ds i a r e n h.1
free_at conflicts (b ∷ acts) (Some x ∷ ds) (suc i) a r e n h = free_at conflicts acts ds i a r e n h

free_set : {A R : Type 0} (conflicts : A → A → Bool) (b : A) (acts : List A) (ds : List (Option R)) (i : ℕ) (a : A) (r : R) → get_or acts i a ≡ a → conflicts b a ≡ false →
    FreeOfDone conflicts b acts ds → FreeOfDone conflicts b acts (set ds i (Some r))
free_set conflicts b [] ds i a r e n h = tt
free_set conflicts b (q ∷ acts) [] i a r e n h = tt
free_set conflicts b (q ∷ acts) (None ∷ ds) zero a r e n h = (rw e n, h)
free_set conflicts b (q ∷ acts) (Some x ∷ ds) zero a r e n h = (h.0, h.1)
free_set conflicts b (q ∷ acts) (None ∷ ds) (suc i) a r e n h = free_set conflicts b acts ds i a r e n h
free_set conflicts b (q ∷ acts) (Some x ∷ ds) (suc i) a r e n h = (h.0, free_set conflicts b acts ds i a r e n h.1)

pub stays_in_order : {A R : Type 0} (conflicts : A → A → Bool) (acts : List A) (ds : List (Option R)) (i : ℕ) (a : A) (r : R) → get_or acts i a ≡ a → Clear conflicts i a acts ds →
    InOrder conflicts acts ds → InOrder conflicts acts (set ds i (Some r))
stays_in_order conflicts [] ds i a r e n h = tt
stays_in_order conflicts (b ∷ acts) [] i a r e n h = tt
stays_in_order conflicts (b ∷ acts) (None ∷ ds) zero a r e n h = h.1
stays_in_order conflicts (b ∷ acts) (Some x ∷ ds) zero a r e n h = h
stays_in_order conflicts (b ∷ acts) (None ∷ ds) (suc i) a r e n h = (free_set conflicts b acts ds i a r e n.0 h.0, stays_in_order conflicts acts ds i a r e n.1 h.1)
stays_in_order conflicts (b ∷ acts) (Some x ∷ ds) (suc i) a r e n h = stays_in_order conflicts acts ds i a r e n h

module _ {S A R : Type 0} (act : A → S → S) (tell : A → S → R) (conflicts : A → A → Bool) where
  pub begins : (acts : List A) (s : S) → Serial act tell conflicts acts s (none_done acts) s
  begins [] s = record { state = refl; answers = tt; order = tt }
  begins (a ∷ acts) s = let h = begins acts s in record { state = h.state; answers = h.answers; order = (nothing a acts, h.order) } where
    nothing : (a : A) (acts : List A) → FreeOfDone conflicts a acts (none_done {R = R} acts)
    nothing a [] = tt
    nothing a (b ∷ acts) = nothing a acts

  pub goes_on : (c : Commutes act tell conflicts) (acts : List A) (opening : S) (done : List (Option R)) (now : S) (i : ℕ) (a : A) → Serial act tell conflicts acts opening done now →
      MayAct conflicts acts done i a → Serial act tell conflicts acts opening (set done i (Some (tell a now))) (act a now)
  goes_on c acts opening done now i a h m =
      let free = free_at conflicts acts done i a (tell a now) m.is_there (m.is_new (Some (tell a now))) h.order in
      record {
        state = ap (act a) h.state ∙ sym (done_walk act tell conflicts c acts done i a (tell a now) opening m.within m.is_there (m.is_new (Some (tell a now))) free);
        answers = done_answered act tell conflicts c acts done i a (tell a now) opening m.within m.is_there (m.is_new (Some (tell a now))) free (ap (tell a) h.state) h.answers;
        order = stays_in_order conflicts acts done i a (tell a now) m.is_there m.clear h.order;
      }

  pub leads : (c : Commutes act tell conflicts) (acts : List A) (opening : S) (is : List ℕ) (ds : List (Option R)) (s : S) (es : List (Option R)) (t : S) →
      Serial act tell conflicts acts opening ds s → Leads act tell conflicts acts is ds s es t → Serial act tell conflicts acts opening es t
  leads c acts opening [] ds s es t h l = rw (l.0, l.1) h
  leads c acts opening (i ∷ is) ds s es t h l = leads c acts opening is _ _ es t (goes_on c acts opening ds s i l.0 h l.1) l.2

-- where all were done
whole_walk : {S A R : Type 0} (act : A → S → S) (acts : List A) (rs : List R) (s : S) → length rs ≡ length acts → walk act acts (all_done rs) s ≡ plain act acts s
whole_walk act [] rs s l = refl
whole_walk act (a ∷ acts) [] s l = absurd (omega arith)
whole_walk act (a ∷ acts) (r ∷ rs) s l = whole_walk act acts rs (act a s) (omega arith)

whole_tells : {S A R : Type 0} (act : A → S → S) (tell : A → S → R) (acts : List A) (rs : List R) (s : S) → length rs ≡ length acts →
    Answered act tell acts (all_done rs) s → rs ≡ plain_tells act tell acts s
whole_tells act tell [] [] s l k = refl
whole_tells act tell [] (r ∷ rs) s l k = absurd (omega arith)
whole_tells act tell (a ∷ acts) [] s l k = absurd (omega arith)
whole_tells act tell (a ∷ acts) (r ∷ rs) s l k = let h = k.0 in let t = whole_tells act tell acts rs (act a s) (omega arith) k.1 in cc

pub none_length : {A : Type 0} (R : Type 0) (acts : List A) → length (none_done {R = R} acts) ≡ length acts
none_length R [] = refl
none_length R (a ∷ acts) = ap suc (none_length R acts)

pub all_length : {R : Type 0} (rs : List R) → length (all_done rs) ≡ length rs
all_length [] = refl
all_length (r ∷ rs) = ap suc (all_length rs)

pub ends : {S A R : Type 0} (act : A → S → S) (tell : A → S → R) (conflicts : A → A → Bool) (acts : List A) (opening : S) (rs : List R) (now : S) →
    length rs ≡ length acts → Serial act tell conflicts acts opening (all_done rs) now → (now ≡ plain act acts opening) × (rs ≡ plain_tells act tell acts opening)
ends act tell conflicts acts opening rs now l h = (h.state ∙ whole_walk act acts rs opening l, whole_tells act tell acts rs opening l h.answers)

pub leads_length : {S A R : Type 0} (act : A → S → S) (tell : A → S → R) (conflicts : A → A → Bool) (acts : List A) (is : List ℕ) (ds : List (Option R)) (s : S) (es : List (Option R)) (t : S) →
    Leads act tell conflicts acts is ds s es t → length es ≡ length ds
leads_length act tell conflicts acts [] ds s es t l = ap length l.0
leads_length act tell conflicts acts (i ∷ is) ds s es t l = leads_length act tell conflicts acts is _ _ es t l.2 ∙ length-set ds i (Some (tell l.0 s))

-- any order: what was done is the walk of what was done
pub any_order : {S A R : Type 0} (act : A → S → S) (tell : A → S → R) (conflicts : A → A → Bool) (c : Commutes act tell conflicts) (acts : List A) (is : List ℕ) (s : S) (es : List (Option R)) (t : S) →
    Leads act tell conflicts acts is (none_done acts) s es t → Serial act tell conflicts acts s es t
any_order act tell conflicts c acts is s es t l = leads act tell conflicts c acts s is (none_done acts) s es t (begins act tell conflicts acts s) l

pub any_whole_order : {S A R : Type 0} (act : A → S → S) (tell : A → S → R) (conflicts : A → A → Bool) (c : Commutes act tell conflicts) (acts : List A) (is : List ℕ) (s : S) (rs : List R) (t : S) →
    Leads act tell conflicts acts is (none_done acts) s (all_done rs) t → (t ≡ plain act acts s) × (rs ≡ plain_tells act tell acts s)
any_whole_order {R = R} act tell conflicts c acts is s rs t l =
    ends act tell conflicts acts s rs t (sym (all_length rs) ∙ leads_length act tell conflicts acts is (none_done acts) s (all_done rs) t l ∙ none_length R acts) (any_order act tell conflicts c acts is s (all_done rs) t l)

-- what acts that don't conflict answer at once, they answer one after another: one exchange of several blocks
pub at_once : {S A R : Type 0} (act : A → S → S) (tell : A → S → R) (conflicts : A → A → Bool) (c : Commutes act tell conflicts) (acts : List A) (s : S) →
    AllApart conflicts acts → plain_tells act tell acts s ≡ map (λ a. tell a s) acts
at_once act tell conflicts c [] s h = refl
at_once {A = A} act tell conflicts c (a ∷ acts) s h =
    ap (λ rs. tell a s ∷ rs) (at_once act tell conflicts c acts (act a s) h.1 ∙ still acts h.0) where
      still : (others : List A) → Apart conflicts a others → map (λ b. tell b (act a s)) others ≡ map (λ b. tell b s) others
      still [] k = refl
      still (b ∷ others) k = let x = c.second a b s k.0 in let rest = still others k.1 in cc
