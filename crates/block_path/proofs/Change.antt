-- An act that isn't done may become another that conflicts with no more: so a block's fate need not be known before it acts. What was done is final.
use Rattle.std.proofs.Common.{◌≡◌, ℕ, zero, suc, Bool, false, List, [], ◌∷◌, get_or, set, Option, Some, None, refl, sym, subst, ◌∙◌}
use Rattle.block_path.specs.Serial.{walk, Answered, AgreesWith, Commutes, FreeOfDone, InOrder, Serial, plain_tells}
use Rattle.block_path.proofs.Serial.{push_answered}

module _ {S A R : Type 0} (act : A → S → S) (tell : A → S → R) (conflicts : A → A → Bool) (a a' : A) where
  same_walk : (acts : List A) (ds : List (Option R)) (i : ℕ) (s : S) → ((d : Option R) → get_or ds i d ≡ None) → walk act (set acts i a') ds s ≡ walk act acts ds s
  same_walk [] ds i s h = refl
  same_walk (b ∷ acts) [] zero s h = refl
  same_walk (b ∷ acts) [] (suc i) s h = refl
  same_walk (b ∷ acts) (None ∷ ds) zero s h = refl
  same_walk (b ∷ acts) (Some r ∷ ds) zero s h = let k = h None in cc
  same_walk (b ∷ acts) (None ∷ ds) (suc i) s h = same_walk acts ds i s h
  same_walk (b ∷ acts) (Some r ∷ ds) (suc i) s h = same_walk acts ds i (act b s) h

  still_answered : (acts : List A) (ds : List (Option R)) (i : ℕ) (s : S) → ((d : Option R) → get_or ds i d ≡ None) → Answered act tell acts ds s → Answered act tell (set acts i a') ds s
  still_answered [] ds i s h k = tt
  still_answered (b ∷ acts) [] zero s h k = tt
  still_answered (b ∷ acts) [] (suc i) s h k = tt
  still_answered (b ∷ acts) (None ∷ ds) zero s h k = k
  still_answered (b ∷ acts) (Some r ∷ ds) zero s h k = let e = h None in cc
  still_answered (b ∷ acts) (None ∷ ds) (suc i) s h k = still_answered acts ds i s h k
  still_answered (b ∷ acts) (Some r ∷ ds) (suc i) s h k = (k.0, still_answered acts ds i (act b s) h k.1)

  free_less : ((b : A) → conflicts a b ≡ false → conflicts a' b ≡ false) → (acts : List A) (ds : List (Option R)) → FreeOfDone conflicts a acts ds → FreeOfDone conflicts a' acts ds
  free_less less [] ds k = tt
  free_less less (b ∷ acts) [] k = tt
  free_less less (b ∷ acts) (None ∷ ds) k = free_less less acts ds k
  free_less less (b ∷ acts) (Some r ∷ ds) k = (less b k.0, free_less less acts ds k.1)

  still_free : (c : A) (acts : List A) (ds : List (Option R)) (i : ℕ) → ((d : Option R) → get_or ds i d ≡ None) → FreeOfDone conflicts c acts ds → FreeOfDone conflicts c (set acts i a') ds
  still_free c [] ds i h k = tt
  still_free c (b ∷ acts) [] zero h k = tt
  still_free c (b ∷ acts) [] (suc i) h k = tt
  still_free c (b ∷ acts) (None ∷ ds) zero h k = k
  still_free c (b ∷ acts) (Some r ∷ ds) zero h k = let e = h None in cc
  still_free c (b ∷ acts) (None ∷ ds) (suc i) h k = still_free c acts ds i h k
  still_free c (b ∷ acts) (Some r ∷ ds) (suc i) h k = (k.0, still_free c acts ds i h k.1)

  still_in_order : ((b : A) → conflicts a b ≡ false → conflicts a' b ≡ false) → (acts : List A) (ds : List (Option R)) (i : ℕ) → get_or acts i a ≡ a → ((d : Option R) → get_or ds i d ≡ None) →
      InOrder conflicts acts ds → InOrder conflicts (set acts i a') ds
  still_in_order less [] ds i e h k = tt
  still_in_order less (b ∷ acts) [] zero e h k = tt
  still_in_order less (b ∷ acts) [] (suc i) e h k = tt
  still_in_order less (b ∷ acts) (None ∷ ds) zero e h k = (free_less less acts ds (subst (λ x. FreeOfDone conflicts x acts ds) e k.0), k.1)
  still_in_order less (b ∷ acts) (Some r ∷ ds) zero e h k = let q = h None in cc
  still_in_order less (b ∷ acts) (None ∷ ds) (suc i) e h k = (still_free b acts ds i h k.0, still_in_order less acts ds i e h k.1)
  still_in_order less (b ∷ acts) (Some r ∷ ds) (suc i) e h k = still_in_order less acts ds i e h k

  pub changed : (acts : List A) (opening now : S) (ds : List (Option R)) (i : ℕ) → get_or acts i a ≡ a → ((d : Option R) → get_or ds i d ≡ None) → ((b : A) → conflicts a b ≡ false → conflicts a' b ≡ false) →
      Serial act tell conflicts acts opening ds now → Serial act tell conflicts (set acts i a') opening ds now
  changed acts opening now ds i e h less k = record {
    state = k.state ∙ sym (same_walk acts ds i opening h);
    answers = still_answered acts ds i opening h k.answers;
    order = still_in_order less acts ds i e h k.order;
  }

module _ {S A R : Type 0} (act : A → S → S) (tell : A → S → R) (conflicts : A → A → Bool) (c : Commutes act tell conflicts) where
  final_from : (acts : List A) (ds : List (Option R)) (s : S) → Answered act tell acts ds s → InOrder conflicts acts ds → AgreesWith ds (plain_tells act tell acts s)
  final_from [] [] s h o = tt
  final_from [] (d ∷ ds) s h o = tt
  final_from (a ∷ acts) [] s h o = tt
  final_from (a ∷ acts) (None ∷ ds) s h o = final_from acts ds (act a s) (push_answered act tell conflicts c a acts ds s o.0 h) o.1
  final_from (a ∷ acts) (Some r ∷ ds) s h o = (h.0, final_from acts ds (act a s) h.1 o)

  pub final : (acts : List A) (opening now : S) (ds : List (Option R)) → Serial act tell conflicts acts opening ds now → AgreesWith ds (plain_tells act tell acts opening)
  final acts opening now ds h = final_from acts ds opening h.answers h.order
