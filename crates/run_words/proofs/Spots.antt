-- Which place a block has, and what is known when one more spot is noted.
use Rattle.std.proofs.Common.{ℕ, zero, suc, ◌≡◌, ◌+◌, ◌≤◌, ◌<◌, ◌≢◌, Bool, true, false, cond, eqb, ltb, ◌&&◌, List, [], ◌∷◌, ◌++◌, length, take, drop, get_or, Option, Some, None, refl, sym, ap, subst, ◌∙◌, arith, true≢false}
use Rattle.std.proofs.lemmas.Bool.{eqb-true, lt-ltb, ltb-true}
use Rattle.std.proofs.lemmas.List.{get_or-set_other, get_or-set_same}
use Rattle.small_laws.proofs.Tests.{and_first, and_second, eqb_self}
use Rattle.fault_schedule.specs.declared.Label.{Label}
use Rattle.rig_api.specs.Log.{LogEntry, entry_at}
use Rattle.run_words.specs.Lies.{MovedBlock, frame_for, is_labelled, label_of, request_in}
use Rattle.run_words.specs.Ledgers.{IsLaidOut, IsSpotOf, Knows, StandInTurn, first_kept, noted, noted_at, place_at, place_by, place_for, place_in_op}
use Rattle.run_words.specs.declared.asked.Asked.{Asked}
use Rattle.run_words.specs.declared.ledger.Ledger.{Ledger}
use Rattle.run_words.specs.declared.ledger.Spot.{Spot}

-- ---- places

pub in_turn : (s : ℕ) (asked : List Asked) (end : ℕ) → StandInTurn s asked end → s ≤ end
in_turn s [] end h = omega (arith, h)
in_turn s (a ∷ asked) end h = let more = in_turn (s + a.count) asked end h.1 in omega (arith, more)

pub within : (i k s : ℕ) (asked : List Asked) (end : ℕ) → StandInTurn s asked end → k < (request_in asked i).count → (request_in asked i).start + k < end
within i k s [] end h lt = absurd (omega (arith, lt))
within zero k s (a ∷ asked) end h lt = let more = in_turn (s + a.count) asked end h.1 in let first = h.0 in omega (arith, more, first, lt)
within (suc i) k s (a ∷ asked) end h lt = within i k (s + a.count) asked end h.1 lt

begins_behind : (i k s : ℕ) (asked : List Asked) (end : ℕ) → StandInTurn s asked end → k < (request_in asked i).count → s ≤ (request_in asked i).start
begins_behind i k s [] end h lt = absurd (omega (arith, lt))
begins_behind zero k s (a ∷ asked) end h lt = let first = h.0 in omega (arith, first)
begins_behind (suc i) k s (a ∷ asked) end h lt = let more = begins_behind i k (s + a.count) asked end h.1 lt in omega (arith, more)

-- how many blocks the ops before op i have
pub ends_of : List Asked → ℕ → ℕ
ends_of [] i = 0
ends_of (a ∷ asked) zero = 0
ends_of (a ∷ asked) (suc i) = a.count + ends_of asked i

pub ends_next : (i : ℕ) (asked : List Asked) → ends_of asked i + (request_in asked i).count ≡ ends_of asked (suc i)
unfolding ends_of
ends_next i [] = refl
ends_next zero (a ∷ []) = omega arith
ends_next zero (a ∷ (b ∷ asked)) = omega arith
ends_next (suc i) (a ∷ asked) = let more = ends_next i asked in omega (arith, more)

pub ends_within : (i s : ℕ) (asked : List Asked) (end : ℕ) → StandInTurn s asked end → s + ends_of asked i ≤ end
unfolding ends_of
ends_within i s [] end h = omega (arith, h)
ends_within zero s (a ∷ asked) end h = let more = in_turn s (a ∷ asked) end h in omega (arith, more)
ends_within (suc i) s (a ∷ asked) end h = let more = ends_within i (s + a.count) asked end h.1 in omega (arith, more)

pub record Same (i j k l : ℕ) : Type 0 where
  pub op : i ≡ j
  pub block : k ≡ l

pub apart : (i j k l s : ℕ) (asked : List Asked) (end : ℕ) → StandInTurn s asked end → k < (request_in asked i).count → l < (request_in asked j).count → (request_in asked i).start + k ≡ (request_in asked j).start + l → Same i j k l
apart i j k l s [] end h a b e = absurd (omega (arith, a))
apart zero zero k l s (x ∷ asked) end h a b e = record { op = refl; block = omega (arith, e) }
apart zero (suc j) k l s (x ∷ asked) end h a b e =
    let more = begins_behind j l (s + x.count) asked end h.1 b in let first = h.0 in absurd (omega (arith, more, first, a, e))
apart (suc i) zero k l s (x ∷ asked) end h a b e =
    let more = begins_behind i k (s + x.count) asked end h.1 a in let first = h.0 in absurd (omega (arith, more, first, b, e))
apart (suc i) (suc j) k l s (x ∷ asked) end h a b e = let rest = apart i j k l (s + x.count) asked end h.1 a b e in record { op = ap suc rest.op; block = rest.block }

-- the block of a place
pub record IsPlaceOf (asked : List Asked) (op k place : ℕ) : Type 0 where
  pub i : ℕ
  pub op_is : op ≡ suc i
  pub inside : k < (request_in asked i).count
  pub place_is : (request_in asked i).start + k ≡ place

some_same : (p q : ℕ) → Some p ≡ Some q → p ≡ q
some_same p q e = cc

in_op : (t : Bool) (asked : List Asked) (i k place : ℕ) → ltb k (request_in asked i).count ≡ t → place_by t (request_in asked i) k ≡ Some place → IsPlaceOf asked (suc i) k place
in_op true asked i k place t e = record { i = i; op_is = refl; inside = ltb-true k (request_in asked i).count t; place_is = some_same _ _ e }
in_op false asked i k place t e = absurd (grind (arith, e))

pub has_place : (asked : List Asked) (op k place : ℕ) → place_at asked op k ≡ Some place → IsPlaceOf asked op k place
has_place asked zero k place e = absurd (grind (arith, e))
has_place asked (suc i) k place e = in_op (ltb k (request_in asked i).count) asked i k place refl e

pub place_inside : (asked : List Asked) (label : Label) (place end : ℕ) → StandInTurn 0 asked end → place_for asked label ≡ Some place → place < end
place_inside asked label place end h e =
    let p = has_place asked label.op label.k place e in
    let w = within p.i label.k 0 asked end h p.inside in
    omega (arith, w, p.place_is)

pub turn_of : (asked : List Asked) (l : Ledger) → asked ≡ l.asked.items → IsLaidOut l → StandInTurn 0 asked (length l.spots.items)
turn_of asked l e h = subst (λ (x : List Asked). StandInTurn 0 x (length l.spots.items)) (sym e) h.turn

-- ---- one more spot

abbrev or_else : Option (List ℕ) → Option (List ℕ) → Option (List ℕ)
or_else (Some x) y = Some x
or_else None y = y

abbrev only_if : Bool → List ℕ → Option (List ℕ)
only_if true frame = Some frame
only_if false frame = None

cond_first : (t : Bool) (frame : List ℕ) (rest last : Option (List ℕ)) → cond t (Some frame) (or_else rest last) ≡ or_else (cond t (Some frame) rest) last
cond_first true frame rest last = refl
cond_first false frame rest last = refl

cond_last : (t : Bool) (frame : List ℕ) → cond t (Some frame) None ≡ only_if t frame
cond_last true frame = refl
cond_last false frame = refl

frame_behind : (label : Label) (moved : List MovedBlock) (m : MovedBlock) → frame_for label (moved ++ (m ∷ [])) ≡ or_else (frame_for label moved) (only_if (is_labelled label m) m.frame)
frame_behind label [] m = cond_last (is_labelled label m) m.frame
frame_behind label (x ∷ moved) m =
    ap (λ r. cond (is_labelled label x) (Some x.frame) r) (frame_behind label moved m) ∙ cond_first (is_labelled label x) x.frame (frame_for label moved) (only_if (is_labelled label m) m.frame)

-- its own block
own : (size : ℕ) (log : List LogEntry) (spots : List (Option Spot)) (place : ℕ) (spot : Spot) (frame : List ℕ) (f : Option (List ℕ)) (g : Option Spot) → get_or spots place None ≡ g → IsSpotOf size log g f → place < length spots → spot.number < length log
    → take size frame ≡ take size (drop spot.at (entry_at log spot.number).moved) → IsSpotOf size log (get_or (first_kept g spots place spot) place None) (or_else f (Some frame))
own size log spots place spot frame (Some x) (Some old) e h lt r t = subst (λ y. IsSpotOf size log y (Some x)) (sym e) h
own size log spots place spot frame None None e h lt r t = subst (λ y. IsSpotOf size log y (Some frame)) (sym (get_or-set_same spots place (Some spot) None lt)) (r, t)
own size log spots place spot frame None (Some old) e h lt r t = absurd h
own size log spots place spot frame (Some x) None e h lt r t = absurd h

-- another place
stays : (spots : List (Option Spot)) (place other : ℕ) (spot : Spot) (g : Option Spot) → other ≢ place → get_or (first_kept g spots place spot) other None ≡ get_or spots other None
stays spots place other spot (Some old) n = refl
stays spots place other spot None n = get_or-set_other spots place other (Some spot) None n

or_none : (f : Option (List ℕ)) → or_else f None ≡ f
or_none (Some x) = refl
or_none None = refl

module _ (size : ℕ) (asked : List Asked) (log : List LogEntry) (spots : List (Option Spot)) (moved : List MovedBlock) (label : Label) (spot : Spot) (frame : List ℕ) (turn : StandInTurn 0 asked (length spots)) (h : Knows size asked log spots moved) (r : spot.number < length log)
    (t : take size frame ≡ take size (drop spot.at (entry_at log spot.number).moved)) where
  abbrev block : MovedBlock
  block = record { label = label; frame = frame }

  abbrev Known : (i k : ℕ) → Type 0
  Known i k = IsSpotOf size log (get_or (noted asked spots label spot) ((request_in asked i).start + k) None) (frame_for (label_of i k) (moved ++ (block ∷ [])))

  same_op : (i k : ℕ) → is_labelled (label_of i k) block ≡ true → label.op ≡ suc i
  same_op i k e = eqb-true label.op (suc i) (and_first (eqb label.op (suc i)) (eqb label.k k) e)

  same_block : (i k : ℕ) → is_labelled (label_of i k) block ≡ true → label.k ≡ k
  same_block i k e = eqb-true label.k k (and_second (eqb label.op (suc i)) (eqb label.k k) e)

  is_here : (i k : ℕ) → k < (request_in asked i).count → label.op ≡ suc i → label.k ≡ k → place_for asked label ≡ Some ((request_in asked i).start + k)
  is_here i k lt o b = ap (λ x. place_at asked x label.k) o ∙ ap (λ x. place_in_op (request_in asked i) x) b ∙ ap (λ x. place_by x (request_in asked i) k) (lt-ltb k (request_in asked i).count lt)

  here : (i k : ℕ) → k < (request_in asked i).count → is_labelled (label_of i k) block ≡ true → Known i k
  here i k lt e =
      let place = (request_in asked i).start + k in
      let known = own size log spots place spot frame (frame_for (label_of i k) moved) (get_or spots place None) refl (h i k lt) (within i k 0 asked (length spots) turn lt) r t in
      let frames = frame_behind (label_of i k) moved block ∙ ap (λ x. or_else (frame_for (label_of i k) moved) (only_if x frame)) e in
      let spots_are = ap (λ x. get_or (noted_at x spots spot) place None) (is_here i k lt (same_op i k e) (same_block i k e)) in
      subst (λ x. IsSpotOf size log x (frame_for (label_of i k) (moved ++ (block ∷ [])))) (sym spots_are) (subst (λ x. IsSpotOf size log (get_or (first_kept (get_or spots place None) spots place spot) place None) x) (sym frames) known)

  not_here : (i k place : ℕ) → k < (request_in asked i).count → place_for asked label ≡ Some place → is_labelled (label_of i k) block ≡ false → (request_in asked i).start + k ≢ place
  not_here i k place lt e n = λ s.
      let p = has_place asked label.op label.k place e in
      let q = apart p.i i label.k k 0 asked (length spots) turn p.inside lt (p.place_is ∙ sym s) in
      let o : eqb label.op (suc i) ≡ true = ap (λ x. eqb x (suc i)) (p.op_is ∙ ap suc q.op) ∙ eqb_self (suc i) in
      let b : eqb label.k k ≡ true = ap (λ x. eqb x k) q.block ∙ eqb_self k in
      let both : (eqb label.op (suc i) && eqb label.k k) ≡ true = ap (λ x. x && eqb label.k k) o ∙ b in
      true≢false (sym both ∙ n)

  spots_stay : (i k : ℕ) (p : Option ℕ) → k < (request_in asked i).count → place_for asked label ≡ p → is_labelled (label_of i k) block ≡ false → get_or (noted_at p spots spot) ((request_in asked i).start + k) None ≡ get_or spots ((request_in asked i).start + k) None
  spots_stay i k None lt e n = refl
  spots_stay i k (Some place) lt e n = stays spots place ((request_in asked i).start + k) spot (get_or spots place None) (not_here i k place lt e n)

  elsewhere : (i k : ℕ) → k < (request_in asked i).count → is_labelled (label_of i k) block ≡ false → Known i k
  elsewhere i k lt e =
      let frames = frame_behind (label_of i k) moved block ∙ ap (λ x. or_else (frame_for (label_of i k) moved) (only_if x frame)) e ∙ or_none (frame_for (label_of i k) moved) in
      subst (λ x. IsSpotOf size log x (frame_for (label_of i k) (moved ++ (block ∷ [])))) (sym (spots_stay i k (place_for asked label) lt refl e)) (subst (λ x. IsSpotOf size log (get_or spots ((request_in asked i).start + k) None) x) (sym frames) (h i k lt))

  by_label : (i k : ℕ) (b : Bool) → is_labelled (label_of i k) block ≡ b → k < (request_in asked i).count → Known i k
  by_label i k true e lt = here i k lt e
  by_label i k false e lt = elsewhere i k lt e

  pub knows_more : Knows size asked log (noted asked spots label spot) (moved ++ (block ∷ []))
  knows_more = λ i k lt. by_label i k (is_labelled (label_of i k) block) refl lt
