use Rattle.std.specs.Prelude.{◌≡◌, ◌<◌, ℕ, zero, suc, Bool, false, List, [], ◌∷◌, length, get_or, set, Option, Some, None}

-- What it is to have done some acts, in any order that keeps conflicting ones in order.

-- Acts of any kind on a state of any kind. An act changes the state and answers.
-- Two acts with no conflict may change places.
pub record Commutes {S A R : Type 0} (act : A → S → S) (tell : A → S → R) (conflicts : A → A → Bool) : Type 0 where
  pub states : (a b : A) (s : S) → conflicts a b ≡ false → act a (act b s) ≡ act b (act a s)
  pub first : (a b : A) (s : S) → conflicts a b ≡ false → tell a (act b s) ≡ tell a s
  pub second : (a b : A) (s : S) → conflicts a b ≡ false → tell b (act a s) ≡ tell b s

-- the acts one after another
abbrev pub plain : {S A : Type 0} → (A → S → S) → List A → S → S
plain act [] s = s
plain act (a ∷ acts) s = plain act acts (act a s)

abbrev pub plain_tells : {S A R : Type 0} → (A → S → S) → (A → S → R) → List A → S → List R
plain_tells act tell [] s = []
plain_tells act tell (a ∷ acts) s = tell a s ∷ plain_tells act tell acts (act a s)

-- the acts that were done, in the order of the list: an act that was done has an answer
abbrev pub walk : {S A R : Type 0} → (A → S → S) → List A → List (Option R) → S → S
walk act [] ds s = s
walk act (a ∷ acts) [] s = s
walk act (a ∷ acts) (None ∷ ds) s = walk act acts ds s
walk act (a ∷ acts) (Some r ∷ ds) s = walk act acts ds (act a s)

-- each that was done answered what that walk answers
abbrev pub Answered : {S A R : Type 0} → (A → S → S) → (A → S → R) → List A → List (Option R) → S → Type 0
Answered act tell [] ds s = Unit {0}
Answered act tell (a ∷ acts) [] s = Unit {0}
Answered act tell (a ∷ acts) (None ∷ ds) s = Answered act tell acts ds s
Answered act tell (a ∷ acts) (Some r ∷ ds) s = (r ≡ tell a s) × Answered act tell acts ds (act a s)

-- an act conflicts with none of these that was done
abbrev pub FreeOfDone : {A R : Type 0} → (A → A → Bool) → A → List A → List (Option R) → Type 0
FreeOfDone conflicts a [] ds = Unit {0}
FreeOfDone conflicts a (b ∷ acts) [] = Unit {0}
FreeOfDone conflicts a (b ∷ acts) (None ∷ ds) = FreeOfDone conflicts a acts ds
FreeOfDone conflicts a (b ∷ acts) (Some r ∷ ds) = (conflicts a b ≡ false) × FreeOfDone conflicts a acts ds

-- it conflicts with none that was done of those behind place i
abbrev pub FreeFrom : {A R : Type 0} → (A → A → Bool) → ℕ → A → List A → List (Option R) → Type 0
FreeFrom conflicts i a [] ds = Unit {0}
FreeFrom conflicts i a (b ∷ acts) [] = Unit {0}
FreeFrom conflicts zero a (b ∷ acts) (d ∷ ds) = FreeOfDone conflicts a acts ds
FreeFrom conflicts (suc i) a (b ∷ acts) (d ∷ ds) = FreeFrom conflicts i a acts ds

-- each of the first i that conflicts with it was done: what the gate keeps
abbrev pub Clear : {A R : Type 0} → (A → A → Bool) → ℕ → A → List A → List (Option R) → Type 0
Clear conflicts i a [] ds = Unit {0}
Clear conflicts i a (b ∷ acts) [] = Unit {0}
Clear conflicts zero a (b ∷ acts) (d ∷ ds) = Unit {0}
Clear conflicts (suc i) a (b ∷ acts) (None ∷ ds) = (conflicts b a ≡ false) × Clear conflicts i a acts ds
Clear conflicts (suc i) a (b ∷ acts) (Some r ∷ ds) = Clear conflicts i a acts ds

-- none that was done conflicts with an earlier one that wasn't
abbrev pub InOrder : {A R : Type 0} → (A → A → Bool) → List A → List (Option R) → Type 0
InOrder conflicts [] ds = Unit {0}
InOrder conflicts (a ∷ acts) [] = Unit {0}
InOrder conflicts (a ∷ acts) (None ∷ ds) = FreeOfDone conflicts a acts ds × InOrder conflicts acts ds
InOrder conflicts (a ∷ acts) (Some r ∷ ds) = InOrder conflicts acts ds

-- the relation that every step keeps
pub record Serial {S A R : Type 0} (act : A → S → S) (tell : A → S → R) (conflicts : A → A → Bool) (acts : List A) (opening : S) (done : List (Option R)) (now : S) : Type 0 where
  pub state : now ≡ walk act acts done opening
  pub answers : Answered act tell acts done opening
  pub order : InOrder conflicts acts done

-- act a, at place i, may be done next
pub record MayAct {A R : Type 0} (conflicts : A → A → Bool) (acts : List A) (done : List (Option R)) (i : ℕ) (a : A) : Type 0 where
  pub within : i < length acts
  pub is_there : get_or acts i a ≡ a
  pub is_new : (d : Option R) → get_or done i d ≡ None
  pub clear : Clear conflicts i a acts done

-- doing the acts at these places, in this order, leads from one state to another
abbrev pub Leads : {S A R : Type 0} → (A → S → S) → (A → S → R) → (A → A → Bool) → List A → List ℕ → List (Option R) → S → List (Option R) → S → Type 0
Leads act tell conflicts acts [] ds s es t = (es ≡ ds) × (t ≡ s)
Leads {A = A} act tell conflicts acts (i ∷ is) ds s es t =
    (a : A) × MayAct conflicts acts ds i a × Leads act tell conflicts acts is (set ds i (Some (tell a s))) (act a s) es t

abbrev pub none_done : {A R : Type 0} → List A → List (Option R)
none_done [] = []
none_done (a ∷ acts) = None ∷ none_done acts

abbrev pub all_done : {R : Type 0} → List R → List (Option R)
all_done [] = []
all_done (r ∷ rs) = Some r ∷ all_done rs

-- no two of these conflict
abbrev pub Apart : {A : Type 0} → (A → A → Bool) → A → List A → Type 0
Apart conflicts a [] = Unit {0}
Apart conflicts a (b ∷ acts) = (conflicts a b ≡ false) × Apart conflicts a acts

abbrev pub AllApart : {A : Type 0} → (A → A → Bool) → List A → Type 0
AllApart conflicts [] = Unit {0}
AllApart conflicts (a ∷ acts) = Apart conflicts a acts × AllApart conflicts acts

-- each that was done answered so
abbrev pub AgreesWith : {R : Type 0} → List (Option R) → List R → Type 0
AgreesWith [] rs = Unit {0}
AgreesWith (d ∷ ds) [] = Unit {0}
AgreesWith (None ∷ ds) (r ∷ rs) = AgreesWith ds rs
AgreesWith (Some x ∷ ds) (r ∷ rs) = (x ≡ r) × AgreesWith ds rs

-- each of these that conflicts with it was done
abbrev pub ClearOf : {A R : Type 0} → (A → A → Bool) → A → List A → List (Option R) → Type 0
ClearOf conflicts a [] ds = Unit {0}
ClearOf conflicts a (b ∷ before) [] = Unit {0}
ClearOf conflicts a (b ∷ before) (None ∷ ds) = (conflicts b a ≡ false) × ClearOf conflicts a before ds
ClearOf conflicts a (b ∷ before) (Some r ∷ ds) = ClearOf conflicts a before ds

-- one conflicts with what the other conflicts with
pub record Alike {A : Type 0} (conflicts : A → A → Bool) (a b : A) : Type 0 where
  pub one : (x : A) → conflicts x a ≡ conflicts x b
  pub other : (x : A) → conflicts a x ≡ conflicts b x

-- acts that conflict alike, and did the same where they were done
abbrev pub StandFor : {S A R : Type 0} → (A → S → S) → (A → S → R) → (A → A → Bool) → List A → List A → List (Option R) → S → Type 0
StandFor act tell conflicts [] bs ds s = bs ≡ []
StandFor act tell conflicts (a ∷ acts) [] ds s = ⊥
StandFor act tell conflicts (a ∷ acts) (b ∷ bs) [] s = Unit {0}
StandFor act tell conflicts (a ∷ acts) (b ∷ bs) (None ∷ ds) s = Alike conflicts a b × StandFor act tell conflicts acts bs ds s
StandFor act tell conflicts (a ∷ acts) (b ∷ bs) (Some r ∷ ds) s =
    Alike conflicts a b × ((act a s ≡ act b s) × ((tell a s ≡ tell b s) × StandFor act tell conflicts acts bs ds (act a s)))
