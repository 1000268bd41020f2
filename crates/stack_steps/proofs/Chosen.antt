-- What a stack counts and finds are the view's enabled steps.
use Rattle.std.proofs.Common.{◌≡◌, ◌<◌, ◌≤◌, ℕ, zero, suc, ◌+◌, ◌-◌, Bool, true, false, not, eqb, List, [], ◌∷◌, ◌++◌, length, map, take, get_or, refl, sym, ap, ◌∙◌, ⊎_elim, arith, length-append}
use Rattle.std.specs.Prelude.{min, nat_lt}
use Rattle.std.specs.List.{All, filter}
use Rattle.std.proofs.lemmas.List.{get_or_past}
use Rattle.std.proofs.lemmas.Bool.{cases_Bool, cases_lt, and_parts, and_left, and_right, le-ltb, ne_eqb, not-true}
use Rattle.std.proofs.lemmas.List.{length-map, get_or-map, get_or_append_left, get_or-append_right}
use Rattle.std.proofs.lemmas.List.Elements.{filter-append, All-nil, All-cons, All-get_or}
use Rattle.merge_queue.specs.declared.limits.Limits.{Limits}
use Rattle.stack_laws.specs.Plan.{Plan}
use Rattle.merge_queue.specs.Groups.{numbers, pairs}
use Rattle.merge_queue.specs.Index.{Queued}
use Rattle.stack_laws.specs.View.{View, OpView, Command, is_admitted, all_true, no_op, op_at}
use Rattle.range_gate.specs.declared.phase.Phase.{Phase}
use Rattle.range_gate.specs.declared.phase.Phase.TheVariants.{Waiting, Admitted, Ended}
use Rattle.range_gate.specs.Gates.{Gated, is_waiting, has_ended, none_conflicts, phase_at, conflict_at}
use Rattle.range_gate.specs.Gates as Gate
use Rattle.stack_laws.specs.Open.{in_order}
use Rattle.stack_laws.specs.Steps.{may_admit, Step, End as StepEnd, Complete as StepComplete, Admit as StepAdmit, Cut as StepCut, Send as StepSend, can, unended, enabled, enabled_below, join_of, joins_from, sends}
use Rattle.stack_laws.proofs.Lists.{by-lists}
use Rattle.stack_laws.proofs.Open.{shifted, completes-length}
use Rattle.merge_queue.proofs.Joins.{numbers-split, between}
use Rattle.merge_queue.proofs.Linking.{length-numbers}
use Rattle.stack_laws.proofs.Ops.{unmarked_in}
use Rattle.stack_steps.specs.declared.state.OpState.{OpState}
use Rattle.stack_steps.specs.declared.choice.OpStep.{OpStep}
use Rattle.stack_steps.specs.declared.choice.OpStep.TheVariants.{Ending, Admission, Cutting}
use Rattle.stack_steps.specs.declared.choice.Choice.{Choice}
use Rattle.stack_steps.specs.declared.choice.Choice.TheVariants.{End, Complete, Admit, Cut, Send}
use Rattle.stack_steps.specs.State.{state_of, phase_of, no_state}
use Rattle.stack_steps.specs.Choices.{can_at, places, no_choice, join_choice, joins_at, sends_at, choices, IsBelow}
use Rattle.stack_steps.specs.Shows.{live_from, live_ops, groups_of, IsGateOf, Windowed, Means}
use Rattle.stack_steps.proofs.Picks.{get-numbers}

-- ---- the ops that have not ended

abbrev stays : View → ℕ → Bool
stays v i = not (has_ended (op_at v i).phase)

live-filter : (t : ℕ → Bool) (k : ℕ) (os : List OpView) → ((j : ℕ) → j < length os → t (k + j) ≡ not (has_ended (get_or os j no_op).phase)) → live_from k os ≡ filter t (numbers k (length os))
live-filter t k [] h = refl
live-filter t k (o ∷ os) h =
    let z : k + 0 ≡ k = omega arith in
    let e : t k ≡ not (has_ended o.phase) = ap t (sym z) ∙ h 0 (omega arith) in
    let r = live-filter t (suc k) os (λ j l. ap t (shift k j) ∙ h (suc j) (omega arith)) in
    ⊎_elim
    (λ (y : has_ended o.phase ≡ true). let f : t k ≡ false = e ∙ ap not y in rw (y, f) r)
    (λ (y : has_ended o.phase ≡ false). let f : t k ≡ true = e ∙ ap not y in rw (y, f) (ap (λ w. k ∷ w) r))
    (cases_Bool (has_ended o.phase))
  where
    shift : (k j : ℕ) → suc k + j ≡ k + suc j
    shift k j = omega arith

pub live-is : (v : View) → live_ops v ≡ filter (stays v) (numbers 0 (length v.ops))
live-is v = live-filter (stays v) 0 v.ops (λ j l. ap (stays v) (plus j))
  where
    plus : (j : ℕ) → 0 + j ≡ j
    plus j = omega arith

filter-through : (t u : ℕ → Bool) (xs : List ℕ) → ((x : ℕ) → t x ≡ true → u x ≡ true) → filter t (filter u xs) ≡ filter t xs
filter-through t u [] h = refl
filter-through t u (x ∷ xs) h =
    let r = filter-through t u xs h in
    ⊎_elim
    (λ (e : t x ≡ true). let f = h x e in rw f (rw e (ap (λ w. x ∷ w) r)))
    (λ (e : t x ≡ false).
    ⊎_elim
    (λ (f : u x ≡ true). rw (f) (rw e r))
    (λ (f : u x ≡ false). rw (f, e) r)
    (cases_Bool (u x)))
    (cases_Bool (t x))

-- a filter by places
by-places : (t s : ℕ → Bool) (f : ℕ → ℕ) (k : ℕ) (xs : List ℕ) → ((j : ℕ) → j < length xs → s (k + j) ≡ t (get_or xs j 0)) → ((j : ℕ) → j < length xs → f (k + j) ≡ get_or xs j 0) →
    filter t xs ≡ map f (filter s (numbers k (length xs)))
by-places t s f k [] h g = refl
by-places t s f k (x ∷ xs) h g =
    let z : k + 0 ≡ k = omega arith in
    let e : s k ≡ t x = ap s (sym z) ∙ h 0 (omega arith) in
    let w : f k ≡ x = ap f (sym z) ∙ g 0 (omega arith) in
    let r = by-places t s f (suc k) xs (λ j l. ap s (shift k j) ∙ h (suc j) (omega arith)) (λ j l. ap f (shift k j) ∙ g (suc j) (omega arith)) in
    ⊎_elim
    (λ (y : t x ≡ true). let q : s k ≡ true = e ∙ y in rw (y, q) (ap (λ m. m ∷ filter t xs) (sym w) ∙ ap (λ m. f k ∷ m) r))
    (λ (y : t x ≡ false). let q : s k ≡ false = e ∙ y in rw (y, q) r)
    (cases_Bool (t x))
  where
    shift : (k j : ℕ) → suc k + j ≡ k + suc j
    shift k j = omega arith

-- where the q-th of those that pass is
pub record Passes (u : ℕ → Bool) (k n q : ℕ) : Type 0 where
  pub above : k ≤ get_or (filter u (numbers k n)) q 0
  pub below : get_or (filter u (numbers k n)) q 0 < k + n
  pub passes : u (get_or (filter u (numbers k n)) q 0) ≡ true
  pub front : take q (filter u (numbers k n)) ≡ filter u (numbers k (get_or (filter u (numbers k n)) q 0 - k))

front-more : (u : ℕ → Bool) (k x : ℕ) (F : List ℕ) → suc k ≤ x → u k ≡ true → F ≡ filter u (numbers (suc k) (x - suc k)) → k ∷ F ≡ filter u (numbers k (x - k))
front-more u k x F h e f =
    let z : x - k ≡ suc (x - suc k) = omega arith in
    rw z (rw e (ap (λ w. k ∷ w) f))

front-same : (u : ℕ → Bool) (k x : ℕ) (F : List ℕ) → suc k ≤ x → u k ≡ false → F ≡ filter u (numbers (suc k) (x - suc k)) → F ≡ filter u (numbers k (x - k))
front-same u k x F h e f =
    let z : x - k ≡ suc (x - suc k) = omega arith in
    rw z (rw e f)

passed : (u : ℕ → Bool) (k n q : ℕ) → q < length (filter u (numbers k n)) → Passes u k n q
passed u k zero q h = absurd (omega arith)
passed u k (suc n) q h =
    ⊎_elim
    (λ (e : u k ≡ true). here (λ m l. passed u (suc k) n m l) e q h)
    (λ (e : u k ≡ false). there (λ m l. passed u (suc k) n m l) e q h)
    (cases_Bool (u k))
  where
    first : u k ≡ true → filter u (numbers k (suc n)) ≡ k ∷ filter u (numbers (suc k) n)
    first e = rw e refl

    later : u k ≡ false → filter u (numbers k (suc n)) ≡ filter u (numbers (suc k) n)
    later e = rw e refl

    here : ((m : ℕ) → m < length (filter u (numbers (suc k) n)) → Passes u (suc k) n m) → u k ≡ true → (q : ℕ) → q < length (filter u (numbers k (suc n))) → Passes u k (suc n) q
    here back e zero l =
        let g : get_or (filter u (numbers k (suc n))) 0 0 ≡ k = ap (λ w. get_or w 0 0) (first e) in
        let z : k - k ≡ 0 = omega arith in
        record { above = omega arith; below = omega arith; passes = ap u g ∙ e; front = rw (g, z) refl }
    here back e (suc q) l =
        let f = first e in
        let r = back q (let m = ap length f in omega arith) in
        let g : get_or (filter u (numbers k (suc n))) (suc q) 0 ≡ get_or (filter u (numbers (suc k) n)) q 0 = ap (λ w. get_or w (suc q) 0) f in
        let a = r.above in
        let b = r.below in
        record {
          above = omega arith;
          below = omega arith;
          passes = ap u g ∙ r.passes;
          front = ap (take (suc q)) f ∙ front-more u k (get_or (filter u (numbers (suc k) n)) q 0) (take q (filter u (numbers (suc k) n))) a e r.front ∙ ap (λ w. filter u (numbers k (w - k))) (sym g);
        }

    there : ((m : ℕ) → m < length (filter u (numbers (suc k) n)) → Passes u (suc k) n m) → u k ≡ false → (q : ℕ) → q < length (filter u (numbers k (suc n))) → Passes u k (suc n) q
    there back e q l =
        let f = later e in
        let r = back q (let m = ap length f in omega arith) in
        let g : get_or (filter u (numbers k (suc n))) q 0 ≡ get_or (filter u (numbers (suc k) n)) q 0 = ap (λ w. get_or w q 0) f in
        let a = r.above in
        let b = r.below in
        record {
          above = omega arith;
          below = omega arith;
          passes = ap u g ∙ r.passes;
          front = ap (take q) f ∙ front-same u k (get_or (filter u (numbers (suc k) n)) q 0) (take q (filter u (numbers (suc k) n))) a e r.front ∙ ap (λ w. filter u (numbers k (w - k))) (sym g);
        }

-- the ops before op i that have not ended, once from the back and once from the front
filter-last : (u : ℕ → Bool) (i : ℕ) → filter u (numbers 0 (suc i)) ≡ filter u (numbers 0 i) ++ filter u (i ∷ [])
filter-last u i =
    let e = numbers-split 0 i 1 (suc i) (omega arith) in
    let z : 0 + i ≡ i = omega arith in
    ap (filter u) (e ∙ ap (λ w. numbers 0 i ++ numbers w 1) z) ∙ filter-append u (numbers 0 i) (i ∷ [])

number-front : (v : View) (i : ℕ) → length (unended v i) ≡ length (filter (stays v) (numbers 0 i))
number-front v zero = refl
number-front v (suc i) =
    let r = number-front v i in
    let l = ap length (filter-last (stays v) i) in
    let n = length-append (filter (stays v) (numbers 0 i)) (filter (stays v) (i ∷ [])) in
    ⊎_elim
    (λ (e : has_ended (op_at v i).phase ≡ true). let f = gone e in rw e (omega arith))
    (λ (e : has_ended (op_at v i).phase ≡ false). let f = kept e in rw e (omega arith))
    (cases_Bool (has_ended (op_at v i).phase))
  where
    gone : has_ended (op_at v i).phase ≡ true → length (filter (stays v) (i ∷ [])) ≡ 0
    gone e = rw e refl

    kept : has_ended (op_at v i).phase ≡ false → length (filter (stays v) (i ∷ [])) ≡ 1
    kept e = rw e refl

-- the q-th of the ops that have not ended
pub record Lives (v : View) (q : ℕ) : Type 0 where
  pub there : get_or (live_ops v) q 0 < length v.ops
  pub stays : has_ended (op_at v (get_or (live_ops v) q 0)).phase ≡ false
  pub number : length (unended v (get_or (live_ops v) q 0)) ≡ q

length-front : (q : ℕ) (xs : List ℕ) → q < length xs → length (take q xs) ≡ q
length-front q [] h = absurd (omega arith)
length-front zero (x ∷ xs) h = refl
length-front (suc q) (x ∷ xs) h = ap suc (length-front q xs (omega arith))

lives-in : (v : View) (L : List ℕ) (q : ℕ) → L ≡ filter (stays v) (numbers 0 (length v.ops)) → q < length L →
    (get_or L q 0 < length v.ops) × ((has_ended (op_at v (get_or L q 0)).phase ≡ false) × (length (unended v (get_or L q 0)) ≡ q))
lives-in v L q e h =
    let l = ap length e in
    let r = passed (stays v) 0 (length v.ops) q (omega arith) in
    let g : get_or L q 0 ≡ get_or (filter (stays v) (numbers 0 (length v.ops))) q 0 = ap (λ w. get_or w q 0) e in
    let z : get_or (filter (stays v) (numbers 0 (length v.ops))) q 0 - 0 ≡ get_or (filter (stays v) (numbers 0 (length v.ops))) q 0 = omega arith in
    let b = r.below in
    let t : take q L ≡ filter (stays v) (numbers 0 (get_or L q 0)) = ap (take q) e ∙ r.front ∙ ap (λ w. filter (stays v) (numbers 0 w)) (z ∙ sym g) in
    let n = length-front q L h in
    let m = ap length t in
    let k = number-front v (get_or L q 0) in
    (omega arith, (not-true (has_ended (op_at v (get_or L q 0)).phase) (ap (stays v) g ∙ r.passes), omega arith))

pub lives : (v : View) (q : ℕ) → q < length (live_ops v) → Lives v q
lives v q h = let r = lives-in v (live_ops v) q (live-is v) h in record { there = r.0; stays = r.1.0; number = r.1.1 }

-- ---- the gate

pub phase-there : (v : View) (i : ℕ) → phase_at (map phase_of v.ops) i ≡ (op_at v i).phase
phase-there v i = at-phase v.ops i
  where
    at-phase : (os : List OpView) (i : ℕ) → phase_at (map phase_of os) i ≡ (get_or os i no_op).phase
    at-phase [] i = refl
    at-phase (o ∷ os) zero = refl
    at-phase (o ∷ os) (suc i) = at-phase os i

unended-same : (v : View) (i : ℕ) → Gate.unended (map phase_of v.ops) i ≡ unended v i
unended-same v zero = refl
unended-same v (suc i) =
    let e = phase-there v i in
    let r = unended-same v i in
    rw (e, r) refl

-- only the ops before one are looked at
none-same : (p : Plan) (v : View) (g : Gated) (i n : ℕ) → n ≤ i → i < length p.requests → IsGateOf p g → none_conflicts (conflict_at g.conflicts) i (unended v n) ≡ none_conflicts p.conflicts i (unended v n)
none-same p v g i zero l h c = refl
none-same p v g i (suc n) l h c =
    let e = c n i (omega arith) h in
    let r = none-same p v g i n (omega arith) h c in
    ⊎_elim
    (λ (x : has_ended (op_at v n).phase ≡ true). rw x r)
    (λ (x : has_ended (op_at v n).phase ≡ false). rw (x, e, r) refl)
    (cases_Bool (has_ended (op_at v n).phase))

abbrev IsGateFor : Plan → View → Gated → Type 0
IsGateFor p v g = (length v.ops ≡ length p.requests) × IsGateOf p g

-- the gate lets in what the view lets in
pub gate-same : (p : Plan) (v : View) (g : Gated) (i : ℕ) → g.phases ≡ map phase_of v.ops → IsGateFor p v g → Gate.may_admit g i ≡ may_admit p v i
gate-same p v g i e c =
    let a : phase_at g.phases i ≡ (op_at v i).phase = ap (λ z. phase_at z i) e ∙ phase-there v i in
    let u : Gate.unended g.phases i ≡ unended v i = ap (λ z. Gate.unended z i) e ∙ unended-same v i in
    ⊎_elim
    (λ (l : i < length p.requests). let n = none-same p v g i i (omega arith) l c.1 in rw (a, u, n) refl)
    (λ (l : length p.requests ≤ i). let same = c.0 in let o : op_at v i ≡ no_op = get_or_past v.ops i no_op (omega arith) in let w : (op_at v i).phase ≡ Ended = ap phase_of o in rw (a, w) refl)
    (cases_lt i (length p.requests))

-- ---- the test of one op

all-none-left : (xs : List Bool) → all_true xs ≡ eqb (unmarked_in xs) 0
all-none-left [] = refl
all-none-left (true ∷ xs) = let z : 0 + unmarked_in xs ≡ unmarked_in xs = omega arith in rw z (all-none-left xs)
all-none-left (false ∷ xs) = sym (ne_eqb (1 + unmarked_in xs) 0 (λ e. absurd (omega arith)))

abbrev step_for : OpStep → ℕ → Step
step_for Ending = StepEnd
step_for Admission = StepAdmit
step_for Cutting = StepCut

pub state-there : (v : View) (i : ℕ) → get_or (map state_of v.ops) i no_state ≡ state_of (op_at v i)
state-there v i =
    ⊎_elim
    (λ (l : i < length v.ops). get_or-map state_of v.ops i no_op no_state l)
    (λ (l : length v.ops ≤ i). past i v.ops l)
    (cases_lt i (length v.ops))
  where
    past : (i : ℕ) (os : List OpView) → length os ≤ i → get_or (map state_of os) i no_state ≡ state_of (get_or os i no_op)
    past i [] l = refl
    past zero (o ∷ os) l = absurd (omega arith)
    past (suc i) (o ∷ os) l = past i os (omega arith)

pub can-same : (p : Plan) (v : View) (g : Gated) (s : OpStep) (q : ℕ) → g.phases ≡ map phase_of v.ops → IsGateFor p v g → can_at p g (map state_of v.ops) (live_ops v) s q ≡ can p v (step_for s (get_or (live_ops v) q 0))
can-same p v g Ending q e c =
    let s = state-there v (get_or (live_ops v) q 0) in
    let a : phase_at g.phases (get_or (live_ops v) q 0) ≡ (op_at v (get_or (live_ops v) q 0)).phase = ap (λ z. phase_at z (get_or (live_ops v) q 0)) e ∙ phase-there v (get_or (live_ops v) q 0) in
    let b = all-none-left (op_at v (get_or (live_ops v) q 0)).settled in
    rw (s, a, b) refl
can-same p v g Admission q e c = gate-same p v g (get_or (live_ops v) q 0) e c
can-same p v g Cutting q e c =
    let s = state-there v (get_or (live_ops v) q 0) in
    let a : phase_at g.phases (get_or (live_ops v) q 0) ≡ (op_at v (get_or (live_ops v) q 0)).phase = ap (λ z. phase_at z (get_or (live_ops v) q 0)) e ∙ phase-there v (get_or (live_ops v) q 0) in
    rw (s, a) refl

-- past the first 32 there is none
can-past : (p : Plan) (v : View) (s : OpStep) (q : ℕ) → Windowed v → q < length (live_ops v) → 32 ≤ q → can p v (step_for s (get_or (live_ops v) q 0)) ≡ false
can-past p v Ending q w h l =
    and_left (is_admitted (op_at v (get_or (live_ops v) q 0)).phase) _ (not-in p v q w h l)
  where
    not-in : (p : Plan) (v : View) (q : ℕ) → Windowed v → q < length (live_ops v) → 32 ≤ q → is_admitted (op_at v (get_or (live_ops v) q 0)).phase ≡ false
    not-in p v q w h l =
        ⊎_elim
        (λ (e : is_admitted (op_at v (get_or (live_ops v) q 0)).phase ≡ true). let x = w (get_or (live_ops v) q 0) e in let y = (lives v q h).number in absurd (omega arith))
        (λ (e : is_admitted (op_at v (get_or (live_ops v) q 0)).phase ≡ false). e)
        (cases_Bool (is_admitted (op_at v (get_or (live_ops v) q 0)).phase))
can-past p v Admission q w h l =
    let n = (lives v q h).number in
    and_right (is_waiting (op_at v (get_or (live_ops v) q 0)).phase) _ (and_left (nat_lt (length (unended v (get_or (live_ops v) q 0))) 32) _ (le-ltb (length (unended v (get_or (live_ops v) q 0))) 32 (omega arith)))
can-past p v Cutting q w h l =
    and_left (is_admitted (op_at v (get_or (live_ops v) q 0)).phase) _ (not-in p v q w h l)
  where
    not-in : (p : Plan) (v : View) (q : ℕ) → Windowed v → q < length (live_ops v) → 32 ≤ q → is_admitted (op_at v (get_or (live_ops v) q 0)).phase ≡ false
    not-in p v q w h l =
        ⊎_elim
        (λ (e : is_admitted (op_at v (get_or (live_ops v) q 0)).phase ≡ true). let x = w (get_or (live_ops v) q 0) e in let y = (lives v q h).number in absurd (omega arith))
        (λ (e : is_admitted (op_at v (get_or (live_ops v) q 0)).phase ≡ false). e)
        (cases_Bool (is_admitted (op_at v (get_or (live_ops v) q 0)).phase))

-- an op that can do something has not ended
can-stays : (p : Plan) (v : View) (s : OpStep) (i : ℕ) → can p v (step_for s i) ≡ true → stays v i ≡ true
can-stays p v Ending i h = admitted-stays (op_at v i).phase (and_parts (is_admitted (op_at v i).phase) _ h).0
  where
    admitted-stays : (x : Phase) → is_admitted x ≡ true → not (has_ended x) ≡ true
    admitted-stays Waiting e = refl
    admitted-stays Admitted e = refl
    admitted-stays Ended e = cc
can-stays p v Admission i h = waiting-stays (op_at v i).phase (and_parts (is_waiting (op_at v i).phase) _ h).0
  where
    waiting-stays : (x : Phase) → is_waiting x ≡ true → not (has_ended x) ≡ true
    waiting-stays Waiting e = refl
    waiting-stays Admitted e = refl
    waiting-stays Ended e = cc
can-stays p v Cutting i h = admitted-stays (op_at v i).phase (and_parts (is_admitted (op_at v i).phase) _ h).0
  where
    admitted-stays : (x : Phase) → is_admitted x ≡ true → not (has_ended x) ≡ true
    admitted-stays Waiting e = refl
    admitted-stays Admitted e = refl
    admitted-stays Ended e = cc

abbrev found_places : Plan → View → Gated → OpStep → List ℕ
found_places p v g s = places p g (map state_of v.ops) (live_ops v) s

places-are : (p : Plan) (v : View) (g : Gated) (s : OpStep) → Windowed v → g.phases ≡ map phase_of v.ops → IsGateFor p v g →
    filter (λ i. can p v (step_for s i)) (numbers 0 (length v.ops)) ≡ map (λ q. get_or (live_ops v) q 0) (found_places p v g s)
places-are p v g s w x c₁ =
    let t : ℕ → Bool = λ i. can p v (step_for s i) in
    let c : ℕ → Bool = λ q. can p v (step_for s (get_or (live_ops v) q 0)) in
    sym (filter-through (λ i. can p v (step_for s i)) (stays v) (numbers 0 (length v.ops)) (can-stays p v s))
    ∙ ap (filter (λ i. can p v (step_for s i))) (sym (live-is v))
    ∙ by-places (λ i. can p v (step_for s i)) (λ q. can p v (step_for s (get_or (live_ops v) q 0))) (λ q. get_or (live_ops v) q 0) 0 (live_ops v)
    (λ j l. ap (λ m. can p v (step_for s (get_or (live_ops v) m 0))) (plus j)) (λ j l. ap (λ m. get_or (live_ops v) m 0) (plus j))
    ∙ ap (map (λ q. get_or (live_ops v) q 0))
    (between (λ q. can p v (step_for s (get_or (live_ops v) q 0))) (length (live_ops v)) 0 (min (length (live_ops v)) 32) (omega arith) (omega arith)
    (λ j l. absurd (omega arith)) (λ j a b. can-past p v s j w b (omega arith))
    ∙ ap (λ n. filter (λ q. can p v (step_for s (get_or (live_ops v) q 0))) (numbers 0 n)) (minus (min (length (live_ops v)) 32))
    ∙ sym (shifted (can_at p g (map state_of v.ops) (live_ops v) s) (λ q. can p v (step_for s (get_or (live_ops v) q 0))) 0 (min (length (live_ops v)) 32) (λ j a b. can-same p v g s j x c₁)))
  where
    plus : (j : ℕ) → 0 + j ≡ j
    plus j = omega arith

    minus : (n : ℕ) → n - 0 ≡ n
    minus n = omega arith

-- ---- lists side by side

pub record Fits {A B : Type 0} (R : A → B → Type 0) (d : A) (e : B) (xs : List A) (ys : List B) : Type 0 where
  pub same : length xs ≡ length ys
  pub each : (k : ℕ) → k < length xs → R (get_or xs k d) (get_or ys k e)

fits-append : {A B : Type 0} (R : A → B → Type 0) (d : A) (e : B) (xs₁ xs₂ : List A) (ys₁ ys₂ : List B) → Fits R d e xs₁ ys₁ → Fits R d e xs₂ ys₂ → Fits R d e (xs₁ ++ xs₂) (ys₁ ++ ys₂)
fits-append R d e xs₁ xs₂ ys₁ ys₂ f g =
    let a = length-append xs₁ xs₂ in
    let b = length-append ys₁ ys₂ in
    let l = f.same in
    let m = g.same in
    record {
      same = omega arith;
      each = λ k h.
          ⊎_elim
          (λ (n : k < length xs₁).
          let x = get_or_append_left xs₁ xs₂ d k n in
          let y = get_or_append_left ys₁ ys₂ e k (omega arith) in
          rw (x, y) (f.each k n))
          (λ (n : length xs₁ ≤ k).
          let x = get_or-append_right xs₁ xs₂ (length xs₁) k d refl n in
          let y = get_or-append_right ys₁ ys₂ (length xs₁) k e (sym l) n in
          rw (x, y) (g.each (k - length xs₁) (omega arith)))
          (cases_lt k (length xs₁));
    }

fits-map : {C A B : Type 0} (R : A → B → Type 0) (d : A) (e : B) (f : C → A) (g : C → B) (z : C) (cs : List C) → ((k : ℕ) → k < length cs → R (f (get_or cs k z)) (g (get_or cs k z))) → Fits R d e (map f cs) (map g cs)
fits-map R d e f g z cs h =
    let a = length-map cs f in
    let b = length-map cs g in
    record {
      same = omega arith;
      each = λ k l.
          (let x = get_or-map f cs k z d (omega arith) in
          let y = get_or-map g cs k z e (omega arith) in
          rw (x, y) (h k (omega arith)));
    }

below-filter : (t : ℕ → Bool) (k n : ℕ) → All (IsBelow (k + n)) (filter t (numbers k n))
below-filter t k zero = All-nil (IsBelow (k + 0))
below-filter t k (suc n) =
    let s : suc k + n ≡ k + suc n = omega arith in
    let r : All (IsBelow (k + suc n)) (filter t (numbers (suc k) n)) = rw s at (below-filter t (suc k) n) in
    ⊎_elim
    (λ (e : t k ≡ true). rw e (All-cons (IsBelow (k + suc n)) k (filter t (numbers (suc k) n)) (omega arith) r))
    (λ (e : t k ≡ false). rw e r)
    (cases_Bool (t k))

fits-ops : (p : Plan) (v : View) (g : Gated) (s : OpStep) (f : ℕ → Choice) → Windowed v → g.phases ≡ map phase_of v.ops → IsGateFor p v g → ((q : ℕ) → q < length (live_ops v) → Means p v (f q) (step_for s (get_or (live_ops v) q 0))) →
    Fits (Means p v) no_choice (StepEnd 0) (map f (found_places p v g s)) (enabled_below p v (step_for s) (length v.ops))
fits-ops p v g s f w x c₁ h =
    let e : enabled_below p v (step_for s) (length v.ops) ≡ map (λ q. step_for s (get_or (live_ops v) q 0)) (found_places p v g s) =
    ap (map (step_for s)) (places-are p v g s w x c₁) ∙ twice (step_for s) (λ q. get_or (live_ops v) q 0) (found_places p v g s) in
    let b = below-filter (can_at p g (map state_of v.ops) (live_ops v) s) 0 (min (length (live_ops v)) 32) in
    rw e (fits-map (Means p v) no_choice (StepEnd 0) f (λ q. step_for s (get_or (live_ops v) q 0)) 0 (found_places p v g s)
    (λ k l. h (get_or (found_places p v g s) k 0) (let b₁ = All-get_or (IsBelow (0 + min (length (live_ops v)) 32)) (found_places p v g s) k 0 l b in omega arith)))
  where
    twice : {A B C : Type 0} (g : B → C) (f : A → B) (xs : List A) → map g (map f xs) ≡ map (λ x. g (f x)) xs
    twice g f [] = refl
    twice g f (x ∷ xs) = ap (λ w. g (f x) ∷ w) (twice g f xs)

fits-completions : (p : Plan) (v : View) → Fits (Means p v) no_choice (StepEnd 0) (map Complete (numbers 0 (length (in_order v.commands)))) (enabled_below p v StepComplete (length v.commands))
fits-completions p v =
    let n = completes-length p v in
    let a = length-map (numbers 0 (length (in_order v.commands))) Complete in
    let b = length-numbers 0 (length (in_order v.commands)) in
    record {
      same = omega arith;
      each = λ k l.
          (let x : get_or (map Complete (numbers 0 (length (in_order v.commands)))) k no_choice ≡ Complete k =
          get_or-map Complete (numbers 0 (length (in_order v.commands))) k 0 no_choice (omega arith) ∙ ap Complete (get-numbers 0 (length (in_order v.commands)) k 0 (omega arith) ∙ omega arith) in
          rw x (omega arith, refl));
    }

fits-joins : (p : Plan) (v : View) (lim : Limits) (d : ℕ) (qs : List Queued) → Fits (Means p v) no_choice (StepEnd 0) (joins_at lim d qs) (joins_from lim d (map groups_of qs))
fits-joins p v lim d [] = record { same = refl; each = λ k h. absurd (omega arith) }
fits-joins p v lim d (q ∷ qs) =
    fits-append (Means p v) no_choice (StepEnd 0) (map (join_choice d) (pairs lim q.groups)) (joins_at lim (suc d) qs) (map (join_of d) (pairs lim q.groups)) (joins_from lim (suc d) (map groups_of qs))
    (fits-map (Means p v) no_choice (StepEnd 0) (join_choice d) (join_of d) (0, 0) (pairs lim q.groups) (λ k l. refl)) (fits-joins p v lim (suc d) qs)

fits-sends : (p : Plan) (v : View) (d : ℕ) (qs : List Queued) → Fits (Means p v) no_choice (StepEnd 0) (sends_at d qs) (sends d (map groups_of qs))
fits-sends p v d [] = record { same = refl; each = λ k h. absurd (omega arith) }
fits-sends p v d (q ∷ qs) =
    fits-append (Means p v) no_choice (StepEnd 0) (map (Send d) (numbers 0 (length q.groups))) (sends_at (suc d) qs) (map (StepSend d) (numbers 0 (length q.groups))) (sends (suc d) (map groups_of qs))
    (fits-map (Means p v) no_choice (StepEnd 0) (Send d) (StepSend d) 0 (numbers 0 (length q.groups)) (λ k l. refl)) (fits-sends p v (suc d) qs)

pub all-fit : (p : Plan) (v : View) (g : Gated) (ops : List OpState) (live : List ℕ) (qs : List Queued) (flight : List Command) → ops ≡ map state_of v.ops → live ≡ live_ops v → map groups_of qs ≡ v.queues → flight ≡ in_order v.commands → Windowed v → g.phases ≡ map phase_of v.ops → IsGateFor p v g →
    Fits (Means p v) no_choice (StepEnd 0) (choices p g ops live qs flight) (enabled p v)
all-fit p v g ops live qs flight e₁ e₂ e₃ e₄ w x c =
    let b = by-lists p v in
    let j : Fits (Means p v) no_choice (StepEnd 0) (joins_at p.limits 0 qs) (joins_from p.limits 0 v.queues) = rw e₃ at (fits-joins p v p.limits 0 qs) in
    let s : Fits (Means p v) no_choice (StepEnd 0) (sends_at 0 qs) (sends 0 v.queues) = rw e₃ at (fits-sends p v 0 qs) in
    rw (e₁, e₂, e₄, b)
    (fits-append (Means p v) no_choice (StepEnd 0) (map End (found_places p v g Ending)) _ (enabled_below p v StepEnd (length v.ops)) _ (fits-ops p v g Ending End w x c (λ q h. (h, refl)))
    (fits-append (Means p v) no_choice (StepEnd 0) (map Complete (numbers 0 (length (in_order v.commands)))) _ (enabled_below p v StepComplete (length v.commands)) _ (fits-completions p v)
    (fits-append (Means p v) no_choice (StepEnd 0) (map Admit (found_places p v g Admission)) _ (enabled_below p v StepAdmit (length v.ops)) _ (fits-ops p v g Admission Admit w x c (λ q h. (h, refl)))
    (fits-append (Means p v) no_choice (StepEnd 0) (map Cut (found_places p v g Cutting)) _ (enabled_below p v StepCut (length v.ops)) _ (fits-ops p v g Cutting Cut w x c (λ q h. (h, refl)))
    (fits-append (Means p v) no_choice (StepEnd 0) (joins_at p.limits 0 qs) (sends_at 0 qs) (joins_from p.limits 0 v.queues) (sends 0 v.queues) j s)))))
