-- Nothing is enabled exactly where all ops have ended.
use Rattle.std.proofs.Common.{◌≡◌, ℕ, zero, suc, ◌+◌, ◌-◌, ◌<◌, ◌≤◌, ◌⊎◌, inl, inr, Bool, true, false, List, [], ◌∷◌, ◌++◌, length, get_or, map, refl, sym, ap, ◌∙◌, ⊎_elim, arith}
use Rattle.std.specs.Prelude.{if◌then◌else◌, nat_lt, ◌%◌}
use Rattle.std.specs.List.{All, filter}
use Rattle.std.proofs.lemmas.Bool.{cases_Bool, cases_eq, cases_lt, and_parts, and_from, and_left, not-true, not-false, false_from_ne_true, ltb-true, ltb-false, lt-ltb, le-ltb}
use Rattle.std.proofs.lemmas.List.{get_or_past, nil_from_length}
use Rattle.std.proofs.lemmas.List.Elements.{All-get_or, filter_passes}
use Rattle.merge_queue.specs.Passed.{Fate}
use Rattle.merge_queue.proofs.Lists.{total-one}
use Rattle.stack_laws.specs.Blocks.{BlockId, blocks, times, settled_count, is_settled}
use Rattle.merge_queue.specs.Groups.{size, numbers, Group}
use Rattle.merge_queue.specs.Index.{total}
use Rattle.stack_laws.specs.Plan.{Plan, PlannedOp, request_at}
use Rattle.range_gate.specs.declared.phase.Phase.{Phase}
use Rattle.range_gate.specs.declared.phase.Phase.TheVariants.{Waiting, Admitted, Ended}
use Rattle.range_gate.specs.Gates.{is_waiting, has_ended}
use Rattle.stack_laws.specs.View.{View, OpView, Command, is_admitted, all_true, no_op, no_command, op_at, queue_at, group_at, command_at}
use Rattle.stack_laws.specs.Steps.{Step, End, Complete, Admit, Cut, Join, Send, unended, can, joins, sends, all_steps, enabled, chosen}
use Rattle.stack_laws.specs.Sound.{in_groups, in_queues, in_commands, is_marked, due, HasBlocks, Open, AllEnded, Sound}
use Rattle.stack_laws.proofs.Counts.{length-blocks, times-head}
use Rattle.stack_laws.proofs.Keeps.{queue-there, command-there, op-there, open-command, admitted-waits}

-- ---- lists of steps

abbrev pub In : {A : Type 0} → A → List A → Type 0
In x [] = ⊥
In x (y ∷ ys) = (x ≡ y) ⊎ In x ys

pub in-left : {A : Type 0} (x : A) (xs ys : List A) → In x xs → In x (xs ++ ys)
in-left x [] ys h = absurd h
in-left x (y ∷ xs) ys (inl e) = inl e
in-left x (y ∷ xs) ys (inr h) = inr (in-left x xs ys h)

pub in-right : {A : Type 0} (x : A) (xs ys : List A) → In x ys → In x (xs ++ ys)
in-right x [] ys h = h
in-right x (y ∷ xs) ys h = inr (in-right x xs ys h)

in-map : {A B : Type 0} (f : A → B) (x : A) (xs : List A) → In x xs → In (f x) (map f xs)
in-map f x [] h = absurd h
in-map f x (y ∷ xs) (inl e) = inl (ap f e)
in-map f x (y ∷ xs) (inr h) = inr (in-map f x xs h)

in-numbers : (k n x : ℕ) → k ≤ x → x < k + n → In x (numbers k n)
in-numbers k zero x h l = absurd (omega arith)
in-numbers k (suc n) x h l =
    ⊎_elim (λ (e : x ≡ k). inl e) (λ (ne : x ≡ k → ⊥). inr (in-numbers (suc k) n x (above ne) (omega arith))) (cases_eq x k)
  where
    above : (x ≡ k → ⊥) → suc k ≤ x
    above ne = omega arith

in-sends : (e d i : ℕ) (qs : List (List Group)) → d < length qs → i < length (get_or qs d []) → In (Send (e + d) i) (sends e qs)
in-sends e d i [] h l = absurd (omega arith)
in-sends e zero i (q ∷ qs) h l = let z : e + 0 ≡ e = omega arith in rw z (in-left (Send e i) (map (Send e) (numbers 0 (length q))) (sends (suc e) qs) (in-map (Send e) i (numbers 0 (length q)) (in-numbers 0 (length q) i (omega arith) (omega arith))))
in-sends e (suc d) i (q ∷ qs) h l =
    let z : e + suc d ≡ suc e + d = omega arith in
    rw z (in-right (Send (suc e + d) i) (map (Send e) (numbers 0 (length q))) (sends (suc e) qs) (in-sends (suc e) d i qs (omega arith) l))

-- where a filter keeps nothing, nothing passes, and the other way round
filter-cons : {A : Type 0} (t : A → Bool) (y : A) (ys : List A) → filter t (y ∷ ys) ≡ [] → (t y ≡ false) × (filter t ys ≡ [])
filter-cons t y ys h =
    ⊎_elim
    (λ (e : t y ≡ true). let f = rw e at h in cc)
    (λ (e : t y ≡ false). let f : filter t ys ≡ [] = rw e at h in (e, f))
    (cases_Bool (t y))

filter-none : {A : Type 0} (t : A → Bool) (xs : List A) (x : A) → filter t xs ≡ [] → In x xs → t x ≡ false
filter-none t [] x h i = absurd i
filter-none t (y ∷ ys) x h (inl g) = ap t g ∙ (filter-cons t y ys h).0
filter-none t (y ∷ ys) x h (inr g) = filter-none t ys x (filter-cons t y ys h).1 g

none-filter : {A : Type 0} (t : A → Bool) (xs : List A) → ((x : A) → t x ≡ false) → filter t xs ≡ []
none-filter t [] h = refl
none-filter t (x ∷ xs) h = let e = h x in rw e (none-filter t xs h)

-- the step of a word is enabled
pub chosen-can : (p : Plan) (v : View) (w : ℕ) → 0 < length (enabled p v) → can p v (chosen p v w) ≡ true
chosen-can p v w h = All-get_or (λ s. can p v s ≡ true) (enabled p v) (w % length (enabled p v)) (End 0) (omega arith) (filter_passes (can p v) (all_steps v))

-- ---- where all have ended

pub all-at : (xs : List Bool) (k : ℕ) → all_true xs ≡ true → k < length xs → get_or xs k false ≡ true
all-at [] k h l = absurd (omega arith)
all-at (x ∷ xs) zero h l = (and_parts x (all_true xs) h).0
all-at (x ∷ xs) (suc k) h l = all-at xs k (and_parts x (all_true xs) h).1 (omega arith)

due-marked : (r : PlannedOp) (o : OpView) (k : ℕ) → length o.settled ≡ r.count → all_true o.settled ≡ true → due r o k ≤ is_marked o k
due-marked r o k l a =
    ⊎_elim
    (λ (w : is_waiting o.phase ≡ true). rw w (omega arith))
    (λ (w : is_waiting o.phase ≡ false). ⊎_elim
    (λ (h : k < r.count). let e = lt-ltb k r.count h in let m = all-at o.settled k a (omega arith) in rw (w, e, m) (omega arith))
    (λ (h : r.count ≤ k). let e = le-ltb k r.count h in rw (w, e) (omega arith))
    (cases_lt k r.count))
    (cases_Bool (is_waiting o.phase))

-- no block of an op that ended is on its way
pub none-on-way : (p : Plan) (v : View) (i k : ℕ) → Sound p v → has_ended (op_at v i).phase ≡ true → in_queues i k v.queues + in_commands i k v.commands ≡ 0
none-on-way p v i k s h =
    let z = s.one_place i k in
    let d = due-marked (request_at p i) (op_at v i) k (s.lengths i) (s.ended i h) in
    omega arith

all-ended-at : (v : View) → AllEnded v → (i : ℕ) → has_ended (op_at v i).phase ≡ true
all-ended-at v a i =
    ⊎_elim (λ (l : i < length v.ops). a i l) (λ (l : length v.ops ≤ i). let e = get_or_past v.ops i no_op l in rw e refl) (cases_lt i (length v.ops))

-- a group with blocks has one
a-block : (g : Group) → 0 < size g → (b : BlockId) × (1 ≤ times b.op b.k (blocks g))
a-block g h = from (blocks g) (let l = length-blocks g in omega arith)
  where
    from : (bs : List BlockId) → 0 < length bs → (b : BlockId) × (1 ≤ times b.op b.k bs)
    from [] l = absurd (omega arith)
    from (b ∷ bs) l = (b, times-head b bs)

pub group-queued : (p : Plan) (v : View) (d i o k : ℕ) → i < length (queue_at v d) → times o k (blocks (group_at v d i)) ≤ in_queues o k v.queues
group-queued p v d i o k h =
    let a = total-one (λ g. times o k (blocks g)) (queue_at v d) i [] h in
    let b = total-one (in_groups o k) v.queues d [] (queue-there v d i h) in
    omega arith

pub group-has : (p : Plan) (v : View) (d i : ℕ) → Sound p v → i < length (queue_at v d) → HasBlocks (group_at v d i)
group-has p v d i s h = All-get_or HasBlocks (queue_at v d) i [] h (All-get_or (All HasBlocks) v.queues d [] (queue-there v d i h) s.groups)

no-group : (p : Plan) (v : View) (d i : ℕ) → Sound p v → AllEnded v → i < length (queue_at v d) → ⊥
no-group p v d i s a h =
    let b = a-block (group_at v d i) (group-has p v d i s h) in
    let q = group-queued p v d i b.0.op b.0.k h in
    let n = none-on-way p v b.0.op b.0.k s (all-ended-at v a b.0.op) in
    let m = b.1 in
    omega arith

pub few-settled : (fs : List Fate) → settled_count fs ≤ length fs
few-settled [] = omega arith
few-settled (f ∷ fs) =
    let e = few-settled fs in
    ⊎_elim (λ (z : is_settled f ≡ true). rw z (omega arith)) (λ (z : is_settled f ≡ false). rw z (omega arith)) (cases_Bool (is_settled f))

pub open-has : (p : Plan) (c : Command) → Open p c → HasBlocks c.bios
open-has p c o = let a = o.settles.some in let b = o.settles.each in let f = few-settled c.fates in omega arith

no-command : (p : Plan) (v : View) (j : ℕ) → Sound p v → AllEnded v → (command_at v j).completed ≡ false → ⊥
no-command p v j s a h =
    let b = a-block (command_at v j).bios (open-has p (command_at v j) (open-command p v j s h)) in
    let t = total-one (λ c. if c.completed then 0 else times b.0.op b.0.k (blocks c.bios)) v.commands j no_command (command-there v j h) in
    let e : (if (command_at v j).completed then 0 else times b.0.op b.0.k (blocks (command_at v j).bios)) ≡ times b.0.op b.0.k (blocks (command_at v j).bios) = rw h refl in
    let n = none-on-way p v b.0.op b.0.k s (all-ended-at v a b.0.op) in
    let m = b.1 in
    omega arith

ended-not : (h : Phase) → has_ended h ≡ true → (is_waiting h ≡ false) × (is_admitted h ≡ false)
ended-not Waiting e = cc
ended-not Admitted e = cc
ended-not Ended e = (refl, refl)

pub none-can : (p : Plan) (v : View) → Sound p v → AllEnded v → (t : Step) → can p v t ≡ false
none-can p v s a (End i) = let e = ended-not (op_at v i).phase (all-ended-at v a i) in let f = e.1 in rw f refl
none-can p v s a (Complete j) = false_from_ne_true _ (λ e. no-command p v j s a (not-true (command_at v j).completed e))
none-can p v s a (Admit i) = let e = ended-not (op_at v i).phase (all-ended-at v a i) in let f = e.0 in rw f refl
none-can p v s a (Cut i) = let e = ended-not (op_at v i).phase (all-ended-at v a i) in let f = e.1 in rw f refl
none-can p v s a (Join d i j) = and_left (nat_lt i (length (queue_at v d))) _ (le-ltb i (length (queue_at v d)) (none d i))
  where
    none : (d i : ℕ) → length (queue_at v d) ≤ i
    none d i = ⊎_elim (λ (l : i < length (queue_at v d)). absurd (no-group p v d i s a l)) (λ (l : length (queue_at v d) ≤ i). l) (cases_lt i (length (queue_at v d)))
none-can p v s a (Send d i) = le-ltb i (length (queue_at v d)) (none d i)
  where
    none : (d i : ℕ) → length (queue_at v d) ≤ i
    none d i = ⊎_elim (λ (l : i < length (queue_at v d)). absurd (no-group p v d i s a l)) (λ (l : length (queue_at v d) ≤ i). l) (cases_lt i (length (queue_at v d)))

pub none-enabled : (p : Plan) (v : View) → Sound p v → AllEnded v → enabled p v ≡ []
none-enabled p v s a = none-filter (can p v) (all_steps v) (none-can p v s a)

-- ---- where nothing is enabled

unended-none : (v : View) (n : ℕ) → ((j : ℕ) → j < n → has_ended (op_at v j).phase ≡ true) → unended v n ≡ []
unended-none v zero h = refl
unended-none v (suc n) h = let e = h n (omega arith) in rw e (unended-none v n (λ j l. h j (omega arith)))

-- what isn't enabled
cannot : (p : Plan) (v : View) (t : Step) → enabled p v ≡ [] → In t (all_steps v) → can p v t ≡ false
cannot p v t e i = filter-none (can p v) (all_steps v) t e i

in-ends : (v : View) (i : ℕ) → i < length v.ops → In (End i) (all_steps v)
in-ends v i h = in-left (End i) _ _ (in-map End i (numbers 0 (length v.ops)) (in-numbers 0 (length v.ops) i (omega arith) (omega arith)))

in-completes : (v : View) (j : ℕ) → j < length v.commands → In (Complete j) (all_steps v)
in-completes v j h =
    in-right (Complete j) (map End (numbers 0 (length v.ops))) _
    (in-left (Complete j) _ _ (in-map Complete j (numbers 0 (length v.commands)) (in-numbers 0 (length v.commands) j (omega arith) (omega arith))))

in-admits : (v : View) (i : ℕ) → i < length v.ops → In (Admit i) (all_steps v)
in-admits v i h =
    in-right (Admit i) (map End (numbers 0 (length v.ops))) _ (in-right (Admit i) (map Complete (numbers 0 (length v.commands))) _
    (in-left (Admit i) _ _ (in-map Admit i (numbers 0 (length v.ops)) (in-numbers 0 (length v.ops) i (omega arith) (omega arith)))))

in-cuts : (v : View) (i : ℕ) → i < length v.ops → In (Cut i) (all_steps v)
in-cuts v i h =
    in-right (Cut i) (map End (numbers 0 (length v.ops))) _ (in-right (Cut i) (map Complete (numbers 0 (length v.commands))) _
    (in-right (Cut i) (map Admit (numbers 0 (length v.ops))) _
    (in-left (Cut i) _ _ (in-map Cut i (numbers 0 (length v.ops)) (in-numbers 0 (length v.ops) i (omega arith) (omega arith))))))

in-all-sends : (v : View) (d i : ℕ) → d < length v.queues → i < length (queue_at v d) → In (Send d i) (all_steps v)
in-all-sends v d i h l =
    in-right (Send d i) (map End (numbers 0 (length v.ops))) _ (in-right (Send d i) (map Complete (numbers 0 (length v.commands))) _
    (in-right (Send d i) (map Admit (numbers 0 (length v.ops))) _ (in-right (Send d i) (map Cut (numbers 0 (length v.ops))) _
    (in-right (Send d i) (joins 0 v.queues) _ (let e : 0 + d ≡ d = omega arith in rw e at (in-sends 0 d i v.queues h l))))))

empty-queues : (p : Plan) (v : View) → enabled p v ≡ [] → (d : ℕ) → d < length v.queues → queue_at v d ≡ []
empty-queues p v e d h =
    ⊎_elim
    (λ (l : 0 < length (queue_at v d)). let c = cannot p v (Send d 0) e (in-all-sends v d 0 h l) in let t = lt-ltb 0 (length (queue_at v d)) l in let f : true ≡ false = sym t ∙ c in cc)
    (λ (l : length (queue_at v d) ≤ 0). nil_from_length (queue_at v d) (omega arith))
    (cases_lt 0 (length (queue_at v d)))

nothing-queued : (f : List Group → ℕ) (qs : List (List Group)) → f [] ≡ 0 → ((d : ℕ) → d < length qs → get_or qs d [] ≡ []) → total f qs ≡ 0
nothing-queued f [] z h = refl
nothing-queued f (q ∷ qs) z h = let e : q ≡ [] = h 0 (omega arith) in let t = nothing-queued f qs z (λ d l. h (suc d) (omega arith)) in let g : f q ≡ 0 = ap f e ∙ z in omega arith

all-completed : (p : Plan) (v : View) → enabled p v ≡ [] → (j : ℕ) → j < length v.commands → (command_at v j).completed ≡ true
all-completed p v e j h = let c = cannot p v (Complete j) e (in-completes v j h) in not-false (command_at v j).completed c

nothing-sent : (i k : ℕ) (cs : List Command) → ((j : ℕ) → j < length cs → (get_or cs j no_command).completed ≡ true) → in_commands i k cs ≡ 0
nothing-sent i k [] h = refl
nothing-sent i k (c ∷ cs) h = let e : c.completed ≡ true = h 0 (omega arith) in let t = nothing-sent i k cs (λ j l. h (suc j) (omega arith)) in rw e (omega arith)

all-from : (xs : List Bool) → ((k : ℕ) → k < length xs → get_or xs k false ≡ true) → all_true xs ≡ true
all-from [] h = refl
all-from (x ∷ xs) h = and_from x (all_true xs) (h 0 (omega arith)) (all-from xs (λ k l. h (suc k) (omega arith)))

abbrev as-number : Bool → ℕ
as-number b = if b then 1 else 0

is-true : (b : Bool) → as-number b ≡ 1 → b ≡ true
is-true true h = refl
is-true false h = absurd (omega arith)

-- an admitted op of which all is cut, with nothing on its way, is settled
settled-all : (p : Plan) (v : View) (n : ℕ) → Sound p v → enabled p v ≡ [] → is_waiting (op_at v n).phase ≡ false → (request_at p n).count ≤ (op_at v n).cut → all_true (op_at v n).settled ≡ true
settled-all p v n s e w c = all-from (op_at v n).settled at
  where
    marked : (k : ℕ) → k < (request_at p n).count → is_marked (op_at v n) k ≡ 1
    marked k h =
        let z = s.one_place n k in
        let q = nothing-queued (in_groups n k) v.queues refl (empty-queues p v e) in
        let m = nothing-sent n k v.commands (all-completed p v e) in
        let l = lt-ltb k (request_at p n).count h in
        let r : (request_at p n).count - (op_at v n).cut ≡ 0 = omega arith in
        let y = rw (w, l, r) at z in
        omega arith

    at : (k : ℕ) → k < length (op_at v n).settled → get_or (op_at v n).settled k false ≡ true
    at k h = is-true (get_or (op_at v n).settled k false) (marked k (let l = s.lengths n in omega arith))

next-ended : (p : Plan) (v : View) (n : ℕ) → Sound p v → enabled p v ≡ [] → n < length v.ops → ((j : ℕ) → j < n → has_ended (op_at v j).phase ≡ true) →
    (h : Phase) → (op_at v n).phase ≡ h → has_ended (op_at v n).phase ≡ true
next-ended p v n s e l b Waiting h =
    let c = cannot p v (Admit n) e (in-admits v n l) in
    let u = unended-none v n b in
    let f : true ≡ false = rw (h, u) at c in
    cc
next-ended p v n s e l b Admitted h =
    let c : nat_lt (op_at v n).cut (request_at p n).count ≡ false = rw h at (cannot p v (Cut n) e (in-cuts v n l)) in
    let w : is_waiting (op_at v n).phase ≡ false = ap is_waiting h in
    let a = settled-all p v n s e w (ltb-false (op_at v n).cut (request_at p n).count c) in
    let d = cannot p v (End n) e (in-ends v n l) in
    let f : true ≡ false = rw (h, a) at d in
    cc
next-ended p v n s e l b Ended h = ap has_ended h

ended-below : (p : Plan) (v : View) → Sound p v → enabled p v ≡ [] → (n : ℕ) → n ≤ length v.ops → (i : ℕ) → i < n → has_ended (op_at v i).phase ≡ true
ended-below p v s e zero l i h = absurd (omega arith)
ended-below p v s e (suc n) l i h =
    let before = ended-below p v s e n (omega arith) in
    ⊎_elim
    (λ (f : i ≡ n). rw f (next-ended p v n s e (omega arith) before (op_at v n).phase refl))
    (λ (ne : i ≡ n → ⊥). before i (omega arith))
    (cases_eq i n)

pub stuck : (p : Plan) (v : View) → Sound p v → enabled p v ≡ [] → AllEnded v
stuck p v s e i l = ended-below p v s e (length v.ops) (omega arith) i l

-- ---- what is sent

-- a block in a queue is of an op that is admitted and has not ended
pub queued-admitted : (p : Plan) (v : View) (o k : ℕ) → Sound p v → 1 ≤ in_queues o k v.queues → (o < length v.ops) × (is_admitted (op_at v o).phase ≡ true)
queued-admitted p v o k s h = (there, by (op_at v o).phase refl)
  where
    not-ended : has_ended (op_at v o).phase ≡ true → ⊥
    not-ended e = let n = none-on-way p v o k s e in absurd (omega arith)

    there : o < length v.ops
    there = op-there v o (false_from_ne_true (has_ended (op_at v o).phase) not-ended)

    by : (f : Phase) → (op_at v o).phase ≡ f → is_admitted (op_at v o).phase ≡ true
    by Waiting e = let z = s.one_place o k in let y = rw e at z in absurd (omega arith)
    by Admitted e = ap is_admitted e
    by Ended e = absurd (not-ended (ap has_ended e))

-- all earlier ops that conflict have ended
pub sent-in-order : (p : Plan) (v : View) (d i o k : ℕ) → Sound p v → can p v (Send d i) ≡ true → 1 ≤ times o k (blocks (group_at v d i)) →
    (is_admitted (op_at v o).phase ≡ true) × ((j : ℕ) → j < o → p.conflicts j o ≡ true → has_ended (op_at v j).phase ≡ true)
sent-in-order p v d i o k s h t =
    let q = group-queued p v d i o k (ltb-true i (length (queue_at v d)) h) in
    let a = queued-admitted p v o k s (omega arith) in
    (a.1, λ j l c. s.order j o l a.0 (admitted-waits (op_at v o).phase a.1) c)

pub due-one : (r : PlannedOp) (o : OpView) (k : ℕ) → due r o k ≤ 1
due-one r o k =
    ⊎_elim
    (λ (w : is_waiting o.phase ≡ true). rw w (omega arith))
    (λ (w : is_waiting o.phase ≡ false). ⊎_elim (λ (e : nat_lt k r.count ≡ true). rw (w, e) (omega arith)) (λ (e : nat_lt k r.count ≡ false). rw (w, e) (omega arith)) (cases_Bool (nat_lt k r.count)))
    (cases_Bool (is_waiting o.phase))

-- no block stands twice in a group
pub sent-once : (p : Plan) (v : View) (d i o k : ℕ) → Sound p v → can p v (Send d i) ≡ true → times o k (blocks (group_at v d i)) ≤ 1
sent-once p v d i o k s h =
    let q = group-queued p v d i o k (ltb-true i (length (queue_at v d)) h) in
    let z = s.one_place o k in
    let e = due-one (request_at p o) (op_at v o) k in
    omega arith
