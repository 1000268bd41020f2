-- The step of a word.
use Rattle.std.proofs.Common.{◌≡◌, ◌<◌, ◌≤◌, ℕ, zero, suc, ◌+◌, ◌*◌, Bool, true, false, List, [], ◌∷◌, length, map, get_or, refl, sym, ap, ◌∙◌, ⊎_elim, arith, length-append}
use Rattle.std.specs.Prelude.{◌%◌, ◌^◌, min}
use Rattle.std.specs.List.{All, filter}
use Rattle.std.proofs.lemmas.Bool.{cases_Bool}
use Rattle.std.proofs.lemmas.List.{length-map}
use Rattle.std.proofs.lemmas.List.Elements.{All-from_get_or, All-head, All-tail}
use Rattle.std.proofs.Math.Nat.{mul-le-mul_left}
use Rattle.merge_queue.specs.declared.limits.Limits.{Limits}
use Rattle.merge_queue.specs.Groups.{size, Group, may_join, numbers, pairs, pairs_below}
use Rattle.merge_queue.specs.Index.{total, Queued}
use Rattle.stack_laws.specs.Plan.{Plan}
use Rattle.stack_laws.specs.View.{View, OpView, no_op}
use Rattle.stack_laws.specs.Steps.{enabled, chosen}
use Rattle.stack_laws.specs.Sound.{HasBlocks}
use Rattle.merge_queue.proofs.Joins.{pairs-more}
use Rattle.merge_queue.proofs.Linking.{length-numbers}
use Rattle.stack_laws.proofs.Enabled.{none-enabled, stuck}
use Rattle.stack_laws.proofs.Capacity.{few-unsettled}
use Rattle.stack_steps.specs.declared.machine.Machine.{Machine}
use Rattle.stack_steps.specs.Does.{Works}
use Rattle.stack_steps.specs.declared.state.OpState.{OpState}
use Rattle.stack_steps.specs.declared.choice.Choice.{Choice}
use Rattle.stack_steps.specs.declared.choice.Choice.TheVariants.{Join, Send}
use Rattle.stack_steps.specs.Fine.{Fine}
use Rattle.stack_steps.specs.State.{state_of, phase_of}
use Rattle.stack_steps.specs.Choices.{can_at, places, no_choice, joins_at, sends_at, choices, IsBelow}
use Rattle.stack_steps.specs.Flights.{Flights}
use Rattle.stack_steps.specs.Shows.{live_from, groups_of, Shows, Means}
use Rattle.range_gate.specs.Gates.{Gated, has_ended}
use Rattle.stack_steps.specs.declared.choice.OpStep.{OpStep}
use Rattle.stack_steps.specs.declared.choice.OpStep.TheVariants.{Ending, Admission, Cutting}
use Rattle.stack_steps.proofs.Nth.{length-choices}
use Rattle.stack_steps.proofs.Sums.{flying}
use Rattle.stack_steps.proofs.Chosen.{all-fit}
use Rattle.stack_steps.proofs.Keep.{listed-there}

-- ---- how much there is to count

filter-few : {A : Type 0} (t : A → Bool) (xs : List A) → length (filter t xs) ≤ length xs
filter-few t [] = omega arith
filter-few t (x ∷ xs) =
    let r = filter-few t xs in
    ⊎_elim (λ (e : t x ≡ true). rw e (omega arith)) (λ (e : t x ≡ false). rw e (omega arith)) (cases_Bool (t x))

pairs-few : (lim : Limits) (q : List Group) (n : ℕ) → length (pairs_below lim q n) ≤ n * length q
pairs-few lim q zero = omega arith
pairs-few lim q (suc n) =
    let r = pairs-few lim q n in
    let m = pairs-more lim q n in
    let a : n + 1 ≡ suc n = omega arith in
    let m₂ = rw a at m in
    let f = filter-few (may_join lim q n) (numbers 0 (length q)) in
    let k = length-numbers 0 (length q) in
    omega arith

joins-few : (lim : Limits) (d : ℕ) (qs : List Queued) (m : ℕ) → total (λ (q : Queued). length q.groups) qs ≤ m → length (joins_at lim d qs) ≤ total (λ (q : Queued). length q.groups) qs * m
joins-few lim d [] m h = omega arith
joins-few lim d (q ∷ qs) m h =
    let r = joins-few lim (suc d) qs m (omega arith) in
    let p = pairs-few lim q.groups (length q.groups) in
    let l : length q.groups ≤ m = omega arith in
    let w = mul-le-mul_left (length q.groups) l in
    let a = length-append (map (λ ij. Join d ij.0 ij.1) (pairs lim q.groups)) (joins_at lim (suc d) qs) in
    let b = length-map (pairs lim q.groups) (λ ij. Join d ij.0 ij.1) in
    omega arith

sends-few : (d : ℕ) (qs : List Queued) → length (sends_at d qs) ≡ total (λ (q : Queued). length q.groups) qs
sends-few d [] = refl
sends-few d (q ∷ qs) =
    let r = sends-few (suc d) qs in
    let a = length-append (map (Send d) (numbers 0 (length q.groups))) (sends_at (suc d) qs) in
    let b = length-map (numbers 0 (length q.groups)) (Send d) in
    let c = length-numbers 0 (length q.groups) in
    omega arith

groups-few : (q : List Group) → All HasBlocks q → length q ≤ total size q
groups-few [] a = omega arith
groups-few (g ∷ gs) a = let h = All-head HasBlocks g gs a in let r = groups-few gs (All-tail HasBlocks g gs a) in omega arith

all-groups-few : (qs : List (List Group)) → All (All HasBlocks) qs → total length qs ≤ total (total size) qs
all-groups-few [] a = omega arith
all-groups-few (q ∷ qs) a = let h = groups-few q (All-head (All HasBlocks) q qs a) in let r = all-groups-few qs (All-tail (All HasBlocks) q qs a) in omega arith

total-groups : (qs : List Queued) → total (λ (q : Queued). length q.groups) qs ≡ total length (map groups_of qs)
total-groups [] = refl
total-groups (q ∷ qs) = ap (λ n. length q.groups + n) (total-groups qs)

pub record CountsFit (p : Plan) (gate : Gated) (ops : List OpState) (live : List ℕ) (qs : List Queued) : Type 0 where
  pub few : length p.requests + 1 < 2 ^ 32
  pub phases : length gate.phases ≡ length p.requests
  pub same : length ops ≡ length p.requests
  pub below : All (IsBelow (length p.requests)) live
  pub devices : length qs < 2 ^ 32
  pub joins : length (joins_at p.limits 0 qs) ≤ 268435456
  pub sends : length (sends_at 0 qs) ≤ 16384

pub counts-fit : (p : Plan) (gate : Gated) (ops : List OpState) (live : List ℕ) (qs : List Queued) (flight : Flights) (steps : ℕ) (v : View) → Fine p → Shows p gate ops live qs flight steps v.queues v → CountsFit p gate ops live qs
counts-fit p gate ops live qs flight steps v f s =
    let a = ap length s.states ∙ length-map v.ops state_of ∙ s.sound.ops in
    let b = sym (length-map qs groups_of) ∙ ap length s.queued ∙ s.sound.devices in
    let d = f.few_devices in
    let o = f.few_ops in
    let u = few-unsettled p v s.sound in
    let c = s.accounted in
    let k = f.few_blocks in
    let g = all-groups-few v.queues s.sound.groups in
    let t = total-groups qs ∙ ap (total length) s.queued in
    let y = sends-few 0 qs in
    let j = joins-few p.limits 0 qs 16384 (omega arith) in
    let l = ap length s.listed in
    record {
      few = omega arith;
      phases = ap length s.phases ∙ length-map v.ops phase_of ∙ s.sound.ops;
      same = a;
      below = All-from_get_or (IsBelow (length p.requests)) live 0 (λ i h. (listed-there p gate ops live qs flight steps v i f s (omega arith)).request);
      devices = omega arith;
      joins = omega arith;
      sends = omega arith;
    }

pub count-is : (p : Plan) (gate : Gated) (ops : List OpState) (live : List ℕ) (qs : List Queued) (flight : Flights) (steps : ℕ) (v : View) → Shows p gate ops live qs flight steps v.queues v → length (choices p gate ops live qs flight.commands) ≡ length (enabled p v)
count-is p gate ops live qs flight steps v s = (all-fit p v gate ops live qs flight.commands s.states s.listed s.queued s.flying s.windowed s.phases (s.sound.ops, s.conflicts)).same

pub means : (p : Plan) (gate : Gated) (ops : List OpState) (live : List ℕ) (qs : List Queued) (flight : Flights) (steps : ℕ) (v : View) (word n : ℕ) (c : Choice) → Shows p gate ops live qs flight steps v.queues v → 0 < length (enabled p v) → n ≡ word % length (enabled p v) →
    c ≡ get_or (choices p gate ops live qs flight.commands) n no_choice → Means p v c (chosen p v word)
means p gate ops live qs flight steps v word n c s h e f =
    let a = all-fit p v gate ops live qs flight.commands s.states s.listed s.queued s.flying s.windowed s.phases (s.sound.ops, s.conflicts) in
    let l = a.same in
    let f₂ : c ≡ get_or (choices p gate ops live qs flight.commands) (word % length (enabled p v)) no_choice = f ∙ ap (λ m. get_or (choices p gate ops live qs flight.commands) m no_choice) e in
    rw f₂ (a.each (word % length (enabled p v)) (omega arith))

places-few : (p : Plan) (gate : Gated) (ops : List OpState) (live : List ℕ) (s : OpStep) → length (places p gate ops live s) ≤ 32
places-few p gate ops live s =
    let f = filter-few (can_at p gate ops live s) (numbers 0 (min (length live) 32)) in
    let n = length-numbers 0 (min (length live) 32) in
    omega arith

pub number-few : (p : Plan) (gate : Gated) (ops : List OpState) (live : List ℕ) (qs : List Queued) (flight : Flights) (steps : ℕ) (v : View) → Fine p → Shows p gate ops live qs flight steps v.queues v → length (enabled p v) < 2 ^ 32
number-few p gate ops live qs flight steps v f s =
    let c = counts-fit p gate ops live qs flight steps v f s in
    let k = count-is p gate ops live qs flight steps v s in
    let n = length-choices p gate ops live qs flight.commands in
    let x = places-few p gate ops live Ending in
    let y = places-few p gate ops live Admission in
    let z = places-few p gate ops live Cutting in
    let w = (flying p v.commands s.sound.commands s.formed.commands).number in
    let l = ap length s.flying in
    let u = few-unsettled p v s.sound in
    let a = s.accounted in
    let b = f.few_blocks in
    let i = c.joins in
    let j = c.sends in
    omega arith

-- ---- over slices of the lists

pub counts-at : (p : Plan) (gate gate' : Gated) (ops ops' : List OpState) (live live' : List ℕ) (qs qs' : List Queued) (flight : Flights) (steps : ℕ) (v : View) → Fine p → Shows p gate ops live qs flight steps v.queues v → gate' ≡ gate → ops' ≡ ops → live' ≡ live → qs' ≡ qs → CountsFit p gate' ops' live' qs'
counts-at p gate gate' ops ops' live live' qs qs' flight steps v f s z a b c = rw (z, a, b, c) (counts-fit p gate ops live qs flight steps v f s)

-- the same of the lists of a machine that shows a view
pub fits-at : (p : Plan) (s : Machine) (ops : List OpState) (live : List ℕ) (qs : List Queued) → Fine p → Works p s → ops ≡ s.ops.items → live ≡ s.live.items → qs ≡ s.queues.items → CountsFit p s.gate ops live qs
fits-at p s ops live qs f w a b e = counts-at p s.gate s.gate s.ops.items ops s.live.items live s.queues.items qs s.flight s.steps w.0 f w.1.shows refl a b e

pub count-at : (p : Plan) (gate gate' : Gated) (ops ops' : List OpState) (live live' : List ℕ) (qs qs' : List Queued) (flight : Flights) (steps : ℕ) (v : View) (n : ℕ) → Shows p gate ops live qs flight steps v.queues v → gate' ≡ gate → ops' ≡ ops → live' ≡ live → qs' ≡ qs →
    n ≡ length (choices p gate' ops' live' qs' flight.commands) → n ≡ length (enabled p v)
count-at p gate gate' ops ops' live live' qs qs' flight steps v n s z a b c e =
    let k : n ≡ length (choices p gate ops live qs flight.commands) = rw (z, a, b, c) at e in
    k ∙ count-is p gate ops live qs flight steps v s

pub within-at : (p : Plan) (gate gate' : Gated) (ops ops' : List OpState) (live live' : List ℕ) (qs qs' : List Queued) (flight : Flights) (steps : ℕ) (v : View) (word n : ℕ) → Shows p gate ops live qs flight steps v.queues v → gate' ≡ gate → ops' ≡ ops → live' ≡ live → qs' ≡ qs →
    0 < length (enabled p v) → n ≡ word % length (enabled p v) → n < length (choices p gate' ops' live' qs' flight.commands)
within-at p gate gate' ops ops' live live' qs qs' flight steps v word n s z a b c h e = let k = count-is p gate ops live qs flight steps v s in rw (z, a, b, c) (omega arith)

pub means-at : (p : Plan) (gate gate' : Gated) (ops ops' : List OpState) (live live' : List ℕ) (qs qs' : List Queued) (flight : Flights) (steps : ℕ) (v : View) (word n : ℕ) (c : Choice) → Shows p gate ops live qs flight steps v.queues v → gate' ≡ gate → ops' ≡ ops → live' ≡ live → qs' ≡ qs →
    0 < length (enabled p v) → n ≡ word % length (enabled p v) → c ≡ get_or (choices p gate' ops' live' qs' flight.commands) n no_choice → Means p v c (chosen p v word)
means-at p gate gate' ops ops' live live' qs qs' flight steps v word n c s w x y z h e f =
    let k : c ≡ get_or (choices p gate ops live qs flight.commands) n no_choice = rw (w, x, y, z) at f in
    means p gate ops live qs flight steps v word n c s h e k

first-over : (o : OpView) (os : List OpView) → ((m : ℕ) → m < length os → has_ended (get_or os m no_op).phase ≡ true) → has_ended o.phase ≡ true → (i : ℕ) → i < length (o ∷ os) → has_ended (get_or (o ∷ os) i no_op).phase ≡ true
first-over o os r y zero h = y
first-over o os r y (suc i) h = r i (omega arith)

-- no op is left exactly where no step is enabled
pub none-lives : (p : Plan) (gate : Gated) (ops : List OpState) (live : List ℕ) (qs : List Queued) (flight : Flights) (steps : ℕ) (v : View) → Shows p gate ops live qs flight steps v.queues v → live ≡ [] → enabled p v ≡ []
none-lives p gate ops live qs flight steps v s e =
    none-enabled p v s.sound (λ i h. all-over 0 v.ops (sym s.listed ∙ e) i h)
  where
    all-over : (k : ℕ) (os : List OpView) → live_from k os ≡ [] → (i : ℕ) → i < length os → has_ended (get_or os i no_op).phase ≡ true
    all-over k [] e i h = absurd (omega arith)
    all-over k (o ∷ os) e i h =
        ⊎_elim
        (λ (y : has_ended o.phase ≡ true). first-over o os (λ m l. all-over (suc k) os (rw y at e) m l) y i h)
        (λ (y : has_ended o.phase ≡ false). let z : (k ∷ live_from (suc k) os) ≡ [] = rw y at e in absurd (let n = ap length z in omega arith))
        (cases_Bool (has_ended o.phase))

pub none-enabled-lives : (p : Plan) (gate : Gated) (ops : List OpState) (live : List ℕ) (qs : List Queued) (flight : Flights) (steps : ℕ) (v : View) → Shows p gate ops live qs flight steps v.queues v → enabled p v ≡ [] → live ≡ []
none-enabled-lives p gate ops live qs flight steps v s e = s.listed ∙ gone 0 v.ops (stuck p v s.sound e)
  where
    gone : (k : ℕ) (os : List OpView) → ((i : ℕ) → i < length os → has_ended (get_or os i no_op).phase ≡ true) → live_from k os ≡ []
    gone k [] h = refl
    gone k (o ∷ os) h = let y = h 0 (omega arith) in rw y (gone (suc k) os (λ i l. h (suc i) (omega arith)))
