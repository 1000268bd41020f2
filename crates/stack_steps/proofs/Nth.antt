-- The six lists of choices, one behind another.
use Rattle.std.proofs.Common.{◌≡◌, ◌<◌, ℕ, ◌+◌, ◌-◌, List, ◌++◌, length, map, get_or, refl, ap, ◌∙◌, arith, length-append}
use Rattle.std.proofs.lemmas.List.{length-map, get_or-map, get_or_append_left, get_or-append_right}
use Rattle.stack_laws.specs.Plan.{Plan}
use Rattle.merge_queue.specs.Groups.{numbers}
use Rattle.merge_queue.specs.Index.{Queued}
use Rattle.merge_queue.proofs.Linking.{length-numbers}
use Rattle.range_gate.specs.Gates.{Gated}
use Rattle.stack_laws.specs.View.{Command}
use Rattle.stack_steps.specs.declared.state.OpState.{OpState}
use Rattle.stack_steps.specs.declared.choice.OpStep.TheVariants.{Ending, Admission, Cutting}
use Rattle.stack_steps.specs.declared.choice.Choice.{Choice}
use Rattle.stack_steps.specs.declared.choice.Choice.TheVariants.{End, Complete, Admit, Cut}
use Rattle.stack_steps.specs.Choices.{places, no_choice, joins_at, sends_at, choices}
use Rattle.stack_steps.proofs.Picks.{get-numbers}

abbrev pub second : Plan → Gated → List OpState → List ℕ → List Queued → List Command → List Choice
second p gate ops live queues flight = map Complete (numbers 0 (length flight)) ++ (map Admit (places p gate ops live Admission) ++ (map Cut (places p gate ops live Cutting) ++ (joins_at p.limits 0 queues ++ sends_at 0 queues)))

abbrev pub third : Plan → Gated → List OpState → List ℕ → List Queued → List Choice
third p gate ops live queues = map Admit (places p gate ops live Admission) ++ (map Cut (places p gate ops live Cutting) ++ (joins_at p.limits 0 queues ++ sends_at 0 queues))

abbrev pub fourth : Plan → Gated → List OpState → List ℕ → List Queued → List Choice
fourth p gate ops live queues = map Cut (places p gate ops live Cutting) ++ (joins_at p.limits 0 queues ++ sends_at 0 queues)

length-completions : (n : ℕ) → length (map Complete (numbers 0 n)) ≡ n
length-completions n = length-map (numbers 0 n) Complete ∙ length-numbers 0 n

pub length-choices : (p : Plan) (gate : Gated) (ops : List OpState) (live : List ℕ) (queues : List Queued) (flight : List Command) →
    length (choices p gate ops live queues flight) ≡ length (places p gate ops live Ending) + length flight + length (places p gate ops live Admission) + length (places p gate ops live Cutting)
    + length (joins_at p.limits 0 queues) + length (sends_at 0 queues)
length-choices p gate ops live queues flight =
    let a = length-append (map End (places p gate ops live Ending)) (second p gate ops live queues flight) in
    let b = length-append (map Complete (numbers 0 (length flight))) (third p gate ops live queues) in
    let c = length-append (map Admit (places p gate ops live Admission)) (fourth p gate ops live queues) in
    let d = length-append (map Cut (places p gate ops live Cutting)) (joins_at p.limits 0 queues ++ sends_at 0 queues) in
    let e = length-append (joins_at p.limits 0 queues) (sends_at 0 queues) in
    let f = length-map (places p gate ops live Ending) End in
    let g = length-completions (length flight) in
    let h = length-map (places p gate ops live Admission) Admit in
    let i = length-map (places p gate ops live Cutting) Cut in
    omega arith

-- past the first list, the second and so on
past : (front back : List Choice) (n m : ℕ) → n ≡ length front + m → get_or (front ++ back) n no_choice ≡ get_or back m no_choice
past front back n m h =
    get_or-append_right front back (length front) n no_choice refl (omega arith)
    ∙ ap (λ k. get_or back k no_choice) (let e : n - length front ≡ m = omega arith in e)

pub to-second : (p : Plan) (gate : Gated) (ops : List OpState) (live : List ℕ) (queues : List Queued) (flight : List Command) (n a : ℕ) → n ≡ length (places p gate ops live Ending) + a →
    get_or (choices p gate ops live queues flight) n no_choice ≡ get_or (second p gate ops live queues flight) a no_choice
to-second p gate ops live queues flight n a h =
    let f = length-map (places p gate ops live Ending) End in
    past (map End (places p gate ops live Ending)) (second p gate ops live queues flight) n a (omega arith)

pub to-third : (p : Plan) (gate : Gated) (ops : List OpState) (live : List ℕ) (queues : List Queued) (flight : List Command) (n a b : ℕ) → n ≡ length (places p gate ops live Ending) + a →
    a ≡ length flight + b → get_or (choices p gate ops live queues flight) n no_choice ≡ get_or (third p gate ops live queues) b no_choice
to-third p gate ops live queues flight n a b h i =
    let f = length-completions (length flight) in
    to-second p gate ops live queues flight n a h
    ∙ past (map Complete (numbers 0 (length flight))) (third p gate ops live queues) a b (omega arith)

pub to-fourth : (p : Plan) (gate : Gated) (ops : List OpState) (live : List ℕ) (queues : List Queued) (flight : List Command) (n a b d : ℕ) → n ≡ length (places p gate ops live Ending) + a →
    a ≡ length flight + b → b ≡ length (places p gate ops live Admission) + d →
    get_or (choices p gate ops live queues flight) n no_choice ≡ get_or (fourth p gate ops live queues) d no_choice
to-fourth p gate ops live queues flight n a b d h i j =
    let f = length-map (places p gate ops live Admission) Admit in
    to-third p gate ops live queues flight n a b h i
    ∙ past (map Admit (places p gate ops live Admission)) (fourth p gate ops live queues) b d (omega arith)

pub to-fifth : (p : Plan) (gate : Gated) (ops : List OpState) (live : List ℕ) (queues : List Queued) (flight : List Command) (n a b d e : ℕ) → n ≡ length (places p gate ops live Ending) + a →
    a ≡ length flight + b → b ≡ length (places p gate ops live Admission) + d → d ≡ length (places p gate ops live Cutting) + e →
    get_or (choices p gate ops live queues flight) n no_choice ≡ get_or (joins_at p.limits 0 queues ++ sends_at 0 queues) e no_choice
to-fifth p gate ops live queues flight n a b d e h i j k =
    let f = length-map (places p gate ops live Cutting) Cut in
    to-fourth p gate ops live queues flight n a b d h i j
    ∙ past (map Cut (places p gate ops live Cutting)) (joins_at p.limits 0 queues ++ sends_at 0 queues) d e (omega arith)

pub to-sixth : (p : Plan) (queues : List Queued) (n m : ℕ) → n ≡ length (joins_at p.limits 0 queues) + m →
    get_or (joins_at p.limits 0 queues ++ sends_at 0 queues) n no_choice ≡ get_or (sends_at 0 queues) m no_choice
to-sixth p queues n m h = past (joins_at p.limits 0 queues) (sends_at 0 queues) n m h

pub in-second : (p : Plan) (gate : Gated) (ops : List OpState) (live : List ℕ) (queues : List Queued) (flight : List Command) (n : ℕ) → n < length flight → get_or (second p gate ops live queues flight) n no_choice ≡ Complete n
in-second p gate ops live queues flight n h =
    let f = length-completions (length flight) in
    let k = length-numbers 0 (length flight) in
    get_or_append_left (map Complete (numbers 0 (length flight))) (third p gate ops live queues) no_choice n (omega arith)
    ∙ get_or-map Complete (numbers 0 (length flight)) n 0 no_choice (omega arith)
    ∙ ap Complete (get-numbers 0 (length flight) n 0 h ∙ omega arith)

pub in-third : (p : Plan) (gate : Gated) (ops : List OpState) (live : List ℕ) (queues : List Queued) (n : ℕ) → n < length (places p gate ops live Admission) → get_or (third p gate ops live queues) n no_choice ≡ Admit (get_or (places p gate ops live Admission) n 0)
in-third p gate ops live queues n h =
    let f = length-map (places p gate ops live Admission) Admit in
    get_or_append_left (map Admit (places p gate ops live Admission)) (fourth p gate ops live queues) no_choice n (omega arith)
    ∙ get_or-map Admit (places p gate ops live Admission) n 0 no_choice h

pub in-fourth : (p : Plan) (gate : Gated) (ops : List OpState) (live : List ℕ) (queues : List Queued) (n : ℕ) → n < length (places p gate ops live Cutting) → get_or (fourth p gate ops live queues) n no_choice ≡ Cut (get_or (places p gate ops live Cutting) n 0)
in-fourth p gate ops live queues n h =
    let f = length-map (places p gate ops live Cutting) Cut in
    get_or_append_left (map Cut (places p gate ops live Cutting)) (joins_at p.limits 0 queues ++ sends_at 0 queues) no_choice n (omega arith)
    ∙ get_or-map Cut (places p gate ops live Cutting) n 0 no_choice h

pub in-fifth : (p : Plan) (queues : List Queued) (n : ℕ) → n < length (joins_at p.limits 0 queues) → get_or (joins_at p.limits 0 queues ++ sends_at 0 queues) n no_choice ≡ get_or (joins_at p.limits 0 queues) n no_choice
in-fifth p queues n h = get_or_append_left (joins_at p.limits 0 queues) (sends_at 0 queues) no_choice n h
