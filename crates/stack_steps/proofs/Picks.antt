-- Counting and finding what may be done.
use Rattle.std.proofs.Common.{◌≡◌, ◌<◌, ◌≤◌, ℕ, zero, suc, ◌+◌, ◌-◌, List, ◌++◌, length, map, drop, get_or, sym, ap, ◌∙◌, arith, drop-cons, length-append}
use Rattle.std.proofs.lemmas.List.{length-map, get_or-map, get_or_append_left, get_or-append_right}
use Rattle.merge_queue.specs.Groups.{numbers}
use Rattle.merge_queue.specs.Index.{Queued}
use Rattle.merge_queue.proofs.Linking.{length-numbers}
use Rattle.stack_steps.specs.declared.choice.Choice.TheVariants.{Send}
use Rattle.stack_steps.specs.Choices.{no_choice, sends_at}

pub get-numbers : (k n i d : ℕ) → i < n → get_or (numbers k n) i d ≡ k + i
get-numbers k zero i d h = absurd (omega arith)
get-numbers k (suc n) zero d h = omega arith
get-numbers k (suc n) (suc i) d h = let e = get-numbers (suc k) n i d (omega arith) in omega arith

sends-first : (d : ℕ) (qs : List Queued) (x : Queued) → d < length qs → x ≡ get_or qs d x → sends_at d (drop d qs) ≡ map (Send d) (numbers 0 (length x.groups)) ++ sends_at (d + 1) (drop (d + 1) qs)
sends-first d qs x h e =
    let a : suc d ≡ d + 1 = omega arith in
    ap (sends_at d) (drop-cons qs d x h)
    ∙ ap (λ (z : Queued). map (Send d) (numbers 0 (length z.groups)) ++ sends_at (suc d) (drop (suc d) qs)) (sym e)
    ∙ ap (λ n. map (Send d) (numbers 0 (length x.groups)) ++ sends_at n (drop n qs)) a

length-sends : (d n : ℕ) → length (map (Send d) (numbers 0 n)) ≡ n
length-sends d n = length-map (numbers 0 n) (Send d) ∙ length-numbers 0 n

pub sends-more : (d : ℕ) (qs : List Queued) (x : Queued) → d < length qs → x ≡ get_or qs d x → length (sends_at d (drop d qs)) ≡ length x.groups + length (sends_at (d + 1) (drop (d + 1) qs))
sends-more d qs x h e =
    let a = ap length (sends-first d qs x h e) in
    let b = length-append (map (Send d) (numbers 0 (length x.groups))) (sends_at (d + 1) (drop (d + 1) qs)) in
    let c = length-sends d (length x.groups) in
    omega arith

pub send-found : (d left : ℕ) (qs : List Queued) (x : Queued) → d < length qs → x ≡ get_or qs d x → left < length x.groups → get_or (sends_at d (drop d qs)) left no_choice ≡ Send d left
send-found d left qs x h e l =
    let c = length-sends d (length x.groups) in
    ap (λ w. get_or w left no_choice) (sends-first d qs x h e)
    ∙ get_or_append_left (map (Send d) (numbers 0 (length x.groups))) (sends_at (d + 1) (drop (d + 1) qs)) no_choice left (omega arith)
    ∙ get_or-map (Send d) (numbers 0 (length x.groups)) left 0 no_choice (let k = length-numbers 0 (length x.groups) in omega arith)
    ∙ ap (Send d) (get-numbers 0 (length x.groups) left 0 l ∙ omega arith)

pub send-later : (d left n : ℕ) (qs : List Queued) (x : Queued) → d < length qs → x ≡ get_or qs d x → n ≡ length x.groups → n ≤ left →
    get_or (sends_at (d + 1) (drop (d + 1) qs)) (left - n) no_choice ≡ get_or (sends_at d (drop d qs)) left no_choice
send-later d left n qs x h e m l =
    let c = length-sends d (length x.groups) in
    sym (ap (λ w. get_or w left no_choice) (sends-first d qs x h e)
    ∙ get_or-append_right (map (Send d) (numbers 0 (length x.groups))) (sends_at (d + 1) (drop (d + 1) qs)) n left no_choice (omega arith) l)
