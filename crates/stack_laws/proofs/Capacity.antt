-- How many bios a queue can hold.
use Rattle.std.proofs.Common.{◌≡◌, ℕ, suc, ◌<◌, ◌≤◌, Bool, true, false, List, [], ◌∷◌, length, get_or, arith, ⊎_elim}
use Rattle.std.specs.Prelude.{if◌then◌else◌}
use Rattle.std.specs.List.{All}
use Rattle.std.proofs.lemmas.Bool.{cases_lt}
use Rattle.std.proofs.lemmas.List.{get_or_past}
use Rattle.std.proofs.lemmas.List.Elements.{All-head, All-tail}
use Rattle.merge_queue.specs.Groups.{size, Group}
use Rattle.merge_queue.specs.Index.{total, bios_in}
use Rattle.merge_queue.proofs.Lists.{total-one}
use Rattle.stack_laws.specs.Plan.{Plan, PlannedOp, no_request}
use Rattle.stack_laws.specs.View.{View, OpView, no_op, queue_at}
use Rattle.stack_laws.specs.Runs.{blocks_of_requests}
use Rattle.stack_laws.specs.Sound.{Sound}
use Rattle.stack_laws.specs.Formed.{Named, IsGroup, Formed}
use Rattle.stack_laws.specs.Room.{unmarked, unsettled, Accounted}
use Rattle.stack_laws.proofs.Formed.{queue-groups}

pub bios-few : (p : Plan) (d : ℕ) (g : Group) → All (Named p d) g → length g ≤ size g
bios-few p d [] h = omega arith
bios-few p d (b ∷ bs) h = let e = bios-few p d bs (All-tail (Named p d) b bs h) in let o = (All-head (Named p d) b bs h).some in omega arith

pub queue-few : (p : Plan) (d : ℕ) (q : List Group) → All (IsGroup p d) q → bios_in q ≤ total size q
queue-few p d [] h = omega arith
queue-few p d (g ∷ gs) h =
    let e = queue-few p d gs (All-tail (IsGroup p d) g gs h) in
    let o = bios-few p d g (All-head (IsGroup p d) g gs h).named in
    omega arith

unmarked-few : (xs : List Bool) → total (λ b. if b then 0 else 1) xs ≤ length xs
unmarked-few [] = omega arith
unmarked-few (true ∷ xs) = let e = unmarked-few xs in omega arith
unmarked-few (false ∷ xs) = let e = unmarked-few xs in omega arith

unsettled-few : (rs : List PlannedOp) (os : List OpView) → length os ≡ length rs → ((i : ℕ) → length (get_or os i no_op).settled ≡ (get_or rs i no_request).count) → total unmarked os ≤ blocks_of_requests rs
unsettled-few [] [] l h = omega arith
unsettled-few [] (o ∷ os) l h = absurd (omega arith)
unsettled-few (r ∷ rs) [] l h = absurd (omega arith)
unsettled-few (r ∷ rs) (o ∷ os) l h =
    let e = unsettled-few rs os (omega arith) (λ i. h (suc i)) in
    let m = unmarked-few o.settled in
    let z : length o.settled ≡ r.count = h 0 in
    omega arith

pub few-unsettled : (p : Plan) (v : View) → Sound p v → unsettled v ≤ blocks_of_requests p.requests
few-unsettled p v s = unsettled-few p.requests v.ops s.ops s.lengths

pub few-bios : (p : Plan) (v : View) (d : ℕ) → Sound p v → Formed p v → Accounted p v → bios_in (queue_at v d) ≤ unsettled v
few-bios p v d s f a =
    ⊎_elim
    (λ (l : d < length v.queues).
    let q = queue-few p d (queue_at v d) (queue-groups p v d l f) in
    let t = total-one (total size) v.queues d [] l in
    omega arith)
    (λ (l : length v.queues ≤ d). let e = get_or_past v.queues d [] l in rw e (omega arith))
    (cases_lt d (length v.queues))
