-- A stack before the first step.
use Rattle.std.proofs.Common.{◌≡◌, ◌<◌, ◌≤◌, ℕ, zero, suc, ◌+◌, true, false, List, [], ◌∷◌, ◌++◌, length, map, replicate, take, get_or, refl, sym, ap, ◌∙◌, ⊎_elim, arith}
use Rattle.std.proofs.lemmas.Bool.{cases_lt}
use Rattle.std.proofs.lemmas.List.{get_or_past, get_or-map, length-map, map-append}
use Rattle.stack_laws.specs.Plan.{Plan, PlannedOp, no_request}
use Rattle.merge_queue.specs.Groups.{numbers}
use Rattle.stack_laws.specs.View.{is_admitted, waiting, start, no_op}
use Rattle.stack_laws.specs.Runs.{blocks_of_requests}
use Rattle.std.specs.List.{All}
use Rattle.std.proofs.lemmas.List.Elements.{All-push}
use Rattle.merge_queue.specs.Index.{Queued}
use Rattle.stack_laws.proofs.Starts.{starts}
use Rattle.stack_laws.proofs.Formed.{formed-start}
use Rattle.stack_laws.proofs.Room.{accounted-start}
use Rattle.stack_laws.proofs.Measure.{counted-start}
use Rattle.stack_laws.proofs.Ops.{unmarked_in}
use Rattle.range_gate.specs.Gates.{Gated}
use Rattle.stack_steps.specs.Flights.{Flights}
use Rattle.range_gate.specs.declared.phase.Phase.TheVariants.{Waiting}
use Rattle.stack_steps.specs.declared.state.OpState.{OpState}
use Rattle.stack_steps.specs.State.{state_of, phase_of}
use Rattle.stack_steps.specs.Shows.{live_from, live_ops, groups_of, HasRoom, IsGateOf, Windowed, Shows}

none-marked : (n : ℕ) → unmarked_in (replicate n false) ≡ n
none-marked zero = refl
none-marked (suc n) = let e = none-marked n in omega arith

pub first-state : (r : PlannedOp) → state_of (waiting r) ≡ record { cut = 0; left = r.count }
first-state r = ap (λ n. record { cut = 0; left = n }) (none-marked r.count)

pub states-more : (rs : List PlannedOp) (i : ℕ) → i < length rs → map state_of (map waiting (take (i + 1) rs)) ≡ map state_of (map waiting (take i rs)) ++ record { cut = 0; left = (get_or rs i no_request).count } ∷ []
states-more [] i h = absurd (omega arith)
states-more (r ∷ rs) zero h = ap (λ s. s ∷ []) (first-state r)
states-more (r ∷ rs) (suc i) h = let a : suc i + 1 ≡ suc (i + 1) = omega arith in rw a (ap (λ l. state_of (waiting r) ∷ l) (states-more rs i (omega arith)))

pub blocks-more : (rs : List PlannedOp) (i : ℕ) → i < length rs → blocks_of_requests (take (i + 1) rs) ≡ blocks_of_requests (take i rs) + (get_or rs i no_request).count
blocks-more [] i h = absurd (omega arith)
blocks-more (r ∷ rs) zero h = omega arith
blocks-more (r ∷ rs) (suc i) h = let a : suc i + 1 ≡ suc (i + 1) = omega arith in let e = blocks-more rs i (omega arith) in rw a (omega arith)

pub blocks-front : (rs : List PlannedOp) (i : ℕ) → blocks_of_requests (take i rs) ≤ blocks_of_requests rs
blocks-front [] zero = omega arith
blocks-front [] (suc i) = omega arith
blocks-front (r ∷ rs) zero = omega arith
blocks-front (r ∷ rs) (suc i) = let e = blocks-front rs i in omega arith

pub numbers-last : (k n : ℕ) → numbers k (n + 1) ≡ numbers k n ++ (k + n) ∷ []
numbers-last k zero = let e : k + 0 ≡ k = omega arith in rw e refl
numbers-last k (suc n) =
    let a : suc n + 1 ≡ suc (n + 1) = omega arith in
    let b : suc k + n ≡ k + suc n = omega arith in
    rw a (ap (λ l. k ∷ l) (numbers-last (suc k) n ∙ ap (λ m. numbers (suc k) n ++ m ∷ []) b))

pub replicate-last : {A : Type 0} (n : ℕ) (x : A) → replicate (n + 1) x ≡ replicate n x ++ x ∷ []
replicate-last zero x = refl
replicate-last (suc n) x = let a : suc n + 1 ≡ suc (n + 1) = omega arith in rw a (ap (λ l. x ∷ l) (replicate-last n x))

all-live : (k : ℕ) (rs : List PlannedOp) → live_from k (map waiting rs) ≡ numbers k (length rs)
all-live k [] = refl
all-live k (r ∷ rs) = ap (λ l. k ∷ l) (all-live (suc k) rs)

pub start-live : (p : Plan) → live_ops (start p) ≡ numbers 0 (length p.requests)
start-live p = all-live 0 p.requests

pub start-windowed : (p : Plan) → Windowed (start p)
start-windowed p i e =
    ⊎_elim
    (λ (l : i < length p.requests). let g = ap (λ o. is_admitted o.phase) (get_or-map waiting p.requests i no_request no_op l) in let f : false ≡ true = sym g ∙ e in cc)
    (λ (l : length p.requests ≤ i). let g = ap (λ o. is_admitted o.phase) (get_or_past (map waiting p.requests) i no_op (omega (arith, length-map p.requests waiting))) in let f : false ≡ true = sym g ∙ e in cc)
    (cases_lt i (length p.requests))

pub queues-more : (qs qs' : List Queued) (q : Queued) (n room : ℕ) → qs' ≡ qs ++ q ∷ [] → map groups_of qs ≡ replicate n [] → All (HasRoom room) qs → q.groups ≡ [] → q.room ≡ room →
    (map groups_of qs' ≡ replicate (n + 1) []) × All (HasRoom room) qs'
queues-more qs qs' q n room e g a h r =
    rw e (map-append groups_of qs (q ∷ []) ∙ ap (λ z. z ++ q.groups ∷ []) g ∙ ap (λ z. replicate n [] ++ z ∷ []) h ∙ sym (replicate-last n []), All-push (HasRoom room) qs q a r)

all-wait : (rs : List PlannedOp) → replicate (length rs) Waiting ≡ map phase_of (map waiting rs)
all-wait [] = refl
all-wait (r ∷ rs) = ap (λ w. Waiting ∷ w) (all-wait rs)

pub shows-start : (p : Plan) (gate : Gated) (ops : List OpState) (live : List ℕ) (qs : List Queued) (flight : Flights) → gate.phases ≡ replicate (length p.requests) Waiting → IsGateOf p gate → ops ≡ map state_of (map waiting p.requests) → live ≡ numbers 0 (length p.requests) →
    map groups_of qs ≡ replicate p.devices [] → All (HasRoom (blocks_of_requests p.requests)) qs → flight.commands ≡ [] → flight.room ≡ blocks_of_requests p.requests → Shows p gate ops live qs flight 0 (start p).queues (start p)
shows-start p gate ops live qs flight x y a b c d e f = record {
  phases = x ∙ all-wait p.requests;
  conflicts = y;
  states = a;
  listed = b ∙ sym (start-live p);
  queued = c;
  flying = e;
  taken = refl;
  queue_room = d;
  flight_room = f;
  sound = starts p;
  formed = formed-start p;
  accounted = accounted-start p;
  counted = counted-start p;
  windowed = start-windowed p;
}
