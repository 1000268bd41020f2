-- The enabled steps, list by list, as they are counted.
use Rattle.std.proofs.Common.{◌≡◌, ℕ, zero, suc, ◌+◌, ◌<◌, ◌≤◌, Bool, true, false, List, [], ◌∷◌, ◌++◌, length, get_or, map, refl, sym, ap, ◌∙◌, subst, ⊎_elim, arith}
use Rattle.std.specs.List.{filter, flat_map}
use Rattle.std.proofs.lemmas.Bool.{cases_Bool, lt-ltb}
use Rattle.std.proofs.lemmas.List.{map-append}
use Rattle.std.proofs.lemmas.List.Elements.{filter-append}
use Rattle.stack_laws.specs.Plan.{Plan}
use Rattle.merge_queue.specs.Groups.{Group, may_join, numbers, followers, pairs}
use Rattle.stack_laws.specs.View.{View, queue_at}
use Rattle.stack_laws.specs.Steps.{Step, End, Complete, Admit, Cut, Join, Send, can, joins_of, joins, sends, enabled, join_of, joins_from, enabled_below, six_lists}

pub filter-map : {A B : Type 0} (t : B → Bool) (f : A → B) (xs : List A) → filter t (map f xs) ≡ map f (filter (λ x. t (f x)) xs)
filter-map t f [] = refl
filter-map t f (x ∷ xs) =
    ⊎_elim
    (λ (e : t (f x) ≡ true). rw e (ap (λ z. f x ∷ z) (filter-map t f xs)))
    (λ (e : t (f x) ≡ false). rw e (filter-map t f xs))
    (cases_Bool (t (f x)))

-- one row of pairs
join-can : (p : Plan) (v : View) (d i j : ℕ) → i < length (queue_at v d) → j < length (queue_at v d) → can p v (Join d i j) ≡ may_join p.limits (queue_at v d) i j
join-can p v d i j h l = let e = lt-ltb i (length (queue_at v d)) h in let f = lt-ltb j (length (queue_at v d)) l in rw (e, f) refl

row-of : (p : Plan) (v : View) (d i k n : ℕ) → i < length (queue_at v d) → k + n ≤ length (queue_at v d) →
    filter (can p v) (map (Join d i) (numbers k n)) ≡ map (join_of d) (map (λ j. (i, j)) (filter (may_join p.limits (queue_at v d) i) (numbers k n)))
row-of p v d i k zero h l = refl
row-of p v d i k (suc n) h l =
    let e = join-can p v d i k h (omega arith) in
    let t = row-of p v d i (suc k) n h (omega arith) in
    ⊎_elim
    (λ (z : may_join p.limits (queue_at v d) i k ≡ true). let y = e ∙ z in rw (y, z) (ap (λ w. Join d i k ∷ w) t))
    (λ (z : may_join p.limits (queue_at v d) i k ≡ false). let y = e ∙ z in rw (y, z) t)
    (cases_Bool (may_join p.limits (queue_at v d) i k))

rows-of : (p : Plan) (v : View) (d k n : ℕ) → k + n ≤ length (queue_at v d) →
    filter (can p v) (flat_map (λ i. map (Join d i) (numbers 0 (length (queue_at v d)))) (numbers k n))
    ≡ map (join_of d) (flat_map (λ i. map (λ j. (i, j)) (followers p.limits (queue_at v d) i)) (numbers k n))
rows-of p v d k zero l = refl
rows-of p v d k (suc n) l =
    let r = row-of p v d k 0 (length (queue_at v d)) (omega arith) (omega arith) in
    let t = rows-of p v d (suc k) n (omega arith) in
    filter-append (can p v) (map (Join d k) (numbers 0 (length (queue_at v d)))) (flat_map (λ i. map (Join d i) (numbers 0 (length (queue_at v d)))) (numbers (suc k) n))
    ∙ ap (λ w. w ++ filter (can p v) (flat_map (λ i. map (Join d i) (numbers 0 (length (queue_at v d)))) (numbers (suc k) n))) r
    ∙ ap (λ w. map (join_of d) (map (λ j. (k, j)) (followers p.limits (queue_at v d) k)) ++ w) t
    ∙ sym (map-append (join_of d) (map (λ j. (k, j)) (followers p.limits (queue_at v d) k)) (flat_map (λ i. map (λ j. (i, j)) (followers p.limits (queue_at v d) i)) (numbers (suc k) n)))

pub joins-of-device : (p : Plan) (v : View) (d : ℕ) → filter (can p v) (joins_of d (queue_at v d)) ≡ map (join_of d) (pairs p.limits (queue_at v d))
joins-of-device p v d = rows-of p v d 0 (length (queue_at v d)) (omega arith)

-- the queues from device e on
abbrev From : View → ℕ → List (List Group) → Type 0
From v e qs = (d : ℕ) → queue_at v (e + d) ≡ get_or qs d []

from-next : (v : View) (e : ℕ) (q : List Group) (qs : List (List Group)) → From v e (q ∷ qs) → From v (suc e) qs
from-next v e q qs h d = ap (queue_at v) (shift e d) ∙ h (suc d)
  where
    shift : (e d : ℕ) → suc e + d ≡ e + suc d
    shift e d = omega arith

from-first : (v : View) (e : ℕ) (q : List Group) (qs : List (List Group)) → From v e (q ∷ qs) → queue_at v e ≡ q
from-first v e q qs h = ap (queue_at v) (plus e) ∙ h 0
  where
    plus : (e : ℕ) → e ≡ e + 0
    plus e = omega arith

joins-by : (p : Plan) (v : View) (e : ℕ) (qs : List (List Group)) → From v e qs → filter (can p v) (joins e qs) ≡ joins_from p.limits e qs
joins-by p v e [] h = refl
joins-by p v e (q ∷ qs) h =
    let f = from-first v e q qs h in
    filter-append (can p v) (joins_of e q) (joins (suc e) qs)
    ∙ ap (λ w. w ++ filter (can p v) (joins (suc e) qs)) (subst (λ (z : List Group). filter (can p v) (joins_of e z) ≡ map (join_of e) (pairs p.limits z)) f (joins-of-device p v e))
    ∙ ap (λ w. map (join_of e) (pairs p.limits q) ++ w) (joins-by p v (suc e) qs (from-next v e q qs h))

sends-of : (p : Plan) (v : View) (d k n : ℕ) → k + n ≤ length (queue_at v d) → filter (can p v) (map (Send d) (numbers k n)) ≡ map (Send d) (numbers k n)
sends-of p v d k zero l = refl
sends-of p v d k (suc n) l = let e = lt-ltb k (length (queue_at v d)) (omega arith) in rw e (ap (λ w. Send d k ∷ w) (sends-of p v d (suc k) n (omega arith)))

sends-by : (p : Plan) (v : View) (e : ℕ) (qs : List (List Group)) → From v e qs → filter (can p v) (sends e qs) ≡ sends e qs
sends-by p v e [] h = refl
sends-by p v e (q ∷ qs) h =
    let f = ap length (from-first v e q qs h) in
    filter-append (can p v) (map (Send e) (numbers 0 (length q))) (sends (suc e) qs)
    ∙ ap (λ w. w ++ filter (can p v) (sends (suc e) qs)) (sends-of p v e 0 (length q) (omega arith))
    ∙ ap (λ w. map (Send e) (numbers 0 (length q)) ++ w) (sends-by p v (suc e) qs (from-next v e q qs h))

all-from : (v : View) → From v 0 v.queues
all-from v d = ap (queue_at v) (plus d)
  where
    plus : (d : ℕ) → 0 + d ≡ d
    plus d = omega arith

behind-cuts : (p : Plan) (v : View) → filter (can p v) (joins 0 v.queues ++ sends 0 v.queues) ≡ joins_from p.limits 0 v.queues ++ sends 0 v.queues
behind-cuts p v =
    filter-append (can p v) (joins 0 v.queues) (sends 0 v.queues)
    ∙ ap (λ w. w ++ filter (can p v) (sends 0 v.queues)) (joins-by p v 0 v.queues (all-from v))
    ∙ ap (λ w. joins_from p.limits 0 v.queues ++ w) (sends-by p v 0 v.queues (all-from v))

one-list : (p : Plan) (v : View) (f : ℕ → Step) (n : ℕ) (xs ys : List Step) → filter (can p v) xs ≡ ys → filter (can p v) (map f (numbers 0 n) ++ xs) ≡ enabled_below p v f n ++ ys
one-list p v f n xs ys e =
    filter-append (can p v) (map f (numbers 0 n)) xs
    ∙ ap (λ w. w ++ filter (can p v) xs) (filter-map (can p v) f (numbers 0 n))
    ∙ ap (λ w. enabled_below p v f n ++ w) e

pub by-lists : (p : Plan) (v : View) → enabled p v ≡ six_lists p v
by-lists p v =
    one-list p v End (length v.ops) _ _ (one-list p v Complete (length v.commands) _ _ (one-list p v Admit (length v.ops) _ _ (one-list p v Cut (length v.ops) _ _ (behind-cuts p v))))
