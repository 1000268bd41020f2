-- What a block's status is by what is seen of it.
use Rattle.std.proofs.Common.{◌≡◌, ℕ, ◌+◌, ◌-◌, ◌<◌, ◌≤◌, true, false, List, get_or, Option, refl, arith, ⊎_elim}
use Rattle.std.proofs.lemmas.Bool.{cases_Bool, cases_lt, eq-eqb, ne_eqb, lt-ltb, le-ltb, le-leb, lt-leb}
use Rattle.bio_core.specs.declared.fate.Fate.{Fate}
use Rattle.bio_core.specs.declared.fate.Why.{Why}
use Rattle.range_gate.specs.Gates.{is_waiting}
use Rattle.stack_laws.specs.Blocks.{times}
use Rattle.stack_laws.specs.Plan.{Plan, PlannedOp, request_at}
use Rattle.stack_laws.specs.Sound.{Sound, due, in_commands, in_queues, is_marked, uncut}
use Rattle.stack_laws.specs.View.{OpView, View, op_at}
use Rattle.stack_laws.proofs.Counts.{times-within}
use Rattle.stack_laws.proofs.Enabled.{due-one}
use Rattle.stack_walk_laws.specs.Slots.{Admitted, Done, Settled, Waits}
use Rattle.stack_walk_laws.specs.Statuses.{sent_as, standing}

module _ (count : ℕ) (o : OpView) (shown : List ℕ) (why : Option Why) (f : Fate) (k : ℕ) where
  pub waits : is_waiting o.phase ≡ true → standing count o shown why f k ≡ Waits
  waits e = rw e refl

  pub is_done : is_waiting o.phase ≡ false → count ≡ 0 → standing count o shown why f k ≡ Done shown
  is_done e z = let t = eq-eqb count 0 z in rw (e, t) refl

  pub past : is_waiting o.phase ≡ false → 0 < count → count ≤ k → standing count o shown why f k ≡ Waits
  past e s h = let t = ne_eqb count 0 (λ (z : count ≡ 0). omega arith) in let l = le-ltb k count h in rw (e, t, l) refl

  pub is_settled : is_waiting o.phase ≡ false → k < count → get_or o.settled k false ≡ true → standing count o shown why f k ≡ Settled why
  is_settled e h s = let t = ne_eqb count 0 (λ (z : count ≡ 0). omega arith) in let l = lt-ltb k count h in rw (e, t, l, s) refl

  pub is_uncut : is_waiting o.phase ≡ false → k < count → get_or o.settled k false ≡ false → o.cut ≤ k → standing count o shown why f k ≡ Admitted
  is_uncut e h s c = let t = ne_eqb count 0 (λ (z : count ≡ 0). omega arith) in let l = lt-ltb k count h in let u = le-leb o.cut k c in rw (e, t, l, s, u) refl

  pub is_sent : is_waiting o.phase ≡ false → k < count → get_or o.settled k false ≡ false → k < o.cut → standing count o shown why f k ≡ sent_as f
  is_sent e h s c = let t = ne_eqb count 0 (λ (z : count ≡ 0). omega arith) in let l = lt-ltb k count h in let u = lt-leb o.cut k c in rw (e, t, l, s, u) refl

-- ---- where a block is, by what is sound

pub marked : (o : OpView) (k : ℕ) → get_or o.settled k false ≡ true → is_marked o k ≡ 1
marked o k e = rw e refl

pub unmarked : (o : OpView) (k : ℕ) → is_marked o k ≡ 0 → get_or o.settled k false ≡ false
unmarked o k h = ⊎_elim (λ (e : get_or o.settled k false ≡ true). let m = marked o k e in absurd (omega arith)) (λ (e : get_or o.settled k false ≡ false). e) (cases_Bool (get_or o.settled k false))

due_some : (r : PlannedOp) (o : OpView) (k : ℕ) → 1 ≤ due r o k → (is_waiting o.phase ≡ false) × (k < r.count)
due_some r o k h = ⊎_elim (λ (e : is_waiting o.phase ≡ true). let z : due r o k ≡ 0 = rw e refl in absurd (omega arith)) (λ (e : is_waiting o.phase ≡ false). (e, within e)) (cases_Bool (is_waiting o.phase))
  where
    within : is_waiting o.phase ≡ false → k < r.count
    within e = ⊎_elim (λ (l : k < r.count). l) (λ (l : r.count ≤ k). let b = le-ltb k r.count l in let z : due r o k ≡ 0 = rw (e, b) refl in absurd (omega arith)) (cases_lt k r.count)

pub due_waits : (r : PlannedOp) (o : OpView) (k : ℕ) → is_waiting o.phase ≡ true → due r o k ≡ 0
due_waits r o k e = rw e refl

uncut_there : (i : ℕ) (r : PlannedOp) (o : OpView) (k : ℕ) → is_waiting o.phase ≡ false → o.cut ≤ k → k < r.count → times i k (uncut i r o) ≡ 1
uncut_there i r o k e c h = rw e (times-within i k o.cut (r.count - o.cut) c (omega arith))

-- A block of an admitted request that isn't settled, and was cut.
pub record IsOut (p : Plan) (v : View) (i k : ℕ) : Type 0 where
  pub waits : is_waiting (op_at v i).phase ≡ false
  pub within : k < (request_at p i).count
  pub unsettled : get_or (op_at v i).settled k false ≡ false
  pub is_cut : k < (op_at v i).cut

out : (p : Plan) (v : View) (i k : ℕ) → Sound p v → 1 ≤ in_queues i k v.queues + in_commands i k v.commands → IsOut p v i k
out p v i k s h =
    let e = s.one_place i k in
    let d = due-one (request_at p i) (op_at v i) k in
    let w = due_some (request_at p i) (op_at v i) k (omega arith) in
    record {
      waits = w.0;
      within = w.1;
      unsettled = unmarked (op_at v i) k (omega arith);
      is_cut = ⊎_elim (λ (l : k < (op_at v i).cut). l) (λ (l : (op_at v i).cut ≤ k). let u = uncut_there i (request_at p i) (op_at v i) k w.0 l w.1 in absurd (omega arith)) (cases_lt k (op_at v i).cut);
    }

-- one in a queue is in no command in flight
pub queued : (p : Plan) (v : View) (i k : ℕ) → Sound p v → 1 ≤ in_queues i k v.queues → IsOut p v i k × (in_commands i k v.commands ≡ 0)
queued p v i k s h = let e = s.one_place i k in let d = due-one (request_at p i) (op_at v i) k in (out p v i k s (omega arith), omega arith)

-- one in a command in flight is in just that
pub flying : (p : Plan) (v : View) (i k : ℕ) → Sound p v → 1 ≤ in_commands i k v.commands → IsOut p v i k × (in_commands i k v.commands ≡ 1)
flying p v i k s h = let e = s.one_place i k in let d = due-one (request_at p i) (op_at v i) k in (out p v i k s (omega arith), omega arith)

-- one that waits is nowhere
pub nowhere : (p : Plan) (v : View) (i k : ℕ) → Sound p v → is_waiting (op_at v i).phase ≡ true → (is_marked (op_at v i) k ≡ 0) × (in_commands i k v.commands ≡ 0)
nowhere p v i k s h = let e = s.one_place i k in let d = due_waits (request_at p i) (op_at v i) k h in (omega arith, omega arith)

-- one that isn't cut is in no command, and isn't settled
pub not_cut : (p : Plan) (v : View) (i k : ℕ) → Sound p v → is_waiting (op_at v i).phase ≡ false → (op_at v i).cut ≤ k → k < (request_at p i).count → (is_marked (op_at v i) k ≡ 0) × (in_commands i k v.commands ≡ 0)
not_cut p v i k s e c h =
    let q = s.one_place i k in
    let d = due-one (request_at p i) (op_at v i) k in
    let u = uncut_there i (request_at p i) (op_at v i) k e c h in
    (omega arith, omega arith)
