-- Whole runs by words.
use Rattle.std.proofs.Common.{◌≡◌, ℕ, zero, suc, ◌+◌, ◌*◌, ◌<◌, ◌≤◌, true, false, List, [], ◌∷◌, length, drop, replicate, refl, sym, subst, ⊎_elim, arith}
use Rattle.std.specs.List.{All}
use Rattle.std.proofs.lemmas.Bool.{cases_Bool, ltb-true}
use Rattle.std.proofs.lemmas.List.{length-replicate}
use Rattle.std.proofs.lemmas.List.Elements.{All-head, All-drop}
use Rattle.merge_queue.specs.Passed.{Good}
use Rattle.merge_queue.specs.Groups.{size}
use Rattle.stack_laws.specs.Blocks.{settled_count}
use Rattle.stack_laws.specs.Plan.{Plan}
use Rattle.stack_laws.specs.View.{View, start, queue_at, group_at}
use Rattle.stack_laws.specs.Steps.{Step, End, Complete, Admit, Cut, Join, Send, can, enabled, chosen, step}
use Rattle.stack_laws.specs.Runs.{ScheduleEntry, Rig, entry_of, taken, no_steps, all_good, by_word, run, blocks_of_requests, most_steps, sent, end_of, sends_with, sends_of}
use Rattle.stack_laws.specs.Sound.{OnDevices, Answered, RigSettles, Sound}
use Rattle.stack_laws.specs.Measure.{measure, StepsCounted, greatest_pieces, AnsweredWhole, Thrifty}
use Rattle.stack_laws.proofs.Keeps.{keeps}
use Rattle.stack_laws.proofs.Starts.{starts}
use Rattle.stack_laws.proofs.Enabled.{chosen-can, group-has}
use Rattle.stack_laws.proofs.Measure.{falls, counted-start, counted-keeps}
use Rattle.stack_laws.proofs.Thrift.{thrifty-start, thrifty-keeps}
use Rattle.stack_laws.proofs.Rests.{length-map}

pub answered : (p : Plan) (v : View) (rig : Rig) (n : ℕ) (t : Step) → Sound p v → RigSettles rig → can p v t ≡ true → Answered v t (rig n (taken v t))
answered p v rig n (End i) s r h = tt
answered p v rig n (Complete j) s r h = tt
answered p v rig n (Admit i) s r h = tt
answered p v rig n (Cut i) s r h = tt
answered p v rig n (Join d i j) s r h = tt
answered p v rig n (Send d i) s r h = r n (group_at v d i) (group-has p v d i s (ltb-true i (length (queue_at v d)) h))

some-steps : (ss : List Step) → no_steps ss ≡ false → 0 < length ss
some-steps [] h = cc
some-steps (s ∷ ss) h = omega arith

none-left : (ss : List Step) → no_steps ss ≡ true → ss ≡ []
none-left [] h = refl
none-left (s ∷ ss) h = cc

-- what each step by a word keeps holds at the end
run_keeps : (p : Plan) (rig : Rig) (P : View → Type 0) (Q : ScheduleEntry → Type 0) → ((e : ScheduleEntry) (v : View) → Q e → P v → 0 < length (enabled p v) → P (by_word p rig e v)) →
    Q (record { word = 0; cut = 0 }) → (n : ℕ) (es : List ScheduleEntry) (v : View) → All Q es → P v → P (run p rig n es v)
run_keeps p rig P Q k d zero es v a h = h
run_keeps p rig P Q k d (suc n) es v a h =
    ⊎_elim
    (λ (e : no_steps (enabled p v) ≡ true). rw e h)
    (λ (e : no_steps (enabled p v) ≡ false). rw e (run_keeps p rig P Q k d n (drop 1 es) (by_word p rig (entry_of es) v) (All-drop Q 1 es a) (k (entry_of es) v (first es a) h (some-steps (enabled p v) e))))
    (cases_Bool (no_steps (enabled p v)))
  where
    first : (es : List ScheduleEntry) → All Q es → Q (entry_of es)
    first [] a = d
    first (e ∷ es) a = All-head Q e es a

step-sound : (p : Plan) (rig : Rig) (e : ScheduleEntry) (v : View) → OnDevices p → RigSettles rig → Sound p v → 0 < length (enabled p v) → Sound p (by_word p rig e v)
step-sound p rig e v on r s h =
    let c = chosen-can p v e.word h in
    keeps p v (chosen p v e.word) e.cut (rig (length v.commands) (taken v (chosen p v e.word))) on s c (answered p v rig (length v.commands) (chosen p v e.word) s r c)

step-falls : (p : Plan) (rig : Rig) (e : ScheduleEntry) (v : View) → OnDevices p → RigSettles rig → Sound p v → 0 < length (enabled p v) → measure p (by_word p rig e v) + 1 ≤ measure p v
step-falls p rig e v on r s h =
    let c = chosen-can p v e.word h in
    falls p v (chosen p v e.word) e.cut (rig (length v.commands) (taken v (chosen p v e.word))) s on c (answered p v rig (length v.commands) (chosen p v e.word) s r c)

step-counted : (p : Plan) (rig : Rig) (e : ScheduleEntry) (v : View) → OnDevices p → RigSettles rig → Sound p v → 0 < length (enabled p v) → StepsCounted p v → StepsCounted p (by_word p rig e v)
step-counted p rig e v on r s h k =
    let c = chosen-can p v e.word h in
    counted-keeps p v (chosen p v e.word) e.cut (rig (length v.commands) (taken v (chosen p v e.word))) s on c (answered p v rig (length v.commands) (chosen p v e.word) s r c) k

run-stops : (p : Plan) (rig : Rig) → OnDevices p → RigSettles rig → (n : ℕ) (es : List ScheduleEntry) (v : View) → Sound p v → measure p v ≤ n → enabled p (run p rig n es v) ≡ []
run-stops p rig on r zero es v s h =
    ⊎_elim
    (λ (e : no_steps (enabled p v) ≡ true). none-left (enabled p v) e)
    (λ (e : no_steps (enabled p v) ≡ false). let f = step-falls p rig (entry_of es) v on r s (some-steps (enabled p v) e) in absurd (omega arith))
    (cases_Bool (no_steps (enabled p v)))
run-stops p rig on r (suc n) es v s h =
    ⊎_elim
    (λ (e : no_steps (enabled p v) ≡ true). rw e (none-left (enabled p v) e))
    (λ (e : no_steps (enabled p v) ≡ false).
    let l = some-steps (enabled p v) e in
    let f = step-falls p rig (entry_of es) v on r s l in
    let k = run-stops p rig on r n (drop 1 es) (by_word p rig (entry_of es) v) (step-sound p rig (entry_of es) v on r s l) (omega arith) in
    rw e k)
    (cases_Bool (no_steps (enabled p v)))

record Both (p : Plan) (v : View) : Type 0 where
  pub sound : Sound p v
  pub counted : StepsCounted p v

any : (es : List ScheduleEntry) → All (λ e. Unit {0}) es
any es k d h = tt

both : (p : Plan) (rig : Rig) (es : List ScheduleEntry) → OnDevices p → RigSettles rig → Both p (end_of p rig es)
both p rig es on r =
    run_keeps p rig (Both p) (λ e. Unit {0})
    (λ e v q b h. record { sound = step-sound p rig e v on r b.sound h; counted = step-counted p rig e v on r b.sound h b.counted })
    tt (most_steps p) es (start p) (any es) (record { sound = starts p; counted = counted-start p })

pub run-sound : (p : Plan) (rig : Rig) (es : List ScheduleEntry) → OnDevices p → RigSettles rig → Sound p (end_of p rig es)
run-sound p rig es on r = (both p rig es on r).sound

pub run-steps : (p : Plan) (rig : Rig) (es : List ScheduleEntry) → OnDevices p → RigSettles rig → (end_of p rig es).steps ≤ 2 * length p.requests + 5 * blocks_of_requests p.requests
run-steps p rig es on r = let c = (both p rig es on r).counted.steps in omega arith

pub run-sends : (p : Plan) (rig : Rig) (es : List ScheduleEntry) → OnDevices p → RigSettles rig → length (sends_with p rig es) ≤ blocks_of_requests p.requests
run-sends p rig es on r = let c = (both p rig es on r).counted.sends in let l = length-map sent (end_of p rig es).commands in omega arith

pub run-ends : (p : Plan) (rig : Rig) (es : List ScheduleEntry) → OnDevices p → RigSettles rig → enabled p (end_of p rig es) ≡ []
run-ends p rig es on r = let c = (counted-start p).steps in run-stops p rig on r (most_steps p) es (start p) (starts p) (omega arith)

pub all-settled-good : (n : ℕ) → settled_count (replicate n Good) ≡ n
all-settled-good zero = refl
all-settled-good (suc n) = let e = all-settled-good n in omega arith

pub good-settles : RigSettles all_good
good-settles n g h = record { each = length-replicate (size g) Good; some = let e = all-settled-good (size g) in omega arith }

good-whole : (v : View) (n : ℕ) (t : Step) → AnsweredWhole t (all_good n (taken v t))
good-whole v n (End i) = tt
good-whole v n (Complete j) = tt
good-whole v n (Admit i) = tt
good-whole v n (Cut i) = tt
good-whole v n (Join d i j) = tt
good-whole v n (Send d i) = let e = all-settled-good (size (group_at v d i)) in let l = length-replicate (size (group_at v d i)) Good in omega arith

record Calm (p : Plan) (v : View) : Type 0 where
  pub sound : Sound p v
  pub thrifty : Thrifty p v

abbrev pub Uncut : ScheduleEntry → Type 0
Uncut e = e.cut ≡ 0

calm-step : (p : Plan) (e : ScheduleEntry) (v : View) → OnDevices p → Uncut e → Calm p v → 0 < length (enabled p v) → Calm p (by_word p all_good e v)
calm-step p e v on u c h =
    let k = chosen-can p v e.word h in
    record {
      sound = step-sound p all_good e v on good-settles c.sound h;
      thrifty =
          subst (λ (n : ℕ). Thrifty p (step p v (chosen p v e.word) n (all_good (length v.commands) (taken v (chosen p v e.word))))) (sym u)
          (thrifty-keeps p v (chosen p v e.word) (all_good (length v.commands) (taken v (chosen p v e.word))) c.sound on k
          (answered p v all_good (length v.commands) (chosen p v e.word) c.sound good-settles k) (good-whole v (length v.commands) (chosen p v e.word)) c.thrifty);
    }

pub calm-sends : (p : Plan) (es : List ScheduleEntry) → OnDevices p → All (λ e. e.cut ≡ 0) es → length (sends_of p es) ≤ greatest_pieces p 0 p.requests
calm-sends p es on u =
    let c = run_keeps p all_good (Calm p) Uncut (λ e v q b h. calm-step p e v on q b h) refl (most_steps p) es (start p) u (record { sound = starts p; thrifty = thrifty-start p }) in
    let f = c.thrifty.few in
    let l = length-map sent (end_of p all_good es).commands in
    omega arith
