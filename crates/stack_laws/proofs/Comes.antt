-- A run in which all blocks were good is the one that is known before.
use Rattle.std.proofs.Common.{◌≡◌, ℕ, zero, suc, ◌+◌, ◌-◌, ◌<◌, ◌≤◌, true, false, List, [], ◌∷◌, ◌++◌, length, drop, get_or, set, replicate, refl, sym, ap, subst, ◌∙◌, ⊎_elim, arith, zero-add}
use Rattle.std.proofs.lemmas.Bool.{cases_Bool}
use Rattle.merge_queue.specs.Passed.{Fate, Good}
use Rattle.merge_queue.specs.Groups.{size}
use Rattle.stack_laws.specs.Plan.{Plan}
use Rattle.stack_laws.specs.View.{View, Command, no_command, start}
use Rattle.stack_laws.specs.Steps.{Step, End, Complete, Admit, Cut, Join, Send, enabled, chosen, step}
use Rattle.stack_laws.specs.Runs.{ScheduleEntry, Rig, entry_of, taken, no_steps, all_good, by_word, run, blocks_of_requests, most_steps, end_of}
use Rattle.stack_laws.specs.Sound.{OnDevices, Sound}
use Rattle.stack_laws.specs.Measure.{StepsCounted}
use Rattle.stack_laws.specs.Comes.{AllGood, Comes, entry_at}
use Rattle.stack_laws.proofs.Keeps.{keeps}
use Rattle.stack_laws.proofs.Starts.{starts}
use Rattle.stack_laws.proofs.Enabled.{chosen-can}
use Rattle.stack_laws.proofs.Measure.{counted-start, counted-keeps}

pub record Both (p : Plan) (v : View) : Type 0 where
  pub sound : Sound p v
  pub counted : StepsCounted p v

pub comes-both : (p : Plan) (es : List ScheduleEntry) (n : ℕ) (v : View) → OnDevices p → Comes p es n v → Both p v
comes-both p es zero v on h = subst (Both p) (sym h) (record { sound = starts p; counted = counted-start p })
comes-both p es (suc n) v on h =
    let u = h.0 in
    let e = entry_at es n in
    let b = comes-both p es n u on h.1 in
    let c = chosen-can p u e.word h.2.some in
    subst (Both p) (sym h.2.is) (record {
      sound = keeps p u (chosen p u e.word) e.cut h.2.fates on b.sound c h.2.answered;
      counted = counted-keeps p u (chosen p u e.word) e.cut h.2.fates b.sound on c h.2.answered b.counted;
    })

pub comes-steps : (p : Plan) (es : List ScheduleEntry) (n : ℕ) (v : View) → Comes p es n v → v.steps ≡ n
comes-steps p es zero v h = ap (λ (x : View). x.steps) h
comes-steps p es (suc n) v h = ap (λ (x : View). x.steps) h.2.is ∙ ap suc (comes-steps p es n h.0 h.1)

pub comes-few : (p : Plan) (es : List ScheduleEntry) (n : ℕ) (v : View) → OnDevices p → Comes p es n v → length v.commands ≤ blocks_of_requests p.requests
comes-few p es n v on h = let c = (comes-both p es n v on h).counted.sends in omega arith

-- ---- all were good before

good-set : (cs : List Command) (j : ℕ) → AllGood (set cs j (record (get_or cs j no_command) { completed = true })) → AllGood cs
good-set [] j h = tt
good-set (c ∷ cs) zero h = h
good-set (c ∷ cs) (suc j) h = (h.0, good-set cs j h.1)

good-front : (cs ds : List Command) → AllGood (cs ++ ds) → AllGood cs
good-front [] ds h = tt
good-front (c ∷ cs) ds h = (h.0, good-front cs ds h.1)

good-last : (cs : List Command) (c : Command) → AllGood (cs ++ (c ∷ [])) → c.fates ≡ replicate (size c.bios) Good
good-last [] c h = h.0
good-last (x ∷ cs) c h = good-last cs c h.1

good-before : (p : Plan) (u : View) (t : Step) (cut : ℕ) (fates : List Fate) → AllGood (step p u t cut fates).commands → AllGood u.commands
good-before p u (End i) cut fates h = h
good-before p u (Complete j) cut fates h = good-set u.commands j h
good-before p u (Admit i) cut fates h = h
good-before p u (Cut i) cut fates h = h
good-before p u (Join d i j) cut fates h = h
good-before p u (Send d i) cut fates h = good-front u.commands _ h

good-step : (p : Plan) (u : View) (t : Step) (cut n : ℕ) (fates : List Fate) → AllGood (step p u t cut fates).commands → step p u t cut (all_good n (taken u t)) ≡ step p u t cut fates
good-step p u (End i) cut n fates h = refl
good-step p u (Complete j) cut n fates h = refl
good-step p u (Admit i) cut n fates h = refl
good-step p u (Cut i) cut n fates h = refl
good-step p u (Join d i j) cut n fates h = refl
good-step p u (Send d i) cut n fates h = ap (step p u (Send d i) cut) (sym (good-last u.commands _ h))

-- ---- the run of good blocks

run-stays : (p : Plan) (rig : Rig) (n : ℕ) (es : List ScheduleEntry) (v : View) → no_steps (enabled p v) ≡ true → run p rig n es v ≡ v
run-stays p rig zero es v e = refl
run-stays p rig (suc n) es v e = rw e refl

drops : (es : List ScheduleEntry) (n : ℕ) → drop n (drop 1 es) ≡ drop (suc n) es
drops [] zero = refl
drops [] (suc n) = refl
drops (e ∷ es) n = refl

run-more : (p : Plan) (rig : Rig) (n m : ℕ) (es : List ScheduleEntry) (v : View) → run p rig (n + m) es v ≡ run p rig m (drop n es) (run p rig n es v)
run-more p rig zero m es v = rw (zero-add m) refl
run-more p rig (suc n) m es v =
    let e : suc n + m ≡ suc (n + m) = omega arith in
    rw e (⊎_elim
    (λ (z : no_steps (enabled p v) ≡ true). rw z (sym (run-stays p rig m (drop (suc n) es) v z)))
    (λ (z : no_steps (enabled p v) ≡ false). rw z (run-more p rig n m (drop 1 es) (by_word p rig (entry_of es) v) ∙ ap (λ x. run p rig m x (run p rig n (drop 1 es) (by_word p rig (entry_of es) v))) (drops es n)))
    (cases_Bool (no_steps (enabled p v))))

first-is : (es : List ScheduleEntry) (n : ℕ) → entry_of (drop n es) ≡ entry_at es n
first-is [] zero = refl
first-is [] (suc n) = refl
first-is (e ∷ es) zero = refl
first-is (e ∷ es) (suc n) = first-is es n

has-steps : (ss : List Step) → 0 < length ss → no_steps ss ≡ false
has-steps [] h = absurd (omega arith)
has-steps (s ∷ ss) h = refl

comes-calm : (p : Plan) (es : List ScheduleEntry) (n : ℕ) (v : View) → Comes p es n v → AllGood v.commands → run p all_good n es (start p) ≡ v
comes-calm p es zero v h g = sym h
comes-calm p es (suc n) v h g =
    let u = h.0 in
    let e = entry_at es n in
    let s = chosen p u e.word in
    let g' : AllGood (step p u s e.cut h.2.fates).commands = subst (λ (x : View). AllGood x.commands) h.2.is g in
    let before = comes-calm p es n u h.1 (good-before p u s e.cut h.2.fates g') in
    let z = has-steps (enabled p u) h.2.some in
    let one : run p all_good 1 (drop n es) u ≡ by_word p all_good (entry_of (drop n es)) u = rw z refl in
    let k : suc n ≡ n + 1 = omega arith in
    ap (λ x. run p all_good x es (start p)) k
    ∙ (run-more p all_good n 1 es (start p)
    ∙ (ap (run p all_good 1 (drop n es)) before
    ∙ (one
    ∙ (ap (λ x. by_word p all_good x u) (first-is es n)
    ∙ (good-step p u s e.cut (length u.commands) h.2.fates g' ∙ sym h.2.is)))))

none-enabled : (ss : List Step) → ss ≡ [] → no_steps ss ≡ true
none-enabled [] h = refl
none-enabled (s ∷ ss) h = cc

pub comes-end : (p : Plan) (es : List ScheduleEntry) (n : ℕ) (v : View) → OnDevices p → Comes p es n v → enabled p v ≡ [] → AllGood v.commands → v ≡ end_of p all_good es
comes-end p es n v on h e g =
    let c = (comes-both p es n v on h).counted.steps in
    let s = comes-steps p es n v h in
    let k : most_steps p ≡ n + (most_steps p - n) = omega arith in
    sym (ap (λ x. run p all_good x es (start p)) k
    ∙ (run-more p all_good n (most_steps p - n) es (start p)
    ∙ (ap (run p all_good (most_steps p - n) (drop n es)) (comes-calm p es n v h g)
    ∙ run-stays p all_good (most_steps p - n) (drop n es) v (none-enabled (enabled p v) e))))
