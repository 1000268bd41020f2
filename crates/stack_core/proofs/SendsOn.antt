-- A machine goes on by a schedule, and what it sends is on record.
use Rattle.std.proofs.Common.{◌≡◌, inl, ◌<◌, ℕ, suc, false, true, List, [], ◌∷◌, ◌++◌, length, get_or, set, replicate, refl, sym, ap, subst, ◌∙◌}
use Rattle.bio_core.specs.declared.bio.Bio.{Bio}
use Rattle.bio_core.specs.declared.fate.Fate.{Fate}
use Rattle.bio_core.specs.declared.fate.Fate.TheVariants.{Good}
use Rattle.dix_adapter.specs.Carried.{any_fails}
use Rattle.merge_queue.specs.Groups.{size}
use Rattle.rig_api.specs.Log.{LogEntry as Record}
use Rattle.stack_laws.specs.Comes.{Comes, ComesBy, entry_at}
use Rattle.stack_laws.specs.Plan.{Plan}
use Rattle.stack_laws.specs.Runs.{ScheduleEntry, sent}
use Rattle.stack_laws.specs.Sound.{Settles}
use Rattle.stack_laws.specs.Steps.{Step, End as StepEnd, Complete as StepComplete, Admit as StepAdmit, Cut as StepCut, Join as StepJoin, Send as StepSend, can, chosen, enabled, step}
use Rattle.stack_laws.specs.View.{Command, OpView, View, group_at, no_op}
use Rattle.stack_laws.proofs.Enabled.{chosen-can}
use Rattle.stack_laws.proofs.Ops.{AtSet, Other, Past, Same, at_set}
use Rattle.stack_steps.specs.declared.choice.Choice.{Choice}
use Rattle.stack_steps.specs.declared.choice.Choice.TheVariants.{Admit, Complete, Cut, End, Join, Send}
use Rattle.stack_steps.specs.declared.machine.Machine.{Machine}
use Rattle.stack_steps.specs.Does.{Chooses, Does, Flies, Holds, Takes}
use Rattle.stack_steps.specs.Shows.{Means}
use Rattle.stack_steps.proofs.Keep.{in-flight}
use Rattle.stack_core.specs.OnRecord.{AreOnRecord, AreTraced, HasSentBy, IsKeptBad, IsRecordOf, Traces}
use Rattle.stack_core.proofs.Recording.{held_more, recorded_more, recorded_still, traced_more, traced_still}
use Rattle.stack_core.proofs.Steps.{SendsNot, unanswered}

-- ---- steps that send nothing

abbrev pub NoSend : Step → Type 0
NoSend (StepEnd i) = Unit {0}
NoSend (StepComplete j) = Unit {0}
NoSend (StepAdmit i) = Unit {0}
NoSend (StepCut i) = Unit {0}
NoSend (StepJoin d i j) = Unit {0}
NoSend (StepSend d i) = ⊥

pub no_send : (p : Plan) (v : View) (c : Choice) (t : Step) → SendsNot c → Means p v c t → NoSend t
no_send p v (End q) t s m = rw m.1 tt
no_send p v (Complete i) t s m = let x = in-flight p v i t m.0 m.1 in rw x.step tt
no_send p v (Admit q) t s m = rw m.1 tt
no_send p v (Cut q) t s m = rw m.1 tt
no_send p v (Join d i j) t s m = rw m tt
no_send p v (Send d i) t s m = absurd s

still_recorded : (p : Plan) (v : View) (t : Step) (cut : ℕ) (log : List Record) → NoSend t → AreOnRecord v.commands log → AreOnRecord (step p v t cut []).commands log
still_recorded p v (StepEnd i) cut log n h = h
still_recorded p v (StepComplete j) cut log n h = recorded_still v.commands j log h
still_recorded p v (StepAdmit i) cut log n h = h
still_recorded p v (StepCut i) cut log n h = h
still_recorded p v (StepJoin d i j) cut log n h = h
still_recorded p v (StepSend d i) cut log n h = absurd n

pub other_sends : (es : List ScheduleEntry) (p : Plan) (m m' : Machine) (starts starts' : List ℕ) (held held' : List Fate) (word cut : ℕ) (c : Choice) (log : List Record) → SendsNot c → Chooses p m word c → ((v : View) → Holds p m v → 0 < length (enabled p v)) → Does p m c cut m' → Traces p m c starts held starts' held' →
    entry_at es m.steps ≡ record { word = word; cut = cut } → HasSentBy es p m starts held log → HasSentBy es p m' starts' held' log
other_sends es p m m' starts starts' held held' word cut c log n h has does traces e x =
    let v = x.view in
    let some = has v x.holds in
    let t = chosen p v word in
    let able = chosen-can p v word some in
    let mean = h v x.holds some in
    let entry : record { word = word; cut = cut } ≡ entry_at es v.steps = sym e ∙ ap (entry_at es) x.holds.shows.taken in
    record {
      view = step p v t cut [];
      holds = does v t x.holds able mean;
      comes = (v, x.comes, subst (λ y. ComesBy p y v (step p v t cut [])) entry (record { some = some; fates = []; answered = unanswered p v c t n mean; is = refl }));
      on_record = still_recorded p v t cut log (no_send p v c t n mean) x.on_record;
      traced = traces v t cut x.holds able mean x.traced;
    }

-- ---- a group is sent

module _ (es : List ScheduleEntry) (p : Plan) (m m' between : Machine) (starts : List ℕ) (held : List Fate) (word cut d i : ℕ) (group : List Bio) (fates : List Fate) (log : List Record) (h : Chooses p m word (Send d i)) (has : (v : View) → Holds p m v → 0 < length (enabled p v))
    (takes : Takes p m d i group between) (flies : Flies p between d group fates m') (settles : Settles group fates) (good : any_fails fates ≡ false → fates ≡ replicate (size group) Good) (e : entry_at es m.steps ≡ record { word = word; cut = cut }) (x : HasSentBy es p m starts held log) where
  abbrev command : List Bio → Command
  command g = record { dev = d; bios = g; fates = fates; completed = false }

  abbrev v : View
  v = x.view

  some : 0 < length (enabled p v)
  some = has v x.holds

  is_send : chosen p v word ≡ StepSend d i
  is_send = h v x.holds some

  able : can p v (chosen p v word) ≡ true
  able = chosen-can p v word some

  group_is : group ≡ group_at v d i
  group_is = (takes v (chosen p v word) x.holds able is_send).1

  comes : Comes p es (suc v.steps) (step p v (StepSend d i) cut fates)
  comes =
      let entry : record { word = word; cut = cut } ≡ entry_at es v.steps = sym e ∙ ap (entry_at es) x.holds.shows.taken in
      let settles' : Settles (group_at v d i) fates = subst (λ g. Settles g fates) group_is settles in
      (v, x.comes, subst (λ y. ComesBy p y v (step p v (StepSend d i) cut fates)) entry (record { some = some; fates = fates; answered = rw is_send settles'; is = ap (λ t. step p v t cut fates) (sym is_send) }))

  sent_by : (after : List Record) → AreOnRecord (v.commands ++ (command (group_at v d i) ∷ [])) after → HasSentBy es p m' starts held after
  sent_by after r = record {
    view = step p v (StepSend d i) cut fates;
    holds = flies v i cut (takes v (chosen p v word) x.holds able is_send).0 group_is settles;
    comes = comes;
    on_record = r;
    traced = traced_more v.ops starts held v.commands (command (group_at v d i)) x.traced (record { good = λ q. good q ∙ ap (λ (g : List Bio). replicate (size g) Good) group_is; bad = λ q. inl refl });
  }

  pub group_recorded : (r : Record) → IsRecordOf (sent (command group)) r → HasSentBy es p m' starts held (log ++ (r ∷ []))
  group_recorded r o = sent_by (log ++ (r ∷ [])) (recorded_more v.commands (command (group_at v d i)) log r x.on_record (subst (λ g. IsRecordOf (sent (command g)) r) group_is o))

  pub group_held : any_fails fates ≡ true → HasSentBy es p m' starts held log
  group_held b = sent_by log (held_more v.commands (command (group_at v d i)) log x.on_record b)

-- ---- bad blocks stay where no command is completed

abbrev pub KeepsMarks : Choice → Type 0
KeepsMarks (End q) = Unit {0}
KeepsMarks (Complete i) = ⊥
KeepsMarks (Admit q) = Unit {0}
KeepsMarks (Cut q) = Unit {0}
KeepsMarks (Join d i j) = Unit {0}
KeepsMarks (Send d i) = ⊥

-- an op whose settled blocks are as before
same_marks : (ops : List OpView) (i : ℕ) (o : OpView) (starts : List ℕ) (held : List Fate) → o.settled ≡ (get_or ops i no_op).settled → IsKeptBad ops starts held → IsKeptBad (set ops i o) starts held
same_marks ops i o starts held e b = record { op = b.op; k = b.k; why = b.why; settled = by (at_set ops i o no_op b.op); is_bad = b.is_bad }
  where
    by : AtSet ops i o no_op b.op → get_or (get_or (set ops i o) b.op no_op).settled b.k false ≡ true
    by (Same x l q) = ap (λ (y : OpView). get_or y.settled b.k false) q ∙ (ap (λ (y : List _). get_or y b.k false) e ∙ (ap (λ (y : ℕ). get_or (get_or ops y no_op).settled b.k false) (sym x) ∙ b.settled))
    by (Other x q) = ap (λ (y : OpView). get_or y.settled b.k false) q ∙ b.settled
    by (Past l q) = ap (λ (y : OpView). get_or y.settled b.k false) q ∙ b.settled

step_traces : (p : Plan) (v : View) (t : Step) (cut : ℕ) (starts : List ℕ) (held : List Fate) → ((j : ℕ) → t ≡ StepComplete j → ⊥) → NoSend t → AreTraced v.ops starts held v.commands → AreTraced (step p v t cut []).ops starts held (step p v t cut []).commands
step_traces p v (StepEnd i) cut starts held a n h = traced_still v.ops _ starts held v.commands (same_marks v.ops i _ starts held refl) h
step_traces p v (StepComplete j) cut starts held a n h = absurd (a j refl)
step_traces p v (StepAdmit i) cut starts held a n h = traced_still v.ops _ starts held v.commands (same_marks v.ops i _ starts held refl) h
step_traces p v (StepCut i) cut starts held a n h = traced_still v.ops _ starts held v.commands (same_marks v.ops i _ starts held refl) h
step_traces p v (StepJoin d i j) cut starts held a n h = h
step_traces p v (StepSend d i) cut starts held a n h = absurd n

pub no_complete : (p : Plan) (v : View) (c : Choice) (t : Step) → KeepsMarks c → Means p v c t → (j : ℕ) → t ≡ StepComplete j → ⊥
no_complete p v (End q) t k m j e = let x = sym m.1 ∙ e in cc
no_complete p v (Complete i) t k m j e = k
no_complete p v (Admit q) t k m j e = let x = sym m.1 ∙ e in cc
no_complete p v (Cut q) t k m j e = let x = sym m.1 ∙ e in cc
no_complete p v (Join d i i') t k m j e = let x = sym m ∙ e in cc
no_complete p v (Send d i) t k m j e = k

pub traces_same : (p : Plan) (m : Machine) (c : Choice) (starts : List ℕ) (held : List Fate) → SendsNot c → KeepsMarks c → Traces p m c starts held starts held
traces_same p m c starts held s k v t cut x _ mean h = step_traces p v t cut starts held (no_complete p v c t k mean) (no_send p v c t s mean) h
