-- What failed at the medium so far though no fault line says so, from step to step.
use Rattle.std.proofs.Common.{◌≡◌, ◌⊎◌, inl, inr, ◌<◌, ◌≤◌, ℕ, zero, suc, ◌+◌, ◌^◌, true, false, List, [], ◌∷◌, ◌++◌, length, map, set, drop, replicate, refl, sym, ap, subst, ◌∙◌, ⊎_elim, arith}
use Rattle.std.specs.Prelude.{if◌then◌else◌}
use Rattle.std.proofs.lemmas.Bool.{cases_lt, false≢true, not-true}
use Rattle.page_pool.specs.Cells.{flat}
use Rattle.bio_core.specs.declared.bio.Bio.{Bio}
use Rattle.bio_core.specs.declared.fate.Fate.{Fate}
use Rattle.bio_core.specs.declared.request.Dir.TheVariants.{Read, Write}
use Rattle.bio_core.specs.declared.request.Io.{Io}
use Rattle.dix_base.specs.Told.{Calm, Rose}
use Rattle.dix_adapter.specs.declared.adapter.Adapter.{Adapter}
use Rattle.dix_adapter.specs.Carried.{Fetched, WasSent, Unsent, any_bad, fates_in, frame_len, frames_came, sends}
use Rattle.dix_adapter.proofs.Blocks.{length-in}
use Rattle.dix_adapter.specs.Groups as Carry
use Rattle.dix_adapter.specs.Groups.{blocks_in, first_of}
use Rattle.dix_adapter.specs.Outcomes.{done_of, rest_of}
use Rattle.bio_core.specs.declared.fate.Fate.TheVariants.{Good}
use Rattle.fault_schedule.specs.declared.Label.{Label}
use Rattle.fault_schedule.specs.declared.fault.FaultLine.{FaultLine}
use Rattle.rig_api.specs.Log.{IsMedium}
use Rattle.rig_api.proofs.FrameLaws.{frames_length}
use Rattle.rig_api.specs.Target.{fails_at}
use Rattle.rig_api.specs.declared.rig.Outcome.{Outcome}
use Rattle.rig_api.specs.State.{RigState}
use Rattle.stack_ops.specs.declared.reply.Reply.{Reply}
use Rattle.stack_laws.specs.Plan.{Plan}
use Rattle.stack_laws.specs.Sound.{Settles}
use Rattle.stack_laws.specs.Steps.{Step, End as StepEnd, Complete as StepComplete, Admit as StepAdmit, Cut as StepCut, Join as StepJoin, Send as StepSend, can, chosen, enabled, step}
use Rattle.stack_laws.specs.View.{Command, View, command_at, group_at, no_command}
use Rattle.stack_laws.proofs.Counts.{total-set}
use Rattle.stack_laws.proofs.Enabled.{chosen-can}
use Rattle.stack_laws.proofs.Keeps.{command-there}
use Rattle.stack_steps.specs.declared.choice.Choice.{Choice}
use Rattle.stack_steps.specs.declared.choice.Choice.TheVariants.{Complete, Send}
use Rattle.stack_steps.specs.declared.machine.Machine.{Machine}
use Rattle.stack_steps.specs.Does.{Chooses, Does, Flies, Holds, Lands, Takes}
use Rattle.stack_core.specs.Mediums.{Counts, HasCountedBy, RoseBy, Spoils, in_flight, kept_unscheduled, labels_in, medium_replies, one_reply, unscheduled_of}
use Rattle.stack_core.proofs.Goes.{either-way}
use Rattle.stack_core.proofs.MediumFates.{came_behind, good_behind, rest_few, rest_why, unsent_mediums}
use Rattle.stack_core.proofs.SendsOn.{KeepsMarks, NoSend, no_complete, no_send}
use Rattle.stack_core.proofs.Steps.{SendsNot}

-- ---- counts

pub rose_less : (n n' first count count' : ℕ) → n' ≤ n → count ≤ count' → RoseBy n first count → RoseBy n' first count'
rose_less n n' first count count' l c (inl h) = inl (omega arith)
rose_less n n' first count count' l c (inr h) = inr (omega arith)

pub rose_more : (n first count count' : ℕ) → count ≤ count' → Rose count count' → RoseBy n first count → RoseBy (n + 1) first count'
rose_more n first count count' c (inl r) (inl h) = inl (omega arith)
rose_more n first count count' c (inl r) (inr h) = inr (omega arith)
rose_more n first count count' c (inr r) h = inr (omega arith)

-- a count that isn't calm rose
pub rose_or_calm : (count count' : ℕ) → (Calm count count' → ⊥) → (count < count') ⊎ (2 ^ 64 ≤ count' + 1)
rose_or_calm count count' h =
    ⊎_elim
    (λ (l : count < count'). inl l)
    (λ (l : count' ≤ count). ⊎_elim (λ (m : count' + 1 < 2 ^ 64). absurd (h (l, m))) (λ (m : 2 ^ 64 ≤ count' + 1). inr m) (cases_lt (count' + 1) (2 ^ 64)))
    (cases_lt count count')

-- ---- replies

pub set_replies : (replies : List Reply) (i : ℕ) (r : Reply) → medium_replies (set replies i r) ≤ medium_replies replies + one_reply r
set_replies [] i r = omega arith
set_replies (x ∷ replies) zero r = omega arith
set_replies (x ∷ replies) (suc i) r = let h = set_replies replies i r in omega (arith, h)

-- ---- commands in flight

flight_more : (faults : List FaultLine) (cs : List Command) (c : Command) → c.completed ≡ false → in_flight faults (cs ++ (c ∷ [])) ≡ in_flight faults cs + unscheduled_of faults (labels_in c.bios) c.fates
flight_more faults [] c e = let z : (if c.completed then 0 else unscheduled_of faults (labels_in c.bios) c.fates) ≡ unscheduled_of faults (labels_in c.bios) c.fates = rw e refl in omega (arith, z)
flight_more faults (d ∷ cs) c e = let r = flight_more faults cs c e in omega (arith, r)

flight_still : (faults : List FaultLine) (p : Plan) (v : View) (t : Step) (cut : ℕ) → ((j : ℕ) → t ≡ StepComplete j → ⊥) → NoSend t → in_flight faults (step p v t cut []).commands ≡ in_flight faults v.commands
flight_still faults p v (StepEnd i) cut a n = refl
flight_still faults p v (StepComplete j) cut a n = absurd (a j refl)
flight_still faults p v (StepAdmit i) cut a n = refl
flight_still faults p v (StepCut i) cut a n = refl
flight_still faults p v (StepJoin d i j) cut a n = refl
flight_still faults p v (StepSend d i) cut a n = absurd n

flight_done : (faults : List FaultLine) (v : View) (j : ℕ) → (command_at v j).completed ≡ false →
    in_flight faults (set v.commands j (record (command_at v j) { completed = true })) + unscheduled_of faults (labels_in (command_at v j).bios) (command_at v j).fates ≡ in_flight faults v.commands
flight_done faults v j live =
    let a = total-set (λ (c : Command). if c.completed then 0 else unscheduled_of faults (labels_in c.bios) c.fates) v.commands j (record (command_at v j) { completed = true }) no_command (command-there v j live) in
    let z : (if (command_at v j).completed then 0 else unscheduled_of faults (labels_in (command_at v j).bios) (command_at v j).fates) ≡ unscheduled_of faults (labels_in (command_at v j).bios) (command_at v j).fates = rw live refl in
    omega (arith, a, z)

-- where neither commands nor fates change
pub counts_same : (faults : List FaultLine) (ios : List Io) (p : Plan) (m : Machine) (c : Choice) (held : List Fate) → SendsNot c → KeepsMarks c → Counts faults ios p m c held held
counts_same faults ios p m c held s k v t cut x _ mean = let e = flight_still faults p v t cut (no_complete p v c t k mean) (no_send p v c t s mean) in omega (arith, e)

-- a command is completed
pub counts_done : (faults : List FaultLine) (ios : List Io) (p : Plan) (m : Machine) (i : ℕ) (bios : List Bio) (fates held held' : List Fate) → Lands p m i bios fates →
    kept_unscheduled faults ios held' ≤ kept_unscheduled faults ios held + unscheduled_of faults (labels_in bios) fates → Counts faults ios p m (Complete i) held held'
counts_done faults ios p m i bios fates held held' lands less v t cut x able mean =
    let l = lands v t x mean in
    let j = l.0 in
    let is : t ≡ StepComplete j = l.1.0 in
    let live = not-true (command_at v j).completed (ap (can p v) (sym is) ∙ able) in
    let d = flight_done faults v j live in
    let f = ap (λ b. unscheduled_of faults (labels_in b) fates) l.1.1.0 ∙ ap (unscheduled_of faults (labels_in (command_at v j).bios)) l.1.1.1 in
    let done : in_flight faults (step p v (StepComplete j) cut []).commands + kept_unscheduled faults ios held' ≤ in_flight faults v.commands + kept_unscheduled faults ios held = omega (arith, d, f, less) in
    subst (λ y. in_flight faults (step p v y cut []).commands + kept_unscheduled faults ios held' ≤ in_flight faults v.commands + kept_unscheduled faults ios held) (sym is) done

-- ---- a step

pub other_counts : (faults : List FaultLine) (first : ℕ) (ios : List Io) (p : Plan) (m m' : Machine) (held held' : List Fate) (replies replies' : List Reply) (count count' word cut : ℕ) (c : Choice) → Chooses p m word c → ((v : View) → Holds p m v → 0 < length (enabled p v)) → Does p m c cut m' → Counts faults ios p m c held held' → count ≤ count' →
    ((n : ℕ) → RoseBy (n + medium_replies replies) first count → RoseBy (n + medium_replies replies') first count') → HasCountedBy faults first ios p m held replies count → HasCountedBy faults first ios p m' held' replies' count'
other_counts faults first ios p m m' held held' replies replies' count count' word cut c h has does counts rises answers x =
    let v = x.view in
    let some = has v x.holds in
    let t = chosen p v word in
    let able = chosen-can p v word some in
    let mean = h v x.holds some in
    let less = counts v t cut x.holds able mean in
    let same : in_flight faults v.commands + (kept_unscheduled faults ios held + medium_replies replies) ≡ (in_flight faults v.commands + kept_unscheduled faults ios held) + medium_replies replies = omega arith in
    let r = answers (in_flight faults v.commands + kept_unscheduled faults ios held) (subst (λ n. RoseBy n first count) same x.rose) in
    record {
      view = step p v t cut [];
      holds = does v t x.holds able mean;
      rose = rose_less _ _ first count' count' (omega (arith, less)) (omega arith) r;
    }

-- replies that are as few
pub no_more_replies : (replies replies' : List Reply) (first count count' : ℕ) → count ≤ count' → medium_replies replies' ≤ medium_replies replies → (n : ℕ) → RoseBy (n + medium_replies replies) first count → RoseBy (n + medium_replies replies') first count'
no_more_replies replies replies' first count count' c l n h = rose_less _ _ first count count' (omega (arith, l)) c h

pub group_counts : (first : ℕ) (ios : List Io) (p : Plan) (m m' : Machine) (held : List Fate) (replies : List Reply) (armed : List FaultLine) (count count' word d i : ℕ) → Chooses p m word (Send d i) → ((v : View) → Holds p m v → 0 < length (enabled p v)) → Spoils p m d i m' armed count count' → HasCountedBy armed first ios p m held replies count → HasCountedBy armed first ios p m' held replies count'
group_counts first ios p m m' held replies armed count count' word d i h has s x =
    let v = x.view in
    let some = has v x.holds in
    let able = chosen-can p v word some in
    let mean = h v x.holds some in
    let k = s.takes v (chosen p v word) x.holds able mean in
    let c : Command = record { dev = d; bios = group_at v d i; fates = s.fates; completed = false } in
    let e = flight_more armed v.commands c refl in
    let f = ap (λ g. unscheduled_of armed (labels_in g) s.fates) k.1 in
    let r = s.rose (in_flight armed v.commands + (kept_unscheduled armed ios held + medium_replies replies)) first x.rose in
    record {
      view = step p v (StepSend d i) 0 s.fates;
      holds = s.flies v i 0 k.0 k.1 s.settles;
      rose = rose_less _ _ first count' count' (omega (arith, e, f)) (omega arith) r;
    }

-- ---- how a group is carried

-- Where no fault line says that the medium fails the block, the count rose.
by_count : {P : Type 0} (faults : List FaultLine) (labels : List Label) (k : ℕ) → fails_at faults labels k ≡ false → P ⊎ (fails_at faults labels k ≡ true) → P
by_count faults labels k none (inl x) = x
by_count faults labels k none (inr e) = absurd (false≢true (sym none ∙ e))

rest_rises : (faults : List FaultLine) (labels : List Label) (fates : List Fate) (n count count' : ℕ) (o : Outcome) → unscheduled_of faults labels fates ≡ unscheduled_of faults (drop (done_of n o) labels) (rest_of n o) → count ≤ count' →
    (IsMedium o → Rose count count' ⊎ (fails_at faults labels o.done ≡ true)) → (m first : ℕ) → RoseBy m first count → RoseBy (m + unscheduled_of faults labels fates) first count'
rest_rises faults labels fates n count count' o e c r m first h =
    let few = rest_few faults (drop (done_of n o) labels) n o in
    ⊎_elim
    (λ (l : 0 < unscheduled_of faults (drop (done_of n o) labels) (rest_of n o)). (let w = rest_why faults labels n o (omega (arith, l)) in
    rose_less _ _ first count' count' (omega (arith, e, few)) (omega arith) (rose_more m first count count' c (by_count faults labels o.done w.1 (r w.0)) h)))
    (λ (l : unscheduled_of faults (drop (done_of n o) labels) (rest_of n o) ≤ 0). rose_less _ _ first count count' (omega (arith, e, l)) c h)
    (cases_lt 0 (unscheduled_of faults (drop (done_of n o) labels) (rest_of n o)))

module _ (p : Plan) (m : Machine) (d i : ℕ) (m' taken : Machine) (group : List Bio) (fates : List Fate) (takes : Takes p m d i group taken) (flies : Flies p taken d group fates m') (settles : Settles group fates)
    (a : Adapter) (ios : List Io) (pool pool' : List (List ℕ)) (old new : RigState) where
  spoiled : ((n first : ℕ) → RoseBy n first old.faults → RoseBy (n + unscheduled_of old.armed (labels_in group) fates) first new.faults) → Spoils p m d i m' old.armed old.faults new.faults
  spoiled r = record { taken = taken; group = group; fates = fates; takes = takes; flies = flies; settles = settles; rose = r }

  sent_behind : (n : ℕ) (o : Outcome) → fates ≡ replicate (done_of n o) Good ++ rest_of n o → unscheduled_of old.armed (labels_in group) fates ≡ unscheduled_of old.armed (drop (done_of n o) (labels_in group)) (rest_of n o)
  sent_behind n o e = ap (unscheduled_of old.armed (labels_in group)) e ∙ good_behind old.armed (labels_in group) (done_of n o) (rest_of n o)

  fetched_behind : (o : Outcome) (came : List ℕ) → fates ≡ fates_in a ios (blocks_in group) (frames_came a ios group o came) ++ rest_of (Carry.size group) o →
      unscheduled_of old.armed (labels_in group) fates ≡ unscheduled_of old.armed (drop (done_of (Carry.size group) o) (labels_in group)) (rest_of (Carry.size group) o)
  fetched_behind o came e =
      let frames = frames_came a ios group o came in
      let l : length frames ≡ done_of (Carry.size group) o = frames_length (frame_len a ios group) (done_of (Carry.size group) o) came in
      let n = length-in group in
      ap (unscheduled_of old.armed (labels_in group)) e ∙ (came_behind old.armed a ios (labels_in group) (blocks_in group) frames (rest_of (Carry.size group) o) (omega (arith, l, n)) ∙ ap (λ k. unscheduled_of old.armed (drop k (labels_in group)) (rest_of (Carry.size group) o)) l)

  pub spoiled_by : ((first_of group).dir ≡ Write → any_bad (map (sends a ios (flat pool)) (blocks_in group)) ≡ true → Unsent a ios group pool pool' fates × (new.faults ≡ old.faults)) →
      ((first_of group).dir ≡ Write → any_bad (map (sends a ios (flat pool)) (blocks_in group)) ≡ false → WasSent a ios group pool pool' fates old new) →
      ((first_of group).dir ≡ Read → Fetched a ios group pool pool' fates old new) → Spoils p m d i m' old.armed old.faults new.faults
  spoiled_by unsent goes fetched =
      either-way (Spoils p m d i m' old.armed old.faults new.faults) (first_of group).dir (any_bad (map (sends a ios (flat pool)) (blocks_in group)))
      (λ w b. (let x = unsent w b in
      let z = ap (unscheduled_of old.armed (labels_in group)) (x.0).fates_are ∙ unsent_mediums old.armed (labels_in group) (map (sends a ios (flat pool)) (blocks_in group)) in
      let same = x.1 in
      spoiled (λ n first h. rose_less _ _ first old.faults new.faults (omega (arith, z)) (omega (arith, same)) h)))
      (λ w b. (let x = goes w b in spoiled (rest_rises old.armed (labels_in group) fates (Carry.size group) old.faults new.faults x.outcome (sent_behind (Carry.size group) x.outcome x.fates_are) x.exchanged.count x.exchanged.medium)))
      (λ r. (let x = fetched r in spoiled (rest_rises old.armed (labels_in group) fates (Carry.size group) old.faults new.faults x.outcome (fetched_behind x.outcome x.came x.fates_are) x.exchanged.count x.exchanged.medium)))
