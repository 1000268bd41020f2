-- A stack goes on by a schedule, and what it sends is on record.
use Rattle.std.proofs.Common.{◌≡◌, ◌⊎◌, inl, inr, ℕ, true, false, List, [], ◌∷◌, ◌++◌, length, map, replicate, refl, sym, ap, subst, ◌∙◌, append-nil}
use Rattle.page_pool.specs.Cells.{flat}
use Rattle.bio_core.specs.declared.bio.Bio.{Bio}
use Rattle.bio_core.specs.declared.fate.Fate.{Fate}
use Rattle.bio_core.specs.declared.fate.Fate.TheVariants.{Good}
use Rattle.bio_core.specs.declared.request.Dir.TheVariants.{Read, Write}
use Rattle.bio_core.specs.declared.request.Io.{Io}
use Rattle.dix_adapter.specs.declared.adapter.Adapter.{Adapter}
use Rattle.dix_adapter.specs.Carried.{Fetched, WasSent, Unsent, any_bad, any_fails, sends}
use Rattle.dix_adapter.specs.Groups as Carry
use Rattle.dix_adapter.specs.Groups.{blocks_in, first_of, mode_of}
use Rattle.dix_adapter.specs.Outcomes.{done_of}
use Rattle.merge_queue.specs.Groups.{size}
use Rattle.rig_api.specs.Log.{LogEntry as Record}
use Rattle.rig_api.specs.State.{RigState}
use Rattle.stack_laws.specs.Formed.{IsGroup}
use Rattle.stack_laws.specs.Plan.{Plan}
use Rattle.stack_laws.specs.Runs.{ScheduleEntry, sent}
use Rattle.stack_laws.specs.Sound.{HasBlocks, Settles}
use Rattle.stack_steps.specs.declared.choice.Choice.{Choice}
use Rattle.stack_steps.specs.declared.choice.Choice.TheVariants.{Complete, Send}
use Rattle.stack_steps.specs.declared.machine.Machine.{Machine}
use Rattle.stack_steps.specs.Does.{Chooses, Does, Flies, Takes}
use Rattle.stack_core.specs.declared.kept.Fates.{Fates}
use Rattle.stack_core.specs.declared.sheet.Sheet.{Sheet}
use Rattle.stack_core.specs.declared.stack.Stack.{Stack}
use Rattle.stack_core.specs.OnRecord.{Carries, HasSentBy, IsFormed, IsOfRequests, IsRecordOf, SendsOn, Traces}
use Rattle.stack_core.specs.Stacks.{HasStep, StackStays, plan_in}
use Rattle.stack_walk_laws.proofs.Clear.{clear_in, clear_out, held_fails}
use Rattle.stack_core.proofs.Goes.{either-way}
use Rattle.stack_core.proofs.Recording.{formed_of, record_of}
use Rattle.stack_core.proofs.SendsOn.{KeepsMarks, group_held, group_recorded, other_sends, traces_same}
use Rattle.stack_core.proofs.Steps.{SendsNot}

-- a step that sends nothing
quiet_sends : (s s' : Stack) (word cut : ℕ) (c : Choice) (log : List Record) → SendsNot c → StackStays s s' → Chooses (plan_in s.sheet) s.machine word c → HasStep (plan_in s.sheet) s.machine → Does (plan_in s.sheet) s.machine c cut s'.machine →
    Traces (plan_in s.sheet) s.machine c s.kept.starts.items s.kept.held.items s'.kept.starts.items s'.kept.held.items → SendsOn word cut s s' log log
quiet_sends s s' word cut c log n stays h has does traces = record {
  more = [];
  records = sym (append-nil log);
  formed = tt;
  of_requests = tt;
  on = λ es before e x. subst (HasSentBy es (plan_in s'.sheet) s'.machine s'.kept.starts.items s'.kept.held.items) (sym (append-nil before))
      (subst (λ (sh : Sheet). HasSentBy es (plan_in sh) s'.machine s'.kept.starts.items s'.kept.held.items before) (sym stays.sheet)
      (other_sends es (plan_in s.sheet) s.machine s'.machine s.kept.starts.items s'.kept.starts.items s.kept.held.items s'.kept.held.items word cut c before n h has does traces e x));
}

pub still_sends : (s s' : Stack) (word cut : ℕ) (c : Choice) (log : List Record) → SendsNot c → KeepsMarks c → StackStays s s' → Chooses (plan_in s.sheet) s.machine word c → HasStep (plan_in s.sheet) s.machine → Does (plan_in s.sheet) s.machine c cut s'.machine → s'.kept ≡ s.kept → SendsOn word cut s s' log log
still_sends s s' word cut c log n k stays h has does kept =
    quiet_sends s s' word cut c log n stays h has does
    (subst (λ (f : Fates). Traces (plan_in s.sheet) s.machine c s.kept.starts.items s.kept.held.items f.starts.items f.held.items) (sym kept) (traces_same (plan_in s.sheet) s.machine c s.kept.starts.items s.kept.held.items n k))

pub lands_sends : (s s' : Stack) (word cut i : ℕ) (log : List Record) → StackStays s s' → Chooses (plan_in s.sheet) s.machine word (Complete i) → HasStep (plan_in s.sheet) s.machine → Does (plan_in s.sheet) s.machine (Complete i) cut s'.machine →
    Traces (plan_in s.sheet) s.machine (Complete i) s.kept.starts.items s.kept.held.items s'.kept.starts.items s'.kept.held.items → SendsOn word cut s s' log log
lands_sends s s' word cut i log stays h has does traces = quiet_sends s s' word cut (Complete i) log tt stays h has does traces

-- a group is sent
pub group_sends : (s s' : Stack) (word cut d i : ℕ) (log log' : List Record) → StackStays s s' → Chooses (plan_in s.sheet) s.machine word (Send d i) → HasStep (plan_in s.sheet) s.machine → Carries s.adapter (plan_in s.sheet) s.machine d i s'.machine log log' → s'.kept ≡ s.kept → SendsOn word cut s s' log log'
group_sends s s' word cut d i log log' stays h has x kept = by x.records
  where
    stacked : (es : List ScheduleEntry) (after : List Record) → HasSentBy es (plan_in s.sheet) s'.machine s.kept.starts.items s.kept.held.items after → HasSentBy es (plan_in s'.sheet) s'.machine s'.kept.starts.items s'.kept.held.items after
    stacked es after y = subst (λ (sh : Sheet). HasSentBy es (plan_in sh) s'.machine s'.kept.starts.items s'.kept.held.items after) (sym stays.sheet)
        (subst (λ (f : Fates). HasSentBy es (plan_in s.sheet) s'.machine f.starts.items f.held.items after) (sym kept) y)

    by : ((e : Record) × (log' ≡ log ++ (e ∷ [])) × IsRecordOf (sent (record { dev = d; bios = x.group; fates = x.fates; completed = false })) e × IsFormed (mode_of s.adapter) s.adapter.ty e × IsOfRequests (plan_in s.sheet) e) ⊎ ((any_fails x.fates ≡ true) × (log' ≡ log)) → SendsOn word cut s s' log log'
    by (inl r) = record {
      more = r.0 ∷ [];
      records = r.1;
      formed = (r.3, tt);
      of_requests = (r.4, tt);
      on = λ es before e y. stacked es (before ++ (r.0 ∷ [])) (group_recorded es (plan_in s.sheet) s.machine s'.machine x.taken s.kept.starts.items s.kept.held.items word cut d i x.group x.fates before h has x.takes x.flies x.settles x.good e y r.0 r.2);
    }
    by (inr r) = record {
      more = [];
      records = r.1 ∙ sym (append-nil log);
      formed = tt;
      of_requests = tt;
      on = λ es before e y. subst (HasSentBy es (plan_in s'.sheet) s'.machine s'.kept.starts.items s'.kept.held.items) (sym (append-nil before))
          (stacked es before (group_held es (plan_in s.sheet) s.machine s'.machine x.taken s.kept.starts.items s.kept.held.items word cut d i x.group x.fates before h has x.takes x.flies x.settles x.good e y r.0));
    }

-- ---- how a group is carried

module _ (p : Plan) (m : Machine) (d i : ℕ) (m' taken : Machine) (group : List Bio) (fates : List Fate) (takes : Takes p m d i group taken) (flies : Flies p taken d group fates m') (settles : Settles group fates)
    (a : Adapter) (ios : List Io) (pool pool' : List (List ℕ)) (old new : RigState) (on : (first_of group).dev ≡ d) (long : length fates ≡ size group) (some : HasBlocks group) (of_plan : IsGroup p d group) where
  all_good : fates ≡ replicate (length fates) Good → fates ≡ replicate (size group) Good
  all_good e = e ∙ ap (λ (n : ℕ). replicate n Good) long

  pub carried_by : ((first_of group).dir ≡ Write → any_bad (map (sends a ios (flat pool)) (blocks_in group)) ≡ true → Unsent a ios group pool pool' fates × (new.log ≡ old.log)) →
      ((first_of group).dir ≡ Write → any_bad (map (sends a ios (flat pool)) (blocks_in group)) ≡ false → WasSent a ios group pool pool' fates old new) →
      ((first_of group).dir ≡ Read → Fetched a ios group pool pool' fates old new) → Carries a p m d i m' old.log new.log
  carried_by unsent goes fetched =
      either-way (Carries a p m d i m' old.log new.log) (first_of group).dir (any_bad (map (sends a ios (flat pool)) (blocks_in group)))
      (λ w b. (let x = unsent w b in
      let bad : any_fails fates ≡ true = ap any_fails (x.0).fates_are ∙ held_fails (map (sends a ios (flat pool)) (blocks_in group)) b in
      record { taken = taken; group = group; fates = fates; takes = takes; flies = flies; settles = settles; good = λ z. (let y : true ≡ false = sym bad ∙ z in cc); records = inr (bad, x.1) }))
      (λ w b. (let x = goes w b in record {
        taken = taken;
        group = group;
        fates = fates;
        takes = takes;
        flies = flies;
        settles = settles;
        good = λ z. all_good (clear_out (done_of (Carry.size group) x.outcome) (Carry.size group) x.outcome fates x.fates_are z);
        records = inl (_, x.exchanged.recorded, record_of a d group fates _ on refl refl x.fits, formed_of a group _ refl x.fits, record { dev = d; group = group; some = some; is_group = of_plan; is_record = record_of a d group [] _ on refl refl x.fits; labels = refl });
      }))
      (λ r. (let x = fetched r in record {
        taken = taken;
        group = group;
        fates = fates;
        takes = takes;
        flies = flies;
        settles = settles;
        good = λ z. all_good (clear_in a ios (blocks_in group) _ (Carry.size group) x.outcome fates x.fates_are z);
        records = inl (_, x.exchanged.recorded, record_of a d group fates _ on refl refl x.fits, formed_of a group _ refl x.fits, record { dev = d; group = group; some = some; is_group = of_plan; is_record = record_of a d group [] _ on refl refl x.fits; labels = refl });
      }))
