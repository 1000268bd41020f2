-- What a stack has sent whose ops have all ended.
use Rattle.std.proofs.Common.{◌≡◌, ◌⊎◌, inl, inr, ◌≤◌, ℕ, suc, true, false, List, [], ◌∷◌, length, map, get_or, sym, subst, ⊎_elim, arith}
use Rattle.std.specs.Prelude.{not}
use Rattle.std.proofs.lemmas.Bool.{cases_Bool, false≢true}
use Rattle.bio_core.specs.declared.fate.Fate.{Fate}
use Rattle.dix_adapter.specs.Carried.{any_fails}
use Rattle.rig_api.specs.Log.{LogEntry as Record}
use Rattle.stack_laws.specs.Comes.{AllGood}
use Rattle.stack_laws.specs.Plan.{Plan}
use Rattle.stack_laws.specs.Runs.{ScheduleEntry, blocks_of_requests, sends_of, sent}
use Rattle.stack_laws.specs.Sound.{AllEnded, OnDevices}
use Rattle.stack_laws.specs.Steps.{Complete, enabled}
use Rattle.stack_laws.specs.View.{Command, OpView, View, command_at, no_command}
use Rattle.stack_laws.proofs.Comes.{comes-end, comes-few}
use Rattle.stack_laws.proofs.Enabled.{none-can, stuck}
use Rattle.stack_steps.specs.declared.machine.Machine.{Machine}
use Rattle.stack_core.specs.OnRecord.{AreRecords, AreTraced, HasSentBy, IsKeptBad}
use Rattle.stack_core.proofs.Recording.{NoneFails, each_recorded, few_records}

-- no more than there are blocks
pub few_sent : (es : List ScheduleEntry) (p : Plan) (m : Machine) (starts : List ℕ) (held : List Fate) (log : List Record) → OnDevices p → HasSentBy es p m starts held log → length log ≤ blocks_of_requests p.requests
few_sent es p m starts held log on x =
    let a = few_records x.view.commands log x.on_record in
    let b = comes-few p es x.view.steps x.view on x.comes in
    omega (arith, a, b)

record AreClear (cs : List Command) : Type 0 where
  pub none : NoneFails cs
  pub good : AllGood cs

-- where all commands are completed and no bad block is kept, none was bad
clear : (ops : List OpView) (starts : List ℕ) (held : List Fate) (cs : List Command) → ((j : ℕ) → (get_or cs j no_command).completed ≡ false → ⊥) → (IsKeptBad ops starts held → ⊥) → AreTraced ops starts held cs → AreClear cs
clear ops starts held [] done none t = record { none = tt; good = tt }
clear ops starts held (c ∷ cs) done none t =
    let r = clear ops starts held cs (λ j. done (suc j)) none t.1 in
    let here : any_fails c.fates ≡ false = ⊎_elim (λ (e : any_fails c.fates ≡ true). absurd (by (t.0.bad e))) (λ (e : any_fails c.fates ≡ false). e) (cases_Bool (any_fails c.fates)) in
    record { none = (here, r.none); good = (t.0.good here, r.good) }
  where
    by : ((c.completed ≡ false) ⊎ IsKeptBad ops starts held) → ⊥
    by (inl e) = done 0 e
    by (inr b) = none b

completed_once : (p : Plan) (v : View) (j : ℕ) → not (command_at v j).completed ≡ false → (command_at v j).completed ≡ false → ⊥
completed_once p v j z e = let y : true ≡ false = rw e at z in false≢true (sym y)

-- all that is sent where all blocks are good
pub all_sent : (es : List ScheduleEntry) (p : Plan) (m : Machine) (starts : List ℕ) (held : List Fate) (log : List Record) → OnDevices p → (x : HasSentBy es p m starts held log) → enabled p x.view ≡ [] → (IsKeptBad x.view.ops starts held → ⊥) → AreRecords (sends_of p es) log
all_sent es p m starts held log on x e none =
    let v = x.view in
    let s = x.holds.shows.sound in
    let ended : AllEnded v = stuck p v s e in
    let r = clear v.ops starts held v.commands (λ j. completed_once p v j (none-can p v s ended (Complete j))) none x.traced in
    subst (λ (w : View). AreRecords (map sent w.commands) log) (comes-end p es v.steps v on x.comes e r.good) (each_recorded v.commands log r.none x.on_record)
