-- What steps send, one after another.
use Rattle.std.proofs.Common.{◌≡◌, ◌≤◌, ℕ, zero, suc, List, [], ◌∷◌, ◌++◌, length, get_or, refl, sym, ap, subst, ◌∙◌, arith, append-nil, append_assoc}
use Rattle.std.specs.List.{All, AllByRecursion as Each}
use Rattle.std.proofs.lemmas.List.{get_or_past}
use Rattle.rig_api.specs.Log.{LogEntry as Record}
use Rattle.rig_api.specs.Telling.{Standing}
use Rattle.dix_adapter.specs.Passed.{State, Mode}
use Rattle.dix_adapter.specs.Groups.{mode_of}
use Rattle.pi_tuple.specs.declared.checks.PiType.{PiType}
use Rattle.script_run_laws.proofs.Passed.{each_both}
use Rattle.bio_core.specs.declared.request.Io.{Io}
use Rattle.merge_queue.specs.declared.limits.Limits.{Limits}
use Rattle.script_text.specs.Passed.{Op}
use Rattle.stack_laws.specs.Comes.{entry_at}
use Rattle.stack_laws.specs.Measure.{greatest_pieces}
use Rattle.stack_laws.specs.Plan.{Plan}
use Rattle.stack_laws.specs.Runs.{ScheduleEntry, SentCommand, blocks_of_requests, sends_of}
use Rattle.stack_laws.specs.View.{start}
use Rattle.stack_laws.proofs.Runs.{calm-sends}
use Rattle.volume_table.specs.Tables.{Table}
use Rattle.script_text.specs.declared.script.Script.{Script}
use Rattle.stack_core.specs.declared.sheet.Sheet.{Sheet}
use Rattle.stack_core.specs.declared.stack.Stack.{Stack}
use Rattle.stack_core.specs.OnRecord.{AreRecords, HasQueues, HasSent, IsFormed, IsOfRequests, ListsNone, SendsOn}
use Rattle.stack_core.specs.Passed.{requests_from, plan_of, shifted_by, Setting, Holds}
use Rattle.stack_core.specs.Stacks.{IsFinished, IsStack, StackStays, plan_in}
use Rattle.stack_core.specs.Walking.{Walks}
use Rattle.script_stack.specs.Sends.{IsPlanFor, SendsBy, SendsFor, entries_of}

pub sends_nowhere : (es : List ScheduleEntry) (s : Stack) (log : List Record) → SendsBy es s s log log
sends_nowhere es s log = record { more = []; records = sym (append-nil log); formed = tt; of_requests = tt; on = λ before x. subst (HasSent es s) (sym (append-nil before)) x }

pub sends_then : (es : List ScheduleEntry) (s s' s'' : Stack) (log log' log'' : List Record) → StackStays s s' → SendsBy es s s' log log' → SendsBy es s' s'' log' log'' → SendsBy es s s'' log log''
sends_then es s s' s'' log log' log'' stays a b = record {
  more = a.more ++ b.more;
  records = b.records ∙ (ap (λ l. l ++ b.more) a.records ∙ append_assoc log a.more b.more);
  formed = each_both (IsFormed (mode_of s.adapter) s.adapter.ty) a.more b.more a.formed (subst (λ x. Each (IsFormed (mode_of x) x.ty) b.more) stays.adapter b.formed);
  of_requests = each_both (IsOfRequests (plan_in s.sheet)) a.more b.more a.of_requests (subst (λ (sh : Sheet). Each (IsOfRequests (plan_in sh)) b.more) stays.sheet b.of_requests);
  on = λ before x. subst (HasSent es s'') (append_assoc before a.more b.more) (b.on (before ++ a.more) (a.on before x));
}

-- one step, where its word and its cut are the schedule's next
pub sends_once : (es : List ScheduleEntry) (word cut : ℕ) (s s' : Stack) (log log' : List Record) → entry_at es s.machine.steps ≡ record { word = word; cut = cut } → SendsOn word cut s s' log log' → SendsBy es s s' log log'
sends_once es word cut s s' log log' e a = record { more = a.more; records = a.records; formed = a.formed; of_requests = a.of_requests; on = λ before x. a.on es before e x }

-- what stands behind a list is one list
pub append_left : {A : Type 0} (xs ys zs : List A) → xs ++ ys ≡ xs ++ zs → ys ≡ zs
append_left [] ys zs e = e
append_left (x ∷ xs) ys zs e = append_left xs ys zs cc

-- ---- entries

entry_in : (ws : List (ℕ × ℕ)) (i : ℕ) → entry_at (entries_of ws) i ≡ record { word = (get_or ws i (0, 0)).0; cut = (get_or ws i (0, 0)).1 }
entry_in [] zero = refl
entry_in [] (suc i) = refl
entry_in (w ∷ ws) zero = refl
entry_in (w ∷ ws) (suc i) = entry_in ws i

pub entry_here : (ws : List (ℕ × ℕ)) (i n : ℕ) → n ≡ i → entry_at (entries_of ws) n ≡ record { word = (get_or ws i (0, 0)).0; cut = (get_or ws i (0, 0)).1 }
entry_here ws i n e = ap (entry_at (entries_of ws)) e ∙ entry_in ws i

pub entry_behind : (es : List ScheduleEntry) (n : ℕ) → length es ≤ n → entry_at es n ≡ record { word = 0; cut = 0 }
entry_behind es n h = get_or_past es n (record { word = 0; cut = 0 }) h

pub entries_long : (ws : List (ℕ × ℕ)) → length (entries_of ws) ≡ length ws
entries_long [] = refl
entries_long (w ∷ ws) = ap suc (entries_long ws)

-- ---- the whole run

-- before the first step nothing is sent
pub none_sent : (es : List ScheduleEntry) (s : Stack) → Holds (plan_in s.sheet) s.machine (start (plan_in s.sheet)) → HasSent es s []
none_sent es s h = record { view = start (plan_in s.sheet); holds = h; comes = refl; on_record = tt; traced = tt }

-- as many records as commands
pub recorded_long : (ss : List SentCommand) (log : List Record) → AreRecords ss log → length log ≡ length ss
recorded_long [] [] h = refl
recorded_long [] (e ∷ log) h = absurd h
recorded_long (s ∷ ss) [] h = absurd h
recorded_long (s ∷ ss) (e ∷ log) h = ap suc (recorded_long ss log h.1)

pub few_pieces : (p : Plan) (es : List ScheduleEntry) (log : List Record) → HasQueues p → All (λ e. e.cut ≡ 0) es → AreRecords (sends_of p es) log → length log ≤ greatest_pieces p 0 p.requests
few_pieces p es log q u h =
    let a = recorded_long (sends_of p es) log h in
    let b = calm-sends p es q.on u in
    omega arith

pub plan_is : (s : Script) (t : Table) (sh : Sheet) → sh.ops ≡ s.ops → sh.shifted.items ≡ shifted_by s.faults (length s.ops) → sh.ios.items ≡ requests_from s.mode.dix s.pages s.ops → sh.table ≡ t → sh.limits ≡ s.limits → HasQueues (plan_in sh) → IsPlanFor s t (plan_in sh)
plan_is s t sh ops shifted ios table limits queues = record {
  is = ap (λ (x : List Op). plan_of x sh.shifted.items sh.ios.items sh.table sh.limits sh.devices) ops
      ∙ (ap (λ x. plan_of s.ops x sh.ios.items sh.table sh.limits sh.devices) shifted
      ∙ (ap (λ (x : List Io). plan_of s.ops (shifted_by s.faults (length s.ops)) x sh.table sh.limits sh.devices) ios
      ∙ (ap (λ (x : Table). plan_of s.ops (shifted_by s.faults (length s.ops)) (requests_from s.mode.dix s.pages s.ops) x sh.limits sh.devices) table
      ∙ ap (λ (x : Limits). plan_of s.ops (shifted_by s.faults (length s.ops)) (requests_from s.mode.dix s.pages s.ops) t x sh.devices) limits)));
  queues = queues;
}

-- the same of an equal mode and type
formed_as : (mode mode' : Mode) (ty ty' : PiType) (log log' : List Record) → mode ≡ mode' → ty ≡ ty' → log ≡ log' → Each (IsFormed mode ty) log → Each (IsFormed mode' ty') log'
formed_as mode mode' ty ty' log log' e f g h = subst (λ x. Each (IsFormed x ty') log') e (subst (λ x. Each (IsFormed mode x) log') f (subst (Each (IsFormed mode ty)) g h))

-- what a finished stack has sent, by the law
abbrev pub FewLaw : Type 0
FewLaw = (es : List ScheduleEntry) (s : Stack) (log : List Record) → IsStack s → HasSent es s log → length log ≤ blocks_of_requests (plan_in s.sheet).requests

abbrev pub AllLaw : Type 0
AllLaw = (es : List ScheduleEntry) (s : Stack) (log : List Record) (m : Setting) (n : ℕ) (opening : State) (first : ℕ) (st : Standing) (whole : List Record) → IsStack s → HasSent es s log → Walks m n opening first s st whole
    → IsFinished s → ListsNone s.replies.items → AreRecords (sends_of (plan_in s.sheet) es) log

-- from a new stack to a finished one
pub record IsWhole (s : Script) (t : Table) (begun r : Stack) (log log' more : List Record) : Type 0 where
  pub plan : IsPlanFor s t (plan_in begun.sheet)
  pub first : Holds (plan_in begun.sheet) begun.machine (start (plan_in begun.sheet))
  pub stays : StackStays begun r
  pub sent : begun.machine.steps ≡ 0 → SendsBy (entries_of s.schedule) begun r log log'
  pub records : log' ≡ log ++ more
  pub stack : IsStack r
  pub ended : IsFinished r

pub sends_for : (s : Script) (t : Table) (begun r : Stack) (log log' more : List Record) → FewLaw → AllLaw → IsWhole s t begun r log log' more → (m : Setting) (n : ℕ) (opening : State) (first : ℕ) (st : Standing) (whole : List Record) → Walks m n opening first r st whole → m.mode ≡ s.mode → m.ty ≡ t.ty → SendsFor s t more r.replies.items
sends_for s t begun r log log' more few all w m n opening first st whole walks e f =
    let es = entries_of s.schedule in
    let sent = w.sent w.first.shows.taken in
    let same : sent.more ≡ more = append_left log sent.more more (sym sent.records ∙ w.records) in
    let has : HasSent es r more = subst (HasSent es r) same (sent.on [] (none_sent es begun w.first)) in
    let plan : IsPlanFor s t (plan_in r.sheet) = subst (λ (sh : Sheet). IsPlanFor s t (plan_in sh)) (sym w.stays.sheet) w.plan in
    let each : ListsNone r.replies.items → AreRecords (sends_of (plan_in r.sheet) es) more = λ none. all es r more m n opening first st whole w.stack has walks w.ended none in
    record {
      plan = plan_in r.sheet;
      is_plan = plan;
      few = few es r more w.stack has;
      formed = formed_as (mode_of begun.adapter) s.mode begun.adapter.ty t.ty sent.more more (ap mode_of (sym w.stays.adapter) ∙ (sym walks.over.mode ∙ e)) (ap (λ x. x.ty) (sym w.stays.adapter) ∙ (sym walks.over.ty ∙ f)) same sent.formed;
      of_requests = subst (λ (log : List Record). Each (IsOfRequests (plan_in r.sheet)) log) same (subst (λ (sh : Sheet). Each (IsOfRequests (plan_in sh)) sent.more) (sym w.stays.sheet) sent.of_requests);
      came = record { view = has.view; comes = has.comes; ended = w.ended has.view has.holds; on_record = has.on_record };
      sent = each;
      pieces = λ none u. few_pieces (plan_in r.sheet) es more plan.queues u (each none);
    }
