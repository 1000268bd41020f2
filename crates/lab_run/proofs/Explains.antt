-- What `explain` with an image comes to.
use Rattle.std.proofs.Common.{ℕ, ◌≡◌, ◌≤◌, ◌⊎◌, inl, inr, ◌||◌, ltb, List, drop, Option, Some, None, Ok, Err, refl, sym, ap, subst, ◌∙◌, arith}
use Rattle.call_refusal.specs.declared.refusal.Refusal.{Refusal as Stop}
use Rattle.call_refusal.specs.declared.refusal.Refusal.TheVariants as stop
use Rattle.call_verdict.specs.Verdicts.{Cause, Done, Refused, RunsOrWants, Verdict, Written, done_status, stop_status, verdict_status}
use Rattle.call_verdict.specs.declared.status.Status.{Status}
use Rattle.call_verdict.specs.declared.status.Status.TheVariants as status
use Rattle.call_verdict.proofs.Verdicts.{done_is}
use Rattle.dix_base.specs.Stores.{StoreState}
use Rattle.dix_base.specs.Told.{Calm, Rose}
use Rattle.dix_base.proofs.Counts.{never_rose}
use Rattle.rig_discovery.specs.Openings.{HasOpened, OpenedOnce}
use Rattle.call_refusal.specs.Causes.{CauseUntold}
use Rattle.lab_run.specs.declared.command.Command.TheVariants.{Explain}
use Rattle.rig_api.specs.Head.{head_fault, head_of}
use Rattle.rig_api.specs.Log.{LogEntry}
use Rattle.rig_api.specs.Telling.{Standing}
use Rattle.rig_api.specs.State.{RigState}
use Rattle.run_words.proofs.Marking.{marked_complete, misfit_complete, refused_complete}
use Rattle.run_words.specs.Explained.{CauseNotRun, CauseUnexplained, HasExplained as HasRunExplained, HasMarked, HasMisfit, IsAtFault}
use Rattle.run_words.specs.Ledgers.{book_in}
use Rattle.run_words.specs.Lies.{Book, all_moved}
use Rattle.run_words.specs.Sites.{sites_of}
use Rattle.run_words.specs.Texts.{explained_by, explained_text}
use Rattle.run_words.specs.Unseen.{all_unseen, unseen_of}
use Rattle.run_words.specs.declared.explain.Explained.{Explained}
use Rattle.run_words.specs.declared.explain.Unexplained.{Unexplained}
use Rattle.script_text.specs.Bindings.{binding_fault}
use Rattle.script_text.specs.Language.{script_in}
use Rattle.script_text.specs.declared.script.Script.{Script}
use Rattle.run_command.specs.Texts.{has_bad}
use Rattle.run_command.specs.Verdict.{CauseRefused, CauseStopped, Facts as Call, HasRun, StoppedShort, devices_of, table_over}
use Rattle.run_command.specs.declared.verdict.Finished.{Finished}
use Rattle.call_verdict.specs.Words.{image_in}
use Rattle.volume_table.specs.Faults.{table_fault}
use Rattle.lab_run.specs.Calls.{Facts, on_rig}
use Rattle.lab_run.specs.Commands.{Came}
use Rattle.lab_run.specs.Explained.{Marked, Misfit, Ran, Told, explain_call, explain_work, is_run_bad}
use Rattle.lab_run.specs.Texts.{lab}
use Rattle.lab_run.specs.declared.refusal.Refusal.{Refusal}
use Rattle.lab_run.specs.declared.refusal.Refusal.TheVariants as refusal

-- ---- the rig is opened at most once, and its count doesn't fall

-- so it is from one view to another
abbrev Goes : List ℕ → RigState → RigState → Type 0
Goes name old new = OpenedOnce name old.standing new.standing × (old.faults ≤ new.faults)

goes_open : (name : List ℕ) (old between new : RigState) → HasOpened name old between new → Goes name old new
goes_open name old between new o =
    let a = o.kept.count in
    let b = o.count in
    (inr (ap (λ (s : Standing). s.openings) o.standing ∙ o.opened.opened.0, ap (λ (s : Standing). s.name) o.standing ∙ o.opened.opened.1), omega (arith, a, b))

goes_untold : (r : Stop) (name : List ℕ) (old new : RigState) → CauseUntold r name old new → Goes name old new
goes_untold (stop.Image f) name old new c = (inr c.0.opened, c.1.count)
goes_untold (stop.BadCapacity dev) name old new c = goes_open name old c.between new c.since
goes_untold stop.RigFault name old new c = (inr c.1, c.2.count)
goes_untold stop.Memory name old new c = (c.1, c.0.count)
goes_untold _ name old new c = absurd c

goes_short : (name : List ℕ) (old new : RigState) → StoppedShort name old new → Goes name old new
goes_short name old new (inl c) = (c.1, c.0.count)
goes_short name old new (inr c) = goes_open name old c.1.told.between new c.1.told.since

goes_stopped : (r : Stop) (script : Script) (name : List ℕ) (old new : RigState) → CauseStopped r script name old new → Goes name old new
goes_stopped (stop.Script bad) script name old new c = goes_open name old c.asked.told.between new c.asked.told.since
goes_stopped (stop.Volume entry kind) script name old new c = goes_open name old c.asked.told.between new c.asked.told.since
goes_stopped stop.Memory script name old new c = goes_short name old new c
goes_stopped r script name old new c = goes_untold r name old new c

still : (name : List ℕ) (old new : RigState) → new ≡ old → Goes name old new
still name old new e = subst (λ (v : RigState). Goes name old v) (sym e) (inl (refl, refl), omega arith)

goes_refused : (r : Stop) (f : Call) → CauseRefused r f → Goes f.name f.rig f.rig_after
goes_refused r f (inl c) = still f.name f.rig f.rig_after c.1
goes_refused r f (inr c) = goes_stopped r c.0 f.name f.rig f.rig_after c.2

goes_on_from : (name : List ℕ) (old told new : RigState) → Goes name old told → new.standing ≡ told.standing → told.faults ≤ new.faults → Goes name old new
goes_on_from name old told new g e k = let a = g.1 in (subst (λ (s : Standing). OpenedOnce name old.standing s) (sym e) g.0, omega (arith, a, k))

goes_run : (run : Finished) (script : Script) (name : List ℕ) (old new : RigState) → HasRun run script name old new → Goes name old new
goes_run run script name old new h =
    goes_on_from name old h.told new (goes_open name old h.asked.told.between h.told h.asked.told.since) h.followed.any_rig.goes.standing h.followed.any_rig.goes.faults

goes_marked : (said : List ℕ) (f : Call) → HasMarked said f → Goes f.name f.rig f.rig_after
goes_marked said f m = by_fault m.fault
  where
    by_fault : IsAtFault m.text m.bad f → Goes f.name f.rig f.rig_after
    by_fault (inl h) = still f.name f.rig f.rig_after h.rig
    by_fault (inr h) = goes_stopped (stop.Script m.bad) h.script f.name f.rig f.rig_after h.unbound

goes_misfit : (said : List ℕ) (f : Call) → HasMisfit said f → Goes f.name f.rig f.rig_after
goes_misfit said f m = goes_stopped (stop.Volume m.entry m.kind) m.script f.name f.rig f.rig_after m.bad

goes_not_run : (r : Stop) (f : Call) → CauseNotRun r f → Goes f.name f.rig f.rig_after
goes_not_run (stop.Script bad) f c = absurd c
goes_not_run (stop.Image x) f c = goes_refused (stop.Image x) f c
goes_not_run (stop.BadCapacity dev) f c = goes_refused (stop.BadCapacity dev) f c
goes_not_run (stop.Volume entry kind) f c = absurd c
goes_not_run stop.RigFault f c = goes_refused stop.RigFault f c
goes_not_run stop.Memory f c = goes_refused stop.Memory f c
goes_not_run stop.ReadFault f c = goes_refused stop.ReadFault f c

-- ---- a call

-- how many blocks of reads nobody lists, by the ledger
abbrev unseen_in : Explained → List LogEntry → ℕ
unseen_in told log = all_unseen (book_in told.ledger) (all_moved told.ledger.size log) told.run.stack.replies.items

guided_text : (told : Explained) (f : Call) (h : HasRunExplained told f) → explained_by told.guide.sites.items told.guide.entries (book_in told.ledger) (drop told.run.first f.rig_after.log) told.run.stack.replies.items ≡ explained_text h.script (drop told.run.first f.rig_after.log) told.run.stack.replies.items
guided_text told f h =
    let log = drop told.run.first f.rig_after.log in
    let replies = told.run.stack.replies.items in
    ap (λ x. explained_by x told.guide.entries (book_in told.ledger) log replies) h.explained.guided.sites ∙ ap (λ x. explained_by (sites_of h.script) x (book_in told.ledger) log replies) h.explained.guided.entries
    ∙ ap (λ x. explained_by (sites_of h.script) h.script.entries x log replies) h.explained.booked

guided_status : (told : Explained) (f : Call) (h : HasRunExplained told f) → unseen_in told (drop told.run.first f.rig_after.log) ≡ unseen_of h.script (drop told.run.first f.rig_after.log) told.run.stack.replies.items
guided_status told f h = ap (λ (b : Book). all_unseen b (all_moved b.size (drop told.run.first f.rig_after.log)) told.run.stack.replies.items) h.explained.booked

pub told : (words : List (List ℕ)) (left left' : Option (List ℕ)) (reads reads' : ℕ) (rig rig' : RigState) (first second : StoreState) (x : Explained) (taken taken' : Option (List ℕ)) (o n : ℕ) (s : Status) →
    reads ≤ reads' → HasRunExplained x (explain_call (on_rig words left left' reads reads' rig rig' first second)) →
    Written (done_status (has_bad x.run.stack.replies.items || ltb 0 (unseen_in x (drop x.run.first rig'.log)))) (explained_by x.guide.sites.items x.guide.entries (book_in x.ledger) (drop x.run.first rig'.log) x.run.stack.replies.items) taken taken' o n s →
    Came (Some Explain) (Ok s) (on_rig words left left' reads reads' rig rig' first second) taken taken' o n
told words left left' reads reads' rig rig' first second x taken taken' o n s k h t =
    let f = on_rig words left left' reads reads' rig rig' first second in
    let log = drop x.run.first rig'.log in
    let replies = x.run.stack.replies.items in
    let bad = is_run_bad h.script log replies in
    let same = subst (λ (z : ℕ). Written (done_status (has_bad replies || ltb 0 z)) (explained_by x.guide.sites.items x.guide.entries (book_in x.ledger) log replies) taken taken' o n s) (guided_status x (explain_call f) h) t in
    record {
      comes = (
        Ran h.script x.run log,
        record { read = h.read; ran = h.explained.ran; log_is = refl },
        subst (λ (z : List ℕ). Written (done_status bad) z taken taken' o n s) (guided_text x (explain_call f) h) same,
      );
      kept = record { source = k; rig = goes_run x.run h.script (image_in words) rig rig' h.explained.ran; first = refl; second = refl };
    }

pub marked : (words : List (List ℕ)) (left left' : Option (List ℕ)) (reads reads' : ℕ) (rig rig' : RigState) (first second : StoreState) (said line : List ℕ) (taken taken' : Option (List ℕ)) (o n : ℕ) (s : Status) →
    reads ≤ reads' → HasMarked said (explain_call (on_rig words left left' reads reads' rig rig' first second)) → line ≡ said → Written status.Input line taken taken' o n s → Came (Some Explain) (Ok s) (on_rig words left left' reads reads' rig rig' first second) taken taken' o n
marked words left left' reads reads' rig rig' first second said line taken taken' o n s k m l t =
    let f = on_rig words left left' reads reads' rig rig' first second in
    record {
      comes = (Marked said, m, subst (λ (x : List ℕ). Written status.Input x taken taken' o n s) l t);
      kept = record { source = k; rig = goes_marked said (explain_call f) m; first = refl; second = refl };
    }

pub misfit : (words : List (List ℕ)) (left left' : Option (List ℕ)) (reads reads' : ℕ) (rig rig' : RigState) (first second : StoreState) (said line : List ℕ) (taken taken' : Option (List ℕ)) (o n : ℕ) (s : Status) →
    reads ≤ reads' → HasMisfit said (explain_call (on_rig words left left' reads reads' rig rig' first second)) → line ≡ said → Written status.Image line taken taken' o n s → Came (Some Explain) (Ok s) (on_rig words left left' reads reads' rig rig' first second) taken taken' o n
misfit words left left' reads reads' rig rig' first second said line taken taken' o n s k m l t =
    let f = on_rig words left left' reads reads' rig rig' first second in
    record {
      comes = (Misfit said, m, subst (λ (x : List ℕ). Written status.Image x taken taken' o n s) l t);
      kept = record { source = k; rig = goes_misfit said (explain_call f) m; first = refl; second = refl };
    }

pub stopped : (words : List (List ℕ)) (left left' : Option (List ℕ)) (reads reads' : ℕ) (rig rig' : RigState) (first second : StoreState) (r : Stop) (taken : Option (List ℕ)) (o : ℕ) →
    reads ≤ reads' → CauseNotRun r (explain_call (on_rig words left left' reads reads' rig rig' first second)) → Came (Some Explain) (Err (refusal.Stopped r)) (on_rig words left left' reads reads' rig rig' first second) taken taken o o
stopped words left left' reads reads' rig rig' first second r taken o k c =
    let f = on_rig words left left' reads reads' rig rig' first second in
    record { comes = (c, refl, refl); kept = record { source = k; rig = goes_not_run r (explain_call f) c; first = refl; second = refl } }

pub as_cause : (u v : Unexplained) (f : Call) → u ≡ v → CauseUnexplained u f → CauseUnexplained v f
as_cause u v f e c = subst (λ (x : Unexplained). CauseUnexplained x f) e c

-- ---- where nothing is at fault

-- the text, the image and the script are right
pub record IsRightRun (f : Facts) : Type 0 where
  pub text : List ℕ
  pub image : List ℕ
  pub script : Script
  pub left : f.left ≡ Some text
  pub reads : script_in text ≡ Ok script
  pub told : f.rig.image ≡ Some image
  pub head : head_fault (head_of image) ≡ None
  pub table : table_fault script.entries (devices_of image) script.block ≡ None
  pub bound : binding_fault script (table_over script.entries (devices_of image)) (devices_of image) ≡ None
  pub source : Calm f.reads f.reads_after
  pub rig : Calm f.rig.faults f.rig_after.faults

refused_rig : (f : Call) → CauseRefused stop.RigFault f → Rose f.rig.faults f.rig_after.faults
refused_rig f (inl c) = absurd c.0
refused_rig f (inr c) = c.2.0

-- the rig failed only where its count rose
rig_rose : (f : Facts) (r : Stop) → r ≡ stop.RigFault → CauseNotRun r (explain_call f) → Rose f.rig.faults f.rig_after.faults
rig_rose f r e c = refused_rig (explain_call f) (subst (λ (x : Stop). CauseNotRun x (explain_call f)) e c)

for_memory : (r : Stop) (f : Facts) → IsRightRun f → CauseNotRun r (explain_call f) → (r ≡ stop.Memory) ⊎ (r ≡ stop.RigFault) → stop_status r ≡ status.Memory
for_memory r f i c (inl e) = ap stop_status e
for_memory r f i c (inr e) = absurd (never_rose f.rig.faults f.rig_after.faults i.rig (rig_rose f r e c))

stops_outside : (r : Stop) (f : Facts) → IsRightRun f → CauseNotRun r (explain_call f) → (r ≡ stop.Memory) ⊎ (r ≡ stop.RigFault)
stops_outside r f i c = refused_complete r (explain_call f) c i.text i.image i.script i.left i.reads i.told i.head i.table i.bound i.source

right : (f : Facts) (v : Verdict Refusal Told) → Cause lab explain_work v f → IsRightRun f → RunsOrWants (verdict_status lab explain_work v)
right f (Refused (refusal.Stopped r)) c i = inr (for_memory r f i c (stops_outside r f i c))
right f (Refused _) c i = absurd c
right f (Done (Ran script run log)) c i = inl (done_is (is_run_bad script log run.stack.replies.items))
right f (Done (Misfit said)) c i = absurd (misfit_complete said (explain_call f) c i.text i.image i.script i.left i.reads i.told i.head i.table i.bound i.source)
right f (Done (Marked said)) c i = absurd (marked_complete said (explain_call f) c i.text i.image i.script i.left i.reads i.told i.head i.table i.bound i.source)

pub explains : (f : Facts) (v : Verdict Refusal Told) → Cause lab explain_work v f → explain_work.Answers f (verdict_status lab explain_work v)
explains f v c = λ text image script l s i hd tb bd cr cg. right f v c (record { text = text; image = image; script = script; left = l; reads = s; told = i; head = hd; table = tb; bound = bd; source = cr; rig = cg })
