-- The check of a dump, and what it answers to one that is told.
use Rattle.std.proofs.Common.{ℕ, ◌≡◌, ◌<◌, ◌≤◌, ltb, if◌then◌else◌, List, ◌++◌, length, Option, Some, None, Result, Ok, Err, inl, inr, refl, ap, ◌∙◌, arith}
use Rattle.call_refusal.specs.declared.refusal.Refusal.TheVariants as stop
use Rattle.call_verdict.specs.Verdicts.{Cause, Done, IsPassedOn, Refused, Verdict, done_status, verdict_status}
use Rattle.call_verdict.specs.declared.status.Status.TheVariants as status
use Rattle.dix_base.specs.Stores.{StoreState}
use Rattle.dix_base.specs.Told.{Calm}
use Rattle.dump_check.specs.declared.form.Dump.{Dump}
use Rattle.dump_check.specs.declared.tally.DumpTally.{DumpTally}
use Rattle.dump_check.specs.declared.walking.CheckFault.TheVariants as fault
use Rattle.dump_check.specs.declared.walking.CheckFault.{CheckFault}
use Rattle.dump_check.specs.declared.walking.Checked.{Checked}
use Rattle.dump_check.specs.declared.walking.TheConstants.{MOST_BLOCKS}
use Rattle.dump_check.specs.Lines.{rest_of, tally_of}
use Rattle.dump_check.specs.Walks.{CheckEnds}
use Rattle.dump_check.proofs.Passes.{few_blocks}
use Rattle.rig_api.specs.State.{RigState}
use Rattle.lab_run.specs.declared.check_words.CheckWords.{CheckWords}
use Rattle.lab_run.specs.declared.command.Command.TheVariants.{Check}
use Rattle.lab_run.specs.declared.refusal.Refusal.{Refusal}
use Rattle.lab_run.specs.declared.refusal.Refusal.TheVariants as refusal
use Rattle.lab_run.specs.Calls.{Facts, on_input}
use Rattle.lab_run.specs.Checking.{CameBy, CheckedDump, WasChecked, check_work, checked_status, dump_of, ended_status, status_by, whole_status}
use Rattle.lab_run.specs.Commands.{Came}
use Rattle.lab_run.specs.Texts.{lab, no_memory}
use Rattle.lab_run.proofs.Judges.{all_taken}
use Rattle.dix_base.proofs.Counts.{never_rose}

-- a dump that was checked, or broke off
pub came_checked : (words : List (List ℕ)) (w : CheckWords) (d : Dump) (h : StoreState) (left left' : Option (List ℕ)) (reads reads' : ℕ) (rig : RigState) (second : StoreState) (taken taken' : Option (List ℕ)) (o n : ℕ) (r : Result Checked CheckFault) →
    dump_of w ≡ Some d → reads ≤ reads' → CheckEnds r d reads reads' left left' o n taken taken' → Came (Some (Check w)) (Ok (checked_status r)) (on_input words h h left left' reads reads' rig second) taken taken' o n
came_checked words w d h left left' reads reads' rig second taken taken' o n (Ok c) e k x = record {
  comes = (record { dump = d; bytes = x.0.bytes; ended = Ok c }, (e, (x.0.took, x.0.end, x.0.tally, x.0.rest)), inl (refl, x.0.written, x.2));
  kept = record { source = k; rig = refl; first = refl; second = refl };
}
came_checked words w d h left left' reads reads' rig second taken taken' o n (Err fault.Source) e k x = record {
  comes = (record { dump = d; bytes = x.1.bytes; ended = Err fault.Source }, (e, (x.0, (x.1.more, x.1.took))), inl (refl, x.1.written, x.2));
  kept = record { source = k; rig = refl; first = refl; second = refl };
}
came_checked words w d h left left' reads reads' rig second taken taken' o n (Err fault.Sink) e k x = record {
  comes = (record { dump = d; bytes = x.1.came ++ x.1.more; ended = Err fault.Sink }, (e, (x.1.rest, x.1.held, x.1.end)), inr (refl, x.0, x.1.written));
  kept = record { source = k; rig = refl; first = refl; second = refl };
}
came_checked words w d h left left' reads reads' rig second taken taken' o n (Err fault.Endless) e k x = record {
  comes = (record { dump = d; bytes = x.0; ended = Err fault.Endless }, (e, (x.1, x.2)), inl (refl, x.3, x.5));
  kept = record { source = k; rig = refl; first = refl; second = refl };
}

-- words that don't fit one another
pub unfit_words : (words : List (List ℕ)) (w : CheckWords) (h : StoreState) (left : Option (List ℕ)) (reads : ℕ) (rig : RigState) (second : StoreState) (taken : Option (List ℕ)) (o : ℕ) → dump_of w ≡ None →
    Came (Some (Check w)) (Err refusal.Words) (on_input words h h left left reads reads rig second) taken taken o o
unfit_words words w h left reads rig second taken o e = record { comes = (e, refl, refl); kept = record { source = omega arith; rig = refl; first = refl; second = refl } }

-- want of memory
pub no_room : (words : List (List ℕ)) (w : CheckWords) (d : Dump) (h : StoreState) (left : Option (List ℕ)) (reads : ℕ) (rig : RigState) (second : StoreState) (r : Refusal) (taken : Option (List ℕ)) (o : ℕ) → r ≡ no_memory → dump_of w ≡ Some d →
    Came (Some (Check w)) (Err r) (on_input words h h left left reads reads rig second) taken taken o o
no_room words w d h left reads rig second r taken o m e = rw m (record { comes = ((d, e), refl, refl); kept = record { source = omega arith; rig = refl; first = refl; second = refl } })

-- the sink passed on all that it took, where it didn't fail
pub handed_on : (r : Result Checked CheckFault) (passed taken : Option (List ℕ)) → ((r ≡ Err fault.Sink → ⊥) → passed ≡ taken) → IsPassedOn (checked_status r) passed taken
handed_on (Ok c) passed taken f = λ n. f (λ e. absurd (cc))
handed_on (Err fault.Source) passed taken f = λ n. f (λ e. absurd (cc))
handed_on (Err fault.Sink) passed taken f = λ n. absurd (n refl)
handed_on (Err fault.Endless) passed taken f = λ n. f (λ e. absurd (cc))

-- ---- a dump that is told

none_some : {d : Dump} (x : Option Dump) → x ≡ None → x ≡ Some d → ⊥
none_some x n s = absurd (cc)

same_dump : (x : Option Dump) (d e : Dump) → x ≡ Some d → x ≡ Some e → d ≡ e
same_dump x d e p q = cc

by_whole : (d : Dump) (c : Checked) (bytes all : List ℕ) → bytes ≡ all → c.tally ≡ tally_of d.form bytes → c.rest ≡ rest_of d.form bytes → whole_status c ≡ status_by d all
by_whole d c bytes all e t r =
    ap (λ (u : DumpTally). if ltb 0 c.rest then status.Input else done_status (ltb 0 u.bad)) t ∙ ap (λ (n : ℕ). if ltb 0 n then status.Input else done_status (ltb 0 (tally_of d.form bytes).bad)) r ∙ ap (status_by d) e

told_by : (f : Facts) (r : Result Checked CheckFault) (d : Dump) (bytes all : List ℕ) → CameBy r d bytes f → f.left ≡ Some all → length all < MOST_BLOCKS → Calm f.reads f.reads_after → ended_status r d bytes ≡ status_by d all
told_by f (Ok c) d bytes all x told few calm = by_whole d c bytes all (all_taken bytes all f.left f.left_after told x.0 x.1) x.2 x.3
told_by f (Err fault.Source) d bytes all x told few calm = absurd (never_rose f.reads f.reads_after calm x.0)
told_by f (Err fault.Sink) d bytes all x told few calm = ap (status_by d) (all_taken bytes all f.left x.0 told x.1 x.2)
told_by f (Err fault.Endless) d bytes all x told few calm = absurd (few_blocks d.form bytes all f.left f.left_after told x.0 few x.1)

told_status : (w : CheckWords) (f : Facts) (x : CheckedDump) (d : Dump) (all : List ℕ) → WasChecked w x f → dump_of w ≡ Some d → f.left ≡ Some all → length all < MOST_BLOCKS → Calm f.reads f.reads_after → ended_status x.ended x.dump x.bytes ≡ status_by d all
told_status w f x d all was named told few calm =
    told_by f x.ended x.dump x.bytes all was.1 told few calm ∙ ap (λ (y : Dump). status_by y all) (same_dump (dump_of w) x.dump d was.0 named)

pub checks : (w : CheckWords) (f : Facts) (v : Verdict Refusal CheckedDump) → Cause lab (check_work w) v f → (check_work w).Answers f (verdict_status lab (check_work w) v)
checks w f (Refused refusal.Words) c = record { words = λ n. refl; dump = λ d all named told few calm. absurd (none_some (dump_of w) c named) }
checks w f (Refused (refusal.Stopped stop.Memory)) c = record { words = λ n. absurd (none_some (dump_of w) n c.1); dump = λ d all named told few calm. inr refl }
checks w f (Refused _) c = absurd c
checks w f (Done x) c = record { words = λ n. absurd (none_some (dump_of w) n c.0); dump = λ d all named told few calm. inl (told_status w f x d all c named told few calm) }
