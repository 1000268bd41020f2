-- What a call that wants the commands of a text comes to.
use Rattle.std.proofs.Common.{ℕ, suc, ◌≡◌, inl, inr, ◌+◌, ◌≤◌, List, [], ◌∷◌, ◌++◌, length, drop, Result, Ok, Err, refl, sym, ap, subst, ◌∙◌, arith, append_assoc, length-append}
use Rattle.std.specs.Prelude.{MatchResult}
use Rattle.std.proofs.Math.Seq.{drop-append_seam}
use Rattle.rig_api.specs.Log.{LogEntry}
use Rattle.rig_api.specs.Telling.{Standing}
use Rattle.rig_api.specs.State.{RigState}
use Rattle.rig_discovery.specs.Discovery.{looks}
use Rattle.script_text.specs.declared.script.Script.{Script}
use Rattle.run_command.specs.Verdict.{CauseStopped, Facts, HasRun}
use Rattle.call_refusal.specs.declared.refusal.Refusal.{Refusal}
use Rattle.run_command.specs.declared.verdict.Finished.{Finished}
use Rattle.vector_lines.specs.declared.line.VectorLine.{VectorLine}
use Rattle.vector_runs.specs.Done.{AreRecords}
use Rattle.vector_runs.specs.Played.{AreLogged, CauseNotPlayed, HasCome, HasPlayed, ListPlayed, ScriptPlayed, first_of}
use Rattle.vector_runs.specs.Answered.{CauseUnanswered}
use Rattle.vector_runs.specs.Taken.{CauseNotTaken, HoldsList, HoldsScript}
use Rattle.vector_runs.specs.declared.playing.Played.{Played}
use Rattle.vector_runs.specs.declared.playing.Played.TheVariants as played
use Rattle.vector_runs.proofs.Opens.{played_goes, refused_goes}
use Rattle.vector_runs.proofs.Whole.{list_complete, script_complete}

-- each line has one record
same_length : (s : Standing) (ls : List VectorLine) (es : List LogEntry) → AreRecords s ls es → length es ≡ length ls
same_length s [] [] d = refl
same_length s [] (e ∷ es) d = absurd d
same_length s (l ∷ ls) [] d = absurd d
same_length s (l ∷ ls) (e ∷ es) d = ap suc (same_length s ls es d.1)

-- the records behind those of before
rest_is : (old new more : List LogEntry) (first : ℕ) → first ≡ length old → new ≡ old ++ more → new ≡ old ++ drop first new
rest_is old new more first e h = h ∙ ap (λ v. old ++ v) (sym (ap (λ k. drop k new) e ∙ ap (drop (length old)) h ∙ drop-append_seam old more))

enough : (old new more : List LogEntry) (first n : ℕ) → first ≡ length old → new ≡ old ++ more → length more ≡ n → first + n ≤ length new
enough old new more first n e h m = let l = ap length h ∙ length-append old more in omega (arith, e, m, l)

-- those of a run
abbrev run_more : (run : Finished) (script : Script) (name : List ℕ) (old new : RigState) → HasRun run script name old new → List LogEntry
run_more run script name old new r = looks r.asked.told.between.standing 0 r.asked.told.found.answers ++ r.followed.any_rig.goes.more

run_log : (run : Finished) (script : Script) (name : List ℕ) (old new : RigState) (r : HasRun run script name old new) → new.log ≡ old.log ++ run_more run script name old new r
run_log run script name old new r =
    let told = r.asked.told in
    let asks : List LogEntry = looks told.between.standing 0 told.found.answers in
    let asked : r.told.log ≡ old.log ++ asks = told.found.log ∙ ap (λ v. v ++ asks) told.since.kept.log in
    r.followed.any_rig.goes.records ∙ ap (λ v. v ++ r.followed.any_rig.goes.more) asked ∙ append_assoc old.log asks r.followed.any_rig.goes.more

logged : (p : Played) (f : Facts) → HasPlayed p f → AreLogged p f.rig_after.log
logged (played.Listed lines first) f h =
    let done = h.answered.done in
    enough f.rig.log f.rig_after.log done.entries first (length lines.items) h.first_is (done.log ∙ ap (λ v. v ++ done.entries) h.answered.ready.log) (same_length h.answered.between.standing lines.items done.entries done.records)
logged (played.Ran run) f h =
    let l = enough f.rig.log f.rig_after.log (run_more run h.0 f.name f.rig f.rig_after h.2) run.first (length (run_more run h.0 f.name f.rig f.rig_after h.2)) h.2.first (run_log run h.0 f.name f.rig f.rig_after h.2) refl in
    omega (arith, l)

since : (p : Played) (f : Facts) → HasPlayed p f → f.rig_after.log ≡ f.rig.log ++ drop (first_of p) f.rig_after.log
since (played.Listed lines first) f h = rest_is f.rig.log f.rig_after.log h.answered.done.entries first h.first_is (h.answered.done.log ∙ ap (λ v. v ++ h.answered.done.entries) h.answered.ready.log)
since (played.Ran run) f h = rest_is f.rig.log f.rig_after.log (run_more run h.0 f.name f.rig f.rig_after h.2) run.first h.2.first (run_log run h.0 f.name f.rig f.rig_after h.2)

come : (r : Result Played Refusal) (f : Facts) → f.reads ≤ f.reads_after → MatchResult r (λ p. HasPlayed p f) (λ x. CauseNotPlayed x f) → HasCome r f
come (Ok p) f k h = record {
  verdict = h;
  logged = logged p f h;
  since = since p f h;
  opens = (played_goes p f h).0;
  count = (played_goes p f h).1;
  reads = k;
  list_complete = tt;
  script_complete = tt;
}
come (Err r) f k h = record {
  verdict = h;
  logged = tt;
  since = tt;
  opens = (refused_goes r f h).0;
  count = (refused_goes r f h).1;
  reads = k;
  list_complete = list_complete r f h;
  script_complete = script_complete r f h;
}

listed : (r : Result Played Refusal) (f : Facts) (lines : List VectorLine) → HoldsList lines f.left f.left_after f.reads f.reads_after → MatchResult r (λ p. ListPlayed p lines f.name f.rig f.rig_after) (λ x. CauseUnanswered x f.name lines f.rig f.rig_after) →
    MatchResult r (λ p. HasPlayed p f) (λ x. CauseNotPlayed x f)
listed (Ok (played.Listed ls first)) f lines held h =
    record { held = subst (λ (v : List VectorLine). HoldsList v f.left f.left_after f.reads f.reads_after) (sym h.0) held; answered = rw h.0 h.1; first_is = h.2 }
listed (Ok (played.Ran run)) f lines held h = absurd h
listed (Err r) f lines held h = inr (inr (lines, held, h))

ran : (r : Result Played Refusal) (f : Facts) (script : Script) → HoldsScript script f.left f.left_after f.reads f.reads_after → MatchResult r (λ p. ScriptPlayed p script f.name f.rig f.rig_after) (λ x. CauseStopped x script f.name f.rig f.rig_after) →
    MatchResult r (λ p. HasPlayed p f) (λ x. CauseNotPlayed x f)
ran (Ok (played.Listed ls first)) f script held h = absurd h
ran (Ok (played.Ran run)) f script held h = (script, held, h)
ran (Err r) f script held h = inr (inl (script, held, h))

-- ---- the call

pub come_listed : (r : Result Played Refusal) (f : Facts) (lines : List VectorLine) → f.reads ≤ f.reads_after → HoldsList lines f.left f.left_after f.reads f.reads_after → MatchResult r (λ p. ListPlayed p lines f.name f.rig f.rig_after) (λ x. CauseUnanswered x f.name lines f.rig f.rig_after) → HasCome r f
come_listed r f lines k held h = come r f k (listed r f lines held h)

pub come_ran : (r : Result Played Refusal) (f : Facts) (script : Script) → f.reads ≤ f.reads_after → HoldsScript script f.left f.left_after f.reads f.reads_after → MatchResult r (λ p. ScriptPlayed p script f.name f.rig f.rig_after) (λ x. CauseStopped x script f.name f.rig f.rig_after) → HasCome r f
come_ran r f script k held h = come r f k (ran r f script held h)

pub come_untaken : (r : Refusal) (f : Facts) → f.reads ≤ f.reads_after → CauseNotTaken r f.left f.left_after f.reads f.reads_after → f.rig_after ≡ f.rig → HasCome (Err r) f
come_untaken r f k h e = come (Err r) f k (inl (h, e))
