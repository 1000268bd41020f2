-- The vectors of a run, done again as a list.
use Rattle.std.proofs.Common.{◌≡◌, ℕ, ◌*◌, ◌≤◌, if◌then◌else◌, List, [], ◌∷◌, ◌++◌, length, drop, take, replicate, Some, None, refl, sym, ap, subst, ◌∙◌, append_assoc, arith}
use Rattle.std.specs.Prelude.{IfOk, min, slice_index_or, Result, Ok, Err}
use Rattle.std.specs.List.{AllByRecursion as Each}
use Rattle.std.proofs.lemmas.List.{take_all}
use Rattle.std.proofs.Math.Seq.{drop-append_seam}
use Rattle.dix_base.specs.Told.{Calm}
use Rattle.cdb_codec.specs.Decoded.{decoded}
use Rattle.cdb_codec.specs.declared.command.Cdb.{Cdb}
use Rattle.cdb_codec.specs.declared.command.CdbFault.{CdbFault}
use Rattle.rig_api.specs.Frames.{joined, sent_size}
use Rattle.rig_api.specs.Image.{units_in}
use Rattle.rig_api.specs.Requests.{request_of}
use Rattle.rig_api.specs.declared.request.Request.{Request}
use Rattle.rig_api.specs.declared.request.Request.TheVariants.{Read, ReadCapacity, Verify, Write}
use Rattle.rig_api.specs.declared.units.UnitSpec.{UnitSpec}
use Rattle.rig_api.specs.Target.{Answer, Stored}
use Rattle.rig_api.specs.Head.{IsHeadOf, head_of, units_of}
use Rattle.rig_api.specs.Log.{LogEntry, entry_of, moved_by, moved_of, moved_under}
use Rattle.rig_api.specs.State.{RigState}
use Rattle.rig_api.specs.Telling.{Standing, answer_of, at_front, no_spec, spec_at, specs_of, units_told, with_blocks}
use Rattle.record_laws.specs.Answered.{Answers, AreAnswersTo, FramesBy, FramesUnder, IsAnswerTo, answer_with, room_of}
use Rattle.record_laws.proofs.Going.{answers_join}
use Rattle.script_laws.proofs.Keeping.{read_keeps}
use Rattle.image_laws.proofs.Passed.{known_from}
use Rattle.stack_core.specs.Mediums.{unscheduled_mediums}
use Rattle.stack_core.proofs.NoMedium.{none_named}
use Rattle.script_text.specs.declared.script.Script.{Script}
use Rattle.dix_base.specs.Reading.{most_bytes}
use Rattle.image_laws.specs.Passed.{Facts, HasRun, Finished}
use Rattle.vector_lines.specs.Printed.{is_sender, out_of, sends}
use Rattle.vector_lines.specs.Texts.{list_in}
use Rattle.script_text.specs.declared.fault.ScriptFault.{ScriptFault}
use Rattle.vector_lines.specs.declared.line.VectorLine.{VectorLine}
use Rattle.vector_runs.specs.Answered.{HasAnswered}
use Rattle.vector_runs.specs.Done.{answers_over, units_over, units_to}
use Rattle.vector_runs.specs.ListText.{list_text}
use Rattle.vector_runs.specs.RecordText.{vectors_text}
use Rattle.vector_runs.specs.Taken.{HoldsScript}
use Rattle.lab_laws.specs.Again.{AreAnswered, IsDoneAgain, ListAgain, RunAgain, TextAgain, answer_for, lines_of, room_for}
use Rattle.lab_laws.specs.Passing.{AreDone, IsNotCut}
use Rattle.lab_laws.proofs.Reading.{text_reads}
use Rattle.lab_laws.proofs.Repeats.{same_again}
use Rattle.lab_laws.proofs.Uncut.{no_faults, played_whole, vectors_pass}

-- ---- a record that is an answer, and whose write isn't cut

-- The moved bytes of a write are then all that was sent.
request_moved : (k size : ℕ) (q : Request) (e : LogEntry) (out into : List ℕ) → FramesBy size q out → e.moved ≡ moved_by size q e.what.outcome.done out into → AreDone k q e → (if sends q then e.moved else []) ≡ out
request_moved k size (Read c) e out into f w h = sym f
request_moved k size (Verify c) e out into f w h = sym f
request_moved k size (ReadCapacity len) e out into f w h = sym f
request_moved k size (Write c) e out into f w h =
    let d = h.0 in
    let all : min e.what.outcome.done c.n ≡ c.n = omega (arith, d) in
    let n : min e.what.outcome.done c.n * sent_size c.protect size ≡ length out = ap (λ m. m * sent_size c.protect size) all ∙ sym f in
    w ∙ ap (λ m. take m out) n ∙ take_all (length out) out (omega arith)

decoded_moved : (k size : ℕ) (d : Result Cdb CdbFault) (e : LogEntry) (out into : List ℕ) → FramesUnder size d out → e.moved ≡ moved_under size d e.what.outcome.done out into → IfOk d (λ cdb. AreDone k (request_of cdb) e) → (if is_sender d then e.moved else []) ≡ out
decoded_moved k size (Ok cdb) e out into f w h = request_moved k size (request_of cdb) e out into f w h
decoded_moved k size (Err fault) e out into f w h = sym f

module _ (s : Standing) (k : ℕ) where
  module _ (us : List Stored) (e : LogEntry) (a : IsAnswerTo s us e) (whole : IsNotCut k e) where
    abbrev size : ℕ
    size = (spec_at s e.what.dev).size

    abbrev zeros : List ℕ
    zeros = replicate (room_for s e) 0

    abbrev by : List ℕ → Answer
    by out = answer_of us [] e.what.dev e.what.cdb a.labels out (room_for s e) None

    same : out_of e.what.cdb e.moved ≡ a.out
    same = decoded_moved k size (decoded e.what.cdb) e a.out (at_front (joined (by a.out).sent) zeros) a.frames a.moved whole

    is_answered : IsDoneAgain s us e
    is_answered = record {
      labels = a.labels;
      outcome = a.outcome ∙ ap (λ ys. record { done = (by ys).done; sense = (by ys).sense }) (sym same);
      moved = a.moved ∙ ap (λ ys. moved_of size e.what.cdb e.what.outcome ys (at_front (joined (by ys).sent) zeros)) (sym same);
    }

    next_units : with_blocks us e.what.dev (answer_with s us a.labels a.out e).blocks ≡ with_blocks us e.what.dev (answer_for s us a.labels e).blocks
    next_units = ap (λ ys. with_blocks us e.what.dev (by ys).blocks) (sym same)

  all_answered : (us left : List Stored) (es : List LogEntry) → AreAnswersTo s us es left → Each (IsNotCut k) es → AreAnswered s us es left
  unfolding is_answered
  all_answered us left [] h w = h
  all_answered us left (e ∷ es) (a, h) w =
      (is_answered us e a w.0, all_answered (with_blocks us e.what.dev (answer_for s us a.labels e).blocks) left es (subst (λ ws. AreAnswersTo s ws es left) (next_units us e a w.0) h) w.1)

-- ---- the records of a run

module _ (run : Finished) (f : Facts) (image : List ℕ) (told_is : f.rig.image ≡ Some image) (calm : Calm f.rig.faults f.rig_after.faults) (script : Script) (held : HoldsScript script f.left f.left_after f.reads f.reads_after) (h : HasRun run script f.name f.rig f.rig_after) where
  abbrev s : Standing
  s = f.rig_after.standing

  abbrev us : List Stored
  us = units_in (specs_of s) image

  abbrev records : List LogEntry
  records = drop run.first f.rig_after.log

  abbrev lines : List VectorLine
  lines = lines_of 2 records

  abbrev between : RigState
  between = h.asked.told.between

  same_told : s ≡ h.told.standing
  same_told = h.followed.any_rig.goes.standing

  same_between : s ≡ between.standing
  same_between = same_told ∙ h.asked.told.since.standing

  between_is : between.image ≡ Some image
  between_is = h.asked.told.since.kept.image ∙ told_is

  units_are : between.units ≡ Some us
  units_are = h.asked.told.since.laid ∙ (ap (units_told between.standing) between_is ∙ ap (λ (st : Standing). Some (units_in (specs_of st) image)) (sym same_between))

  looks_answer : Answers us between h.told
  looks_answer = h.asked.told.answered us units_are

  calm_told : Calm h.told.faults f.rig_after.faults
  calm_told =
      let a = h.asked.told.since.kept.count in
      let b = h.asked.told.since.count in
      let c = calm.0 in
      let d = calm.1 in
      (omega (arith, a, b, c), d)

  no_lines : script.faults ≡ []
  no_lines = no_faults script.lines script.faults script.ops (read_keeps held.text script held.reads).lined held.plays

  steps_answer : (left : List Stored) × (f.rig_after.units ≡ Some left) × AreAnswersTo h.told.standing looks_answer.left h.followed.any_rig.goes.more left
  steps_answer =
      let known = known_from h.told f.rig_after h.followed.any_rig.tells_blocks looks_answer.left looks_answer.units in
      let none = none_named (unscheduled_mediums script.faults run.stack.replies.items) h.told.faults f.rig_after.faults h.followed.any_rig.medium calm_told in
      (known.after, known.ended, (h.followed.intact known none).answered no_lines (played_whole script.lines script.faults script.ops no_lines (read_keeps held.text script held.reads).lined held.plays) calm_told)

  abbrev left : List Stored
  left = steps_answer.0

  records_are : records ≡ looks_answer.records ++ h.followed.any_rig.goes.more
  records_are =
      let first = looks_answer.records in
      let more = h.followed.any_rig.goes.more in
      let log : f.rig_after.log ≡ f.rig.log ++ (first ++ more) =
      h.followed.any_rig.goes.records ∙ ap (λ l. l ++ more) (looks_answer.log ∙ ap (λ l. l ++ first) h.asked.told.since.kept.log) ∙ append_assoc f.rig.log first more in
      ap (λ n. drop n f.rig_after.log) h.first ∙ ap (drop (length f.rig.log)) log ∙ drop-append_seam f.rig.log (first ++ more)

  answered : AreAnswersTo s us records left
  answered =
      subst (λ es. AreAnswersTo s us es left) (sym records_are)
      (answers_join s us looks_answer.left left looks_answer.records h.followed.any_rig.goes.more
      (subst (λ st. AreAnswersTo st us looks_answer.records looks_answer.left) (sym same_between) looks_answer.answered)
      (subst (λ st. AreAnswersTo st looks_answer.left h.followed.any_rig.goes.more left) (sym same_told) steps_answer.2))

  again : (list_text lines (answers_over s us lines) ≡ vectors_text records) × (units_over s us lines ≡ left)
  again = same_again s us left records (all_answered s script.block us left records answered (vectors_pass run f image told_is calm (script, held, h)))

  ran : (list_text lines (answers_over s us lines) ≡ vectors_text records) × (f.rig_after.units ≡ Some (units_over s us lines))
  ran = (again.0, steps_answer.1 ∙ ap (λ (v : List Stored). Some v) (sym again.1))

  -- the units of a head are those of its image
  specs_are : specs_of s ≡ units_of (head_of image)
  specs_are =
      ap specs_of same_told ∙ (take_all h.told.standing.devices (units_of h.told.standing.head) (let d = h.asked.all in omega (arith, d))
      ∙ (ap (λ (st : Standing). units_of st.head) h.asked.told.since.standing ∙ ap units_of (subst (IsHeadOf between.standing.head) between_is h.asked.told.since.opened.head)))

pub run_again : RunAgain
run_again run f image told_is calm (script, held, h) = ran run f image told_is calm script held h

-- ---- the list done by a call

-- a list's answers hang on the units that are the devices, not on names and openings
over_same : (t s : Standing) (units : List Stored) (ls : List VectorLine) → specs_of t ≡ specs_of s → (answers_over t units ls ≡ answers_over s units ls) × (units_over t units ls ≡ units_over s units ls)
over_same t s units [] e = (refl, refl)
over_same t s units (l ∷ ls) e =
    let z : (spec_at t l.dev).size ≡ (spec_at s l.dev).size = ap (λ (specs : List UnitSpec). (slice_index_or specs l.dev no_spec).size) e in
    let by : (k : ℕ) → Answer = λ k. answer_of units [] l.dev l.cdb [] l.out (room_of k l.cdb) None in
    let one : (k : ℕ) → LogEntry = λ k. entry_of k l.dev l.cdb [] (record { done = (by k).done; sense = (by k).sense }) l.out (at_front (joined (by k).sent) (replicate (room_of k l.cdb) 0)) in
    let next : units_to t units l ≡ units_to s units l = ap (λ k. with_blocks units l.dev (by k).blocks) z in
    let rest = over_same t s (units_to t units l) ls e in (
      ap (λ k. one k ∷ answers_over t (units_to t units l) ls) z ∙ ap (λ es. one (spec_at s l.dev).size ∷ es) (rest.0 ∙ ap (λ ws. answers_over s ws ls) next),
      rest.1 ∙ ap (λ ws. units_over s ws ls) next,
    )

pub list_again : ListAgain
list_again run f image told_is calm (script, held, h) name old new is quiet a =
    let records = drop run.first f.rig_after.log in
    let lines = lines_of 2 records in
    let s = f.rig_after.standing in
    let t = a.between.standing in
    let image_is : a.between.image ≡ Some image = a.ready.image ∙ is in
    let specs : specs_of t ≡ specs_of s =
    take_all t.devices (units_of t.head) (let d = a.ready.counted in omega (arith, d))
    ∙ (ap units_of (subst (IsHeadOf t.head) image_is a.ready.opened.head) ∙ sym (specs_are run f image told_is calm script held h)) in
    let us = units_in (specs_of t) image in
    let first : units_in (specs_of t) image ≡ units_in (specs_of s) image = ap (λ (specs : List UnitSpec). units_in specs image) specs in
    let n = a.ready.count in
    let c = quiet.0 in
    let d = quiet.1 in
    let told = a.done.told us (a.ready.laid ∙ ap (units_told t) image_is) (omega (arith, n, c), d) in
    let same = over_same t s us lines specs in
    let ours = run_again run f image told_is calm (script, held, h) in (
      ap (list_text lines) (told.0 ∙ (same.0 ∙ ap (λ ws. answers_over s ws lines) first)) ∙ ours.0,
      told.1 ∙ (ap (λ (v : List Stored). Some v) (same.1 ∙ ap (λ ws. units_over s ws lines) first) ∙ sym ours.1),
    )

-- ---- the list read from the text

-- what a right text is read as is one thing
read_once : (one other : List VectorLine) → ◌≡◌ {A = Result (List VectorLine) ScriptFault} (Ok one) (Ok other) → one ≡ other
read_once one other e = ap or_none e
  where
    or_none : Result (List VectorLine) ScriptFault → List VectorLine
    or_none (Ok ls) = ls
    or_none (Err fault) = []

pub text_again : TextAgain
unfolding most_bytes
text_again run f image told_is calm played written lines first g is quiet k same =
    let records = drop run.first f.rig_after.log in
    let few : length (vectors_text records) ≤ 4194304 = subst (λ t. length t ≤ 4194304) same k.held.whole.2 in
    let read : lines ≡ lines_of 2 records = read_once lines (lines_of 2 records) (sym k.held.reads ∙ (ap list_in same ∙ text_reads records written few)) in
    let a = k.answered in
    let entries : drop first g.rig_after.log ≡ a.done.entries =
    ap (λ n. drop n g.rig_after.log) k.first_is ∙ (ap (drop (length g.rig.log)) (a.done.log ∙ ap (λ l. l ++ a.done.entries) a.ready.log) ∙ drop-append_seam g.rig.log a.done.entries) in
    let by : (ls : List VectorLine) → ls ≡ lines_of 2 records → (b : HasAnswered g.name ls g.rig g.rig_after) → (list_text ls b.done.entries ≡ vectors_text records) × (g.rig_after.units ≡ f.rig_after.units) =
    λ ls e. subst (λ (xs : List VectorLine). (b : HasAnswered g.name xs g.rig g.rig_after) → (list_text xs b.done.entries ≡ vectors_text records) × (g.rig_after.units ≡ f.rig_after.units)) (sym e) (list_again run f image told_is calm played g.name g.rig g.rig_after is quiet) in
    let answer = by lines read a in
    (ap (list_text lines) entries ∙ answer.0, answer.1)
