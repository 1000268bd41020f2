-- What `explain` without an image comes to.
use Rattle.std.proofs.Common.{ℕ, ◌≡◌, ◌+◌, ◌<◌, ◌≤◌, ◌⊎◌, inl, inr, Bool, false, List, [], ◌++◌, length, Option, Some, None, Ok, Err, refl, sym, ap, subst, ◌∙◌, arith, append-nil, length-append}
use Rattle.std.specs.Prelude.{◌&&◌, nat_le}
use Rattle.std.proofs.lemmas.Bool.Decides.{nat_tests}
use Rattle.call_refusal.specs.declared.refusal.Refusal.TheVariants as stop
use Rattle.call_verdict.specs.Verdicts.{Cause, Done, Refused, Verdict, Written, verdict_status}
use Rattle.call_verdict.specs.declared.status.Status.{Status}
use Rattle.call_verdict.specs.declared.status.Status.TheVariants as status
use Rattle.dix_base.specs.Stores.{StoreState}
use Rattle.dix_base.specs.Told.{Calm, IsAtEnd, Rose, Took}
use Rattle.dix_base.proofs.Counts.{never_rose}
use Rattle.lab_run.specs.declared.command.Command.TheVariants.{Judge}
use Rattle.rig_api.specs.State.{RigState}
use Rattle.run_command.proofs.Refusing.{within}
use Rattle.run_words.proofs.Marking.{over, too_long}
use Rattle.script_lines.specs.declared.kind.ScriptKind.TheVariants.{TooMany}
use Rattle.script_text.specs.Language.{script_in}
use Rattle.script_text.specs.declared.fault.ScriptFault.{ScriptFault}
use Rattle.script_words.specs.Cuts.{lines_of}
use Rattle.vector_lines.specs.Texts.{is_list}
use Rattle.dix_base.specs.Reading.{IsOver, IsWhole, TookAtMost, most_bytes}
use Rattle.dix_base.proofs.Taking.{most_is}
use Rattle.lab_run.specs.Calls.{Facts, on_input}
use Rattle.lab_run.specs.Commands.{Came}
use Rattle.lab_run.specs.Judging.{AsList, AsScript, CauseUnread, IsGiven, Judged, Judges, Reads, Says, WasJudged, judge_work, judged_status, judged_text, reads_by, reads_of}
use Rattle.lab_run.specs.Texts.{lab, no_memory}
use Rattle.lab_run.specs.declared.judging.Said.{Said}
use Rattle.lab_run.specs.declared.refusal.Refusal.{Refusal}
use Rattle.lab_run.specs.declared.refusal.Refusal.TheVariants as refusal
use Rattle.run_command.proofs.FirstFaults.{over_long}

-- ---- a text is judged, or isn't

given_by : (reads : Reads) (text : List ℕ) (left left' : Option (List ℕ)) → IsWhole text left left' → reads_of text ≡ reads → WasJudged (record { text = text; reads = reads }) left left'
given_by (AsScript (Ok script)) text left left' w e = record { given = w; reads = e }
given_by (AsScript (Err bad)) text left left' w e = record { given = (w.0, inl w.1); reads = e }
given_by (AsList lines) text left left' w e = record { given = w; reads = e }

-- a text that was read to its end
pub said_whole : (s : Said) (text : List ℕ) (left left' : Option (List ℕ)) (reads reads' : ℕ) → reads ≤ reads' → IsWhole text left left' → Says (reads_of text) text (Ok s) → Judges (Ok s) left left' reads reads'
said_whole s text left left' reads reads' k w says = record {
  came = record { judged = record { text = text; reads = reads_of text }; was = given_by (reads_of text) text left left' w refl; status_is = says.0; text_is = says.1 };
  count = k;
}

-- a text with more bytes than it may have is a script that is too long
long_reads : (text : List ℕ) → 4194304 < length text → script_in text ≡ Err (record { line = 0; kind = TooMany }) → reads_of text ≡ AsScript (Err (record { line = 0; kind = TooMany }))
long_reads text l e =
    let no : nat_le (length text) 4194304 ≡ false = grind (arith, nat_tests, l) in
    ap (λ (b : Bool). reads_by (b && is_list (lines_of text)) text) no ∙ ap AsScript e

-- a text that is too long, which isn't kept
pub said_over : (s : Said) (left left' : Option (List ℕ)) (reads reads' : ℕ) → reads ≤ reads' → IsOver left left' → ((text : List ℕ) → Says (AsScript (Err (record { line = 0; kind = TooMany }))) text (Ok s)) → Judges (Ok s) left left' reads reads'
said_over s left left' reads reads' k long says =
    let text = long.0 in
    let bad : ScriptFault = record { line = 0; kind = TooMany } in
    let m = most_is in
    let more : length text ≡ most_bytes + 1 = long.2 in
    record {
      came = record { judged = record { text = text; reads = AsScript (Err bad) }; was = record { given = (long.1, inr long.2); reads = long_reads text (omega (arith, m, more)) (too_long text long.2) }; status_is = (says text).0; text_is = (says text).1 };
      count = k;
    }

unjudged : (r x : Refusal) (left left' : Option (List ℕ)) (reads reads' : ℕ) → reads ≤ reads' → x ≡ r → CauseUnread r left left' reads reads' → Judges (Err x) left left' reads reads'
unjudged r x left left' reads reads' k e c = record { came = subst (λ (y : Refusal). CauseUnread y left left' reads reads') (sym e) c; count = k }

-- want of memory for what is said
pub spared_whole : (x : Refusal) (text : List ℕ) (left left' : Option (List ℕ)) (reads reads' : ℕ) → reads ≤ reads' → x ≡ no_memory → IsWhole text left left' → Judges (Err x) left left' reads reads'
spared_whole x text left left' reads reads' k e w = unjudged no_memory x left left' reads reads' k e (within text left left' w)

pub spared_over : (x : Refusal) (left left' : Option (List ℕ)) (reads reads' : ℕ) → reads ≤ reads' → x ≡ no_memory → IsOver left left' → Judges (Err x) left left' reads reads'
spared_over x left left' reads reads' k e w = unjudged no_memory x left left' reads reads' k e (over left left' w)

-- the source failed
pub unread : (left left' : Option (List ℕ)) (reads reads' : ℕ) → reads ≤ reads' → Rose reads reads' → TookAtMost most_bytes left left' → Judges (Err (refusal.Stopped stop.ReadFault)) left left' reads reads'
unread left left' reads reads' k r t = record { came = (r, t); count = k }

pub spared : (left left' : Option (List ℕ)) (reads reads' : ℕ) → reads ≤ reads' → TookAtMost (most_bytes + 1) left left' → Judges (Err no_memory) left left' reads reads'
spared left left' reads reads' k t = record { came = t; count = k }

-- ---- a call

pub judged : (words : List (List ℕ)) (h : StoreState) (left left' : Option (List ℕ)) (reads reads' : ℕ) (rig : RigState) (second : StoreState) (said : Said) (text : List ℕ) (taken taken' : Option (List ℕ)) (o n : ℕ) (s : Status) → Judges (Ok said) left left' reads reads' → text ≡ said.text.items → Written said.status text taken taken' o n s →
    Came (Some Judge) (Ok s) (on_input words h h left left' reads reads' rig second) taken taken' o n
judged words h left left' reads reads' rig second said text taken taken' o n s j e w = record {
  comes = (j.came.judged, j.came.was, subst (λ (x : Status). Written x (judged_text j.came.judged.text j.came.judged.reads) taken taken' o n s) j.came.status_is (subst (λ (x : List ℕ). Written said.status x taken taken' o n s) (e ∙ j.came.text_is) w));
  kept = record { source = j.count; rig = refl; first = refl; second = refl };
}

pub refuses : (words : List (List ℕ)) (h : StoreState) (left left' : Option (List ℕ)) (reads reads' : ℕ) (rig : RigState) (second : StoreState) (r : Refusal) (taken : Option (List ℕ)) (o : ℕ) → Judges (Err r) left left' reads reads' → Came (Some Judge) (Err r) (on_input words h h left left' reads reads' rig second) taken taken o o
refuses words h left left' reads reads' rig second r taken o j = record { comes = (j.came, refl, refl); kept = record { source = j.count; rig = refl; first = refl; second = refl } }

-- ---- texts that are told

for_memory : (r : Refusal) (f : Facts) → CauseUnread r f.left f.left_after f.reads f.reads_after → Calm f.reads f.reads_after → lab.status_of r ≡ status.Memory
for_memory (refusal.Stopped stop.ReadFault) f c k = absurd (never_rose f.reads f.reads_after k c.0)
for_memory (refusal.Stopped stop.Memory) f c k = refl
for_memory _ f c k = absurd c

-- what was taken of a told source that is at its end is all that it told
pub all_taken : (text all : List ℕ) (old new : Option (List ℕ)) → old ≡ Some all → Took text old new → IsAtEnd new → text ≡ all
all_taken text all None new e t k = cc
all_taken text all (Some held) None e t k = absurd t
all_taken text all (Some held) (Some left) e t k =
    let same : held ≡ all = cc in
    let none : left ≡ [] = k in
    let whole : held ≡ text ++ left = t in
    sym (append-nil text) ∙ ap (λ v. text ++ v) (sym none) ∙ sym whole ∙ same

-- a text of which that many bytes were taken is too long
long_taken : (text all : List ℕ) (old new : Option (List ℕ)) → old ≡ Some all → Took text old new → length text ≡ most_bytes + 1 → 4194304 < length all
long_taken text all None new e t l = absurd (cc)
long_taken text all (Some held) None e t l = absurd t
long_taken text all (Some held) (Some left) e t l =
    let same : held ≡ all = cc in
    let m = most_is in
    let n : length all ≡ length text + length left = ap length (sym same ∙ t) ∙ length-append text left in
    omega (arith, l, m, n)

-- what was taken of a told text reads as all of it
reads_alike : (f : Facts) (text all : List ℕ) → f.left ≡ Some all → Took text f.left f.left_after → IsAtEnd f.left_after ⊎ (length text ≡ most_bytes + 1) → reads_of text ≡ reads_of all
reads_alike f text all l t (inl k) = ap reads_of (all_taken text all f.left f.left_after l t k)
reads_alike f text all l t (inr k) =
    let m = most_is in
    let one : 4194304 < length text = omega (arith, m, k) in
    let both = long_taken text all f.left f.left_after l t k in
    long_reads text one (over_long text one) ∙ sym (long_reads all both (over_long all both))

given_so : (f : Facts) (text : List ℕ) (reads : Reads) → IsGiven text reads f.left f.left_after → Took text f.left f.left_after × (IsAtEnd f.left_after ⊎ (length text ≡ most_bytes + 1))
given_so f text (AsScript (Ok script)) g = (g.0, inl g.1)
given_so f text (AsScript (Err bad)) g = g
given_so f text (AsList lines) g = (g.0, inl g.1)

pub judges : (f : Facts) (v : Verdict Refusal Judged) → Cause lab judge_work v f → judge_work.Answers f (verdict_status lab judge_work v)
judges f (Refused r) c = λ all l k. inr (for_memory r f c k)
judges f (Done x) c = λ all l k. let g = given_so f x.text x.reads c.given in inl (ap judged_status (sym c.reads ∙ reads_alike f x.text all l g.0 g.1))
