-- The frame that is judged of a block is that of its entry in the log.
use Rattle.std.proofs.Common.{ℕ, zero, suc, ◌≡◌, Bool, true, false, cond, ◌&&◌, eqb, ltb, List, [], ◌∷◌, ◌++◌, map, take, drop, get_or, min, Option, Some, None, Result, Ok, Err, refl, sym, ap, subst, ◌∙◌, arith}
use Rattle.std.proofs.lemmas.Bool.{eqb-true}
use Rattle.small_laws.proofs.Tests.{and_first, and_second}
use Rattle.bio_core.specs.declared.fate.Why.{Why}
use Rattle.bio_core.specs.declared.request.Dir.{Dir}
use Rattle.bio_core.specs.declared.request.Dir.TheVariants.{Read as In, Write as Out}
use Rattle.cdb_codec.specs.Decoded.{decoded}
use Rattle.cdb_codec.specs.declared.command.Cdb.{Cdb}
use Rattle.cdb_codec.specs.declared.command.CdbFault.{CdbFault}
use Rattle.fault_schedule.specs.declared.Label.{Label}
use Rattle.rig_api.specs.Frames.{frames_of, sent_size}
use Rattle.rig_api.specs.Log.{LogEntry}
use Rattle.rig_api.specs.Requests.{request_of}
use Rattle.rig_api.specs.declared.request.Request.{Request}
use Rattle.rig_api.specs.declared.request.Request.TheVariants.{Read, Write, Verify, ReadCapacity}
use Rattle.walk_laws.specs.Passed.{Sent, Site, why_ended}
use Rattle.walk_laws.specs.Settings.{Setting}
use Rattle.run_laws.specs.Records.{NoTwo, came_of, entry_in, find, is_labelled, moved_by, nobody, put_blocks, put_decoded, put_entries, put_request, recorded, stamped}
use Rattle.run_words.specs.Judged.{IsOfItsEntry, frame_in}
use Rattle.run_words.specs.Lies.{MovedBlock, all_moved, blocks_asked, blocks_from, blocks_moved, blocks_under, frame_for, label_of}
use Rattle.run_words.specs.Lies.{is_labelled as is_block_of}

-- the first frame that is there
abbrev or_else : Option (List ℕ) → Option (List ℕ) → Option (List ℕ)
or_else (Some x) y = Some x
or_else None y = y

abbrev took : Bool → Result (List ℕ) Why → Option (List ℕ)
took true (Ok frame) = Some frame
took true (Err why) = None
took false came = None

abbrev among : Label → List Sent → Option (List ℕ)
among label [] = None
among label (e ∷ es) = or_else (took (is_labelled label e) e.came) (among label es)

or_both : (x y z : Option (List ℕ)) → or_else (or_else x y) z ≡ or_else x (or_else y z)
or_both (Some x) y z = refl
or_both None y z = refl

or_none : (x : Option (List ℕ)) → or_else x None ≡ x
or_none (Some x) = refl
or_none None = refl

among_both : (label : Label) (xs ys : List Sent) → among label (xs ++ ys) ≡ or_else (among label xs) (among label ys)
among_both label [] ys = refl
among_both label (x ∷ xs) ys = ap (or_else (took (is_labelled label x) x.came)) (among_both label xs ys) ∙ sym (or_both (took (is_labelled label x) x.came) (among label xs) (among label ys))

-- ---- one of two

none_among : (label : Label) (es : List Sent) → find label es ≡ None → among label es ≡ None
none_among label [] h = refl
none_among label (e ∷ es) h = by_test (is_labelled label e) h (λ n. none_among label es n)
  where
    by_test : (t : Bool) → cond t (Some e) (find label es) ≡ None → (find label es ≡ None → among label es ≡ None) → or_else (took t e.came) (among label es) ≡ None
    by_test true h rest = absurd (cc)
    by_test false h rest = rest h

same_label : (label : Label) (e : Sent) → is_labelled label e ≡ true → e.label ≡ label
same_label label e h =
    let op = eqb-true e.label.op label.op (and_first (eqb e.label.op label.op) (eqb e.label.k label.k) h) in
    let k = eqb-true e.label.k label.k (and_second (eqb e.label.op label.op) (eqb e.label.k label.k) h) in
    ap (λ x. record { op = x; k = e.label.k }) op ∙ ap (λ x. record { op = label.op; k = x }) k

first_is : (label : Label) (es : List Sent) → NoTwo es → among label es ≡ frame_in (entry_in (find label es))
first_is label [] h = refl
first_is label (e ∷ es) h = by_test (is_labelled label e) e.came refl refl (first_is label es h.1)
  where
    by_test : (t : Bool) (came : Result (List ℕ) Why) → is_labelled label e ≡ t → e.came ≡ came → among label es ≡ frame_in (entry_in (find label es)) → or_else (took t came) (among label es) ≡ frame_in (entry_in (cond t (Some e) (find label es)))
    by_test true (Ok frame) t c rest = sym (ap (λ x. frame_in (moved_by x e.after)) c)
    by_test true (Err why) t c rest = none_among label es (subst (λ (l : Label). find l es ≡ None) (same_label label e t) h.0) ∙ sym (ap (λ x. frame_in (moved_by x e.after)) c)
    by_test false came t c rest = rest

-- ---- the blocks of a command

abbrev named : Label → List Label → List (Result (List ℕ) Why) → Option (List ℕ)
named label labels [] = None
named label labels (came ∷ cames) = or_else (took (eqb (get_or labels 0 nobody).op label.op && eqb (get_or labels 0 nobody).k label.k) came) (named label (drop 1 labels) cames)

put_is : (s : Site) (dir : Dir) (dev lba : ℕ) (label : Label) (labels : List Label) (cames : List (Result (List ℕ) Why)) (es : List Sent) → among label (put_blocks s dir dev lba labels cames es) ≡ or_else (among label es) (named label labels cames)
put_is s dir dev lba label labels [] es = sym (or_none (among label es))
put_is s dir dev lba label labels (came ∷ cames) es =
    let e : Sent = stamped s es (get_or labels 0 nobody) dir dev lba came in
    put_is s dir dev (suc lba) label (drop 1 labels) cames (es ++ (e ∷ []))
    ∙ ap (λ x. or_else x (named label (drop 1 labels) cames)) (among_both label es (e ∷ []) ∙ ap (or_else (among label es)) (or_none (took (is_labelled label e) came)))
    ∙ or_both (among label es) (took (is_labelled label e) came) (named label (drop 1 labels) cames)

none_named : (i k : ℕ) (cames : List (Result (List ℕ) Why)) → named (label_of i k) [] cames ≡ None
none_named i k [] = refl
none_named i k (came ∷ cames) =
    let other : eqb 0 (suc i) ≡ false = grind arith in
    ap (λ b. or_else (took (b && eqb 0 k) came) (named (label_of i k) [] cames)) other ∙ none_named i k cames

-- a command that ended moved nothing of its last block
ended : (t : Bool) (label : Label) (labels : List Label) (why : Why) → named label labels (cond t (Err why ∷ []) []) ≡ None
ended false label labels why = refl
ended true label labels why = by_test (eqb (get_or labels 0 nobody).op label.op && eqb (get_or labels 0 nobody).k label.k)
  where
    by_test : (b : Bool) → or_else (took b (Err why)) None ≡ None
    by_test true = refl
    by_test false = refl

took_first : (b : Bool) (frame : List ℕ) (x y : Option (List ℕ)) → x ≡ y → or_else (took b (Ok frame)) x ≡ cond b (Some frame) y
took_first true frame x y e = refl
took_first false frame x y e = e

blocks_named : (i k frame n : ℕ) (labels : List Label) (bytes : List ℕ) (t : Bool) (why : Why) → named (label_of i k) labels (map (λ x. Ok x) (frames_of frame n bytes) ++ cond t (Err why ∷ []) []) ≡ frame_for (label_of i k) (blocks_from frame labels n bytes)
blocks_named i k frame zero [] bytes t why = ended t (label_of i k) [] why
blocks_named i k frame zero (label ∷ labels) bytes t why = ended t (label_of i k) (label ∷ labels) why
blocks_named i k frame (suc n) [] bytes t why = none_named i k (map (λ x. Ok x) (frames_of frame (suc n) bytes) ++ cond t (Err why ∷ []) [])
blocks_named i k frame (suc n) (label ∷ labels) bytes t why =
    took_first (eqb label.op (suc i) && eqb label.k k) (take frame bytes) _ _ (blocks_named i k frame n labels (drop frame bytes) t why)

-- ---- the records

by_request : (m : Setting) (i k : ℕ) (r : Request) (e : LogEntry) (es : List Sent) → among (label_of i k) (put_request m r e es) ≡ or_else (among (label_of i k) es) (frame_for (label_of i k) (blocks_asked m.size r e))
by_request m i k (Read c) e es =
    put_is m.site In e.what.dev c.lba (label_of i k) e.labels (came_of c.n e.what.outcome.done e.what.outcome.sense (frames_of (sent_size c.protect m.size) (min e.what.outcome.done c.n) e.moved)) es
    ∙ ap (or_else (among (label_of i k) es)) (blocks_named i k (sent_size c.protect m.size) (min e.what.outcome.done c.n) e.labels e.moved (ltb e.what.outcome.done c.n) (why_ended e.what.outcome.sense))
by_request m i k (Write c) e es =
    put_is m.site Out e.what.dev c.lba (label_of i k) e.labels (came_of c.n e.what.outcome.done e.what.outcome.sense (frames_of (sent_size c.protect m.size) (min e.what.outcome.done c.n) e.moved)) es
    ∙ ap (or_else (among (label_of i k) es)) (blocks_named i k (sent_size c.protect m.size) (min e.what.outcome.done c.n) e.labels e.moved (ltb e.what.outcome.done c.n) (why_ended e.what.outcome.sense))
by_request m i k (Verify c) e es = sym (or_none (among (label_of i k) es))
by_request m i k (ReadCapacity len) e es = sym (or_none (among (label_of i k) es))

by_command : (m : Setting) (i k : ℕ) (c : Result Cdb CdbFault) (e : LogEntry) (es : List Sent) → among (label_of i k) (put_decoded m c e es) ≡ or_else (among (label_of i k) es) (frame_for (label_of i k) (blocks_under m.size c e))
by_command m i k (Ok cdb) e es = by_request m i k (request_of cdb) e es
by_command m i k (Err fault) e es = sym (or_none (among (label_of i k) es))

cond_else : (t : Bool) (frame : List ℕ) (x y : Option (List ℕ)) → cond t (Some frame) (or_else x y) ≡ or_else (cond t (Some frame) x) y
cond_else true frame x y = refl
cond_else false frame x y = refl

frame_both : (label : Label) (xs ys : List MovedBlock) → frame_for label (xs ++ ys) ≡ or_else (frame_for label xs) (frame_for label ys)
frame_both label [] ys = refl
frame_both label (x ∷ xs) ys = ap (λ y. cond (is_block_of label x) (Some x.frame) y) (frame_both label xs ys) ∙ cond_else (is_block_of label x) x.frame (frame_for label xs) (frame_for label ys)

by_log : (m : Setting) (i k : ℕ) (log : List LogEntry) (es : List Sent) → among (label_of i k) (put_entries m log es) ≡ or_else (among (label_of i k) es) (frame_for (label_of i k) (all_moved m.size log))
by_log m i k [] es = sym (or_none (among (label_of i k) es))
by_log m i k (e ∷ log) es =
    by_log m i k log (put_decoded m (decoded e.what.cdb) e es) ∙ ap (λ x. or_else x (frame_for (label_of i k) (all_moved m.size log))) (by_command m i k (decoded e.what.cdb) e es)
    ∙ or_both (among (label_of i k) es) (frame_for (label_of i k) (blocks_moved m.size e)) (frame_for (label_of i k) (all_moved m.size log))
    ∙ ap (or_else (among (label_of i k) es)) (sym (frame_both (label_of i k) (blocks_moved m.size e) (all_moved m.size log)))

pub of_its_entry : (m : Setting) (log : List LogEntry) (i k : ℕ) → NoTwo (recorded m log) → IsOfItsEntry m log (label_of i k)
of_its_entry m log i k once = sym (by_log m i k log []) ∙ first_is (label_of i k) (recorded m log) once
