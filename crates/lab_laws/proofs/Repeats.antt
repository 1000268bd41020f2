-- Without faults an answer doesn't hang on labels: so vectors that are done again, without labels, are the same text.
use Rattle.std.proofs.Common.{◌≡◌, ℕ, ◌+◌, ◌-◌, false, List, [], ◌∷◌, ◌++◌, length, replicate, Option, Some, None, refl, sym, ap, ◌∙◌}
use Rattle.std.specs.Prelude.{nat_abs, slice_get, Result, Ok, Err}
use Rattle.sense_codes.specs.declared.Sense.{Sense}
use Rattle.fault_schedule.specs.declared.Label.{Label}
use Rattle.fault_schedule.specs.declared.fault.Crossing.TheVariants.{AdapterToTarget, MediumToTarget, TargetToAdapter, TargetToMedium}
use Rattle.cdb_codec.specs.Decoded.{decoded}
use Rattle.cdb_codec.specs.declared.command.Cdb.{Cdb}
use Rattle.cdb_codec.specs.declared.command.CdbFault.{CdbFault}
use Rattle.rig_api.specs.Frames.{frames_of, joined, sent_size}
use Rattle.rig_api.specs.Passing.{accepted, crossed, found_in, from_medium, released, to_medium}
use Rattle.rig_api.specs.Requests.{request_of}
use Rattle.rig_api.specs.declared.passage.Passage.{Passage}
use Rattle.rig_api.specs.declared.request.Request.{Request}
use Rattle.rig_api.specs.declared.request.Request.TheVariants.{Read, ReadCapacity, Verify, Write}
use Rattle.rig_api.specs.Target.{Answer, Flaw, Stored, answer_unless, carried_out, each, fails_under, medium_address, off_medium, onto_medium, passage, read_end, refusal, refusals_of, sending, sent_unless, shape_of, stored_address, stored_from, stored_unless, storing, target_answer, wire_address, write_end, written_by, first_of}
use Rattle.rig_api.proofs.KeptLaws.{no-lines-keep}
use Rattle.rig_api.specs.Log.{LogEntry, moved_of}
use Rattle.rig_api.specs.Telling.{Standing, at_front, spec_at, unit_at, with_blocks}
use Rattle.rig_api.specs.declared.rig.Outcome.{Outcome}
use Rattle.record_laws.proofs.Quiet.{comes_through, crosses}
use Rattle.vector_lines.specs.Printed.{first_line, in_of, out_of, vector_line}
use Rattle.vector_runs.specs.Done.{answers_over, units_over}
use Rattle.vector_runs.specs.ListText.{lines_text}
use Rattle.vector_runs.specs.RecordText.{records_text}
use Rattle.lab_laws.specs.Again.{AreAnswered, SameAgain, answer_for, lines_of, room_for}

-- ---- a block

out_alike : (p : Passage) (label : Option Label) (frame : List ℕ) → to_medium [] (record p { label = label }) frame ≡ to_medium [] (record p { label = None }) frame
unfolding to_medium found_in
out_alike p label frame =
    comes_through label TargetToMedium (accepted p (crossed [] label AdapterToTarget frame)) ∙ ap (accepted p) (crosses label AdapterToTarget frame)
    ∙ sym (comes_through None TargetToMedium (accepted p frame))

in_alike : (p : Passage) (label : Option Label) (frame : List ℕ) → from_medium [] (record p { label = label }) frame ≡ from_medium [] (record p { label = None }) frame
unfolding from_medium found_in
in_alike p label frame =
    comes_through label TargetToAdapter (released p (crossed [] label MediumToTarget frame)) ∙ ap (released p) (crosses label MediumToTarget frame)
    ∙ sym (comes_through None TargetToAdapter (released p frame))

no_line_fails : (label : Option Label) → fails_under [] label ≡ false
no_line_fails None = refl
no_line_fails (Some label) = refl

onto_alike : (p : Passage) (label : Option Label) (frame : List ℕ) → onto_medium [] (record p { label = label }) frame ≡ onto_medium [] (record p { label = None }) frame
onto_alike p label frame =
    ap (λ c. stored_unless c (to_medium [] (record p { label = label }) frame)) (no_line_fails label) ∙ ap (stored_unless false) (out_alike p label frame)

off_alike : (p : Passage) (label : Option Label) (frame : List ℕ) → off_medium [] (record p { label = label }) frame ≡ off_medium [] (record p { label = None }) frame
off_alike p label frame =
    ap (λ c. sent_unless c (from_medium [] (record p { label = label }) frame)) (no_line_fails label) ∙ ap (sent_unless false) (in_alike p label frame)

each_alike : (one other : ℕ → List ℕ → Result (List ℕ) Flaw) → ((k : ℕ) (frame : List ℕ) → one k frame ≡ other k frame) → (k : ℕ) (frames : List (List ℕ)) → each one k frames ≡ each other k frames
each_alike one other h k frames = ap (λ judge. each judge k frames) (λ i j frame. h j frame i)

-- ---- a command

module _ (unit : Stored) (label : Label) (labels : List Label) (out : List ℕ) where
  carries : (q : Request) → carried_out unit q [] (label ∷ labels) out None ≡ carried_out unit q [] [] out None
  carries (ReadCapacity len) = refl
  carries (Verify c) = refl
  carries (Write c) =
      let lba = nat_abs (wire_address [] [] c) in
      let frames = frames_of (sent_size c.protect unit.size) c.n out in
      let to = nat_abs (stored_address [] [] c) in
      let olds = stored_from unit to c.n in
      ap (λ judged. storing (to - unit.first) unit.blocks (write_end lba judged None))
      (no-lines-keep (label ∷ labels) 0 olds (written_by (shape_of unit) c lba [] (label ∷ labels) out)
      ∙ each_alike (λ k frame. onto_medium [] (passage (shape_of unit) c lba (label ∷ labels) k) frame) (λ k frame. onto_medium [] (passage (shape_of unit) c lba [] k) frame)
      (λ k frame. onto_alike (passage (shape_of unit) c lba [] k) (slice_get (label ∷ labels) k) frame ∙ sym (onto_alike (passage (shape_of unit) c lba [] k) (slice_get [] k) frame)) 0 frames
      ∙ sym (no-lines-keep [] 0 olds (written_by (shape_of unit) c lba [] [] out)))
  carries (Read c) =
      let lba = nat_abs (wire_address [] [] c) in
      let fetched = stored_from unit (nat_abs (medium_address [] [] c)) c.n in
      ap (λ judged. sending unit.blocks (read_end lba judged None))
      (each_alike (λ k frame. off_medium [] (passage (shape_of unit) c lba (label ∷ labels) k) frame) (λ k frame. off_medium [] (passage (shape_of unit) c lba [] k) frame)
      (λ k frame. off_alike (passage (shape_of unit) c lba [] k) (slice_get (label ∷ labels) k) frame ∙ sym (off_alike (passage (shape_of unit) c lba [] k) (slice_get [] k) frame)) 0 fetched)

  asks : (cdb : Cdb) (q : Request) (room : ℕ) → refusals_of (shape_of unit) cdb q [] (label ∷ labels) (length out) room ≡ refusals_of (shape_of unit) cdb q [] [] (length out) room
  asks cdb (ReadCapacity len) room = refl
  asks cdb (Verify c) room = refl
  asks cdb (Write c) room = refl
  asks cdb (Read c) room = refl

  refuses : (d : Result Cdb CdbFault) (room : ℕ) → refusal (shape_of unit) d [] (label ∷ labels) (length out) room ≡ refusal (shape_of unit) d [] [] (length out) room
  unfolding refusal
  refuses (Err fault) room = refl
  refuses (Ok cdb) room = ap first_of (asks cdb (request_of cdb) room)

  answers : (o : Option Sense) (d : Result Cdb CdbFault) → answer_unless o unit d [] (label ∷ labels) out None ≡ answer_unless o unit d [] [] out None
  answers (Some sense) d = refl
  answers None (Ok cdb) = carries (request_of cdb)
  answers None (Err fault) = refl

  labelled : (cdb : List ℕ) (room : ℕ) → target_answer unit [] cdb (label ∷ labels) out room None ≡ target_answer unit [] cdb [] out room None
  unfolding target_answer
  labelled cdb room =
      ap (λ o. answer_unless o unit (decoded cdb) [] (label ∷ labels) out None) (refuses (decoded cdb) room)
      ∙ answers (refusal (shape_of unit) (decoded cdb) [] [] (length out) room) (decoded cdb)

-- Without faults a unit answers alike, whatever the labels.
unlabelled : (unit : Stored) (cdb : List ℕ) (labels : List Label) (out : List ℕ) (room : ℕ) → target_answer unit [] cdb labels out room None ≡ target_answer unit [] cdb [] out room None
unlabelled unit cdb [] out room = refl
unlabelled unit cdb (label ∷ labels) out room = labelled unit label labels out cdb room

-- ---- a list

module _ (s : Standing) where
  again : (us left : List Stored) (n : ℕ) (es : List LogEntry) → AreAnswered s us es left → (lines_text (lines_of n es) (answers_over s us (lines_of n es)) ≡ records_text es) × (units_over s us (lines_of n es) ≡ left)
  again us left n [] h = (refl, sym h)
  again us left n (e ∷ es) (a, h) =
      let dev = e.what.dev in
      let cdb = e.what.cdb in
      let out = out_of cdb e.moved in
      let size = (spec_at s dev).size in
      let zeros = replicate (room_for s e) 0 in
      let was = answer_for s us a.labels e in
      let is = answer_for s us [] e in
      let same : is ≡ was = sym (unlabelled (unit_at us dev) cdb a.labels out (room_for s e)) in
      let text : (x : Answer) (o : Outcome) → List ℕ = λ x o. vector_line (record { dev = dev; cdb = cdb; outcome = o }) out (in_of cdb (moved_of size cdb o out (at_front (joined x.sent) zeros))) in
      let line : text is (record { done = is.done; sense = is.sense }) ≡ vector_line e.what out (in_of cdb e.moved) =
      ap (λ (x : Answer). text x (record { done = x.done; sense = x.sense })) same ∙ ap (text was) (sym a.outcome) ∙ ap (λ moved. vector_line e.what out (in_of cdb moved)) (sym a.moved) in
      let lines = lines_of (n + 1) es in
      let next : with_blocks us dev is.blocks ≡ with_blocks us dev was.blocks = ap (λ (x : Answer). with_blocks us dev x.blocks) same in
      let rest = again (with_blocks us dev was.blocks) left (n + 1) es h in (
        ap (λ t. t ++ lines_text lines (answers_over s (with_blocks us dev is.blocks) lines)) line
            ∙ ap (λ t. vector_line e.what out (in_of cdb e.moved) ++ t) (ap (λ xs. lines_text lines (answers_over s xs lines)) next ∙ rest.0),
        ap (λ xs. units_over s xs lines) next ∙ rest.1,
      )

pub same_again : SameAgain
same_again s us left es h = let x = again s us left 2 es h in (ap (λ t. first_line ++ t) x.0, x.1)
