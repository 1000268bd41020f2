-- How a told unit ends a translated command: by a completion of its own, and with whole frames.
use Rattle.std.proofs.Common.{◌≡◌, ◌≤◌, ◌<◌, ℕ, zero, suc, ◌+◌, ◌-◌, ◌*◌, Bool, true, false, not, ◌&&◌, eqb, ltb, List, [], ◌∷◌, length, take, drop, refl, ap, sym, subst, ◌∙◌, arith, inl, inr, ⊎_elim, Option, Some, None, ◌⊎◌}
use Rattle.std.specs.Prelude.{if◌then◌else◌, Result, Ok, Err, ℤ, pos, ◌+ℤ◌, nat_abs}
use Rattle.std.proofs.lemmas.Bool.{cases_Bool}
use Rattle.std.proofs.lemmas.List.{length-append, length-drop, length-take-le}
use Rattle.pi_tuple.specs.Finds.{is_zero}
use Rattle.pi_tuple.specs.declared.checks.Check.{Check}
use Rattle.pi_tuple.specs.declared.checks.Check.TheVariants.{Guard, AppTag, RefTag}
use Rattle.cdb_codec.specs.Forms.{Fits, form}
use Rattle.cdb_codec.specs.declared.command.Cdb.{Cdb}
use Rattle.cdb_codec.specs.declared.command.CdbFault.{CdbFault}
use Rattle.cdb_codec.specs.declared.command.Rw.{Rw}
use Rattle.cdb_codec.proofs.Inverse.{decoded_form}
use Rattle.sense_codes.specs.declared.Sense.{Sense}
use Rattle.fault_schedule.specs.declared.fault.FaultLine.{FaultLine}
use Rattle.rig_api.specs.Frames.{data_of, frames_of, joined, sent_size}
use Rattle.rig_api.specs.Passing.{found_in, from_medium, to_medium}
use Rattle.rig_api.specs.Requests.{is_foreign, request_of}
use Rattle.rig_api.specs.Target.{Answer, Broken, Flaw, Found, Stop, Stored, answer_unless, bytes_of, carried_out, check_sense, each, first_of, first_sense, has_blocks, illegal, kept_over, medium_address, medium_sense, move_refusals, off_medium, onto_medium, passage, passed, read_by, read_end, refusal, refusals_of, refused, sent_unless, shape_of, stored_address, stored_from, stored_unless, target_answer, whole, wire_address, write_end, written_by}
use Rattle.rig_api.specs.declared.request.Request.TheVariants.{Read, Write}
use Rattle.rig_api.specs.declared.units.UnitSpec.{UnitSpec}
use Rattle.rig_api.proofs.KeptLaws.{kept-many}
use Rattle.rig_api.proofs.FrameLaws.{frames_length, unless_crossed, unless_found}
use Rattle.rig_api.specs.declared.rig.Outcome.{Outcome}
use Rattle.nvme_front.specs.Answers.{outcome_of}
use Rattle.nvme_front.specs.Completions.{by_end, completed, is_internal, out_of_range, read_error, success, write_fault}
use Rattle.nvme_front.specs.declared.completion.Completion.{Completion}
use Rattle.small_laws.proofs.Tests.{no_other_number}

-- ---- completions

-- The end has a completion of its own.
abbrev pub IsNamed : ℕ → Outcome → Type 0
IsNamed n o = is_internal (completed n o) ≡ false

either : (b : Bool) (x : Completion) → is_internal x ≡ false → is_internal (if b then success else x) ≡ false
either true x e = refl
either false x e = e

by-check : (c : Check) (l : ℕ) → is_internal (by_end (Some (check_sense c l))) ≡ false
by-check Guard l = refl
by-check AppTag l = refl
by-check RefTag l = refl

-- Without labels no line says that the medium fails.
abbrev IsFound : Result (List ℕ) Flaw → Type 0
IsFound (Ok frame) = Unit {0}
IsFound (Err (Found check)) = Unit {0}
IsFound (Err (Broken asc)) = ⊥

abbrev AreFound : List (Result (List ℕ) Flaw) → Type 0
AreFound [] = Unit {0}
AreFound (j ∷ js) = IsFound j × AreFound js

found-stored : (came : Result (List ℕ) Check) → IsFound (stored_unless false came)
found-stored (Ok frame) = tt
found-stored (Err check) = tt

found-sent : (came : Result (List ℕ) Check) → IsFound (sent_unless false came)
found-sent (Ok frame) = tt
found-sent (Err check) = tt

each-found : (judge : ℕ → List ℕ → Result (List ℕ) Flaw) (k : ℕ) (frames : List (List ℕ)) → ((k : ℕ) (frame : List ℕ) → IsFound (judge k frame)) → AreFound (each judge k frames)
each-found judge k [] h = tt
each-found judge k (f ∷ frames) h = (h k f, each-found judge (k + 1) frames h)

kept-found : (armed : List FaultLine) (k : ℕ) (olds : List (List ℕ)) (js : List (Result (List ℕ) Flaw)) → AreFound js → AreFound (kept_over armed [] k olds js)
kept-found armed k olds [] h = tt
kept-found armed k [] (j ∷ js) h = h
kept-found armed k (old ∷ olds) (Ok frame ∷ js) h = (tt, kept-found armed (k + 1) olds js h.1)
kept-found armed k (old ∷ olds) (Err (Found check) ∷ js) h = (tt, kept-found armed (k + 1) olds js h.1)
kept-found armed k (old ∷ olds) (Err (Broken asc) ∷ js) h = absurd h.0

whole-or-found : (l : ℕ) (js : List (Result (List ℕ) Flaw)) → AreFound js → (length (passed js) ≡ length js) ⊎ ((c : Check) × (a : ℕ) × (first_sense l js ≡ Some (check_sense c a)))
whole-or-found l [] h = inl refl
whole-or-found l (Ok f ∷ js) h = ⊎_elim (λ (e : length (passed js) ≡ length js). inl (ap suc e)) (λ (w : (c : Check) × (a : ℕ) × (first_sense (l + 1) js ≡ Some (check_sense c a))). inr w) (whole-or-found (l + 1) js h.1)
whole-or-found l (Err (Found c) ∷ js) h = inr (c, l, refl)
whole-or-found l (Err (Broken asc) ∷ js) h = absurd h.0

whole-named : (n l : ℕ) (js : List (Result (List ℕ) Flaw)) → AreFound js → length js ≡ n → IsNamed n (record { done = length (passed js); sense = first_sense l js })
whole-named n l js h e =
    ⊎_elim
    (λ (p : length (passed js) ≡ length js). (let t : eqb (length (passed js)) n ≡ true = grind arith in ap (λ b. is_internal (if b then success else by_end (first_sense l js))) t))
    (λ (w : (c : Check) × (a : ℕ) × (first_sense l js ≡ Some (check_sense c a))). either (eqb (length (passed js)) n) (by_end (first_sense l js)) (ap (λ s. is_internal (by_end s)) w.2 ∙ by-check w.0 w.1))
    (whole-or-found l js h)

write-named : (n l : ℕ) (js : List (Result (List ℕ) Flaw)) (stop : Option Stop) → AreFound js → length js ≡ n → IsNamed n (record { done = (write_end l js stop).done; sense = (write_end l js stop).sense })
write-named n l js None h e = whole-named n l js h e
write-named n l js (Some s) h e =
    ⊎_elim
    (λ (t : ltb s.at (length (passed js)) ≡ true). rw t (either (eqb s.at n) write_fault refl))
    (λ (t : ltb s.at (length (passed js)) ≡ false). rw t (whole-named n l js h e))
    (cases_Bool (ltb s.at (length (passed js))))

read-named : (n l : ℕ) (js : List (Result (List ℕ) Flaw)) (stop : Option Stop) → AreFound js → length js ≡ n → IsNamed n (record { done = (read_end l js stop).done; sense = (read_end l js stop).sense })
read-named n l js None h e = whole-named n l js h e
read-named n l js (Some s) h e =
    ⊎_elim
    (λ (t : (ltb s.at (length (passed js) + 1) && ltb s.at (length js)) ≡ true). rw t (either (eqb s.at n) read_error refl))
    (λ (t : (ltb s.at (length (passed js) + 1) && ltb s.at (length js)) ≡ false). rw t (whole-named n l js h e))
    (cases_Bool (ltb s.at (length (passed js) + 1) && ltb s.at (length js)))

refused-named : (n : ℕ) → IsNamed n (record { done = 0; sense = Some (illegal 0x21) })
refused-named n = either (eqb 0 n) out_of_range refl

-- ---- refusals

five : (a b o f w : Bool) → a ≡ false → b ≡ false → w ≡ false →
    first_of (record { comes = a; asc = 0x20 } ∷ record { comes = b; asc = 0x24 } ∷ record { comes = o; asc = 0x21 } ∷ record { comes = f; asc = 0x21 } ∷ record { comes = w; asc = 0x24 } ∷ []) ≡ (if o then Some (illegal 0x21) else (if f then Some (illegal 0x21) else None))
five a b o f w p q r = rw (p, q, r) refl

refusal-of-move : (unit : UnitSpec) (cmd : Cdb) (c : Rw) (told moved : ℤ) (bytes : ℕ) → is_foreign unit.ty cmd ≡ false → (is_zero unit.ty && not (eqb c.protect 0)) ≡ false → bytes ≡ bytes_of unit.size c →
    first_of (move_refusals unit cmd c told moved bytes)
    ≡ (if not (has_blocks unit told c.n) then Some (illegal 0x21) else (if not (eqb c.n 0) && not (has_blocks unit moved c.n) then Some (illegal 0x21) else None))
refusal-of-move unit cmd c told moved bytes f z e =
    five (is_foreign unit.ty cmd) (is_zero unit.ty && not (eqb c.protect 0)) (not (has_blocks unit told c.n)) (not (eqb c.n 0) && not (has_blocks unit moved c.n)) (not (eqb bytes (bytes_of unit.size c))) f z (no_other_number bytes (bytes_of unit.size c) e)

refusal-of-write : (unit : UnitSpec) (cmd : Cdb) (c : Rw) (armed : List FaultLine) (out room : ℕ) → request_of cmd ≡ Write c → is_foreign unit.ty cmd ≡ false → (is_zero unit.ty && not (eqb c.protect 0)) ≡ false → out ≡ bytes_of unit.size c →
    refusal unit (Ok cmd) armed [] out room
    ≡ (if not (has_blocks unit (wire_address armed [] c) c.n) then Some (illegal 0x21) else (if not (eqb c.n 0) && not (has_blocks unit (stored_address armed [] c) c.n) then Some (illegal 0x21) else None))
unfolding refusal
refusal-of-write unit cmd c armed out room q f z e =
    ap (λ r. first_of (refusals_of unit cmd r armed [] out room)) q ∙ refusal-of-move unit cmd c (wire_address armed [] c) (stored_address armed [] c) out f z e

refusal-of-read : (unit : UnitSpec) (cmd : Cdb) (c : Rw) (armed : List FaultLine) (out room : ℕ) → request_of cmd ≡ Read c → is_foreign unit.ty cmd ≡ false → (is_zero unit.ty && not (eqb c.protect 0)) ≡ false → room ≡ bytes_of unit.size c →
    refusal unit (Ok cmd) armed [] out room
    ≡ (if not (has_blocks unit (wire_address armed [] c) c.n) then Some (illegal 0x21) else (if not (eqb c.n 0) && not (has_blocks unit (medium_address armed [] c) c.n) then Some (illegal 0x21) else None))
unfolding refusal
refusal-of-read unit cmd c armed out room q f z e =
    ap (λ r. first_of (refusals_of unit cmd r armed [] out room)) q ∙ refusal-of-move unit cmd c (wire_address armed [] c) (medium_address armed [] c) room f z e

pub answer-by : (unit : Stored) (cmd : Cdb) (armed : List FaultLine) (out : List ℕ) (room : ℕ) (stop : Option Stop) → Fits cmd →
    target_answer unit armed (form cmd) [] out room stop ≡ answer_unless (refusal (shape_of unit) (Ok cmd) armed [] (length out) room) unit (Ok cmd) armed [] out stop
unfolding target_answer
answer-by unit cmd armed out room stop f = ap (λ (d : Result Cdb CdbFault). answer_unless (refusal (shape_of unit) d armed [] (length out) room) unit d armed [] out stop) (decoded_form cmd f)

-- ---- lengths

each-long : (judge : ℕ → List ℕ → Result (List ℕ) Flaw) (k : ℕ) (frames : List (List ℕ)) → length (each judge k frames) ≡ length frames
each-long judge k [] = refl
each-long judge k (f ∷ frames) = ap suc (each-long judge (k + 1) frames)

-- each of these has this length
abbrev pub AllLong : ℕ → List (List ℕ) → Type 0
AllLong w [] = Unit {0}
AllLong w (f ∷ fs) = (length f ≡ w) × AllLong w fs

joined-long : (w : ℕ) (fs : List (List ℕ)) → AllLong w fs → length (joined fs) ≡ length fs * w
joined-long w [] h = omega arith
joined-long w (f ∷ fs) h =
    let e = joined-long w fs h.1 in
    let a = length-append f (joined fs) in
    let l = h.0 in
    let z : suc (length fs) * w ≡ w + length fs * w = omega arith in
    omega arith

take-long : (w n : ℕ) (fs : List (List ℕ)) → AllLong w fs → AllLong w (take n fs)
take-long w zero fs h = tt
take-long w (suc n) [] h = tt
take-long w (suc n) (f ∷ fs) h = (h.0, take-long w n fs h.1)

drop-long : (w n : ℕ) (fs : List (List ℕ)) → AllLong w fs → AllLong w (drop n fs)
drop-long w zero fs h = h
drop-long w (suc n) [] h = tt
drop-long w (suc n) (f ∷ fs) h = drop-long w n fs h.1

abbrev front_of : Rw → (size : ℕ) → List ℕ → List ℕ
front_of c size frame = if eqb c.protect 0 then data_of size frame else frame

judged-is : (armed : List FaultLine) (unit : UnitSpec) (c : Rw) (lba k : ℕ) (frame : List ℕ) →
    off_medium armed (passage unit c lba [] k) frame ≡ unless_found (found_in (passage unit c lba [] k) frame) (front_of c unit.size frame)
unfolding from_medium
judged-is armed unit c lba k frame = unless_crossed armed (found_in (passage unit c lba [] k) frame) (front_of c unit.size frame)

front-long : (c : Rw) (size stored : ℕ) (frame : List ℕ) → length frame ≡ stored → sent_size c.protect size ≡ stored → length (front_of c size frame) ≡ stored
front-long c size stored frame l e = by (eqb c.protect 0) e
  where
    by : (b : Bool) → (if b then size else size + 8) ≡ stored → length (if b then data_of size frame else frame) ≡ stored
    by true e = let x = length-take-le size frame (omega (arith, e, l)) in x ∙ e
    by false e = l

passed-one : (w : ℕ) (x : Option Check) (frame : List ℕ) (js : List (Result (List ℕ) Flaw)) → length frame ≡ w → AllLong w (passed js) → AllLong w (passed (unless_found x frame ∷ js))
passed-one w None frame js l h = (l, h)
passed-one w (Some c) frame js l h = tt

passed-long : (armed : List FaultLine) (unit : UnitSpec) (c : Rw) (lba k w : ℕ) (frames : List (List ℕ)) → AllLong w frames → sent_size c.protect unit.size ≡ w → AllLong w (passed (each (λ k frame. off_medium armed (passage unit c lba [] k) frame) k frames))
passed-long armed unit c lba k w [] h e = tt
passed-long armed unit c lba k w (f ∷ fs) h e =
    let more = passed-long armed unit c lba (k + 1) w fs h.1 e in
    rw (judged-is armed unit c lba k f) (passed-one w (found_in (passage unit c lba [] k) f) (front_of c unit.size f) _ (front-long c unit.size w f h.0 e) more)

-- ---- what a told unit answers

shiftless : (a : ℕ) → pos a +ℤ pos 0 ≡ pos a
shiftless a = let e : a + 0 ≡ a = omega arith in ap pos e

there : (unit : UnitSpec) (a n : ℕ) → has_blocks unit (pos a) n ≡ true → (unit.first ≤ a) × (a + n ≤ unit.first + unit.blocks)
there unit a n h = (grind arith, grind arith)

stored-count : (unit : Stored) (a n : ℕ) → has_blocks (shape_of unit) (pos a) n ≡ true → length (stored_from unit a n) ≡ n
stored-count unit a n h =
    let k = there (shape_of unit) a n h in
    let d = length-drop (a - unit.first) unit.blocks in
    length-take-le n (drop (a - unit.first) unit.blocks) (let x = k.0 in let y = k.1 in omega (arith, d))

when-neither : (o f : Bool) (x : Sense) → ((if o then Some x else (if f then Some x else None)) ≡ Some x) ⊎ (((if o then Some x else (if f then Some x else None)) ≡ None) × (o ≡ false) × (f ≡ false))
when-neither true f x = inl refl
when-neither false true x = inl refl
when-neither false false x = inr (refl, refl, refl)

-- what is known of a translated command before a told unit
pub record Asks (unit : Stored) (cmd : Cdb) (c : Rw) (w : ℕ) : Type 0 where
  pub fits : Fits cmd
  pub own : is_foreign unit.ty cmd ≡ false
  pub tuples : (is_zero unit.ty && not (eqb c.protect 0)) ≡ false
  pub width : sent_size c.protect unit.size ≡ w
  pub some : 1 ≤ c.n

of-refused : (unit : Stored) (cmd : Cdb) (armed : List FaultLine) (out : List ℕ) (room : ℕ) (stop : Option Stop) (x : Option Sense) (s : Sense) → Fits cmd → refusal (shape_of unit) (Ok cmd) armed [] (length out) room ≡ x → x ≡ Some s →
    target_answer unit armed (form cmd) [] out room stop ≡ refused unit s
of-refused unit cmd armed out room stop x s f r e = answer-by unit cmd armed out room stop f ∙ ap (λ y. answer_unless y unit (Ok cmd) armed [] out stop) (r ∙ e)

of-carried : (unit : Stored) (cmd : Cdb) (armed : List FaultLine) (out : List ℕ) (room : ℕ) (stop : Option Stop) (x : Option Sense) → Fits cmd → refusal (shape_of unit) (Ok cmd) armed [] (length out) room ≡ x → x ≡ None →
    target_answer unit armed (form cmd) [] out room stop ≡ carried_out unit (request_of cmd) armed [] out stop
of-carried unit cmd armed out room stop x f r e = answer-by unit cmd armed out room stop f ∙ ap (λ y. answer_unless y unit (Ok cmd) armed [] out stop) (r ∙ e)

named-at : (n : ℕ) (a b : Answer) → a ≡ b → IsNamed n (outcome_of b) → IsNamed n (outcome_of a)
named-at n a b e h = ap (λ v. is_internal (completed n (outcome_of v))) e ∙ h

pub write-ends : (unit : Stored) (cmd : Cdb) (c : Rw) (armed : List FaultLine) (out : List ℕ) (w : ℕ) (stop : Option Stop) → Asks unit cmd c w → request_of cmd ≡ Write c → length out ≡ c.n * w →
    IsNamed c.n (outcome_of (target_answer unit armed (form cmd) [] out 0 stop))
write-ends unit cmd c armed out w stop a q l =
    let o = not (has_blocks (shape_of unit) (wire_address armed [] c) c.n) in
    let f = not (eqb c.n 0) && not (has_blocks (shape_of unit) (stored_address armed [] c) c.n) in
    let r = refusal-of-write (shape_of unit) cmd c armed (length out) 0 q a.own a.tuples (l ∙ ap (λ x. c.n * x) (sym a.width)) in
    let lba = nat_abs (wire_address armed [] c) in
    let to = nat_abs (stored_address armed [] c) in
    let js = kept_over armed [] 0 (stored_from unit to c.n) (written_by (shape_of unit) c lba armed [] out) in
    let count : length js ≡ c.n = kept-many armed [] 0 (stored_from unit to c.n) (written_by (shape_of unit) c lba armed [] out) ∙ each-long (λ k frame. onto_medium armed (passage (shape_of unit) c lba [] k) frame) 0 (frames_of (sent_size c.protect unit.size) c.n out) ∙ frames_length (sent_size c.protect unit.size) c.n out in
    let found : AreFound js = kept-found armed 0 (stored_from unit to c.n) (written_by (shape_of unit) c lba armed [] out)
    (each-found (λ k frame. onto_medium armed (passage (shape_of unit) c lba [] k) frame) 0 (frames_of (sent_size c.protect unit.size) c.n out) (λ k frame. found-stored (to_medium armed (passage (shape_of unit) c lba [] k) frame))) in
    ⊎_elim
    (λ (e : (if o then Some (illegal 0x21) else (if f then Some (illegal 0x21) else None)) ≡ Some (illegal 0x21)). named-at c.n _ _ (of-refused unit cmd armed out 0 stop _ (illegal 0x21) a.fits r e) (refused-named c.n))
    (λ (e : ((if o then Some (illegal 0x21) else (if f then Some (illegal 0x21) else None)) ≡ None) × (o ≡ false) × (f ≡ false)). named-at c.n _ _ (of-carried unit cmd armed out 0 stop _ a.fits r e.0 ∙ ap (λ x. carried_out unit x armed [] out stop) q) (write-named c.n lba js stop found count))
    (when-neither o f (illegal 0x21))

whole-frames : (n w : ℕ) (js : List (Result (List ℕ) Flaw)) → AllLong w (passed js) → length (passed js) ≡ n → length (joined (passed js)) ≡ n * w
whole-frames n w js h e = joined-long w (passed js) h ∙ ap (λ m. m * w) e

read-frames : (n l w : ℕ) (js : List (Result (List ℕ) Flaw)) (stop : Option Stop) → length js ≡ n → AllLong w (passed js) → (read_end l js stop).done ≡ n → length (joined (read_end l js stop).frames) ≡ n * w
read-frames n l w js None c h e = whole-frames n w js h e
read-frames n l w js (Some s) c h e =
    by (ltb s.at (length (passed js) + 1) && ltb s.at (length js)) refl e
  where
    under : (a b : ℕ) (x : Bool) → (x && ltb a b) ≡ true → a < b
    under a b x h = grind arith

    by : (b : Bool) → (ltb s.at (length (passed js) + 1) && ltb s.at (length js)) ≡ b → (if b then record { done = s.at; sense = Some (medium_sense 0x11 (l + s.at)); frames = take s.at (passed js) } else whole l js).done ≡ n →
        length (joined (if b then record { done = s.at; sense = Some (medium_sense 0x11 (l + s.at)); frames = take s.at (passed js) } else whole l js).frames) ≡ n * w
    by true t e = absurd (let u = under s.at (length js) _ t in omega (arith, u, c, e))
    by false t e = whole-frames n w js h e

-- a read ends so, and where all blocks are done the frames that are sent fill the room
pub record ReadEnds (n w : ℕ) (a : Answer) : Type 0 where
  pub named : IsNamed n (outcome_of a)
  pub long : a.done ≡ n → length (joined a.sent) ≡ n * w

ends-at : (n w : ℕ) (a b : Answer) → a ≡ b → ReadEnds n w b → ReadEnds n w a
ends-at n w a b e h = subst (ReadEnds n w) (sym e) h

refused-read : (unit : Stored) (n w : ℕ) → 1 ≤ n → ReadEnds n w (refused unit (illegal 0x21))
refused-read unit n w h = record { named = refused-named n; long = λ e. absurd (omega (arith, e, h)) }

not-none : (n : ℕ) (b : Bool) → 1 ≤ n → (not (eqb n 0) && not b) ≡ false → b ≡ true
not-none n b h e = grind arith

pub read-ends : (unit : Stored) (cmd : Cdb) (c : Rw) (armed : List FaultLine) (room w : ℕ) (stop : Option Stop) → Asks unit cmd c w → request_of cmd ≡ Read c → room ≡ c.n * w → AllLong w unit.blocks →
    ReadEnds c.n w (target_answer unit armed (form cmd) [] [] room stop)
read-ends unit cmd c armed room w stop a q l long =
    let o = not (has_blocks (shape_of unit) (wire_address armed [] c) c.n) in
    let f = not (eqb c.n 0) && not (has_blocks (shape_of unit) (medium_address armed [] c) c.n) in
    let r = refusal-of-read (shape_of unit) cmd c armed 0 room q a.own a.tuples (l ∙ ap (λ x. c.n * x) (sym a.width)) in
    let lba = nat_abs (wire_address armed [] c) in
    let from = nat_abs (medium_address armed [] c) in
    let stored = stored_from unit from c.n in
    let js = read_by (shape_of unit) c lba armed [] stored in
    ⊎_elim
    (λ (e : (if o then Some (illegal 0x21) else (if f then Some (illegal 0x21) else None)) ≡ Some (illegal 0x21)). ends-at c.n w _ _ (of-refused unit cmd armed [] room stop _ (illegal 0x21) a.fits r e) (refused-read unit c.n w a.some))
    (λ (e : ((if o then Some (illegal 0x21) else (if f then Some (illegal 0x21) else None)) ≡ None) × (o ≡ false) × (f ≡ false)).
    (let m : medium_address armed [] c ≡ pos c.lba = ap (λ z. z +ℤ pos 0) (shiftless c.lba) ∙ shiftless c.lba in
    let t : has_blocks (shape_of unit) (pos from) c.n ≡ true = ap (λ z. has_blocks (shape_of unit) (pos (nat_abs z)) c.n) m ∙ ap (λ z. has_blocks (shape_of unit) z c.n) (sym m) ∙ not-none c.n (has_blocks (shape_of unit) (medium_address armed [] c) c.n) a.some e.2 in
    let count : length js ≡ c.n = each-long (λ k frame. off_medium armed (passage (shape_of unit) c lba [] k) frame) 0 stored ∙ stored-count unit from c.n t in
    let found : AreFound js = each-found (λ k frame. off_medium armed (passage (shape_of unit) c lba [] k) frame) 0 stored (λ k frame. found-sent (from_medium armed (passage (shape_of unit) c lba [] k) frame)) in
    let wide = passed-long armed (shape_of unit) c lba 0 w stored (take-long w c.n (drop (from - unit.first) unit.blocks) (drop-long w (from - unit.first) unit.blocks long)) a.width in
    ends-at c.n w _ _ (of-carried unit cmd armed [] room stop _ a.fits r e.0 ∙ ap (λ x. carried_out unit x armed [] [] stop) q)
    (record { named = read-named c.n lba js stop found count; long = read-frames c.n lba w js stop count wide })))
    (when-neither o f (illegal 0x21))
