-- What one exchange with a unit that is told puts on record is the unit's answer, whatever stood in the buffer before.
use Rattle.std.proofs.Common.{◌≡◌, ℕ, suc, ◌+◌, ◌-◌, ◌*◌, ◌≤◌, Bool, true, false, not, ◌&&◌, eqb, if◌then◌else◌, List, [], ◌∷◌, length, take, drop, replicate, length-append, Option, Some, None, refl, sym, ap, subst, ◌∙◌, arith}
use Rattle.std.specs.Prelude.{min, nat_abs, IfOk, Result, Ok, Err}
use Rattle.std.specs.List.{All}
use Rattle.std.proofs.lemmas.Bool.{eq-eqb}
use Rattle.std.proofs.lemmas.List.{length-replicate, length-take-le, take-append-le}
use Rattle.std.proofs.lemmas.List.Elements.{All-drop, All-head, All-tail, All-take}
use Rattle.std.proofs.lemmas.Option.{none-some}
use Rattle.std.proofs.Math.Nat.{mul-le-mul_right}
use Rattle.pi_tuple.specs.Finds.{is_zero}
use Rattle.pi_tuple.specs.declared.checks.PiType.{PiType}
use Rattle.pi_tuple.specs.declared.checks.PiType.TheVariants.{Zero, One, Two, Three}
use Rattle.pi_tuple.specs.declared.checks.Check.{Check}
use Rattle.rig_api.specs.Passed.{Flaw, data_of, fails_under, off_medium, sent_unless, joined, sent_size, stored_size, crossed, found_in, from_medium, released, unless, request_of, Answer, Refusal, Stored, answer_unless, capacity_data, carried_out, each, first_of, foreign_form, illegal, medium_address, no_tuples, outside, moved_outside, passage, passed, read_by, refusal, refusals_of, refused, shape_of, stored_from, target_answer, wire_address, wrong_room, bytes_of, Sense, decoded, Cdb, CdbFault, Rw, Label, FaultLine, MediumToTarget, TargetToAdapter}
use Rattle.rig_api.specs.declared.passage.Passage.{Passage}
use Rattle.rig_api.specs.declared.request.Request.{Request}
use Rattle.rig_api.specs.declared.request.Request.TheVariants.{Read, ReadCapacity, Verify, Write}
use Rattle.rig_api.specs.Log.{LogEntry, entry_of, frames_done, moved_by, moved_of, moved_under}
use Rattle.rig_api.specs.Telling.{answer_of, at_front, spec_at, unit_at, with_blocks}
use Rattle.rig_api.specs.declared.rig.Outcome.{Outcome}
use Rattle.dix_base.specs.Told.{Calm}
use Rattle.rig_api.specs.State.{Exchanged, RigState}
use Rattle.rig_api.proofs.UnitLaws.{fills}
use Rattle.record_laws.specs.Answered.{ExchangePuts, answer_with, room_by, room_of, room_under}
use Rattle.record_laws.proofs.Quiet.{comes_through, crosses}
use Rattle.small_laws.proofs.Tests.{never}

-- ---- the frames that a read sends

-- each has this length
abbrev AllLong : ℕ → List (List ℕ) → Type 0
AllLong w [] = Unit {0}
AllLong w (f ∷ fs) = (length f ≡ w) × AllLong w fs

joined_long : (w : ℕ) (fs : List (List ℕ)) → AllLong w fs → length (joined fs) ≡ length fs * w
joined_long w [] h = omega arith
joined_long w (f ∷ fs) h = let l = length-append f (joined fs) in let r = joined_long w fs h.1 in let x = h.0 in let z : suc (length fs) * w ≡ w + length fs * w = omega arith in omega (arith, l, r, x, z)

released_long : (p : Passage) (stored : List ℕ) → length stored ≡ stored_size p.ty p.size → (is_zero p.ty && not (eqb p.protect 0)) ≡ false → IfOk (from_medium [] p stored) (λ f. length f ≡ sent_size p.protect p.size)
unfolding from_medium
released_long p stored l some =
    subst (λ came. IfOk came (λ f. length f ≡ sent_size p.protect p.size)) (sym (comes_through p.label TargetToAdapter (released p (crossed [] p.label MediumToTarget stored)) ∙ ap (released p) (crosses p.label MediumToTarget stored)))
    (by (found_in p stored) (eqb p.protect 0) p.ty l some)
  where
    by : (o : Option Check) (c : Bool) (ty : PiType) → length stored ≡ stored_size ty p.size → (is_zero ty && not c) ≡ false → IfOk (unless o (if c then data_of p.size stored else stored)) (λ f. length f ≡ (if c then p.size else p.size + 8))
    by (Some check) c ty l s = tt
    by None true Zero l s = length-take-le p.size stored (omega (arith, l))
    by None true One l s = length-take-le p.size stored (omega (arith, l))
    by None true Two l s = length-take-le p.size stored (omega (arith, l))
    by None true Three l s = length-take-le p.size stored (omega (arith, l))
    by None false Zero l s = never (sym s)
    by None false One l s = l
    by None false Two l s = l
    by None false Three l s = l

-- Where no line is armed, none says that the medium fails.
flawless : (label : Option Label) (came : Result (List ℕ) Check) (P : List ℕ → Type 0) → IfOk came P → IfOk (sent_unless (fails_under [] label) came) P
flawless None (Ok frame) P h = h
flawless None (Err check) P h = tt
flawless (Some label) (Ok frame) P h = h
flawless (Some label) (Err check) P h = tt

one_long : (w : ℕ) (came : Result (List ℕ) Flaw) (rest : List (Result (List ℕ) Flaw)) → IfOk came (λ f. length f ≡ w) → AllLong w (passed rest) → AllLong w (passed (came ∷ rest))
one_long w (Ok frame) rest h k = (h, k)
one_long w (Err flaw) rest h k = tt

module _ (u : Stored) (c : Rw) (lba : ℕ) (labels : List Label) (some : (is_zero u.ty && not (eqb c.protect 0)) ≡ false) where
  all_long : (k : ℕ) (stored : List (List ℕ)) → All (λ b. length {A = ℕ} b ≡ stored_size u.ty u.size) stored →
      AllLong (sent_size c.protect u.size) (passed (each (λ k frame. off_medium [] (passage (shape_of u) c lba labels k) frame) k stored))
  all_long k [] h = tt
  all_long k (b ∷ bs) h =
      one_long (sent_size c.protect u.size) (off_medium [] (passage (shape_of u) c lba labels k) b) (each (λ k frame. off_medium [] (passage (shape_of u) c lba labels k) frame) (k + 1) bs)
      (flawless (passage (shape_of u) c lba labels k).label (from_medium [] (passage (shape_of u) c lba labels k) b) (λ f. length f ≡ sent_size c.protect u.size)
      (released_long (passage (shape_of u) c lba labels k) b (All-head (λ b. length {A = ℕ} b ≡ stored_size u.ty u.size) b bs h) some))
      (all_long (k + 1) bs (All-tail (λ b. length {A = ℕ} b ≡ stored_size u.ty u.size) b bs h))

-- ---- into whichever buffer

comes_not : (a b : Refusal) (rest : List Refusal) → first_of (a ∷ b ∷ rest) ≡ None → b.comes ≡ false
comes_not a b rest h = by a.comes b.comes h
  where
    by : (c d : Bool) → (if c then Some (illegal a.asc) else (if d then Some (illegal b.asc) else first_of rest)) ≡ None → d ≡ false
    by true d h = absurd (cc)
    by false true h = absurd (cc)
    by false false h = refl

fits_room : (has wants : ℕ) (sense : Sense) → has ≡ wants → first_of (wrong_room has wants ∷ []) ≡ Some sense → ⊥
fits_room has wants sense e h = by (eqb has wants) (eq-eqb has wants e) h
  where
    by : (c : Bool) → c ≡ true → (if not c then Some (illegal 0x24) else None) ≡ Some sense → ⊥
    by true z h = none-some sense h
    by false z h = never z

nothing_taken : (n k : ℕ) (xs ys : List ℕ) → n ≡ 0 → take (n * k) xs ≡ take (n * k) ys
nothing_taken n k xs ys e = let z : n * k ≡ 0 = ap (λ m. m * k) e ∙ omega arith in ap (λ m. take m xs) z ∙ sym (ap (λ m. take m ys) z)

front_taken : (n k : ℕ) (xs one other : List ℕ) → n * k ≤ length xs → take (n * k) (at_front xs one) ≡ take (n * k) (at_front xs other)
front_taken n k xs one other l = take-append-le (n * k) xs (drop (length xs) one) l ∙ sym (take-append-le (n * k) xs (drop (length xs) other) l)

module _ (u : Stored) (labels : List Label) (out one other : List ℕ) (stored : All (λ b. length {A = ℕ} b ≡ stored_size u.ty u.size) u.blocks) (same : length other ≡ length one) where
  reads_alike : (c : Rw) → (is_zero u.ty && not (eqb c.protect 0)) ≡ false → let a = carried_out u (Read c) [] labels out None in
      frames_done u.size c a.done (at_front (joined a.sent) one) ≡ frames_done u.size c a.done (at_front (joined a.sent) other)
  reads_alike c some =
      let lba = nat_abs (wire_address [] labels c) in
      let at = nat_abs (medium_address [] labels c) in
      let fs = passed (read_by (shape_of u) c lba [] labels (stored_from u at c.n)) in
      let w = sent_size c.protect u.size in
      let long = all_long u c lba labels some 0 (stored_from u at c.n) (All-take (λ b. length {A = ℕ} b ≡ stored_size u.ty u.size) c.n (drop (at - u.first) u.blocks) (All-drop (λ b. length {A = ℕ} b ≡ stored_size u.ty u.size) (at - u.first) u.blocks stored)) in
      let total = joined_long w fs long in
      let less : min (length fs) c.n * w ≤ length fs * w = mul-le-mul_right w (omega arith) in
      front_taken (min (length fs) c.n) w (joined fs) one other (omega (arith, total, less))

  abbrev answer_by : Option Sense → Request → Answer
  answer_by (Some sense) q = refused u sense
  answer_by None q = carried_out u q [] labels out None

  by_request : (cdb : Cdb) (q : Request) (r : Option Sense) → first_of (refusals_of (shape_of u) cdb q [] labels (length out) (length one)) ≡ r → length one ≡ room_by u.size q →
      let a = answer_by r q in moved_by u.size q a.done out (at_front (joined a.sent) one) ≡ moved_by u.size q a.done out (at_front (joined a.sent) other)
  by_request cdb (Write c) r e l = refl
  by_request cdb (Verify c) r e l = refl
  by_request cdb (Read c) (Some sense) e l = nothing_taken (min 0 c.n) (sent_size c.protect u.size) _ _ (omega arith)
  by_request cdb (Read c) None e l = reads_alike c
      (comes_not (foreign_form (shape_of u) cdb) (no_tuples (shape_of u) c) (outside (shape_of u) (wire_address [] labels c) c.n ∷ moved_outside (shape_of u) (medium_address [] labels c) c.n ∷ wrong_room (length one) (bytes_of u.size c) ∷ []) e)
  by_request cdb (ReadCapacity len) (Some sense) e l = absurd (fits_room (length one) (min len 32) sense l e)
  by_request cdb (ReadCapacity len) None e l =
      let sent = take (min len 32) (capacity_data (shape_of u)) in
      let k : length (joined (sent ∷ [])) ≡ length one = length-append sent [] ∙ omega (arith, length-take-le (min len 32) (capacity_data (shape_of u)) (omega arith), l) in
      fills (joined (sent ∷ [])) one k ∙ sym (fills (joined (sent ∷ [])) other (k ∙ sym same))

  into_alike : (d : Result Cdb CdbFault) (r : Option Sense) → length one ≡ room_under u.size d → refusal (shape_of u) d [] labels (length out) (length one) ≡ r → let a = answer_unless r u d [] labels out None in
      moved_under u.size d a.done out (at_front (joined a.sent) one) ≡ moved_under u.size d a.done out (at_front (joined a.sent) other)
  unfolding refusal
  into_alike (Err fault) r l e = refl
  into_alike (Ok cdb) (Some sense) l e = by_request cdb (request_of cdb) (Some sense) e l
  into_alike (Ok cdb) None l e = by_request cdb (request_of cdb) None e l

  answers_alike : (cdb : List ℕ) → length one ≡ room_of u.size cdb → let a = target_answer u [] cdb labels out (length one) None in
      moved_under u.size (decoded cdb) a.done out (at_front (joined a.sent) one) ≡ moved_under u.size (decoded cdb) a.done out (at_front (joined a.sent) other)
  unfolding target_answer
  answers_alike cdb l = into_alike (decoded cdb) (refusal (shape_of u) (decoded cdb) [] labels (length out) (length one)) l refl

-- ---- one exchange

-- what is known of it, whatever bytes were sent
module _ (old new : RigState) (dev : ℕ) (cdb : List ℕ) (labels : List Label) (out before came : List ℕ) (o : Outcome) (us : List Stored) (x : Exchanged old new dev cdb labels out before came o) (units : old.units ≡ Some us) (armed : old.armed ≡ []) (calm : Calm old.faults new.faults)
    (stored : All (λ block. length {A = ℕ} block ≡ stored_size (unit_at us dev).ty (unit_at us dev).size) (unit_at us dev).blocks) (size : (spec_at old.standing dev).size ≡ (unit_at us dev).size) (room : length before ≡ room_of (spec_at old.standing dev).size cdb) where
  abbrev k : ℕ
  k = (spec_at old.standing dev).size

  -- its record, the answer, and the room filled with zeros
  abbrev pub entry : LogEntry
  entry = entry_of k dev cdb labels o out came

  abbrev pub mine : Answer
  mine = answer_with old.standing us labels out entry

  abbrev pub zeros : List ℕ
  zeros = replicate (room_of k cdb) 0

  abbrev told : Answer
  told = answer_of us old.armed dev cdb labels out (length before) None

  abbrev plain : Answer
  plain = answer_of us [] dev cdb labels out (length before) None

  first : told ≡ plain
  first = ap (λ (lines : List FaultLine). answer_of us lines dev cdb labels out (length before) None) armed

  last : plain ≡ mine
  last = ap (λ n. answer_of us [] dev cdb labels out n None) room

  pub outcome_is : o ≡ record { done = mine.done; sense = mine.sense }
  outcome_is = (x.calm us units calm).outcome ∙ ap (λ (y : Answer). record { done = y.done; sense = y.sense }) (first ∙ last)

  pub units_are : new.units ≡ Some (with_blocks us dev mine.blocks)
  units_are = (x.calm us units calm).units ∙ ap (λ (y : Answer). Some (with_blocks us dev y.blocks)) (first ∙ last)

  pub moved_is : moved_of k cdb o out came ≡ moved_of k cdb o out (at_front (joined mine.sent) zeros)
  moved_is =
      let unit = unit_at us dev in
      let done : o.done ≡ plain.done = ap (λ (y : Outcome). y.done) (x.calm us units calm).outcome ∙ ap (λ (y : Answer). y.done) first in
      let fill : (ys : List ℕ) → List ℕ = λ ys. at_front (joined plain.sent) ys in
      let put : (ys : List ℕ) → moved_of k cdb o out ys ≡ moved_under unit.size (decoded cdb) plain.done out ys =
      λ ys. ap (λ n. moved_under n (decoded cdb) o.done out ys) size ∙ ap (λ n. moved_under unit.size (decoded cdb) n out ys) done in
      let wide : length zeros ≡ length before = length-replicate (room_of k cdb) 0 ∙ sym room in
      let into : came ≡ fill before = (x.calm us units calm).into ∙ ap (λ (y : Answer). at_front (joined y.sent) before) first in
      ap (moved_of k cdb o out) into ∙ put (fill before) ∙ answers_alike unit labels out before zeros stored wide cdb (room ∙ ap (λ n. room_of n cdb) size) ∙ sym (put (fill zeros))
      ∙ ap (λ (y : Answer). moved_of k cdb o out (at_front (joined y.sent) zeros)) last

pub exchange_puts : ExchangePuts
exchange_puts old new dev cdb labels out before came o us x units armed calm stored size room frames =
    let m = mine old new dev cdb labels out before came o us x units armed calm stored size room in
    record {
      records = entry old new dev cdb labels out before came o us x units armed calm stored size room ∷ [];
      log = x.recorded;
      left = with_blocks us dev m.blocks;
      answered = (
        record {
          labels = labels;
          out = out;
          frames = frames;
          outcome = outcome_is old new dev cdb labels out before came o us x units armed calm stored size room;
          moved = moved_is old new dev cdb labels out before came o us x units armed calm stored size room;
        },
        refl,
      );
      units = units_are old new dev cdb labels out before came o us x units armed calm stored size room;
    }
