-- What a unit answers to a VERIFY, and what a look finds by it.
use Rattle.std.proofs.Common.{ℕ, zero, suc, ◌≡◌, ◌+◌, ◌-◌, ◌^◌, ◌≤◌, Bool, true, false, ltb, leb, List, [], ◌∷◌, ◌++◌, length, take, drop, Option, Some, None, refl, sym, ap, subst, ◌∙◌, arith, length-take-le, length-drop}
use Rattle.std.specs.Prelude.{Result, Ok, Err, if◌then◌else◌, is_some}
use Rattle.std.proofs.lemmas.Bool.{le-leb}
use Rattle.pi_tuple.specs.declared.checks.Check.{Check}
use Rattle.pi_tuple.specs.declared.checks.PiType.{PiType}
use Rattle.pi_tuple.specs.declared.checks.PiType.TheVariants.{Zero, One, Two, Three}
use Rattle.cdb_codec.specs.Forms.{Fits, form}
use Rattle.cdb_codec.specs.Rule.{untagged}
use Rattle.cdb_codec.specs.declared.command.Cdb.{Cdb}
use Rattle.cdb_codec.specs.declared.command.Cdb.TheVariants.{Verify10, Verify16}
use Rattle.cdb_codec.specs.declared.command.CdbFault.{CdbFault}
use Rattle.cdb_codec.specs.declared.command.Rw.{Rw}
use Rattle.cdb_codec.proofs.Inverse.{decoded_form}
use Rattle.sense_codes.specs.declared.Sense.{Sense}
use Rattle.fault_schedule.specs.declared.fault.FaultLine.{FaultLine}
use Rattle.rig_api.specs.Passing.{found_in, from_medium}
use Rattle.rig_api.specs.Target.{Answer, Flaw, Found, Stop, Stored, answer_unless, each, first_sense, keeping, off_medium, passage, passed, read_by, refusal, shape_of, stored_from, target_answer, whole}
use Rattle.rig_api.proofs.FrameLaws.{unless_crossed, unless_found}
use Rattle.rig_api.specs.Telling.{IsAnswer, Standing, answer_of, unit_at, units_told, with_blocks}
use Rattle.rig_api.specs.declared.rig.Outcome.{Outcome}
use Rattle.rig_api.proofs.UnitLaws.{own_blocks}
use Rattle.block_path.proofs.PathLaws.{check_named}
use Rattle.pi_scrub.specs.Faults.{faults_from, listed, stored_finding}
use Rattle.pi_scrub.specs.Looks.{found_at, protect_for, settled, verify_of}
use Rattle.pi_scrub.specs.Steps.{IsWithinUnit}
use Rattle.pi_scrub.proofs.Joining.{settled_most}
use Rattle.rig_discovery.proofs.Telling.{same_units}
use Rattle.small_laws.proofs.Tests.{ltb_suc}

abbrev pub by_form : Bool → Rw → Cdb
by_form b c = if b then Verify10 c else Verify16 c

abbrev judge : List FaultLine → PiType → (blocks size first lba n : ℕ) → ℕ → List ℕ → Result (List ℕ) Flaw
judge armed ty blocks size first lba n k frame = off_medium armed (passage (record { ty = ty; blocks = blocks; size = size; first = first }) (untagged lba n (protect_for ty)) lba [] k) frame

judged_is : (armed : List FaultLine) (ty : PiType) (blocks size first lba n k : ℕ) (frame : List ℕ) → (sent : List ℕ) × (judge armed ty blocks size first lba n k frame ≡ unless_found (stored_finding ty size (lba + k) frame) sent)
unfolding from_medium found_in
judged_is armed Zero blocks size first lba n k frame = (_, unless_crossed armed (stored_finding Zero size (lba + k) frame) _)
judged_is armed One blocks size first lba n k frame = (_, unless_crossed armed (stored_finding One size (lba + k) frame) _)
judged_is armed Two blocks size first lba n k frame = (_, unless_crossed armed (stored_finding Two size (lba + k) frame) _)
judged_is armed Three blocks size first lba n k frame = (_, unless_crossed armed (stored_finding Three size (lba + k) frame) _)

found_shift : (dev l m d : ℕ) (s : Option Sense) → found_at dev l (suc m) (record { done = suc d; sense = s }) ≡ found_at dev (l + 1) m (record { done = d; sense = s })
found_shift dev l m d s = let e : l + suc d ≡ l + 1 + d = omega arith in rw (ltb_suc d m, e) refl

settled_shift : (m d : ℕ) → settled (suc m) (suc d) ≡ suc (settled m d)
settled_shift m d = rw (ltb_suc d m) (by (ltb d m))
  where
    by : (b : Bool) → (if b then suc d + 1 else suc m) ≡ suc (if b then d + 1 else m)
    by true = omega arith
    by false = refl

abbrev ended : List (Result (List ℕ) Flaw) → ℕ → Outcome
ended js l = record { done = length (passed js); sense = first_sense l js }

bad_one : (ty : PiType) (size dev l : ℕ) (frame : List ℕ) (frames : List (List ℕ)) (c : Check) (rest : List (Result (List ℕ) Flaw)) → stored_finding ty size l frame ≡ Some c →
    found_at dev l (suc (length frames)) (ended (Err (Found c) ∷ rest) l) ≡ faults_from ty size dev l (take (settled (suc (length frames)) 0) (frame ∷ frames))
bad_one ty size dev l frame frames c rest y =
    let t : ltb 0 (suc (length frames)) ≡ true = grind arith in
    let z : l + 0 ≡ l = omega arith in
    rw (t, y, z, check_named c l) refl

one_judged : (ty : PiType) (size dev l : ℕ) (frame sent : List ℕ) (frames : List (List ℕ)) (y : Option Check) (j : Result (List ℕ) Flaw) (rest : List (Result (List ℕ) Flaw)) → j ≡ unless_found y sent → stored_finding ty size l frame ≡ y →
    found_at dev (l + 1) (length frames) (ended rest (l + 1)) ≡ faults_from ty size dev (l + 1) (take (settled (length frames) (length (passed rest))) frames) →
    found_at dev l (suc (length frames)) (ended (j ∷ rest) l) ≡ faults_from ty size dev l (take (settled (suc (length frames)) (length (passed (j ∷ rest)))) (frame ∷ frames))
one_judged ty size dev l frame sent frames None j rest e y more =
    rw e (found_shift dev l (length frames) (length (passed rest)) (first_sense (l + 1) rest) ∙ more
    ∙ ap (λ x. listed dev l x ++ faults_from ty size dev (l + 1) (take (settled (length frames) (length (passed rest))) frames)) (sym y)
    ∙ ap (λ n. faults_from ty size dev l (take n (frame ∷ frames))) (sym (settled_shift (length frames) (length (passed rest)))))
one_judged ty size dev l frame sent frames (Some c) j rest e y more = rw e (bad_one ty size dev l frame frames c rest y)

judged_walk : (armed : List FaultLine) (ty : PiType) (blocks size first lba n dev : ℕ) (frames : List (List ℕ)) (k l : ℕ) → l ≡ lba + k →
    found_at dev l (length frames) (ended (each (judge armed ty blocks size first lba n) k frames) l)
    ≡ faults_from ty size dev l (take (settled (length frames) (length (passed (each (judge armed ty blocks size first lba n) k frames)))) frames)
judged_walk armed ty blocks size first lba n dev [] k l e = refl
judged_walk armed ty blocks size first lba n dev (frame ∷ frames) k l e =
    let j = judged_is armed ty blocks size first lba n k frame in
    one_judged ty size dev l frame j.0 frames (stored_finding ty size (lba + k) frame) (judge armed ty blocks size first lba n k frame) (each (judge armed ty blocks size first lba n) (k + 1) frames) j.1
    (ap (λ a. stored_finding ty size a frame) e) (judged_walk armed ty blocks size first lba n dev frames (k + 1) (l + 1) (omega (arith, e)))

take_both : {X : Type 0} (a b : ℕ) (xs : List X) → a ≤ b → take a (take b xs) ≡ take a xs
take_both zero b xs l = refl
take_both (suc a) zero xs l = absurd (omega arith)
take_both (suc a) (suc b) [] l = refl
take_both (suc a) (suc b) (x ∷ xs) l = ap (λ v. x ∷ v) (take_both a b xs (omega arith))

-- the command isn't refused
not_refused : (armed : List FaultLine) (ty : PiType) (blocks size first lba n : ℕ) (b : Bool) → leb first lba ≡ true → leb (lba + n) (first + blocks) ≡ true →
    refusal (record { ty = ty; blocks = blocks; size = size; first = first }) (Ok (by_form b (untagged lba n (protect_for ty)))) armed [] 0 0 ≡ None
unfolding refusal
not_refused armed Zero blocks size first lba n true p q = rw (p, q) refl
not_refused armed One blocks size first lba n true p q = rw (p, q) refl
not_refused armed Two blocks size first lba n true p q = rw (p, q) refl
not_refused armed Three blocks size first lba n true p q = rw (p, q) refl
not_refused armed Zero blocks size first lba n false p q = rw (p, q) refl
not_refused armed One blocks size first lba n false p q = rw (p, q) refl
not_refused armed Two blocks size first lba n false p q = rw (p, q) refl
not_refused armed Three blocks size first lba n false p q = rw (p, q) refl

looked_over : (armed : List FaultLine) (u : Stored) (lba n : ℕ) (b : Bool) → answer_unless None u (Ok (by_form b (untagged lba n (protect_for u.ty)))) armed [] [] None
    ≡ keeping u.blocks (whole lba (read_by (shape_of u) (untagged lba n (protect_for u.ty)) lba armed [] (stored_from u lba n)))
looked_over armed u lba n true = refl
looked_over armed u lba n false = refl

answer_is : (armed : List FaultLine) (u : Stored) (lba n : ℕ) → Fits (verify_of u.ty lba n) → IsWithinUnit u.ty lba n u → target_answer u armed (form (verify_of u.ty lba n)) [] [] 0 None
    ≡ keeping u.blocks (whole lba (read_by (shape_of u) (untagged lba n (protect_for u.ty)) lba armed [] (stored_from u lba n)))
unfolding target_answer
answer_is armed u lba n f w =
    let r = not_refused armed u.ty (length u.blocks) u.size u.first lba n (leb (lba + n) (2 ^ 32)) (le-leb u.first lba w.above) (le-leb (lba + n) (u.first + length u.blocks) w.below) in
    ap (λ (c : Result Cdb CdbFault). answer_unless (refusal (shape_of u) c armed [] 0 0) u c armed [] [] None) (decoded_form (verify_of u.ty lba n) f)
    ∙ ap (λ (x : Option Sense). answer_unless x u (Ok (verify_of u.ty lba n)) armed [] [] None) r ∙ looked_over armed u lba n (leb (lba + n) (2 ^ 32))

-- a calm look at a told unit
unit_looked : (armed : List FaultLine) (u : Stored) (dev lba n : ℕ) (o : Outcome) → Fits (verify_of u.ty lba n) → IsWithinUnit u.ty lba n u → o ≡ record { done = (target_answer u armed (form (verify_of u.ty lba n)) [] [] 0 None).done; sense = (target_answer u armed (form (verify_of u.ty lba n)) [] [] 0 None).sense } →
    found_at dev lba n o ≡ faults_from u.ty u.size dev lba (take (settled n o.done) (drop (lba - u.first) u.blocks))
unit_looked armed u dev lba n o f w e =
    let js = read_by (shape_of u) (untagged lba n (protect_for u.ty)) lba armed [] (stored_from u lba n) in
    let same : o ≡ ended js lba = e ∙ ap (λ (a : Answer). record { done = a.done; sense = a.sense }) (answer_is armed u lba n f w) in
    let d = length-drop (lba - u.first) u.blocks in
    let len : length (stored_from u lba n) ≡ n = length-take-le n (drop (lba - u.first) u.blocks) (omega (arith, d, w.above, w.below)) in
    let walk = judged_walk armed u.ty (length u.blocks) u.size u.first lba n dev (stored_from u lba n) 0 lba (omega arith) in
    ap (found_at dev lba n) same ∙ ap (λ m. found_at dev lba m (ended js lba)) (sym len) ∙ walk
    ∙ ap (λ m. faults_from u.ty u.size dev lba (take (settled m (length (passed js))) (stored_from u lba n))) len
    ∙ ap (faults_from u.ty u.size dev lba) (take_both (settled n (length (passed js))) n (drop (lba - u.first) u.blocks) (settled_most n (length (passed js))))
    ∙ ap (λ (v : Outcome). faults_from u.ty u.size dev lba (take (settled n v.done) (drop (lba - u.first) u.blocks))) (sym same)

pub told_looked : (armed : List FaultLine) (us : List Stored) (dev lba n : ℕ) (ty : PiType) (o : Outcome) (told : Option (List Stored)) (before after : List ℕ) → Fits (verify_of ty lba n) → IsWithinUnit ty lba n (unit_at us dev) →
    IsAnswer (answer_of us armed dev (form (verify_of ty lba n)) [] [] 0 None) us dev o told before after → found_at dev lba n o ≡ faults_from ty (unit_at us dev).size dev lba (take (settled n o.done) (drop (lba - (unit_at us dev).first) (unit_at us dev).blocks))
told_looked armed us dev lba n ty o told before after f w a = with_type (unit_at us dev) ty f w a.outcome
  where
    with_type : (u : Stored) (t : PiType) → Fits (verify_of t lba n) → IsWithinUnit t lba n u → o ≡ record { done = (target_answer u armed (form (verify_of t lba n)) [] [] 0 None).done; sense = (target_answer u armed (form (verify_of t lba n)) [] [] 0 None).sense } →
        found_at dev lba n o ≡ faults_from t u.size dev lba (take (settled n o.done) (drop (lba - u.first) u.blocks))
    with_type u t f w e =
        let P : PiType → Type 0 = λ v. (Fits (verify_of v lba n) → o ≡ record { done = (target_answer u armed (form (verify_of v lba n)) [] [] 0 None).done; sense = (target_answer u armed (form (verify_of v lba n)) [] [] 0 None).sense } →
        found_at dev lba n o ≡ faults_from v u.size dev lba (take (settled n o.done) (drop (lba - u.first) u.blocks))) in
        subst P w.type_is (λ f' e'. unit_looked armed u dev lba n o f' (record { type_is = refl; above = w.above; below = w.below }) e') f e

-- no look changes a block
kept : (u : Stored) (armed : List FaultLine) (b : Bool) (c : Rw) (stop : Option Stop) (sense : Option Sense) → (answer_unless sense u (Ok (by_form b c)) armed [] [] stop).blocks ≡ u.blocks
kept u armed true c stop None = refl
kept u armed true c stop (Some s) = refl
kept u armed false c stop None = refl
kept u armed false c stop (Some s) = refl

blocks_kept : (u : Stored) (armed : List FaultLine) (ty : PiType) (lba n room : ℕ) (stop : Option Stop) → Fits (verify_of ty lba n) → (target_answer u armed (form (verify_of ty lba n)) [] [] room stop).blocks ≡ u.blocks
unfolding target_answer
blocks_kept u armed ty lba n room stop f =
    ap (λ (c : Result Cdb CdbFault). (answer_unless (refusal (shape_of u) c armed [] 0 room) u c armed [] [] stop).blocks) (decoded_form (verify_of ty lba n) f)
    ∙ kept u armed (leb (lba + n) (2 ^ 32)) (untagged lba n (protect_for ty)) stop (refusal (shape_of u) (Ok (verify_of ty lba n)) armed [] 0 room)

stays : (us : List Stored) (armed : List FaultLine) (dev lba n : ℕ) (ty : PiType) (o : Outcome) (told : Option (List Stored)) (stop : Option Stop) (before after : List ℕ) → Fits (verify_of ty lba n) →
    IsAnswer (answer_of us armed dev (form (verify_of ty lba n)) [] [] 0 stop) us dev o told before after → told ≡ Some us
stays us armed dev lba n ty o told stop before after f a =
    a.units ∙ ap (λ (v : List (List ℕ)). Some (with_blocks us dev v)) (blocks_kept (unit_at us dev) armed ty lba n 0 stop f) ∙ ap (λ (v : List Stored). Some v) (own_blocks us dev)

pub units_stay : (s s' : Standing) (armed : List FaultLine) (dev lba n : ℕ) (ty : PiType) (a b : Option (List ℕ)) (old new : Option (List Stored)) (o : Outcome) (before after : List ℕ) → s' ≡ s → old ≡ units_told s a → new ≡ units_told s' b → is_some b ≡ is_some a → Fits (verify_of ty lba n) →
    ((us : List Stored) → old ≡ Some us → (stop : Option Stop) × IsAnswer (answer_of us armed dev (form (verify_of ty lba n)) [] [] 0 stop) us dev o new before after) → new ≡ old
units_stay s s' armed dev lba n ty a b old new o before after same p q t f said =
    same_units s a b old new p (q ∙ ap (λ (v : Standing). units_told v b) same) t (λ us e. (let k = said us e in stays us armed dev lba n ty o new k.0 before after f k.1))
