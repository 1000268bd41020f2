-- What a target stores and sends has its size.
use Rattle.std.proofs.Common.{◌≡◌, ◌<◌, ◌+◌, ℕ, Bool, true, false, ◌&&◌, eqb, if◌then◌else◌, List, [], length, take, get_or, Option, Some, refl, sym, subst, ◌∙◌, arith, length-append}
use Rattle.std.specs.Prelude.{not, IfOk, Result, Ok, Err}
use Rattle.std.proofs.lemmas.Bool.{eq-eqb, eqb-true}
use Rattle.std.proofs.lemmas.List.{length-take-le}
use Rattle.pi_guard.specs.Guards.{crc}
use Rattle.pi_tuple.specs.Finds.{is_zero, own_tag}
use Rattle.pi_tuple.specs.Tuples.{tuple_bytes}
use Rattle.pi_tuple.specs.declared.checks.Check.{Check}
use Rattle.pi_tuple.specs.declared.checks.PiType.{PiType}
use Rattle.pi_tuple.specs.declared.checks.PiType.TheVariants.{Zero, One, Two, Three}
use Rattle.fault_schedule.specs.Altered.{fails_of, kept}
use Rattle.fault_schedule.specs.declared.Label.{Label}
use Rattle.fault_schedule.specs.declared.fault.Crossing.{Crossing}
use Rattle.fault_schedule.specs.declared.fault.Crossing.TheVariants.{AdapterToTarget, MediumToTarget, TargetToAdapter, TargetToMedium}
use Rattle.fault_schedule.specs.declared.fault.FaultLine.{FaultLine}
use Rattle.walk_laws.specs.Passed.{data_of, stored_size, accepted, crossed, found_in, from_medium, released, then_crossed, to_medium, unless, with_own_tuple, Passage, fetched_cell, stored_cell, Device, by_target, passage, passes_tuples, target, told_by, wire_size, Route, Why}
use Rattle.walk_laws.proofs.Passed.{kept_length, sent_or, stored_least, stored_or, unless_length, crossed_length}
use Rattle.walk_laws.specs.Settings.{Block, Setting, route}
use Rattle.run_laws.specs.BoundRun.{Suits}
use Rattle.run_laws.specs.Suited.{IsAtTarget, keeps_size}

made_length : (ty : PiType) (lba : ℕ) (bytes : List ℕ) (size : ℕ) → length bytes ≡ size → length (with_own_tuple ty lba bytes) ≡ stored_size ty size
made_length Zero lba bytes size h = h
made_length One lba bytes size h = let e = length-append bytes (tuple_bytes (record { guard = crc bytes; app = 0; rtag = own_tag One lba })) in omega (arith, e, h)
made_length Two lba bytes size h = let e = length-append bytes (tuple_bytes (record { guard = crc bytes; app = 0; rtag = own_tag Two lba })) in omega (arith, e, h)
made_length Three lba bytes size h = let e = length-append bytes (tuple_bytes (record { guard = crc bytes; app = 0; rtag = own_tag Three lba })) in omega (arith, e, h)

then_length : (faults : List FaultLine) (label : Option Label) (at : Crossing) (came : Result (List ℕ) Check) (n : ℕ) → IfOk came (λ x. length x ≡ n) → IfOk (by_target (then_crossed faults label at came)) (λ x. length x ≡ n)
then_length faults label at (Ok frame) n h = crossed_length faults label at frame ∙ h
then_length faults label at (Err check) n h = tt

accepted_length : (p : Passage) (frame : List ℕ) (n : ℕ) → (eqb p.protect 0 ≡ true → length (with_own_tuple p.ty p.lba frame) ≡ n) → (eqb p.protect 0 ≡ false → length frame ≡ n) → IfOk (accepted p frame) (λ x. length x ≡ n)
accepted_length p frame n own whole = by (eqb p.protect 0) own whole where
  by : (c : Bool) → (c ≡ true → length (with_own_tuple p.ty p.lba frame) ≡ n) → (c ≡ false → length frame ≡ n) → IfOk (if c then Ok (with_own_tuple p.ty p.lba frame) else unless (found_in p frame) frame) (λ x. length x ≡ n)
  by true own whole = own refl
  by false own whole = unless_length (found_in p frame) frame n (whole refl)

released_length : (p : Passage) (frame : List ℕ) (n : ℕ) → (eqb p.protect 0 ≡ true → length (take p.size frame) ≡ n) → (eqb p.protect 0 ≡ false → length frame ≡ n) → IfOk (released p frame) (λ x. length x ≡ n)
released_length p frame n own whole = unless_length (found_in p frame) (if eqb p.protect 0 then data_of p.size frame else frame) n (by (eqb p.protect 0) own whole) where
  by : (c : Bool) → (c ≡ true → length (take p.size frame) ≡ n) → (c ≡ false → length frame ≡ n) → length (if c then data_of p.size frame else frame) ≡ n
  by true own whole = own refl
  by false own whole = whole refl

-- the wire's size and the stored one, by the protect field
record BySize (passes : Bool) (ty : PiType) (size protect : ℕ) : Type 0 where
  own : eqb (if passes then protect else 0) 0 ≡ true → (if passes then size + 8 else size) ≡ size
  whole : eqb (if passes then protect else 0) 0 ≡ false → ((if passes then size + 8 else size) ≡ size + 8) × (stored_size ty size ≡ size + 8)

no : {P : Type 0} → true ≡ false → P
no h = absurd (grind (arith, h))

no_field : (ty : PiType) (size protect : ℕ) → BySize false ty size protect
no_field ty size protect = record { own = λ e. refl; whole = λ e. no e }

with_field : (ty : PiType) (size protect : ℕ) → 0 < protect → stored_size ty size ≡ size + 8 → BySize true ty size protect
with_field ty size protect l h = record { own = λ e. let z = eqb-true protect 0 e in absurd (omega (arith, z, l)); whole = λ e. (refl, h) }

by_size : (ty : PiType) (dif : Bool) (size protect : ℕ) → 0 < protect → BySize (dif && not (is_zero ty)) ty size protect
by_size ty false size protect l = no_field ty size protect
by_size Zero true size protect l = no_field Zero size protect
by_size One true size protect l = with_field One size protect l refl
by_size Two true size protect l = with_field Two size protect l refl
by_size Three true size protect l = with_field Three size protect l refl

module _ (faults : List FaultLine) (r : Route) (l : 0 < r.mode.protect) where
  abbrev sizes : BySize (passes_tuples r) r.ty r.size r.mode.protect
  sizes = by_size r.ty r.mode.dif r.size r.mode.protect l

  pub stores_length : (frame : List ℕ) → length frame ≡ wire_size r → IfOk ((target faults).stores r frame) (λ x. length x ≡ stored_size r.ty r.size)
  unfolding to_medium
  stores_length frame h =
      let p = passage faults r in
      let f = crossed faults (Some r.label) AdapterToTarget frame in
      let e = crossed_length faults (Some r.label) AdapterToTarget frame in
      stored_or (λ came. IfOk came (λ x. length x ≡ stored_size r.ty r.size)) (λ why. tt) (fails_of faults r.label) (by_target (then_crossed faults (Some r.label) TargetToMedium (accepted p f)))
      (then_length faults (Some r.label) TargetToMedium (accepted p f) (stored_size r.ty r.size)
      (accepted_length p f (stored_size r.ty r.size)
      (λ q. made_length r.ty p.lba f r.size (e ∙ h ∙ sizes.own q))
      (λ q. e ∙ h ∙ (sizes.whole q).0 ∙ sym (sizes.whole q).1)))

  pub sends_length : (stored : List ℕ) → length stored ≡ stored_size r.ty r.size → IfOk ((target faults).sends r stored) (λ x. length x ≡ wire_size r)
  unfolding from_medium
  sends_length stored h =
      let p = passage faults r in
      let f = crossed faults (Some r.label) MediumToTarget stored in
      let e = crossed_length faults (Some r.label) MediumToTarget stored in
      let least = stored_least r.ty r.size in
      sent_or (λ came. IfOk came (λ x. length x ≡ wire_size r)) tt (fails_of faults r.label) (by_target (then_crossed faults (Some r.label) TargetToAdapter (released p f)))
      (then_length faults (Some r.label) TargetToAdapter (released p f) (wire_size r)
      (released_length p f (wire_size r)
      (λ q. length-take-le r.size f (omega (arith, e, h, least)) ∙ sym (sizes.own q))
      (λ q. e ∙ h ∙ (sizes.whole q).1 ∙ sym (sizes.whole q).0)))

is_fine : (came : Result (List ℕ) Why) (n k : ℕ) → n ≡ k → IfOk came (λ x. length x ≡ n) → IfOk came (λ x. eqb (length x) k ≡ true)
is_fine (Ok x) n k e h = eq-eqb (length x) k (h ∙ e)
is_fine (Err why) n k e h = tt

pub suits_target : (m : Setting) (opening : List (List ℕ)) (b : Block) → IsAtTarget m opening b → Suits m (keeps_size opening) b
suits_target m opening b h =
    let r = route m b in
    record {
      stores = λ frame e. subst (λ (d : Device). IfOk (d.stores r frame) (λ x. keeps_size opening (stored_cell m.site r) x ≡ true)) (sym h.device)
          (is_fine ((target m.site.faults).stores r frame) (stored_size m.ty m.size) (length (get_or opening (stored_cell m.site r) [])) (sym h.stored) (stores_length m.site.faults r h.protect frame e));
      leaves = λ old frame o f. subst (λ (d : Device). keeps_size opening (stored_cell m.site r) (d.leaves r old frame) ≡ true) (sym h.device)
          (let size = length (get_or opening (stored_cell m.site r) []) in
          eq-eqb (length (kept m.site.faults r.label old frame)) size (kept_length m.site.faults r.label old frame size (eqb-true (length old) size o) (eqb-true (length frame) size f)));
      sends = λ stored e. subst (λ (d : Device). IfOk (d.sends r stored) (λ x. length x ≡ wire_size r)) (sym h.device)
          (sends_length m.site.faults r h.protect stored (eqb-true (length stored) (length (get_or opening (fetched_cell m.site r) [])) e ∙ h.fetched));
    }

pub fine_always : (came : Result (List ℕ) Why) → IfOk came (λ x. true ≡ true)
fine_always (Ok x) = refl
fine_always (Err why) = tt

pub suits_record : (m : Setting) (came : Label → Result (List ℕ) Why) (b : Block) → m.site.device ≡ told_by came → IfOk (came (route m b).label) (λ frame. length frame ≡ wire_size (route m b)) → Suits m (λ c block. true) b
suits_record m came b h k =
    let r = route m b in
    record {
      stores = λ frame e. subst (λ (d : Device). IfOk (d.stores r frame) (λ x. true ≡ true)) (sym h) (fine_always (came r.label));
      leaves = λ old frame o f. refl;
      sends = λ stored e. subst (λ (d : Device). IfOk (d.sends r stored) (λ x. length x ≡ wire_size r)) (sym h) k;
    }
