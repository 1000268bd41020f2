-- The stages of a block's way, with the alterations taken apart, and what is found in other data.
use Rattle.std.proofs.Common.{◌≡◌, ◌<◌, ℕ, ◌+◌, ◌^◌, Bool, true, false, not, ◌&&◌, ◌||◌, eqb, if◌then◌else◌, List, [], ◌∷◌, ◌++◌, length, Option, Some, None, refl, sym, ap, ◌∙◌}
use Rattle.std.specs.Prelude.{Result, Ok, Err}
use Rattle.std.proofs.lemmas.Bool.{ne_eqb}
use Rattle.pi_guard.specs.Guards.{guard_of}
use Rattle.pi_guard.specs.declared.GuardKind.{GuardKind}
use Rattle.pi_tuple.specs.Finds.{finding, first_of, has_ref_tag, is_escaped, is_zero}
use Rattle.pi_tuple.specs.Tuples.{ref_tag}
use Rattle.pi_tuple.specs.declared.tuple.Tuple.{Tuple}
use Rattle.pi_tuple.specs.declared.checks.PiType.{PiType}
use Rattle.pi_tuple.specs.declared.checks.PiType.TheVariants.{Zero, One, Two, Three}
use Rattle.pi_tuple.specs.declared.checks.Check.{Check}
use Rattle.pi_tuple.specs.declared.checks.Check.TheVariants.{AppTag, Guard, RefTag}
use Rattle.pi_tuple.specs.declared.checks.Checks.{Checks}
use Rattle.fault_schedule.specs.Altered.{altered}
use Rattle.fault_schedule.specs.declared.fault.Crossing.TheVariants.{AdapterToHost, AdapterToTarget, HostToAdapter, MediumToTarget, TargetToAdapter, TargetToMedium}
use Rattle.fault_schedule.specs.declared.fault.FaultLine.{FaultLine}
use Rattle.fault_schedule.proofs.Unaltered.{altered_none}
use Rattle.integrity_payload.specs.declared.payload.Owner.{Owner}
use Rattle.ref_remap.specs.Remapped.{remapped}
use Rattle.rig_api.specs.Frames.{data_of, frame_of, tuple_of}
use Rattle.rig_api.specs.Passing.{accepted, from_medium, released, then_crossed, to_medium, unless}
use Rattle.block_path.specs.declared.route.Route.{Route}
use Rattle.block_path.specs.Routes.{by_target, passage, target}
use Rattle.block_path.specs.WayIn.{Delivers, adapter_finds_in, at_host, delivered_unless, from_device, from_wire, mapped_back, owner_finds, received, verified, way_in}
use Rattle.block_path.specs.WayOut.{Stores, at_device, checked_out, from_adapter, to_wire}
use Rattle.walk_laws.proofs.CalmWays.{crossed_none, onto_medium, off_medium, off_wire}
use Rattle.walk_laws.proofs.TupleFrames.{Small, finds_in_frame}

-- ---- alterations apart

pub to-wire : (faults : List FaultLine) (r : Route) (frame : List ℕ) → to_wire faults r frame ≡ to_wire [] r (altered faults HostToAdapter r.label frame)
unfolding to_wire
to-wire faults r frame = ap (checked_out r) (sym (altered_none HostToAdapter r.label (altered faults HostToAdapter r.label frame)))

accepted-by : (faults : List FaultLine) (r : Route) (frame : List ℕ) → to_medium faults (passage [] r) frame ≡ then_crossed faults (Some r.label) TargetToMedium (accepted (passage [] r) (altered faults AdapterToTarget r.label frame))
unfolding to_medium
accepted-by faults r frame = refl

pub to-medium : (faults : List FaultLine) (r : Route) (frame : List ℕ) → to_medium faults (passage [] r) frame ≡ then_crossed faults (Some r.label) TargetToMedium (to_medium [] (passage [] r) (altered faults AdapterToTarget r.label frame))
to-medium faults r frame = accepted-by faults r frame ∙ ap (then_crossed faults (Some r.label) TargetToMedium) (sym (onto_medium r (altered faults AdapterToTarget r.label frame)))

released-by : (faults : List FaultLine) (r : Route) (frame : List ℕ) → from_medium faults (passage [] r) frame ≡ then_crossed faults (Some r.label) TargetToAdapter (released (passage [] r) (altered faults MediumToTarget r.label frame))
unfolding from_medium
released-by faults r frame = refl

pub from-medium : (faults : List FaultLine) (r : Route) (frame : List ℕ) → from_medium faults (passage [] r) frame ≡ then_crossed faults (Some r.label) TargetToAdapter (from_medium [] (passage [] r) (altered faults MediumToTarget r.label frame))
from-medium faults r frame = released-by faults r frame ∙ ap (then_crossed faults (Some r.label) TargetToAdapter) (sym (off_medium r (altered faults MediumToTarget r.label frame)))

handed-by : (faults : List FaultLine) (r : Route) (frame : List ℕ) → from_wire faults r frame ≡ then_crossed faults (Some r.label) AdapterToHost (unless (adapter_finds_in r frame) (received r frame))
unfolding from_wire
handed-by faults r frame = refl

pub from-wire : (faults : List FaultLine) (r : Route) (frame : List ℕ) → from_wire faults r frame ≡ then_crossed faults (Some r.label) AdapterToHost (from_wire [] r frame)
from-wire faults r frame = handed-by faults r frame ∙ ap (then_crossed faults (Some r.label) AdapterToHost) (sym (off_wire r frame))

-- ---- whole ways undone

pub record WentOut (r : Route) (mapped carried stored : List ℕ) : Type 0 where
  pub sent : to_wire [] r mapped ≡ Ok carried
  pub stores : to_medium [] (passage [] r) carried ≡ Ok stored

out-at : (r : Route) (mapped carried c s : List ℕ) (x : Result (List ℕ) Check) (y : Result (List ℕ) Check) → to_wire [] r mapped ≡ x → x ≡ Ok carried → to_medium [] (passage [] r) carried ≡ y → at_device carried (by_target y) ≡ Stores c s → WentOut r mapped c s
out-at r mapped carried c s x (Err k) p q t e = absurd (cc)
out-at r mapped carried c s x (Ok f) p q t e = record { sent = cc; stores = cc }

pub went-out : (r : Route) (mapped c s : List ℕ) → from_adapter (target []) r (to_wire [] r mapped) ≡ Stores c s → WentOut r mapped c s
went-out r mapped c s e = by (to_wire [] r mapped) refl e
  where
    by : (x : Result (List ℕ) Check) → to_wire [] r mapped ≡ x → from_adapter (target []) r x ≡ Stores c s → WentOut r mapped c s
    by (Err k) p e = absurd (cc)
    by (Ok carried) p e = out-at r mapped carried c s (Ok carried) (to_medium [] (passage [] r) carried) p refl refl e

pub record CameIn (r : Route) (owner : Owner) (stored c f : List ℕ) : Type 0 where
  pub sends : from_medium [] (passage [] r) stored ≡ Ok c
  pub hands : from_wire [] r c ≡ Ok (received r c)
  pub delivered : verified r owner (Delivers c (received r c)) ≡ Delivers c f

in-owned : (r : Route) (owner : Owner) (c c' g f : List ℕ) (x : Option Check) → delivered_unless owner c' g x ≡ Delivers c f → c' ≡ c
in-owned r owner c c' g f (Some k) e = absurd (cc)
in-owned r owner c c' g f None e = cc

in-carried : (r : Route) (owner : Owner) (c c' f : List ℕ) (x : Option Check) → adapter_finds_in r c' ≡ x → verified r owner (at_host c' (unless x (received r c'))) ≡ Delivers c f →
    (c' ≡ c) × (from_wire [] r c' ≡ Ok (received r c')) × (verified r owner (Delivers c' (received r c')) ≡ Delivers c f)
in-carried r owner c c' f (Some k) p e = absurd (cc)
in-carried r owner c c' f None p e =
    (in-owned r owner c c' (mapped_back r (received r c')) f (owner_finds r (mapped_back r (received r c'))) e, off_wire r c' ∙ ap (λ o. unless o (received r c')) p, e)

pub came-in : (r : Route) (owner : Owner) (stored c f : List ℕ) → way_in [] (target []) r owner stored ≡ Delivers c f → CameIn r owner stored c f
came-in r owner stored c f e = by (from_medium [] (passage [] r) stored) refl e
  where
    by : (x : Result (List ℕ) Check) → from_medium [] (passage [] r) stored ≡ x → verified r owner (from_device [] r (by_target x)) ≡ Delivers c f → CameIn r owner stored c f
    by (Err k) p e = absurd (cc)
    by (Ok c') p e =
        let w = in-carried r owner c c' f (adapter_finds_in r c') refl (ap (λ v. verified r owner (at_host c' v)) (sym (off_wire r c')) ∙ e) in
        record {
          sends = p ∙ ap (λ v. Ok v) w.0;
          hands = ap (λ v. from_wire [] r v) (sym w.0) ∙ w.1 ∙ ap (λ v. Ok (received r v)) w.0;
          delivered = ap (λ v. verified r owner (Delivers v (received r v))) (sym w.0) ∙ w.2;
        }

-- ---- what is found in other data

guard-first : (z s g : Bool) (a r : Bool) (t : Bool) → z ≡ false → s ≡ false → g ≡ true → t ≡ false →
    (if z || s then None else first_of (record { check = Guard; differs = g && not t } ∷ record { check = AppTag; differs = a } ∷ record { check = RefTag; differs = r } ∷ [])) ≡ Some Guard
guard-first z s g a r t p q u v = rw (p, q, u, v) refl

pub finds-guard : (size : ℕ) (kind : GuardKind) (ty : PiType) (what : Checks) (want : ℕ) (body : List ℕ) (t : Tuple) → length body ≡ size → Small t → is_zero ty ≡ false → is_escaped ty t ≡ false → what.guard ≡ true → (t.guard ≡ guard_of kind body → ⊥) →
    finding ty what want (guard_of kind (data_of size (frame_of body t))) (tuple_of size (frame_of body t)) ≡ Some Guard
finds-guard size kind ty what want body t l s z e g ne =
    finds_in_frame size body t l s kind ty what want
    ∙ guard-first (is_zero ty) (is_escaped ty t) what.guard _ _ (eqb t.guard (guard_of kind body)) z e g (ne_eqb t.guard (guard_of kind body) ne)

-- ---- tuples that are no escapes

mapped-open : (c : Bool) (t : Tuple) (n : ℕ) → eqb t.app 0xFFFF ≡ false → eqb (if c then record { guard = t.guard; app = t.app; rtag = n } else t).app 0xFFFF ≡ false
mapped-open true t n h = h
mapped-open false t n h = h

pub open-mapped : (ty : PiType) (from to : ℕ) (t : Tuple) → is_escaped ty t ≡ false → is_escaped ty (remapped ty from to t) ≡ false
open-mapped Zero from to t h = refl
open-mapped One from to t h = mapped-open (eqb t.rtag (ref_tag from)) t (ref_tag to) h
open-mapped Two from to t h = mapped-open (eqb t.rtag (ref_tag from)) t (ref_tag to) h
open-mapped Three from to t h = h

pub guard-mapped : (ty : PiType) (from to : ℕ) (t : Tuple) → ((remapped ty from to t).guard ≡ t.guard) × ((remapped ty from to t).app ≡ t.app)
guard-mapped ty from to t = by (has_ref_tag ty && eqb t.rtag (ref_tag from))
  where
    by : (c : Bool) → let u : Tuple = (if c then record { guard = t.guard; app = t.app; rtag = ref_tag to } else t) in (u.guard ≡ t.guard) × (u.app ≡ t.app)
    by true = (refl, refl)
    by false = (refl, refl)

pub rtag-mapped : (ty : PiType) (from to : ℕ) (t : Tuple) → ref_tag to < 2 ^ 32 → t.rtag < 2 ^ 32 → (remapped ty from to t).rtag < 2 ^ 32
rtag-mapped ty from to t p q = by (has_ref_tag ty && eqb t.rtag (ref_tag from))
  where
    by : (c : Bool) → let u : Tuple = (if c then record { guard = t.guard; app = t.app; rtag = ref_tag to } else t) in u.rtag < 2 ^ 32
    by true = p
    by false = q
