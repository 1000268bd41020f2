-- One block of a write: what is accepted has the application tag that is expected, and where no line alters it and the medium stores it, that suffices.
use Rattle.std.proofs.Common.{◌≡◌, ℕ, true, false, eqb, ◌&&◌, ◌||◌, not, if◌then◌else◌, List, Some, None, sym, ap, subst, ◌∙◌}
use Rattle.std.specs.Prelude.{Result, Ok, Err}
use Rattle.std.proofs.lemmas.Bool.{and_from, and_parts, eq-eqb, not-true}
use Rattle.pi_guard.specs.Guards.{crc, guard_of}
use Rattle.pi_guard.specs.declared.GuardKind.{GuardKind}
use Rattle.pi_tuple.specs.Finds.{finding, is_escaped}
use Rattle.pi_tuple.specs.Tuples.{ref_tag}
use Rattle.pi_tuple.specs.declared.tuple.Tuple.{Tuple}
use Rattle.pi_tuple.specs.declared.checks.Check.{Check}
use Rattle.pi_tuple.specs.declared.checks.PiType.TheVariants.{One}
use Rattle.fault_schedule.specs.declared.fault.Crossing.{Crossing}
use Rattle.fault_schedule.specs.declared.fault.Crossing.TheVariants.{AdapterToHost, AdapterToTarget, HostToAdapter, MediumToTarget, TargetToAdapter, TargetToMedium}
use Rattle.fault_schedule.specs.Altered.{fails_of}
use Rattle.integrity_payload.specs.Payloads.{all_asked}
use Rattle.bio_core.specs.declared.fate.Why.{Why}
use Rattle.rig_api.specs.Frames.{data_of, tuple_of}
use Rattle.rig_api.specs.Passing.{found_in, then_crossed, to_medium, unless}
use Rattle.block_path.specs.Routes.{by_target, passage, stores_unless, wire_lba}
use Rattle.block_path.specs.WayIn.{received}
use Rattle.block_path.specs.WayOut.{Fails, Refuses, Stores, WayOut, adapter_finds_out, at_device, from_adapter, mapped_out, sent, to_wire, way_out}
use Rattle.walk_laws.specs.Detectable.{arrives, bears, crossed, found, guard_at, if_passed, is_foreign, is_not_meant, shows, shows_at_medium, shows_in, shows_on_wire, shows_out}
use Rattle.walk_laws.specs.FirstLayer.{AtAdapter, AtTarget, has_flip, has_shift, is_served}
use Rattle.walk_laws.specs.PlainMap.{as_expected}
use Rattle.walk_laws.specs.Settings.{Block, Setting, route}
use Rattle.walk_laws.proofs.TagLaws.{passed_all}
use Rattle.mirror_laws.specs.OneGood.{IsUnnamed}
use Rattle.run_laws.proofs.Found.{Bears, expected, from_both, passed, passes_if, unless_rule, unmasked}
use Rattle.run_laws.proofs.Framed.{mapped_body, mapped_length, mapped_tuple}
use Rattle.run_laws.proofs.Layers.{IsBare, checked, found_is, no_flip, sent_under, unaltered}

pub record IsStored (w : WayOut) : Type 0 where
  pub carried : List ℕ
  pub stored : List ℕ
  pub is : w ≡ Stores carried stored

module _ (m' : Setting) (b : Block) where
  abbrev m : Setting
  m = checked m'

  abbrev n : ℕ
  n = m'.size

  abbrev kind : GuardKind
  kind = m'.mode.kind

  abbrev app : ℕ
  app = m'.mode.app

  abbrev mask : ℕ
  mask = m'.mode.mask

  abbrev lba : ℕ
  lba = (route m b).lba

  abbrev wants : List ℕ → Type 0
  wants f = as_expected m (tuple_of n f).app ≡ true

  abbrev pub Expects : List ℕ → WayOut → Type 0
  Expects f (Fails why) = Unit {0}
  Expects f (Refuses why) = Unit {0}
  Expects f (Stores carried stored) = wants f

  sent_expects : (f x : List ℕ) (came : Result (List ℕ) Why) → wants f → Expects f (at_device x came)
  sent_expects f x (Ok stored) h = h
  sent_expects f x (Err why) h = tt

  mapped_bare : (f : List ℕ) → IsBare n f → IsBare n (mapped_out (route m b) f)
  mapped_bare f h = record { size = mapped_length n f h.size One b.virt lba; escape = ap (λ t. is_escaped One t) (mapped_tuple n f h.size One b.virt lba) ∙ h.escape }

  mapped_app : (f : List ℕ) → IsBare n f → (tuple_of n (mapped_out (route m b) f)).app ≡ (tuple_of n f).app
  mapped_app f h = ap (λ (t : Tuple). t.app) (mapped_tuple n f h.size One b.virt lba)

  past_adapter : (f x : List ℕ) → IsBare n x → (tuple_of n x).app ≡ (tuple_of n f).app → shows m b HostToAdapter x ≡ true → Expects f (from_adapter m.site.device (route m b) (to_wire m'.site.faults (route m b) x))
  unfolding to_wire
  past_adapter f x h e d =
      let y = crossed m b HostToAdapter x in
      let a = ref_tag lba in
      unless_rule (Expects f) (from_adapter m.site.device (route m b)) (adapter_finds_out (route m b) y) (sent (route m b) y) (λ c. tt) (λ o.
      let s = unaltered m' b HostToAdapter x (no_flip m' b HostToAdapter x mask a (λ t g k. k.physical) d o) in
      let pe = and_parts (bears (tuple_of n x) (guard_of kind (data_of n x)) a) (expected app mask (tuple_of n x))
      (passed app mask a (guard_of kind (data_of n x)) (tuple_of n x) h.escape
      (subst (λ z. finding One (all_asked app mask) a (guard_of kind (data_of n z)) (tuple_of n z) ≡ None) s o)) in
      sent_expects f (sent (route m b) y) (m.site.device.stores (route m b) (sent (route m b) y)) (subst (λ a. as_expected m a ≡ true) e pe.1))

  pub accepted_expects : (f : List ℕ) → IsBare n f → shows_out m b f ≡ true → Expects f (way_out m'.site.faults m.site.device (route m b) f)
  accepted_expects f h d =
      let x = mapped_out (route m b) f in
      past_adapter f x (mapped_bare f h) (mapped_app f h) (and_parts (shows m b HostToAdapter x) (shows_on_wire m b (crossed m b HostToAdapter x)) d).0

  -- what comes of a frame at the target, by what is found of it
  abbrev at_target : List ℕ → Result (List ℕ) Check → WayOut
  at_target x came = at_device x (by_target (then_crossed m'.site.faults (Some (route m b).label) TargetToMedium came))

  onto_wire : (x : List ℕ) → IsBare n x → Bears (tuple_of n x) (guard_of kind (data_of n x)) (ref_tag lba) → wants x → has_flip m b HostToAdapter ≡ false → to_wire m'.site.faults (route m b) x ≡ Ok (sent (route m b) x)
  unfolding to_wire
  onto_wire x h k e q =
      ap (λ z. unless (adapter_finds_out (route m b) z) (sent (route m b) z)) (unaltered m' b HostToAdapter x q)
      ∙ ap (λ o. unless o (sent (route m b) x)) (passes_if app mask (ref_tag lba) (guard_of kind (data_of n x)) (tuple_of n x) (from_both (tuple_of n x) (guard_of kind (data_of n x)) (ref_tag lba) k) e)

  onto_medium : (x : List ℕ) → Bears (tuple_of n x) (crc (data_of n x)) (ref_tag (wire_lba m'.site.faults (route m b))) → is_served m b ≡ true → has_flip m b AdapterToTarget ≡ false →
      at_device x (m.site.device.stores (route m b) x) ≡ Stores x (crossed m b TargetToMedium x)
  unfolding to_medium
  onto_medium x k v q =
      let w = ref_tag (wire_lba m'.site.faults (route m b)) in
      ap (λ c. at_device x (stores_unless c (by_target (to_medium m'.site.faults (passage m'.site.faults (route m b)) x)))) (not-true (fails_of m'.site.faults (route m b).label) v)
      ∙ ap (λ z. at_target x (unless (found_in (passage m'.site.faults (route m b)) z) z)) (unaltered m' b AdapterToTarget x q)
      ∙ ap (λ o. at_target x (unless o x)) (found_is m' b x ∙ passes_if app 0 w (crc (data_of n x)) (tuple_of n x) (from_both (tuple_of n x) (crc (data_of n x)) w k) (unmasked app (tuple_of n x)))

  pub unnamed_stores : (f : List ℕ) → IsBare n f → Bears (tuple_of n f) (guard_of kind (data_of n f)) (ref_tag b.virt) → wants f → IsUnnamed m b → is_served m b ≡ true → wire_lba m'.site.faults (route m b) ≡ lba →
      IsStored (way_out m'.site.faults m.site.device (route m b) f)
  unnamed_stores f h k e free served home =
      let x = mapped_out (route m b) f in
      let bare = mapped_bare f h in
      let tagged : eqb (tuple_of n f).rtag (ref_tag b.virt) ≡ true = eq-eqb (tuple_of n f).rtag (ref_tag b.virt) k.rtag in
      let mapped = mapped_tuple n f h.size One b.virt lba in
      let bears_x : Bears (tuple_of n x) (guard_of kind (data_of n x)) (ref_tag lba) = record {
        guard = ap (λ (t : Tuple). t.guard) mapped ∙ k.guard ∙ ap (guard_of kind) (sym (mapped_body n f h.size One b.virt lba));
        rtag = ap (λ (t : Tuple). t.rtag) mapped ∙ ap (λ c. if c then ref_tag lba else (tuple_of n f).rtag) tagged;
      } in
      let u = sent_under m' lba x bare bears_x b in
      let y = sent (route m b) x in
      let bears_y : Bears (tuple_of n y) (crc (data_of n y)) (ref_tag (wire_lba m'.site.faults (route m b))) =
      record { guard = ap (λ (t : Tuple). t.guard) u.tuple ∙ ap crc (sym u.body); rtag = ap (λ (t : Tuple). t.rtag) u.tuple ∙ ap ref_tag (sym home) } in
      record {
        carried = y;
        stored = crossed m b TargetToMedium y;
        is =
            ap (from_adapter m.site.device (route m b)) (onto_wire x bare bears_x (subst (λ a. as_expected m a ≡ true) (sym (mapped_app f h)) e) (free HostToAdapter))
            ∙ onto_medium y bears_y served (free AdapterToTarget);
      }

  -- Where no fault names the block, all is shown.
  shown_free : (at : Crossing) (x : List ℕ) → IsUnnamed m b → shows m b at x ≡ true
  shown_free at x free = ap (λ c. not c || is_foreign m b at (guard_at m at (data_of m.size (crossed m b at x))) (tuple_of m.size (crossed m b at x))) (free at)

  pub free_out : (f : List ℕ) → IsUnnamed m b → shows_out m b f ≡ true
  free_out f free =
      let x = mapped_out (route m b) f in
      let y = crossed m b HostToAdapter x in
      let z = crossed m b AdapterToTarget (sent (route m b) y) in
      and_from (shows m b HostToAdapter x) (shows_on_wire m b y) (shown_free HostToAdapter x free)
      (passed_all (adapter_finds_out (route m b) y) (shows m b AdapterToTarget (sent (route m b) y) && shows_at_medium m b z)
      (and_from (shows m b AdapterToTarget (sent (route m b) y)) (shows_at_medium m b z) (shown_free AdapterToTarget (sent (route m b) y) free)
      (passed_all (found_in (passage m'.site.faults (route m b)) z) (shows m b TargetToMedium z) (shown_free TargetToMedium z free))))

  pub free_in : (x : List ℕ) → IsUnnamed m b → has_shift m b MediumToTarget ≡ false → shows_in m b x ≡ true
  free_in x free still =
      let t = found m b x AtTarget in
      let a = found m b x AtAdapter in
      let last = shows m b AdapterToHost (received (route m b) (arrives m b x AtAdapter)) in
      let middle = shows m b TargetToAdapter (arrives m b x AtTarget) in
      and_from (is_not_meant m b x) (shows m b MediumToTarget x && if_passed t (middle && if_passed a last))
      (ap (λ c. not c || not (bears (tuple_of m.size x) (crc (data_of m.size x)) (ref_tag (wire_lba m.site.faults (route m b))))) still)
      (and_from (shows m b MediumToTarget x) (if_passed t (middle && if_passed a last)) (shown_free MediumToTarget x free)
      (passed_all t (middle && if_passed a last) (and_from middle (if_passed a last) (shown_free TargetToAdapter (arrives m b x AtTarget) free)
      (passed_all a last (shown_free AdapterToHost (received (route m b) (arrives m b x AtAdapter)) free)))))
