-- One block on its way under faults that can be shown.
use Rattle.std.proofs.Common.{◌≡◌, ◌≤◌, ℕ, suc, ◌+◌, Bool, true, false, eqb, ◌&&◌, ◌||◌, not, if◌then◌else◌, List, length, Option, Some, None, refl, sym, ap, subst, ◌∙◌, arith}
use Rattle.std.specs.Prelude.{ℤ, pos, negsuc, ◌+ℤ◌, nat_abs, Result}
use Rattle.std.proofs.lemmas.Bool.{eqb-true, eqb-false, eq-eqb, and_parts, or_parts, not-true, not-false, false≢true, false_from_ne_true, and_left, and_right}
use Rattle.std.proofs.lemmas.Int.{ints}
use Rattle.pi_guard.specs.Guards.{crc, guard_of}
use Rattle.pi_guard.specs.declared.GuardKind.{GuardKind}
use Rattle.pi_guard.specs.declared.GuardKind.TheVariants.{Crc, Ip}
use Rattle.pi_guard.proofs.GuardSizes.{guard_below}
use Rattle.pi_tuple.specs.Finds.{finding, is_escaped}
use Rattle.pi_tuple.specs.Tuples.{ref_tag}
use Rattle.pi_tuple.specs.declared.tuple.Tuple.{Tuple}
use Rattle.pi_tuple.specs.declared.checks.PiType.TheVariants.{One}
use Rattle.pi_tuple.specs.declared.checks.Check.{Check}
use Rattle.pi_tuple.proofs.TupleLaws.{same_fields}
use Rattle.fault_schedule.specs.Altered.{fails_of, shift_of}
use Rattle.fault_schedule.specs.declared.fault.Crossing.{Crossing}
use Rattle.fault_schedule.specs.declared.fault.Crossing.TheVariants.{AdapterToHost, AdapterToTarget, HostToAdapter, MediumToTarget, TargetToAdapter, TargetToMedium}
use Rattle.integrity_payload.specs.Payloads.{all_asked}
use Rattle.integrity_payload.specs.declared.payload.Owner.{Owner}
use Rattle.walk_laws.specs.Passed.{data_of, tuple_of, found_in, from_medium, then_crossed, to_medium, unless, by_target, converted, is_crc, medium_lba, moved, passage, sends_unless, stored_lba, target, wire_lba, with_guard, Delivers, Spoils, Stops, WayIn, at_host, delivered_unless, from_device, from_wire, mapped_back, owner_says, received, verified, way_in, Fails, Refuses, Stores, WayOut, adapter_finds_out, at_device, from_adapter, mapped_out, sent, to_wire, way_out, Why, Adapter, TheVariantsMedium as OfMedium, Target}
use Rattle.walk_laws.proofs.Passed.{altered_length, as_crc, as_ip, stored_or}
use Rattle.walk_laws.specs.Detectable.{arrives, asks_app, bears, bears_some, crossed, found, guard_at, if_passed, is_foreign, is_not_meant, shows, shows_at_medium, shows_in, shows_on_wire, shows_out}
use Rattle.walk_laws.specs.FirstLayer.{AtAdapter, AtOwner, AtTarget, Layer, has_flip, has_shift, is_served}
use Rattle.walk_laws.specs.Past.{Brought, brought_by}
use Rattle.walk_laws.specs.PlainMap.{as_expected}
use Rattle.walk_laws.specs.Settings.{Block, Setting, route}
use Rattle.walk_laws.specs.ReadsAs.{said_by}
use Rattle.run_laws.specs.ShownRun.{StaysNear}
use Rattle.run_laws.proofs.Found.{Bears, IsFound, asked_on, bears_both, expected, found_something, from_both, is_found, passed, passes_if, unless_rule, unmasked}
use Rattle.run_laws.proofs.Framed.{IsUnderTuple, guarded, mapped_body, mapped_length, mapped_tuple, not_altered}

-- a setting with type 1, tuples passed, protect field 001b and a target of its own faults in place of its own
abbrev pub checked : Setting → Setting
checked m = record m {
  mode = record m.mode { dix = true; dif = true; protect = 1 };
  ty = One;
  site = record m.site { device = target m.site.faults };
}

-- a frame of full size that is no escape
pub record IsBare (n : ℕ) (x : List ℕ) : Type 0 where
  pub size : length x ≡ n + 8
  pub escape : is_escaped One (tuple_of n x) ≡ false

pub same_brought : {x y : List ℕ} {n k : ℕ} → x ≡ y → n ≡ k → ◌≡◌ {A = Brought} (record { body = x; app = n }) (record { body = y; app = k })
same_brought p q = cc

-- an address after a shift of 0 is the same; after another one it has another tag
pub shifted : (w a : ℕ) (z : ℤ) → nat_abs z ≤ 64 → pos w ≡ pos a +ℤ z → (nat_abs z ≡ 0 → w ≡ a) × (ref_tag w ≡ ref_tag a → nat_abs z ≡ 0)
shifted w a (pos n) near above = let e : w ≡ a + n = omega (arith, ints, above) in ((λ h. omega (arith, e, h)), (λ h. omega (arith, e, h, near)))
shifted w a (negsuc n) near above = let e : w + suc n ≡ a = omega (arith, ints, above) in ((λ h. omega (arith, h)), (λ h. omega (arith, e, h, near)))

pub must : (c r : Bool) → (not c || r) ≡ true → c ≡ true → r ≡ true
must true r d h = d
must false r d h = absurd (false≢true h)

without : (x : Bool) → (x && true) ≡ false → x ≡ false
without true h = h
without false h = h

abbrev pub why_ended : WayIn → Option Why
why_ended (Stops why) = Some why
why_ended (Spoils why carried) = Some why
why_ended (Delivers carried frame) = None

-- none of three, or not the last
record NoneOf (x y z a : Bool) : Type 0 where
  first : (x && a) ≡ false
  second : (y && a) ≡ false
  third : (z && a) ≡ false

pick : (x y z a : Bool) → ((x || (y || z)) && a) ≡ false → NoneOf x y z a
pick true y z a h = record { first = h; second = and_right y a h; third = and_right z a h }
pick false true z a h = record { first = refl; second = h; third = and_right z a h }
pick false false true a h = record { first = refl; second = refl; third = h }
pick false false false a h = record { first = refl; second = refl; third = refl }

module _ (m' : Setting) where
  abbrev m : Setting
  m = checked m'

  abbrev n : ℕ
  n = m'.size

  abbrev kind : GuardKind
  kind = m'.mode.kind

  abbrev app : ℕ
  app = m'.mode.app

  abbrev mask : ℕ
  mask = m'.mode.mask

  abbrev lba : Block → ℕ
  lba b = (route m b).lba

  abbrev wire : Block → ℕ
  wire b = wire_lba m'.site.faults (route m b)

  abbrev medium : Block → ℕ
  medium b = medium_lba m'.site.faults (route m b)

  abbrev bears_at : List ℕ → (guard : ℕ) → (at : ℕ) → Bool
  bears_at x guard at = bears (tuple_of n x) guard (ref_tag at)

  abbrev crc_at : List ℕ → ℕ
  crc_at x = crc (data_of n x)

  -- what the target, the adapter and the owner find in a frame, as checks of its fields
  abbrev target_finds : Block → List ℕ → Option Check
  target_finds b x = finding One (all_asked app 0) (ref_tag (wire b)) (crc (data_of n x)) (tuple_of n x)

  pub found_is : (b : Block) (x : List ℕ) → found_in (passage m'.site.faults (route m b)) x ≡ target_finds b x
  unfolding found_in
  found_is b x = refl

  -- a stored block of this address that every check passes, or that each finds bad
  pub record Sound (a : ℕ) (x : List ℕ) : Type 0 where
    pub bare : IsBare n x
    pub bears : Bears (tuple_of n x) (crc (data_of n x)) (ref_tag a)
    pub app : as_expected m (tuple_of n x).app ≡ true

  pub record Spoilt (a : ℕ) (x : List ℕ) : Type 0 where
    pub escape : is_escaped One (tuple_of n x) ≡ false
    pub foreign : bears (tuple_of n x) (crc (data_of n x)) (ref_tag a) ≡ false

  -- what is asked for after a crossing, with one of the block's tags
  abbrev pub Passes : Crossing → Tuple → ℕ → ℕ → Bool
  Passes at t g r = bears t g r && (not (asks_app at) || as_expected m t.app)

  pub record Foreign (b : Block) (at : Crossing) (g : ℕ) (t : Tuple) : Type 0 where
    pub escape : is_escaped One t ≡ false
    pub virtual : Passes at t g (ref_tag b.virt) ≡ false
    pub physical : Passes at t g (ref_tag (lba b)) ≡ false
    pub on_wire : Passes at t g (ref_tag (wire b)) ≡ false

  is_foreign_so : (b : Block) (at : Crossing) (g : ℕ) (t : Tuple) → is_foreign m b at g t ≡ true → Foreign b at g t
  is_foreign_so b at g t h =
      let p = and_parts (not (is_escaped One t)) (not (bears_some m b t g && (not (asks_app at) || as_expected m t.app))) h in
      let q = pick (bears t g (ref_tag b.virt)) (bears t g (ref_tag (lba b))) (bears t g (ref_tag (wire b))) (not (asks_app at) || as_expected m t.app) (not-true _ p.1) in
      record { escape = not-true _ p.0; virtual = q.first; physical = q.second; on_wire = q.third }

  altered_is_foreign : (b : Block) (at : Crossing) (x : List ℕ) → shows m b at x ≡ true → has_flip m b at ≡ true →
      Foreign b at (guard_at m at (data_of n (crossed m b at x))) (tuple_of n (crossed m b at x))
  altered_is_foreign b at x d h = is_foreign_so b at (guard_at m at (data_of n (crossed m b at x))) (tuple_of n (crossed m b at x)) (must (has_flip m b at) _ d h)

  -- where nothing is found, no line flipped a byte of the frame
  pub no_flip : (b : Block) (at : Crossing) (x : List ℕ) (mask want : ℕ) → ((t : Tuple) (g : ℕ) → Foreign b at g t → (bears t g want && expected app mask t) ≡ false) → shows m b at x ≡ true →
      finding One (all_asked app mask) want (guard_at m at (data_of n (crossed m b at x))) (tuple_of n (crossed m b at x)) ≡ None → has_flip m b at ≡ false
  no_flip b at x mask want known d o =
      let y = crossed m b at x in
      let g = guard_at m at (data_of n y) in
      false_from_ne_true (has_flip m b at) (λ f.
      let k = altered_is_foreign b at x d f in
      found_something (is_found app mask want g (tuple_of n y) k.escape (known (tuple_of n y) g k)) o)

  pub unaltered : (b : Block) (at : Crossing) (x : List ℕ) → has_flip m b at ≡ false → crossed m b at x ≡ x
  unaltered b at x h = not_altered m'.site.faults at (route m b).label x h

  -- the guard is converted, and the rest stays
  pub converted_under : (to : GuardKind) (old new a : ℕ) (x : List ℕ) → IsBare n x → Bears (tuple_of n x) old (ref_tag a) → (is_crc kind ≡ true → old ≡ new) → (is_crc kind ≡ false → guard_of to (data_of n x) ≡ new) → (b : Block) →
      IsUnderTuple n new (ref_tag a) x (converted (route m b) to x)
  converted_under to old new a x h k same other b = by (is_crc kind) same other where
    by : (c : Bool) → (c ≡ true → old ≡ new) → (c ≡ false → guard_of to (data_of n x) ≡ new) → IsUnderTuple n new (ref_tag a) x (if c then x else with_guard n (guard_of to (data_of n x)) x)
    by true same other = record { size = h.size; body = refl; tuple = same_fields (k.guard ∙ same refl) refl k.rtag }
    by false same other =
        subst (λ g. IsUnderTuple n g (ref_tag a) x (with_guard n (guard_of to (data_of n x)) x)) (other refl)
        (guarded n x h.size (guard_of to (data_of n x)) (guard_below to (data_of n x)) (ref_tag a) k.rtag)

  pub sent_under : (a : ℕ) (x : List ℕ) → IsBare n x → Bears (tuple_of n x) (guard_of kind (data_of n x)) (ref_tag a) → (b : Block) → IsUnderTuple n (crc (data_of n x)) (ref_tag a) x (sent (route m b) x)
  sent_under a x h k b = converted_under Crc (guard_of kind (data_of n x)) (crc (data_of n x)) a x h k (as_crc kind (data_of n x)) (λ _. refl) b

  received_under : (a : ℕ) (x : List ℕ) → IsBare n x → Bears (tuple_of n x) (crc (data_of n x)) (ref_tag a) → (b : Block) → IsUnderTuple n (guard_of kind (data_of n x)) (ref_tag a) x (received (route m b) x)
  received_under a x h k b = converted_under Ip (crc (data_of n x)) (guard_of kind (data_of n x)) a x h k (λ e. sym (as_crc kind (data_of n x) e)) (as_ip kind (data_of n x)) b

  pub under_brought : (g r : ℕ) (x y : List ℕ) → IsUnderTuple n g r x y → brought_by n y ≡ brought_by n x
  under_brought g r x y h = same_brought h.body (ap (λ (t : Tuple). t.app) h.tuple)

  under_bare : (g r : ℕ) (x y : List ℕ) → IsBare n x → IsUnderTuple n g r x y → IsBare n y
  under_bare g r x y b h = record { size = h.size; escape = ap (λ t. is_escaped One t) h.tuple ∙ b.escape }

  pub under_sound : (a : ℕ) (x y : List ℕ) → IsBare n x → as_expected m (tuple_of n x).app ≡ true → IsUnderTuple n (crc (data_of n x)) (ref_tag a) x y → Sound a y
  under_sound a x y b e h = record {
    bare = under_bare (crc (data_of n x)) (ref_tag a) x y b h;
    bears = record { guard = ap (λ (t : Tuple). t.guard) h.tuple ∙ ap crc (sym h.body); rtag = ap (λ (t : Tuple). t.rtag) h.tuple };
    app = ap (λ (t : Tuple). as_expected m t.app) h.tuple ∙ e;
  }

  -- shifts of a block
  no_shift_is : (b : Block) (at : Crossing) → has_shift m b at ≡ false → nat_abs (shift_of m'.site.faults at b.op) ≡ 0
  no_shift_is b at h = eqb-true (nat_abs (shift_of m'.site.faults at b.op)) 0 (not-false _ h)

  wire_is : (b : Block) → StaysNear m b → has_shift m b AdapterToTarget ≡ false → wire b ≡ lba b
  wire_is b r h = (shifted (wire b) (lba b) (shift_of m'.site.faults AdapterToTarget b.op) r.near r.above).0 (no_shift_is b AdapterToTarget h)

  pub unmoved : (a : ℕ) (z : ℤ) → nat_abs z ≡ 0 → moved a z ≡ a
  unmoved a (pos k) h = omega (arith, h)
  unmoved a (negsuc k) h = absurd (omega (arith, h))

  -- where a write whose address stays on the wire is stored
  pub stored_is : (b : Block) → wire b ≡ lba b → has_shift m b TargetToMedium ≡ false → stored_lba m'.site.faults (route m b) ≡ lba b
  stored_is b e h = unmoved (wire b) (shift_of m'.site.faults TargetToMedium b.op) (no_shift_is b TargetToMedium h) ∙ e

  wire_by_tag : (b : Block) → StaysNear m b → ref_tag (wire b) ≡ ref_tag (lba b) → wire b ≡ lba b
  wire_by_tag b r h = let s = shifted (wire b) (lba b) (shift_of m'.site.faults AdapterToTarget b.op) r.near r.above in s.0 (s.1 h)

  -- the way out
  abbrev pub After : Block → List ℕ → Bool → List ℕ → Type 0
  After b f true stored = Spoilt (lba b) stored
  After b f false stored = Sound (lba b) stored × (brought_by n stored ≡ brought_by n f)

  abbrev pub Outcome : Block → List ℕ → WayOut → Type 0
  Outcome b f (Fails why) = Unit {0}
  Outcome b f (Refuses why) = Unit {0}
  Outcome b f (Stores carried stored) = (wire b ≡ lba b) × After b f (has_flip m b TargetToMedium) stored

  onto_medium : (b : Block) (f x : List ℕ) → Sound (lba b) x → brought_by n x ≡ brought_by n f → shows m b TargetToMedium x ≡ true → After b f (has_flip m b TargetToMedium) (crossed m b TargetToMedium x)
  onto_medium b f x h e d = by (has_flip m b TargetToMedium) refl where
    by : (c : Bool) → has_flip m b TargetToMedium ≡ c → After b f c (crossed m b TargetToMedium x)
    by true q =
        let g = altered_is_foreign b TargetToMedium x d q in
        let y = crossed m b TargetToMedium x in
        record { escape = g.escape; foreign = without (bears_at y (crc_at y) (lba b)) g.physical }
    by false q = subst (λ y. Sound (lba b) y × (brought_by n y ≡ brought_by n f)) (sym (unaltered b TargetToMedium x q)) (h, e)

  -- what comes of a frame that is on its way to the target, by what the target made of it
  abbrev at_target : Block → List ℕ → Result (List ℕ) Check → WayOut
  at_target b x came = at_device x (by_target (then_crossed m'.site.faults (Some (route m b).label) TargetToMedium came))

  to_target : (b : Block) (f x : List ℕ) → StaysNear m b → Sound (lba b) x → brought_by n x ≡ brought_by n f → shows m b AdapterToTarget x ≡ true →
      shows_at_medium m b (crossed m b AdapterToTarget x) ≡ true → Outcome b f (at_device x (m.site.device.stores (route m b) x))
  unfolding to_medium
  to_target b f x r h e d dt =
      let y = crossed m b AdapterToTarget x in
      stored_or (λ came. Outcome b f (at_device x came)) (λ why. tt) (fails_of m'.site.faults (route m b).label) (by_target (to_medium m'.site.faults (passage m'.site.faults (route m b)) x))
      (unless_rule (Outcome b f) (at_target b x) (found_in (passage m'.site.faults (route m b)) y) y (λ c. tt) (λ none.
      let o = sym (found_is b y) ∙ none in
      let s = unaltered b AdapterToTarget x (no_flip b AdapterToTarget x 0 (ref_tag (wire b)) (λ t g k. and_left _ (expected app 0 t) (without (bears t g (ref_tag (wire b))) k.on_wire)) d o) in
      let p = bears_both (tuple_of n x) (crc (data_of n x)) (ref_tag (wire b)) (and_parts (bears_at x (crc_at x) (wire b)) (expected app 0 (tuple_of n x))
      (passed app 0 (ref_tag (wire b)) (crc (data_of n x)) (tuple_of n x) h.bare.escape (subst (λ z. target_finds b z ≡ None) s o))).0 in
      let dm = asked_on (found_in (passage m'.site.faults (route m b)) y) (shows m b TargetToMedium y) none dt in (
        wire_by_tag b r (sym p.rtag ∙ h.bears.rtag),
        subst (λ z. After b f (has_flip m b TargetToMedium) (crossed m b TargetToMedium z)) (sym s) (onto_medium b f x h e (subst (λ z. shows m b TargetToMedium z ≡ true) s dm)),
      )))

  to_adapter : (b : Block) (f x : List ℕ) → StaysNear m b → IsBare n x → brought_by n x ≡ brought_by n f → shows m b HostToAdapter x ≡ true →
      shows_on_wire m b (crossed m b HostToAdapter x) ≡ true → Outcome b f (from_adapter m.site.device (route m b) (to_wire m'.site.faults (route m b) x))
  unfolding to_wire
  to_adapter b f x r h e d da =
      let y = crossed m b HostToAdapter x in
      let a = ref_tag (lba b) in
      unless_rule (Outcome b f) (from_adapter m.site.device (route m b)) (adapter_finds_out (route m b) y) (sent (route m b) y) (λ c. tt) (λ o.
      let s = unaltered b HostToAdapter x (no_flip b HostToAdapter x mask a (λ t g k. k.physical) d o) in
      let pe = and_parts (bears (tuple_of n x) (guard_of kind (data_of n x)) a) (expected app mask (tuple_of n x))
      (passed app mask a (guard_of kind (data_of n x)) (tuple_of n x) h.escape
      (subst (λ z. finding One (all_asked app mask) a (guard_of kind (data_of n z)) (tuple_of n z) ≡ None) s o)) in
      let p = bears_both (tuple_of n x) (guard_of kind (data_of n x)) a pe.0 in
      let u = sent_under (lba b) x h p b in
      let dr = and_parts (shows m b AdapterToTarget (sent (route m b) x)) (shows_at_medium m b (crossed m b AdapterToTarget (sent (route m b) x)))
      (subst (λ z. (shows m b AdapterToTarget (sent (route m b) z) && shows_at_medium m b (crossed m b AdapterToTarget (sent (route m b) z))) ≡ true) s
      (asked_on (adapter_finds_out (route m b) y) (shows m b AdapterToTarget (sent (route m b) y) && shows_at_medium m b (crossed m b AdapterToTarget (sent (route m b) y))) o da)) in
      subst (λ z. Outcome b f (at_device (sent (route m b) z) (m.site.device.stores (route m b) (sent (route m b) z)))) (sym s)
      (to_target b f (sent (route m b) x) r (under_sound (lba b) x (sent (route m b) x) h pe.1 u) (under_brought (crc (data_of n x)) a x (sent (route m b) x) u ∙ e) dr.0 dr.1))

  -- A frame that is supplied and no escape: where it is stored there was no shift, and it is stored under its tuple, or spoilt.
  pub goes_out : (b : Block) (f : List ℕ) → StaysNear m b → IsBare n f → shows_out m b f ≡ true → Outcome b f (way_out m'.site.faults m.site.device (route m b) f)
  goes_out b f r h d =
      let x = mapped_out (route m b) f in
      let p = and_parts (shows m b HostToAdapter x) (shows_on_wire m b (crossed m b HostToAdapter x)) d in
      let same = ap (λ (t : Tuple). t.app) (mapped_tuple n f h.size One b.virt (lba b)) in
      to_adapter b f x r
      (record { size = mapped_length n f h.size One b.virt (lba b); escape = ap (λ t. is_escaped One t) (mapped_tuple n f h.size One b.virt (lba b)) ∙ h.escape })
      (same_brought (mapped_body n f h.size One b.virt (lba b)) same) p.0 p.1

  -- the way in, by what the layers find: of what the target made of a frame
  abbrev came_in : Block → Owner → List ℕ → Result (List ℕ) Check → WayIn
  came_in b owner x came = verified (route m b) owner (from_device m'.site.faults (route m b) (by_target (then_crossed m'.site.faults (Some (route m b).label) TargetToAdapter came)))

  -- and of what the adapter made of it
  abbrev handed_on : Block → Owner → List ℕ → Result (List ℕ) Check → WayIn
  handed_on b owner x came = verified (route m b) owner (at_host x (then_crossed m'.site.faults (Some (route m b).label) AdapterToHost came))

  abbrev go_in : Block → Owner → List ℕ → WayIn
  go_in b owner stored = way_in m'.site.faults m.site.device (route m b) owner stored

  -- a block that no line says the medium fails
  served : (b : Block) (owner : Owner) (stored : List ℕ) → is_served m b ≡ true → go_in b owner stored ≡ verified (route m b) owner (from_device m'.site.faults (route m b) (by_target (from_medium m'.site.faults (passage m'.site.faults (route m b)) stored)))
  served b owner stored h =
      let came = by_target (from_medium m'.site.faults (passage m'.site.faults (route m b)) stored) in
      ap (λ c. verified (route m b) owner (from_device m'.site.faults (route m b) (sends_unless c came))) (not-true (fails_of m'.site.faults (route m b).label) h)

  -- and one that a line says it does
  pub unserved : (b : Block) (owner : Owner) (stored : List ℕ) → is_served m b ≡ false → go_in b owner stored ≡ Stops OfMedium
  unserved b owner stored h =
      let came = by_target (from_medium m'.site.faults (passage m'.site.faults (route m b)) stored) in
      ap (λ c. verified (route m b) owner (from_device m'.site.faults (route m b) (sends_unless c came))) (not-false (fails_of m'.site.faults (route m b).label) h)

  stops_at_target : (b : Block) (owner : Owner) (stored : List ℕ) → is_served m b ≡ true → (h : IsFound (found m b stored AtTarget)) → go_in b owner stored ≡ Stops (Target h.check)
  unfolding from_medium
  stops_at_target b owner stored k h = served b owner stored k ∙ ap (λ o. came_in b owner stored (unless o (arrives m b stored AtTarget))) h.is

  past_medium : (b : Block) (owner : Owner) (stored : List ℕ) → is_served m b ≡ true → found m b stored AtTarget ≡ None → go_in b owner stored ≡ verified (route m b) owner (at_host (arrives m b stored AtAdapter) (from_wire m'.site.faults (route m b) (arrives m b stored AtAdapter)))
  unfolding from_medium
  past_medium b owner stored k h = served b owner stored k ∙ ap (λ o. came_in b owner stored (unless o (arrives m b stored AtTarget))) h

  spoils_at_adapter : (b : Block) (owner : Owner) (stored : List ℕ) → is_served m b ≡ true → found m b stored AtTarget ≡ None → (h : IsFound (found m b stored AtAdapter)) → go_in b owner stored ≡ Spoils (Adapter h.check) (arrives m b stored AtAdapter)
  unfolding from_wire
  spoils_at_adapter b owner stored k t h =
      let x = arrives m b stored AtAdapter in past_medium b owner stored k t ∙ ap (λ o. handed_on b owner x (unless o (received (route m b) x))) h.is

  to_owner : (b : Block) (owner : Owner) (stored : List ℕ) → is_served m b ≡ true → found m b stored AtTarget ≡ None → found m b stored AtAdapter ≡ None →
      go_in b owner stored ≡ delivered_unless owner (arrives m b stored AtAdapter) (arrives m b stored AtOwner) (found m b stored AtOwner)
  unfolding from_wire
  to_owner b owner stored k t a =
      let x = arrives m b stored AtAdapter in past_medium b owner stored k t ∙ ap (λ o. handed_on b owner x (unless o (received (route m b) x))) a

  spoils_at_owner : (b : Block) (owner : Owner) (stored : List ℕ) → is_served m b ≡ true → found m b stored AtTarget ≡ None → found m b stored AtAdapter ≡ None → (h : IsFound (found m b stored AtOwner)) →
      go_in b owner stored ≡ Spoils (owner_says owner h.check) (arrives m b stored AtAdapter)
  spoils_at_owner b owner stored k t a h = to_owner b owner stored k t a ∙ ap (delivered_unless owner (arrives m b stored AtAdapter) (arrives m b stored AtOwner)) h.is

  delivers : (b : Block) (owner : Owner) (stored : List ℕ) → is_served m b ≡ true → found m b stored AtTarget ≡ None → found m b stored AtAdapter ≡ None → found m b stored AtOwner ≡ None →
      go_in b owner stored ≡ Delivers (arrives m b stored AtAdapter) (arrives m b stored AtOwner)
  delivers b owner stored k t a o = to_owner b owner stored k t a ∙ ap (delivered_unless owner (arrives m b stored AtAdapter) (arrives m b stored AtOwner)) o

  -- what is known of a stored block that a read fetches
  pub record Fetched (b : Block) (hit : Bool) (stored : List ℕ) : Type 0 where
    pub reach : StaysNear m b
    pub sound : hit ≡ false → Sound (medium b) stored
    pub spoilt : hit ≡ true → Spoilt (medium b) stored
    pub served : is_served m b ≡ true
    pub shown : shows_in m b stored ≡ true

  fetched_escape : (b : Block) (hit : Bool) (stored : List ℕ) → Fetched b hit stored → is_escaped One (tuple_of n stored) ≡ false
  fetched_escape b true stored h = (h.spoilt refl).escape
  fetched_escape b false stored h = (h.sound refl).bare.escape

  read_is : (b : Block) → has_shift m b MediumToTarget ≡ false → medium b ≡ wire b
  read_is b h = unmoved (wire b) (shift_of m'.site.faults MediumToTarget b.op) (no_shift_is b MediumToTarget h)

  record In (b : Block) (stored : List ℕ) : Type 0 where
    meant : is_not_meant m b stored ≡ true
    medium_shows : shows m b MediumToTarget stored ≡ true
    wire_shows : found m b stored AtTarget ≡ None → shows m b TargetToAdapter (arrives m b stored AtTarget) ≡ true
    host_shows : found m b stored AtTarget ≡ None → found m b stored AtAdapter ≡ None → shows m b AdapterToHost (received (route m b) (arrives m b stored AtAdapter)) ≡ true

  crossings : (b : Block) (stored : List ℕ) → shows_in m b stored ≡ true → In b stored
  crossings b stored d =
      let host = if_passed (found m b stored AtAdapter) (shows m b AdapterToHost (received (route m b) (arrives m b stored AtAdapter))) in
      let on_wire = shows m b TargetToAdapter (arrives m b stored AtTarget) && host in
      let p = and_parts (is_not_meant m b stored) (shows m b MediumToTarget stored && if_passed (found m b stored AtTarget) on_wire) d in
      let q = and_parts (shows m b MediumToTarget stored) (if_passed (found m b stored AtTarget) on_wire) p.1 in
      let w = λ (t : found m b stored AtTarget ≡ None). and_parts (shows m b TargetToAdapter (arrives m b stored AtTarget)) host (asked_on (found m b stored AtTarget) on_wire t q.1) in
      record {
        meant = p.0;
        medium_shows = q.0;
        wire_shows = λ t. (w t).0;
        host_shows = λ t a. asked_on (found m b stored AtAdapter) (shows m b AdapterToHost (received (route m b) (arrives m b stored AtAdapter))) a (w t).1;
      }

  -- by the target
  target_finds_it : (b : Block) (hit : Bool) (stored : List ℕ) → Fetched b hit stored → (has_shift m b MediumToTarget || (has_flip m b MediumToTarget || hit)) ≡ true → IsFound (found m b stored AtTarget)
  target_finds_it b hit stored h first = by (has_flip m b MediumToTarget) refl first where
    c : In b stored
    c = crossings b stored h.shown

    finds : (x : List ℕ) → x ≡ arrives m b stored AtTarget → is_escaped One (tuple_of n x) ≡ false → bears (tuple_of n x) (crc (data_of n x)) (ref_tag (wire b)) ≡ false → IsFound (found m b stored AtTarget)
    finds x same e k =
        let f = is_found app 0 (ref_tag (wire b)) (crc (data_of n x)) (tuple_of n x) e (and_left _ (expected app 0 (tuple_of n x)) k) in
        record { check = f.check; is = found_is b (arrives m b stored AtTarget) ∙ ap (target_finds b) (sym same) ∙ f.is }

    as_stored : bears (tuple_of n stored) (crc (data_of n stored)) (ref_tag (wire b)) ≡ false → has_flip m b MediumToTarget ≡ false → IsFound (found m b stored AtTarget)
    as_stored k q = finds stored (sym (unaltered b MediumToTarget stored q)) (fetched_escape b hit stored h) k

    no_flip_here : (s : Bool) → has_shift m b MediumToTarget ≡ s → has_flip m b MediumToTarget ≡ false → (s || hit) ≡ true → IsFound (found m b stored AtTarget)
    no_flip_here true e q k = as_stored (not-true _ (must (has_shift m b MediumToTarget) _ c.meant e)) q
    no_flip_here false e q k = as_stored (ap (λ a. bears_at stored (crc_at stored) a) (sym (read_is b e)) ∙ (h.spoilt k).foreign) q

    by : (f : Bool) → has_flip m b MediumToTarget ≡ f → (has_shift m b MediumToTarget || (f || hit)) ≡ true → IsFound (found m b stored AtTarget)
    by true q k =
        let g = altered_is_foreign b MediumToTarget stored c.medium_shows q in
        let x = arrives m b stored AtTarget in
        finds x refl g.escape (without (bears_at x (crc_at x) (wire b)) g.on_wire)
    by false q k = no_flip_here (has_shift m b MediumToTarget) refl q k

  -- past the target
  record PastTarget (b : Block) (hit : Bool) (stored : List ℕ) : Type 0 where
    whole : hit ≡ false
    read : medium b ≡ wire b
    sound : Sound (wire b) stored
    same : arrives m b stored AtTarget ≡ stored
    none : found m b stored AtTarget ≡ None

  past_target : (b : Block) (hit : Bool) (stored : List ℕ) → Fetched b hit stored → (has_shift m b MediumToTarget || (has_flip m b MediumToTarget || hit)) ≡ false → PastTarget b hit stored
  past_target b hit stored h first =
      let p = or_parts (has_shift m b MediumToTarget) (has_flip m b MediumToTarget || hit) first in
      let q = or_parts (has_flip m b MediumToTarget) hit p.1 in
      let s = unaltered b MediumToTarget stored q.0 in
      let k = subst (λ a. Sound a stored) (read_is b p.0) (h.sound q.1) in
      record {
        whole = q.1;
        read = read_is b p.0;
        sound = k;
        same = s;
        none =
            found_is b (arrives m b stored AtTarget)
            ∙ ap (target_finds b) s
            ∙ passes_if app 0 (ref_tag (wire b)) (crc (data_of n stored)) (tuple_of n stored) (from_both (tuple_of n stored) (crc (data_of n stored)) (ref_tag (wire b)) k.bears) (unmasked app (tuple_of n stored));
      }

  shift_shows : (b : Block) (stored : List ℕ) → StaysNear m b → Sound (wire b) stored → has_shift m b AdapterToTarget ≡ true → bears (tuple_of n stored) (crc (data_of n stored)) (ref_tag (lba b)) ≡ false
  shift_shows b stored r h s =
      false_from_ne_true (bears (tuple_of n stored) (crc (data_of n stored)) (ref_tag (lba b))) (λ e.
      let k = bears_both (tuple_of n stored) (crc (data_of n stored)) (ref_tag (lba b)) e in
      eqb-false (nat_abs (shift_of m'.site.faults AdapterToTarget b.op)) 0 (not-true _ s)
      ((shifted (wire b) (lba b) (shift_of m'.site.faults AdapterToTarget b.op) r.near r.above).1 (sym h.bears.rtag ∙ k.rtag)))

  adapter_finds : (b : Block) (hit : Bool) (stored : List ℕ) → Fetched b hit stored → PastTarget b hit stored → (has_shift m b AdapterToTarget || has_flip m b TargetToAdapter) ≡ true → IsFound (found m b stored AtAdapter)
  adapter_finds b hit stored h t first = by (has_flip m b TargetToAdapter) refl first where
    c : In b stored
    c = crossings b stored h.shown

    shift_only : (s : Bool) → has_shift m b AdapterToTarget ≡ s → has_flip m b TargetToAdapter ≡ false → (s || false) ≡ true → IsFound (found m b stored AtAdapter)
    shift_only false e q k = absurd (false≢true k)
    shift_only true e q k =
        subst (λ x. IsFound (finding One (all_asked app mask) (ref_tag (lba b)) (crc (data_of n x)) (tuple_of n x))) (sym (unaltered b TargetToAdapter (arrives m b stored AtTarget) q ∙ t.same))
        (is_found app mask (ref_tag (lba b)) (crc (data_of n stored)) (tuple_of n stored) t.sound.bare.escape (and_left _ (expected app mask (tuple_of n stored)) (shift_shows b stored h.reach t.sound e)))

    by : (f : Bool) → has_flip m b TargetToAdapter ≡ f → (has_shift m b AdapterToTarget || f) ≡ true → IsFound (found m b stored AtAdapter)
    by true q k =
        let g = altered_is_foreign b TargetToAdapter (arrives m b stored AtTarget) (c.wire_shows t.none) q in
        let x = arrives m b stored AtAdapter in
        is_found app mask (ref_tag (lba b)) (crc (data_of n x)) (tuple_of n x) g.escape g.physical
    by false q k = shift_only (has_shift m b AdapterToTarget) refl q k

  -- past the adapter
  record PastAdapter (b : Block) (stored : List ℕ) : Type 0 where
    on_wire : wire b ≡ lba b
    sound : Sound (lba b) stored
    same : arrives m b stored AtAdapter ≡ stored
    none : found m b stored AtAdapter ≡ None

  past_adapter : (b : Block) (hit : Bool) (stored : List ℕ) → Fetched b hit stored → PastTarget b hit stored → (has_shift m b AdapterToTarget || has_flip m b TargetToAdapter) ≡ false → PastAdapter b stored
  past_adapter b hit stored h t first =
      let p = or_parts (has_shift m b AdapterToTarget) (has_flip m b TargetToAdapter) first in
      let s = unaltered b TargetToAdapter (arrives m b stored AtTarget) p.1 ∙ t.same in
      let k = subst (λ a. Sound a stored) (wire_is b h.reach p.0) t.sound in
      record {
        on_wire = wire_is b h.reach p.0;
        sound = k;
        same = s;
        none = subst (λ x. finding One (all_asked app mask) (ref_tag (lba b)) (crc (data_of n x)) (tuple_of n x) ≡ None) (sym s)
            (passes_if app mask (ref_tag (lba b)) (crc (data_of n stored)) (tuple_of n stored) (from_both (tuple_of n stored) (crc (data_of n stored)) (ref_tag (lba b)) k.bears) k.app);
      }

  -- mapped back, a foreign frame is found by its owner
  back_foreign : (b : Block) (z : List ℕ) (g : ℕ) → length z ≡ n + 8 → (bears (tuple_of n z) g (ref_tag b.virt) && expected app mask (tuple_of n z)) ≡ false →
      (bears (tuple_of n z) g (ref_tag (lba b)) && expected app mask (tuple_of n z)) ≡ false →
      (bears (tuple_of n (mapped_back (route m b) z)) g (ref_tag b.virt) && expected app mask (tuple_of n (mapped_back (route m b) z))) ≡ false
  back_foreign b z g l v a =
      let t = tuple_of n z in
      ap (λ u. bears u g (ref_tag b.virt) && expected app mask u) (mapped_tuple n z l One (lba b) b.virt)
      ∙ by (eqb t.rtag (ref_tag (lba b))) refl
    where
      lost : (g r e : Bool) → r ≡ true → ((g && r) && e) ≡ false → ((g && true) && e) ≡ false
      lost g true e q h = h
      lost g false e q h = absurd (false≢true q)

      by : (c : Bool) → eqb (tuple_of n z).rtag (ref_tag (lba b)) ≡ c →
          let t = tuple_of n z in let u : Tuple = record { guard = t.guard; app = t.app; rtag = if c then ref_tag b.virt else t.rtag } in (bears u g (ref_tag b.virt) && expected app mask u) ≡ false
      by true q =
          let t = tuple_of n z in
          let same : eqb (ref_tag b.virt) (ref_tag b.virt) ≡ true = eq-eqb (ref_tag b.virt) (ref_tag b.virt) refl in
          ap (λ c. (eqb t.guard g && c) && expected app mask t) same ∙ lost (eqb t.guard g) (eqb t.rtag (ref_tag (lba b))) (expected app mask t) q a
      by false q = v

  received_is : (b : Block) (stored : List ℕ) → PastAdapter b stored → IsUnderTuple n (guard_of kind (data_of n stored)) (ref_tag (lba b)) stored (received (route m b) (arrives m b stored AtAdapter))
  received_is b stored a =
      subst (λ x. IsUnderTuple n (guard_of kind (data_of n stored)) (ref_tag (lba b)) stored (received (route m b) x)) (sym a.same) (received_under (lba b) stored a.sound.bare a.sound.bears b)

  owner_finds_it : (b : Block) (hit : Bool) (stored : List ℕ) → Fetched b hit stored → PastTarget b hit stored → PastAdapter b stored → has_flip m b AdapterToHost ≡ true → IsFound (found m b stored AtOwner)
  owner_finds_it b hit stored h t a q =
      let x = received (route m b) (arrives m b stored AtAdapter) in
      let z = crossed m b AdapterToHost x in
      let y = mapped_back (route m b) z in
      let l = altered_length m'.site.faults AdapterToHost (route m b).label x ∙ (received_is b stored a).size in
      let g = altered_is_foreign b AdapterToHost x ((crossings b stored h.shown).host_shows t.none a.none) q in
      is_found app mask (ref_tag b.virt) (guard_of kind (data_of n y)) (tuple_of n y)
      (ap (λ u. is_escaped One u) (mapped_tuple n z l One (lba b) b.virt) ∙ g.escape)
      (ap (λ d. bears (tuple_of n y) (guard_of kind d) (ref_tag b.virt) && expected app mask (tuple_of n y)) (mapped_body n z l One (lba b) b.virt) ∙ back_foreign b z (guard_of kind (data_of n z)) l g.virtual g.physical)

  -- the tag is mapped back
  back_under : (b : Block) (g : ℕ) (x y : List ℕ) → IsUnderTuple n g (ref_tag (lba b)) x y → IsUnderTuple n g (ref_tag b.virt) x (mapped_back (route m b) y)
  back_under b g x y h =
      let tag = ap (λ (t : Tuple). t.rtag) h.tuple in
      let q : eqb (tuple_of n y).rtag (ref_tag (lba b)) ≡ true = eq-eqb (tuple_of n y).rtag (ref_tag (lba b)) tag in
      record {
        size = mapped_length n y h.size One (lba b) b.virt;
        body = mapped_body n y h.size One (lba b) b.virt ∙ h.body;
        tuple =
            mapped_tuple n y h.size One (lba b) b.virt
            ∙ same_fields (ap (λ (t : Tuple). t.guard) h.tuple) (ap (λ (t : Tuple). t.app) h.tuple) (ap (λ c. if c then ref_tag b.virt else (tuple_of n y).rtag) q);
      }

  record PastOwner (b : Block) (stored : List ℕ) : Type 0 where
    under : IsUnderTuple n (guard_of kind (data_of n stored)) (ref_tag b.virt) stored (arrives m b stored AtOwner)
    none : found m b stored AtOwner ≡ None

  past_owner : (b : Block) (stored : List ℕ) → PastAdapter b stored → has_flip m b AdapterToHost ≡ false → PastOwner b stored
  past_owner b stored a q =
      let x = received (route m b) (arrives m b stored AtAdapter) in
      let u = subst (λ z. IsUnderTuple n (guard_of kind (data_of n stored)) (ref_tag b.virt) stored (mapped_back (route m b) z)) (sym (unaltered b AdapterToHost x q))
      (back_under b (guard_of kind (data_of n stored)) stored x (received_is b stored a)) in
      let y = arrives m b stored AtOwner in
      record {
        under = u;
        none = passes_if app mask (ref_tag b.virt) (guard_of kind (data_of n y)) (tuple_of n y)
            (from_both (tuple_of n y) (guard_of kind (data_of n y)) (ref_tag b.virt) (record { guard = ap (λ (t : Tuple). t.guard) u.tuple ∙ ap (guard_of kind) (sym u.body); rtag = ap (λ (t : Tuple). t.rtag) u.tuple }))
            (ap (expected app mask) u.tuple ∙ a.sound.app);
      }

  pub record Names (b : Block) (owner : Owner) (stored : List ℕ) (layer : Layer) : Type 0 where
    pub finding : IsFound (found m b stored layer)
    pub ends : why_ended (go_in b owner stored) ≡ Some (said_by layer owner finding.check)

  pub record Hands (b : Block) (owner : Owner) (hit : Bool) (stored : List ℕ) : Type 0 where
    pub whole : hit ≡ false
    pub home : medium b ≡ lba b
    pub under : IsUnderTuple n (guard_of kind (data_of n stored)) (ref_tag b.virt) stored (arrives m b stored AtOwner)
    pub way : go_in b owner stored ≡ Delivers (arrives m b stored AtAdapter) (arrives m b stored AtOwner)

  abbrev pub Reading : Block → Owner → Bool → List ℕ → Option Layer → Type 0
  Reading b owner hit stored None = Hands b owner hit stored
  Reading b owner hit stored (Some layer) = Names b owner stored layer

  abbrev pub first_of_three : Bool → Bool → Bool → Option Layer
  first_of_three t a o = if t then Some AtTarget else if a then Some AtAdapter else if o then Some AtOwner else None

  pub reads : (b : Block) (owner : Owner) (hit : Bool) (stored : List ℕ) → Fetched b hit stored →
      Reading b owner hit stored (first_of_three (has_shift m b MediumToTarget || (has_flip m b MediumToTarget || hit)) (has_shift m b AdapterToTarget || has_flip m b TargetToAdapter) (has_flip m b AdapterToHost))
  reads b owner hit stored h = by (has_shift m b MediumToTarget || (has_flip m b MediumToTarget || hit)) refl where
    at_owner_or_none : PastTarget b hit stored → PastAdapter b stored → (o : Bool) → has_flip m b AdapterToHost ≡ o → Reading b owner hit stored (if o then Some AtOwner else None)
    at_owner_or_none t a true q =
        let f = owner_finds_it b hit stored h t a q in
        record { finding = f; ends = ap why_ended (spoils_at_owner b owner stored h.served t.none a.none f) }
    at_owner_or_none t a false q =
        let u = past_owner b stored a q in
        record { whole = t.whole; home = t.read ∙ a.on_wire; under = u.under; way = delivers b owner stored h.served t.none a.none u.none }

    past_first : PastTarget b hit stored → (a : Bool) → (has_shift m b AdapterToTarget || has_flip m b TargetToAdapter) ≡ a →
        Reading b owner hit stored (if a then Some AtAdapter else if has_flip m b AdapterToHost then Some AtOwner else None)
    past_first t true q = let f = adapter_finds b hit stored h t q in record { finding = f; ends = ap why_ended (spoils_at_adapter b owner stored h.served t.none f) }
    past_first t false q = at_owner_or_none t (past_adapter b hit stored h t q) (has_flip m b AdapterToHost) refl

    by : (t : Bool) → (has_shift m b MediumToTarget || (has_flip m b MediumToTarget || hit)) ≡ t →
        Reading b owner hit stored (first_of_three t (has_shift m b AdapterToTarget || has_flip m b TargetToAdapter) (has_flip m b AdapterToHost))
    by true q = let f = target_finds_it b hit stored h q in record { finding = f; ends = ap why_ended (stops_at_target b owner stored h.served f) }
    by false q = past_first (past_target b hit stored h q) (has_shift m b AdapterToTarget || has_flip m b TargetToAdapter) refl
