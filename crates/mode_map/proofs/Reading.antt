-- What a read without a fault comes to, of any stored frame.
use Rattle.std.proofs.Common.{◌≡◌, ◌<◌, ℕ, ◌^◌, Bool, true, false, not, ◌&&◌, ◌||◌, eqb, if◌then◌else◌, List, [], ◌∷◌, length, Some, None, refl, sym, ap, ◌∙◌, arith}
use Rattle.std.specs.Prelude.{bit_and, Ok}
use Rattle.std.proofs.lemmas.Bool.{eq-eqb, eqb-true, ne_eqb}
use Rattle.std.proofs.lemmas.List.{take_all}
use lib.Bits.{and_zero_r}
use Rattle.pi_guard.specs.Guards.{crc}
use Rattle.pi_guard.specs.declared.GuardKind.TheVariants.{Crc}
use Rattle.pi_guard.proofs.GuardSizes.{guard_below}
use Rattle.pi_tuple.specs.Finds.{finding, first_of, has_ref_tag, is_escaped, is_zero}
use Rattle.pi_tuple.specs.Tuples.{ref_tag}
use Rattle.pi_tuple.specs.declared.tuple.Tuple.{Tuple}
use Rattle.pi_tuple.specs.declared.checks.PiType.{PiType}
use Rattle.pi_tuple.specs.declared.checks.PiType.TheVariants.{Zero, One, Two, Three}
use Rattle.pi_tuple.specs.declared.checks.Check.{Check}
use Rattle.pi_tuple.specs.declared.checks.Check.TheVariants.{AppTag, Guard, RefTag}
use Rattle.pi_tuple.specs.declared.checks.Checks.{Checks}
use Rattle.cdb_codec.specs.Rule.{is_two}
use Rattle.integrity_payload.specs.Payloads.{all_asked}
use Rattle.integrity_payload.specs.declared.payload.Owner.{Owner}
use Rattle.bio_core.specs.declared.request.Dir.TheVariants.{Read}
use Rattle.rig_api.specs.Frames.{data_of, frame_of, tuple_of}
use Rattle.rig_api.specs.Passing.{asked_of, found_in, is_one, unless, wanted_of}
use Rattle.block_path.specs.declared.route.Route.{Route}
use Rattle.block_path.specs.Routes.{by_target, field_for, passage}
use Rattle.block_path.specs.WayIn.{adapter_finds_in, at_host, from_device, received, verified}
use Rattle.walk_laws.specs.Settings.{Block, Setting}
use Rattle.walk_laws.specs.PlainMap.{MapEntry, handed}
use Rattle.walk_laws.specs.UnderMap.{stored_as}
use Rattle.walk_laws.proofs.CalmWays.{IsProper, here, off_medium, off_wire, quiet, wire, wire_same}
use Rattle.walk_laws.proofs.TagLaws.{field_set}
use Rattle.walk_laws.proofs.TupleFrames.{Small, data_is, finds_in_frame, finds_none}
use Rattle.mode_map.specs.Failures.{Delivers, Finds, found_if, expected, read_comes, read_end, stored_guard, stored_tag}
use Rattle.mode_map.specs.declared.failures.Cell.TheVariants.{Found}
use Rattle.mode_map.specs.declared.finder.Seen.TheVariants.{Adapter, Target}
use Rattle.mode_map.proofs.Finding.{way, clean-in}
use Rattle.mode_map.proofs.Stages.{finds-guard}

tag-last : (z s g a r h d : Bool) → z ≡ false → s ≡ false → g ≡ false → a ≡ false → r ≡ true → h ≡ true → d ≡ false →
    (if z || s then None else first_of (record { check = Guard; differs = g } ∷ record { check = AppTag; differs = a } ∷ record { check = RefTag; differs = r && (h && not d) } ∷ [])) ≡ Some RefTag
tag-last z s g a r h d pz ps pg pa pr ph pd = rw (pz, ps, pg, pa, pr, ph, pd) refl

right : (c : Bool) (x y : ℕ) → x ≡ y → (c && not (eqb x y)) ≡ false
right false x y e = refl
right true x y e = ap not (eq-eqb x y e)

-- a tuple of another block, under the guard of these data
pub finds-tag : (ty : PiType) (what : Checks) (want guard : ℕ) (t : Tuple) → is_zero ty ≡ false → is_escaped ty t ≡ false → t.guard ≡ guard → bit_and t.app what.mask ≡ bit_and what.app what.mask → what.rtag ≡ true → has_ref_tag ty ≡ true → (t.rtag ≡ want → ⊥) →
    finding ty what want guard t ≡ Some RefTag
finds-tag ty what want guard t z s g a r h n =
    tag-last (is_zero ty) (is_escaped ty t) _ _ what.rtag (has_ref_tag ty) (eqb t.rtag want) z s (right what.guard t.guard guard g) (ap not (eq-eqb _ _ a)) r h (ne_eqb t.rtag want n)

module _ (m : Setting) (b : Block) (protect : 0 < m.mode.protect) (mask : m.mode.mask ≡ 0) (owner : Owner) where
  abbrev set : Bool → Bool → PiType → Setting
  set dix dif ty = quiet m dix dif ty

  abbrev road : Bool → Bool → PiType → Route
  road dix dif ty = way m b protect mask dix dif ty

  -- where nothing is found in it a block is delivered
  pub handed-data : (dix dif : Bool) (ty : PiType) (e : MapEntry) → length e.body ≡ m.size → data_of m.size (handed (set dix dif ty) b e) ≡ e.body
  handed-data true dif ty e l = data_is m.size e.body _ l
  handed-data false dif ty e l = take_all m.size e.body (omega (arith, l))

  pub delivers : (dix dif : Bool) (ty : PiType) (e : MapEntry) → IsProper m e → read_comes (set dix dif ty) b owner [] (stored_as (set dix dif ty) (here m b protect) e) ≡ Delivers e.body
  delivers dix dif ty e p =
      let k = clean-in m b protect mask dix dif ty owner e p in
      ap (λ v. read_end (set dix dif ty) (verified (road dix dif ty) owner (from_device [] (road dix dif ty) (by_target v)))) k.sends
      ∙ ap (λ v. read_end (set dix dif ty) (verified (road dix dif ty) owner (at_host (wire (set dix dif ty) b e) v))) k.hands
      ∙ ap (read_end (set dix dif ty)) k.delivered
      ∙ ap Delivers (handed-data dix dif ty e p.size)

  -- what the wire has of it
  pub carried : (dix dif : Bool) (ty : PiType) (e : MapEntry) → IsProper m e → read_end (set dix dif ty) (verified (road dix dif ty) owner (from_device [] (road dix dif ty) (Ok (wire (set dix dif ty) b e)))) ≡ Delivers e.body
  carried dix dif ty e p =
      let k = clean-in m b protect mask dix dif ty owner e p in
      ap (λ v. read_end (set dix dif ty) (verified (road dix dif ty) owner (at_host (wire (set dix dif ty) b e) v))) k.hands
      ∙ ap (read_end (set dix dif ty)) k.delivered
      ∙ ap Delivers (handed-data dix dif ty e p.size)

  -- ---- the target finds something, or it doesn't and the adapter does, or the tuple stays behind

  stops : (dix dif : Bool) (ty : PiType) (f : List ℕ) (c : Check) → found_in (passage [] (road dix dif ty)) f ≡ Some c → read_comes (set dix dif ty) b owner [] f ≡ Finds Target Read
  stops dix dif ty f c h =
      let x = passage [] (road dix dif ty) in
      ap (λ v. read_end (set dix dif ty) (verified (road dix dif ty) owner (from_device [] (road dix dif ty) (by_target v))))
      (off_medium (road dix dif ty) f ∙ ap (λ o. unless o (if eqb x.protect 0 then data_of m.size f else f)) h)

  -- on the wire
  pub spoils : (dix dif : Bool) (ty : PiType) (f : List ℕ) (c : Check) → adapter_finds_in (road dix dif ty) f ≡ Some c →
      read_end (set dix dif ty) (verified (road dix dif ty) owner (from_device [] (road dix dif ty) (Ok f))) ≡ Finds Adapter Read
  spoils dix dif ty f c h = ap (λ v. read_end (set dix dif ty) (verified (road dix dif ty) owner (at_host f v))) (off_wire (road dix dif ty) f ∙ ap (λ o. unless o (received (road dix dif ty) f)) h)

  passes-on : (dix : Bool) (ty : PiType) (f : List ℕ) (c : Check) → field_for (set dix true ty).mode ty ≡ m.mode.protect → found_in (passage [] (road dix true ty)) f ≡ None → adapter_finds_in (road dix true ty) f ≡ Some c →
      read_comes (set dix true ty) b owner [] f ≡ Finds Adapter Read
  passes-on dix ty f c field h k =
      let x = passage [] (road dix true ty) in
      ap (λ v. read_end (set dix true ty) (verified (road dix true ty) owner (from_device [] (road dix true ty) (by_target v))))
      (off_medium (road dix true ty) f ∙ ap (λ o. unless o (if eqb x.protect 0 then data_of m.size f else f)) h
      ∙ ap (λ z. Ok (if z then data_of m.size f else f)) (ap (λ n. eqb n 0) field ∙ field_set m protect))
      ∙ spoils dix true ty f c k

  pub strips : (dix : Bool) (ty : PiType) (f : List ℕ) (e : MapEntry) → IsProper m e → data_of m.size f ≡ e.body → found_in (passage [] (road dix false ty)) f ≡ None → read_comes (set dix false ty) b owner [] f ≡ Delivers e.body
  strips dix ty f e p d h =
      let k = clean-in m b protect mask dix false ty owner e p in
      ap (λ v. read_end (set dix false ty) (verified (road dix false ty) owner (from_device [] (road dix false ty) (by_target v))))
      (off_medium (road dix false ty) f ∙ ap (λ o. unless o (data_of m.size f)) h ∙ ap (λ x. Ok x) d)
      ∙ ap (λ v. read_end (set dix false ty) (verified (road dix false ty) owner (at_host e.body v))) k.hands
      ∙ ap (read_end (set dix false ty)) k.delivered
      ∙ ap Delivers (handed-data dix false ty e p.size)

  -- ---- a frame under another tag

  pub masked : (c : Bool) (app : ℕ) → bit_and app (if c then m.mode.mask else 0) ≡ bit_and m.mode.app (if c then m.mode.mask else 0)
  masked true app = ap (bit_and app) mask ∙ and_zero_r app ∙ sym (ap (bit_and m.mode.app) mask ∙ and_zero_r m.mode.app)
  masked false app = and_zero_r app ∙ sym (and_zero_r m.mode.app)

  module _ (e : MapEntry) (p : IsProper m e) (tag : ℕ) (small : tag < 2 ^ 32) where
    abbrev pub bearing : Tuple
    bearing = record { guard = crc e.body; app = e.app; rtag = tag }

    abbrev pub borne : List ℕ
    borne = frame_of e.body bearing

    small-bearing : Small bearing
    small-bearing = record { guard = below-guard; app = p.app; rtag = small }
      where
        below-guard : crc e.body < 2 ^ 16
        below-guard = guard_below Crc e.body

    -- at the target and at the adapter
    pub target-tag : (dix dif : Bool) (ty : PiType) → is_zero ty ≡ false → has_ref_tag ty ≡ true → is_escaped ty bearing ≡ false → (asked_of (passage [] (road dix dif ty))).rtag ≡ true → (tag ≡ wanted_of (passage [] (road dix dif ty)) → ⊥) →
        found_in (passage [] (road dix dif ty)) borne ≡ Some RefTag
    unfolding found_in
    target-tag dix dif ty z h s a n =
        let x = passage [] (road dix dif ty) in
        finds_in_frame m.size e.body bearing p.size small-bearing Crc ty (asked_of x) (wanted_of x)
        ∙ finds-tag ty (asked_of x) (wanted_of x) (crc e.body) bearing z s refl (masked (is_two ty && eqb x.protect 1) e.app) a h n

    pub target-none : (dix dif : Bool) (ty : PiType) → (asked_of (passage [] (road dix dif ty))).rtag ≡ false → found_in (passage [] (road dix dif ty)) borne ≡ None
    unfolding found_in
    target-none dix dif ty a =
        let x = passage [] (road dix dif ty) in
        finds_in_frame m.size e.body bearing p.size small-bearing Crc ty (asked_of x) (wanted_of x)
        ∙ finds_none ty (asked_of x) (wanted_of x) (crc e.body) bearing (λ _. refl) (masked (is_two ty && eqb x.protect 1) e.app) (λ r _. absurd (let y : false ≡ true = sym a ∙ r in cc))

    pub adapter-tag : (ty : PiType) → is_zero ty ≡ false → has_ref_tag ty ≡ true → is_escaped ty bearing ≡ false → (tag ≡ ref_tag (here m b protect) → ⊥) →
        finding ty (all_asked m.mode.app m.mode.mask) (ref_tag (here m b protect)) (crc (data_of m.size borne)) (tuple_of m.size borne) ≡ Some RefTag
    adapter-tag ty z h s n =
        finds_in_frame m.size e.body bearing p.size small-bearing Crc ty (all_asked m.mode.app m.mode.mask) (ref_tag (here m b protect))
        ∙ finds-tag ty (all_asked m.mode.app m.mode.mask) (ref_tag (here m b protect)) (crc e.body) bearing z s refl (ap (bit_and e.app) mask ∙ and_zero_r e.app ∙ sym (ap (bit_and m.mode.app) mask ∙ and_zero_r m.mode.app)) refl h n

    want-one : (dix dif : Bool) → (tag ≡ ref_tag (here m b protect) → ⊥) → tag ≡ wanted_of (passage [] (road dix dif One)) → ⊥
    want-one dix dif n h = n (h ∙ ap ref_tag (wire_same m b protect dix dif One))

    pub other-tag : (dix dif : Bool) (ty : PiType) → has_ref_tag ty ≡ true → is_escaped ty bearing ≡ false → (tag ≡ ref_tag (here m b protect) → ⊥) →
        read_comes (set dix dif ty) b owner [] borne ≡ expected (stored_tag (set dix dif ty).mode ty) e.body
    other-tag dix dif Zero h s n = absurd (cc)
    other-tag dix dif Three h s n = absurd (cc)
    other-tag dix false One h s n = stops dix false One borne RefTag (target-tag dix false One refl refl s refl (want-one dix false n))
    other-tag dix false Two h s n = strips dix Two borne e p (data_is m.size e.body bearing p.size) (target-none dix false Two refl)
    other-tag dix true One h s n = by (eqb m.mode.protect 1) refl
      where
        by : (c : Bool) → eqb m.mode.protect 1 ≡ c → read_comes (set dix true One) b owner [] borne ≡ expected (found_if (c || (eqb m.mode.protect 0 && true)) Target Read (Found Adapter Read)) e.body
        by true one = stops dix true One borne RefTag (target-tag dix true One refl refl s (ap (λ v. v || (eqb m.mode.protect 0 && true)) one) (want-one dix true n))
        by false one =
            passes-on dix One borne RefTag refl (target-none dix true One (ap (λ v. v || (eqb m.mode.protect 0 && true)) one ∙ ap (λ v. v && true) (field_set m protect))) (adapter-tag One refl refl s n)
            ∙ sym (ap (λ v. expected (found_if (v && true) Target Read (Found Adapter Read)) e.body) (field_set m protect))
    other-tag dix true Two h s n = by (eqb m.mode.protect 1) refl
      where
        by : (c : Bool) → eqb m.mode.protect 1 ≡ c → read_comes (set dix true Two) b owner [] borne ≡ expected (found_if (c || (eqb m.mode.protect 0 && false)) Target Read (Found Adapter Read)) e.body
        by true one = stops dix true Two borne RefTag (target-tag dix true Two refl refl s (ap (λ v. v || (eqb m.mode.protect 0 && false)) one) n)
        by false one =
            passes-on dix Two borne RefTag refl (target-none dix true Two (ap (λ v. v || (eqb m.mode.protect 0 && false)) one ∙ ap (λ v. v && false) (field_set m protect))) (adapter-tag Two refl refl s n)
            ∙ sym (ap (λ v. expected (found_if (v && false) Target Read (Found Adapter Read)) e.body) (field_set m protect))

  -- ---- a frame whose guard isn't that of its data

  module _ (body : List ℕ) (t : Tuple) (l : length body ≡ m.size) (small : Small t) (wrong : t.guard ≡ crc body → ⊥) where
    abbrev pub spoilt : List ℕ
    spoilt = frame_of body t

    pub target-guard : (dix dif : Bool) (ty : PiType) → is_zero ty ≡ false → is_escaped ty t ≡ false → (asked_of (passage [] (road dix dif ty))).guard ≡ true → found_in (passage [] (road dix dif ty)) spoilt ≡ Some Guard
    unfolding found_in
    target-guard dix dif ty z s a =
        let x = passage [] (road dix dif ty) in
        finds-guard m.size Crc ty (asked_of x) (wanted_of x) body t l small z s a wrong

    pub target-asleep : (dix : Bool) (ty : PiType) → (passage [] (road dix true ty)).protect ≡ 3 → found_in (passage [] (road dix true ty)) spoilt ≡ None
    unfolding found_in
    target-asleep dix ty three =
        let x = passage [] (road dix true ty) in
        let g : (asked_of x).guard ≡ false = ap (λ n. not (eqb n 3)) three in
        let r : (asked_of x).rtag ≡ false = ap (λ n. eqb n 1 || (eqb n 0 && is_one ty)) three in
        finds_in_frame m.size body t l small Crc ty (asked_of x) (wanted_of x)
        ∙ finds_none ty (asked_of x) (wanted_of x) (crc body) t (λ h. absurd (let y : false ≡ true = sym g ∙ h in cc)) (masked (is_two ty && eqb x.protect 1) t.app) (λ h _. absurd (let y : false ≡ true = sym r ∙ h in cc))

    pub adapter-guard : (ty : PiType) → is_zero ty ≡ false → is_escaped ty t ≡ false →
        finding ty (all_asked m.mode.app m.mode.mask) (ref_tag (here m b protect)) (crc (data_of m.size spoilt)) (tuple_of m.size spoilt) ≡ Some Guard
    adapter-guard ty z s = finds-guard m.size Crc ty (all_asked m.mode.app m.mode.mask) (ref_tag (here m b protect)) body t l small z s refl wrong

    pub along : (dix : Bool) (ty : PiType) (c : Bool) → is_zero ty ≡ false → is_escaped ty t ≡ false → (passage [] (road dix true ty)).protect ≡ m.mode.protect → adapter_finds_in (road dix true ty) spoilt ≡ Some Guard → eqb m.mode.protect 3 ≡ c →
        read_comes (set dix true ty) b owner [] spoilt ≡ expected (found_if (not c) Target Read (Found Adapter Read)) body
    along dix ty true z s field a h = passes-on dix ty spoilt Guard field (target-asleep dix ty (field ∙ eqb-true m.mode.protect 3 h)) a
    along dix ty false z s field a h = stops dix true ty spoilt Guard (target-guard dix true ty z s (ap (λ n. not (eqb n 3)) field ∙ ap not h))

    pub other-guard : (dix dif : Bool) (ty : PiType) → is_zero ty ≡ false → is_escaped ty t ≡ false → read_comes (set dix dif ty) b owner [] spoilt ≡ expected (stored_guard (set dix dif ty).mode ty) body
    other-guard dix dif Zero z s = absurd (cc)
    other-guard dix false One z s = stops dix false One spoilt Guard (target-guard dix false One refl s refl)
    other-guard dix false Two z s = stops dix false Two spoilt Guard (target-guard dix false Two refl s refl)
    other-guard dix false Three z s = stops dix false Three spoilt Guard (target-guard dix false Three refl s refl)
    other-guard dix true One z s = along dix One (eqb m.mode.protect 3) refl s refl (adapter-guard One refl s) refl
    other-guard dix true Two z s = along dix Two (eqb m.mode.protect 3) refl s refl (adapter-guard Two refl s) refl
    other-guard dix true Three z s = along dix Three (eqb m.mode.protect 3) refl s refl (adapter-guard Three refl s) refl
