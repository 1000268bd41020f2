-- One block's way out and in where nothing alters it: in every mode, for every type.
use Rattle.std.proofs.Common.{◌≡◌, ◌<◌, ℕ, ◌+◌, ◌^◌, Bool, true, false, not, ◌&&◌, ◌||◌, eqb, if◌then◌else◌, List, [], ◌∷◌, ◌++◌, length, drop, Option, Some, None, refl, sym, ap, ◌∙◌, arith}
use Rattle.std.specs.Prelude.{bit_and, Result, Ok, Err}
use Rattle.std.specs.Int.{w16, to_be_bytes}
use Rattle.std.proofs.lemmas.Bool.{eq-eqb, eqb-true, not-false}
use Rattle.std.proofs.lemmas.List.{drop-drop, take_all}
use lib.Bits.{and_zero_r}
use Rattle.pi_guard.specs.Guards.{crc, guard_of}
use Rattle.pi_guard.specs.declared.GuardKind.{GuardKind}
use Rattle.pi_guard.specs.declared.GuardKind.TheVariants.{Crc, Ip}
use Rattle.pi_guard.proofs.GuardSizes.{guard_below}
use Rattle.pi_tuple.specs.Finds.{finding, first_of, has_ref_tag, is_escaped, own_tag}
use Rattle.pi_tuple.specs.Tuples.{ref_tag}
use Rattle.pi_tuple.specs.declared.tuple.Tuple.{Tuple}
use Rattle.pi_tuple.specs.declared.checks.PiType.{PiType}
use Rattle.pi_tuple.specs.declared.checks.PiType.TheVariants.{Zero, One, Two, Three}
use Rattle.pi_tuple.specs.declared.checks.Check.{Check}
use Rattle.pi_tuple.specs.declared.checks.Check.TheVariants.{AppTag, Guard, RefTag}
use Rattle.pi_tuple.specs.declared.checks.Checks.{Checks}
use Rattle.pi_tuple.proofs.TupleLaws.{tag_below}
use Rattle.fault_schedule.specs.Altered.{altered, named}
use Rattle.fault_schedule.specs.declared.Label.{Label}
use Rattle.fault_schedule.specs.declared.fault.Crossing.{Crossing}
use Rattle.fault_schedule.specs.declared.fault.Crossing.TheVariants.{AdapterToHost, AdapterToTarget, HostToAdapter, MediumToTarget, TargetToAdapter, TargetToMedium}
use Rattle.fault_schedule.proofs.Unaltered.{altered_none}
use Rattle.stack_ops.specs.Passed.{Adapter, is_two}
use Rattle.block_path.specs.Passed.{data_of, frame_of, tuple_of, accepted, asked_of as checked_of, found_in, from_medium, released, then_crossed, to_medium, unless, wanted_of, all_asked, Owner}
use Rattle.block_path.specs.declared.route.Route.{Route}
use Rattle.block_path.specs.Routes.{by_target, converted, host_type, is_crc, passage, passes_tuples, stored_lba, target, with_guard, wire_lba, medium_lba}
use Rattle.block_path.specs.WayIn.{Delivers, adapter_finds_in, at_host, from_device, from_wire, mapped_back, owner_finds, received, delivered_unless, verified, way_in}
use Rattle.block_path.specs.WayOut.{Fails, Stores, WayOut, adapter_finds_out, at_device, checked_out, from_adapter, goes_out, mapped_out, sent, to_wire, way_out}
use Rattle.block_path.proofs.Cells.{AllBelow}
use Rattle.block_path.proofs.PathLaws.{as_crc, as_ip}
use Rattle.walk_laws.specs.Settings.{Block, Setting, route}
use Rattle.walk_laws.specs.PlainMap.{MapEntry, all_pass, as_expected, entry_of, finds_of_app, handed, own_in, passed, tag_of}
use Rattle.walk_laws.specs.UnderMap.{stored_as}
use Rattle.walk_laws.proofs.TupleFrames.{Small, behind_is, data_is, finds_in_frame, finds_none, mapped_is}
use Rattle.walk_laws.proofs.TagLaws.{mask_fits, tag_right, field_set}
use Rattle.small_laws.proofs.Tests.{never}

-- a setting without faults, over a target, with these in place of its own
abbrev pub quiet : Setting → Bool → Bool → PiType → Setting
quiet m dix dif ty = record m {
  mode = record m.mode { dix = dix; dif = dif };
  ty = ty;
  site = record m.site { faults = []; device = target [] };
  fails = λ op. false;
}

pub crossed_none : (at : Crossing) (label : Label) (came : Result (List ℕ) Check) → then_crossed [] (Some label) at came ≡ came
crossed_none at label (Ok frame) = ap (λ f. Ok f) (altered_none at label frame)
crossed_none at label (Err check) = refl

pub onto_wire : (r : Route) (frame : List ℕ) → to_wire [] r frame ≡ checked_out r frame
unfolding to_wire
onto_wire r frame = ap (checked_out r) (altered_none HostToAdapter r.label frame)

pub off_wire : (r : Route) (frame : List ℕ) → from_wire [] r frame ≡ unless (adapter_finds_in r frame) (received r frame)
unfolding from_wire
off_wire r frame = crossed_none AdapterToHost r.label (unless (adapter_finds_in r frame) (received r frame))

pub onto_medium : (r : Route) (frame : List ℕ) → to_medium [] (passage [] r) frame ≡ accepted (passage [] r) frame
unfolding to_medium
onto_medium r frame =
    crossed_none TargetToMedium r.label (accepted (passage [] r) (altered [] AdapterToTarget r.label frame))
    ∙ ap (accepted (passage [] r)) (altered_none AdapterToTarget r.label frame)

pub off_medium : (r : Route) (frame : List ℕ) → from_medium [] (passage [] r) frame ≡ released (passage [] r) frame
unfolding from_medium
off_medium r frame =
    crossed_none TargetToAdapter r.label (released (passage [] r) (altered [] MediumToTarget r.label frame))
    ∙ ap (released (passage [] r)) (altered_none MediumToTarget r.label frame)

-- what travels between adapter and target
abbrev pub wire : Setting → Block → MapEntry → List ℕ
wire m b e = if passes_tuples (route m b) then frame_of e.body (record { guard = crc e.body; app = e.app; rtag = tag_of m.ty (route m b).lba e.own }) else e.body

-- what the host has of a read before its tag is mapped back
abbrev pub hosted : Setting → Block → MapEntry → List ℕ
hosted m b e =
    if m.mode.dix then frame_of e.body (record { guard = guard_of m.mode.kind e.body; app = (passed m e).app; rtag = tag_of (host_type m.ty) (route m b).lba (passed m e).own }) else e.body

pub record IsProper (m : Setting) (e : MapEntry) : Type 0 where
  pub size : length e.body ≡ m.size
  pub bytes : AllBelow 256 e.body
  pub app : e.app < 2 ^ 16
  pub own : e.own < 2 ^ 32
  pub expected : as_expected m e.app ≡ true

pub record Bare (e : MapEntry) : Type 0 where
  pub app : e.app ≡ 0
  pub own : e.own ≡ 0

pub unmasked : (m : Setting) (app : ℕ) → m.mode.mask ≡ 0 → as_expected m app ≡ true
unmasked m app h =
    let p = and_zero_r app in
    let q = and_zero_r m.mode.app in
    ap (λ mask. eqb (bit_and app mask) (bit_and m.mode.app mask)) h ∙ eq-eqb _ _ (p ∙ sym q)

-- where tuples don't pass an entry has neither tag
pub bare : (m : Setting) (body : List ℕ) (t : Tuple) → all_pass m ≡ false → Bare (entry_of m body t)
bare m body t h = by (all_pass m) h where
  by : (c : Bool) → c ≡ false → Bare (if c then record { body = body; app = t.app; own = own_in m.ty t.rtag } else record { body = body; app = 0; own = 0 })
  by false h = record { app = refl; own = refl }
  by true h = never (sym h)

own_below : (ty : PiType) (rtag : ℕ) → rtag < 2 ^ 32 → own_in ty rtag < 2 ^ 32
own_below Zero rtag h = omega arith
own_below One rtag h = omega arith
own_below Two rtag h = omega arith
own_below Three rtag h = h

pub rtag_below : (ty : PiType) (named own : ℕ) → own < 2 ^ 32 → tag_of ty named own < 2 ^ 32
rtag_below Zero named own h = h
rtag_below One named own h = tag_below named
rtag_below Two named own h = tag_below named
rtag_below Three named own h = h

pub proper_entry : (m : Setting) (body : List ℕ) (t : Tuple) → length body ≡ m.size → AllBelow 256 body → Small t → as_expected m t.app ≡ true → (all_pass m ≡ false → m.mode.mask ≡ 0) → IsProper m (entry_of m body t)
proper_entry m body t l h s e free = by (all_pass m) free where
  by : (c : Bool) → (c ≡ false → m.mode.mask ≡ 0) → IsProper m (if c then record { body = body; app = t.app; own = own_in m.ty t.rtag } else record { body = body; app = 0; own = 0 })
  by true free = record { size = l; bytes = h; app = s.app; own = own_below m.ty t.rtag s.rtag; expected = e }
  by false free = record { size = l; bytes = h; app = omega arith; own = omega arith; expected = unmasked m 0 (free refl) }

pub proper_passed : (m : Setting) (e : MapEntry) → IsProper m e → (all_pass m ≡ false → m.mode.mask ≡ 0) → IsProper m (passed m e)
proper_passed m e p free = by (all_pass m) free where
  by : (c : Bool) → (c ≡ false → m.mode.mask ≡ 0) → IsProper m (if c then e else record { body = e.body; app = 0; own = 0 })
  by true free = p
  by false free = record { size = p.size; bytes = p.bytes; app = omega arith; own = omega arith; expected = unmasked m 0 (free refl) }

-- being proper names neither mode nor type
pub loud : (m : Setting) (dix dif : Bool) (ty : PiType) (e : MapEntry) → IsProper (quiet m dix dif ty) e → IsProper m e
loud m dix dif ty e p = record { size = p.size; bytes = p.bytes; app = p.app; own = p.own; expected = p.expected }

pub same_frame : (body : List ℕ) (g a a' r r' : ℕ) → a ≡ a' → r ≡ r' → frame_of body (record { guard = g; app = a; rtag = r }) ≡ frame_of body (record { guard = g; app = a'; rtag = r' })
same_frame body g a a' r r' p q = λ i. frame_of body (record { guard = g; app = p i; rtag = q i })

-- the map of a tag out, and back
abbrev pub out_tag : Setting → Block → ℕ → ℕ
out_tag m b rtag = if has_ref_tag (host_type m.ty) && eqb rtag (ref_tag b.virt) then ref_tag (route m b).lba else rtag

abbrev pub back_tag : Setting → Block → ℕ → ℕ
back_tag m b rtag = if has_ref_tag (host_type m.ty) && eqb rtag (ref_tag (route m b).lba) then ref_tag b.virt else rtag

retagged : (c : Bool) (t : Tuple) (n : ℕ) → ◌≡◌ {A = Tuple} (if c then record { guard = t.guard; app = t.app; rtag = n } else t) (record { guard = t.guard; app = t.app; rtag = if c then n else t.rtag })
retagged true t n = refl
retagged false t n = refl

-- a check with nothing to skip
unskipped : (skip g a x y : Bool) (c d e : Check) → skip ≡ false → x ≡ y →
    (if skip then None else first_of (record { check = c; differs = g } ∷ record { check = d; differs = a } ∷ record { check = e; differs = x } ∷ []))
    ≡ first_of (record { check = c; differs = g } ∷ record { check = d; differs = a } ∷ record { check = e; differs = y } ∷ [])
unskipped skip g a x y c d e p q = rw (p, q) refl

-- mapped out, the tag is that of the address exactly where it was one of the two
one_of_two : (v p r : ℕ) → not (eqb (if eqb r v then p else r) p) ≡ not (eqb r v || eqb r p)
one_of_two v p r = by (eqb r v) where
  by : (c : Bool) → not (eqb (if c then p else r) p) ≡ not (c || eqb r p)
  by true = let e : eqb p p ≡ true = eq-eqb p p refl in ap not e
  by false = refl

-- the adapter's check of what the host hands over is the plain map's
adapter_is_plain : (ty : PiType) (m : Setting) (b : Block) (body : List ℕ) (t : Tuple) → let q : Setting = record m { ty = ty } in is_escaped (host_type ty) t ≡ false →
    finding (host_type ty) (all_asked m.mode.app m.mode.mask) (ref_tag (route q b).lba) (guard_of m.mode.kind body) (record { guard = t.guard; app = t.app; rtag = out_tag q b t.rtag }) ≡ finds_of_app q b body t
adapter_is_plain Zero m b body t h = unskipped (eqb t.app 0xFFFF) (not (eqb t.guard (guard_of m.mode.kind body))) (not (as_expected m t.app)) _ _ Guard AppTag RefTag h (one_of_two (ref_tag b.virt) (ref_tag (route m b).lba) t.rtag)
adapter_is_plain One m b body t h = unskipped (eqb t.app 0xFFFF) (not (eqb t.guard (guard_of m.mode.kind body))) (not (as_expected m t.app)) _ _ Guard AppTag RefTag h (one_of_two (ref_tag b.virt) (ref_tag (route m b).lba) t.rtag)
adapter_is_plain Two m b body t h = unskipped (eqb t.app 0xFFFF) (not (eqb t.guard (guard_of m.mode.kind body))) (not (as_expected m t.app)) _ _ Guard AppTag RefTag h (one_of_two (ref_tag b.virt) (ref_tag (route m b).lba) t.rtag)
adapter_is_plain Three m b body t h = unskipped (is_escaped Three t) (not (eqb t.guard (guard_of m.mode.kind body))) (not (as_expected m t.app)) false false Guard AppTag RefTag h refl

-- what holds of a block of which nothing is found
pub record Right (m : Setting) (b : Block) (body : List ℕ) (t : Tuple) : Type 0 where
  pub guard : t.guard ≡ guard_of m.mode.kind body
  pub app : as_expected m t.app ≡ true
  pub rtag : has_ref_tag (host_type m.ty) ≡ true → out_tag m b t.rtag ≡ ref_tag (route m b).lba

nothing_found : (g a r : Bool) (c d e : Check) → first_of (record { check = c; differs = g } ∷ record { check = d; differs = a } ∷ record { check = e; differs = r } ∷ []) ≡ None →
    (g ≡ false) × ((a ≡ false) × (r ≡ false))
nothing_found true a r c d e h = grind (arith, h)
nothing_found false true r c d e h = grind (arith, h)
nothing_found false false true c d e h = grind (arith, h)
nothing_found false false false c d e h = (refl, (refl, refl))

tagged : (c : Bool) (v p r : ℕ) → (c && not (eqb r v || eqb r p)) ≡ false → c ≡ true → (if c && eqb r v then p else r) ≡ p
tagged true v p r h k = by (eqb r v) h where
  by : (d : Bool) → not (d || eqb r p) ≡ false → (if d then p else r) ≡ p
  by true h = refl
  by false h = eqb-true r p (not-false (eqb r p) h)
tagged false v p r h k = never k

pub is_right : (m : Setting) (b : Block) (body : List ℕ) (t : Tuple) → finds_of_app m b body t ≡ None → Right m b body t
is_right m b body t h =
    let k = nothing_found (not (eqb t.guard (guard_of m.mode.kind body))) (not (as_expected m t.app)) (has_ref_tag (host_type m.ty) && not (eqb t.rtag (ref_tag b.virt) || eqb t.rtag (ref_tag (route m b).lba))) Guard AppTag RefTag h in
    record {
      guard = eqb-true t.guard (guard_of m.mode.kind body) (not-false (eqb t.guard (guard_of m.mode.kind body)) k.0);
      app = not-false (as_expected m t.app) k.1.0;
      rtag = tagged (has_ref_tag (host_type m.ty)) (ref_tag b.virt) (ref_tag (route m b).lba) t.rtag k.1.1;
    }

-- the guard of a frame is replaced
pub new_guard : (size guard : ℕ) (body : List ℕ) (t : Tuple) → length body ≡ size → with_guard size guard (frame_of body t) ≡ frame_of body (record { guard = guard; app = t.app; rtag = t.rtag })
new_guard size guard body t l =
    ap (λ d. d ++ (to_be_bytes w16 guard ++ drop (size + 2) (frame_of body t))) (data_is size body t l)
    ∙ ap (λ xs. body ++ (to_be_bytes w16 guard ++ xs)) (sym (drop-drop 2 size (frame_of body t)) ∙ ap (drop 2) (behind_is size body t l))

reguard : (m : Setting) (r : Route) (to : GuardKind) (body : List ℕ) (t : Tuple) (new : ℕ) → r.size ≡ m.size → length body ≡ r.size →
    (is_crc r.mode.kind ≡ true → t.guard ≡ new) → (is_crc r.mode.kind ≡ false → guard_of to body ≡ new) → converted r to (frame_of body t) ≡ frame_of body (record { guard = new; app = t.app; rtag = t.rtag })
reguard m r to body t new s l h k = by (is_crc r.mode.kind) h k where
  by : (c : Bool) → (c ≡ true → t.guard ≡ new) → (c ≡ false → guard_of to body ≡ new) →
      (if c then frame_of body t else with_guard r.size (guard_of to (data_of r.size (frame_of body t))) (frame_of body t)) ≡ frame_of body (record { guard = new; app = t.app; rtag = t.rtag })
  by true h k = ap (λ g. frame_of body (record { guard = g; app = t.app; rtag = t.rtag })) (h refl)
  by false h k =
      ap (λ d. with_guard r.size (guard_of to d) (frame_of body t)) (data_is r.size body t l)
      ∙ new_guard r.size (guard_of to body) body t l
      ∙ ap (λ g. frame_of body (record { guard = g; app = t.app; rtag = t.rtag })) (k refl)

-- a way out as the plain map says it: an accepted block is stored under its tuple
abbrev pub goes : Setting → Block → Option Check → MapEntry → WayOut
goes m b None e = Stores (wire m b e) (stored_as m (route m b).lba e)
goes m b (Some check) e = Fails (Adapter check)

module _ (m : Setting) (b : Block) (protect : 0 < m.mode.protect) where
  abbrev pub here : ℕ
  here = (route m b).lba

  pub wire_same : (dix dif : Bool) (ty : PiType) → wire_lba [] (route (quiet m dix dif ty) b) ≡ here
  wire_same dix dif ty = omega arith

  pub read_same : (dix dif : Bool) (ty : PiType) → medium_lba [] (route (quiet m dix dif ty) b) ≡ here
  read_same dix dif ty = omega arith

  pub stored_same : (dix dif : Bool) (ty : PiType) → stored_lba [] (route (quiet m dix dif ty) b) ≡ here
  stored_same dix dif ty = omega arith

  -- a frame under the guard of its data passes each check that wants its tags
  good : (kind : GuardKind) (ty : PiType) (what : Checks) (want : ℕ) (body : List ℕ) (app rtag : ℕ) → length body ≡ m.size → app < 2 ^ 16 → rtag < 2 ^ 32 →
      bit_and app what.mask ≡ bit_and what.app what.mask → (has_ref_tag ty ≡ true → rtag ≡ want) →
      let f = frame_of body (record { guard = guard_of kind body; app = app; rtag = rtag }) in
      finding ty what want (guard_of kind (data_of m.size f)) (tuple_of m.size f) ≡ None
  good kind ty what want body app rtag l a r fits tags =
      let t : Tuple = record { guard = guard_of kind body; app = app; rtag = rtag } in
      finds_in_frame m.size body t l (record { guard = guard_below kind body; app = a; rtag = r }) kind ty what want
      ∙ finds_none ty what want (guard_of kind body) t (λ _. refl) fits (λ _ h. tags h)

  -- from host to wire
  sent_passed : (ty : PiType) (body : List ℕ) (t : Tuple) (own : ℕ) → length body ≡ m.size → t.guard ≡ guard_of m.mode.kind body → t.rtag ≡ tag_of ty here own →
      converted (route (quiet m true true ty) b) Crc (frame_of body t) ≡ frame_of body (record { guard = crc body; app = t.app; rtag = tag_of ty here own })
  sent_passed ty body t own l g r =
      reguard m (route (quiet m true true ty) b) Crc body t (crc body) refl l (λ h. g ∙ as_crc m.mode.kind body h) (λ h. refl) ∙ same_frame body (crc body) t.app t.app t.rtag (tag_of ty here own) refl r

  sent_on : (dif : Bool) (ty : PiType) (body : List ℕ) (t : Tuple) →
      let q = quiet m true dif ty in
      let u : Tuple = record { guard = t.guard; app = t.app; rtag = out_tag q b t.rtag } in
      length body ≡ m.size → Right q b body t → sent (route q b) (frame_of body u) ≡ wire q b (entry_of q body t)
  sent_on false ty body t l h = data_is m.size body _ l
  sent_on true Zero body t l h = data_is m.size body _ l
  sent_on true One body t l h = sent_passed One body _ 0 l h.guard (h.rtag refl)
  sent_on true Two body t l h = sent_passed Two body _ 0 l h.guard (h.rtag refl)
  sent_on true Three body t l h = sent_passed Three body t t.rtag l h.guard refl

  sent_off : (dif : Bool) (ty : PiType) (body : List ℕ) (t : Tuple) → let q = quiet m false dif ty in sent (route q b) body ≡ wire q b (entry_of q body t)
  sent_off false ty body t = refl
  sent_off true Zero body t = refl
  sent_off true One body t = refl
  sent_off true Two body t = refl
  sent_off true Three body t = refl

  -- the tag that the target wants of a tuple
  wanted : (dix dif : Bool) (ty : PiType) (own : ℕ) → has_ref_tag ty ≡ true → tag_of ty here own ≡ wanted_of (passage [] (route (quiet m dix dif ty) b))
  wanted dix dif Zero own h = never h
  wanted dix dif One own h = ap ref_tag (sym (wire_same dix dif One))
  wanted dix dif Two own h = refl
  wanted dix dif Three own h = never h

  -- nothing is found at the target of a block under its tuple
  passes_target : (dix dif : Bool) (ty : PiType) (e : MapEntry) → IsProper m e →
      let p = passage [] (route (quiet m dix dif ty) b) in
      let f = frame_of e.body (record { guard = crc e.body; app = e.app; rtag = tag_of ty here e.own }) in
      found_in p f ≡ None
  unfolding found_in
  passes_target dix dif ty e h =
      let p = passage [] (route (quiet m dix dif ty) b) in
      good Crc ty (checked_of p) (wanted_of p) e.body e.app (tag_of ty here e.own) h.size h.app (rtag_below ty here e.own h.own)
      (mask_fits m (is_two ty && eqb p.protect 1) e.app h.expected) (wanted dix dif ty e.own)

  none_stored : (dix dif : Bool) (ty : PiType) (e : MapEntry) → IsProper m e → let q = quiet m dix dif ty in found_in (passage [] (route q b)) (stored_as q here e) ≡ None
  unfolding found_in
  none_stored dix dif Zero e h = refl
  none_stored dix dif One e h = passes_target dix dif One e h
  none_stored dix dif Two e h = passes_target dix dif Two e h
  none_stored dix dif Three e h = passes_target dix dif Three e h

  same_made : (dix : Bool) (ty : PiType) (e : MapEntry) → Bare e →
      frame_of e.body (record { guard = crc e.body; app = 0; rtag = own_tag ty (wire_lba [] (route (quiet m dix false ty) b)) }) ≡ frame_of e.body (record { guard = crc e.body; app = e.app; rtag = tag_of ty here e.own })
  same_made dix ty e h =
      same_frame e.body (crc e.body) 0 e.app _ _ (sym h.app)
      (ap (λ a. own_tag ty a) (wire_same dix false ty) ∙ ap (λ own. if has_ref_tag ty then ref_tag here else own) (sym h.own))

  -- what the target accepts of what the wire has
  whole_accepted : (dix : Bool) (ty : PiType) (e : MapEntry) (made : List ℕ) → let q = quiet m dix true ty in
      let f = frame_of e.body (record { guard = crc e.body; app = e.app; rtag = tag_of ty here e.own }) in
      found_in (passage [] (route q b)) f ≡ None →
      (if eqb m.mode.protect 0 then Ok made else unless (found_in (passage [] (route q b)) f) f) ≡ Ok f
  whole_accepted dix ty e made none =
      let q = quiet m dix true ty in
      let f = frame_of e.body (record { guard = crc e.body; app = e.app; rtag = tag_of ty here e.own }) in
      ap (λ c. if c then Ok made else unless (found_in (passage [] (route q b)) f) f) (field_set m protect) ∙ ap (λ o. unless o f) none

  accepted_is : (dix dif : Bool) (ty : PiType) (e : MapEntry) → IsProper m e → (passes_tuples (route (quiet m dix dif ty) b) ≡ false → Bare e) →
      let q = quiet m dix dif ty in accepted (passage [] (route q b)) (wire q b e) ≡ Ok (stored_as q here e)
  accepted_is dix false Zero e p h = refl
  accepted_is dix false One e p h = ap (λ f. Ok f) (same_made dix One e (h refl))
  accepted_is dix false Two e p h = ap (λ f. Ok f) (same_made dix Two e (h refl))
  accepted_is dix false Three e p h = ap (λ f. Ok f) (same_made dix Three e (h refl))
  accepted_is dix true Zero e p h = refl
  accepted_is dix true One e p h = whole_accepted dix One e _ (passes_target dix true One e p)
  accepted_is dix true Two e p h = whole_accepted dix Two e _ (passes_target dix true Two e p)
  accepted_is dix true Three e p h = whole_accepted dix Three e _ (passes_target dix true Three e p)

  -- what the wire has is stored
  outcome : (dix dif : Bool) (ty : PiType) (e : MapEntry) → IsProper m e → (passes_tuples (route (quiet m dix dif ty) b) ≡ false → Bare e) →
      let q = quiet m dix dif ty in at_device (wire q b e) ((target []).stores (route q b) (wire q b e)) ≡ Stores (wire q b e) (stored_as q here e)
  outcome dix dif ty e p h =
      let q = quiet m dix dif ty in
      ap (λ came. at_device (wire q b e) (by_target came)) (onto_medium (route q b) (wire q b e) ∙ accepted_is dix dif ty e p h)

  -- the way out of a block with a tuple
  pub goes_on : (dif : Bool) (ty : PiType) (body : List ℕ) (t : Tuple) → let q = quiet m true dif ty in
      length body ≡ m.size → AllBelow 256 body → Small t → (all_pass q ≡ false → m.mode.mask ≡ 0) → is_escaped (host_type ty) t ≡ false →
      way_out [] (target []) (route q b) (frame_of body t) ≡ goes q b (finds_of_app q b body t) (entry_of q body t)
  goes_on dif ty body t l bytes s free escape =
      let q = quiet m true dif ty in
      let u : Tuple = record { guard = t.guard; app = t.app; rtag = out_tag q b t.rtag } in
      let f = frame_of body u in
      let mapped : mapped_out (route q b) (frame_of body t) ≡ f = mapped_is m.size body t l s (host_type ty) b.virt here ∙ ap (frame_of body) (retagged (has_ref_tag (host_type ty) && eqb t.rtag (ref_tag b.virt)) t (ref_tag here)) in
      let finding : adapter_finds_out (route q b) f ≡ finds_of_app q b body t =
      finds_in_frame m.size body u l (small q) m.mode.kind (host_type ty) (all_asked m.mode.app m.mode.mask) (ref_tag here) ∙ adapter_is_plain ty q b body t escape in
      ap (goes_out [] (target []) (route q b)) mapped
      ∙ ap (from_adapter (target []) (route q b)) (onto_wire (route q b) f ∙ ap (λ o. unless o (sent (route q b) f)) finding)
      ∙ by (finds_of_app q b body t) refl
    where
      out_below : (c : Bool) (n rtag : ℕ) → rtag < 2 ^ 32 → (if c then ref_tag n else rtag) < 2 ^ 32
      out_below true n rtag h = tag_below n
      out_below false n rtag h = h

      small : (q : Setting) → Small (record { guard = t.guard; app = t.app; rtag = out_tag q b t.rtag })
      small q = record { guard = s.guard; app = s.app; rtag = out_below (has_ref_tag (host_type q.ty) && eqb t.rtag (ref_tag b.virt)) (route q b).lba t.rtag s.rtag }

      by : (o : Option Check) → finds_of_app (quiet m true dif ty) b body t ≡ o →
          let q = quiet m true dif ty in
          let f = frame_of body (record { guard = t.guard; app = t.app; rtag = out_tag q b t.rtag }) in
          from_adapter (target []) (route q b) (unless o (sent (route q b) f)) ≡ goes q b o (entry_of q body t)
      by (Some check) h = refl
      by None h =
          let q = quiet m true dif ty in
          let right = is_right q b body t h in
          ap (λ f. at_device f ((target []).stores (route q b) f)) (sent_on dif ty body t l right)
          ∙ outcome true dif ty (entry_of q body t) (loud m true dif ty (entry_of q body t) (proper_entry q body t l bytes s right.app free)) (bare q body t)

  -- with no tuple in memory there is none on the way to the adapter
  pub goes_bare : (dif : Bool) (ty : PiType) (body : List ℕ) (t : Tuple) → let q = quiet m false dif ty in
      length body ≡ m.size → AllBelow 256 body → m.mode.mask ≡ 0 →
      way_out [] (target []) (route q b) body ≡ Stores (wire q b (entry_of q body t)) (stored_as q here (entry_of q body t))
  goes_bare dif ty body t l bytes free =
      let q = quiet m false dif ty in
      ap (from_adapter (target []) (route q b)) (onto_wire (route q b) body)
      ∙ ap (λ f. at_device f ((target []).stores (route q b) f)) (sent_off dif ty body t)
      ∙ outcome false dif ty (entry_of q body t) (record { size = l; bytes = bytes; app = omega arith; own = omega arith; expected = unmasked m 0 free }) (λ _. record { app = refl; own = refl })

  -- what the target releases of what is stored
  whole_released : (dix : Bool) (ty : PiType) (f other : List ℕ) → (if eqb m.mode.protect 0 then other else f) ≡ f
  whole_released dix ty f other = ap (λ c. if c then other else f) (field_set m protect)

  put_on_wire : (dix dif : Bool) (ty : PiType) (e : MapEntry) → IsProper m e → let q = quiet m dix dif ty in
      let p = passage [] (route q b) in (if eqb p.protect 0 then data_of m.size (stored_as q here e) else stored_as q here e) ≡ wire q b e
  put_on_wire dix false Zero e p = take_all m.size e.body (omega (arith, p.size))
  put_on_wire dix false One e p = data_is m.size e.body _ p.size
  put_on_wire dix false Two e p = data_is m.size e.body _ p.size
  put_on_wire dix false Three e p = data_is m.size e.body _ p.size
  put_on_wire dix true Zero e p = take_all m.size e.body (omega (arith, p.size))
  put_on_wire dix true One e p = whole_released dix One _ _
  put_on_wire dix true Two e p = whole_released dix Two _ _
  put_on_wire dix true Three e p = whole_released dix Three _ _

  released_is : (dix dif : Bool) (ty : PiType) (e : MapEntry) → IsProper m e → let q = quiet m dix dif ty in released (passage [] (route q b)) (stored_as q here e) ≡ Ok (wire q b e)
  released_is dix dif ty e p =
      let q = quiet m dix dif ty in
      let x = passage [] (route q b) in
      ap (λ o. unless o (if eqb x.protect 0 then data_of m.size (stored_as q here e) else stored_as q here e)) (none_stored dix dif ty e p)
      ∙ ap (λ f. Ok f) (put_on_wire dix dif ty e p)

  passes_adapter : (ty : PiType) (e : MapEntry) → IsProper m e →
      let f = frame_of e.body (record { guard = crc e.body; app = e.app; rtag = tag_of ty here e.own }) in
      finding ty (all_asked m.mode.app m.mode.mask) (ref_tag here) (crc (data_of m.size f)) (tuple_of m.size f) ≡ None
  passes_adapter ty e p =
      good Crc ty (all_asked m.mode.app m.mode.mask) (ref_tag here) e.body e.app (tag_of ty here e.own) p.size p.app (rtag_below ty here e.own p.own) (eqb-true _ _ p.expected) (tag_right ty here e.own)

  adapter_in : (dix dif : Bool) (ty : PiType) (e : MapEntry) → IsProper m e → let q = quiet m dix dif ty in adapter_finds_in (route q b) (wire q b e) ≡ None
  adapter_in dix false ty e p = refl
  adapter_in dix true Zero e p = refl
  adapter_in dix true One e p = passes_adapter One e p
  adapter_in dix true Two e p = passes_adapter Two e p
  adapter_in dix true Three e p = passes_adapter Three e p

  received_passed : (ty : PiType) (e : MapEntry) → IsProper m e →
      converted (route (quiet m true true ty) b) Ip (frame_of e.body (record { guard = crc e.body; app = e.app; rtag = tag_of ty here e.own }))
      ≡ frame_of e.body (record { guard = guard_of m.mode.kind e.body; app = e.app; rtag = tag_of ty here e.own })
  received_passed ty e p =
      reguard m (route (quiet m true true ty) b) Ip e.body (record { guard = crc e.body; app = e.app; rtag = tag_of ty here e.own }) (guard_of m.mode.kind e.body) refl p.size
      (λ h. sym (as_crc m.mode.kind e.body h)) (λ h. as_ip m.mode.kind e.body h)

  received_is : (dix dif : Bool) (ty : PiType) (e : MapEntry) → IsProper m e → let q = quiet m dix dif ty in received (route q b) (wire q b e) ≡ hosted q b e
  received_is true false ty e p = refl
  received_is true true Zero e p = refl
  received_is true true One e p = received_passed One e p
  received_is true true Two e p = received_passed Two e p
  received_is true true Three e p = received_passed Three e p
  received_is false false ty e p = refl
  received_is false true Zero e p = refl
  received_is false true One e p = data_is m.size e.body _ p.size
  received_is false true Two e p = data_is m.size e.body _ p.size
  received_is false true Three e p = data_is m.size e.body _ p.size

  back_named : (ty : PiType) (own : ℕ) → back_tag (record m { ty = ty }) b (tag_of (host_type ty) here own) ≡ tag_of (host_type ty) b.virt own
  back_named ty own = by (has_ref_tag (host_type ty)) where
    by : (c : Bool) → (if c && eqb (if c then ref_tag here else own) (ref_tag here) then ref_tag b.virt else (if c then ref_tag here else own)) ≡ (if c then ref_tag b.virt else own)
    by false = refl
    by true = let e : eqb (ref_tag here) (ref_tag here) ≡ true = eq-eqb (ref_tag here) (ref_tag here) refl in ap (λ c. if c then ref_tag b.virt else ref_tag here) e

  home_again : (dix dif : Bool) (ty : PiType) (e : MapEntry) → let q = quiet m dix dif ty in IsProper m (passed q e) → length e.body ≡ m.size → mapped_back (route q b) (hosted q b e) ≡ handed q b e
  home_again false dif ty e p l = refl
  home_again true dif ty e p l =
      let q = quiet m true dif ty in
      let x = passed q e in
      let t : Tuple = record { guard = guard_of m.mode.kind e.body; app = x.app; rtag = tag_of (host_type ty) here x.own } in
      let s : Small t = record { guard = guard_below m.mode.kind e.body; app = p.app; rtag = rtag_below (host_type ty) here x.own p.own } in
      mapped_is m.size e.body t l s (host_type ty) here b.virt
      ∙ ap (frame_of e.body) (retagged (has_ref_tag (host_type ty) && eqb t.rtag (ref_tag here)) t (ref_tag b.virt))
      ∙ ap (λ r. frame_of e.body (record { guard = guard_of m.mode.kind e.body; app = x.app; rtag = r })) (back_named ty x.own)

  owner_in : (dix dif : Bool) (ty : PiType) (e : MapEntry) → let q = quiet m dix dif ty in IsProper m (passed q e) → length e.body ≡ m.size → owner_finds (route q b) (handed q b e) ≡ None
  owner_in false dif ty e p l = refl
  owner_in true dif ty e p l =
      let x = passed (quiet m true dif ty) e in
      good m.mode.kind (host_type ty) (all_asked m.mode.app m.mode.mask) (ref_tag b.virt) e.body x.app (tag_of (host_type ty) b.virt x.own) l p.app (rtag_below (host_type ty) b.virt x.own p.own)
      (eqb-true _ _ p.expected) (tag_right (host_type ty) b.virt x.own)

  -- the way in of the block that is stored for an entry
  pub comes_home : (dix dif : Bool) (ty : PiType) (owner : Owner) (e : MapEntry) → let q = quiet m dix dif ty in
      IsProper m e → (all_pass q ≡ false → m.mode.mask ≡ 0) → way_in [] (target []) (route q b) owner (stored_as q here e) ≡ Delivers (wire q b e) (handed q b e)
  comes_home dix dif ty owner e p free =
      let q = quiet m dix dif ty in
      let r = route q b in
      let x : IsProper m (passed q e) = loud m dix dif ty (passed q e) (proper_passed q e (record { size = p.size; bytes = p.bytes; app = p.app; own = p.own; expected = p.expected }) free) in
      let w = wire q b e in
      ap (λ came. verified r owner (from_device [] r (by_target came))) (off_medium r (stored_as q here e) ∙ released_is dix dif ty e p)
      ∙ ap (λ came. verified r owner (at_host w came)) (off_wire r w ∙ ap (λ o. unless o (received r w)) (adapter_in dix dif ty e p))
      ∙ ap (λ f. delivered_unless owner w (mapped_back r f) (owner_finds r (mapped_back r f))) (received_is dix dif ty e p)
      ∙ ap (λ f. delivered_unless owner w f (owner_finds r f)) (home_again dix dif ty e x p.size)
      ∙ ap (λ o. delivered_unless owner w (handed q b e) o) (owner_in dix dif ty e x p.size)
