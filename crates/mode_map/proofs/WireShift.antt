-- A read whose command names another address.
use Rattle.std.proofs.Common.{◌≡◌, ◌≢◌, ◌<◌, ℕ, ◌^◌, Bool, true, false, ◌&&◌, ◌||◌, eqb, if◌then◌else◌, List, [], Some, None, refl, sym, ap, ◌∙◌, arith}
use Rattle.std.specs.Prelude.{bit_xor, pos, ℤ, Result, Ok, Err, unwrap_or}
use Rattle.std.proofs.lemmas.Bool.{eq-eqb}
use Rattle.pi_guard.specs.Guards.{crc}
use Rattle.pi_guard.proofs.GuardSizes.{guard_below}
use Rattle.pi_guard.specs.declared.GuardKind.TheVariants.{Crc}
use Rattle.pi_tuple.specs.Finds.{has_ref_tag, is_escaped}
use Rattle.pi_tuple.specs.Tuples.{ref_tag}
use Rattle.pi_tuple.specs.declared.tuple.Tuple.{Tuple}
use Rattle.pi_tuple.specs.declared.checks.PiType.{PiType}
use Rattle.pi_tuple.specs.declared.checks.PiType.TheVariants.{Zero, One, Two, Three}
use Rattle.pi_tuple.specs.declared.checks.Check.{Check}
use Rattle.pi_tuple.specs.declared.checks.Check.TheVariants.{RefTag}
use Rattle.pi_tuple.proofs.TupleLaws.{tag_below}
use Rattle.cdb_codec.specs.Rule.{is_two}
use Rattle.fault_schedule.specs.Altered.{altered}
use Rattle.fault_schedule.specs.declared.fault.Crossing.{Crossing}
use Rattle.fault_schedule.specs.declared.fault.Crossing.TheVariants.{AdapterToHost, AdapterToTarget, MediumToTarget, TargetToAdapter}
use Rattle.fault_schedule.specs.declared.fault.FaultKind.TheVariants.{Shift}
use Rattle.fault_schedule.specs.declared.fault.FaultLine.{FaultLine}
use Rattle.integrity_payload.specs.declared.payload.Owner.{Owner}
use Rattle.bio_core.specs.declared.request.Dir.TheVariants.{Read}
use Rattle.rig_api.specs.Frames.{data_of, frame_of}
use Rattle.rig_api.specs.Passing.{asked_of, found_in, from_medium, released, then_crossed, unless, wanted_of}
use Rattle.rig_api.specs.declared.passage.Passage.{Passage}
use Rattle.block_path.specs.Routes.{by_target, moved, passage}
use Rattle.block_path.specs.WayIn.{at_host, from_device, from_wire, verified}
use Rattle.walk_laws.specs.Settings.{Block, Setting, route}
use Rattle.walk_laws.specs.PlainMap.{MapEntry, tag_of}
use Rattle.walk_laws.specs.UnderMap.{stored_as}
use Rattle.walk_laws.proofs.CalmWays.{IsProper, quiet}
use Rattle.walk_laws.proofs.TagLaws.{field_set}
use Rattle.walk_laws.proofs.TupleFrames.{Small, data_is, finds_in_frame, finds_none}
use Rattle.mode_map.specs.Failures.{Delivers, astray_cell, expected, failure_cell, fault_of, found_if, read_comes, read_end}
use Rattle.mode_map.specs.declared.failures.Cell.TheVariants.{Found}
use Rattle.mode_map.specs.declared.finder.Seen.TheVariants.{Adapter, Target}
use Rattle.mode_map.proofs.Finding.{Unescaped, open-wire, proper, served-some}
use Rattle.mode_map.specs.Finders.{IsCleanBlock, is_served}
use Rattle.mode_map.specs.declared.failures.Failure.TheVariants.{MisdirectedRead}
use Rattle.mode_map.specs.declared.failures.Link.TheVariants.{OnWire}
use Rattle.mode_map.proofs.Kept.{same-joined}
use Rattle.std.proofs.lemmas.List.{take_all}
use Rattle.mode_map.proofs.Flips.{label_of, xored-zero}
use Rattle.mode_map.proofs.Reading.{adapter-tag, carried, finds-tag, masked, spoils}
use Rattle.mode_map.proofs.Stages.{from-wire}

nothing : (c : Bool) → bit_xor (if c then 0 else 0) 0 ≡ 0
nothing true = refl
nothing false = refl

module _ (m : Setting) (b : Block) (protect : 0 < m.mode.protect) (mask : m.mode.mask ≡ 0) (owner : Owner) (n : ℤ) where
  abbrev faults : List FaultLine
  faults = fault_of b AdapterToTarget (Shift n)

  abbrev there : ℕ
  there = moved (route m b).lba n

  abbrev set : Bool → Bool → PiType → Setting
  set dix dif ty = quiet m dix dif ty

  -- the block as the target knows it
  abbrev known : Bool → Bool → PiType → Passage
  known dix dif ty = record (passage [] (route (set dix dif ty) b)) { lba = there }

  unaltered : (at : Crossing) (frame : List ℕ) → altered faults at (label_of b) frame ≡ frame
  unaltered at frame = xored-zero _ 0 frame (λ k. nothing _)

  crossed : (at : Crossing) (came : Result (List ℕ) Check) → then_crossed faults (Some (label_of b)) at came ≡ came
  crossed at (Ok frame) = ap (λ f. Ok f) (unaltered at frame)
  crossed at (Err check) = refl

  known-by : (dix dif : Bool) (ty : PiType) → passage faults (route (set dix dif ty) b) ≡ known dix dif ty
  known-by dix dif ty = ap (λ (c : Bool). at_address (moved (route m b).lba (unwrap_or (if c then Some n else None) (pos 0)))) (eq-eqb b.op b.op refl)
    where
      at_address : ℕ → Passage
      at_address lba = record (passage [] (route (set dix dif ty) b)) { lba = lba }

  frees : (dix dif : Bool) (ty : PiType) (f : List ℕ) → from_medium faults (known dix dif ty) f ≡ released (known dix dif ty) f
  unfolding from_medium
  frees dix dif ty f = crossed TargetToAdapter (released (known dix dif ty) (altered faults MediumToTarget (label_of b) f)) ∙ ap (released (known dix dif ty)) (unaltered MediumToTarget f)

  handed-on : (dix dif : Bool) (ty : PiType) (x : Result (List ℕ) Check) → from_device faults (route (set dix dif ty) b) (by_target x) ≡ from_device [] (route (set dix dif ty) b) (by_target x)
  handed-on dix dif ty (Err why) = refl
  handed-on dix dif ty (Ok f) = ap (at_host f) (from-wire faults (route (set dix dif ty) b) f ∙ crossed AdapterToHost (from_wire [] (route (set dix dif ty) b) f))

  comes : (dix dif : Bool) (ty : PiType) (f : List ℕ) → read_comes (set dix dif ty) b owner faults f ≡ read_end (set dix dif ty) (verified (route (set dix dif ty) b) owner (from_device [] (route (set dix dif ty) b) (by_target (released (known dix dif ty) f))))
  comes dix dif ty f =
      ap (λ v. read_end (set dix dif ty) (verified (route (set dix dif ty) b) owner v))
      (ap (λ v. from_device faults (route (set dix dif ty) b) (by_target v)) (ap (λ p. from_medium faults p f) (known-by dix dif ty) ∙ frees dix dif ty f)
      ∙ handed-on dix dif ty (released (known dix dif ty) f))

  module _ (e : MapEntry) (p : IsProper m e) where
    abbrev borne : PiType → Tuple
    borne ty = record { guard = crc e.body; app = e.app; rtag = tag_of ty there e.own }

    abbrev frame : PiType → List ℕ
    frame ty = frame_of e.body (borne ty)

    small : (ty : PiType) → tag_of ty there e.own < 2 ^ 32 → Small (borne ty)
    small ty h = record { guard = guard_below Crc e.body; app = p.app; rtag = h }

    none : (dix dif : Bool) (ty : PiType) → tag_of ty there e.own < 2 ^ 32 → ((asked_of (known dix dif ty)).rtag ≡ true → has_ref_tag ty ≡ true → tag_of ty there e.own ≡ wanted_of (known dix dif ty)) → found_in (known dix dif ty) (frame ty) ≡ None
    unfolding found_in
    none dix dif ty h w =
        let x = known dix dif ty in
        finds_in_frame m.size e.body (borne ty) p.size (small ty h) Crc ty (asked_of x) (wanted_of x)
        ∙ finds_none ty (asked_of x) (wanted_of x) (crc e.body) (borne ty) (λ _. refl) (masked m b protect mask owner (is_two ty && eqb x.protect 1) e.app) w

    some : (dix dif : Bool) → is_escaped Two (borne Two) ≡ false → (asked_of (known dix dif Two)).rtag ≡ true → ref_tag there ≢ ref_tag (route m b).lba → found_in (known dix dif Two) (frame Two) ≡ Some RefTag
    unfolding found_in
    some dix dif s a d =
        let x = known dix dif Two in
        finds_in_frame m.size e.body (borne Two) p.size (small Two (tag_below there)) Crc Two (asked_of x) (wanted_of x)
        ∙ finds-tag Two (asked_of x) (wanted_of x) (crc e.body) (borne Two) refl s refl (masked m b protect mask owner (is_two Two && eqb x.protect 1) e.app) a refl d

    -- released whole, or without its tuple
    bare : (dix : Bool) (ty : PiType) (f : List ℕ) → data_of m.size f ≡ e.body → found_in (known dix false ty) f ≡ None → read_comes (set dix false ty) b owner faults f ≡ Delivers e.body
    bare dix ty f d h =
        comes dix false ty f
        ∙ ap (λ v. read_end (set dix false ty) (verified (route (set dix false ty) b) owner (from_device [] (route (set dix false ty) b) (by_target v)))) (ap (λ o. unless o (data_of m.size f)) h ∙ ap (λ x. Ok x) d)
        ∙ carried m b protect mask owner dix false ty e p

    on-wire : (dix : Bool) (ty : PiType) (f : List ℕ) → (known dix true ty).protect ≡ m.mode.protect → found_in (known dix true ty) f ≡ None →
        read_comes (set dix true ty) b owner faults f ≡ read_end (set dix true ty) (verified (route (set dix true ty) b) owner (from_device [] (route (set dix true ty) b) (Ok f)))
    on-wire dix ty f field h =
        comes dix true ty f
        ∙ ap (λ v. read_end (set dix true ty) (verified (route (set dix true ty) b) owner (from_device [] (route (set dix true ty) b) (by_target v))))
        (ap (λ o. unless o (if eqb (known dix true ty).protect 0 then data_of m.size f else f)) h ∙ ap (λ z. Ok (if z then data_of m.size f else f)) (ap (λ x. eqb x 0) field ∙ field_set m protect))

    none-zero : (dix dif : Bool) → found_in (known dix dif Zero) e.body ≡ None
    unfolding found_in
    none-zero dix dif = refl

    and-false : (c : Bool) → (c && false) ≡ false
    and-false true = refl
    and-false false = refl

    pub misread : (dix dif : Bool) (ty : PiType) → Unescaped ty e → ref_tag there ≢ ref_tag (route m b).lba →
        read_comes (set dix dif ty) b owner faults (stored_as (set dix dif ty) there e) ≡ expected (astray_cell (set dix dif ty).mode ty) e.body
    misread dix false Zero u d = bare dix Zero e.body (take_all m.size e.body (omega (arith, p.size))) (none-zero dix false)
    misread dix true Zero u d =
        comes dix true Zero e.body
        ∙ ap (λ v. read_end (set dix true Zero) (verified (route (set dix true Zero) b) owner (from_device [] (route (set dix true Zero) b) (by_target v)))) (ap (λ o. unless o (data_of m.size e.body)) (none-zero dix true) ∙ ap (λ x. Ok x) (take_all m.size e.body (omega (arith, p.size))))
        ∙ carried m b protect mask owner dix true Zero e p
    misread dix false One u d = bare dix One (frame One) (data_is m.size e.body _ p.size) (none dix false One (tag_below there) (λ _ _. refl))
    misread dix false Two u d = bare dix Two (frame Two) (data_is m.size e.body _ p.size) (none dix false Two (tag_below there) (λ r _. absurd (cc)))
    misread dix false Three u d = bare dix Three (frame Three) (data_is m.size e.body _ p.size) (none dix false Three p.own (λ _ h. absurd (cc)))
    misread dix true One u d =
        on-wire dix One (frame One) refl (none dix true One (tag_below there) (λ _ _. refl))
        ∙ spoils m b protect mask owner dix true One (frame One) RefTag (adapter-tag m b protect mask owner e p (ref_tag there) (tag_below there) One refl refl (open-wire One e (crc e.body) there refl u) d)
        ∙ sym (ap (λ c. expected (found_if c Target Read (Found Adapter Read)) e.body) (and-false (eqb m.mode.protect 1 || (eqb m.mode.protect 0 && true))))
    misread dix true Two u d = by (eqb m.mode.protect 1) refl
      where
        unescaped : is_escaped Two (borne Two) ≡ false
        unescaped = open-wire Two e (crc e.body) there refl u

        by : (c : Bool) → eqb m.mode.protect 1 ≡ c → read_comes (set dix true Two) b owner faults (frame Two) ≡ expected (found_if ((c || (eqb m.mode.protect 0 && false)) && true) Target Read (Found Adapter Read)) e.body
        by true one =
            comes dix true Two (frame Two)
            ∙ ap (λ v. read_end (set dix true Two) (verified (route (set dix true Two) b) owner (from_device [] (route (set dix true Two) b) (by_target v))))
            (ap (λ o. unless o (if eqb (known dix true Two).protect 0 then data_of m.size (frame Two) else frame Two)) (some dix true unescaped (ap (λ v. v || (eqb m.mode.protect 0 && false)) one) d))
        by false one =
            on-wire dix Two (frame Two) refl (none dix true Two (tag_below there) (λ r _. absurd (let y : false ≡ true = sym (ap (λ v. v || (eqb m.mode.protect 0 && false)) one ∙ and-false (eqb m.mode.protect 0)) ∙ r in cc)))
            ∙ spoils m b protect mask owner dix true Two (frame Two) RefTag (adapter-tag m b protect mask owner e p (ref_tag there) (tag_below there) Two refl refl unescaped d)
            ∙ sym (ap (λ c. expected (found_if (c && true) Target Read (Found Adapter Read)) e.body) (and-false (eqb m.mode.protect 0)))
    misread dix true Three u d = on-wire dix Three (frame Three) refl (none dix true Three p.own (λ _ h. absurd (cc))) ∙ carried m b protect mask owner dix true Three e p

pub misread_wire : (m : Setting) (b : Block) (owner : Owner) (n : ℤ) (e : MapEntry) → is_served m.mode.protect ≡ true → IsCleanBlock m e → ref_tag (moved (route m b).lba n) ≢ ref_tag (route m b).lba →
    read_comes m b owner (fault_of b AdapterToTarget (Shift n)) (stored_as m (moved (route m b).lba n) e) ≡ expected (failure_cell (MisdirectedRead OnWire) m.mode m.ty) e.body
misread_wire m b owner n e v c d =
    misread m b (served-some m.mode.protect v) c.mask owner n e (proper m e c) m.mode.dix m.mode.dif m.ty c.unescaped d
    ∙ sym (ap (λ x. expected x e.body) (same-joined (astray_cell m.mode m.ty)))
