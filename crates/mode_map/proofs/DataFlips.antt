-- What a flip of the data comes to, crossing by crossing.
use Rattle.std.proofs.Common.{◌≡◌, ◌<◌, ℕ, ◌^◌, Bool, true, false, not, eqb, if◌then◌else◌, List, [], Option, Some, None, refl, sym, ap, subst, ◌∙◌, ◌⊎◌, inl, inr, arith}
use Rattle.std.specs.Prelude.{Ok}
use Rattle.std.proofs.lemmas.Bool.{eqb-true, ne_eqb}
use Rattle.std.proofs.lemmas.List.{take_all}
use Rattle.pi_guard.specs.Guards.{crc, guard_of}
use Rattle.pi_tuple.specs.Finds.{finding, is_escaped, is_zero}
use Rattle.pi_tuple.specs.Tuples.{ref_tag}
use Rattle.pi_tuple.specs.declared.tuple.Tuple.{Tuple}
use Rattle.pi_tuple.specs.declared.checks.PiType.{PiType}
use Rattle.pi_tuple.specs.declared.checks.PiType.TheVariants.{Zero, One, Two, Three}
use Rattle.pi_tuple.specs.declared.checks.Check.{Check}
use Rattle.pi_tuple.specs.declared.checks.Check.TheVariants.{Guard}
use Rattle.pi_tuple.proofs.TupleLaws.{tag_below}
use Rattle.fault_schedule.specs.Altered.{altered}
use Rattle.fault_schedule.specs.declared.fault.Crossing.{Crossing}
use Rattle.fault_schedule.specs.declared.fault.Crossing.TheVariants.{AdapterToHost, AdapterToTarget, HostToAdapter, MediumToTarget, TargetToAdapter, TargetToMedium}
use Rattle.integrity_payload.specs.Payloads.{all_asked}
use Rattle.integrity_payload.specs.declared.payload.Owner.{Owner}
use Rattle.integrity_payload.specs.declared.payload.Owner.TheVariants.{Block as OfBlock, App as OfApp}
use Rattle.bio_core.specs.declared.request.Dir.TheVariants.{Read, Write}
use Rattle.ref_remap.specs.Remapped.{remapped}
use Rattle.rig_api.specs.Frames.{data_of, frame_of, tuple_of}
use Rattle.rig_api.specs.Passing.{found_in, to_medium, unless, with_own_tuple}
use Rattle.block_path.specs.declared.route.Route.{Route}
use Rattle.block_path.specs.Routes.{by_target, host_type, passage, target}
use Rattle.block_path.specs.WayIn.{Delivers as Arrives, adapter_finds_in, delivered_unless, from_device, mapped_back, owner_finds, received, verified}
use Rattle.block_path.specs.WayOut.{adapter_finds_out, at_device, from_adapter, mapped_out, sent, to_wire}
use Rattle.block_path.proofs.PathLaws.{never_zero}
use Rattle.walk_laws.specs.Settings.{Block, Setting}
use Rattle.walk_laws.specs.PlainMap.{MapEntry}
use Rattle.walk_laws.specs.UnderMap.{stored_as}
use Rattle.walk_laws.proofs.CalmWays.{IsProper, here, onto_medium, onto_wire, quiet, wire}
use Rattle.walk_laws.proofs.TupleFrames.{Small, data_is, mapped_is}
use Rattle.mode_map.specs.Finders.{IsCleanBlock, ShowsIn, flip_of, flipped, is_served}
use Rattle.mode_map.specs.Failures.{Delivers, Finds, expected, flip_cell, flip_comes, found_if, read_comes, read_end, stored_guard, write_comes, write_end}
use Rattle.mode_map.specs.declared.failures.Cell.TheVariants.{Found, Unseen}
use Rattle.mode_map.specs.declared.failures.Field.TheVariants.{Data}
use Rattle.mode_map.specs.declared.finder.Seen.TheVariants.{Adapter, Target, Owner as OfOwner}
use Rattle.mode_map.proofs.Finding.{Turns, Unescaped, goes-out, host-frame, kept, kept-body, kept-open, kept-proper, open-host, open-wire, other-proper, proper, served-some, small-below, small-host, stored-bare, tuple_at_host, tuple_below, turns, turns-kept, way, wire-bare}
use Rattle.mode_map.proofs.Flips.{altered-bare, altered-here, label_of}
use Rattle.mode_map.proofs.FlipCuts.{after, cut-answer, cut-fetch, cut-hand, cut-host, cut-medium, cut-wire}
use Rattle.mode_map.proofs.Reading.{adapter-guard, along, carried, delivers, other-guard, spoils, target-asleep, target-guard}
use Rattle.mode_map.proofs.Stages.{finds-guard, guard-mapped, open-mapped, rtag-mapped}

module _ (m : Setting) (b : Block) (protect : 0 < m.mode.protect) (mask : m.mode.mask ≡ 0) (off : ℕ) (bytes : List ℕ) (owner : Owner) where
  abbrev road : Bool → Bool → PiType → Route
  road dix dif ty = way m b protect mask dix dif ty

  abbrev Turning : MapEntry → Type 0
  Turning e = Turns m b protect mask off bytes owner e

  abbrev wrong : MapEntry → List ℕ
  wrong e = flipped off bytes e.body

  abbrev under : PiType → MapEntry → Tuple
  under ty e = tuple_below m b protect mask ty e

  apart : (e : MapEntry) → Turning e → crc e.body ≡ crc (wrong e) → ⊥
  apart e t same = t.other.shows (sym same)

  altered-proper : (e : MapEntry) → IsProper m e → Turning e → IsProper m (record e { body = wrong e })
  altered-proper e p t = other-proper m b protect mask e (wrong e) p t.other.size t.other.bytes

  -- ---- on the medium

  read-along : (dix dif : Bool) (ty : PiType) (at : Crossing) (e : MapEntry) → is_zero ty ≡ false → IsProper m e → Unescaped ty e → Turning e →
      read_comes (quiet m dix dif ty) b owner [] (altered (flip_of b at off bytes) at (label_of b) (frame_of e.body (under ty e))) ≡ expected (stored_guard (quiet m dix dif ty).mode ty) (wrong e)
  read-along dix dif ty at e z p h t =
      ap (read_comes (quiet m dix dif ty) b owner []) (altered-here b at off bytes e.body _ t.inside)
      ∙ other-guard m b protect mask owner (wrong e) (under ty e) t.other.size (small-below m b protect mask ty e p) (apart e t) dix dif ty z (open-wire ty e (crc e.body) (here m b protect) z h)

  read-after : (dix dif : Bool) (ty : PiType) (at : Crossing) (e : MapEntry) → IsProper m e → Unescaped ty e → Turning e →
      read_comes (quiet m dix dif ty) b owner [] (altered (flip_of b at off bytes) at (label_of b) (stored_as (quiet m dix dif ty) (here m b protect) e)) ≡ expected (if not (is_zero ty) then stored_guard (quiet m dix dif ty).mode ty else Unseen) (wrong e)
  read-after dix dif Zero at e p h t =
      ap (read_comes (quiet m dix dif Zero) b owner []) (altered-bare b at off bytes e.body) ∙ delivers m b protect mask owner dix dif Zero (record e { body = wrong e }) (altered-proper e p t)
  read-after dix dif One at e p h t = read-along dix dif One at e refl p h t
  read-after dix dif Two at e p h t = read-along dix dif Two at e refl p h t
  read-after dix dif Three at e p h t = read-along dix dif Three at e refl p h t

  at-medium : (dix dif : Bool) (ty : PiType) (c : Bool) (e : MapEntry) → IsProper m e → Unescaped ty e → Turning e →
      write_comes (quiet m dix dif ty) b (flip_of b TargetToMedium off bytes) e (read_comes (quiet m dix dif ty) b owner []) ≡ expected (flip_cell Data TargetToMedium (quiet m dix dif ty).mode ty c) (wrong e)
  at-medium dix dif ty c e p h t =
      let k = kept m b protect mask dix dif ty e in
      cut-medium m b protect mask off bytes owner dix dif ty e (read_comes (quiet m dix dif ty) b owner []) p h
      ∙ read-after dix dif ty TargetToMedium k (kept-proper m b protect mask dix dif ty e p) (kept-open m b protect mask dix dif ty e h) (turns-kept m b protect mask off bytes owner dix dif ty e t)
      ∙ ap (λ d. expected (if not (is_zero ty) then stored_guard (quiet m dix dif ty).mode ty else Unseen) (flipped off bytes d)) (kept-body m b protect mask dix dif ty e)

  at-fetch : (dix dif : Bool) (ty : PiType) (c : Bool) (e : MapEntry) → IsProper m e → Unescaped ty e → Turning e →
      read_comes (quiet m dix dif ty) b owner (flip_of b MediumToTarget off bytes) (stored_as (quiet m dix dif ty) (here m b protect) e) ≡ expected (flip_cell Data MediumToTarget (quiet m dix dif ty).mode ty c) (wrong e)
  at-fetch dix dif ty c e p h t = cut-fetch m b protect mask off bytes owner dix dif ty (stored_as (quiet m dix dif ty) (here m b protect) e) ∙ read-after dix dif ty MediumToTarget e p h t

  -- ---- on the wire

  answer-bare : (dix dif : Bool) (ty : PiType) (e : MapEntry) → is_zero ty ≡ true ⊎ dif ≡ false → IsProper m e → Turning e →
      read_comes (quiet m dix dif ty) b owner (flip_of b TargetToAdapter off bytes) (stored_as (quiet m dix dif ty) (here m b protect) e) ≡ Delivers (wrong e)
  answer-bare dix dif ty e bare p t =
      let e' : MapEntry = record e { body = wrong e } in
      cut-answer m b protect mask off bytes owner dix dif ty e p
      ∙ ap (λ f. read_end (quiet m dix dif ty) (verified (road dix dif ty) owner (from_device [] (road dix dif ty) (Ok f))))
      (ap (after m b protect mask off bytes owner TargetToAdapter) (wire-bare m b protect mask dix dif ty e bare) ∙ altered-bare b TargetToAdapter off bytes e.body ∙ sym (wire-bare m b protect mask dix dif ty e' bare))
      ∙ carried m b protect mask owner dix dif ty e' (altered-proper e p t)

  answer-along : (dix : Bool) (ty : PiType) (e : MapEntry) → is_zero ty ≡ false → wire (quiet m dix true ty) b e ≡ frame_of e.body (under ty e) → (adapter_finds_in (road dix true ty) (frame_of (wrong e) (under ty e)) ≡ Some Guard) → IsProper m e → Turning e →
      read_comes (quiet m dix true ty) b owner (flip_of b TargetToAdapter off bytes) (stored_as (quiet m dix true ty) (here m b protect) e) ≡ Finds Adapter Read
  answer-along dix ty e z w a p t =
      cut-answer m b protect mask off bytes owner dix true ty e p
      ∙ ap (λ f. read_end (quiet m dix true ty) (verified (road dix true ty) owner (from_device [] (road dix true ty) (Ok f))))
      (ap (after m b protect mask off bytes owner TargetToAdapter) w ∙ altered-here b TargetToAdapter off bytes e.body _ t.inside)
      ∙ spoils m b protect mask owner dix true ty (frame_of (wrong e) (under ty e)) Guard a

  adapter-sees : (ty : PiType) (e : MapEntry) → is_zero ty ≡ false → IsProper m e → Unescaped ty e → Turning e →
      finding ty (all_asked m.mode.app m.mode.mask) (ref_tag (here m b protect)) (crc (data_of m.size (frame_of (wrong e) (under ty e)))) (tuple_of m.size (frame_of (wrong e) (under ty e))) ≡ Some Guard
  adapter-sees ty e z p h t = adapter-guard m b protect mask owner (wrong e) (under ty e) t.other.size (small-below m b protect mask ty e p) (apart e t) ty z (open-wire ty e (crc e.body) (here m b protect) z h)

  at-answer : (dix dif : Bool) (ty : PiType) (c : Bool) (e : MapEntry) → IsProper m e → Unescaped ty e → Turning e →
      read_comes (quiet m dix dif ty) b owner (flip_of b TargetToAdapter off bytes) (stored_as (quiet m dix dif ty) (here m b protect) e) ≡ expected (flip_cell Data TargetToAdapter (quiet m dix dif ty).mode ty c) (wrong e)
  at-answer dix false ty c e p h t = answer-bare dix false ty e (inr refl) p t
  at-answer dix true Zero c e p h t = answer-bare dix true Zero e (inl refl) p t
  at-answer dix true One c e p h t = answer-along dix One e refl refl (adapter-sees One e refl p h t) p t
  at-answer dix true Two c e p h t = answer-along dix Two e refl refl (adapter-sees Two e refl p h t) p t
  at-answer dix true Three c e p h t = answer-along dix Three e refl refl (adapter-sees Three e refl p h t) p t

  wire-alone : (dix dif : Bool) (ty : PiType) (e : MapEntry) → is_zero ty ≡ true ⊎ dif ≡ false → IsProper m e → Unescaped ty e → Turning e →
      write_comes (quiet m dix dif ty) b (flip_of b AdapterToTarget off bytes) e (read_comes (quiet m dix dif ty) b owner []) ≡ Delivers (wrong e)
  wire-alone dix dif ty e bare p h t =
      let q = quiet m dix dif ty in
      let k = kept m b protect mask dix dif ty e in
      let e' : MapEntry = record e { body = wrong e } in
      let p' = altered-proper e p t in
      cut-wire m b protect mask off bytes owner dix dif ty e (read_comes q b owner []) p h
      ∙ ap (λ f. write_end (at_device (wire q b k) (by_target (to_medium [] (passage [] (road dix dif ty)) f))) (read_comes q b owner []))
      (ap (after m b protect mask off bytes owner AdapterToTarget) (wire-bare m b protect mask dix dif ty k bare ∙ kept-body m b protect mask dix dif ty e) ∙ altered-bare b AdapterToTarget off bytes e.body)
      ∙ ap (λ v. write_end (at_device (wire q b k) (by_target v)) (read_comes q b owner [])) (stored-bare m b protect mask off bytes owner dix dif ty e p h t bare)
      ∙ delivers m b protect mask owner dix dif ty (kept m b protect mask dix dif ty e') (kept-proper m b protect mask dix dif ty e' p')
      ∙ ap Delivers (kept-body m b protect mask dix dif ty e')

  wire-along : (dix : Bool) (ty : PiType) (k : MapEntry) → is_zero ty ≡ false → (passage [] (road dix true ty)).protect ≡ m.mode.protect → (adapter_finds_in (road dix true ty) (frame_of (wrong k) (under ty k)) ≡ Some Guard) → IsProper m k → Unescaped ty k → Turning k →
      (c : Bool) → eqb m.mode.protect 3 ≡ c → (w : List ℕ) →
      write_end (at_device w (by_target (to_medium [] (passage [] (road dix true ty)) (altered (flip_of b AdapterToTarget off bytes) AdapterToTarget (label_of b) (frame_of k.body (under ty k)))))) (read_comes (quiet m dix true ty) b owner [])
      ≡ expected (found_if (not c) Target Write (found_if (not c) Target Read (Found Adapter Read))) (wrong k)
  wire-along dix ty k z field a p h t c is w = ap (λ f. write_end (at_device w (by_target (to_medium [] (passage [] (road dix true ty)) f))) (read_comes (quiet m dix true ty) b owner [])) (altered-here b AdapterToTarget off bytes k.body _ t.inside) ∙ by c is
    where
      f : List ℕ
      f = frame_of (wrong k) (under ty k)

      s : is_escaped ty (under ty k) ≡ false
      s = open-wire ty k (crc k.body) (here m b protect) z h

      taken : (x : Option Check) → found_in (passage [] (road dix true ty)) f ≡ x → to_medium [] (passage [] (road dix true ty)) f ≡ unless x f
      taken x e' = onto_medium (road dix true ty) f ∙ ap (λ c. if c then Ok (with_own_tuple ty (passage [] (road dix true ty)).lba f) else unless (found_in (passage [] (road dix true ty)) f) f) (ne_eqb (passage [] (road dix true ty)).protect 0 (λ n. omega (arith, n, field, protect))) ∙ ap (λ o. unless o f) e'

      by : (c : Bool) → eqb m.mode.protect 3 ≡ c → write_end (at_device w (by_target (to_medium [] (passage [] (road dix true ty)) f))) (read_comes (quiet m dix true ty) b owner []) ≡ expected (found_if (not c) Target Write (found_if (not c) Target Read (Found Adapter Read))) (wrong k)
      by true three =
          ap (λ v. write_end (at_device w (by_target v)) (read_comes (quiet m dix true ty) b owner []))
          (taken None (target-asleep m b protect mask owner (wrong k) (under ty k) t.other.size (small-below m b protect mask ty k p) (apart k t) dix ty (field ∙ eqb-true m.mode.protect 3 three)))
          ∙ along m b protect mask owner (wrong k) (under ty k) t.other.size (small-below m b protect mask ty k p) (apart k t) dix ty true z s field a three
      by false other =
          ap (λ v. write_end (at_device w (by_target v)) (read_comes (quiet m dix true ty) b owner []))
          (taken (Some Guard) (target-guard m b protect mask owner (wrong k) (under ty k) t.other.size (small-below m b protect mask ty k p) (apart k t) dix true ty z s (ap (λ n. not (eqb n 3)) field ∙ ap not other)))

  wire-kept : (dix : Bool) (ty : PiType) (c : Bool) (e : MapEntry) → is_zero ty ≡ false → let k = kept m b protect mask dix true ty e in
      (passage [] (road dix true ty)).protect ≡ m.mode.protect → wire (quiet m dix true ty) b k ≡ frame_of k.body (under ty k) → adapter_finds_in (road dix true ty) (frame_of (wrong k) (under ty k)) ≡ Some Guard → IsProper m e → Unescaped ty e → Turning e →
      write_comes (quiet m dix true ty) b (flip_of b AdapterToTarget off bytes) e (read_comes (quiet m dix true ty) b owner [])
      ≡ expected (found_if (not (eqb m.mode.protect 3)) Target Write (found_if (not (eqb m.mode.protect 3)) Target Read (Found Adapter Read))) (wrong e)
  wire-kept dix ty c e z field w a p h t =
      let q = quiet m dix true ty in
      let k = kept m b protect mask dix true ty e in
      cut-wire m b protect mask off bytes owner dix true ty e (read_comes q b owner []) p h
      ∙ ap (λ f. write_end (at_device (wire q b k) (by_target (to_medium [] (passage [] (road dix true ty)) (after m b protect mask off bytes owner AdapterToTarget f)))) (read_comes q b owner [])) w
      ∙ wire-along dix ty k z field a (kept-proper m b protect mask dix true ty e p) (kept-open m b protect mask dix true ty e h) (turns-kept m b protect mask off bytes owner dix true ty e t) (eqb m.mode.protect 3) refl (wire q b k)
      ∙ ap (λ d. expected (found_if (not (eqb m.mode.protect 3)) Target Write (found_if (not (eqb m.mode.protect 3)) Target Read (Found Adapter Read))) (flipped off bytes d)) (kept-body m b protect mask dix true ty e)

  kept-seen : (dix : Bool) (ty : PiType) (e : MapEntry) → is_zero ty ≡ false → IsProper m e → Unescaped ty e → Turning e → let k = kept m b protect mask dix true ty e in
      finding ty (all_asked m.mode.app m.mode.mask) (ref_tag (here m b protect)) (crc (data_of m.size (frame_of (wrong k) (under ty k)))) (tuple_of m.size (frame_of (wrong k) (under ty k))) ≡ Some Guard
  kept-seen dix ty e z p h t = adapter-sees ty (kept m b protect mask dix true ty e) z (kept-proper m b protect mask dix true ty e p) (kept-open m b protect mask dix true ty e h) (turns-kept m b protect mask off bytes owner dix true ty e t)

  at-wire : (dix dif : Bool) (ty : PiType) (c : Bool) (e : MapEntry) → IsProper m e → Unescaped ty e → Turning e →
      write_comes (quiet m dix dif ty) b (flip_of b AdapterToTarget off bytes) e (read_comes (quiet m dix dif ty) b owner []) ≡ expected (flip_cell Data AdapterToTarget (quiet m dix dif ty).mode ty c) (wrong e)
  at-wire dix false ty c e p h t = wire-alone dix false ty e (inr refl) p h t
  at-wire dix true Zero c e p h t = wire-alone dix true Zero e (inl refl) p h t
  at-wire dix true One c e p h t = wire-kept dix One c e refl refl refl (kept-seen dix One e refl p h t) p h t
  at-wire dix true Two c e p h t = wire-kept dix Two c e refl refl refl (kept-seen dix Two e refl p h t) p h t
  at-wire dix true Three c e p h t = wire-kept dix Three c e refl refl refl (kept-seen dix Three e refl p h t) p h t

  -- ---- at the host

  at-host : (dix dif : Bool) (ty : PiType) (c : Bool) (e : MapEntry) → IsProper m e → Unescaped ty e → Turning e → (guard_of m.mode.kind (wrong e) ≡ guard_of m.mode.kind e.body → ⊥) →
      write_comes (quiet m dix dif ty) b (flip_of b HostToAdapter off bytes) e (read_comes (quiet m dix dif ty) b owner []) ≡ expected (flip_cell Data HostToAdapter (quiet m dix dif ty).mode ty c) (wrong e)
  at-host false dif ty c e p h t shows =
      let q = quiet m false dif ty in
      let e' : MapEntry = record e { body = wrong e } in
      let p' = altered-proper e p t in
      cut-host m b protect mask off bytes owner false dif ty e (read_comes q b owner [])
      ∙ ap (λ f. write_end (from_adapter (target []) (road false dif ty) (to_wire [] (road false dif ty) f)) (read_comes q b owner [])) (altered-bare b HostToAdapter off bytes e.body)
      ∙ ap (λ w. write_end w (read_comes q b owner [])) (goes-out m b protect mask false dif ty e' p' h)
      ∙ delivers m b protect mask owner false dif ty (kept m b protect mask false dif ty e') (kept-proper m b protect mask false dif ty e' p')
      ∙ ap Delivers (kept-body m b protect mask false dif ty e')
  at-host true dif ty c e p h t shows =
      let q = quiet m true dif ty in
      let r = road true dif ty in
      let k = tuple_at_host m b protect mask ty e in
      let u = remapped (host_type ty) b.virt (here m b protect) k in
      let s = small-host m b protect mask ty e p in
      let g = guard-mapped (host_type ty) b.virt (here m b protect) k in
      let su : Small u = record { guard = subst (λ n. n < 2 ^ 16) (sym g.0) s.guard; app = subst (λ n. n < 2 ^ 16) (sym g.1) s.app; rtag = rtag-mapped (host_type ty) b.virt (here m b protect) k (tag_below (here m b protect)) s.rtag } in
      let mapped : mapped_out r (frame_of e.body k) ≡ frame_of e.body u = mapped_is m.size e.body k p.size s (host_type ty) b.virt (here m b protect) in
      let f' = frame_of (wrong e) u in
      let finds : adapter_finds_out r f' ≡ Some Guard =
      finds-guard m.size m.mode.kind (host_type ty) (all_asked m.mode.app m.mode.mask) (ref_tag (here m b protect)) (wrong e) u t.other.size su (never_zero ty)
      (open-mapped (host_type ty) b.virt (here m b protect) k (open-host ty e (guard_of m.mode.kind e.body) b.virt h)) refl (λ same. shows (sym same ∙ g.0)) in
      cut-host m b protect mask off bytes owner true dif ty e (read_comes q b owner [])
      ∙ ap (λ x. write_end (from_adapter (target []) r x) (read_comes q b owner []))
      (ap (λ f. to_wire [] r (after m b protect mask off bytes owner HostToAdapter f)) mapped ∙ ap (to_wire [] r) (altered-here b HostToAdapter off bytes e.body _ t.inside) ∙ onto_wire r f' ∙ ap (λ x. unless x (sent r f')) finds)

  stripped : (dif : Bool) (ty : PiType) (e : MapEntry) → IsProper m e → received (road false dif ty) (wire (quiet m false dif ty) b e) ≡ e.body
  stripped false ty e p = refl
  stripped true Zero e p = refl
  stripped true One e p = data_is m.size e.body _ p.size
  stripped true Two e p = data_is m.size e.body _ p.size
  stripped true Three e p = data_is m.size e.body _ p.size

  named : (q : Setting) (w f : List ℕ) → read_end q (delivered_unless owner w f (Some Guard)) ≡ Finds OfOwner Read
  named q w f = by owner
    where
      by : (o : Owner) → read_end q (delivered_unless o w f (Some Guard)) ≡ Finds OfOwner Read
      by OfBlock = refl
      by OfApp = refl

  at-owner : (dix dif : Bool) (ty : PiType) (c : Bool) (e : MapEntry) → IsProper m e → Unescaped ty e → Turning e → (guard_of m.mode.kind (wrong e) ≡ guard_of m.mode.kind e.body → ⊥) →
      read_comes (quiet m dix dif ty) b owner (flip_of b AdapterToHost off bytes) (stored_as (quiet m dix dif ty) (here m b protect) e) ≡ expected (flip_cell Data AdapterToHost (quiet m dix dif ty).mode ty c) (wrong e)
  at-owner false dif ty c e p h t shows =
      cut-hand m b protect mask off bytes owner false dif ty e p
      ∙ ap (λ f. Delivers (data_of m.size f)) (ap (after m b protect mask off bytes owner AdapterToHost) (stripped dif ty e p) ∙ altered-bare b AdapterToHost off bytes e.body)
      ∙ ap Delivers (take_all m.size (wrong e) (omega (arith, t.other.size)))
  at-owner true dif ty c e p h t shows =
      let q = quiet m true dif ty in
      let r = road true dif ty in
      let w = wire q b e in
      let k = host-frame m b protect mask off bytes owner dif ty e p h in
      let body = wrong e in
      let g = guard-mapped (host_type ty) (here m b protect) b.virt k.0 in
      let u = remapped (host_type ty) (here m b protect) b.virt k.0 in
      let s = k.2 in
      let su : Small u = record { guard = subst (λ n. n < 2 ^ 16) (sym g.0) s.guard; app = subst (λ n. n < 2 ^ 16) (sym g.1) s.app; rtag = rtag-mapped (host_type ty) (here m b protect) b.virt k.0 (tag_below b.virt) s.rtag } in
      let came : altered (flip_of b AdapterToHost off bytes) AdapterToHost (label_of b) (received r w) ≡ frame_of body k.0 = ap (altered (flip_of b AdapterToHost off bytes) AdapterToHost (label_of b)) k.1 ∙ altered-here b AdapterToHost off bytes e.body _ t.inside in
      let mapped : mapped_back r (frame_of body k.0) ≡ frame_of body u = mapped_is m.size body k.0 t.other.size s (host_type ty) (here m b protect) b.virt in
      let finds : owner_finds r (frame_of body u) ≡ Some Guard =
      finds-guard m.size m.mode.kind (host_type ty) (all_asked m.mode.app m.mode.mask) (ref_tag b.virt) body u t.other.size su (never_zero ty) (open-mapped (host_type ty) (here m b protect) b.virt k.0 k.4) refl (λ same. shows (sym same ∙ g.0 ∙ k.3)) in
      cut-hand m b protect mask off bytes owner true dif ty e p
      ∙ ap (λ f. read_end q (verified r owner (Arrives w f))) came
      ∙ ap (λ f. read_end q (delivered_unless owner w f (owner_finds r f))) mapped
      ∙ ap (λ o. read_end q (delivered_unless owner w (frame_of body u) o)) finds ∙ named q w (frame_of body u)

pub data_flips : (m : Setting) (b : Block) (owner : Owner) (at : Crossing) (e : MapEntry) (off : ℕ) (bytes : List ℕ) (c : Bool) → is_served m.mode.protect ≡ true → IsCleanBlock m e → ShowsIn m at off bytes e →
    flip_comes m b owner at off bytes e ≡ expected (flip_cell Data at m.mode m.ty c) (flipped off bytes e.body)
data_flips m b owner HostToAdapter e off bytes c v d w =
    let s = served-some m.mode.protect v in at-host m b s d.mask off bytes owner m.mode.dix m.mode.dif m.ty c e (proper m e d) d.unescaped (turns m b s d.mask HostToAdapter off bytes owner e d w) (w.host_shows refl)
data_flips m b owner AdapterToTarget e off bytes c v d w =
    let s = served-some m.mode.protect v in at-wire m b s d.mask off bytes owner m.mode.dix m.mode.dif m.ty c e (proper m e d) d.unescaped (turns m b s d.mask AdapterToTarget off bytes owner e d w)
data_flips m b owner TargetToMedium e off bytes c v d w =
    let s = served-some m.mode.protect v in at-medium m b s d.mask off bytes owner m.mode.dix m.mode.dif m.ty c e (proper m e d) d.unescaped (turns m b s d.mask TargetToMedium off bytes owner e d w)
data_flips m b owner MediumToTarget e off bytes c v d w =
    let s = served-some m.mode.protect v in at-fetch m b s d.mask off bytes owner m.mode.dix m.mode.dif m.ty c e (proper m e d) d.unescaped (turns m b s d.mask MediumToTarget off bytes owner e d w)
data_flips m b owner TargetToAdapter e off bytes c v d w =
    let s = served-some m.mode.protect v in at-answer m b s d.mask off bytes owner m.mode.dix m.mode.dif m.ty c e (proper m e d) d.unescaped (turns m b s d.mask TargetToAdapter off bytes owner e d w)
data_flips m b owner AdapterToHost e off bytes c v d w =
    let s = served-some m.mode.protect v in at-owner m b s d.mask off bytes owner m.mode.dix m.mode.dif m.ty c e (proper m e d) d.unescaped (turns m b s d.mask AdapterToHost off bytes owner e d w) (w.host_shows refl)
