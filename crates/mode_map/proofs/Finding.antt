-- Who finds a flip, crossing by crossing.
use Rattle.std.proofs.Common.{◌≡◌, ◌<◌, ◌≤◌, ℕ, ◌+◌, ◌^◌, Bool, true, false, not, ◌&&◌, ◌||◌, eqb, if◌then◌else◌, List, [], ◌∷◌, length, Option, Some, None, refl, sym, ap, subst, ◌∙◌, arith, ◌⊎◌, inl, inr}
use Rattle.std.specs.Prelude.{bit_and, Result, Ok, Err, ℤ}
use Rattle.std.proofs.lemmas.Bool.{eq-eqb, eqb-true, ne_eqb}
use lib.Bits.{and_zero_r}
use Rattle.pi_guard.specs.Guards.{crc, guard_of}
use Rattle.pi_guard.specs.declared.GuardKind.{GuardKind}
use Rattle.pi_guard.specs.declared.GuardKind.TheVariants.{Crc, Ip}
use Rattle.pi_guard.proofs.GuardSizes.{guard_below}
use Rattle.pi_tuple.specs.Finds.{finding, first_of, has_ref_tag, is_escaped, is_zero, own_tag}
use Rattle.pi_tuple.specs.Tuples.{ref_tag}
use Rattle.pi_tuple.specs.declared.tuple.Tuple.{Tuple}
use Rattle.pi_tuple.specs.declared.checks.PiType.{PiType}
use Rattle.pi_tuple.specs.declared.checks.PiType.TheVariants.{Zero, One, Two, Three}
use Rattle.pi_tuple.specs.declared.checks.Check.{Check}
use Rattle.pi_tuple.specs.declared.checks.Check.TheVariants.{AppTag, Guard, RefTag}
use Rattle.pi_tuple.proofs.TupleLaws.{tag_below}
use Rattle.cdb_codec.specs.Rule.{is_two}
use Rattle.fault_schedule.specs.Altered.{altered, byte_at, is_same}
use Rattle.fault_schedule.specs.declared.fault.Crossing.{Crossing}
use Rattle.fault_schedule.specs.declared.fault.Crossing.TheVariants.{AdapterToHost, AdapterToTarget, HostToAdapter, MediumToTarget, TargetToAdapter, TargetToMedium}
use Rattle.fault_schedule.specs.declared.fault.FaultLine.{FaultLine}
use Rattle.fault_schedule.proofs.Xored.{length-xored}
use Rattle.integrity_payload.specs.Payloads.{all_asked}
use Rattle.integrity_payload.specs.declared.payload.Owner.{Owner}
use Rattle.integrity_payload.specs.declared.payload.Owner.TheVariants.{Block as OfBlock, App as OfApp}
use Rattle.ref_remap.specs.Remapped.{remapped}
use Rattle.rig_api.specs.Frames.{data_of, frame_of, tuple_of}
use Rattle.rig_api.specs.Passing.{asked_of, found_in, from_medium, is_one, then_crossed, to_medium, unless, wanted_of, with_own_tuple}
use Rattle.rig_api.specs.declared.passage.Passage.{Passage}
use Rattle.block_path.specs.declared.mode.Mode.{Mode}
use Rattle.block_path.specs.declared.route.Route.{Route}
use Rattle.block_path.specs.Routes.{by_target, host_type, is_crc, moved, passage, passes_tuples, target, with_guard}
use Rattle.block_path.specs.WayIn.{Delivers, at_host, delivered_unless, from_device, from_wire, mapped_back, owner_finds, owner_says, received, verified, way_in}
use Rattle.block_path.specs.WayOut.{Stores, adapter_finds_out, at_device, from_adapter, mapped_out, sent, to_wire, way_out}
use Rattle.block_path.proofs.Cells.{AllBelow, below}
use Rattle.block_path.proofs.PathLaws.{never_zero}
use Rattle.walk_laws.specs.Settings.{Block, Setting, route}
use Rattle.walk_laws.specs.PlainMap.{MapEntry, all_pass, as_expected, entry_of, finds_of_app, handed, own_in, tag_of}
use Rattle.walk_laws.specs.UnderMap.{stored_as}
use Rattle.walk_laws.proofs.CalmWays.{IsProper, comes_home, goes, goes_bare, goes_on, here, loud, onto_wire, proper_entry, quiet, rtag_below, unmasked, wire, onto_medium, off_medium, off_wire, new_guard}
use Rattle.walk_laws.proofs.TupleFrames.{Small, data_is, finds_none, mapped_is}
use Rattle.mode_map.specs.Finders.{IsCleanBlock, ShowsIn, checks_stored, seen_in, finder, flip_of, flipped, is_served, seen_by, seen_in_read, seen_in_write, seen_on_way_in, seen_on_way_out}
use Rattle.mode_map.specs.declared.finder.Seen.{Seen}
use Rattle.mode_map.specs.declared.finder.Seen.TheVariants.{Adapter, Target, Owner as OfOwner}
use Rattle.mode_map.proofs.Flips.{altered-bare, altered-here, altered-there, crossed-there, flipped-below, label_of, no-shift}
use Rattle.mode_map.proofs.Stages.{CameIn, WentOut, came-in, finds-guard, from-medium, from-wire, guard-mapped, open-mapped, rtag-mapped, to-medium, to-wire, went-out}

-- the tags of an entry are no escape's
abbrev pub Unescaped : PiType → MapEntry → Type 0
Unescaped ty e = is_escaped (host_type ty) (record { guard = 0; app = e.app; rtag = e.own }) ≡ false

pub open-host : (ty : PiType) (e : MapEntry) (g v : ℕ) → Unescaped ty e → is_escaped (host_type ty) (record { guard = g; app = e.app; rtag = tag_of (host_type ty) v e.own }) ≡ false
open-host Zero e g v h = h
open-host One e g v h = h
open-host Two e g v h = h
open-host Three e g v h = h

pub open-wire : (ty : PiType) (e : MapEntry) (g a : ℕ) → is_zero ty ≡ false → Unescaped ty e → is_escaped ty (record { guard = g; app = e.app; rtag = tag_of ty a e.own }) ≡ false
open-wire Zero e g a z h = refl
open-wire One e g a z h = h
open-wire Two e g a z h = h
open-wire Three e g a z h = h

open-bare : (ty : PiType) (body : List ℕ) → Unescaped ty (record { body = body; app = 0; own = 0 })
open-bare Zero body = refl
open-bare One body = refl
open-bare Two body = refl
open-bare Three body = refl

open-kept : (ty : PiType) (e : MapEntry) (body : List ℕ) (v : ℕ) → Unescaped ty e → Unescaped ty (record { body = body; app = e.app; own = own_in ty (tag_of (host_type ty) v e.own) })
open-kept Zero e body v h = h
open-kept One e body v h = h
open-kept Two e body v h = h
open-kept Three e body v h = h

-- data that a check of their guard tells from an entry's
pub record Other (m : Setting) (e : MapEntry) (body : List ℕ) : Type 0 where
  pub size : length body ≡ m.size
  pub bytes : AllBelow 256 body
  pub shows : crc body ≡ crc e.body → ⊥

module _ (m : Setting) (b : Block) (protect : 0 < m.mode.protect) (mask : m.mode.mask ≡ 0) where
  abbrev pub way : Bool → Bool → PiType → Route
  way dix dif ty = route (quiet m dix dif ty) b

  abbrev pub tuple_at_host : PiType → MapEntry → Tuple
  tuple_at_host ty e = record { guard = guard_of m.mode.kind e.body; app = e.app; rtag = tag_of (host_type ty) b.virt e.own }

  abbrev pub held : Bool → PiType → MapEntry → List ℕ
  held dix ty e = if dix then frame_of e.body (tuple_at_host ty e) else e.body

  -- the tuple on wire and medium
  abbrev pub tuple_below : PiType → MapEntry → Tuple
  tuple_below ty e = record { guard = crc e.body; app = e.app; rtag = tag_of ty (here m b protect) e.own }

  pub small-host : (ty : PiType) (e : MapEntry) → IsProper m e → Small (tuple_at_host ty e)
  small-host ty e p = record { guard = guard_below m.mode.kind e.body; app = p.app; rtag = rtag_below (host_type ty) b.virt e.own p.own }

  pub small-below : (ty : PiType) (e : MapEntry) → IsProper m e → Small (tuple_below ty e)
  small-below ty e p = record { guard = guard_below Crc e.body; app = p.app; rtag = rtag_below ty (here m b protect) e.own p.own }

  -- ---- a clean way out

  all-none : (g a r : Bool) → g ≡ true → a ≡ true → r ≡ false → first_of (record { check = Guard; differs = not g } ∷ record { check = AppTag; differs = not a } ∷ record { check = RefTag; differs = r } ∷ []) ≡ None
  all-none g a r p q s = rw (p, q, s) refl

  tag-named : (ty : PiType) (own p : ℕ) → (has_ref_tag (host_type ty) && not (eqb (tag_of (host_type ty) b.virt own) (ref_tag b.virt) || eqb (tag_of (host_type ty) b.virt own) p)) ≡ false
  tag-named ty own p = by (has_ref_tag (host_type ty))
    where
      by : (c : Bool) → (c && not (eqb (if c then ref_tag b.virt else own) (ref_tag b.virt) || eqb (if c then ref_tag b.virt else own) p)) ≡ false
      by false = refl
      by true = let e : eqb (ref_tag b.virt) (ref_tag b.virt) ≡ true = eq-eqb (ref_tag b.virt) (ref_tag b.virt) refl in rw e refl

  none-found : (dif : Bool) (ty : PiType) (e : MapEntry) → finds_of_app (quiet m true dif ty) b e.body (tuple_at_host ty e) ≡ None
  none-found dif ty e =
      all-none (eqb (guard_of m.mode.kind e.body) (guard_of m.mode.kind e.body)) (as_expected m e.app) _ (eq-eqb _ _ refl) (unmasked m e.app mask) (tag-named ty e.own (ref_tag (here m b protect)))

  -- what is stored of it
  abbrev pub kept : Bool → Bool → PiType → MapEntry → MapEntry
  kept dix dif ty e = entry_of (quiet m dix dif ty) e.body (tuple_at_host ty e)

  pub kept-body : (dix dif : Bool) (ty : PiType) (e : MapEntry) → (kept dix dif ty e).body ≡ e.body
  kept-body dix dif ty e = by (all_pass (quiet m dix dif ty))
    where
      by : (c : Bool) → let k : MapEntry = (if c then record { body = e.body; app = e.app; own = own_in ty (tag_of (host_type ty) b.virt e.own) } else record { body = e.body; app = 0; own = 0 }) in k.body ≡ e.body
      by true = refl
      by false = refl

  pub kept-open : (dix dif : Bool) (ty : PiType) (e : MapEntry) → Unescaped ty e → Unescaped ty (kept dix dif ty e)
  kept-open dix dif ty e h = by (all_pass (quiet m dix dif ty))
    where
      by : (c : Bool) → Unescaped ty (if c then record { body = e.body; app = e.app; own = own_in ty (tag_of (host_type ty) b.virt e.own) } else record { body = e.body; app = 0; own = 0 })
      by true = open-kept ty e e.body b.virt h
      by false = open-bare ty e.body

  pub kept-proper : (dix dif : Bool) (ty : PiType) (e : MapEntry) → IsProper m e → IsProper m (kept dix dif ty e)
  kept-proper dix dif ty e p =
      loud m dix dif ty (kept dix dif ty e)
      (proper_entry (quiet m dix dif ty) e.body (tuple_at_host ty e) p.size p.bytes (small-host ty e p) (unmasked m e.app mask) (λ _. mask))

  pub goes-out : (dix dif : Bool) (ty : PiType) (e : MapEntry) → IsProper m e → Unescaped ty e →
      way_out [] (target []) (way dix dif ty) (held dix ty e) ≡ Stores (wire (quiet m dix dif ty) b (kept dix dif ty e)) (stored_as (quiet m dix dif ty) (here m b protect) (kept dix dif ty e))
  goes-out true dif ty e p h =
      goes_on m b protect dif ty e.body (tuple_at_host ty e) p.size p.bytes (small-host ty e p) (λ _. mask) (open-host ty e (guard_of m.mode.kind e.body) b.virt h)
      ∙ ap (λ o. goes (quiet m true dif ty) b o (kept true dif ty e)) (none-found dif ty e)
  goes-out false dif ty e p h = goes_bare m b protect dif ty e.body (tuple_at_host ty e) p.size p.bytes mask

  pub clean-out : (dix dif : Bool) (ty : PiType) (e : MapEntry) → IsProper m e → Unescaped ty e →
      WentOut (way dix dif ty) (mapped_out (way dix dif ty) (held dix ty e)) (wire (quiet m dix dif ty) b (kept dix dif ty e)) (stored_as (quiet m dix dif ty) (here m b protect) (kept dix dif ty e))
  clean-out dix dif ty e p h = went-out (way dix dif ty) (mapped_out (way dix dif ty) (held dix ty e)) _ _ (goes-out dix dif ty e p h)

  -- ---- a clean way in

  comes-in : (dix dif : Bool) (ty : PiType) (owner : Owner) (e : MapEntry) → IsProper m e →
      way_in [] (target []) (way dix dif ty) owner (stored_as (quiet m dix dif ty) (here m b protect) e) ≡ Delivers (wire (quiet m dix dif ty) b e) (handed (quiet m dix dif ty) b e)
  comes-in dix dif ty owner e p = comes_home m b protect dix dif ty owner e p (λ _. mask)

  pub clean-in : (dix dif : Bool) (ty : PiType) (owner : Owner) (e : MapEntry) → IsProper m e → CameIn (way dix dif ty) owner (stored_as (quiet m dix dif ty) (here m b protect) e) (wire (quiet m dix dif ty) b e) (handed (quiet m dix dif ty) b e)
  clean-in dix dif ty owner e p = came-in (way dix dif ty) owner _ _ _ (comes-in dix dif ty owner e p)

  unseen : (dix dif : Bool) (ty : PiType) (owner : Owner) (e : MapEntry) → IsProper m e → seen_in_read (quiet m dix dif ty) b owner [] (stored_as (quiet m dix dif ty) (here m b protect) e) ≡ None
  unseen dix dif ty owner e p = ap seen_on_way_in (comes-in dix dif ty owner e p)

  -- the entry with other data
  pub other-proper : (e : MapEntry) (body : List ℕ) → IsProper m e → length body ≡ m.size → AllBelow 256 body → IsProper m (record e { body = body })
  other-proper e body p l h = record { size = l; bytes = h; app = p.app; own = p.own; expected = p.expected }

  -- ---- other data under an entry's tuple, from the medium

  pub guard-asked : (dix dif : Bool) (ty : PiType) (e : MapEntry) (body : List ℕ) → IsProper m e → Unescaped ty e → Other m e body → is_zero ty ≡ false → not (eqb (passage [] (way dix dif ty)).protect 3) ≡ true →
      found_in (passage [] (way dix dif ty)) (frame_of body (tuple_below ty e)) ≡ Some Guard
  unfolding found_in
  guard-asked dix dif ty e body p h o z g =
      finds-guard m.size Crc ty (asked_of (passage [] (way dix dif ty))) (wanted_of (passage [] (way dix dif ty))) body (tuple_below ty e) o.size (small-below ty e p) z (open-wire ty e (crc e.body) (here m b protect) z h) g (λ same. o.shows (sym same))

  masked : (c : Bool) (app : ℕ) → bit_and app (if c then m.mode.mask else 0) ≡ bit_and m.mode.app (if c then m.mode.mask else 0)
  masked true app = ap (bit_and app) mask ∙ and_zero_r app ∙ sym (ap (bit_and m.mode.app) mask ∙ and_zero_r m.mode.app)
  masked false app = and_zero_r app ∙ sym (and_zero_r m.mode.app)

  pub nothing-asked : (dix dif : Bool) (ty : PiType) (frame : List ℕ) → (passage [] (way dix dif ty)).protect ≡ 3 → found_in (passage [] (way dix dif ty)) frame ≡ None
  unfolding found_in
  nothing-asked dix dif ty frame three =
      let p = passage [] (way dix dif ty) in
      let g : (asked_of p).guard ≡ false = ap (λ n. not (eqb n 3)) three in
      let r : (asked_of p).rtag ≡ false = ap (λ n. eqb n 1 || (eqb n 0 && is_one ty)) three in
      finds_none ty (asked_of p) (wanted_of p) (crc (data_of m.size frame)) (tuple_of m.size frame)
      (λ t. absurd (let x : false ≡ true = sym g ∙ t in cc)) (masked (is_two ty && eqb p.protect 1) (tuple_of m.size frame).app) (λ t _. absurd (let x : false ≡ true = sym r ∙ t in cc))

  adapter-finds : (dix : Bool) (ty : PiType) (e : MapEntry) (body : List ℕ) → IsProper m e → Unescaped ty e → Other m e body → is_zero ty ≡ false →
      finding ty (all_asked m.mode.app m.mode.mask) (ref_tag (here m b protect)) (crc (data_of m.size (frame_of body (tuple_below ty e)))) (tuple_of m.size (frame_of body (tuple_below ty e))) ≡ Some Guard
  adapter-finds dix ty e body p h o z =
      finds-guard m.size Crc ty (all_asked m.mode.app m.mode.mask) (ref_tag (here m b protect)) body (tuple_below ty e) o.size (small-below ty e p) z (open-wire ty e (crc e.body) (here m b protect) z h) refl (λ same. o.shows (sym same))

  -- on the wire
  adapter-sees : (dix : Bool) (ty : PiType) (owner : Owner) (e : MapEntry) (body : List ℕ) → IsProper m e → Unescaped ty e → Other m e body → is_zero ty ≡ false →
      from_wire [] (way dix true ty) (frame_of body (tuple_below ty e)) ≡ Err Guard
  adapter-sees dix Zero owner e body p h o z = absurd (cc)
  adapter-sees dix One owner e body p h o z = off_wire (way dix true One) (frame_of body (tuple_below One e)) ∙ ap (λ x. unless x (received (way dix true One) (frame_of body (tuple_below One e)))) (adapter-finds dix One e body p h o refl)
  adapter-sees dix Two owner e body p h o z = off_wire (way dix true Two) (frame_of body (tuple_below Two e)) ∙ ap (λ x. unless x (received (way dix true Two) (frame_of body (tuple_below Two e)))) (adapter-finds dix Two e body p h o refl)
  adapter-sees dix Three owner e body p h o z = off_wire (way dix true Three) (frame_of body (tuple_below Three e)) ∙ ap (λ x. unless x (received (way dix true Three) (frame_of body (tuple_below Three e)))) (adapter-finds dix Three e body p h o refl)

  -- the target's field: that of the mode where tuples travel
  by-target : (dix dif : Bool) (ty : PiType) (owner : Owner) (e : MapEntry) (body : List ℕ) → IsProper m e → Unescaped ty e → Other m e body → is_zero ty ≡ false → not (eqb (passage [] (way dix dif ty)).protect 3) ≡ true →
      seen_in_read (quiet m dix dif ty) b owner [] (frame_of body (tuple_below ty e)) ≡ Some Target
  by-target dix dif ty owner e body p h o z g =
      let f = frame_of body (tuple_below ty e) in
      let x = passage [] (way dix dif ty) in
      ap (λ v. seen_on_way_in (verified (way dix dif ty) owner (from_device [] (way dix dif ty) (by_target v))))
      (off_medium (way dix dif ty) f ∙ ap (λ v. unless v (if eqb x.protect 0 then data_of m.size f else f)) (guard-asked dix dif ty e body p h o z g))

  past-target : (dix : Bool) (ty : PiType) (owner : Owner) (e : MapEntry) (body : List ℕ) → IsProper m e → Unescaped ty e → Other m e body → is_zero ty ≡ false → (passage [] (way dix true ty)).protect ≡ 3 →
      seen_in_read (quiet m dix true ty) b owner [] (frame_of body (tuple_below ty e)) ≡ Some Adapter
  past-target dix ty owner e body p h o z three =
      let f = frame_of body (tuple_below ty e) in
      let x = passage [] (way dix true ty) in
      ap (λ v. seen_on_way_in (verified (way dix true ty) owner (from_device [] (way dix true ty) (by_target v))))
      (off_medium (way dix true ty) f ∙ ap (λ v. unless v (if eqb x.protect 0 then data_of m.size f else f)) (nothing-asked dix true ty f three) ∙ ap (λ n. Ok (if eqb n 0 then data_of m.size f else f)) three)
      ∙ ap (λ v. seen_on_way_in (verified (way dix true ty) owner (at_host f v))) (adapter-sees dix ty owner e body p h o z)

  pub read-other : (dix dif : Bool) (ty : PiType) (owner : Owner) (e : MapEntry) (body : List ℕ) → IsProper m e → Unescaped ty e → Other m e body → is_zero ty ≡ false →
      seen_in_read (quiet m dix dif ty) b owner [] (frame_of body (tuple_below ty e)) ≡ (if dif && eqb m.mode.protect 3 then Some Adapter else Some Target)
  read-other dix false Zero owner e body p h o z = absurd (cc)
  read-other dix false One owner e body p h o z = by-target dix false One owner e body p h o refl refl
  read-other dix false Two owner e body p h o z = by-target dix false Two owner e body p h o refl refl
  read-other dix false Three owner e body p h o z = by-target dix false Three owner e body p h o refl refl
  read-other dix true Zero owner e body p h o z = absurd (cc)
  read-other dix true One owner e body p h o z = by (eqb m.mode.protect 3) refl
    where
      by : (c : Bool) → eqb m.mode.protect 3 ≡ c → seen_in_read (quiet m dix true One) b owner [] (frame_of body (tuple_below One e)) ≡ (if c then Some Adapter else Some Target)
      by true t = past-target dix One owner e body p h o refl (eqb-true m.mode.protect 3 t)
      by false t = by-target dix true One owner e body p h o refl (ap not t)
  read-other dix true Two owner e body p h o z = by (eqb m.mode.protect 3) refl
    where
      by : (c : Bool) → eqb m.mode.protect 3 ≡ c → seen_in_read (quiet m dix true Two) b owner [] (frame_of body (tuple_below Two e)) ≡ (if c then Some Adapter else Some Target)
      by true t = past-target dix Two owner e body p h o refl (eqb-true m.mode.protect 3 t)
      by false t = by-target dix true Two owner e body p h o refl (ap not t)
  read-other dix true Three owner e body p h o z = by (eqb m.mode.protect 3) refl
    where
      by : (c : Bool) → eqb m.mode.protect 3 ≡ c → seen_in_read (quiet m dix true Three) b owner [] (frame_of body (tuple_below Three e)) ≡ (if c then Some Adapter else Some Target)
      by true t = past-target dix Three owner e body p h o refl (eqb-true m.mode.protect 3 t)
      by false t = by-target dix true Three owner e body p h o refl (ap not t)

  -- where no tuple travels the wire has the data alone
  pub wire-bare : (dix dif : Bool) (ty : PiType) (e : MapEntry) → is_zero ty ≡ true ⊎ dif ≡ false → wire (quiet m dix dif ty) b e ≡ e.body
  wire-bare dix false ty e h = refl
  wire-bare dix true Zero e h = refl
  wire-bare dix true One e h = absurd (one-of h)
    where
      one-of : (false ≡ true) ⊎ (true ≡ false) → ⊥
      one-of (inl x) = absurd (cc)
      one-of (inr x) = absurd (cc)
  wire-bare dix true Two e h = absurd (one-of h)
    where
      one-of : (false ≡ true) ⊎ (true ≡ false) → ⊥
      one-of (inl x) = absurd (cc)
      one-of (inr x) = absurd (cc)
  wire-bare dix true Three e h = absurd (one-of h)
    where
      one-of : (false ≡ true) ⊎ (true ≡ false) → ⊥
      one-of (inl x) = absurd (cc)
      one-of (inr x) = absurd (cc)

  -- ---- one flip

  module _ (off : ℕ) (bytes : List ℕ) (owner : Owner) where
    abbrev pub flip : Crossing → List FaultLine
    flip at = flip_of b at off bytes

    abbrev pub turned : MapEntry → MapEntry
    turned e = record e { body = flipped off bytes e.body }

    -- the flip shows in these data
    pub record Turns (e : MapEntry) : Type 0 where
      pub inside : off + length bytes ≤ length e.body
      pub other : Other m e (flipped off bytes e.body)

    -- the block as the target knows it, at this address
    abbrev at_address : Bool → Bool → PiType → ℕ → Passage
    at_address dix dif ty lba = record (passage [] (way dix dif ty)) { lba = lba }

    same-passage : (dix dif : Bool) (ty : PiType) (at : Crossing) → passage (flip at) (way dix dif ty) ≡ passage [] (way dix dif ty)
    same-passage dix dif ty at = ap (λ (s : ℤ). at_address dix dif ty (moved (way dix dif ty).lba s)) (no-shift b at AdapterToTarget off bytes b.op)

    -- the target, where neither of its crossings is the flip's, and where one is
    pub medium-apart : (dix dif : Bool) (ty : PiType) (at : Crossing) (frame : List ℕ) → to_medium (flip at) (passage (flip at) (way dix dif ty)) frame
        ≡ then_crossed (flip at) (Some (label_of b)) TargetToMedium (to_medium [] (passage [] (way dix dif ty)) (altered (flip at) AdapterToTarget (label_of b) frame))
    medium-apart dix dif ty at frame = ap (λ p. to_medium (flip at) p frame) (same-passage dix dif ty at) ∙ to-medium (flip at) (way dix dif ty) frame

    pub wire-apart : (dix dif : Bool) (ty : PiType) (at : Crossing) (frame : List ℕ) → from_medium (flip at) (passage (flip at) (way dix dif ty)) frame
        ≡ then_crossed (flip at) (Some (label_of b)) TargetToAdapter (from_medium [] (passage [] (way dix dif ty)) (altered (flip at) MediumToTarget (label_of b) frame))
    wire-apart dix dif ty at frame = ap (λ p. from_medium (flip at) p frame) (same-passage dix dif ty at) ∙ from-medium (flip at) (way dix dif ty) frame

    -- where the flip is at the host the rest of the way out is without it
    pub rest-out : (dix dif : Bool) (ty : PiType) (x : Result (List ℕ) Check) → from_adapter (target (flip HostToAdapter)) (way dix dif ty) x ≡ from_adapter (target []) (way dix dif ty) x
    rest-out dix dif ty (Err c) = refl
    rest-out dix dif ty (Ok f) =
        ap (λ v. at_device f (by_target v))
        (medium-apart dix dif ty HostToAdapter f
        ∙ crossed-there b HostToAdapter TargetToMedium off bytes (to_medium [] (passage [] (way dix dif ty)) (altered (flip HostToAdapter) AdapterToTarget (label_of b) f)) refl
        ∙ ap (to_medium [] (passage [] (way dix dif ty))) (altered-there b HostToAdapter AdapterToTarget off bytes f refl))

    -- ---- from the host to the adapter

    at-host : (dix dif : Bool) (ty : PiType) (e : MapEntry) → IsProper m e → Unescaped ty e → Turns e → (guard_of m.mode.kind (flipped off bytes e.body) ≡ guard_of m.mode.kind e.body → ⊥) →
        seen_in_write (quiet m dix dif ty) b owner (flip HostToAdapter) (held dix ty e) ≡ (if dix then Some Adapter else None)
    at-host false dif ty e p h t shows =
        let r = way false dif ty in
        let wired : to_wire (flip HostToAdapter) r e.body ≡ to_wire [] r (flipped off bytes e.body) = to-wire (flip HostToAdapter) r e.body ∙ ap (to_wire [] r) (altered-bare b HostToAdapter off bytes e.body) in
        let e' = turned e in
        let p' = other-proper e (flipped off bytes e.body) p t.other.size t.other.bytes in
        ap (λ x. seen_on_way_out (quiet m false dif ty) b owner (from_adapter (target (flip HostToAdapter)) r x)) wired
        ∙ ap (seen_on_way_out (quiet m false dif ty) b owner) (rest-out false dif ty (to_wire [] r (flipped off bytes e.body)) ∙ goes-out false dif ty e' p' h)
        ∙ unseen false dif ty owner (kept false dif ty e') (kept-proper false dif ty e' p')
    at-host true dif ty e p h t shows =
        let r = way true dif ty in
        let k = tuple_at_host ty e in
        let u = remapped (host_type ty) b.virt (here m b protect) k in
        let s = small-host ty e p in
        let g = guard-mapped (host_type ty) b.virt (here m b protect) k in
        let su : Small u = record { guard = subst (λ n. n < 2 ^ 16) (sym g.0) s.guard; app = subst (λ n. n < 2 ^ 16) (sym g.1) s.app; rtag = rtag-mapped (host_type ty) b.virt (here m b protect) k (tag_below (here m b protect)) s.rtag } in
        let mapped : mapped_out r (frame_of e.body k) ≡ frame_of e.body u = mapped_is m.size e.body k p.size s (host_type ty) b.virt (here m b protect) in
        let f' = frame_of (flipped off bytes e.body) u in
        let finds : adapter_finds_out r f' ≡ Some Guard =
        finds-guard m.size m.mode.kind (host_type ty) (all_asked m.mode.app m.mode.mask) (ref_tag (here m b protect)) (flipped off bytes e.body) u t.other.size su (never_zero ty)
        (open-mapped (host_type ty) b.virt (here m b protect) k (open-host ty e (guard_of m.mode.kind e.body) b.virt h)) refl (λ same. shows (sym same ∙ g.0)) in
        let wired : to_wire (flip HostToAdapter) r (mapped_out r (frame_of e.body k)) ≡ Err Guard =
        ap (to_wire (flip HostToAdapter) r) mapped ∙ to-wire (flip HostToAdapter) r (frame_of e.body u)
        ∙ ap (to_wire [] r) (altered-here b HostToAdapter off bytes e.body _ t.inside)
        ∙ onto_wire r f' ∙ ap (λ x. unless x (sent r f')) finds in
        ap (λ x. seen_on_way_out (quiet m true dif ty) b owner (from_adapter (target (flip HostToAdapter)) r x)) wired

    -- ---- behind the adapter, on a way out

    -- up to the target the way is clean
    pub onto-target : (dix dif : Bool) (ty : PiType) (at : Crossing) (e : MapEntry) → is_same at HostToAdapter ≡ false → IsProper m e → Unescaped ty e →
        way_out (flip at) (target (flip at)) (way dix dif ty) (held dix ty e)
        ≡ at_device (wire (quiet m dix dif ty) b (kept dix dif ty e)) (by_target (to_medium (flip at) (passage (flip at) (way dix dif ty)) (wire (quiet m dix dif ty) b (kept dix dif ty e))))
    onto-target dix dif ty at e apart p h =
        let r = way dix dif ty in
        ap (from_adapter (target (flip at)) r)
        (to-wire (flip at) r (mapped_out r (held dix ty e)) ∙ ap (to_wire [] r) (altered-there b at HostToAdapter off bytes (mapped_out r (held dix ty e)) apart) ∙ (clean-out dix dif ty e p h).sent)

    pub turns-kept : (dix dif : Bool) (ty : PiType) (e : MapEntry) → Turns e → Turns (kept dix dif ty e)
    turns-kept dix dif ty e t = by (all_pass (quiet m dix dif ty))
      where
        by : (c : Bool) → Turns (if c then record { body = e.body; app = e.app; own = own_in ty (tag_of (host_type ty) b.virt e.own) } else record { body = e.body; app = 0; own = 0 })
        by true = record { inside = t.inside; other = record { size = t.other.size; bytes = t.other.bytes; shows = t.other.shows } }
        by false = record { inside = t.inside; other = record { size = t.other.size; bytes = t.other.bytes; shows = t.other.shows } }

    -- the data alone, on a wire or medium without tuples, is that of the entry with other data
    pub stored-bare : (dix dif : Bool) (ty : PiType) (e : MapEntry) → IsProper m e → Unescaped ty e → Turns e → is_zero ty ≡ true ⊎ dif ≡ false →
        to_medium [] (passage [] (way dix dif ty)) (flipped off bytes e.body) ≡ Ok (stored_as (quiet m dix dif ty) (here m b protect) (kept dix dif ty (turned e)))
    stored-bare dix dif ty e p h t bare =
        ap (to_medium [] (passage [] (way dix dif ty))) (sym (wire-bare dix dif ty (kept dix dif ty (turned e)) bare ∙ kept-body dix dif ty (turned e)))
        ∙ (clean-out dix dif ty (turned e) (other-proper e (flipped off bytes e.body) p t.other.size t.other.bytes) h).stores

    -- what is accepted with other data and without a tuple is found by nobody
    pub none-bare : (dix dif : Bool) (ty : PiType) (e : MapEntry) → IsProper m e → Unescaped ty e → Turns e → is_zero ty ≡ true ⊎ dif ≡ false →
        seen_on_way_out (quiet m dix dif ty) b owner (at_device e.body (by_target (to_medium [] (passage [] (way dix dif ty)) (flipped off bytes e.body)))) ≡ None
    none-bare dix dif ty e p h t bare =
        ap (λ v. seen_on_way_out (quiet m dix dif ty) b owner (at_device e.body (by_target v))) (stored-bare dix dif ty e p h t bare)
        ∙ unseen dix dif ty owner (kept dix dif ty (turned e)) (kept-proper dix dif ty (turned e) (other-proper e (flipped off bytes e.body) p t.other.size t.other.bytes))

    -- ---- from the adapter to the target

    pub to-target-apart : (dix dif : Bool) (ty : PiType) (frame : List ℕ) → to_medium (flip AdapterToTarget) (passage (flip AdapterToTarget) (way dix dif ty)) frame ≡ to_medium [] (passage [] (way dix dif ty)) (altered (flip AdapterToTarget) AdapterToTarget (label_of b) frame)
    to-target-apart dix dif ty frame = medium-apart dix dif ty AdapterToTarget frame ∙ crossed-there b AdapterToTarget TargetToMedium off bytes _ refl

    -- the target looks at other data under an entry's tuple
    accepts-other : (dix : Bool) (ty : PiType) (e : MapEntry) → IsProper m e → Unescaped ty e → Turns e → is_zero ty ≡ false → passes_tuples (way dix true ty) ≡ true →
        seen_on_way_out (quiet m dix true ty) b owner (at_device (frame_of e.body (tuple_below ty e)) (by_target (to_medium [] (passage [] (way dix true ty)) (frame_of (flipped off bytes e.body) (tuple_below ty e)))))
        ≡ (if eqb m.mode.protect 3 then Some Adapter else Some Target)
    accepts-other dix ty e p h t z passes = by (eqb m.mode.protect 3) refl
      where
        f : List ℕ
        f = frame_of (flipped off bytes e.body) (tuple_below ty e)

        field : (passage [] (way dix true ty)).protect ≡ m.mode.protect
        field = ap (λ c. if c then m.mode.protect else 0) passes

        taken : (x : Option Check) → found_in (passage [] (way dix true ty)) f ≡ x → to_medium [] (passage [] (way dix true ty)) f ≡ unless x f
        taken x e' = onto_medium (way dix true ty) f ∙ ap (λ c. if c then Ok (with_own_tuple ty (passage [] (way dix true ty)).lba f) else unless (found_in (passage [] (way dix true ty)) f) f) (ne_eqb (passage [] (way dix true ty)).protect 0 (λ n. omega (arith, n, field, protect))) ∙ ap (λ o. unless o f) e'

        by : (c : Bool) → eqb m.mode.protect 3 ≡ c → seen_on_way_out (quiet m dix true ty) b owner (at_device (frame_of e.body (tuple_below ty e)) (by_target (to_medium [] (passage [] (way dix true ty)) f))) ≡ (if c then Some Adapter else Some Target)
        by true three =
            ap (λ v. seen_on_way_out (quiet m dix true ty) b owner (at_device (frame_of e.body (tuple_below ty e)) (by_target v))) (taken None (nothing-asked dix true ty f (field ∙ eqb-true m.mode.protect 3 three)))
            ∙ past-target dix ty owner e (flipped off bytes e.body) p h t.other z (field ∙ eqb-true m.mode.protect 3 three)
        by false other =
            ap (λ v. seen_on_way_out (quiet m dix true ty) b owner (at_device (frame_of e.body (tuple_below ty e)) (by_target v)))
            (taken (Some Guard) (guard-asked dix true ty e (flipped off bytes e.body) p h t.other z (ap (λ n. not (eqb n 3)) field ∙ ap not other)))

    at-wire : (dix dif : Bool) (ty : PiType) (e : MapEntry) → IsProper m e → Unescaped ty e → Turns e → seen_in_write (quiet m dix dif ty) b owner (flip AdapterToTarget) (held dix ty e)
        ≡ (if dif && not (is_zero ty) then (if eqb m.mode.protect 3 then Some Adapter else Some Target) else None)
    at-wire dix dif ty e p h t =
        ap (seen_on_way_out (quiet m dix dif ty) b owner) (onto-target dix dif ty AdapterToTarget e refl p h ∙ ap (λ v. at_device (wire (quiet m dix dif ty) b (kept dix dif ty e)) (by_target v)) (to-target-apart dix dif ty (wire (quiet m dix dif ty) b (kept dix dif ty e))))
        ∙ by dif ty (kept-proper dix dif ty e p) (kept-open dix dif ty e h) (turns-kept dix dif ty e t)
      where
        -- where no tuple travels
        alone : (dif : Bool) (ty : PiType) (k : MapEntry) → IsProper m k → Unescaped ty k → Turns k → is_zero ty ≡ true ⊎ dif ≡ false → wire (quiet m dix dif ty) b k ≡ k.body →
            seen_on_way_out (quiet m dix dif ty) b owner (at_device k.body (by_target (to_medium [] (passage [] (way dix dif ty)) (altered (flip AdapterToTarget) AdapterToTarget (label_of b) k.body)))) ≡ None
        alone dif ty k p h t bare w =
            ap (λ x. seen_on_way_out (quiet m dix dif ty) b owner (at_device k.body (by_target (to_medium [] (passage [] (way dix dif ty)) x)))) (altered-bare b AdapterToTarget off bytes k.body)
            ∙ none-bare dix dif ty k p h t bare

        -- and where one does
        along : (ty : PiType) (k : MapEntry) → IsProper m k → Unescaped ty k → Turns k → is_zero ty ≡ false → passes_tuples (way dix true ty) ≡ true →
            seen_on_way_out (quiet m dix true ty) b owner (at_device (frame_of k.body (tuple_below ty k)) (by_target (to_medium [] (passage [] (way dix true ty)) (altered (flip AdapterToTarget) AdapterToTarget (label_of b) (frame_of k.body (tuple_below ty k))))))
            ≡ (if eqb m.mode.protect 3 then Some Adapter else Some Target)
        along ty k p h t z passes =
            ap (λ x. seen_on_way_out (quiet m dix true ty) b owner (at_device (frame_of k.body (tuple_below ty k)) (by_target (to_medium [] (passage [] (way dix true ty)) x)))) (altered-here b AdapterToTarget off bytes k.body _ t.inside)
            ∙ accepts-other dix ty k p h t z passes

        by : (dif : Bool) (ty : PiType) → IsProper m (kept dix dif ty e) → Unescaped ty (kept dix dif ty e) → Turns (kept dix dif ty e) →
            seen_on_way_out (quiet m dix dif ty) b owner (at_device (wire (quiet m dix dif ty) b (kept dix dif ty e)) (by_target (to_medium [] (passage [] (way dix dif ty)) (altered (flip AdapterToTarget) AdapterToTarget (label_of b) (wire (quiet m dix dif ty) b (kept dix dif ty e))))))
            ≡ (if dif && not (is_zero ty) then (if eqb m.mode.protect 3 then Some Adapter else Some Target) else None)
        by false ty p h t = alone false ty (kept dix false ty e) p h t (inr refl) refl
        by true Zero p h t = alone true Zero (kept dix true Zero e) p h t (inl refl) refl
        by true One p h t = along One (kept dix true One e) p h t refl refl
        by true Two p h t = along Two (kept dix true Two e) p h t refl refl
        by true Three p h t = along Three (kept dix true Three e) p h t refl refl

    -- ---- on the medium

    -- a block that is stored or fetched with other data
    fetched-other : (dix dif : Bool) (ty : PiType) (at : Crossing) (e : MapEntry) → IsProper m e → Unescaped ty e → Turns e →
        seen_in_read (quiet m dix dif ty) b owner [] (altered (flip at) at (label_of b) (stored_as (quiet m dix dif ty) (here m b protect) e)) ≡ checks_stored (quiet m dix dif ty).mode ty
    fetched-other dix dif Zero at e p h t =
        ap (seen_in_read (quiet m dix dif Zero) b owner []) (altered-bare b at off bytes e.body)
        ∙ unseen dix dif Zero owner (turned e) (other-proper e (flipped off bytes e.body) p t.other.size t.other.bytes)
    fetched-other dix dif One at e p h t = ap (seen_in_read (quiet m dix dif One) b owner []) (altered-here b at off bytes e.body _ t.inside) ∙ read-other dix dif One owner e (flipped off bytes e.body) p h t.other refl
    fetched-other dix dif Two at e p h t = ap (seen_in_read (quiet m dix dif Two) b owner []) (altered-here b at off bytes e.body _ t.inside) ∙ read-other dix dif Two owner e (flipped off bytes e.body) p h t.other refl
    fetched-other dix dif Three at e p h t = ap (seen_in_read (quiet m dix dif Three) b owner []) (altered-here b at off bytes e.body _ t.inside) ∙ read-other dix dif Three owner e (flipped off bytes e.body) p h t.other refl

    at-medium : (dix dif : Bool) (ty : PiType) (e : MapEntry) → IsProper m e → Unescaped ty e → Turns e → seen_in_write (quiet m dix dif ty) b owner (flip TargetToMedium) (held dix ty e) ≡ checks_stored (quiet m dix dif ty).mode ty
    at-medium dix dif ty e p h t =
        let k = kept dix dif ty e in
        let w = wire (quiet m dix dif ty) b k in
        ap (seen_on_way_out (quiet m dix dif ty) b owner) (onto-target dix dif ty TargetToMedium e refl p h)
        ∙ ap (λ v. seen_on_way_out (quiet m dix dif ty) b owner (at_device w (by_target v)))
        (medium-apart dix dif ty TargetToMedium w
        ∙ ap (λ f. then_crossed (flip TargetToMedium) (Some (label_of b)) TargetToMedium (to_medium [] (passage [] (way dix dif ty)) f)) (altered-there b TargetToMedium AdapterToTarget off bytes w refl)
        ∙ ap (then_crossed (flip TargetToMedium) (Some (label_of b)) TargetToMedium) (clean-out dix dif ty e p h).stores)
        ∙ fetched-other dix dif ty TargetToMedium k (kept-proper dix dif ty e p) (kept-open dix dif ty e h) (turns-kept dix dif ty e t)

    -- ---- on a way in

    -- behind the target the rest of the way is without the flip
    pub rest-in : (dix dif : Bool) (ty : PiType) (at : Crossing) (x : Result (List ℕ) Check) → is_same at AdapterToHost ≡ false → from_device (flip at) (way dix dif ty) (by_target x) ≡ from_device [] (way dix dif ty) (by_target x)
    rest-in dix dif ty at (Err c) apart = refl
    rest-in dix dif ty at (Ok f) apart = ap (at_host f) (from-wire (flip at) (way dix dif ty) f ∙ crossed-there b at AdapterToHost off bytes (from_wire [] (way dix dif ty) f) apart)

    at-fetch : (dix dif : Bool) (ty : PiType) (e : MapEntry) → IsProper m e → Unescaped ty e → Turns e → seen_in_read (quiet m dix dif ty) b owner (flip MediumToTarget) (stored_as (quiet m dix dif ty) (here m b protect) e) ≡ checks_stored (quiet m dix dif ty).mode ty
    at-fetch dix dif ty e p h t =
        let s = stored_as (quiet m dix dif ty) (here m b protect) e in
        ap (λ v. seen_on_way_in (verified (way dix dif ty) owner v))
        (ap (λ v. from_device (flip MediumToTarget) (way dix dif ty) (by_target v)) (wire-apart dix dif ty MediumToTarget s ∙ crossed-there b MediumToTarget TargetToAdapter off bytes _ refl)
        ∙ rest-in dix dif ty MediumToTarget (from_medium [] (passage [] (way dix dif ty)) (altered (flip MediumToTarget) MediumToTarget (label_of b) s)) refl)
        ∙ fetched-other dix dif ty MediumToTarget e p h t

    -- what the target sends is clean, up to a crossing behind it
    pub sends-clean : (dix dif : Bool) (ty : PiType) (at : Crossing) (e : MapEntry) → IsProper m e → is_same at MediumToTarget ≡ false →
        from_medium (flip at) (passage (flip at) (way dix dif ty)) (stored_as (quiet m dix dif ty) (here m b protect) e) ≡ then_crossed (flip at) (Some (label_of b)) TargetToAdapter (Ok (wire (quiet m dix dif ty) b e))
    sends-clean dix dif ty at e p apart =
        wire-apart dix dif ty at (stored_as (quiet m dix dif ty) (here m b protect) e)
        ∙ ap (λ f. then_crossed (flip at) (Some (label_of b)) TargetToAdapter (from_medium [] (passage [] (way dix dif ty)) f)) (altered-there b at MediumToTarget off bytes (stored_as (quiet m dix dif ty) (here m b protect) e) apart)
        ∙ ap (then_crossed (flip at) (Some (label_of b)) TargetToAdapter) (clean-in dix dif ty owner e p).sends

    at-answer : (dix dif : Bool) (ty : PiType) (e : MapEntry) → IsProper m e → Unescaped ty e → Turns e → seen_in_read (quiet m dix dif ty) b owner (flip TargetToAdapter) (stored_as (quiet m dix dif ty) (here m b protect) e)
        ≡ (if dif && not (is_zero ty) then Some Adapter else None)
    at-answer dix dif ty e p h t =
        ap (λ v. seen_on_way_in (verified (way dix dif ty) owner v))
        (ap (λ v. from_device (flip TargetToAdapter) (way dix dif ty) (by_target v)) (sends-clean dix dif ty TargetToAdapter e p refl)
        ∙ rest-in dix dif ty TargetToAdapter (then_crossed (flip TargetToAdapter) (Some (label_of b)) TargetToAdapter (Ok (wire (quiet m dix dif ty) b e))) refl)
        ∙ by dif ty p h
      where
        alone : (dif : Bool) (ty : PiType) → IsProper m e → is_zero ty ≡ true ⊎ dif ≡ false → seen_on_way_in (verified (way dix dif ty) owner (at_host (altered (flip TargetToAdapter) TargetToAdapter (label_of b) e.body) (from_wire [] (way dix dif ty) (altered (flip TargetToAdapter) TargetToAdapter (label_of b) e.body)))) ≡ None
        alone dif ty p bare =
            let e' = turned e in
            let p' = other-proper e (flipped off bytes e.body) p t.other.size t.other.bytes in
            let k = clean-in dix dif ty owner e' p' in
            let w = wire-bare dix dif ty e' bare in
            ap (λ x. seen_on_way_in (verified (way dix dif ty) owner (at_host x (from_wire [] (way dix dif ty) x)))) (altered-bare b TargetToAdapter off bytes e.body ∙ sym w)
            ∙ ap (λ v. seen_on_way_in (verified (way dix dif ty) owner (at_host (wire (quiet m dix dif ty) b e') v))) k.hands ∙ ap seen_on_way_in k.delivered

        along : (ty : PiType) → IsProper m e → Unescaped ty e → is_zero ty ≡ false → seen_on_way_in (verified (way dix true ty) owner (at_host (altered (flip TargetToAdapter) TargetToAdapter (label_of b) (frame_of e.body (tuple_below ty e))) (from_wire [] (way dix true ty) (altered (flip TargetToAdapter) TargetToAdapter (label_of b) (frame_of e.body (tuple_below ty e)))))) ≡ Some Adapter
        along ty p h z =
            let f = frame_of (flipped off bytes e.body) (tuple_below ty e) in
            ap (λ x. seen_on_way_in (verified (way dix true ty) owner (at_host x (from_wire [] (way dix true ty) x)))) (altered-here b TargetToAdapter off bytes e.body _ t.inside)
            ∙ ap (λ v. seen_on_way_in (verified (way dix true ty) owner (at_host f v))) (adapter-sees dix ty owner e (flipped off bytes e.body) p h t.other z)

        by : (dif : Bool) (ty : PiType) → IsProper m e → Unescaped ty e →
            seen_on_way_in (verified (way dix dif ty) owner (from_device [] (way dix dif ty) (by_target (then_crossed (flip TargetToAdapter) (Some (label_of b)) TargetToAdapter (Ok (wire (quiet m dix dif ty) b e))))))
            ≡ (if dif && not (is_zero ty) then Some Adapter else None)
        by false ty p h = alone false ty p (inr refl)
        by true Zero p h = alone true Zero p (inl refl)
        by true One p h = along One p h refl
        by true Two p h = along Two p h refl
        by true Three p h = along Three p h refl

    -- ---- from the adapter to the host

    -- the tuple that the host gets, before its tag is mapped back
    abbrev pub HostFrame : Bool → PiType → MapEntry → Type 0
    HostFrame dif ty e = (u : Tuple) × (received (way true dif ty) (wire (quiet m true dif ty) b e) ≡ frame_of e.body u) × Small u × (u.guard ≡ guard_of m.mode.kind e.body) × (is_escaped (host_type ty) u ≡ false)

    inserted : (dif : Bool) (ty : PiType) (e : MapEntry) → received (way true dif ty) (wire (quiet m true dif ty) b e) ≡ frame_of e.body (record { guard = guard_of m.mode.kind e.body; app = 0; rtag = own_tag (host_type ty) (here m b protect) }) → HostFrame dif ty e
    inserted dif ty e is = (record { guard = guard_of m.mode.kind e.body; app = 0; rtag = own_tag (host_type ty) (here m b protect) }, is, record { guard = guard_below m.mode.kind e.body; app = omega arith; rtag = own-below (has_ref_tag (host_type ty)) }, refl, fresh-open ty)
      where
        own-below : (c : Bool) → (if c then ref_tag (here m b protect) else 0) < 2 ^ 32
        own-below true = tag_below (here m b protect)
        own-below false = omega arith

        fresh-open : (ty : PiType) → is_escaped (host_type ty) (record { guard = guard_of m.mode.kind e.body; app = 0; rtag = own_tag (host_type ty) (here m b protect) }) ≡ false
        fresh-open Zero = refl
        fresh-open One = refl
        fresh-open Two = refl
        fresh-open Three = refl

    hosted-frame : (kind : GuardKind) (body : List ℕ) (app rtag : ℕ) → length body ≡ m.size →
        (if is_crc kind then frame_of body (record { guard = crc body; app = app; rtag = rtag }) else with_guard m.size (guard_of Ip (data_of m.size (frame_of body (record { guard = crc body; app = app; rtag = rtag })))) (frame_of body (record { guard = crc body; app = app; rtag = rtag })))
        ≡ frame_of body (record { guard = guard_of kind body; app = app; rtag = rtag })
    hosted-frame Crc body app rtag l = refl
    hosted-frame Ip body app rtag l =
        ap (λ d. with_guard m.size (guard_of Ip d) (frame_of body (record { guard = crc body; app = app; rtag = rtag }))) (data_is m.size body (record { guard = crc body; app = app; rtag = rtag }) l)
        ∙ new_guard m.size (guard_of Ip body) body (record { guard = crc body; app = app; rtag = rtag }) l

    brought : (ty : PiType) (e : MapEntry) → IsProper m e → received (way true true ty) (wire (quiet m true true ty) b e) ≡ frame_of e.body (record { guard = guard_of m.mode.kind e.body; app = e.app; rtag = tag_of ty (here m b protect) e.own }) →
        is_escaped (host_type ty) (record { guard = guard_of m.mode.kind e.body; app = e.app; rtag = tag_of ty (here m b protect) e.own }) ≡ false → HostFrame true ty e
    brought ty e p is free = (record { guard = guard_of m.mode.kind e.body; app = e.app; rtag = tag_of ty (here m b protect) e.own }, is, record { guard = guard_below m.mode.kind e.body; app = p.app; rtag = rtag_below ty (here m b protect) e.own p.own }, refl, free)

    pub host-frame : (dif : Bool) (ty : PiType) (e : MapEntry) → IsProper m e → Unescaped ty e → HostFrame dif ty e
    host-frame false ty e p h = inserted false ty e refl
    host-frame true Zero e p h = inserted true Zero e refl
    host-frame true One e p h = brought One e p (hosted-frame m.mode.kind e.body e.app _ p.size) h
    host-frame true Two e p h = brought Two e p (hosted-frame m.mode.kind e.body e.app _ p.size) h
    host-frame true Three e p h = brought Three e p (hosted-frame m.mode.kind e.body e.app _ p.size) h

    owner-named : seen_by (owner_says owner Guard) ≡ Some OfOwner
    owner-named = by owner
      where
        by : (o : Owner) → seen_by (owner_says o Guard) ≡ Some OfOwner
        by OfBlock = refl
        by OfApp = refl

    hands-over : (dix dif : Bool) (ty : PiType) (e : MapEntry) → IsProper m e → seen_in_read (quiet m dix dif ty) b owner (flip AdapterToHost) (stored_as (quiet m dix dif ty) (here m b protect) e)
        ≡ seen_on_way_in (verified (way dix dif ty) owner (Delivers (wire (quiet m dix dif ty) b e) (altered (flip AdapterToHost) AdapterToHost (label_of b) (received (way dix dif ty) (wire (quiet m dix dif ty) b e)))))
    hands-over dix dif ty e p =
        let w = wire (quiet m dix dif ty) b e in
        ap (λ v. seen_on_way_in (verified (way dix dif ty) owner (from_device (flip AdapterToHost) (way dix dif ty) (by_target v))))
        (sends-clean dix dif ty AdapterToHost e p refl ∙ crossed-there b AdapterToHost TargetToAdapter off bytes (Ok w) refl)
        ∙ ap (λ v. seen_on_way_in (verified (way dix dif ty) owner (at_host w v)))
        (from-wire (flip AdapterToHost) (way dix dif ty) w ∙ ap (then_crossed (flip AdapterToHost) (Some (label_of b)) AdapterToHost) (clean-in dix dif ty owner e p).hands)

    at-owner : (dix dif : Bool) (ty : PiType) (e : MapEntry) → IsProper m e → Unescaped ty e → Turns e → (guard_of m.mode.kind (flipped off bytes e.body) ≡ guard_of m.mode.kind e.body → ⊥) →
        seen_in_read (quiet m dix dif ty) b owner (flip AdapterToHost) (stored_as (quiet m dix dif ty) (here m b protect) e) ≡ (if dix then Some OfOwner else None)
    at-owner false dif ty e p h t shows = hands-over false dif ty e p
    at-owner true dif ty e p h t shows =
        let r = way true dif ty in
        let w = wire (quiet m true dif ty) b e in
        let k = host-frame dif ty e p h in
        let body = flipped off bytes e.body in
        let g = guard-mapped (host_type ty) (here m b protect) b.virt k.0 in
        let u = remapped (host_type ty) (here m b protect) b.virt k.0 in
        let s = k.2 in
        let su : Small u = record { guard = subst (λ n. n < 2 ^ 16) (sym g.0) s.guard; app = subst (λ n. n < 2 ^ 16) (sym g.1) s.app; rtag = rtag-mapped (host_type ty) (here m b protect) b.virt k.0 (tag_below b.virt) s.rtag } in
        let came : altered (flip AdapterToHost) AdapterToHost (label_of b) (received r w) ≡ frame_of body k.0 = ap (altered (flip AdapterToHost) AdapterToHost (label_of b)) k.1 ∙ altered-here b AdapterToHost off bytes e.body _ t.inside in
        let mapped : mapped_back r (frame_of body k.0) ≡ frame_of body u = mapped_is m.size body k.0 t.other.size s (host_type ty) (here m b protect) b.virt in
        let finds : owner_finds r (frame_of body u) ≡ Some Guard =
        finds-guard m.size m.mode.kind (host_type ty) (all_asked m.mode.app m.mode.mask) (ref_tag b.virt) body u t.other.size su (never_zero ty) (open-mapped (host_type ty) (here m b protect) b.virt k.0 k.4) refl (λ same. shows (sym same ∙ g.0 ∙ k.3)) in
        hands-over true dif ty e p
        ∙ ap (λ f. seen_on_way_in (verified r owner (Delivers w f))) came
        ∙ ap (λ f. seen_on_way_in (delivered_unless owner w f (owner_finds r f))) mapped
        ∙ ap (λ o. seen_on_way_in (delivered_unless owner w (frame_of body u) o)) finds ∙ owner-named

-- ---- every crossing

pub served-some : (p : ℕ) → is_served p ≡ true → 0 < p
served-some p h = grind arith

wire-finder : (dif : Bool) (ty : PiType) (p : ℕ) →
    (if dif && not (is_zero ty) then (if eqb p 3 then Some Adapter else Some Target) else None) ≡ (if dif && not (is_zero ty) then (if is_zero ty then None else (if dif && eqb p 3 then Some Adapter else Some Target)) else None)
wire-finder false ty p = refl
wire-finder true Zero p = refl
wire-finder true One p = refl
wire-finder true Two p = refl
wire-finder true Three p = refl

pub proper : (m : Setting) (e : MapEntry) → IsCleanBlock m e → IsProper m e
proper m e c = record { size = c.size; bytes = below 256 e.body c.bytes; app = c.app; own = c.own; expected = unmasked m e.app c.mask }

pub turns : (m : Setting) (b : Block) (protect : 0 < m.mode.protect) (mask : m.mode.mask ≡ 0) (at : Crossing) (off : ℕ) (bytes : List ℕ) (owner : Owner) (e : MapEntry) → IsCleanBlock m e → ShowsIn m at off bytes e → Turns m b protect mask off bytes owner e
turns m b protect mask at off bytes owner e c w = record {
  inside = subst (λ n. off + length bytes ≤ n) (sym c.size) w.inside;
  other = record { size = length-xored (byte_at off bytes) 0 e.body ∙ c.size; bytes = flipped-below off 0 bytes e.body (below 256 bytes w.below) (below 256 e.body c.bytes); shows = w.crc_shows };
}

pub sees : (m : Setting) (b : Block) (owner : Owner) (at : Crossing) (off : ℕ) (bytes : List ℕ) (e : MapEntry) → is_served m.mode.protect ≡ true → IsCleanBlock m e → ShowsIn m at off bytes e → seen_in m b owner at off bytes e ≡ finder m.mode m.ty at
sees m b owner HostToAdapter off bytes e v c w =
    let s = served-some m.mode.protect v in at-host m b s c.mask off bytes owner m.mode.dix m.mode.dif m.ty e (proper m e c) c.unescaped (turns m b s c.mask HostToAdapter off bytes owner e c w) (w.host_shows refl)
sees m b owner AdapterToTarget off bytes e v c w =
    let s = served-some m.mode.protect v in at-wire m b s c.mask off bytes owner m.mode.dix m.mode.dif m.ty e (proper m e c) c.unescaped (turns m b s c.mask AdapterToTarget off bytes owner e c w) ∙ wire-finder m.mode.dif m.ty m.mode.protect
sees m b owner TargetToMedium off bytes e v c w =
    let s = served-some m.mode.protect v in at-medium m b s c.mask off bytes owner m.mode.dix m.mode.dif m.ty e (proper m e c) c.unescaped (turns m b s c.mask TargetToMedium off bytes owner e c w)
sees m b owner MediumToTarget off bytes e v c w =
    let s = served-some m.mode.protect v in at-fetch m b s c.mask off bytes owner m.mode.dix m.mode.dif m.ty e (proper m e c) c.unescaped (turns m b s c.mask MediumToTarget off bytes owner e c w)
sees m b owner TargetToAdapter off bytes e v c w =
    let s = served-some m.mode.protect v in at-answer m b s c.mask off bytes owner m.mode.dix m.mode.dif m.ty e (proper m e c) c.unescaped (turns m b s c.mask TargetToAdapter off bytes owner e c w)
sees m b owner AdapterToHost off bytes e v c w =
    let s = served-some m.mode.protect v in at-owner m b s c.mask off bytes owner m.mode.dix m.mode.dif m.ty e (proper m e c) c.unescaped (turns m b s c.mask AdapterToHost off bytes owner e c w) (w.host_shows refl)

pub sees_by : (m : Setting) (b : Block) (owner : Owner) (at : Crossing) (off : ℕ) (bytes : List ℕ) (e : MapEntry) (mode : Mode) (ty : PiType) (result : Option Seen) → is_served mode.protect ≡ true → result ≡ finder mode ty at → m.mode ≡ mode → m.ty ≡ ty → IsCleanBlock m e → ShowsIn m at off bytes e → seen_in m b owner at off bytes e ≡ result
sees_by m b owner at off bytes e mode ty result v is sm st c w =
    sees m b owner at off bytes e (ap (λ (x : Mode). is_served x.protect) sm ∙ v) c w ∙ ap (λ (x : Mode). finder x m.ty at) sm ∙ ap (λ x. finder mode x at) st ∙ sym is
