-- A frame that the adapter passes is taken by the target.
use Rattle.std.proofs.Common.{◌≡◌, ◌<◌, ℕ, ◌+◌, ◌^◌, Bool, true, false, not, ◌&&◌, eqb, if◌then◌else◌, List, [], ◌∷◌, ◌++◌, length, drop, take, Option, Some, None, refl, sym, ap, subst, ◌∙◌, arith}
use Rattle.std.specs.Prelude.{bit_and, IfOk, Ok}
use Rattle.std.specs.Int.{w16, to_be_bytes}
use Rattle.std.proofs.lemmas.Bool.{eq-eqb, eqb-true, not-false, and_right}
use Rattle.std.proofs.lemmas.List.{drop-drop, length-take-le, take_at, drop_at}
use Rattle.std.proofs.lemmas.Nat.{from_be_bytes-to_be_bytes_2}
use lib.Bits.{and_zero_r}
use Rattle.pi_guard.specs.Guards.{crc, guard_of}
use Rattle.pi_guard.specs.declared.GuardKind.{GuardKind}
use Rattle.pi_guard.specs.declared.GuardKind.TheVariants.{Crc, Ip}
use Rattle.pi_guard.proofs.GuardSizes.{guard_below}
use Rattle.pi_tuple.specs.Finds.{finding, first_of, has_ref_tag, is_escaped, is_zero}
use Rattle.pi_tuple.specs.Tuples.{ref_tag, tuple_in}
use Rattle.pi_tuple.specs.declared.tuple.Tuple.{Tuple}
use Rattle.pi_tuple.specs.declared.checks.PiType.{PiType}
use Rattle.pi_tuple.specs.declared.checks.PiType.TheVariants.{Zero, One, Two, Three}
use Rattle.pi_tuple.specs.declared.checks.Check.{Check}
use Rattle.pi_tuple.specs.declared.checks.Check.TheVariants.{AppTag, Guard, RefTag}
use Rattle.pi_tuple.proofs.TupleLaws.{tag_below, same_fields}
use Rattle.cdb_codec.specs.Rule.{is_two}
use Rattle.integrity_payload.specs.Payloads.{all_asked}
use Rattle.rig_api.specs.Frames.{data_of, frame_of, tuple_of}
use Rattle.rig_api.specs.declared.passage.Passage.{Passage}
use Rattle.rig_api.specs.Passing.{accepted, asked_of as checked_of, found_in, to_medium, unless, wanted_of, with_own_tuple}
use Rattle.block_path.specs.declared.route.Route.{Route}
use Rattle.block_path.specs.Routes.{host_size, is_crc, passage, wire_lba, with_guard}
use Rattle.block_path.specs.WayOut.{adapter_finds_out, sent}
use Rattle.walk_laws.proofs.CalmWays.{onto_medium, onto_wire}
use Rattle.walk_laws.proofs.TupleFrames.{finds_in_frame, finds_none}
use Rattle.lab_laws.specs.Passing.{BlockPasses}
use Rattle.small_laws.proofs.Tests.{never}
use Rattle.small_laws.proofs.Lists.{behind_long}

-- ---- checks

-- nothing differs of what is asked
nothing_found : (g a r : Bool) → first_of (record { check = Guard; differs = g } ∷ record { check = AppTag; differs = a } ∷ record { check = RefTag; differs = r } ∷ []) ≡ None → (g ≡ false) × ((a ≡ false) × (r ≡ false))
nothing_found true a r h = grind (arith, h)
nothing_found false true r h = grind (arith, h)
nothing_found false false true h = grind (arith, h)
nothing_found false false false h = (refl, (refl, refl))

-- of what is asked behind it nothing differs either
less : (skip g a r g' a' r' : Bool) → (if skip then None else first_of (record { check = Guard; differs = g } ∷ record { check = AppTag; differs = a } ∷ record { check = RefTag; differs = r } ∷ [])) ≡ None →
    (g ≡ false → g' ≡ false) → (a ≡ false → a' ≡ false) → (r ≡ false → r' ≡ false) →
    (if skip then None else first_of (record { check = Guard; differs = g' } ∷ record { check = AppTag; differs = a' } ∷ record { check = RefTag; differs = r' } ∷ [])) ≡ None
less true g a r g' a' r' h p q s = refl
less false g a r g' a' r' h p q s =
    let k = nothing_found g a r h in
    rw (p k.0, q k.1.0, s k.1.1) refl

if_asked : (c : Bool) (i j : ℕ) → i ≡ j → (c && not (eqb i j)) ≡ false
if_asked false i j h = refl
if_asked true i j h = let e : eqb i j ≡ true = eq-eqb i j h in rw e refl

-- the target asks for a tag under the mask, or for none
masked : (c : Bool) (app want mask : ℕ) → not (eqb (bit_and app mask) (bit_and want mask)) ≡ false → not (eqb (bit_and app (if c then mask else 0)) (bit_and want (if c then mask else 0))) ≡ false
masked true app want mask h = h
masked false app want mask h = let e : eqb (bit_and app 0) (bit_and want 0) ≡ true = eq-eqb _ _ (and_zero_r app ∙ sym (and_zero_r want)) in ap not e

-- ---- a tuple in a frame

-- eight bytes under another guard
reguarded : (g : ℕ) (b : List ℕ) → length b ≡ 8 → g < 2 ^ 16 → tuple_in (to_be_bytes w16 g ++ drop 2 b) ≡ record { guard = g; app = (tuple_in b).app; rtag = (tuple_in b).rtag }
reguarded g [] l h = absurd (omega (arith, l))
reguarded g (x ∷ []) l h = absurd (omega (arith, l))
reguarded g (x ∷ y ∷ b) l h = let e = from_be_bytes-to_be_bytes_2 g h in same_fields e refl refl

module _ (size : ℕ) (frame : List ℕ) (l : length frame ≡ size + 8) where
  data_kept : (g : ℕ) → data_of size (with_guard size g frame) ≡ data_of size frame
  data_kept g = take_at (take size frame) (to_be_bytes w16 g ++ drop (size + 2) frame) size (length-take-le size frame (omega (arith, l)))

  tuple_kept : (g : ℕ) → g < 2 ^ 16 → tuple_of size (with_guard size g frame) ≡ record { guard = g; app = (tuple_of size frame).app; rtag = (tuple_of size frame).rtag }
  tuple_kept g h =
      ap tuple_in (drop_at (take size frame) (to_be_bytes w16 g ++ drop (size + 2) frame) size (length-take-le size frame (omega (arith, l))))
      ∙ ap (λ b. tuple_in (to_be_bytes w16 g ++ b)) (sym (drop-drop 2 size frame))
      ∙ reguarded g (drop size frame) (behind_long size 8 frame l) h

-- ---- at the target

-- a route with these in place of its own
abbrev set : Route → (dix dif : Bool) → PiType → Route
set r dix dif ty = record r { mode = record r.mode { dix = dix; dif = dif }; ty = ty }

same_lba : (r : Route) → wire_lba [] r ≡ r.lba
same_lba r = omega arith

wanted : (r : Route) (ty : PiType) → wanted_of (passage [] (record r { ty = ty })) ≡ ref_tag r.lba
wanted r Zero = ap ref_tag (same_lba r)
wanted r One = ap ref_tag (same_lba r)
wanted r Two = refl
wanted r Three = ap ref_tag (same_lba r)

-- the target asks no more of a tuple than the adapter did, but for the guard
module _ (r : Route) where
  asks_less : (ty : PiType) (g crc_is : ℕ) (t : Tuple) (guard : ℕ) → is_zero ty ≡ false → (t.guard ≡ g → guard ≡ crc_is) →
      finding ty (all_asked r.mode.app r.mode.mask) (ref_tag r.lba) g t ≡ None →
      let p = passage [] (record r { ty = ty }) in
      finding ty (checked_of p) (wanted_of p) crc_is (record { guard = guard; app = t.app; rtag = t.rtag }) ≡ None
  asks_less Zero g crc_is t guard z right h = never (sym z)
  asks_less One g crc_is t guard z right h =
      let p = passage [] (record r { ty = One }) in
      less (eqb t.app 0xFFFF) _ _ _ _ _ _ h
      (λ e. if_asked (checked_of p).guard guard crc_is (right (eqb-true t.guard g (not-false (eqb t.guard g) e))))
      (masked false t.app r.mode.app r.mode.mask)
      (λ e. and_right (checked_of p).rtag _ (ap (λ w. not (eqb t.rtag w)) (wanted r One) ∙ e))
  asks_less Two g crc_is t guard z right h =
      let p = passage [] (record r { ty = Two }) in
      less (eqb t.app 0xFFFF) _ _ _ _ _ _ h
      (λ e. if_asked (checked_of p).guard guard crc_is (right (eqb-true t.guard g (not-false (eqb t.guard g) e))))
      (masked (eqb p.protect 1) t.app r.mode.app r.mode.mask)
      (λ e. and_right (checked_of p).rtag _ e)
  asks_less Three g crc_is t guard z right h =
      let p = passage [] (record r { ty = Three }) in
      less (is_escaped Three t) _ _ false _ _ _ h
      (λ e. if_asked (checked_of p).guard guard crc_is (right (eqb-true t.guard g (not-false (eqb t.guard g) e))))
      (masked false t.app r.mode.app r.mode.mask)
      (λ e. and_right (checked_of p).rtag false refl)

  -- what the adapter passes on with its tuple has nothing bad for the target
  passed_on : (kind : GuardKind) (ty : PiType) (frame : List ℕ) → is_zero ty ≡ false → length frame ≡ r.size + 8 →
      finding ty (all_asked r.mode.app r.mode.mask) (ref_tag r.lba) (guard_of kind (data_of r.size frame)) (tuple_of r.size frame) ≡ None →
      found_in (passage [] (record r { ty = ty })) (if is_crc kind then frame else with_guard r.size (crc (data_of r.size frame)) frame) ≡ None
  unfolding found_in
  passed_on Crc ty frame z l h =
      let d = data_of r.size frame in
      let t = tuple_of r.size frame in
      asks_less ty (crc d) (crc d) t t.guard z (λ e. e) h
  passed_on Ip ty frame z l h =
      let p = passage [] (record r { ty = ty }) in
      let d = data_of r.size frame in
      let t = tuple_of r.size frame in
      let f = with_guard r.size (crc d) frame in
      ap (λ x. finding ty (checked_of p) (wanted_of p) (crc x) (tuple_of r.size f)) (data_kept r.size frame l (crc d))
      ∙ ap (finding ty (checked_of p) (wanted_of p) (crc d)) (tuple_kept r.size frame l (crc d) (guard_below Crc d))
      ∙ asks_less ty (guard_of Ip d) (crc d) t (crc d) z (λ e. refl) h

unmasked : (c : Bool) (app mask : ℕ) → mask ≡ 0 → bit_and 0 (if c then mask else 0) ≡ bit_and app (if c then mask else 0)
unmasked true app mask h = ap (bit_and 0) h ∙ and_zero_r 0 ∙ sym (ap (bit_and app) h ∙ and_zero_r app)
unmasked false app mask h = and_zero_r 0 ∙ sym (and_zero_r app)

-- nor has what it makes a tuple for
module _ (r : Route) (frame : List ℕ) (l : length frame ≡ r.size) (none : r.mode.mask ≡ 0) where
  own : (ty : PiType) (rtag : ℕ) → rtag < 2 ^ 32 → let p = passage [] (record r { ty = ty }) in (has_ref_tag ty ≡ true → rtag ≡ wanted_of p) →
      found_in p (frame_of frame (record { guard = crc frame; app = 0; rtag = rtag })) ≡ None
  unfolding found_in
  own ty rtag small tags =
      let p = passage [] (record r { ty = ty }) in
      let t : Tuple = record { guard = crc frame; app = 0; rtag = rtag } in
      finds_in_frame r.size frame t l (record { guard = guard_below Crc frame; app = omega arith; rtag = small }) Crc ty (checked_of p) (wanted_of p)
      ∙ finds_none ty (checked_of p) (wanted_of p) (crc frame) t (λ _. refl) (unmasked (is_two ty && eqb p.protect 1) r.mode.app r.mode.mask none) (λ _ h. tags h)

  made : (ty : PiType) → is_zero ty ≡ false → found_in (passage [] (record r { ty = ty })) (with_own_tuple ty r.lba frame) ≡ None
  made Zero z = never (sym z)
  made One z = own One (ref_tag r.lba) (tag_below r.lba) (λ _. sym (wanted r One))
  made Two z = own Two (ref_tag r.lba) (tag_below r.lba) (λ _. sym (wanted r Two))
  made Three z = own Three 0 (omega arith) (λ h. never h)

-- ---- whichever way

abbrev IsTaken : Passage → List ℕ → Type 0
IsTaken p frame = (stored : List ℕ) × (accepted p frame ≡ Ok stored)

taken : (p : Passage) (frame : List ℕ) → found_in p frame ≡ None → IsTaken p frame
taken p frame none = by (eqb p.protect 0) (with_own_tuple p.ty p.lba frame)
  where
    by : (c : Bool) (other : List ℕ) → (stored : List ℕ) × ((if c then Ok other else unless (found_in p frame) frame) ≡ Ok stored)
    by true other = (other, refl)
    by false other = (frame, ap (λ o. unless o frame) none)

module _ (r : Route) (frame : List ℕ) where
  sent_taken : (dix dif : Bool) (ty : PiType) → let q = set r dix dif ty in length frame ≡ host_size q → (dix ≡ false → r.mode.mask ≡ 0) → adapter_finds_out q frame ≡ None → IsTaken (passage [] q) (sent q frame)
  sent_taken dix false ty l free h = let q = set r dix false ty in (with_own_tuple ty (wire_lba [] q) (sent q frame), refl)
  sent_taken dix true Zero l free h = let q = set r dix true Zero in (with_own_tuple Zero (wire_lba [] q) (sent q frame), refl)
  sent_taken true true One l free h = taken (passage [] (set r true true One)) (sent (set r true true One) frame) (passed_on (set r true true One) r.mode.kind One frame refl l h)
  sent_taken true true Two l free h = taken (passage [] (set r true true Two)) (sent (set r true true Two) frame) (passed_on (set r true true Two) r.mode.kind Two frame refl l h)
  sent_taken true true Three l free h = taken (passage [] (set r true true Three)) (sent (set r true true Three) frame) (passed_on (set r true true Three) r.mode.kind Three frame refl l h)
  sent_taken false true One l free h = taken (passage [] (set r false true One)) (with_own_tuple One r.lba frame) (made (set r false true One) frame l (free refl) One refl)
  sent_taken false true Two l free h = taken (passage [] (set r false true Two)) (with_own_tuple Two r.lba frame) (made (set r false true Two) frame l (free refl) Two refl)
  sent_taken false true Three l free h = taken (passage [] (set r false true Three)) (with_own_tuple Three r.lba frame) (made (set r false true Three) frame l (free refl) Three refl)

pub block_passes : BlockPasses
block_passes r frame l free =
    subst (λ x. IfOk x (λ carried. (stored : List ℕ) × (to_medium [] (passage [] r) carried ≡ Ok stored))) (sym (onto_wire r frame)) (by (adapter_finds_out r frame) refl)
  where
    by : (found : Option Check) → adapter_finds_out r frame ≡ found → IfOk (unless found (sent r frame)) (λ carried. (stored : List ℕ) × (to_medium [] (passage [] r) carried ≡ Ok stored))
    by (Some check) e = tt
    by None e = let t = sent_taken r frame r.mode.dix r.mode.dif r.ty l free e in (t.0, onto_medium r (sent r frame) ∙ t.1)
