-- What the target does with a block under another address than the host meant.
use Rattle.std.proofs.Common.{◌≡◌, ◌≢◌, ◌<◌, ℕ, ◌^◌, Bool, true, false, ◌&&◌, ◌||◌, eqb, if◌then◌else◌, List, [], Option, Some, None, refl, sym, ap, ◌∙◌}
use Rattle.std.specs.Prelude.{Result, Ok}
use Rattle.std.proofs.lemmas.Bool.{false≢true}
use Rattle.pi_guard.specs.Guards.{crc}
use Rattle.pi_guard.specs.declared.GuardKind.TheVariants.{Crc}
use Rattle.pi_guard.proofs.GuardSizes.{guard_below}
use Rattle.pi_tuple.specs.Finds.{is_escaped}
use Rattle.pi_tuple.specs.Tuples.{ref_tag}
use Rattle.pi_tuple.specs.declared.tuple.Tuple.{Tuple}
use Rattle.pi_tuple.specs.declared.checks.PiType.{PiType}
use Rattle.pi_tuple.specs.declared.checks.PiType.TheVariants.{Zero, One, Two, Three}
use Rattle.pi_tuple.specs.declared.checks.Check.{Check}
use Rattle.pi_tuple.specs.declared.checks.Check.TheVariants.{RefTag}
use Rattle.pi_tuple.proofs.TupleLaws.{tag_below}
use Rattle.cdb_codec.specs.Rule.{is_two}
use Rattle.integrity_payload.specs.declared.payload.Owner.{Owner}
use Rattle.bio_core.specs.declared.request.Dir.TheVariants.{Read, Write}
use Rattle.rig_api.specs.Frames.{data_of, frame_of}
use Rattle.rig_api.specs.Passing.{accepted, asked_of, found_in, released, to_medium, unless, wanted_of, with_own_tuple}
use Rattle.rig_api.specs.declared.passage.Passage.{Passage}
use Rattle.block_path.specs.declared.route.Route.{Route}
use Rattle.block_path.specs.Routes.{by_target, field_for, passage, passes}
use Rattle.block_path.specs.WayIn.{at_host, from_device, verified}
use Rattle.block_path.specs.WayOut.{at_device}
use Rattle.walk_laws.specs.Settings.{Block, Setting}
use Rattle.walk_laws.specs.PlainMap.{MapEntry}
use Rattle.walk_laws.specs.UnderMap.{stored_as}
use Rattle.walk_laws.proofs.CalmWays.{IsProper, here, loud, off_medium, onto_medium, quiet, wire}
use Rattle.walk_laws.proofs.TagLaws.{field_set}
use Rattle.walk_laws.proofs.TupleFrames.{Small, data_is, finds_in_frame, finds_none}
use Rattle.mode_map.specs.Finders.{IsCleanBlock, is_served}
use Rattle.mode_map.specs.Failures.{Comes, Delivers, Finds, adapter_asks_tag, astray_cell, expected, found_if, read_comes, read_end, refused_astray, stored_tag, target_asks_tag, write_end}
use Rattle.mode_map.specs.declared.failures.Cell.TheVariants.{Found, Unseen}
use Rattle.mode_map.specs.declared.finder.Seen.TheVariants.{Adapter, Target}
use Rattle.mode_map.proofs.Finding.{Unescaped, clean-in, clean-out, kept, kept-open, kept-proper, open-wire, proper, served-some, way}
use Rattle.mode_map.proofs.Kept.{other, same-joined}
use Rattle.mode_map.proofs.Reading.{adapter-tag, finds-tag, handed-data, masked, spoils}

and-false : (c : Bool) → (c && false) ≡ false
and-false true = refl
and-false false = refl

and-true : (c : Bool) → (c && true) ≡ c
and-true true = refl
and-true false = refl

module _ (m : Setting) (b : Block) (served : is_served m.mode.protect ≡ true) (mask : m.mode.mask ≡ 0) (owner : Owner) where
  abbrev pub protect : 0 < m.mode.protect
  protect = served-some m.mode.protect served

  abbrev set : Bool → Bool → PiType → Setting
  set dix dif ty = quiet m dix dif ty

  abbrev road : Bool → Bool → PiType → Route
  road dix dif ty = way m b protect mask dix dif ty

  abbrev home : ℕ
  home = here m b protect

  -- what a read comes to that the target answers so
  abbrev pub answered : Bool → Bool → PiType → Result (List ℕ) Check → Comes
  answered dix dif ty x = read_end (set dix dif ty) (verified (road dix dif ty) owner (from_device [] (road dix dif ty) (by_target x)))

  -- a block under this tag
  abbrev under_tag : MapEntry → ℕ → Tuple
  under_tag e tag = record { guard = crc e.body; app = e.app; rtag = tag }

  small-tag : (e : MapEntry) (tag : ℕ) → IsProper m e → tag < 2 ^ 32 → Small (under_tag e tag)
  small-tag e tag p s = record { guard = guard_below Crc e.body; app = p.app; rtag = s }

  loud-proper : (dix dif : Bool) (ty : PiType) (e : MapEntry) → IsCleanBlock (set dix dif ty) e → IsProper m e
  loud-proper dix dif ty e c = loud m dix dif ty e (proper (set dix dif ty) e c)

  module _ (there : ℕ) where
    abbrev pub aimed : Bool → Bool → PiType → Passage
    aimed dix dif ty = record (passage [] (road dix dif ty)) { lba = there }

    -- ---- in type 1 the target wants the tag of the address that it knows

    none-asked : (dix dif : Bool) (e : MapEntry) (tag : ℕ) → IsProper m e → tag < 2 ^ 32 → ((asked_of (aimed dix dif One)).rtag ≡ true → tag ≡ ref_tag there) → found_in (aimed dix dif One) (frame_of e.body (under_tag e tag)) ≡ None
    unfolding found_in
    none-asked dix dif e tag p s h =
        let x = aimed dix dif One in
        finds_in_frame m.size e.body (under_tag e tag) p.size (small-tag e tag p s) Crc One (asked_of x) (wanted_of x)
        ∙ finds_none One (asked_of x) (wanted_of x) (crc e.body) (under_tag e tag) (λ _. refl) (masked m b protect mask owner (is_two One && eqb x.protect 1) e.app) (λ r _. h r)

    found-there : (dix dif : Bool) (e : MapEntry) (tag : ℕ) → IsProper m e → tag < 2 ^ 32 → is_escaped One (under_tag e tag) ≡ false → (asked_of (aimed dix dif One)).rtag ≡ true → (tag ≡ ref_tag there → ⊥) →
        found_in (aimed dix dif One) (frame_of e.body (under_tag e tag)) ≡ Some RefTag
    unfolding found_in
    found-there dix dif e tag p s free a n =
        let x = aimed dix dif One in
        finds_in_frame m.size e.body (under_tag e tag) p.size (small-tag e tag p s) Crc One (asked_of x) (wanted_of x)
        ∙ finds-tag One (asked_of x) (wanted_of x) (crc e.body) (under_tag e tag) refl free refl (masked m b protect mask owner (is_two One && eqb x.protect 1) e.app) a refl n

    -- ---- in the others it doesn't ask for it

    same-zero : (dix dif : Bool) (f : List ℕ) → found_in (aimed dix dif Zero) f ≡ found_in (passage [] (road dix dif Zero)) f
    unfolding found_in
    same-zero dix dif f = refl

    same-two : (dix dif : Bool) (f : List ℕ) → found_in (aimed dix dif Two) f ≡ found_in (passage [] (road dix dif Two)) f
    unfolding found_in
    same-two dix dif f = refl

    same-three : (dix dif : Bool) (f : List ℕ) → found_in (aimed dix dif Three) f ≡ found_in (passage [] (road dix dif Three)) f
    unfolding found_in
    same-three dix dif f = refl

    -- ---- a read

    sends : (dix dif : Bool) (ty : PiType) (f : List ℕ) (x : Option Check) → found_in (aimed dix dif ty) f ≡ x →
        answered dix dif ty (released (aimed dix dif ty) f) ≡ answered dix dif ty (unless x (if eqb (field_for (set dix dif ty).mode ty) 0 then data_of m.size f else f))
    sends dix dif ty f x h = ap (λ o. answered dix dif ty (unless o (if eqb (field_for (set dix dif ty).mode ty) 0 then data_of m.size f else f))) h

    -- as under the address that was meant
    as-meant : (dix dif : Bool) (ty : PiType) (e : MapEntry) (f : List ℕ) → f ≡ stored_as (set dix dif ty) there e → found_in (aimed dix dif ty) f ≡ found_in (passage [] (road dix dif ty)) f → IsCleanBlock (set dix dif ty) e → ref_tag there ≢ ref_tag home →
        answered dix dif ty (released (aimed dix dif ty) f) ≡ expected (stored_tag (set dix dif ty).mode ty) e.body
    as-meant dix dif ty e f is same c n =
        sends dix dif ty f _ same
        ∙ ap (answered dix dif ty) (sym (off_medium (road dix dif ty) f))
        ∙ ap (λ x. read_comes (set dix dif ty) b owner [] x) is
        ∙ other (set dix dif ty) b owner served e there c n
        ∙ ap (λ x. expected x e.body) (same-joined (stored_tag (set dix dif ty).mode ty))

    stripped : (dix : Bool) (e : MapEntry) → IsProper m e → answered dix false One (Ok (data_of m.size (frame_of e.body (under_tag e (ref_tag there))))) ≡ Delivers e.body
    stripped dix e p =
        let k = clean-in m b protect mask dix false One owner e p in
        ap (λ x. answered dix false One (Ok x)) (data_is m.size e.body _ p.size)
        ∙ ap (λ v. read_end (set dix false One) (verified (road dix false One) owner (at_host e.body v))) k.hands
        ∙ ap (read_end (set dix false One)) k.delivered
        ∙ ap Delivers (handed-data m b protect mask owner dix false One e p.size)

    pub read-astray : (dix dif : Bool) (ty : PiType) (e : MapEntry) → IsCleanBlock (set dix dif ty) e → ref_tag there ≢ ref_tag home →
        answered dix dif ty (released (aimed dix dif ty) (stored_as (set dix dif ty) there e)) ≡ expected (astray_cell (set dix dif ty).mode ty) e.body
    read-astray dix dif Zero e c n = as-meant dix dif Zero e e.body refl (same-zero dix dif e.body) c n
    read-astray dix false One e c n =
        let p = loud-proper dix false One e c in
        sends dix false One (frame_of e.body (under_tag e (ref_tag there))) None (none-asked dix false e (ref_tag there) p (tag_below there) (λ _. refl)) ∙ stripped dix e p
    read-astray dix true One e c n =
        let p = loud-proper dix true One e c in
        let f = frame_of e.body (under_tag e (ref_tag there)) in
        sends dix true One f None (none-asked dix true e (ref_tag there) p (tag_below there) (λ _. refl))
        ∙ ap (λ z. answered dix true One (Ok (if z then data_of m.size f else f))) (field_set m protect)
        ∙ spoils m b protect mask owner dix true One f RefTag (adapter-tag m b protect mask owner e p (ref_tag there) (tag_below there) One refl refl (open-wire One e (crc e.body) there refl c.unescaped) n)
        ∙ sym (ap (λ v. expected (found_if v Target Read (Found Adapter Read)) e.body) (and-false (target_asks_tag (set dix true One).mode One)))
    read-astray dix dif Two e c n =
        let f = frame_of e.body (under_tag e (ref_tag there)) in
        as-meant dix dif Two e f refl (same-two dix dif f) c n
        ∙ sym (ap (λ v. expected (found_if v Target Read (found_if (adapter_asks_tag (set dix dif Two).mode Two) Adapter Read Unseen)) e.body) (and-true (target_asks_tag (set dix dif Two).mode Two)))
    read-astray dix dif Three e c n =
        let f = frame_of e.body (under_tag e e.own) in
        as-meant dix dif Three e f refl (same-three dix dif f) c n

    -- ---- a write

    -- what is stored of an entry: the tuple that travels is that of the address that was meant, the one that the target makes is that of the other
    abbrev pub lands : Bool → Bool → PiType → MapEntry → List ℕ
    lands dix dif ty k = stored_as (set dix dif ty) (if passes (set dix dif ty).mode ty then home else there) k

    abbrev pub sent : Bool → Bool → PiType → MapEntry → List ℕ
    sent dix dif ty k = wire (set dix dif ty) b k

    abbrev pub stores : Bool → Bool → PiType → List ℕ → (List ℕ → Comes) → Comes
    stores dix dif ty w next = write_end (at_device w (by_target (accepted (aimed dix dif ty) w))) next

    abbrev pub entry : Bool → Bool → PiType → MapEntry → MapEntry
    entry dix dif ty e = kept m b protect mask dix dif ty e

    -- where a tuple travels the target looks at it
    looks : (dix : Bool) (ty : PiType) (w : List ℕ) (x : Option Check) → field_for (set dix true ty).mode ty ≡ m.mode.protect → found_in (aimed dix true ty) w ≡ x → accepted (aimed dix true ty) w ≡ unless x w
    looks dix ty w x field h =
        ap (λ c. if c then Ok (with_own_tuple ty there w) else unless (found_in (aimed dix true ty) w) w) (ap (λ n. eqb n 0) field ∙ field_set m protect) ∙ ap (λ o. unless o w) h

    -- as under the address that was meant
    stores-meant : (dix : Bool) (ty : PiType) (w s : List ℕ) → field_for (set dix true ty).mode ty ≡ m.mode.protect → found_in (aimed dix true ty) w ≡ found_in (passage [] (road dix true ty)) w → to_medium [] (passage [] (road dix true ty)) w ≡ Ok s →
        accepted (aimed dix true ty) w ≡ Ok s
    stores-meant dix ty w s field same h =
        let p = passage [] (road dix true ty) in
        looks dix ty w _ field same
        ∙ sym (ap (λ c. if c then Ok (with_own_tuple ty p.lba w) else unless (found_in p w) w) (ap (λ n. eqb n 0) field ∙ field_set m protect))
        ∙ sym (onto_medium (road dix true ty) w) ∙ h

    pub write-astray : (dix dif : Bool) (ty : PiType) (e : MapEntry) (next : List ℕ → Comes) → IsProper m e → Unescaped ty e → ref_tag there ≢ ref_tag home →
        stores dix dif ty (sent dix dif ty (entry dix dif ty e)) next ≡ (if refused_astray (set dix dif ty).mode ty then Finds Target Write else next (lands dix dif ty (entry dix dif ty e)))
    write-astray false false Zero e next p u n = refl
    write-astray false false One e next p u n = refl
    write-astray false false Two e next p u n = refl
    write-astray false false Three e next p u n = refl
    write-astray true false Zero e next p u n = refl
    write-astray true false One e next p u n = refl
    write-astray true false Two e next p u n = refl
    write-astray true false Three e next p u n = refl
    write-astray dix true Zero e next p u n = refl
    write-astray dix true One e next p u n = by (eqb m.mode.protect 1) refl
      where
        by : (c : Bool) → eqb m.mode.protect 1 ≡ c →
            stores dix true One (sent dix true One (entry dix true One e)) next ≡ (if (c || (eqb m.mode.protect 0 && true)) && true then Finds Target Write else next (lands dix true One (entry dix true One e)))
        by true one =
            let k = entry dix true One e in
            let w = sent dix true One k in
            ap (λ x. write_end (at_device w (by_target x)) next)
            (looks dix One w (Some RefTag) refl
            (found-there dix true k (ref_tag home) (kept-proper m b protect mask dix true One e p) (tag_below home) (open-wire One k (crc k.body) home refl (kept-open m b protect mask dix true One e u)) (ap (λ v. v || (eqb m.mode.protect 0 && true)) one) (λ h. n (sym h))))
        by false one =
            let k = entry dix true One e in
            let w = sent dix true One k in
            let none : (eqb m.mode.protect 0 && true) ≡ false = ap (λ v. v && true) (field_set m protect) in
            ap (λ x. write_end (at_device w (by_target x)) next)
            (looks dix One w None refl
            (none-asked dix true k (ref_tag home) (kept-proper m b protect mask dix true One e p) (tag_below home) (λ a. absurd (false≢true (sym (ap (λ v. v || (eqb m.mode.protect 0 && true)) one ∙ none) ∙ a)))))
            ∙ sym (ap (λ v. if v && true then Finds Target Write else next (lands dix true One k)) none)
    write-astray dix true Two e next p u n =
        let k = entry dix true Two e in
        let w = sent dix true Two k in
        ap (λ x. write_end (at_device w (by_target x)) next) (stores-meant dix Two w _ refl (same-two dix true w) (clean-out m b protect mask dix true Two e p u).stores)
        ∙ sym (ap (λ v. if v then Finds Target Write else next (lands dix true Two k)) (and-false (target_asks_tag (set dix true Two).mode Two)))
    write-astray dix true Three e next p u n =
        let w = sent dix true Three (entry dix true Three e) in
        ap (λ x. write_end (at_device w (by_target x)) next) (stores-meant dix Three w _ refl (same-three dix true w) (clean-out m b protect mask dix true Three e p u).stores)
