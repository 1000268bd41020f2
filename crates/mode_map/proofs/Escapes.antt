-- A stored block whose tuple is an escape is delivered, whatever its guard.
use Rattle.std.proofs.Common.{◌≡◌, ◌<◌, ℕ, ◌^◌, Bool, true, false, ◌||◌, eqb, if◌then◌else◌, List, [], length, Option, None, refl, sym, ap, ◌∙◌, subst, arith}
use Rattle.std.specs.Prelude.{Ok}
use Rattle.std.proofs.lemmas.List.{take_all}
use Rattle.pi_guard.specs.Guards.{crc, guard_of}
use Rattle.pi_guard.specs.declared.GuardKind.{GuardKind}
use Rattle.pi_guard.specs.declared.GuardKind.TheVariants.{Crc, Ip}
use Rattle.pi_guard.proofs.GuardSizes.{guard_below}
use Rattle.pi_tuple.specs.Finds.{finding, is_escaped, is_zero}
use Rattle.pi_tuple.specs.Tuples.{ref_tag}
use Rattle.pi_tuple.specs.declared.tuple.Tuple.{Tuple}
use Rattle.pi_tuple.specs.declared.checks.PiType.{PiType}
use Rattle.pi_tuple.specs.declared.checks.PiType.TheVariants.{Zero, One, Two, Three}
use Rattle.pi_tuple.specs.declared.checks.Check.{Check}
use Rattle.pi_tuple.specs.declared.checks.Checks.{Checks}
use Rattle.pi_tuple.proofs.TupleLaws.{tag_below}
use Rattle.integrity_payload.specs.Payloads.{all_asked}
use Rattle.integrity_payload.specs.declared.payload.Owner.{Owner}
use Rattle.ref_remap.specs.Remapped.{remapped}
use Rattle.rig_api.specs.Frames.{data_of, frame_of, tuple_of}
use Rattle.rig_api.specs.Passing.{asked_of, found_in, unless, wanted_of}
use Rattle.block_path.specs.declared.route.Route.{Route}
use Rattle.block_path.specs.Routes.{by_target, field_for, host_type, is_crc, passage, with_guard}
use Rattle.block_path.specs.WayIn.{Delivers as Arrives, adapter_finds_in, at_host, delivered_unless, from_device, mapped_back, owner_finds, received, verified}
use Rattle.walk_laws.specs.Settings.{Block, Setting}
use Rattle.walk_laws.proofs.CalmWays.{here, new_guard, off_medium, off_wire, quiet, unmasked}
use Rattle.walk_laws.proofs.TagLaws.{field_set}
use Rattle.walk_laws.proofs.TupleFrames.{Small, data_is, finds_in_frame, mapped_is}
use Rattle.block_path.proofs.Cells.{AllBelow}
use Rattle.mode_map.specs.Failures.{Delivers, read_comes, read_end}
use Rattle.mode_map.proofs.Finding.{way}
use Rattle.mode_map.proofs.Reading.{strips}
use Rattle.mode_map.proofs.Stages.{guard-mapped, rtag-mapped}

skips : (zero escaped : Bool) (rest : Option Check) → escaped ≡ true → (if zero || escaped then None else rest) ≡ None
skips true escaped rest h = refl
skips false escaped rest h = ap (λ c. if c then None else rest) h

-- mapping a tag leaves an escape of types 1 and 2 one, and type 3 maps none
app-mapped : (c : Bool) (t : Tuple) (n : ℕ) → eqb t.app 0xFFFF ≡ true → eqb (if c then record { guard = t.guard; app = t.app; rtag = n } else t).app 0xFFFF ≡ true
app-mapped true t n h = h
app-mapped false t n h = h

mapped-escape : (ty : PiType) (from to : ℕ) (t : Tuple) → is_escaped ty t ≡ true → is_escaped ty (remapped ty from to t) ≡ true
mapped-escape Zero from to t h = h
mapped-escape One from to t h = app-mapped (eqb t.rtag (ref_tag from)) t (ref_tag to) h
mapped-escape Two from to t h = app-mapped (eqb t.rtag (ref_tag from)) t (ref_tag to) h
mapped-escape Three from to t h = h

-- the guard makes none
reguarded : (ty : PiType) (t : Tuple) (g : ℕ) → is_escaped ty t ≡ true → is_escaped ty (record { guard = g; app = t.app; rtag = t.rtag }) ≡ true
reguarded Zero t g h = h
reguarded One t g h = h
reguarded Two t g h = h
reguarded Three t g h = h

module _ (m : Setting) (b : Block) (protect : 0 < m.mode.protect) (mask : m.mode.mask ≡ 0) (owner : Owner) where
  abbrev set : Bool → Bool → PiType → Setting
  set dix dif ty = quiet m dix dif ty

  abbrev road : Bool → Bool → PiType → Route
  road dix dif ty = way m b protect mask dix dif ty

  module _ (body : List ℕ) (l : length body ≡ m.size) where
    none-found : (kind : GuardKind) (ty : PiType) (what : Checks) (want : ℕ) (t : Tuple) → Small t → is_escaped ty t ≡ true →
        finding ty what want (guard_of kind (data_of m.size (frame_of body t))) (tuple_of m.size (frame_of body t)) ≡ None
    none-found kind ty what want t s h = finds_in_frame m.size body t l s kind ty what want ∙ skips (is_zero ty) (is_escaped ty t) _ h

    -- the owner's check of the frame that reaches the host
    owned : (dif : Bool) (ty : PiType) (w : List ℕ) (t : Tuple) → Small t → is_escaped (host_type ty) t ≡ true → read_end (set true dif ty) (verified (road true dif ty) owner (Arrives w (frame_of body t))) ≡ Delivers body
    owned dif ty w t s h =
        let r = road true dif ty in
        let u = remapped (host_type ty) (here m b protect) b.virt t in
        let g = guard-mapped (host_type ty) (here m b protect) b.virt t in
        let su : Small u = record { guard = subst (λ n. n < 2 ^ 16) (sym g.0) s.guard; app = subst (λ n. n < 2 ^ 16) (sym g.1) s.app; rtag = rtag-mapped (host_type ty) (here m b protect) b.virt t (tag_below b.virt) s.rtag } in
        let mapped : mapped_back r (frame_of body t) ≡ frame_of body u = mapped_is m.size body t l s (host_type ty) (here m b protect) b.virt in
        let none : owner_finds r (frame_of body u) ≡ None = none-found m.mode.kind (host_type ty) (all_asked m.mode.app m.mode.mask) (ref_tag b.virt) u su (mapped-escape (host_type ty) (here m b protect) b.virt t h) in
        ap (λ f. read_end (set true dif ty) (delivered_unless owner w f (owner_finds r f))) mapped
        ∙ ap (λ o. read_end (set true dif ty) (delivered_unless owner w (frame_of body u) o)) none
        ∙ ap Delivers (data_is m.size body u l)

    module _ (t : Tuple) (s : Small t) where
      abbrev frame : List ℕ
      frame = frame_of body t

      -- what the adapter hands on of it: in a host that has another guard, with that
      abbrev Hosted : List ℕ → Type 0
      Hosted f = (g : ℕ) × (g < 2 ^ 16) × (f ≡ frame_of body (record { guard = g; app = t.app; rtag = t.rtag }))

      hosted : (c : Bool) → Hosted (if c then frame else with_guard m.size (guard_of Ip (data_of m.size frame)) frame)
      hosted true = (t.guard, s.guard, refl)
      hosted false = let g = guard_of Ip (data_of m.size frame) in (g, guard_below Ip (data_of m.size frame), new_guard m.size g body t l)

      target-none : (dix dif : Bool) (ty : PiType) → is_escaped ty t ≡ true → found_in (passage [] (road dix dif ty)) frame ≡ None
      unfolding found_in
      target-none dix dif ty h = let x = passage [] (road dix dif ty) in none-found Crc ty (asked_of x) (wanted_of x) t s h

      -- on the wire
      comes : (dix : Bool) (ty : PiType) → field_for (set dix true ty).mode ty ≡ m.mode.protect → is_escaped ty t ≡ true → adapter_finds_in (road dix true ty) frame ≡ None →
          read_comes (set dix true ty) b owner [] frame ≡ read_end (set dix true ty) (verified (road dix true ty) owner (Arrives frame (received (road dix true ty) frame)))
      comes dix ty field h none =
          let r = road dix true ty in
          let x = passage [] r in
          ap (λ v. read_end (set dix true ty) (verified r owner (from_device [] r (by_target v))))
          (off_medium r frame ∙ ap (λ o. unless o (if eqb x.protect 0 then data_of m.size frame else frame)) (target-none dix true ty h)
          ∙ ap (λ z. Ok (if z then data_of m.size frame else frame)) (ap (λ n. eqb n 0) field ∙ field_set m protect))
          ∙ ap (λ v. read_end (set dix true ty) (verified r owner (at_host frame v))) (off_wire r frame ∙ ap (λ o. unless o (received r frame)) none)

      at-adapter : (ty : PiType) → is_escaped ty t ≡ true → finding ty (all_asked m.mode.app m.mode.mask) (ref_tag (here m b protect)) (crc (data_of m.size frame)) (tuple_of m.size frame) ≡ None
      at-adapter ty h = none-found Crc ty (all_asked m.mode.app m.mode.mask) (ref_tag (here m b protect)) t s h

      twice : data_of m.size (data_of m.size frame) ≡ body
      twice = ap (data_of m.size) (data_is m.size body t l) ∙ take_all m.size body (omega (arith, l))

      brought : (ty : PiType) → is_escaped (host_type ty) t ≡ true →
          read_end (set true true ty) (verified (road true true ty) owner (Arrives frame (if is_crc m.mode.kind then frame else with_guard m.size (guard_of Ip (data_of m.size frame)) frame))) ≡ Delivers body
      brought ty h =
          let k = hosted (is_crc m.mode.kind) in
          ap (λ f. read_end (set true true ty) (verified (road true true ty) owner (Arrives frame f))) k.2
          ∙ owned true ty frame (record { guard = k.0; app = t.app; rtag = t.rtag }) (record { guard = k.1; app = s.app; rtag = s.rtag }) (reguarded (host_type ty) t k.0 h)

      pub delivers-escape : (dix dif : Bool) (ty : PiType) → AllBelow 256 body → is_escaped ty t ≡ true → read_comes (set dix dif ty) b owner [] frame ≡ Delivers body
      delivers-escape dix false ty bytes h =
          strips m b protect mask owner dix ty frame (record { body = body; app = 0; own = 0 }) (record { size = l; bytes = bytes; app = omega arith; own = omega arith; expected = unmasked m 0 mask })
          (data_is m.size body t l) (target-none dix false ty h)
      delivers-escape dix true Zero bytes h = absurd (cc)
      delivers-escape false true One bytes h = comes false One refl h (at-adapter One h) ∙ ap Delivers twice
      delivers-escape false true Two bytes h = comes false Two refl h (at-adapter Two h) ∙ ap Delivers twice
      delivers-escape false true Three bytes h = comes false Three refl h (at-adapter Three h) ∙ ap Delivers twice
      delivers-escape true true One bytes h = comes true One refl h (at-adapter One h) ∙ brought One h
      delivers-escape true true Two bytes h = comes true Two refl h (at-adapter Two h) ∙ brought Two h
      delivers-escape true true Three bytes h = comes true Three refl h (at-adapter Three h) ∙ brought Three h
