-- One block on its way where nothing alters it, with any tuple: in every mode, for every type, and for escapes too.
use Rattle.std.proofs.Common.{◌≡◌, ◌<◌, ◌≤◌, ◌^◌, ℕ, ◌+◌, Bool, true, false, eqb, ◌&&◌, not, if◌then◌else◌, List, [], length, Option, Some, None, refl, sym, ap, subst, ◌∙◌, inl, inr, arith, length-append}
use Rattle.std.specs.Prelude.{Result, Ok, Err}
use Rattle.std.proofs.lemmas.Bool.{and_parts, false≢true, not-true}
use Rattle.std.proofs.lemmas.List.{length-take-le, take-take, take_all}
use Rattle.pi_guard.specs.Guards.{crc, guard_of}
use Rattle.pi_guard.specs.declared.GuardKind.{GuardKind}
use Rattle.pi_guard.specs.declared.GuardKind.TheVariants.{Crc, Ip}
use Rattle.pi_guard.proofs.GuardSizes.{guard_below}
use Rattle.pi_tuple.specs.Finds.{finding, has_ref_tag, is_escaped, is_zero, own_tag}
use Rattle.pi_tuple.specs.Tuples.{ref_tag}
use Rattle.pi_tuple.specs.declared.tuple.Tuple.{Tuple}
use Rattle.pi_tuple.specs.declared.checks.PiType.{PiType}
use Rattle.pi_tuple.specs.declared.checks.PiType.TheVariants.{One, Three, Two, Zero}
use Rattle.pi_tuple.specs.declared.checks.Check.{Check}
use Rattle.pi_tuple.proofs.TupleLaws.{tag_below, own_is}
use Rattle.fault_schedule.specs.declared.fault.Crossing.TheVariants.{AdapterToHost, AdapterToTarget, HostToAdapter, MediumToTarget, TargetToAdapter, TargetToMedium}
use Rattle.fault_schedule.proofs.Unaltered.{altered_none}
use Rattle.integrity_payload.specs.Payloads.{all_asked}
use Rattle.integrity_payload.specs.declared.payload.Owner.{Owner}
use Rattle.walk_laws.specs.Passed.{data_of, frame_of, stored_size, tuple_of, accepted, asked_of, found_in, from_medium, released, then_crossed, to_medium, unless, wanted_of, with_own_tuple, Route, Device, by_target, converted, host_type, is_crc, passage, passes_tuples, target, wire_lba, handed_on, operation, Delivers, adapter_finds_in, at_host, delivered_unless, from_device, from_wire, mapped_back, owner_finds, received, verified, way_in, Fails, Refuses, Stores, WayOut, adapter_finds_out, at_device, from_adapter, mapped_out, sent, to_wire, way_out, TheVariantsRead as Read, TheVariantsWrite2 as Write}
use Rattle.walk_laws.proofs.Passed.{never_zero}
use Rattle.walk_laws.specs.Past.{Brought, brought_by}
use Rattle.walk_laws.specs.PlainMap.{all_pass}
use Rattle.walk_laws.specs.Settings.{Block, Setting, route}
use Rattle.walk_laws.proofs.CalmWays.{quiet, unmasked, wire_same}
use Rattle.walk_laws.proofs.TupleFrames.{Small, data_is, tuple_is}
use Rattle.walk_laws.proofs.TagLaws.{mask_fits, field_set}
use Rattle.run_laws.proofs.Framed.{mapped_body, mapped_length, mapped_tuple, retag}
use Rattle.run_laws.proofs.Passing.{Converted, Kept, Passes, asks_all, conversion, found_none, host_same, passes, retagged, same_escape, still}

-- either it ends, by what is found, or it goes on
found_rule : {X : Type 0} (P : X → Type 0) (k : Result (List ℕ) Check → X) (o : Option Check) (frame : List ℕ) → ((c : Check) → o ≡ Some c → P (k (Err c))) → (o ≡ None → P (k (Ok frame))) → P (k (unless o frame))
found_rule P k None frame ends goes = goes refl
found_rule P k (Some c) frame ends goes = ends c refl

never_both : (o : Option Check) (c : Check) → o ≡ Some c → o ≡ None → ⊥
never_both o c p q = cc

crossed_none : (b : _) (at : _) (came : Result (List ℕ) Check) → then_crossed [] (Some b) at came ≡ came
crossed_none b at (Ok frame) = ap (λ f. Ok f) (altered_none at b frame)
crossed_none b at (Err check) = refl

module _ (m' : Setting) (b : Block) (protect : 0 < m'.mode.protect) where
  abbrev n : ℕ
  n = m'.size

  abbrev kind : GuardKind
  kind = m'.mode.kind

  abbrev q : Bool → Bool → PiType → Setting
  q dix dif ty = quiet m' dix dif ty

  abbrev here : ℕ
  here = (route m' b).lba

  -- the target finds nothing of what passes
  target_none : (dix dif : Bool) (ty : PiType) (x : List ℕ) → (is_zero ty ≡ false → Passes m' ty (crc (data_of n x)) here (tuple_of n x)) → found_in (passage [] (route (q dix dif ty) b)) x ≡ None
  unfolding found_in
  target_none dix dif Zero x h = refl
  target_none dix dif One x h =
      let p = passage [] (route (q dix dif One) b) in
      passes m' One (asked_of p) (wanted_of p) (crc (data_of n x)) here (tuple_of n x) (h refl) (mask_fits m' false (tuple_of n x).app) (λ _. ap ref_tag (sym (wire_same m' b protect dix dif One)))
  target_none dix dif Two x h =
      let p = passage [] (route (q dix dif Two) b) in
      passes m' Two (asked_of p) (wanted_of p) (crc (data_of n x)) here (tuple_of n x) (h refl) (mask_fits m' (eqb p.protect 1) (tuple_of n x).app) (λ _. refl)
  target_none dix dif Three x h =
      let p = passage [] (route (q dix dif Three) b) in
      passes m' Three (asked_of p) (wanted_of p) (crc (data_of n x)) here (tuple_of n x) (h refl) (mask_fits m' false (tuple_of n x).app) (λ k. absurd (false≢true k))

  onto_wire : (dix dif : Bool) (ty : PiType) (x : List ℕ) → to_wire [] (route (q dix dif ty) b) x ≡ unless (adapter_finds_out (route (q dix dif ty) b) x) (sent (route (q dix dif ty) b) x)
  unfolding to_wire
  onto_wire dix dif ty x = let r = route (q dix dif ty) b in ap (λ y. unless (adapter_finds_out r y) (sent r y)) (altered_none HostToAdapter r.label x)

  onto_medium : (dix dif : Bool) (ty : PiType) (x : List ℕ) → to_medium [] (passage [] (route (q dix dif ty) b)) x ≡ accepted (passage [] (route (q dix dif ty) b)) x
  unfolding to_medium
  onto_medium dix dif ty x =
      let r = route (q dix dif ty) b in
      crossed_none r.label TargetToMedium _ ∙ ap (accepted (passage [] r)) (altered_none AdapterToTarget r.label x)

  -- what the target does with a frame that passes, and with data alone
  stores_passing : (dix dif : Bool) (ty : PiType) (x : List ℕ) → passes_tuples (route (q dix dif ty) b) ≡ true → (is_zero ty ≡ false → Passes m' ty (crc (data_of n x)) here (tuple_of n x)) →
      at_device x ((target []).stores (route (q dix dif ty) b) x) ≡ Stores x x
  stores_passing dix dif ty x p h =
      let r = route (q dix dif ty) b in
      let other = with_own_tuple ty (wire_lba [] r) x in
      let o = found_in (passage [] r) x in
      ap (λ came. at_device x (by_target came))
      (onto_medium dix dif ty x
      ∙ ap (λ c. if eqb (if c then m'.mode.protect else 0) 0 then Ok other else unless o x) p
      ∙ ap (λ c. if c then Ok other else unless o x) (field_set m' protect)
      ∙ ap (λ o. unless o x) (target_none dix dif ty x h))

  stores_bare : (dix dif : Bool) (ty : PiType) (x : List ℕ) → passes_tuples (route (q dix dif ty) b) ≡ false → at_device x ((target []).stores (route (q dix dif ty) b) x) ≡ Stores x (with_own_tuple ty here x)
  stores_bare dix dif ty x p =
      let r = route (q dix dif ty) b in
      let o = found_in (passage [] r) x in
      ap (λ came. at_device x (by_target came))
      (onto_medium dix dif ty x
      ∙ ap (λ c. if eqb (if c then m'.mode.protect else 0) 0 then Ok (with_own_tuple ty (wire_lba [] r) x) else unless o x) p)
      ∙ ap (λ a. Stores x (with_own_tuple ty a x)) (wire_same m' b protect dix dif ty)

  -- data under a tuple that adapter or target made
  small : (ty : PiType) (x : List ℕ) → Small (record { guard = crc x; app = 0; rtag = own_tag ty here })
  small ty x = record { guard = guard_below Crc x; app = omega arith; rtag = by (has_ref_tag ty) } where
    by : (c : Bool) → (if c then ref_tag here else 0) < 2 ^ 32
    by true = tag_below here
    by false = omega arith

  under_made : (ty : PiType) (x : List ℕ) → length x ≡ n → m'.mode.mask ≡ 0 → let s = frame_of x (record { guard = crc x; app = 0; rtag = own_tag ty here }) in Passes m' ty (crc (data_of n s)) here (tuple_of n s)
  under_made ty x l free =
      let t : Tuple = record { guard = crc x; app = 0; rtag = own_tag ty here } in
      subst (λ u. Passes m' ty (crc (data_of n (frame_of x t))) here u) (sym (tuple_is n x t l (small ty x)))
      (inr (record { guard_is = ap crc (sym (data_is n x t l)); app_is = unmasked m' 0 free; rtag_is = λ h. own_is ty here h }))

  made : (dix dif : Bool) (ty : PiType) (x : List ℕ) (e : Brought) → length x ≡ n → m'.mode.mask ≡ 0 → x ≡ e.body → (all_pass (q dix dif ty) ≡ true → ⊥) → Kept m' dix dif ty here (with_own_tuple ty here x) e
  made dix dif Zero x e l free same none = record { size = l; passing = λ h. absurd (false≢true (sym h)); body = take_all n x (omega (arith, l)) ∙ same; app = λ h. absurd (none h) }
  made dix dif One x e l free same none =
      record { size = length-append x _ ∙ ap (λ k. k + 8) l; passing = λ h. under_made One x l free; body = data_is n x (record { guard = crc x; app = 0; rtag = own_tag One here }) l ∙ same; app = λ h. absurd (none h) }
  made dix dif Two x e l free same none =
      record { size = length-append x _ ∙ ap (λ k. k + 8) l; passing = λ h. under_made Two x l free; body = data_is n x (record { guard = crc x; app = 0; rtag = own_tag Two here }) l ∙ same; app = λ h. absurd (none h) }
  made dix dif Three x e l free same none =
      record { size = length-append x _ ∙ ap (λ k. k + 8) l; passing = λ h. under_made Three x l free; body = data_is n x (record { guard = crc x; app = 0; rtag = own_tag Three here }) l ∙ same; app = λ h. absurd (none h) }

  -- what a block of a write comes to: stored for what it brought, or something is found of it
  abbrev pub Goes : Type 0 → Bool → Bool → PiType → Brought → WayOut → Type 0
  Goes own dix dif ty e (Fails why) = own → ⊥
  Goes own dix dif ty e (Refuses why) = own → ⊥
  Goes own dix dif ty e (Stores carried stored) = Kept m' dix dif ty here stored e

  -- the tuple of a frame whose tag is mapped out
  abbrev pub out_tuple : PiType → List ℕ → Tuple
  out_tuple ty f = record { guard = (tuple_of n f).guard; app = (tuple_of n f).app; rtag = retag (host_type ty) b.virt here (tuple_of n f).rtag }

  adapter_is : (dif : Bool) (ty : PiType) (f : List ℕ) → length f ≡ n + 8 → let r = route (q true dif ty) b in
      adapter_finds_out r (mapped_out r f) ≡ finding (host_type ty) (all_asked m'.mode.app m'.mode.mask) (ref_tag here) (guard_of kind (data_of n f)) (out_tuple ty f)
  adapter_is dif ty f l =
      let y = mapped_out (route (q true dif ty) b) f in
      ap (λ d. finding (host_type ty) (all_asked m'.mode.app m'.mode.mask) (ref_tag here) (guard_of kind d) (tuple_of n y)) (mapped_body n f l (host_type ty) b.virt here)
      ∙ ap (λ u. finding (host_type ty) (all_asked m'.mode.app m'.mode.mask) (ref_tag here) (guard_of kind (data_of n f)) u) (mapped_tuple n f l (host_type ty) b.virt here)

  not_zero : (dif : Bool) (ty : PiType) → (dif && not (is_zero ty)) ≡ true → is_zero ty ≡ false
  not_zero dif ty h = not-true _ (and_parts dif (not (is_zero ty)) h).1

  stored_long : (ty : PiType) → is_zero ty ≡ false → n + 8 ≡ stored_size ty n
  stored_long Zero h = absurd (false≢true (sym h))
  stored_long One h = refl
  stored_long Two h = refl
  stored_long Three h = refl

  as_crc : (k : GuardKind) (x : List ℕ) → (if is_crc k then guard_of k x else crc x) ≡ crc x
  as_crc Crc x = refl
  as_crc Ip x = refl

  as_kind : (k : GuardKind) (x : List ℕ) → (if is_crc k then crc x else guard_of Ip x) ≡ guard_of k x
  as_kind Crc x = refl
  as_kind Ip x = refl

  -- the guard converted, it passes still
  converted_passes : (to : GuardKind) (ty : PiType) (old new a : ℕ) (x y : List ℕ) → Converted m' to x y → Passes m' ty old a (tuple_of n x) → (if is_crc kind then old else guard_of to (data_of n x)) ≡ new → Passes m' ty new a (tuple_of n y)
  converted_passes to ty old new a x y c (inl e) g =
      inl (ap (λ u. is_escaped ty u) c.tuple ∙ same_escape ty (if is_crc kind then (tuple_of n x).guard else guard_of to (data_of n x)) (tuple_of n x) ∙ e)
  converted_passes to ty old new a x y c (inr f) g = subst (Passes m' ty new a) (sym c.tuple)
      (inr (record { guard_is = ap (λ h. if is_crc kind then h else guard_of to (data_of n x)) f.guard_is ∙ g; app_is = f.app_is; rtag_is = f.rtag_is }))

  -- the adapter finds nothing of what passes
  fine : (dif : Bool) (ty : PiType) (f : List ℕ) → length f ≡ n + 8 → Passes m' (host_type ty) (guard_of kind (data_of n f)) here (out_tuple ty f) → let r = route (q true dif ty) b in adapter_finds_out r (mapped_out r f) ≡ None
  fine dif ty f l p =
      adapter_is dif ty f l
      ∙ passes m' (host_type ty) (all_asked m'.mode.app m'.mode.mask) (ref_tag here) (guard_of kind (data_of n f)) here (out_tuple ty f) p (asks_all m' (tuple_of n f).app) (λ _. refl)

  -- so it comes as far as the device
  pub sent_on : (device : Device) (dif : Bool) (ty : PiType) (f : List ℕ) → length f ≡ n + 8 → Passes m' (host_type ty) (guard_of kind (data_of n f)) here (out_tuple ty f) → let r = route (q true dif ty) b in
      let x = sent r (mapped_out r f) in way_out [] device r f ≡ at_device x (device.stores r x)
  sent_on device dif ty f l p =
      let r = route (q true dif ty) b in
      let y = mapped_out r f in
      ap (from_adapter device r) (onto_wire true dif ty y ∙ ap (λ o. unless o (sent r y)) (fine dif ty f l p))

  pub sent_bare : (device : Device) (dif : Bool) (ty : PiType) (f : List ℕ) → let r = route (q false dif ty) b in way_out [] device r f ≡ at_device (sent r f) (device.stores r (sent r f))
  sent_bare device dif ty f = let r = route (q false dif ty) b in ap (from_adapter device r) (onto_wire false dif ty f)

  -- out from a host with tuples
  pub out_with_tuple : (own : Type 0) (dif : Bool) (ty : PiType) (f : List ℕ) → length f ≡ n + 8 → (all_pass (q true dif ty) ≡ false → m'.mode.mask ≡ 0) →
      (own → Passes m' (host_type ty) (guard_of kind (data_of n f)) here (out_tuple ty f)) → Goes own true dif ty (brought_by n f) (way_out [] (target []) (route (q true dif ty) b) f)
  out_with_tuple own dif ty f l loose ok =
      subst (Goes own true dif ty e) (sym (ap (from_adapter (target []) r) (onto_wire true dif ty y)))
      (found_rule (Goes own true dif ty e) (from_adapter (target []) r) (adapter_finds_out r y) (sent r y)
      (λ c found o. never_both (adapter_finds_out r y) c found (fine dif ty f l (ok o)))
      (λ none. by (dif && not (is_zero ty)) refl (found_none m' (host_type ty) (guard_of kind (data_of n f)) here (out_tuple ty f) (never_zero ty) (sym (adapter_is dif ty f l) ∙ none))))
    where
      r : Route
      r = route (q true dif ty) b

      e : Brought
      e = brought_by n f

      y : List ℕ
      y = mapped_out (route (q true dif ty) b) f

      long : length y ≡ n + 8
      long = mapped_length n f l (host_type ty) b.virt here

      by : (c : Bool) → (dif && not (is_zero ty)) ≡ c → Passes m' (host_type ty) (guard_of kind (data_of n f)) here (out_tuple ty f) → Goes own true dif ty e (at_device (sent r y) ((target []).stores r (sent r y)))
      by true p h =
          let z = not_zero dif ty p in
          let c = conversion m' Crc y long in
          let x = converted r Crc y in
          let sent_is : sent r y ≡ x = ap (λ c. handed_on (operation true c Write) r y) p in
          let in_frame = subst (λ t. Passes m' t (guard_of kind (data_of n f)) here (out_tuple ty f)) (host_same ty z) h in
          let of_y = subst (Passes m' ty (guard_of kind (data_of n y)) here) (sym (mapped_tuple n f l (host_type ty) b.virt here)) (subst (λ d. Passes m' ty (guard_of kind d) here (out_tuple ty f)) (sym (mapped_body n f l (host_type ty) b.virt here)) in_frame) in
          let good = converted_passes Crc ty (guard_of kind (data_of n y)) (crc (data_of n x)) here y x c of_y (as_crc kind (data_of n y) ∙ ap crc (sym c.body)) in
          subst (Goes own true dif ty e) (sym (ap (λ w. at_device w ((target []).stores r w)) sent_is ∙ stores_passing true dif ty x p (λ _. good))) (record {
            size = c.size ∙ stored_long ty z;
            passing = λ _. good;
            body = c.body ∙ mapped_body n f l (host_type ty) b.virt here;
            app = λ _. ap (λ (t : Tuple). t.app) c.tuple ∙ ap (λ (t : Tuple). t.app) (mapped_tuple n f l (host_type ty) b.virt here);
          })
      by false p h =
          let x = data_of n y in
          let sent_is : sent r y ≡ x = ap (λ c. handed_on (operation true c Write) r y) p in
          let short = length-take-le n y (omega (arith, long)) in
          subst (Goes own true dif ty e) (sym (ap (λ w. at_device w ((target []).stores r w)) sent_is ∙ stores_bare true dif ty x p))
          (made true dif ty x e short (loose p) (mapped_body n f l (host_type ty) b.virt here) (λ k. false≢true (sym p ∙ k)))

  -- and from one without
  pub out_bare : (own : Type 0) (dif : Bool) (ty : PiType) (f : List ℕ) (app : ℕ) → length f ≡ n → m'.mode.mask ≡ 0 → Goes own false dif ty (record { body = f; app = app }) (way_out [] (target []) (route (q false dif ty) b) f)
  out_bare own dif ty f app l free = subst (Goes own false dif ty e) (sym (ap (from_adapter (target []) r) (onto_wire false dif ty f))) (by (dif && not (is_zero ty)) refl) where
    r : Route
    r = route (q false dif ty) b

    e : Brought
    e = record { body = f; app = app }

    kept : Kept m' false dif ty here (with_own_tuple ty here f) e
    kept = made false dif ty f e l free refl (λ k. false≢true k)

    by : (c : Bool) → (dif && not (is_zero ty)) ≡ c → Goes own false dif ty e (at_device (sent r f) ((target []).stores r (sent r f)))
    by true p =
        let x = with_own_tuple ty here f in
        let sent_is : sent r f ≡ x = ap (λ c. handed_on (operation false c Write) r f) p in
        subst (Goes own false dif ty e) (sym (ap (λ w. at_device w ((target []).stores r w)) sent_is ∙ stores_passing false dif ty x p kept.passing)) kept
    by false p =
        let sent_is : sent r f ≡ f = ap (λ c. handed_on (operation false c Write) r f) p in
        subst (Goes own false dif ty e) (sym (ap (λ w. at_device w ((target []).stores r w)) sent_is ∙ stores_bare false dif ty f p)) kept

  -- what a block of a read comes to: a frame of what was brought
  pub record Handed (dix dif : Bool) (ty : PiType) (owner : Owner) (x : List ℕ) (e : Brought) : Type 0 where
    pub carried : List ℕ
    pub frame : List ℕ
    pub way : way_in [] (target []) (route (q dix dif ty) b) owner x ≡ Delivers carried frame
    pub size : length frame ≡ (if dix then n + 8 else n)
    pub body : data_of n frame ≡ e.body
    pub app : all_pass (q dix dif ty) ≡ true → (tuple_of n frame).app ≡ e.app

  off_medium : (dix dif : Bool) (ty : PiType) (x : List ℕ) → from_medium [] (passage [] (route (q dix dif ty) b)) x ≡ released (passage [] (route (q dix dif ty) b)) x
  unfolding from_medium
  off_medium dix dif ty x =
      let r = route (q dix dif ty) b in
      crossed_none r.label TargetToAdapter _ ∙ ap (released (passage [] r)) (altered_none MediumToTarget r.label x)

  off_wire : (dix dif : Bool) (ty : PiType) (x : List ℕ) → from_wire [] (route (q dix dif ty) b) x ≡ unless (adapter_finds_in (route (q dix dif ty) b) x) (received (route (q dix dif ty) b) x)
  unfolding from_wire
  off_wire dix dif ty x = let r = route (q dix dif ty) b in crossed_none r.label AdapterToHost _

  -- from the medium to the host, where neither target nor adapter finds a thing
  comes : (dix dif : Bool) (ty : PiType) (owner : Owner) (x w f : List ℕ) → let r = route (q dix dif ty) b in
      released (passage [] r) x ≡ Ok w → adapter_finds_in r w ≡ None → received r w ≡ f → owner_finds r (mapped_back r f) ≡ None → way_in [] (target []) r owner x ≡ Delivers w (mapped_back r f)
  comes dix dif ty owner x w f out none is own =
      let r = route (q dix dif ty) b in
      ap (λ came. verified r owner (from_device [] r (by_target came))) (off_medium dix dif ty x ∙ out)
      ∙ ap (λ came. verified r owner (at_host w came)) (off_wire dix dif ty w ∙ ap (λ o. unless o (received r w)) none)
      ∙ ap (λ f. delivered_unless owner w (mapped_back r f) (owner_finds r (mapped_back r f))) is
      ∙ ap (λ o. delivered_unless owner w (mapped_back r f) o) own

  released_passing : (dix dif : Bool) (ty : PiType) (x : List ℕ) (e : Brought) → passes_tuples (route (q dix dif ty) b) ≡ true → Kept m' dix dif ty here x e → released (passage [] (route (q dix dif ty) b)) x ≡ Ok x
  released_passing dix dif ty x e p h =
      ap (λ c. unless (found_in (passage [] (route (q dix dif ty) b)) x) (if eqb (if c then m'.mode.protect else 0) 0 then data_of n x else x)) p
      ∙ ap (λ c. unless (found_in (passage [] (route (q dix dif ty) b)) x) (if c then data_of n x else x)) (field_set m' protect)
      ∙ ap (λ o. unless o x) (target_none dix dif ty x h.passing)

  released_bare : (dix dif : Bool) (ty : PiType) (x : List ℕ) (e : Brought) → passes_tuples (route (q dix dif ty) b) ≡ false → Kept m' dix dif ty here x e → released (passage [] (route (q dix dif ty) b)) x ≡ Ok (data_of n x)
  released_bare dix dif ty x e p h =
      ap (λ c. unless (found_in (passage [] (route (q dix dif ty) b)) x) (if eqb (if c then m'.mode.protect else 0) 0 then data_of n x else x)) p
      ∙ ap (λ o. unless o (data_of n x)) (target_none dix dif ty x h.passing)

  -- the adapter finds nothing of what passes
  adapter_none : (dix dif : Bool) (ty : PiType) (x : List ℕ) → (passes_tuples (route (q dix dif ty) b) ≡ true → Passes m' ty (crc (data_of n x)) here (tuple_of n x)) → adapter_finds_in (route (q dix dif ty) b) x ≡ None
  adapter_none dix dif ty x h = by (dif && not (is_zero ty)) h where
    by : (c : Bool) → (c ≡ true → Passes m' ty (crc (data_of n x)) here (tuple_of n x)) → (if c then finding ty (all_asked m'.mode.app m'.mode.mask) (ref_tag here) (crc (data_of n x)) (tuple_of n x) else None) ≡ None
    by true h = passes m' ty (all_asked m'.mode.app m'.mode.mask) (ref_tag here) (crc (data_of n x)) here (tuple_of n x) (h refl) (asks_all m' (tuple_of n x).app) (λ _. refl)
    by false h = refl

  -- A frame for the host that passes with the tag of its address is delivered, with its tag mapped back.
  owner_none : (dif : Bool) (ty : PiType) (f : List ℕ) → length f ≡ n + 8 → Passes m' (host_type ty) (guard_of kind (data_of n f)) here (tuple_of n f) → let r = route (q true dif ty) b in owner_finds r (mapped_back r f) ≡ None
  owner_none dif ty f l h =
      let y = mapped_back (route (q true dif ty) b) f in
      let body = mapped_body n f l (host_type ty) here b.virt in
      let tuple = mapped_tuple n f l (host_type ty) here b.virt in
      let u : Tuple = record { guard = (tuple_of n f).guard; app = (tuple_of n f).app; rtag = retag (host_type ty) here b.virt (tuple_of n f).rtag } in
      ap (λ d. finding (host_type ty) (all_asked m'.mode.app m'.mode.mask) (ref_tag b.virt) (guard_of kind d) (tuple_of n y)) body
      ∙ ap (λ t. finding (host_type ty) (all_asked m'.mode.app m'.mode.mask) (ref_tag b.virt) (guard_of kind (data_of n f)) t) tuple
      ∙ passes m' (host_type ty) (all_asked m'.mode.app m'.mode.mask) (ref_tag b.virt) (guard_of kind (data_of n f)) b.virt u (back h) (asks_all m' (tuple_of n f).app) (λ _. refl)
    where
      back : Passes m' (host_type ty) (guard_of kind (data_of n f)) here (tuple_of n f) →
          Passes m' (host_type ty) (guard_of kind (data_of n f)) b.virt (record { guard = (tuple_of n f).guard; app = (tuple_of n f).app; rtag = retag (host_type ty) here b.virt (tuple_of n f).rtag })
      back (inl e) = inl (still (host_type ty) here b.virt (tuple_of n f).guard (tuple_of n f) ∙ e)
      back (inr k) = inr (record {
        guard_is = k.guard_is;
        app_is = k.app_is;
        rtag_is = λ h. ap (retag (host_type ty) here b.virt) (k.rtag_is h) ∙ retagged (host_type ty) here b.virt h;
      })

  at_least : (ty : PiType) → n ≤ stored_size ty n
  at_least Zero = omega arith
  at_least One = omega arith
  at_least Two = omega arith
  at_least Three = omega arith

  front_size : (ty : PiType) (x : List ℕ) → length x ≡ stored_size ty n → length (data_of n x) ≡ n
  front_size ty x l = length-take-le n x (let k = at_least ty in omega (arith, l, k))

  -- in to a host with tuples
  in_with_tuple : (dif : Bool) (ty : PiType) (owner : Owner) (x : List ℕ) (e : Brought) → (all_pass (q true dif ty) ≡ false → m'.mode.mask ≡ 0) → Kept m' true dif ty here x e → Handed true dif ty owner x e
  in_with_tuple dif ty owner x e loose h = by (dif && not (is_zero ty)) refl where
    r : Route
    r = route (q true dif ty) b

    by : (c : Bool) → (dif && not (is_zero ty)) ≡ c → Handed true dif ty owner x e
    by true p =
        let z = not_zero dif ty p in
        let long = h.size ∙ sym (stored_long ty z) in
        let c = conversion m' Ip x long in
        let f = converted r Ip x in
        let mine = converted_passes Ip ty (crc (data_of n x)) (guard_of kind (data_of n f)) here x f c (h.passing z) (as_kind kind (data_of n x) ∙ ap (guard_of kind) (sym c.body)) in
        let host = subst (λ t. Passes m' t (guard_of kind (data_of n f)) here (tuple_of n f)) (sym (host_same ty z)) mine in
        record {
          carried = x;
          frame = mapped_back r f;
          way = comes true dif ty owner x x f (released_passing true dif ty x e p h) (adapter_none true dif ty x (λ _. h.passing z)) (ap (λ c. handed_on (operation true c Read) r x) p) (owner_none dif ty f c.size host);
          size = mapped_length n f c.size (host_type ty) here b.virt;
          body = mapped_body n f c.size (host_type ty) here b.virt ∙ c.body ∙ h.body;
          app = λ k. ap (λ (t : Tuple). t.app) (mapped_tuple n f c.size (host_type ty) here b.virt) ∙ ap (λ (t : Tuple). t.app) c.tuple ∙ h.app k;
        }
    by false p =
        let w = data_of n x in
        let t : Tuple = record { guard = guard_of kind w; app = 0; rtag = own_tag (host_type ty) here } in
        let f = frame_of w t in
        let short = front_size ty x h.size in
        let fits_in : Small t = record { guard = guard_below kind w; app = omega arith; rtag = own_below (has_ref_tag (host_type ty)) } in
        let size = length-append w _ ∙ ap (λ k. k + 8) short in
        let front = data_is n w t short in
        let good : Passes m' (host_type ty) (guard_of kind (data_of n f)) here (tuple_of n f) = subst (Passes m' (host_type ty) (guard_of kind (data_of n f)) here) (sym (tuple_is n w t short fits_in))
        (inr (record { guard_is = ap (guard_of kind) (sym front); app_is = unmasked m' 0 (loose p); rtag_is = λ h. own_is (host_type ty) here h })) in
        record {
          carried = w;
          frame = mapped_back r f;
          way = comes true dif ty owner x w f (released_bare true dif ty x e p h) (adapter_none true dif ty w (λ k. absurd (false≢true (sym p ∙ k)))) (ap (λ c. handed_on (operation true c Read) r w) p) (owner_none dif ty f size good);
          size = mapped_length n f size (host_type ty) here b.virt;
          body = mapped_body n f size (host_type ty) here b.virt ∙ front ∙ h.body;
          app = λ k. absurd (false≢true (sym p ∙ k));
        }
      where
        own_below : (c : Bool) → (if c then ref_tag here else 0) < 2 ^ 32
        own_below true = tag_below here
        own_below false = omega arith

  -- and to one without
  in_bare : (dif : Bool) (ty : PiType) (owner : Owner) (x : List ℕ) (e : Brought) → Kept m' false dif ty here x e → Handed false dif ty owner x e
  in_bare dif ty owner x e h = by (dif && not (is_zero ty)) refl where
    r : Route
    r = route (q false dif ty) b

    by : (c : Bool) → (dif && not (is_zero ty)) ≡ c → Handed false dif ty owner x e
    by true p =
        let z = not_zero dif ty p in
        record {
          carried = x;
          frame = data_of n x;
          way = comes false dif ty owner x x (data_of n x) (released_passing false dif ty x e p h) (adapter_none false dif ty x (λ _. h.passing z)) (ap (λ c. handed_on (operation false c Read) r x) p) refl;
          size = front_size ty x h.size;
          body = take-take n n x (omega arith) ∙ h.body;
          app = λ k. absurd (false≢true k);
        }
    by false p = record {
      carried = data_of n x;
      frame = data_of n x;
      way = comes false dif ty owner x (data_of n x) (data_of n x) (released_bare false dif ty x e p h) (adapter_none false dif ty (data_of n x) (λ k. absurd (false≢true (sym p ∙ k)))) (ap (λ c. handed_on (operation false c Read) r (data_of n x)) p) refl;
      size = front_size ty x h.size;
      body = take-take n n x (omega arith) ∙ h.body;
      app = λ k. absurd (false≢true k);
    }

  pub comes_in : (dix dif : Bool) (ty : PiType) (owner : Owner) (x : List ℕ) (e : Brought) → (all_pass (q dix dif ty) ≡ false → m'.mode.mask ≡ 0) → Kept m' dix dif ty here x e → Handed dix dif ty owner x e
  comes_in true dif ty owner x e loose h = in_with_tuple dif ty owner x e loose h
  comes_in false dif ty owner x e loose h = in_bare dif ty owner x e h
