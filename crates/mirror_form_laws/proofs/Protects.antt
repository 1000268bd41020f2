-- Without faults, in type 1 with tuples passed, a block goes its way under any protect field as it does under 001b: what the adapter passes, and what stands on the medium, no target refuses.
use Rattle.std.proofs.Common.{◌≡◌, ℕ, ◌+◌, Bool, true, false, eqb, ◌&&◌, not, if◌then◌else◌, List, [], ◌∷◌, length, Option, Some, None, refl, sym, ap, subst, ◌∙◌}
use Rattle.std.specs.Prelude.{pos, Result, Ok, Err}
use Rattle.std.proofs.lemmas.Bool.{and_parts}
use Rattle.pi_guard.specs.Guards.{crc, guard_of}
use Rattle.pi_guard.specs.declared.GuardKind.{GuardKind}
use Rattle.pi_guard.specs.declared.GuardKind.TheVariants.{Crc, Ip}
use Rattle.pi_guard.proofs.GuardSizes.{guard_below}
use Rattle.pi_tuple.specs.Finds.{finding, first_of, is_escaped}
use Rattle.pi_tuple.specs.Tuples.{ref_tag}
use Rattle.pi_tuple.specs.declared.tuple.Tuple.{Tuple}
use Rattle.pi_tuple.specs.declared.checks.Check.{Check}
use Rattle.pi_tuple.specs.declared.checks.Check.TheVariants.{AppTag, Guard, RefTag}
use Rattle.pi_tuple.specs.declared.checks.PiType.TheVariants.{One}
use Rattle.fault_schedule.specs.Altered.{altered}
use Rattle.fault_schedule.specs.declared.fault.Crossing.TheVariants.{AdapterToTarget, HostToAdapter, MediumToTarget, TargetToAdapter, TargetToMedium}
use Rattle.fault_schedule.proofs.Unaltered.{altered_none}
use Rattle.integrity_payload.specs.Payloads.{all_asked}
use Rattle.integrity_payload.specs.declared.payload.Owner.{Owner}
use Rattle.rig_api.specs.Frames.{data_of, tuple_of}
use Rattle.rig_api.specs.Passing.{accepted, found_in, from_medium, released, then_crossed, to_medium, unless}
use Rattle.block_path.specs.Routes.{by_target, is_crc, moved, passage, target, with_guard}
use Rattle.bio_core.specs.declared.fate.Why.TheVariants.{Adapter}
use Rattle.block_path.specs.WayIn.{Delivers, Spoils, Stops, WayIn, at_host, from_device, from_wire, verified, way_in}
use Rattle.block_path.proofs.Sizes.{altered_length}
use Rattle.block_path.specs.WayOut.{Fails, Refuses, Stores, WayOut, adapter_finds_out, at_device, from_adapter, mapped_out, sent, to_wire, way_out}
use Rattle.walk_laws.specs.Settings.{Block, Setting, route}
use Rattle.run_laws.proofs.Found.{bears_both, expected, from_both, passed, passes_if, unmasked}
use Rattle.run_laws.proofs.Framed.{guarded, mapped_length}
use Rattle.run_laws.proofs.Layers.{unmoved}

-- a setting of type 1 with tuples passed, without faults, over a target, under this protect field
abbrev pub still : Setting → (protect : ℕ) → Setting
still m protect = record m {
  mode = record m.mode { dix = true; dif = true; protect = protect };
  ty = One;
  site = record m.site { faults = []; device = target [] };
}

-- fewer checks find nothing where all find nothing
fewer : (s g a r x y : Bool) → (if s then None else first_of (record { check = Guard; differs = true && g } ∷ record { check = AppTag; differs = a } ∷ record { check = RefTag; differs = true && (true && r) } ∷ [])) ≡ None
    → (if s then None else first_of (record { check = Guard; differs = x && g } ∷ record { check = AppTag; differs = a } ∷ record { check = RefTag; differs = y && (true && r) } ∷ [])) ≡ None
fewer true g a r x y h = refl
fewer false true a r x y h = absurd cc
fewer false false true r x y h = absurd cc
fewer false false false true x y h = absurd cc
fewer false false false false true true h = refl
fewer false false false false true false h = refl
fewer false false false false false true h = refl
fewer false false false false false false h = refl

module _ (m' : Setting) where
  abbrev n : ℕ
  n = m'.size

  abbrev lba : Block → ℕ
  lba b = (route m' b).lba

  -- a frame of full size that a target's checks pass at this address
  pub record Passes (at : ℕ) (x : List ℕ) : Type 0 where
    pub size : length x ≡ n + 8
    pub none : finding One (all_asked m'.mode.app 0) (ref_tag at) (crc (data_of n x)) (tuple_of n x) ≡ None

  -- under the protect field `p`
  module _ (p : ℕ) (some : eqb p 0 ≡ false) where
    finds-none : (b : Block) (x : List ℕ) → Passes (lba b) x → found_in (passage [] (route (still m' p) b)) x ≡ None
    unfolding found_in
    finds-none b x h =
        let e : moved (lba b) (pos 0) ≡ lba b = unmoved m' (lba b) (pos 0) refl in
        let k = subst (λ a. finding One (all_asked m'.mode.app 0) (ref_tag a) (crc (data_of n x)) (tuple_of n x) ≡ None) (sym e) h.none in
        fewer (is_escaped One (tuple_of n x)) _ _ _ (not (eqb p 3)) _ k

    takes : (b : Block) (x : List ℕ) → Passes (lba b) x → accepted (passage [] (route (still m' p) b)) x ≡ Ok x
    takes b x h = rw (some, finds-none b x h) refl

    gives : (b : Block) (x : List ℕ) → Passes (lba b) x → released (passage [] (route (still m' p) b)) x ≡ Ok x
    gives b x h = rw (finds-none b x h, some) refl

    crossed-same : (b : Block) (o : Result (List ℕ) Check) (x : List ℕ) → o ≡ Ok x → then_crossed [] (Some (route m' b).label) TargetToMedium o ≡ Ok x
    crossed-same b o x e = ap (λ (c : Result (List ℕ) Check). then_crossed [] (Some (route m' b).label) TargetToMedium c) e ∙ ap (λ (y : List ℕ). Ok y) (altered_none TargetToMedium (route m' b).label x)

    crossed-back : (b : Block) (o : Result (List ℕ) Check) (x : List ℕ) → o ≡ Ok x → then_crossed [] (Some (route m' b).label) TargetToAdapter o ≡ Ok x
    crossed-back b o x e = ap (λ (c : Result (List ℕ) Check). then_crossed [] (Some (route m' b).label) TargetToAdapter c) e ∙ ap (λ (y : List ℕ). Ok y) (altered_none TargetToAdapter (route m' b).label x)

    pub stored-same : (b : Block) (x : List ℕ) → Passes (lba b) x → to_medium [] (passage [] (route (still m' p) b)) x ≡ Ok x
    unfolding to_medium
    stored-same b x h =
        crossed-same b (accepted (passage [] (route (still m' p) b)) (altered [] AdapterToTarget (route m' b).label x)) x
        (ap (accepted (passage [] (route (still m' p) b))) (altered_none AdapterToTarget (route m' b).label x) ∙ takes b x h)

    pub sent-same : (b : Block) (x : List ℕ) → Passes (lba b) x → from_medium [] (passage [] (route (still m' p) b)) x ≡ Ok x
    unfolding from_medium
    sent-same b x h =
        crossed-back b (released (passage [] (route (still m' p) b)) (altered [] MediumToTarget (route m' b).label x)) x
        (ap (released (passage [] (route (still m' p) b))) (altered_none MediumToTarget (route m' b).label x) ∙ gives b x h)

  -- ---- what the adapter sends passes

  skipped : (app want guard : ℕ) (t : Tuple) → is_escaped One t ≡ true → finding One (all_asked app 0) want guard t ≡ None
  skipped app want guard t e = rw e refl

  under-crc : (want : ℕ) (x : List ℕ) (t : Tuple) → (is_escaped One t ≡ false → (t.guard ≡ crc (data_of n x)) × (t.rtag ≡ want)) → finding One (all_asked m'.mode.app 0) want (crc (data_of n x)) t ≡ None
  under-crc want x t h = by (is_escaped One t) refl where
    by : (c : Bool) → is_escaped One t ≡ c → finding One (all_asked m'.mode.app 0) want (crc (data_of n x)) t ≡ None
    by true q = skipped m'.mode.app want (crc (data_of n x)) t q
    by false q = let k = h q in passes_if m'.mode.app 0 want (crc (data_of n x)) t (from_both t (crc (data_of n x)) want (record { guard = k.0; rtag = k.1 })) (unmasked m'.mode.app t)

  record Bears (b : Block) (x : List ℕ) : Type 0 where
    guard : (tuple_of n x).guard ≡ guard_of m'.mode.kind (data_of n x)
    rtag : (tuple_of n x).rtag ≡ ref_tag (lba b)

  passed-adapter : (b : Block) (x : List ℕ) → adapter_finds_out (route (still m' 1) b) x ≡ None → is_escaped One (tuple_of n x) ≡ false → Bears b x
  passed-adapter b x none e =
      let t = tuple_of n x in
      let q = and_parts _ (expected m'.mode.app m'.mode.mask t) (passed m'.mode.app m'.mode.mask (ref_tag (lba b)) (guard_of m'.mode.kind (data_of n x)) t e none) in
      let k = bears_both t (guard_of m'.mode.kind (data_of n x)) (ref_tag (lba b)) q.0 in
      record { guard = k.guard; rtag = k.rtag }

  passes-sent : (b : Block) (x : List ℕ) → length x ≡ n + 8 → adapter_finds_out (route (still m' 1) b) x ≡ None → Passes (lba b) (sent (route (still m' 1) b) x)
  passes-sent b x l none = by m'.mode.kind (λ e. let k = passed-adapter b x none e in (k.guard, k.rtag)) where
    by : (k : GuardKind) → (is_escaped One (tuple_of n x) ≡ false → ((tuple_of n x).guard ≡ guard_of k (data_of n x)) × ((tuple_of n x).rtag ≡ ref_tag (lba b))) → Passes (lba b) (if is_crc k then x else with_guard n (guard_of Crc (data_of n x)) x)
    by Crc h = record { size = l; none = under-crc (ref_tag (lba b)) x (tuple_of n x) h }
    by Ip h =
        let u = guarded n x l (crc (data_of n x)) (guard_below Crc (data_of n x)) (tuple_of n x).rtag refl in
        let y = with_guard n (crc (data_of n x)) x in
        record {
          size = u.size;
          none = under-crc (ref_tag (lba b)) y (tuple_of n y) (λ q. (
            ap (λ (t : Tuple). t.guard) u.tuple ∙ ap crc (sym u.body),
            ap (λ (t : Tuple). t.rtag) u.tuple ∙ (h (sym (ap (λ (t : Tuple). is_escaped One t) u.tuple) ∙ q)).1,
          ));
        }

  -- ---- a block's ways

  abbrev pub Kept : Block → WayOut → Type 0
  Kept b (Fails why) = Unit {0}
  Kept b (Refuses why) = Unit {0}
  Kept b (Stores carried stored) = Passes (lba b) stored

  -- what arrives at the adapter, and what comes of it
  abbrev arrived : Block → List ℕ → List ℕ
  arrived b f = altered [] HostToAdapter (route m' b).label (mapped_out (route (still m' 1) b) f)

  abbrev ended : Result (List ℕ) Check → WayOut
  ended (Ok y) = Stores y y
  ended (Err c) = Fails (Adapter c)

  abbrev pub calm_out : Block → List ℕ → WayOut
  calm_out b f = ended (unless (adapter_finds_out (route (still m' 1) b) (arrived b f)) (sent (route (still m' 1) b) (arrived b f)))

  arrived-long : (b : Block) (f : List ℕ) → length f ≡ n + 8 → length (arrived b f) ≡ n + 8
  arrived-long b f l = altered_length [] HostToAdapter (route m' b).label (mapped_out (route (still m' 1) b) f) ∙ mapped_length n f l One b.virt (lba b)

  pub kept-out : (b : Block) (f : List ℕ) → length f ≡ n + 8 → Kept b (calm_out b f)
  kept-out b f l = by (adapter_finds_out (route (still m' 1) b) (arrived b f)) refl where
    by : (o : Option Check) → adapter_finds_out (route (still m' 1) b) (arrived b f) ≡ o → Kept b (ended (unless o (sent (route (still m' 1) b) (arrived b f))))
    by None e = passes-sent b (arrived b f) (arrived-long b f l) e
    by (Some c) e = tt

  module _ (p : ℕ) (some : eqb p 0 ≡ false) where
    pub goes-out : (b : Block) (f : List ℕ) → length f ≡ n + 8 → way_out [] (target []) (route (still m' p) b) f ≡ calm_out b f
    unfolding to_wire
    goes-out b f l = by (adapter_finds_out (route (still m' 1) b) (arrived b f)) refl where
      by : (o : Option Check) → adapter_finds_out (route (still m' 1) b) (arrived b f) ≡ o
          → from_adapter (target []) (route (still m' p) b) (unless o (sent (route (still m' 1) b) (arrived b f))) ≡ ended (unless o (sent (route (still m' 1) b) (arrived b f)))
      by None e =
          let y = sent (route (still m' 1) b) (arrived b f) in
          ap (λ (came : Result (List ℕ) Check). at_device y (by_target came)) (stored-same p some b y (passes-sent b (arrived b f) (arrived-long b f l) e))
      by (Some c) e = refl

    verified-same : (b : Block) (owner : Owner) (w : WayIn) → verified (route (still m' p) b) owner w ≡ verified (route (still m' 1) b) owner w
    verified-same b owner (Stops why) = refl
    verified-same b owner (Spoils why carried) = refl
    verified-same b owner (Delivers carried frame) = refl

    wire-same : (b : Block) (x : List ℕ) → from_wire [] (route (still m' p) b) x ≡ from_wire [] (route (still m' 1) b) x
    unfolding from_wire
    wire-same b x = refl

    pub comes-in : (b : Block) (owner : Owner) (x : List ℕ) → Passes (lba b) x → way_in [] (target []) (route (still m' p) b) owner x ≡ way_in [] (target []) (route (still m' 1) b) owner x
    comes-in b owner x h =
        ap (λ (came : Result (List ℕ) Check). verified (route (still m' p) b) owner (from_device [] (route (still m' p) b) (by_target came))) (sent-same p some b x h)
        ∙ verified-same b owner (at_host x (from_wire [] (route (still m' p) b) x))
        ∙ ap (λ (came : Result (List ℕ) Check). verified (route (still m' 1) b) owner (at_host x came)) (wire-same b x)
        ∙ ap (λ (came : Result (List ℕ) Check). verified (route (still m' 1) b) owner (from_device [] (route (still m' 1) b) (by_target came))) (sym (sent-same 1 refl b x h))
