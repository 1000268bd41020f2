-- What becomes of a block of which one byte of data or guard is flipped: it ends at the first check behind, by its guard, or is stored with another guard than that of its data.
use Rattle.std.proofs.Common.{◌≡◌, ℕ, ◌%◌, true, false, eqb, List, [], ◌∷◌, ◌++◌, drop, Option, Some, None, refl, ap, ◌∙◌}
use Rattle.std.specs.Prelude.{All}
use Rattle.std.proofs.lemmas.List.Elements.{All-nil}
use Rattle.std.proofs.lemmas.Bool.{and_parts}
use Rattle.pi_guard.specs.Guards.{crc, guard_of}
use Rattle.pi_guard.specs.declared.GuardKind.{GuardKind}
use Rattle.pi_guard.specs.declared.GuardKind.TheVariants.{Crc}
use Rattle.pi_tuple.specs.Finds.{finding, is_escaped}
use Rattle.pi_tuple.specs.Tuples.{ref_tag}
use Rattle.pi_tuple.specs.declared.checks.Check.{Check}
use Rattle.pi_tuple.specs.declared.checks.Check.TheVariants.{Guard}
use Rattle.pi_tuple.specs.declared.checks.PiType.TheVariants.{One}
use Rattle.pi_tuple.specs.declared.tuple.Tuple.{Tuple}
use Rattle.fault_schedule.specs.Altered.{is_same, named}
use Rattle.fault_schedule.specs.declared.fault.Crossing.{Crossing}
use Rattle.fault_schedule.specs.declared.fault.Crossing.TheVariants.{AdapterToHost, AdapterToTarget, HostToAdapter, MediumToTarget, TargetToAdapter, TargetToMedium}
use Rattle.fault_schedule.specs.declared.fault.FaultLine.{FaultLine}
use Rattle.integrity_payload.specs.Payloads.{all_asked}
use Rattle.integrity_payload.specs.declared.payload.Owner.{Owner}
use Rattle.bio_core.specs.declared.fate.Why.{Why}
use Rattle.bio_core.specs.declared.fate.Why.TheVariants.{Adapter, Target}
use Rattle.ref_remap.specs.Remapped.{remapped_bytes}
use Rattle.rig_api.specs.Frames.{data_of, tuple_of}
use Rattle.block_path.specs.WayIn.{Delivers, Spoils, Stops, WayIn, adapter_finds_in, mapped_back, owner_finds, received, way_in}
use Rattle.block_path.specs.WayOut.{Fails, Refuses, Stores, WayOut, adapter_finds_out, mapped_out, sent, way_out}
use Rattle.volume_table.specs.Places.{place_in}
use Rattle.walk_laws.specs.Detectable.{bears, crossed}
use Rattle.walk_laws.specs.Settings.{Block, Setting, route}
use Rattle.run_laws.proofs.Found.{expected, passed, passes_if, unmasked}
use Rattle.run_laws.proofs.Framed.{mapped_body, mapped_tuple}
use Rattle.run_premises.specs.FormedRun.{IsOfBytes}
use Rattle.run_premises.proofs.Ways.{Fine, mapped_fine, received_fine, received_right, sent_fine}
use Rattle.lab_laws.proofs.Flipped.{IsOne, IsSeenFlip, IsWrong, Right, Whole, guard_found, guard_right}
use Rattle.lab_laws.proofs.Ways.{comes_in, goes_out, in_by, in_of, out_by, out_of, target_finds}
use Rattle.lab_laws.proofs.OneLine.{IsOwn, elsewhere, m0, m1, none_shifted, one, one_line, one_shifted}

abbrev pub out_why : WayOut → Option Why
out_why (Fails why) = Some why
out_why (Refuses why) = Some why
out_why (Stores carried stored) = None

abbrev pub in_why : WayIn → Option Why
in_why (Stops why) = Some why
in_why (Spoils why carried) = Some why
in_why (Delivers carried frame) = None

pub both_passed : (o p : Option Check) (y z : List ℕ) → out_why (out_of o p y z) ≡ None → (o ≡ None) × (p ≡ None)
both_passed (Some c) p y z e = absurd (cc)
both_passed None (Some c) y z e = absurd (cc)
both_passed None None y z e = (refl, refl)

pub all_passed : (owner : Owner) (o p q : Option Check) (z f : List ℕ) → in_why (in_of owner o p q z f) ≡ None → (o ≡ None) × (p ≡ None) × (q ≡ None)
all_passed owner (Some c) p q z f e = absurd (cc)
all_passed owner None (Some c) q z f e = absurd (cc)
all_passed owner None None (Some c) z f e = absurd (cc)
all_passed owner None None None z f e = (refl, refl, refl)

-- ---- frames of a setting without lines

module _ (m' : Setting) (even : m'.size % 2 ≡ 0) where
  abbrev bare : Setting
  bare = record m' { site = record m'.site { faults = [] } }

  abbrev n : ℕ
  n = m'.size

  abbrev kind : GuardKind
  kind = m'.mode.kind

  abbrev plain : Setting
  plain = m0 m' TargetToMedium 0 0 0 0

  pub no_bytes : All (λ (line : FaultLine). IsOfBytes line.kind) []
  no_bytes = All-nil (λ (line : FaultLine). IsOfBytes line.kind)

  abbrev IsFine : List ℕ → Type 0
  IsFine x = Fine bare [] even no_bytes refl x

  pub to_fine : (x : List ℕ) → Whole n x → IsFine x
  to_fine x h = record { size = h.size; bytes = h.bytes; escape = h.escape }

  pub from_fine : (x : List ℕ) → IsFine x → Whole n x
  from_fine x h = record { size = h.size; bytes = h.bytes; escape = h.escape }

  pub mapped_whole : (b : Block) (x : List ℕ) → Whole n x → Whole n (mapped_out (route plain b) x)
  mapped_whole b x h = from_fine (mapped_out (route plain b) x) (mapped_fine bare [] even no_bytes refl b.virt (route plain b).lba x (to_fine x h))

  pub remapped_whole : (from to : ℕ) (x : List ℕ) → Whole n x → Whole n (data_of n x ++ remapped_bytes One from to (drop n x))
  remapped_whole from to x h = from_fine (data_of n x ++ remapped_bytes One from to (drop n x)) (mapped_fine bare [] even no_bytes refl from to x (to_fine x h))

  pub sent_whole : (b : Block) (x : List ℕ) → Whole n x → Whole n (sent (route plain b) x)
  sent_whole b x h = from_fine (sent (route plain b) x) (sent_fine bare [] even no_bytes refl b x (to_fine x h))

  pub received_whole : (b : Block) (x : List ℕ) → Whole n x → Whole n (received (route plain b) x)
  received_whole b x h = from_fine (received (route plain b) x) (received_fine bare [] even no_bytes refl b x (to_fine x h))

  pub received_is_right : (b : Block) (x : List ℕ) → Whole n x → Right n Crc x → Right n kind (received (route plain b) x)
  received_is_right b x h r = received_right bare [] even no_bytes refl b x (to_fine x h) r

  -- the frame of a write that nobody finds at fault is right on the wire
  pub target_right : (b : Block) (x : List ℕ) → Whole n x → target_finds m' [] none_shifted b x ≡ None → Right n Crc x
  target_right b x h none = guard_right n m'.mode.app 0 (ref_tag (route plain b).lba) Crc x h.escape none

  -- a frame with another guard is found at fault
  pub owner_finds_it : (b : Block) (x : List ℕ) → Whole n x → IsWrong n kind x → owner_finds (route plain b) (mapped_back (route plain b) x) ≡ Some Guard
  owner_finds_it b x h w =
      let y = mapped_back (route plain b) x in
      let t = mapped_tuple n x h.size One (route plain b).lba b.virt in
      let d = mapped_body n x h.size One (route plain b).lba b.virt in
      let escape : is_escaped One (tuple_of n y) ≡ false = ap (λ (t : Tuple). eqb t.app 0xFFFF) t ∙ h.escape in
      let wrong : IsWrong n kind y = ap (λ (t : Tuple). eqb t.guard (guard_of kind (data_of n y))) t ∙ ap (λ v. eqb (tuple_of n x).guard (guard_of kind v)) d ∙ w in
      guard_found m'.mode.app m'.mode.mask (ref_tag b.virt) (guard_of kind (data_of n y)) (tuple_of n y) escape wrong

  -- The target finds this in the stored block of a virtual block, whatever application tag is expected; so does a scrub.
  abbrev pub IsBad : (virt : ℕ) → Check → List ℕ → Type 0
  IsBad virt check y = (app : ℕ) → finding One (all_asked app 0) (ref_tag (place_in m'.entries virt).1) (crc (data_of n y)) (tuple_of n y) ≡ Some check

  none_under : (b : Block) (x : List ℕ) → Whole n x → (app : ℕ) → target_finds m' [] none_shifted b x ≡ None → finding One (all_asked app 0) (ref_tag (route plain b).lba) (crc (data_of n x)) (tuple_of n x) ≡ None
  none_under b x h app none =
      let t : Tuple = tuple_of n x in
      let g : ℕ = crc (data_of n x) in
      let want : ℕ = ref_tag (route plain b).lba in
      passes_if app 0 want g t (and_parts (bears t g want) (expected m'.mode.app 0 t) (passed m'.mode.app 0 want g t h.escape none)).0 (unmasked app t)

  abbrev pub quiet_read : Block → Owner → List ℕ → Type 0
  quiet_read b owner x = in_why (in_by m' [] none_shifted b owner (λ x. x) (λ x. x) (λ x. x) x) ≡ None

  abbrev pub host_frame : Block → List ℕ → List ℕ
  host_frame b v = mapped_back (route plain b) v

  pub read_passed : (b : Block) (owner : Owner) (x : List ℕ) → quiet_read b owner x → (target_finds m' [] none_shifted b x ≡ None) × (adapter_finds_in (route plain b) x ≡ None) × (owner_finds (route plain b) (host_frame b (received (route plain b) x)) ≡ None)
  read_passed b owner x none =
      let w = host_frame b (received (route plain b) x) in
      all_passed owner (target_finds m' [] none_shifted b x) (adapter_finds_in (route plain b) x) (owner_finds (route plain b) w) x w none

  -- what is asked of a flip that a check sees
  module _ (op k off byte : ℕ) (check : Check) (seen : (f : ℕ → ℕ) → IsOne off byte f → IsSeenFlip n f check) where
    abbrev lines : Crossing → List FaultLine
    lines at = one_line at op k off byte ∷ []

    abbrev flipped : Crossing → Block → List ℕ → List ℕ
    flipped at b x = crossed (m1 m' at op k off byte) b at x

    abbrev Own : Crossing → Block → Type 0
    Own at b = IsOwn m' at op k off byte b

    abbrev name : (at : Crossing) → Block → ℕ → ℕ
    name at b = named (lines at) at (route plain b).label

    flip : (at : Crossing) → is_same at at ≡ true → (b : Block) → Own at b → IsSeenFlip n (name at b) check
    flip at s b own = seen (name at b) (one m' at op k off byte b own s)

    -- a write that is flipped at the host
    pub host_out : (b : Block) → Own HostToAdapter b → (f : List ℕ) → Whole n f → out_why (out_by m' [] none_shifted b (λ x. x) (λ x. x) (λ x. x) f) ≡ None →
        out_why (way_out (lines HostToAdapter) (m1 m' HostToAdapter op k off byte).site.device (route plain b) f) ≡ Some (Adapter check)
    host_out b own f h none =
        let at = HostToAdapter in
        let m : Setting = m1 m' at op k off byte in
        let x = mapped_out (route plain b) f in
        let hx = mapped_whole b f h in
        let p = both_passed (adapter_finds_out (route plain b) x) (target_finds m' [] none_shifted b (sent (route plain b) x)) (sent (route plain b) x) (sent (route plain b) x) none in
        let y = flipped at b x in
        let e : adapter_finds_out (route plain b) y ≡ Some check = (flip at refl b own).found m'.mode.app m'.mode.mask (ref_tag (route plain b).lba) kind x hx p.0 in
        let z = crossed m b AdapterToTarget (sent (route plain b) y) in
        ap out_why (goes_out m' (lines at) (one_shifted m' at op k off byte) b refl f) ∙ ap (λ o. out_why (out_of o (target_finds m' [] none_shifted b z) (sent (route plain b) y) (crossed m b TargetToMedium z))) e

    -- on the wire
    pub wire_out : (b : Block) → Own AdapterToTarget b → (f : List ℕ) → Whole n f → out_why (out_by m' [] none_shifted b (λ x. x) (λ x. x) (λ x. x) f) ≡ None →
        out_why (way_out (lines AdapterToTarget) (m1 m' AdapterToTarget op k off byte).site.device (route plain b) f) ≡ Some (Target check)
    wire_out b own f h none =
        let at = AdapterToTarget in
        let m : Setting = m1 m' at op k off byte in
        let x = mapped_out (route plain b) f in
        let s = sent (route plain b) x in
        let hs = sent_whole b x (mapped_whole b f h) in
        let p = both_passed (adapter_finds_out (route plain b) x) (target_finds m' [] none_shifted b s) s s none in
        let y = flipped at b s in
        let e : target_finds m' [] none_shifted b y ≡ Some check = (flip at refl b own).found m'.mode.app 0 (ref_tag (route plain b).lba) Crc s hs p.1 in
        let z = crossed m b TargetToMedium y in
        ap out_why (goes_out m' (lines at) (one_shifted m' at op k off byte) b refl f)
        ∙ ap (λ (h : List ℕ → List ℕ). out_why (out_by m' [] none_shifted b h (crossed m b AdapterToTarget) (crossed m b TargetToMedium) f)) (λ i v. elsewhere m' at op k off byte b HostToAdapter refl v i)
        ∙ ap (λ o. out_why (out_of o (target_finds m' [] none_shifted b y) s z)) p.0
        ∙ ap (λ o. out_why (out_of None o s z)) e

    -- on its way to the medium: it is stored, with a guard that isn't that of its data
    pub record StoredWrong (b : Block) (f : List ℕ) : Type 0 where
      pub carried : List ℕ
      pub stored : List ℕ
      pub with_flip : way_out (lines TargetToMedium) (m1 m' TargetToMedium op k off byte).site.device (route plain b) f ≡ Stores carried stored
      pub without : out_by m' [] none_shifted b (λ x. x) (λ x. x) (λ x. x) f ≡ Stores carried carried
      pub was : target_finds m' [] none_shifted b carried ≡ None
      pub was_whole : Whole n carried
      pub whole : Whole n stored
      pub bad : IsBad b.virt check stored

    pub medium_out : (b : Block) → Own TargetToMedium b → (f : List ℕ) → Whole n f → out_why (out_by m' [] none_shifted b (λ x. x) (λ x. x) (λ x. x) f) ≡ None → StoredWrong b f
    medium_out b own f h none =
        let at = TargetToMedium in
        let m : Setting = m1 m' at op k off byte in
        let x = mapped_out (route plain b) f in
        let s = sent (route plain b) x in
        let hs = sent_whole b x (mapped_whole b f h) in
        let p = both_passed (adapter_finds_out (route plain b) x) (target_finds m' [] none_shifted b s) s s none in
        let y = flipped at b s in
        record {
          carried = s;
          stored = y;
          with_flip =
              goes_out m' (lines at) (one_shifted m' at op k off byte) b refl f
              ∙ ap (λ (h : List ℕ → List ℕ). out_by m' [] none_shifted b h (crossed m b AdapterToTarget) (crossed m b TargetToMedium) f) (λ i v. elsewhere m' at op k off byte b HostToAdapter refl v i)
              ∙ ap (λ (w : List ℕ → List ℕ). out_by m' [] none_shifted b (λ x. x) w (crossed m b TargetToMedium) f) (λ i v. elsewhere m' at op k off byte b AdapterToTarget refl v i)
              ∙ ap (λ o. out_of o (target_finds m' [] none_shifted b s) s y) p.0
              ∙ ap (λ o. out_of None o s y) p.1;
          without = ap (λ o. out_of o (target_finds m' [] none_shifted b s) s s) p.0 ∙ ap (λ o. out_of None o s s) p.1;
          was = p.1;
          was_whole = hs;
          whole = (flip at refl b own).whole s hs;
          bad = λ app. (flip at refl b own).found app 0 (ref_tag (route plain b).lba) Crc s hs (none_under b s hs app p.1);
        }

    -- ---- a read

    pub medium_in : (b : Block) → Own MediumToTarget b → (owner : Owner) (x : List ℕ) → Whole n x → quiet_read b owner x →
        in_why (way_in (lines MediumToTarget) (m1 m' MediumToTarget op k off byte).site.device (route plain b) owner x) ≡ Some (Target check)
    medium_in b own owner x h none =
        let at = MediumToTarget in
        let m : Setting = m1 m' at op k off byte in
        let p = read_passed b owner x none in
        let y = flipped at b x in
        let e : target_finds m' [] none_shifted b y ≡ Some check = (flip at refl b own).found m'.mode.app 0 (ref_tag (route plain b).lba) Crc x h p.0 in
        let z = crossed m b TargetToAdapter y in
        let w = host_frame b (crossed m b AdapterToHost (received (route plain b) z)) in
        ap in_why (comes_in m' (lines at) (one_shifted m' at op k off byte) b refl owner x) ∙ ap (λ o. in_why (in_of owner o (adapter_finds_in (route plain b) z) (owner_finds (route plain b) w) z w)) e

    pub wire_in : (b : Block) → Own TargetToAdapter b → (owner : Owner) (x : List ℕ) → Whole n x → quiet_read b owner x →
        in_why (way_in (lines TargetToAdapter) (m1 m' TargetToAdapter op k off byte).site.device (route plain b) owner x) ≡ Some (Adapter check)
    wire_in b own owner x h none =
        let at = TargetToAdapter in
        let m : Setting = m1 m' at op k off byte in
        let p = read_passed b owner x none in
        let z = flipped at b x in
        let e : adapter_finds_in (route plain b) z ≡ Some check = (flip at refl b own).found m'.mode.app m'.mode.mask (ref_tag (route plain b).lba) Crc x h p.1 in
        let w = host_frame b (crossed m b AdapterToHost (received (route plain b) z)) in
        ap in_why (comes_in m' (lines at) (one_shifted m' at op k off byte) b refl owner x)
        ∙ ap (λ (d : List ℕ → List ℕ). in_why (in_by m' [] none_shifted b owner d (crossed m b TargetToAdapter) (crossed m b AdapterToHost) x)) (λ i v. elsewhere m' at op k off byte b MediumToTarget refl v i)
        ∙ ap (λ o. in_why (in_of owner o (adapter_finds_in (route plain b) z) (owner_finds (route plain b) w) z w)) p.0
        ∙ ap (λ o. in_why (in_of owner None o (owner_finds (route plain b) w) z w)) e
