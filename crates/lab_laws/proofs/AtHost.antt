-- The last check of a read: what its owner finds of a frame that is flipped at the host.
use Rattle.std.proofs.Common.{◌≡◌, ◌<◌, ◌≤◌, ℕ, ◌+◌, ◌%◌, Bool, true, false, eqb, List, [], ◌∷◌, Some, None, ◌⊎◌, inl, inr, refl, sym, ap, ◌∙◌}
use Rattle.std.specs.Prelude.{bit_and}
use Rattle.std.proofs.lemmas.Bool.{and_parts, eq-eqb, eqb-true}
use Rattle.pi_guard.specs.Guards.{guard_of}
use Rattle.pi_guard.specs.declared.GuardKind.{GuardKind}
use Rattle.pi_tuple.specs.Tuples.{ref_tag}
use Rattle.pi_tuple.specs.declared.checks.Check.TheVariants.{Guard, RefTag}
use Rattle.pi_tuple.specs.declared.checks.PiType.TheVariants.{One}
use Rattle.pi_tuple.specs.declared.tuple.Tuple.{Tuple}
use Rattle.pi_tuple.proofs.TupleLaws.{same_fields}
use Rattle.fault_schedule.specs.Altered.{named}
use Rattle.fault_schedule.specs.declared.fault.Crossing.TheVariants.{AdapterToHost, MediumToTarget, TargetToAdapter, TargetToMedium}
use Rattle.fault_schedule.specs.declared.fault.FaultLine.{FaultLine}
use Rattle.integrity_payload.specs.declared.payload.Owner.{Owner}
use Rattle.rig_api.specs.Frames.{data_of, frame_of, tuple_of}
use Rattle.block_path.specs.WayIn.{WayIn, adapter_finds_in, mapped_back, owner_finds, owner_says, received, way_in}
use Rattle.walk_laws.specs.Detectable.{bears, crossed}
use Rattle.walk_laws.specs.Settings.{Block, Setting, route}
use Rattle.walk_laws.proofs.TupleFrames.{frame_is}
use Rattle.run_laws.proofs.Found.{Bears, bears_both, expected, passed}
use Rattle.run_laws.proofs.Framed.{mapped_body, mapped_tuple}
use Rattle.lab_laws.proofs.Flipped.{IsOne, Whole, flip_whole, flip_wrong, tag_app, tag_data, tag_found, tag_guard, tag_whole}
use Rattle.lab_laws.proofs.Ways.{comes_in, in_by, in_of, target_finds}
use Rattle.lab_laws.proofs.Marked.{in_why, owner_finds_it, quiet_read, read_passed, received_is_right, received_whole, remapped_whole, target_right}
use Rattle.lab_laws.proofs.OneLine.{IsOwn, elsewhere, m0, m1, none_altered, none_shifted, one, one_line, one_shifted, quiet_in}

module _ (m' : Setting) (even : m'.size % 2 ≡ 0) where
  abbrev n : ℕ
  n = m'.size

  abbrev kind : GuardKind
  kind = m'.mode.kind

  abbrev plain : Setting
  plain = m0 m' TargetToMedium 0 0 0 0

  abbrev Quiet : Block → Owner → List ℕ → Type 0
  Quiet b owner x = quiet_read m' even b owner x

  abbrev pub way : (op k off byte : ℕ) → Block → Owner → List ℕ → WayIn
  way op k off byte b owner x = way_in (one_line AdapterToHost op k off byte ∷ []) (m1 m' AdapterToHost op k off byte).site.device (route plain b) owner x

  -- behind the checks of target and adapter
  at_owner : (op k off byte : ℕ) (b : Block) (owner : Owner) (x : List ℕ) → Quiet b owner x → let y = crossed (m1 m' AdapterToHost op k off byte) b AdapterToHost (received (route plain b) x) in let w = mapped_back (route plain b) y in
      way op k off byte b owner x ≡ in_of owner None None (owner_finds (route plain b) w) x w
  at_owner op k off byte b owner x none =
      let at = AdapterToHost in
      let m : Setting = m1 m' at op k off byte in
      let p = read_passed m' even b owner x none in
      let w = mapped_back (route plain b) (crossed m b AdapterToHost (received (route plain b) x)) in
      comes_in m' (one_line at op k off byte ∷ []) (one_shifted m' at op k off byte) b refl owner x
      ∙ ap (λ (d : List ℕ → List ℕ). in_by m' [] none_shifted b owner d (crossed m b TargetToAdapter) (crossed m b AdapterToHost) x) (λ i v. elsewhere m' at op k off byte b MediumToTarget refl v i)
      ∙ ap (λ (d : List ℕ → List ℕ). in_by m' [] none_shifted b owner (λ x. x) d (crossed m b AdapterToHost) x) (λ i v. elsewhere m' at op k off byte b TargetToAdapter refl v i)
      ∙ ap (λ o. in_of owner o (adapter_finds_in (route plain b) x) (owner_finds (route plain b) w) x w) p.0
      ∙ ap (λ o. in_of owner None o (owner_finds (route plain b) w) x w) p.1

  module _ (op k off byte : ℕ) (some : 1 ≤ byte) (fits : byte < 256) where
    abbrev lines : List FaultLine
    lines = one_line AdapterToHost op k off byte ∷ []

    abbrev flipped : Block → List ℕ → List ℕ
    flipped b x = crossed (m1 m' AdapterToHost op k off byte) b AdapterToHost x

    abbrev Own : Block → Type 0
    Own b = IsOwn m' AdapterToHost op k off byte b

    abbrev name : Block → ℕ → ℕ
    name b = named lines AdapterToHost (route plain b).label

    is_one : (b : Block) → Own b → IsOne off byte (name b)
    is_one b own = one m' AdapterToHost op k off byte b own refl

    -- data or guard
    pub host_in : off < n + 2 → (b : Block) → Own b → (owner : Owner) (x : List ℕ) → Whole n x → Quiet b owner x → in_why (way op k off byte b owner x) ≡ Some (owner_says owner Guard)
    host_in front b own owner x h none =
        let p = read_passed m' even b owner x none in
        let v = received (route plain b) x in
        let hv = received_whole m' even b x h in
        let y = flipped b v in
        let right = received_is_right m' even b x h (target_right m' even b x h p.0) in
        let wy = flip_whole n off byte front some fits even (name b) (is_one b own) v hv in
        let ww = flip_wrong n off byte front some fits even (name b) (is_one b own) kind v hv right in
        let w = mapped_back (route plain b) y in
        ap in_why (at_owner op k off byte b owner x none) ∙ ap (λ o. in_why (in_of owner None None o x w)) (owner_finds_it m' even b y wy ww)

    -- the reference tag: another than the virtual block's, or the same frame
    module _ (low : n + 4 ≤ off) (high : off < n + 8) where
      abbrev IsEither : Block → Owner → List ℕ → Type 0
      IsEither b owner x = (in_why (way op k off byte b owner x) ≡ Some (owner_says owner RefTag)) ⊎ (way op k off byte b owner x ≡ way_in [] (plain).site.device (route plain b) owner x)

      pub host_tag : (b : Block) → Own b → (owner : Owner) (x : List ℕ) → Whole n x → Quiet b owner x → IsEither b owner x
      host_tag b own owner x h none = by (eqb t1.rtag (ref_tag b.virt)) refl
        where
          f : ℕ → ℕ
          f = name b

          v : List ℕ
          v = received (route plain b) x

          hv : Whole n v
          hv = received_whole m' even b x h

          y : List ℕ
          y = flipped b v

          hy : Whole n y
          hy = tag_whole n off byte low high some fits (name b) (is_one b own) v hv

          lba : ℕ
          lba = (route plain b).lba

          w0 : List ℕ
          w0 = mapped_back (route plain b) v

          w1 : List ℕ
          w1 = mapped_back (route plain b) y

          t0 : Tuple
          t0 = tuple_of n (mapped_back (route plain b) (received (route plain b) x))

          t1 : Tuple
          t1 = tuple_of n (mapped_back (route plain b) (crossed (m1 m' AdapterToHost op k off byte) b AdapterToHost (received (route plain b) x)))

          whole0 : Whole n w0
          whole0 = remapped_whole m' even lba b.virt v hv

          whole1 : Whole n w1
          whole1 = remapped_whole m' even lba b.virt y hy

          data_is : data_of n w1 ≡ data_of n w0
          data_is = mapped_body n y hy.size One lba b.virt ∙ tag_data n off byte low high some fits f (is_one b own) v hv ∙ sym (mapped_body n v hv.size One lba b.virt)

          guard_is : t1.guard ≡ t0.guard
          guard_is = ap (λ (t : Tuple). t.guard) (mapped_tuple n y hy.size One lba b.virt) ∙ tag_guard n off byte low high some fits f (is_one b own) v hv ∙ sym (ap (λ (t : Tuple). t.guard) (mapped_tuple n v hv.size One lba b.virt))

          app_is : t1.app ≡ t0.app
          app_is = ap (λ (t : Tuple). t.app) (mapped_tuple n y hy.size One lba b.virt) ∙ tag_app n off byte low high some fits f (is_one b own) v hv ∙ sym (ap (λ (t : Tuple). t.app) (mapped_tuple n v hv.size One lba b.virt))

          passing : (target_finds m' [] none_shifted b x ≡ None) × (adapter_finds_in (route plain b) x ≡ None) × (owner_finds (route plain b) (mapped_back (route plain b) (received (route plain b) x)) ≡ None)
          passing = read_passed m' even b owner x none

          both : (bears t0 (guard_of kind (data_of n w0)) (ref_tag b.virt) ≡ true) × (expected m'.mode.app m'.mode.mask t0 ≡ true)
          both = and_parts (bears t0 (guard_of kind (data_of n w0)) (ref_tag b.virt)) (expected m'.mode.app m'.mode.mask t0) (passed m'.mode.app m'.mode.mask (ref_tag b.virt) (guard_of kind (data_of n w0)) t0 whole0.escape passing.2)

          right : Bears t0 (guard_of kind (data_of n w0)) (ref_tag b.virt)
          right = bears_both t0 (guard_of kind (data_of n w0)) (ref_tag b.virt) both.0

          same_frame : t1.rtag ≡ ref_tag b.virt → w1 ≡ w0
          same_frame e =
              let t : t1 ≡ t0 = same_fields guard_is app_is (e ∙ sym right.rtag) in
              sym (frame_is n w1 whole1.size whole1.bytes) ∙ ap (λ d. frame_of d t1) data_is ∙ ap (frame_of (data_of n w0)) t ∙ frame_is n w0 whole0.size whole0.bytes

          as_it_was : way_in [] (plain).site.device (route plain b) owner x ≡ in_of owner None None (owner_finds (route plain b) w0) x w0
          as_it_was =
              quiet_in m' [] none_shifted b refl (none_altered m' b) owner x
              ∙ ap (λ o. in_of owner o (adapter_finds_in (route plain b) x) (owner_finds (route plain b) w0) x w0) passing.0
              ∙ ap (λ o. in_of owner None o (owner_finds (route plain b) w0) x w0) passing.1

          by : (c : Bool) → eqb t1.rtag (ref_tag b.virt) ≡ c → IsEither b owner x
          by true q = inr (at_owner op k off byte b owner x none ∙ ap (λ w. in_of owner None None (owner_finds (route plain b) w) x w) (same_frame (eqb-true t1.rtag (ref_tag b.virt) q)) ∙ sym as_it_was)
          by false q =
              let found : owner_finds (route plain b) w1 ≡ Some RefTag =
              tag_found m'.mode.app m'.mode.mask (ref_tag b.virt) (guard_of kind (data_of n w1)) t1 whole1.escape
              (eq-eqb t1.guard (guard_of kind (data_of n w1)) (guard_is ∙ right.guard ∙ sym (ap (guard_of kind) data_is)))
              (ap (λ a. eqb (bit_and a m'.mode.mask) (bit_and m'.mode.app m'.mode.mask)) app_is ∙ both.1)
              q in
              inl (ap in_why (at_owner op k off byte b owner x none) ∙ ap (λ o. in_why (in_of owner None None o x w1)) found)
