-- Lines that alter no byte on the way: addresses that are moved at the medium, and blocks that it fails.
use Rattle.std.proofs.Common.{◌≡◌, ◌≢◌, ℕ, Bool, true, false, ◌||◌, if◌then◌else◌, List, [], Some, refl, sym, ap, ◌∙◌}
use Rattle.std.specs.Prelude.{bit_xor, ℤ, Result, Ok, Err}
use Rattle.pi_tuple.specs.Tuples.{ref_tag}
use Rattle.pi_tuple.specs.declared.checks.Check.{Check}
use Rattle.fault_schedule.specs.Altered.{altered, fails_of}
use Rattle.fault_schedule.specs.declared.fault.Crossing.{Crossing}
use Rattle.fault_schedule.specs.declared.fault.Crossing.TheVariants.{AdapterToHost, AdapterToTarget, HostToAdapter, MediumToTarget, TargetToAdapter, TargetToMedium}
use Rattle.fault_schedule.specs.declared.fault.FaultKind.TheVariants.{Fail, Shift}
use Rattle.fault_schedule.specs.declared.fault.FaultLine.{FaultLine}
use Rattle.integrity_payload.specs.declared.payload.Owner.{Owner}
use Rattle.bio_core.specs.declared.fate.Why.{Why}
use Rattle.bio_core.specs.declared.request.Dir.TheVariants.{Read, Write}
use Rattle.rig_api.specs.Passing.{from_medium, then_crossed, to_medium}
use Rattle.block_path.specs.Routes.{by_target, moved, passage, sends_unless, stores_unless, target}
use Rattle.block_path.specs.WayIn.{at_host, from_device, from_wire, verified, way_in}
use Rattle.block_path.specs.WayOut.{at_device, from_adapter, mapped_out, to_wire, way_out}
use Rattle.walk_laws.specs.Settings.{Block, Setting, route}
use Rattle.walk_laws.specs.PlainMap.{MapEntry}
use Rattle.walk_laws.specs.UnderMap.{stored_as}
use Rattle.walk_laws.proofs.CalmWays.{here, quiet, wire}
use Rattle.mode_map.specs.Finders.{IsCleanBlock, held_by_host, is_served}
use Rattle.mode_map.specs.Failures.{ByMedium, Comes, Delivers, at_home, expected, failure_cell, fault_of, read_comes, read_end, stored_tag, write_comes, write_end}
use Rattle.mode_map.specs.declared.failures.Failure.TheVariants.{MisdirectedRead, MisdirectedWrite}
use Rattle.mode_map.specs.declared.failures.Link.TheVariants.{OnMedium}
use Rattle.mode_map.specs.declared.failures.Place.TheVariants.{Hit}
use Rattle.mode_map.proofs.Finding.{clean-out, goes-out, kept, kept-body, kept-open, kept-proper, proper, served-some}
use Rattle.mode_map.proofs.Flips.{label_of, own-line, xored-zero}
use Rattle.mode_map.proofs.Kept.{by-type, older, other, same-joined}
use Rattle.mode_map.proofs.Stages.{from-medium, from-wire, to-medium, to-wire}

nothing : (c : Bool) → bit_xor (if c then 0 else 0) 0 ≡ 0
nothing true = refl
nothing false = refl

-- ---- lines of one block that alter nothing and move no address on the wire

module _ (m : Setting) (b : Block) (faults : List FaultLine) (unaltered : (at : Crossing) (frame : List ℕ) → altered faults at (label_of b) frame ≡ frame) (still : passage faults (route m b) ≡ passage [] (route m b)) where
  crossed : (at : Crossing) (came : Result (List ℕ) Check) → then_crossed faults (Some (label_of b)) at came ≡ came
  crossed at (Ok frame) = ap (λ f. Ok f) (unaltered at frame)
  crossed at (Err check) = refl

  pub onto : (f : List ℕ) → to_medium faults (passage faults (route m b)) f ≡ to_medium [] (passage [] (route m b)) f
  onto f =
      ap (λ p. to_medium faults p f) still ∙ to-medium faults (route m b) f
      ∙ crossed TargetToMedium (to_medium [] (passage [] (route m b)) (altered faults AdapterToTarget (label_of b) f))
      ∙ ap (to_medium [] (passage [] (route m b))) (unaltered AdapterToTarget f)

  off : (f : List ℕ) → from_medium faults (passage faults (route m b)) f ≡ from_medium [] (passage [] (route m b)) f
  off f =
      ap (λ p. from_medium faults p f) still ∙ from-medium faults (route m b) f
      ∙ crossed TargetToAdapter (from_medium [] (passage [] (route m b)) (altered faults MediumToTarget (label_of b) f))
      ∙ ap (from_medium [] (passage [] (route m b))) (unaltered MediumToTarget f)

  pub sends-same : (f : List ℕ) → to_wire faults (route m b) (mapped_out (route m b) f) ≡ to_wire [] (route m b) (mapped_out (route m b) f)
  sends-same f = to-wire faults (route m b) (mapped_out (route m b) f) ∙ ap (to_wire [] (route m b)) (unaltered HostToAdapter (mapped_out (route m b) f))

  module _ (serves : fails_of faults (label_of b) ≡ false) where
    carried-on : (x : Result (List ℕ) Check) → from_adapter (target faults) (route m b) x ≡ from_adapter (target []) (route m b) x
    carried-on (Err check) = refl
    carried-on (Ok f) = ap (at_device f) (ap (λ c. stores_unless c (by_target (to_medium faults (passage faults (route m b)) f))) serves ∙ ap by_target (onto f))

    pub goes : (f : List ℕ) → way_out faults (target faults) (route m b) f ≡ way_out [] (target []) (route m b) f
    goes f = ap (from_adapter (target faults) (route m b)) (sends-same f) ∙ carried-on (to_wire [] (route m b) (mapped_out (route m b) f))

    handed-on : (x : Result (List ℕ) Why) → from_device faults (route m b) x ≡ from_device [] (route m b) x
    handed-on (Err why) = refl
    handed-on (Ok f) = ap (at_host f) (from-wire faults (route m b) f ∙ crossed AdapterToHost (from_wire [] (route m b) f))

    pub comes : (owner : Owner) (s : List ℕ) → way_in faults (target faults) (route m b) owner s ≡ way_in [] (target []) (route m b) owner s
    comes owner s =
        ap (verified (route m b) owner)
        (ap (λ c. from_device faults (route m b) (sends_unless c (by_target (from_medium faults (passage faults (route m b)) s)))) serves
        ∙ ap (λ v. from_device faults (route m b) (by_target v)) (off s) ∙ handed-on (by_target (from_medium [] (passage [] (route m b)) s)))

-- ---- addresses that are moved at the medium

module _ (m : Setting) (b : Block) (owner : Owner) (served : is_served m.mode.protect ≡ true) (n : ℤ) where
  unmoved-in : (at : Crossing) (frame : List ℕ) → altered (fault_of b MediumToTarget (Shift n)) at (label_of b) frame ≡ frame
  unmoved-in at frame = xored-zero _ 0 frame (λ k. nothing _)

  unmoved-out : (at : Crossing) (frame : List ℕ) → altered (fault_of b TargetToMedium (Shift n)) at (label_of b) frame ≡ frame
  unmoved-out at frame = xored-zero _ 0 frame (λ k. nothing _)

  pub misread : (e : MapEntry) → IsCleanBlock m e → ref_tag (moved (route m b).lba n) ≢ ref_tag (route m b).lba →
      read_comes m b owner (fault_of b MediumToTarget (Shift n)) (stored_as m (moved (route m b).lba n) e) ≡ expected (failure_cell (MisdirectedRead OnMedium) m.mode m.ty) e.body
  misread e c d = ap (read_end m) (comes m b (fault_of b MediumToTarget (Shift n)) unmoved-in refl refl owner (stored_as m (moved (route m b).lba n) e)) ∙ other m b owner served e (moved (route m b).lba n) c d

  -- a write that is misdirected there is that without a fault
  stored-away : (e : MapEntry) (c : IsCleanBlock m e) (next : List ℕ → Comes) → let s = served-some m.mode.protect served in
      write_comes m b (fault_of b TargetToMedium (Shift n)) e next ≡ next (stored_as m (here m b s) (kept m b s c.mask m.mode.dix m.mode.dif m.ty e))
  stored-away e c next =
      let s = served-some m.mode.protect served in
      ap (λ w. write_end w next) (goes m b (fault_of b TargetToMedium (Shift n)) unmoved-out refl refl (held_by_host m b e) ∙ goes-out m b s c.mask m.mode.dix m.mode.dif m.ty e (proper m e c) c.unescaped)

  pub home : (old e : MapEntry) → IsCleanBlock m old → IsCleanBlock m e →
      write_comes m b (fault_of b TargetToMedium (Shift n)) e (λ stored. read_comes m b owner [] (at_home m b old)) ≡ Delivers old.body
  home old e d c = stored-away e c (λ stored. read_comes m b owner [] (at_home m b old)) ∙ older m b owner served old d

  pub hit : (other : Block) (e : MapEntry) → IsCleanBlock m e → ref_tag (route m b).lba ≢ ref_tag (route m other).lba →
      write_comes m b (fault_of b TargetToMedium (Shift n)) e (read_comes m other owner []) ≡ expected (failure_cell (MisdirectedWrite OnMedium Hit) m.mode m.ty) e.body
  hit other e c d =
      let s = served-some m.mode.protect served in
      let k = kept m b s c.mask m.mode.dix m.mode.dif m.ty e in
      stored-away e c (read_comes m other owner [])
      ∙ by-type m other owner served c.mask m.mode.dix m.mode.dif m.ty k (route m b).lba (kept-proper m b s c.mask m.mode.dix m.mode.dif m.ty e (proper m e c)) (kept-open m b s c.mask m.mode.dix m.mode.dif m.ty e c.unescaped) d
      ∙ ap (expected (stored_tag m.mode m.ty)) (kept-body m b s c.mask m.mode.dix m.mode.dif m.ty e)
      ∙ sym (ap (λ x. expected x e.body) (same-joined (stored_tag m.mode m.ty)))

-- ---- blocks that the medium fails

own-fails : (b : Block) (at : Crossing) → fails_of (fault_of b at Fail) (label_of b) ≡ true
own-fails b at = ap (λ c. c || false) (own-line b HostToAdapter)

module _ (m : Setting) (b : Block) (owner : Owner) (at : Crossing) where
  pub unread : (stored : List ℕ) → read_comes m b owner (fault_of b at Fail) stored ≡ ByMedium Read
  unread stored =
      ap (λ c. read_end m (verified (route m b) owner (from_device (fault_of b at Fail) (route m b) (sends_unless c (by_target (from_medium (fault_of b at Fail) (passage (fault_of b at Fail) (route m b)) stored)))))) (own-fails b at)

-- of a write, whose line names its crossing at the medium
module _ (m : Setting) (b : Block) (served : is_served m.mode.protect ≡ true) where
  same-frame : (at : Crossing) (frame : List ℕ) → altered (fault_of b TargetToMedium Fail) at (label_of b) frame ≡ frame
  same-frame at frame = xored-zero _ 0 frame (λ k. nothing _)

  pub unwritten : (e : MapEntry) (next : List ℕ → Comes) → IsCleanBlock m e → write_comes m b (fault_of b TargetToMedium Fail) e next ≡ ByMedium Write
  unwritten e next c =
      let s = served-some m.mode.protect served in
      let k = clean-out m b s c.mask m.mode.dix m.mode.dif m.ty e (proper m e c) c.unescaped in
      let q = quiet m m.mode.dix m.mode.dif m.ty in
      let w = wire q b (kept m b s c.mask m.mode.dix m.mode.dif m.ty e) in
      ap (λ x. write_end (from_adapter (target (fault_of b TargetToMedium Fail)) (route m b) x) next) (sends-same m b (fault_of b TargetToMedium Fail) same-frame refl (held_by_host m b e) ∙ k.sent)
      ∙ ap (λ v. write_end (at_device w (stores_unless (fails_of (fault_of b TargetToMedium Fail) (label_of b)) (by_target v))) next) (onto m b (fault_of b TargetToMedium Fail) same-frame refl w ∙ k.stores)
      ∙ ap (λ v. write_end (at_device w (stores_unless v (Ok (stored_as q (here m b s) (kept m b s c.mask m.mode.dix m.mode.dif m.ty e))))) next) (own-fails b TargetToMedium)
