-- Under one line that alters no byte the ways are those without it, but for what the target does with the block.
use Rattle.std.proofs.Common.{◌≡◌, ℕ, Bool, true, false, if◌then◌else◌, List, [], Some, refl, ap, ◌∙◌}
use Rattle.std.specs.Prelude.{bit_xor, Result, Ok, Err}
use Rattle.pi_tuple.specs.declared.checks.Check.{Check}
use Rattle.fault_schedule.specs.Altered.{altered, fails_of, flip_at}
use Rattle.fault_schedule.specs.declared.Label.{Label}
use Rattle.fault_schedule.specs.declared.fault.Crossing.{Crossing}
use Rattle.fault_schedule.specs.declared.fault.Crossing.TheVariants.{AdapterToHost, AdapterToTarget, HostToAdapter, MediumToTarget, TargetToAdapter, TargetToMedium}
use Rattle.fault_schedule.specs.declared.fault.FaultKind.{FaultKind}
use Rattle.fault_schedule.specs.declared.fault.FaultLine.{FaultLine}
use Rattle.integrity_payload.specs.declared.payload.Owner.{Owner}
use Rattle.bio_core.specs.declared.fate.Why.{Why}
use Rattle.rig_api.specs.Passing.{accepted, from_medium, released, then_crossed, to_medium}
use Rattle.block_path.specs.declared.route.Route.{Route}
use Rattle.block_path.specs.Routes.{by_target, passage, sends_unless, stores_unless, target}
use Rattle.block_path.specs.WayIn.{at_host, from_device, from_wire, verified}
use Rattle.block_path.specs.WayOut.{at_device, from_adapter, mapped_out, to_wire}
use Rattle.walk_laws.specs.Settings.{Block, Setting, route}
use Rattle.walk_laws.specs.PlainMap.{MapEntry}
use Rattle.walk_laws.proofs.CalmWays.{wire}
use Rattle.mode_map.specs.Finders.{IsCleanBlock, held_by_host, is_served}
use Rattle.mode_map.specs.Failures.{Comes, fault_of, read_comes, read_end, write_comes, write_end}
use Rattle.mode_map.proofs.Finding.{clean-out, kept, proper, served-some}
use Rattle.mode_map.proofs.Flips.{label_of, xored-zero}
use Rattle.mode_map.proofs.Stages.{from-wire, to-wire}

module _ (b : Block) (at : Crossing) (kind : FaultKind) (calm : (i : ℕ) → flip_at kind i ≡ 0) where
  abbrev pub line : List FaultLine
  line = fault_of b at kind

  nothing : (c : Bool) (i : ℕ) → bit_xor (if c then flip_at kind i else 0) 0 ≡ 0
  nothing true i = ap (λ n. bit_xor n 0) (calm i)
  nothing false i = refl

  pub unaltered : (other : Crossing) (label : Label) (frame : List ℕ) → altered line other label frame ≡ frame
  unaltered other label frame = xored-zero _ 0 frame (λ k. nothing _ k)

  crossed : (other : Crossing) (came : Result (List ℕ) Check) → then_crossed line (Some (label_of b)) other came ≡ came
  crossed other (Ok frame) = ap (λ f. Ok f) (unaltered other (label_of b) frame)
  crossed other (Err check) = refl

  module _ (m : Setting) where
    abbrev way : Route
    way = route m b

    taken : (f : List ℕ) → to_medium line (passage line way) f ≡ accepted (passage line way) f
    unfolding to_medium
    taken f =
        crossed TargetToMedium (accepted (passage line way) (altered line AdapterToTarget (label_of b) f))
        ∙ ap (accepted (passage line way)) (unaltered AdapterToTarget (label_of b) f)

    given : (f : List ℕ) → from_medium line (passage line way) f ≡ released (passage line way) f
    unfolding from_medium
    given f =
        crossed TargetToAdapter (released (passage line way) (altered line MediumToTarget (label_of b) f))
        ∙ ap (released (passage line way)) (unaltered MediumToTarget (label_of b) f)

    -- a read comes to what the target sends of the stored block
    past-adapter : (x : Result (List ℕ) Why) → from_device line way x ≡ from_device [] way x
    past-adapter (Ok f) = ap (at_host f) (from-wire line way f ∙ crossed AdapterToHost (from_wire [] way f))
    past-adapter (Err why) = refl

    pub reads : (owner : Owner) (stored : List ℕ) →
        read_comes m b owner line stored ≡ read_end m (verified way owner (from_device [] way (sends_unless (fails_of line (label_of b)) (by_target (released (passage line way) stored)))))
    reads owner stored =
        ap (λ x. read_end m (verified way owner x))
        (past-adapter (sends_unless (fails_of line (label_of b)) (by_target (from_medium line (passage line way) stored)))
        ∙ ap (λ x. from_device [] way (sends_unless (fails_of line (label_of b)) (by_target x))) (given stored))

    -- a write comes to what the target stores of the block on the wire
    module _ (served : is_served m.mode.protect ≡ true) (e : MapEntry) (c : IsCleanBlock m e) where
      -- what is stored of the block
      abbrev pub entry : MapEntry
      entry = kept m b (served-some m.mode.protect served) c.mask m.mode.dix m.mode.dif m.ty e

      pub writes : (next : List ℕ → Comes) →
          write_comes m b line e next ≡ write_end (at_device (wire m b entry) (stores_unless (fails_of line (label_of b)) (by_target (accepted (passage line way) (wire m b entry))))) next
      writes next =
          ap (λ x. write_end (from_adapter (target line) way x) next)
          (to-wire line way (mapped_out way (held_by_host m b e))
          ∙ ap (to_wire [] way) (unaltered HostToAdapter (label_of b) (mapped_out way (held_by_host m b e)))
          ∙ (clean-out m b (served-some m.mode.protect served) c.mask m.mode.dix m.mode.dif m.ty e (proper m e c) c.unescaped).sent)
          ∙ ap (λ x. write_end (at_device (wire m b entry) (stores_unless (fails_of line (label_of b)) (by_target x))) next) (taken (wire m b entry))
