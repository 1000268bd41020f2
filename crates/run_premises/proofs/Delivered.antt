-- What is delivered of a stored block of bytes is bytes, where all lines that name it at a crossing are shown together.
use Rattle.std.proofs.Common.{◌≡◌, ℕ, ◌%◌, true, List, Option, Some, None}
use Rattle.std.specs.Prelude.{All, Result}
use Rattle.pi_tuple.specs.declared.checks.Check.{Check}
use Rattle.fault_schedule.specs.Altered.{fails_of}
use Rattle.fault_schedule.specs.declared.fault.Crossing.{Crossing}
use Rattle.fault_schedule.specs.declared.fault.Crossing.TheVariants.{AdapterToHost, MediumToTarget, TargetToAdapter}
use Rattle.fault_schedule.specs.declared.fault.FaultLine.{FaultLine}
use Rattle.integrity_payload.specs.declared.payload.Owner.{Owner}
use Rattle.rig_api.specs.Passing.{found_in, from_medium, then_crossed}
use Rattle.block_path.specs.Routes.{by_target, passage}
use Rattle.block_path.specs.WayIn.{Delivers, Spoils, Stops, WayIn, adapter_finds_in, at_host, delivered_unless, from_device, from_wire, mapped_back, owner_finds, received, verified, way_in}
use Rattle.block_path.proofs.Cells.{AllBelow}
use Rattle.block_path.proofs.Served.{sent_or}
use Rattle.run_laws.specs.Passed.{arrives, crossed, AtAdapter, AtTarget, has_flip, Block, Setting, route}
use Rattle.run_laws.proofs.Found.{unless_rule}
use Rattle.run_laws.proofs.Layers.{checked}
use Rattle.run_premises.proofs.OneWay.{Fine as FineFrame, crossed_fine as fine_crossed, mapped_fine, received_fine}
use Rattle.run_premises.specs.Forms.{is_shown, kind_at, mask_of}
use Rattle.run_premises.specs.FormedRun.{IsOfBytes}

abbrev pub OfBytes : WayIn → Type 0
OfBytes (Stops why) = Unit {0}
OfBytes (Spoils why carried) = Unit {0}
OfBytes (Delivers carried frame) = AllBelow 256 frame

module _ (m' : Setting) (even : m'.size % 2 ≡ 0) (flips : All (λ (line : FaultLine). IsOfBytes line.kind) m'.site.faults) (b : Block)
    (lines : (at : Crossing) → has_flip (checked m') b at ≡ true → is_shown m'.size (kind_at m'.mode.kind at) (mask_of m'.size m'.site.faults at (route (checked m') b).label) ≡ true) where
  abbrev m : Setting
  m = checked m'

  abbrev faults : List FaultLine
  faults = m'.site.faults

  abbrev Fine : List ℕ → Type 0
  Fine x = FineFrame m' x

  crossed_fine : (at : Crossing) (x : List ℕ) → Fine x → Fine (crossed m b at x)
  crossed_fine at x h = fine_crossed m' even flips b lines at x h

  delivered_bytes : (owner : Owner) (carried frame : List ℕ) (o : Option Check) → AllBelow 256 frame → OfBytes (delivered_unless owner carried frame o)
  delivered_bytes owner carried frame None h = h
  delivered_bytes owner carried frame (Some c) h = tt

  abbrev from_the_target : Owner → Result (List ℕ) Check → WayIn
  from_the_target owner came = verified (route m b) owner (from_device faults (route m b) (by_target (then_crossed faults (Some (route m b).label) TargetToAdapter came)))

  abbrev from_the_adapter : Owner → List ℕ → Result (List ℕ) Check → WayIn
  from_the_adapter owner x came = verified (route m b) owner (at_host x (then_crossed faults (Some (route m b).label) AdapterToHost came))

  from_adapter_on : (owner : Owner) (x : List ℕ) → Fine x → OfBytes (verified (route m b) owner (at_host x (from_wire faults (route m b) x)))
  unfolding from_wire
  from_adapter_on owner x h =
      let z = crossed m b AdapterToHost (received (route m b) x) in
      let f = crossed_fine AdapterToHost (received (route m b) x) (received_fine m' b x h) in
      unless_rule OfBytes (from_the_adapter owner x) (adapter_finds_in (route m b) x) (received (route m b) x) (λ c. tt)
      (λ none. delivered_bytes owner x (mapped_back (route m b) z) (owner_finds (route m b) (mapped_back (route m b) z)) (mapped_fine m' (route m b).lba b.virt z f).bytes)

  pub comes_bytes : (owner : Owner) (stored : List ℕ) → Fine stored → OfBytes (way_in faults m.site.device (route m b) owner stored)
  unfolding from_medium
  comes_bytes owner stored h =
      let y = arrives m b stored AtTarget in
      let f = crossed_fine MediumToTarget stored h in
      sent_or (λ came. OfBytes (verified (route m b) owner (from_device faults (route m b) came))) tt (fails_of faults (route m b).label) (by_target (from_medium faults (passage faults (route m b)) stored))
      (unless_rule OfBytes (from_the_target owner) (found_in (passage faults (route m b)) y) y (λ c. tt)
      (λ none. from_adapter_on owner (arrives m b stored AtAdapter) (crossed_fine TargetToAdapter y f)))
