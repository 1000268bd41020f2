-- One block on its way while bytes are flipped and nothing is shifted: its end by what each layer finds.
use Rattle.std.proofs.Common.{◌≡◌, ℕ, false, List, refl, ap, ◌∙◌}
use Rattle.std.specs.Prelude.{Option, Some, None, pos}
use Rattle.pi_guard.specs.Guards.{crc}
use Rattle.pi_tuple.specs.Finds.{finding}
use Rattle.pi_tuple.specs.Tuples.{ref_tag}
use Rattle.pi_tuple.specs.declared.checks.Check.{Check}
use Rattle.pi_tuple.specs.declared.checks.PiType.TheVariants.{One}
use Rattle.fault_schedule.specs.Altered.{fails_of, shift_of}
use Rattle.fault_schedule.specs.declared.fault.Crossing.{Crossing}
use Rattle.fault_schedule.specs.declared.fault.Crossing.TheVariants.{AdapterToHost, AdapterToTarget, HostToAdapter, MediumToTarget, TargetToAdapter, TargetToMedium}
use Rattle.fault_schedule.specs.declared.fault.FaultLine.{FaultLine}
use Rattle.integrity_payload.specs.Payloads.{all_asked}
use Rattle.integrity_payload.specs.declared.payload.Owner.{Owner}
use Rattle.bio_core.specs.declared.fate.Why.TheVariants.{Adapter, Target}
use Rattle.rig_api.specs.Frames.{data_of, tuple_of}
use Rattle.rig_api.specs.Passing.{found_in, from_medium, then_crossed, to_medium, unless}
use Rattle.block_path.specs.Blocks.{fetched_cell, stored_cell}
use Rattle.block_path.specs.Routes.{by_target, medium_lba, moved, passage, sends_unless, stores_unless, wire_lba}
use Rattle.block_path.specs.WayIn.{Delivers, Spoils, Stops, WayIn, adapter_finds_in, at_host, delivered_unless, from_device, from_wire, mapped_back, owner_finds, owner_says, received, verified, way_in}
use Rattle.block_path.specs.WayOut.{Fails, Refuses, Stores, WayOut, adapter_finds_out, at_device, from_adapter, mapped_out, sent, to_wire, way_out}
use Rattle.walk_laws.specs.Detectable.{crossed}
use Rattle.walk_laws.specs.Settings.{Block, Setting, route}
use Rattle.walk_laws.specs.UnderMap.{home}
use Rattle.run_laws.proofs.Layers.{checked, found_is, unmoved}

-- the setting with these lines in place of its own
abbrev pub under_lines : Setting → List FaultLine → Setting
under_lines m lines = checked (record m { site = record m.site { faults = lines } })

-- ---- ends, by what is found

abbrev pub out_of : Option Check → Option Check → (carried stored : List ℕ) → WayOut
out_of (Some c) other carried stored = Fails (Adapter c)
out_of None (Some c) carried stored = Refuses (Target c)
out_of None None carried stored = Stores carried stored

abbrev pub in_of : Owner → Option Check → Option Check → Option Check → (carried frame : List ℕ) → WayIn
in_of owner (Some c) second third carried frame = Stops (Target c)
in_of owner None (Some c) third carried frame = Spoils (Adapter c) carried
in_of owner None None (Some c) carried frame = Spoils (owner_says owner c) carried
in_of owner None None None carried frame = Delivers carried frame

module _ (m' : Setting) (lines : List FaultLine) (unshifted : (at : Crossing) (op : ℕ) → shift_of lines at op ≡ pos 0) where
  abbrev m : Setting
  m = under_lines m' lines

  abbrev bare : Setting
  bare = record m' { site = record m'.site { faults = lines } }

  abbrev n : ℕ
  n = m'.size

  -- what the target finds in a frame
  abbrev pub target_finds : Block → List ℕ → Option Check
  target_finds b x = finding One (all_asked m'.mode.app 0) (ref_tag (route m b).lba) (crc (data_of n x)) (tuple_of n x)

  wire_is : (b : Block) → wire_lba lines (route m b) ≡ (route m b).lba
  wire_is b = ap (moved (route m b).lba) (unshifted AdapterToTarget b.op) ∙ unmoved bare (route m b).lba (pos 0) refl

  medium_is : (b : Block) → medium_lba lines (route m b) ≡ (route m b).lba
  medium_is b =
      let w : ℕ = wire_lba lines (route m b) in
      ap (moved w) (unshifted MediumToTarget b.op) ∙ unmoved bare w (pos 0) refl ∙ wire_is b

  pub stored_home : (b : Block) → stored_cell m.site (route m b) ≡ home m b.virt
  stored_home b =
      let w : ℕ = wire_lba lines (route m b) in
      ap (m'.site.cell (route m b).dev) (ap (moved w) (unshifted TargetToMedium b.op) ∙ unmoved bare w (pos 0) refl ∙ wire_is b)

  pub fetched_home : (b : Block) → fetched_cell m.site (route m b) ≡ home m b.virt
  fetched_home b = ap (m'.site.cell (route m b).dev) (medium_is b)

  found_here : (b : Block) (x : List ℕ) → found_in (passage lines (route m b)) x ≡ target_finds b x
  found_here b x = found_is bare b x ∙ ap (λ w. finding One (all_asked m'.mode.app 0) (ref_tag w) (crc (data_of n x)) (tuple_of n x)) (wire_is b)

  -- ---- the way out

  out_ends : (b : Block) (carried y : List ℕ) (o : Option Check) →
      at_device carried (by_target (then_crossed lines (Some (route m b).label) TargetToMedium (unless o y))) ≡ out_of None o carried (crossed m b TargetToMedium y)
  out_ends b carried y None = refl
  out_ends b carried y (Some c) = refl

  at_target : (b : Block) → fails_of lines (route m b).label ≡ false → (carried : List ℕ) → let y = crossed m b AdapterToTarget carried in
      at_device carried (m.site.device.stores (route m b) carried) ≡ out_of None (target_finds b y) carried (crossed m b TargetToMedium y)
  unfolding to_medium
  at_target b served carried =
      let y = crossed m b AdapterToTarget carried in
      ap (λ c. at_device carried (stores_unless c (by_target (to_medium lines (passage lines (route m b)) carried)))) served
      ∙ out_ends b carried y (found_in (passage lines (route m b)) y) ∙ ap (λ o. out_of None o carried (crossed m b TargetToMedium y)) (found_here b y)

  at_adapter : (b : Block) → fails_of lines (route m b).label ≡ false → (x : List ℕ) (o : Option Check) → let y = crossed m b AdapterToTarget (sent (route m b) x) in
      from_adapter m.site.device (route m b) (unless o (sent (route m b) x)) ≡ out_of o (target_finds b y) (sent (route m b) x) (crossed m b TargetToMedium y)
  at_adapter b served x None = at_target b served (sent (route m b) x)
  at_adapter b served x (Some c) = refl

  -- by what is done with a frame at each crossing
  abbrev pub out_by : Block → (host wire medium : List ℕ → List ℕ) → List ℕ → WayOut
  out_by b host wire medium frame =
      let x = host (mapped_out (route m b) frame) in
      let y = wire (sent (route m b) x) in
      out_of (adapter_finds_out (route m b) x) (target_finds b y) (sent (route m b) x) (medium y)

  -- of a block that no line says the medium fails
  pub goes_out : (b : Block) → fails_of lines (route m b).label ≡ false → (frame : List ℕ) → way_out lines m.site.device (route m b) frame ≡ out_by b (crossed m b HostToAdapter) (crossed m b AdapterToTarget) (crossed m b TargetToMedium) frame
  unfolding to_wire
  goes_out b served frame = let x = crossed m b HostToAdapter (mapped_out (route m b) frame) in at_adapter b served x (adapter_finds_out (route m b) x)

  -- ---- the way in

  owner_ends : (b : Block) (owner : Owner) (z w : List ℕ) (o : Option Check) → delivered_unless owner z w o ≡ in_of owner None None o z w
  owner_ends b owner z w None = refl
  owner_ends b owner z w (Some c) = refl

  adapter_ends : (b : Block) (owner : Owner) (z : List ℕ) (o : Option Check) → let w = mapped_back (route m b) (crossed m b AdapterToHost (received (route m b) z)) in
      verified (route m b) owner (at_host z (then_crossed lines (Some (route m b).label) AdapterToHost (unless o (received (route m b) z)))) ≡ in_of owner None o (owner_finds (route m b) w) z w
  adapter_ends b owner z None = let w = mapped_back (route m b) (crossed m b AdapterToHost (received (route m b) z)) in owner_ends b owner z w (owner_finds (route m b) w)
  adapter_ends b owner z (Some c) = refl

  from_adapter_on : (b : Block) (owner : Owner) (z : List ℕ) → let w = mapped_back (route m b) (crossed m b AdapterToHost (received (route m b) z)) in
      verified (route m b) owner (at_host z (from_wire lines (route m b) z)) ≡ in_of owner None (adapter_finds_in (route m b) z) (owner_finds (route m b) w) z w
  unfolding from_wire
  from_adapter_on b owner z = adapter_ends b owner z (adapter_finds_in (route m b) z)

  target_ends : (b : Block) (owner : Owner) (y : List ℕ) (o : Option Check) → let z = crossed m b TargetToAdapter y in let w = mapped_back (route m b) (crossed m b AdapterToHost (received (route m b) z)) in
      verified (route m b) owner (from_device lines (route m b) (by_target (then_crossed lines (Some (route m b).label) TargetToAdapter (unless o y))))
      ≡ in_of owner o (adapter_finds_in (route m b) z) (owner_finds (route m b) w) z w
  target_ends b owner y None = from_adapter_on b owner (crossed m b TargetToAdapter y)
  target_ends b owner y (Some c) = refl

  abbrev pub in_by : Block → Owner → (medium wire host : List ℕ → List ℕ) → List ℕ → WayIn
  in_by b owner medium wire host stored =
      let y = medium stored in
      let z = wire y in
      let w = mapped_back (route m b) (host (received (route m b) z)) in
      in_of owner (target_finds b y) (adapter_finds_in (route m b) z) (owner_finds (route m b) w) z w

  pub comes_in : (b : Block) → fails_of lines (route m b).label ≡ false → (owner : Owner) (stored : List ℕ) →
      way_in lines m.site.device (route m b) owner stored ≡ in_by b owner (crossed m b MediumToTarget) (crossed m b TargetToAdapter) (crossed m b AdapterToHost) stored
  unfolding from_medium
  comes_in b served owner stored =
      let y = crossed m b MediumToTarget stored in
      let z = crossed m b TargetToAdapter y in
      let w = mapped_back (route m b) (crossed m b AdapterToHost (received (route m b) z)) in
      ap (λ c. verified (route m b) owner (from_device lines (route m b) (sends_unless c (by_target (from_medium lines (passage lines (route m b)) stored))))) served
      ∙ target_ends b owner y (found_in (passage lines (route m b)) y) ∙ ap (λ o. in_of owner o (adapter_finds_in (route m b) z) (owner_finds (route m b) w) z w) (found_here b y)
