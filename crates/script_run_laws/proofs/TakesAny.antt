-- Over a target whose blocks have the size of stored blocks, what a failed store call leaves is fine where a block of a bound script is stored.
use Rattle.std.proofs.Common.{◌≡◌, ◌<◌, ◌≤◌, ℕ, suc, ◌+◌, Bool, List, [], ◌∷◌, length, drop, get_or, map, refl, sym, ap, ◌∙◌, subst, arith, Some, None}
use Rattle.std.proofs.lemmas.Bool.{eq-eqb}
use Rattle.std.proofs.lemmas.List.{length-drop}
use Rattle.fault_schedule.specs.Altered.{shift_of}
use Rattle.fault_schedule.specs.declared.fault.Crossing.TheVariants.{AdapterToTarget, TargetToMedium}
use Rattle.rig_api.specs.Target.{Stored}
use Rattle.rig_api.specs.declared.units.UnitSpec.{UnitSpec}
use Rattle.rig_discovery.specs.Discovery.{info_of}
use Rattle.stack_walk_laws.specs.Passed.{blocks_told, shapes_of, State, stored_cell, moved}
use Rattle.volume_table.specs.declared.device.DeviceInfo.{DeviceInfo}
use Rattle.volume_table.specs.Places.{place_in, volume_len}
use Rattle.volume_table.specs.Tables.{MadeFor, Table}
use Rattle.run_laws.specs.Passed.{Setting, block_of, route, Op, Fetch, FetchPi, Fill, Overwrite, Put, Seal, Show, Wait, Write, WritePi}
use Rattle.run_laws.specs.Suited.{keeps_size}
use Rattle.stack_walk_laws.specs.Takes.{AllTakeAny, OpTakesAny, TakesAny}
use Rattle.stack_walk_laws.specs.Spots.{op_in as op_at}
use Rattle.script_laws.specs.Passed.{Script, binding_fault, op_fault, request_of}
use Rattle.script_run_laws.specs.Bound.{IsSettingOf}
use Rattle.script_run_laws.specs.Units.{AreStored}
use Rattle.script_run_laws.proofs.Addresses.{AreLed, all-led}
use Rattle.script_run_laws.proofs.AtTarget.{AreLong, behind, long-told}
use Rattle.script_run_laws.proofs.Ops.{in-range, no-fault}
use Rattle.script_run_laws.proofs.Shifts.{stored-at}
use Rattle.script_run_laws.proofs.Spreads.{asked-by}
use Rattle.script_run_laws.proofs.Standing.{bound}

takes-each : (m : Setting) (fine : ℕ → List ℕ → Bool) (i : ℕ) (ops : List Op) → ((j : ℕ) → j < length ops → OpTakesAny m fine (i + j) (op_at ops j)) → AllTakeAny m fine i ops
takes-each m fine i [] h = tt
takes-each m fine i (op ∷ ops) h =
    let here : i + 0 ≡ i = omega arith in (
      subst (λ (k : ℕ). OpTakesAny m fine k op) here (h 0 (omega arith)),
      takes-each m fine (suc i) ops (λ j l. let z : i + suc j ≡ suc i + j = omega arith in subst (λ (k : ℕ). OpTakesAny m fine k (op_at ops j)) z (h (suc j) (omega arith))),
    )

module _ (m : Setting) (s : Script) (t : Table) (devices : List DeviceInfo) (logs : ℕ) (blocks : List (List ℕ)) (is : IsSettingOf m s t devices logs) (long : AreLong m t.ty s.block devices blocks) where
  block-takes : (i v n : ℕ) → AreLed t devices s i v n → TakesAny m (keeps_size blocks) i v n
  block-takes i v n a j l left e =
      let place = place_in t.entries (v + j) in
      let wire = moved place.1 (shift_of s.faults AdapterToTarget i) in
      let stored = ap (λ c. length (get_or blocks c [])) (stored-at m s t i v is.entries is.faults j) ∙ long place.0 (moved wire (shift_of s.faults TargetToMedium i)) (a.stored j l).on in
      eq-eqb (length left) (length (get_or blocks (stored_cell m.site (route m (block_of i v j))) [])) (e ∙ sym stored)

  op-takes : (i : ℕ) (op : Op) → op_fault t devices s.block op ≡ None → ((v n : ℕ) → request_of op ≡ Some (v, n) → v + n ≤ volume_len t.entries → TakesAny m (keeps_size blocks) i v n) → OpTakesAny m (keeps_size blocks) i op
  op-takes i (Fill seg byte) h takes = tt
  op-takes i (Put page off bytes) h takes = tt
  op-takes i (Show seg) h takes = tt
  op-takes i (Seal n body tuples app rtag) h takes = tt
  op-takes i (Write v n body app) h takes = takes v n refl (in-range t v n h)
  op-takes i (Fetch v n body) h takes = takes v n refl (in-range t v n h)
  op-takes i (WritePi v n body tuples) h takes = takes v n refl (in-range t v n h)
  op-takes i (FetchPi v n body tuples) h takes = takes v n refl (in-range t v n h)
  op-takes i (Overwrite dev lba change) h takes = tt
  op-takes i Wait h takes = tt

  all-take : length s.lines ≡ length s.faults + length s.ops → MadeFor t devices s.block → binding_fault s t devices ≡ None → AllTakeAny m (keeps_size blocks) 1 s.ops
  all-take n made h =
      let b = bound s t devices h in
      let lines = length-drop (length s.faults) s.lines in
      let many : length s.ops ≤ length (drop (length s.faults) s.lines) = omega arith in
      let few : length s.faults ≤ length s.lines = omega arith in
      takes-each m (keeps_size blocks) 1 s.ops
      (λ j l. let z : suc j ≡ 1 + j = omega arith in subst (λ (k : ℕ). OpTakesAny m (keeps_size blocks) k (op_at s.ops j)) z
      (op-takes (suc j) (op_at s.ops j) (no-fault t devices s.block s.ops (drop (length s.faults) s.lines) j many b.ops l)
      (λ v c e w. block-takes (suc j) v c (all-led s t devices made few b.faults (suc j) v c (asked-by s.ops j l ∙ e) w))))

pub takes-over : (m : Setting) (s : Script) (t : Table) (units : List UnitSpec) (us : List Stored) (logs : ℕ) (opening : State) → length s.lines ≡ length s.faults + length s.ops → MadeFor t (map info_of units) s.block → binding_fault s t (map info_of units) ≡ None → IsSettingOf m s t (map info_of units) logs → m.site ≡ behind s units
    → shapes_of us ≡ units → AreStored us → opening.blocks ≡ blocks_told us → AllTakeAny m (keeps_size opening.blocks) 1 s.ops
takes-over m s t units us logs opening n made h is site e stored b =
    subst
    (λ (x : List UnitSpec). MadeFor t (map info_of x) s.block → binding_fault s t (map info_of x) ≡ None → IsSettingOf m s t (map info_of x) logs → m.site ≡ behind s x → AllTakeAny m (keeps_size opening.blocks) 1 s.ops)
    e (λ made' h' is' site'. all-take m s t (map info_of (shapes_of us)) logs opening.blocks is' (long-told m s t us logs opening stored b is' site') n made' h') made h is site
