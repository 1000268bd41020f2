-- In a walk without faults each block of a write that is sent is taken.
use Rattle.std.proofs.Common.{◌≡◌, ℕ, suc, Bool, true, false, ◌&&◌, if◌then◌else◌, List, [], ◌∷◌, length, map, Option, Some, None, sym, ap, subst, ◌∙◌, arith, length-append, ◌+◌}
use Rattle.std.specs.Prelude.{IfOk, IfSome, Result, Ok, Err, not}
use Rattle.std.specs.List.{AllByRecursion as Each}
use Rattle.page_pool.specs.Cells.{gather}
use Rattle.pi_tuple.specs.Finds.{is_zero}
use Rattle.pi_tuple.specs.Tuples.{tuple_bytes}
use Rattle.pi_tuple.specs.declared.checks.Check.{Check}
use Rattle.pi_tuple.specs.declared.tuple.Tuple.{Tuple}
use Rattle.fault_schedule.specs.declared.fault.FaultLine.{FaultLine}
use Rattle.integrity_payload.specs.declared.payload.Owner.{Owner}
use Rattle.bio_core.specs.declared.fate.Why.{Why}
use Rattle.rig_api.specs.Frames.{frame_of}
use Rattle.rig_api.specs.Passing.{to_medium}
use Rattle.block_path.specs.declared.route.Route.{Route}
use Rattle.block_path.specs.Acts.{State, act, tell}
use Rattle.block_path.specs.Blocks.{ActAnswer, Sent, own_frame, own_tuple, read_by, written_by}
use Rattle.block_path.specs.Routes.{Device, by_target, host_size, passage, target, wire_size}
use Rattle.block_path.specs.Serial.{plain, plain_tells}
use Rattle.block_path.specs.WayIn.{Delivers, Spoils, Stops, WayIn}
use Rattle.block_path.specs.WayOut.{at_device, from_adapter, mapped_out, to_wire, way_out}
use Rattle.block_path.proofs.Cells.{gather_length}
use Rattle.block_path.proofs.Sizes.{mapped_sizes, out_size}
use Rattle.stack_ops.specs.declared.op.Op.{Op}
use Rattle.volume_table.specs.Places.{volume_len}
use Rattle.walk_laws.specs.CalmRun.{AllFit, IsCalm}
use Rattle.walk_laws.specs.ScriptWalk.{act_of, acts_from, acts_of}
use Rattle.walk_laws.specs.Settings.{Setting, route}
use Rattle.walk_laws.specs.Steps.{Alters, Reads, Seals, Sets, Shows, Step, Writes, WritesPi, steps_of}
use Rattle.walk_laws.proofs.CalmRuns.{op_meets}
use Rattle.walk_laws.proofs.PlainSteps.{AllMeet, Meets}
use Rattle.run_laws.specs.Records.{put_sent, sents}
use Rattle.run_laws.proofs.Labelled.{each_both, tells_append}
use Rattle.lab_laws.specs.Passing.{IsWhole, WalkPasses, WasTaken, width}
use Rattle.lab_laws.proofs.Taken.{block_passes}
use Rattle.small_laws.proofs.Tests.{never}

-- A device stores what a target would.
abbrev pub Takes : Device → Type 0
Takes device = (r : Route) (frame stored : List ℕ) → to_medium [] (passage [] r) frame ≡ Ok stored → (left : List ℕ) × (device.stores r frame ≡ Ok left)

pub target_takes : Takes (target [])
target_takes r frame stored e = (stored, ap by_target e)

abbrev Taken : (bytes : ℕ) → ActAnswer → Type 0
Taken bytes a = IfSome a.sent (λ e. IsWhole bytes e.dir e.came)

-- ---- a block

module _ (device : Device) (takes : Takes device) (r : Route) (back : List ℕ) (log : List (List ℕ)) where
  onto_device : (carried : List ℕ) (came : Result (List ℕ) Why) → length carried ≡ wire_size r → (left : List ℕ) × (came ≡ Ok left) → Taken (wire_size r) (written_by r (at_device carried came) back log).answer
  onto_device carried (Ok stored) l h = l
  onto_device carried (Err why) l h = absurd (let e = h.1 in cc)

  out_of_adapter : (came : Result (List ℕ) Check) → IfOk came (λ carried. (stored : List ℕ) × (to_medium [] (passage [] r) carried ≡ Ok stored)) → IfOk came (λ f. length f ≡ wire_size r) → Taken (wire_size r) (written_by r (from_adapter device r came) back log).answer
  out_of_adapter (Err check) h l = tt
  out_of_adapter (Ok carried) h l = onto_device carried (device.stores r carried) l (takes r carried h.0 h.1)

  goes_through : (faults : List FaultLine) (frame : List ℕ) → faults ≡ [] → length frame ≡ host_size r → (r.mode.dix ≡ false → r.mode.mask ≡ 0) → Taken (wire_size r) (written_by r (way_out faults device r frame) back log).answer
  goes_through faults frame none l free =
      let mapped = mapped_out r frame in
      let k = (mapped_sizes r frame l).0 in
      subst (λ fs. Taken (wire_size r) (written_by r (way_out fs device r frame) back log).answer) (sym none) (out_of_adapter (to_wire [] r mapped) (block_passes r mapped k free) (out_size [] r mapped k))

read_taken : (bytes : ℕ) (r : Route) (owner : Owner) (w : WayIn) (size after : ℕ) → Taken bytes (read_by r owner w size after).answer
read_taken bytes r owner (Stops why) size after = tt
read_taken bytes r owner (Spoils why carried) size after = tt
read_taken bytes r owner (Delivers carried frame) size after = tt

own_length : (dix : Bool) (size : ℕ) (body : List ℕ) (t : Tuple) → length body ≡ size → length (if dix then frame_of body t else body) ≡ (if dix then size + 8 else size)
own_length true size body t l = let a = length-append body (tuple_bytes t) in omega (arith, a, l)
own_length false size body t l = l

host_length : (dix : Bool) (size : ℕ) (frame : List ℕ) → dix ≡ true → length frame ≡ size + 8 → length frame ≡ (if dix then size + 8 else size)
host_length true size frame d l = l
host_length false size frame d l = never d

-- ---- a walk

module _ (m : Setting) (takes : Takes m.site.device) (faults : m.site.faults ≡ []) (free : m.mode.dix ≡ false → m.mode.mask ≡ 0) where
  step_taken : (step : Step) (s : State) → Meets m (volume_len m.entries) step → Taken (width m) (tell (act_of m step) s)
  step_taken (Sets at values) s h = tt
  step_taken (Shows at) s h = tt
  step_taken (Seals body tuple app rtag) s h = tt
  step_taken (Writes b app body) s h =
      let r = route m b in
      let seen = gather 0 body s.bytes in
      goes_through m.site.device takes r _ _ m.site.faults (own_frame r app seen) faults (own_length m.mode.dix m.size seen (own_tuple r app seen) (gather_length 0 body s.bytes ∙ h.1.0)) free
  step_taken (WritesPi b frame) s h =
      let r = route m b in
      goes_through m.site.device takes r _ _ m.site.faults (gather 0 frame s.bytes) faults (host_length m.mode.dix m.size (gather 0 frame s.bytes) h.1.1 (gather_length 0 frame s.bytes ∙ h.1.0)) free
  step_taken (Reads b owner to) s h = read_taken (width m) (route m b) owner _ _ _
  step_taken (Alters dev lba change) s h = tt

  steps_taken : (steps : List Step) (s : State) → AllMeet m (volume_len m.entries) steps → Each (Taken (width m)) (plain_tells act tell (map (act_of m) steps) s)
  steps_taken [] s h = tt
  steps_taken (step ∷ steps) s h = (step_taken step s h.0, steps_taken steps (act (act_of m step) s) h.1)

  ops_taken : (i : ℕ) (ops : List Op) (s : State) → AllFit m ops → Each (Taken (width m)) (plain_tells act tell (acts_from m i ops) s)
  ops_taken i [] s h = tt
  ops_taken i (op ∷ ops) s h =
      let one = acts_of m i op in
      let more = acts_from m (suc i) ops in
      subst (Each (Taken (width m))) (sym (tells_append one more s))
      (each_both (Taken (width m)) (plain_tells act tell one s) (plain_tells act tell more (plain act one s)) (steps_taken (steps_of m i op) s (op_meets m i op h.0)) (ops_taken (suc i) ops (plain act one s) h.1))

on_record : (m : Setting) (answers : List ActAnswer) → Each (Taken (width m)) answers → Each (WasTaken m) (sents answers)
on_record m [] h = tt
on_record m (a ∷ answers) h = by a.sent h.0 (on_record m answers h.1)
  where
    by : (o : Option Sent) → IfSome o (WasTaken m) → Each (WasTaken m) (sents answers) → Each (WasTaken m) (put_sent o (sents answers))
    by None g rest = rest
    by (Some e) g rest = (g, rest)

pub sents_taken : (m : Setting) (ops : List Op) (opening : State) → Takes m.site.device → m.site.faults ≡ [] → (m.mode.dix ≡ false → m.mode.mask ≡ 0) → AllFit m ops → Each (WasTaken m) (sents (plain_tells act tell (acts_from m 1 ops) opening))
sents_taken m ops opening takes faults free fit = on_record m (plain_tells act tell (acts_from m 1 ops) opening) (ops_taken m takes faults free 1 ops opening fit)

-- where an application tag is expected the host has tuples
pub freed : (m : Setting) → IsCalm m → m.mode.dix ≡ false → m.mode.mask ≡ 0
freed m c e = c.mask (ap (λ d. d && (m.mode.dif && not (is_zero m.ty))) e)

pub walk_passes : WalkPasses
walk_passes m ops opening c fit = sents_taken m ops opening (subst Takes (sym c.device) target_takes) c.faults (freed m c) fit
