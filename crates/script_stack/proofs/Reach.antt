-- The devices of a script that is bound to a volume are the rig's.
use Rattle.std.proofs.Common.{◌≡◌, ◌<◌, ◌≤◌, ℕ, zero, suc, ◌+◌, Bool, true, false, not, ◌&&◌, ◌||◌, List, [], ◌∷◌, length, map, drop, refl, sym, ap, ◌∙◌, arith, Option, Some, None}
use Rattle.std.specs.Prelude.{eqb, if◌then◌else◌, pos, slice_get, slice_index_or}
use Rattle.std.proofs.lemmas.Bool.{and_parts, eqb-true, or_parts, and_from, not-false}
use Rattle.std.proofs.lemmas.List.{length-drop}
use Rattle.pi_tuple.specs.declared.checks.PiType.{PiType}
use Rattle.rig_api.specs.declared.change.Change.{Change}
use Rattle.rig_api.specs.declared.change.Change.TheVariants.{Copy, Flip}
use Rattle.rig_api.specs.Telling.{Standing, can_change, has_address, no_spec, source_of, spec_at, specs_of}
use Rattle.script_run_laws.specs.Passed.{info_of}
use Rattle.rig_api.specs.Frames.{stored_size}
use Rattle.rig_api.specs.declared.units.UnitSpec.{UnitSpec}
use Rattle.script_lines.specs.declared.kind.ScriptKind.TheVariants.{BadFault}
use Rattle.script_text.specs.Passed.{Op, Fetch, FetchPi, Fill, Overwrite, Put, Seal, Show, Wait, Write, WritePi}
use Rattle.volume_table.specs.declared.device.DeviceInfo.{DeviceInfo}
use Rattle.volume_table.specs.Places.{place_in, volume_len}
use Rattle.volume_table.specs.Tables.{MadeFor, Table}
use Rattle.script_text.specs.declared.script.Script.{Script}
use Rattle.script_text.specs.Bindings.{binding_fault, is_alterable, is_bad_change, is_on, is_type, op_fault}
use Rattle.stack_core.specs.declared.stack.Stack.{Stack}
use Rattle.stack_core.specs.Doing.{CanReach}
use Rattle.stack_core.specs.Passed.{op_in as op_at}
use Rattle.stack_core.specs.Stacks.{Reaches}
use Rattle.script_run_laws.proofs.Ops.{no-fault}
use Rattle.script_run_laws.proofs.Standing.{bound}
use Rattle.script_run_laws.proofs.Addresses.{same-type}

get-there : (ds : List DeviceInfo) (i : ℕ) (d : DeviceInfo) → slice_get ds i ≡ Some d → i < length ds
get-there [] i d h = absurd cc
get-there (x ∷ ds) zero d h = omega arith
get-there (x ∷ ds) (suc i) d h = let l = get-there ds i d h in omega arith

get-info : (us : List UnitSpec) (i : ℕ) (d : DeviceInfo) → slice_get (map info_of us) i ≡ Some d → info_of (slice_index_or us i no_spec) ≡ d
get-info [] i d h = absurd cc
get-info (u ∷ us) zero d h = cc
get-info (u ∷ us) (suc i) d h = get-info us i d h

-- a device that can be altered at an address
record Altered (ty : PiType) (size lba : ℕ) (o : Option DeviceInfo) : Type 0 where
  device : DeviceInfo
  known : o ≡ Some device
  type_same : device.ty ≡ ty
  size_same : device.size ≡ size
  inside : is_on device lba (pos 0) ≡ true

altered : (ty : PiType) (size lba : ℕ) (o : Option DeviceInfo) → is_alterable ty size lba o ≡ true → Altered ty size lba o
altered ty size lba None h = absurd cc
altered ty size lba (Some d) h =
    let a = and_parts (is_type d.ty ty) (eqb d.size size && is_on d lba (pos 0)) h in
    let b = and_parts (eqb d.size size) (is_on d lba (pos 0)) a.1 in
    record { device = d; known = refl; type_same = same-type d.ty ty a.0; size_same = eqb-true d.size size b.0; inside = b.1 }

address : (u : UnitSpec) (lba : ℕ) → is_on (info_of u) lba (pos 0) ≡ true → has_address u lba ≡ true
address u lba h =
    let z : lba + 0 ≡ lba = omega arith in
    rw z at h

no-fault-of : (b : Bool) → (if b then Some BadFault else None) ≡ None → b ≡ false
no-fault-of true h = absurd cc
no-fault-of false h = refl

-- a block that can be altered, as a rig that tells its image has it
record Stands (st : Standing) (ty : PiType) (size dev lba : ℕ) : Type 0 where
  has : has_address (spec_at st dev) lba ≡ true
  type_same : (spec_at st dev).ty ≡ ty
  size_same : (spec_at st dev).size ≡ size

stands : (st : Standing) (ty : PiType) (size dev lba : ℕ) (devices : List DeviceInfo) → devices ≡ map info_of (specs_of st) → is_alterable ty size lba (slice_get devices dev) ≡ true → Stands st ty size dev lba
stands st ty size dev lba devices e h =
    let a = altered ty size lba (slice_get devices dev) h in
    let g : info_of (spec_at st dev) ≡ a.device = get-info (specs_of st) dev a.device (ap (λ ds. slice_get ds dev) (sym e) ∙ a.known) in
    record {
      has = address (spec_at st dev) lba (ap (λ d. is_on d lba (pos 0)) g ∙ a.inside);
      type_same = ap (λ d. d.ty) g ∙ a.type_same;
      size_same = ap (λ d. d.size) g ∙ a.size_same;
    }

source-there : (change : Change) (t : Table) (devices : List DeviceInfo) (size dev : ℕ) → dev < length devices → is_bad_change t devices size change ≡ false → source_of change dev < length devices
source-there (Flip off bytes) t devices size dev l h = l
source-there (Copy from at) t devices size dev l h =
    let a = altered t.ty size at (slice_get devices from) (not-false (is_alterable t.ty size at (slice_get devices from)) h) in
    get-there devices from a.device a.known

same-lengths : (s d : Standing) (ty : PiType) (size from dev : ℕ) → (spec_at s from).ty ≡ ty → (spec_at s from).size ≡ size → (spec_at s dev).ty ≡ ty → (spec_at s dev).size ≡ size →
    eqb (stored_size (spec_at s from).ty (spec_at s from).size) (stored_size (spec_at s dev).ty (spec_at s dev).size) ≡ true
same-lengths s d ty size from dev a b c e = rw (a, b, c, e) (let n = stored_size ty size in grind arith)

change-there : (change : Change) (st : Standing) (t : Table) (devices : List DeviceInfo) (size dev lba : ℕ) → devices ≡ map info_of (specs_of st) → is_alterable t.ty size lba (slice_get devices dev) ≡ true → is_bad_change t devices size change ≡ false → can_change st dev lba change ≡ true
change-there (Flip off bytes) st t devices size dev lba e h k = (stands st t.ty size dev lba devices e h).has
change-there (Copy from at) st t devices size dev lba e h k =
    let a = stands st t.ty size dev lba devices e h in
    let b = stands st t.ty size from at devices e (not-false (is_alterable t.ty size at (slice_get devices from)) k) in
    and_from (has_address (spec_at st dev) lba) _ a.has (and_from (has_address (spec_at st from) at) _ b.has (same-lengths st st t.ty size from dev b.type_same b.size_same a.type_same a.size_same))

op-reaches : (op : Op) (told : Bool) (st : Standing) (t : Table) (devices : List DeviceInfo) (size : ℕ) → st.devices ≡ length devices → (told ≡ true → devices ≡ map info_of (specs_of st)) → op_fault t devices size op ≡ None → CanReach told st op
op-reaches (Fill seg byte) told st t devices size n e h = tt
op-reaches (Put page off bytes) told st t devices size n e h = tt
op-reaches (Show seg) told st t devices size n e h = tt
op-reaches (Seal k body tuples app rtag) told st t devices size n e h = tt
op-reaches (Write v k body app) told st t devices size n e h = tt
op-reaches (Fetch v k body) told st t devices size n e h = tt
op-reaches (WritePi v k body tuples) told st t devices size n e h = tt
op-reaches (FetchPi v k body tuples) told st t devices size n e h = tt
op-reaches (Overwrite dev lba change) told st t devices size n e h =
    let a = or_parts (is_bad_change t devices size change) (not (is_alterable t.ty size lba (slice_get devices dev))) (no-fault-of (is_bad_change t devices size change || not (is_alterable t.ty size lba (slice_get devices dev))) h) in
    let w = not-false (is_alterable t.ty size lba (slice_get devices dev)) a.1 in
    let x = altered t.ty size lba (slice_get devices dev) w in
    let l = get-there devices dev x.device x.known in
    let s = source-there change t devices size dev l a.0 in
    record { device = omega arith; source = omega arith; place = λ y. change-there change st t devices size dev lba (e y) w a.0 }
op-reaches Wait told st t devices size n e h = tt

pub reaches : (x : Stack) (s : Script) (t : Table) (devices : List DeviceInfo) (told : Bool) (st : Standing) → x.sheet.ops ≡ s.ops → ((n : ℕ) → ((v : ℕ) → v < volume_len t.entries → (place_in t.entries v).0 < n) → x.sheet.devices ≤ n) →
    length s.lines ≡ length s.faults + length s.ops → MadeFor t devices s.block → binding_fault s t devices ≡ None → st.devices ≡ length devices → (told ≡ true → devices ≡ map info_of (specs_of st)) → Reaches x told st
reaches x s t devices told st e least lines made good n tells =
    let l = length-drop (length s.faults) s.lines in
    let d = least (length devices) (λ v h. (made.inside v h).known) in
    record {
      devices = omega arith;
      blocks = λ i h. (rw e (let k : i < length s.ops = rw e at h in op-reaches (op_at s.ops i) told st t devices s.block n tells (no-fault t devices s.block s.ops (drop (length s.faults) s.lines) i (omega arith) (bound s t devices good).ops k)));
    }
