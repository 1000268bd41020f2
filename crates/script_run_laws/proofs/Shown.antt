-- A bound script over clean devices, each of whose faults can be shown: all that its reads under faults ask.
use Rattle.std.proofs.Common.{◌≡◌, ◌<◌, ◌≤◌, ℕ, suc, ◌+◌, ◌*◌, Bool, true, false, ◌&&◌, List, [], ◌∷◌, length, map, refl, sym, ◌∙◌, subst, arith, ℤ, pos, negsuc, nat_abs, Some, None}
use Rattle.std.specs.Prelude.{eqb, if◌then◌else◌, unwrap_or}
use Rattle.std.specs.List.{list_any}
use Rattle.std.proofs.lemmas.List.{length-replicate}
use Rattle.fault_schedule.specs.Altered.{is_same, moved_by, shift_of}
use Rattle.fault_schedule.specs.declared.fault.Crossing.{Crossing}
use Rattle.fault_schedule.specs.declared.fault.Crossing.TheVariants.{AdapterToTarget, TargetToMedium}
use Rattle.fault_schedule.specs.declared.fault.FaultKind.{FaultKind}
use Rattle.fault_schedule.specs.declared.fault.FaultKind.TheVariants.{Flip as FlipKind, Shift as ShiftKind, Keep as KeepKind, Fail as FailKind}
use Rattle.fault_schedule.specs.declared.fault.FaultLine.{FaultLine}
use Rattle.pi_tuple.specs.declared.checks.PiType.TheVariants.{One}
use Rattle.rig_api.specs.Target.{Stored}
use Rattle.rig_discovery.specs.Discovery.{info_of}
use Rattle.std.specs.List.{list_any}
use Rattle.stack_walk_laws.specs.Passed.{blocks_told, moved, shapes_of}
use Rattle.volume_table.specs.declared.device.DeviceInfo.{DeviceInfo}
use Rattle.volume_table.specs.Places.{place_in, volume_len}
use Rattle.volume_table.specs.Tables.{Table}
use Rattle.run_laws.specs.Passed.{Setting, NoEscape, accounted, detectable, steps_from, Op, Fetch, FetchPi, Fill, Overwrite, Put, Seal, Show, Wait, Write, WritePi}
use Rattle.run_laws.specs.ShownRun.{AllAreFetched, AllBind, AllLand, AllLandNear, AllStayNear, AreCleanWhereRead, Binds, HasCells, IsAccountedRun, IsShownRun, Lands, LiesOn}
use Rattle.stack_walk_laws.specs.Spots.{op_in as op_at}
use Rattle.script_laws.specs.Passed.{op_fault, request_of, both_fault, data_fault, is_third_line, Script}
use Rattle.script_laws.specs.Keeping.{Each, IsFault, IsKind, IsOp as KeepsRules, IsShift}
use Rattle.script_laws.proofs.OpForms.{no_fault}
use Rattle.script_run_laws.proofs.Addresses.{AreLed, all-led, good-change}
use Rattle.script_run_laws.proofs.AtTarget.{told-long}
use Rattle.script_run_laws.proofs.Bodies.{alone-of, both-of}
use Rattle.script_run_laws.proofs.Calm.{tag-fits}
use Rattle.script_run_laws.proofs.Ops.{in-range, placed-op}
use Rattle.script_run_laws.proofs.OverUnits.{IsBoundOver, at_first, cell-there, faults-fine, few-faults, on-address, op-fine, op-keeps, over, own-setting}
use Rattle.script_run_laws.proofs.Rooms.{body-cells, both-cells}
use Rattle.script_run_laws.proofs.Shifts.{clear-is}
use Rattle.script_run_laws.proofs.Spreads.{asked-by}
use Rattle.script_run_laws.proofs.Suits.{stack-op}

-- ---- shifts

abs-near : (z : ℤ) → IsShift z → nat_abs z ≤ 64
abs-near (pos n) h = h.high_is
abs-near (negsuc n) h = h

shift-near : (third : Bool) (size : ℕ) (ops : List Op) (faults : List FaultLine) → Each (IsFault third size ops) faults → (at : Crossing) (op : ℕ) → nat_abs (shift_of faults at op) ≤ 64
shift-near third size ops [] e at op = omega arith
shift-near third size ops (f ∷ faults) e at op = by (is_same f.at at && eqb f.op op) f.kind e.0.kind_is (shift_of faults at op) (shift-near third size ops faults e.1 at op)
  where
    by : (mine : Bool) (kind : FaultKind) → IsKind size f kind → (rest : ℤ) → nat_abs rest ≤ 64 → nat_abs (unwrap_or (if mine then moved_by kind else None) rest) ≤ 64
    by false kind k rest h = h
    by true (FlipKind off bytes) k rest h = h
    by true (ShiftKind moves) k rest h = abs-near moves k.2
    by true (KeepKind bytes) k rest h = h
    by true FailKind k rest h = h

-- what binding op i to the volume has of a request: its blocks are shifted by little, and fetched where the device has blocks
record IsReached (s : Script) (t : Table) (us : List Stored) (i v n : ℕ) : Type 0 where
  near : AllStayNear (over s t (shapes_of us)) i v n
  fetched : AllAreFetched (over s t (shapes_of us)) (map info_of (shapes_of us)) i v n

reached : (s : Script) (t : Table) (us : List Stored) → IsBoundOver s t us → (i v n : ℕ) → AreLed t (map info_of (shapes_of us)) s i v n → IsReached s t us i v n
reached s t us b i v n a = record {
  near = λ k l. record {
    near = shift-near (list_any is_third_line s.faults) s.block s.ops s.faults b.keeps.faults_are AdapterToTarget i;
    above = sym (clear-is (place_in t.entries (v + k)).1 (shift_of s.faults AdapterToTarget i) (a.wire k l).clear);
  };
  fetched = λ k l. (a.medium k l).on;
}

-- where the disk misdirects them
near-lands : (s : Script) (t : Table) (us : List Stored) → IsBoundOver s t us → (i v n : ℕ) → AreLed t (map info_of (shapes_of us)) s i v n → AllLandNear (over s t (shapes_of us)) (map info_of (shapes_of us)) i v n
near-lands s t us b i v n a k l e = record {
  near = shift-near (list_any is_third_line s.faults) s.block s.ops s.faults b.keeps.faults_are TargetToMedium i;
  above = sym (clear-is (moved (place_in t.entries (v + k)).1 (shift_of s.faults AdapterToTarget i)) (shift_of s.faults TargetToMedium i) (a.stored k l).clear);
  there = (a.stored k l).on;
}

-- ---- ops

abbrev Reaches : Script → Table → List Stored → (i : ℕ) → Op → Type 0
Reaches s t us i op = (v n : ℕ) → request_of op ≡ Some (v, n) → v + n ≤ volume_len t.entries → IsReached s t us i v n

binds-op : (s : Script) (t : Table) (us : List Stored) (i : ℕ) (op : Op) → KeepsRules s.mode.dix s.pages s.block op → op_fault t (map info_of (shapes_of us)) s.block op ≡ None → Reaches s t us i op → Binds (over s t (shapes_of us)) (map info_of (shapes_of us)) (4096 * s.pages) i op
binds-op s t us i (Fill seg byte) k h r = tt
binds-op s t us i (Put page off bytes) k h r = tt
binds-op s t us i (Show seg) k h r = tt
binds-op s t us i (Seal n body tuples app rtag) k h r = tt
binds-op s t us i (Write v n body app) k h r =
    ((placed-op (over s t (shapes_of us)) t (map info_of (shapes_of us)) s.mode.dix s.pages s.block (Write v n body app) refl refl (stack-op s.mode.dix s.pages s.block (Write v n body app) k) h).blocks, (tag-fits app k.ranges.1, (r v n refl (in-range t v n h)).near))
binds-op s t us i (Fetch v n body) k h r =
    let a = alone-of s.pages s.block n body (no_fault (data_fault s.pages s.block n body) _ _ k.rules) in
    let x = r v n refl (in-range t v n h) in
    ((placed-op (over s t (shapes_of us)) t (map info_of (shapes_of us)) s.mode.dix s.pages s.block (Fetch v n body) refl refl (stack-op s.mode.dix s.pages s.block (Fetch v n body) k) h).blocks, (body-cells s.pages s.block n body a, (x.near, x.fetched)))
binds-op s t us i (WritePi v n body tuples) k h r =
    let p = (placed-op (over s t (shapes_of us)) t (map info_of (shapes_of us)) s.mode.dix s.pages s.block (WritePi v n body tuples) refl refl (stack-op s.mode.dix s.pages s.block (WritePi v n body tuples) k) h).blocks in
    (p.0, (p.1, (r v n refl (in-range t v n h)).near))
binds-op s t us i (FetchPi v n body tuples) k h r =
    let b = both-of s.pages s.block n body tuples (no_fault (both_fault s.pages s.block n body tuples) _ _ k.rules) in
    let p = (placed-op (over s t (shapes_of us)) t (map info_of (shapes_of us)) s.mode.dix s.pages s.block (FetchPi v n body tuples) refl refl (stack-op s.mode.dix s.pages s.block (FetchPi v n body tuples) k) h).blocks in
    let x = r v n refl (in-range t v n h) in
    (p.0, (p.1, (both-cells s.pages s.block n body tuples b, (x.near, x.fetched))))
binds-op s t us i (Overwrite dev lba change) k h r = (good-change t (map info_of (shapes_of us)) s.block dev lba change h).to
binds-op s t us i Wait k h r = tt

lands-op : (s : Script) (t : Table) (us : List Stored) (i : ℕ) (op : Op) → op_fault t (map info_of (shapes_of us)) s.block op ≡ None →
    ((v n : ℕ) → request_of op ≡ Some (v, n) → v + n ≤ volume_len t.entries → AllLandNear (over s t (shapes_of us)) (map info_of (shapes_of us)) i v n) → Lands (over s t (shapes_of us)) (map info_of (shapes_of us)) i op
lands-op s t us i (Fill seg byte) h r = tt
lands-op s t us i (Put page off values) h r = tt
lands-op s t us i (Show seg) h r = tt
lands-op s t us i (Seal n body tuples app rtag) h r = tt
lands-op s t us i (Write v n body app) h r = r v n refl (in-range t v n h)
lands-op s t us i (Fetch v n body) h r = tt
lands-op s t us i (WritePi v n body tuples) h r = r v n refl (in-range t v n h)
lands-op s t us i (FetchPi v n body tuples) h r = tt
lands-op s t us i (Overwrite dev lba change) h r = tt
lands-op s t us i Wait h r = tt

lands-each : (m : Setting) (devices : List DeviceInfo) (i : ℕ) (ops : List Op) → ((j : ℕ) → j < length ops → Lands m devices (i + j) (op_at ops j)) → AllLand m devices i ops
lands-each m devices i [] h = tt
lands-each m devices i (op ∷ ops) h =
    let here : i + 0 ≡ i = omega arith in (
      subst (λ (k : ℕ). Lands m devices k op) here (h 0 (omega arith)),
      lands-each m devices (suc i) ops (λ j l. let z : i + suc j ≡ suc i + j = omega arith in subst (λ (k : ℕ). Lands m devices k (op_at ops j)) z (h (suc j) (omega arith))),
    )

binds-each : (m : Setting) (devices : List DeviceInfo) (bytes i : ℕ) (ops : List Op) → ((j : ℕ) → j < length ops → Binds m devices bytes (i + j) (op_at ops j)) → AllBind m devices bytes i ops
binds-each m devices bytes i [] h = tt
binds-each m devices bytes i (op ∷ ops) h =
    let here : i + 0 ≡ i = omega arith in (
      subst (λ (k : ℕ). Binds m devices bytes k op) here (h 0 (omega arith)),
      binds-each m devices bytes (suc i) ops (λ j l. let z : i + suc j ≡ suc i + j = omega arith in subst (λ (k : ℕ). Binds m devices bytes k (op_at ops j)) z (h (suc j) (omega arith))),
    )

all-bind : (s : Script) (t : Table) (us : List Stored) → IsBoundOver s t us → AllBind (over s t (shapes_of us)) (map info_of (shapes_of us)) (4096 * s.pages) 1 s.ops
all-bind s t us b = binds-each (over s t (shapes_of us)) (map info_of (shapes_of us)) (4096 * s.pages) 1 s.ops
    (λ j l. let z : suc j ≡ 1 + j = omega arith in subst (λ (k : ℕ). Binds (over s t (shapes_of us)) (map info_of (shapes_of us)) (4096 * s.pages) k (op_at s.ops j)) z
    (binds-op s t us (suc j) (op_at s.ops j) (op-keeps s b.keeps j l) (op-fine s t us b j l)
    (λ v n e w. reached s t us b (suc j) v n (all-led s t (map info_of (shapes_of us)) b.made (few-faults s t us b) (faults-fine s t us b) (suc j) v n (asked-by s.ops j l ∙ e) w))))

all-land : (s : Script) (t : Table) (us : List Stored) → IsBoundOver s t us → AllLand (over s t (shapes_of us)) (map info_of (shapes_of us)) 1 s.ops
all-land s t us b = lands-each (over s t (shapes_of us)) (map info_of (shapes_of us)) 1 s.ops
    (λ j l. let z : suc j ≡ 1 + j = omega arith in subst (λ (k : ℕ). Lands (over s t (shapes_of us)) (map info_of (shapes_of us)) k (op_at s.ops j)) z
    (lands-op s t us (suc j) (op_at s.ops j) (op-fine s t us b j l)
    (λ v n e w. near-lands s t us b (suc j) v n (all-led s t (map info_of (shapes_of us)) b.made (few-faults s t us b) (faults-fine s t us b) (suc j) v n (asked-by s.ops j l ∙ e) w))))

-- ---- devices

pub lies-on : (s : Script) (t : Table) (us : List Stored) → IsBoundOver s t us → LiesOn (over s t (shapes_of us)) (map info_of (shapes_of us))
lies-on s t us b = record { inside = b.made.inside; alone = b.made.alone }

pub has-cells : (s : Script) (t : Table) (us : List Stored) → IsBoundOver s t us → HasCells (over s t (shapes_of us)) (map info_of (shapes_of us)) (blocks_told us)
has-cells s t us b =
    let devices = map info_of (shapes_of us) in
    record {
      within = λ dev lba h. cell-there s t us dev lba h;
      apart = λ dev lba other at h k e. (own-setting s t (shapes_of us)).apart dev lba other at (on-address devices t.ty s.block dev lba h) (on-address devices t.ty s.block other at k) e;
      size = λ dev lba h. told-long us t.ty s.block dev lba b.stored h;
    }

pub shown-run : (s : Script) (t : Table) (us : List Stored) → IsBoundOver s t us → t.ty ≡ One → s.mode.dix ≡ true → s.mode.dif ≡ true → s.mode.protect ≡ 1 → AreCleanWhereRead (over s t (shapes_of us)) (map info_of (shapes_of us)) (blocks_told us)
    → NoEscape (over s t (shapes_of us)) 1 s.ops (at_first s us) → detectable (over s t (shapes_of us)) (steps_from (over s t (shapes_of us)) 1 s.ops) (at_first s us) ≡ true → IsShownRun (over s t (shapes_of us)) (map info_of (shapes_of us)) s.ops (at_first s us)
shown-run s t us b ty dix dif protect clean no_escape shown = record {
  checked = record { ty = ty; dix = dix; dif = dif; protect = protect; device = refl };
  lies = lies-on s t us b;
  cells = has-cells s t us b;
  clean = clean;
  bind = subst (λ n. AllBind (over s t (shapes_of us)) (map info_of (shapes_of us)) n 1 s.ops) (sym (length-replicate (4096 * s.pages) 0)) (all-bind s t us b);
  no_escape = no_escape;
  shown = shown;
}

pub accounted-run : (s : Script) (t : Table) (us : List Stored) → IsBoundOver s t us → t.ty ≡ One → s.mode.dix ≡ true → s.mode.dif ≡ true → s.mode.protect ≡ 1 → AreCleanWhereRead (over s t (shapes_of us)) (map info_of (shapes_of us)) (blocks_told us)
    → NoEscape (over s t (shapes_of us)) 1 s.ops (at_first s us) → accounted (over s t (shapes_of us)) (steps_from (over s t (shapes_of us)) 1 s.ops) (at_first s us) ≡ true → IsAccountedRun (over s t (shapes_of us)) (map info_of (shapes_of us)) s.ops (at_first s us)
accounted-run s t us b ty dix dif protect clean no_escape all = record {
  checked = record { ty = ty; dix = dix; dif = dif; protect = protect; device = refl };
  lies = lies-on s t us b;
  cells = has-cells s t us b;
  clean = clean;
  bind = subst (λ n. AllBind (over s t (shapes_of us)) (map info_of (shapes_of us)) n 1 s.ops) (sym (length-replicate (4096 * s.pages) 0)) (all-bind s t us b);
  land = all-land s t us b;
  no_escape = no_escape;
  accounted = all;
}
