-- A script that was bound to a volume over units that tell their blocks: its setting, and where its blocks lie.
use Rattle.std.proofs.Common.{◌≡◌, ◌<◌, ◌≤◌, ℕ, ◌+◌, ◌*◌, false, List, [], ◌∷◌, length, drop, map, replicate, refl, sym, ap, ◌∙◌, subst, arith, None, length-append}
use Rattle.std.proofs.lemmas.List.{length-drop}
use Rattle.rig_api.specs.Target.{Stored}
use Rattle.rig_api.specs.declared.units.UnitSpec.{UnitSpec}
use Rattle.rig_discovery.specs.Discovery.{info_of}
use Rattle.stack_walk_laws.specs.Passed.{blocks_told, cell_in, shapes_of, State, target}
use Rattle.pi_tuple.specs.declared.checks.PiType.{PiType}
use Rattle.volume_table.specs.declared.device.DeviceInfo.{DeviceInfo}
use Rattle.volume_table.specs.Tables.{IsOn, MadeFor, Table}
use Rattle.run_laws.specs.Passed.{Setting}
use Rattle.stack_walk_laws.specs.Spots.{op_in as op_at}
use Rattle.script_laws.specs.Passed.{binding_fault, faults_fault, op_fault, Script}
use Rattle.script_laws.specs.Keeping.{IsOp as KeepsRules, Keeps}
use Rattle.script_run_laws.specs.Bound.{IsAddress, IsSettingOf}
use Rattle.script_run_laws.specs.Units.{AreStored, all_blocks}
use Rattle.script_run_laws.proofs.Ops.{each-at, no-fault}
use Rattle.script_run_laws.proofs.Standing.{bound}
use Rattle.script_run_laws.proofs.Units.{over-units}

-- what it runs with, where no overwrite fails: behind each unit is a target with the script's faults armed, and the units' blocks have cells in turn
abbrev pub over : Script → Table → List UnitSpec → Setting
over s t units = record {
  mode = s.mode;
  ty = t.ty;
  size = s.block;
  entries = t.entries;
  site = record { faults = s.faults; device = target s.faults; cell = cell_in units };
  fails = λ i. false;
}

-- the cells with which it begins
abbrev pub at_first : Script → List Stored → State
at_first s us = record { bytes = replicate (4096 * s.pages) 0; blocks = blocks_told us; logs = replicate (all_blocks (shapes_of us)) []; fates = [] }

-- The script keeps the rules of its language and is bound to its volume over these units, each of whose blocks has the size of a stored block.
pub record IsBoundOver (s : Script) (t : Table) (us : List Stored) : Type 0 where
  pub keeps : Keeps s
  pub lines : length s.lines ≡ length s.faults + length s.ops
  pub made : MadeFor t (map info_of (shapes_of us)) s.block
  pub bound : binding_fault s t (map info_of (shapes_of us)) ≡ None
  pub stored : AreStored us

pub own-setting : (s : Script) (t : Table) (units : List UnitSpec) → IsSettingOf (over s t units) s t (map info_of units) (all_blocks units)
own-setting s t units = over-units (over s t units) s t units refl refl refl refl refl refl

told-count : (us : List Stored) → all_blocks (shapes_of us) ≡ length (blocks_told us)
told-count [] = refl
told-count (u ∷ us) = ap (λ n. length u.blocks + n) (told-count us) ∙ sym (length-append u.blocks (blocks_told us))

pub on-address : (devices : List DeviceInfo) (ty : PiType) (size dev lba : ℕ) → IsOn devices ty size dev lba 1 → IsAddress devices dev lba
on-address devices ty size dev lba h = let ends = h.ends in record { known = h.known; begins = h.begins; ends = omega arith }

-- each address has a cell
pub cell-there : (s : Script) (t : Table) (us : List Stored) (dev lba : ℕ) → IsOn (map info_of (shapes_of us)) t.ty s.block dev lba 1 → cell_in (shapes_of us) dev lba < length (blocks_told us)
cell-there s t us dev lba h = subst (λ n. cell_in (shapes_of us) dev lba < n) (told-count us) ((own-setting s t (shapes_of us)).logged dev lba (on-address (map info_of (shapes_of us)) t.ty s.block dev lba h))

-- ---- its ops, by their numbers

pub op-keeps : (s : Script) → Keeps s → (i : ℕ) → i < length s.ops → KeepsRules s.mode.dix s.pages s.block (op_at s.ops i)
op-keeps s k i l = each-at (KeepsRules s.mode.dix s.pages s.block) s.ops i k.ops_are l

pub op-fine : (s : Script) (t : Table) (us : List Stored) → IsBoundOver s t us → (i : ℕ) → i < length s.ops → op_fault t (map info_of (shapes_of us)) s.block (op_at s.ops i) ≡ None
op-fine s t us b i l =
    let lines = length-drop (length s.faults) s.lines in
    let total = b.lines in
    let many : length s.ops ≤ length (drop (length s.faults) s.lines) = omega arith in
    no-fault t (map info_of (shapes_of us)) s.block s.ops (drop (length s.faults) s.lines) i many (bound s t (map info_of (shapes_of us)) b.bound).ops l

pub faults-fine : (s : Script) (t : Table) (us : List Stored) → IsBoundOver s t us → faults_fault t (map info_of (shapes_of us)) s.block s.ops [] s.faults s.lines ≡ None
faults-fine s t us b = (bound s t (map info_of (shapes_of us)) b.bound).faults

pub few-faults : (s : Script) (t : Table) (us : List Stored) → IsBoundOver s t us → length s.faults ≤ length s.lines
few-faults s t us b = let total = b.lines in omega arith
