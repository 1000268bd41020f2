-- The blocks of a rig's units have cells one after another: each address has its own.
use Rattle.std.proofs.Common.{◌≡◌, ◌<◌, ◌≤◌, ℕ, zero, suc, ◌+◌, List, [], ◌∷◌, map, refl, sym, ap, ◌∙◌, subst, arith}
use Rattle.rig_api.specs.declared.units.UnitSpec.{UnitSpec}
use Rattle.rig_discovery.specs.Discovery.{info_of}
use Rattle.volume_table.specs.declared.device.DeviceInfo.{DeviceInfo}
use Rattle.volume_table.specs.Tables.{Table}
use Rattle.stack_walk_laws.specs.Passed.{cell_in}
use Rattle.run_laws.specs.Passed.{Setting}
use Rattle.script_laws.specs.Passed.{Script}
use Rattle.script_run_laws.specs.Bound.{IsAddress, IsSettingOf}
use Rattle.script_run_laws.specs.Units.{all_blocks}

behind : (d : DeviceInfo) (ds : List DeviceInfo) (dev lba : ℕ) → IsAddress (d ∷ ds) (suc dev) lba → IsAddress ds dev lba
behind d ds dev lba h = let k = h.known in record { known = omega arith; begins = h.begins; ends = h.ends }

cells-apart : (us : List UnitSpec) (dev lba other at : ℕ) → IsAddress (map info_of us) dev lba → IsAddress (map info_of us) other at → cell_in us dev lba ≡ cell_in us other at → (dev ≡ other) × (lba ≡ at)
cells-apart [] dev lba other at h k e = let l = h.known in absurd (omega arith)
cells-apart (u ∷ us) zero lba zero at h k e =
    let a : u.first ≤ lba = h.begins in
    let b : u.first ≤ at = k.begins in
    (refl, omega arith)
cells-apart (u ∷ us) zero lba (suc other) at h k e =
    let a : u.first ≤ lba = h.begins in
    let b : lba < u.first + u.blocks = h.ends in
    absurd (omega arith)
cells-apart (u ∷ us) (suc dev) lba zero at h k e =
    let a : u.first ≤ at = k.begins in
    let b : at < u.first + u.blocks = k.ends in
    absurd (omega arith)
cells-apart (u ∷ us) (suc dev) lba (suc other) at h k e =
    let r = cells-apart us dev lba other at (behind (info_of u) (map info_of us) dev lba h) (behind (info_of u) (map info_of us) other at k) (omega arith) in
    (ap suc r.0, r.1)

cell-below : (us : List UnitSpec) (dev lba : ℕ) → IsAddress (map info_of us) dev lba → cell_in us dev lba < all_blocks us
cell-below [] dev lba h = let l = h.known in absurd (omega arith)
cell-below (u ∷ us) zero lba h =
    let a : u.first ≤ lba = h.begins in
    let b : lba < u.first + u.blocks = h.ends in
    omega arith
cell-below (u ∷ us) (suc dev) lba h = let r = cell-below us dev lba (behind (info_of u) (map info_of us) dev lba h) in omega arith

pub over-units : (m : Setting) (s : Script) (t : Table) (us : List UnitSpec) → m.mode ≡ s.mode → m.ty ≡ t.ty → m.size ≡ s.block → m.entries ≡ t.entries → m.site.faults ≡ s.faults → m.site.cell ≡ cell_in us → IsSettingOf m s t (map info_of us) (all_blocks us)
over-units m s t us mode ty size entries faults cell =
    record {
      mode = mode;
      ty = ty;
      size = size;
      entries = entries;
      faults = faults;
      apart = λ dev lba other at h k e. cells-apart us dev lba other at h k (ap (λ (c : ℕ → ℕ → ℕ). c dev lba) (sym cell) ∙ e ∙ ap (λ (c : ℕ → ℕ → ℕ). c other at) cell);
      logged = λ dev lba h. subst (λ (c : ℕ → ℕ → ℕ). c dev lba < all_blocks us) (sym cell) (cell-below us dev lba h);
    }
