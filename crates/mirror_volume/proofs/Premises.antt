-- What one good leg asks, from the premises and from what reading and binding have seen to.
use Rattle.std.proofs.Common.{◌≡◌, ◌<◌, ℕ, suc, ◌*◌, true, ◌&&◌, List, [], ◌∷◌, length, map, None, refl, sym, subst, arith}
use Rattle.std.proofs.lemmas.Bool.{and_parts}
use Rattle.std.proofs.lemmas.List.{length-replicate}
use Rattle.pi_tuple.specs.declared.checks.PiType.TheVariants.{One}
use Rattle.rig_discovery.specs.Discovery.{info_of}
use Rattle.rig_api.specs.Target.{Stored}
use Rattle.dix_adapter.specs.Ways.{blocks_told, shapes_of}
use Rattle.stack_ops.specs.declared.op.Op.{Op}
use Rattle.stack_ops.specs.declared.op.Op.TheVariants.{Fetch, FetchPi, Fill, Overwrite, Put, Seal, Show, Wait, Write, WritePi}
use Rattle.volume_table.specs.declared.device.DeviceInfo.{DeviceInfo}
use Rattle.volume_table.specs.Places.{volume_len}
use Rattle.volume_table.specs.Tables.{Table}
use Rattle.walk_laws.specs.Settings.{Setting}
use Rattle.run_laws.specs.ShownRun.{HasCells, IsChecked, LiesOn}
use Rattle.script_text.specs.Bindings.{or_else}
use Rattle.rig_api.specs.Frames.{stored_size}
use Rattle.script_text.specs.Ops.{data_fault}
use Rattle.script_text.specs.declared.script.Script.{Script}
use Rattle.script_laws.specs.Keeping.{IsOp as KeepsRules}
use Rattle.script_laws.proofs.OpForms.{no_fault}
use Rattle.script_stack.proofs.Passed.{told-long, alone-of, tag-fits, cell-there, on-address, op-keeps, own-setting, body-cells, or-none}
use Rattle.script_stack.specs.Causes.{table_of}
use Rattle.mirror_volume.specs.LegsPassed.{faults_fault, length_fault, mode_fault, names_blocks, op_fault}
use Rattle.mirror_volume.proofs.Asked.{none_when}
use Rattle.mirror_laws.specs.OneGood.{AllBind, Binds, IsMirrorRun}
use Rattle.mirror_volume.proofs.Ground.{fits, legs}
use Rattle.mirror_volume.proofs.Requests.{op-fits, overwrite-fits, request-fits}
use Rattle.mirror_volume.specs.Standing.{IsMirrorOver, half_of, mirror_setting, op_at}
use Rattle.mirror_volume.specs.Enough.{opening_over}
use Rattle.mirror_volume.specs.Premises.{IsOneGoodRun}

module _ (s : Script) (devices : List DeviceInfo) (us : List Stored) (is : IsMirrorOver s devices us) where
  abbrev m : Setting
  m = mirror_setting s devices us

  abbrev t : Table
  t = table_of s devices

  abbrev half : ℕ
  half = half_of s devices

  binds-op : (op : Op) → KeepsRules s.mode.dix s.pages s.block op → op_fault s.mode.protect t devices s.block op ≡ None → Binds m devices half (4096 * s.pages) op
  binds-op (Fill seg byte) k h = tt
  binds-op (Put page off bytes) k h = tt
  binds-op (Show seg) k h = tt
  binds-op (Seal n body tuples app rtag) k h = absurd cc
  binds-op (Write v n body app) k h =
      let r = request-fits s devices v n body is.bound (no_fault (data_fault s.pages s.block n body) _ _ k.rules) h in
      (r.inside, (r.long, tag-fits app k.ranges.1))
  binds-op (Fetch v n body) k h =
      let good = no_fault (data_fault s.pages s.block n body) _ _ k.rules in
      let r = request-fits s devices v n body is.bound good h in
      (r.inside, (r.long, body-cells s.pages s.block n body (alone-of s.pages s.block n body good)))
  binds-op (WritePi v n body tuples) k h = absurd cc
  binds-op (FetchPi v n body tuples) k h = absurd cc
  binds-op (Overwrite dev lba change) k h = (overwrite-fits s.mode.protect t devices s.block dev lba change h).to
  binds-op Wait k h = tt

  binds-each : (ops : List Op) → ((j : ℕ) → j < length ops → Binds m devices half (4096 * s.pages) (op_at ops j)) → AllBind m devices half (4096 * s.pages) ops
  binds-each [] h = tt
  binds-each (op ∷ ops) h = (h 0 (omega arith), binds-each ops (λ j l. h (suc j) (omega arith)))

  all-bind : AllBind m devices half (4096 * s.pages) s.ops
  all-bind = binds-each s.ops (λ j l. binds-op (op_at s.ops j) (op-keeps s is.bound.keeps j l) (op-fits s devices j is.bound l))

  -- ---- the devices

  pub lies-on : LiesOn m devices
  lies-on = record { inside = is.bound.made.inside; alone = is.bound.made.alone }

  cells-over : HasCells m (map info_of (shapes_of us)) (blocks_told us)
  cells-over =
      let told = map info_of (shapes_of us) in
      record {
        within = λ dev lba h. cell-there s t us dev lba h;
        apart = λ dev lba other at h k e. (own-setting s t (shapes_of us)).apart dev lba other at (on-address told t.ty s.block dev lba h) (on-address told t.ty s.block other at k) e;
        size = λ dev lba h. told-long us t.ty s.block dev lba is.stored h;
      }

  pub has-cells : HasCells m devices (blocks_told us)
  has-cells = subst (λ (ds : List DeviceInfo). HasCells m ds (blocks_told us)) (sym is.units) cells-over

  -- tuples pass between adapter and target
  pub dif-on : s.mode.dif ≡ true
  dif-on =
      let a = or-none (mode_fault s.mode t.ty) (or_else (length_fault (volume_len t.entries)) (or_else (faults_fault s.mode.protect (stored_size t.ty s.block) s.ops [] s.faults s.lines) _)) is.bound.bound in
      (and_parts s.mode.dif (names_blocks t.ty) (and_parts s.mode.dix (s.mode.dif && names_blocks t.ty) (none_when (s.mode.dix && (s.mode.dif && names_blocks t.ty)) _ a.0)).1).0

  pub checked-over : t.ty ≡ One → s.mode.protect ≡ 1 → IsChecked m
  checked-over ty protect = record { ty = ty; dix = (fits s devices us is).dix; dif = dif-on; protect = protect; device = refl }

  pub all-bound : AllBind m devices half (length (opening_over s us).bytes) s.ops
  all-bound = subst (λ n. AllBind m devices half n s.ops) (sym (length-replicate (4096 * s.pages) 0)) all-bind

  pub mirror-run : IsOneGoodRun s devices us → IsMirrorRun m devices half s.ops (opening_over s us)
  mirror-run p = record {
    checked = checked-over p.ty p.protect;
    unshifted = λ at op. (legs s devices us is).unshifted at op;
    long = (fits s devices us is).long;
    lies = lies-on;
    cells = has-cells;
    clean = p.clean;
    equal = p.equal;
    bind = all-bound;
    no_escape = p.no_escape;
    accounted = p.accounted;
    kept = p.kept;
    one_good = p.one_good;
  }
