-- What the walk of a mirror asks of its setting, over units that tell their blocks.
use Rattle.std.proofs.Common.{◌≤◌, List, map, refl, subst, arith}
use Rattle.rig_api.specs.Target.{Stored}
use Rattle.rig_discovery.specs.Discovery.{info_of}
use Rattle.volume_table.specs.declared.device.DeviceInfo.{DeviceInfo}
use Rattle.volume_table.specs.Places.{place_in}
use Rattle.volume_table.specs.Tables.{MadeFor}
use Rattle.dix_adapter.specs.Ways.{blocks_told, shapes_of}
use Rattle.walk_laws.specs.Settings.{Setting}
use Rattle.script_text.specs.declared.script.Script.{Script}
use Rattle.mirror_volume.proofs.LegsPassed.{told-long, one-each, over-units}
use Rattle.mirror_volume.specs.LegsPassed.{table_of, all_blocks}
use Rattle.mirror_laws.specs.LegByLeg.{DeliversWhole, HasLegs}
use Rattle.mirror_laws.specs.Sizes.{HasSizes}
use Rattle.mirror_laws.proofs.Sizes.{delivers_whole}
use Rattle.mirror_volume.specs.MirrorScript.{IsMirrorScript}
use Rattle.mirror_volume.proofs.Asked.{asked}
use Rattle.mirror_volume.proofs.Suits.{block_sizes}
use Rattle.mirror_volume.proofs.Renumbered.{still}
use Rattle.mirror_volume.specs.Standing.{IsMirrorOver, half_of, mirror_setting}

module _ (s : Script) (devices : List DeviceInfo) (us : List Stored) (is : IsMirrorOver s devices us) where
  abbrev pub m : Setting
  m = mirror_setting s devices us

  pub fits : IsMirrorScript s (table_of s devices) (half_of s devices)
  fits = asked s (table_of s devices) devices is.bound.keeps is.bound.lines is.bound.bound

  pub small : s.block ≤ 4096
  small = (block_sizes s.block fits.block_is).1

  pub made-over : MadeFor (table_of s devices) (map info_of (shapes_of us)) s.block
  made-over = subst (λ (ds : List DeviceInfo). MadeFor (table_of s devices) ds s.block) is.units is.bound.made

  pub legs : HasLegs m (half_of s devices)
  legs = record {
    unshifted = λ at op. still s.faults fits.flips at op;
    long = fits.long;
    one_cell_each = one-each m s (table_of s devices) (map info_of (shapes_of us)) (all_blocks (shapes_of us)) made-over
        (over-units m s (table_of s devices) (shapes_of us) refl refl refl refl refl refl);
  }

  pub sizes : HasSizes m (blocks_told us)
  sizes = record {
    device = refl;
    protect = (let g = fits.protect_is.range.low_is in omega (arith, g));
    stored = λ v l. told-long us (table_of s devices).ty s.block (place_in s.entries v).0 (place_in s.entries v).1 is.stored (made-over.inside v l);
  }

  pub delivers : DeliversWhole m (blocks_told us)
  delivers = delivers_whole m (half_of s devices) (blocks_told us) legs sizes (blocks_told us) (λ c. refl)
