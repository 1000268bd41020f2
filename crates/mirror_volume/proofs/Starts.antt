-- A new mirror stands at the beginning of its walk.
use Rattle.std.proofs.Common.{◌≡◌, List, [], replicate, refl}
use Rattle.page_pool.specs.Pages.{IsBlank}
use Rattle.rig_api.specs.Target.{Stored}
use Rattle.volume_table.specs.declared.device.DeviceInfo.{DeviceInfo}
use Rattle.script_text.specs.declared.script.Script.{Script}
use Rattle.mirror_volume.proofs.LegsPassed.{blank-cells}
use Rattle.mirror_laws.specs.Mirror.{fresh}
use Rattle.mirror_volume.specs.OnOps.{Sides}
use Rattle.mirror_volume.specs.Standing.{StandsAt, half_of}

pub stands-first : (s : Script) (devices : List DeviceInfo) (us : List Stored) (sides : Sides) → IsBlank s.pages sides.pool → sides.marks ≡ replicate (half_of s devices) fresh → StandsAt s devices us sides [] us
stands-first s devices us sides blank marks = record { pages = blank-cells s.pages sides.pool blank; marks = marks; shapes = refl; blocks = refl; replies_are = refl }
