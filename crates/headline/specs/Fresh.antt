-- What a rig over a freshly formatted image tells.
use Rattle.std.specs.Prelude.{◌≡◌, ◌<◌, true, false, List, map, Some, All}
use Rattle.dix_adapter.specs.Ways.{blocks_told, cell_in}
use Rattle.pi_tuple.specs.Finds.{is_zero}
use Rattle.rig_api.specs.State.{RigState}
use Rattle.rig_discovery.specs.Discovery.{info_of}
use Rattle.run_laws.specs.ShownRun.{DevicesAreClean}
use Rattle.rig_api.specs.Target.{Stored}
use Rattle.rig_api.specs.declared.units.UnitSpec.{UnitSpec}
use Rattle.volume_table.specs.declared.device.DeviceInfo.{DeviceInfo}
use Rattle.walk_laws.specs.PlainMap.{as_expected}
use Rattle.walk_laws.specs.Settings.{Setting}

-- The devices are those of the units. Their blocks are told, are bytes, and are clean for every volume over them of a type with tuples under which the application tag 0 is the expected one.
abbrev pub TellsFresh : List UnitSpec → List DeviceInfo → RigState → Type 0
TellsFresh units devices told =
    (us : List Stored) × (told.units ≡ Some us) × (devices ≡ map info_of units) × All (All (λ x. x < 256)) (blocks_told us)
    × ((m : Setting) → is_zero m.ty ≡ false → as_expected m 0 ≡ true → m.site.cell ≡ cell_in units → DevicesAreClean m devices (blocks_told us))
