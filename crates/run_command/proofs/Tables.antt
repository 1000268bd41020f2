-- What a table asks of the devices.
use Rattle.std.proofs.Common.{All, List, [], ◌∷◌}
use Rattle.std.proofs.lemmas.List.Elements.{All-cons, All-nil}
use Rattle.call_refusal.specs.Passed.{Ends}
use Rattle.volume_table.specs.Tables.{EndFits}
use Rattle.volume_table.specs.declared.device.DeviceInfo.{DeviceInfo}

pub all_end : (ds : List DeviceInfo) → Ends ds → All EndFits ds
all_end [] h = All-nil EndFits
all_end (d ∷ ds) h = All-cons EndFits d ds h.0 (all_end ds h.1)
