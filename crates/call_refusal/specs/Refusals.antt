use Rattle.rig_api.specs.declared.rig.RigFault.{RigFault}
use Rattle.rig_api.specs.declared.rig.RigFault.TheVariants as rig
use Rattle.rig_discovery.specs.declared.discovery.BadCapacity.{BadCapacity}
use Rattle.rig_discovery.specs.declared.opening.Untold.{Untold}
use Rattle.rig_discovery.specs.declared.opening.Untold.TheVariants as untold
use Rattle.script_lines.specs.declared.kind.ScriptKind.{ScriptKind}
use Rattle.script_lines.specs.declared.kind.ScriptKind.TheVariants as kind
use Rattle.script_text.specs.declared.fault.ScriptFault.{ScriptFault}
use Rattle.dix_base.specs.declared.reading.Unread.{Unread}
use Rattle.dix_base.specs.declared.reading.Unread.TheVariants as unread
use Rattle.volume_table.specs.declared.fault.VolumeFault.{VolumeFault}
use Rattle.volume_table.specs.declared.fault.VolumeFault.TheVariants as volume
use Rattle.call_refusal.specs.declared.refusal.Refusal.{Refusal}
use Rattle.call_refusal.specs.declared.refusal.Refusal.TheVariants as refusal

-- want of memory
abbrev pub of_memory : Refusal
of_memory = refusal.Memory

-- the refusal of an image that isn't opened or written
abbrev pub of_rig : RigFault → Refusal
of_rig rig.Failed = refusal.RigFault
of_rig rig.Memory = refusal.Memory
of_rig fault = refusal.Image fault

-- the refusal of a device
abbrev pub of_capacity : BadCapacity → Refusal
of_capacity bad = refusal.BadCapacity bad.dev

-- the refusal of an image whose devices aren't told
abbrev pub of_untold : Untold → Refusal
of_untold (untold.Rig fault) = of_rig fault
of_untold (untold.Device bad) = of_capacity bad

-- the refusal of a volume
abbrev pub of_volume : VolumeFault → Refusal
of_volume (volume.At entry kind) = refusal.Volume entry kind
of_volume volume.Memory = refusal.Memory

abbrev pub of_kind : ScriptKind → ScriptFault → Refusal
of_kind kind.Memory fault = refusal.Memory
of_kind _ fault = refusal.Script fault

-- the refusal of a text with this fault; want of memory is none of the text's
abbrev pub of_script : ScriptFault → Refusal
of_script fault = of_kind fault.kind fault

-- the refusal of a source that isn't read to its end
abbrev pub of_source : Unread → Refusal
of_source unread.Failed = refusal.ReadFault
of_source unread.Memory = refusal.Memory
of_source unread.TooMany = refusal.Script (record { line = 0; kind = kind.TooMany })
