use Rattle.std.specs.Prelude.{ℕ, List, ◌++◌, codes, decimal}
use Rattle.rig_api.specs.Head.{fault_name}
use Rattle.script_lines.specs.Kinds.{kind_name, kind_number}
use Rattle.volume_table.specs.Faults.{kind_name as volume_kind_name, kind_number as volume_kind_number}
use Rattle.call_refusal.specs.declared.refusal.Refusal.{Refusal}
use Rattle.call_refusal.specs.declared.refusal.Refusal.TheVariants as refusal

-- the line of a fault of a script, or of a volume: what is at fault, its number, and the number and the name of the fault
abbrev pub fault_line : (what : List ℕ) → (place number : ℕ) → (name : List ℕ) → List ℕ
fault_line what place number name = what ++ (codes " " ++ (decimal place ++ (codes " " ++ (decimal number ++ (codes " " ++ (name ++ codes "\n"))))))

-- the text of a refusal
abbrev pub refusal_text : Refusal → List ℕ
refusal_text (refusal.Script fault) = fault_line (codes "script") fault.line (kind_number fault.kind) (kind_name fault.kind)
refusal_text (refusal.Image fault) = codes "image " ++ (fault_name fault ++ codes "\n")
refusal_text (refusal.BadCapacity dev) = codes "device " ++ (decimal dev ++ codes " BadCapacity\n")
refusal_text (refusal.Volume entry kind) = fault_line (codes "volume") entry (volume_kind_number kind) (volume_kind_name kind)
refusal_text refusal.RigFault = codes "rig fault\n"
refusal_text refusal.Memory = codes "no memory\n"
refusal_text refusal.ReadFault = codes "read fault\n"
