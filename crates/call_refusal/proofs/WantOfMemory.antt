-- Want of memory is no fault of a text.
use Rattle.std.proofs.Common.{◌≡◌, ◌⊎◌, inl, inr, refl}
use Rattle.script_lines.specs.declared.kind.ScriptKind.{ScriptKind}
use Rattle.script_lines.specs.declared.kind.ScriptKind.TheVariants as kind
use Rattle.script_text.specs.declared.fault.ScriptFault.{ScriptFault}
use Rattle.call_refusal.specs.Refusals.{of_kind}
use Rattle.call_refusal.specs.declared.refusal.Refusal.TheVariants as refusal

pub of_either : (k : ScriptKind) (f : ScriptFault) → (of_kind k f ≡ refusal.Memory) ⊎ (of_kind k f ≡ refusal.Script f)
of_either kind.Memory f = inl refl
of_either _ f = inr refl
