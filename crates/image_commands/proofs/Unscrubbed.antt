-- An image whose devices aren't told isn't scrubbed.
use Rattle.std.proofs.Common.{ℕ, List, inl}
use Rattle.call_refusal.specs.Causes.{CauseUntold}
use Rattle.call_refusal.specs.declared.refusal.Refusal.{Refusal}
use Rattle.call_refusal.specs.declared.refusal.Refusal.TheVariants as refusal
use Rattle.image_commands.specs.Causes.{CauseUnscrubbed}
use Rattle.rig_api.specs.State.{RigState}

pub unscrubbed : (r : Refusal) (name : List ℕ) (old new : RigState) → CauseUntold r name old new → CauseUnscrubbed r name old new
unscrubbed refusal.Memory name old new c = inl c
unscrubbed _ name old new c = c
