use Rattle.std.proofs.Common.{ℕ, ◌<◌, Some, ap, subst, ◌∙◌}
use Rattle.std.specs.Prelude.{All}
use Rattle.headline.proofs.bytes.rig_over.Goals as goal

pub returns : goal.returns
returns c = record { image = c.new-2.ensures.image ∙ ap Some c.new.ensures.bytes; bytes = subst (All (λ (x : ℕ). x < 256)) c.deref.ensures.value c.are_bytes.ensures }
