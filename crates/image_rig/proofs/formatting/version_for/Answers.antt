use Rattle.std.proofs.Common.{sym, ap, ◌∙◌}
use Rattle.std.specs.Prelude.{if◌then◌else◌}
use Rattle.rig_api.specs.declared.units.Version.TheVariants.{First, Second}
use Rattle.image_rig.proofs.Formats.{first_is_small}
use Rattle.image_rig.proofs.formatting.version_for.Goals as goal

pub returns-then-are_small : goal.returns-then-are_small
returns-then-are_small c = sym (ap (λ b. if b then First else Second) (first_is_small c.args.units.now ∙ sym c.are_small.ensures ∙ c.if-are_small.true))

pub returns-else-are_small : goal.returns-else-are_small
returns-else-are_small c = sym (ap (λ b. if b then First else Second) (first_is_small c.args.units.now ∙ sym c.are_small.ensures ∙ c.if-are_small.false))
