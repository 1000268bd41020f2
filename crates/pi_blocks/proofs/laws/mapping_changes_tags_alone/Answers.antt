use Rattle.pi_blocks.proofs.MapLaws.{maps_tags_alone}
use Rattle.pi_blocks.proofs.laws.mapping_changes_tags_alone.Goals as goal

pub returns : goal.returns
returns c = maps_tags_alone
