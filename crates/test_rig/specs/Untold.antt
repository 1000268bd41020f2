use Rattle.std.specs.Prelude.{ℕ, List, Option, None}
use Rattle.std.proofs.Common.{inl, inr}
use Rattle.rig_api.specs.Telling.{IsStanding, Standing}

-- what a rig tells of its devices holds too where it tells nothing
pub untold_stands : (s : Standing) (image : Option (List ℕ)) → IsStanding s image → IsStanding s None
untold_stands s image (inl none) = inl none
untold_stands s image (inr on) = inr (record { right = on.right; devices = on.devices; told = tt })
