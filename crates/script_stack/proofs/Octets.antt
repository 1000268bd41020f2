-- The blocks of a told image are of bytes, and so is each of them.
use Rattle.std.proofs.Common.{ℕ, zero, suc, ◌≡◌, ◌<◌, List, [], ◌∷◌, get_or, Option, Some}
use Rattle.std.specs.Prelude.{All}
use Rattle.std.proofs.lemmas.List.Elements.{All-append, All-head, All-nil, All-tail}
use Rattle.dix_base.specs.Told.{AreOctets}
use Rattle.rig_api.specs.Telling.{Standing, units_told}
use Rattle.rig_api.proofs.Octets.{told_octets}
use Rattle.rig_api.specs.Target.{Stored}
use Rattle.dix_adapter.specs.Ways.{blocks_told}

all_blocks : (us : List Stored) → All (λ (u : Stored). All (All (λ x. x < 256)) u.blocks) us → All (All (λ x. x < 256)) (blocks_told us)
all_blocks [] h = All-nil (All (λ (x : ℕ). x < 256))
all_blocks (u ∷ us) h =
    All-append (All (λ (x : ℕ). x < 256)) u.blocks (blocks_told us) (All-head (λ (v : Stored). All (All (λ x. x < 256)) v.blocks) u us h) (all_blocks us (All-tail (λ (v : Stored). All (All (λ x. x < 256)) v.blocks) u us h))

-- the blocks that a rig tells whose image is of bytes
pub blocks_octets : (s : Standing) (image : Option (List ℕ)) (us : List Stored) → AreOctets image → units_told s image ≡ Some us → All (All (λ x. x < 256)) (blocks_told us)
blocks_octets s image us h e = all_blocks us (told_octets s image us h e)

-- one of them, if there is one
pub block_octets : (blocks : List (List ℕ)) (i : ℕ) → All (All (λ x. x < 256)) blocks → All (λ x. x < 256) (get_or blocks i [])
block_octets [] i h = All-nil (λ (x : ℕ). x < 256)
block_octets (b ∷ blocks) zero h = All-head (All (λ (x : ℕ). x < 256)) b blocks h
block_octets (b ∷ blocks) (suc i) h = block_octets blocks i (All-tail (All (λ (x : ℕ). x < 256)) b blocks h)
