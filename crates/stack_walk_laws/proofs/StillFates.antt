-- Fates of no block change no status.
use Rattle.std.proofs.Common.{ℕ, List, [], ◌∷◌, ◌≡◌, refl}
use Rattle.dix_adapter.specs.declared.adapter.Adapter.{Adapter}
use Rattle.bio_core.specs.declared.request.Io.{Io}
use Rattle.bio_core.specs.Bios.{Block}
use Rattle.stack_walk_laws.specs.Slots.{Status}
use Rattle.stack_walk_laws.specs.Sending.{in_fates, out_fates, with_fates}

pub still_out : (bs : List Block) (status : ℕ → ℕ → Status) → with_fates bs (out_fates bs []) status ≡ status
still_out [] status = refl
still_out (b ∷ bs) status = still_out bs status

pub still_in : (a : Adapter) (ios : List Io) (bs : List Block) (status : ℕ → ℕ → Status) → with_fates bs (in_fates a ios bs []) status ≡ status
still_in a ios [] status = refl
still_in a ios (b ∷ bs) status = still_in a ios bs status
