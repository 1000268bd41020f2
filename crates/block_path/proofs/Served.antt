-- What comes of a block that the medium may fail.
use Rattle.std.proofs.Common.{◌≡◌, ℕ, Bool, true, false, List}
use Rattle.std.specs.Prelude.{Result, Ok, Err}
use Rattle.bio_core.specs.declared.fate.Why.{Why}
use Rattle.bio_core.specs.declared.fate.Why.TheVariants.{Medium}
use Rattle.block_path.specs.Routes.{sends_unless, stores_unless}

-- what holds of each refusal, and of what the target accepts, holds where the medium may fail
pub stored_or : (P : Result (List ℕ) Why → Type 0) → ((why : Why) → P (Err why)) → (c : Bool) (came : Result (List ℕ) Why) → P came → P (stores_unless c came)
stored_or P refused false came h = h
stored_or P refused true (Ok frame) h = refused Medium
stored_or P refused true (Err why) h = h

pub sent_or : (P : Result (List ℕ) Why → Type 0) → P (Err Medium) → (c : Bool) (came : Result (List ℕ) Why) → P came → P (sends_unless c came)
sent_or P refused false came h = h
sent_or P refused true came h = refused
