use Rattle.std.specs.Prelude.{ℕ, ◌≡◌, List, [], ◌∷◌, ◌++◌, Result}
use Rattle.bio_core.specs.Bios.{Block}
use Rattle.bio_core.specs.declared.bio.Bio.{Bio}
use Rattle.bio_core.specs.declared.fate.Why.{Why}
use Rattle.dix_adapter.specs.Passed.{Outcome, LogEntry}
use Rattle.block_path.specs.Blocks.{Sent, Site}
use Rattle.dix_adapter.specs.Groups.{blocks_in, label_of, size}
use Rattle.run_laws.specs.Passed.{Setting}
use Rattle.run_laws.specs.Records.{came_of, recorded, stamped}

-- A group that was carried by one command, as it goes on record: block by block.

-- each block with what came of it, in turn; of the blocks behind the one at which the command ended nothing is on record
abbrev pub put_each : Site → List Block → List (Result (List ℕ) Why) → List Sent → List Sent
put_each s [] cames es = es
put_each s (b ∷ bs) [] es = es
put_each s (b ∷ bs) (came ∷ cames) es = put_each s bs cames (es ++ (stamped s es (label_of b) b.dir b.dev b.lba came ∷ []))

-- The new log has one command more: the frames of the blocks that are done, and why the command ended, where it ended before the last.
abbrev pub GoesOnRecord : Setting → List Bio → Outcome → (frames : List (List ℕ)) → (old new : List LogEntry) → Type 0
GoesOnRecord m req o frames old new = recorded m new ≡ put_each m.site (blocks_in req) (came_of (size req) o.done o.sense frames) (recorded m old)
