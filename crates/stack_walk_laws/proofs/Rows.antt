-- A group of two blocks that ended at its second, and one that came whole, in a log worked by hand.
use Rattle.std.proofs.Common.{[], ◌∷◌, take, refl}
use Rattle.bio_core.specs.declared.bio.Bio.{Bio}
use Rattle.bio_core.specs.declared.request.Dir.TheVariants.{Read, Write}
use Rattle.dix_adapter.specs.Passed.{Outcome}
use Rattle.dix_adapter.specs.Groups.{no_bio}
use Rattle.run_laws.proofs.Passed.{formatted}
use Rattle.run_laws.proofs.RecordRows.{log, m, sense}
use Rattle.stack_walk_laws.specs.OnRecord.{GoesOnRecord}

abbrev written : Bio
written = record no_bio { op = 1; k = 0; count = 2; dev = 0; lba = 2; dir = Write }

abbrev read : Bio
read = record written { op = 2; dir = Read }

abbrev ended : Outcome
ended = record { done = 1; sense = sense 3 0x0C 0 }

abbrev whole : Outcome
whole = record { done = 2; sense = sense 0 0 0 }

write_goes : GoesOnRecord m (written ∷ []) ended (formatted 2 ∷ []) [] (take 1 log)
write_goes = refl

read_goes : GoesOnRecord m (read ∷ []) whole (formatted 2 ∷ formatted 2 ∷ []) (take 1 log) log
read_goes = refl
