-- Words of the crates below, for the crates above that stand on this one alone.
pub use Rattle.bio_core.specs.Bios.{bio_with, part_with}
pub use Rattle.bio_core.specs.declared.bio.Bio.{Bio}
pub use Rattle.bio_core.specs.declared.fate.Fate.{Fate}
pub use Rattle.bio_core.specs.declared.fate.Fate.TheVariants.{Bad, Good, Untouched}
pub use Rattle.bio_core.specs.declared.fate.Why.TheVariants.{Medium}
pub use Rattle.bio_core.specs.declared.request.Dir.{Dir}
pub use Rattle.bio_core.specs.declared.request.Dir.TheVariants.{Read, Write}
