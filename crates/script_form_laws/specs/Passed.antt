-- Words of the crates below, for the crates above that stand on this one alone.
pub use Rattle.run_premises.specs.Forms.{accounts_by_form, escapes_none, shows_by_form}
