use Rattle.std.proofs.Common.{◌≡◌, ◌++◌, replicate}
use Rattle.std.specs.Vec.{vec_capacity}
use Rattle.bio_core.specs.declared.fate.Fate.TheVariants.{Untouched}
use Rattle.dix_adapter.proofs.outcome.add_untouched.Given as goal

abbrev pub invariant-loop : goal.invariant-loop
invariant-loop l = record {
  items : l.fates.items ≡ l.initial.fates.items ++ replicate l.counter Untouched;
  capacity : vec_capacity l.fates ≡ vec_capacity l.initial.fates;
}
