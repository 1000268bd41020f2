use Rattle.std.proofs.Common.{◌≡◌, replicate}
use Rattle.std.specs.Vec.{vec_capacity}
use Rattle.bio_core.specs.declared.fate.Fate.TheVariants.{Good}
use Rattle.dix_adapter.proofs.outward.set_fates.Given as goal

abbrev pub invariant-loop : goal.invariant-loop
invariant-loop l = record {
  items : l.fates.items ≡ replicate l.counter Good;
  capacity : vec_capacity l.fates ≡ vec_capacity l.initial.fates;
}
