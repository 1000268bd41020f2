use Rattle.std.proofs.Common.{◌≡◌, ◌<◌, ℕ, length, slice_index_or}
use Rattle.range_gate.specs.declared.footprint.Footprint.{Footprint}
use Rattle.range_gate.specs.Prints.{KeptPrint}
use Rattle.range_gate.specs.Layout.{IsLayoutOf}
use Rattle.range_gate.proofs.gate.layouts_of.Given as goal

abbrev pub invariant-loop-f : goal.invariant-loop-f
invariant-loop-f l = record {
  count : length l.prints.items ≡ l.f-index;
  each : (i : ℕ) (d : Footprint) (e : KeptPrint) → i < l.f-index → IsLayoutOf (slice_index_or l.footprints i d) (slice_index_or l.prints.items i e);
}
