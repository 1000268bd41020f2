use Rattle.std.proofs.Common.{◌≡◌, ℕ, ◌+◌, ◌*◌, ◌-◌, List, Some, length}
use Rattle.dix_base.specs.Stores.{WasWritten}
use Rattle.rig_api.specs.Target.{onto_medium, passage}
use Rattle.target_model.proofs.Keeping.{keeps}
use Rattle.target_model.proofs.Writing.{Wrote}
use Rattle.target_model.proofs.transfer.write_blocks.Given as goal

abbrev pub invariant-loop-k : goal.invariant-loop-k
invariant-loop-k g l = record {
  told : (bytes : List ℕ) → (g.S.Store.state l.initial.store).bytes ≡ Some bytes
      → Wrote (keeps l.tamper l.labels l.stored l.place bytes (λ k frame. onto_medium l.tamper (passage l.blocks.unit l.blocks.fields l.blocks.lba l.labels k) frame)) l.blocks.lba l.sent l.blocks.fields.n l.stored l.k l.rest l.out l.place bytes (g.S.Store.state l.store).bytes;
  rest : length l.rest ≡ l.sent * (l.blocks.fields.n - l.k);
  at : l.at ≡ l.place + l.stored * l.k;
  buffer : length l.buffer ≡ 4104;
  store : WasWritten (g.S.Store.state l.initial.store) (g.S.Store.state l.store);
}
