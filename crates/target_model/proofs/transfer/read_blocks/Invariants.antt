use Rattle.std.proofs.Common.{◌≡◌, ℕ, ◌+◌, ◌*◌, List, Some, length, drop}
use Rattle.dix_base.specs.Stores.{WasRead}
use Rattle.rig_api.specs.Target.{off_medium, passage}
use Rattle.target_model.proofs.Reading.{Sent}
use Rattle.target_model.proofs.transfer.read_blocks.Given as goal

abbrev pub invariant-loop-k : goal.invariant-loop-k
invariant-loop-k g l = record {
  told : (bytes : List ℕ) → (g.S.Store.state l.initial.store).bytes ≡ Some bytes
      → Sent (λ k frame. off_medium l.tamper (passage l.blocks.unit l.blocks.fields l.blocks.lba l.labels k) frame) l.blocks.lba l.stored l.blocks.fields.n l.sent l.k (drop l.at bytes) (drop l.place bytes) l.initial.into l.into;
  into : length l.into ≡ length l.initial.into;
  at : l.at ≡ l.place + l.stored * l.k;
  end : l.end ≡ l.sent * l.k;
  buffer : length l.buffer ≡ 4104;
  store : WasRead (g.S.Store.state l.initial.store) (g.S.Store.state l.store);
}
