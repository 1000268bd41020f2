use Rattle.std.proofs.Common.{◌≡◌, ℕ, ◌+◌, ◌*◌, List, [], Some, length, drop}
use Rattle.dix_base.specs.Stores.{WasRead}
use Rattle.rig_api.specs.Frames.{sent_size}
use Rattle.rig_api.specs.Target.{off_medium, passage}
use Rattle.target_model.proofs.Reading.{Sent}
use Rattle.target_model.proofs.transfer.verify_blocks.Given as goal

abbrev pub invariant-loop-k : goal.invariant-loop-k
invariant-loop-k g l = record {
  told : (bytes : List ℕ) → (g.S.Store.state l.initial.store).bytes ≡ Some bytes
      → (into : List ℕ) × Sent (λ k frame. off_medium l.tamper (passage l.blocks.unit l.blocks.fields l.blocks.lba [] k) frame) l.blocks.lba l.stored l.blocks.fields.n (sent_size l.blocks.fields.protect l.blocks.unit.size) l.k (drop l.at bytes) (drop l.place bytes) [] into;
  at : l.at ≡ l.place + l.stored * l.k;
  buffer : length l.buffer ≡ 4104;
  store : WasRead (g.S.Store.state l.initial.store) (g.S.Store.state l.store);
}
