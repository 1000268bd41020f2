use Rattle.std.proofs.Common.{◌≡◌, ◌+◌, ◌*◌, ◌-◌, ◌++◌, false, length, take}
use Rattle.nvme_front.specs.Buffers.{frames_out}
use Rattle.nvme_front.proofs.buffers.put_frames.Given as goal

abbrev pub invariant-loop-k : goal.invariant-loop-k
invariant-loop-k l = record {
  frames : take l.at l.frames ++ frames_out l.ty l.command l.size l.k (l.command.count - l.k) l.data l.tuples ≡ frames_out l.ty l.command l.size 0 l.command.count l.body l.meta;
  at : l.at + (l.command.count - l.k) * (l.size + 8) ≡ l.command.count * (l.size + 8);
  block : length l.data ≡ (l.command.count - l.k) * l.size;
  tuples : l.command.pract ≡ false → length l.tuples ≡ (l.command.count - l.k) * 8;
  long : length l.frames ≡ length l.initial.frames;
}
