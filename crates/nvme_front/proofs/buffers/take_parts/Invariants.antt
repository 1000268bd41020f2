use Rattle.std.proofs.Common.{◌≡◌, ◌+◌, ◌*◌, ◌-◌, ◌++◌, length, take}
use Rattle.nvme_front.specs.Buffers.{parts}
use Rattle.nvme_front.proofs.buffers.take_parts.Given as goal

abbrev pub invariant-loop : goal.invariant-loop
invariant-loop l = record {
  parts : take l.at l.into ++ parts l.width l.from l.len (l.count - l.counter) l.rest ≡ parts l.width l.from l.len l.count l.frames;
  rest : length l.rest ≡ (l.count - l.counter) * l.width;
  at : l.at + (l.count - l.counter) * l.len ≡ l.count * l.len;
  long : length l.into ≡ length l.initial.into;
}
