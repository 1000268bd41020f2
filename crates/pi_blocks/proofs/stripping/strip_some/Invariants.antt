use Rattle.std.proofs.Common.{◌≡◌, ℕ, ◌+◌, ◌^◌, List}
use Rattle.pi_blocks.specs.Blocks.{Checked, in_line}
use Rattle.pi_blocks.specs.Stripped.{AreStripped, marks}
use Rattle.pi_blocks.proofs.stripping.strip_some.Given as goal

abbrev pub invariant-loop-j : goal.invariant-loop-j
invariant-loop-j l = record {
  bit : l.bit ≡ 2 ^ l.j;
  bits : l.bits ≡ marks l.layout l.want l.blocks l.first l.j;
  told : Checked l.layout l.want (in_line l.layout l.blocks) 0 l.first l.fn.before → Checked l.layout l.want (in_line l.layout l.blocks) 0 (l.first + l.j) l.told;
  moved : (old : List ℕ) → AreStripped l.layout l.want l.first l.blocks old l.initial.body → AreStripped l.layout l.want (l.first + l.j) l.blocks old l.body;
}
