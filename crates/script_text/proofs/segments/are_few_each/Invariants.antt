use Rattle.std.proofs.Common.{◌≡◌, ◌*◌, ◌-◌}
use Rattle.page_pool.specs.Cuts.{past}
use Rattle.script_text.specs.Segments.{few_from}
use Rattle.script_text.proofs.segments.are_few_each.Given as goal

abbrev pub invariant-loop-block : goal.invariant-loop-block
invariant-loop-block l = record {
  few : few_from l.size (l._block * l.size) (l.n - l._block) l.list ≡ few_from l.size 0 l.n l.list;
  walk : l.walk ≡ past (l._block * l.size) l.list;
}
