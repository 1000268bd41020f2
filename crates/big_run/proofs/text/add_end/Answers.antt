use Rattle.std.proofs.Common.{append_assoc}
use Rattle.big_run.proofs.text.add_end.Goals as goal

pub returns : goal.returns
returns c =
    rw (c.add-4.ensures, c.add_guard.ensures.items, c.add-3.ensures, c.add_count-2.ensures.items, c.from.ensures, c.add-2.ensures, c.add_count.ensures.items, c.add.ensures) (simp append_assoc)
