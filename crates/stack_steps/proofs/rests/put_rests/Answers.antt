use Rattle.std.proofs.Common.{◌∙◌}
use Rattle.stack_steps.proofs.rests.put_rests.Goals as goal

pub put_next-at-requires-clause-can : goal.put_next-at-requires-clause-can
put_next-at-requires-clause-can g c =
    let inv = c.loop-at.invariant in
    record { ends = inv.ends; room = rw (inv.groups, inv.room) c.requires.room }

pub loop-at-preserved : goal.loop-at-preserved
loop-at-preserved g c =
    let inv = c.loop-at.invariant in
    let went = c.put_next-at.ensures.went in
    record {
      within = c.put_next-at.ensures.within;
      ends = went.ends;
      groups = went.groups ∙ inv.groups;
      room = went.room ∙ inv.room;
      capacity = c.put_next-at.ensures.capacity ∙ inv.capacity;
    }
