-- What is asked of the groups that are joined.
use Rattle.std.proofs.Common.{ℕ, refl, ◌+◌, arith}
use Rattle.merge_queue.specs.Groups.{joined}
use Rattle.stack_laws.specs.Plan.{Plan}
use Rattle.stack_steps.specs.declared.choice.Choice.TheVariants.{Join}
use Rattle.stack_steps.specs.declared.machine.Machine.{Machine}
use Rattle.stack_steps.specs.Does.{Ready}
use Rattle.stack_steps.proofs.Keep.{Joins, joins-there, shows-join}
use Rattle.stack_steps.proofs.Moved.{queue-got, queue-set, room-set}
use Rattle.stack_steps.proofs.machine.Machine.join.Goals as goal

-- the groups that are joined
joined-at : (p : Plan) (s : Machine) (d i j : ℕ) (r : Ready p s (Join d i j)) → Joins p r.view s.queues.items d i j
joined-at p s d i j r = joins-there p s.gate s.ops.items s.live.items s.queues.items s.flight s.steps r.view d i j r.holds.shows (rw r.means at r.can)

pub index_mut-requires : goal.index_mut-requires
index_mut-requires c = let k = joined-at _ _ _ _ _ c.requires.1.1 in omega (arith, k.there)

pub join-requires-clause-first : goal.join-requires-clause-first
join-requires-clause-first c = let k = joined-at _ _ _ _ _ c.requires.1.1 in rw (queue-got c.args.self.now.queues.items c.args.d c.index_mut.result.now k.there c.index_mut.ensures.value) k.first

pub join-requires-clause-second : goal.join-requires-clause-second
join-requires-clause-second c = let k = joined-at _ _ _ _ _ c.requires.1.1 in rw (queue-got c.args.self.now.queues.items c.args.d c.index_mut.result.now k.there c.index_mut.ensures.value) k.second

pub join-requires-clause-other : goal.join-requires-clause-other
join-requires-clause-other c = (joined-at _ _ _ _ _ c.requires.1.1).other

pub join-requires-clause-behind : goal.join-requires-clause-behind
join-requires-clause-behind c = let k = joined-at _ _ _ _ _ c.requires.1.1 in rw (queue-got c.args.self.now.queues.items c.args.d c.index_mut.result.now k.there c.index_mut.ensures.value) k.behind

pub returns : goal.returns
returns c = λ plan cut fine v t h can m.
    let k = joined-at _ _ _ _ _ c.requires.1.1 in
    record {
      shows = rw m (shows-join plan c.args.self.now.gate c.args.self.now.ops.items c.args.self.now.live.items c.args.self.now.queues.items _ c.args.self.now.flight c.args.self.now.steps (c.args.self.now.steps + 1) v c.args.d c.args.i c.args.j cut
          fine h.shows (rw m at can)
          (queue-set c.args.self.now.queues.items c.args.d c.join.new.self c.index_mut.result.now (λ q. joined q c.args.i c.args.j) k.there c.index_mut.ensures.value c.join.ensures.groups)
          (room-set c.args.self.now.queues.items c.args.d c.join.new.self c.index_mut.result.now c.index_mut.ensures.value c.join.ensures.room) refl);
      room = h.room;
    }
