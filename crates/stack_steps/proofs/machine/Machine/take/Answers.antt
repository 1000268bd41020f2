-- What is asked of the queue from which a group is taken.
use Rattle.std.proofs.Common.{ℕ, ◌++◌, length, ap, sym, ◌∙◌, arith, get_or, []}
use Rattle.stack_laws.specs.Plan.{Plan}
use Rattle.stack_laws.specs.Steps.{can}
use Rattle.stack_steps.specs.declared.choice.Choice.TheVariants.{Send}
use Rattle.stack_steps.specs.declared.machine.Machine.{Machine}
use Rattle.stack_steps.specs.Does.{Ready}
use Rattle.merge_queue.specs.Groups.{group_in, without}
use Rattle.merge_queue.specs.Index.{Queued}
use Rattle.stack_steps.proofs.Keep.{Takes, takes, shows-taken}
use Rattle.stack_steps.proofs.Moved.{queue-got, queue-set, room-set}
use Rattle.stack_steps.proofs.machine.Machine.take.Goals as goal

-- the group that is taken
taken-at : (p : Plan) (s : Machine) (d i : ℕ) (r : Ready p s (Send d i)) → Takes p r.view s.queues.items d i
taken-at p s d i r = takes p s.gate s.ops.items s.live.items s.queues.items s.flight s.steps r.view d i r.step r.holds.shows r.can r.means

pub index_mut-requires : goal.index_mut-requires
index_mut-requires c = let k = taken-at _ _ _ _ c.requires.1.1 in omega (arith, k.there)

pub take-requires-clause-within : goal.take-requires-clause-within
take-requires-clause-within c = let k = taken-at _ _ _ _ c.requires.1.1 in rw (queue-got c.args.self.now.queues.items c.args.d c.index_mut.result.now k.there c.index_mut.ensures.value) k.within

pub take-requires-clause-room : goal.take-requires-clause-room
take-requires-clause-room c = let k = taken-at _ _ _ _ c.requires.1.1 in
    let z = ap (λ (q : Queued). length (group_in q.groups c.args.i)) (queue-got c.args.self.now.queues.items c.args.d c.index_mut.result.now k.there c.index_mut.ensures.value) in
    let n = ap length c.clear.ensures.items in
    omega (arith, k.short, z, n, c.clear.ensures.capacity, c.requires.1.0)

pub returns-clause-takes : goal.returns-clause-takes
returns-clause-takes c = λ plan v t h l m.
    let k = taken-at _ _ _ _ c.requires.1.1 in (
      record {
        can = ap (can plan v) (sym m) ∙ l;
        holds = record {
          shows = shows-taken plan c.args.self.now.gate c.args.self.now.ops.items c.args.self.now.live.items c.args.self.now.queues.items _ c.args.self.now.flight c.args.self.now.steps v c.args.d c.args.i t h.shows l m
              (queue-set c.args.self.now.queues.items c.args.d c.take.new.self c.index_mut.result.now (without c.args.i) k.there c.index_mut.ensures.value c.take.ensures.groups)
              (room-set c.args.self.now.queues.items c.args.d c.take.new.self c.index_mut.result.now c.index_mut.ensures.value c.take.ensures.room);
          room = h.room;
        };
      },
      c.take.ensures.into ∙ ap (λ z. z ++ group_in c.index_mut.result.now.groups c.args.i) c.clear.ensures.items ∙ ap (λ (q : Queued). group_in q.groups c.args.i) (queue-got c.args.self.now.queues.items c.args.d c.index_mut.result.now k.there c.index_mut.ensures.value) ∙ ap (λ z. get_or z c.args.i []) (takes _ _ _ _ _ _ _ v c.args.d c.args.i t h.shows l m).is,
    )
