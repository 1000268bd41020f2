-- What is asked of the commands in flight before one is added.
use Rattle.std.proofs.Common.{ℕ, List, refl, set, ◌+◌}
use Rattle.bio_core.specs.declared.bio.Bio.{Bio}
use Rattle.bio_core.specs.declared.fate.Fate.{Fate}
use Rattle.merge_queue.specs.Groups.{without}
use Rattle.stack_laws.specs.Plan.{Plan}
use Rattle.stack_laws.specs.View.{queue_at}
use Rattle.stack_steps.specs.declared.machine.Machine.{Machine}
use Rattle.stack_steps.specs.Does.{Sending}
use Rattle.stack_steps.proofs.Keep.{Room, flight-room, shows-send}
use Rattle.stack_steps.proofs.machine.Machine.fly.Goals as goal

-- there is room for the group
room-at : (p : Plan) (s : Machine) (d : ℕ) (group : List Bio) (fates : List Fate) → Sending p s d group fates → Room p s.flight group fates
room-at p s d group fates r =
    flight-room p s.gate s.ops.items s.live.items s.queues.items s.flight s.steps (set r.view.queues d (without r.place (queue_at r.view d))) r.view d r.place group fates
    r.taken.holds.shows r.taken.can r.group_is r.settles

pub push-requires-clause-commands : goal.push-requires-clause-commands
push-requires-clause-commands c = (room-at _ _ _ _ _ c.requires.1.1).commands

pub push-requires-clause-bios : goal.push-requires-clause-bios
push-requires-clause-bios c = (room-at _ _ _ _ _ c.requires.1.1).bios

pub push-requires-clause-fates : goal.push-requires-clause-fates
push-requires-clause-fates c = (room-at _ _ _ _ _ c.requires.1.1).fates

pub returns : goal.returns
returns c = λ plan fine v i cut t e a. record {
  shows = shows-send plan c.args.self.now.gate c.args.self.now.ops.items c.args.self.now.live.items c.args.self.now.queues.items c.args.self.now.flight c.push.new.self c.args.self.now.steps (c.args.self.now.steps + 1) v c.args.d i cut c.args.group.now c.args.fates.now
      fine t.holds.shows t.can a e c.push.ensures.commands c.push.ensures.room refl;
  room = t.holds.room;
}
