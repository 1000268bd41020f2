-- What a completion asks of the command that it takes.
use Rattle.std.proofs.Common.{◌≡◌, ℕ, List, [], ◌++◌, length, arith, refl, ap, sym, ◌∙◌, get_or}
use Rattle.bio_core.specs.declared.bio.Bio.{Bio}
use Rattle.bio_core.specs.declared.fate.Fate.{Fate}
use Rattle.stack_laws.specs.Plan.{Plan}
use Rattle.stack_laws.specs.View.{Command, no_command}
use Rattle.stack_steps.specs.declared.choice.Choice.TheVariants.{Complete}
use Rattle.stack_steps.specs.declared.machine.Machine.{Machine}
use Rattle.stack_steps.specs.Does.{Ready}
use Rattle.stack_steps.specs.Fine.{Fine}
use Rattle.merge_queue.specs.Groups.{put_all}
use Rattle.stack_laws.specs.Rests.{rests}
use Rattle.stack_steps.proofs.Moved.{queue-got, queue-set, room-set}
use Rattle.stack_steps.proofs.Keep.{Completion, completion-at, complete-whole, in-flight}
use Rattle.stack_steps.proofs.machine.Machine.complete.Goals as goal

-- a list that was empty has what was added to it
landed : {A : Type 0} (xs new old added : List A) → xs ≡ new → new ≡ old ++ added → old ≡ [] → xs ≡ added
landed xs new old added e f n = e ∙ f ∙ ap (λ z. z ++ added) n

-- what is asked of the command in flight
settled-at : (p : Plan) (s : Machine) (i dev : ℕ) (bios : List Bio) (fates : List Fate) → Fine p → Ready p s (Complete i) →
    dev ≡ (get_or s.flight.commands i no_command).dev → bios ≡ (get_or s.flight.commands i no_command).bios → fates ≡ (get_or s.flight.commands i no_command).fates →
    Completion p s.ops.items s.queues.items dev bios fates
settled-at p s i dev bios fates f r d b e =
    completion-at p s.gate s.ops.items s.live.items s.queues.items s.flight s.steps r.view i r.step dev bios fates f r.holds.shows r.can r.means d b e

pub take-d-requires-clause-bios : goal.take-d-requires-clause-bios
take-d-requires-clause-bios g c = let k = (settled-at _ _ _ _ _ _ (g.met.P.Requests.fine c.args.plan.now) c.requires.ready refl refl refl) in let e = ap length c.clear.ensures.items in omega (arith, k.short, e, c.clear.ensures.capacity, c.requires.bios)

pub take-d-requires-clause-fates : goal.take-d-requires-clause-fates
take-d-requires-clause-fates g c = let k = (settled-at _ _ _ _ _ _ (g.met.P.Requests.fine c.args.plan.now) c.requires.ready refl refl refl) in let e = ap length c.clear-2.ensures.items in omega (arith, k.small, e, c.clear-2.ensures.capacity, c.requires.fates)

pub settle-requires-clause-each : goal.settle-requires-clause-each
settle-requires-clause-each g c = (settled-at _ _ _ _ _ _ (g.met.P.Requests.fine c.args.plan.now) c.requires.ready c.take-d.ensures.dev (landed _ _ _ _ c.deref.ensures.value c.take-d.ensures.bios c.clear.ensures.items) (landed _ _ _ _ c.deref-2.ensures.value c.take-d.ensures.fates c.clear-2.ensures.items)).each

pub settle-requires-clause-there : goal.settle-requires-clause-there
settle-requires-clause-there g c = (settled-at _ _ _ _ _ _ (g.met.P.Requests.fine c.args.plan.now) c.requires.ready c.take-d.ensures.dev (landed _ _ _ _ c.deref.ensures.value c.take-d.ensures.bios c.clear.ensures.items) (landed _ _ _ _ c.deref-2.ensures.value c.take-d.ensures.fates c.clear-2.ensures.items)).inside

pub index_mut-requires : goal.index_mut-requires
index_mut-requires g c = let k = settled-at _ _ _ _ _ _ (g.met.P.Requests.fine c.args.plan.now) c.requires.ready c.take-d.ensures.dev (landed _ _ _ _ c.deref-3.ensures.value c.take-d.ensures.bios c.clear.ensures.items) (landed _ _ _ _ c.deref-4.ensures.value c.take-d.ensures.fates c.clear-2.ensures.items) in omega (arith, k.device)

pub put_rests-requires-clause-few : goal.put_rests-requires-clause-few
put_rests-requires-clause-few g c = (settled-at _ _ _ _ _ _ (g.met.P.Requests.fine c.args.plan.now) c.requires.ready c.take-d.ensures.dev (landed _ _ _ _ c.deref-3.ensures.value c.take-d.ensures.bios c.clear.ensures.items) (landed _ _ _ _ c.deref-4.ensures.value c.take-d.ensures.fates c.clear-2.ensures.items)).few

pub put_rests-requires-clause-divide : goal.put_rests-requires-clause-divide
put_rests-requires-clause-divide g c = (settled-at _ _ _ _ _ _ (g.met.P.Requests.fine c.args.plan.now) c.requires.ready c.take-d.ensures.dev (landed _ _ _ _ c.deref-3.ensures.value c.take-d.ensures.bios c.clear.ensures.items) (landed _ _ _ _ c.deref-4.ensures.value c.take-d.ensures.fates c.clear-2.ensures.items)).divide

pub put_rests-requires-clause-ends : goal.put_rests-requires-clause-ends
put_rests-requires-clause-ends g c = (settled-at _ _ _ _ _ _ (g.met.P.Requests.fine c.args.plan.now) c.requires.ready c.take-d.ensures.dev (landed _ _ _ _ c.deref-3.ensures.value c.take-d.ensures.bios c.clear.ensures.items) (landed _ _ _ _ c.deref-4.ensures.value c.take-d.ensures.fates c.clear-2.ensures.items)).ends

pub put_rests-requires-clause-room : goal.put_rests-requires-clause-room
put_rests-requires-clause-room g c =
    let k = settled-at _ _ _ _ _ _ (g.met.P.Requests.fine c.args.plan.now) c.requires.ready c.take-d.ensures.dev (landed _ _ _ _ c.deref-3.ensures.value c.take-d.ensures.bios c.clear.ensures.items) (landed _ _ _ _ c.deref-4.ensures.value c.take-d.ensures.fates c.clear-2.ensures.items) in
    rw (queue-got c.args.self.now.queues.items c.take-d.result c.index_mut.result.now k.device c.index_mut.ensures.value) k.room

pub put_rests-requires-clause-scratch : goal.put_rests-requires-clause-scratch
put_rests-requires-clause-scratch g c = let k = (settled-at _ _ _ _ _ _ (g.met.P.Requests.fine c.args.plan.now) c.requires.ready c.take-d.ensures.dev (landed _ _ _ _ c.deref-3.ensures.value c.take-d.ensures.bios c.clear.ensures.items) (landed _ _ _ _ c.deref-4.ensures.value c.take-d.ensures.fates c.clear-2.ensures.items)) in omega (arith, k.short, c.requires.ready.holds.room)

pub returns-clause-lands : goal.returns-clause-lands
returns-clause-lands g c = λ v t h m.
    let f = in-flight (g.P.Requests.plan c.args.plan.now) v c.args.i t m.0 m.1 in
    let e : get_or c.args.self.now.flight.commands c.args.i no_command ≡ _ = ap (λ z. get_or z c.args.i no_command) h.shows.flying ∙ sym f.same in
    (f.j, (f.step, (landed _ _ _ _ refl c.take-d.ensures.bios c.clear.ensures.items ∙ ap (λ (z : Command). z.bios) e, landed _ _ _ _ refl c.take-d.ensures.fates c.clear-2.ensures.items ∙ ap (λ (z : Command). z.fates) e)))

pub returns-clause-step : goal.returns-clause-step
returns-clause-step g c = λ cut v t h can m.
    let bios = landed _ _ _ _ c.deref-3.ensures.value c.take-d.ensures.bios c.clear.ensures.items in
    let fates = landed _ _ _ _ c.deref-4.ensures.value c.take-d.ensures.fates c.clear-2.ensures.items in
    let k = settled-at _ _ _ _ _ _ (g.met.P.Requests.fine c.args.plan.now) c.requires.ready c.take-d.ensures.dev bios fates in
    let back = put_all (rests (g.P.Requests.plan c.args.plan.now) c.deref-3.result.now c.deref-4.result.now) in
    record {
      shows = complete-whole _ _ _ _ _ _ _ _ _ _ _ v c.args.i t cut _ _ _ _ _ (g.met.P.Requests.fine c.args.plan.now) h.shows can m c.take-d.ensures.dev
          (landed _ _ _ _ c.deref.ensures.value c.take-d.ensures.bios c.clear.ensures.items) (landed _ _ _ _ c.deref-2.ensures.value c.take-d.ensures.fates c.clear-2.ensures.items) bios fates c.settle.ensures
          (queue-set c.args.self.now.queues.items c.take-d.result c.put_rests.new.queue c.index_mut.result.now back k.device c.index_mut.ensures.value c.put_rests.ensures.groups)
          (room-set c.args.self.now.queues.items c.take-d.result c.put_rests.new.queue c.index_mut.result.now c.index_mut.ensures.value c.put_rests.ensures.room)
          c.take-d.ensures.commands c.take-d.ensures.room refl;
      room = omega (arith, h.room, c.put_rests.ensures.capacity);
    }

pub returns-clause-bios : goal.returns-clause-bios
returns-clause-bios g c = omega (arith, c.take-d.ensures.bios_capacity, c.clear.ensures.capacity)

pub returns-clause-fates : goal.returns-clause-fates
returns-clause-fates g c = omega (arith, c.take-d.ensures.fates_capacity, c.clear-2.ensures.capacity)
