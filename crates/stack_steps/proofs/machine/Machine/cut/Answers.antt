-- What is asked of the piece that is cut.
use Rattle.std.proofs.Common.{◌≡◌, ℕ, List, ◌∷◌, [], ◌++◌, arith, refl, ap, ◌∙◌, get_or, set}
use Rattle.std.proofs.lemmas.List.{get_or_default}
use Rattle.bio_core.specs.declared.bio.Bio.{Bio}
use Rattle.stack_laws.specs.Pieces.{bio_of, cut_to, greatest_piece}
use Rattle.stack_laws.specs.Plan.{Plan}
use Rattle.stack_steps.specs.declared.choice.Choice.TheVariants.{Cut}
use Rattle.stack_steps.specs.declared.machine.Machine.{Machine}
use Rattle.stack_steps.specs.declared.state.OpState.{OpState}
use Rattle.stack_steps.specs.Does.{Ready}
use Rattle.stack_steps.specs.Fine.{Fine}
use Rattle.merge_queue.specs.Groups.{put}
use Rattle.stack_steps.specs.Moves.{more_cut}
use Rattle.stack_steps.specs.State.{no_state}
use Rattle.stack_steps.proofs.Moved.{queue-got, queue-set, room-set}
use Rattle.stack_steps.proofs.Keep.{Piece, listed-there, piece-at, piece-of, cut-whole, one-ends}
use Rattle.stack_steps.proofs.machine.Machine.cut.Goals as goal

-- the piece, where it goes
cut-at : (p : Plan) (s : Machine) (q size op : ℕ) (o : OpState) (b : Bio) → Fine p → Ready p s (Cut q) → op ≡ get_or s.live.items q op → o ≡ get_or s.ops.items op o →
    b ≡ bio_of p op o.cut (cut_to size (greatest_piece p op o.cut)) → Piece p s.ops.items s.queues.items op b
cut-at p s q size op o b f r x y e = piece-at p s.gate s.ops.items s.live.items s.queues.items s.flight s.steps r.view q r.step size op o b f r.holds.shows r.can r.means x y e

-- what is kept of the op
kept-at : (p : Plan) (s : Machine) (q op : ℕ) (o : OpState) → Fine p → Ready p s (Cut q) → op ≡ get_or s.live.items q op → o ≡ get_or s.ops.items op o → o ≡ get_or s.ops.items op no_state
kept-at p s q op o f r x e =
    let l = listed-there p s.gate s.ops.items s.live.items s.queues.items s.flight s.steps r.view q f r.holds.shows r.means.0 in
    let y : op ≡ get_or s.live.items q 0 = x ∙ get_or_default s.live.items q op 0 l.place in
    let z = l.op in
    e ∙ get_or_default s.ops.items op o no_state (omega arith)

-- a list that was empty has the one bio that was put into it
alone : (xs new old : List Bio) (b : Bio) → xs ≡ new → new ≡ old ++ b ∷ [] → old ≡ [] → xs ≡ b ∷ []
alone xs new old b e f n = e ∙ f ∙ ap (λ z. z ++ b ∷ []) n

pub push_reserved-requires : goal.push_reserved-requires
push_reserved-requires g c = let k = (cut-at _ _ _ _ c.at-op.result c.index.result.now _ (g.met.P.Requests.fine c.args.plan.now) c.requires c.at-op.ensures c.index.ensures c.next_piece-bio.ensures) in omega (arith, k.some, c.clear.ensures.len, c.clear.ensures.capacity, c.requires.holds.room)

pub index_mut-requires : goal.index_mut-requires
index_mut-requires g c = let k = cut-at _ _ _ _ c.at-op.result c.index.result.now _ (g.met.P.Requests.fine c.args.plan.now) c.requires c.at-op.ensures c.index.ensures c.next_piece-bio.ensures in omega (arith, k.there)

pub put-requires-clause-ends : goal.put-requires-clause-ends
put-requires-clause-ends g c = (one-ends _ _ _ _ _ _ (cut-at _ _ _ _ c.at-op.result c.index.result.now _ (g.met.P.Requests.fine c.args.plan.now) c.requires c.at-op.ensures c.index.ensures c.next_piece-bio.ensures) (alone _ _ _ _ c.deref.ensures.value c.push_reserved.ensures.items c.clear.ensures.items)).0

pub put-requires-clause-room : goal.put-requires-clause-room
put-requires-clause-room g c =
    let k = cut-at _ _ _ _ c.at-op.result c.index.result.now _ (g.met.P.Requests.fine c.args.plan.now) c.requires c.at-op.ensures c.index.ensures c.next_piece-bio.ensures in
    rw (queue-got c.args.self.now.queues.items c.next_piece-bio.result.dev c.index_mut.result.now k.there c.index_mut.ensures.value) (one-ends _ _ _ _ _ _ k (alone _ _ _ _ c.deref.ensures.value c.push_reserved.ensures.items c.clear.ensures.items)).1

pub overflow_add-index_mut : goal.overflow_add-index_mut
overflow_add-index_mut g c =
    let k = cut-at _ _ _ _ c.at-op.result c.index.result.now _ (g.met.P.Requests.fine c.args.plan.now) c.requires c.at-op.ensures c.index.ensures c.next_piece-bio.ensures in
    let z = ap (λ (o : OpState). o.cut) (kept-at _ _ _ c.at-op.result c.index_mut-2.result.now (g.met.P.Requests.fine c.args.plan.now) c.requires c.at-op.ensures c.index_mut-2.ensures.value) in
    omega (arith, k.fits, z)

pub returns-clause-piece : goal.returns-clause-piece
returns-clause-piece g c = λ v t h can m. piece-of _ _ _ _ _ _ _ v c.args.q t c.args.size c.at-op.result c.index.result.now c.next_piece-bio.result (g.met.P.Requests.fine c.args.plan.now) h.shows m c.at-op.ensures c.index.ensures c.next_piece-bio.ensures

pub returns-clause-step : goal.returns-clause-step
returns-clause-step g c = λ v t h can m.
    let k = cut-at _ _ _ _ c.at-op.result c.index.result.now _ (g.met.P.Requests.fine c.args.plan.now) c.requires c.at-op.ensures c.index.ensures c.next_piece-bio.ensures in
    let o = kept-at _ _ _ c.at-op.result c.index_mut-2.result.now (g.met.P.Requests.fine c.args.plan.now) c.requires c.at-op.ensures c.index_mut-2.ensures.value in
    record {
      shows = cut-whole _ _ _ _ _ _ _ _ _ _ v c.args.q t c.args.size c.at-op.result c.index.result.now _ _ (g.met.P.Requests.fine c.args.plan.now) h.shows can m c.at-op.ensures c.index.ensures c.next_piece-bio.ensures
          (alone _ _ _ _ c.deref.ensures.value c.push_reserved.ensures.items c.clear.ensures.items)
          (ap (λ (o : OpState). set c.args.self.now.ops.items c.at-op.result (more_cut c.next_piece-bio.result.count o)) o)
          (queue-set c.args.self.now.queues.items c.next_piece-bio.result.dev c.put.new.self c.index_mut.result.now (put c.deref.result.now) k.there c.index_mut.ensures.value c.put.ensures.groups)
          (room-set c.args.self.now.queues.items c.next_piece-bio.result.dev c.put.new.self c.index_mut.result.now c.index_mut.ensures.value c.put.ensures.room) refl;
      room = omega (arith, h.room, c.push_reserved.ensures.capacity, c.clear.ensures.capacity);
    }
