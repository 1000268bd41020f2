use Rattle.std.proofs.Common.{◌≡◌, ◌<◌, ◌+◌, Some, length, ap, inl, inr, refl, set, subst, sym, ◌∙◌, arith}
use Rattle.std.proofs.lemmas.Bool.{false≢true}
use Rattle.std.proofs.lemmas.List.{length-set}
use Rattle.stack_steps.specs.declared.choice.Choice.TheVariants.{Admit}
use Rattle.stack_core.specs.Stacks.{plan_in}
use Rattle.record_laws.proofs.Going.{answers_nothing, puts_nothing}
use Rattle.stack_core.proofs.Answering.{op_leaves}
use Rattle.stack_walk_laws.proofs.Facts.{op-enters}
use Rattle.stack_core.proofs.Keeps.{is-stack}
use Rattle.stack_core.proofs.Rooms.{taken}
use Rattle.stack_core.proofs.Steps.{works}
use Rattle.bio_core.specs.declared.request.Io.{Io}
use Rattle.stack_core.specs.declared.kept.Room.TheVariants.{Nothing}
use Rattle.stack_core.specs.Done.{OpDone, WriteMade}
use Rattle.stack_core.specs.Stacks.{room_at}
use Rattle.stack_ops.specs.declared.reply.Reply.TheVariants.{Silent}
use Rattle.stack_walk_laws.specs.Sheets.{io_at, op_in}
use Rattle.stack_ops.specs.declared.op.Op.TheVariants.{Wait}
use Rattle.stack_core.specs.Walking.{IsKnown, LeavesOwn, data_of, units_left, is_medium}
use Rattle.stack_core.proofs.Failed.{is_overwrite_done, known_done, quiet_by}
use Rattle.stack_core.proofs.Walked.{walk_admits, walk_fails, walk_op}
use Rattle.stack_core.specs.Mediums.{RoseBy, medium_replies}
use Rattle.stack_core.proofs.StackCounts.{set_rises}
use Rattle.stack_core.proofs.stack.Stack.admit.Goals as goal

pub request-requires : goal.request-requires
request-requires g c =
    let s = c.args.self.now.sheet in
    op-enters s.ops s.shifted.items s.ios.items s.table s.limits s.devices c.args.self.now.machine c.args.q c.admit-op.result s.right.fine c.requires.ready c.admit-op.ensures.op

pub request-requires-then-request-gt0 : goal.request-requires-then-request-gt0
request-requires-then-request-gt0 g c =
    let s = c.args.self.now.sheet in
    op-enters s.ops s.shifted.items s.ios.items s.table s.limits s.devices c.args.self.now.machine c.args.q c.admit-op.result s.right.fine c.requires.ready c.admit-op.ensures.op

pub make_tuples-requires-clause-whole : goal.make_tuples-requires-clause-whole
make_tuples-requires-clause-whole g c =
    let s = c.args.self.now.sheet in
    rw c.request-then-request-gt0.ensures (c.requires.stands.stack.whole c.admit-op.result (op-enters s.ops s.shifted.items s.ios.items s.table s.limits s.devices c.args.self.now.machine c.args.q c.admit-op.result s.right.fine c.requires.ready c.admit-op.ensures.op))

pub make_tuples-requires-clause-some : goal.make_tuples-requires-clause-some
make_tuples-requires-clause-some g c =
    let e = c.request.ensures in
    let f = c.request-then-request-gt0.ensures in
    rw f (rw e at c.if-request-gt0.true)

pub take_room-room-requires : goal.take_room-room-requires
take_room-room-requires g c =
    let s = c.args.self.now.sheet in
    let l = op-enters s.ops s.shifted.items s.ios.items s.table s.limits s.devices c.args.self.now.machine c.args.q c.admit-op.result s.right.fine c.requires.ready c.admit-op.ensures.op in
    let n = c.requires.stands.stack.rooms.count in
    omega arith

pub op-requires : goal.op-requires
op-requires g c =
    let s = c.args.self.now.sheet in
    let l = op-enters s.ops s.shifted.items s.ios.items s.table s.limits s.devices c.args.self.now.machine c.args.q c.admit-op.result s.right.fine c.requires.ready c.admit-op.ensures.op in
    let n = c.requires.stands.stack.fixed.ops in
    omega arith

pub set_reply-requires : goal.set_reply-requires
set_reply-requires g c =
    let s = c.args.self.now.sheet in
    let l = op-enters s.ops s.shifted.items s.ios.items s.table s.limits s.devices c.args.self.now.machine c.args.q c.admit-op.result s.right.fine c.requires.ready c.admit-op.ensures.op in
    let n = c.requires.stands.stack.replies in
    omega arith

pub returns-then-request-gt0-clause-stack : goal.returns-then-request-gt0-clause-stack
returns-then-request-gt0-clause-stack g c = is-stack c.args.self.now _ c.requires.stands.stack (record {
  sheet = refl;
  adapter = refl;
  works = works (plan_in c.args.self.now.sheet) c.args.self.now.machine c.admit-op.new.self (Admit c.args.q) 0 c.requires.ready (c.admit-op.ensures.step 0);
  pages = c.make_tuples.ensures.pages;
  rooms = c.requires.stands.stack.rooms;
  kept = c.requires.stands.stack.kept;
  replies = refl;
  group = refl;
  fates = refl;
  scratch = c.requires.stands.stack.lists.scratch_room;
})

pub returns-clause-stack : goal.returns-clause-stack
returns-clause-stack g c =
    let s = c.args.self.now in
    is-stack s _ c.requires.stands.stack (record {
      sheet = refl;
      adapter = refl;
      works = works (plan_in c.args.self.now.sheet) s.machine c.admit-op.new.self (Admit c.args.q) 0 c.requires.ready (c.admit-op.ensures.step 0);
      pages = c.do_op-done.ensures.pages;
      rooms = taken s.pool s.sheet.ops s.sheet.ios.items s.rooms.items c.take_room-room.new.rooms.items c.admit-op.result c.requires.stands.stack.rooms c.take_room-room.ensures.rooms;
      kept = c.requires.stands.stack.kept;
      replies = ap length c.set_reply.ensures ∙ length-set _ _ _;
      group = refl;
      fates = refl;
      scratch = c.requires.stands.stack.lists.scratch_room;
    })

pub returns-then-request-gt0-clause-walks : goal.returns-then-request-gt0-clause-walks
returns-then-request-gt0-clause-walks g c = λ ch.
    (let s = c.args.self.now in
    let some = subst (λ (io : Io). 0 < io.count) c.request.ensures c.if-request-gt0.true in
    let made = subst (λ (io : Io). WriteMade io.dir io.pi s.adapter.kind s.host io.body s.pool c.make_tuples.new.pool) c.request-then-request-gt0.ensures c.make_tuples.ensures.made in
    record {
      op = Wait;
      reply = Silent;
      reach = tt;
      known = inl tt;
      walks = λ course known over n opening es left o w. walk_admits over n opening es left s c.requires.stands.stack o w _ c.args.q c.admit-op.result (record { sheet = refl; adapter = refl; host = refl }) ch (c.admit-op.ensures.step 0) c.admit-op.ensures.op some c.make_tuples.new.pool made refl;
      tells = λ us e known. e;
    })

pub returns-clause-walks : goal.returns-clause-walks
returns-clause-walks g c = λ ch.
    (let s = c.args.self.now in
    let i = c.admit-op.result in
    let d = data_of s in
    let none = ap (λ (io : Io). io.count) (sym c.request.ensures) in
    let empty : (io_at s.sheet.ios.items i).count ≡ 0 = omega (arith, none, c.if-request-gt0.false) in
    let done = subst (λ op. OpDone op s.adapter.kind c.take_room-room.result s.pool c.do_op-done.new.pool c.do_op-done.result) c.op.ensures c.do_op-done.ensures.done in
    let done' = subst (λ room. OpDone (op_in s.sheet.ops i) s.adapter.kind room s.pool c.do_op-done.new.pool c.do_op-done.result) c.take_room-room.ensures.room done in
    let li = op-enters s.sheet.ops s.sheet.shifted.items s.sheet.ios.items s.sheet.table s.sheet.limits s.sheet.devices s.machine c.args.q i s.sheet.right.fine c.requires.ready c.admit-op.ensures.op in
    let f = c.requires.stands.stack.fixed.ops in
    let same = ap (λ x. record d { pool = c.do_op-done.new.pool; rooms = x; replies = c.set_reply.new.replies.items }) c.take_room-room.ensures.rooms ∙ ap (λ x. record d { pool = c.do_op-done.new.pool; rooms = set s.rooms.items i Nothing; replies = x }) c.set_reply.ensures in
    record {
      op = op_in s.sheet.ops i;
      reply = c.do_op-done.result;
      reach = c.requires.stands.reaches.blocks i (omega arith);
      known = elim (known_done (op_in s.sheet.ops i) s.adapter.kind (room_at s.rooms.items i) s.pool c.do_op-done.new.pool c.do_op-done.result done') [
        | inl k ↦ inl k
        | inr m ↦ (let x = is_overwrite_done (op_in s.sheet.ops i) s.adapter.kind (room_at s.rooms.items i) s.pool c.do_op-done.new.pool c.do_op-done.result done' m in inr (record {
          dev = x.dev;
          lba = x.lba;
          change = x.change;
          is = x.is;
          rose = λ calm. false≢true (sym (c.do_op-done.ensures.silent calm) ∙ m);
          walks = λ flips over n opening es left o w block long. walk_fails flips over n opening es left s c.requires.stands.stack o w _ c.args.q i (record { sheet = refl; adapter = refl; host = refl }) ch (c.admit-op.ensures.step 0) c.admit-op.ensures.op empty c.do_op-done.new.pool c.do_op-done.result done'
              x.dev x.lba x.change x.is m block long same;
          tells = λ us e. subst (λ op. LeavesOwn op us (g.R.Rig.state c.do_op-done.new.rig).units) (c.op.ensures ∙ x.is) (c.do_op-done.ensures.failed us e m);
        }))
      ];
      walks = λ course known over n opening es left o w. walk_op over n opening es left s c.requires.stands.stack o w _ c.args.q i (record { sheet = refl; adapter = refl; host = refl }) ch (c.admit-op.ensures.step 0) c.admit-op.ensures.op empty c.do_op-done.new.pool c.do_op-done.result
          (quiet_by course (op_in s.sheet.ops i) s.adapter.kind (room_at s.rooms.items i) s.pool c.do_op-done.new.pool c.do_op-done.result done' known) done' same;
      tells = λ us e known. c.do_op-done.ensures.left us e (subst (λ op. IsKnown op c.do_op-done.result) (sym c.op.ensures) known) ∙ ap (λ op. Some (units_left op us)) c.op.ensures;
    })

pub returns-then-request-gt0-clause-fails : goal.returns-then-request-gt0-clause-fails
returns-then-request-gt0-clause-fails g c = λ n first h. h

pub returns-clause-fails : goal.returns-clause-fails
returns-clause-fails g c =
    let replies = c.args.self.now.replies.items in
    let o = g.R.Rig.state c.args.rig.now in
    let o' = g.R.Rig.state c.do_op-done.new.rig in
    λ n first h.
    subst (λ rs. RoseBy (n + medium_replies rs) first o'.faults) (sym c.set_reply.ensures)
    (set_rises replies c.admit-op.result c.do_op-done.result o.faults o'.faults c.do_op-done.ensures.stays.count (λ calm e. false≢true (sym (c.do_op-done.ensures.silent calm) ∙ ap is_medium e)) n first h)

pub returns-then-request-gt0-clause-rig : goal.returns-then-request-gt0-clause-rig
returns-then-request-gt0-clause-rig g c =
    let rig = g.R.Rig.state c.args.rig.now in
    record {
      stays = record { tells = refl; standing = refl; armed = refl; count = omega arith };
      keeps = record { log = refl; room = refl; armed = refl; count = omega arith };
      answered = λ none. puts_nothing rig rig refl refl refl refl;
    }

pub returns-clause-rig : goal.returns-clause-rig
returns-clause-rig g c =
    let old = g.R.Rig.state c.args.rig.now in
    let new = g.R.Rig.state c.do_op-done.new.rig in
    let stays = c.do_op-done.ensures.stays in
    record {
      stays = stays;
      keeps = record { log = c.do_op-done.ensures.log; room = c.do_op-done.ensures.room; armed = stays.armed; count = stays.count };
      answered = λ none us told armed calm. (
        answers_nothing us old new c.do_op-done.ensures.log
            (op_leaves c.args.self.now.sheet.ops c.admit-op.result _ us c.do_op-done.result new.units none c.op.ensures (c.do_op-done.ensures.left us told)),
        stays.standing,
        stays.armed,
      );
    }
