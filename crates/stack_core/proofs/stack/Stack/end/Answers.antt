use Rattle.std.proofs.Common.{length, ap, refl, ◌∙◌, arith, drop, get_or, set, take}
use Rattle.std.proofs.lemmas.List.{length-set}
use Rattle.stack_steps.specs.declared.choice.Choice.TheVariants.{End}
use Rattle.stack_core.specs.Stacks.{plan_in}
use Rattle.stack_walk_laws.proofs.Facts.{op-ends}
use Rattle.stack_core.proofs.Keeps.{is-stack}
use Rattle.stack_core.proofs.Rooms.{taken}
use Rattle.stack_core.proofs.Steps.{works}
use Rattle.bio_core.specs.declared.request.Io.{Io}
use Rattle.stack_core.specs.declared.kept.Room.TheVariants.{Nothing}
use Rattle.stack_core.specs.Replies.{reply_of}
use Rattle.stack_walk_laws.specs.Sheets.{io_at}
use Rattle.stack_core.specs.Walking.{data_of}
use Rattle.stack_core.proofs.Walked.{walk_ends}
use Rattle.stack_core.specs.Mediums.{medium_replies, one_reply}
use Rattle.stack_core.proofs.StackCounts.{few_replies, request_quiet}
use Rattle.stack_core.proofs.stack.Stack.end.Goals as goal

pub end-op-requires : goal.end-op-requires
end-op-requires c = (plan_in c.args.self.now.sheet, (c.args.self.now.sheet.right.fine, c.requires.ready))

pub take_room-room-requires : goal.take_room-room-requires
take_room-room-requires c =
    let s = c.args.self.now.sheet in
    let l = op-ends s.ops s.shifted.items s.ios.items s.table s.limits s.devices c.args.self.now.machine c.args.q c.end-op.result s.right.fine c.requires.ready (c.end-op.ensures.op (plan_in c.args.self.now.sheet) c.args.self.now.sheet.right.fine) in
    let n = c.requires.stack.rooms.count in
    omega arith

pub request-requires : goal.request-requires
request-requires c =
    let s = c.args.self.now.sheet in
    op-ends s.ops s.shifted.items s.ios.items s.table s.limits s.devices c.args.self.now.machine c.args.q c.end-op.result s.right.fine c.requires.ready (c.end-op.ensures.op (plan_in c.args.self.now.sheet) c.args.self.now.sheet.right.fine)

pub of-fates-requires-clause-there : goal.of-fates-requires-clause-there
of-fates-requires-clause-there c =
    let s = c.args.self.now.sheet in
    let l = op-ends s.ops s.shifted.items s.ios.items s.table s.limits s.devices c.args.self.now.machine c.args.q c.end-op.result s.right.fine c.requires.ready (c.end-op.ensures.op (plan_in c.args.self.now.sheet) c.args.self.now.sheet.right.fine) in
    let n = c.requires.stack.kept.count in
    omega arith

pub of-fates-requires-clause-within : goal.of-fates-requires-clause-within
of-fates-requires-clause-within c =
    let s = c.args.self.now.sheet in
    let l = op-ends s.ops s.shifted.items s.ios.items s.table s.limits s.devices c.args.self.now.machine c.args.q c.end-op.result s.right.fine c.requires.ready (c.end-op.ensures.op (plan_in c.args.self.now.sheet) c.args.self.now.sheet.right.fine) in
    rw (c.request.ensures) (c.requires.stack.kept.within c.end-op.result l)

pub set_reply-requires : goal.set_reply-requires
set_reply-requires c =
    let s = c.args.self.now.sheet in
    let l = op-ends s.ops s.shifted.items s.ios.items s.table s.limits s.devices c.args.self.now.machine c.args.q c.end-op.result s.right.fine c.requires.ready (c.end-op.ensures.op (plan_in c.args.self.now.sheet) c.args.self.now.sheet.right.fine) in
    let n = c.requires.stack.replies in
    omega arith

pub returns-clause-stack : goal.returns-clause-stack
returns-clause-stack c = is-stack c.args.self.now _ c.requires.stack (record {
  sheet = refl;
  adapter = refl;
  works = works (plan_in c.args.self.now.sheet) c.args.self.now.machine c.end-op.new.self (End c.args.q) 0 c.requires.ready (c.end-op.ensures.step (plan_in c.args.self.now.sheet) 0 c.args.self.now.sheet.right.fine);
  pages = refl;
  rooms = taken c.args.self.now.pool c.args.self.now.sheet.ops c.args.self.now.sheet.ios.items c.args.self.now.rooms.items c.take_room-room.new.rooms.items c.end-op.result c.requires.stack.rooms c.take_room-room.ensures.rooms;
  kept = c.requires.stack.kept;
  replies = ap length c.set_reply.ensures ∙ length-set _ _ _;
  group = refl;
  fates = refl;
  scratch = c.requires.stack.lists.scratch_room;
})

pub returns-clause-stays : goal.returns-clause-stays
returns-clause-stays c = record { sheet = refl; adapter = refl; host = refl }

pub returns-clause-walks : goal.returns-clause-walks
returns-clause-walks c = λ ch course over n opening es left o w.
    (let s = c.args.self.now in
    let i = c.end-op.result in
    let d = data_of s in
    let fates = c.of-fates.ensures.value ∙ ap (λ (io : Io). take io.count (drop (get_or s.kept.starts.items i 0) s.kept.held.items)) c.request.ensures in
    let reply = c.reply_of.ensures ∙ (ap (λ fs. reply_of fs c.take_room-room.result) fates ∙ ap (reply_of (take (io_at s.sheet.ios.items i).count (drop (get_or s.kept.starts.items i 0) s.kept.held.items))) c.take_room-room.ensures.room) in
    let replies = c.set_reply.ensures ∙ ap (set s.replies.items i) reply in
    walk_ends over n opening es left s c.requires.stack o w _ c.args.q i (record { sheet = refl; adapter = refl; host = refl }) ch (c.end-op.ensures.step (plan_in c.args.self.now.sheet) 0 c.args.self.now.sheet.right.fine) (c.end-op.ensures.op (plan_in c.args.self.now.sheet) c.args.self.now.sheet.right.fine)
    (ap (λ x. record d { rooms = x; replies = c.set_reply.new.replies.items }) c.take_room-room.ensures.rooms ∙ ap (λ x. record d { rooms = set s.rooms.items i Nothing; replies = x }) replies))

pub returns-clause-few : goal.returns-clause-few
returns-clause-few c =
    let a = few_replies c.args.self.now.replies.items c.end-op.result c.reply_of.result (ap one_reply c.reply_of.ensures ∙ request_quiet c.of-fates.result.now c.take_room-room.result) in
    let e = ap medium_replies c.set_reply.ensures in
    omega (arith, a, e)
