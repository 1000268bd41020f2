use Rattle.std.proofs.Common.{◌-◌, refl, subst, arith}
use Rattle.stack_steps.specs.declared.choice.Choice.TheVariants.{Cut}
use Rattle.stack_core.specs.Stacks.{plan_in}
use Rattle.stack_walk_laws.proofs.Facts.{piece-is}
use Rattle.stack_core.proofs.Keeps.{is-stack}
use Rattle.stack_core.proofs.Steps.{works}
use Rattle.bio_core.specs.declared.request.Io.{Io}
use Rattle.stack_core.specs.Done.{WriteMapped}
use Rattle.stack_core.proofs.Walked.{walk_cuts}
use Rattle.stack_core.proofs.stack.Stack.cut.Goals as goal

pub request-requires : goal.request-requires
request-requires c =
    let s = c.args.self.now.sheet in
    let k = piece-is s.ops s.shifted.items s.ios.items s.table s.limits s.devices c.args.self.now.machine c.args.q c.args.size c.cut-bio.result s.right.fine c.requires.ready c.cut-bio.ensures.piece in
    let n = k.numbered in
    let t = k.there in
    omega arith

pub map_piece-requires-clause-whole : goal.map_piece-requires-clause-whole
map_piece-requires-clause-whole c =
    let s = c.args.self.now.sheet in
    let k = piece-is s.ops s.shifted.items s.ios.items s.table s.limits s.devices c.args.self.now.machine c.args.q c.args.size c.cut-bio.result s.right.fine c.requires.ready c.cut-bio.ensures.piece in
    let n = k.numbered in
    let t = k.there in
    rw c.request.ensures (c.requires.stack.whole (c.cut-bio.result.op - 1) (omega arith))

pub map_piece-requires-clause-within : goal.map_piece-requires-clause-within
map_piece-requires-clause-within c =
    let s = c.args.self.now.sheet in
    rw c.request.ensures (piece-is s.ops s.shifted.items s.ios.items s.table s.limits s.devices c.args.self.now.machine c.args.q c.args.size c.cut-bio.result s.right.fine c.requires.ready c.cut-bio.ensures.piece).within

pub map_piece-requires-clause-ends : goal.map_piece-requires-clause-ends
map_piece-requires-clause-ends c =
    let s = c.args.self.now.sheet in
    (piece-is s.ops s.shifted.items s.ios.items s.table s.limits s.devices c.args.self.now.machine c.args.q c.args.size c.cut-bio.result s.right.fine c.requires.ready c.cut-bio.ensures.piece).ends

pub returns-clause-stack : goal.returns-clause-stack
returns-clause-stack c = is-stack c.args.self.now _ c.requires.stack (record {
  sheet = refl;
  adapter = refl;
  works = works (plan_in c.args.self.now.sheet) c.args.self.now.machine c.cut-bio.new.self (Cut c.args.q) c.args.size c.requires.ready c.cut-bio.ensures.step;
  pages = c.map_piece.ensures.pages;
  rooms = c.requires.stack.rooms;
  kept = c.requires.stack.kept;
  replies = refl;
  group = refl;
  fates = refl;
  scratch = c.requires.stack.lists.scratch_room;
})

pub returns-clause-stays : goal.returns-clause-stays
returns-clause-stays c = record { sheet = refl; adapter = refl; host = refl }

pub returns-clause-walks : goal.returns-clause-walks
returns-clause-walks c = λ ch course over n opening es left o w.
    (let s = c.args.self.now in
    let mapped = subst (λ (io : Io). WriteMapped io.dir io.pi s.host c.cut-bio.result.k c.cut-bio.result.count c.cut-bio.result.lba s.pool c.map_piece.new.pool) c.request.ensures c.map_piece.ensures.mapped in
    walk_cuts over n opening es left s c.requires.stack o w _ c.args.q c.args.size c.cut-bio.result c.map_piece.new.pool (record { sheet = refl; adapter = refl; host = refl }) ch c.cut-bio.ensures.step c.cut-bio.ensures.piece mapped refl)

pub returns-clause-settles : goal.returns-clause-settles
returns-clause-settles c = record { kept = refl; replies = refl }
