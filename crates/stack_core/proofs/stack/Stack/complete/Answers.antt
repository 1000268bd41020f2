use Rattle.std.proofs.Common.{refl}
use Rattle.stack_steps.specs.declared.choice.Choice.TheVariants.{Complete}
use Rattle.dix_adapter.specs.Groups.{mode_of}
use Rattle.stack_core.specs.Stacks.{plan_in}
use Rattle.stack_walk_laws.proofs.Facts.{completed}
use Rattle.stack_core.proofs.Keeps.{is-stack}
use Rattle.stack_core.proofs.KeptComplete.{traces_complete}
use Rattle.stack_core.proofs.Steps.{works}
use Rattle.stack_core.proofs.WalkedFar.{walk_completes}
use Rattle.stack_core.proofs.Mediums.{counts_done}
use Rattle.stack_core.proofs.StackCounts.{settled_counts}
use Rattle.stack_core.proofs.stack.Stack.complete.Goals as goal

pub settle_all-requires-clause-whole : goal.settle_all-requires-clause-whole
settle_all-requires-clause-whole c = rw c.ios.ensures c.requires.stack.whole

pub settle_all-requires-clause-kept : goal.settle_all-requires-clause-kept
settle_all-requires-clause-kept c = rw c.ios.ensures c.requires.stack.kept

pub settle_all-requires-clause-bios : goal.settle_all-requires-clause-bios
settle_all-requires-clause-bios c =
    let s = c.args.self.now.sheet in
    let k = completed s.ops s.shifted.items s.ios.items s.table s.limits s.devices c.args.self.now.machine c.args.i c.complete.new.bios.items c.complete.new.fates.items s.right.fine c.requires.ready c.complete.ensures.lands in
    rw (c.ios.ensures, c.deref.ensures.value) k.of

pub settle_all-requires-clause-fates : goal.settle_all-requires-clause-fates
settle_all-requires-clause-fates c =
    let s = c.args.self.now.sheet in
    let k = completed s.ops s.shifted.items s.ios.items s.table s.limits s.devices c.args.self.now.machine c.args.i c.complete.new.bios.items c.complete.new.fates.items s.right.fine c.requires.ready c.complete.ensures.lands in
    rw (c.deref.ensures.value, c.deref-2.ensures.value) k.each

pub returns-clause-stack : goal.returns-clause-stack
returns-clause-stack c = is-stack c.args.self.now _ c.requires.stack (record {
  sheet = refl;
  adapter = refl;
  works = works (plan_in c.args.self.now.sheet) c.args.self.now.machine c.complete.new.self (Complete c.args.i) 0 c.requires.ready (c.complete.ensures.step 0);
  pages = c.settle_all.ensures.pages;
  rooms = c.requires.stack.rooms;
  kept = rw c.ios.ensures at c.settle_all.ensures.kept;
  replies = refl;
  group = c.complete.ensures.bios;
  fates = c.complete.ensures.fates;
  scratch = c.requires.stack.lists.scratch_room;
})

pub returns-clause-stays : goal.returns-clause-stays
returns-clause-stays c = record { sheet = refl; adapter = refl; host = refl }

pub returns-clause-walks : goal.returns-clause-walks
returns-clause-walks c = λ ch course over n opening es left o w.
    walk_completes over n opening es left c.args.self.now c.requires.stack o w _ c.args.i c.complete.new.bios.items c.complete.new.fates.items (record { sheet = refl; adapter = refl; host = refl }) ch (c.complete.ensures.step 0) c.complete.ensures.lands
    (rw c.ios.ensures at c.settle_all.ensures.kept) (rw (c.ios.ensures, c.mode.ensures, c.deref.ensures.value, c.deref-2.ensures.value) at c.settle_all.ensures.settled) refl

pub returns-clause-traces : goal.returns-clause-traces
returns-clause-traces c =
    traces_complete c.args.self.now c.args.i c.complete.new.bios.items c.complete.new.fates.items (mode_of c.args.self.now.adapter) c.args.self.now.host c.args.self.now.pool c.settle_all.new.pool c.settle_all.new.kept.starts.items c.settle_all.new.kept.held.items
    c.requires.stack c.requires.ready c.complete.ensures.lands (rw c.ios.ensures at c.settle_all.ensures.kept) (rw (c.ios.ensures, c.mode.ensures, c.deref.ensures.value, c.deref-2.ensures.value) at c.settle_all.ensures.settled)

pub returns-clause-counts : goal.returns-clause-counts
returns-clause-counts c = λ faults.
    (let s = c.args.self.now.sheet in
    let k = completed s.ops s.shifted.items s.ios.items s.table s.limits s.devices c.args.self.now.machine c.args.i c.complete.new.bios.items c.complete.new.fates.items s.right.fine c.requires.ready c.complete.ensures.lands in
    counts_done faults s.ios.items (plan_in s) c.args.self.now.machine c.args.i c.complete.new.bios.items c.complete.new.fates.items c.args.self.now.kept.held.items c.settle_all.new.kept.held.items c.complete.ensures.lands
    (settled_counts faults (mode_of c.args.self.now.adapter) c.args.self.now.host s.ios.items c.args.self.now.kept.starts.items c.complete.new.bios.items c.complete.new.fates.items (record { pages = c.args.self.now.pool; held = c.args.self.now.kept.held.items }) (record { pages = c.settle_all.new.pool; held = c.settle_all.new.kept.held.items }) c.requires.stack.kept k.of k.each
    (rw (c.ios.ensures, c.mode.ensures, c.deref.ensures.value, c.deref-2.ensures.value) at c.settle_all.ensures.settled)))
