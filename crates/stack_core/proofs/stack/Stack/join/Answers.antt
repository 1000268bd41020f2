use Rattle.std.proofs.Common.{refl}
use Rattle.stack_steps.specs.declared.choice.Choice.TheVariants.{Join}
use Rattle.stack_core.specs.Stacks.{plan_in}
use Rattle.stack_core.proofs.Keeps.{is-stack}
use Rattle.stack_core.proofs.Steps.{works}
use Rattle.stack_core.proofs.Walked.{walk_joins}
use Rattle.stack_core.proofs.stack.Stack.join.Goals as goal

pub join-requires : goal.join-requires
join-requires c = (plan_in c.args.self.now.sheet, (c.args.self.now.sheet.right.fine, c.requires.ready))

pub returns-clause-stack : goal.returns-clause-stack
returns-clause-stack c = is-stack c.args.self.now _ c.requires.stack (record {
  sheet = refl;
  adapter = refl;
  works = works (plan_in c.args.self.now.sheet) c.args.self.now.machine c.join.new.self (Join c.args.d c.args.i c.args.j) 0 c.requires.ready (c.join.ensures (plan_in c.args.self.now.sheet) 0 c.args.self.now.sheet.right.fine);
  pages = refl;
  rooms = c.requires.stack.rooms;
  kept = c.requires.stack.kept;
  replies = refl;
  group = refl;
  fates = refl;
  scratch = c.requires.stack.lists.scratch_room;
})

pub returns-clause-stays : goal.returns-clause-stays
returns-clause-stays c = record { sheet = refl; adapter = refl; host = refl }

pub returns-clause-walks : goal.returns-clause-walks
returns-clause-walks c = λ ch course over n opening es left o w. walk_joins over n opening es left c.args.self.now c.requires.stack o w _ c.args.d c.args.i c.args.j (record { sheet = refl; adapter = refl; host = refl }) ch (c.join.ensures (plan_in c.args.self.now.sheet) 0 c.args.self.now.sheet.right.fine) refl

pub returns-clause-settles : goal.returns-clause-settles
returns-clause-settles c = record { kept = refl; replies = refl }
