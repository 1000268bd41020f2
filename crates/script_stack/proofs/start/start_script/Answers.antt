use Rattle.std.proofs.Common.{[], refl, replicate}
use Rattle.script_stack.proofs.Begins.{begins-falling, begins-told, begins-walks}
use Rattle.script_stack.proofs.Reach.{reaches}
use Rattle.script_stack.proofs.Ready.{can-start}
use Rattle.script_stack.proofs.SendsBy.{plan_is}
use Rattle.script_stack.proofs.Counted.{none_counted}
use Rattle.script_stack.proofs.Steps.{first-spare}
use Rattle.script_stack.proofs.start.start_script.Goals as goal

pub new-requires : goal.new-requires
new-requires c = (replicate c.args.script.pages [], can-start c.args.script c.args.table c.args._devices.now c.requires.suits c.requires.lines c.requires.few c.requires.made c.requires.bound)

pub returns-clause-begins : goal.returns-clause-begins
returns-clause-begins c =
    let s = c.args.script in
    let t = c.args.table in
    let devices = c.args._devices.now in
    let r = c.in_ok-new.field-0 in
    let made = c.in_ok-new.ensures in
    record {
      stack = made.stack;
      is = made.is;
      new = made.new;
      plan = plan_is s t r.sheet made.is.ops made.is.shifted made.is.ios made.is.table made.is.limits made.new.queues;
      schedule = refl;
      walks = begins-walks s t devices r c.requires.suits c.requires.lines c.requires.few c.requires.made c.requires.bound made.is made.new.pool made.follows.walks;
      falling = begins-falling s t devices r c.requires.suits c.requires.lines c.requires.few c.requires.made c.requires.bound made.is made.new.pool made.follows.falling;
      told = begins-told s t devices r c.requires.suits c.requires.lines c.requires.few c.requires.made c.requires.bound made.is made.new.pool made.follows.told;
      counted = none_counted r _ _ made.new.first made.new.kept made.new.replies;
    }

pub returns-clause-reaches : goal.returns-clause-reaches
returns-clause-reaches c told st n tells = reaches c.in_ok-new.field-0 c.args.script c.args.table c.args._devices.now told st c.in_ok-new.ensures.is.ops c.in_ok-new.ensures.new.devices c.requires.lines c.requires.made c.requires.bound n tells

pub returns-clause-spare : goal.returns-clause-spare
returns-clause-spare c st room h = first-spare c.in_ok-new.field-0 st room c.in_ok-new.ensures.new.first h
