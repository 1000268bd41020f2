use Rattle.std.proofs.Common.{refl, subst, sym, ap, arith}
use Rattle.stack_steps.specs.declared.choice.Choice.TheVariants.{Admit, Complete, Cut, End, Join, Send}
use Rattle.stack_steps.specs.Does.{Chooses}
use Rattle.stack_core.specs.Mediums.{medium_replies}
use Rattle.stack_core.specs.OnRecord.{SendsOn}
use Rattle.stack_core.specs.Stacks.{plan_in}
use Rattle.stack_core.proofs.Goes.{goes-as-before, goes-nowhere}
use Rattle.stack_core.proofs.Going.{can-step}
use Rattle.stack_core.proofs.StackCounts.{few_counts, same_counts, step_counts, still_counts}
use Rattle.stack_core.proofs.StackSends.{group_sends, lands_sends, still_sends}
use Rattle.stack_core.proofs.Stepping.{stands-left, went-entered, went-still}
use Rattle.stack_core.proofs.Steps.{one-send, one-step, ready}
use Rattle.stack_core.proofs.stack.Stack.step.Goals as goal

pub end-requires-clause-ready : goal.end-requires-clause-ready
end-requires-clause-ready g c =
    let h : Chooses (plan_in c.args.self.now.sheet) c.args.self.now.machine c.args.word (End c.in-End.q) = rw c.in-End.is at c.choose-choice.ensures in
    ready (plan_in c.args.self.now.sheet) c.args.self.now.machine c.args.word (End c.in-End.q) (can-step c.args.self.now (g.R.Rig.state c.args.rig.now).standing (g.R.Rig.state c.args.rig.now).room c.requires.stands.spare c.requires.some) h

pub returns-in-End-clause-stands : goal.returns-in-End-clause-stands
returns-in-End-clause-stands g c =
    let h : Chooses (plan_in c.args.self.now.sheet) c.args.self.now.machine c.args.word (End c.in-End.q) = rw c.in-End.is at c.choose-choice.ensures in
    stands-left c.args.self.now c.end.new.self c.args.word c.args.cut (End c.in-End.q) (g.R.Rig.state c.args.rig.now) (g.R.Rig.state c.args.rig.now) tt c.requires.stands c.requires.some h (c.end.ensures.step c.args.cut) c.end.ensures.stack c.end.ensures.stays.sheet refl refl refl

pub returns-in-End-clause-step : goal.returns-in-End-clause-step
returns-in-End-clause-step g c =
    let h : Chooses (plan_in c.args.self.now.sheet) c.args.self.now.machine c.args.word (End c.in-End.q) = rw c.in-End.is at c.choose-choice.ensures in
    one-step (plan_in c.args.self.now.sheet) c.args.self.now.machine c.end.new.self.machine c.args.word c.args.cut (End c.in-End.q) tt h (c.end.ensures.step c.args.cut)

pub returns-in-End-clause-goes : goal.returns-in-End-clause-goes
returns-in-End-clause-goes g c =
    goes-nowhere (g.R.Rig.state c.args.rig.now)

pub returns-in-End-clause-went : goal.returns-in-End-clause-went
returns-in-End-clause-went g c =
    let h : Chooses (plan_in c.args.self.now.sheet) c.args.self.now.machine c.args.word (End c.in-End.q) = rw c.in-End.is at c.choose-choice.ensures in
    let n = (g.R.Rig.state c.args.rig.now).faults in
    went-still c.args.self.now c.end.new.self (g.R.Rig.state c.args.rig.now) c.requires.stands.stack c.end.ensures.stays (c.end.ensures.walks (c.args.word, h, c.requires.some)) c.end.ensures.few
    (still_counts (g.R.Rig.state c.args.rig.now).armed c.args.self.now c.end.new.self c.args.word c.args.cut n n (End c.in-End.q) tt tt c.end.ensures.stays h c.requires.some (c.end.ensures.step c.args.cut) c.end.ensures.kept (omega arith) (few_counts c.args.self.now.replies.items c.end.new.self.replies.items n c.end.ensures.few))

pub returns-in-End-clause-sends : goal.returns-in-End-clause-sends
returns-in-End-clause-sends g c =
    let h : Chooses (plan_in c.args.self.now.sheet) c.args.self.now.machine c.args.word (End c.in-End.q) = rw c.in-End.is at c.choose-choice.ensures in
    still_sends c.args.self.now c.end.new.self c.args.word c.args.cut (End c.in-End.q) (g.R.Rig.state c.args.rig.now).log tt tt c.end.ensures.stays h c.requires.some (c.end.ensures.step c.args.cut) c.end.ensures.kept

pub complete-requires-clause-ready : goal.complete-requires-clause-ready
complete-requires-clause-ready g c =
    let h : Chooses (plan_in c.args.self.now.sheet) c.args.self.now.machine c.args.word (Complete c.in-Complete.i) = rw c.in-Complete.is at c.choose-choice.ensures in
    ready (plan_in c.args.self.now.sheet) c.args.self.now.machine c.args.word (Complete c.in-Complete.i) (can-step c.args.self.now (g.R.Rig.state c.args.rig.now).standing (g.R.Rig.state c.args.rig.now).room c.requires.stands.spare c.requires.some) h

pub returns-in-Complete-clause-stands : goal.returns-in-Complete-clause-stands
returns-in-Complete-clause-stands g c =
    let h : Chooses (plan_in c.args.self.now.sheet) c.args.self.now.machine c.args.word (Complete c.in-Complete.i) = rw c.in-Complete.is at c.choose-choice.ensures in
    stands-left c.args.self.now c.complete.new.self c.args.word c.args.cut (Complete c.in-Complete.i) (g.R.Rig.state c.args.rig.now) (g.R.Rig.state c.args.rig.now) tt c.requires.stands c.requires.some h (c.complete.ensures.step c.args.cut) c.complete.ensures.stack c.complete.ensures.stays.sheet refl refl refl

pub returns-in-Complete-clause-step : goal.returns-in-Complete-clause-step
returns-in-Complete-clause-step g c =
    let h : Chooses (plan_in c.args.self.now.sheet) c.args.self.now.machine c.args.word (Complete c.in-Complete.i) = rw c.in-Complete.is at c.choose-choice.ensures in
    one-step (plan_in c.args.self.now.sheet) c.args.self.now.machine c.complete.new.self.machine c.args.word c.args.cut (Complete c.in-Complete.i) tt h (c.complete.ensures.step c.args.cut)

pub returns-in-Complete-clause-goes : goal.returns-in-Complete-clause-goes
returns-in-Complete-clause-goes g c =
    goes-nowhere (g.R.Rig.state c.args.rig.now)

pub returns-in-Complete-clause-went : goal.returns-in-Complete-clause-went
returns-in-Complete-clause-went g c =
    let h : Chooses (plan_in c.args.self.now.sheet) c.args.self.now.machine c.args.word (Complete c.in-Complete.i) = rw c.in-Complete.is at c.choose-choice.ensures in
    let n = (g.R.Rig.state c.args.rig.now).faults in
    went-still c.args.self.now c.complete.new.self (g.R.Rig.state c.args.rig.now) c.requires.stands.stack c.complete.ensures.stays (c.complete.ensures.walks (c.args.word, h, c.requires.some)) (let e = ap medium_replies c.complete.ensures.replies in omega (arith, e))
    (step_counts (g.R.Rig.state c.args.rig.now).armed c.args.self.now c.complete.new.self c.args.word c.args.cut n n (Complete c.in-Complete.i) c.complete.ensures.stays h c.requires.some (c.complete.ensures.step c.args.cut) (c.complete.ensures.counts (g.R.Rig.state c.args.rig.now).armed) (omega arith) (same_counts c.args.self.now.replies.items c.complete.new.self.replies.items n c.complete.ensures.replies))

pub returns-in-Complete-clause-sends : goal.returns-in-Complete-clause-sends
returns-in-Complete-clause-sends g c =
    let h : Chooses (plan_in c.args.self.now.sheet) c.args.self.now.machine c.args.word (Complete c.in-Complete.i) = rw c.in-Complete.is at c.choose-choice.ensures in
    lands_sends c.args.self.now c.complete.new.self c.args.word c.args.cut c.in-Complete.i (g.R.Rig.state c.args.rig.now).log c.complete.ensures.stays h c.requires.some (c.complete.ensures.step c.args.cut) c.complete.ensures.traces

pub cut-requires-clause-ready : goal.cut-requires-clause-ready
cut-requires-clause-ready g c =
    let h : Chooses (plan_in c.args.self.now.sheet) c.args.self.now.machine c.args.word (Cut c.in-Cut.q) = rw c.in-Cut.is at c.choose-choice.ensures in
    ready (plan_in c.args.self.now.sheet) c.args.self.now.machine c.args.word (Cut c.in-Cut.q) (can-step c.args.self.now (g.R.Rig.state c.args.rig.now).standing (g.R.Rig.state c.args.rig.now).room c.requires.stands.spare c.requires.some) h

pub returns-in-Cut-clause-stands : goal.returns-in-Cut-clause-stands
returns-in-Cut-clause-stands g c =
    let h : Chooses (plan_in c.args.self.now.sheet) c.args.self.now.machine c.args.word (Cut c.in-Cut.q) = rw c.in-Cut.is at c.choose-choice.ensures in
    stands-left c.args.self.now c.cut.new.self c.args.word c.args.cut (Cut c.in-Cut.q) (g.R.Rig.state c.args.rig.now) (g.R.Rig.state c.args.rig.now) tt c.requires.stands c.requires.some h c.cut.ensures.step c.cut.ensures.stack c.cut.ensures.stays.sheet refl refl refl

pub returns-in-Cut-clause-step : goal.returns-in-Cut-clause-step
returns-in-Cut-clause-step g c =
    let h : Chooses (plan_in c.args.self.now.sheet) c.args.self.now.machine c.args.word (Cut c.in-Cut.q) = rw c.in-Cut.is at c.choose-choice.ensures in
    one-step (plan_in c.args.self.now.sheet) c.args.self.now.machine c.cut.new.self.machine c.args.word c.args.cut (Cut c.in-Cut.q) tt h c.cut.ensures.step

pub returns-in-Cut-clause-goes : goal.returns-in-Cut-clause-goes
returns-in-Cut-clause-goes g c =
    goes-nowhere (g.R.Rig.state c.args.rig.now)

pub returns-in-Cut-clause-went : goal.returns-in-Cut-clause-went
returns-in-Cut-clause-went g c =
    let h : Chooses (plan_in c.args.self.now.sheet) c.args.self.now.machine c.args.word (Cut c.in-Cut.q) = rw c.in-Cut.is at c.choose-choice.ensures in
    let n = (g.R.Rig.state c.args.rig.now).faults in
    went-still c.args.self.now c.cut.new.self (g.R.Rig.state c.args.rig.now) c.requires.stands.stack c.cut.ensures.stays (c.cut.ensures.walks (c.args.word, h, c.requires.some)) (let e = ap medium_replies c.cut.ensures.settles.replies in omega (arith, e))
    (still_counts (g.R.Rig.state c.args.rig.now).armed c.args.self.now c.cut.new.self c.args.word c.args.cut n n (Cut c.in-Cut.q) tt tt c.cut.ensures.stays h c.requires.some c.cut.ensures.step c.cut.ensures.settles.kept (omega arith) (same_counts c.args.self.now.replies.items c.cut.new.self.replies.items n c.cut.ensures.settles.replies))

pub returns-in-Cut-clause-sends : goal.returns-in-Cut-clause-sends
returns-in-Cut-clause-sends g c =
    let h : Chooses (plan_in c.args.self.now.sheet) c.args.self.now.machine c.args.word (Cut c.in-Cut.q) = rw c.in-Cut.is at c.choose-choice.ensures in
    still_sends c.args.self.now c.cut.new.self c.args.word c.args.cut (Cut c.in-Cut.q) (g.R.Rig.state c.args.rig.now).log tt tt c.cut.ensures.stays h c.requires.some c.cut.ensures.step c.cut.ensures.settles.kept

pub join-requires-clause-ready : goal.join-requires-clause-ready
join-requires-clause-ready g c =
    let h : Chooses (plan_in c.args.self.now.sheet) c.args.self.now.machine c.args.word (Join c.in-Join.d c.in-Join.i c.in-Join.j) = rw c.in-Join.is at c.choose-choice.ensures in
    ready (plan_in c.args.self.now.sheet) c.args.self.now.machine c.args.word (Join c.in-Join.d c.in-Join.i c.in-Join.j) (can-step c.args.self.now (g.R.Rig.state c.args.rig.now).standing (g.R.Rig.state c.args.rig.now).room c.requires.stands.spare c.requires.some) h

pub returns-in-Join-clause-stands : goal.returns-in-Join-clause-stands
returns-in-Join-clause-stands g c =
    let h : Chooses (plan_in c.args.self.now.sheet) c.args.self.now.machine c.args.word (Join c.in-Join.d c.in-Join.i c.in-Join.j) = rw c.in-Join.is at c.choose-choice.ensures in
    stands-left c.args.self.now c.join.new.self c.args.word c.args.cut (Join c.in-Join.d c.in-Join.i c.in-Join.j) (g.R.Rig.state c.args.rig.now) (g.R.Rig.state c.args.rig.now) tt c.requires.stands c.requires.some h (c.join.ensures.step c.args.cut) c.join.ensures.stack c.join.ensures.stays.sheet refl refl refl

pub returns-in-Join-clause-step : goal.returns-in-Join-clause-step
returns-in-Join-clause-step g c =
    let h : Chooses (plan_in c.args.self.now.sheet) c.args.self.now.machine c.args.word (Join c.in-Join.d c.in-Join.i c.in-Join.j) = rw c.in-Join.is at c.choose-choice.ensures in
    one-step (plan_in c.args.self.now.sheet) c.args.self.now.machine c.join.new.self.machine c.args.word c.args.cut (Join c.in-Join.d c.in-Join.i c.in-Join.j) tt h (c.join.ensures.step c.args.cut)

pub returns-in-Join-clause-goes : goal.returns-in-Join-clause-goes
returns-in-Join-clause-goes g c =
    goes-nowhere (g.R.Rig.state c.args.rig.now)

pub returns-in-Join-clause-went : goal.returns-in-Join-clause-went
returns-in-Join-clause-went g c =
    let h : Chooses (plan_in c.args.self.now.sheet) c.args.self.now.machine c.args.word (Join c.in-Join.d c.in-Join.i c.in-Join.j) = rw c.in-Join.is at c.choose-choice.ensures in
    let n = (g.R.Rig.state c.args.rig.now).faults in
    went-still c.args.self.now c.join.new.self (g.R.Rig.state c.args.rig.now) c.requires.stands.stack c.join.ensures.stays (c.join.ensures.walks (c.args.word, h, c.requires.some)) (let e = ap medium_replies c.join.ensures.settles.replies in omega (arith, e))
    (still_counts (g.R.Rig.state c.args.rig.now).armed c.args.self.now c.join.new.self c.args.word c.args.cut n n (Join c.in-Join.d c.in-Join.i c.in-Join.j) tt tt c.join.ensures.stays h c.requires.some (c.join.ensures.step c.args.cut) c.join.ensures.settles.kept (omega arith) (same_counts c.args.self.now.replies.items c.join.new.self.replies.items n c.join.ensures.settles.replies))

pub returns-in-Join-clause-sends : goal.returns-in-Join-clause-sends
returns-in-Join-clause-sends g c =
    let h : Chooses (plan_in c.args.self.now.sheet) c.args.self.now.machine c.args.word (Join c.in-Join.d c.in-Join.i c.in-Join.j) = rw c.in-Join.is at c.choose-choice.ensures in
    still_sends c.args.self.now c.join.new.self c.args.word c.args.cut (Join c.in-Join.d c.in-Join.i c.in-Join.j) (g.R.Rig.state c.args.rig.now).log tt tt c.join.ensures.stays h c.requires.some (c.join.ensures.step c.args.cut) c.join.ensures.settles.kept

pub admit-requires-clause-ready : goal.admit-requires-clause-ready
admit-requires-clause-ready g c =
    let h : Chooses (plan_in c.args.self.now.sheet) c.args.self.now.machine c.args.word (Admit c.in-Admit.q) = rw c.in-Admit.is at c.choose-choice.ensures in
    ready (plan_in c.args.self.now.sheet) c.args.self.now.machine c.args.word (Admit c.in-Admit.q) (can-step c.args.self.now (g.R.Rig.state c.args.rig.now).standing (g.R.Rig.state c.args.rig.now).room c.requires.stands.spare c.requires.some) h

pub returns-in-Admit-clause-stands : goal.returns-in-Admit-clause-stands
returns-in-Admit-clause-stands g c =
    let h : Chooses (plan_in c.args.self.now.sheet) c.args.self.now.machine c.args.word (Admit c.in-Admit.q) = rw c.in-Admit.is at c.choose-choice.ensures in
    stands-left c.args.self.now c.admit.new.self c.args.word c.args.cut (Admit c.in-Admit.q) (g.R.Rig.state c.args.rig.now) (g.R.Rig.state c.admit.new.rig) tt c.requires.stands c.requires.some h (c.admit.ensures.step c.args.cut) c.admit.ensures.stack c.admit.ensures.stays.sheet c.admit.ensures.rig.stays.standing c.admit.ensures.rig.keeps.room c.admit.ensures.rig.stays.tells

pub returns-in-Admit-clause-step : goal.returns-in-Admit-clause-step
returns-in-Admit-clause-step g c =
    let h : Chooses (plan_in c.args.self.now.sheet) c.args.self.now.machine c.args.word (Admit c.in-Admit.q) = rw c.in-Admit.is at c.choose-choice.ensures in
    one-step (plan_in c.args.self.now.sheet) c.args.self.now.machine c.admit.new.self.machine c.args.word c.args.cut (Admit c.in-Admit.q) tt h (c.admit.ensures.step c.args.cut)

pub returns-in-Admit-clause-goes : goal.returns-in-Admit-clause-goes
returns-in-Admit-clause-goes g c =
    goes-as-before (g.R.Rig.state c.args.rig.now) (g.R.Rig.state c.admit.new.rig) c.admit.ensures.rig.stays.standing c.admit.ensures.rig.keeps.log c.admit.ensures.rig.stays.count

pub returns-in-Admit-clause-went : goal.returns-in-Admit-clause-went
returns-in-Admit-clause-went g c =
    let h : Chooses (plan_in c.args.self.now.sheet) c.args.self.now.machine c.args.word (Admit c.in-Admit.q) = rw c.in-Admit.is at c.choose-choice.ensures in
    let a = c.args.rig.now in
    went-entered c.args.self.now c.admit.new.self (g.R.Rig.state c.args.rig.now) (g.R.Rig.state c.admit.new.rig) c.requires.stands.stack c.admit.ensures.stays (c.admit.ensures.walks (c.args.word, h, c.requires.some)) c.admit.ensures.rig.stays c.admit.ensures.rig.keeps.log (g.met.R.Rig.laid a) (g.met.R.Rig.ready a) c.admit.ensures.fails
    (still_counts (g.R.Rig.state c.args.rig.now).armed c.args.self.now c.admit.new.self c.args.word c.args.cut (g.R.Rig.state c.args.rig.now).faults (g.R.Rig.state c.admit.new.rig).faults (Admit c.in-Admit.q) tt tt c.admit.ensures.stays h c.requires.some (c.admit.ensures.step c.args.cut) c.admit.ensures.kept c.admit.ensures.rig.stays.count c.admit.ensures.fails)
    c.admit.ensures.rig.answered

pub returns-in-Admit-clause-sends : goal.returns-in-Admit-clause-sends
returns-in-Admit-clause-sends g c =
    let h : Chooses (plan_in c.args.self.now.sheet) c.args.self.now.machine c.args.word (Admit c.in-Admit.q) = rw c.in-Admit.is at c.choose-choice.ensures in
    subst (SendsOn c.args.word c.args.cut c.args.self.now c.admit.new.self (g.R.Rig.state c.args.rig.now).log) (sym c.admit.ensures.rig.keeps.log)
    (still_sends c.args.self.now c.admit.new.self c.args.word c.args.cut (Admit c.in-Admit.q) (g.R.Rig.state c.args.rig.now).log tt tt c.admit.ensures.stays h c.requires.some (c.admit.ensures.step c.args.cut) c.admit.ensures.kept)

pub send-requires-clause-ready : goal.send-requires-clause-ready
send-requires-clause-ready g c =
    let h : Chooses (plan_in c.args.self.now.sheet) c.args.self.now.machine c.args.word (Send c.in-Send.d c.in-Send.i) = rw c.in-Send.is at c.choose-choice.ensures in
    ready (plan_in c.args.self.now.sheet) c.args.self.now.machine c.args.word (Send c.in-Send.d c.in-Send.i) (can-step c.args.self.now (g.R.Rig.state c.args.rig.now).standing (g.R.Rig.state c.args.rig.now).room c.requires.stands.spare c.requires.some) h

pub returns-in-Send-clause-step : goal.returns-in-Send-clause-step
returns-in-Send-clause-step g c =
    let h : Chooses (plan_in c.args.self.now.sheet) c.args.self.now.machine c.args.word (Send c.in-Send.d c.in-Send.i) = rw c.in-Send.is at c.choose-choice.ensures in
    let x = c.send.ensures.carries in
    one-send (plan_in c.args.self.now.sheet) c.args.self.now.machine x.taken c.send.new.self.machine c.args.word c.args.cut c.in-Send.d c.in-Send.i x.group x.fates h x.takes x.flies x.settles

pub returns-in-Send-clause-went : goal.returns-in-Send-clause-went
returns-in-Send-clause-went g c =
    let h : Chooses (plan_in c.args.self.now.sheet) c.args.self.now.machine c.args.word (Send c.in-Send.d c.in-Send.i) = rw c.in-Send.is at c.choose-choice.ensures in
    c.send.ensures.went (c.args.word, h, c.requires.some)

pub returns-in-Send-clause-sends : goal.returns-in-Send-clause-sends
returns-in-Send-clause-sends g c =
    let h : Chooses (plan_in c.args.self.now.sheet) c.args.self.now.machine c.args.word (Send c.in-Send.d c.in-Send.i) = rw c.in-Send.is at c.choose-choice.ensures in
    group_sends c.args.self.now c.send.new.self c.args.word c.args.cut c.in-Send.d c.in-Send.i (g.R.Rig.state c.args.rig.now).log (g.R.Rig.state c.send.new.rig).log c.send.ensures.stays h c.requires.some c.send.ensures.carries c.send.ensures.settles.kept
