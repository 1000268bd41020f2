-- How many steps are enabled.
use Rattle.std.proofs.Common.{refl, arith}
use Rattle.stack_steps.proofs.Step.{count-at, fits-at, number-few}
use Rattle.stack_steps.proofs.machine.Machine.enabled.Goals as goal

pub count_choices-requires-clause-few : goal.count_choices-requires-clause-few
count_choices-requires-clause-few g c = (fits-at _ _ _ _ _ (g.met.P.Requests.fine c.args.plan.now) c.requires c.deref.ensures.value c.as_slice.ensures c.deref-2.ensures.value).few

pub count_choices-requires-clause-phases : goal.count_choices-requires-clause-phases
count_choices-requires-clause-phases g c = (fits-at _ _ _ _ _ (g.met.P.Requests.fine c.args.plan.now) c.requires c.deref.ensures.value c.as_slice.ensures c.deref-2.ensures.value).phases

pub count_choices-requires-clause-same : goal.count_choices-requires-clause-same
count_choices-requires-clause-same g c = (fits-at _ _ _ _ _ (g.met.P.Requests.fine c.args.plan.now) c.requires c.deref.ensures.value c.as_slice.ensures c.deref-2.ensures.value).same

pub count_choices-requires-clause-ops : goal.count_choices-requires-clause-ops
count_choices-requires-clause-ops g c = (fits-at _ _ _ _ _ (g.met.P.Requests.fine c.args.plan.now) c.requires c.deref.ensures.value c.as_slice.ensures c.deref-2.ensures.value).below

pub count_choices-requires-clause-joins : goal.count_choices-requires-clause-joins
count_choices-requires-clause-joins g c = let k = (fits-at _ _ _ _ _ (g.met.P.Requests.fine c.args.plan.now) c.requires c.deref.ensures.value c.as_slice.ensures c.deref-2.ensures.value) in omega (arith, k.joins)

pub count_choices-requires-clause-sends : goal.count_choices-requires-clause-sends
count_choices-requires-clause-sends g c = let k = (fits-at _ _ _ _ _ (g.met.P.Requests.fine c.args.plan.now) c.requires c.deref.ensures.value c.as_slice.ensures c.deref-2.ensures.value) in omega (arith, k.sends)

pub overflow_cast-result : goal.overflow_cast-result
overflow_cast-result g c = let k = number-few _ _ _ _ _ _ _ c.requires.0 (g.met.P.Requests.fine c.args.plan.now) c.requires.1.shows in let e = count-at _ _ _ _ _ _ _ _ _ _ _ c.requires.0 c.count_choices.result c.requires.1.shows refl c.deref.ensures.value c.as_slice.ensures c.deref-2.ensures.value c.count_choices.ensures in omega (arith, k, e)

pub returns : goal.returns
returns g c = λ v h. count-at _ _ _ _ _ _ _ _ _ _ _ v c.count_choices.result h.shows refl c.deref.ensures.value c.as_slice.ensures c.deref-2.ensures.value c.count_choices.ensures
