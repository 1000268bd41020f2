-- The step that a word chooses.
use Rattle.std.proofs.Common.{refl, arith}
use Rattle.stack_steps.proofs.Step.{fits-at, means-at, within-at}
use Rattle.stack_steps.proofs.machine.Machine.choose.Goals as goal

pub nth_choice-requires-clause-ops : goal.nth_choice-requires-clause-ops
nth_choice-requires-clause-ops g c = (fits-at _ _ _ _ _ (g.met.P.Requests.fine c.args.plan.now) (c.requires.view, c.requires.holds) c.deref.ensures.value c.as_slice.ensures c.deref-2.ensures.value).below

pub nth_choice-requires-clause-joins : goal.nth_choice-requires-clause-joins
nth_choice-requires-clause-joins g c = let k = (fits-at _ _ _ _ _ (g.met.P.Requests.fine c.args.plan.now) (c.requires.view, c.requires.holds) c.deref.ensures.value c.as_slice.ensures c.deref-2.ensures.value) in omega (arith, k.joins)

pub nth_choice-requires-clause-within : goal.nth_choice-requires-clause-within
nth_choice-requires-clause-within g c = within-at _ _ _ _ _ _ _ _ _ _ _ c.requires.view c.args.word c.number_of-number.result c.requires.holds.shows refl c.deref.ensures.value c.as_slice.ensures c.deref-2.ensures.value c.requires.some (c.number_of-number.ensures c.requires.view c.requires.holds c.requires.some)

pub returns : goal.returns
returns g c = λ v h l. means-at _ _ _ _ _ _ _ _ _ _ _ v c.args.word c.number_of-number.result c.nth_choice.result h.shows refl c.deref.ensures.value c.as_slice.ensures c.deref-2.ensures.value l (c.number_of-number.ensures v h l) c.nth_choice.ensures
