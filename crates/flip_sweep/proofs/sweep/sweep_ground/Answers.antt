use Rattle.std.proofs.Common.{inr, None, refl, ap, ◌≡◌, ◌∙◌}
use Rattle.flip_sweep.specs.Flips.{own_fault, sites_from, sites_of}
use Rattle.flip_sweep.specs.Ground.{swept_in}
use Rattle.flip_sweep.specs.Swept.{unseen_in}
use Rattle.flip_sweep.proofs.Ending.{ends, fails}
use Rattle.flip_sweep.proofs.sweep.sweep_ground.Goals as goal

pub sites_of-requires : goal.sites_of-requires
sites_of-requires g c = rw c.as_slice.ensures c.requires.base.sound.keeps.ops_count

pub returns-in_default-clause-swept : goal.returns-in_default-clause-swept
returns-in_default-clause-swept g c = (inr (c.requires.base.own, tt), refl, refl)

pub write_sweep-ended-requires-clause-sites : goal.write_sweep-ended-requires-clause-sites
write_sweep-ended-requires-clause-sites g c =
    c.deref.ensures.value ∙ c.in-Ok.ensures ∙ ap (sites_from 1) c.as_slice.ensures

pub returns-in-Ok-flush-clause-swept : goal.returns-in-Ok-flush-clause-swept
returns-in-Ok-flush-clause-swept g c =
    let e = c.write_sweep-ended.ensures in
    rw c.has_unseen.ensures
    (ends c.write_sweep-ended.result (swept_in c.args.base.now) _ _ _ _ _ _
    (record { free = c.requires.base.own; counts = e.counts; whole = e.whole; part = e.part; cause = e.cause; count = e.count }) c.in-Ok-flush.ensures.calm c.flush.ensures.same)

pub returns-clause-swept : goal.returns-clause-swept
returns-clause-swept g c =
    let e = c.write_sweep-ended.ensures in
    fails c.write_sweep-ended.result (swept_in c.args.base.now) _ _ _ _ _ _
    (record { free = c.requires.base.own; counts = e.counts; whole = e.whole; part = e.part; cause = e.cause; count = e.count }) c.in-Err.ensures.cause c.flush.ensures.same

pub returns-in-Ok-flush-clause-calm : goal.returns-in-Ok-flush-clause-calm
returns-in-Ok-flush-clause-calm g c = λ h. c.in-Ok-flush.ensures.calm ∙ c.write_sweep-ended.ensures.calm (λ e. h (c.has_unseen.ensures ∙ ap unseen_in e))
