use Rattle.std.proofs.Common.{sym, ap, subst, length, ◌∙◌, arith}
use Rattle.flip_sweep.specs.Flips.{AreSites}
use Rattle.flip_sweep.specs.Ground.{swept_in}
use Rattle.flip_sweep.proofs.Ending.{all_counts, all_written, first_breaks, last_breaks, not_calm, not_sink, passed_on, rows_break}
use Rattle.flip_sweep.proofs.Siting.{all_sites, few_sites}
use Rattle.flip_sweep.proofs.sweep.write_sweep.Goals as goal
use Rattle.small_laws.proofs.Results.{on_err}

pub returns-in_err-write_first-clause-part : goal.returns-in_err-write_first-clause-part
returns-in_err-write_first-clause-part g c = on_err c.from_residual.result (first_breaks (swept_in c.args.base.now) _ _ c.in_err-write_first.ensures.wrote.part)

pub sweep_sites-requires-clause-sites : goal.sweep_sites-requires-clause-sites
sweep_sites-requires-clause-sites g c = subst AreSites (sym c.requires.sites) (all_sites c.args.base.now.script.now c.requires.base.sound.keeps)

pub sweep_sites-requires-clause-few : goal.sweep_sites-requires-clause-few
sweep_sites-requires-clause-few g c = let few = few_sites c.args.base.now.script.now c.requires.base.sound.keeps in let n = ap length c.requires.sites in omega (arith, few, n)

pub returns-in_err-counts-clause-part : goal.returns-in_err-counts-clause-part
returns-in_err-counts-clause-part g c =
    on_err c.from_residual-in_err-counts.result (rows_break (swept_in c.args.base.now) c.args.sites.now _ _ _ c.requires.sites c.in_ok-write_first.ensures.wrote.whole c.in_err-counts.ensures.part)

pub returns-in_err-write_last-clause-part : goal.returns-in_err-write_last-clause-part
returns-in_err-write_last-clause-part g c =
    on_err c.from_residual-in_err-write_last.result (last_breaks (swept_in c.args.base.now) c.args.sites.now c.in_ok-counts.counts _ _ _ _ c.requires.sites c.in_ok-counts.ensures.counts
    c.in_ok-write_first.ensures.wrote.whole c.in_ok-counts.ensures.whole c.in_err-write_last.ensures.wrote.part)

pub returns-clause-counts : goal.returns-clause-counts
returns-clause-counts g c = all_counts (swept_in c.args.base.now) c.args.sites.now c.in_ok-counts.counts c.requires.sites c.in_ok-counts.ensures.counts

pub returns-clause-whole : goal.returns-clause-whole
returns-clause-whole g c =
    all_written (swept_in c.args.base.now) c.args.sites.now c.in_ok-counts.counts _ _ _ _ c.requires.sites c.in_ok-counts.ensures.counts
    c.in_ok-write_first.ensures.wrote.whole c.in_ok-counts.ensures.whole c.in_ok-write_last.ensures.wrote.whole

pub returns-in_err-write_first-clause-calm : goal.returns-in_err-write_first-clause-calm
returns-in_err-write_first-clause-calm g c =
    let r = c.from_residual in
    λ h. not_calm r.result (passed_on r.result c.in_err-write_first.field-0.0 r.ensures.1 c.in_err-write_first.ensures.sink) h

pub returns-in_err-counts-clause-calm : goal.returns-in_err-counts-clause-calm
returns-in_err-counts-clause-calm g c =
    let r = c.from_residual-in_err-counts in
    λ h. c.in_err-counts.ensures.calm (not_sink r.result c.in_err-counts.field-0.0 r.ensures.1 h) ∙ c.in_ok-write_first.ensures.wrote.calm

pub returns-in_err-write_last-clause-calm : goal.returns-in_err-write_last-clause-calm
returns-in_err-write_last-clause-calm g c =
    let r = c.from_residual-in_err-write_last in
    λ h. not_calm r.result (passed_on r.result c.in_err-write_last.field-0.0 r.ensures.1 c.in_err-write_last.ensures.sink) h

pub returns-clause-calm : goal.returns-clause-calm
returns-clause-calm g c = λ h. c.in_ok-write_last.ensures.wrote.calm ∙ (c.in_ok-counts.ensures.calm (λ e. absurd (cc)) ∙ c.in_ok-write_first.ensures.wrote.calm)
