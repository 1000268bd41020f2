use Rattle.std.proofs.Common.{◌*◌, List, length, refl, ap, subst, ◌∙◌}
use Rattle.report_text.proofs.Flow.{Left, at_end, at_start, breaks_off, goes_on}
use Rattle.flip_sweep.specs.Flips.{AreSites}
use Rattle.flip_sweep.specs.Ground.{swept_in}
use Rattle.flip_sweep.specs.Rows.{IsSmall}
use Rattle.flip_sweep.specs.Swept.{all_rows, counts_with, rows_at}
use Rattle.flip_sweep.specs.declared.counts.Counts.{Counts}
use Rattle.flip_sweep.specs.declared.flips.Site.{Site}
use Rattle.flip_sweep.proofs.Ending.{not_sink}
use Rattle.flip_sweep.proofs.Sounding.{block_few}
use Rattle.flip_sweep.proofs.Sweeping.{counts_next, no_counts, no_rows, rows_behind, small_begin, small_here, small_site}
use Rattle.flip_sweep.proofs.sweep.sweep_sites.Goals as goal
use Rattle.small_laws.proofs.Results.{on_err}

pub sweep_site-requires-clause-site : goal.sweep_site-requires-clause-site
sweep_site-requires-clause-site g c = (subst AreSites c.in-Some.ensures.cases.0 c.loop-site.invariant.sites).0

pub sweep_site-requires-clause-small : goal.sweep_site-requires-clause-small
sweep_site-requires-clause-small g c =
    small_here (swept_in c.args.base.now) c.loop-site.rest.now c.in-Some.behind.now c.in-Some.site.now c.loop-site.counts (block_few c.args.base.now.script.now c.requires.base.sound) c.in-Some.ensures.cases.0 c.loop-site.invariant.small

pub loop-site-init : goal.loop-site-init
loop-site-init g c =
    let w = swept_in c.args.base.now in
    record {
      rows = at_start (all_rows w c.args.sites.now) (g.O.Sink.taken c.args.out.now);
      counted = ap (λ (x : Counts). counts_with w x c.args.sites.now) c.none-counts.ensures;
      small = small_begin (length c.args.sites.now) c.none-counts.result c.none-counts.ensures c.requires.few;
      sites = c.requires.sites;
      count = refl;
    }

pub returns-in_err-more-clause-part : goal.returns-in_err-more-clause-part
returns-in_err-more-clause-part g c =
    let w = swept_in c.args.base.now in
    let all = all_rows w c.args.sites.now in
    on_err c.from_residual.result (breaks_off all (rows_at w c.in-Some.site.now) (all_rows w c.in-Some.behind.now) _ _ _
    (subst (λ t. Left all t (g.O.Sink.taken c.args.out.now) (g.O.Sink.taken c.loop-site.out)) (rows_behind w c.loop-site.rest.now c.in-Some.behind.now c.in-Some.site.now c.in-Some.ensures.cases.0) c.loop-site.invariant.rows) c.in_err-more.ensures.part)

pub loop-site-preserved : goal.loop-site-preserved
loop-site-preserved g c =
    let w = swept_in c.args.base.now in
    let at = c.in-Some.site.now in
    let behind = c.in-Some.behind.now in
    let rest = c.loop-site.rest.now in
    let more = c.in_ok-more.more in
    let inv = c.loop-site.invariant in
    let all = all_rows w c.args.sites.now in
    let cut = c.in-Some.ensures.cases.0 in
    record {
      rows = goes_on all (rows_at w at) (all_rows w behind) _ _ _
          (subst (λ t. Left all t (g.O.Sink.taken c.args.out.now) (g.O.Sink.taken c.loop-site.out)) (rows_behind w rest behind at cut) inv.rows) c.in_ok-more.ensures.whole;
      counted = counts_next w rest behind at c.loop-site.counts more cut c.in_ok-more.ensures.counts ∙ inv.counted;
      small = small_site w at c.loop-site.counts more (length behind) (block_few c.args.base.now.script.now c.requires.base.sound) c.in_ok-more.ensures.counts
          (subst (λ (xs : List Site). IsSmall c.loop-site.counts (4104 * length xs)) cut inv.small);
      sites = (subst AreSites cut inv.sites).1;
      count = c.in_ok-more.ensures.calm (λ e. absurd (cc)) ∙ inv.count;
    }

pub returns-clause-counts : goal.returns-clause-counts
returns-clause-counts g c =
    no_counts (swept_in c.args.base.now) c.loop-site.rest.now c.loop-site.counts c.in_default.ensures.cases ∙ c.loop-site.invariant.counted

pub returns-clause-whole : goal.returns-clause-whole
returns-clause-whole g c =
    let w = swept_in c.args.base.now in
    at_end (all_rows w c.args.sites.now) (all_rows w c.loop-site.rest.now) _ _ c.loop-site.invariant.rows (no_rows w c.loop-site.rest.now c.in_default.ensures.cases)

pub returns-in_err-more-clause-calm : goal.returns-in_err-more-clause-calm
returns-in_err-more-clause-calm g c = λ h. c.in_err-more.ensures.calm (not_sink c.from_residual.result c.in_err-more.field-0.0 c.from_residual.ensures.1 h) ∙ c.loop-site.invariant.count

pub returns-clause-calm : goal.returns-clause-calm
returns-clause-calm g c = λ h. c.loop-site.invariant.count
