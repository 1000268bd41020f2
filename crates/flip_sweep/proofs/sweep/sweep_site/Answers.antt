use Rattle.std.proofs.Common.{◌≡◌, ℕ, ◌+◌, ◌-◌, ◌<◌, [], refl, ap, subst, ◌∙◌, arith}
use Rattle.report_text.proofs.Flow.{Left, at_end, at_start, breaks_off, goes_on, stops}
use Rattle.flip_sweep.specs.Ground.{swept_in}
use Rattle.flip_sweep.specs.Rows.{next_open, row, row_before}
use Rattle.flip_sweep.specs.Swept.{rows_at}
use Rattle.flip_sweep.specs.declared.stretch.Stretch.{Stretch}
use Rattle.flip_sweep.proofs.Ending.{not_calm, passed_on}
use Rattle.flip_sweep.proofs.Rowing.{small_less}
use Rattle.flip_sweep.proofs.Sweeping.{counted_first, counted_last, counted_next, last_on, open_rows, rows_first, rows_last, rows_next, small_first, small_on}
use Rattle.flip_sweep.proofs.sweep.sweep_site.Goals as goal
use Rattle.small_laws.proofs.Results.{on_err}

pub frame_len-len-requires : goal.frame_len-len-requires
frame_len-len-requires g c = c.requires.base.sound

pub returns-in_err-opened-clause-part : goal.returns-in_err-opened-clause-part
returns-in_err-opened-clause-part g c =
    let all = rows_at (swept_in c.args.base.now) c.args.site in
    on_err c.from_residual.result (stops all all _ _ _ (at_start all (g.O.Sink.taken c.args.out.now)) refl)

pub with-counted-requires : goal.with-counted-requires
with-counted-requires g c = small_less c.args.counts (c.args.base.now.script.now.block + 8) 1 (omega arith) c.requires.small

pub loop-current-init : goal.loop-current-init
loop-current-init g c =
    let w = swept_in c.args.base.now in
    let at = c.args.site in
    let s = c.in_ok-opened.opened in
    let taken = g.O.Sink.taken c.args.out.now in
    let none : s.last ≡ 0 = ap (λ (x : Stretch). x.last) c.in_ok-opened.ensures in
    record {
      rows = subst (λ t. Left (rows_at w at) t taken taken) (rows_first w at s c.in_ok-opened.ensures) (at_start (rows_at w at) taken);
      counted = counted_first w at s c.args.counts c.with-counted.result c.in_ok-opened.ensures c.with-counted.ensures;
      small = small_first w at s c.args.counts c.with-counted.result c.in_ok-opened.ensures c.with-counted.ensures c.requires.small;
      within = omega (arith, none);
      count = refl;
    }

pub returns-in_err-verdict-clause-part : goal.returns-in_err-verdict-clause-part
returns-in_err-verdict-clause-part g c =
    let w = swept_in c.args.base.now in
    on_err c.from_residual-in_err-verdict.result (stops (rows_at w c.args.site) (open_rows w c.args.site c.loop-current.current) _ _ _ c.loop-current.invariant.rows refl)

pub returns-in_err-next-clause-part : goal.returns-in_err-next-clause-part
returns-in_err-next-clause-part g c =
    let w = swept_in c.args.base.now in
    let at = c.args.site in
    let s = c.loop-current.current in
    let v = c.in_ok-verdict.verdict in
    on_err c.from_residual-in_err-next.result (breaks_off (rows_at w at) (row_before at s v) (open_rows w at (next_open s v)) _ _ _
    (subst (λ t. Left (rows_at w at) t (g.O.Sink.taken c.args.out.now) (g.O.Sink.taken c.loop-current.out)) (rows_next w at s (next_open s v) v c.in_ok-verdict.ensures (omega (arith, c.loop-current-test.true, c.frame_len-len.ensures.len)) refl) c.loop-current.invariant.rows)
    c.in_err-next.ensures.wrote.part)

pub with-more-requires : goal.with-more-requires
with-more-requires g c =
    small_less c.loop-current.counted (c.args.base.now.script.now.block + 8 - (c.loop-current.current.last + 1)) 1 (omega (arith, c.loop-current-test.true, c.frame_len-len.ensures.len)) c.loop-current.invariant.small

pub loop-current-preserved : goal.loop-current-preserved
loop-current-preserved g c =
    let w = swept_in c.args.base.now in
    let at = c.args.site in
    let s = c.loop-current.current in
    let next = c.in_ok-next.next in
    let v = c.in_ok-verdict.verdict in
    let inv = c.loop-current.invariant in
    let l : s.last + 1 < w.script.block + 8 = omega (arith, c.loop-current-test.true, c.frame_len-len.ensures.len) in
    record {
      rows = goes_on (rows_at w at) (row_before at s v) (open_rows w at next) _ _ _
          (subst (λ t. Left (rows_at w at) t (g.O.Sink.taken c.args.out.now) (g.O.Sink.taken c.loop-current.out)) (rows_next w at s next v c.in_ok-verdict.ensures l c.in_ok-next.ensures.current) inv.rows) c.in_ok-next.ensures.wrote.whole;
      counted = counted_next w at s next v c.loop-current.counted c.with-more.result _ c.in_ok-verdict.ensures l c.in_ok-next.ensures.current c.with-more.ensures inv.counted;
      small = small_on w s next v c.loop-current.counted c.with-more.result l c.in_ok-next.ensures.current c.with-more.ensures inv.small;
      within = omega (arith, last_on w s next v l c.in_ok-next.ensures.current, l);
      count = c.in_ok-next.ensures.wrote.calm ∙ inv.count;
    }

less_left : (len last next : ℕ) → next ≡ last + 1 → last + 1 < len → len - next < len - last
less_left len last next e l = omega (arith, e, l)

pub loop-current-smaller : goal.loop-current-smaller
loop-current-smaller g c =
    let w = swept_in c.args.base.now in
    let s = c.loop-current.current in
    let next = c.in_ok-next.next in
    let l : s.last + 1 < w.script.block + 8 = omega (arith, c.loop-current-test.true, c.frame_len-len.ensures.len) in
    less_left (w.script.block + 8) s.last next.last (last_on w s next c.in_ok-verdict.verdict l c.in_ok-next.ensures.current) l

pub returns-in_err-write_row-clause-part : goal.returns-in_err-write_row-clause-part
returns-in_err-write_row-clause-part g c =
    let w = swept_in c.args.base.now in
    let at = c.args.site in
    let s = c.loop-current.current in
    on_err c.from_residual-in_err-write_row.result (breaks_off (rows_at w at) (row at s) [] _ _ _
    (subst (λ t. Left (rows_at w at) t (g.O.Sink.taken c.args.out.now) (g.O.Sink.taken c.loop-current.out)) (rows_last w at s (omega (arith, c.loop-current-test.false, c.frame_len-len.ensures.len))) c.loop-current.invariant.rows)
    c.in_err-write_row.ensures.wrote.part)

pub returns-clause-counts : goal.returns-clause-counts
returns-clause-counts g c =
    let w = swept_in c.args.base.now in
    counted_last w c.args.site c.loop-current.current c.loop-current.counted _ (omega (arith, c.loop-current-test.false, c.frame_len-len.ensures.len)) c.loop-current.invariant.counted

pub returns-clause-whole : goal.returns-clause-whole
returns-clause-whole g c =
    let w = swept_in c.args.base.now in
    let at = c.args.site in
    let s = c.loop-current.current in
    at_end (rows_at w at) [] _ _ (goes_on (rows_at w at) (row at s) [] _ _ _
    (subst (λ t. Left (rows_at w at) t (g.O.Sink.taken c.args.out.now) (g.O.Sink.taken c.loop-current.out)) (rows_last w at s (omega (arith, c.loop-current-test.false, c.frame_len-len.ensures.len))) c.loop-current.invariant.rows)
    c.in_ok-write_row.ensures.wrote.whole) refl

pub returns-in_err-verdict-clause-calm : goal.returns-in_err-verdict-clause-calm
returns-in_err-verdict-clause-calm g c = λ h. c.loop-current.invariant.count

pub returns-in_err-next-clause-calm : goal.returns-in_err-next-clause-calm
returns-in_err-next-clause-calm g c =
    let r = c.from_residual-in_err-next in
    λ h. not_calm r.result (passed_on r.result c.in_err-next.field-0.0 r.ensures.1 c.in_err-next.ensures.sink) h

pub returns-in_err-write_row-clause-calm : goal.returns-in_err-write_row-clause-calm
returns-in_err-write_row-clause-calm g c =
    let r = c.from_residual-in_err-write_row in
    λ h. not_calm r.result (passed_on r.result c.in_err-write_row.field-0.0 r.ensures.1 c.in_err-write_row.ensures.sink) h

pub returns-clause-calm : goal.returns-clause-calm
returns-clause-calm g c = λ h. c.in_ok-write_row.ensures.wrote.calm ∙ c.loop-current.invariant.count
