use Rattle.std.proofs.Common.{◌≡◌, ◌+◌, ◌*◌, ◌^◌, ◌<◌, ◌≤◌, ◌++◌, ◌∷◌, [], drop, get_or, length, sym, ap, ◌∙◌, arith, refl}
use Rattle.linear_volume.specs.declared.Linear.{Linear}
use Rattle.script_text.specs.declared.trees.Inner.{Inner}
use Rattle.script_text.specs.Trees.{track_from}
use Rattle.script_text.proofs.Tracking.{length_at, more_follows, more_len, more_track, skip_past, skip_track, take_past, take_track}
use Rattle.script_text.proofs.trees.track.Goals as goal

pub loop-extent-preserved : goal.loop-extent-preserved
loop-extent-preserved c =
    let i : Inner = get_or c.args.inner.now c.loop-extent.extent-index (record { volume = 0; len = 0; dev = 0; at = 0 }) in
    let e : Linear = record { start = c.loop-extent.start; len = i.len; dev = i.dev; at = i.at } in
    let here = c.loop-extent-test.true in
    let len = length_at c.args.inner.now c.loop-extent.extent-index (record { volume = 0; len = 0; dev = 0; at = 0 }) c.requires.lengths c.loop-extent-test.true in
    let low : 1 ≤ i.len = len.0 in
    let high : i.len ≤ 1048576 = len.1 in
    let fits : i.at + i.len < 2 ^ 64 = c.in-Some.ensures.fits in
    let added : c.add.new.list.items ≡ c.loop-extent.track.items ++ (e ∷ []) = c.in_ok-add.ensures.added ∙ ap (λ (x : Linear). c.loop-extent.track.items ++ (x ∷ [])) c.in-Some.ensures.some in
    let bound : c.loop-extent.start ≤ 1048576 * c.loop-extent.extent-index = c.loop-extent.invariant.bound in
    let few : length c.args.inner.now ≤ 32 = c.requires.few in
    let next = take_track c.loop-extent.start c.args.volume c.loop-extent.extent-index c.args.inner.now (record { volume = 0; len = 0; dev = 0; at = 0 }) c.loop-extent-test.true c.if-extent-volume.false in
    record {
      track = more_track c.loop-extent.track.items c.add.new.list.items (track_from (c.loop-extent.start + i.len) c.args.volume (drop (c.loop-extent.extent-index + 1) c.args.inner.now)) _ e (ap (λ x. c.loop-extent.track.items ++ x) (sym next) ∙ c.loop-extent.invariant.track) added;
      past = sym (take_past c.args.volume c.loop-extent.extent-index c.args.inner.now (record { volume = 0; len = 0; dev = 0; at = 0 }) c.loop-extent-test.true c.if-extent-volume.false fits) ∙ c.loop-extent.invariant.past;
      follows = more_follows c.loop-extent.track.items c.add.new.list.items e c.loop-extent.start c.loop-extent.invariant.follows c.loop-extent.invariant.start refl low high (omega (arith, bound, few, high, here)) fits added;
      start = more_len c.loop-extent.track.items c.add.new.list.items e c.loop-extent.start c.loop-extent.invariant.start added;
      bound = omega (arith, bound, high);
    }

pub loop-extent-preserved-then-extent-volume : goal.loop-extent-preserved-then-extent-volume
loop-extent-preserved-then-extent-volume c =
    let none : Inner = record { volume = 0; len = 0; dev = 0; at = 0 } in
    let i = c.loop-extent.extent-index in
    let inner = c.args.inner.now in
    let before = c.loop-extent.invariant in
    record {
      track = ap (λ x. c.loop-extent.track.items ++ x) (sym (skip_track c.loop-extent.start c.args.volume i inner none c.loop-extent-test.true c.if-extent-volume.true)) ∙ before.track;
      past = sym (skip_past c.args.volume i inner none c.loop-extent-test.true c.if-extent-volume.true) ∙ before.past;
      follows = before.follows;
      start = before.start;
      bound = omega arith;
    }
