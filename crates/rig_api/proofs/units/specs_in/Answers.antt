use Rattle.std.proofs.Common.{◌≡◌, ◌≤◌, ◌<◌, ◌+◌, ◌-◌, ◌*◌, ◌++◌, [], ◌∷◌, length, drop, min, refl, arith, ◌∙◌, ap, length-append}
use Rattle.rig_api.specs.Headers.{entry_size, spec_of, specs_from, specs_in}
use Rattle.rig_api.proofs.UnitLemmas.{specs_next, specs_end, entry_small}
use Rattle.rig_api.proofs.units.specs_in.Goals as goal

pub loop-preserved : goal.loop-preserved
loop-preserved c =
    let small = entry_small c.args.version in
    let some : c.loop.counter < c.min-count.result = c.loop-test.true in
    let back : length c.split_at.result.1.now + c.entry_size.result ≡ length c.loop.rest.now = c.split_at.ensures.back_len in
    let size : c.entry_size.result ≡ entry_size c.args.version = c.entry_size.ensures in
    let next : c.split_at.result.1.now ≡ drop (entry_size c.args.version) c.loop.rest.now = c.split_at.ensures.back ∙ ap (λ v. drop v c.loop.rest.now) size in
    let last : c.add.new.units.items ≡ c.loop.units.items ++ (spec_of c.args.version c.loop.rest.now ∷ []) = c.add.ensures ∙ ap (λ v. c.loop.units.items ++ (v ∷ [])) c.spec_at.ensures in
    let len : length c.loop.units.items ≡ c.loop.counter = c.loop.invariant.len in
    let room : 32 * (c.min-count.result - c.loop.counter) ≤ length c.loop.rest.now = c.loop.invariant.room in
    record {
      items = c.loop.invariant.items
          ∙ specs_next c.args.version (c.min-count.result - c.loop.counter) (c.min-count.result - (c.loop.counter + 1)) c.loop.rest.now c.loop.units.items (omega arith)
          ∙ (rw (last, next) refl);
      len = ap length last ∙ length-append c.loop.units.items _ ∙ omega arith;
      room = omega (arith, small.0, small.1);
      few = c.loop.invariant.few;
    }

pub returns : goal.returns
unfolding specs_in
returns c =
    specs_end c.args.version c.min-count.result (c.min-count.result - c.loop.counter) (drop 16 c.args.first.now) c.loop.rest.now c.loop.units.items c.loop.invariant.items (omega (arith, c.loop-test.false))
    ∙ ap (λ n. specs_from c.args.version n (drop 16 c.args.first.now)) (c.min-count.ensures ∙ ap (λ x. min x 8) c.from_be_bytes.ensures)
