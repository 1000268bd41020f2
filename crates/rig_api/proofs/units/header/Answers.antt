use Rattle.std.proofs.Common.{◌≡◌, ◌+◌, ◌-◌, ◌*◌, ◌++◌, [], ◌∷◌, length, arith, ◌∙◌, ap}
use Rattle.std.specs.Prelude.{map}
use Rattle.std.specs.Int.{w16, to_be_bytes}
use Rattle.rig_api.specs.Frames.{joined}
use Rattle.rig_api.specs.Headers.{entry_of, entry_size, magic_of, header}
use Rattle.rig_api.proofs.UnitLemmas.{more_items, all_taken, padded_by, entry_length}
use Rattle.rig_api.proofs.units.header.Goals as goal

pub loop-unit-preserved : goal.loop-unit-preserved
loop-unit-preserved c =
    let long : length c.deref.result.now ≡ entry_size c.args.version = ap length (c.deref.ensures.0 ∙ c.entry.ensures) ∙ entry_length c.args.version _ in
    let len : length c.loop-unit.out.items ≡ 16 + entry_size c.args.version * c.loop-unit.unit-index = c.loop-unit.invariant.len in
    let more : length c.append.new.out.items ≡ length c.loop-unit.out.items + length c.deref.result.now = c.append.ensures.len in
    record {
      items = more_items (entry_of c.args.version) _ c.args.units.now c.loop-unit.unit-index c.front-out.result.items c.loop-unit.out.items c.deref.result.now c.append.new.out.items
          c.loop-unit-test.true c.loop-unit.invariant.items c.append.ensures.items (c.deref.ensures.0 ∙ c.entry.ensures);
      len = omega arith;
    }

pub returns : goal.returns
unfolding header
returns c =
    padded_by (magic_of c.args.version) (to_be_bytes w16 (length c.args.units.now)) (0 ∷ 0 ∷ 0 ∷ 0 ∷ 0 ∷ 0 ∷ []) (joined (map (entry_of c.args.version) c.args.units.now))
    c.front-out.result.items c.loop-unit.out.items c.append-2.new.out.items (512 - c.len-rest.result)
    c.front-out.ensures
    (c.loop-unit.invariant.items ∙ ap (λ v. c.front-out.result.items ++ v) (all_taken (entry_of c.args.version) c.args.units.now c.loop-unit.unit-index c.loop-unit-test.false))
    (ap (λ v. 512 - v) c.len-rest.ensures.value)
    c.append-2.ensures.items
