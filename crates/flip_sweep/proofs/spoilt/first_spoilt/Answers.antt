use Rattle.std.proofs.Common.{sym, ◌∙◌}
use Rattle.flip_sweep.proofs.Spoiling.{found_in_unit, next_unit}
use Rattle.flip_sweep.proofs.spoilt.first_spoilt.Goals as goal

pub returns-in-Some-first_in : goal.returns-in-Some-first_in
returns-in-Some-first_in c =
    found_in_unit c.loop-unit.left.now c.in-Some.others.now c.in-Some.unit.now c.loop-unit.dev c.bytes_of-bytes.result c.loop-unit.before.now c.loop-unit.rest.now c.split_at.result.0.now c.split_at-in-Some.result.0.now c.in-Some-first_in.verdict
    c.in-Some.ensures.cases.0 c.bytes_of-bytes.ensures c.split_at.ensures.front c.split_at-in-Some.ensures.front (sym c.in-Some-first_in.is ∙ c.first_in.ensures) ∙ c.loop-unit.invariant.spoilt

pub loop-unit-preserved : goal.loop-unit-preserved
loop-unit-preserved c =
    let inv = c.loop-unit.invariant in
    let next = next_unit c.loop-unit.left.now c.in-Some.others.now c.in-Some.unit.now c.loop-unit.dev c.bytes_of-bytes.result c.loop-unit.before.now c.loop-unit.rest.now c.split_at.result.0.now c.split_at-in-Some.result.0.now c.split_at.result.1.now c.split_at-in-Some.result.1.now _
    c.in-Some.ensures.cases.0 c.bytes_of-bytes.ensures c.split_at.ensures.front c.split_at.ensures.back c.split_at-in-Some.ensures.front c.split_at-in-Some.ensures.back (sym c.in_default-first_in.is ∙ c.first_in.ensures)
    (record { spoilt = inv.spoilt; specs = inv.specs; was_long = inv.was; now_long = inv.now; few = inv.few }) in
    record { spoilt = next.spoilt; specs = next.specs; was = next.was_long; now = next.now_long; few = next.few }
