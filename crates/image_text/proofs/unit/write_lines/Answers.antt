use Rattle.std.proofs.Common.{◌+◌, drop, ap, refl, ◌∙◌, arith}
use Rattle.std.proofs.lemmas.List.{drop_all}
use Rattle.image_text.specs.UnitText.{unit_lines}
use Rattle.image_text.proofs.Showing.{next_unit}
use Rattle.report_text.proofs.Written.{as_left, begins, breaks, ends, writes}
use Rattle.image_text.proofs.unit.write_lines.Goals as goal

pub loop-unit-init : goal.loop-unit-init
loop-unit-init g c = record { lines = begins; number = refl }

pub returns-in_err-write_all : goal.returns-in_err-write_all
returns-in_err-write_all g c =
    let next = next_unit c.loop-unit.dev c.loop-unit.unit-index c.args.units.now _ c.as_slice.result.now c.loop-unit-test.true (c.as_slice.ensures.value ∙ c.unit_line-line.ensures) in
    breaks (unit_lines (c.loop-unit.dev + 1) (drop (c.loop-unit.unit-index + 1) c.args.units.now)) c.from_residual.result c.from_residual.ensures.0 (as_left next c.loop-unit.invariant.lines) c.in_err-write_all.ensures

pub loop-unit-preserved : goal.loop-unit-preserved
loop-unit-preserved g c =
    let next = next_unit c.loop-unit.dev c.loop-unit.unit-index c.args.units.now _ c.as_slice.result.now c.loop-unit-test.true (c.as_slice.ensures.value ∙ c.unit_line-line.ensures) in
    record {
      lines = writes (as_left next c.loop-unit.invariant.lines) c.in_ok-write_all.ensures;
      number = omega (arith, c.loop-unit.invariant.number);
    }

pub returns : goal.returns
returns g c = ends c.loop-unit.invariant.lines (ap (unit_lines c.loop-unit.dev) (drop_all c.loop-unit.unit-index c.args.units.now c.loop-unit-test.false))
