use Rattle.std.proofs.Common.{◌≡◌, ◌++◌, take, drop, ap, sym, ◌∙◌, arith}
use Rattle.hex.specs.Hex.{encode_lower}
use Rattle.report_text.proofs.Written.{begins, as_left, writes, breaks, ends}
use Rattle.report_text.proofs.Lines.{hex_parts, hex_end}
use Rattle.report_text.proofs.writing.write_hex.Goals as goal

pub loop-rest-init : goal.loop-rest-init
loop-rest-init g c = begins

pub returns-in_err-write_all : goal.returns-in_err-write_all
returns-in_err-write_all g c =
    let digits : c.as_slice.result.now ≡ encode_lower (take c.min.result c.loop-rest.rest.now) = c.as_slice.ensures.value ∙ c.add_hex.ensures.items ∙ ap (λ d. d ++ encode_lower c.split_at.result.0.now) c.new-digits.ensures ∙ ap encode_lower c.split_at.ensures.front in
    breaks (encode_lower (drop c.min.result c.loop-rest.rest.now)) c.from_residual.result c.from_residual.ensures.0
    (as_left (sym (ap (λ d. d ++ encode_lower (drop c.min.result c.loop-rest.rest.now)) {x = c.as_slice.result.now} digits ∙ hex_parts c.min.result c.loop-rest.rest.now)) c.loop-rest.invariant) c.in_err-write_all.ensures

pub loop-rest-preserved : goal.loop-rest-preserved
loop-rest-preserved g c =
    let digits : c.as_slice.result.now ≡ encode_lower (take c.min.result c.loop-rest.rest.now) = c.as_slice.ensures.value ∙ c.add_hex.ensures.items ∙ ap (λ d. d ++ encode_lower c.split_at.result.0.now) c.new-digits.ensures ∙ ap encode_lower c.split_at.ensures.front in
    as_left (ap encode_lower {x = drop c.min.result c.loop-rest.rest.now} (sym c.split_at.ensures.back)) (writes (as_left (sym (ap (λ d. d ++ encode_lower (drop c.min.result c.loop-rest.rest.now)) {x = c.as_slice.result.now} digits ∙ hex_parts c.min.result c.loop-rest.rest.now)) c.loop-rest.invariant) c.in_ok-write_all.ensures)

pub returns : goal.returns
returns g c = ends c.loop-rest.invariant (hex_end c.loop-rest.rest.now (omega (arith, c.loop-rest-test.false)))
