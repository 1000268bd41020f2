use Rattle.std.proofs.Common.{◌≡◌, ◌+◌, ◌-◌, ◌*◌, ◌^◌, ◌≤◌, true, get_or, sym, ap, ◌∙◌, arith}
use Rattle.std.proofs.lemmas.List.{drop_all}
use Rattle.script_words.specs.Decimals.{is_number, value_from}
use Rattle.script_words.proofs.DecimalLemmas.{over, within}
use Rattle.script_words.proofs.decimals.number.Goals as goal

pub returns-in_err-checked_mul : goal.returns-in_err-checked_mul
returns-in_err-checked_mul c =
    let spelled : is_number c.args.word.now ≡ true = sym c.is_spelled.ensures ∙ c.if-not-is_spelled.false in
    let big : 2 ^ 64 ≤ c.loop-digit.value * 10 + (get_or c.args.word.now c.loop-digit.digit-index 0 - 48) = omega (arith, c.in_err-checked_mul.ensures) in
    c.from_residual.ensures ∙ sym (over c.args.word.now c.loop-digit.digit-index c.loop-digit.value c.loop-digit.invariant.value c.loop-digit-test.true spelled big)

pub returns-in_err-value : goal.returns-in_err-value
returns-in_err-value c =
    let spelled : is_number c.args.word.now ≡ true = sym c.is_spelled.ensures ∙ c.if-not-is_spelled.false in
    let product : c.loop-digit.value * 10 ≡ c.in_ok-checked_mul.field-0 = sym c.in_ok-checked_mul.ensures.1 in
    let big : 2 ^ 64 ≤ c.loop-digit.value * 10 + (get_or c.args.word.now c.loop-digit.digit-index 0 - 48) = omega (arith, c.in_err-value.ensures, c.from.ensures, product) in
    c.from_residual-in_err-value.ensures ∙ sym (over c.args.word.now c.loop-digit.digit-index c.loop-digit.value c.loop-digit.invariant.value c.loop-digit-test.true spelled big)

pub returns : goal.returns
returns c =
    let spelled : is_number c.args.word.now ≡ true = sym c.is_spelled.ensures ∙ c.if-not-is_spelled.false in
    let whole : c.loop-digit.value ≡ value_from 0 c.args.word.now = ap (value_from c.loop-digit.value) (sym (drop_all c.loop-digit.digit-index c.args.word.now c.loop-digit-test.false)) ∙ c.loop-digit.invariant.value in
    within c.args.word.now c.loop-digit.value whole spelled c.loop-digit.invariant.small
