use Rattle.std.proofs.Common.{◌≡◌, ◌%◌, ◌^◌, ap, ◌∙◌, arith}
use Rattle.wide_blocks.proofs.Bits.{joins, kept_below}
use Rattle.wide_blocks.proofs.information.joined.Goals as goal

pub overflow_add-result : goal.overflow_add-result
overflow_add-result c =
    let value : c.from-2.result ≡ c.args.value % 2 ^ c.args.width = c.from-2.ensures ∙ (c.low.ensures ∙ ap (λ v. v % 2 ^ c.args.width) c.from.ensures) in
    let j = joins c.args.high c.args.bits c.args.width (c.args.value % 2 ^ c.args.width) c.requires.bits (kept_below c.args.value c.args.width) c.requires.room in
    let moved = j.moved in
    let fits = j.fits in
    record { fits = omega arith }

pub returns-clause-value : goal.returns-clause-value
returns-clause-value c =
    let value : c.from-2.result ≡ c.args.value % 2 ^ c.args.width = c.from-2.ensures ∙ (c.low.ensures ∙ ap (λ v. v % 2 ^ c.args.width) c.from.ensures) in
    let j = joins c.args.high c.args.bits c.args.width (c.args.value % 2 ^ c.args.width) c.requires.bits (kept_below c.args.value c.args.width) c.requires.room in
    let moved = j.moved in
    omega arith

pub returns-clause-bits : goal.returns-clause-bits
returns-clause-bits c =
    let value : c.from-2.result ≡ c.args.value % 2 ^ c.args.width = c.from-2.ensures ∙ (c.low.ensures ∙ ap (λ v. v % 2 ^ c.args.width) c.from.ensures) in
    let j = joins c.args.high c.args.bits c.args.width (c.args.value % 2 ^ c.args.width) c.requires.bits (kept_below c.args.value c.args.width) c.requires.room in
    let moved = j.moved in
    let below = j.below in
    omega arith
