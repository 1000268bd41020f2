use Rattle.std.proofs.Common.{◌++◌, codes, ap, ◌∙◌}
use Rattle.vector_lines.specs.Printed.{word_text}
use Rattle.report_text.proofs.Written.{as_text, stops_first, wrote_both}
use Rattle.vector_lines.proofs.text.write_tail.Goals as goal

pub returns-in_err-write_all : goal.returns-in_err-write_all
returns-in_err-write_all g c =
    let rest = word_text c.args.came.now ++ codes "\n" in
    as_text (ap (λ a. a ++ rest) (c.as_slice.ensures.value ∙ c.outcome_of.ensures)) (stops_first rest c.from_residual.result c.from_residual.ensures.0 c.in_err-write_all.ensures)

pub returns-in_err-write_word : goal.returns-in_err-write_word
returns-in_err-write_word g c = as_text (ap (λ a. a ++ (word_text c.args.came.now ++ codes "\n")) (c.as_slice.ensures.value ∙ c.outcome_of.ensures))
    (wrote_both c.from_residual-in_err-write_word.result c.in_ok-write_all.ensures
    (stops_first (codes "\n") c.from_residual-in_err-write_word.result c.from_residual-in_err-write_word.ensures.0 c.in_err-write_word.ensures))

pub returns : goal.returns
returns g c = as_text (ap (λ a. a ++ (word_text c.args.came.now ++ codes "\n")) (c.as_slice.ensures.value ∙ c.outcome_of.ensures))
    (wrote_both c.write_all-2.result c.in_ok-write_all.ensures (wrote_both c.write_all-2.result c.in_ok-write_word.ensures c.write_all-2.ensures))
