use Rattle.std.proofs.Common.{◌++◌, codes, decimal, ap, ◌∙◌}
use Rattle.vector_lines.specs.Printed.{word_text}
use Rattle.report_text.proofs.Written.{as_text, stops_first, wrote_both}
use Rattle.vector_lines.proofs.text.write_head.Goals as goal

pub returns-in_err-write_all : goal.returns-in_err-write_all
returns-in_err-write_all g c = as_text (ap (λ a. a ++ word_text c.args.what.now.cdb) (c.as_slice.ensures.value ∙ c.front_of.ensures))
    (stops_first (word_text c.args.what.now.cdb) c.from_residual.result c.from_residual.ensures.0 c.in_err-write_all.ensures)

pub returns : goal.returns
returns g c =
    as_text (ap (λ a. a ++ word_text c.as_slice-2.result.now) (c.as_slice.ensures.value ∙ c.front_of.ensures) ∙ ap (λ b. (codes "v " ++ decimal c.args.what.now.dev) ++ word_text b) c.as_slice-2.ensures)
    (wrote_both c.write_word.result c.in_ok-write_all.ensures c.write_word.ensures)
