use Rattle.std.proofs.Common.{◌++◌}
use Rattle.vector_lines.specs.Printed.{tail_text, word_text}
use Rattle.report_text.proofs.Written.{stops_first, wrote_both}
use Rattle.vector_lines.proofs.text.write_vector.Goals as goal

pub returns-in_err-write_head : goal.returns-in_err-write_head
returns-in_err-write_head g c = stops_first (word_text c.args.sent.now ++ tail_text c.args.what.now.outcome c.args.came.now) c.from_residual.result c.from_residual.ensures.0 c.in_err-write_head.ensures

pub returns-in_err-write_word : goal.returns-in_err-write_word
returns-in_err-write_word g c = wrote_both c.from_residual-in_err-write_word.result c.in_ok-write_head.ensures
    (stops_first (tail_text c.args.what.now.outcome c.args.came.now) c.from_residual-in_err-write_word.result c.from_residual-in_err-write_word.ensures.0 c.in_err-write_word.ensures)

pub returns : goal.returns
returns g c = wrote_both c.write_tail.result c.in_ok-write_head.ensures (wrote_both c.write_tail.result c.in_ok-write_word.ensures c.write_tail.ensures)
