use Rattle.std.proofs.Common.{arith}
use Rattle.vector_lines.proofs.Digits.{word_of_some}
use Rattle.report_text.proofs.Written.{as_text}
use Rattle.vector_lines.proofs.text.write_word.Goals as goal

pub returns-in-len1-up : goal.returns-in-len1-up
returns-in-len1-up g c = as_text (word_of_some c.args.bytes.now (omega arith)) c.write_digits.ensures
