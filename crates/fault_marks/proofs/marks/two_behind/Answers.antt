use Rattle.std.proofs.Common.{◌≡◌, ap, ◌∙◌, arith}
use Rattle.fault_marks.specs.Marks.{last_end}
use Rattle.fault_marks.specs.Words.{spans_of}
use Rattle.fault_marks.proofs.Spans.{ends_within}
use Rattle.fault_marks.proofs.marks.two_behind.Goals as goal

pub overflow_add-result : goal.overflow_add-result
overflow_add-result c =
    let w = ends_within c.args.line.now in
    let e : c.last_end-end.result ≡ last_end (spans_of c.args.line.now) = c.last_end-end.ensures ∙ ap last_end c.requires.words in
    omega (arith, e, w, c.requires.short)
