use Rattle.std.proofs.Common.{length, ap, sym, ◌∙◌, arith}
use Rattle.page_pool.proofs.Cutting.{past-none}
use Rattle.script_text.proofs.Walks.{part_taken}
use Rattle.script_text.proofs.segments.count_parts.Goals as goal

pub loop-part-preserved : goal.loop-part-preserved
loop-part-preserved c =
    let took = c.in-Some.ensures in
    let more = ap length took.first in
    let some = took.some in
    let within = took.within in
    record {
      parts = omega (arith, more, c.loop-part.invariant.parts);
      ahead = part_taken c.loop-part.left c.loop-part.walk c.next_part.new.self c.in-Some.part took.within took.ahead ∙ c.loop-part.invariant.ahead;
      bytes = omega (arith, some, within, c.loop-part.invariant.bytes);
    }

pub returns-clause-ahead : goal.returns-clause-ahead
returns-clause-ahead c = c.in_default.ensures.1 ∙ sym (past-none c.loop-part.left c.loop-part.walk c.in_default.ensures.0) ∙ c.loop-part.invariant.ahead
