use Rattle.std.proofs.Common.{◌+◌, ◌<◌, length, sym, ap, ◌∙◌, arith}
use Rattle.script_words.specs.Cuts.{lines_of}
use Rattle.fault_marks.specs.Entries.{entry_from}
use Rattle.fault_marks.proofs.Adding.{behind_shorter, entry_next, one_more}
use Rattle.fault_marks.proofs.entries.entry_line.Goals as goal

pub adds_entry-requires-clause-behind : goal.adds_entry-requires-clause-behind
adds_entry-requires-clause-behind c = ap length (one_more c.loop-line.before c.args.text.now c.loop-line.rest.now _ c.loop-line.invariant.behind c.behind_newline-behind.ensures.value)

pub loop-line-preserved : goal.loop-line-preserved
loop-line-preserved c =
    let some : 0 < length c.loop-line.rest.now = omega (arith, c.in-Some.ensures.shorter) in
    let less = behind_shorter c.loop-line.rest.now c.behind_newline-behind.result.now some c.behind_newline-behind.ensures.value in
    record {
      answer = ap (λ x. entry_from c.args.text.now c.args.entry (c.loop-line.before + 1) (lines_of x)) c.behind_newline-behind.ensures.value
          ∙ entry_next c.args.text.now c.loop-line.rest.now c.in-Some.line.now c.in-Some.field-0-1.now c.args.entry c.loop-line.before _ (λ z. omega (arith, z, some)) c.in-Some.ensures.some (sym c.in_ok-adds_entry.ensures ∙ c.if-branch.false) c.loop-line.invariant.answer;
      behind = one_more c.loop-line.before c.args.text.now c.loop-line.rest.now _ c.loop-line.invariant.behind c.behind_newline-behind.ensures.value;
      few = omega (arith, less, c.loop-line.invariant.few);
    }
