use Rattle.std.proofs.Common.{rules, ◌≡◌, None, sym, ◌∙◌}
use Rattle.call_verdict.specs.Words.{word_bytes}
use Rattle.lab_run.proofs.CheckFlags.{next_flag, none_stays}
use Rattle.lab_run.proofs.check_words.check_words.Goals as goal

pub returns-in_err-said : goal.returns-in_err-said
returns-in_err-said c =
    let none : c.from_residual-in_err-said.result ≡ None = search rules in
    none ∙ sym (none_stays (word_bytes c.in_ok-value.behind.now)) ∙ sym (next_flag _ _ _ _ _ c.loop-flag.said _ _ _ c.in-Some.ensures.cases.0 c.in_ok-value.ensures.cases.0 c.as_bytes.ensures.value c.as_bytes-in-Some.ensures.value c.in_err-said.ensures) ∙ c.loop-flag.invariant

pub loop-flag-preserved : goal.loop-flag-preserved
loop-flag-preserved c = sym (next_flag _ _ _ _ _ c.loop-flag.said _ _ _ c.in-Some.ensures.cases.0 c.in_ok-value.ensures.cases.0 c.as_bytes.ensures.value c.as_bytes-in-Some.ensures.value c.in_ok-said.ensures) ∙ c.loop-flag.invariant
