use Rattle.std.proofs.Common.{Some, sym, ap, ◌∙◌, arith}
use Rattle.call_verdict.specs.Words.{word_bytes}
use Rattle.headline.proofs.Headlined.{answered, headlined_by}
use Rattle.headline.proofs.bytes.run_on_bytes.Goals as goal

pub returns : goal.returns
returns c =
    answered c.ran_by.result _ _ _ _ c.ran_by.ensures.status c.ran_by.ensures.report c.ran_by.ensures.image
    (λ ran status report image.
    headlined_by c.args.way c.args.image.items c.args.script.items ran.image.items ran.report.items _ _ _ _ _ c.run-status.result ran.status c.run-status.ensures.carries c.ran_by.ensures.told
    (ap word_bytes c.deref.ensures.value ∙ c.in_ok-words.ensures)
    (ap Some c.new-source.ensures)
    (omega arith, omega arith)
    c.rig_over-rig.ensures.image c.rig_over-rig.ensures.bytes image status (ap Some c.new-sink.ensures.none) (ap Some (sym report)) (sym c.wants_memory.ensures ∙ c.if-wants_memory.false))
