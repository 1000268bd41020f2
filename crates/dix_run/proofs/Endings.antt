-- Commands that came to their ends.
use Rattle.std.proofs.Common.{ℕ, ◌≡◌, inr, List, [], ◌++◌, length, drop, Option, sym, ap, subst, ◌∙◌, append_assoc}
use Rattle.std.specs.Prelude.{codes, decimal}
use Rattle.std.proofs.Math.Seq.{drop-append_seam}
use Rattle.rig_api.specs.declared.units.UnitSpec.{UnitSpec}
use Rattle.volume_table.specs.declared.device.DeviceInfo.{DeviceInfo}
use Rattle.rig_api.specs.Log.{LogEntry}
use Rattle.rig_api.specs.State.{RigState}
use Rattle.rig_discovery.specs.Discovery.{looks}
use Rattle.pi_scrub.specs.declared.found.Found.{Found}
use Rattle.image_commands.specs.Causes.{CauseUnscrubbed, WasFormatted, WasScrubbed}
use Rattle.call_refusal.specs.declared.refusal.Refusal.TheVariants as stop
use Rattle.report_text.specs.Report.{report}
use Rattle.report_text.specs.Trace.{trace}
use Rattle.call_verdict.specs.Words.{image_in}
use Rattle.script_text.specs.declared.script.Script.{Script}
use Rattle.run_command.specs.Texts.{has_bad}
use Rattle.run_command.specs.Verdict.{HasRun, HasRunSource}
use Rattle.run_command.specs.declared.verdict.Finished.{Finished}
use Rattle.dix_run.specs.Commands.{format_work, trace_work}
use Rattle.call_verdict.specs.Verdicts.{EndedAs, Written, done_status}
use Rattle.call_verdict.proofs.Verdicts.{done}
use Rattle.dix_run.specs.Verdict.{Facts, LeavesSource, call_of, dix}
use Rattle.call_verdict.specs.declared.status.Status.{Status}
use Rattle.call_verdict.specs.declared.status.Status.TheVariants as status

-- a scrub without the memory for its text looked at every block
pub scrub_spared : (name : List ℕ) (devices : List DeviceInfo) (found : List Found) (old new : RigState) → WasScrubbed name devices found old new → CauseUnscrubbed stop.Memory name old new
scrub_spared name devices found old new d =
    inr (record { devices = devices; told = d.told; discovered = d.discovered; left = []; found = found; looked = d.looked; units = d.units; armed = d.armed; standing = d.standing; count = d.count })

-- ---- commands that were done

-- a count of units that are the words'
pub formatted : (f : Facts) (us : List UnitSpec) (n : ℕ) (old new : Option (List ℕ)) (o m : ℕ) (result : Status) → n ≡ length us → WasFormatted (image_in f.words) us f.rig f.rig_after → LeavesSource f →
    Written status.Whole (codes "formatted " ++ (decimal n ++ codes "\n")) old new o m result → EndedAs dix (format_work us) f old new o m result
formatted f us n old new o m result number was source written =
    done dix (format_work us) tt f old new o m result (was, source) (subst (λ k. Written status.Whole (codes "formatted " ++ (decimal k ++ codes "\n")) old new o m result) number written)

-- the records of a call that ran a script
records_since : (run : Finished) (script : Script) (name : List ℕ) (old new : RigState) → HasRun run script name old new → new.log ≡ old.log ++ drop run.first new.log
records_since run script name old new r =
    let told = r.asked.told in
    let asks : List LogEntry = looks told.between.standing 0 told.found.answers in
    let asked : r.told.log ≡ old.log ++ asks = told.found.log ∙ ap (λ v. v ++ asks) told.since.kept.log in
    let more : new.log ≡ old.log ++ (asks ++ r.followed.any_rig.goes.more) = r.followed.any_rig.goes.records ∙ ap (λ v. v ++ r.followed.any_rig.goes.more) asked ∙ append_assoc old.log asks r.followed.any_rig.goes.more in
    let rest : drop run.first new.log ≡ asks ++ r.followed.any_rig.goes.more = ap (λ k. drop k new.log) r.first ∙ ap (drop (length old.log)) more ∙ drop-append_seam old.log (asks ++ r.followed.any_rig.goes.more) in
    more ∙ ap (λ v. old.log ++ v) (sym rest)

pub traced : (f : Facts) (run : Finished) (old new : Option (List ℕ)) (o n : ℕ) (result : Status) → HasRunSource run (call_of f) →
    Written (done_status (has_bad run.stack.replies.items)) (report run.stack.replies.items ++ trace (drop run.first f.rig_after.log)) old new o n result → EndedAs dix trace_work f old new o n result
traced f run old new o n result ran written =
    done dix trace_work (run, drop run.first f.rig_after.log) f old new o n result (record { ran = ran; log_is = records_since run ran.script (image_in f.words) f.rig f.rig_after ran.ran }) written
