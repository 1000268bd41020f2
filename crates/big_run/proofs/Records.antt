-- The records of a run, and what is said of it.
use Rattle.std.proofs.Common.{ℕ, zero, suc, false, ◌≡◌, ◌+◌, ◌-◌, ◌^◌, ◌≤◌, List, [], ◌∷◌, length, min, Some, refl, sym, ap, subst, ◌∙◌, arith, length-append}
use Rattle.std.specs.Prelude.{codes}
use Rattle.dix_base.specs.Told.{Calm}
use Rattle.pi_guard.specs.Guards.{crc}
use Rattle.report_text.specs.Report.{report}
use Rattle.rig_api.specs.Telling.{Standing}
use Rattle.rig_api.specs.State.{RigState}
use Rattle.rig_discovery.specs.Discovery.{LookAnswer, looks}
use Rattle.stack_ops.specs.declared.reply.Reply.{Reply}
use Rattle.stack_ops.specs.declared.reply.Reply.TheVariants.{Silent, Whole, Bad, Shown, Medium}
use Rattle.stack_laws.specs.Runs.{sends_of}
use Rattle.run_command.specs.Passed.{IsPlanFor, entries_of, unscheduled_mediums, ListsNone, bad_blocks}
use Rattle.run_command.proofs.Passed.{known_from, recorded_long, none_named}
use Rattle.script_text.specs.Generator.{big}
use Rattle.script_text.specs.declared.script.Script.{Script}
use Rattle.run_command.specs.Texts.{has_bad}
use Rattle.run_command.specs.Verdict.{Followed, HasRun}
use Rattle.run_command.specs.declared.verdict.Finished.{Finished}
use Rattle.rig_api.specs.Image.{formatted}
use Rattle.big_run.specs.Counting.{all_bad, counts_with, no_ops}
use Rattle.big_run.specs.Plain.{big_replies, big_table, big_units}
use Rattle.big_run.specs.Ran.{RanBig}
use Rattle.big_run.specs.declared.running.BigRun.{BigRun}
use Rattle.big_run.proofs.Quiet.{AreQuiet, IsQuiet}
use Rattle.big_run.proofs.Told.{plain_two, quiet_two, table_two, told_two, two}

counted : (bad all m : ℕ) → min (bad + 0) m ≡ min all m → bad ≤ m → bad ≡ min all m
counted bad all m e h = grind (arith, e, h)

pub counted_all : (bad m : ℕ) (rest all : List Reply) → length rest ≡ 0 → min (bad + all_bad rest) m ≡ min (all_bad all) m → bad ≤ m → bad ≡ min (all_bad all) m
counted_all bad m [] all z e h = counted bad (all_bad all) m e h
counted_all bad m (r ∷ rest) all z e h = absurd (omega arith)

looks_count : (s : Standing) (dev : ℕ) (answers : List LookAnswer) → length (looks s dev answers) ≡ length answers
looks_count s dev [] = refl
looks_count s dev (a ∷ answers) = ap suc (looks_count s (dev + 1) answers)

-- each device has a record
pub devices_recorded : (run : Finished) (script : Script) (name : List ℕ) (old new : RigState) → HasRun run script name old new → new.standing.devices ≤ length new.log
devices_recorded run script name old new r =
    let asked = r.asked.told in
    let devices : new.standing.devices ≡ asked.between.standing.devices = ap (λ (s : Standing). s.devices) (r.followed.any_rig.goes.standing ∙ asked.since.standing) in
    let each = asked.found.each in
    let looked = looks_count asked.between.standing 0 asked.found.answers in
    let first = ap length asked.found.log ∙ length-append asked.between.log (looks asked.between.standing 0 asked.found.answers) in
    let all = ap length r.followed.any_rig.goes.records ∙ length-append r.told.log r.followed.any_rig.goes.more in
    omega (arith, devices, each, looked, first, all)

-- those behind discovery are the run's
exchanged : (run : Finished) (script : Script) (name : List ℕ) (old new : RigState) (exchanges : ℕ) (r : HasRun run script name old new) → old.log ≡ [] → new.standing.devices + exchanges ≡ length new.log → exchanges ≡ length r.followed.any_rig.goes.more
exchanged run script name old new exchanges r none e =
    let asked = r.asked.told in
    let devices : new.standing.devices ≡ asked.between.standing.devices = ap (λ (s : Standing). s.devices) (r.followed.any_rig.goes.standing ∙ asked.since.standing) in
    let each = asked.found.each in
    let looked = looks_count asked.between.standing 0 asked.found.answers in
    let opened : length asked.between.log ≡ 0 = ap length (asked.since.kept.log ∙ none) in
    let first = ap length asked.found.log ∙ length-append asked.between.log (looks asked.between.standing 0 asked.found.answers) in
    let all = ap length r.followed.any_rig.goes.records ∙ length-append r.told.log r.followed.any_rig.goes.more in
    omega (arith, devices, each, looked, opened, first, all)

-- ---- no block fails

none_bad : (replies : List Reply) → AreQuiet replies → all_bad replies ≡ 0
none_bad [] q = refl
none_bad (Silent ∷ replies) q = let r = none_bad replies q.1 in omega (arith, r)
none_bad (Whole ∷ replies) q = let r = none_bad replies q.1 in omega (arith, r)
none_bad (Bad blocks ∷ replies) q = absurd q.0
none_bad (Shown bytes ∷ replies) q = let r = none_bad replies q.1 in omega (arith, r)
none_bad (Medium ∷ replies) q = absurd q.0

has_none : (replies : List Reply) → AreQuiet replies → has_bad replies ≡ false
has_none [] q = refl
has_none (Silent ∷ replies) q = has_none replies q.1
has_none (Whole ∷ replies) q = has_none replies q.1
has_none (Bad blocks ∷ replies) q = absurd q.0
has_none (Shown bytes ∷ replies) q = has_none replies q.1
has_none (Medium ∷ replies) q = absurd q.0

no_blocks : (reply : Reply) → IsQuiet reply → bad_blocks reply ≡ []
no_blocks Silent q = refl
no_blocks Whole q = refl
no_blocks (Bad blocks) q = absurd q
no_blocks (Shown bytes) q = refl
no_blocks Medium q = absurd q

lists_none : (replies : List Reply) → AreQuiet replies → ListsNone replies
lists_none [] q zero = refl
lists_none [] q (suc i) = refl
lists_none (r ∷ replies) q zero = no_blocks r q.0
lists_none (r ∷ replies) q (suc i) = lists_none replies q.1 i

no_bad : (bad all : ℕ) → bad ≡ min all (2 ^ 64 - 1) → all ≡ 0 → bad ≡ 0
no_bad bad all e z = grind (arith, e, z)

-- no fault was counted since the devices had answered
since_told : (run : Finished) (script : Script) (name : List ℕ) (old new : RigState) (r : HasRun run script name old new) → Calm old.faults new.faults → Calm r.told.faults new.faults
since_told run script name old new r calm =
    let a = r.asked.told.since.kept.count in
    let b = r.asked.told.since.count in
    let c = calm.0 in
    let d = calm.1 in
    (omega (arith, a, b, c), d)

-- ---- the run

table_is : (n seed : ℕ) (run : Finished) (old new : RigState) → old.image ≡ Some (formatted two) → (r : HasRun run (big n seed) (codes "big") old new) → r.table ≡ big_table
table_is n seed run old new image r = table_two n seed (codes "big") r.devices r.table old r.told image r.asked r.made

replies_big : (n seed : ℕ) (run : Finished) (old new : RigState) → old.image ≡ Some (formatted two) → Calm old.faults new.faults → HasRun run (big n seed) (codes "big") old new → run.stack.replies.items ≡ big_replies n seed
replies_big n seed run old new image calm r =
    let followed : Followed (big n seed) big_table r.devices r.told new run.stack.pool run.stack.replies.items =
    subst (λ t. Followed (big n seed) t r.devices r.told new run.stack.pool run.stack.replies.items) (table_is n seed run old new image r) r.followed in
    let units = told_two (codes "big") r.devices old r.told image r.asked in
    let plain = plain_two n seed (codes "big") r.devices r.table old r.told image r.asked r.made in
    let none = none_named (unscheduled_mediums (big n seed).faults run.stack.replies.items) r.told.faults new.faults followed.any_rig.medium (since_told run (big n seed) (codes "big") old new r calm) in
    ((followed.intact (known_from r.told new followed.any_rig.tells_blocks big_units units) none).plain plain).replies_are

pub ran_big : (n seed : ℕ) (b : BigRun) (old new : RigState) (run : Finished) (script : Script) → script ≡ big n seed → old.image ≡ Some (formatted two) → old.log ≡ [] → Calm old.faults new.faults →
    HasRun run script (codes "big") old new → b.counts ≡ counts_with no_ops script.ops → b.bad ≡ min (all_bad run.stack.replies.items) (2 ^ 64 - 1) → b.has_bad ≡ has_bad run.stack.replies.items →
    new.standing.devices + b.exchanges ≡ length new.log → b.sum ≡ crc (report run.stack.replies.items) → RanBig n seed b
ran_big n seed b old new run script e image log calm ran counts bad has exchanges sum =
    let made : HasRun run (big n seed) (codes "big") old new = subst (λ (s : Script). HasRun run s (codes "big") old new) e ran in
    let own = exchanged run (big n seed) (codes "big") old new b.exchanges made log exchanges in
    let replies = replies_big n seed run old new image calm made in
    let quiet : AreQuiet run.stack.replies.items = subst AreQuiet (sym replies) (quiet_two n seed) in
    let sends = made.followed.any_rig.sends in
    record {
      old = old;
      new = new;
      run = run;
      image = image;
      none = log;
      calm = calm;
      ran = made;
      counts_are = counts ∙ ap (λ (s : Script). counts_with no_ops s.ops) e;
      bad_is = bad;
      has_bad_is = has;
      exchanges_are = exchanges;
      sum_is = sum;
      replies_are = replies;
      none_bad = no_bad b.bad (all_bad run.stack.replies.items) bad (none_bad run.stack.replies.items quiet);
      not_bad = has ∙ has_none run.stack.replies.items quiet;
      sum_known = sum ∙ ap (λ rs. crc (report rs)) replies;
      plan = sends.plan;
      is_plan = subst (λ t. IsPlanFor (big n seed) t sends.plan) (table_is n seed run old new image made) sends.is_plan;
      few = (let a = sends.few in omega (arith, own, a));
      sends_are = own ∙ recorded_long (sends_of sends.plan (entries_of (big n seed).schedule)) made.followed.any_rig.goes.more (sends.sent (lists_none run.stack.replies.items quiet));
    }

pub rest_of : (devices records : ℕ) → devices ≤ records → devices + (records - devices) ≡ records
rest_of devices records h = omega arith
