use Rattle.std.proofs.Common.{List, inr, refl, sym, ap, subst, ◌∙◌}
use Rattle.std.specs.Prelude.{is_some}
use Rattle.std.proofs.lemmas.Result.{err_from_is_err_and}
use Rattle.fault_schedule.specs.declared.fault.FaultLine.{FaultLine}
use Rattle.rig_api.specs.State.{RigState}
use Rattle.run_command.proofs.Completing.{stops_from_outside}
use Rattle.run_command.proofs.Devices.{has_device, known_infos}
use Rattle.script_stack.proofs.Counted.{silent_replies}
use Rattle.script_stack.proofs.Passed.{suits}
use Rattle.script_stack.specs.Sends.{SendsBy, entries_of}
use Rattle.script_stack.proofs.Following.{sizes-found}
use Rattle.run_command.proofs.Refusing.{asked_still}
use Rattle.run_command.proofs.Walked.{followed, goes_from, went_from}
use Rattle.stack_core.specs.Mediums.{HasCounted, medium_replies}
use Rattle.stack_core.specs.declared.sheet.Sheet.{Sheet}
use Rattle.run_command.proofs.verdict.run_script.Goals as goal

pub ready_script-requires-clause-bound : goal.ready_script-requires-clause-bound
ready_script-requires-clause-bound g c = record {
  suits = suits c.args.script c.requires.keeps;
  lines = c.requires.lines;
  few = rw c.deref.ensures.0 c.in_ok-bound.ensures.asked.told.devices_are.few;
  made = rw c.deref.ensures.0 c.in_ok-bound.ensures.made.made;
  bound = rw c.deref.ensures.0 c.in_ok-bound.ensures.bound;
}

pub ready_script-requires-clause-count : goal.ready_script-requires-clause-count
ready_script-requires-clause-count g c = rw c.deref.ensures.0 c.in_ok-bound.ensures.asked.told.devices_are.count

pub ready_script-requires-clause-told : goal.ready_script-requires-clause-told
ready_script-requires-clause-told g c = rw c.deref.ensures.0 (known_infos c.args.image.now c.in_ok-bound.bound.devices.items _ _ c.in_ok-bound.ensures.asked (g.met.R.Rig.laid c.bind.new.rig))

pub returns-in_err-bound-clause-complete : goal.returns-in_err-bound-clause-complete
returns-in_err-bound-clause-complete g c =
    let p = err_from_is_err_and c.from_residual.result c.from_residual.ensures.1 in
    rw (p.1, p.2) (stops_from_outside c.in_err-bound.field-0.0 c.args.script c.args.image.now (g.R.Rig.state c.args.rig.now) (g.R.Rig.state c.bind.new.rig) c.in_err-bound.ensures)

pub returns-in_err-run-clause-verdict : goal.returns-in_err-run-clause-verdict
returns-in_err-run-clause-verdict g c =
    let p = err_from_is_err_and c.from_residual-in_err-run.result c.from_residual-in_err-run.ensures.1 in
    rw (p.1, p.2) (inr (c.in_ok-bound.bound.devices.items, asked_still c.args.image.now c.in_ok-bound.bound.devices.items (g.R.Rig.state c.args.rig.now) (g.R.Rig.state c.ready_script.new.rig) (g.R.Rig.state c.bind.new.rig) _ c.in_err-run.ensures.unarmed c.in_ok-bound.ensures.asked))

pub returns-clause-verdict : goal.returns-clause-verdict
returns-clause-verdict g c =
    let devices = c.in_ok-bound.bound.devices.items in
    let told = g.R.Rig.state c.bind.new.rig in
    let end = g.R.Rig.state c.run_all.new.rig in
    let begun = c.in_ok-run.run'.stack in
    let r = c.run_all.new.stack in
    let ready = c.in_ok-run.ensures in
    let begins = ready.begins in
    let asked = c.in_ok-bound.ensures.asked in
    record {
      devices = devices;
      told = told;
      asked = asked;
      table = c.in_ok-bound.bound.table;
      made = c.in_ok-bound.ensures.made;
      bound = c.in_ok-bound.ensures.bound;
      begun = begun;
      starts = record {
        stack = begins.stack;
        first = begins.new.first;
        ops = begins.is.ops;
        ios = begins.is.ios;
        table_is = begins.is.table;
        limits = begins.is.limits;
        mode = begins.is.mode;
        faults = begins.is.faults;
        pool = begins.new.pool;
      };
      ends = record { stack = c.run_all.ensures.stands.stack; stays = c.run_all.ensures.stays; ended = c.run_all.ensures.ended };
      followed = followed c.args.script c.in_ok-bound.bound.table devices begun r told end c.a_script_run_is_backed.ensures c.a_finished_stack_has_sent.ensures.few c.a_finished_stack_has_sent.ensures.all
          c.a_finished_stack_names_the_medium_seldom.ensures c.a_told_script_run_has_walked.ensures.unnamed c.a_told_script_run_has_walked.ensures.calm c.a_calm_walk_is_a_plain_map.ensures.replies c.a_calm_walk_is_a_plain_map.ensures.under
          c.a_read_is_the_last_write_or_names_the_first_layer.ensures c.a_read_is_the_last_stored_write_or_names_who_ends_it.ensures
          c.a_script_is_shown_by_its_form.ensures c.a_script_is_accounted_for_by_its_form.ensures c.a_script_supplies_no_escape_by_its_form.ensures
          c.a_told_script_run_has_fallen.ensures c.a_stack_reads_the_last_write_or_fails_at_the_medium.ensures c.a_stack_writes_or_fails_at_the_medium.ensures.own c.a_stack_writes_or_fails_at_the_medium.ensures.brought
          (record {
            keeps = c.requires.keeps;
            some = has_device c.args.image.now devices _ _ asked;
            octets = g.met.R.Rig.octets c.bind.new.rig;
            faults = c.run_all.ensures.rig.armed ∙ ap (λ (s : RigState). s.armed) ready.armed;
            over = record {
              suits = suits c.args.script c.requires.keeps;
              lines = c.requires.lines;
              made = c.in_ok-bound.ensures.made.made;
              bound = c.in_ok-bound.ensures.bound;
              sizes = rw asked.told.since.standing (sizes-found asked.told.between.standing devices _ _ asked.told.found);
              known = known_infos c.args.image.now devices _ _ asked (g.met.R.Rig.laid c.bind.new.rig);
              laid = g.met.R.Rig.laid c.bind.new.rig;
              ready = g.met.R.Rig.ready c.bind.new.rig;
              laid_after = g.met.R.Rig.laid c.run_all.new.rig;
              ready_after = g.met.R.Rig.ready c.run_all.new.rig;
              armed = refl;
              stack = c.run_all.ensures.stands.stack;
              ops = ap (λ (x : Sheet). x.ops) c.run_all.ensures.stays.sheet ∙ begins.is.ops;
              ended = c.run_all.ensures.ended;
              walks = rw c.deref.ensures.0 at begins.walks;
              falling = rw c.deref.ensures.0 at begins.falling;
              told = rw c.deref.ensures.0 at begins.told;
              silent = ap medium_replies begins.new.replies ∙ silent_replies _;
              goes = goes_from c.args.script told _ end _ ready.armed c.run_all.ensures.goes;
              tells = c.run_all.ensures.rig.tells ∙ ap (λ (s : RigState). is_some s.image) ready.armed;
              went = went_from c.args.script begun r told _ end _ ready.armed c.run_all.ensures.went;
              plan = begins.plan;
              first = begins.new.first;
              stays = c.run_all.ensures.stays;
              counted = subst (λ (fs : List FaultLine). HasCounted fs told.faults r end.faults) (c.run_all.ensures.rig.armed ∙ ap (λ (s : RigState). s.armed) ready.armed)
                  (c.run_all.ensures.went.counts told.faults (subst (HasCounted (g.R.Rig.state c.ready_script.new.rig).armed told.faults begun) (sym (ap (λ (s : RigState). s.faults) ready.armed)) (begins.counted (g.R.Rig.state c.ready_script.new.rig).armed told.faults)));
              sent = λ z. subst (λ (s : RigState). SendsBy (entries_of c.args.script.schedule) begun r s.log end.log) ready.armed
                  (subst (λ ws. SendsBy (entries_of ws) begun r (g.R.Rig.state c.ready_script.new.rig).log end.log) (c.as_slice.ensures ∙ begins.schedule) (c.run_all.ensures.sends z));
            };
          });
      first = c.records-first.ensures;
    }

pub returns-clause-armed : goal.returns-clause-armed
returns-clause-armed g c = c.run_all.ensures.rig.armed ∙ ap (λ (s : RigState). s.armed) c.in_ok-run.ensures.armed
