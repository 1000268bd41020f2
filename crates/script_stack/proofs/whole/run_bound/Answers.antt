use Rattle.std.proofs.Common.{◌≡◌, ◌≤◌, ◌++◌, List, Some, ap, map, subst, sym, ◌∙◌}
use Rattle.std.specs.Prelude.{is_some}
use Rattle.dix_base.specs.Told.{Calm}
use Rattle.rig_api.specs.Telling.{Standing, specs_of}
use Rattle.fault_schedule.specs.declared.fault.FaultLine.{FaultLine}
use Rattle.rig_api.specs.State.{RigState}
use Rattle.script_run_laws.specs.Passed.{info_of}
use Rattle.rig_api.specs.Target.{Stored}
use Rattle.dix_adapter.specs.Groups.{mode_of}
use Rattle.dix_adapter.specs.declared.adapter.Adapter.{Adapter}
use Rattle.stack_core.specs.Mediums.{HasCounted, RoseBy, medium_replies, unscheduled_mediums}
use Rattle.stack_core.specs.declared.sheet.Sheet.{Sheet}
use Rattle.script_stack.specs.Followed.{KnownBlocks, SizesAre}
use Rattle.script_stack.proofs.Counted.{silent_replies}
use Rattle.script_stack.proofs.Ended.{IsOver, backed_by, calm_at, fallen_at, few_lines, sent_by, still_told, walked_at}
use Rattle.script_stack.proofs.whole.run_bound.Goals as goal

abbrev is_known : (old new : RigState) (us left : List Stored) → old.units ≡ Some us → new.units ≡ Some left → KnownBlocks old new
is_known old new us left e f = record { before = us; after = left; began = e; ended = f }

pub returns-clause-ran : goal.returns-clause-ran
returns-clause-ran g c =
    let s = c.args.script in
    let t = c.args.table in
    let devices = c.args.devices.now in
    let words = c.args.schedule.now in
    let begun = c.in_ok-stack.field-0.stack in
    let r = c.run_all.new.stack in
    let asked = c.args.rig.now in
    let ready = c.ready_script.new.rig in
    let end = c.run_all.new.rig in
    let begins = c.in_ok-stack.ensures.begins in
    let armed = c.in_ok-stack.ensures.armed in
    let standing = ap (λ (x : RigState). x.standing) armed in
    let count = ap (λ (x : RigState). x.faults) armed in
    let before : RigState = g.R.Rig.state ready in
    let after : RigState = g.R.Rig.state end in
    let o : IsOver s t devices words begun r (g.R.Rig.state ready).image (g.R.Rig.state end).image before after = record {
      suits = c.requires.bound.suits;
      lines = c.requires.bound.lines;
      made = c.requires.bound.made;
      bound = c.requires.bound.bound;
      sizes = subst (SizesAre devices) (sym standing) c.requires.sizes;
      known = λ tells. c.requires.told (sym (ap (λ (x : RigState). is_some x.image) armed) ∙ tells) ∙ ap (λ (x : Standing). map info_of (specs_of x)) (sym standing);
      laid = g.met.R.Rig.laid ready;
      ready = g.met.R.Rig.ready ready;
      laid_after = g.met.R.Rig.laid end;
      ready_after = g.met.R.Rig.ready end;
      armed = ap (λ (x : RigState). x.armed) armed;
      stack = c.run_all.ensures.stands.stack;
      ops = ap (λ (x : Sheet). x.ops) c.run_all.ensures.stays.sheet ∙ begins.is.ops;
      ended = c.run_all.ensures.ended;
      walks = begins.walks;
      falling = begins.falling;
      told = begins.told;
      silent = ap medium_replies begins.new.replies ∙ silent_replies _;
      goes = c.run_all.ensures.goes;
      tells = c.run_all.ensures.rig.tells;
      went = c.run_all.ensures.went;
      plan = begins.plan;
      first = begins.new.first;
      stays = c.run_all.ensures.stays;
      counted = subst (λ (fs : List FaultLine). HasCounted fs before.faults r after.faults) (c.run_all.ensures.rig.armed ∙ ap (λ (x : RigState). x.armed) armed) (c.run_all.ensures.went.counts before.faults (begins.counted before.armed before.faults));
      sent = c.run_all.ensures.sends;
    } in
    let since = λ (known : KnownBlocks (g.R.Rig.state asked) after). is_known before after known.before known.after (ap (λ (x : RigState). x.units) armed ∙ known.began) known.ended in
    record {
      stack = o.stack;
      ops = o.ops;
      ios = ap (λ (x : Sheet). x.ios.items) o.stays.sheet ∙ begins.is.ios;
      mode = ap mode_of o.stays.adapter ∙ begins.is.mode;
      armed = ap (λ (a : Adapter). a.tamper) o.stays.adapter ∙ begins.is.faults;
      ended = o.ended;
      standing = o.goes.standing ∙ standing;
      faults = subst (λ n. n ≤ (g.R.Rig.state end).faults) count o.goes.faults;
      more = o.goes.more;
      records = o.goes.records ∙ ap (λ (x : RigState). x.log ++ o.goes.more) armed;
      armed_there = c.run_all.ensures.rig.armed ∙ ap (λ (x : RigState). x.armed) armed;
      backed = backed_by s t devices words begun r (g.R.Rig.state ready).image (g.R.Rig.state end).image before after c.a_script_run_is_backed.ensures o;
      sends = sent_by s t devices words begun r (g.R.Rig.state ready).image (g.R.Rig.state end).image before after c.a_finished_stack_has_sent.ensures.few c.a_finished_stack_has_sent.ensures.all o;
      medium = subst (λ n. RoseBy (unscheduled_mediums s.faults r.replies.items) n (g.R.Rig.state end).faults) count (few_lines s t devices words begun r (g.R.Rig.state ready).image (g.R.Rig.state end).image before after c.a_finished_stack_names_the_medium_seldom.ensures o);
      tells_blocks = still_told (g.R.Rig.state ready).image (g.R.Rig.state end).image before.standing after.standing before.units after.units o.laid o.laid_after o.tells ∙ ap (λ (x : RigState). is_some x.units) armed;
      walked = λ known none. walked_at s t devices words begun r (g.R.Rig.state ready).image (g.R.Rig.state end).image before after c.a_told_script_run_has_walked.ensures.unnamed o (since known) none;
      calm = λ known calm. calm_at s t devices words begun r (g.R.Rig.state ready).image (g.R.Rig.state end).image before after c.a_told_script_run_has_walked.ensures.calm o (since known) (subst (λ n. Calm n (g.R.Rig.state end).faults) (sym count) calm);
      fell = λ known. fallen_at s t devices words begun r (g.R.Rig.state ready).image (g.R.Rig.state end).image before after c.a_told_script_run_has_fallen.ensures o (since known);
    }

pub returns-clause-tells : goal.returns-clause-tells
returns-clause-tells g c = c.run_all.ensures.rig.tells ∙ ap (λ (x : RigState). is_some x.image) c.in_ok-stack.ensures.armed

pub returns-clause-standing : goal.returns-clause-standing
returns-clause-standing g c = c.run_all.ensures.rig.standing ∙ ap (λ (x : RigState). x.standing) c.in_ok-stack.ensures.armed
