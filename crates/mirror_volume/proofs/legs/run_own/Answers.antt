use Rattle.std.proofs.Common.{ℕ, ◌≡◌, ◌-◌, ◌≤◌, [], ◌∷◌, ap, drop, length, length-drop, refl, rules, subst, take, ◌∙◌, arith}
use Rattle.std.proofs.lemmas.List.{take_all}
use Rattle.script_stack.specs.Causes.{table_of}
use Rattle.script_stack.specs.Followed.{Ran}
use Rattle.mirror_volume.specs.LegRuns.{LegRun}
use Rattle.mirror_volume.proofs.Runs.{ran-none, ran-one}
use Rattle.mirror_volume.proofs.Running.{can-still, none-run}
use Rattle.mirror_volume.proofs.legs.run_own.Goals as goal
use Rattle.rig_api.specs.State.{RigState}

pub returns-in_err-table-clause-ran : goal.returns-in_err-table-clause-ran
returns-in_err-table-clause-ran g c =
    none-run _ (search rules)

pub slice_bounds-rest-count : goal.slice_bounds-rest-count
slice_bounds-rest-count g c =
    let e = ap (length {A = ℕ × ℕ}) c.as_slice-2.ensures in
    omega (arith, e, c.requires.ready.few)

pub slice_bounds-rest-start : goal.slice_bounds-rest-start
slice_bounds-rest-start g c =
    let e = ap (length {A = ℕ × ℕ}) c.as_slice-2.ensures in
    let h : c.args.used.now ≤ length c.as_slice-2.result.now = omega (arith, e, c.requires.ready.few) in
    search rules

pub run_bound-requires-clause-bound : goal.run_bound-requires-clause-bound
run_bound-requires-clause-bound g c = record { suits = c.requires.suits; lines = c.requires.lines; few = search rules; made = search rules; bound = search rules }

pub returns-in_err-stack-clause-ran : goal.returns-in_err-stack-clause-ran
returns-in_err-stack-clause-ran g c =
    let same = c.in_err-stack.ensures.unarmed in
    record {
      runs = [];
      ran = ran-none (table_of c.args.plan.now.script c.args.plan.now.devices.items) c.args.plan.now.devices.items _ _
          (record { units = ap (λ (s : RigState). s.units) same; standing = ap (λ (s : RigState). s.standing) same; log = ap (λ (s : RigState). s.log) same; faults = ap (λ (s : RigState). s.faults) same; armed = ap (λ (s : RigState). s.armed) same });
      goes_on = refl;
      own = tt;
      came = search rules;
      tells = c.run_bound.ensures.tells;
    }

pub returns-clause-ran : goal.returns-clause-ran
returns-clause-ran g c =
    let s = c.args.own in
    let plan = c.args.plan.now in
    let devices = plan.devices.items in
    let t = table_of plan.script devices in
    let words = drop c.args.used.now plan.script.schedule in
    let r = c.in_ok-stack.stack in
    let old = c.args.rig.now in
    let new = c.run_bound.new.rig in
    let before : RigState = g.R.Rig.state old in
    let after : RigState = g.R.Rig.state new in
    let table : c.in_ok-table.table ≡ t = c.in_ok-table.ensures ∙ ap (table_of plan.script) c.as_slice.ensures.value in
    let all = c.as_slice-2.result.now in
    let rest = take (length all - c.args.used.now) (drop c.args.used.now all) in
    let whole : rest ≡ words = take_all (length all - c.args.used.now) (drop c.args.used.now all) (omega (arith, length-drop c.args.used.now all)) ∙ ap (drop c.args.used.now) c.as_slice-2.ensures in
    let ran : Ran s t devices words before after r =
    subst (λ ws. Ran s t devices ws before after r) whole
    (subst (λ ds. Ran s t ds rest before after r) c.as_slice-3.ensures.value
    (subst (λ x. Ran s x c.as_slice-3.result.now rest before after r) table c.in_ok-stack.ensures.ran)) in
    let run : LegRun = record { own = s; words = words; records = ran.more; stack = r } in
    let l = length-drop c.args.used.now plan.script.schedule in
    let e = ap (length {A = ℕ × ℕ}) c.as_slice-2.ensures in
    record {
      runs = run ∷ [];
      ran = ran-one s t devices words before after r ran;
      goes_on = (refl, omega (arith, l, e, c.min.ensures, c.steps.ensures.value));
      own = (refl, tt);
      came = record { run = run; only = refl; own_is = refl; so = refl };
      tells = c.run_bound.ensures.tells;
    }

pub returns-in_err-stack-clause-ready : goal.returns-in_err-stack-clause-ready
returns-in_err-stack-clause-ready g c = can-still _ _ c.requires.ready c.requires.ready.few c.run_bound.ensures.tells c.run_bound.ensures.standing

pub returns-clause-ready : goal.returns-clause-ready
returns-clause-ready g c =
    let e = ap (length {A = ℕ × ℕ}) c.as_slice-2.ensures in
    can-still _ _ c.requires.ready (omega (arith, e, c.min.ensures, c.requires.ready.few)) c.run_bound.ensures.tells c.run_bound.ensures.standing
