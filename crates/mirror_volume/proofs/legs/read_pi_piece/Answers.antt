use Rattle.std.proofs.Common.{◌≡◌, ◌*◌, ap, drop, rules, subst, sym, take, ◌∙◌, arith}
use Rattle.page_pool.specs.Cells.{flat}
use Rattle.script_stack.specs.Passed.{SuitsStack}
use Rattle.script_text.specs.Bindings.{binding_fault}
use Rattle.script_text.specs.declared.script.Script.{Script}
use Rattle.script_stack.specs.Causes.{table_of}
use Rattle.stack_core.specs.declared.stack.Stack.{Stack}
use Rattle.std.specs.Prelude.{None}
use Rattle.std.proofs.lemmas.Result.{IfOk-weaker}
use Rattle.mirror_volume.specs.Inner.{pages_for}
use Rattle.mirror_volume.specs.LegRuns.{found_by}
use Rattle.mirror_volume.proofs.OwnRuns.{read-pi-fits, read-pi-lies}
use Rattle.mirror_volume.proofs.Planned.{half-small, plan-asks, plan-tuples}
use Rattle.mirror_volume.proofs.Running.{none-run, run-so}
use Rattle.mirror_volume.proofs.legs.read_pi_piece.Goals as goal

pub read_pi_script-requires-clause-virt : goal.read_pi_script-requires-clause-virt
read_pi_script-requires-clause-virt g c =
    let a = half-small c.args.plan.now c.requires.ready.plan in
    let b = c.requires.piece.inside in
    omega (arith, a, b)

pub returns-in_err-own-clause-ran : goal.returns-in_err-own-clause-ran
returns-in_err-own-clause-ran g c = none-run _ (search rules)

pub run_own-requires-clause-suits : goal.run_own-requires-clause-suits
run_own-requires-clause-suits g c =
    let p = c.args.plan.now in
    let t = table_of p.script p.devices.items in
    let ready = c.a_stack_takes_a_read_with_tuples_on_a_leg.ensures p.script t p.devices.items p.half c.args.piece (plan-asks c.a_mirror_has_what_its_legs_ask.ensures.script p c.requires.ready.plan) (plan-tuples p c.args.piece c.requires.ready.plan c.requires.piece c.requires.short) in
    subst SuitsStack (sym c.in_ok-own.ensures) ready.suits

pub run_own-requires-clause-bound : goal.run_own-requires-clause-bound
run_own-requires-clause-bound g c =
    let p = c.args.plan.now in
    let t = table_of p.script p.devices.items in
    let ready = c.a_stack_takes_a_read_with_tuples_on_a_leg.ensures p.script t p.devices.items p.half c.args.piece (plan-asks c.a_mirror_has_what_its_legs_ask.ensures.script p c.requires.ready.plan) (plan-tuples p c.args.piece c.requires.ready.plan c.requires.piece c.requires.short) in
    subst (λ (s : Script). binding_fault s t p.devices.items ≡ None) (sym c.in_ok-own.ensures) ready.bound

pub returns-in_err-stack-clause-ran : goal.returns-in_err-stack-clause-ran
returns-in_err-stack-clause-ran g c =
    run-so _ c.in_err-stack.ensures.ran (λ s e. e ∙ c.in_ok-own.ensures) (search rules)

pub found_last-requires : goal.found_last-requires
found_last-requires g c =
    let p = c.args.plan.now in
    let ran = c.in_ok-stack.ensures.ran in
    let fits = read-pi-fits _ _ ran.runs _ _ c.in_ok-stack.stack p.script p.half c.args.piece c.in_ok-own.own c.in_ok-own.ensures ran.ran ran.came in
    rw (c.replies.ensures, c.requires.room.found_long) fits

pub copy_both-requires-clause-lie : goal.copy_both-requires-clause-lie
copy_both-requires-clause-lie g c =
    let p = c.args.plan.now in
    let lie = read-pi-lies c.in_ok-stack.stack c.in_ok-own.own p.script p.half c.args.piece c.in_ok-own.ensures c.in_ok-stack.ensures.stack c.in_ok-stack.ensures.ios in
    rw (c.pool.ensures, c.requires.room.long) lie.0

pub copy_both-requires-clause-behind : goal.copy_both-requires-clause-behind
copy_both-requires-clause-behind g c =
    let p = c.args.plan.now in
    let lie = read-pi-lies c.in_ok-stack.stack c.in_ok-own.own p.script p.half c.args.piece c.in_ok-own.ensures c.in_ok-stack.ensures.stack c.in_ok-stack.ensures.ios in
    rw (c.pool.ensures, c.requires.room.long, c.requires.room.tuples_long) lie.1

pub returns-clause-ran : goal.returns-clause-ran
returns-clause-ran g c =
    let ran = c.in_ok-stack.ensures.ran in
    let one = ran.came in
    let replies = c.replies.ensures ∙ sym (ap (λ (x : Stack). x.replies.items) one.so) in
    let found = c.found_last.ensures ∙ ap (λ n. found_by n c.replies.result.now) c.requires.room.found_long ∙ ap (found_by c.args.piece.n) replies in
    let pool = c.pool.ensures ∙ sym (ap (λ (x : Stack). x.pool) one.so) in
    run-so _ ran (λ s e. e ∙ c.in_ok-own.ensures)
    (IfOk-weaker c.copy_both.result _ _ (λ u both. record {
      run = one.run;
      only = one.only;
      own_is = one.own_is ∙ c.in_ok-own.ensures;
      so = (
        found,
        (
          both.0 ∙ (λ i. take (c.requires.room.long i) (flat (pool i))),
          both.1 ∙ (λ i. take (c.requires.room.tuples_long i) (drop (4096 * pages_for (c.requires.room.long i)) (flat (pool i)))),
        ),
      );
    }) c.copy_both.ensures.copied)
