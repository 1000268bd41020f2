use Rattle.std.proofs.Common.{◌≡◌, ◌∙◌, ap, not, nat_eq, length, true, false, ℕ, List, arith}
use Rattle.std.proofs.lemmas.Bool.Decides.{nat_tests}
use Rattle.std.specs.List.{list_any}
use Rattle.stack_ops.specs.Ops.{is_overwrite}
use Rattle.run_premises.specs.Forms.{is_known_line}
use Rattle.run_premises.proofs.Prefixes.{where_all, where_fewer}
use Rattle.run_premises.proofs.form.accounts_by_form.Goals as goal

pub returns-then-formed-as_slice : goal.returns-then-formed-as_slice
returns-then-formed-as_slice c =
    let p = is_known_line c.args.kind c.args.block c.args.faults.now c.args.ops.now in
    let all = c.if-formed-as_slice.true in
    let e : nat_eq c.in_ok-formed.formed.known (length c.as_slice.result.now) ≡ true = grind (arith, nat_tests, all) in
    ap not c.has_overwrite.ensures ∙ ap (λ l. not (list_any is_overwrite l)) c.as_slice-then-formed-as_slice.ensures
    ∙ where_all p c.args.faults.now c.in_ok-formed.formed.known c.as_slice.result.now c.in_ok-formed.ensures.known c.as_slice.ensures (list_any is_overwrite c.args.ops.now) e

pub returns-else-formed-as_slice : goal.returns-else-formed-as_slice
returns-else-formed-as_slice c =
    let p = is_known_line c.args.kind c.args.block c.args.faults.now c.args.ops.now in
    let other = c.if-formed-as_slice.false in
    let e : nat_eq c.in_ok-formed.formed.known (length c.as_slice.result.now) ≡ false = grind (arith, nat_tests, other) in
    where_fewer p c.args.faults.now c.in_ok-formed.formed.known c.as_slice.result.now c.in_ok-formed.ensures.known c.as_slice.ensures (list_any is_overwrite c.args.ops.now) e
