use Rattle.std.proofs.Common.{rules, ◌≡◌, ℕ, Bool, true, false, List, take, drop, Result, Err, inr, refl, sym, ◌∙◌}
use Rattle.pi_tuple.specs.declared.checks.Check.{Check}
use Rattle.sense_codes.specs.declared.codes.TheConstants.{UNRECOVERED_READ}
use Rattle.rig_api.specs.Frames.{stored_size}
use Rattle.rig_api.specs.Passing.{from_medium}
use Rattle.rig_api.specs.Target.{Broken, Found, fails_under, sent_unless}
use Rattle.target_model.proofs.block.read_block.Goals as goal

failing : (broken : Bool) (checked : Result (List ℕ) Check) → broken ≡ true → sent_unless broken checked ≡ Err (Broken UNRECOVERED_READ)
failing broken checked b = rw b refl

found : (broken : Bool) (checked : Result (List ℕ) Check) (check : Check) → broken ≡ false → checked ≡ Err check → sent_unless broken checked ≡ Err (Found check)
found broken checked check b j = rw (b, j) refl

pub returns-then-is_failing-clause-told : goal.returns-then-is_failing-clause-told
returns-then-is_failing-clause-told g c =
    λ bytes e.
    inr (
      Broken UNRECOVERED_READ,
      failing (fails_under c.args.tamper.now c.args.block.label) (from_medium c.args.tamper.now c.args.block (take (stored_size c.args.block.ty c.args.block.size) (drop c.args.place bytes))) (sym c.is_failing.ensures ∙ c.if-is_failing.true),
      c.medium.ensures,
    )

pub returns-in-Some-clause-told : goal.returns-in-Some-clause-told
returns-in-Some-clause-told g c =
    λ bytes e.
    let checked : from_medium c.args.tamper.now c.args.block (take (stored_size c.args.block.ty c.args.block.size) (drop c.args.place bytes)) ≡ Err c.in-Some.check = search rules in
    inr (
      Found c.in-Some.check,
      found (fails_under c.args.tamper.now c.args.block.label) (from_medium c.args.tamper.now c.args.block (take (stored_size c.args.block.ty c.args.block.size) (drop c.args.place bytes))) c.in-Some.check (sym c.is_failing.ensures ∙ c.if-is_failing.false) checked,
      c.aborted.ensures,
    )
