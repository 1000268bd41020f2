use Rattle.std.proofs.Common.{◌≡◌, true, false, ◌∙◌, sym, arith}
use Rattle.script_stack.proofs.Passed.{suits}
use Rattle.bench_calls.proofs.run.started.Goals as goal

pub start_script-requires : goal.start_script-requires
start_script-requires c = record {
  suits = suits c.args.script c.requires.keeps;
  lines = c.requires.lines;
  few = omega (arith, c.requires.count);
  made = c.requires.made;
  bound = c.requires.bound;
}

pub returns-clause-stack : goal.returns-clause-stack
returns-clause-stack c = c.in_ok-stack.ensures.begins.stack

pub returns-clause-reaches : goal.returns-clause-reaches
returns-clause-reaches c st e =
    c.in_ok-stack.ensures.reaches false st (e ∙ sym c.requires.count) (λ (t : false ≡ true). absurd cc)
