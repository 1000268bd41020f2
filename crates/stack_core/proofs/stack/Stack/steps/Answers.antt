use Rattle.std.proofs.Common.{arith}
use Rattle.std.proofs.lemmas.List.{length-map}
use Rattle.stack_walk_laws.specs.Sheets.{request_in}
use Rattle.stack_core.proofs.stack.Stack.steps.Goals as goal

pub returns-clause-most : goal.returns-clause-most
returns-clause-most c = λ h.
    (let s = c.args.self.now in
    let v = h.works.1.shows.counted.steps in
    let t = h.works.1.shows.taken in
    let o = h.fixed.ops in
    let m = length-map s.sheet.ios.items request_in in
    omega (arith, c.steps.ensures))
