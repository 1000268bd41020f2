use Rattle.std.proofs.Common.{rules, ◌+◌, ◌≤◌, ◌∙◌, drop, ap, arith}
use Rattle.pi_blocks.specs.Parts.{left_of}
use Rattle.pi_blocks.proofs.Spreads.{behind_tuple, looked_spread, next_block_left, rest_is_there}
use Rattle.pi_blocks.proofs.spread.look.Goals as goal

pub skip-requires-clause-enough : goal.skip-requires-clause-enough
skip-requires-clause-enough c =
    let covered = c.covered-covered.result in
    let left = left_of c.args.parts.now c.args.place.now in
    let read = left_of c.args.parts.now c.next_tuple-tuple.new.place in
    let behind = behind_tuple covered left (left_of c.args.parts.now c.guard_of_next-guard.new.place) read c.guard_of_next-guard.ensures.left c.next_tuple-tuple.ensures.left in
    rest_is_there c.stride.result covered left read behind (omega (arith, c.stride.ensures, c.requires.more))

pub returns-clause-found : goal.returns-clause-found
returns-clause-found c all e =
    looked_spread c.args.layout c.args.want all (left_of c.args.parts.now c.args.place.now) (left_of c.args.parts.now c.guard_of_next-guard.new.place) c.args.i c.covered-covered.result c.guard_of_next-guard.result c.kind.result
    c.next_tuple-tuple.result c.compare.result e c.kind.ensures c.covered-covered.ensures c.guard_of_next-guard.ensures.guard c.guard_of_next-guard.ensures.left c.next_tuple-tuple.ensures.value c.compare.ensures.found

pub returns-clause-left : goal.returns-clause-left
returns-clause-left c =
    let covered = c.covered-covered.result in
    let stride = c.stride.result in
    let left = left_of c.args.parts.now c.args.place.now in
    let read = left_of c.args.parts.now c.next_tuple-tuple.new.place in
    let behind = behind_tuple covered left (left_of c.args.parts.now c.guard_of_next-guard.new.place) read c.guard_of_next-guard.ensures.left c.next_tuple-tuple.ensures.left in
    let fits : c.args.layout.tuple_at + 8 ≤ c.args.layout.meta_size = search rules in
    let room : covered + 8 ≤ stride = omega (arith, fits, c.covered-covered.ensures, c.stride.ensures) in
    next_block_left stride covered left read (left_of c.args.parts.now c.skip.new.place) room behind c.skip.ensures.left ∙ ap (λ n. drop n left) c.stride.ensures
