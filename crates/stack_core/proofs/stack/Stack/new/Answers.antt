use Rattle.std.proofs.Common.{◌≡◌, ◌+◌, ap, ◌∙◌, length, map, replicate, sym, arith}
use Rattle.std.proofs.lemmas.List.{length-map, length-replicate}
use Rattle.std.specs.List.{list_any}
use Rattle.bio_core.specs.declared.fate.Fate.TheVariants.{Untouched}
use Rattle.stack_ops.specs.declared.reply.Reply.TheVariants.{Silent}
use Rattle.range_gate.specs.declared.phase.Phase.TheVariants.{Waiting}
use Rattle.merge_queue.specs.Groups.{numbers}
use Rattle.merge_queue.proofs.Linking.{length-numbers}
use Rattle.stack_laws.specs.Runs.{blocks_of_requests}
use Rattle.stack_laws.specs.View.{start}
use Rattle.stack_walk_laws.specs.Sheets.{prints_of, request_in}
use Rattle.stack_walk_laws.specs.Shifts.{shifts}
use Rattle.stack_walk_laws.proofs.Gates.{gate-is, length-prints}
use Rattle.stack_walk_laws.proofs.WalksBegin.{length-requests}
use Rattle.stack_core.specs.Stacks.{plan_in}
use Rattle.stack_core.proofs.FirstStack.{first-stack}
use Rattle.stack_core.proofs.NewStacks.{follows-at-first}
use Rattle.stack_core.proofs.Opening.{small-blocks}
use Rattle.stack_core.proofs.Sent.{holds-all}
use Rattle.stack_core.proofs.stack.Stack.new.Goals as goal

pub gate_for-requires-clause-count : goal.gate_for-requires-clause-count
gate_for-requires-clause-count c =
    let n = length c.args.ops in
    let s = c.in_ok-sheet.ensures.sheet in
    let e = ap length (c.shifted.ensures ∙ s.shifted) in
    let m = length-map (numbers 0 n) (λ i. list_any (shifts (i + 1)) c.as_slice.result.now) in
    let l = length-numbers 0 n in
    let o = ap length (c.all_ops.ensures ∙ s.ops) in
    omega arith

pub new-requires-clause-ops : goal.new-requires-clause-ops
new-requires-clause-ops c =
    let u = c.args.setup in
    let s = c.in_ok-sheet.ensures.sheet in
    let ios = c.in_ok-sheet.sheet.ios.items in
    let b = length-prints c.all_ops.result.now c.shifted.result.now in
    let d = ap length (c.all_ops.ensures ∙ s.ops) in
    let i = ap length s.ios in
    let r = length-requests u.mode.dix u.pages c.args.ops in
    let m = length-map ios request_in in
    let n : length (prints_of c.all_ops.result.now c.shifted.result.now) ≡ length (map request_in ios) = omega arith in
    c.in_ok-gate.ensures.phases ∙ ap (λ n. replicate n Waiting) n

pub new-requires-clause-conflicts : goal.new-requires-clause-conflicts
new-requires-clause-conflicts c =
    let u = c.args.setup in
    let s = c.in_ok-sheet.ensures.sheet in
    let sh = c.in_ok-sheet.sheet in
    let n : length sh.ios.items ≡ length sh.ops = ap length s.ios ∙ length-requests u.mode.dix u.pages c.args.ops ∙ sym (ap length s.ops) in
    gate-is sh.ops sh.shifted.items sh.ios.items sh.table sh.limits sh.devices c.in_ok-gate.gate n (rw (c.all_ops.ensures, c.shifted.ensures) at c.in_ok-gate.ensures)

pub largest_block-most_bytes-requires : goal.largest_block-most_bytes-requires
largest_block-most_bytes-requires c =
    let u = c.args.setup in
    rw (c.ios-2.ensures ∙ c.in_ok-sheet.ensures.sheet.ios) (small-blocks u.table u.mode.dix u.mode.protect u.limits u.pages c.requires.0 c.args.ops c.requires.1)

pub returns-clause-stack : goal.returns-clause-stack
returns-clause-stack c =
    let u = c.args.setup in
    let s = c.in_ok-sheet.ensures.sheet in
    let o = c.all_ops-2.ensures ∙ s.ops in
    let k = c.ios.ensures ∙ s.ios in
    let h = c.ios-2.ensures ∙ s.ios in
    let first = c.in_ok-outcomes.ensures in
    let n = ap length first.held ∙ length-replicate (blocks_of_requests (map request_in c.ios.result.now)) Untouched ∙ ap (λ ios. blocks_of_requests (map request_in ios)) k in
    first-stack u.table u.mode.dix u.mode.protect u.limits u.pages c.requires.0 c.args.ops _ c.requires.1 (record {
      ops_are = s.ops;
      ios_are = s.ios;
      limits_are = s.limits;
      works = (start (plan_in c.in_ok-sheet.sheet), c.in_ok-machine.ensures);
      protect_is = ap (λ a. a.protect) c.adapter_of.ensures;
      dix_is = ap (λ a. a.dix) c.adapter_of.ensures;
      count = c.in_ok-pool.ensures.pages ∙ c.in_ok-sheet.ensures.pages;
      rooms = first.count ∙ ap length o;
      bad = rw o at first.bad;
      suits = rw o at first.suits;
      kept = rw k at first.fates;
      replies = ap length first.replies ∙ length-replicate (length c.ios.result.now) Silent ∙ ap length k ∙ length-requests u.mode.dix u.pages c.args.ops;
      group = omega (arith, c.in_ok-room.ensures.group, c.blocks-blocks.ensures);
      fates = omega (arith, c.in_ok-room.ensures.fates, c.blocks-blocks.ensures);
      scratch = holds-all _ c.largest_block-most_bytes.result u.limits.max_blocks _ (rw h at c.largest_block-most_bytes.ensures.all) c.in_ok-room.ensures.scratch;
    })

pub returns-clause-new : goal.returns-clause-new
returns-clause-new c =
    let u = c.args.setup in
    let s = c.in_ok-sheet.ensures.sheet in
    let k = c.ios.ensures ∙ s.ios in
    let first = c.in_ok-outcomes.ensures in
    record {
      first = c.in_ok-machine.ensures;
      devices = s.devices;
      queues = s.queues;
      kept = first.held ∙ ap (λ ios. replicate (blocks_of_requests (map request_in ios)) Untouched) k;
      replies = first.replies ∙ ap (λ n. replicate n Silent) (ap length k ∙ length-requests u.mode.dix u.pages c.args.ops);
      pool = record {
        pages = c.in_ok-pool.ensures.pages ∙ c.in_ok-sheet.ensures.pages;
        whole = c.in_ok-pool.ensures.whole;
        zeros = c.in_ok-pool.ensures.zeros;
      };
    }

pub returns-clause-follows : goal.returns-clause-follows
returns-clause-follows c =
    let s = c.in_ok-sheet.ensures.sheet in
    follows-at-first _ (returns-clause-stack c) c.in_ok-machine.ensures c.in_ok-pool.ensures.whole
    (rw (c.all_ops-2.ensures) at c.in_ok-outcomes.ensures.suits)
