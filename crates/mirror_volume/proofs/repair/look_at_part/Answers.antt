use Rattle.std.proofs.Common.{inl, ap, drop, length, length-drop, length-take-le, rules, ◌*◌, ◌-◌, ◌+◌, arith}
use Rattle.mirror_volume.specs.Inner.{read_pi_script}
use Rattle.mirror_volume.specs.Asked.{part_of}
use Rattle.mirror_volume.proofs.Helds.{part-after, put-part}
use Rattle.mirror_volume.proofs.Running.{run-so}
use Rattle.mirror_volume.proofs.repair.look_at_part.Goals as goal
use Rattle.small_laws.proofs.Numbers.{within_all}

pub returns-in_err-read_pi_piece-clause-ran : goal.returns-in_err-read_pi_piece-clause-ran
returns-in_err-read_pi_piece-clause-ran g c =
    let p = part_of c.args.whole c.args.part in
    let a = c.requires.piece.inside in
    let b = c.requires.part.inside in
    let x = c.in_err-read_pi_piece.ensures.ran in
    run-so _ x (λ own e. inl (record { piece = p; no_op = c.requires.repair; inside = omega (arith, a, b); own_is = e })) (search rules)

pub returns-clause-ran : goal.returns-clause-ran
returns-clause-ran g c =
    let s = c.args.plan.now.script in
    let half = c.args.plan.now.half in
    let p = part_of c.args.whole c.args.part in
    let a = c.requires.piece.inside in
    let b = c.requires.part.inside in
    let x = c.in_ok-read_pi_piece.ensures.ran in
    let o = x.came in
    let start = c.args.part.0 in
    let n = c.args.part.1 in
    let seen = c.requires.seen in
    let ensured = c.read_pi_piece.ensures in
    let lie-bytes = within_all start n c.args.whole.n s.block b in
    let long-bytes = seen.bytes in
    let long-tuples = seen.tuples in
    let put-found = put-part c.args.seen.now.found.len start (start + n - start) n c.deref_mut-3.result.now c.args.seen.now.found.items _ _ c.deref_mut-3.ensures.value (omega (arith, c.deref_mut-3.ensures.len, ap length c.deref_mut-3.ensures.value)) (omega (arith, b, seen.found)) (omega arith) (omega (arith, ensured.room.found_long, b, seen.found, ap length c.deref_mut-3.ensures.value, length-drop start c.deref_mut-3.result.now, length-take-le (start + n - start) (drop start c.deref_mut-3.result.now) (omega (arith, b, seen.found, ap length c.deref_mut-3.ensures.value, length-drop start c.deref_mut-3.result.now)))) o.so.0 in
    let put-bytes = put-part c.args.seen.now.bytes.len (start * s.block) (start * s.block + n * s.block - start * s.block) (n * s.block) c.deref_mut.result.now c.args.seen.now.bytes.items _ _ c.deref_mut.ensures.value (omega (arith, c.deref_mut.ensures.len, ap length c.deref_mut.ensures.value)) (omega (arith, lie-bytes, long-bytes)) (omega arith) (omega (arith, ensured.room.long, lie-bytes, long-bytes, ap length c.deref_mut.ensures.value, length-drop (start * s.block) c.deref_mut.result.now, length-take-le (start * s.block + n * s.block - start * s.block) (drop (start * s.block) c.deref_mut.result.now) (omega (arith, lie-bytes, long-bytes, ap length c.deref_mut.ensures.value, length-drop (start * s.block) c.deref_mut.result.now)))) o.so.1.0 in
    let put-tuples = put-part c.args.seen.now.tuples.len (start * 8) (start * 8 + n * 8 - start * 8) (n * 8) c.deref_mut-2.result.now c.args.seen.now.tuples.items _ _ c.deref_mut-2.ensures.value (omega (arith, c.deref_mut-2.ensures.len, ap length c.deref_mut-2.ensures.value)) (omega (arith, b, long-tuples)) (omega arith) (omega (arith, ensured.room.tuples_long, b, long-tuples, ap length c.deref_mut-2.ensures.value, length-drop (start * 8) c.deref_mut-2.result.now, length-take-le (start * 8 + n * 8 - start * 8) (drop (start * 8) c.deref_mut-2.result.now) (omega (arith, b, long-tuples, ap length c.deref_mut-2.ensures.value, length-drop (start * 8) c.deref_mut-2.result.now)))) o.so.1.1 in
    run-so _ x (λ own e. inl (record { piece = p; no_op = c.requires.repair; inside = omega (arith, a, b); own_is = e }))
    (part-after (read_pi_script s half) c.args.whole s.block c.args.part x.runs o.run c.args.seen.now _ o.only o.own_is put-found put-bytes put-tuples)
