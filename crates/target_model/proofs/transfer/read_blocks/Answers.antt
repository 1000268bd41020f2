use Rattle.std.proofs.Common.{◌≡◌, ◌+◌, ◌*◌, ◌<◌, ◌≤◌, ◌^◌, length, take, drop, arith, sym, ap, ◌∙◌, refl}
use Rattle.std.proofs.lemmas.List.{take-append-le}
use Rattle.rig_api.specs.declared.passage.Passage.{Passage}
use Rattle.rig_api.specs.Frames.{sent_size, stored_size}
use Rattle.rig_api.specs.Target.{off_medium, passage}
use Rattle.dix_base.proofs.Stores.{not_read, read_on}
use Rattle.target_model.proofs.Bytes.{drop_both, inside, lent, refilled, size_most}
use Rattle.target_model.proofs.Reading.{sent_none, sent_next, sent_until, sent_whole}
use Rattle.target_model.proofs.transfer.read_blocks.Goals as goal

pub overflow_add-at : goal.overflow_add-at
overflow_add-at g c =
    let room = inside c.args.place c.block_bytes-stored.result c.loop-k.k c.args.blocks.fields.n c.loop-k-test.true in
    let fits : c.args.place + c.block_bytes-stored.result * c.args.blocks.fields.n < 2 ^ 64 = rw (c.block_bytes-stored.ensures.value) c.requires.can.fits in
    omega (arith, room, fits, c.loop-k.invariant.at)

pub loop-k-init : goal.loop-k-init
loop-k-init g c = record {
  told = λ bytes e. sent_none _ _ _ _ _ _ _;
  into = refl;
  at = omega arith;
  end = omega arith;
  buffer = refl;
  store = not_read (g.S.Store.state c.args.store.now);
}

pub loop-k-preserved : goal.loop-k-preserved
loop-k-preserved g c =
    let most = size_most c.args.blocks.unit.size c.requires.can.size in
    let room : c.block_bytes-stored.result ≤ length c.loop-k.buffer = omega (arith, most, c.block_bytes-stored.ensures.bound, c.loop-k.invariant.buffer) in
    let long : length c.read_block.new.frame ≡ c.block_bytes-stored.result = lent c.read_block.new.frame c.loop-k.buffer c.block_bytes-stored.result c.read_block.ensures.frame room in
    let sent : c.sent_size-sent.result ≤ c.block_bytes-stored.result = rw (c.sent_size-sent.ensures.value, c.block_bytes-stored.ensures.value) c.requires.can.sent in
    record {
      told = λ bytes e.
          let inv = c.loop-k.invariant.told bytes e in
          sent_next _ c.args.blocks.lba c.block_bytes-stored.result c.args.blocks.fields.n c.sent_size-sent.result c.loop-k.k (g.S.Store.state c.loop-k.store).faults (g.S.Store.state c.read_block.new.store).faults c.loop-k.end _ _ _ _ c.loop-k.into _ c.read_block.new.frame _ inv.0 _ _ c.passage-block.result.lba
          c.loop-k-test.true c.loop-k.invariant.end (omega (arith, long, sent)) inv.1 inv.2
          (ap (λ (b : Passage). off_medium c.args.tamper.now b (take (stored_size b.ty b.size) (drop c.loop-k.at bytes))) c.passage-block.ensures
          ∙ ap (λ n. off_medium c.args.tamper.now (passage c.args.blocks.unit c.args.blocks.fields c.args.blocks.lba c.args.labels.now c.loop-k.k) (take n (drop c.loop-k.at bytes))) (sym c.block_bytes-stored.ensures.value))
          (ap (λ (b : Passage). sent_size b.protect b.size) c.passage-block.ensures ∙ sym c.sent_size-sent.ensures.value)
          (sym (drop_both c.block_bytes-stored.result c.loop-k.at bytes))
          (take-append-le c.sent_size-sent.result c.read_block.new.frame (drop c.block_bytes-stored.result c.loop-k.buffer) (omega (arith, long, sent)))
          (c.in-None.ensures.told bytes (c.loop-k.invariant.store.same ∙ e))
          c.put_at.ensures;
      into = c.put_at.auto.into ∙ c.loop-k.invariant.into;
      at = omega (arith, c.loop-k.invariant.at);
      end = omega (arith, c.loop-k.invariant.end);
      buffer = refilled c.read_block.new.frame c.loop-k.buffer c.block_bytes-stored.result c.read_block.ensures.frame room ∙ c.loop-k.invariant.buffer;
      store = read_on (g.S.Store.state c.args.store.now) (g.S.Store.state c.loop-k.store) (g.S.Store.state c.read_block.new.store) c.loop-k.invariant.store c.read_block.ensures.stays;
    }

pub returns-in-Some-clause-told : goal.returns-in-Some-clause-told
returns-in-Some-clause-told g c =
    λ bytes e.
    let inv = c.loop-k.invariant.told bytes e in
    rw c.ends_at.ensures (sent_until _ c.args.blocks.lba c.block_bytes-stored.result c.args.blocks.fields.n c.sent_size-sent.result c.loop-k.k _ _ _ _ _ _ _ c.read_block.new.frame inv.0 c.in-Some.sense _ (sent_size c.passage-block.result.protect c.passage-block.result.size) _ _
    c.loop-k-test.true c.loop-k.invariant.store.count inv.1 inv.2
    (ap (λ (b : Passage). off_medium c.args.tamper.now b (take (stored_size b.ty b.size) (drop c.loop-k.at bytes))) c.passage-block.ensures
    ∙ ap (λ n. off_medium c.args.tamper.now (passage c.args.blocks.unit c.args.blocks.fields c.args.blocks.lba c.args.labels.now c.loop-k.k) (take n (drop c.loop-k.at bytes))) (sym c.block_bytes-stored.ensures.value))
    (ap (λ (b : Passage). b.lba) c.passage-block.ensures)
    (sym c.block_bytes-stored.ensures.value)
    (c.in-Some.ensures.told bytes (c.loop-k.invariant.store.same ∙ e)))

pub returns-clause-told : goal.returns-clause-told
returns-clause-told g c =
    λ bytes e.
    sent_whole _ c.args.blocks.lba c.block_bytes-stored.result c.args.blocks.fields.n c.sent_size-sent.result c.loop-k.k _ _ _ _ _ _ _
    (omega (arith, c.loop-k-test.false, c.loop-k.auto.k-end)) (sym c.block_bytes-stored.ensures.value) (c.loop-k.invariant.told bytes e)
