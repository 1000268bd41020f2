use Rattle.std.proofs.Common.{◌≡◌, ℕ, ◌+◌, ◌*◌, ◌<◌, ◌≤◌, ◌^◌, [], length, take, drop, arith, sym, ap, ◌∙◌, refl}
use Rattle.rig_api.specs.declared.passage.Passage.{Passage}
use Rattle.rig_api.specs.Frames.{sent_size, stored_size}
use Rattle.rig_api.specs.Target.{off_medium, passage}
use Rattle.dix_base.specs.Told.{over}
use Rattle.dix_base.proofs.Stores.{not_read, read_on}
use Rattle.target_model.proofs.Bytes.{drop_both, inside, lent, refilled, size_most}
use Rattle.target_model.proofs.Reading.{sent_none, sent_next, sent_until, sent_whole}
use Rattle.target_model.proofs.transfer.verify_blocks.Goals as goal

pub overflow_add-at : goal.overflow_add-at
overflow_add-at g c =
    let room = inside c.args.place c.block_bytes-stored.result c.loop-k.k c.args.blocks.fields.n c.loop-k-test.true in
    let fits : c.args.place + c.block_bytes-stored.result * c.args.blocks.fields.n < 2 ^ 64 = rw (c.block_bytes-stored.ensures.value) c.requires.can.fits in
    omega (arith, room, fits, c.loop-k.invariant.at)

pub loop-k-init : goal.loop-k-init
loop-k-init g c = record {
  told = λ bytes e. ([], sent_none _ _ _ _ _ _ _);
  at = omega arith;
  buffer = refl;
  store = not_read (g.S.Store.state c.args.store.now);
}

pub loop-k-preserved : goal.loop-k-preserved
loop-k-preserved g c =
    let most = size_most c.args.blocks.unit.size c.requires.can.size in
    let room : c.block_bytes-stored.result ≤ length c.loop-k.buffer = omega (arith, most, c.block_bytes-stored.ensures.bound, c.loop-k.invariant.buffer) in
    let long : length c.read_block.new.frame ≡ c.block_bytes-stored.result = lent c.read_block.new.frame c.loop-k.buffer c.block_bytes-stored.result c.read_block.ensures.frame room in
    let size : ℕ = sent_size c.args.blocks.fields.protect c.args.blocks.unit.size in
    let sent : size ≤ c.block_bytes-stored.result = rw (c.block_bytes-stored.ensures.value) c.requires.can.sent in
    record {
      told = λ bytes e.
          let inv = c.loop-k.invariant.told bytes e in (
            over (size * c.loop-k.k) (take size c.read_block.new.frame) inv.0,
            sent_next _ c.args.blocks.lba c.block_bytes-stored.result c.args.blocks.fields.n size c.loop-k.k (g.S.Store.state c.loop-k.store).faults (g.S.Store.state c.read_block.new.store).faults (size * c.loop-k.k) _ _ _ [] inv.0 _ c.read_block.new.frame (take size c.read_block.new.frame) inv.1.0 _ _ c.passage-block.result.lba
                c.loop-k-test.true refl (omega (arith, long, sent)) inv.1.1 inv.1.2
                (ap (λ (b : Passage). off_medium c.args.tamper.now b (take (stored_size b.ty b.size) (drop c.loop-k.at bytes))) c.passage-block.ensures
                ∙ ap (λ n. off_medium c.args.tamper.now (passage c.args.blocks.unit c.args.blocks.fields c.args.blocks.lba [] c.loop-k.k) (take n (drop c.loop-k.at bytes))) (sym c.block_bytes-stored.ensures.value))
                (ap (λ (b : Passage). sent_size b.protect b.size) c.passage-block.ensures)
                (sym (drop_both c.block_bytes-stored.result c.loop-k.at bytes))
                refl
                (c.in-None.ensures.told bytes (c.loop-k.invariant.store.same ∙ e))
                refl,
          );
      at = omega (arith, c.loop-k.invariant.at);
      buffer = refilled c.read_block.new.frame c.loop-k.buffer c.block_bytes-stored.result c.read_block.ensures.frame room ∙ c.loop-k.invariant.buffer;
      store = read_on (g.S.Store.state c.args.store.now) (g.S.Store.state c.loop-k.store) (g.S.Store.state c.read_block.new.store) c.loop-k.invariant.store c.read_block.ensures.stays;
    }

pub returns-in-Some-clause-told : goal.returns-in-Some-clause-told
returns-in-Some-clause-told g c =
    λ bytes e.
    let inv = c.loop-k.invariant.told bytes e in (
      inv.0,
      rw c.ends_at.ensures (sent_until _ c.args.blocks.lba c.block_bytes-stored.result c.args.blocks.fields.n (sent_size c.args.blocks.fields.protect c.args.blocks.unit.size) c.loop-k.k _ _ _ _ _ _ _ c.read_block.new.frame inv.1.0 c.in-Some.sense _ (sent_size c.passage-block.result.protect c.passage-block.result.size) _ _
          c.loop-k-test.true c.loop-k.invariant.store.count inv.1.1 inv.1.2
          (ap (λ (b : Passage). off_medium c.args.tamper.now b (take (stored_size b.ty b.size) (drop c.loop-k.at bytes))) c.passage-block.ensures
          ∙ ap (λ n. off_medium c.args.tamper.now (passage c.args.blocks.unit c.args.blocks.fields c.args.blocks.lba [] c.loop-k.k) (take n (drop c.loop-k.at bytes))) (sym c.block_bytes-stored.ensures.value))
          (ap (λ (b : Passage). b.lba) c.passage-block.ensures)
          (sym c.block_bytes-stored.ensures.value)
          (c.in-Some.ensures.told bytes (c.loop-k.invariant.store.same ∙ e))),
    )

pub returns-clause-told : goal.returns-clause-told
returns-clause-told g c =
    λ bytes e.
    let inv = c.loop-k.invariant.told bytes e in (
      inv.0,
      sent_whole _ c.args.blocks.lba c.block_bytes-stored.result c.args.blocks.fields.n (sent_size c.args.blocks.fields.protect c.args.blocks.unit.size) c.loop-k.k _ _ _ _ _ _ _
          (omega (arith, c.loop-k-test.false, c.loop-k.auto.k-end)) (sym c.block_bytes-stored.ensures.value) inv.1,
    )
