use Rattle.std.proofs.Common.{◌+◌, ◌*◌, ◌<◌, ◌^◌, length, arith, sym, ap, ◌∙◌, refl}
use Rattle.rig_api.specs.declared.passage.Passage.{Passage}
use Rattle.rig_api.specs.Frames.{sent_size, stored_size}
use Rattle.rig_api.specs.Target.{onto_medium, passage}
use Rattle.dix_base.proofs.Stores.{not_written, written_on}
use Rattle.target_model.proofs.Bytes.{told_length, inside, fewer, all_left, refilled, size_most}
use Rattle.target_model.proofs.Writing.{wrote_none, wrote_next, wrote_until, wrote_whole}
use Rattle.target_model.proofs.transfer.write_blocks.Goals as goal

pub overflow_add-at : goal.overflow_add-at
overflow_add-at g c =
    let room = inside c.args.place c.block_bytes-stored.result c.loop-k.k c.args.blocks.fields.n c.loop-k-test.true in
    let fits : c.args.place + c.block_bytes-stored.result * c.args.blocks.fields.n < 2 ^ 64 = rw (c.block_bytes-stored.ensures.value) c.requires.can.fits in
    omega (arith, room, fits, c.loop-k.invariant.at)

pub loop-k-init : goal.loop-k-init
loop-k-init g c = record {
  told = λ bytes e.
      let len = told_length _ _ bytes e (g.met.S.Store.told c.args.store.now) in
      wrote_none _ _ _ _ _ c.args.place _ bytes _ (omega (arith, len, c.requires.can.held)) e;
  rest = all_left c.sent_size-sent.result (sent_size c.args.blocks.fields.protect c.args.blocks.unit.size) c.args.blocks.fields.n (length c.args.out.now) c.sent_size-sent.ensures.value c.requires.out;
  at = omega arith;
  buffer = refl;
  store = not_written (g.S.Store.state c.args.store.now);
}

pub loop-k-preserved : goal.loop-k-preserved
loop-k-preserved g c = record {
  told = λ bytes e.
      let len = told_length _ _ bytes e (g.met.S.Store.told c.args.store.now) in
      let inv = c.loop-k.invariant.told bytes e in
      wrote_next (λ k frame. onto_medium c.args.tamper.now (passage c.args.blocks.unit c.args.blocks.fields c.args.blocks.lba c.args.labels.now k) frame) c.args.tamper.now c.args.labels.now c.args.blocks.lba c.sent_size-sent.result c.args.blocks.fields.n c.block_bytes-stored.result c.loop-k.k c.args.place c.loop-k.at _ _ c.loop-k.rest.now _ _ bytes _ inv.0 _ _ _ _
      (omega (arith, len, c.requires.can.held)) c.loop-k-test.true c.loop-k.invariant.at inv.1
      (ap (λ (b : Passage). onto_medium c.args.tamper.now b c.split_at.result.0.now) c.passage-block.ensures
      ∙ ap (onto_medium c.args.tamper.now (passage c.args.blocks.unit c.args.blocks.fields c.args.blocks.lba c.args.labels.now c.loop-k.k)) c.split_at.ensures.front)
      (ap (λ (b : Passage). b.label) c.passage-block.ensures)
      (ap (λ (b : Passage). stored_size b.ty b.size) c.passage-block.ensures ∙ sym c.block_bytes-stored.ensures.value)
      (ap (λ (b : Passage). b.lba) c.passage-block.ensures)
      c.split_at.ensures.back
      (c.in-None.ensures.told _ inv.2);
  rest = fewer c.sent_size-sent.result c.loop-k.k c.args.blocks.fields.n (length c.loop-k.rest.now) (length c.split_at.result.1.now) c.loop-k-test.true c.loop-k.invariant.rest c.split_at.ensures.back_len;
  at = omega (arith, c.loop-k.invariant.at);
  buffer = refilled c.write_block.new.frame c.loop-k.buffer c.block_bytes-stored.result c.write_block.ensures.frame (let m = size_most c.args.blocks.unit.size c.requires.can.size in omega (arith, m, c.block_bytes-stored.ensures.bound, c.loop-k.invariant.buffer)) ∙ c.loop-k.invariant.buffer;
  store = written_on (g.S.Store.state c.args.store.now) (g.S.Store.state c.loop-k.store) (g.S.Store.state c.write_block.new.store) c.loop-k.invariant.store c.write_block.ensures.stays;
}

pub returns-in-Some-clause-told : goal.returns-in-Some-clause-told
returns-in-Some-clause-told g c =
    λ bytes e.
    let len = told_length _ _ bytes e (g.met.S.Store.told c.args.store.now) in
    let inv = c.loop-k.invariant.told bytes e in
    rw c.ends_at.ensures (wrote_until (λ k frame. onto_medium c.args.tamper.now (passage c.args.blocks.unit c.args.blocks.fields c.args.blocks.lba c.args.labels.now k) frame) c.args.tamper.now c.args.labels.now c.args.blocks.lba c.sent_size-sent.result c.args.blocks.fields.n c.block_bytes-stored.result c.loop-k.k c.args.place c.loop-k.at _ _ _ c.loop-k.rest.now _ bytes _ inv.0 c.in-Some.sense _ _ _ _ _ _
    (omega (arith, len, c.requires.can.held)) c.loop-k-test.true c.loop-k.invariant.at c.loop-k.invariant.store.count inv.1
    (ap (λ (b : Passage). onto_medium c.args.tamper.now b c.split_at.result.0.now) c.passage-block.ensures
    ∙ ap (onto_medium c.args.tamper.now (passage c.args.blocks.unit c.args.blocks.fields c.args.blocks.lba c.args.labels.now c.loop-k.k)) c.split_at.ensures.front)
    (ap (λ (b : Passage). b.label) c.passage-block.ensures)
    (ap (λ (b : Passage). stored_size b.ty b.size) c.passage-block.ensures ∙ sym c.block_bytes-stored.ensures.value)
    (ap (λ (b : Passage). b.lba) c.passage-block.ensures)
    (sym c.sent_size-sent.ensures.value)
    (sym c.block_bytes-stored.ensures.value)
    (c.in-Some.ensures.told _ inv.2))

pub returns-clause-told : goal.returns-clause-told
returns-clause-told g c =
    λ bytes e.
    wrote_whole (λ k frame. onto_medium c.args.tamper.now (passage c.args.blocks.unit c.args.blocks.fields c.args.blocks.lba c.args.labels.now k) frame) c.args.tamper.now c.args.labels.now c.args.blocks.lba c.sent_size-sent.result c.args.blocks.fields.n c.block_bytes-stored.result c.loop-k.k c.args.place _ _ c.loop-k.rest.now _ bytes _ _ _
    (omega (arith, c.loop-k-test.false, c.loop-k.auto.k-end)) (sym c.sent_size-sent.ensures.value) (sym c.block_bytes-stored.ensures.value) (c.loop-k.invariant.told bytes e)
