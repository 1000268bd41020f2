use Rattle.std.proofs.Common.{◌∙◌, length, refl, take, arith}
use Rattle.image_blocks.specs.Images.{units_open}
use Rattle.image_text.proofs.Importing.{taken_bytes}
use Rattle.image_text.proofs.Keeping.{keeps_all, keeps_front}
use Rattle.image_text.proofs.Storing.{ends_short, ends_whole, frames_fit, pieces_fit, room_is, some_bytes, still_taken, unstored}
use Rattle.image_text.proofs.import.take_stretch.Goals as goal

pub returns-in-Err-clause-taken : goal.returns-in-Err-clause-taken
returns-in-Err-clause-taken g c = (
  c.in-Err.ensures.cause,
  record {
    n = 0;
    more = c.in-Err.ensures.broken.0;
    few = omega arith;
    has = taken_bytes c.args.layout (units_open c.args.image.now) c.args.at c.in-Err.ensures.broken.0 (g.S.Store.state c.args.store.now).bytes _ (g.R.Source.left c.args.source.now) (g.R.Source.left c.fill.new.source) refl c.in-Err.ensures.broken.1;
  },
)

pub put_stretch-requires-clause-place : goal.put_stretch-requires-clause-place
put_stretch-requires-clause-place g c = still_taken c.args.layout (units_open c.args.image.now) c.args.at c.front_of-front.result c.min-whole.result (g.S.Store.state c.args.store.now).length c.requires.place c.front_of-front.ensures.value

pub put_stretch-requires-clause-pieces : goal.put_stretch-requires-clause-pieces
put_stretch-requires-clause-pieces g c =
    pieces_fit c.args.layout (units_open c.args.image.now) c.units.result.now c.args.at c.front_of-front.result c.min-whole.result c.in-Ok.got c.piece_len-each.result c.fill.new.into c.units.ensures c.piece_len-each.ensures c.front_of-front.ensures.value c.min-whole.ensures
    (omega (arith, c.in-Ok.ensures.bound, c.fill.ensures.long))

pub put_stretch-requires-clause-room : goal.put_stretch-requires-clause-room
put_stretch-requires-clause-room g c =
    frames_fit (units_open c.args.image.now) c.args.at c.front_of-front.result c.min-whole.result c.block_bytes-len.result c.args.frames.now c.block_bytes-len.ensures.value c.front_of-front.ensures.value (omega (arith, c.min-whole.ensures)) c.requires.room

pub returns-in-Err-put_stretch-clause-taken : goal.returns-in-Err-put_stretch-clause-taken
returns-in-Err-put_stretch-clause-taken g c = (
  c.in-Err-put_stretch.ensures.cause,
  unstored c.args.layout (units_open c.args.image.now) c.args.at c.front_of-front.result c.min-whole.result (length c.args.frames.now) (take c.in-Ok.got c.fill.new.into) (g.S.Store.state c.args.store.now).bytes (g.S.Store.state c.put_stretch.new.store).bytes (g.R.Source.left c.args.source.now) (g.R.Source.left c.fill.new.source)
      c.front_of-front.ensures.value (omega (arith, c.min-whole.ensures)) c.requires.room c.in-Err-put_stretch.ensures.left c.in-Ok.ensures.taken,
)

pub returns-then-front-at-clause-taken : goal.returns-then-front-at-clause-taken
returns-then-front-at-clause-taken g c =
    ends_short c.args.layout (units_open c.args.image.now) c.units.result.now c.args.at c.front_of-front.result c.min-whole.result c.in-Ok.got c.piece_len-each.result c.fill.new.into (g.S.Store.state c.args.store.now).bytes (g.S.Store.state c.put_stretch.new.store).bytes (g.R.Source.left c.args.source.now) (g.R.Source.left c.fill.new.source)
    c.units.ensures c.piece_len-each.ensures (some_bytes c.args.layout (units_open c.args.image.now) c.units.result.now c.args.at.dev c.piece_len-each.result c.block_bytes-len.result c.units.ensures c.piece_len-each.ensures c.block_bytes-len.ensures.value c.block_bytes-len.ensures.least)
    c.front_of-front.ensures.value c.min-whole.ensures c.if-front-at.true
    (c.fill.ensures.long ∙ room_is c.args.layout (units_open c.args.image.now) c.units.result.now c.args.at c.piece_len-each.result (length c.args.pieces.now) c.units.ensures c.piece_len-each.ensures c.requires.pieces)
    (omega (arith, c.in-Ok.ensures.bound, c.fill.ensures.long)) c.in-Ok.ensures.taken (λ h. c.in-Ok.ensures.end (omega (arith, h, c.fill.ensures.long))) c.in-Ok-put_stretch.ensures.put

pub returns-clause-taken : goal.returns-clause-taken
returns-clause-taken g c =
    ends_whole c.args.layout (units_open c.args.image.now) c.units.result.now c.args.at c.front_of-front.result c.min-whole.result c.in-Ok.got c.piece_len-each.result c.fill.new.into (g.S.Store.state c.args.store.now).bytes (g.S.Store.state c.put_stretch.new.store).bytes (g.R.Source.left c.args.source.now) (g.R.Source.left c.fill.new.source)
    c.units.ensures c.piece_len-each.ensures c.front_of-front.ensures.value c.min-whole.ensures (omega (arith, c.if-front-at.false))
    (c.fill.ensures.long ∙ room_is c.args.layout (units_open c.args.image.now) c.units.result.now c.args.at c.piece_len-each.result (length c.args.pieces.now) c.units.ensures c.piece_len-each.ensures c.requires.pieces)
    (omega (arith, c.in-Ok.ensures.bound, c.fill.ensures.long)) c.in-Ok.ensures.taken c.in-Ok-put_stretch.ensures.put

pub returns-in-Err-clause-apart : goal.returns-in-Err-clause-apart
returns-in-Err-clause-apart g c = keeps_all (units_open c.args.image.now) c.args.at (g.S.Store.state c.args.store.now).bytes (g.S.Store.state c.args.store.now).bytes refl

pub returns-in-Err-put_stretch-clause-apart : goal.returns-in-Err-put_stretch-clause-apart
returns-in-Err-put_stretch-clause-apart g c =
    keeps_front (units_open c.args.image.now) c.args.at c.front_of-front.result c.min-whole.result (g.S.Store.state c.args.store.now).bytes (g.S.Store.state c.put_stretch.new.store).bytes c.requires.place.there c.front_of-front.ensures.value c.put_stretch.ensures.apart

pub returns-then-front-at-clause-apart : goal.returns-then-front-at-clause-apart
returns-then-front-at-clause-apart g c =
    keeps_front (units_open c.args.image.now) c.args.at c.front_of-front.result c.min-whole.result (g.S.Store.state c.args.store.now).bytes (g.S.Store.state c.put_stretch.new.store).bytes c.requires.place.there c.front_of-front.ensures.value c.put_stretch.ensures.apart

pub returns-clause-apart : goal.returns-clause-apart
returns-clause-apart g c =
    keeps_front (units_open c.args.image.now) c.args.at c.front_of-front.result c.min-whole.result (g.S.Store.state c.args.store.now).bytes (g.S.Store.state c.put_stretch.new.store).bytes c.requires.place.there c.front_of-front.ensures.value c.put_stretch.ensures.apart
