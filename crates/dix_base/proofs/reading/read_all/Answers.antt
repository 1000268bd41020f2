use Rattle.std.proofs.Common.{arith, refl}
use Rattle.dix_base.proofs.Taking.{most_is, took_both, took_none}
use Rattle.dix_base.proofs.reading.read_all.Goals as goal

pub loop-room-init : goal.loop-room-init
loop-room-init g c = record {
  taken = rw c.new-all.ensures.items (took_none (g.S.Source.left c.args.source.now));
  buffer = refl;
  sizes = rw c.new-all.ensures.items (rw most_is refl);
  calm = refl;
}

pub returns-in-Err-extend_from_slice-clause-most : goal.returns-in-Err-extend_from_slice-clause-most
returns-in-Err-extend_from_slice-clause-most g c =
    took_both c.loop-room.all.items c.take.new.buf c.in-Ok.n _ _ _ _ c.loop-room.invariant.taken c.in-Ok.ensures.taken
    (omega (arith, c.loop-room.invariant.sizes, c.in-Ok.ensures.bound, c.split_at_mut-part.ensures.front_len, c.min.ensures))
