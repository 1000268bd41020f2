use Rattle.std.proofs.Common.{◌++◌, sym, ap, subst, ◌∙◌, arith}
use Rattle.std.proofs.lemmas.Result.{err_from_is_err_and}
use Rattle.dix_base.proofs.Stores.{extended_on, not_extended}
use Rattle.dix_base.specs.Stores.{StoreState}
use Rattle.dix_base.specs.Told.{Appended}
use Rattle.dix_base.proofs.Appending.{appended_none, appended_both}
use Rattle.rig_api.specs.Frames.{joined}
use Rattle.rig_api.specs.Image.{fresh_from}
use Rattle.image_rig.proofs.Formats.{fresh_more}
use Rattle.image_rig.proofs.Short.{blocks_short, size_some}
use Rattle.image_rig.proofs.formatting.append_blocks.Goals as goal

pub loop-k-init : goal.loop-k-init
loop-k-init g c = record {
  long = c.requires.long;
  zeros = c.requires.zeros;
  appended = appended_none (g.S.Store.state c.args.store.now).bytes;
  store = not_extended (g.S.Store.state c.args.store.now);
}

pub loop-k-preserved : goal.loop-k-preserved
loop-k-preserved g c =
    let u = c.args.unit.now in
    let more = appended_both (joined (fresh_from u.ty u.size u.first c.loop-k.k)) c.put_fresh.new.frame (g.S.Store.state c.args.store.now).bytes (g.S.Store.state c.loop-k.store).bytes (g.S.Store.state c.append.new.self).bytes c.loop-k.invariant.appended c.in_ok-append.ensures.written in
    record {
      long = c.put_fresh.ensures.long;
      zeros = c.put_fresh.ensures.zeros;
      appended = subst (λ xs. Appended xs (g.S.Store.state c.args.store.now).bytes (g.S.Store.state c.append.new.self).bytes) (ap (λ f. joined (fresh_from u.ty u.size u.first c.loop-k.k) ++ f) c.put_fresh.ensures.frame ∙ sym (fresh_more u.ty u.size u.first c.loop-k.k)) more;
      store = extended_on (g.S.Store.state c.args.store.now) (g.S.Store.state c.loop-k.store) (g.S.Store.state c.append.new.self) c.loop-k.invariant.store c.append.ensures.stays;
    }

pub returns-in_err-append-clause-short : goal.returns-in_err-append-clause-short
returns-in_err-append-clause-short g c =
    let u = c.args.unit.now in
    let p = err_from_is_err_and c.from_residual.result c.from_residual.ensures.1 in
    rw (p.1, p.2)
    (λ is. (
      joined (fresh_from u.ty u.size u.first c.loop-k.k),
      blocks_short u.ty u.size u.first c.loop-k.k u.blocks (size_some u c.requires.unit) c.loop-k-test.true,
      subst (λ (s : StoreState). Appended (joined (fresh_from u.ty u.size u.first c.loop-k.k)) (g.S.Store.state c.args.store.now).bytes s.bytes) (sym (c.in_err-append.ensures.memory is)) c.loop-k.invariant.appended,
    ))
