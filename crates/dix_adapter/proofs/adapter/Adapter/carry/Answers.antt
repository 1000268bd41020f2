use Rattle.std.proofs.Common.{◌≡◌, true, false, ⊎_elim}
use Rattle.std.proofs.lemmas.Bool.{cases_Bool}
use Rattle.page_pool.specs.Cells.{flat}
use Rattle.dix_adapter.specs.Carried.{is_bad_write}
use Rattle.dix_adapter.proofs.OnRecord.{recorded-in, recorded-out, settles-in, settles-out, settles-unsent}
use Rattle.dix_adapter.proofs.Spent.{each-in, each-out, each-unsent, spends-in, spends-none, spends-out}
use Rattle.dix_adapter.proofs.Told.{told-in, told-out}
use Rattle.rig_api.specs.Telling.{greatest_size}
use Rattle.rig_api.proofs.State.{stays-exchanged, stays-still}
use Rattle.dix_adapter.proofs.adapter.Adapter.carry.Goals as goal

pub carry_out-requires-clause-can : goal.carry_out-requires-clause-can
carry_out-requires-clause-can g c = rw c.clear.ensures.capacity c.requires.can

pub carry_in-requires-clause-can : goal.carry_in-requires-clause-can
carry_in-requires-clause-can g c = rw c.clear.ensures.capacity c.requires.can

pub returns-in-Write-clause-carried_out : goal.returns-in-Write-clause-carried_out
returns-in-Write-clause-carried_out g c w n =
    let old = g.R.Rig.state c.args.rig.now in
    let new = g.R.Rig.state c.carry_out.new.rig in
    record {
      sent = c.carry_out.ensures.sent n;
      recorded = λ e.
          recorded-out c.args.self.now c.args.pool.now c.args.pool.now c.requires.can.bytes c.args.ios.now c.args.req.now c.carry_out.new.fates.items old new
          c.requires.can.protect c.requires.can.group w n e (c.carry_out.ensures.sent n);
      went = λ us u behind.
          told-out c.args.self.now c.args.pool.now c.args.pool.now c.requires.can.bytes c.args.ios.now c.args.req.now c.carry_out.new.fates.items old new us old.image
          c.requires.can.protect c.requires.can.group w n (c.carry_out.ensures.sent n) u (g.met.R.Rig.laid c.args.rig.now) (g.met.R.Rig.ready c.args.rig.now) c.requires.can.device behind;
    }

pub returns-in-Read-clause-carried_in : goal.returns-in-Read-clause-carried_in
returns-in-Read-clause-carried_in g c w =
    let old = g.R.Rig.state c.args.rig.now in
    let new = g.R.Rig.state c.carry_in.new.rig in
    record {
      fetched = c.carry_in.ensures.fetched;
      recorded = λ e.
          recorded-in c.args.self.now c.args.pool.now c.carry_in.new.pool c.requires.can.bytes c.args.ios.now c.args.req.now c.carry_in.new.fates.items old new
          c.requires.can.protect c.requires.can.group w e c.carry_in.ensures.fetched;
      came = λ us u behind.
          told-in c.args.self.now c.args.pool.now c.carry_in.new.pool c.requires.can.bytes c.args.ios.now c.args.req.now c.carry_in.new.fates.items old new us old.image
          c.requires.can.protect c.requires.can.group w c.carry_in.ensures.fetched u (g.met.R.Rig.laid c.args.rig.now) (g.met.R.Rig.ready c.args.rig.now) c.requires.can.device behind;
    }

pub returns-in-Write-clause-settled : goal.returns-in-Write-clause-settled
returns-in-Write-clause-settled g c =
    let old = g.R.Rig.state c.args.rig.now in
    let new = g.R.Rig.state c.carry_out.new.rig in
    ⊎_elim
    (λ (b : is_bad_write c.args.self.now c.args.ios.now c.args.req.now (flat c.args.pool.now) ≡ true). record {
      count = each-unsent c.args.self.now c.args.ios.now c.args.req.now (flat c.args.pool.now) c.carry_out.new.fates.items (c.carry_out.ensures.unsent b).0.fates_are;
      settles = settles-unsent c.args.self.now c.args.ios.now c.args.req.now (flat c.args.pool.now) c.carry_out.new.fates.items b (c.carry_out.ensures.unsent b).0.fates_are;
    })
    (λ (b : is_bad_write c.args.self.now c.args.ios.now c.args.req.now (flat c.args.pool.now) ≡ false). record {
      count = each-out c.args.self.now c.args.pool.now c.args.pool.now c.args.ios.now c.args.req.now c.carry_out.new.fates.items old new (c.carry_out.ensures.sent b);
      settles = settles-out c.args.self.now c.args.pool.now c.args.pool.now c.requires.can.bytes c.args.ios.now c.args.req.now c.carry_out.new.fates.items old new c.requires.can.group (c.carry_out.ensures.sent b);
    })
    (cases_Bool (is_bad_write c.args.self.now c.args.ios.now c.args.req.now (flat c.args.pool.now)))

pub returns-in-Read-clause-settled : goal.returns-in-Read-clause-settled
returns-in-Read-clause-settled g c =
    let old = g.R.Rig.state c.args.rig.now in
    let new = g.R.Rig.state c.carry_in.new.rig in
    record {
      count = each-in c.args.self.now c.args.pool.now c.carry_in.new.pool c.args.ios.now c.args.req.now c.carry_in.new.fates.items old new c.carry_in.ensures.fetched;
      settles = settles-in c.args.self.now c.args.pool.now c.carry_in.new.pool c.requires.can.bytes c.args.ios.now c.args.req.now c.carry_in.new.fates.items old new c.requires.can.group c.carry_in.ensures.fetched;
    }

pub returns-in-Write-clause-spent : goal.returns-in-Write-clause-spent
returns-in-Write-clause-spent g c =
    let old = g.R.Rig.state c.args.rig.now in
    let new = g.R.Rig.state c.carry_out.new.rig in
    ⊎_elim
    (λ (b : is_bad_write c.args.self.now c.args.ios.now c.args.req.now (flat c.args.pool.now) ≡ true). rw ((c.carry_out.ensures.unsent b).1) (spends-none (greatest_size old.standing) c.carry_out.new.fates.items old.room))
    (λ (b : is_bad_write c.args.self.now c.args.ios.now c.args.req.now (flat c.args.pool.now) ≡ false).
    spends-out c.args.self.now c.args.pool.now c.args.pool.now c.args.ios.now c.args.req.now c.carry_out.new.fates.items old new (c.carry_out.ensures.sent b))
    (cases_Bool (is_bad_write c.args.self.now c.args.ios.now c.args.req.now (flat c.args.pool.now)))

pub returns-in-Read-clause-spent : goal.returns-in-Read-clause-spent
returns-in-Read-clause-spent g c =
    spends-in c.args.self.now c.args.pool.now c.carry_in.new.pool c.args.ios.now c.args.req.now c.carry_in.new.fates.items (g.R.Rig.state c.args.rig.now) (g.R.Rig.state c.carry_in.new.rig)
    c.carry_in.ensures.fetched

pub returns-in-Write-clause-stays : goal.returns-in-Write-clause-stays
returns-in-Write-clause-stays g c =
    ⊎_elim
    (λ (b : is_bad_write c.args.self.now c.args.ios.now c.args.req.now (flat c.args.pool.now) ≡ true). rw ((c.carry_out.ensures.unsent b).1) (stays-still (g.R.Rig.state c.args.rig.now)))
    (λ (b : is_bad_write c.args.self.now c.args.ios.now c.args.req.now (flat c.args.pool.now) ≡ false). stays-exchanged (c.carry_out.ensures.sent b).exchanged)
    (cases_Bool (is_bad_write c.args.self.now c.args.ios.now c.args.req.now (flat c.args.pool.now)))

pub returns-in-Read-clause-stays : goal.returns-in-Read-clause-stays
returns-in-Read-clause-stays g c = stays-exchanged c.carry_in.ensures.fetched.exchanged
