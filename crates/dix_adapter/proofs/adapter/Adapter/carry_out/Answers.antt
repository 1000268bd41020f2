use Rattle.std.proofs.Common.{◌≡◌, ◌++◌, [], replicate, true, false, refl, ap, sym, ◌∙◌, take, drop, map, length, arith}
use Rattle.std.proofs.lemmas.List.{nil_from_length, take_at}
use Rattle.page_pool.specs.Cells.{flat}
use Rattle.bio_core.specs.declared.fate.Fate.TheVariants.{Good}
use Rattle.cdb_codec.specs.Forms.{form}
use Rattle.cdb_codec.specs.declared.choice.Dir2.TheVariants.{Out}
use Rattle.rig_api.specs.Telling.{greatest_size}
use Rattle.dix_adapter.specs.Carried.{any_fails, command_for, command_of, out_of, sends, way_of}
use Rattle.dix_adapter.specs.Groups.{blocks_in, first_of, label_of, size}
use Rattle.dix_adapter.specs.Outcomes.{done_of, rest_of}
use Rattle.dix_adapter.proofs.Commands.{command-room}
use Rattle.dix_adapter.proofs.Judged.{exchanged-as, judged}
use Rattle.dix_adapter.proofs.adapter.Adapter.carry_out.Goals as goal

pub returns-then-has_bad-clause-sent : goal.returns-then-has_bad-clause-sent
returns-then-has_bad-clause-sent g c n = absurd (let x : true ≡ false = sym c.if-has_bad.true ∙ c.has_bad.ensures ∙ ap any_fails (c.deref.ensures.value ∙ c.gather-end.ensures.fates) ∙ judged (map (sends c.args.self.now c.args.ios.now (flat c.args.pool.now)) (blocks_in c.args.req.now)) ∙ n in cc)

pub returns-clause-unsent : goal.returns-clause-unsent
returns-clause-unsent g c b = absurd (let x : false ≡ true = sym c.if-has_bad.false ∙ c.has_bad.ensures ∙ ap any_fails (c.deref.ensures.value ∙ c.gather-end.ensures.fates) ∙ judged (map (sends c.args.self.now c.args.ios.now (flat c.args.pool.now)) (blocks_in c.args.req.now)) ∙ b in cc)

pub exchange-outcome-requires-clause-room : goal.exchange-outcome-requires-clause-room
exchange-outcome-requires-clause-room g c =
    command-room c.args.self.now Out (first_of c.args.req.now).lba c.fill_labels-count.result (greatest_size (g.R.Rig.state c.args.rig.now).standing) c.encode-cdb.result.items c.deref-3.result.now (g.R.Rig.state c.args.rig.now).room
    (rw c.command.ensures.command at c.command.ensures.fits) (c.encode-cdb.ensures ∙ ap form c.command.ensures.command) c.deref-3.ensures.0 (rw c.fill_labels-count.ensures.count c.requires.can.spare)

pub returns-clause-sent : goal.returns-clause-sent
returns-clause-sent g c n =
    let l : c.deref-4.result.now ≡ map label_of (blocks_in c.args.req.now) = c.deref-4.ensures.value ∙ c.fill_labels-count.ensures.labels in
    let k : length c.gather-end.new.frames ≡ c.args.scratch.now.frames.len = omega (arith, c.gather-end.ensures.long, c.deref_mut.ensures.len) in
    let f : take c.gather-end.result c.deref-2.result.now ≡ out_of c.args.self.now c.args.ios.now c.args.req.now c.args.pool.now = ap (take c.gather-end.result) (c.deref-2.ensures.value ∙ take_at c.gather-end.new.frames (drop (length c.gather-end.new.frames) c.args.scratch.now.frames.items) c.args.scratch.now.frames.len k) ∙ c.gather-end.ensures.frames n in
    let m : command_for c.args.self.now Out (first_of c.args.req.now).lba c.fill_labels-count.result ≡ command_of c.args.self.now c.args.req.now =
    ap (λ k. command_for c.args.self.now Out (first_of c.args.req.now).lba k) c.fill_labels-count.ensures.count
    ∙ ap (λ w. command_for c.args.self.now w (first_of c.args.req.now).lba (size c.args.req.now)) (sym (ap way_of c.requires.way)) in
    let d : c.deref-3.result.now ≡ form (command_of c.args.self.now c.args.req.now) = c.deref-3.ensures.0 ∙ c.encode-cdb.ensures ∙ ap form (c.command.ensures.command ∙ m) in
    let nothing : c.exchange-outcome.new.into ≡ [] = nil_from_length c.exchange-outcome.new.into (omega arith) in
    record {
      outcome = c.exchange-outcome.result;
      fits = rw (c.command.ensures.command ∙ m) at c.command.ensures.fits;
      exchanged = rw nothing at (exchanged-as (g.R.Rig.state c.args.rig.now) (g.R.Rig.state c.exchange-outcome.new.self)
          (first_of c.args.req.now).dev _ _ _ _ _ _ [] c.exchange-outcome.new.into c.exchange-outcome.result d l f c.exchange-outcome.ensures.exchanged);
      fates_are = c.set_fates.ensures.items ∙ ap (λ k. replicate (done_of k c.exchange-outcome.result) Good ++ rest_of k c.exchange-outcome.result) c.fill_labels-count.ensures.count;
      pool_is = refl;
    }
