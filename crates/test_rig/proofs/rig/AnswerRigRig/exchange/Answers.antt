use Rattle.std.proofs.Common.{◌≡◌, ◌++◌, ◌∷◌, [], length, ap, sym, ◌∙◌, arith, rules}
use Rattle.rig_api.specs.Requests.{blocks_of}
use Rattle.rig_api.specs.Log.{entry_of, labels_of, moved_of}
use Rattle.rig_api.specs.Telling.{spec_at}
use Rattle.test_rig.specs.Answering.{device_is, entries, standing_of}
use Rattle.test_rig.proofs.Rooms.{one-or-other, rooms}
use Rattle.test_rig.proofs.rig.AnswerRigRig.exchange.Goals as goal

pub note-requires-clause-moved : goal.note-requires-clause-moved
note-requires-clause-moved c =
    let r = rooms c.args.self.now.devices c.args.dev (blocks_of c.args.cdb.now) c.args.self.now.what c.args.self.now.labels c.args.self.now.moved c.args.self.now.open c.requires.device c.requires.room in
    let o = one-or-other c.args.cdb.now c.size_of.result _ (length c.copy_front.new.into) c.size_of.ensures.bound r.most (let x = c.requires.capacity in let y = c.copy_front.ensures in rw y x) in
    omega (arith, o, c.moved.ensures.bound)

pub returns : goal.returns
returns c =
    let r = rooms c.args.self.now.devices c.args.dev (blocks_of c.args.cdb.now) c.args.self.now.what c.args.self.now.labels c.args.self.now.moved c.args.self.now.open c.requires.device c.requires.room in
    let z : c.size_of.result ≡ (spec_at (standing_of c.args.self.now.devices) c.args.dev).size = c.size_of.ensures.value ∙ sym (device_is c.args.self.now.devices c.args.dev c.args.self.now.open c.requires.device).0 in
    let moved : length c.moved.result.now ≡ length (moved_of (spec_at (standing_of c.args.self.now.devices) c.args.dev).size c.args.cdb.now c.note.new.self.outcome c.args.out.now c.copy_front.new.into) =
    ap length (c.moved.ensures.value ∙ ap (λ n. moved_of n c.args.cdb.now c.args.self.now.outcome c.args.out.now c.copy_front.new.into) z ∙ ap (λ o. moved_of (spec_at (standing_of c.args.self.now.devices) c.args.dev).size c.args.cdb.now o c.args.out.now c.copy_front.new.into) (sym c.note.ensures.outcome)) in
    let labelled : length c.kept_labels.result.now ≡ length (labels_of c.args.cdb.now c.note.new.self.outcome c.args.labels.now) =
    ap length (c.kept_labels.ensures.value ∙ ap (λ o. labels_of c.args.cdb.now o c.args.labels.now) (sym c.note.ensures.outcome)) in
    record {
      exchanged = record {
        recorded = ap (λ w. entries w c.note.new.self.labels.items c.note.new.self.moved.items) c.note.ensures.what
            ∙ ap (λ w. record { what = record { dev = c.args.dev; cdb = c.args.cdb.now; outcome = c.args.self.now.outcome }; labels = w; moved = c.note.new.self.moved.items } ∷ []) (c.note.ensures.labels.items ∙ c.kept_labels.ensures.value)
            ∙ ap (λ w. record { what = record { dev = c.args.dev; cdb = c.args.cdb.now; outcome = c.args.self.now.outcome }; labels = labels_of c.args.cdb.now c.args.self.now.outcome c.args.labels.now; moved = w } ∷ []) (c.note.ensures.moved.items ∙ c.moved.ensures.value)
            ∙ ap (λ n. entry_of n c.args.dev c.args.cdb.now c.args.labels.now c.args.self.now.outcome c.args.out.now c.copy_front.new.into ∷ []) z
            ∙ ap (λ o. entry_of (spec_at (standing_of c.args.self.now.devices) c.args.dev).size c.args.dev c.args.cdb.now c.args.labels.now o c.args.out.now c.copy_front.new.into ∷ []) (sym c.note.ensures.outcome)
            ∙ ap (λ w. entries w c.args.self.now.labels.items c.args.self.now.moved.items ++ entry_of (spec_at (standing_of c.args.self.now.devices) c.args.dev).size c.args.dev c.args.cdb.now c.args.labels.now c.note.new.self.outcome c.args.out.now c.copy_front.new.into ∷ []) (sym r.none);
        calm = search rules;
        stopped = search rules;
        medium = search rules;
        key = search rules;
        tells = search rules;
        standing = ap standing_of c.note.ensures.devices;
        armed = c.note.ensures.tamper;
        records = search rules;
        moved = omega (arith, moved, c.note.ensures.moved.room);
        labelled = omega (arith, labelled, c.note.ensures.labels.room);
        count = search rules;
      };
    }
