use Rattle.std.proofs.Common.{◌∙◌, ap, length, rules}
use Rattle.rig_api.specs.Target.{target_answer}
use Rattle.target_model.specs.Served.{unit_in}
use Rattle.image_rig.specs.Heads.{head_in}
use Rattle.image_rig.specs.Places.{logical_of}
use Rattle.image_rig.proofs.Devices.{calm, head_after, is_open, is_sized, is_unit, some_blocks, told_by}
use Rattle.image_rig.proofs.calls.ImageRigRig.exchange.Goals as goal
use Rattle.rig_api.proofs.RoomLaws.{room_for}

pub logical-unit-requires-clause-layout : goal.logical-unit-requires-clause-layout
logical-unit-requires-clause-layout g c = let o = is_open c.args.self.now.units.items (head_in c.args.self.now.head) (g.S.Store.state c.args.self.now.store).length c.args.dev c.requires.device c.args.self.now.right c.args.self.now.devices c.args.self.now.held in rw c.deref.ensures.0 o.layout

pub serve_command-outcome-requires-clause-some : goal.serve_command-outcome-requires-clause-some
serve_command-outcome-requires-clause-some g c = let o = is_open c.args.self.now.units.items (head_in c.args.self.now.head) (g.S.Store.state c.args.self.now.store).length c.args.dev c.requires.device c.args.self.now.right c.args.self.now.devices c.args.self.now.held in rw (c.logical-unit.ensures ∙ ap (λ v. logical_of v c.args.dev) c.deref.ensures.0) (some_blocks c.args.self.now.units.items c.args.dev o.layout c.requires.device)

pub serve_command-outcome-requires-clause-unit : goal.serve_command-outcome-requires-clause-unit
serve_command-outcome-requires-clause-unit g c = let o = is_open c.args.self.now.units.items (head_in c.args.self.now.head) (g.S.Store.state c.args.self.now.store).length c.args.dev c.requires.device c.args.self.now.right c.args.self.now.devices c.args.self.now.held in rw (c.logical-unit.ensures ∙ ap (λ v. logical_of v c.args.dev) c.deref.ensures.0) (is_unit c.args.self.now.units.items (head_in c.args.self.now.head) (g.S.Store.state c.args.self.now.store).length c.args.dev o c.requires.device)

pub note-requires-clause-size : goal.note-requires-clause-size
note-requires-clause-size g c =
    let o = is_open c.args.self.now.units.items (head_in c.args.self.now.head) (g.S.Store.state c.args.self.now.store).length c.args.dev c.requires.device c.args.self.now.right c.args.self.now.devices c.args.self.now.held in
    let z = is_sized c.args.self.now.units.items (head_in c.args.self.now.head) c.logical-unit.result (g.S.Store.state c.args.self.now.store).length c.args.dev o c.requires.device (c.logical-unit.ensures ∙ ap (λ v. logical_of v c.args.dev) c.deref.ensures.0) in
    z.small

pub note-requires-clause-room : goal.note-requires-clause-room
note-requires-clause-room g c =
    let o = is_open c.args.self.now.units.items (head_in c.args.self.now.head) (g.S.Store.state c.args.self.now.store).length c.args.dev c.requires.device c.args.self.now.right c.args.self.now.devices c.args.self.now.held in
    let z = is_sized c.args.self.now.units.items (head_in c.args.self.now.head) c.logical-unit.result (g.S.Store.state c.args.self.now.store).length c.args.dev o c.requires.device (c.logical-unit.ensures ∙ ap (λ v. logical_of v c.args.dev) c.deref.ensures.0) in
    room_for _ _ _ _ _ z.least c.requires.room

pub invariant_of-self-clause-told : goal.invariant_of-self-clause-told
invariant_of-self-clause-told g c = λ some.
    head_after c.args.self.now.units.items (head_in c.args.self.now.head) c.logical-unit.result (λ bytes. target_answer (unit_in c.logical-unit.result bytes) c.args.self.now.tamper c.args.cdb.now c.args.labels.now c.args.out.now (length c.args.into.now)) (g.S.Store.state c.args.self.now.store).bytes (g.S.Store.state c.serve_command-outcome.new.store).bytes c.args.dev _ _ _ _ _
    (c.logical-unit.ensures ∙ ap (λ v. logical_of v c.args.dev) c.deref.ensures.0) c.serve_command-outcome.ensures.stays.tells (c.serve_command-outcome.ensures.told c.args.cdb.now c.decode-command.ensures.value) (c.args.self.now.told some)

pub returns : goal.returns
returns g c =
    let o = is_open c.args.self.now.units.items (head_in c.args.self.now.head) (g.S.Store.state c.args.self.now.store).length c.args.dev c.requires.device c.args.self.now.right c.args.self.now.devices c.args.self.now.held in
    let unit = c.logical-unit.ensures ∙ ap (λ v. logical_of v c.args.dev) c.deref.ensures.0 in
    let z = is_sized c.args.self.now.units.items (head_in c.args.self.now.head) c.logical-unit.result (g.S.Store.state c.args.self.now.store).length c.args.dev o c.requires.device unit in
    record {
      exchanged = record {
        recorded = rw z.own c.note.ensures.recorded;
        calm = λ us e quiet.
            calm us c.args.dev _ _ _ _ _ _ _ _ _ _ _ quiet
            (told_by c.args.self.now.units.items (head_in c.args.self.now.head) c.logical-unit.result (g.S.Store.state c.args.self.now.store).bytes (g.S.Store.state c.serve_command-outcome.new.store).bytes c.args.dev _ _ _ _ _ _ _ _ _ _ us c.requires.device o.named unit e (c.serve_command-outcome.ensures.told c.args.cdb.now c.decode-command.ensures.value));
        stopped = λ us e.
            told_by c.args.self.now.units.items (head_in c.args.self.now.head) c.logical-unit.result (g.S.Store.state c.args.self.now.store).bytes (g.S.Store.state c.serve_command-outcome.new.store).bytes c.args.dev _ _ _ _ _ _ _ _ _ _ us c.requires.device o.named unit e (c.serve_command-outcome.ensures.told c.args.cdb.now c.decode-command.ensures.value);
        medium = search rules;
        key = search rules;
        tells = search rules;
        standing = search rules;
        armed = search rules;
        records = search rules;
        moved = rw z.own c.note.ensures.moved;
        labelled = search rules;
        count = search rules;
      };
    }
