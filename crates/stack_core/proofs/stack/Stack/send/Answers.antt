use Rattle.std.proofs.Common.{◌≡◌, List, ap, map, refl, subst, sym, ◌∙◌, arith}
use Rattle.std.specs.Prelude.{is_some}
use Rattle.record_laws.proofs.Going.{puts_nothing}
use Rattle.fault_schedule.specs.declared.fault.FaultLine.{FaultLine}
use Rattle.stack_core.specs.Mediums.{HasCounted}
use Rattle.dix_adapter.proofs.Landing.{group-bytes}
use Rattle.dix_adapter.proofs.Units.{unit-stands}
use Rattle.page_pool.specs.Cells.{flat}
use Rattle.dix_adapter.specs.Carried.{any_bad, sends}
use Rattle.dix_adapter.specs.Groups.{blocks_in, first_of, size}
use Rattle.record_laws.specs.Answered.{Answers}
use Rattle.stack_core.specs.Stacks.{StackStays, plan_in}
use Rattle.stack_core.proofs.Answering.{fetched_puts, sent_puts}
use Rattle.stack_core.proofs.Goes.{either-way, goes-as-before}
use Rattle.stack_core.proofs.Keeps.{is-stack}
use Rattle.stack_core.proofs.Sending.{same-size, settles-of}
use Rattle.stack_core.proofs.StackSends.{carried_by}
use Rattle.stack_core.proofs.StackCounts.{sent_counts}
use Rattle.stack_core.proofs.Stepping.{reaches-on}
use Rattle.stack_core.proofs.Sent.{can-carry, holds-group, holds-still, sending, sent-works, spare-sent}
use Rattle.stack_core.specs.declared.stack.Stack.{Stack}
use Rattle.stack_core.specs.Walking.{Walks, WalksFalling, WalksTold}
use Rattle.stack_core.proofs.WalkedRecord.{size_is, walk_sends}
use Rattle.stack_core.proofs.WalkedTold.{told_sends}
use Rattle.stack_core.proofs.Mediums.{spoiled_by}
use Rattle.stack_core.proofs.stack.Stack.send.Goals as goal
use Rattle.rig_api.specs.State.{RigState}

pub take-requires : goal.take-requires
take-requires g c = (plan_in c.args.self.now.sheet, (c.requires.stands.stack.lists.group_room, c.requires.ready))

pub carry-requires : goal.carry-requires
carry-requires g c =
    let k = can-carry c.args.self.now c.args.d c.args.i c.take.new.group.items c.take.new.self (is_some (g.R.Rig.state c.args.rig.now).image) (g.R.Rig.state c.args.rig.now).standing (g.R.Rig.state c.args.rig.now).room c.requires.stands.stack c.requires.stands.spare c.requires.stands.reaches c.requires.ready (c.take.ensures.takes (plan_in c.args.self.now.sheet)) in
    rw (c.ios.ensures, c.deref.ensures.value) (record {
      can = record {
        protect = c.requires.stands.stack.fixed.protect;
        bytes = k.bytes;
        group = k.fits;
        scratch = holds-group _ _ k.bytes _ _ c.args.self.now.sheet.limits.max_blocks c.args.self.now.scratch k.fits k.most c.requires.stands.stack.lists.scratch_room;
        fates = (let f = k.few in let r = c.requires.stands.stack.lists.fates_room in omega arith);
        device = k.device;
        spare = k.spare;
      };
    })

pub fly-requires : goal.fly-requires
fly-requires g c =
    let s = settles-of c.take.new.group.items c.carry.new.fates.items (c.carry.ensures.settled.count ∙ ap size c.deref.ensures.value) c.carry.ensures.settled.settles in
    (plan_in c.args.self.now.sheet, (c.args.self.now.sheet.right.fine, rw (c.deref-2.ensures.value, c.deref-3.ensures.value) (sending (plan_in c.args.self.now.sheet) c.args.self.now.machine c.take.new.self c.args.d c.args.i c.take.new.group.items c.carry.new.fates.items c.requires.ready (c.take.ensures.takes (plan_in c.args.self.now.sheet)) s)))

pub returns-clause-stands : goal.returns-clause-stands
returns-clause-stands g c =
    let o = g.R.Rig.state c.args.rig.now in
    let o' = g.R.Rig.state c.carry.new.rig in
    let s = settles-of c.take.new.group.items c.carry.new.fates.items (c.carry.ensures.settled.count ∙ ap size c.deref.ensures.value) c.carry.ensures.settled.settles in
    let flies = rw (c.deref-2.ensures.value, c.deref-3.ensures.value) at (c.fly.ensures (plan_in c.args.self.now.sheet) c.args.self.now.sheet.right.fine) in
    record {
      stack = is-stack c.args.self.now _ c.requires.stands.stack (record {
        sheet = refl;
        adapter = refl;
        works = sent-works (plan_in c.args.self.now.sheet) c.args.self.now.machine c.take.new.self c.fly.new.self c.args.d c.args.i c.take.new.group.items c.carry.new.fates.items c.requires.ready (c.take.ensures.takes (plan_in c.args.self.now.sheet)) s flies;
        pages = c.carry.ensures.pages;
        rooms = c.requires.stands.stack.rooms;
        kept = c.requires.stands.stack.kept;
        replies = refl;
        group = c.take.ensures.capacity;
        fates = c.carry.ensures.capacity;
        scratch = holds-still c.args.self.now.sheet.ios.items c.args.self.now.sheet.limits.max_blocks c.args.self.now.scratch c.carry.new.scratch c.carry.ensures.scratch.room c.requires.stands.stack.lists.scratch_room;
      });
      reaches = reaches-on c.args.self.now _ o o' refl c.carry.ensures.stays.standing c.carry.ensures.stays.tells c.requires.stands.reaches;
      spare = spare-sent c.args.self.now _ c.take.new.self c.args.d c.args.i c.take.new.group.items c.carry.new.fates.items o.standing o'.standing o.room o'.room
          c.requires.stands.spare c.requires.ready (c.take.ensures.takes (plan_in c.args.self.now.sheet)) s flies c.carry.ensures.spent refl c.carry.ensures.stays.standing;
    }

pub returns-clause-stays : goal.returns-clause-stays
returns-clause-stays g c = record { sheet = refl; adapter = refl; host = refl }

pub returns-clause-goes : goal.returns-clause-goes
returns-clause-goes g c =
    either-way _ _ _
    (λ w b. (let e = (c.carry.ensures.unsent w b).1 in
    goes-as-before (g.R.Rig.state c.args.rig.now) (g.R.Rig.state c.carry.new.rig)
    c.carry.ensures.stays.standing (ap (λ (s : RigState). s.log) (ap g.R.Rig.state e)) (let k = ap (λ (s : RigState). s.faults) (ap g.R.Rig.state e) in omega (arith, k))))
    (λ w b. (let x = (c.carry.ensures.carried_out w b).sent.exchanged in record { standing = c.carry.ensures.stays.standing; more = _; records = x.recorded; faults = x.count }))
    (λ r. (let x = (c.carry.ensures.carried_in r).fetched.exchanged in record { standing = c.carry.ensures.stays.standing; more = _; records = x.recorded; faults = x.count }))

pub returns-clause-carries : goal.returns-clause-carries
returns-clause-carries g c =
    let s = c.args.self.now in
    let a = c.args.rig.now in
    let b = c.carry.new.rig in
    let old : RigState = g.R.Rig.state a in
    let new : RigState = g.R.Rig.state b in
    let k = can-carry s c.args.d c.args.i c.take.new.group.items c.take.new.self (is_some (g.R.Rig.state a).image) (g.R.Rig.state a).standing (g.R.Rig.state a).room c.requires.stands.stack c.requires.stands.spare c.requires.stands.reaches c.requires.ready (c.take.ensures.takes (plan_in c.args.self.now.sheet)) in
    let long = c.carry.ensures.settled.count ∙ ap size c.deref.ensures.value in
    let settles = settles-of c.take.new.group.items c.carry.new.fates.items long c.carry.ensures.settled.settles in
    let unsent = rw (c.ios.ensures, c.deref.ensures.value) at c.carry.ensures.unsent in
    let out = rw (c.ios.ensures, c.deref.ensures.value) at c.carry.ensures.carried_out in
    let back = rw (c.ios.ensures, c.deref.ensures.value) at c.carry.ensures.carried_in in
    carried_by (plan_in s.sheet) s.machine c.args.d c.args.i c.fly.new.self c.take.new.self c.take.new.group.items c.carry.new.fates.items (c.take.ensures.takes (plan_in c.args.self.now.sheet)) (rw (c.deref-2.ensures.value, c.deref-3.ensures.value) at (c.fly.ensures (plan_in c.args.self.now.sheet) c.args.self.now.sheet.right.fine)) settles
    s.adapter s.sheet.ios.items s.pool c.carry.new.pool old new k.on (long ∙ same-size c.take.new.group.items) k.some k.of_plan
    (λ e q. ((unsent e q).0, ap (λ (s : RigState). s.log) (ap g.R.Rig.state (unsent e q).1))) (λ e q. (out e q).sent) (λ e. (back e).fetched)

pub returns-clause-spoils : goal.returns-clause-spoils
returns-clause-spoils g c =
    let s = c.args.self.now in
    let a = c.args.rig.now in
    let b = c.carry.new.rig in
    let old : RigState = g.R.Rig.state a in
    let new : RigState = g.R.Rig.state b in
    let settles = settles-of c.take.new.group.items c.carry.new.fates.items (c.carry.ensures.settled.count ∙ ap size c.deref.ensures.value) c.carry.ensures.settled.settles in
    let unsent = rw (c.ios.ensures, c.deref.ensures.value) at c.carry.ensures.unsent in
    let out = rw (c.ios.ensures, c.deref.ensures.value) at c.carry.ensures.carried_out in
    let back = rw (c.ios.ensures, c.deref.ensures.value) at c.carry.ensures.carried_in in
    spoiled_by (plan_in s.sheet) s.machine c.args.d c.args.i c.fly.new.self c.take.new.self c.take.new.group.items c.carry.new.fates.items (c.take.ensures.takes (plan_in c.args.self.now.sheet)) (rw (c.deref-2.ensures.value, c.deref-3.ensures.value) at (c.fly.ensures (plan_in c.args.self.now.sheet) c.args.self.now.sheet.right.fine)) settles
    s.adapter s.sheet.ios.items s.pool c.carry.new.pool old new
    (λ e q. ((unsent e q).0, ap (λ (s : RigState). s.faults) (ap g.R.Rig.state (unsent e q).1))) (λ e q. (out e q).sent) (λ e. (back e).fetched)

pub returns-clause-went : goal.returns-clause-went
returns-clause-went g c = λ ch.
    (let s = c.args.self.now in
    let a = c.args.rig.now in
    let old : RigState = g.R.Rig.state a in
    let new : RigState = g.R.Rig.state c.carry.new.rig in
    let after : Stack = record s { machine = c.fly.new.self; pool = c.carry.new.pool; scratch = c.carry.new.scratch; group = c.take.new.group; fates = c.carry.new.fates } in
    let stays : StackStays s after = record { sheet = refl; adapter = refl; host = refl } in
    let settles = settles-of c.take.new.group.items c.carry.new.fates.items (c.carry.ensures.settled.count ∙ ap size c.deref.ensures.value) c.carry.ensures.settled.settles in
    let flies = rw (c.deref-2.ensures.value, c.deref-3.ensures.value) at (c.fly.ensures (plan_in c.args.self.now.sheet) c.args.self.now.sheet.right.fine) in
    let unsent = rw (c.ios.ensures, c.deref.ensures.value) at c.carry.ensures.unsent in
    let out = rw (c.ios.ensures, c.deref.ensures.value) at c.carry.ensures.carried_out in
    let back = rw (c.ios.ensures, c.deref.ensures.value) at c.carry.ensures.carried_in in
    record {
      walks = λ m n opening first w.
          subst (λ st. Walks m n opening first after st new.log) (sym c.carry.ensures.stays.standing)
          (walk_sends m n opening first s old.standing old.log c.requires.stands.stack w after c.args.d c.args.i c.take.new.group.items c.carry.new.fates.items c.take.new.self stays ch (c.take.ensures.takes (plan_in c.args.self.now.sheet)) flies settles refl
          old new refl (λ e q. ((unsent e q).0, ap (λ (s : RigState). s.log) (ap g.R.Rig.state (unsent e q).1))) (λ e q. (out e q).sent.pool_is) (λ e. (back e).fetched.whole) (λ k e q. (out e q).recorded k) (λ k e. (back e).recorded k));
      falling = λ m n opening first w.
          subst (λ st. WalksFalling m n opening first after new.units new.armed st new.log) (sym c.carry.ensures.stays.standing) (
            w.0,
            (told_sends m n opening first s old.units old.armed old.standing old.log c.requires.stands.stack w.1 after c.args.d c.args.i c.take.new.group.items c.carry.new.fates.items c.take.new.self stays ch (c.take.ensures.takes (plan_in c.args.self.now.sheet)) flies settles refl
                old new old.image refl refl refl c.carry.ensures.stays.armed tt (g.met.R.Rig.laid a) (g.met.R.Rig.ready a) c.requires.stands.reaches.devices
                (λ e q. ((unsent e q).0, (ap (λ (s : RigState). s.log) (ap g.R.Rig.state (unsent e q).1), ap (λ (s : RigState). s.units) (ap g.R.Rig.state (unsent e q).1)))) (λ e q. (out e q).sent.pool_is) (λ e. (back e).fetched.whole) (λ k e q. (out e q).recorded k) (λ k e. (back e).recorded k) (λ us u k e q. (out e q).went us u k) (λ us u k e. (back e).came us u k)),
          );
      told = λ m n opening first calm w.
          subst (λ st. WalksTold m n opening first after new.units new.armed st new.log) (sym c.carry.ensures.stays.standing)
          (told_sends m n opening first s old.units old.armed old.standing old.log c.requires.stands.stack w after c.args.d c.args.i c.take.new.group.items c.carry.new.fates.items c.take.new.self stays ch (c.take.ensures.takes (plan_in c.args.self.now.sheet)) flies settles refl
          old new old.image refl refl refl c.carry.ensures.stays.armed calm (g.met.R.Rig.laid a) (g.met.R.Rig.ready a) c.requires.stands.reaches.devices
          (λ e q. ((unsent e q).0, (ap (λ (s : RigState). s.log) (ap g.R.Rig.state (unsent e q).1), ap (λ (s : RigState). s.units) (ap g.R.Rig.state (unsent e q).1)))) (λ e q. (out e q).sent.pool_is) (λ e. (back e).fetched.whole) (λ k e q. (out e q).recorded k) (λ k e. (back e).recorded k) (λ us u k e q. (out e q).went us u k) (λ us u k e. (back e).came us u k));
      silent = λ calm z. z;
      faults = c.carry.ensures.stays.count;
      counts = λ first h. subst (λ (armed : List FaultLine). HasCounted armed first after new.faults) (sym c.carry.ensures.stays.armed) (sent_counts s after old.armed ch.0 c.args.d c.args.i old.faults new.faults stays ch.1 ch.2 (returns-clause-spoils g c) refl refl first h);
      sheet = refl;
      answered = λ m n opening first w none us told armed calm.
          (let s = c.args.self.now in
          let a = c.args.rig.now in
          let b = c.carry.new.rig in
          let old : RigState = g.R.Rig.state a in
          let new : RigState = g.R.Rig.state b in
          let req = c.take.new.group.items in
          let ios = s.sheet.ios.items in
          let after : Stack = record s { machine = c.fly.new.self; pool = c.carry.new.pool; scratch = c.carry.new.scratch; group = c.take.new.group; fates = c.carry.new.fates } in
          let settles = settles-of req c.carry.new.fates.items (c.carry.ensures.settled.count ∙ ap size c.deref.ensures.value) c.carry.ensures.settled.settles in
          let flies = rw (c.deref-2.ensures.value, c.deref-3.ensures.value) at (c.fly.ensures (plan_in c.args.self.now.sheet) c.args.self.now.sheet.right.fine) in
          let k = can-carry s c.args.d c.args.i req c.take.new.self (is_some old.image) old.standing old.room c.requires.stands.stack c.requires.stands.spare c.requires.stands.reaches c.requires.ready (c.take.ensures.takes (plan_in c.args.self.now.sheet)) in
          let known = size_is m n opening first s old.standing old.log c.requires.stands.stack w after c.args.d c.args.i req c.carry.new.fates.items c.take.new.self (record { sheet = refl; adapter = refl; host = refl }) ch (c.take.ensures.takes (plan_in c.args.self.now.sheet)) flies settles refl ∙ group-bytes s.adapter s.pool k.bytes ios req k.fits in
          let stands = unit-stands old.standing old.image us (first_of req).dev (sym (g.met.R.Rig.laid a) ∙ told) (g.met.R.Rig.ready a) k.device in
          let unsent = rw (c.ios.ensures, c.deref.ensures.value) at c.carry.ensures.unsent in
          let out = rw (c.ios.ensures, c.deref.ensures.value) at c.carry.ensures.carried_out in
          let back = rw (c.ios.ensures, c.deref.ensures.value) at c.carry.ensures.carried_in in
          either-way (Answers us old new × (new.standing ≡ old.standing) × (new.armed ≡ old.armed)) (first_of req).dir (any_bad (map (sends s.adapter ios (flat s.pool)) (blocks_in req)))
          (λ d q. (let e = ap g.R.Rig.state (unsent d q).1 in puts_nothing old new (ap (λ (s : RigState). s.log) e) (ap (λ (s : RigState). s.standing) e) (ap (λ (s : RigState). s.armed) e) (ap (λ (s : RigState). s.units) e) us told armed calm))
          (λ d q. (sent_puts s.adapter ios req s.pool c.carry.new.pool k.bytes us c.carry.new.fates.items old new c.requires.stands.stack.fixed.protect k.fits known stands told armed calm d q (out d q).sent, c.carry.ensures.stays.standing, c.carry.ensures.stays.armed))
          (λ d. (fetched_puts s.adapter ios req s.pool c.carry.new.pool k.bytes us c.carry.new.fates.items old new c.requires.stands.stack.fixed.protect k.fits known stands told armed calm d (back d).fetched, c.carry.ensures.stays.standing, c.carry.ensures.stays.armed)));
    })

pub returns-clause-settles : goal.returns-clause-settles
returns-clause-settles g c = record { kept = refl; replies = refl }

pub returns-clause-rig : goal.returns-clause-rig
returns-clause-rig g c = c.carry.ensures.stays
