-- A stack that follows the walk of its script over a rig that tells its blocks does so after a group is sent: each block went its way over the target, up to one whose store call failed.
use Rattle.std.proofs.Common.{◌≡◌, ◌<◌, ◌≤◌, ℕ, zero, suc, ◌+◌, ◌-◌, Bool, true, false, List, [], ◌∷◌, ◌++◌, length, get_or, map, drop, Option, Some, None, refl, sym, ap, subst, ◌∙◌, arith, ⊎_elim}
use Rattle.std.specs.Prelude.{ℤ, pos, ◌+ℤ◌, IfOk, IfSome, Result, Ok, Err}
use Rattle.std.specs.List.{All}
use Rattle.std.proofs.Math.IntN.{+ℤ_assoc}
use Rattle.std.proofs.lemmas.Bool.{cases_Bool, cases_eq, cases_lt, false≢true}
use Rattle.std.proofs.lemmas.List.{get_or_past, length-append}
use Rattle.std.proofs.lemmas.List.Elements.{All-cons, All-head, All-nil, All-tail}
use Rattle.dix_base.specs.Told.{Calm}
use Rattle.page_pool.specs.Cells.{flat}
use Rattle.page_pool.specs.Pages.{AreWhole}
use Rattle.bio_core.specs.Bios.{Block, block_size}
use Rattle.bio_core.specs.declared.bio.Bio.{Bio}
use Rattle.bio_core.specs.declared.fate.Fate.{Fate}
use Rattle.bio_core.specs.declared.request.Dir.{Dir}
use Rattle.bio_core.specs.declared.request.Dir.TheVariants.{Read, Write as WriteDir}
use Rattle.bio_core.specs.declared.request.Io.{Io}
use Rattle.fault_schedule.specs.Altered.{fails_of, shift_of}
use Rattle.fault_schedule.specs.declared.fault.Crossing.{Crossing}
use Rattle.fault_schedule.specs.declared.fault.Crossing.TheVariants.{AdapterToTarget, MediumToTarget, TargetToMedium}
use Rattle.fault_schedule.specs.declared.fault.FaultLine.{FaultLine}
use Rattle.pi_tuple.specs.declared.checks.Check.{Check}
use Rattle.rig_api.specs.Frames.{stored_size}
use Rattle.rig_api.specs.Passing.{from_medium}
use Rattle.rig_api.specs.Target.{Flaw, Stop, Stored, has_blocks, sent_unless}
use Rattle.dix_adapter.specs.Carried.{Unsent, any_bad, frame_len, sends}
use Rattle.dix_adapter.specs.Groups as Carry
use Rattle.dix_adapter.specs.Groups.{blocks_in, first_of, route_of}
use Rattle.dix_adapter.specs.Ways.{CameIn, IsBehind, IsRecord, RecordedIn, RecordedOut, UpTo, WentOut, blocks_told, shapes_of, site_of}
use Rattle.dix_adapter.proofs.Asking.{is-pos}
use Rattle.dix_adapter.proofs.Blocks.{length-in}
use Rattle.dix_adapter.proofs.CameIn.{fetched-block}
use Rattle.dix_adapter.proofs.Flaws.{by_flaw, sends-by}
use Rattle.dix_adapter.proofs.GoingIn.{long-at, sent-long-in}
use Rattle.dix_adapter.proofs.Landing.{group-width}
use Rattle.dix_adapter.proofs.Runs.{Next, Run, group-run, width_for}
use Rattle.dix_adapter.proofs.Units.{Stands as UnitStands, unit-stands}
use Rattle.stack_walk_laws.proofs.Puts.{InTurn, bios_turn}
use Rattle.range_gate.specs.Gates.{has_ended}
use Rattle.rig_api.specs.Log.{LogEntry}
use Rattle.rig_api.specs.Telling.{HasCause, IsStanding, Standing, frame_size, spec_at, specs_of, unit_at, units_told}
use Rattle.rig_api.specs.State.{RigState}
use Rattle.merge_queue.specs.Groups.{size}
use Rattle.stack_ops.specs.declared.op.Op.{Op}
use Rattle.stack_laws.specs.Blocks.{blocks, place_of, times}
use Rattle.stack_laws.specs.Formed.{Named}
use Rattle.stack_laws.specs.Plan.{Plan, no_request, request_at}
use Rattle.stack_laws.specs.Sound.{HasBlocks, Settles}
use Rattle.stack_laws.specs.View.{View, group_at, op_at, queue_at}
use Rattle.stack_laws.proofs.Enabled.{all-at}
use Rattle.stack_steps.specs.declared.choice.Choice.TheVariants.{Send}
use Rattle.stack_steps.specs.declared.machine.Machine.{Machine}
use Rattle.stack_steps.specs.Does.{Flies, Takes}
use Rattle.block_path.specs.Acts.{State}
use Rattle.block_path.specs.Blocks.{Sent, Site, fetched_cell}
use Rattle.block_path.specs.declared.route.Route.{Route}
use Rattle.block_path.specs.Routes.{by_target, passage, sends_unless}
use Rattle.stack_walk_laws.specs.Passed.{is_shifted, fates_of, recorded, Setting, block_of, route}
use Rattle.stack_walk_laws.specs.Sending.{AllGoing, AllSized, NoneBefore, with_fates}
use Rattle.stack_walk_laws.specs.Slots.{Status}
use Rattle.stack_walk_laws.proofs.Recording.{none_in, none_out}
use Rattle.stack_ops.specs.Ops.{first_virt}
use Rattle.stack_walk_laws.specs.Units.{AreAtUnits, IsAtUnit}
use Rattle.stack_walk_laws.proofs.WalksStanding.{IsOut}
use Rattle.stack_core.specs.Courses.{Course, Falling, FollowsBy, Straight}
use Rattle.stack_core.specs.declared.sheet.Sheet.{Sheet}
use Rattle.stack_core.specs.declared.stack.Stack.{Stack}
use Rattle.stack_walk_laws.specs.Sheets.{io_at, op_in}
use Rattle.stack_core.specs.Stacks.{IsStack, StackStays, plan_in}
use Rattle.stack_core.specs.Walking.{IsChosen, WalksAtTarget, WalksBy, data_of, status_of}
use Rattle.stack_core.proofs.AtUnits.{EachIn, both_still, fewer_behind, first_block, io_count, io_first, range_in, still}
use Rattle.stack_core.proofs.Context.{adapts, over_stays, places, stands}
use Rattle.stack_core.proofs.Courses.{StopsBy, in_by, out_by}
use Rattle.stack_walk_laws.proofs.Facts.{place-is}
use Rattle.stack_core.proofs.FollowsGroup.{AllLie, Lies}
use Rattle.stack_core.proofs.FollowsSend.{all_going, group_lies, ids, out_is, spots_of}
use Rattle.stack_core.proofs.Walked.{sound, stand}
use Rattle.stack_core.proofs.WalkedFar.{fits, formed, goes_on, group_is, head_on, head_there, named, once, place, size_known, some, walk_held}

-- where no store call fails the count of faults stays
abbrev pub CalmBy : Course → (faults faults' : ℕ) → Type 0
CalmBy Straight faults faults' = Calm faults faults'
CalmBy (Falling flips) faults faults' = Unit {0}

stop_left : (stop : Option Stop) (frame faults faults' : ℕ) → HasCause stop frame faults faults' → IfSome stop (λ s. length s.left ≡ frame)
stop_left None frame faults faults' h = tt
stop_left (Some s) frame faults faults' h = h.1

up_to : (course : Course) (faults faults' frame : ℕ) (P : Option Stop → Type 0) → CalmBy course faults faults' → UpTo P frame faults faults' → (stop : Option Stop) × (StopsBy course frame stop × P stop)
up_to Straight faults faults' frame P calm h = (None, (refl, h.0 calm))
up_to (Falling flips) faults faults' frame P calm h = (h.1.0, (stop_left h.1.0 frame faults faults' h.1.1, h.1.2))

-- the same of what the target says
by_flaw_ok : (x : Result (List ℕ) Flaw) (P : List ℕ → Type 0) → IfOk x P → IfOk (by_flaw x) P
by_flaw_ok (Ok frame) P h = h
by_flaw_ok (Err flaw) P h = tt

sends_ok : (broken : Bool) (came : Result (List ℕ) Check) (P : List ℕ → Type 0) → IfOk (sent_unless broken came) P → IfOk (sends_unless broken (by_target came)) P
sends_ok broken came P h = subst (λ x. IfOk x P) (sym (sends-by broken came)) (by_flaw_ok (sent_unless broken came) P h)

-- the other op is shifted as this one
abbrev ShiftedAlike : List FaultLine → (op other : ℕ) → Type 0
ShiftedAlike faults op other =
    (shift_of faults AdapterToTarget other ≡ shift_of faults AdapterToTarget op)
    × (shift_of faults MediumToTarget other ≡ shift_of faults MediumToTarget op)
    × (shift_of faults TargetToMedium other ≡ shift_of faults TargetToMedium op)

module _ {course : Course} (m : Setting) (n : ℕ) (opening : State) (first : ℕ) (s : Stack) (units : Option (List Stored)) (armed : List FaultLine) (st : Standing) (log : List LogEntry) (k : IsStack s) (w : WalksAtTarget course m n opening first s units armed st log) where
  abbrev records : List Sent
  records = recorded m (drop first log)

  abbrev told_blocks : List (List ℕ)
  told_blocks = blocks_told w.us

  abbrev view : View
  view = w.walks.view

  abbrev design : Plan
  design = plan_in s.sheet

  abbrev ios : List Io
  ios = s.sheet.ios.items

  abbrev ops : List Op
  ops = s.sheet.ops

  -- the same over the same records and the same units
  pub told_stay : (s' : Stack) → StackStays s s' → (units' : Option (List Stored)) (us' : List Stored) (armed' : List FaultLine) (log' : List LogEntry) → first ≤ length log' → units' ≡ Some us' → armed' ≡ armed → WalksBy course m n opening (recorded m (drop first log')) (blocks_told us') s' → WalksAtTarget course m n opening first s' units' armed' st log'
  told_stay s' stays units' us' armed' log' l e a walks = record {
    over = over_stays m n opening s s' stays w.over;
    sizes = w.sizes;
    site = w.site ∙ ap (λ x. site_of x (specs_of st)) (sym stays.adapter);
    behind = subst (λ (x : Sheet). AreAtUnits m (specs_of st) x.ops) (sym stays.sheet) w.behind;
    armed_are = a ∙ (w.armed_are ∙ ap (λ x. x.tamper) (sym stays.adapter));
    recorded_from = l;
    us = us';
    told_are = e;
    walks = walks;
  }

  module _ (s' : Stack) (d i : ℕ) (group : List Bio) (fates : List Fate) (between : Machine) (stays : StackStays s s') (ch : IsChosen s (Send d i)) (takes : Takes design s.machine d i group between) (flies : Flies design between d group fates s'.machine) (settles : Settles group fates)
      (same : data_of s' ≡ record (data_of s) { pool = s'.pool }) where
    abbrev g : List Bio
    g = group_at view d i

    abbrev bs : List Block
    bs = blocks_in g

    abbrev status : ℕ → ℕ → Status
    status = status_of design (data_of s) view

    is_group : group ≡ g
    is_group = group_is m n opening records told_blocks s k w.over w.walks s' d i group fates between stays ch takes flies settles same

    names : All (Named design d) g
    names = (named m n opening records told_blocks s k w.over w.walks s' d i group fates between stays ch takes flies settles same).named

    here : i < length (queue_at view d)
    here = place m n opening records told_blocks s k w.over w.walks s' d i group fates between stays ch takes flies settles same

    fit : Carry.IsCarriedGroup s.adapter s.pool m.size ios g
    fit = fits m n opening records told_blocks s k w.over w.walks s' d i group fates between stays ch takes flies settles same

    has_some : HasBlocks g
    has_some = some m n opening records told_blocks s k w.over w.walks s' d i group fates between stays ch takes flies settles same

    going : AllGoing m n ops s.adapter ios (length opening.logs) status bs (spots_of m ops bs)
    going = all_going m n opening design ops ios (data_of s) view (stands m n opening s k w.over) (sound m n opening records told_blocks s k w.over w.walks) (formed m n opening records told_blocks s k w.over w.walks) (places m n opening s k w.over) s.adapter (adapts m n opening s k w.over) d i here
        (named m n opening records told_blocks s k w.over w.walks s' d i group fates between stays ch takes flies settles same)
        (once m n opening records told_blocks s k w.over w.walks s' d i group fates between stays ch takes flies settles same)

    lies : AllLie m ios bs
    lies = group_lies m n opening design ops ios (data_of s) view (stands m n opening s k w.over) (sound m n opening records told_blocks s k w.over w.walks) (formed m n opening records told_blocks s k w.over w.walks) (places m n opening s k w.over) s.adapter (adapts m n opening s k w.over) d i here
        (named m n opening records told_blocks s k w.over w.walks s' d i group fates between stays ch takes flies settles same)
        (once m n opening records told_blocks s k w.over w.walks s' d i group fates between stays ch takes flies settles same)

    -- ---- its ops are shifted alike

    out_at : (b : Bio) → 1 ≤ times (place_of b.op) b.k (blocks g) → IsOut design view (place_of b.op) b.k
    out_at b h =
        (out_is m n opening design ops ios (data_of s) view (stands m n opening s k w.over) (sound m n opening records told_blocks s k w.over w.walks) (formed m n opening records told_blocks s k w.over w.walks) (places m n opening s k w.over) s.adapter (adapts m n opening s k w.over) d i here
        (named m n opening records told_blocks s k w.over w.walks s' d i group fates between stays ch takes flies settles same)
        (once m n opening records told_blocks s k w.over w.walks s' d i group fates between stays ch takes flies settles same)
        (place_of b.op) b.k
        (subst (λ x. 1 ≤ times (place_of b.op) b.k x) (sym (ids m n opening design ops ios (data_of s) view (stands m n opening s k w.over) (sound m n opening records told_blocks s k w.over w.walks) (formed m n opening records told_blocks s k w.over w.walks) (places m n opening s k w.over) s.adapter (adapts m n opening s k w.over) d i here
        (named m n opening records told_blocks s k w.over w.walks s' d i group fates between stays ch takes flies settles same)
        (once m n opening records told_blocks s k w.over w.walks s' d i group fates between stays ch takes flies settles same))) h)).0

    going_on : (j q : ℕ) → IsOut design view j q → has_ended (op_at view j).phase ≡ true → ⊥
    going_on j q o e =
        let x = sound m n opening records told_blocks s k w.over w.walks in
        let l = x.lengths j in
        let b = o.within in
        false≢true (sym o.unsettled ∙ all-at (op_at view j).settled q (x.ended j e) (omega arith))

    pair_still : (j p q r : ℕ) → j < p → IsOut design view j q → IsOut design view p r → (is_shifted m (suc j) ≡ false) × (is_shifted m (suc p) ≡ false)
    pair_still j p q r l a b =
        let x = sound m n opening records told_blocks s k w.over w.walks in
        let y = (stand m n opening records told_blocks s k w.over w.walks).plan in
        let cj = y.count j in
        let cp = y.count p in
        let aw = a.within in
        let bw = b.within in
        let many = y.many in
        let lp : p < length design.requests = requests_there design p (omega arith) in
        let vo = x.ops in
        let free : design.conflicts j p ≡ false = ⊎_elim
        (λ (t : design.conflicts j p ≡ true). absurd (going_on j q a (x.order j p l (omega arith) b.waits t)))
        (λ (f : design.conflicts j p ≡ false). f)
        (cases_Bool (design.conflicts j p)) in
        both_still m (suc j) (suc p) (op_in ops j) (op_in ops p) (omega arith) (omega arith) (y.apart j p l (omega arith) free)
      where
        requests_there : (pl : Plan) (t : ℕ) → 0 < (request_at pl t).count → t < length pl.requests
        requests_there pl t h = ⊎_elim
            (λ (u : t < length pl.requests). u)
            (λ (u : length pl.requests ≤ t). let z : (request_at pl t).count ≡ 0 = ap (λ x. x.count) (get_or_past pl.requests t no_request u) in absurd (omega arith))
            (cases_lt t (length pl.requests))

    abbrev Alike : Bio → Bio → Type 0
    Alike f b = ShiftedAlike m.site.faults f.op b.op

    two_still : (f b : Bio) → (is_shifted m b.op ≡ false) × (is_shifted m f.op ≡ false) → Alike f b
    two_still f b h = let x = still m b.op h.0 in let y = still m f.op h.1 in (x.0 ∙ sym y.0, x.1 ∙ sym y.1, x.2 ∙ sym y.2)

    pair : (f b : Bio) → 1 ≤ f.op → 1 ≤ b.op → IsOut design view (place_of f.op) f.k → IsOut design view (place_of b.op) b.k → Alike f b
    pair f b nf nb of ob =
        let zf : suc (place_of f.op) ≡ f.op = (let e = place-is f.op nf in omega arith) in
        let zb : suc (place_of b.op) ≡ b.op = (let e = place-is b.op nb in omega arith) in
        ⊎_elim
        (λ (e : place_of b.op ≡ place_of f.op). let e' : b.op ≡ f.op = sym zb ∙ (ap suc e ∙ zf) in (ap (λ x. shift_of m.site.faults AdapterToTarget x) e', ap (λ x. shift_of m.site.faults MediumToTarget x) e', ap (λ x. shift_of m.site.faults TargetToMedium x) e'))
        (λ (ne : place_of b.op ≡ place_of f.op → ⊥). ⊎_elim
        (λ (l : place_of b.op < place_of f.op). two_still f b (let x = pair_still (place_of b.op) (place_of f.op) b.k f.k l ob of in (ap (is_shifted m) (sym zb) ∙ x.0, ap (is_shifted m) (sym zf) ∙ x.1)))
        (λ (l : place_of f.op ≤ place_of b.op). two_still f b (let x = pair_still (place_of f.op) (place_of b.op) f.k b.k (omega (arith, l, ne)) of ob in (ap (is_shifted m) (sym zb) ∙ x.1, ap (is_shifted m) (sym zf) ∙ x.0)))
        (cases_lt (place_of b.op) (place_of f.op)))
        (cases_eq (place_of b.op) (place_of f.op))

    alike_from : (f : Bio) → 1 ≤ f.op → IsOut design view (place_of f.op) f.k → (cs : List Bio) → All (Named design d) cs → ((x q : ℕ) → times x q (blocks cs) ≤ times x q (blocks g)) → All (Alike f) cs
    alike_from f nf of [] h t = All-nil (Alike f)
    alike_from f nf of (b ∷ cs) h t =
        let nb = All-head (Named design d) b cs h in
        let one = first_block b cs nb.some in
        let most = t (place_of b.op) b.k in
        All-cons (Alike f) b cs (pair f b nf nb.numbered of (out_at b (omega (arith, one, most)))) (alike_from f nf of cs (All-tail (Named design d) b cs h) (λ x q. (let y = fewer_behind x q b cs in let z = t x q in omega (arith, y, z))))

    alike : All (Alike (first_of g)) g
    alike = by g has_some names (λ x q. omega arith) where
      by : (cs : List Bio) → 0 < size cs → All (Named design d) cs → ((x q : ℕ) → times x q (blocks cs) ≤ times x q (blocks g)) → All (Alike (first_of cs)) cs
      by [] l h t = absurd (omega arith)
      by (b ∷ cs) l h t =
          let nb = All-head (Named design d) b cs h in
          let one = first_block b cs nb.some in
          let most = t (place_of b.op) b.k in
          alike_from b nb.numbered (out_at b (omega (arith, one, most))) (b ∷ cs) h t

    -- ---- the unit behind it has its addresses

    abbrev dev : ℕ
    dev = (first_of g).dev

    abbrev lba : ℕ
    lba = (first_of g).lba

    abbrev wire : ℤ
    wire = shift_of s.adapter.tamper AdapterToTarget (first_of g).op

    abbrev medium : ℤ
    medium = shift_of s.adapter.tamper MediumToTarget (first_of g).op

    abbrev onto : ℤ
    onto = shift_of s.adapter.tamper TargetToMedium (first_of g).op

    armed_alike : All (λ b. ShiftedAlike s.adapter.tamper (first_of g).op b.op) g
    armed_alike = subst (λ f. All (λ b. ShiftedAlike f (first_of g).op b.op) g) w.over.faults alike

    run : Run s.adapter ios dev m.size wire medium onto lba bs
    run = group-run s.adapter s.pool m.size ios g wire medium onto fit armed_alike

    turns : InTurn (first_of g).dir dev lba bs
    turns = bios_turn s.adapter s.pool m.size ios dev (first_of g).dir lba g fit.bios fit.chain

    long : length bs ≡ size g
    long = length-in g

    -- a block where the shifts lead it
    module _ (b : Block) (x : Lies m ios b) (bytes address : ℕ) (r : Next s.adapter ios dev bytes wire medium onto address b) where
      abbrev op : Op
      op = op_in ops (b.op - 1)

      counted : b.k < fates_of op
      counted = let a = x.within in let e = ap (λ l. (io_at l (b.op - 1)).count) w.over.ios in let c = io_count m.mode.dix w.over.pages ops (b.op - 1) in omega arith

      op_there : b.op - 1 < length ops
      op_there = let a = x.there in let c = x.numbered in let e = k.fixed.ops in omega arith

      next : suc (b.op - 1) ≡ b.op
      next = let c = x.numbered in omega arith

      virt_is : first_virt op ≡ (io_at ios (b.op - 1)).first
      virt_is = sym (ap (λ l. (io_at l (b.op - 1)).first) w.over.ios ∙ io_first m.mode.dix w.over.pages ops (b.op - 1))

      abbrev way : ℕ → ℕ → Route
      way i v = route m (block_of i v b.k)

      wire_is : shift_of m.site.faults AdapterToTarget b.op ≡ wire
      wire_is = ap (λ f. shift_of f AdapterToTarget b.op) w.over.faults ∙ r.wire

      medium_is : shift_of m.site.faults MediumToTarget b.op ≡ medium
      medium_is = ap (λ f. shift_of f MediumToTarget b.op) w.over.faults ∙ r.medium

      onto_is : shift_of m.site.faults TargetToMedium b.op ≡ onto
      onto_is = ap (λ f. shift_of f TargetToMedium b.op) w.over.faults ∙ r.stored

      sent_at : IsAtUnit m (specs_of st) dev (pos b.lba +ℤ wire)
      sent_at =
          let u = w.behind.sent (b.op - 1) b.k op_there counted in
          let v = subst (λ v. IsAtUnit m (specs_of st) (way (suc (b.op - 1)) v).dev (pos (way (suc (b.op - 1)) v).lba +ℤ shift_of m.site.faults AdapterToTarget (suc (b.op - 1)))) virt_is u in
          let o = subst (λ i. IsAtUnit m (specs_of st) (way i (io_at ios (b.op - 1)).first).dev (pos (way i (io_at ios (b.op - 1)).first).lba +ℤ shift_of m.site.faults AdapterToTarget i)) next v in
          subst (λ z. IsAtUnit m (specs_of st) dev (pos b.lba +ℤ z)) wire_is
          (subst (λ l. IsAtUnit m (specs_of st) dev (pos l +ℤ shift_of m.site.faults AdapterToTarget b.op)) x.lba
          (subst (λ p. IsAtUnit m (specs_of st) p (pos (way b.op (io_at ios (b.op - 1)).first).lba +ℤ shift_of m.site.faults AdapterToTarget b.op)) (x.dev ∙ r.dev) o))

      moved_at : (at : Crossing) (by : ℤ) → shift_of m.site.faults at b.op ≡ by
          → ((i k : ℕ) → i < length ops → k < fates_of (op_in ops i)
          → let r = route m (block_of (suc i) (first_virt (op_in ops i)) k) in IsAtUnit m (specs_of st) r.dev ((pos r.lba +ℤ shift_of m.site.faults AdapterToTarget (suc i)) +ℤ shift_of m.site.faults at (suc i)))
          → IsAtUnit m (specs_of st) dev (pos b.lba +ℤ (wire +ℤ by))
      moved_at at by by_is all =
          let u = all (b.op - 1) b.k op_there counted in
          let v = subst (λ v. IsAtUnit m (specs_of st) (way (suc (b.op - 1)) v).dev ((pos (way (suc (b.op - 1)) v).lba +ℤ shift_of m.site.faults AdapterToTarget (suc (b.op - 1))) +ℤ shift_of m.site.faults at (suc (b.op - 1)))) virt_is u in
          let o = subst (λ i. IsAtUnit m (specs_of st) (way i (io_at ios (b.op - 1)).first).dev ((pos (way i (io_at ios (b.op - 1)).first).lba +ℤ shift_of m.site.faults AdapterToTarget i) +ℤ shift_of m.site.faults at i)) next v in
          subst (IsAtUnit m (specs_of st) dev) (+ℤ_assoc (pos b.lba) wire by)
          (subst (λ z. IsAtUnit m (specs_of st) dev ((pos b.lba +ℤ wire) +ℤ z)) by_is
          (subst (λ z. IsAtUnit m (specs_of st) dev ((pos b.lba +ℤ z) +ℤ shift_of m.site.faults at b.op)) wire_is
          (subst (λ l. IsAtUnit m (specs_of st) dev ((pos l +ℤ shift_of m.site.faults AdapterToTarget b.op) +ℤ shift_of m.site.faults at b.op)) x.lba
          (subst (λ p. IsAtUnit m (specs_of st) p ((pos (way b.op (io_at ios (b.op - 1)).first).lba +ℤ shift_of m.site.faults AdapterToTarget b.op) +ℤ shift_of m.site.faults at b.op)) (x.dev ∙ r.dev) o))))

      fetched_at : IsAtUnit m (specs_of st) dev (pos b.lba +ℤ (wire +ℤ medium))
      fetched_at = moved_at MediumToTarget medium medium_is w.behind.fetched

      stored_at : IsAtUnit m (specs_of st) dev (pos b.lba +ℤ (wire +ℤ onto))
      stored_at = moved_at TargetToMedium onto onto_is w.behind.stored

    each_sent : (cs : List Block) (at : ℕ) → AllLie m ios cs → Run s.adapter ios dev m.size wire medium onto at cs → EachIn (spec_at st dev) wire cs
    each_sent [] at x r = tt
    each_sent (b ∷ cs) at x r = ((sent_at b x.0 m.size at r.0).there, each_sent cs (suc at) x.1 r.1)

    -- where a shift at the medium moves each block, which lies in the unit there too
    abbrev MovedIn : ℤ → Type 0
    MovedIn by = (b : Block) (address : ℕ) → Lies m ios b → Next s.adapter ios dev m.size wire medium onto address b → IsAtUnit m (specs_of st) dev (pos b.lba +ℤ (wire +ℤ by))

    each_moved : (by : ℤ) → MovedIn by → (cs : List Block) (at : ℕ) → AllLie m ios cs → Run s.adapter ios dev m.size wire medium onto at cs → EachIn (spec_at st dev) (wire +ℤ by) cs
    each_moved by there [] at x r = tt
    each_moved by there (b ∷ cs) at x r = ((there b at x.0 r.0).there, each_moved by there cs (suc at) x.1 r.1)

    first_at : IsAtUnit m (specs_of st) dev (pos lba +ℤ wire)
    first_at = by bs lba (omega (arith, long, has_some)) lies run where
      by : (cs : List Block) (at : ℕ) → 0 < length cs → AllLie m ios cs → Run s.adapter ios dev m.size wire medium onto at cs → IsAtUnit m (specs_of st) dev (pos at +ℤ wire)
      by [] at h x r = absurd (omega arith)
      by (b ∷ cs) at h x r = subst (λ l. IsAtUnit m (specs_of st) dev (pos l +ℤ wire)) r.0.lba (sent_at b x.0 m.size at r.0)

    sent_in_unit : has_blocks (spec_at st dev) (pos lba +ℤ wire) (size g) ≡ true
    sent_in_unit = ap (λ c. has_blocks (spec_at st dev) (pos lba +ℤ wire) c) (sym long) ∙ range_in (spec_at st dev) wire (first_of g).dir dev lba bs (omega (arith, long, has_some)) turns (each_sent bs lba lies run)

    moved_in_unit : (by : ℤ) → MovedIn by → has_blocks (spec_at st dev) ((pos lba +ℤ wire) +ℤ by) (size g) ≡ true
    moved_in_unit by there =
        ap (λ p. has_blocks (spec_at st dev) p (size g)) (+ℤ_assoc (pos lba) wire by)
        ∙ (ap (λ c. has_blocks (spec_at st dev) (pos lba +ℤ (wire +ℤ by)) c) (sym long)
        ∙ range_in (spec_at st dev) (wire +ℤ by) (first_of g).dir dev lba bs (omega (arith, long, has_some)) turns (each_moved by there bs lba lies run))

    fetched_in_unit : has_blocks (spec_at st dev) ((pos lba +ℤ wire) +ℤ medium) (size g) ≡ true
    fetched_in_unit = moved_in_unit medium (λ b at x r. fetched_at b x m.size at r)

    stored_in_unit : has_blocks (spec_at st dev) ((pos lba +ℤ wire) +ℤ onto) (size g) ≡ true
    stored_in_unit = moved_in_unit onto (λ b at x r. stored_at b x m.size at r)

    head : 0 < (io_at ios ((first_of g).op - 1)).count
    head = head_there m n opening records told_blocks s k w.over w.walks s' d i group fates between stays ch takes flies settles same

    module _ (u : UnitStands st w.us dev) where
      pub is_behind : IsBehind s.adapter ios g w.us armed
      is_behind = record {
        ty = ap (λ x. x.ty) u.shape ∙ (first_at.ty ∙ w.over.ty);
        bytes = ap (λ x. x.size) u.shape ∙ (first_at.size ∙ sym (w.over.size ((first_of g).op - 1) head));
        armed = w.armed_are;
        alike = armed_alike;
        sent = ap (λ x. has_blocks x (pos lba +ℤ wire) (size g)) u.shape ∙ sent_in_unit;
        stored = λ write. ap (λ x. has_blocks x ((pos lba +ℤ wire) +ℤ onto) (size g)) u.shape ∙ stored_in_unit;
        fetched = λ read. ap (λ x. has_blocks x ((pos lba +ℤ wire) +ℤ medium) (size g)) u.shape ∙ fetched_in_unit;
      }

      site_is : m.site ≡ site_of s.adapter (shapes_of w.us)
      site_is = w.site ∙ ap (site_of s.adapter) (sym u.shapes)

      -- ---- what a read is sent has the wire's size

      sized_from : (cs : List Block) (at from q : ℕ) → pos lba +ℤ wire ≡ pos at → pos at +ℤ medium ≡ pos from → (unit_at w.us dev).first ≤ from → from + q + length cs ≤ (unit_at w.us dev).first + length (unit_at w.us dev).blocks →
          Run s.adapter ios dev m.size wire medium onto (lba + q) cs → AllSized (record m { site = site_of s.adapter (shapes_of w.us) }) s.adapter ios told_blocks (width_for s.adapter m.size) cs
      sized_from [] at from q x y f h r = tt
      sized_from (b ∷ cs) at from q x y f h r =
          let a = s.adapter in
          let e : suc (lba + q) ≡ lba + suc q = omega arith in
          let stored = get_or told_blocks (fetched_cell (site_of a (shapes_of w.us)) (route_of a ios b)) [] in
          let block = fetched-block a ios w.us dev m.size lba at from wire medium onto q b u.there f (omega (arith, h)) x y r.0 in
          let ty : (unit_at w.us dev).ty ≡ a.ty = is_behind.ty in
          let bytes : (unit_at w.us dev).size ≡ m.size = ap (λ z. z.size) u.shape ∙ first_at.size in
          let sized : length stored ≡ stored_size a.ty m.size = ap length block ∙ (long-at (stored_size (unit_at w.us dev).ty (unit_at w.us dev).size) (unit_at w.us dev).blocks (from + q - (unit_at w.us dev).first) u.long (omega (arith, f, h)) ∙ (ap (λ z. stored_size z (unit_at w.us dev).size) ty ∙ ap (stored_size a.ty) bytes)) in (
            sends_ok (fails_of a.tamper (route_of a ios b).label) (from_medium a.tamper (passage a.tamper (route_of a ios b)) stored) (λ frame. length frame ≡ width_for a m.size) (sent-long-in a ios b stored m.size k.fixed.protect r.0.long sized),
            sized_from cs at from (suc q) x y f (omega (arith, h)) (subst (λ z. Run a ios dev m.size wire medium onto z cs) e r.1),
          )

      sized : AllSized m s.adapter ios told_blocks (frame_len s.adapter ios g) bs
      sized =
          let x = is-pos (spec_at st dev) (pos lba +ℤ wire) (size g) sent_in_unit in
          let y = is-pos (spec_at st dev) ((pos lba +ℤ wire) +ℤ medium) (size g) fetched_in_unit in
          let there : pos x.0 +ℤ medium ≡ pos y.0 = ap (λ z. z +ℤ medium) (sym x.1.0) ∙ y.1.0 in
          let f = y.1.1.0 in
          let h = y.1.1.1 in
          let fu = ap (λ z. z.first) u.shape in
          let bu = ap (λ z. z.blocks) u.shape in
          let z : lba + 0 ≡ lba = omega arith in
          let all = sized_from bs x.0 y.0 0 x.1.0 there (omega (arith, f, fu)) (omega (arith, h, fu, bu, long)) (subst (λ l. Run s.adapter ios dev m.size wire medium onto l bs) (sym z) run) in
          subst (λ len. AllSized m s.adapter ios told_blocks len bs) (sym (group-width s.adapter s.pool m.size ios g fit))
          (subst (λ (x : Site). AllSized (record m { site = x }) s.adapter ios told_blocks (width_for s.adapter m.size) bs) (sym site_is) all)

      -- ---- what was sent

      abbrev from_first : RigState → RigState
      from_first x = record x { log = drop first x.log }

      drop_end : (f : ℕ) (x : List LogEntry) (e : LogEntry) → f ≤ length x → drop f (x ++ (e ∷ [])) ≡ drop f x ++ (e ∷ [])
      drop_end zero x e h = refl
      drop_end (suc f) [] e h = absurd (omega arith)
      drop_end (suc f) (y ∷ x) e h = drop_end f x e (omega arith)

      from_then : (old new : RigState) (e : LogEntry) → old.log ≡ log → new.log ≡ old.log ++ (e ∷ []) → drop first new.log ≡ drop first old.log ++ (e ∷ [])
      from_then old new e l r = ap (drop first) r ∙ drop_end first old.log e (subst (λ x. first ≤ length x) (sym l) w.recorded_from)

      dropped : (old new : RigState) (e : LogEntry) → old.log ≡ log → IsRecord s.adapter g old new e → IsRecord s.adapter g (from_first old) (from_first new) e
      dropped old new e l r = record { recorded = from_then old new e l r.recorded; dev = r.dev; cdb = r.cdb; fits = r.fits; labels = r.labels }

      grows : (old new : RigState) (e : LogEntry) → old.log ≡ log → new.log ≡ old.log ++ (e ∷ []) → first ≤ length new.log
      grows old new e l r =
          let a = ap length r in
          let b = length-append old.log (e ∷ []) in
          let c = ap length l in
          let f = w.recorded_from in
          omega arith

      -- the stack goes on over the target
      on_told : (units' : Option (List Stored)) (us' : List Stored) (armed' : List FaultLine) (log' : List LogEntry) (now' : State) → units' ≡ Some us' → armed' ≡ armed → first ≤ length log' → AreWhole s'.pool → now'.bytes ≡ flat s'.pool → now'.blocks ≡ blocks_told us' →
          FollowsBy course m n ops opening (with_fates bs fates status) now' (recorded m (drop first log')) → NoneBefore (with_fates bs fates status) (recorded m (drop first log')) → WalksAtTarget course m n opening first s' units' armed' st log'
      on_told units' us' armed' log' now' e a l whole bytes blocks follows none =
          told_stay s' stays units' us' armed' log' l e a
          (goes_on m n opening records told_blocks s k w.over w.walks s' d i group fates between stays ch takes flies settles same m (recorded m (drop first log')) now' (blocks_told us') whole bytes follows none blocks)

      went_out : (stop : Option Stop) (old new : RigState) → StopsBy course (stored_size m.ty m.size) stop → old.log ≡ log → new.armed ≡ armed → (first_of g).dir ≡ WriteDir → any_bad (map (sends s.adapter ios (flat s.pool)) bs) ≡ false → s'.pool ≡ s.pool →
          RecordedOut s.adapter ios g (flat s.pool) fates old new → WentOut s.adapter ios g (flat s.pool) w.us stop fates old new → WalksAtTarget course m n opening first s' new.units new.armed st new.log
      went_out stop old new stops l a dir good stay r t =
          let r' : RecordedOut s.adapter ios g (flat s.pool) fates (from_first old) (from_first new) = record { entry = r.entry; what = dropped old new r.entry l r.what; moved = r.moved; fates_are = r.fates_are } in
          let t' : WentOut s.adapter ios g (flat s.pool) w.us stop fates (from_first old) (from_first new) = record { fates_are = t.fates_are; units = t.units; told = t.told; shapes = t.shapes; blocks = t.blocks; entry = t.entry; recorded = from_then old new t.entry l t.recorded; done = t.done; moved = t.moved; labels = t.labels } in
          let logs : recorded m (drop first old.log) ≡ records = ap (λ x. recorded m (drop first x)) l in
          let before : NoneBefore status (recorded m (drop first old.log)) = subst (λ x. NoneBefore status x) (sym logs) w.walks.none_before in
          let on = out_by m n ops s.adapter ios g s.pool w.us k.fixed.protect fit site_is course stop fates (from_first old) (from_first new) opening w.walks.now status (spots_of m ops bs) stops dir good r' t' going before (w.walks.follow.bytes, w.walks.blocks)
          (subst (λ x. FollowsBy course m n ops opening status w.walks.now x) (sym logs) w.walks.follow.follows) in
          let none = none_out m n ops s.adapter ios g s.pool k.fixed.protect fit w.over.faults fates (from_first old) (from_first new) status dir good r' before in
          on_told new.units t.units new.armed new.log on.after t.told a (grows old new r.entry l r.what.recorded) (subst AreWhole (sym stay) w.walks.follow.whole) (on.bytes_are ∙ ap flat (sym stay)) on.blocks_are on.follows none

      came_in : (stop : Option Stop) (old new : RigState) → StopsBy course (stored_size m.ty m.size) stop → old.log ≡ log → new.armed ≡ armed → (first_of g).dir ≡ Read → AreWhole s'.pool → RecordedIn s.adapter ios g s.pool s'.pool fates old new →
          CameIn s.adapter ios g s.pool s'.pool w.us stop fates old new → WalksAtTarget course m n opening first s' new.units new.armed st new.log
      came_in stop old new stops l a dir whole r t =
          let r' : RecordedIn s.adapter ios g s.pool s'.pool fates (from_first old) (from_first new) = record { entry = r.entry; what = dropped old new r.entry l r.what; long = r.long; fates_are = r.fates_are; cells = r.cells } in
          let t' : CameIn s.adapter ios g s.pool s'.pool w.us stop fates (from_first old) (from_first new) = record { fates_are = t.fates_are; told = t.told; cells = t.cells; entry = t.entry; recorded = from_then old new t.entry l t.recorded; done = t.done; moved = t.moved; labels = t.labels } in
          let logs : recorded m (drop first old.log) ≡ records = ap (λ x. recorded m (drop first x)) l in
          let before : NoneBefore status (recorded m (drop first old.log)) = subst (λ x. NoneBefore status x) (sym logs) w.walks.none_before in
          let on = in_by m n ops s.adapter ios g s.pool w.us k.fixed.protect fit site_is course stop s'.pool fates (from_first old) (from_first new) opening w.walks.now status (spots_of m ops bs) stops dir sized r' t' going before (w.walks.follow.bytes, w.walks.blocks)
          (subst (λ x. FollowsBy course m n ops opening status w.walks.now x) (sym logs) w.walks.follow.follows) in
          let none = none_in m n ops s.adapter ios g s.pool k.fixed.protect fit w.over.faults s'.pool fates (from_first old) (from_first new) status dir r' before in
          on_told new.units w.us new.armed new.log on.after t.told a (grows old new r.entry l r.what.recorded) whole on.bytes_are on.blocks_are on.follows none

      -- a store call that failed left what has the size of a stored block
      size_left : frame_size (unit_at w.us dev) ≡ stored_size m.ty m.size
      size_left =
          let bytes : (unit_at w.us dev).size ≡ m.size = ap (λ x. x.size) u.shape ∙ first_at.size in
          let ty : (unit_at w.us dev).ty ≡ m.ty = ap (λ x. x.ty) u.shape ∙ first_at.ty in
          ap (λ x. stored_size x (unit_at w.us dev).size) ty ∙ ap (stored_size m.ty) bytes

    -- whatever the adapter did
    module _ (old new : RigState) (image : Option (List ℕ)) (same_log : old.log ≡ log) (same_units : old.units ≡ units) (same_armed : old.armed ≡ armed) (still_armed : new.armed ≡ old.armed) (calm : CalmBy course old.faults new.faults)
        (laid : units ≡ units_told st image) (ready : IsStanding st image) (reach : s.sheet.devices ≤ st.devices) where
      behind_here : UnitStands st w.us dev
      behind_here =
          let h = head_on m n opening records told_blocks s k w.over w.walks s' d i group fates between stays ch takes flies settles same in
          unit-stands st image w.us dev (sym laid ∙ w.told_are) ready (omega (arith, h, reach))

      behind_group : IsBehind s.adapter ios group w.us old.armed
      behind_group = subst (λ x. IsBehind s.adapter ios x w.us old.armed) (sym is_group) (subst (IsBehind s.adapter ios g w.us) (sym same_armed) (is_behind behind_here))

      size_is : (spec_at st (first_of group).dev).size ≡ block_size (Carry.request_of ios (first_of group).op)
      size_is = size_known m n opening records told_blocks s k w.over w.walks s' d i group fates between stays ch takes flies settles same st w.sizes

      abbrev Bad : Bool → Type 0
      Bad b = any_bad (map (sends s.adapter ios (flat s.pool)) (blocks_in group)) ≡ b

      good_here : Bad false → any_bad (map (sends s.adapter ios (flat s.pool)) bs) ≡ false
      good_here q = ap (λ x. any_bad (map (sends s.adapter ios (flat s.pool)) (blocks_in x))) (sym is_group) ∙ q

      way_here : (dir : Dir) → (first_of group).dir ≡ dir → (first_of g).dir ≡ dir
      way_here dir e = ap (λ x. (first_of x).dir) (sym is_group) ∙ e

      sized_stop : (stop : Option Stop) → StopsBy course (frame_size (unit_at w.us (first_of group).dev)) stop → StopsBy course (stored_size m.ty m.size) stop
      sized_stop stop h = subst (λ n. StopsBy course n stop) (ap (λ x. frame_size (unit_at w.us (first_of x).dev)) is_group ∙ size_left behind_here) h

      pub told_sends : ((first_of group).dir ≡ WriteDir → Bad true → Unsent s.adapter ios group s.pool s'.pool fates × ((new.log ≡ log) × (new.units ≡ units)))
          → ((first_of group).dir ≡ WriteDir → Bad false → s'.pool ≡ s.pool)
          → ((first_of group).dir ≡ Read → AreWhole s'.pool)
          → ((spec_at st (first_of group).dev).size ≡ block_size (Carry.request_of ios (first_of group).op) → (first_of group).dir ≡ WriteDir → Bad false → RecordedOut s.adapter ios group (flat s.pool) fates old new)
          → ((spec_at st (first_of group).dev).size ≡ block_size (Carry.request_of ios (first_of group).op) → (first_of group).dir ≡ Read → RecordedIn s.adapter ios group s.pool s'.pool fates old new)
          → ((us : List Stored) → old.units ≡ Some us → IsBehind s.adapter ios group us old.armed → (first_of group).dir ≡ WriteDir → Bad false → UpTo (λ stop. WentOut s.adapter ios group (flat s.pool) us stop fates old new) (frame_size (unit_at us (first_of group).dev)) old.faults new.faults)
          → ((us : List Stored) → old.units ≡ Some us → IsBehind s.adapter ios group us old.armed → (first_of group).dir ≡ Read → UpTo (λ stop. CameIn s.adapter ios group s.pool s'.pool us stop fates old new) (frame_size (unit_at us (first_of group).dev)) old.faults new.faults)
          → WalksAtTarget course m n opening first s' new.units new.armed st new.log
      told_sends unsent stay whole out in_ went came = by (first_of group).dir refl where
        held : (first_of group).dir ≡ WriteDir → Bad true → WalksAtTarget course m n opening first s' new.units new.armed st new.log
        held e q =
            let u = unsent e q in
            subst (λ x. WalksAtTarget course m n opening first s' new.units new.armed st x) (sym u.1.0)
            (told_stay s' stays new.units w.us new.armed log w.recorded_from (u.1.1 ∙ w.told_are) (still_armed ∙ same_armed)
            (walk_held m n opening records told_blocks s k w.over w.walks s' d i group fates between stays ch takes flies settles same e u.0))

        gone : (first_of group).dir ≡ WriteDir → Bad false → WalksAtTarget course m n opening first s' new.units new.armed st new.log
        gone e q =
            let r = subst (λ x. RecordedOut s.adapter ios x (flat s.pool) fates old new) is_group (out size_is e q) in
            let up = up_to course old.faults new.faults (frame_size (unit_at w.us (first_of group).dev)) (λ stop. WentOut s.adapter ios group (flat s.pool) w.us stop fates old new) calm (went w.us (same_units ∙ w.told_are) behind_group e q) in
            let t = subst (λ x. WentOut s.adapter ios x (flat s.pool) w.us up.0 fates old new) is_group up.1.1 in
            went_out behind_here up.0 old new (sized_stop up.0 up.1.0) same_log (still_armed ∙ same_armed) (way_here WriteDir e) (good_here q) (stay e q) r t

        writes : (first_of group).dir ≡ WriteDir → (b : Bool) → Bad b → WalksAtTarget course m n opening first s' new.units new.armed st new.log
        writes e true q = held e q
        writes e false q = gone e q

        by : (dir : Dir) → (first_of group).dir ≡ dir → WalksAtTarget course m n opening first s' new.units new.armed st new.log
        by WriteDir e = writes e (any_bad (map (sends s.adapter ios (flat s.pool)) (blocks_in group))) refl
        by Read e =
            let r = subst (λ x. RecordedIn s.adapter ios x s.pool s'.pool fates old new) is_group (in_ size_is e) in
            let up = up_to course old.faults new.faults (frame_size (unit_at w.us (first_of group).dev)) (λ stop. CameIn s.adapter ios group s.pool s'.pool w.us stop fates old new) calm (came w.us (same_units ∙ w.told_are) behind_group e) in
            let t = subst (λ x. CameIn s.adapter ios x s.pool s'.pool w.us up.0 fates old new) is_group up.1.1 in
            came_in behind_here up.0 old new (sized_stop up.0 up.1.0) same_log (still_armed ∙ same_armed) (way_here Read e) (whole e) r t
