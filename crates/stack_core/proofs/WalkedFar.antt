-- A stack that follows the walk of its script does so after a command is completed, and once it is known what came of a group that was sent; whatever is behind the adapter.
use Rattle.std.proofs.Common.{◌≡◌, ◌<◌, ◌≤◌, ℕ, ◌+◌, ◌-◌, true, List, [], ◌∷◌, length, get_or, refl, sym, ap, subst, ◌∙◌, arith}
use Rattle.std.proofs.lemmas.Bool.{ltb-true, not-true}
use Rattle.std.proofs.lemmas.List.{ext_get_or}
use Rattle.std.proofs.lemmas.List.Elements.{All-get_or, All-head}
use Rattle.page_pool.specs.Cells.{flat}
use Rattle.page_pool.specs.Pages.{AreWhole}
use Rattle.bio_core.specs.Bios.{Block, block_size}
use Rattle.bio_core.specs.declared.bio.Bio.{Bio}
use Rattle.bio_core.specs.declared.fate.Fate.{Fate}
use Rattle.bio_core.specs.declared.request.Dir.TheVariants.{Write as WriteDir}
use Rattle.bio_core.specs.declared.request.Io.{Io}
use Rattle.dix_adapter.specs.Carried.{Unsent}
use Rattle.dix_adapter.specs.Groups as Carry
use Rattle.dix_adapter.specs.Groups.{blocks_in, first_of, mode_of}
use Rattle.rig_api.specs.Telling.{Standing, spec_at}
use Rattle.merge_queue.specs.Groups.{size}
use Rattle.stack_laws.specs.Blocks.{blocks, place_of, times}
use Rattle.stack_laws.specs.Formed.{Formed, IsGroup, Named}
use Rattle.stack_laws.specs.Plan.{Plan, request_at}
use Rattle.stack_laws.specs.Sound.{HasBlocks, Settles}
use Rattle.stack_laws.specs.Steps.{Complete as StepComplete, Send as StepSend, can, step}
use Rattle.stack_laws.specs.View.{View, command_at, group_at, no_op, queue_at}
use Rattle.stack_laws.proofs.Formed.{queue-groups}
use Rattle.stack_laws.proofs.Keeps.{queue-there}
use Rattle.stack_laws.proofs.Enabled.{due-one}
use Rattle.stack_steps.specs.declared.choice.Choice.TheVariants.{Complete, Send}
use Rattle.stack_steps.specs.declared.machine.Machine.{Machine}
use Rattle.stack_steps.specs.Does.{Does, Flies, Holds, Lands, Takes}
use Rattle.stack_steps.proofs.Sums.{sends-fit}
use Rattle.block_path.specs.Acts.{State}
use Rattle.block_path.specs.Blocks.{Sent}
use Rattle.volume_table.specs.Places.{place_in, volume_len}
use Rattle.stack_walk_laws.specs.Passed.{Setting}
use Rattle.stack_walk_laws.specs.Sending.{AllGoing, NoneBefore, with_fates}
use Rattle.stack_walk_laws.specs.Slots.{Status}
use Rattle.stack_walk_laws.proofs.Sending.{in_its_queue}
use Rattle.stack_core.specs.Courses.{Course, FollowsBy}
use Rattle.stack_core.specs.declared.sheet.Sheet.{Sheet}
use Rattle.stack_core.specs.declared.stack.Stack.{Stack}
use Rattle.stack_walk_laws.specs.Settled.{AllSettled, KeptFates}
use Rattle.stack_walk_laws.specs.Settling.{AreFates}
use Rattle.stack_walk_laws.specs.Sheets.{io_at}
use Rattle.stack_core.specs.Stacks.{IsStack, StackStays, plan_in}
use Rattle.stack_core.specs.Walking.{Data, Follow, IsChosen, IsOver, SizesFit, WalksBy, data_of, status_of}
use Rattle.stack_core.proofs.Completes.{completes}
use Rattle.stack_core.proofs.Courses.{held_by, none_held}
use Rattle.stack_core.proofs.Context.{adapts, places, stands}
use Rattle.stack_walk_laws.proofs.Facts.{completed, place-is}
use Rattle.stack_core.proofs.FollowsSend.{all_going, sent_before, sent_follows, spots_of}
use Rattle.stack_core.proofs.Sending.{carried-group}
use Rattle.stack_core.proofs.Walked.{can_be, lie, meant, ready, sound, stand, taken, walked}

-- where the blocks of each request begin doesn't change
pub starts_stay : (ios : List Io) (a b : List ℕ) (x y : List Fate) → AreFates ios a x → AreFates ios b y → b ≡ a
starts_stay ios a b x y f g =
    let m = f.count in
    let n = g.count in
    ext_get_or 0 b a (n ∙ sym m) (λ i l. g.begin i (omega arith) ∙ sym (f.begin i (omega arith)))

module _ {course : Course} (over : Setting) (n : ℕ) (opening : State) (es : List Sent) (left : List (List ℕ)) (s : Stack) (k : IsStack s) (o : IsOver over n opening s.sheet s.adapter s.host) (w : WalksBy course over n opening es left s) where
  abbrev pub view : View
  view = w.view

  abbrev pub design : Plan
  design = plan_in s.sheet

  pub formed : Formed design view
  formed = w.holds.shows.formed

  -- ---- a command is completed

  pub walk_completes : (s' : Stack) (i : ℕ) (bios : List Bio) (fates : List Fate) → StackStays s s' → IsChosen s (Complete i) → Does design s.machine (Complete i) 0 s'.machine → Lands design s.machine i bios fates → AreFates s.sheet.ios.items s'.kept.starts.items s'.kept.held.items →
      AllSettled (mode_of s.adapter) s.host s.sheet.ios.items s.kept.starts.items bios fates (length bios) (record { pages = s.pool; held = s.kept.held.items }) (record { pages = s'.pool; held = s'.kept.held.items }) →
      data_of s' ≡ record (data_of s) { pool = s'.pool; starts = s'.kept.starts.items; held = s'.kept.held.items } → WalksBy course over n opening es left s'
  walk_completes s' i bios fates stays ch does lands kept settles same =
      let sh = s.sheet in
      let c = Complete i in
      let t = taken over n opening es left s k o w c ch in
      let mean = meant over n opening es left s k o w c ch in
      let x = lands view t w.holds mean in
      let j = x.0 in
      let is : t ≡ StepComplete j = x.1.0 in
      let cmd = command_at view j in
      let y : can design view (StepComplete j) ≡ true = ap (can design view) (sym is) ∙ can_be over n opening es left s k o w c ch in
      let after = step design view (StepComplete j) 0 [] in
      let h : Holds design s'.machine after = subst (λ z. Holds design s'.machine (step design view z 0 [])) is (does view t w.holds (can_be over n opening es left s k o w c ch) mean) in
      let done = completed sh.ops sh.shifted.items sh.ios.items sh.table sh.limits sh.devices s.machine i bios fates sh.right.fine (ready over n opening es left s k o w c ch) lands in
      let each : size cmd.bios ≡ length cmd.fates = ap size (sym x.1.1.0) ∙ (done.each ∙ ap length x.1.1.1) in
      let new : KeptFates = record { pages = s'.pool; held = s'.kept.held.items } in
      let old : KeptFates = record { pages = s.pool; held = s.kept.held.items } in
      let settled : AllSettled (mode_of s.adapter) s.host sh.ios.items s.kept.starts.items cmd.bios cmd.fates (length cmd.bios) old new
      = subst (λ fs. AllSettled (mode_of s.adapter) s.host sh.ios.items s.kept.starts.items cmd.bios fs (length cmd.bios) old new) x.1.1.1 (subst (λ bs. AllSettled (mode_of s.adapter) s.host sh.ios.items s.kept.starts.items bs fates (length bs) old new) x.1.1.0 settles) in
      let starts = starts_stay sh.ios.items s.kept.starts.items s'.kept.starts.items s.kept.held.items s'.kept.held.items k.kept kept in
      walked over n opening es left s k o w s' stays (record (data_of s) { pool = s'.pool; held = s'.kept.held.items }) after w.now.blocks left (same ∙ ap (λ z. record (data_of s) { pool = s'.pool; starts = z; held = s'.kept.held.items }) starts) h
      (completes over n opening es design sh.ops sh.ios.items (data_of s) view w.now (stand over n opening es left s k o w) (sound over n opening es left s k o w) formed w.follow (lie over n opening es left s k o w) k.kept o.found j (not-true cmd.completed y)
      new after refl refl (mode_of s.adapter) s.host (sym o.mode) o.host_is each settled) w.blocks

  -- ---- a group is sent

  module _ (s' : Stack) (d i : ℕ) (group : List Bio) (fates : List Fate) (between : Machine) (stays : StackStays s s') (ch : IsChosen s (Send d i)) (takes : Takes design s.machine d i group between) (flies : Flies design between d group fates s'.machine) (settles : Settles group fates)
      (same : data_of s' ≡ record (data_of s) { pool = s'.pool }) where
    is_send : taken over n opening es left s k o w (Send d i) ch ≡ StepSend d i
    is_send = meant over n opening es left s k o w (Send d i) ch

    can_send : can design view (StepSend d i) ≡ true
    can_send = ap (can design view) (sym is_send) ∙ can_be over n opening es left s k o w (Send d i) ch

    pub place : i < length (queue_at view d)
    place = ltb-true i (length (queue_at view d)) can_send

    pub group_is : group ≡ group_at view d i
    group_is = (takes view (StepSend d i) w.holds can_send refl).1

    abbrev pub after : View
    after = step design view (StepSend d i) 0 fates

    holds_after : Holds design s'.machine after
    holds_after = flies view i 0 (takes view (StepSend d i) w.holds can_send refl).0 group_is settles

    pub named : IsGroup design d (group_at view d i)
    named = All-get_or (IsGroup design d) (queue_at view d) i [] place (queue-groups design view d (queue-there view d i place) formed)

    pub once : (op q : ℕ) → times op q (blocks (group_at view d i)) ≤ 1
    once op q =
        let x = sound over n opening es left s k o w in
        let a = in_its_queue view d i op q place in
        let b = x.one_place op q in
        let c = due-one (request_at design op) (get_or view.ops op no_op) q in
        omega arith

    abbrev pub bs : List Block
    bs = blocks_in (group_at view d i)

    abbrev pub status : ℕ → ℕ → Status
    status = status_of design (data_of s) view

    pub going : AllGoing over n s.sheet.ops s.adapter s.sheet.ios.items (length opening.logs) status bs (spots_of over s.sheet.ops bs)
    going = all_going over n opening design s.sheet.ops s.sheet.ios.items (data_of s) view (stands over n opening s k o) (sound over n opening es left s k o w) formed (places over n opening s k o) s.adapter (adapts over n opening s k o) d i place named once

    pub some : HasBlocks (group_at view d i)
    some = (sends-fit design view d i (sound over n opening es left s k o w) formed w.holds.shows.accounted place).some

    -- all blocks are of the volume's size
    pub head_there : 0 < (io_at s.sheet.ios.items ((first_of (group_at view d i)).op - 1)).count
    head_there = by (group_at view d i) some named where
      by : (g : List Bio) → HasBlocks g → IsGroup design d g → 0 < (io_at s.sheet.ios.items ((first_of g).op - 1)).count
      by [] h x = absurd (omega arith)
      by (b ∷ more) h x =
          let nm = All-head (Named design d) b more x.named in
          let a = nm.some in
          let c = nm.within in
          let u = nm.numbered in
          let e : (request_at design (place_of b.op)).count ≡ (io_at s.sheet.ios.items (b.op - 1)).count = ap (λ z. (request_at design z).count) (place-is b.op u) ∙ (places over n opening s k o).count (b.op - 1) in
          omega arith

    bytes_are : k.fixed.bytes ≡ over.size
    bytes_are = sym (k.fixed.uniform.size ((first_of (group_at view d i)).op - 1) head_there) ∙ o.size ((first_of (group_at view d i)).op - 1) head_there

    pub fits : Carry.IsCarriedGroup s.adapter s.pool over.size s.sheet.ios.items (group_at view d i)
    fits = subst (λ bytes. Carry.IsCarriedGroup s.adapter s.pool bytes s.sheet.ios.items (group_at view d i)) bytes_are
        (carried-group s.sheet.ops s.sheet.shifted.items s.sheet.ios.items s.sheet.table s.sheet.limits s.sheet.devices d s.adapter s.pool k.fixed.bytes (group_at view d i) s.sheet.right.fine k.fixed.uniform k.whole s.sheet.right.numbers some named)

    -- its device is one of the stack's
    pub head_on : (first_of (group_at view d i)).dev < s.sheet.devices
    head_on = by (group_at view d i) some named where
      by : (g : List Bio) → HasBlocks g → IsGroup design d g → (first_of g).dev < s.sheet.devices
      by [] h x = absurd (omega arith)
      by (b ∷ more) h x =
          let on = (All-head (Named design d) b more x.named).on in
          let q = queue-there view d i place in
          let y = sound over n opening es left s k o w in
          let z = y.devices in
          omega arith

    -- the size that the rig knows is that of the group's request
    pub size_known : (st : Standing) → SizesFit over st → (spec_at st (first_of group).dev).size ≡ block_size (Carry.request_of s.sheet.ios.items (first_of group).op)
    size_known st sizes =
        let f = o.size ((first_of (group_at view d i)).op - 1) head_there in
        subst (λ g. (spec_at st (first_of g).dev).size ≡ block_size (Carry.request_of s.sheet.ios.items (first_of g).op)) (sym group_is) (by (group_at view d i) some named ∙ sym f)
      where
        here : (v : ℕ) → v < volume_len s.sheet.table.entries → (spec_at st (place_in s.sheet.table.entries v).0).size ≡ over.size
        here = subst (λ e. (v : ℕ) → v < volume_len e → (spec_at st (place_in e v).0).size ≡ over.size) o.entries sizes

        by : (g : List Bio) → HasBlocks g → IsGroup design d g → (spec_at st (first_of g).dev).size ≡ over.size
        by [] h x = absurd (omega arith)
        by (b ∷ more) h x =
            let nm = All-head (Named design d) b more x.named in
            let q = b.op - 1 in
            let z = place-is b.op nm.numbered in
            let a = nm.some in
            let c = nm.within in
            let e : (request_at design (place_of b.op)).count ≡ (io_at s.sheet.ios.items q).count = ap (λ y. (request_at design y).count) z ∙ (places over n opening s k o).count q in
            let first : (request_at design (place_of b.op)).first ≡ (io_at s.sheet.ios.items q).first = ap (λ y. (request_at design y).first) z ∙ (places over n opening s k o).first q in
            let v : ℕ = (io_at s.sheet.ios.items q).first + b.k in
            let at : (request_at design (place_of b.op)).first + (b.k + 0) ≡ v = omega arith in
            let place : (place_in s.sheet.table.entries v).0 ≡ d = ap (λ y. (design.place y).dev) (sym at) ∙ nm.dev 0 nm.some in
            ap (λ y. (spec_at st y).size) (nm.on ∙ sym place) ∙ here v (s.sheet.right.inside q b.k (omega arith))

    -- What came of its blocks is known, over another setting and another record where these changed: the stack goes on.
    pub goes_on : (over' : Setting) (es' : List Sent) (now' : State) (left' : List (List ℕ)) → AreWhole s'.pool → now'.bytes ≡ flat s'.pool → FollowsBy course over' n s.sheet.ops opening (with_fates bs fates status) now' es' →
        NoneBefore (with_fates bs fates status) es' → now'.blocks ≡ left' → WalksBy course over' n opening es' left' s'
    goes_on over' es' now' left' whole bytes follows none blocks =
        let f = sent_follows over n opening design s.sheet.ops s.sheet.ios.items (data_of s) view (stands over n opening s k o) (sound over n opening es left s k o w) formed (places over n opening s k o) s.adapter (adapts over n opening s k o) d i place named once es es' fates after refl refl
        course over w.now now' s'.pool w.follow whole over' bytes follows in
        let none' = sent_before over n opening design s.sheet.ops s.sheet.ios.items (data_of s) view (stands over n opening s k o) (sound over n opening es left s k o w) formed (places over n opening s k o) s.adapter (adapts over n opening s k o) d i place named once es es' fates after refl refl
        s'.pool none in
        record {
          view = after;
          holds = subst (λ (x : Sheet). Holds (plan_in x) s'.machine after) (sym stays.sheet) holds_after;
          now = now';
          follow = subst (λ (x : Sheet). Follow course over' n opening es' (plan_in x) x.ops (data_of s') after now') (sym stays.sheet) (subst (λ (x : Data). Follow course over' n opening es' design s.sheet.ops x after now') (sym same) f);
          none_before = subst (λ (x : Sheet). NoneBefore (status_of (plan_in x) (data_of s') after) es') (sym stays.sheet) (subst (λ (x : Data). NoneBefore (status_of design x after) es') (sym same) none');
          blocks = blocks;
        }

    -- the adapter held a write back
    pub walk_held : (first_of group).dir ≡ WriteDir → Unsent s.adapter s.sheet.ios.items group s.pool s'.pool fates → WalksBy course over n opening es left s'
    walk_held dir u =
        let u' : Unsent s.adapter s.sheet.ios.items (group_at view d i) s.pool s'.pool fates = subst (λ g. Unsent s.adapter s.sheet.ios.items g s.pool s'.pool fates) group_is u in
        let dir' : (first_of (group_at view d i)).dir ≡ WriteDir = ap (λ g. (first_of g).dir) (sym group_is) ∙ dir in
        let held = held_by course over n s.sheet.ops s.adapter s.sheet.ios.items (group_at view d i) s.pool s'.pool fates opening w.now status es (spots_of over s.sheet.ops bs) fits dir' o.faults u' going w.follow.bytes w.follow.follows in
        goes_on over es held.after left (subst AreWhole (sym u'.pool_is) w.follow.whole) (held.bytes_are ∙ ap flat (sym u'.pool_is)) held.follows (none_held bs fates status es w.none_before) (held.blocks_are ∙ w.blocks)
