-- A stack that follows the walk of its script over any rig does so after a group is sent: what came of it stands on record.
use Rattle.std.proofs.Common.{◌≡◌, ◌<◌, ◌≤◌, ℕ, zero, suc, ◌-◌, Bool, true, false, List, [], ◌∷◌, ◌++◌, length, map, drop, refl, sym, ap, subst, ◌∙◌, arith}
use Rattle.std.proofs.lemmas.List.{length-append}
use Rattle.page_pool.specs.Cells.{flat}
use Rattle.page_pool.specs.Pages.{AreWhole}
use Rattle.bio_core.specs.Bios.{Block, block_size}
use Rattle.bio_core.specs.declared.bio.Bio.{Bio}
use Rattle.bio_core.specs.declared.fate.Fate.{Fate}
use Rattle.bio_core.specs.declared.request.Dir.{Dir}
use Rattle.bio_core.specs.declared.request.Dir.TheVariants.{Read, Write as WriteDir}
use Rattle.dix_adapter.specs.Carried.{Unsent, any_bad, frame_len, sends}
use Rattle.dix_adapter.specs.Groups as Carry
use Rattle.dix_adapter.specs.Groups.{blocks_in, first_of, mode_of}
use Rattle.dix_adapter.specs.Ways.{IsRecord, RecordedIn, RecordedOut}
use Rattle.rig_api.specs.Log.{LogEntry}
use Rattle.rig_api.specs.Telling.{Standing, spec_at}
use Rattle.rig_api.specs.State.{RigState}
use Rattle.stack_laws.specs.Plan.{Plan}
use Rattle.stack_laws.specs.Sound.{Settles}
use Rattle.stack_laws.specs.View.{View, group_at}
use Rattle.stack_steps.specs.declared.choice.Choice.TheVariants.{Send}
use Rattle.stack_steps.specs.declared.machine.Machine.{Machine}
use Rattle.stack_steps.specs.Does.{Flies, Takes}
use Rattle.block_path.specs.Acts.{State}
use Rattle.block_path.specs.Blocks.{Sent}
use Rattle.block_path.specs.Routes.{wire_size}
use Rattle.stack_walk_laws.specs.Passed.{recorded, told, Block as ScriptBlock, Setting, route}
use Rattle.stack_walk_laws.specs.Finished.{FramesFit}
use Rattle.stack_walk_laws.specs.Following.{Follows}
use Rattle.stack_walk_laws.specs.Sending.{AllGoing, FollowsOn, NoneBefore, with_fates}
use Rattle.stack_walk_laws.specs.Slots.{Status}
use Rattle.stack_walk_laws.proofs.Fitting.{fit_in, fit_out}
use Rattle.stack_walk_laws.proofs.Recording.{sent_in, sent_out}
use Rattle.stack_core.specs.declared.stack.Stack.{Stack}
use Rattle.stack_core.specs.Stacks.{IsStack, StackStays, plan_in}
use Rattle.stack_core.specs.Walking.{IsChosen, IsOver, Walks, WalksOver, data_of, status_of}
use Rattle.stack_core.proofs.Context.{adapts, over_stays, over_told, places, stands}
use Rattle.stack_core.proofs.FollowsSend.{all_going, spots_of}
use Rattle.stack_core.proofs.Walked.{sound}
use Rattle.stack_core.proofs.WalkedFar.{fits, formed, goes_on, group_is, head_there, named, once, place, size_known, walk_held}

module _ (m : Setting) (n : ℕ) (opening : State) (first : ℕ) (s : Stack) (st : Standing) (log : List LogEntry) (k : IsStack s) (w : Walks m n opening first s st log) where
  abbrev records : List Sent
  records = recorded m (drop first log)

  abbrev device : Setting
  device = told m records

  pub over_record : IsOver device n opening s.sheet s.adapter s.host
  over_record = over_told m records n opening s.sheet s.adapter s.host w.over

  abbrev view : View
  view = w.walks.view

  abbrev design : Plan
  design = plan_in s.sheet

  -- the same over the same records
  pub records_stay : (s' : Stack) → StackStays s s' → (left : List (List ℕ)) → WalksOver device n opening records left s' → Walks m n opening first s' st log
  records_stay s' stays left walks = record {
    over = over_stays m n opening s s' stays w.over;
    sizes = w.sizes;
    recorded_from = w.recorded_from;
    fit = w.fit;
    left = left;
    walks = walks;
  }

  module _ (s' : Stack) (d i : ℕ) (group : List Bio) (fates : List Fate) (between : Machine) (stays : StackStays s s') (ch : IsChosen s (Send d i)) (takes : Takes design s.machine d i group between) (flies : Flies design between d group fates s'.machine) (settles : Settles group fates)
      (same : data_of s' ≡ record (data_of s) { pool = s'.pool }) where
    abbrev bs : List Block
    bs = blocks_in (group_at view d i)

    abbrev status : ℕ → ℕ → Status
    status = status_of design (data_of s) view

    is_group : group ≡ group_at view d i
    is_group = group_is device n opening records w.left s k over_record w.walks s' d i group fates between stays ch takes flies settles same

    going : AllGoing m n s.sheet.ops s.adapter s.sheet.ios.items (length opening.logs) status bs (spots_of m s.sheet.ops bs)
    going = all_going m n opening design s.sheet.ops s.sheet.ios.items (data_of s) view (stands m n opening s k w.over) (sound device n opening records w.left s k over_record w.walks) (formed device n opening records w.left s k over_record w.walks) (places m n opening s k w.over) s.adapter (adapts m n opening s k w.over) d i
        (place device n opening records w.left s k over_record w.walks s' d i group fates between stays ch takes flies settles same)
        (named device n opening records w.left s k over_record w.walks s' d i group fates between stays ch takes flies settles same)
        (once device n opening records w.left s k over_record w.walks s' d i group fates between stays ch takes flies settles same)

    fit : Carry.IsCarriedGroup s.adapter s.pool m.size s.sheet.ios.items (group_at view d i)
    fit = fits device n opening records w.left s k over_record w.walks s' d i group fates between stays ch takes flies settles same

    head : 0 < (Carry.request_of s.sheet.ios.items (first_of (group_at view d i)).op).count
    head = head_there device n opening records w.left s k over_record w.walks s' d i group fates between stays ch takes flies settles same

    -- frames on the wire have one size
    wide : (b : ScriptBlock) → wire_size (route m b) ≡ frame_len s.adapter s.sheet.ios.items (group_at view d i)
    wide b =
        let r = route m b in
        let a = s.adapter in
        ap (λ x. wire_size (record r { mode = x })) w.over.mode
        ∙ (ap (λ x. wire_size (record r { mode = mode_of a; ty = x })) w.over.ty
        ∙ ap (λ x. wire_size (record r { mode = mode_of a; ty = a.ty; size = x })) (sym (w.over.size ((first_of (group_at view d i)).op - 1) head)))

    -- records from the first on
    abbrev pub from_first : RigState → RigState
    from_first x = record x { log = drop first x.log }

    dropped : (old new : RigState) (e : LogEntry) → old.log ≡ log → IsRecord s.adapter (group_at view d i) old new e → IsRecord s.adapter (group_at view d i) (from_first old) (from_first new) e
    dropped old new e l r = record {
      recorded = ap (drop first) r.recorded ∙ drop_end first old.log e (subst (λ x. first ≤ length x) (sym l) w.recorded_from);
      dev = r.dev;
      cdb = r.cdb;
      fits = r.fits;
      labels = r.labels;
    }
      where
        drop_end : (f : ℕ) (x : List LogEntry) (e : LogEntry) → f ≤ length x → drop f (x ++ (e ∷ [])) ≡ drop f x ++ (e ∷ [])
        drop_end zero x e h = refl
        drop_end (suc f) [] e h = absurd (omega arith)
        drop_end (suc f) (y ∷ x) e h = drop_end f x e (omega arith)

    grows : (old new : RigState) (e : LogEntry) → old.log ≡ log → IsRecord s.adapter (group_at view d i) old new e → first ≤ length new.log
    grows old new e l r =
        let a = ap length r.recorded in
        let b = length-append old.log (e ∷ []) in
        let c = ap length l in
        let f = w.recorded_from in
        omega arith

    went : (log' : List LogEntry) → AreWhole s'.pool → first ≤ length log' → FramesFit m (recorded m (drop first log')) → (on : FollowsOn m n s.sheet.ops opening (with_fates bs fates status) (flat s'.pool) (drop first log')) → Walks m n opening first s' st log'
    went log' whole l fitting on = record {
      over = over_stays m n opening s s' stays w.over;
      sizes = w.sizes;
      recorded_from = l;
      fit = fitting;
      left = on.after.blocks;
      walks = goes_on device n opening records w.left s k over_record w.walks s' d i group fates between stays ch takes flies settles same
          (told m (recorded m (drop first log'))) (recorded m (drop first log')) on.after on.after.blocks whole on.bytes on.follows on.none_before refl;
    }

    walk_out : (old new : RigState) → old.log ≡ log → (first_of group).dir ≡ WriteDir → any_bad (map (sends s.adapter s.sheet.ios.items (flat s.pool)) (blocks_in group)) ≡ false → s'.pool ≡ s.pool → RecordedOut s.adapter s.sheet.ios.items group (flat s.pool) fates old new → Walks m n opening first s' st new.log
    walk_out old new l dir good stay r =
        let r' : RecordedOut s.adapter s.sheet.ios.items (group_at view d i) (flat s.pool) fates old new = subst (λ g. RecordedOut s.adapter s.sheet.ios.items g (flat s.pool) fates old new) is_group r in
        let dir' : (first_of (group_at view d i)).dir ≡ WriteDir = ap (λ g. (first_of g).dir) (sym is_group) ∙ dir in
        let good' : any_bad (map (sends s.adapter s.sheet.ios.items (flat s.pool)) bs) ≡ false = ap (λ g. any_bad (map (sends s.adapter s.sheet.ios.items (flat s.pool)) (blocks_in g))) (sym is_group) ∙ good in
        let r'' : RecordedOut s.adapter s.sheet.ios.items (group_at view d i) (flat s.pool) fates (from_first old) (from_first new) = record { entry = r'.entry; what = dropped old new r'.entry l r'.what; moved = r'.moved; fates_are = r'.fates_are } in
        let logs : recorded m (drop first old.log) ≡ records = ap (λ x. recorded m (drop first x)) l in
        let on = sent_out m n s.sheet.ops s.adapter s.sheet.ios.items (group_at view d i) s.pool k.fixed.protect fit w.over.faults fates (from_first old) (from_first new) opening w.walks.now status (spots_of m s.sheet.ops bs) dir' good' r'' going w.walks.follow.bytes
        (subst (λ x. NoneBefore status x) (sym logs) w.walks.none_before) (subst (λ x. Follows (told m x) n s.sheet.ops opening status w.walks.now x) (sym logs) w.walks.follow.follows) in
        let fitting = fit_out m s.adapter s.sheet.ios.items (group_at view d i) s.pool k.fixed.protect fit fates (from_first old) (from_first new) dir' good' wide r'' (subst (FramesFit m) (sym logs) w.fit) in
        went new.log (subst AreWhole (sym stay) w.walks.follow.whole) (grows old new r'.entry l r'.what) fitting (subst (λ x. FollowsOn m n s.sheet.ops opening (with_fates bs fates status) (flat x) (drop first new.log)) (sym stay) on)

    walk_in : (old new : RigState) → old.log ≡ log → (first_of group).dir ≡ Read → AreWhole s'.pool → RecordedIn s.adapter s.sheet.ios.items group s.pool s'.pool fates old new → Walks m n opening first s' st new.log
    walk_in old new l dir whole r =
        let r' : RecordedIn s.adapter s.sheet.ios.items (group_at view d i) s.pool s'.pool fates old new = subst (λ g. RecordedIn s.adapter s.sheet.ios.items g s.pool s'.pool fates old new) is_group r in
        let dir' : (first_of (group_at view d i)).dir ≡ Read = ap (λ g. (first_of g).dir) (sym is_group) ∙ dir in
        let r'' : RecordedIn s.adapter s.sheet.ios.items (group_at view d i) s.pool s'.pool fates (from_first old) (from_first new) = record { entry = r'.entry; what = dropped old new r'.entry l r'.what; long = r'.long; fates_are = r'.fates_are; cells = r'.cells } in
        let logs : recorded m (drop first old.log) ≡ records = ap (λ x. recorded m (drop first x)) l in
        let on = sent_in m n s.sheet.ops s.adapter s.sheet.ios.items (group_at view d i) s.pool k.fixed.protect fit w.over.faults s'.pool fates (from_first old) (from_first new) opening w.walks.now status (spots_of m s.sheet.ops bs) dir' r'' going w.walks.follow.bytes
        (subst (λ x. NoneBefore status x) (sym logs) w.walks.none_before) (subst (λ x. Follows (told m x) n s.sheet.ops opening status w.walks.now x) (sym logs) w.walks.follow.follows) in
        let fitting = fit_in m s.adapter s.sheet.ios.items (group_at view d i) s.pool k.fixed.protect fit s'.pool fates (from_first old) (from_first new) dir' wide r'' (subst (FramesFit m) (sym logs) w.fit) in
        went new.log whole (grows old new r'.entry l r'.what) fitting on

    pub size_is : (spec_at st (first_of group).dev).size ≡ block_size (Carry.request_of s.sheet.ios.items (first_of group).op)
    size_is = size_known device n opening records w.left s k over_record w.walks s' d i group fates between stays ch takes flies settles same st w.sizes

    -- whatever the adapter did
    pub walk_sends : (old new : RigState) → old.log ≡ log
        → ((first_of group).dir ≡ WriteDir → any_bad (map (sends s.adapter s.sheet.ios.items (flat s.pool)) (blocks_in group)) ≡ true → Unsent s.adapter s.sheet.ios.items group s.pool s'.pool fates × (new.log ≡ log))
        → ((first_of group).dir ≡ WriteDir → any_bad (map (sends s.adapter s.sheet.ios.items (flat s.pool)) (blocks_in group)) ≡ false → s'.pool ≡ s.pool)
        → ((first_of group).dir ≡ Read → AreWhole s'.pool)
        → ((spec_at st (first_of group).dev).size ≡ block_size (Carry.request_of s.sheet.ios.items (first_of group).op) → (first_of group).dir ≡ WriteDir → any_bad (map (sends s.adapter s.sheet.ios.items (flat s.pool)) (blocks_in group)) ≡ false → RecordedOut s.adapter s.sheet.ios.items group (flat s.pool) fates old new)
        → ((spec_at st (first_of group).dev).size ≡ block_size (Carry.request_of s.sheet.ios.items (first_of group).op) → (first_of group).dir ≡ Read → RecordedIn s.adapter s.sheet.ios.items group s.pool s'.pool fates old new)
        → Walks m n opening first s' st new.log
    walk_sends old new l unsent stay whole out in_ = by (first_of group).dir refl where
      held : (first_of group).dir ≡ WriteDir → Unsent s.adapter s.sheet.ios.items group s.pool s'.pool fates → Walks m n opening first s' st log
      held e u = records_stay s' stays w.left (walk_held device n opening records w.left s k over_record w.walks s' d i group fates between stays ch takes flies settles same e u)

      writes : (first_of group).dir ≡ WriteDir → (b : Bool) → any_bad (map (sends s.adapter s.sheet.ios.items (flat s.pool)) (blocks_in group)) ≡ b → Walks m n opening first s' st new.log
      writes e true q = let u = unsent e q in subst (λ x. Walks m n opening first s' st x) (sym u.1) (held e u.0)
      writes e false q = walk_out old new l e q (stay e q) (out size_is e q)

      by : (dir : Dir) → (first_of group).dir ≡ dir → Walks m n opening first s' st new.log
      by WriteDir e = writes e (any_bad (map (sends s.adapter s.sheet.ios.items (flat s.pool)) (blocks_in group))) refl
      by Read e = walk_in old new l e (whole e) (in_ size_is e)
