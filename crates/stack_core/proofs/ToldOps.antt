-- A stack that follows the walk of its script over a rig that tells its blocks does so after an op is admitted, and after each step that leaves the rig alone.
use Rattle.std.proofs.Common.{◌≡◌, ◌⊎◌, inl, inr, ◌<◌, ◌≤◌, ℕ, ◌+◌, ◌-◌, true, leb, ltb, List, [], ◌∷◌, length, drop, get_or, set, Option, Some, None, refl, sym, ap, subst, ◌∙◌, arith}
use Rattle.std.specs.Prelude.{is_some}
use Rattle.std.proofs.lemmas.Bool.{and_parts}
use Rattle.dix_base.specs.Told.{Calm}
use Rattle.fault_schedule.specs.Altered.{byte_at, xored_from}
use Rattle.fault_schedule.specs.declared.fault.FaultLine.{FaultLine}
use Rattle.rig_api.specs.Target.{Stored}
use Rattle.rig_api.specs.declared.units.UnitSpec.{UnitSpec}
use Rattle.rig_api.specs.Log.{LogEntry}
use Rattle.rig_api.specs.declared.change.Change.{Change}
use Rattle.rig_api.specs.declared.change.Change.TheVariants.{Copy, Flip}
use Rattle.rig_api.specs.State.{RigState}
use Rattle.rig_api.specs.Telling.{IsStanding, Standing, block_at, can_change, changed as changed_told, frame_size, has_address, source_of as source_device, spec_at, specs_of, unit_at, units_told, with_block}
use Rattle.rig_api.specs.Frames.{stored_size}
use Rattle.dix_adapter.specs.Ways.{blocks_told, cell_in, shapes_of, site_of}
use Rattle.dix_adapter.proofs.GoingIn.{long-at}
use Rattle.stack_walk_laws.specs.Units.{AreAtUnits}
use Rattle.stack_core.specs.declared.sheet.Sheet.{Sheet}
use Rattle.stack_core.proofs.Context.{over_stays}
use Rattle.dix_adapter.proofs.Puts.{cell-is, told-at, told-puts}
use Rattle.dix_adapter.proofs.Units.{Stands, unit-stands}
use Rattle.stack_ops.specs.declared.op.Op.{Op}
use Rattle.stack_ops.specs.declared.op.Op.TheVariants.{Fetch, FetchPi, Fill, Overwrite, Put, Seal, Show, Wait, Write, WritePi}
use Rattle.block_path.specs.Acts.{State}
use Rattle.block_path.specs.Blocks.{Site}
use Rattle.stack_walk_laws.specs.Passed.{recorded, changed, source_of as source_cell, Setting}
use Rattle.stack_core.specs.Courses.{Course, Falling, Straight}
use Rattle.stack_core.specs.declared.stack.Stack.{Stack}
use Rattle.stack_core.specs.Doing.{CanReach}
use Rattle.stack_core.specs.Stacks.{IsStack, StackStays}
use Rattle.stack_core.specs.Walking.{Enters, Fails, IsKnown, KnownBy, Walks, WalksAtTarget, WalksBy, WalksFalling, WalksOn, WalksTold, op_left, units_left}
use Rattle.stack_core.proofs.WalkedRecord.{over_record, records_stay}
use Rattle.stack_core.proofs.WalkedTold.{told_stay}

-- ---- an overwrite

address-there : (u : UnitSpec) (lba : ℕ) → has_address u lba ≡ true → (u.first ≤ lba) × (lba < u.first + u.blocks)
address-there u lba h = let p = and_parts (leb u.first lba) (ltb lba (u.first + u.blocks)) h in let a = p.0 in let b = p.1 in (grind (arith, a), grind (arith, b))

module _ (us : List Stored) (st : Standing) where
  -- a stored block in its cell
  here_is : (dev lba : ℕ) → Stands st us dev → has_address (spec_at st dev) lba ≡ true → get_or (blocks_told us) (cell_in (shapes_of us) dev lba) [] ≡ block_at us dev lba
  here_is dev lba u h =
      let a = address-there (spec_at st dev) lba h in
      let x = a.0 in
      let y = a.1 in
      let f = ap (λ z. z.first) u.shape in
      let b = ap (λ z. z.blocks) u.shape in
      ap (λ c. get_or (blocks_told us) c []) (cell-is us dev lba u.there) ∙ told-at us dev (lba - (unit_at us dev).first) u.there (omega (arith, x, y, f, b))

  put_here : (dev lba : ℕ) (block : List ℕ) → Stands st us dev → has_address (spec_at st dev) lba ≡ true → blocks_told (with_block us dev lba block) ≡ set (blocks_told us) (cell_in (shapes_of us) dev lba) block
  put_here dev lba block u h =
      let a = address-there (spec_at st dev) lba h in
      let x = a.0 in
      let y = a.1 in
      let f = ap (λ z. z.first) u.shape in
      let b = ap (λ z. z.blocks) u.shape in
      told-puts us dev (lba - (unit_at us dev).first) (block ∷ []) u.there (omega (arith, x, y, f, b)) ∙ ap (λ c. set (blocks_told us) c block) (sym (cell-is us dev lba u.there))

  -- it has the size of a stored block
  long_here : (dev lba : ℕ) → Stands st us dev → has_address (spec_at st dev) lba ≡ true → length (block_at us dev lba) ≡ frame_size (unit_at us dev)
  long_here dev lba u h =
      let a = address-there (spec_at st dev) lba h in
      let x = a.0 in
      let y = a.1 in
      let f = ap (λ z. z.first) u.shape in
      let b = ap (λ z. z.blocks) u.shape in
      long-at (stored_size (unit_at us dev).ty (unit_at us dev).size) (unit_at us dev).blocks (lba - (unit_at us dev).first) u.long (omega (arith, x, y, f, b))

  has_place : (dev lba : ℕ) (change : Change) → can_change st dev lba change ≡ true → has_address (spec_at st dev) lba ≡ true
  has_place dev lba (Flip off bytes) h = h
  has_place dev lba (Copy from at) h = (and_parts (has_address (spec_at st dev) lba) _ h).0

  change_is : (site : Site) (dev lba : ℕ) (change : Change) → site.cell ≡ cell_in (shapes_of us) → Stands st us dev → Stands st us (source_device change dev) → can_change st dev lba change ≡ true →
      changed_told us change (block_at us dev lba) ≡ changed change (get_or (blocks_told us) (source_cell site dev lba change) [])
  change_is site dev lba (Flip off bytes) e u v h = ap (λ block. xored_from (byte_at off bytes) 0 block) (sym (here_is dev lba u h) ∙ ap (λ cell. get_or (blocks_told us) (cell dev lba) []) (sym e))
  change_is site dev lba (Copy from at) e u v h =
      let p = and_parts (has_address (spec_at st dev) lba) _ h in
      let q = and_parts (has_address (spec_at st from) at) _ p.1 in
      sym (here_is from at v q.0) ∙ ap (λ cell. get_or (blocks_told us) (cell from at) []) (sym e)

  -- what an op leaves of the units is what it leaves of the cells
  left_is : (m : Setting) (image : Option (List ℕ)) (op : Op) → m.site.cell ≡ cell_in (specs_of st) → units_told st image ≡ Some us → IsStanding st image → CanReach true st op → blocks_told (units_left op us) ≡ op_left m op (blocks_told us)
  left_is m image (Fill seg byte) e u r c = refl
  left_is m image (Put page off bytes) e u r c = refl
  left_is m image (Show seg) e u r c = refl
  left_is m image (Seal n body tuples app rtag) e u r c = refl
  left_is m image (Write v n body app) e u r c = refl
  left_is m image (Fetch v n body) e u r c = refl
  left_is m image (WritePi v n body tuples) e u r c = refl
  left_is m image (FetchPi v n body tuples) e u r c = refl
  left_is m image (Overwrite dev lba change) e u r c =
      let here = unit-stands st image us dev u r c.device in
      let from = unit-stands st image us (source_device change dev) u r c.source in
      let can = c.place refl in
      let e' : m.site.cell ≡ cell_in (shapes_of us) = e ∙ ap cell_in (sym here.shapes) in
      put_here dev lba (changed_told us change (block_at us dev lba)) here (has_place dev lba change can)
      ∙ (ap (λ block. set (blocks_told us) (cell_in (shapes_of us) dev lba) block) (change_is m.site dev lba change e' here from can)
      ∙ ap (λ cell. set (blocks_told us) (cell dev lba) (changed change (get_or (blocks_told us) (source_cell m.site dev lba change) []))) (sym e'))
  left_is m image Wait e u r c = refl

-- a rig that tells its units tells its image
pub is_told : (st : Standing) (image : Option (List ℕ)) (us : List Stored) → units_told st image ≡ Some us → is_some image ≡ true
is_told st None us e = absurd (cc)
is_told st (Some bytes) us e = refl

-- ---- a step that leaves the rig alone

pub walks_on : (m : Setting) (n : ℕ) (opening : State) (first : ℕ) (s s' : Stack) (st : Standing) (log : List LogEntry) → IsStack s → StackStays s s' → WalksOn s s' → Walks m n opening first s st log → Walks m n opening first s' st log
walks_on m n opening first s s' st log k stays on w =
    records_stay m n opening first s st log k w s' stays w.left (on Straight _ n opening _ w.left (over_record m n opening first s st log k w) w.walks)

at_target_on : (course : Course) (m : Setting) (n : ℕ) (opening : State) (first : ℕ) (s s' : Stack) (units : Option (List Stored)) (armed : List FaultLine) (st : Standing) (log : List LogEntry) → IsStack s → StackStays s s' → WalksOn s s' → WalksAtTarget course m n opening first s units armed st log → WalksAtTarget course m n opening first s' units armed st log
at_target_on course m n opening first s s' units armed st log k stays on w =
    told_stay m n opening first s units armed st log k w s' stays units w.us armed log w.recorded_from w.told_are refl (on course m n opening (recorded m (drop first log)) (blocks_told w.us) w.over w.walks)

pub falling_on : (m : Setting) (n : ℕ) (opening : State) (first : ℕ) (s s' : Stack) (units : Option (List Stored)) (armed : List FaultLine) (st : Standing) (log : List LogEntry) → IsStack s → StackStays s s' → WalksOn s s' → WalksFalling m n opening first s units armed st log → WalksFalling m n opening first s' units armed st log
falling_on m n opening first s s' units armed st log k stays on w = (w.0, at_target_on (Falling w.0) m n opening first s s' units armed st log k stays on w.1)

pub told_on : (m : Setting) (n : ℕ) (opening : State) (first : ℕ) (s s' : Stack) (units : Option (List Stored)) (armed : List FaultLine) (st : Standing) (log : List LogEntry) → IsStack s → StackStays s s' → WalksOn s s' → WalksTold m n opening first s units armed st log → WalksTold m n opening first s' units armed st log
told_on m n opening first s s' units armed st log k stays on w = at_target_on Straight m n opening first s s' units armed st log k stays on w

-- ---- an op is admitted

pub walks_entered : (m : Setting) (n : ℕ) (opening : State) (first : ℕ) (s s' : Stack) (o o' : RigState) → IsStack s → StackStays s s' → Enters o o' s s' →
    Walks m n opening first s o.standing o.log → Walks m n opening first s' o.standing o.log
walks_entered m n opening first s s' o o' k stays enters w =
    records_stay m n opening first s o.standing o.log k w s' stays _ (enters.walks Straight tt _ n opening _ w.left (over_record m n opening first s o.standing o.log k w) w.walks)

at_target_entered : (course : Course) (m : Setting) (n : ℕ) (opening : State) (first : ℕ) (s s' : Stack) (o o' : RigState) → IsStack s → StackStays s s' →
    (enters : Enters o o' s s') → o.units ≡ units_told o.standing o.image → IsStanding o.standing o.image → o'.armed ≡ o.armed → IsKnown enters.op enters.reply → KnownBy course enters.op enters.reply → WalksAtTarget course m n opening first s o.units o.armed o.standing o.log → WalksAtTarget course m n opening first s' o'.units o'.armed o.standing o.log
at_target_entered course m n opening first s s' o o' k stays enters laid ready still known by_course w =
    let us : units_told o.standing o.image ≡ Some w.us = sym laid ∙ w.told_are in
    let told : is_some o.image ≡ true = is_told o.standing o.image w.us us in
    let cell : m.site.cell ≡ cell_in (specs_of o.standing) = ap (λ (x : Site). x.cell) w.site in
    let left = left_is w.us o.standing m o.image enters.op cell us ready (subst (λ t. CanReach t o.standing enters.op) told enters.reach) in
    told_stay m n opening first s o.units o.armed o.standing o.log k w s' stays o'.units (units_left enters.op w.us) o'.armed o.log w.recorded_from (enters.tells w.us w.told_are known) still
    (subst (λ x. WalksBy course m n opening (recorded m (drop first o.log)) x s') (sym left) (enters.walks course by_course m n opening (recorded m (drop first o.log)) (blocks_told w.us) w.over w.walks))

pub falling_entered : (m : Setting) (n : ℕ) (opening : State) (first : ℕ) (s s' : Stack) (o o' : RigState) → IsStack s → StackStays s s' →
    (enters : Enters o o' s s') → o.units ≡ units_told o.standing o.image → IsStanding o.standing o.image → o'.armed ≡ o.armed → WalksFalling m n opening first s o.units o.armed o.standing o.log → WalksFalling m n opening first s' o'.units o'.armed o.standing o.log
falling_entered m n opening first s s' o o' k stays enters laid ready still w = by enters.known where
  by : IsKnown enters.op enters.reply ⊎ Fails o o' enters.op s s' → WalksFalling m n opening first s' o'.units o'.armed o.standing o.log
  by (inl known) = (w.0, at_target_entered (Falling w.0) m n opening first s s' o o' k stays enters laid ready still known known w.1)
  by (inr f) =
      let t = w.1 in
      let us : units_told o.standing o.image ≡ Some t.us = sym laid ∙ t.told_are in
      let told : is_some o.image ≡ true = is_told o.standing o.image t.us us in
      let reach : CanReach true o.standing (Overwrite f.dev f.lba f.change) = subst (CanReach true o.standing) f.is (subst (λ x. CanReach x o.standing enters.op) told enters.reach) in
      let here = unit-stands o.standing o.image t.us f.dev us ready reach.device in
      let place = has_place t.us o.standing f.dev f.lba f.change (reach.place refl) in
      let cell : m.site.cell f.dev f.lba ≡ cell_in (shapes_of t.us) f.dev f.lba = ap (λ (x : Site). x.cell f.dev f.lba) t.site ∙ ap (λ x. cell_in x f.dev f.lba) (sym here.shapes) in
      let left = f.tells t.us t.told_are in
      let was = here_is t.us o.standing f.dev f.lba here place in
      let long : length left.0 ≡ length (get_or (blocks_told t.us) (m.site.cell f.dev f.lba) [])
      = left.1.0 ∙ (sym (long_here t.us o.standing f.dev f.lba here place) ∙ (ap length (sym was) ∙ ap (λ c. length (get_or (blocks_told t.us) c [])) (sym cell))) in
      let on = f.walks w.0 m n opening (recorded m (drop first o.log)) (blocks_told t.us) t.over t.walks left.0 long in
      let blocks : set (blocks_told t.us) (m.site.cell f.dev f.lba) left.0 ≡ blocks_told (with_block t.us f.dev f.lba left.0)
      = ap (λ c. set (blocks_told t.us) c left.0) cell ∙ sym (put_here t.us o.standing f.dev f.lba left.0 here place) in (
        on.0,
        record {
          over = over_stays m n opening s s' stays t.over;
          sizes = t.sizes;
          site = t.site ∙ ap (λ x. site_of x (specs_of o.standing)) (sym stays.adapter);
          behind = subst (λ (x : Sheet). AreAtUnits m (specs_of o.standing) x.ops) (sym stays.sheet) t.behind;
          armed_are = still ∙ (t.armed_are ∙ ap (λ x. x.tamper) (sym stays.adapter));
          recorded_from = t.recorded_from;
          us = with_block t.us f.dev f.lba left.0;
          told_are = left.1.1;
          walks = subst (λ x. WalksBy (Falling on.0) m n opening (recorded m (drop first o.log)) x s') blocks on.1;
        },
      )

-- where the count of faults didn't rise, its store call didn't fail
pub told_entered : (m : Setting) (n : ℕ) (opening : State) (first : ℕ) (s s' : Stack) (o o' : RigState) → IsStack s → StackStays s s' →
    (enters : Enters o o' s s') → o.units ≡ units_told o.standing o.image → IsStanding o.standing o.image → o'.armed ≡ o.armed → Calm o.faults o'.faults → WalksTold m n opening first s o.units o.armed o.standing o.log → WalksTold m n opening first s' o'.units o'.armed o.standing o.log
told_entered m n opening first s s' o o' k stays enters laid ready still calm w = by enters.known where
  by : IsKnown enters.op enters.reply ⊎ Fails o o' enters.op s s' → WalksTold m n opening first s' o'.units o'.armed o.standing o.log
  by (inl known) = at_target_entered Straight m n opening first s s' o o' k stays enters laid ready still known tt w
  by (inr f) = absurd (f.rose calm)
