-- The sizes of stored blocks along a script of a mirror, and of the frames that are read.
use Rattle.std.proofs.Common.{◌≡◌, ◌<◌, ◌≤◌, ℕ, zero, suc, ◌+◌, ◌%◌, ◌^◌, Bool, true, false, eqb, if◌then◌else◌, List, [], ◌∷◌, length, map, get_or, set, take, Option, Some, None, refl, sym, ap, subst, ◌∙◌, arith, length-append}
use Rattle.std.specs.Prelude.{IfOk, Result, Ok, Err}
use Rattle.std.proofs.lemmas.Bool.{eqb-true, eqb-false}
use Rattle.std.proofs.lemmas.List.{get_or-set_other, length-take-le}
use Rattle.page_pool.specs.Cells.{gather}
use Rattle.pi_tuple.specs.declared.checks.Check.{Check}
use Rattle.fault_schedule.specs.Altered.{byte_at}
use Rattle.fault_schedule.proofs.Xored.{length-xored}
use Rattle.integrity_payload.specs.declared.payload.Owner.{Owner}
use Rattle.integrity_payload.specs.declared.payload.Owner.TheVariants.{App as OfApp, Block as OfBlock}
use Rattle.bio_core.specs.declared.fate.Why.{Why}
use Rattle.rig_api.specs.declared.change.Change.{Change}
use Rattle.rig_api.specs.declared.change.Change.TheVariants.{Copy, Flip}
use Rattle.stack_ops.specs.declared.op.Op.{Op}
use Rattle.stack_ops.specs.declared.op.Op.TheVariants.{Fetch, FetchPi, Fill, Overwrite, Put, Seal, Show, Wait, Write, WritePi}
use Rattle.rig_api.specs.Frames.{frame_of, stored_size}
use Rattle.volume_table.specs.Places.{volume_len}
use Rattle.block_path.specs.declared.route.Route.{Route}
use Rattle.block_path.specs.Acts.{State, act, tell}
use Rattle.block_path.specs.Blocks.{fetched_cell, own_frame, own_tuple, stored_cell}
use Rattle.block_path.specs.Routes.{Device, host_size, target, wire_size}
use Rattle.block_path.specs.Serial.{plain}
use Rattle.block_path.specs.WayIn.{delivered_of, delivered_unless, from_device, from_wire, mapped_back, owner_finds, verified, at_host}
use Rattle.block_path.specs.WayOut.{from_adapter, mapped_out, stored_of, to_wire, at_device}
use Rattle.block_path.proofs.Cells.{gather_length}
use Rattle.block_path.proofs.Leaves.{kept_length}
use Rattle.block_path.proofs.Sizes.{in_size, mapped_sizes, out_size}
use Rattle.block_path.proofs.InTurn.{plain_append}
use Rattle.walk_laws.specs.Past.{Brought, brought_by, steps_from}
use Rattle.walk_laws.specs.ScriptWalk.{act_of, changed, source_of}
use Rattle.walk_laws.specs.Settings.{Block, Setting, block_of, route}
use Rattle.walk_laws.specs.Steps.{Reads, Seals, Step, Writes, WritesPi, body_of, each_from, frame_at, steps_of, tuple_of}
use Rattle.walk_laws.specs.UnderMap.{home}
use Rattle.walk_laws.proofs.CalmRuns.{part_length}
use Rattle.run_laws.proofs.AtTarget.{sends_length, stores_length}
use Rattle.mirror_laws.specs.Mirror.{Mirror, asked, done, is_none, marks_of, twin}
use Rattle.mirror_laws.specs.declared.marks.Marks.{Marks}
use Rattle.mirror_laws.specs.Repair.{WalkedRepair, good, mended, on_leg0, on_leg1, reading, repair_block, repair_from, repaired_by, steady, writing}
use Rattle.mirror_laws.specs.OnLegs.{stored_at}
use Rattle.mirror_laws.specs.LegByLeg.{DeliversWhole, HasLegs}
use Rattle.mirror_laws.specs.Sizes.{AllHavePlaces, HasPlace, HasSizes, KeepsSizes}
use Rattle.mirror_laws.proofs.Stretches.{steady_legs}
use Rattle.mirror_laws.proofs.WriteByLegs.{fetched_home, stored_home, write_stores}

own_size : (r : Route) (app : ℕ) (body : List ℕ) → length body ≡ r.size → length (own_frame r app body) ≡ host_size r
own_size r app body l = by r.mode.dix where
  by : (d : Bool) → length (if d then frame_of body (own_tuple r app body) else body) ≡ (if d then r.size + 8 else r.size)
  by true = let e : length (frame_of body (own_tuple r app body)) ≡ length body + 8 = length-append body _ in omega (arith, e, l)
  by false = l

-- what comes at the end of a way out
came_out : (device : Device) (r : Route) (n : ℕ) (x : Result (List ℕ) Check) → IfOk x (λ f. length f ≡ wire_size r) → ((f : List ℕ) → length f ≡ wire_size r → IfOk (device.stores r f) (λ stored. length stored ≡ n)) →
    IfOk (stored_of (from_adapter device r x)) (λ stored. length stored ≡ n)
came_out device r n (Ok carried) h k = by (device.stores r carried) (k carried h) where
  by : (came : Result (List ℕ) Why) → IfOk came (λ stored. length stored ≡ n) → IfOk (stored_of (at_device carried came)) (λ stored. length stored ≡ n)
  by (Ok stored) l = l
  by (Err why) l = tt
came_out device r n (Err check) h k = tt

-- and of a way in
at_owner : (r : Route) (carried frame : List ℕ) (found : Option Check) → length (mapped_back r frame) ≡ host_size r → IfOk (delivered_of (delivered_unless OfBlock carried (mapped_back r frame) found)) (λ f. length f ≡ host_size r)
at_owner r carried frame None l = l
at_owner r carried frame (Some check) l = tt

came_back : (r : Route) (carried : List ℕ) (x : Result (List ℕ) Check) → IfOk x (λ f. length f ≡ host_size r) → IfOk (delivered_of (verified r OfBlock (at_host carried x))) (λ f. length f ≡ host_size r)
came_back r carried (Ok frame) l = at_owner r carried frame (owner_finds r (mapped_back r frame)) (mapped_sizes r frame l).1
came_back r carried (Err check) l = tt

came_in : (m : Setting) (r : Route) (sent : Result (List ℕ) Why) → IfOk sent (λ f. length f ≡ wire_size r) → IfOk (delivered_of (verified r OfBlock (from_device m.site.faults r sent))) (λ f. length f ≡ host_size r)
came_in m r (Ok carried) l = came_back r carried (from_wire m.site.faults r carried) (in_size m.site.faults r carried l)
came_in m r (Err why) l = tt

host_least : (r : Route) → r.size ≤ host_size r
host_least r = by r.mode.dix where
  by : (d : Bool) → r.size ≤ (if d then r.size + 8 else r.size)
  by true = omega arith
  by false = omega arith

of_ok : (n : ℕ) (came : Result (List ℕ) Why) (frame : List ℕ) → came ≡ Ok frame → IfOk came (λ f. length f ≡ n) → length frame ≡ n
of_ok n came frame e h = subst (λ (x : Result (List ℕ) Why). IfOk x (λ f. length f ≡ n)) e h

-- a block that is set is as long as the one before it, or as it should be
set_here : (cells : List (List ℕ)) (c n : ℕ) (x : List ℕ) → length x ≡ n → length (get_or cells c []) ≡ n → length (get_or (set cells c x) c []) ≡ n
set_here [] c n x e h = h
set_here (y ∷ cells) zero n x e h = e
set_here (y ∷ cells) (suc c) n x e h = set_here cells c n x e h

set_keeps : (opening blocks : List (List ℕ)) (c : ℕ) (x : List ℕ) → KeepsSizes opening blocks → length x ≡ length (get_or opening c []) → KeepsSizes opening (set blocks c x)
set_keeps opening blocks c x h e i = by (eqb i c) refl where
  by : (t : Bool) → eqb i c ≡ t → length (get_or (set blocks c x) i []) ≡ length (get_or opening i [])
  by true q = subst (λ j. length (get_or (set blocks c x) j []) ≡ length (get_or opening j [])) (sym (eqb-true i c q)) (set_here blocks c (length (get_or opening c [])) x e (h c))
  by false q = ap length (get_or-set_other blocks c i x [] (eqb-false i c q)) ∙ h i

changed_length : (change : Change) (block : List ℕ) → length (changed change block) ≡ length block
changed_length (Flip off bytes) block = length-xored (byte_at off bytes) 0 block
changed_length (Copy from at) block = refl

module _ (m : Setting) (half : ℕ) (opening : List (List ℕ)) (legs : HasLegs m half) (sizes : HasSizes m opening) where
  writing_size : (b : Block) (e : Brought) → length e.body ≡ m.size → IfOk (writing m b e) (λ stored. length stored ≡ stored_size m.ty m.size)
  writing_size b e l =
      let r = route m b in
      let frame = mapped_out r (own_frame r e.app e.body) in
      let onto = to_wire m.site.faults r frame in
      subst (λ (d : Device). IfOk (stored_of (from_adapter d r onto)) (λ stored. length stored ≡ stored_size m.ty m.size)) (sym sizes.device)
      (came_out (target m.site.faults) r (stored_size m.ty m.size) onto (out_size m.site.faults r frame (mapped_sizes r (own_frame r e.app e.body) (own_size r e.app e.body l)).0) (stores_length m.site.faults r sizes.protect))

  pub reading_size : (b : Block) (blocks : List (List ℕ)) → b.virt < volume_len m.entries → KeepsSizes opening blocks → IfOk (reading m b blocks) (λ f. length f ≡ host_size (route m b))
  reading_size b blocks l h =
      let r = route m b in
      let stored = get_or blocks (fetched_cell m.site r) [] in
      let long : length stored ≡ stored_size m.ty m.size = ap (λ c. length (get_or blocks c [])) (fetched_home m half legs b) ∙ h (home m b.virt) ∙ sizes.stored b.virt l in
      came_in m r (m.site.device.sends r stored)
      (subst (λ (d : Device). IfOk (d.sends r stored) (λ f. length f ≡ wire_size r)) (sym sizes.device) (sends_length m.site.faults r sizes.protect stored long))

  pub delivers_whole : (blocks : List (List ℕ)) → KeepsSizes opening blocks → DeliversWhole m blocks
  delivers_whole blocks h b frame l e =
      let k = of_ok (host_size (route m b)) (reading m b blocks) frame e (reading_size b blocks l h) in
      let least : m.size ≤ host_size (route m b) = host_least (route m b) in
      omega (arith, k, least)

  -- what is accepted is as long as what was there
  store_keeps : (b : Block) (e : Brought) (blocks : List (List ℕ)) → b.virt < volume_len m.entries → length e.body ≡ m.size → KeepsSizes opening blocks → KeepsSizes opening (stored_at (stored_cell m.site (route m b)) (m.site.device.leaves (route m b)) (writing m b e) blocks)
  store_keeps b e blocks l k h = by (writing m b e) (writing_size b e k) where
    by : (came : Result (List ℕ) Why) → IfOk came (λ stored. length stored ≡ stored_size m.ty m.size) → KeepsSizes opening (stored_at (stored_cell m.site (route m b)) (m.site.device.leaves (route m b)) came blocks)
    by (Ok stored) q =
        let cell = stored_cell m.site (route m b) in
        let old = get_or blocks cell [] in
        let own : length (get_or opening cell []) ≡ stored_size m.ty m.size = ap (λ c. length (get_or opening c [])) (stored_home m half legs b) ∙ sizes.stored b.virt l in
        set_keeps opening blocks cell (m.site.device.leaves (route m b) old stored) h
        (subst (λ (d : Device). length (d.leaves (route m b) old stored) ≡ length (get_or opening cell [])) (sym sizes.device)
        (kept_length m.site.faults (route m b).label old stored (length (get_or opening cell [])) (h cell) (q ∙ sym own)))
    by (Err why) q = h

  module _ (count : ℕ → ℕ) where
    abbrev Keeps : Mirror → Type 0
    Keeps s = KeepsSizes opening s.state.blocks

    -- steps one after another
    each_keeps : (f : ℕ → Step) (j r : ℕ) (s : Mirror) → ((k : ℕ) → k < j + r → (t : Mirror) → Keeps t → Keeps (done m half count (f k) t)) → Keeps s → Keeps (plain (done m half count) (each_from j r f) s)
    each_keeps f j zero s h k = k
    each_keeps f j (suc r) s h k = each_keeps f (suc j) r (done m half count (f j) s) (λ l t. h l (omega (arith, t))) (h j (omega arith) s k)

    write_keeps : (b : Block) (app : ℕ) (at : List ℕ) (s : State) → b.virt < volume_len m.entries → length at ≡ m.size → KeepsSizes opening s.blocks → KeepsSizes opening (act (act_of m (Writes b app at)) s).blocks
    write_keeps b app at s l e h =
        subst (KeepsSizes opening) (sym (write_stores m b app at s)) (store_keeps b (record { body = gather 0 at s.bytes; app = app }) s.blocks l (gather_length 0 at s.bytes ∙ e) h)

    both_keep : (b : Block) (app : ℕ) (at : List ℕ) (s : Mirror) → b.virt < half → length at ≡ m.size → Keeps s → Keeps (done m half count (Writes b app at) s)
    both_keep b app at s l e h =
        let long = legs.long in
        write_keeps (twin m half count b) app at (act (act_of m (Writes b app at)) s.state) (omega (arith, l, long)) e
        (write_keeps b app at s.state (omega (arith, l, long)) e h)

    -- A read stores nothing.
    asked_stores : (f0 f1 d : Bool) (b c : Block) (owner : Owner) (to : List ℕ) (s : State) → (plain act (map (act_of m) (asked f0 f1 d (Reads b owner to) (Reads c owner to))) s).blocks ≡ s.blocks
    asked_stores true true true b c owner to s = refl
    asked_stores true true false b c owner to s = refl
    asked_stores true false d b c owner to s = refl
    asked_stores false f1 d b c owner to s = refl

    read_keeps : (b : Block) (owner : Owner) (to : List ℕ) (s : Mirror) → Keeps s → Keeps (done m half count (Reads b owner to) s)
    read_keeps b owner to s h =
        subst (KeepsSizes opening) (sym (asked_stores (marks_of s.marks b.virt).leg0 (marks_of s.marks b.virt).leg1 (is_none (tell (act_of m (Reads b owner to)) s.state).why) b (twin m half count b) owner to s.state)) h

    op_keeps : (i : ℕ) (op : Op) (s : Mirror) → HasPlace m half opening op → Keeps s → Keeps (plain (done m half count) (steps_of m i op) s)
    op_keeps i (Fill seg byte) s p h = h
    op_keeps i (Put page off values) s p h = h
    op_keeps i (Show seg) s p h = h
    op_keeps i (Seal n body tuples app rtag) s p h = each_keeps (λ k. Seals (body_of m.size body k) (tuple_of tuples k) app ((rtag + k) % 2 ^ 32)) 0 n s (λ k l t g. g) h
    op_keeps i (Write v n body app) s p h =
        let within = p.0 in
        each_keeps (λ k. Writes (block_of i v k) app (body_of m.size body k)) 0 n s
        (λ k l t g. both_keep (block_of i v k) app (body_of m.size body k) t (omega (arith, within, l)) (part_length body m.size k n p.1 (omega (arith, l))) g) h
    op_keeps i (Fetch v n body) s p h = each_keeps (λ k. Reads (block_of i v k) OfBlock (body_of m.size body k)) 0 n s (λ k l t g. read_keeps (block_of i v k) OfBlock (body_of m.size body k) t g) h
    op_keeps i (WritePi v n body tuples) s p h = each_keeps (λ k. WritesPi (block_of i v k) (frame_at m.size body tuples k)) 0 n s (λ k l t g. g) h
    op_keeps i (FetchPi v n body tuples) s p h =
        each_keeps (λ k. Reads (block_of i v k) OfApp (frame_at m.size body tuples k)) 0 n s (λ k l t g. read_keeps (block_of i v k) OfApp (frame_at m.size body tuples k) t g) h
    op_keeps i (Overwrite dev lba change) s p h =
        let source = source_of m.site dev lba change in
        set_keeps opening s.state.blocks (m.site.cell dev lba) (changed change (get_or s.state.blocks source [])) h (changed_length change (get_or s.state.blocks source []) ∙ h source ∙ p)
    op_keeps i Wait s p h = h

    pub ops_keep : (i : ℕ) (ops : List Op) (s : Mirror) → AllHavePlaces m half opening ops → KeepsSizes opening s.state.blocks → KeepsSizes opening (plain (done m half count) (steps_from m i ops) s).state.blocks
    ops_keep i [] s p h = h
    ops_keep i (op ∷ ops) s p h =
        subst (λ (t : Mirror). KeepsSizes opening t.state.blocks) (sym (plain_append (done m half count) (steps_of m i op) (steps_from m (suc i) ops) s))
        (ops_keep (suc i) ops (plain (done m half count) (steps_of m i op) s) p.1 (op_keeps i op s p.0 h))

  -- a block that is repaired
  mended_keeps : (u : ℕ) (b : Block) (mark : Bool → Marks → Marks) (e : Brought) (r : WalkedRepair) → b.virt < volume_len m.entries → length e.body ≡ m.size → KeepsSizes opening r.blocks → KeepsSizes opening (mended m u b mark (writing m b e) r).blocks
  mended_keeps u b mark e r l k h = by (writing m b e) (store_keeps b e r.blocks l k h) where
    by : (came : Result (List ℕ) Why) → KeepsSizes opening (stored_at (stored_cell m.site (route m b)) (m.site.device.leaves (route m b)) came r.blocks) → KeepsSizes opening (mended m u b mark came r).blocks
    by (Ok stored) q = q
    by (Err why) q = q

  -- what a good leg holds has all data
  abbrev IsWhole : Option (List ℕ) → Type 0
  IsWhole None = Unit {0}
  IsWhole (Some frame) = length (take m.size frame) ≡ m.size

  good_whole : (bit : Bool) (b : Block) (r : WalkedRepair) → b.virt < volume_len m.entries → KeepsSizes opening r.blocks → IsWhole (good bit (reading m b r.blocks))
  good_whole bit b r l h = by bit (reading m b r.blocks) (λ frame e. delivers_whole r.blocks h b frame l e) where
    by : (bit : Bool) (came : Result (List ℕ) Why) → ((frame : List ℕ) → came ≡ Ok frame → m.size ≤ length frame) → IsWhole (good bit came)
    by true (Ok frame) k = length-take-le m.size frame (k frame refl)
    by true (Err why) k = tt
    by false came k = tt

  repaired_keeps : (u : ℕ) (one other : Option (List ℕ)) (r : WalkedRepair) → u < half → IsWhole one → IsWhole other → KeepsSizes opening r.blocks → KeepsSizes opening (repaired_by m half u one other r).blocks
  repaired_keeps u None None r l p q h = h
  repaired_keeps u (Some frame) None r l p q h =
      let long = legs.long in
      mended_keeps u (on_leg1 half u) (λ bit old. record old { leg1 = bit }) (brought_by m.size frame) r (omega (arith, l, long)) p h
  repaired_keeps u None (Some frame) r l p q h =
      let long = legs.long in
      mended_keeps u (on_leg0 u) (λ bit old. record old { leg0 = bit }) (brought_by m.size frame) r (omega (arith, l, long)) q h
  repaired_keeps u (Some frame) (Some other) r l p q h = h

  pub repair_keeps : (u n : ℕ) (r : WalkedRepair) → u + n ≤ half → KeepsSizes opening r.blocks → KeepsSizes opening (repair_from m half u n r).blocks
  repair_keeps u zero r l h = h
  repair_keeps u (suc n) r l h =
      let long = legs.long in
      repair_keeps (suc u) n (repair_block m half u r) (omega (arith, l))
      (repaired_keeps u (good (marks_of r.marks u).leg0 (reading m (on_leg0 u) r.blocks)) (good (marks_of r.marks u).leg1 (reading m (on_leg1 half u) r.blocks)) r (omega (arith, l))
      (good_whole (marks_of r.marks u).leg0 (on_leg0 u) r (omega (arith, l, long)) h) (good_whole (marks_of r.marks u).leg1 (on_leg1 half u) r (omega (arith, l, long)) h) h)

-- without faults, too
pub steady_sizes : (m : Setting) (opening : List (List ℕ)) → HasSizes m opening → HasSizes (steady m) opening
steady_sizes m opening sizes = record { device = refl; protect = sizes.protect; stored = sizes.stored }

pub steady_keeps : (m : Setting) (half : ℕ) (opening : List (List ℕ)) (u n : ℕ) (r : WalkedRepair) → HasLegs m half → HasSizes m opening → u + n ≤ half → KeepsSizes opening r.blocks → KeepsSizes opening (repair_from (steady m) half u n r).blocks
steady_keeps m half opening u n r legs sizes l h = repair_keeps (steady m) half opening (steady_legs m half legs) (steady_sizes m opening sizes) u n r l h
