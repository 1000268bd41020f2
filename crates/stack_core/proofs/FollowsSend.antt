-- A group is sent: its blocks are those of the script, and the stack follows on by what came of them.
use Rattle.std.proofs.Common.{◌≡◌, ◌<◌, ◌≤◌, ℕ, suc, ◌+◌, ◌-◌, false, List, [], ◌∷◌, ◌++◌, length, get_or, map, take, Some, sym, ap, subst, ◌∙◌, arith}
use Rattle.page_pool.specs.Cells.{flat}
use Rattle.page_pool.specs.Pages.{AreWhole}
use Rattle.bio_core.specs.Bios.{Block, block_size}
use Rattle.bio_core.specs.declared.fate.Fate.{Fate}
use Rattle.bio_core.specs.declared.request.Io.{Io}
use Rattle.dix_adapter.specs.declared.adapter.Adapter.{Adapter}
use Rattle.dix_adapter.specs.Groups.{blocks_in, data_cells, mode_of, route_of, tuple_cells}
use Rattle.range_gate.specs.Gates.{has_ended}
use Rattle.stack_ops.specs.declared.op.Op.{Op}
use Rattle.stack_laws.specs.Blocks.{blocks, place_of, times}
use Rattle.stack_laws.specs.Formed.{Formed, IsGroup}
use Rattle.stack_laws.specs.Plan.{Plan, request_at}
use Rattle.stack_laws.specs.Sound.{Sound}
use Rattle.stack_laws.specs.View.{View, group_at, is_admitted, no_op, op_at, queue_at}
use Rattle.block_path.specs.Acts.{State}
use Rattle.block_path.specs.Blocks.{Sent}
use Rattle.stack_walk_laws.specs.Passed.{rooms, own_at, Setting, block_of, route}
use Rattle.stack_walk_laws.specs.Gate.{BlockSpot}
use Rattle.stack_walk_laws.specs.Sending.{AllGoing, IsGoing, NoneBefore, carriage_of, with_fates}
use Rattle.stack_walk_laws.specs.Slots.{Cut, Status}
use Rattle.stack_walk_laws.specs.Spots.{op_in, spot_at, step_in}
use Rattle.stack_walk_laws.specs.Statuses.{fate_in, id_of, sent_as}
use Rattle.stack_walk_laws.proofs.Fates.{in_none}
use Rattle.stack_walk_laws.proofs.Groups.{AllNumbered, ids_are}
use Rattle.stack_walk_laws.proofs.Letting.{lets_of}
use Rattle.stack_walk_laws.proofs.Sending.{in_its_queue, sent_statuses}
use Rattle.stack_walk_laws.proofs.Spots.{may_move, spot_number, spot_ops, spot_place, steps_count}
use Rattle.stack_walk_laws.proofs.WalksStanding.{IsOut, is_sent, queued}
use Rattle.stack_core.specs.Courses.{Course, FollowsBy}
use Rattle.stack_walk_laws.specs.Sheets.{io_at}
use Rattle.stack_core.specs.Walking.{Data, Follow, shown_in, status_of, why_in}
use Rattle.stack_core.proofs.Completes.{all_numbered}
use Rattle.stack_core.proofs.Courses.{same_by}
use Rattle.stack_walk_laws.proofs.Facts.{place-is}
use Rattle.stack_core.proofs.FollowsEnd.{none_same}
use Rattle.stack_core.proofs.FollowsGroup.{AllApart, AllLie, Lies, Places, all_lie, apart_of, is_this}
use Rattle.stack_core.proofs.Spotted.{Stands, block_is, count_is}

-- the setting is the adapter's
pub record Adapts (m : Setting) (a : Adapter) : Type 0 where
  pub mode : m.mode ≡ mode_of a
  pub ty : m.ty ≡ a.ty

abbrev pub spots_of : Setting → List Op → List Block → List BlockSpot
spots_of m ops [] = []
spots_of m ops (b ∷ bs) = spot_at m ops (b.op - 1) b.k ∷ spots_of m ops bs

module _ (m : Setting) (n : ℕ) (opening : State) (p : Plan) (ops : List Op) (ios : List Io) (d : Data) (v : View) (g : Stands m n (length opening.logs) p ops ios d.pool) (s : Sound p v) (fm : Formed p v) (pl : Places m p ops ios) (a : Adapter) (ad : Adapts m a) (dev i : ℕ) (l : i < length (queue_at v dev)) (named : IsGroup p dev (group_at v dev i)) (times_one : (op k : ℕ) → times op k (blocks (group_at v dev i)) ≤ 1) where
  abbrev bs : List Block
  bs = blocks_in (group_at v dev i)

  abbrev status : ℕ → ℕ → Status
  status = status_of p d v

  pub group_lies : AllLie m ios bs
  group_lies = all_lie m p ops ios pl dev (group_at v dev i) named.named

  pub group_numbered : AllNumbered bs
  group_numbered = all_numbered m ios bs group_lies

  pub ids : map id_of bs ≡ blocks (group_at v dev i)
  ids = ids_are (group_at v dev i)

  pub once_is : (op k : ℕ) → times op k (map id_of bs) ≤ 1
  once_is op k = subst (λ x. times op k x ≤ 1) (sym ids) (times_one op k)

  pub out_is : (op k : ℕ) → 1 ≤ times op k (map id_of bs) → IsOut p v op k × (status (suc op) k ≡ Cut)
  out_is op k h =
      let t = in_its_queue v dev i op k l in
      let h' = subst (λ x. 1 ≤ times op k x) ids h in
      let r = queued p v op k s (omega arith) in
      (r.0, is_sent (request_at p op).count (op_at v op) (shown_in d.replies op k) (why_in d.starts d.held op k) (fate_in op k v.commands) k r.0.waits r.0.within r.0.unsettled r.0.is_cut ∙ ap sent_as (in_none op k v.commands r.1))

  -- one block is on its way as the adapter carries it
  is_going : (b : Block) → Lies m ios b → 1 ≤ times (place_of b.op) b.k (map id_of bs) → IsGoing m n ops a ios (length opening.logs) status b (spot_at m ops (b.op - 1) b.k)
  is_going b x h =
      let j = b.op - 1 in
      let u = x.numbered in
      let t = x.there in
      let mm = pl.many in
      let z : place_of b.op ≡ j = place-is b.op u in
      let e : suc j ≡ b.op = omega arith in
      let lo : j < length ops = omega arith in
      let c = count_is m n (length opening.logs) p ops ios d.pool g j lo in
      let inside = x.within in
      let st = steps_count m (suc j) (op_in ops j) (omega arith) in
      let plc = spot_place m ops j b.k (omega arith) in
      let num = spot_number m ops j b.k lo in
      let out = subst (λ y. IsOut p v y b.k × (status (suc y) b.k ≡ Cut)) z (out_is (place_of b.op) b.k h) in
      let vo = s.ops in
      let pm = g.plan.many in
      let lets = lets_of m n (length opening.logs) p ops g.ground g.plan v s (shown_in d.replies) (why_in d.starts d.held) j lo (λ k w y. s.order k j w (omega arith) out.0.waits y) in
      let io = io_at ios j in
      let size = g.size j (omega arith) in
      let r = route m (block_of (suc j) io.first b.k) in
      let op_is : r ≡ record r { label = record { op = b.op; k = b.k } } = ap (λ y. record r { label = record { op = y; k = b.k } }) e in
      let dev_is = ap (λ y. record r { label = record { op = b.op; k = b.k }; dev = y }) x.dev in
      let lba_is = ap (λ y. record r { label = record { op = b.op; k = b.k }; dev = b.dev; lba = y }) x.lba in
      let ty_is = ap (λ y. record r { label = record { op = b.op; k = b.k }; dev = b.dev; lba = b.lba; ty = y }) ad.ty in
      let size_is = ap (λ y. record r { label = record { op = b.op; k = b.k }; dev = b.dev; lba = b.lba; ty = a.ty; size = y }) (sym size) in
      let mode_is = ap (λ y. record r { label = record { op = b.op; k = b.k }; dev = b.dev; lba = b.lba; ty = a.ty; size = block_size io; mode = y }) ad.mode in
      let route_is : r ≡ route_of a ios b = op_is ∙ (dev_is ∙ (lba_is ∙ (ty_is ∙ (size_is ∙ mode_is)))) in
      let carriage = (block_is m n (length opening.logs) p ops ios d.pool g j lo b.k inside).carriage in
      record {
        script = spot_ops m ops j b.k lo;
        number = num ∙ e;
        place = plc;
        carriage = ap (λ y. carriage_of m (own_at (n + rooms m (take j ops)) y) (step_in m ops j b.k)) plc
            ∙ (carriage ∙ (ap (λ y. Some (record { route = y; dir = io.dir; frame = data_cells io b.k ++ tuple_cells io.pi b.k })) route_is ∙ ap (λ y. Some (record { route = route_of a ios b; dir = y; frame = data_cells io b.k ++ tuple_cells io.pi b.k })) (sym x.dir)));
        log = g.ground.logged j b.k lo (omega arith);
        is_cut = ap (λ y. status y b.k) (sym e) ∙ out.1;
        may = may_move m n (length opening.logs) ops g.ground status j b.k lo (omega arith) lets;
      }

  going : (cs : List Block) → AllLie m ios cs → AllApart cs → ((op k : ℕ) → times op k (map id_of cs) ≤ times op k (map id_of bs)) → AllGoing m n ops a ios (length opening.logs) status cs (spots_of m ops cs)
  going [] x e h = tt
  going (b ∷ cs) x e h =
      let this = is_this b in
      let t = h (place_of b.op) b.k in
      (is_going b x.0 (omega arith), (e.0, going cs x.1 e.1 (λ op k. (let q = h op k in omega arith))))

  pub all_going : AllGoing m n ops a ios (length opening.logs) status bs (spots_of m ops bs)
  all_going = going bs group_lies (apart_of bs once_is) (λ op k. omega arith)

  -- ---- what came of it

  module _ (es es' : List Sent) (fates : List Fate) (w : View) (wo : w.ops ≡ v.ops) (wc : w.commands ≡ v.commands ++ (record { dev = dev; bios = group_at v dev i; fates = fates; completed = false } ∷ [])) where
    same : (j q : ℕ) → status_of p d w j q ≡ with_fates bs fates status j q
    same = sent_statuses p v s (shown_in d.replies) (why_in d.starts d.held) dev i l fates group_numbered times_one w wo wc

    -- the statuses are those by the fates of its blocks
    pub sent_follows : (course : Course) (over : Setting) (now after : State) (pool : List (List ℕ)) → Follow course over n opening es p ops d v now → AreWhole pool → (over' : Setting) → after.bytes ≡ flat pool → FollowsBy course over' n ops opening (with_fates bs fates status) after es' → Follow course over' n opening es' p ops (record d { pool = pool }) w after
    sent_follows course over now after pool h whole over' bytes f = record {
      bytes = bytes;
      whole = whole;
      follows = same_by course over' n ops opening after (with_fates bs fates status) (status_of p (record d { pool = pool }) w) es' same f;
      begun = λ j e. h.begun j (sym (ap (λ x. is_admitted (get_or x j no_op).phase) wo) ∙ e);
      replied = λ j lj e. h.replied j lj (sym (ap (λ x. has_ended (get_or x j no_op).phase) wo) ∙ e);
      failed = λ j lj e. h.failed j lj (sym (ap (λ x. has_ended (get_or x j no_op).phase) wo) ∙ e);
      suited = λ j lj e. h.suited j lj (sym (ap (λ x. has_ended (get_or x j no_op).phase) wo) ∙ e);
    }

    pub sent_before : (pool : List (List ℕ)) → NoneBefore (with_fates bs fates status) es' → NoneBefore (status_of p (record d { pool = pool }) w) es'
    sent_before pool f = none_same (with_fates bs fates status) (status_of p (record d { pool = pool }) w) es' same f
