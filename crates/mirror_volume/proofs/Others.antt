-- The ops of a mirror that are no requests, and each op by its kind.
use Rattle.std.proofs.Common.{◌≡◌, ◌<◌, ◌≤◌, ℕ, ◌+◌, ◌-◌, Bool, true, false, ◌&&◌, ◌||◌, List, [], ◌∷◌, length, map, get_or, set, replicate, None, refl, sym, ap, ◌∙◌, subst, arith, append-nil}
use Rattle.std.specs.Prelude.{nat_le}
use Rattle.std.proofs.lemmas.Bool.{and_parts}
use Rattle.std.proofs.lemmas.List.{length-set}
use Rattle.fault_schedule.specs.Altered.{byte_at, xored_from}
use Rattle.page_pool.specs.declared.segs.Seg.{Seg}
use Rattle.page_pool.specs.Cells.{flat, gather, scatter}
use Rattle.page_pool.specs.Pages.{AreWhole, Wrote, bytes_at, part}
use Rattle.page_pool.specs.Places.{PageByte, places_in, places_of}
use Rattle.page_pool.specs.Walking.{AllStandIn}
use Rattle.page_pool.proofs.Celled.{read-cells, wrote-cells}
use Rattle.page_pool.proofs.Paging.{part-is}
use Rattle.pi_tuple.specs.declared.checks.PiType.{PiType}
use Rattle.range_gate.specs.Cells.{cells_of}
use Rattle.rig_api.specs.Telling.{block_at, changed as changed_told, unit_at, with_block}
use Rattle.rig_api.specs.declared.change.Change.{Change}
use Rattle.rig_api.specs.declared.change.Change.TheVariants.{Copy, Flip}
use Rattle.rig_discovery.specs.Discovery.{info_of}
use Rattle.rig_api.specs.Target.{Stored}
use Rattle.volume_table.specs.declared.device.DeviceInfo.{DeviceInfo}
use Rattle.volume_table.specs.Tables.{IsOn, Table}
use Rattle.dix_adapter.specs.Ways.{blocks_told, cell_in, shapes_of}
use Rattle.dix_adapter.proofs.Puts.{cell-is, told-at, told-puts, told-shapes}
use Rattle.block_path.specs.Acts.{State}
use Rattle.stack_ops.specs.Footprints.{put_seg}
use Rattle.stack_ops.specs.declared.op.Op.{Op}
use Rattle.stack_ops.specs.declared.op.Op.TheVariants.{Fetch, FetchPi, Fill, Overwrite, Put, Seal, Show, Wait, Write, WritePi}
use Rattle.stack_ops.specs.declared.reply.Reply.{Reply}
use Rattle.stack_ops.specs.declared.reply.Reply.TheVariants.{Shown}
use Rattle.walk_laws.specs.ScriptWalk.{changed, source_of}
use Rattle.walk_laws.specs.Settings.{Setting}
use Rattle.script_text.specs.declared.script.Script.{Script}
use Rattle.script_text.specs.Ops.{data_fault}
use Rattle.script_text.specs.Segments.{is_inside}
use Rattle.mirror_volume.proofs.LegsPassed.{device-is, known-in, lies, one-stands, no_fault, found_inside}
use Rattle.mirror_volume.specs.LegsPassed.{table_of, IsStackOp, op_fault}
use Rattle.mirror_laws.specs.Mirror.{Mirror, blocks_in, marks_of}
use Rattle.mirror_laws.specs.LegByLeg.{Leaves}
use Rattle.mirror_laws.proofs.OtherOps.{no_request}
use Rattle.mirror_volume.specs.LegRuns.{AllWalked, LegRun}
use Rattle.mirror_volume.specs.OnOps.{OpBy, OpWalked, Sets, Sides}
use Rattle.mirror_volume.specs.Standing.{IsMirrorOver, half_of, mirror_setting}
use Rattle.mirror_volume.proofs.Fetched.{fetch-goes}
use Rattle.mirror_volume.proofs.OneLeg.{ReadLaw}
use Rattle.mirror_volume.proofs.Requests.{overwrite-fits, request-fits}
use Rattle.mirror_volume.proofs.Wrote.{Goes, standing, write-goes}

-- ---- a stored block is changed

-- a unit has the address
pub record IsSpot (us : List Stored) (dev lba : ℕ) : Type 0 where
  pub there : dev < length us
  pub inside : lba - (unit_at us dev).first < length (unit_at us dev).blocks

pub spot : (us : List Stored) (ty : PiType) (size dev lba : ℕ) → IsOn (map info_of (shapes_of us)) ty size dev lba 1 → IsSpot us dev lba
spot us ty size dev lba h =
    let l = known-in us dev h.known in
    let d = device-is us dev l in
    let low : (unit_at us dev).first ≤ lba = subst (λ (x : DeviceInfo). x.first ≤ lba) d h.begins in
    let high : lba + 1 ≤ (unit_at us dev).first + length (unit_at us dev).blocks = subst (λ (x : DeviceInfo). lba + 1 ≤ x.first + x.blocks) d h.ends in
    record { there = l; inside = omega (arith, low, high) }

here-is : (us : List Stored) (dev lba : ℕ) → IsSpot us dev lba → get_or (blocks_told us) (cell_in (shapes_of us) dev lba) [] ≡ block_at us dev lba
here-is us dev lba h = ap (λ c. get_or (blocks_told us) c []) (cell-is us dev lba h.there) ∙ told-at us dev (lba - (unit_at us dev).first) h.there h.inside

pub put-here : (us : List Stored) (dev lba : ℕ) (block : List ℕ) → IsSpot us dev lba → blocks_told (with_block us dev lba block) ≡ set (blocks_told us) (cell_in (shapes_of us) dev lba) block
put-here us dev lba block h =
    let inside = h.inside in
    told-puts us dev (lba - (unit_at us dev).first) (block ∷ []) h.there (omega (arith, inside)) ∙ ap (λ c. set (blocks_told us) c block) (sym (cell-is us dev lba h.there))

change-is : (m : Setting) (us : List Stored) (dev lba : ℕ) (change : Change) → m.site.cell ≡ cell_in (shapes_of us) → IsSpot us dev lba → ((from at : ℕ) → change ≡ Copy from at → IsSpot us from at) →
    changed_told us change (block_at us dev lba) ≡ changed change (get_or (blocks_told us) (source_of m.site dev lba change) [])
change-is m us dev lba (Flip off bytes) e h k = ap (λ block. xored_from (byte_at off bytes) 0 block) (sym (here-is us dev lba h) ∙ ap (λ cell. get_or (blocks_told us) (cell dev lba) []) (sym e))
change-is m us dev lba (Copy from at) e h k = sym (here-is us from at (k from at refl)) ∙ ap (λ cell. get_or (blocks_told us) (cell from at) []) (sym e)

-- ---- each op

module _ (law : ReadLaw) (s : Script) (devices : List DeviceInfo) (now : List Stored) (over : IsMirrorOver s devices now) (rest : State) (old : Sides) (whole : AreWhole old.pool) (paged : length old.pool ≡ s.pages)
    (count : ℕ → ℕ) (i : ℕ) (marked : length old.marks ≡ half_of s devices) (never : (u : ℕ) → ((marks_of old.marks u).leg0 || (marks_of old.marks u).leg1) ≡ true) where
  abbrev half : ℕ
  half = half_of s devices

  abbrev t : Table
  t = table_of s devices

  abbrev setting : Setting
  setting = mirror_setting s devices now

  abbrev before : Mirror
  before = standing rest old now

  by-leaves : (op : Op) (next : Mirror) (replies : Bool → Reply) (left : List Stored) (new : Sides) (reply : Reply) → Leaves setting half count i op before next replies
      → flat new.pool ≡ next.state.bytes → new.marks ≡ next.marks → shapes_of left ≡ shapes_of now → blocks_told left ≡ next.state.blocks → reply ≡ replies false → Goes setting half count i op before now left new reply
  by-leaves op next replies left new reply l p m h b r = record {
    pages = p ∙ ap (λ (x : Mirror). x.state.bytes) (sym l.next_is);
    marks = m ∙ ap (λ (x : Mirror). x.marks) (sym l.next_is);
    shapes = h;
    blocks = b ∙ ap (λ (x : Mirror). x.state.blocks) (sym l.next_is);
    reply_is = r ∙ sym (l.reply_is false);
  }

  none-run : (runs : List LegRun) (left : List Stored) → runs ≡ [] → AllWalked t now runs left → left ≡ now
  none-run runs left e all = subst (λ (rs : List LegRun). AllWalked t now rs left) e all

  sets-cells : (seg : Seg) (values : List ℕ) (new : Sides) (runs : List LegRun) → is_inside s.pages seg ≡ true → Sets seg values old new runs → flat new.pool ≡ scatter (cells_of (seg ∷ [])) values (flat old.pool)
  sets-cells seg values new runs inside w =
      wrote-cells old.pool new.pool (places_in (seg ∷ [])) values whole (subst (λ k. AllStandIn k (places_in (seg ∷ []))) (sym paged) (one-stands s.pages seg inside))
      (subst (λ (ps : List PageByte). Wrote old.pool new.pool ps values) (sym (append-nil (places_of seg))) w.pages)

  shows-cells : (seg : Seg) → is_inside s.pages seg ≡ true → part old.pool seg ≡ gather 0 (cells_of (seg ∷ [])) (flat old.pool)
  shows-cells seg inside =
      part-is old.pool seg whole (lies s.pages old.pool seg paged inside)
      ∙ ap (λ (ps : List PageByte). bytes_at old.pool ps) (sym (append-nil (places_of seg)))
      ∙ read-cells old.pool (places_in (seg ∷ [])) whole (subst (λ k. AllStandIn k (places_in (seg ∷ []))) (sym paged) (one-stands s.pages seg inside))

  -- what an overwrite changes
  changes : (dev lba : ℕ) (change : Change) → op_fault s.mode.protect t devices s.block (Overwrite dev lba change) ≡ None → IsSpot now dev lba × ((from at : ℕ) → change ≡ Copy from at → IsSpot now from at)
  changes dev lba change h =
      let good = overwrite-fits s.mode.protect t devices s.block dev lba change h in
      let on : (d l : ℕ) → IsOn devices t.ty s.block d l 1 → IsSpot now d l = λ d l o. spot now t.ty s.block d l (subst (λ (ds : List DeviceInfo). IsOn ds t.ty s.block d l 1) over.units o) in
      (on dev lba good.to, λ from at e. on from at (good.copied from at e))

  pub next-op : (op : Op) (new : Sides) (runs : List LegRun) (reply : Reply) (left : List Stored) → IsStackOp s.mode.dix s.pages s.block op → op_fault s.mode.protect t devices s.block op ≡ None → count i ≡ blocks_in op
      → OpBy s half i op old new runs reply → OpWalked op t now runs reply left → Goes setting half count i op before now left new reply
  next-op (Fill seg byte) new runs reply left k fault counted by all =
      let inside = found_inside (is_inside s.pages seg) _ _ k.rules in
      let same = none-run runs left by.0.none all in
      by-leaves (Fill seg byte) _ _ left new reply (no_request setting half count i (Fill seg byte) before) (sets-cells seg (replicate seg.len byte) new runs inside by.0) by.0.marks (ap shapes_of same) (ap blocks_told same) by.1
  next-op (Put page off bytes) new runs reply left k fault counted by all =
      let inside = found_inside (is_inside s.pages (put_seg page off bytes)) _ _ k.rules in
      let same = none-run runs left by.0.none all in
      by-leaves (Put page off bytes) _ _ left new reply (no_request setting half count i (Put page off bytes) before) (sets-cells (put_seg page off bytes) bytes new runs inside by.0) by.0.marks (ap shapes_of same) (ap blocks_told same) by.1
  next-op (Show seg) new runs reply left k fault counted by all =
      let inside = (and_parts (is_inside s.pages seg) (nat_le seg.len 64) (found_inside (is_inside s.pages seg && nat_le seg.len 64) _ _ k.rules)).0 in
      let same = none-run runs left by.0.none all in
      by-leaves (Show seg) _ _ left new reply (no_request setting half count i (Show seg) before) (ap (λ (x : Sides). flat x.pool) by.0.same) (ap (λ (x : Sides). x.marks) by.0.same) (ap shapes_of same) (ap blocks_told same)
      (by.1 ∙ ap Shown (shows-cells seg inside))
  next-op (Seal n body tuples app rtag) new runs reply left k fault counted by all = absurd cc
  next-op (Write v n body app) new runs reply left k fault counted by all =
      write-goes s devices now over rest old whole paged count i v n body (request-fits s devices v n body over.bound (no_fault (data_fault s.pages s.block n body) _ _ k.rules) fault) counted app new runs reply left by.0 by.1 all
  next-op (Fetch v n body) new runs reply left k fault counted by all =
      fetch-goes law s devices now over rest old whole paged count i v n body (request-fits s devices v n body over.bound (no_fault (data_fault s.pages s.block n body) _ _ k.rules) fault) counted marked never new runs reply left by all
  next-op (WritePi v n body tuples) new runs reply left k fault counted by all = absurd cc
  next-op (FetchPi v n body tuples) new runs reply left k fault counted by all = absurd cc
  next-op (Overwrite dev lba change) new runs reply left k fault counted by all =
      let c = changes dev lba change fault in
      let block = changed_told now change (block_at now dev lba) in
      by-leaves (Overwrite dev lba change) _ _ left new reply (no_request setting half count i (Overwrite dev lba change) before) (ap (λ (x : Sides). flat x.pool) by.0.same) (ap (λ (x : Sides). x.marks) by.0.same)
      (ap shapes_of all.1 ∙ told-shapes now dev (set (unit_at now dev).blocks (lba - (unit_at now dev).first) block) (length-set (unit_at now dev).blocks (lba - (unit_at now dev).first) block))
      (ap blocks_told all.1 ∙ put-here now dev lba block c.0 ∙ ap (set (blocks_told now) (cell_in (shapes_of now) dev lba)) (change-is setting now dev lba change refl c.0 c.1))
      all.0
  next-op Wait new runs reply left k fault counted by all =
      let same = none-run runs left by.0.none all in
      by-leaves Wait _ _ left new reply (no_request setting half count i Wait before) (ap (λ (x : Sides). flat x.pool) by.0.same) (ap (λ (x : Sides). x.marks) by.0.same) (ap shapes_of same) (ap blocks_told same) by.1
