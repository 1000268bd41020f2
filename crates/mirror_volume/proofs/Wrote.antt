-- A write of a mirror, done at the target on leg 0 and then on leg 1, is that of its walk.
use Rattle.std.proofs.Common.{◌≡◌, ℕ, suc, ◌+◌, ◌*◌, true, false, List, [], ◌∷◌, length, take, drop, refl, sym, ap, ◌∙◌, subst, arith, add-zero}
use Rattle.std.proofs.lemmas.List.{length-map}
use Rattle.page_pool.specs.declared.segs.Seg.{Seg}
use Rattle.page_pool.specs.Cells.{cell, flat, gather}
use Rattle.page_pool.specs.Pages.{AreWhole, bytes_at, bytes_in}
use Rattle.page_pool.specs.Places.{places_in, total}
use Rattle.page_pool.specs.Walking.{AllStandIn}
use Rattle.page_pool.proofs.Celled.{read-cells}
use Rattle.page_pool.proofs.Placing.{length-places_in}
use Rattle.page_pool.proofs.Spreads.{range-all}
use Rattle.range_gate.specs.Cells.{cells_of}
use Rattle.rig_api.specs.Target.{Stored}
use Rattle.rig_api.specs.declared.units.UnitSpec.{UnitSpec}
use Rattle.volume_table.specs.declared.device.DeviceInfo.{DeviceInfo}
use Rattle.volume_table.specs.Tables.{Table}
use Rattle.dix_adapter.specs.Ways.{blocks_told, shapes_of}
use Rattle.block_path.specs.Acts.{State}
use Rattle.block_path.proofs.Cells.{gather_length}
use Rattle.stack_ops.specs.declared.op.Op.{Op}
use Rattle.stack_ops.specs.declared.op.Op.TheVariants.{Write}
use Rattle.stack_ops.specs.declared.reply.Reply.{Reply}
use Rattle.walk_laws.specs.Past.{Brought}
use Rattle.walk_laws.specs.ScriptWalk.{bad_from, reply_of, whole_or_bad}
use Rattle.walk_laws.specs.Settings.{Block, Setting}
use Rattle.walk_laws.proofs.InSteps.{each_length}
use Rattle.script_text.specs.declared.script.Script.{Script}
use Rattle.mirror_volume.specs.LegsPassed.{table_of, HasWalked, none_fails, setting_of}
use Rattle.mirror_laws.specs.Mirror.{Mirror}
use Rattle.mirror_laws.specs.OnLegs.{blocks_on, brought_each, listed_written, marks_written, whys_written, written}
use Rattle.mirror_laws.specs.LegByLeg.{after_op, answers_of}
use Rattle.mirror_laws.proofs.WriteByLegs.{writes_by_legs}
use Rattle.mirror_volume.specs.declared.piece.Piece.{Piece}
use Rattle.mirror_volume.specs.Inner.{pages_for, write_script}
use Rattle.mirror_volume.specs.Legs.{WroteOnLeg}
use Rattle.mirror_volume.specs.MirrorScript.{IsMirrorScript, IsPiece}
use Rattle.mirror_volume.proofs.OnLeg.{write_goes}
use Rattle.mirror_volume.specs.LegRuns.{AllWalked, LegRun, found_by, pool_of, replies_of}
use Rattle.mirror_volume.specs.OnOps.{Sides, WroteBy, whole_request}
use Rattle.mirror_volume.specs.Standing.{IsMirrorOver, half_of, mirror_setting}
use Rattle.mirror_volume.proofs.Ground.{fits, legs}
use Rattle.mirror_volume.proofs.Replied.{found-last}
use Rattle.mirror_volume.proofs.Requests.{IsRequest, whole-piece}

-- a mirror with these pages and marks, over these units; the rest is of no matter
abbrev pub standing : State → Sides → List Stored → Mirror
standing rest sides us = record { state = record rest { bytes = flat sides.pool; blocks = blocks_told us }; marks = sides.marks }

-- Op i leaves what the walk says, and its reply.
pub record Goes (m : Setting) (half : ℕ) (count : ℕ → ℕ) (i : ℕ) (op : Op) (s : Mirror) (now left : List Stored) (new : Sides) (reply : Reply) : Type 0 where
  pub pages : flat new.pool ≡ (after_op m half count i op s).state.bytes
  pub marks : new.marks ≡ (after_op m half count i op s).marks
  pub shapes : shapes_of left ≡ shapes_of now
  pub blocks : blocks_told left ≡ (after_op m half count i op s).state.blocks
  pub reply_is : reply ≡ reply_of false op (answers_of m half count i op s)

whys-long : (m : Setting) (bs : List Block) (es : List Brought) → length bs ≡ length es → length (whys_written m bs es) ≡ length bs
whys-long m [] es l = refl
whys-long m (b ∷ bs) [] l = absurd (omega (arith, l))
whys-long m (b ∷ bs) (e ∷ es) l = ap suc (whys-long m bs es (omega (arith, l)))

-- as many as blocks
pub whys-each : (m : Setting) (op k virt n size app : ℕ) (bytes : List ℕ) → length (whys_written m (blocks_on op k virt n) (brought_each size app n bytes)) ≡ n
whys-each m op k virt n size app bytes =
    let a : length (blocks_on op k virt n) ≡ n = each_length 0 n (λ j. record { op = op; k = k + j; virt = virt + j }) in
    let b : length (brought_each size app n bytes) ≡ n = each_length 0 n (λ j. record { body = take size (drop (j * size) bytes); app = app }) in
    whys-long m (blocks_on op k virt n) (brought_each size app n bytes) (a ∙ sym b) ∙ a

-- the bytes of a request's data
pub data-cells : (pool : List (List ℕ)) (body : List Seg) → AreWhole pool → AllStandIn (length pool) (places_in body) → bytes_in pool body 0 (total body) ≡ gather 0 (cells_of body) (flat pool)
data-cells pool body whole h = ap (bytes_at pool) (range-all body) ∙ read-cells pool (places_in body) whole h

pub cells-long : (body : List Seg) → length (cells_of body) ≡ total body
cells-long body = length-map (places_in body) cell ∙ length-places_in body

-- one leg
leg-wrote : (s : Script) (t : Table) (half : ℕ) (p : Piece) (app : ℕ) (bytes : List ℕ) (us left : List Stored) (run : LegRun) → IsMirrorScript s t half → IsPiece s.block half p → length bytes ≡ p.n * s.block
    → run.own ≡ write_script s half p app bytes → HasWalked run.own t us left (pool_of run) run.records (replies_of run) → WroteOnLeg s t half p app bytes us left (replies_of run)
leg-wrote s t half p app bytes us left run is fit whole own w =
    write_goes s t half p is fit us app bytes whole left (pool_of run) run.records (replies_of run) (subst (λ (x : Script). HasWalked x t us left (pool_of run) run.records (replies_of run)) own w)

module _ (s : Script) (devices : List DeviceInfo) (now : List Stored) (over : IsMirrorOver s devices now) (rest : State) (old : Sides) (whole : AreWhole old.pool) (paged : length old.pool ≡ s.pages)
    (count : ℕ → ℕ) (i v n : ℕ) (body : List Seg) (req : IsRequest s (half_of s devices) v n body) (counted : count i ≡ n) where
  abbrev half : ℕ
  half = half_of s devices

  abbrev t : Table
  t = table_of s devices

  abbrev setting : Setting
  setting = mirror_setting s devices now

  -- its data
  abbrev brings : List ℕ
  brings = gather 0 (cells_of body) (flat old.pool)

  brings-are : bytes_in old.pool body 0 (total body) ≡ brings
  brings-are = data-cells old.pool body whole (subst (λ k. AllStandIn k (places_in body)) (sym paged) req.stand)

  brings-long : length brings ≡ n * s.block
  brings-long = gather_length 0 (cells_of body) (flat old.pool) ∙ cells-long body ∙ req.long

  pub write-goes : (app : ℕ) (new : Sides) (runs : List LegRun) (reply : Reply) (left : List Stored) → new.pool ≡ old.pool → WroteBy s half i v n app (bytes_in old.pool body 0 (total body)) old.marks new.marks runs reply → AllWalked t now runs left →
      Goes setting half count i (Write v n body app) (standing rest old now) now left new reply
  write-goes app new runs reply left same w all =
      let walked = subst (λ (rs : List LegRun). AllWalked t now rs left) w.runs_are all in
      let next = walked.0 in
      let h0 = walked.1.0 in
      let end = walked.1.1.0 in
      let h1 = walked.1.1.1.0 in
      let last = walked.1.1.1.1 in
      let piece = whole-piece s half i v n body req in
      let g0 = leg-wrote s t half (whole_request i v n) app brings now next w.on0 (fits s devices now over) piece brings-long (w.own0 ∙ ap (write_script s half (whole_request i v n) app) brings-are) h0 in
      let g1 = leg-wrote s t half (record (whole_request i v n) { on1 = true }) app brings next end w.on1 (fits s devices now over) (record { some = piece.some; room = piece.room; inside = piece.inside }) brings-long
      (w.own1 ∙ ap (write_script s half (record (whole_request i v n) { on1 = true }) app) brings-are) h1 in
      let at-next : mirror_setting s devices next ≡ setting = ap (λ (units : List UnitSpec). setting_of s t units none_fails) h0.shapes in
      let brought = brought_each s.block app n brings in
      let whys0 = whys_written setting (blocks_on i 0 v n) brought in
      let found0 : found_by n (replies_of w.on0) ≡ whys0 = ap (found_by n) g0.replies_are ∙ found-last n (pages_for (n * s.block)) whys0 (whys-each setting i 0 v n s.block app brings) in
      let found1 : found_by n (replies_of w.on1) ≡ whys_written setting (blocks_on i n (half + v) n) brought =
      ap (found_by n) g1.replies_are
      ∙ found-last n (pages_for (n * s.block)) (whys_written (mirror_setting s devices next) (blocks_on i (n + 0) (half + v) n) brought) (whys-each (mirror_setting s devices next) i (n + 0) (half + v) n s.block app brings)
      ∙ (λ j. whys_written (at-next j) (blocks_on i (add-zero n j) (half + v) n) brought) in
      let law = writes_by_legs setting half (legs s devices now over) count i v n body app (standing rest old now) counted req.inside in
      record {
        pages = ap flat same ∙ sym law.bytes;
        marks = w.marks ∙ (λ j. marks_written v (found0 j) (found1 j) old.marks) ∙ sym law.marks;
        shapes = ap shapes_of last ∙ h1.shapes ∙ h0.shapes;
        blocks = ap blocks_told last ∙ g1.blocks ∙ (λ j. written (at-next j) (blocks_on i (add-zero n j) (half + v) n) brought (g0.blocks j)) ∙ sym law.blocks;
        reply_is = w.reply_is ∙ (λ j. whole_or_bad (bad_from 0 (listed_written (found0 j) (found1 j)))) ∙ sym (law.reply false);
      }
