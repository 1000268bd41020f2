-- One request on a leg: what its last reply lists, and what lands in its pages.
use Rattle.std.proofs.Common.{ℕ, zero, suc, ◌≡◌, ◌+◌, ◌-◌, ◌*◌, ◌≤◌, ◌<◌, List, [], ◌∷◌, ◌++◌, length, map, take, drop, ap, refl, subst, sym, ◌∙◌, arith}
use Rattle.page_pool.specs.declared.segs.Seg.{Seg}
use Rattle.page_pool.specs.Cells.{cell, flat, gather}
use Rattle.page_pool.specs.Pages.{AllLieIn, AreWhole, bytes_in}
use Rattle.page_pool.specs.Places.{range_of}
use Rattle.page_pool.proofs.Celled.{length-flat, read-cells}
use Rattle.page_pool.proofs.Spreads.{range-all, range_stands}
use Rattle.range_gate.specs.Cells.{in_turn}
use Rattle.integrity_payload.specs.declared.payload.Owner.TheVariants.{App as OfApp, Block as OfBlock}
use Rattle.rig_api.specs.Log.{LogEntry}
use Rattle.rig_api.specs.State.{RigState}
use Rattle.block_path.specs.Acts.{State, act, tell}
use Rattle.block_path.specs.Blocks.{Sent}
use Rattle.block_path.specs.Serial.{plain_tells}
use Rattle.volume_table.specs.Tables.{Table}
use Rattle.volume_table.specs.declared.device.DeviceInfo.{DeviceInfo}
use Rattle.stack_ops.specs.declared.op.Op.{Op}
use Rattle.stack_ops.specs.declared.op.Op.TheVariants.{Fetch, FetchPi, Write}
use Rattle.stack_ops.specs.declared.reply.Reply.{Reply}
use Rattle.walk_laws.specs.Settings.{Setting, block_of}
use Rattle.walk_laws.specs.Steps.{Reads, Writes, body_of, frame_at}
use Rattle.run_laws.specs.Records.{recorded}
use Rattle.run_laws.specs.TakenWalk.{taken_acts, taken_replies, taken_reply}
use Rattle.script_text.specs.declared.script.Script.{Script}
use Rattle.mirror_volume.specs.LegsPassed.{IsBackedBy, failed_in, opening_of, setting_of, unit_of, requests_from, AreAllWhole, IsStack, Stack}
use Rattle.mirror_volume.specs.declared.piece.Piece.{Piece}
use Rattle.mirror_volume.specs.Inner.{first_virt, page_segs, pages_for, puts, read_pi_script, read_script, write_script}
use Rattle.mirror_volume.proofs.Turns.{gathered, segs_cells}
use Rattle.mirror_volume.proofs.Suits.{segs_total}
use Rattle.mirror_volume.specs.LegRuns.{AllBacked, Fits, LastFits, LegRun, OneRun, RanLegs, replies_of}
use Rattle.mirror_volume.proofs.LastReplies.{asks-steps, last-fits}

-- ---- the last reply

-- whatever is answered, the reply of the op lists blocks of n
abbrev pub ListsOf : (n : ℕ) → Op → Type 0
ListsOf n op = (m : Setting) (es : List Sent) (j : ℕ) (reply : Reply) (now : State) → Fits n (taken_reply op reply (plain_tells act tell (taken_acts m es j op reply) now))

backed-fits : (own : Script) (t : Table) (devices : List DeviceInfo) (log : List LogEntry) (replies : List Reply) (before : List Op) (op : Op) (n : ℕ) → own.ops ≡ before ++ (op ∷ []) → ListsOf n op
    → IsBackedBy own t devices log replies → LastFits replies n
backed-fits own t devices log replies before op n e f h =
    let m = setting_of own t (map unit_of devices) (failed_in replies) in
    let opening = opening_of own (map unit_of devices) [] in
    let es = recorded m log in
    subst (λ rs. LastFits rs n) (sym (h []).replied)
    (subst (λ ops. LastFits (taken_replies m es 1 ops replies opening) n) (sym e) (last-fits m es 1 before op n replies opening (f m es)))

-- the one run of a stack of its own
abbrev pub IsRunOf : Script → Stack → List LegRun → Type 0
IsRunOf own stack runs = OneRun own (λ (r : LegRun). r.stack ≡ stack) runs

run-fits : (t : Table) (devices : List DeviceInfo) (runs : List LegRun) (before after : RigState) (own : Script) (stack : Stack) (ops : List Op) (op : Op) (n : ℕ)
    → own.ops ≡ ops ++ (op ∷ []) → ListsOf n op → RanLegs t devices runs before after → IsRunOf own stack runs → LastFits stack.replies.items n
run-fits t devices runs before after own stack ops op n e f ran one =
    let r = one.run in
    let all = subst (AllBacked t devices) one.only ran.backed in
    let backed = subst (λ (s : Script). IsBackedBy s t devices r.records (replies_of r)) one.own_is all.0 in
    subst (λ (s : Stack). LastFits s.replies.items n) one.so (backed-fits own t devices r.records (replies_of r) ops op n e f backed)

lists-write : (v n : ℕ) (body : List Seg) (app : ℕ) → ListsOf n (Write v n body app)
lists-write v n body app m es j reply now = asks-steps m es n reply now (λ k. Writes (block_of j v k) app (body_of m.size body k))

lists-fetch : (v n : ℕ) (body : List Seg) → ListsOf n (Fetch v n body)
lists-fetch v n body m es j reply now = asks-steps m es n reply now (λ k. Reads (block_of j v k) OfBlock (body_of m.size body k))

lists-fetch-pi : (v n : ℕ) (body tuples : List Seg) → ListsOf n (FetchPi v n body tuples)
lists-fetch-pi v n body tuples m es j reply now = asks-steps m es n reply now (λ k. Reads (block_of j v k) OfApp (frame_at m.size body tuples k))

module _ (t : Table) (devices : List DeviceInfo) (runs : List LegRun) (before after : RigState) (stack : Stack) (s : Script) (half : ℕ) (p : Piece) where
  pub write-fits : (own : Script) (app : ℕ) (bytes : List ℕ) → own ≡ write_script s half p app bytes → RanLegs t devices runs before after → IsRunOf own stack runs → LastFits stack.replies.items p.n
  write-fits own app bytes e ran one =
      let pages = pages_for (p.n * s.block) in
      let segs = page_segs 0 pages (p.n * s.block) in
      run-fits t devices runs before after own stack (puts 0 pages bytes) (Write (first_virt half p) p.n segs app) p.n (ap (λ (x : Script). x.ops) e) (lists-write (first_virt half p) p.n segs app) ran one

  pub read-fits : (own : Script) → own ≡ read_script s half p → RanLegs t devices runs before after → IsRunOf own stack runs → LastFits stack.replies.items p.n
  read-fits own e ran one =
      let segs = page_segs 0 (pages_for (p.n * s.block)) (p.n * s.block) in
      run-fits t devices runs before after own stack [] (Fetch (first_virt half p) p.n segs) p.n (ap (λ (x : Script). x.ops) e) (lists-fetch (first_virt half p) p.n segs) ran one

  pub read-pi-fits : (own : Script) → own ≡ read_pi_script s half p → RanLegs t devices runs before after → IsRunOf own stack runs → LastFits stack.replies.items p.n
  read-pi-fits own e ran one =
      let segs = page_segs 0 (pages_for (p.n * s.block)) (p.n * s.block) in
      let tuples = page_segs (pages_for (p.n * s.block)) (pages_for (p.n * 8)) (p.n * 8) in
      run-fits t devices runs before after own stack [] (FetchPi (first_virt half p) p.n segs tuples) p.n (ap (λ (x : Script). x.ops) e) (lists-fetch-pi (first_virt half p) p.n segs tuples) ran one

-- ---- what lands

-- the request of a script with one op, and its data
pub read-lies : (stack : Stack) (own s : Script) (half : ℕ) (p : Piece) → own ≡ read_script s half p → IsStack stack → stack.sheet.ios.items ≡ requests_from own.mode.dix own.pages own.ops
    → AllLieIn stack.pool (page_segs 0 (pages_for (p.n * s.block)) (p.n * s.block))
read-lies stack own s half p e is ios =
    let whole = subst (AreAllWhole stack.pool) (ios ∙ ap (λ (x : Script). requests_from x.mode.dix x.pages x.ops) e) is.whole in
    (whole 0 (omega arith)).lies

-- and one with tuples, which lie behind its data
pub read-pi-lies : (stack : Stack) (own s : Script) (half : ℕ) (p : Piece) → own ≡ read_pi_script s half p → IsStack stack → stack.sheet.ios.items ≡ requests_from own.mode.dix own.pages own.ops
    → AllLieIn stack.pool (page_segs 0 (pages_for (p.n * s.block)) (p.n * s.block)) × AllLieIn stack.pool (page_segs (pages_for (p.n * s.block)) (pages_for (p.n * 8)) (p.n * 8))
read-pi-lies stack own s half p e is ios =
    let whole = subst (AreAllWhole stack.pool) (ios ∙ ap (λ (x : Script). requests_from x.mode.dix x.pages x.ops) e) is.whole in
    let first = whole 0 (omega arith) in
    (first.lies, (first.tuples _ refl).lie)

segs-end : (pool : List (List ℕ)) (page pages n : ℕ) → AllLieIn pool (page_segs page (suc pages) n) → page + suc pages ≤ length pool
segs-end pool page zero n h = let a = h.0.in_pool in omega (arith, a)
segs-end pool page (suc pages) n h = let r = segs-end pool (suc page) pages (n - 4096) h.1 in omega (arith, r)

landed-in : (pool : List (List ℕ)) (page pages n : ℕ) → AreWhole pool → 1 ≤ n → n ≤ 4096 * pages → 4096 * pages < n + 4096 → AllLieIn pool (page_segs page pages n)
    → bytes_in pool (page_segs page pages n) 0 n ≡ take n (drop (4096 * page) (flat pool))
landed-in pool page zero n whole some room least h = absurd (omega (arith, some, room))
landed-in pool page (suc pages) n whole some room least h =
    let segs = page_segs page (suc pages) n in
    let t = segs_total page (suc pages) n room in
    let cells : map cell (range_of segs 0 n) ≡ in_turn (4096 * page) n = ap (λ k. map cell (range_of segs 0 k)) (sym t) ∙ ap (map cell) (range-all segs) ∙ segs_cells page (suc pages) n room least in
    let l = length-flat pool whole in
    let e = segs-end pool page pages n h in
    read-cells pool (range_of segs 0 n) whole (range_stands pool segs 0 n h) ∙ ap (λ at. gather 0 at (flat pool)) cells ∙ gathered (4096 * page) n (flat pool) (omega (arith, l, e, room))

pub landed : (pool : List (List ℕ)) (page n : ℕ) → AreWhole pool → 1 ≤ n → AllLieIn pool (page_segs page (pages_for n) n)
    → bytes_in pool (page_segs page (pages_for n) n) 0 n ≡ take n (drop (4096 * page) (flat pool))
landed pool page n whole some h = landed-in pool page (pages_for n) n whole some (omega arith) (omega arith) h
