-- A write leg by leg. What is found of a block doesn't depend on what is stored, and blocks that have cells of their own can be stored in any order.
use Rattle.std.proofs.Common.{◌≡◌, ◌<◌, ◌≤◌, ℕ, zero, suc, ◌+◌, ◌*◌, List, [], ◌∷◌, map, get_or, set, take, drop, Option, refl, sym, ap, ◌∙◌, arith}
use Rattle.std.specs.Prelude.{nat_abs, Result, Ok, Err}
use Rattle.std.proofs.lemmas.List.{get_or-set_other, set_comm}
use Rattle.page_pool.specs.declared.segs.Seg.{Seg}
use Rattle.page_pool.specs.Cells.{gather, scatter}
use Rattle.fault_schedule.specs.Altered.{shift_of}
use Rattle.fault_schedule.specs.declared.fault.Crossing.TheVariants.{AdapterToTarget, MediumToTarget, TargetToMedium}
use Rattle.range_gate.specs.Cells.{cells_of}
use Rattle.bio_core.specs.declared.fate.Why.{Why}
use Rattle.block_path.specs.declared.route.Route.{Route}
use Rattle.block_path.specs.Acts.{State, act, tell}
use Rattle.block_path.specs.Blocks.{ActAnswer, fetched_cell, own_cell, own_frame, stored_cell, written_by}
use Rattle.block_path.specs.Routes.{wire_lba}
use Rattle.block_path.specs.Serial.{plain, plain_tells}
use Rattle.block_path.specs.WayOut.{Fails, Refuses, Stores, WayOut, stored_of, way_out}
use Rattle.walk_laws.specs.Past.{Brought}
use Rattle.walk_laws.specs.ScriptWalk.{act_of, bad_from, whole_or_bad}
use Rattle.walk_laws.specs.Settings.{Block, Setting, block_of, route}
use Rattle.walk_laws.specs.Steps.{Step, Writes, body_of, each_from}
use Rattle.walk_laws.specs.UnderMap.{home}
use Rattle.run_laws.proofs.Layers.{unmoved}
use Rattle.run_laws.proofs.Parts.{body_part}
use Rattle.mirror_laws.specs.Mirror.{Mirror, answer, done, marked, marks_of, neither, twin}
use Rattle.mirror_laws.specs.Repair.{writing}
use Rattle.mirror_laws.specs.OnLegs.{blocks_on, listed_written, marks_written, stored_at, why_of, whys_written, written}
use Rattle.mirror_laws.specs.LegByLeg.{HasLegs, WritesByLegs, brought_of}

-- the same at each block
pub each_same : {X : Type 0} (k n : ℕ) (f g : ℕ → X) → ((j : ℕ) → f j ≡ g j) → each_from k n f ≡ each_from k n g
each_same k zero f g h = refl
each_same k (suc n) f g h =
    let first = h k in
    let rest = each_same (suc k) n f g h in
    cc

-- what parts of some cells hold
gather_take : (n : ℕ) (at cells : List ℕ) → gather 0 (take n at) cells ≡ take n (gather 0 at cells)
gather_take zero at cells = refl
gather_take (suc n) [] cells = refl
gather_take (suc n) (i ∷ at) cells = ap (λ rest. get_or cells i 0 ∷ rest) (gather_take n at cells)

gather_drop : (n : ℕ) (at cells : List ℕ) → gather 0 (drop n at) cells ≡ drop n (gather 0 at cells)
gather_drop zero at cells = refl
gather_drop (suc n) [] cells = refl
gather_drop (suc n) (i ∷ at) cells = gather_drop n at cells

-- of one block
stores : (c : ℕ) (leaves : List ℕ → List ℕ → List ℕ) (r : Route) (w : WayOut) (log blocks : List (List ℕ)) → scatter (c ∷ []) (map (leaves (get_or blocks c [])) (written_by r w [] log).written.blocks) blocks ≡ stored_at c leaves (stored_of w) blocks
stores c leaves r (Fails why) log blocks = refl
stores c leaves r (Refuses why) log blocks = refl
stores c leaves r (Stores carried stored) log blocks = refl

finds : (r : Route) (w : WayOut) (log : List (List ℕ)) → (written_by r w [] log).answer.why ≡ why_of (stored_of w)
finds r (Fails why) log = refl
finds r (Refuses why) log = refl
finds r (Stores carried stored) log = refl

pub stored_turned : (c d : ℕ) (leaves others : List ℕ → List ℕ → List ℕ) (x y : Result (List ℕ) Why) (blocks : List (List ℕ)) → (c ≡ d → ⊥) →
    stored_at c leaves x (stored_at d others y blocks) ≡ stored_at d others y (stored_at c leaves x blocks)
stored_turned c d leaves others (Ok stored) (Ok other) blocks h =
    let here = leaves (get_or blocks c []) stored in
    let there = others (get_or blocks d []) other in
    ap (λ old. set (set blocks d there) c (leaves old stored)) (get_or-set_other blocks d c there [] h)
    ∙ set_comm blocks d c there here (λ e. h (sym e))
    ∙ ap (λ old. set (set blocks c here) d (others old other)) (sym (get_or-set_other blocks c d here [] (λ e. h (sym e))))
stored_turned c d leaves others (Ok stored) (Err why) blocks h = refl
stored_turned c d leaves others (Err why) (Ok other) blocks h = refl
stored_turned c d leaves others (Err why) (Err again) blocks h = refl

module _ (m : Setting) where
  abbrev pub cell_of : Block → ℕ
  cell_of b = stored_cell m.site (route m b)

  abbrev pub leaves_of : Block → List ℕ → List ℕ → List ℕ
  leaves_of b = m.site.device.leaves (route m b)

  abbrev with_tag : (app : ℕ) → List ℕ → List ℕ → Brought
  with_tag app at bytes = record { body = gather 0 at bytes; app = app }

  pub write_stores : (b : Block) (app : ℕ) (at : List ℕ) (s : State) → (act (act_of m (Writes b app at)) s).blocks ≡ stored_at (cell_of b) (leaves_of b) (writing m b (with_tag app at s.bytes)) s.blocks
  write_stores b app at s =
      stores (cell_of b) (leaves_of b) (route m b) (way_out m.site.faults m.site.device (route m b) (own_frame (route m b) app (gather 0 at s.bytes))) (get_or s.logs (own_cell m.site (route m b)) []) s.blocks

  write_finds : (b : Block) (app : ℕ) (at : List ℕ) (s : State) → (tell (act_of m (Writes b app at)) s).why ≡ why_of (writing m b (with_tag app at s.bytes))
  write_finds b app at s =
      finds (route m b) (way_out m.site.faults m.site.device (route m b) (own_frame (route m b) app (gather 0 at s.bytes))) (get_or s.logs (own_cell m.site (route m b)) [])

  -- blocks that are stored elsewhere
  pub written_past : (b : ℕ → Block) (e : ℕ → Brought) (c : ℕ) (leaves : List ℕ → List ℕ → List ℕ) (x : Result (List ℕ) Why) (j r : ℕ) (blocks : List (List ℕ)) → ((l : ℕ) → j ≤ l → l < j + r → cell_of (b l) ≡ c → ⊥) →
      written m (each_from j r b) (each_from j r e) (stored_at c leaves x blocks) ≡ stored_at c leaves x (written m (each_from j r b) (each_from j r e) blocks)
  written_past b e c leaves x j zero blocks h = refl
  written_past b e c leaves x j (suc r) blocks h =
      ap (written m (each_from (suc j) r b) (each_from (suc j) r e)) (stored_turned (cell_of (b j)) c (leaves_of (b j)) leaves (writing m (b j) (e j)) x blocks (h j (omega arith) (omega arith)))
      ∙ written_past b e c leaves x (suc j) r (stored_at (cell_of (b j)) (leaves_of (b j)) (writing m (b j) (e j)) blocks) (λ l k g. h l (omega (arith, k)) (omega (arith, g)))

module _ (m : Setting) (half : ℕ) (legs : HasLegs m half) where
  pub stored_home : (b : Block) → stored_cell m.site (route m b) ≡ home m b.virt
  stored_home b =
      ap (m.site.cell (route m b).dev)
      (unmoved m (wire_lba m.site.faults (route m b)) (shift_of m.site.faults TargetToMedium b.op) (ap nat_abs (legs.unshifted TargetToMedium b.op))
      ∙ unmoved m (route m b).lba (shift_of m.site.faults AdapterToTarget b.op) (ap nat_abs (legs.unshifted AdapterToTarget b.op)))

  pub fetched_home : (b : Block) → fetched_cell m.site (route m b) ≡ home m b.virt
  fetched_home b =
      ap (m.site.cell (route m b).dev)
      (unmoved m (wire_lba m.site.faults (route m b)) (shift_of m.site.faults MediumToTarget b.op) (ap nat_abs (legs.unshifted MediumToTarget b.op))
      ∙ unmoved m (route m b).lba (shift_of m.site.faults AdapterToTarget b.op) (ap nat_abs (legs.unshifted AdapterToTarget b.op)))

  pub homes_apart : (u w : ℕ) → u < half + half → w < half + half → (u ≡ w → ⊥) → home m u ≡ home m w → ⊥
  homes_apart u w l k q e =
      let long = legs.long in
      q (legs.one_cell_each u w (omega (arith, l, long)) (omega (arith, k, long)) e)

  pub stored_apart : (b c : Block) → b.virt < half + half → c.virt < half + half → (b.virt ≡ c.virt → ⊥) → cell_of m b ≡ cell_of m c → ⊥
  stored_apart b c l k q e = homes_apart b.virt c.virt l k q (sym (stored_home b) ∙ e ∙ stored_home c)

  module _ (count : ℕ → ℕ) (i v app : ℕ) (at : ℕ → List ℕ) where
    abbrev f : ℕ → Step
    f k = Writes (block_of i v k) app (at k)

    abbrev on0 : ℕ → Block
    on0 k = block_of i v k

    abbrev on1 : ℕ → Block
    on1 k = twin m half count (block_of i v k)

    abbrev e : List ℕ → ℕ → Brought
    e bytes k = record { body = gather 0 (at k) bytes; app = app }

    -- what is found of a block on the legs
    abbrev why0 : List ℕ → ℕ → Option Why
    why0 bytes k = why_of (writing m (block_of i v k) (record { body = gather 0 (at k) bytes; app = app }))

    abbrev why1 : List ℕ → ℕ → Option Why
    why1 bytes k = why_of (writing m (twin m half count (block_of i v k)) (record { body = gather 0 (at k) bytes; app = app }))

    one_stores : (k : ℕ) (s : Mirror) →
        (done m half count (f k) s).state.blocks ≡ stored_at (cell_of m (on1 k)) (leaves_of m (on1 k)) (writing m (on1 k) (e s.state.bytes k)) (stored_at (cell_of m (on0 k)) (leaves_of m (on0 k)) (writing m (on0 k) (e s.state.bytes k)) s.state.blocks)
    one_stores k s =
        write_stores m (on1 k) app (at k) (act (act_of m (f k)) s.state)
        ∙ ap (stored_at (cell_of m (on1 k)) (leaves_of m (on1 k)) (writing m (on1 k) (e s.state.bytes k))) (write_stores m (on0 k) app (at k) s.state)

    one_found : (k : ℕ) (s : Mirror) → (done m half count (f k) s).marks ≡ set s.marks (v + k) (marked (why0 s.state.bytes k) (why1 s.state.bytes k) (marks_of s.marks (v + k)))
    one_found k s =
        ap (λ w. set s.marks (v + k) (marked w (tell (act_of m (Writes (on1 k) app (at k))) (act (act_of m (f k)) s.state)).why (marks_of s.marks (v + k)))) (write_finds m (on0 k) app (at k) s.state)
        ∙ ap (λ w. set s.marks (v + k) (marked (why0 s.state.bytes k) w (marks_of s.marks (v + k)))) (write_finds m (on1 k) app (at k) (act (act_of m (f k)) s.state))

    one_listed : (k : ℕ) (s : Mirror) → (answer m half count (f k) s).why ≡ neither (why0 s.state.bytes k) (why1 s.state.bytes k)
    one_listed k s =
        ap (λ w. neither w (tell (act_of m (Writes (on1 k) app (at k))) (act (act_of m (f k)) s.state)).why) (write_finds m (on0 k) app (at k) s.state)
        ∙ ap (neither (why0 s.state.bytes k)) (write_finds m (on1 k) app (at k) (act (act_of m (f k)) s.state))

    -- blocks j to j + r
    all_bytes : (j r : ℕ) (s : Mirror) → (plain (done m half count) (each_from j r f) s).state.bytes ≡ s.state.bytes
    all_bytes j zero s = refl
    all_bytes j (suc r) s = all_bytes (suc j) r (done m half count (f j) s)

    all_stored : (j r : ℕ) (s : Mirror) → v + (j + r) ≤ half →
        (plain (done m half count) (each_from j r f) s).state.blocks
        ≡ written m (each_from j r on1) (each_from j r (e s.state.bytes)) (written m (each_from j r on0) (each_from j r (e s.state.bytes)) s.state.blocks)
    all_stored j zero s l = refl
    all_stored j (suc r) s l =
        let es = each_from (suc j) r (e s.state.bytes) in
        all_stored (suc j) r (done m half count (f j) s) (omega (arith, l))
        ∙ ap (λ x. written m (each_from (suc j) r on1) es (written m (each_from (suc j) r on0) es x)) (one_stores j s)
        ∙ ap (written m (each_from (suc j) r on1) es)
        (written_past m on0 (e s.state.bytes) (cell_of m (on1 j)) (leaves_of m (on1 j)) (writing m (on1 j) (e s.state.bytes j)) (suc j) r (stored_at (cell_of m (on0 j)) (leaves_of m (on0 j)) (writing m (on0 j) (e s.state.bytes j)) s.state.blocks)
        (λ k g h q. stored_apart (on0 k) (on1 j) (omega (arith, l, h)) (omega (arith, l)) (λ x. omega (arith, l, h, x)) q))

    all_marked : (j r : ℕ) (s : Mirror) →
        (plain (done m half count) (each_from j r f) s).marks ≡ marks_written (v + j) (whys_written m (each_from j r on0) (each_from j r (e s.state.bytes))) (whys_written m (each_from j r on1) (each_from j r (e s.state.bytes))) s.marks
    all_marked j zero s = refl
    all_marked j (suc r) s =
        let next : v + suc j ≡ (v + j) + 1 = omega arith in
        let whys = whys_written m (each_from (suc j) r on0) (each_from (suc j) r (e s.state.bytes)) in
        let others = whys_written m (each_from (suc j) r on1) (each_from (suc j) r (e s.state.bytes)) in
        all_marked (suc j) r (done m half count (f j) s)
        ∙ ap (λ u. marks_written u whys others (done m half count (f j) s).marks) next
        ∙ ap (marks_written ((v + j) + 1) whys others) (one_found j s)

    all_listed : (j r : ℕ) (s : Mirror) →
        map (λ (a : ActAnswer). a.why) (plain_tells (done m half count) (answer m half count) (each_from j r f) s)
        ≡ listed_written (whys_written m (each_from j r on0) (each_from j r (e s.state.bytes))) (whys_written m (each_from j r on1) (each_from j r (e s.state.bytes)))
    all_listed j zero s = refl
    all_listed j (suc r) s =
        let first = one_listed j s in
        let rest = all_listed (suc j) r (done m half count (f j) s) in
        ap (λ w. w ∷ map (λ (a : ActAnswer). a.why) (plain_tells (done m half count) (answer m half count) (each_from (suc j) r f) (done m half count (f j) s))) first
        ∙ ap (λ ws. neither (why0 s.state.bytes j) (why1 s.state.bytes j) ∷ ws) rest

  module _ (count : ℕ → ℕ) (i v n : ℕ) (body : List Seg) (app : ℕ) (s : Mirror) (counted : count i ≡ n) where
    abbrev at : ℕ → List ℕ
    at k = body_of m.size body k

    same0 : each_from 0 n (λ k. block_of i v k) ≡ blocks_on i 0 v n
    same0 = each_same 0 n (λ k. block_of i v k) (λ j. record { op = i; k = 0 + j; virt = v + j }) (λ j. let q : j ≡ 0 + j = omega arith in ap (λ k. record { op = i; k = k; virt = v + j }) q)

    same1 : each_from 0 n (λ k. twin m half count (block_of i v k)) ≡ blocks_on i n (half + v) n
    same1 =
        each_same 0 n (λ k. twin m half count (block_of i v k)) (λ j. record { op = i; k = n + j; virt = (half + v) + j })
        (λ j. let q : half + (v + j) ≡ (half + v) + j = omega arith in ap (λ k. record { op = i; k = k + j; virt = half + (v + j) }) counted ∙ ap (λ u. record { op = i; k = n + j; virt = u }) q)

    same_data : each_from 0 n (λ k. record { body = gather 0 (body_of m.size body k) s.state.bytes; app = app }) ≡ brought_of m n body app s
    same_data =
        each_same 0 n (λ k. record { body = gather 0 (body_of m.size body k) s.state.bytes; app = app }) (λ j. record { body = take m.size (drop (j * m.size) (gather 0 (cells_of body) s.state.bytes)); app = app })
        (λ j. ap (λ (x : List ℕ). record { body = x; app = app })
        (ap (λ cells. gather 0 cells s.state.bytes) (body_part m.size body j)
        ∙ gather_take m.size (drop (j * m.size) (cells_of body)) s.state.bytes
        ∙ ap (take m.size) (gather_drop (j * m.size) (cells_of body) s.state.bytes)))

    abbrev whys0 : List (Option Why)
    whys0 = whys_written m (blocks_on i 0 v n) (brought_of m n body app s)

    abbrev whys1 : List (Option Why)
    whys1 = whys_written m (blocks_on i n (half + v) n) (brought_of m n body app s)

    -- so anything that is made of them
    same_all : {X : Type 0} (g : List Block → List Block → List Brought → X) →
        g (each_from 0 n (λ k. block_of i v k)) (each_from 0 n (λ k. twin m half count (block_of i v k))) (each_from 0 n (λ k. record { body = gather 0 (body_of m.size body k) s.state.bytes; app = app }))
        ≡ g (blocks_on i 0 v n) (blocks_on i n (half + v) n) (brought_of m n body app s)
    same_all g =
        ap (λ bs. g bs (each_from 0 n (λ k. twin m half count (block_of i v k))) (each_from 0 n (λ k. record { body = gather 0 (body_of m.size body k) s.state.bytes; app = app }))) same0
        ∙ ap (λ bs. g (blocks_on i 0 v n) bs (each_from 0 n (λ k. record { body = gather 0 (body_of m.size body k) s.state.bytes; app = app }))) same1
        ∙ ap (g (blocks_on i 0 v n) (blocks_on i n (half + v) n)) same_data

    listed : map (λ (a : ActAnswer). a.why) (plain_tells (done m half count) (answer m half count) (each_from 0 n (f count i v app at)) s) ≡ listed_written whys0 whys1
    listed = all_listed count i v app at 0 n s ∙ same_all (λ bs cs es. listed_written (whys_written m bs es) (whys_written m cs es))

    pub writes_by_legs : v + n ≤ half → WritesByLegs m half count i v n body app s
    writes_by_legs l =
        let none : v + 0 ≡ v = omega arith in
        record {
          bytes = all_bytes count i v app at 0 n s;
          blocks = all_stored count i v app at 0 n s (omega (arith, l)) ∙ same_all (λ bs cs es. written m cs es (written m bs es s.state.blocks));
          marks =
              all_marked count i v app at 0 n s
              ∙ same_all (λ bs cs es. marks_written (v + 0) (whys_written m bs es) (whys_written m cs es) s.marks)
              ∙ ap (λ u. marks_written u whys0 whys1 s.marks) none;
          whys = listed;
          reply = λ fails. ap (λ ws. whole_or_bad (bad_from 0 ws)) listed;
        }
