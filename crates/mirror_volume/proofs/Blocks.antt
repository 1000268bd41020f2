-- The blocks of a request, done one after another, leave and answer what its ways say.
use Rattle.std.proofs.Common.{◌≡◌, ◌<◌, ◌≤◌, ℕ, zero, suc, ◌+◌, ◌*◌, List, [], ◌∷◌, ◌++◌, length, map, get_or, replicate, take, drop, refl, sym, ap, subst, ◌∙◌, arith, append_assoc, length-append}
use Rattle.std.specs.Prelude.{IfOk, Result}
use Rattle.std.proofs.lemmas.List.{drop-drop, length-drop, length-replicate, length-take-le, take_all}
use Rattle.page_pool.specs.Cells.{gather, scatter}
use Rattle.range_gate.specs.Cells.{in_turn}
use Rattle.integrity_payload.specs.declared.payload.Owner.TheVariants.{Block as OfBlock}
use Rattle.bio_core.specs.declared.fate.Why.{Why}
use Rattle.block_path.specs.Acts.{State, act, tell}
use Rattle.block_path.specs.Blocks.{fetched_cell, own_frame, read_by, stored_cell, written_by}
use Rattle.block_path.specs.Serial.{plain, plain_tells}
use Rattle.block_path.specs.WayIn.{Delivers, Spoils, Stops, WayIn, delivered_of, way_in}
use Rattle.block_path.specs.WayOut.{Fails, Refuses, Stores, WayOut, stored_of, way_out}
use Rattle.block_path.specs.declared.route.Route.{Route}
use Rattle.walk_laws.specs.Past.{Brought}
use Rattle.walk_laws.specs.ScriptWalk.{act_of}
use Rattle.walk_laws.specs.Settings.{Block, Setting, route}
use Rattle.walk_laws.specs.Steps.{Reads, Step, Writes, each_from}
use Rattle.mirror_laws.specs.OnLegs.{data_read, landed_by, stored_at, why_of, whys_read, whys_written, written}
use Rattle.mirror_laws.specs.Repair.{reading, writing}
use Rattle.mirror_laws.proofs.ReadByLegs.{finds as why_in}
use Rattle.mirror_volume.proofs.Turns.{scattered}
use Rattle.run_laws.proofs.Turns.{turn_length}

-- ---- one block

why_out : (r : Route) (w : WayOut) (back : List ℕ) (log : List (List ℕ)) → (written_by r w back log).answer.why ≡ why_of (stored_of w)
why_out r (Fails why) back log = refl
why_out r (Refuses why) back log = refl
why_out r (Stores carried stored) back log = refl

left_out : (leaves : List ℕ → List ℕ → List ℕ) (r : Route) (w : WayOut) (back : List ℕ) (log : List (List ℕ)) (c : ℕ) (blocks : List (List ℕ)) →
    scatter (c ∷ []) (map (leaves (get_or blocks c [])) (written_by r w back log).written.blocks) blocks ≡ stored_at c leaves (stored_of w) blocks
left_out leaves r (Fails why) back log c blocks = refl
left_out leaves r (Refuses why) back log c blocks = refl
left_out leaves r (Stores carried stored) back log c blocks = refl

-- what lands is as long as the block's cells
abbrev IsLong : (size : ℕ) → Result (List ℕ) Why → Type 0
IsLong size came = IfOk came (λ frame. size ≤ length frame)

zeros_all : (size : ℕ) → take size (replicate {A = ℕ} size 0) ≡ replicate size 0
zeros_all size = let l = length-replicate {A = ℕ} size 0 in take_all size (replicate {A = ℕ} size 0) (omega arith)

record Lands (size : ℕ) (values landed : List ℕ) : Type 0 where
  long : size ≤ length values
  front : take size values ≡ landed

lands : (r : Route) (w : WayIn) (size after : ℕ) → IsLong size (delivered_of w) → Lands size (read_by r OfBlock w size after).written.bytes (landed_by size (delivered_of w))
lands r (Stops why) size after h = record { long = (let l = length-replicate {A = ℕ} size 0 in omega arith); front = zeros_all size }
lands r (Spoils why carried) size after h = record { long = (let l = length-replicate {A = ℕ} size 0 in omega arith); front = zeros_all size }
lands r (Delivers carried frame) size after h = record { long = h; front = refl }

landed_at : (r : Route) (w : WayIn) (size after : ℕ) (came : Result (List ℕ) Why) → delivered_of w ≡ came → IsLong size came → Lands size (read_by r OfBlock w size after).written.bytes (landed_by size came)
landed_at r w size after came e h = subst (λ x. Lands size (read_by r OfBlock w size after).written.bytes (landed_by size x)) e (lands r w size after (subst (IsLong size) (sym e) h))

module _ (own m : Setting) where
  -- one setting does a block as the other does another
  pub record Alike (b a : Block) : Type 0 where
    pub writes : (e : Brought) → writing own b e ≡ writing m a e
    pub reads : (blocks : List (List ℕ)) → reading own b blocks ≡ reading m a blocks
    pub stored : stored_cell own.site (route own b) ≡ stored_cell m.site (route m a)
    pub leaves : (old frame : List ℕ) → own.site.device.leaves (route own b) old frame ≡ m.site.device.leaves (route m a) old frame

  -- ---- writes, one after another

  module _ (f g : ℕ → Block) (body : ℕ → List ℕ) (app : ℕ) (e : ℕ → Brought) where
    abbrev write_at : ℕ → Step
    write_at k = Writes (f k) app (body k)

    pub record AreWritten (j n : ℕ) (s : State) : Type 0 where
      pub whys : map (λ a. a.why) (plain_tells act tell (map (act_of own) (each_from j n write_at)) s) ≡ whys_written m (each_from j n g) (each_from j n e)
      pub blocks : (plain act (map (act_of own) (each_from j n write_at)) s).blocks ≡ written m (each_from j n g) (each_from j n e) s.blocks

    pub all_written : (j n : ℕ) (s : State) → ((k : ℕ) → j ≤ k → k < j + n → Alike (f k) (g k)) → ((k : ℕ) → j ≤ k → k < j + n → record { body = gather 0 (body k) s.bytes; app = app } ≡ e k) → AreWritten j n s
    all_written j zero s alike brought = record { whys = refl; blocks = refl }
    all_written j (suc n) s alike brought =
        let next = act (act_of own (write_at j)) s in
        let r = all_written (suc j) n next (λ k l h. alike k (omega (arith, l)) (omega (arith, h))) (λ k l h. brought k (omega (arith, l)) (omega (arith, h))) in
        let a = alike j (omega arith) (omega arith) in
        let x : Brought = record { body = gather 0 (body j) s.bytes; app = app } in
        let w = way_out own.site.faults own.site.device (route own (f j)) (own_frame (route own (f j)) app (gather 0 (body j) s.bytes)) in
        let same : stored_of w ≡ writing m (g j) (e j) = a.writes x ∙ ap (writing m (g j)) (brought j (omega arith) (omega arith)) in
        let why : (tell (act_of own (write_at j)) s).why ≡ why_of (writing m (g j) (e j)) = why_out (route own (f j)) w [] _ ∙ ap why_of same in
        let left : next.blocks ≡ stored_at (stored_cell m.site (route m (g j))) (m.site.device.leaves (route m (g j))) (writing m (g j) (e j)) s.blocks
        = left_out (own.site.device.leaves (route own (f j))) (route own (f j)) w [] _ (stored_cell own.site (route own (f j))) s.blocks ∙ (λ i. stored_at (a.stored i) (λ old frame. a.leaves old frame i) (same i) s.blocks) in
        record {
          whys = λ i. why i ∷ r.whys i;
          blocks = r.blocks ∙ ap (written m (each_from (suc j) n g) (each_from (suc j) n e)) left;
        }

  -- ---- reads, one after another

  module _ (f g : ℕ → Block) (body : ℕ → List ℕ) where
    abbrev read_at : ℕ → Step
    read_at k = Reads (f k) OfBlock (body k)

    pub record AreRead (j n : ℕ) (pre old : List ℕ) (s : State) : Type 0 where
      pub whys : map (λ a. a.why) (plain_tells act tell (map (act_of own) (each_from j n read_at)) s) ≡ whys_read m (each_from j n g) s.blocks
      pub blocks : (plain act (map (act_of own) (each_from j n read_at)) s).blocks ≡ s.blocks
      pub bytes : (plain act (map (act_of own) (each_from j n read_at)) s).bytes ≡ pre ++ (data_read m (each_from j n g) s.blocks ++ drop (n * m.size) old)
      pub long : length (data_read m (each_from j n g) s.blocks) ≡ n * m.size

    pub all_read : (j n : ℕ) (pre old : List ℕ) (s : State) → s.bytes ≡ pre ++ old → length pre ≡ j * m.size → n * m.size ≤ length old → ((k : ℕ) → j ≤ k → k < j + n → Alike (f k) (g k)) →
        ((k : ℕ) → j ≤ k → k < j + n → body k ≡ in_turn (k * m.size) m.size) → ((k : ℕ) → j ≤ k → k < j + n → IsLong m.size (reading m (g k) s.blocks)) → AreRead j n pre old s
    all_read j zero pre old s e p l alike there long =
        let z : 0 ≡ 0 * m.size = omega arith in record { whys = refl; blocks = refl; bytes = e ∙ ap (λ v. pre ++ drop v old) z; long = z }
    all_read j (suc n) pre old s e p l alike there long =
        let size = m.size in
        let a = alike j (omega arith) (omega arith) in
        let w = way_in own.site.faults own.site.device (route own (f j)) OfBlock (get_or s.blocks (fetched_cell own.site (route own (f j))) []) in
        let same : delivered_of w ≡ reading m (g j) s.blocks = a.reads s.blocks in
        let cells : body j ≡ in_turn (length pre) size = there j (omega arith) (omega arith) ∙ ap (λ v. in_turn v size) (sym p) in
        let many : length (body j) ≡ size = ap length cells ∙ turn_length (length pre) size in
        let after = length (get_or (gather [] ((act_of own (read_at j)).logs.reads) s.logs) 0 []) in
        let come = reading m (g j) s.blocks in
        let q = landed_at (route own (f j)) w size after come same (long j (omega arith) (omega arith)) in
        let values = (read_by (route own (f j)) OfBlock w size after).written.bytes in
        let landed = landed_by size come in
        let z : length landed ≡ size = ap length (sym q.front) ∙ length-take-le size values q.long in
        let once : suc n * size ≡ size + n * size = omega arith in
        let o = length-drop size old in
        let k = length-append pre landed in
        let up : suc j * size ≡ j * size + size = omega arith in
        let next = act (act_of own (read_at j)) s in
        let bytes : next.bytes ≡ (pre ++ landed) ++ drop size old
        = (λ i. scatter (cells i) (read_by (route own (f j)) OfBlock w (many i) after).written.bytes (e i)) ∙ scattered pre values old size q.long (omega arith) ∙ ap (λ t. pre ++ (t ++ drop size old)) q.front ∙ sym (append_assoc pre landed (drop size old)) in
        let r = all_read (suc j) n (pre ++ landed) (drop size old) next bytes (omega arith) (omega arith) (λ k l h. alike k (omega (arith, l)) (omega (arith, h))) (λ k l h. there k (omega (arith, l)) (omega (arith, h)))
        (λ k l h. long k (omega (arith, l)) (omega (arith, h))) in
        let why : (tell (act_of own (read_at j)) s).why ≡ why_of come = why_in (route own (f j)) w (length (body j)) after ∙ ap why_of same in
        let rest : size + n * size ≡ suc n * size = omega arith in
        let behind = data_read m (each_from (suc j) n g) s.blocks in
        record {
          whys = λ i. why i ∷ r.whys i;
          blocks = r.blocks;
          long = (let d = length-append landed behind in let b = r.long in omega arith);
          bytes =
              r.bytes ∙ append_assoc pre landed (behind ++ drop (n * size) (drop size old)) ∙ ap (λ t. pre ++ (landed ++ (behind ++ t))) (drop-drop (n * size) size old ∙ ap (λ v. drop v old) rest)
              ∙ ap (λ t. pre ++ t) (sym (append_assoc landed behind (drop (suc n * size) old)));
        }
