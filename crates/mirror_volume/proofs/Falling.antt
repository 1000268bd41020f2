-- The blocks of a request on a leg, done one after another, where store calls may fail: what is found of each, and what it leaves.
use Rattle.std.proofs.Common.{◌≡◌, ◌<◌, ◌≤◌, ◌⊎◌, inl, inr, ℕ, zero, suc, ◌+◌, ◌-◌, ◌*◌, false, List, [], ◌∷◌, length, map, get_or, replicate, set, take, Option, Some, None, refl, sym, ap, subst, ◌∙◌, arith}
use Rattle.std.specs.Prelude.{Result, Ok, Err}
use Rattle.std.proofs.lemmas.List.{get_or-set_other, get_or-set_same, length-replicate, length-set, take_all}
use Rattle.page_pool.specs.Cells.{gather, scatter}
use Rattle.range_gate.specs.Cells.{in_turn}
use Rattle.range_gate.specs.Passed.{share_a_cell}
use Rattle.pi_tuple.specs.declared.checks.Check.{Check}
use Rattle.integrity_payload.specs.declared.payload.Owner.{Owner}
use Rattle.bio_core.specs.declared.fate.Why.{Why}
use Rattle.bio_core.specs.declared.fate.Why.TheVariants.{Medium}
use Rattle.block_path.specs.Acts.{Act, State, act, tell}
use Rattle.block_path.specs.Blocks.{ActAnswer, fetched_cell, own_frame, read_by, silent, stored_cell, stored_over, written_by}
use Rattle.block_path.specs.Serial.{plain_tells}
use Rattle.block_path.specs.WayIn.{Delivers, Spoils, Stops, WayIn, delivered_of, way_in}
use Rattle.block_path.specs.WayOut.{Fails, Refuses, Stores, WayOut, from_adapter, mapped_out, stored_of, to_wire, way_out}
use Rattle.block_path.specs.declared.route.Route.{Route}
use Rattle.walk_laws.specs.Past.{Brought}
use Rattle.walk_laws.specs.ScriptWalk.{act_of}
use Rattle.walk_laws.specs.Settings.{Block, Setting, route}
use Rattle.walk_laws.specs.Steps.{Reads, Step, Writes, each_from}
use Rattle.walk_laws.proofs.CalmRuns.{room as block_ends}
use Rattle.walk_laws.proofs.Passed.{AllBelow, Distinct}
use Rattle.walk_laws.proofs.InSteps.{each_length, each_split, later_blocks, same_pages, stepped, stepped_append, tells_at}
use Rattle.run_laws.specs.StoreFaults.{failing, fallen, leaving, may_fall, or_fallen, over_failing}
use Rattle.run_laws.proofs.Parts.{landed}
use Rattle.run_laws.proofs.Turns.{share_bound, turn_below, turn_distinct, turn_from, turn_length}
use Rattle.mirror_laws.specs.OnLegs.{why_of}
use Rattle.mirror_laws.specs.Repair.{writing}

-- ---- one block

-- it isn't the medium
abbrev pub IsOther : Why → Type 0
IsOther why = why ≡ Medium → ⊥

module _ (own : Setting) (falls : Block → Option (List ℕ)) where
  abbrev pub does : Step → Act ActAnswer
  does step = may_fall own falls step

  -- It fails at the medium, and lands zeros.
  record FailsThere (to : List ℕ) (a : Act ActAnswer) : Type 0 where
    why : (s : State) → (tell a s).why ≡ Some Medium
    zeros : (s : State) → (act a s).bytes ≡ scatter to (replicate (length to) 0) s.bytes

  -- A read fails at the medium, or is done as it is.
  reads_or : (b : Block) (owner : Owner) (to : List ℕ) → FailsThere to (does (Reads b owner to)) ⊎ (does (Reads b owner to) ≡ act_of own (Reads b owner to))
  reads_or b owner to = by (falls b) where
    by : (o : Option (List ℕ)) → FailsThere to (or_fallen own (Reads b owner to) o) ⊎ (or_fallen own (Reads b owner to) o ≡ act_of own (Reads b owner to))
    by None = inr refl
    by (Some left) = inl (record { why = λ s. refl; zeros = λ s. refl })

  reads_lands : (b : Block) (owner : Owner) (to : List ℕ) → (does (Reads b owner to)).bytes.writes ≡ to
  reads_lands b owner to = by (falls b) where
    by : (o : Option (List ℕ)) → (or_fallen own (Reads b owner to) o).bytes.writes ≡ to
    by None = refl
    by (Some left) = refl

  reads_keep : (b : Block) (owner : Owner) (to : List ℕ) (s : State) → (act (does (Reads b owner to)) s).blocks ≡ s.blocks
  reads_keep b owner to s = by (falls b) where
    by : (o : Option (List ℕ)) → (act (or_fallen own (Reads b owner to) o) s).blocks ≡ s.blocks
    by None = refl
    by (Some left) = refl

  -- what is stored by a write, by what is found of it
  pub record WritesSo (b : Block) (x : Brought) (s next : State) (why : Option Why) : Type 0 where
    pub stores : why ≡ None → (stored : List ℕ) × ((writing own b x ≡ Ok stored) × (next.blocks ≡ set s.blocks (stored_cell own.site (route own b)) (own.site.device.leaves (route own b) (get_or s.blocks (stored_cell own.site (route own b)) []) stored)))
    pub may : (stored : List ℕ) → writing own b x ≡ Ok stored → (why ≡ None) ⊎ (why ≡ Some Medium)
    pub stays : (w : Why) → why ≡ Some w → IsOther w → next.blocks ≡ s.blocks
    pub elsewhere : (c : ℕ) → (stored_cell own.site (route own b) ≡ c → ⊥) → get_or next.blocks c [] ≡ get_or s.blocks c []
    pub size : length next.blocks ≡ length s.blocks
    pub bytes : next.bytes ≡ s.bytes

  module _ (b : Block) (app : ℕ) (body : List ℕ) (s : State) where
    abbrev x : Brought
    x = record { body = gather 0 body s.bytes; app = app }

    abbrev c : ℕ
    c = stored_cell own.site (route own b)

    abbrev r : Route
    r = route own b

    abbrev frame : List ℕ
    frame = own_frame (route own b) app (gather 0 body s.bytes)

    abbrev logged : List (List ℕ)
    logged = get_or (gather [] ((act_of own (Writes b app body)).logs.reads) s.logs) 0 []

    -- Its blocks and its pages alone count.
    abbrev Is : (blocks : List (List ℕ)) (bytes : List ℕ) → Option Why → Type 0
    Is blocks bytes why = WritesSo b x s (record s { blocks = blocks; bytes = bytes }) why

    -- what is left of a stored frame
    abbrev left_over : List ℕ → List ℕ
    left_over stored = own.site.device.leaves r (get_or s.blocks c []) stored

    -- as it is
    straight : (w : WayOut) → stored_of w ≡ writing own b x → Is (scatter (c ∷ []) (map left_over (written_by r w [] logged).written.blocks) s.blocks) s.bytes (written_by r w [] logged).answer.why
    straight (Fails why) e = record {
      stores = λ n. absurd cc;
      may = λ stored q. absurd (let z = e ∙ q in cc);
      stays = λ w q o. refl;
      elsewhere = λ d off. refl;
      size = refl;
      bytes = refl;
    }
    straight (Refuses why) e = record {
      stores = λ n. absurd cc;
      may = λ stored q. absurd (let z = e ∙ q in cc);
      stays = λ w q o. refl;
      elsewhere = λ d off. refl;
      size = refl;
      bytes = refl;
    }
    straight (Stores carried stored) e = record {
      stores = λ n. (stored, (sym e, refl));
      may = λ stored q. inl refl;
      stays = λ w q o. absurd cc;
      elsewhere = λ d off. get_or-set_other s.blocks c d (left_over stored) [] (λ z. off (sym z));
      size = length-set s.blocks c (left_over stored);
      bytes = refl;
    }

    -- and where its store call fails
    crooked : (left : List ℕ) (w : Result (List ℕ) Check) → to_wire own.site.faults r (mapped_out r frame) ≡ w →
        let e = leaving left (stored_over (over_failing own).site r (get_or s.blocks c []) (written_by r (from_adapter failing r w) [] logged)) in Is (scatter (c ∷ []) e.written.blocks s.blocks) s.bytes e.answer.why
    crooked left (Ok carried) e = record {
      stores = λ n. absurd cc;
      may = λ stored q. inr refl;
      stays = λ w q o. absurd (o (let z : w ≡ Medium = cc in z));
      elsewhere = λ d off. get_or-set_other s.blocks c d left [] (λ z. off (sym z));
      size = length-set s.blocks c left;
      bytes = refl;
    }
    crooked left (Err check) e = record {
      stores = λ n. absurd cc;
      may = λ stored q. absurd (let z = sym (ap (λ y. stored_of (from_adapter own.site.device r y)) e) ∙ q in cc);
      stays = λ w q o. refl;
      elsewhere = λ d off. refl;
      size = refl;
      bytes = refl;
    }

    -- what counts of a state
    so : (next : State) (why : Option Why) → Is next.blocks next.bytes why → WritesSo b x s next why
    so next why h = record { stores = h.stores; may = h.may; stays = h.stays; elsewhere = h.elsewhere; size = h.size; bytes = h.bytes }

    by_call : (o : Option (List ℕ)) → WritesSo b x s (act (or_fallen own (Writes b app body) o) s) (tell (or_fallen own (Writes b app body) o) s).why
    by_call None = so (act (act_of own (Writes b app body)) s) (tell (act_of own (Writes b app body)) s).why (straight (way_out own.site.faults own.site.device r frame) refl)
    by_call (Some left) = so (act (fallen own left (Writes b app body)) s) (tell (fallen own left (Writes b app body)) s).why (crooked left (to_wire own.site.faults r (mapped_out r frame)) refl)

    pub writes_so : WritesSo b x s (act (does (Writes b app body)) s) (tell (does (Writes b app body)) s).why
    writes_so = by_call (falls b)

  -- ---- the blocks of a request

  why-in-list : (xs : List ActAnswer) (k : ℕ) → get_or (map (λ (a : ActAnswer). a.why) xs) k None ≡ (get_or xs k silent).why
  why-in-list [] k = refl
  why-in-list (x ∷ xs) zero = refl
  why-in-list (x ∷ xs) (suc k) = why-in-list xs k

  module _ (f : ℕ → Step) (n : ℕ) (s : State) where
    -- what is found of each
    abbrev pub whys : List (Option Why)
    whys = map (λ (a : ActAnswer). a.why) (plain_tells act tell (map does (each_from 0 n f)) s)

    abbrev pub final : State
    final = stepped does (each_from 0 n f) s

    -- before block k
    abbrev pub here : ℕ → State
    here k = stepped does (each_from 0 k f) s

    abbrev later : ℕ → List Step
    later k = each_from (suc k) (n - suc k) f

    pub why_at : (k : ℕ) → k < n → get_or whys k None ≡ (tell (does (f k)) (here k)).why
    why_at k l =
        why-in-list (plain_tells act tell (map does (each_from 0 n f)) s) k
        ∙ ap (λ (steps : List Step). (get_or (plain_tells act tell (map does steps) s) k silent).why) (each_split 0 k n k f l (omega arith))
        ∙ ap (λ (x : ActAnswer). x.why) (tells_at does (each_from 0 k f) (f k) (later k) s k (each_length 0 k f))

    pub final_from : (k : ℕ) → k < n → final ≡ stepped does (later k) (act (does (f k)) (here k))
    final_from k l =
        ap (λ (steps : List Step). stepped does steps s) (each_split 0 k n k f l (omega arith))
        ∙ stepped_append does (each_from 0 k f) (f k ∷ later k) s

  -- ---- reads

  module _ (b : ℕ → Block) (owner : Owner) (to : ℕ → List ℕ) where
    abbrev pub read_at : ℕ → Step
    read_at k = Reads (b k) owner (to k)

    pub all_keep : (j n : ℕ) (s : State) → (stepped does (each_from j n read_at) s).blocks ≡ s.blocks
    all_keep j zero s = refl
    all_keep j (suc n) s = all_keep (suc j) n (act (does (read_at j)) s) ∙ reads_keep (b j) owner (to j) s

    abbrev pub way_of : ℕ → State → WayIn
    way_of k s = way_in own.site.faults own.site.device (route own (b k)) owner (get_or s.blocks (fetched_cell own.site (route own (b k))) [])

    why_read : (r : Route) (w : WayIn) (size after : ℕ) → (read_by r owner w size after).answer.why ≡ why_of (delivered_of w)
    why_read r (Stops why) size after = refl
    why_read r (Spoils why carried) size after = refl
    why_read r (Delivers carried whole) size after = refl

    module _ (n : ℕ) (s : State) where
      abbrev found : ℕ → Option Why
      found k = get_or (whys read_at n s) k None

      -- it is the medium, or what comes of the stored block
      pub read_found : (k : ℕ) → k < n → (found k ≡ Some Medium) ⊎ (found k ≡ why_of (delivered_of (way_of k s)))
      read_found k l = by (reads_or (b k) owner (to k)) (why_at read_at n s k l) (all_keep 0 k s) where
        by : FailsThere (to k) (does (read_at k)) ⊎ (does (read_at k) ≡ act_of own (read_at k)) → found k ≡ (tell (does (read_at k)) (here read_at n s k)).why → (here read_at n s k).blocks ≡ s.blocks → (found k ≡ Some Medium) ⊎ (found k ≡ why_of (delivered_of (way_of k s)))
        by (inl medium) at kept = inl (at ∙ medium.why (here read_at n s k))
        by (inr same) at kept =
            inr (at ∙ ap (λ (a : Act ActAnswer). (tell a (here read_at n s k)).why) same
            ∙ why_read (route own (b k)) (way_of k (here read_at n s k)) _ _
            ∙ ap (λ (blocks : List (List ℕ)). why_of (delivered_of (way_in own.site.faults own.site.device (route own (b k)) owner (get_or blocks (fetched_cell own.site (route own (b k))) [])))) kept)

      -- What landed: the blocks land side by side, each in as many bytes.
      module _ (size : ℕ) (turns : (k : ℕ) → k < n → to k ≡ in_turn (k * size) size) (room : n * size ≤ length s.bytes) where
        abbrev pub part : ℕ → List ℕ
        part k = gather 0 (to k) (final read_at n s).bytes

        apart : (k j : ℕ) → k < j → j < n → share_a_cell (to k) (to j) ≡ false
        apart k j l h =
            let ends = block_ends size k j l in
            subst (λ (xs : List ℕ). share_a_cell xs (to j) ≡ false) (sym (turns k (omega (arith, l, h))))
            (subst (λ (ys : List ℕ). share_a_cell (in_turn (k * size) size) ys ≡ false) (sym (turns j h))
            (share_bound (j * size) (in_turn (k * size) size) (in_turn (j * size) size) (turn_below (k * size) size (j * size) ends) (turn_from (j * size) size)))

        settled : (k : ℕ) → k < n → part k ≡ gather 0 (to k) (act (does (read_at k)) (here read_at n s k)).bytes
        settled k l =
            ap (λ (c : State). gather 0 (to k) c.bytes) (final_from read_at n s k l)
            ∙ later_blocks does read_at to (λ j. reads_lands (b j) owner (to j)) (to k) (suc k) (n - suc k) (act (does (read_at k)) (here read_at n s k)) (λ j g h. apart k j (omega (arith, g)) (omega (arith, l, h)))

        long : (k : ℕ) → k < n → length (to k) ≡ size
        long k l = ap length (turns k l) ∙ turn_length (k * size) size

        lands : (k : ℕ) → k < n → (xs : List ℕ) → size ≤ length xs → gather 0 (to k) (scatter (to k) xs (here read_at n s k).bytes) ≡ take size xs
        lands k l xs more =
            let z = here read_at n s k in
            let same = same_pages does (each_from 0 k read_at) s in
            let ends = block_ends size k n l in
            let its = long k l in
            landed (to k) xs z.bytes (subst (λ (at : List ℕ). Distinct at) (sym (turns k l)) (turn_distinct (k * size) size))
            (subst (λ (at : List ℕ). AllBelow (length z.bytes) at) (sym (turns k l)) (turn_below (k * size) size (length z.bytes) (omega (arith, ends, same, room))))
            (omega (arith, its, more)) ∙ ap (λ (m : ℕ). take m xs) its

        zeros_take : (m : ℕ) → m ≡ size → take size (replicate {A = ℕ} m 0) ≡ replicate size 0
        zeros_take m e = ap (λ (k : ℕ). take size (replicate {A = ℕ} k 0)) e ∙ (let l = length-replicate {A = ℕ} size 0 in take_all size (replicate {A = ℕ} size 0) (omega (arith, l)))

        zeros_long : (m : ℕ) → m ≡ size → size ≤ length (replicate {A = ℕ} m 0)
        zeros_long m e = let l = length-replicate {A = ℕ} m 0 in omega (arith, l, e)

        -- by what is delivered
        zeros_of : (r : Route) (w : WayIn) (m after : ℕ) (why : Why) → why_of (delivered_of w) ≡ Some why → (read_by r owner w m after).written.bytes ≡ replicate m 0
        zeros_of r (Stops x) m after why e = refl
        zeros_of r (Spoils x carried) m after why e = refl
        zeros_of r (Delivers carried frame) m after why e = absurd cc

        frame_of : (r : Route) (w : WayIn) (m after : ℕ) (frame : List ℕ) → delivered_of w ≡ Ok frame → (read_by r owner w m after).written.bytes ≡ frame
        frame_of r (Stops x) m after frame e = absurd cc
        frame_of r (Spoils x carried) m after frame e = absurd cc
        frame_of r (Delivers carried x) m after frame e = let z : x ≡ frame = cc in z

        kept_way : (k : ℕ) → way_of k (here read_at n s k) ≡ way_of k s
        kept_way k = ap (λ (blocks : List (List ℕ)). way_in own.site.faults own.site.device (route own (b k)) owner (get_or blocks (fetched_cell own.site (route own (b k))) [])) (all_keep 0 k s)

        -- the cells before block k, and how many it lands in
        abbrev z_of : ℕ → State
        z_of k = here read_at n s k

        abbrev m_of : ℕ → ℕ
        m_of k = length (to k)

        -- a block that is listed lands zeros
        pub listed_zeros : (k : ℕ) → k < n → (why : Why) → found k ≡ Some why → part k ≡ replicate size 0
        listed_zeros k l why e = settled k l ∙ by (reads_or (b k) owner (to k)) where
          by : FailsThere (to k) (does (read_at k)) ⊎ (does (read_at k) ≡ act_of own (read_at k)) → gather 0 (to k) (act (does (read_at k)) (z_of k)).bytes ≡ replicate size 0
          by (inl medium) = ap (gather 0 (to k)) (medium.zeros (z_of k)) ∙ lands k l (replicate (m_of k) 0) (zeros_long (m_of k) (long k l)) ∙ zeros_take (m_of k) (long k l)
          by (inr same) =
              let w : (read_by (route own (b k)) owner (way_of k (z_of k)) (m_of k) (length (get_or (gather [] ((act_of own (read_at k)).logs.reads) (z_of k).logs) 0 []))).written.bytes ≡ replicate (m_of k) 0
              = zeros_of (route own (b k)) (way_of k (z_of k)) (m_of k) _ why (sym (why_read (route own (b k)) (way_of k (z_of k)) (m_of k) _) ∙ ap (λ (a : Act ActAnswer). (tell a (z_of k)).why) (sym same) ∙ sym (why_at read_at n s k l) ∙ e) in
              ap (λ (a : Act ActAnswer). gather 0 (to k) (act a (z_of k)).bytes) same ∙ ap (λ (xs : List ℕ). gather 0 (to k) (scatter (to k) xs (z_of k).bytes)) w
              ∙ lands k l (replicate (m_of k) 0) (zeros_long (m_of k) (long k l)) ∙ zeros_take (m_of k) (long k l)

        -- and one that isn't what is delivered of it
        pub unlisted_lands : (k : ℕ) → k < n → found k ≡ None → (frame : List ℕ) → delivered_of (way_of k s) ≡ Ok frame → size ≤ length frame → part k ≡ take size frame
        unlisted_lands k l e frame d more = settled k l ∙ by (reads_or (b k) owner (to k)) where
          by : FailsThere (to k) (does (read_at k)) ⊎ (does (read_at k) ≡ act_of own (read_at k)) → gather 0 (to k) (act (does (read_at k)) (z_of k)).bytes ≡ take size frame
          by (inl medium) = absurd (let x = sym e ∙ why_at read_at n s k l ∙ medium.why (z_of k) in cc)
          by (inr same) =
              ap (λ (a : Act ActAnswer). gather 0 (to k) (act a (z_of k)).bytes) same
              ∙ ap (λ (xs : List ℕ). gather 0 (to k) (scatter (to k) xs (z_of k).bytes)) (frame_of (route own (b k)) (way_of k (z_of k)) (m_of k) _ frame (ap delivered_of (kept_way k) ∙ d))
              ∙ lands k l frame more

  -- ---- writes

  module _ (b : ℕ → Block) (app : ℕ) (body : ℕ → List ℕ) where
    abbrev pub write_at : ℕ → Step
    write_at k = Writes (b k) app (body k)

    abbrev pub cell_at : ℕ → ℕ
    cell_at k = stored_cell own.site (route own (b k))

    -- what is stored elsewhere stays
    pub all_elsewhere : (c j n : ℕ) (s : State) → ((k : ℕ) → j ≤ k → k < j + n → cell_at k ≡ c → ⊥) → get_or (stepped does (each_from j n write_at) s).blocks c [] ≡ get_or s.blocks c []
    all_elsewhere c j zero s off = refl
    all_elsewhere c j (suc n) s off =
        all_elsewhere c (suc j) n (act (does (write_at j)) s) (λ k l h. off k (omega (arith, l)) (omega (arith, h)))
        ∙ (writes_so (b j) app (body j) s).elsewhere c (off j (omega arith) (omega arith))

    pub all_bytes : (j n : ℕ) (s : State) → (stepped does (each_from j n write_at) s).bytes ≡ s.bytes
    all_bytes j zero s = refl
    all_bytes j (suc n) s = all_bytes (suc j) n (act (does (write_at j)) s) ∙ (writes_so (b j) app (body j) s).bytes

    all_size : (j n : ℕ) (s : State) → length (stepped does (each_from j n write_at) s).blocks ≡ length s.blocks
    all_size j zero s = refl
    all_size j (suc n) s = all_size (suc j) n (act (does (write_at j)) s) ∙ (writes_so (b j) app (body j) s).size

    module _ (n : ℕ) (s : State) (apart : (k j : ℕ) → k < n → j < n → cell_at k ≡ cell_at j → k ≡ j) where
      abbrev brought : ℕ → Brought
      brought k = record { body = gather 0 (body k) s.bytes; app = app }

      -- one of them
      pub record Wrote (k : ℕ) : Type 0 where
        pub stores : get_or (whys write_at n s) k None ≡ None → (stored : List ℕ) × ((writing own (b k) (brought k) ≡ Ok stored) × (get_or (final write_at n s).blocks (cell_at k) [] ≡ own.site.device.leaves (route own (b k)) (get_or s.blocks (cell_at k) []) stored))
        pub may : (stored : List ℕ) → writing own (b k) (brought k) ≡ Ok stored → (get_or (whys write_at n s) k None ≡ None) ⊎ (get_or (whys write_at n s) k None ≡ Some Medium)
        pub stays : (w : Why) → get_or (whys write_at n s) k None ≡ Some w → IsOther w → get_or (final write_at n s).blocks (cell_at k) [] ≡ get_or s.blocks (cell_at k) []

      pub wrote : (k : ℕ) → k < n → cell_at k < length s.blocks → Wrote k
      wrote k l inside =
          let z = here write_at n s k in
          let why = (tell (does (write_at k)) z).why in
          let at = why_at write_at n s k l in
          let next = act (does (write_at k)) z in
          let one : WritesSo (b k) (brought k) z next why =
          subst (λ (bytes : List ℕ). WritesSo (b k) (record { body = gather 0 (body k) bytes; app = app }) z next why) (all_bytes 0 k s) (writes_so (b k) app (body k) z) in
          let before : get_or z.blocks (cell_at k) [] ≡ get_or s.blocks (cell_at k) [] = all_elsewhere (cell_at k) 0 k s (λ j g h e. (let q = apart j k (omega (arith, h, l)) l e in omega (arith, h, q))) in
          let after : get_or (final write_at n s).blocks (cell_at k) [] ≡ get_or next.blocks (cell_at k) [] =
          ap (λ (c : State). get_or c.blocks (cell_at k) []) (final_from write_at n s k l)
          ∙ all_elsewhere (cell_at k) (suc k) (n - suc k) next (λ j g h e. (let q = apart j k (omega (arith, h, l)) l e in omega (arith, g, q))) in
          let size = all_size 0 k s in
          record {
            stores = λ e.
                (let x = one.stores (sym at ∙ e) in
                let left = own.site.device.leaves (route own (b k)) in (
                  x.0,
                  (
                    x.1.0,
                    after ∙ ap (λ (bs : List (List ℕ)). get_or bs (cell_at k) []) x.1.1
                        ∙ get_or-set_same z.blocks (cell_at k) (left (get_or z.blocks (cell_at k) []) x.0) [] (omega (arith, inside, size)) ∙ ap (λ old. left old x.0) before,
                  ),
                ));
            may = λ stored e. subst (λ (w : Option Why). (w ≡ None) ⊎ (w ≡ Some Medium)) (sym at) (one.may stored e);
            stays = λ w e o. after ∙ ap (λ (bs : List (List ℕ)). get_or bs (cell_at k) []) (one.stays w (sym at ∙ e) o) ∙ before;
          }
