-- Along the walk without a flip: what stands in the pages and on the volume. And what one step does in both runs.
use Rattle.std.proofs.Common.{◌≡◌, ◌<◌, ℕ, zero, suc, ◌+◌, ◌%◌, ◌^◌, Bool, true, false, eqb, ◌||◌, if◌then◌else◌, List, [], ◌∷◌, length, take, drop, get_or, map, set, Option, Some, None, refl, sym, ap, subst, ◌∙◌, arith, length-append}
use Rattle.std.specs.Int.{w32, from_be_bytes, to_be_bytes}
use Rattle.std.proofs.lemmas.List.{map-set, set-get_or}
use Rattle.pi_guard.specs.Guards.{guard_of}
use Rattle.pi_guard.proofs.GuardSizes.{guard_below}
use Rattle.pi_tuple.specs.Finds.{is_escaped}
use Rattle.pi_tuple.specs.Tuples.{ref_tag, tuple_bytes}
use Rattle.pi_tuple.specs.declared.tuple.Tuple.{Tuple}
use Rattle.pi_tuple.specs.declared.checks.Check.{Check}
use Rattle.pi_tuple.specs.declared.checks.PiType.TheVariants.{One}
use Rattle.pi_tuple.proofs.TupleLaws.{tag_below}
use Rattle.page_pool.specs.Cells.{gather, scatter}
use Rattle.fault_schedule.specs.declared.fault.Crossing.TheVariants.{TargetToMedium}
use Rattle.integrity_payload.specs.declared.payload.Owner.{Owner}
use Rattle.volume_table.specs.Places.{volume_len}
use Rattle.block_path.specs.Acts.{State, act}
use Rattle.block_path.specs.Blocks.{fetched_cell, own_cell, own_frame, own_tuple, read_by, stored_cell, tag_after, tuple_after, written_by}
use Rattle.block_path.specs.WayIn.{Delivers, Spoils, Stops, WayIn, way_in}
use Rattle.block_path.specs.WayOut.{Fails, Refuses, Stores, WayOut, adapter_finds_out, mapped_out, sent, way_out}
use Rattle.block_path.proofs.Cells.{AllBelow, gather_length}
use Rattle.walk_laws.specs.CalmRun.{LiesInImage}
use Rattle.walk_laws.specs.ScriptWalk.{act_of}
use Rattle.walk_laws.specs.Settings.{Block, Setting, route}
use Rattle.walk_laws.specs.Steps.{Alters, Reads, Seals, Sets, Shows, Step, Writes, WritesPi}
use Rattle.walk_laws.specs.UnderMap.{SuppliesNoEscape, home}
use Rattle.walk_laws.proofs.TupleFrames.{Small, below_append, below_drop, below_gather, below_replicate, below_scatter, below_take, four_below, tuple_below, tuple_is}
use Rattle.run_laws.proofs.Counted.{set_cases}
use Rattle.run_premises.proofs.Ways.{OfBytes, comes_bytes}
use Rattle.lab_laws.proofs.Flipped.{Whole}
use Rattle.lab_laws.proofs.Ways.{fetched_home, in_by, out_by, out_of, stored_home, target_finds}
use Rattle.lab_laws.proofs.OneLine.{kept_over, m0, none_altered, none_shifted, quiet_in, quiet_out}
use Rattle.lab_laws.proofs.Marked.{in_why, mapped_whole, no_bytes, out_why, sent_whole, to_fine}

module _ (m' : Setting) (even : m'.size % 2 ≡ 0) (image : List (List ℕ)) (lies : LiesInImage (m0 m' TargetToMedium 0 0 0 0) (volume_len m'.entries) image) where
  abbrev m : Setting
  m = m0 m' TargetToMedium 0 0 0 0

  abbrev bare : Setting
  bare = record m' { site = record m'.site { faults = [] } }

  abbrev n : ℕ
  n = m'.size

  abbrev count : ℕ
  count = volume_len m'.entries

  -- what is asked of a step
  abbrev pub Suits : Step → Type 0
  Suits (Sets at values) = AllBelow 256 values
  Suits (Shows at) = Unit {0}
  Suits (Seals body tuple app rtag) = Unit {0}
  Suits (Writes b app body) = (b.virt < count) × ((length body ≡ n) × (app < 2 ^ 16))
  Suits (WritesPi b frame) = (b.virt < count) × (length frame ≡ n + 8)
  Suits (Reads b owner to) = b.virt < count
  Suits (Alters dev lba change) = ⊥

  -- The pages are bytes, each stored block has its size, and each of the volume is a frame of bytes and no escape.
  pub record Holds (s : State) : Type 0 where
    pub pages : AllBelow 256 s.bytes
    pub sizes : map length s.blocks ≡ map length image
    pub each : (v : ℕ) → v < count → Whole n (get_or s.blocks (home m v) [])

  pub many : (s : State) → Holds s → length s.blocks ≡ length image
  many s h = sym (length_of s.blocks) ∙ ap length h.sizes ∙ length_of image
    where
      length_of : (xs : List (List ℕ)) → length (map length xs) ≡ length xs
      length_of [] = refl
      length_of (x ∷ xs) = ap suc (length_of xs)

  pub inside : (s : State) → Holds s → (v : ℕ) → v < count → home m v < length s.blocks
  inside s h v l = let w = lies.within v l in let e = many s h in omega (arith, w, e)

  -- a frame in the place of another
  pub same_sizes : (s : State) → Holds s → (v : ℕ) → v < count → (x : List ℕ) → Whole n x → map length (set s.blocks (home m v) x) ≡ map length s.blocks
  same_sizes s h v l x w =
      let c : ℕ = home m v in
      let k = h.each v l in
      let e : length x ≡ length (get_or s.blocks c []) = w.size ∙ sym k.size in
      map-set length s.blocks c x ∙ ap (λ (i : ℕ). set (map length s.blocks) c i) (e ∙ sym (get_length s.blocks c)) ∙ set-get_or (map length s.blocks) c 0
    where
      get_length : (xs : List (List ℕ)) (i : ℕ) → get_or (map length xs) i 0 ≡ length (get_or xs i [])
      get_length [] i = refl
      get_length (x ∷ xs) zero = refl
      get_length (x ∷ xs) (suc i) = get_length xs i

  stored : (v : ℕ) → v < count → (x : List ℕ) → Whole n x → (s : State) → Holds s → (u : ℕ) → u < count → Whole n (get_or (set s.blocks (home m v) x) (home m u) [])
  stored v l x w s h u g = set_cases (Whole n) s.blocks (home m v) (home m u) x [] (λ q. (inside s h v l, w)) (λ q. h.each u g)

  -- ---- ways

  -- how a block ends without a flip
  pub goes : (b : Block) (f : List ℕ) → way_out [] m.site.device (route m b) f ≡ out_by m' [] none_shifted b (λ x. x) (λ x. x) (λ x. x) f
  goes b f = quiet_out m' [] none_shifted b refl (none_altered m' b) f

  pub comes : (b : Block) (owner : Owner) (x : List ℕ) → way_in [] m.site.device (route m b) owner x ≡ in_by m' [] none_shifted b owner (λ x. x) (λ x. x) (λ x. x) x
  comes b owner x = quiet_in m' [] none_shifted b refl (none_altered m' b) owner x

  pub home_is : (b : Block) → stored_cell m.site (route m b) ≡ home m b.virt
  home_is b = stored_home m' [] none_shifted b

  pub fetched_is : (b : Block) → fetched_cell m.site (route m b) ≡ home m b.virt
  fetched_is b = fetched_home m' [] none_shifted b

  pub written_why : (b : Block) (w : WayOut) (back : List ℕ) (log : List (List ℕ)) → (written_by (route m b) w back log).answer.why ≡ out_why w
  written_why b (Fails why) back log = refl
  written_why b (Refuses why) back log = refl
  written_why b (Stores carried x) back log = refl

  pub read_why : (b : Block) (owner : Owner) (w : WayIn) (size after : ℕ) → (read_by (route m b) owner w size after).answer.why ≡ in_why w
  read_why b owner (Stops why) size after = refl
  read_why b owner (Spoils why carried) size after = refl
  read_why b owner (Delivers carried frame) size after = refl

  written_pages : (b : Block) (w : WayOut) (back : List ℕ) (log : List (List ℕ)) → (written_by (route m b) w back log).written.bytes ≡ back
  written_pages b (Fails why) back log = refl
  written_pages b (Refuses why) back log = refl
  written_pages b (Stores carried x) back log = refl

  abbrev Kept : WayOut → Type 0
  Kept (Fails why) = Unit {0}
  Kept (Refuses why) = Unit {0}
  Kept (Stores carried x) = Whole n x

  kept_of : (o p : Option Check) (y : List ℕ) → Whole n y → Kept (out_of o p y y)
  kept_of (Some c) p y h = tt
  kept_of None (Some c) y h = tt
  kept_of None None y h = h

  goes_kept : (b : Block) (f : List ℕ) → Whole n f → Kept (way_out [] m.site.device (route m b) f)
  goes_kept b f h =
      let x = mapped_out (route m b) f in
      let y = sent (route m b) x in
      subst Kept (sym (goes b f)) (kept_of (adapter_finds_out (route m b) x) (target_finds m' [] none_shifted b y) y (sent_whole m' even b x (mapped_whole m' even b f h)))

  written_sizes : (b : Block) (w : WayOut) (back : List ℕ) (log : List (List ℕ)) (s : State) → Holds s → b.virt < count → Kept w →
      map length (scatter (stored_cell m.site (route m b) ∷ []) (kept_over None [] (written_by (route m b) w back log)).written.blocks s.blocks) ≡ map length s.blocks
  written_sizes b (Fails why) back log s h l k = refl
  written_sizes b (Refuses why) back log s h l k = refl
  written_sizes b (Stores carried x) back log s h l k = ap (λ c. map length (set s.blocks c x)) (home_is b) ∙ same_sizes s h b.virt l x k

  written_each : (b : Block) (w : WayOut) (back : List ℕ) (log : List (List ℕ)) (s : State) → Holds s → b.virt < count → Kept w →
      (u : ℕ) → u < count → Whole n (get_or (scatter (stored_cell m.site (route m b) ∷ []) (kept_over None [] (written_by (route m b) w back log)).written.blocks s.blocks) (home m u) [])
  written_each b (Fails why) back log s h l k = h.each
  written_each b (Refuses why) back log s h l k = h.each
  written_each b (Stores carried x) back log s h l k = λ u g. subst (λ c. Whole n (get_or (set s.blocks c x) (home m u) [])) (sym (home_is b)) (stored b.virt l x k s h u g)

  -- ---- frames

  pub own_whole : (b : Block) (app : ℕ) (x : List ℕ) → length x ≡ n → AllBelow 256 x → app < 2 ^ 16 → is_escaped One (own_tuple (route m b) app x) ≡ false → Whole n (own_frame (route m b) app x)
  own_whole b app x l h a e =
      let t : Tuple = own_tuple (route m b) app x in
      let small : Small t = record { guard = guard_below m'.mode.kind x; app = a; rtag = tag_below b.virt } in
      record {
        size = length-append x (tuple_bytes t) ∙ ap (λ k. k + 8) l;
        bytes = below_append 256 x (tuple_bytes t) h (tuple_below t);
        escape = ap (λ (u : Tuple). is_escaped One u) (tuple_is n x t l small) ∙ e;
      }

  -- the frame that a write supplies
  pub own_supplied : (b : Block) (app : ℕ) (body : List ℕ) (s : State) → Suits (Writes b app body) → SuppliesNoEscape m (Writes b app body) s → Holds s → Whole n (own_frame (route m b) app (gather 0 body s.bytes))
  own_supplied b app body s fit e h =
      own_whole b app (gather 0 body s.bytes) (gather_length 0 body s.bytes ∙ fit.1.0) (below_gather 256 body s.bytes (omega arith) h.pages) fit.1.1 (e refl)

  pub app_supplied : (b : Block) (frame : List ℕ) (s : State) → Suits (WritesPi b frame) → SuppliesNoEscape m (WritesPi b frame) s → Holds s → Whole n (gather 0 frame s.bytes)
  app_supplied b frame s fit e h = record { size = gather_length 0 frame s.bytes ∙ fit.1; bytes = below_gather 256 frame s.bytes (omega arith) h.pages; escape = e }

  tag_bytes : (b : Block) (tag : List ℕ) → AllBelow 256 tag → AllBelow 256 (tag_after (route m b) tag)
  tag_bytes b tag h = by (eqb (from_be_bytes w32 tag) (ref_tag b.virt) || eqb (from_be_bytes w32 tag) (ref_tag (route m b).lba)) where
    by : (c : Bool) → AllBelow 256 (if c then to_be_bytes w32 (ref_tag b.virt) else tag)
    by true = four_below (ref_tag b.virt)
    by false = h

  after_bytes : (b : Block) (tuple : List ℕ) → AllBelow 256 tuple → AllBelow 256 (tuple_after (route m b) tuple)
  after_bytes b tuple h = below_append 256 (take 4 tuple) (tag_after (route m b) (drop 4 tuple)) (below_take 256 4 tuple h) (tag_bytes b (drop 4 tuple) (below_drop 256 4 tuple h))

  read_bytes : (b : Block) (owner : Owner) (w : WayIn) (size after : ℕ) → OfBytes bare [] even (no_bytes m' even) refl w → AllBelow 256 (read_by (route m b) owner w size after).written.bytes
  read_bytes b owner (Stops why) size after h = below_replicate 256 size 0 (omega arith)
  read_bytes b owner (Spoils why carried) size after h = below_replicate 256 size 0 (omega arith)
  read_bytes b owner (Delivers carried frame) size after h = h

  -- ---- a step

  pub holds_on : (step : Step) (s : State) → Suits step → SuppliesNoEscape m step s → Holds s → Holds (act (act_of m step) s)
  holds_on (Sets at values) s fit e h = record { pages = below_scatter 256 at values s.bytes fit h.pages; sizes = h.sizes; each = h.each }
  holds_on (Shows at) s fit e h = record { pages = h.pages; sizes = h.sizes; each = h.each }
  holds_on (Seals body tuple app rtag) s fit e h =
      let t : Tuple = record { guard = guard_of m'.mode.kind (gather 0 body s.bytes); app = app; rtag = rtag } in
      record { pages = below_scatter 256 tuple (tuple_bytes t) s.bytes (tuple_below t) h.pages; sizes = h.sizes; each = h.each }
  holds_on (Writes b app body) s fit e h =
      let f = own_frame (route m b) app (gather 0 body s.bytes) in
      let w = way_out [] m.site.device (route m b) f in
      let log = get_or s.logs (own_cell m.site (route m b)) [] in
      let k = goes_kept b f (own_supplied b app body s fit e h) in
      record { pages = h.pages; sizes = written_sizes b w [] log s h fit.0 k ∙ h.sizes; each = written_each b w [] log s h fit.0 k }
  holds_on (WritesPi b frame) s fit e h =
      let x = gather 0 frame s.bytes in
      let f = app_supplied b frame s fit e h in
      let w = way_out [] m.site.device (route m b) x in
      let log = get_or s.logs (own_cell m.site (route m b)) [] in
      let back = tuple_after (route m b) (drop n x) in
      let k = goes_kept b x f in
      record {
        pages = subst (λ bs. AllBelow 256 (scatter (drop n frame) bs s.bytes)) (sym (written_pages b w back log)) (below_scatter 256 (drop n frame) back s.bytes (after_bytes b (drop n x) (below_drop 256 n x f.bytes)) h.pages);
        sizes = written_sizes b w back log s h fit.0 k ∙ h.sizes;
        each = written_each b w back log s h fit.0 k;
      }
  holds_on (Reads b owner to) s fit e h =
      let x = get_or s.blocks (fetched_cell m.site (route m b)) [] in
      let k : Whole n x = subst (λ i. Whole n (get_or s.blocks i [])) (sym (fetched_is b)) (h.each b.virt fit) in
      let w = way_in [] m.site.device (route m b) owner x in
      let logged = length (get_or s.logs (own_cell m.site (route m b)) []) in
      record {
        pages = below_scatter 256 to (read_by (route m b) owner w (length to) logged).written.bytes s.bytes (read_bytes b owner w (length to) logged (comes_bytes bare [] even (no_bytes m' even) refl b owner x (to_fine m' even x k))) h.pages;
        sizes = h.sizes;
        each = h.each;
      }
  holds_on (Alters dev lba change) s fit e h = absurd fit
