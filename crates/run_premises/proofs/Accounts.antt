-- Along steps whose faults are known, whatever names their blocks: what stands in the pages and on the volume, and that each fault is shown or is of a block that the disk fails, loses or misdirects.
use Rattle.std.proofs.Common.{◌≡◌, ◌<◌, ℕ, zero, suc, ◌+◌, ◌%◌, ◌^◌, Bool, true, false, eqb, ◌&&◌, ◌||◌, not, if◌then◌else◌, List, [], ◌∷◌, ◌++◌, length, take, drop, get_or, map, set, Option, Some, None, refl, sym, ap, subst, ◌∙◌, arith}
use Rattle.std.specs.Prelude.{All, pos, nat_abs}
use Rattle.std.specs.Int.{w32, from_be_bytes, to_be_bytes}
use Rattle.std.proofs.lemmas.Bool.{and_from, eqb-true, false≢true, not-false}
use Rattle.std.proofs.lemmas.List.{length-set, set-get_or}
use Rattle.pi_guard.specs.Guards.{guard_of}
use Rattle.pi_guard.specs.declared.GuardKind.{GuardKind}
use Rattle.pi_guard.specs.declared.GuardKind.TheVariants.{Crc}
use Rattle.pi_tuple.specs.Tuples.{ref_tag, tuple_bytes}
use Rattle.pi_tuple.specs.declared.tuple.Tuple.{Tuple}
use Rattle.page_pool.specs.Cells.{gather, scatter}
use Rattle.fault_schedule.specs.Altered.{keep_of, kept_by, shift_of}
use Rattle.fault_schedule.specs.declared.fault.Crossing.{Crossing}
use Rattle.fault_schedule.specs.declared.fault.Crossing.TheVariants.{AdapterToTarget, HostToAdapter, MediumToTarget, TargetToMedium}
use Rattle.fault_schedule.specs.declared.fault.FaultLine.{FaultLine}
use Rattle.integrity_payload.specs.declared.payload.Owner.{Owner}
use Rattle.volume_table.specs.Places.{volume_len}
use Rattle.block_path.specs.Acts.{State, act}
use Rattle.block_path.specs.Blocks.{fetched_cell, own_cell, own_frame, read_by, stored_cell, tag_after, tuple_after, written_by}
use Rattle.block_path.specs.Routes.{moved}
use Rattle.block_path.specs.WayIn.{Delivers, Spoils, Stops, WayIn, way_in}
use Rattle.block_path.specs.WayOut.{Fails, Refuses, Stores, WayOut, way_out}
use Rattle.block_path.proofs.Cells.{AllBelow, below, gather_length}
use Rattle.walk_laws.specs.FirstLayer.{keeps_part}
use Rattle.run_laws.specs.Passed.{LiesInImage, accounted, is_in_doubt, is_left_spoilt, shows_out, step_accounts, has_flip, has_shift, is_misdirected, is_served, loses, tears, act_of, Block, Setting, route, Alters, Reads, Seals, Sets, Shows, Step, Writes, WritesPi, each_from, AreClean, NoneEscapes, SuppliesNoEscape, home}
use Rattle.run_laws.proofs.Passed.{below_append, below_drop, below_gather, below_replicate, below_scatter, below_take, four_below, tuple_below}
use Rattle.run_laws.proofs.Layers.{checked, unmoved}
use Rattle.run_laws.proofs.Counted.{set_cases}
use Rattle.run_premises.specs.Forms.{is_shown, kind_at, mask_of}
use Rattle.run_premises.specs.FormedRun.{IsOfBytes}
use Rattle.run_premises.proofs.Delivered.{OfBytes, comes_bytes}
use Rattle.run_premises.proofs.OneWay.{Fine, Kept, Right, comes_shown, goes_kept, goes_shown, own_fine, own_right}

and_false : (t : Bool) → (t && false) ≡ false
and_false true = refl
and_false false = refl

or_true : (t : Bool) → (t || true) ≡ true
or_true true = refl
or_true false = refl

-- What a step asks: of each block that it moves, that it is named and lies on the volume, and that its frame has its length. A frame with a tuple of the application's own asks what is said of such blocks.
module _ (m : Setting) (IsNamed Brings : Block → Type 0) where
  abbrev pub Suits : Step → Type 0
  Suits (Sets at values) = AllBelow 256 values
  Suits (Shows at) = Unit {0}
  Suits (Seals body tuple app rtag) = Unit {0}
  Suits (Writes b app body) = IsNamed b × ((b.virt < volume_len m.entries) × ((length body ≡ m.size) × (app < 2 ^ 16)))
  Suits (WritesPi b frame) = IsNamed b × ((b.virt < volume_len m.entries) × ((length frame ≡ m.size + 8) × Brings b))
  Suits (Reads b owner to) = IsNamed b × (b.virt < volume_len m.entries)
  Suits (Alters dev lba change) = ⊥

  abbrev pub AllSuit : List Step → Type 0
  AllSuit [] = Unit {0}
  AllSuit (step ∷ steps) = Suits step × AllSuit steps

  pub each_suits : (k c : ℕ) (f : ℕ → Step) → ((j : ℕ) → j < k + c → Suits (f j)) → AllSuit (each_from k c f)
  each_suits k zero f h = tt
  each_suits k (suc c) f h = (h k (omega arith), each_suits (suc k) c f (λ j l. h j (omega arith)))

  pub both_suit : (xs ys : List Step) → AllSuit xs → AllSuit ys → AllSuit (xs ++ ys)
  both_suit [] ys h k = k
  both_suit (x ∷ xs) ys h k = (h.0, both_suit xs ys h.1 k)

-- All lines that name a block at a crossing are shown together; none shifts an address but where a block is stored, and then no line alters the block there; none is torn. No line alters what is stored of a named block where none does so of its virtual block, nor where one alters it on its way back, nor a block whose tuple an application brings.
module _ (m' : Setting) (even : m'.size % 2 ≡ 0) (flips : All (λ (line : FaultLine). IsOfBytes line.kind) m'.site.faults)
    (lines : (b : Block) (at : Crossing) → has_flip (checked m') b at ≡ true → is_shown m'.size (kind_at m'.mode.kind at) (mask_of m'.size m'.site.faults at (route (checked m') b).label) ≡ true)
    (still : (op : ℕ) → shift_of m'.site.faults AdapterToTarget op ≡ pos 0) (fetched_still : (op : ℕ) → shift_of m'.site.faults MediumToTarget op ≡ pos 0)
    (untorn : (b : Block) → tears (checked m') b ≡ false) (straight : (b : Block) → has_flip (checked m') b TargetToMedium ≡ true → is_misdirected (checked m') b ≡ false)
    (image : List (List ℕ)) (lies : LiesInImage (checked m') (volume_len m'.entries) image)
    (IsNamed Brings : Block → Type 0) (is_altered : ℕ → Bool)
    (kept_there : (b : Block) → IsNamed b → is_altered b.virt ≡ false → has_flip (checked m') b TargetToMedium ≡ false)
    (whole_there : (b : Block) → IsNamed b → has_flip (checked m') b MediumToTarget ≡ true → is_altered b.virt ≡ false)
    (not_mended : (b : Block) → Brings b → has_flip (checked m') b HostToAdapter ≡ true → ⊥) where
  abbrev m : Setting
  m = checked m'

  abbrev n : ℕ
  n = m'.size

  abbrev count : ℕ
  count = volume_len m'.entries

  abbrev faults : List FaultLine
  faults = m'.site.faults

  -- a frame on its way, as `Ways` has it
  abbrev IsFine : List ℕ → Type 0
  IsFine x = Fine m' x

  abbrev IsRight : GuardKind → List ℕ → Type 0
  IsRight k x = Right m' k x

  abbrev IsKept : Block → WayOut → Type 0
  IsKept b w = Kept m' even flips b (lines b) w

  abbrev IsFit : Step → Type 0
  IsFit = Suits m IsNamed Brings

  -- a stored block of the volume: right where no line alters it on its way to the medium
  pub record Held (v : ℕ) (x : List ℕ) : Type 0 where
    pub fine : IsFine x
    pub right : is_altered v ≡ false → IsRight Crc x

  pub record Holds (s : State) : Type 0 where
    pub pages : AllBelow 256 s.bytes
    pub size : length s.blocks ≡ length image
    pub each : (v : ℕ) → v < count → Held v (get_or s.blocks (home m v) [])

  -- ---- addresses

  wire_is : (b : Block) → moved (route m b).lba (shift_of faults AdapterToTarget b.op) ≡ (route m b).lba
  wire_is b = ap (moved (route m b).lba) (still b.op) ∙ unmoved m' (route m b).lba (pos 0) refl

  home_is : (b : Block) → is_misdirected m b ≡ false → stored_cell m.site (route m b) ≡ home m b.virt
  home_is b q =
      let w = moved (route m b).lba (shift_of faults AdapterToTarget b.op) in
      ap (m'.site.cell (route m b).dev) (unmoved m' w (shift_of faults TargetToMedium b.op) (eqb-true (nat_abs (shift_of faults TargetToMedium b.op)) 0 (not-false _ q)) ∙ wire_is b)

  fetched_is : (b : Block) → fetched_cell m.site (route m b) ≡ home m b.virt
  fetched_is b =
      let w = moved (route m b).lba (shift_of faults AdapterToTarget b.op) in
      ap (m'.site.cell (route m b).dev) (ap (moved w) (fetched_still b.op) ∙ unmoved m' w (pos 0) refl ∙ wire_is b)

  unshifted : (b : Block) → has_shift m b MediumToTarget ≡ false
  unshifted b = ap (λ z. not (eqb (nat_abs z) 0)) (fetched_still b.op)

  undoubted : (b : Block) → is_in_doubt m b ≡ false
  undoubted b = by (has_flip m b TargetToMedium) refl where
    by : (p : Bool) → has_flip m b TargetToMedium ≡ p → is_in_doubt m b ≡ false
    by true q = (λ i. not (loses m b) && (untorn b i || (straight b q i && has_flip m b TargetToMedium))) ∙ and_false (not (loses m b))
    by false q = (λ i. not (loses m b) && (untorn b i || (is_misdirected m b && q i))) ∙ ap (λ t. not (loses m b) && t) (and_false (is_misdirected m b)) ∙ and_false (not (loses m b))

  -- ---- a block is stored, lost or misdirected

  abbrev leaves : Block → (old frame : List ℕ) → List ℕ
  leaves b old frame = m.site.device.leaves (route m b) old frame

  stored_held : (b : Block) (stored : List ℕ) (s : State) → IsNamed b → b.virt < count → IsFine stored → (has_flip m b TargetToMedium ≡ false → IsRight Crc stored) → Holds s →
      (v : ℕ) → v < count → Held v (get_or (set s.blocks (stored_cell m.site (route m b)) stored) (home m v) [])
  stored_held b stored s e w f r h v l =
      let c = stored_cell m.site (route m b) in
      let inside = lies.within v l in
      let size = h.size in
      set_cases (Held v) s.blocks c (home m v) stored [] (λ q.
      let there = eqb-true c (home m v) q in (
        (omega (arith, inside, size, there)),
        record { fine = f; right = λ a. right_by there a (is_misdirected m b) refl },
      )) (λ q. h.each v l)
    where
      unless_misdirected : (p : Bool) → has_flip m b TargetToMedium ≡ p → is_misdirected m b ≡ true → has_flip m b TargetToMedium ≡ false
      unless_misdirected true p s = absurd (false≢true (sym (straight b p) ∙ s))
      unless_misdirected false p s = p

      right_by : stored_cell m.site (route m b) ≡ home m v → is_altered v ≡ false → (s : Bool) → is_misdirected m b ≡ s → IsRight Crc stored
      right_by there a true s = r (unless_misdirected (has_flip m b TargetToMedium) refl s)
      right_by there a false s =
          let same : b.virt ≡ v = lies.apart b.virt v w l (sym (home_is b s) ∙ there) in
          r (kept_there b e (ap is_altered same ∙ a))

  -- what is kept of a frame that isn't torn
  left_held : (b : Block) (stored : List ℕ) (s : State) → IsNamed b → b.virt < count → IsFine stored → (has_flip m b TargetToMedium ≡ false → IsRight Crc stored) → Holds s → (k : Option ℕ) → keep_of faults (route m b).label ≡ k →
      (v : ℕ) → v < count → Held v (get_or (set s.blocks (stored_cell m.site (route m b)) (kept_by k (get_or s.blocks (stored_cell m.site (route m b)) []) stored)) (home m v) [])
  left_held b stored s e w f r h None q v l = stored_held b stored s e w f r h v l
  left_held b stored s e w f r h (Some zero) q v l = subst (λ (bs : List (List ℕ)). Held v (get_or bs (home m v) [])) (sym (set-get_or s.blocks (stored_cell m.site (route m b)) [])) (h.each v l)
  left_held b stored s e w f r h (Some (suc j)) q v l = absurd (false≢true (sym (untorn b) ∙ ap keeps_part q))

  written_size : (b : Block) (old : List ℕ) (w : WayOut) (back : List ℕ) (log : List (List ℕ)) (blocks : List (List ℕ)) →
      length (scatter (stored_cell m.site (route m b) ∷ []) (map (leaves b old) (written_by (route m b) w back log).written.blocks) blocks) ≡ length blocks
  written_size b old (Fails why) back log blocks = refl
  written_size b old (Refuses why) back log blocks = refl
  written_size b old (Stores carried stored) back log blocks = length-set blocks (stored_cell m.site (route m b)) (leaves b old stored)

  written_held : (b : Block) (w : WayOut) (back : List ℕ) (log : List (List ℕ)) (s : State) → IsNamed b → b.virt < count → IsKept b w → Holds s →
      (v : ℕ) → v < count → Held v (get_or (scatter (stored_cell m.site (route m b) ∷ []) (map (leaves b (get_or s.blocks (stored_cell m.site (route m b)) [])) (written_by (route m b) w back log).written.blocks) s.blocks) (home m v) [])
  written_held b (Fails why) back log s e l k h v low = h.each v low
  written_held b (Refuses why) back log s e l k h v low = h.each v low
  written_held b (Stores carried stored) back log s e l k h v low = left_held b stored s e l k.0 k.1 h (keep_of faults (route m b).label) refl v low

  written_pages : (b : Block) (w : WayOut) (back : List ℕ) (log : List (List ℕ)) → (written_by (route m b) w back log).written.bytes ≡ back
  written_pages b (Fails why) back log = refl
  written_pages b (Refuses why) back log = refl
  written_pages b (Stores carried stored) back log = refl

  -- ---- frames of the host

  tag_bytes : (b : Block) (tag : List ℕ) → AllBelow 256 tag → AllBelow 256 (tag_after (route m b) tag)
  tag_bytes b tag h = by (eqb (from_be_bytes w32 tag) (ref_tag b.virt) || eqb (from_be_bytes w32 tag) (ref_tag (route m b).lba)) where
    by : (c : Bool) → AllBelow 256 (if c then to_be_bytes w32 (ref_tag b.virt) else tag)
    by true = four_below (ref_tag b.virt)
    by false = h

  after_bytes : (b : Block) (tuple : List ℕ) → AllBelow 256 tuple → AllBelow 256 (tuple_after (route m b) tuple)
  after_bytes b tuple h = below_append 256 (take 4 tuple) (tag_after (route m b) (drop 4 tuple)) (below_take 256 4 tuple h) (tag_bytes b (drop 4 tuple) (below_drop 256 4 tuple h))

  read_bytes : (b : Block) (owner : Owner) (w : WayIn) (size after : ℕ) → OfBytes w → AllBelow 256 (read_by (route m b) owner w size after).written.bytes
  read_bytes b owner (Stops why) size after h = below_replicate 256 size 0 (omega arith)
  read_bytes b owner (Spoils why carried) size after h = below_replicate 256 size 0 (omega arith)
  read_bytes b owner (Delivers carried frame) size after h = h

  -- ---- a step

  pub record Goes (step : Step) (s : State) : Type 0 where
    pub accounted : step_accounts m step s ≡ true
    pub holds : Holds (act (act_of m step) s)

  accounts : (b : Block) (old frame : List ℕ) (w : WayOut) → shows_out m b frame ≡ true → (shows_out m b frame && (not (is_in_doubt m b) || is_left_spoilt m b old w)) ≡ true
  accounts b old frame w shown = λ i. shown i && (not (undoubted b i) || is_left_spoilt m b old w)

  one_step : (step : Step) (s : State) → IsFit step → SuppliesNoEscape m step s → Holds s → Goes step s
  one_step (Sets at values) s fit e h = record { accounted = refl; holds = record { pages = below_scatter 256 at values s.bytes fit h.pages; size = h.size; each = h.each } }
  one_step (Shows at) s fit e h = record { accounted = refl; holds = record { pages = h.pages; size = h.size; each = h.each } }
  one_step (Seals body tuple app rtag) s fit e h =
      let t : Tuple = record { guard = guard_of m'.mode.kind (gather 0 body s.bytes); app = app; rtag = rtag } in
      record { accounted = refl; holds = record { pages = below_scatter 256 tuple (tuple_bytes t) s.bytes (tuple_below t) h.pages; size = h.size; each = h.each } }
  one_step (Writes b app body) s fit e h =
      let x = gather 0 body s.bytes in
      let l = gather_length 0 body s.bytes ∙ fit.1.1.0 in
      let bytes = below_gather 256 body s.bytes (omega arith) h.pages in
      let frame = own_frame (route m b) app x in
      let f = own_fine m' b app x l bytes fit.1.1.1 (e refl) in
      let w = way_out faults m.site.device (route m b) frame in
      let log = get_or s.logs (own_cell m.site (route m b)) [] in
      let old = get_or s.blocks (stored_cell m.site (route m b)) [] in
      let k = goes_kept m' even flips b (lines b) frame f in
      record {
        accounted = accounts b old frame w (goes_shown m' even flips b (lines b) frame f (λ q. own_right m' b app x l fit.1.1.1));
        holds = record { pages = h.pages; size = written_size b old w [] log s.blocks ∙ h.size; each = written_held b w [] log s fit.0 fit.1.0 k h };
      }
  one_step (WritesPi b frame) s fit e h =
      let x = gather 0 frame s.bytes in
      let f : IsFine x = record { size = gather_length 0 frame s.bytes ∙ fit.1.1.0; bytes = below_gather 256 frame s.bytes (omega arith) h.pages; escape = e } in
      let w = way_out faults m.site.device (route m b) x in
      let log = get_or s.logs (own_cell m.site (route m b)) [] in
      let old = get_or s.blocks (stored_cell m.site (route m b)) [] in
      let back = tuple_after (route m b) (drop n x) in
      let k = goes_kept m' even flips b (lines b) x f in
      record {
        accounted = accounts b old x w (goes_shown m' even flips b (lines b) x f (λ q. absurd (not_mended b fit.1.1.1 q)));
        holds = record {
          pages = subst (λ bs. AllBelow 256 (scatter (drop n frame) bs s.bytes)) (sym (written_pages b w back log)) (below_scatter 256 (drop n frame) back s.bytes (after_bytes b (drop n x) (below_drop 256 n x f.bytes)) h.pages);
          size = written_size b old w back log s.blocks ∙ h.size;
          each = written_held b w back log s fit.0 fit.1.0 k h;
        };
      }
  one_step (Reads b owner to) s fit e h =
      let c = fetched_cell m.site (route m b) in
      let stored = get_or s.blocks c [] in
      let k = subst (λ i. Held b.virt (get_or s.blocks i [])) (sym (fetched_is b)) (h.each b.virt fit.1) in
      let w = way_in faults m.site.device (route m b) owner stored in
      let logged = length (get_or s.logs (own_cell m.site (route m b)) []) in
      record {
        accounted = ap (λ t. not (is_served m b) || t) (comes_shown m' even flips b (lines b) stored k.fine (unshifted b) (λ q. k.right (whole_there b fit.0 q))) ∙ or_true (not (is_served m b));
        holds = record {
          pages = below_scatter 256 to (read_by (route m b) owner w (length to) logged).written.bytes s.bytes (read_bytes b owner w (length to) logged (comes_bytes m' even flips b (lines b) owner stored k.fine)) h.pages;
          size = h.size;
          each = h.each;
        };
      }
  one_step (Alters dev lba change) s fit e h = absurd fit

  pub all_accounted : (steps : List Step) (s : State) → AllSuit m IsNamed Brings steps → NoneEscapes m steps s → Holds s → accounted m steps s ≡ true
  all_accounted [] s fit e h = refl
  all_accounted (step ∷ steps) s fit e h =
      let g = one_step step s fit.0 e.0 h in
      let next = act (act_of m step) s in
      and_from (step_accounts m step s) (accounted m steps next) g.accounted (all_accounted steps next fit.1 e.1 g.holds)

  pub begins : (s : State) → s.blocks ≡ image → AllBelow 256 s.bytes → AreClean m s.blocks → Holds s
  begins s same pages clean = record {
    pages = pages;
    size = ap length same;
    each = λ v l.
        let c = clean v l refl in
        record {
          fine = record {
            size = ap (λ (bs : List (List ℕ)). length (get_or bs (home m v) [])) same ∙ lies.size v l;
            bytes = subst (λ (bs : List (List ℕ)). AllBelow 256 (get_or bs (home m v) [])) (sym same) (below 256 (get_or image (home m v) []) (lies.bytes v l));
            escape = c.no_escape;
          };
          right = λ a. c.guard;
        };
  }
