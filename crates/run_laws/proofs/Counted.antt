-- Along the steps of a run: what each cell of the volume's devices holds, by what is past, and by which accepted writes count.
use Rattle.std.proofs.Common.{◌≡◌, ◌<◌, ◌^◌, ℕ, ◌+◌, Bool, true, false, eqb, ◌||◌, not, List, [], ◌∷◌, ◌++◌, length, get_or, map, set, drop, Option, Some, None, refl, sym, ap, subst, subst₂, ◌∙◌, arith, length-append, zero, suc, take, if◌then◌else◌, ◌&&◌}
use Rattle.std.proofs.lemmas.Bool.{eqb-true, eqb-false, eq-eqb, ne_eqb, and_parts, or_parts, not-true, false≢true, false_from_ne_true, cond-true, cond-false}
use Rattle.std.specs.Prelude.{nat_abs}
use Rattle.std.proofs.lemmas.List.{length-set, get_or-set_same, get_or-set_other, set-get_or}
use Rattle.pi_guard.specs.Guards.{crc}
use Rattle.pi_guard.proofs.GuardSizes.{guard_below}
use Rattle.pi_tuple.specs.Finds.{is_escaped}
use Rattle.pi_tuple.specs.Tuples.{ref_tag}
use Rattle.pi_tuple.specs.declared.tuple.Tuple.{Tuple}
use Rattle.pi_tuple.specs.declared.checks.PiType.TheVariants.{One}
use Rattle.pi_tuple.specs.declared.checks.Check.{Check}
use Rattle.pi_tuple.proofs.TupleLaws.{tag_below}
use Rattle.page_pool.specs.Cells.{gather, scatter}
use Rattle.fault_schedule.specs.Altered.{keep_of, kept_by, shift_of}
use Rattle.fault_schedule.specs.declared.fault.Crossing.TheVariants.{TargetToMedium}
use Rattle.integrity_payload.specs.declared.payload.Owner.{Owner}
use Rattle.walk_laws.specs.Passed.{data_of, tuple_of, State, act, tell, fetched_cell, own_cell, own_frame, own_tuple, read_by, stored_cell, tuple_after, written_by, medium_lba, stored_lba, wire_lba, plain, Delivers, Spoils, Stops, WayIn, way_in, Fails, Refuses, Stores, WayOut, way_out, place_in, volume_len, DeviceInfo, Why, Adapter, App, Block as ByOwner, TheVariantsMedium as Medium, Refused, Short, Target}
use Rattle.walk_laws.proofs.Passed.{gather_length}
use Rattle.walk_laws.specs.Detectable.{accounted, bears, found, is_in_doubt, is_left_spoilt, is_spoilt, shows_in, shows_out, step_accounts}
use Rattle.walk_laws.specs.FirstLayer.{Layer, first_layer, has_flip, is_at_home, is_hit, is_misdirected, is_served, keeps_none, keeps_part, last_counted, loses, tears}
use Rattle.walk_laws.specs.Past.{Accepted, Brought, Event, Overwritten, brought_by, event_of, events_of, past_after}
use Rattle.walk_laws.specs.ScriptWalk.{act_of, changed, source_of}
use Rattle.walk_laws.specs.Settings.{Block, Setting, route}
use Rattle.walk_laws.specs.Steps.{Alters, Reads, Seals, Sets, Shows, Step, Writes, WritesPi}
use Rattle.walk_laws.specs.UnderMap.{IsClean, NoneEscapes, SuppliesNoEscape}
use Rattle.walk_laws.proofs.TupleFrames.{Small, data_is, tuple_is}
use Rattle.walk_laws.specs.ReadsAs.{said_by}
use Rattle.run_laws.specs.ShownRun.{AreCleanWhereRead, HasBlock, HasCells, LandsNear, LiesOn, StaysNear}
use Rattle.run_laws.proofs.Found.{bears_both}
use Rattle.run_laws.proofs.Layers.{After, Fetched, IsBare, Outcome, Reading, Sound, Spoilt, checked, goes_out, must, reads, same_brought, shifted, stored_is, unserved, why_ended}

-- a cell after one was set
pub set_cases : {X : Type 0} (P : X → Type 0) (cells : List X) (w c : ℕ) (x none : X) → (eqb w c ≡ true → (w < length cells) × P x) → (eqb w c ≡ false → P (get_or cells c none)) → P (get_or (set cells w x) c none)
set_cases P cells w c x none here there = by (eqb w c) refl where
  by : (t : Bool) → eqb w c ≡ t → P (get_or (set cells w x) c none)
  by true q = subst (λ i. P (get_or (set cells w x) i none)) (eqb-true w c q) (subst P (sym (get_or-set_same cells w x none (here q).0)) (here q).1)
  by false q = subst P (sym (get_or-set_other cells w c x none (λ e. eqb-false w c q (sym e)))) (there q)

-- what is read is delivered, and names the layer, or is the last accepted write
pub record IsEnded (m : Setting) (b : Block) (owner : Owner) (to : List ℕ) (layer : Layer) (s : State) : Type 0 where
  pub check : Check
  pub is_found : found m b (get_or s.blocks (fetched_cell m.site (route m b)) []) layer ≡ Some check
  pub listed : (tell (act_of m (Reads b owner to)) s).why ≡ Some (said_by layer owner check)

pub record IsHanded (m : Setting) (b : Block) (owner : Owner) (to : List ℕ) (e : Brought) (s : State) : Type 0 where
  pub listed : (tell (act_of m (Reads b owner to)) s).why ≡ None
  pub frame : List ℕ
  pub size : length frame ≡ m.size + 8
  pub body : data_of m.size frame ≡ e.body
  pub tuple : tuple_of m.size frame ≡ own_tuple (route m b) e.app e.body
  pub lands : (act (act_of m (Reads b owner to)) s).bytes ≡ scatter to frame s.bytes

abbrev pub EndsAs : Setting → Block → Owner → List ℕ → Option Layer → Brought → State → Type 0
EndsAs m b owner to None e s = IsHanded m b owner to e s
EndsAs m b owner to (Some layer) e s = IsEnded m b owner to layer s

-- what each kind of step is given by binding
abbrev pub Fits : Setting → List DeviceInfo → Step → Type 0
Fits m devices (Sets at values) = Unit {0}
Fits m devices (Shows at) = Unit {0}
Fits m devices (Seals body tuple app rtag) = Unit {0}
Fits m devices (Writes b app body) = (b.virt < volume_len m.entries) × (StaysNear m b × ((app < 2 ^ 16) × (length body ≡ m.size)))
Fits m devices (WritesPi b frame) = (b.virt < volume_len m.entries) × (StaysNear m b × (length frame ≡ m.size + 8))
Fits m devices (Reads b owner to) = (b.virt < volume_len m.entries) × (StaysNear m b × HasBlock m devices (route m b).dev (medium_lba m.site.faults (route m b)))
Fits m devices (Alters dev lba change) = HasBlock m devices dev lba

abbrev pub AllFit : Setting → List DeviceInfo → List Step → Type 0
AllFit m devices [] = Unit {0}
AllFit m devices (step ∷ steps) = Fits m devices step × AllFit m devices steps

module _ (m' : Setting) (devices : List DeviceInfo) (lies : LiesOn (checked m') devices) (opening : State) (cells : HasCells (checked m') devices opening.blocks) (counts : Block → Bool) where
  abbrev m : Setting
  m = checked m'

  abbrev n : ℕ
  n = m'.size

  abbrev count : ℕ
  count = volume_len m'.entries

  abbrev cell : ℕ → ℕ → ℕ
  cell dev lba = m'.site.cell dev lba

  -- a block of a device to which a read of the volume may come
  pub record Ours (dev lba : ℕ) : Type 0 where
    pub b : Block
    pub within : b.virt < count
    pub here : dev ≡ (route m b).dev
    pub met : lba ≡ medium_lba m'.site.faults (route m b)
    pub on : HasBlock m devices dev lba

  -- what is stored, by what is past
  pub record Marks (past : List Event) (blocks : List (List ℕ)) : Type 0 where
    pub size : length blocks ≡ length opening.blocks
    pub sound : (dev lba : ℕ) → Ours dev lba → is_hit m (cell dev lba) past ≡ false → Sound m' lba (get_or blocks (cell dev lba) [])
    pub spoilt : (dev lba : ℕ) → Ours dev lba → is_hit m (cell dev lba) past ≡ true → Spoilt m' lba (get_or blocks (cell dev lba) [])
    pub newest : (a : Block) → a.virt < count → is_hit m (own_cell m.site (route m a)) past ≡ false → brought_by n (get_or blocks (own_cell m.site (route m a)) []) ≡ last_counted counts m opening a past

  pub own_block : (b : Block) → b.virt < count → HasBlock m devices (route m b).dev (route m b).lba
  own_block b v = lies.inside b.virt v

  same_home : (a b : Block) → a.virt < count → b.virt < count → own_cell m.site (route m b) ≡ own_cell m.site (route m a) → b.virt ≡ a.virt
  same_home a b v w e =
      let p = cells.apart (route m b).dev (route m b).lba (route m a).dev (route m a).lba (own_block b w) (own_block a v) e in
      let place : place_in m'.entries b.virt ≡ place_in m'.entries a.virt = λ i. (p.0 i, p.1 i) in
      lies.alone b.virt a.virt w v place

  -- where a block of a write is stored, and whether what is stored there is bad
  abbrev stored_at : Block → ℕ
  stored_at b = stored_lba m'.site.faults (route m b)

  abbrev is_bad : Block → Bool
  is_bad b = is_misdirected m b || (tears m b || has_flip m b TargetToMedium)

  -- what an accepted block leaves there
  record Left (b : Block) (e : Brought) (left : List ℕ) : Type 0 where
    there : HasBlock m devices (route m b).dev (stored_at b)
    home : is_misdirected m b ≡ false → stored_at b ≡ (route m b).lba
    whole : is_bad b ≡ false → Sound m' (stored_at b) left × (brought_by n left ≡ e)
    spoils : is_bad b ≡ true → Spoilt m' (stored_at b) left

  -- a block of a write lands near where it is misdirected, and counts where it is stored at home
  pub record IsPlaced (b : Block) : Type 0 where
    pub lands : is_misdirected m b ≡ true → LandsNear m devices b
    pub counted : counts b ≡ is_at_home m b

  -- a lost block leaves all as it is
  lost : (b : Block) (e : Brought) (past : List Event) (blocks : List (List ℕ)) → loses m b ≡ true → counts b ≡ is_at_home m b → Marks past blocks → Marks (Accepted b e ∷ past) blocks
  lost b e past blocks l c h = record {
    size = h.size;
    sound = λ dev lba o k. h.sound dev lba o (sym (hit_is (cell dev lba)) ∙ k);
    spoilt = λ dev lba o k. h.spoilt dev lba o (sym (hit_is (cell dev lba)) ∙ k);
    newest = λ a v k.
        h.newest a v (sym (hit_is (own_cell m.site (route m a))) ∙ k)
        ∙ ap (λ t. if t && eqb b.virt a.virt then e else last_counted counts m opening a past) (sym (c ∙ ap (λ t. not t && not (is_misdirected m b)) l));
  } where
    hit_is : (cell : ℕ) → is_hit m cell (Accepted b e ∷ past) ≡ is_hit m cell past
    hit_is cell = ap (λ t. if not t && eqb (stored_cell m.site (route m b)) cell then is_bad b else is_hit m cell past) l

  -- a block is accepted and stored
  accepted : (b : Block) (e : Brought) (left : List ℕ) (past : List Event) (blocks : List (List ℕ)) → b.virt < count → loses m b ≡ false → counts b ≡ is_at_home m b → Left b e left → Marks past blocks →
      Marks (Accepted b e ∷ past) (set blocks (stored_cell m.site (route m b)) left)
  accepted b e left past blocks v kept counted after h = record {
    size = length-set blocks goes_to left ∙ h.size;
    sound = λ dev lba o k. set_cases (Sound m' lba) blocks goes_to (cell dev lba) left []
        (λ q. (below, subst (λ a. Sound m' a left) (sym (its_lba dev lba o q)) (after.whole (hit_here (cell dev lba) false q k)).0))
        (λ q. h.sound dev lba o (hit_there (cell dev lba) false q k));
    spoilt = λ dev lba o k. set_cases (Spoilt m' lba) blocks goes_to (cell dev lba) left []
        (λ q. (below, subst (λ a. Spoilt m' a left) (sym (its_lba dev lba o q)) (after.spoils (hit_here (cell dev lba) true q k))))
        (λ q. h.spoilt dev lba o (hit_there (cell dev lba) true q k));
    newest = λ a l k. by_place a l k (is_misdirected m b) refl;
  } where
    goes_to : ℕ
    goes_to = stored_cell m.site (route m b)

    below : goes_to < length blocks
    below = let l = cells.within (route m b).dev (stored_at b) after.there in let s = h.size in omega (arith, l, s)

    its_lba : (dev lba : ℕ) → Ours dev lba → eqb goes_to (cell dev lba) ≡ true → lba ≡ stored_at b
    its_lba dev lba o q = (cells.apart dev lba (route m b).dev (stored_at b) o.on after.there (sym (eqb-true goes_to (cell dev lba) q))).1

    hit_is : (c : ℕ) → is_hit m c (Accepted b e ∷ past) ≡ (if eqb goes_to c then is_bad b else is_hit m c past)
    hit_is c = ap (λ t. if not t && eqb goes_to c then is_bad b else is_hit m c past) kept

    hit_here : (c : ℕ) (t : Bool) → eqb goes_to c ≡ true → is_hit m c (Accepted b e ∷ past) ≡ t → is_bad b ≡ t
    hit_here c t q k = sym (hit_is c ∙ cond-true (eqb goes_to c) (is_bad b) (is_hit m c past) q) ∙ k

    hit_there : (c : ℕ) (t : Bool) → eqb goes_to c ≡ false → is_hit m c (Accepted b e ∷ past) ≡ t → is_hit m c past ≡ t
    hit_there c t q k = sym (hit_is c ∙ cond-false (eqb goes_to c) (is_bad b) (is_hit m c past) q) ∙ k

    counts_as : (s : Bool) → is_misdirected m b ≡ s → counts b ≡ not s
    counts_as s q = counted ∙ ap (λ t. not t && not (is_misdirected m b)) kept ∙ ap not q

    newest_is : (a : Block) (s : Bool) → is_misdirected m b ≡ s → last_counted counts m opening a (Accepted b e ∷ past) ≡ (if not s && eqb b.virt a.virt then e else last_counted counts m opening a past)
    newest_is a s q = ap (λ t. if t && eqb b.virt a.virt then e else last_counted counts m opening a past) (counts_as s q)

    beside : (a : Block) → a.virt < count → is_hit m (own_cell m.site (route m a)) (Accepted b e ∷ past) ≡ false → eqb goes_to (own_cell m.site (route m a)) ≡ false →
        brought_by n (get_or (set blocks goes_to left) (own_cell m.site (route m a)) []) ≡ last_counted counts m opening a past
    beside a l k c =
        ap (brought_by n) (get_or-set_other blocks goes_to (own_cell m.site (route m a)) left [] (λ x. eqb-false goes_to (own_cell m.site (route m a)) c (sym x)))
        ∙ h.newest a l (hit_there (own_cell m.site (route m a)) false c k)

    at_home : (a : Block) → a.virt < count → is_hit m (own_cell m.site (route m a)) (Accepted b e ∷ past) ≡ false → goes_to ≡ own_cell m.site (route m b) → (t : Bool) → eqb b.virt a.virt ≡ t →
        brought_by n (get_or (set blocks goes_to left) (own_cell m.site (route m a)) []) ≡ (if t then e else last_counted counts m opening a past)
    at_home a l k own true q =
        let c : goes_to ≡ own_cell m.site (route m a) = own ∙ ap (λ w. cell (place_in m'.entries w).0 (place_in m'.entries w).1) (eqb-true b.virt a.virt q) in
        ap (λ i. brought_by n (get_or (set blocks goes_to left) i [])) (sym c)
        ∙ ap (brought_by n) (get_or-set_same blocks goes_to left [] below)
        ∙ (after.whole (hit_here (own_cell m.site (route m a)) false (eq-eqb goes_to (own_cell m.site (route m a)) c) k)).1
    at_home a l k own false q =
        beside a l k (ne_eqb goes_to (own_cell m.site (route m a)) (λ x. eqb-false b.virt a.virt q (same_home a b l v (sym own ∙ x))))

    away : (a : Block) → is_misdirected m b ≡ true → is_hit m (own_cell m.site (route m a)) (Accepted b e ∷ past) ≡ false → (t : Bool) → eqb goes_to (own_cell m.site (route m a)) ≡ t → t ≡ false
    away a s k true q = absurd (false≢true (sym (hit_here (own_cell m.site (route m a)) false q k) ∙ ap (λ t. t || (tears m b || has_flip m b TargetToMedium)) s))
    away a s k false q = refl

    by_place : (a : Block) → a.virt < count → is_hit m (own_cell m.site (route m a)) (Accepted b e ∷ past) ≡ false → (s : Bool) → is_misdirected m b ≡ s →
        brought_by n (get_or (set blocks goes_to left) (own_cell m.site (route m a)) []) ≡ last_counted counts m opening a (Accepted b e ∷ past)
    by_place a l k false s =
        at_home a l k (ap (cell (route m b).dev) (after.home s)) (eqb b.virt a.virt) refl ∙ sym (newest_is a false s)
    by_place a l k true s =
        let c = eqb goes_to (own_cell m.site (route m a)) in
        beside a l k (away a s k c refl) ∙ sym (newest_is a true s)

  not_stored : (b : Block) (e : Brought) (past : List Event) (blocks : List (List ℕ)) (why : Why) → Marks past blocks → Marks (event_of (Some why) b e ++ past) blocks
  not_stored b e past blocks Medium h = record { size = h.size; sound = h.sound; spoilt = h.spoilt; newest = h.newest }
  not_stored b e past blocks (Adapter check) h = h
  not_stored b e past blocks (Target check) h = h
  not_stored b e past blocks (ByOwner check) h = h
  not_stored b e past blocks (App check) h = h
  not_stored b e past blocks (Refused key asc ascq) h = h
  not_stored b e past blocks Short h = h

  spoilt_so : (lba : ℕ) (x : List ℕ) → is_spoilt m lba x ≡ true → Spoilt m' lba x
  spoilt_so lba x e =
      let p = and_parts (not (is_escaped One (tuple_of n x))) (not (bears (tuple_of n x) (crc (data_of n x)) (ref_tag lba))) e in
      record { escape = not-true _ p.0; foreign = not-true _ p.1 }

  -- a block that is stored whole where it isn't meant to be
  elsewhere : (b : Block) (left : List ℕ) → LandsNear m devices b → is_misdirected m b ≡ true → Sound m' (wire_lba m'.site.faults (route m b)) left → Spoilt m' (stored_at b) left
  elsewhere b left near s h = record {
    escape = h.bare.escape;
    foreign = false_from_ne_true (bears (tuple_of n left) (crc (data_of n left)) (ref_tag (stored_at b))) (λ e.
        let k = bears_both (tuple_of n left) (crc (data_of n left)) (ref_tag (stored_at b)) e in
        eqb-false (nat_abs (shift_of m'.site.faults TargetToMedium b.op)) 0 (not-true _ s)
        ((shifted (stored_at b) (wire_lba m'.site.faults (route m b)) (shift_of m'.site.faults TargetToMedium b.op) near.near near.above).1 (sym k.rtag ∙ h.bears.rtag)));
  }

  -- of a block that isn't lost
  leaves : (b : Block) (e : Brought) (f stored left : List ℕ) → b.virt < count → (is_misdirected m b ≡ true → LandsNear m devices b) → wire_lba m'.site.faults (route m b) ≡ (route m b).lba →
      After m' b f (has_flip m b TargetToMedium) stored → brought_by n f ≡ e → loses m b ≡ false → (tears m b ≡ false → left ≡ stored) →
      (not (is_in_doubt m b) || is_spoilt m (stored_at b) left) ≡ true → Left b e left
  leaves b e f stored left v near home after brought kept all doubt = record {
    there = where_it_is (is_misdirected m b) refl;
    home = unmoved_is;
    whole = λ q.
        let p = or_parts (is_misdirected m b) (tears m b || has_flip m b TargetToMedium) q in
        let r = or_parts (tears m b) (has_flip m b TargetToMedium) p.1 in
        let w : Sound m' (route m b).lba stored × (brought_by n stored ≡ brought_by n f) = subst (λ t. After m' b f t stored) r.1 after in
        (subst₂ (λ a x. Sound m' a x) (sym (unmoved_is p.0)) (sym (all r.0)) w.0, ap (brought_by n) (all r.0) ∙ w.1 ∙ brought);
    spoils = by_three (tears m b) (is_misdirected m b) (has_flip m b TargetToMedium) refl refl refl;
  } where
    unmoved_is : is_misdirected m b ≡ false → stored_at b ≡ (route m b).lba
    unmoved_is q = stored_is m' b home q

    where_it_is : (s : Bool) → is_misdirected m b ≡ s → HasBlock m devices (route m b).dev (stored_at b)
    where_it_is true q = (near q).there
    where_it_is false q = subst (HasBlock m devices (route m b).dev) (sym (unmoved_is q)) (own_block b v)

    doubted : is_in_doubt m b ≡ true → Spoilt m' (stored_at b) left
    doubted q = spoilt_so (stored_at b) left (must (is_in_doubt m b) (is_spoilt m (stored_at b) left) doubt q)

    in_doubt : (t s p : Bool) → tears m b ≡ t → is_misdirected m b ≡ s → has_flip m b TargetToMedium ≡ p → is_in_doubt m b ≡ (t || (s && p))
    in_doubt t s p ht hs hp = ap4 kept ht hs hp where
      ap4 : {l t s p : Bool} → loses m b ≡ l → tears m b ≡ t → is_misdirected m b ≡ s → has_flip m b TargetToMedium ≡ p → is_in_doubt m b ≡ (not l && (t || (s && p)))
      ap4 hl ht hs hp = λ i. not (hl i) && (ht i || (hs i && hp i))

    by_three : (t s p : Bool) → tears m b ≡ t → is_misdirected m b ≡ s → has_flip m b TargetToMedium ≡ p → is_bad b ≡ true → Spoilt m' (stored_at b) left
    by_three true s p ht hs hp q = doubted (in_doubt true s p ht hs hp)
    by_three false true true ht hs hp q = doubted (in_doubt false true true ht hs hp)
    by_three false true false ht hs hp q =
        let w : Sound m' (route m b).lba stored × (brought_by n stored ≡ brought_by n f) = subst (λ t. After m' b f t stored) hp after in
        elsewhere b left (near hs) hs (subst₂ (λ a x. Sound m' a x) (sym home) (sym (all ht)) w.0)
    by_three false false true ht hs hp q =
        let w : Spoilt m' (route m b).lba stored = subst (λ t. After m' b f t stored) hp after in
        subst₂ (λ a x. Spoilt m' a x) (sym (unmoved_is hs)) (sym (all ht)) w
    by_three false false false ht hs hp q = absurd (false≢true ((λ i. sym hs i || (sym ht i || sym hp i)) ∙ q))

  -- by what the medium keeps of the frame
  stores : (b : Block) (e : Brought) (f old stored : List ℕ) (past : List Event) (blocks : List (List ℕ)) (k : Option ℕ) → keep_of m'.site.faults (route m b).label ≡ k → old ≡ get_or blocks (stored_cell m.site (route m b)) [] →
      b.virt < count → IsPlaced b → wire_lba m'.site.faults (route m b) ≡ (route m b).lba → After m' b f (has_flip m b TargetToMedium) stored → brought_by n f ≡ e →
      (not (is_in_doubt m b) || is_spoilt m (stored_at b) (kept_by k old stored)) ≡ true → Marks past blocks → Marks (Accepted b e ∷ past) (set blocks (stored_cell m.site (route m b)) (kept_by k old stored))
  stores b e f old stored past blocks None q o v p home after brought doubt h =
      accepted b e stored past blocks v (ap keeps_none q) p.counted (leaves b e f stored stored v p.lands home after brought (ap keeps_none q) (λ _. refl) doubt) h
  stores b e f old stored past blocks (Some zero) q o v p home after brought doubt h =
      subst (Marks (Accepted b e ∷ past)) (sym (ap (set blocks (stored_cell m.site (route m b))) o ∙ set-get_or blocks (stored_cell m.site (route m b)) [])) (lost b e past blocks (ap keeps_none q) p.counted h)
  stores b e f old stored past blocks (Some (suc j)) q o v p home after brought doubt h =
      let left = take (suc j) stored ++ drop (suc j) old in
      accepted b e left past blocks v (ap keeps_none q) p.counted
      (leaves b e f stored left v p.lands home after brought (ap keeps_none q) (λ t. absurd (false≢true (sym t ∙ ap keeps_part q))) doubt) h

  after_write : (b : Block) (e : Brought) (f back old : List ℕ) (log : List (List ℕ)) (past : List Event) (blocks : List (List ℕ)) (w : WayOut) → old ≡ get_or blocks (stored_cell m.site (route m b)) [] → b.virt < count → IsPlaced b →
      (not (is_in_doubt m b) || is_left_spoilt m b old w) ≡ true → Outcome m' b f w → brought_by n f ≡ e → Marks past blocks →
      Marks (event_of (written_by (route m b) w back log).answer.why b e ++ past) (scatter (stored_cell m.site (route m b) ∷ []) (map (m.site.device.leaves (route m b) old) (written_by (route m b) w back log).written.blocks) blocks)
  after_write b e f back old log past blocks (Fails why) same v p doubt o brought h = not_stored b e past blocks why h
  after_write b e f back old log past blocks (Refuses why) same v p doubt o brought h = not_stored b e past blocks why h
  after_write b e f back old log past blocks (Stores carried stored) same v p doubt o brought h = stores b e f old stored past blocks (keep_of m'.site.faults (route m b).label) refl same v p o.0 o.1 brought doubt h

  -- an overwrite alters a block
  altered : (dev lba : ℕ) (x : List ℕ) (past : List Event) (blocks : List (List ℕ)) → HasBlock m devices dev lba → is_spoilt m lba (get_or (set blocks (cell dev lba) x) (cell dev lba) []) ≡ true →
      Marks past blocks → Marks (Overwritten (cell dev lba) ∷ past) (set blocks (cell dev lba) x)
  altered dev lba x past blocks on spoilt h = record {
    size = length-set blocks (cell dev lba) x ∙ h.size;
    sound = λ other at o k.
        let p = or_parts (eqb (cell dev lba) (cell other at)) (is_hit m (cell other at) past) k in
        set_cases (Sound m' at) blocks (cell dev lba) (cell other at) x [] (λ q. absurd (false≢true (sym p.0 ∙ q))) (λ q. h.sound other at o p.1);
    spoilt = λ other at o k. set_cases (Spoilt m' at) blocks (cell dev lba) (cell other at) x []
        (λ q. (below, subst (λ a. Spoilt m' a x) (cells.apart dev lba other at on o.on (eqb-true (cell dev lba) (cell other at) q)).1 bad))
        (λ q. h.spoilt other at o (sym (ap (λ t. t || is_hit m (cell other at) past) q) ∙ k));
    newest = λ a l k.
        let c = own_cell m.site (route m a) in
        let p = or_parts (eqb (cell dev lba) c) (is_hit m c past) k in
        ap (brought_by n) (get_or-set_other blocks (cell dev lba) c x [] (λ e. eqb-false (cell dev lba) c p.0 (sym e))) ∙ h.newest a l p.1;
  } where
    below : cell dev lba < length blocks
    below = let l = cells.within dev lba on in let s = h.size in omega (arith, l, s)

    bad : Spoilt m' lba x
    bad = spoilt_so lba x (subst (λ y. is_spoilt m lba y ≡ true) (get_or-set_same blocks (cell dev lba) x [] below) spoilt)

  -- the frame that the block layer makes
  pub own_small : (b : Block) (app : ℕ) (x : List ℕ) → app < 2 ^ 16 → Small (own_tuple (route m b) app x)
  own_small b app x a = record { guard = guard_below m'.mode.kind x; app = a; rtag = tag_below b.virt }

  pub own_bare : (b : Block) (app : ℕ) (x : List ℕ) → length x ≡ n → app < 2 ^ 16 → is_escaped One (own_tuple (route m b) app x) ≡ false → IsBare n (own_frame (route m b) app x)
  own_bare b app x l a e = record {
    size = length-append x _ ∙ ap (λ k. k + 8) l;
    escape = ap (λ t. is_escaped One t) (tuple_is n x (own_tuple (route m b) app x) l (own_small b app x a)) ∙ e;
  }

  pub own_brought : (b : Block) (app : ℕ) (x : List ℕ) → length x ≡ n → app < 2 ^ 16 → brought_by n (own_frame (route m b) app x) ≡ record { body = x; app = app }
  own_brought b app x l a = same_brought (data_is n x (own_tuple (route m b) app x) l) (ap (λ (t : Tuple). t.app) (tuple_is n x (own_tuple (route m b) app x) l (own_small b app x a)))

  -- what each step has of this
  abbrev pub Placed : Step → Type 0
  Placed (Sets at values) = Unit {0}
  Placed (Shows at) = Unit {0}
  Placed (Seals body tuple app rtag) = Unit {0}
  Placed (Writes b app body) = IsPlaced b
  Placed (WritesPi b frame) = IsPlaced b
  Placed (Reads b owner to) = Unit {0}
  Placed (Alters dev lba change) = Unit {0}

  abbrev pub AllPlaced : List Step → Type 0
  AllPlaced [] = Unit {0}
  AllPlaced (step ∷ steps) = Placed step × AllPlaced steps

  pub marks_after : (step : Step) (past : List Event) (s : State) → Fits m devices step → Placed step → SuppliesNoEscape m step s → step_accounts m step s ≡ true → Marks past s.blocks →
      Marks (events_of m step s ++ past) (act (act_of m step) s).blocks
  marks_after (Sets at values) past s f p e d h = h
  marks_after (Shows at) past s f p e d h = h
  marks_after (Seals body tuple app rtag) past s f p e d h = h
  marks_after (Reads b owner to) past s f p e d h = h
  marks_after (Writes b app body) past s f p e d h =
      let x = gather 0 body s.bytes in
      let l = gather_length 0 body s.bytes ∙ f.1.1.1 in
      let frame = own_frame (route m b) app x in
      let old = get_or s.blocks (stored_cell m.site (route m b)) [] in
      let way = way_out m'.site.faults m.site.device (route m b) frame in
      let c = and_parts (shows_out m b frame) (not (is_in_doubt m b) || is_left_spoilt m b old way) d in
      after_write b (record { body = x; app = app }) frame [] old (get_or s.logs (own_cell m.site (route m b)) []) past s.blocks way refl f.0 p c.1
      (goes_out m' b frame f.1.0 (own_bare b app x l f.1.1.0 (e refl)) c.0)
      (own_brought b app x l f.1.1.0) h
  marks_after (WritesPi b frame) past s f p e d h =
      let x = gather 0 frame s.bytes in
      let bare : IsBare n x = record { size = gather_length 0 frame s.bytes ∙ f.1.1; escape = e } in
      let old = get_or s.blocks (stored_cell m.site (route m b)) [] in
      let way = way_out m'.site.faults m.site.device (route m b) x in
      let c = and_parts (shows_out m b x) (not (is_in_doubt m b) || is_left_spoilt m b old way) d in
      after_write b (brought_by n x) x (tuple_after (route m b) (drop n x)) old (get_or s.logs (own_cell m.site (route m b)) []) past s.blocks way refl f.0 p c.1
      (goes_out m' b x f.1.0 bare c.0) refl h
  marks_after (Alters dev lba change) past s f p e d h = altered dev lba (changed change (get_or s.blocks (source_of m.site dev lba change) [])) past s.blocks f d h

  pub why_read : (b : Block) (owner : Owner) (w : WayIn) (size after : ℕ) → (read_by (route m b) owner w size after).answer.why ≡ why_ended w
  why_read b owner (Stops why) size after = refl
  why_read b owner (Spoils why carried) size after = refl
  why_read b owner (Delivers carried frame) size after = refl

  pub read_as : (b : Block) (owner : Owner) (to : List ℕ) (past : List Event) (s : State) → Fits m devices (Reads b owner to) → is_served m b ≡ true → shows_in m b (get_or s.blocks (fetched_cell m.site (route m b)) []) ≡ true → Marks past s.blocks →
      EndsAs m b owner to (first_layer m past b) (last_counted counts m opening b past) s
  read_as b owner to past s f served d h = convert (first_layer m past b) (reads m' b owner hit stored known) where
    stored : List ℕ
    stored = get_or s.blocks (fetched_cell m.site (route m b)) []

    hit : Bool
    hit = is_hit m (fetched_cell m.site (route m b)) past

    ours : Ours (route m b).dev (medium_lba m'.site.faults (route m b))
    ours = record { b = b; within = f.0; here = refl; met = refl; on = f.1.1 }

    known : Fetched m' b (is_hit m (fetched_cell m.site (route m b)) past) (get_or s.blocks (fetched_cell m.site (route m b)) [])
    known = record {
      reach = f.1.0;
      sound = λ q. h.sound (route m b).dev (medium_lba m'.site.faults (route m b)) ours q;
      spoilt = λ q. h.spoilt (route m b).dev (medium_lba m'.site.faults (route m b)) ours q;
      served = served;
      shown = d;
    }

    logged : ℕ
    logged = length (get_or s.logs (own_cell m.site (route m b)) [])

    way : WayIn
    way = way_in m'.site.faults m.site.device (route m b) owner (get_or s.blocks (fetched_cell m.site (route m b)) [])

    convert : (o : Option Layer) → Reading m' b owner (is_hit m (fetched_cell m.site (route m b)) past) (get_or s.blocks (fetched_cell m.site (route m b)) []) o → EndsAs m b owner to o (last_counted counts m opening b past) s
    convert (Some layer) r = record {
      check = r.finding.check;
      is_found = r.finding.is;
      listed = why_read b owner way (length to) logged ∙ r.ends;
    }
    convert None r =
        let home = ap (cell (route m b).dev) r.home in
        let e : brought_by n (get_or s.blocks (fetched_cell m.site (route m b)) []) ≡ last_counted counts m opening b past =
        ap (λ c. brought_by n (get_or s.blocks c [])) home ∙ h.newest b f.0 (ap (λ c. is_hit m c past) (sym home) ∙ r.whole) in
        record {
          listed = why_read b owner way (length to) logged ∙ ap why_ended r.way;
          frame = _;
          size = r.under.size;
          body = r.under.body ∙ ap (λ (e : Brought). e.body) e;
          tuple = r.under.tuple ∙ ap (λ (e : Brought). own_tuple (route m b) e.app e.body) e;
          lands = ap (λ w. scatter to (read_by (route m b) owner w (length to) logged).written.bytes s.bytes) r.way;
        }

  pub begins : AreCleanWhereRead m devices opening.blocks → Marks [] opening.blocks
  begins clean = record {
    size = refl;
    sound = λ dev lba o q.
        let c : IsClean m lba (get_or opening.blocks (cell dev lba) []) =
        subst (λ (d : ℕ). IsClean m lba (get_or opening.blocks (cell d lba) [])) (sym o.here)
        (subst (λ (a : ℕ). HasBlock m devices (route m o.b).dev a → IsClean m a (get_or opening.blocks (cell (route m o.b).dev a) [])) (sym o.met) (clean o.b o.within) (subst (λ (d : ℕ). HasBlock m devices d lba) o.here o.on)) in
        record { bare = record { size = cells.size dev lba o.on; escape = c.no_escape }; bears = record { guard = c.guard; rtag = c.rtag refl }; app = c.app };
    spoilt = λ dev lba o q. absurd (false≢true q);
    newest = λ a l q. refl;
  }

  -- by whether the medium serves it
  abbrev pub EndsWhereServed : (served : Bool) → Block → Owner → List ℕ → List Event → State → Type 0
  EndsWhereServed false b owner to past s = (tell (act_of m (Reads b owner to)) s).why ≡ Some Medium
  EndsWhereServed true b owner to past s = EndsAs m b owner to (first_layer m past b) (last_counted counts m opening b past) s

  pub ends_as : (b : Block) (owner : Owner) (to : List ℕ) (past : List Event) (s : State) → Fits m devices (Reads b owner to) → step_accounts m (Reads b owner to) s ≡ true → Marks past s.blocks →
      (served : Bool) → is_served m b ≡ served → EndsWhereServed served b owner to past s
  ends_as b owner to past s f d h true q = read_as b owner to past s f q (must (is_served m b) (shows_in m b (get_or s.blocks (fetched_cell m.site (route m b)) [])) d q) h
  ends_as b owner to past s f d h false q =
      why_read b owner (way_in m'.site.faults m.site.device (route m b) owner (get_or s.blocks (fetched_cell m.site (route m b)) [])) (length to) (length (get_or s.logs (own_cell m.site (route m b)) []))
      ∙ ap why_ended (unserved m' b owner (get_or s.blocks (fetched_cell m.site (route m b)) []) q)

  -- each block of a read, after the steps before it
  reads_along : (earlier later : List Step) (b : Block) (owner : Owner) (to : List ℕ) (past : List Event) (s : State) → AllFit m devices (earlier ++ (Reads b owner to ∷ later)) → AllPlaced (earlier ++ (Reads b owner to ∷ later)) →
      NoneEscapes m (earlier ++ (Reads b owner to ∷ later)) s → accounted m (earlier ++ (Reads b owner to ∷ later)) s ≡ true → Marks past s.blocks →
      let now = plain (λ step s. act (act_of m step) s) earlier s in
      EndsWhereServed (is_served m b) b owner to (past_after m earlier s past) now
  reads_along [] later b owner to past s f p e d h =
      ends_as b owner to past s f.0 (and_parts (step_accounts m (Reads b owner to) s) (accounted m later (act (act_of m (Reads b owner to)) s)) d).0 h (is_served m b) refl
  reads_along (step ∷ earlier) later b owner to past s f p e d h =
      let next = act (act_of m step) s in
      let rest = earlier ++ (Reads b owner to ∷ later) in
      let q = and_parts (step_accounts m step s) (accounted m rest next) d in
      reads_along earlier later b owner to (events_of m step s ++ past) next f.1 p.1 e.1 q.1 (marks_after step past s f.0 p.0 e.0 q.0 h)

  pub reads_after : (earlier later : List Step) (b : Block) (owner : Owner) (to : List ℕ) → AllFit m devices (earlier ++ (Reads b owner to ∷ later)) → AllPlaced (earlier ++ (Reads b owner to ∷ later)) →
      NoneEscapes m (earlier ++ (Reads b owner to ∷ later)) opening → accounted m (earlier ++ (Reads b owner to ∷ later)) opening ≡ true → AreCleanWhereRead m devices opening.blocks →
      let now = plain (λ step s. act (act_of m step) s) earlier opening in
      EndsWhereServed (is_served m b) b owner to (past_after m earlier opening []) now
  reads_after earlier later b owner to f p e d clean = reads_along earlier later b owner to [] opening f p e d (begins clean)
