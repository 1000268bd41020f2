-- The settled blocks of a command, one block after another.
use Rattle.std.proofs.Common.{◌≡◌, ◌<◌, ◌≤◌, ℕ, zero, suc, ◌+◌, ◌-◌, List, [], ◌∷◌, ◌++◌, length, get_or, take, drop, refl, sym, ap, subst, ◌∙◌, arith, ⊎_elim, append-nil, append_assoc, length-append}
use Rattle.std.proofs.lemmas.Bool.{cases_eq, cases_lt}
use Rattle.page_pool.specs.Pages.{AreWhole, Wrote}
use Rattle.page_pool.specs.Places.{PageByte}
use Rattle.page_pool.proofs.Celled.{whole_stays}
use Rattle.pi_tuple.specs.declared.checks.PiType.{PiType}
use Rattle.bio_core.specs.Bios.{Block, blocks_from, blocks_of}
use Rattle.bio_core.specs.declared.bio.Bio.{Bio}
use Rattle.bio_core.specs.declared.fate.Fate.{Fate}
use Rattle.bio_core.specs.declared.fate.Fate.TheVariants.{Good, Bad, Untouched}
use Rattle.bio_core.specs.declared.request.Dir.{Dir}
use Rattle.bio_core.specs.declared.request.Dir.TheVariants.{Read, Write as WriteDir}
use Rattle.bio_core.specs.declared.request.Io.{Io}
use Rattle.integrity_payload.specs.declared.payload.Payload.{Payload}
use Rattle.std.specs.Prelude.{Option, Some, None}
use Rattle.block_path.specs.declared.mode.Mode.{Mode}
use Rattle.dix_adapter.specs.Groups.{blocks_in}
use Rattle.dix_adapter.proofs.Blocks.{length-blocks}
use Rattle.stack_laws.specs.Passed.{no_bio, size}
use Rattle.stack_laws.proofs.Passed.{size-append}
use Rattle.stack_walk_laws.specs.Settled.{AllSettled, BioSettled, Blanked, Judged, KeptFates, LeftBy, MappedBack, OneSettled, Settled, TupleBlanked}
use Rattle.stack_walk_laws.specs.Settling.{AreFates, blocks_before}
use Rattle.stack_walk_laws.specs.Sheets.{io_at}
use Rattle.stack_walk_laws.proofs.Counts.{blocks-more}

-- ---- what each leaves of the pages

pub record KeepsPages (old new : List (List ℕ)) : Type 0 where
  pub pages : length new ≡ length old
  pub whole : AreWhole old → AreWhole new

keeps_same : (old new : List (List ℕ)) → new ≡ old → KeepsPages old new
keeps_same old new e = record { pages = ap length e; whole = λ w. subst AreWhole (sym e) w }

keeps_on : (old mid new : List (List ℕ)) → KeepsPages old mid → KeepsPages mid new → KeepsPages old new
keeps_on old mid new a b = record { pages = b.pages ∙ a.pages; whole = λ w. b.whole (a.whole w) }

keeps_wrote : (old new : List (List ℕ)) (ps : List PageByte) (bytes : List ℕ) → Wrote old new ps bytes → KeepsPages old new
keeps_wrote old new ps bytes w = record { pages = w.others.pages; whole = λ h. whole_stays old new ps w.others h }

keeps_back : (o : Option Payload) (ty : PiType) (k lba : ℕ) (old new : List (List ℕ)) → MappedBack o ty k lba old new → KeepsPages old new
keeps_back None ty k lba old new h = keeps_same old new h
keeps_back (Some pi) ty k lba old new h = keeps_wrote old new _ _ h.wrote

keeps_judged : (o : Option Payload) (fate : Fate) (mode : Mode) (ty : PiType) (io : Io) (k lba : ℕ) (old new : List (List ℕ)) (result : Fate) → Judged o fate mode ty io k lba old new result → KeepsPages old new
keeps_judged None fate mode ty io k lba old new result h = keeps_same old new h.0
keeps_judged (Some pi) Good mode ty io k lba old new result h = keeps_wrote old new _ _ h.0.wrote
keeps_judged (Some pi) (Bad why) mode ty io k lba old new result h = keeps_same old new h.0
keeps_judged (Some pi) Untouched mode ty io k lba old new result h = keeps_same old new h.0

keeps_tuple : (o : Option Payload) (k : ℕ) (old new : List (List ℕ)) → TupleBlanked o k old new → KeepsPages old new
keeps_tuple None k old new h = keeps_same old new h
keeps_tuple (Some pi) k old new h = keeps_wrote old new _ _ h

keeps_blank : (io : Io) (k : ℕ) (old new : List (List ℕ)) → Blanked io k old new → KeepsPages old new
keeps_blank io k old new h = keeps_on old h.between new (keeps_wrote old h.between _ _ h.body) (keeps_tuple io.pi k h.between new h.tuple)

keeps_left : (fate : Fate) (io : Io) (k : ℕ) (old new : List (List ℕ)) → LeftBy fate io k old new → KeepsPages old new
keeps_left Good io k old new h = keeps_same old new h
keeps_left (Bad why) io k old new h = keeps_blank io k old new h
keeps_left Untouched io k old new h = keeps_blank io k old new h

pub keeps_settled : (dir : Dir) (mode : Mode) (ty : PiType) (io : Io) (k lba : ℕ) (fate : Fate) (old new : List (List ℕ)) (result : Fate) → Settled dir mode ty io k lba fate old new result → KeepsPages old new
keeps_settled Read mode ty io k lba fate old new result h = keeps_on old h.between new (keeps_judged io.pi fate mode ty io k lba old h.between result h.judged) (keeps_left result io k h.between new h.left)
keeps_settled WriteDir mode ty io k lba fate old new result h = keeps_back io.pi ty k lba old new h.0

-- ---- one after another

abbrev pub Each : Mode → PiType → List Io → (starts : List ℕ) → List Block → List Fate → (old new : KeptFates) → Type 0
Each mode ty ios starts [] fs old new = new ≡ old
Each mode ty ios starts (b ∷ bs) [] old new = ⊥
Each mode ty ios starts (b ∷ bs) (f ∷ fs) old new =
    (mid : KeptFates) × (OneSettled mode ty (io_at ios (b.op - 1)) (get_or starts (b.op - 1) 0) b.k b.lba f old mid × Each mode ty ios starts bs fs mid new)

module _ (mode : Mode) (ty : PiType) (ios : List Io) (starts : List ℕ) where
  each_join : (bs cs : List Block) (fs gs : List Fate) (old mid new : KeptFates) → length fs ≡ length bs → Each mode ty ios starts bs fs old mid → Each mode ty ios starts cs gs mid new → Each mode ty ios starts (bs ++ cs) (fs ++ gs) old new
  each_join [] cs [] gs old mid new l a b = subst (λ k. Each mode ty ios starts cs gs k new) a b
  each_join [] cs (f ∷ fs) gs old mid new l a b = absurd (omega arith)
  each_join (x ∷ bs) cs [] gs old mid new l a b = absurd a
  each_join (x ∷ bs) cs (f ∷ fs) gs old mid new l a b = (a.0, (a.1.0, each_join bs cs fs gs a.0 mid new (omega arith) a.1.1 b))

  from_last : (op k dev lba : ℕ) (dir : Dir) (n : ℕ) → blocks_from op k dev lba dir (suc n) ≡ blocks_from op k dev lba dir n ++ (record { op = op; k = k + n; dev = dev; lba = lba + n; dir = dir } ∷ [])
  from_last op k dev lba dir zero = let a : k + 0 ≡ k = omega arith in let b : lba + 0 ≡ lba = omega arith in rw (a, b) refl
  from_last op k dev lba dir (suc n) =
      let a : suc k + n ≡ k + suc n = omega arith in
      let b : suc lba + n ≡ lba + suc n = omega arith in
      ap (λ l. record { op = op; k = k; dev = dev; lba = lba; dir = dir } ∷ l) (from_last op (suc k) dev (suc lba) dir n)
      ∙ (ap (λ x. record { op = op; k = k; dev = dev; lba = lba; dir = dir } ∷ (blocks_from op (suc k) dev (suc lba) dir n ++ (record { op = op; k = x; dev = dev; lba = suc lba + n; dir = dir } ∷ []))) a
      ∙ ap (λ x. record { op = op; k = k; dev = dev; lba = lba; dir = dir } ∷ (blocks_from op (suc k) dev (suc lba) dir n ++ (record { op = op; k = k + suc n; dev = dev; lba = x; dir = dir } ∷ []))) b)

  pub blocks_long : (bios : List Bio) → length (blocks_in bios) ≡ size bios
  blocks_long [] = refl
  blocks_long (b ∷ bios) = let e = length-append (blocks_of b) (blocks_in bios) in let f = length-blocks b.op b.k b.dev b.lba b.dir b.count in let h = blocks_long bios in omega arith

  -- one fate more
  fates_more : (fates : List Fate) (at n : ℕ) → at + n < length fates → take (suc n) (drop at fates) ≡ take n (drop at fates) ++ (get_or fates (at + n) Good ∷ [])
  fates_more [] at n h = absurd (omega arith)
  fates_more (f ∷ fates) zero zero h = refl
  fates_more (f ∷ fates) zero (suc n) h = ap (λ l. f ∷ l) (let e = fates_more fates 0 n (omega arith) in let z : 0 + n ≡ n = omega arith in let y : 0 + suc n ≡ suc n = omega arith in rw y (rw z at e))
  fates_more (f ∷ fates) (suc at) n h = let e : suc at + n ≡ suc (at + n) = omega arith in rw e (fates_more fates at n (omega arith))

  fates_long : (fates : List Fate) (at n : ℕ) → at + n ≤ length fates → length (take n (drop at fates)) ≡ n
  fates_long [] zero zero h = refl
  fates_long [] zero (suc n) h = absurd (omega arith)
  fates_long [] (suc at) n h = absurd (omega arith)
  fates_long (f ∷ fates) zero zero h = refl
  fates_long (f ∷ fates) zero (suc n) h = ap suc (fates_long fates 0 n (omega arith))
  fates_long (f ∷ fates) (suc at) n h = fates_long fates at n (omega arith)

  bio_each : (bio : Bio) (fates : List Fate) (at n : ℕ) (old new : KeptFates) → at + n ≤ length fates → BioSettled mode ty (io_at ios (bio.op - 1)) (get_or starts (bio.op - 1) 0) bio fates at n old new →
      Each mode ty ios starts (blocks_from bio.op bio.k bio.dev bio.lba bio.dir n) (take n (drop at fates)) old new
  bio_each bio fates at zero old new h s = s
  bio_each bio fates at (suc n) old new h s =
      let one : Each mode ty ios starts (record { op = bio.op; k = bio.k + n; dev = bio.dev; lba = bio.lba + n; dir = bio.dir } ∷ []) (get_or fates (at + n) Good ∷ []) s.0 new = (new, (s.2, refl)) in
      let l = fates_long fates at n (omega arith) in
      let m = length-blocks bio.op bio.k bio.dev bio.lba bio.dir n in
      rw (from_last bio.op bio.k bio.dev bio.lba bio.dir n, fates_more fates at n (omega arith)) (each_join (blocks_from bio.op bio.k bio.dev bio.lba bio.dir n) _ (take n (drop at fates)) _ old s.0 new (omega arith) (bio_each bio fates at n old s.0 (omega arith) s.1) one)

  blocks_join : (xs ys : List Bio) → blocks_in (xs ++ ys) ≡ blocks_in xs ++ blocks_in ys
  blocks_join [] ys = refl
  blocks_join (x ∷ xs) ys = ap (λ l. blocks_of x ++ l) (blocks_join xs ys) ∙ sym (append_assoc (blocks_of x) (blocks_in xs) (blocks_in ys))

  bios_more : (bios : List Bio) (n : ℕ) → n < length bios → take (suc n) bios ≡ take n bios ++ (get_or bios n no_bio ∷ [])
  bios_more [] n h = absurd (omega arith)
  bios_more (b ∷ bios) zero h = refl
  bios_more (b ∷ bios) (suc n) h = ap (λ l. b ∷ l) (bios_more bios n (omega arith))

  size_nil : (n : ℕ) → size (take n []) ≡ 0
  size_nil zero = refl
  size_nil (suc n) = refl

  size_below : (bios : List Bio) (n : ℕ) → size (take n bios) ≤ size bios
  size_below [] n = let e = size_nil n in omega arith
  size_below (b ∷ bios) zero = omega arith
  size_below (b ∷ bios) (suc n) = let e = size_below bios n in omega arith

  take_both : (fates : List Fate) (a b : ℕ) → a + b ≤ length fates → take (a + b) fates ≡ take a fates ++ take b (drop a fates)
  take_both fates zero b h = let z : 0 + b ≡ b = omega arith in rw z refl
  take_both [] (suc a) b h = absurd (omega arith)
  take_both (f ∷ fates) (suc a) b h = let z : suc a + b ≡ suc (a + b) = omega arith in rw z (ap (λ l. f ∷ l) (take_both fates a b (omega arith)))

  bios_each : (bios : List Bio) (fates : List Fate) (n : ℕ) (old new : KeptFates) → n ≤ length bios → size bios ≡ length fates → AllSettled mode ty ios starts bios fates n old new →
      Each mode ty ios starts (blocks_in (take n bios)) (take (size (take n bios)) fates) old new
  bios_each bios fates zero old new h l s = s
  bios_each bios fates (suc n) old new h l s =
      let bio = get_or bios n no_bio in
      let t = bios_more bios n (omega arith) in
      let below = size_below bios (suc n) in
      let sum : size (take (suc n) bios) ≡ size (take n bios) + bio.count = ap size t ∙ (size-append (take n bios) (bio ∷ []) ∙ (let z : bio.count + 0 ≡ bio.count = omega arith in ap (λ x. size (take n bios) + x) z)) in
      let bs : blocks_in (take (suc n) bios) ≡ blocks_in (take n bios) ++ blocks_of bio = ap blocks_in t ∙ (blocks_join (take n bios) (bio ∷ []) ∙ ap (λ x. blocks_in (take n bios) ++ x) (append-nil (blocks_of bio))) in
      let fs : take (size (take (suc n) bios)) fates ≡ take (size (take n bios)) fates ++ take bio.count (drop (size (take n bios)) fates) = ap (λ x. take x fates) sum ∙ take_both fates (size (take n bios)) bio.count (omega arith) in
      let a = blocks_long (take n bios) in
      let b : length (take (size (take n bios)) (drop 0 fates)) ≡ size (take n bios) = fates_long fates 0 (size (take n bios)) (omega arith) in
      rw (bs, fs)
      (each_join (blocks_in (take n bios)) (blocks_of bio) (take (size (take n bios)) fates) (take bio.count (drop (size (take n bios)) fates)) old s.0 new (omega arith) (bios_each bios fates n old s.0 (omega arith) l s.1)
      (bio_each bio fates (size (take n bios)) bio.count s.0 new (omega arith) s.2))

  pub all_each : (bios : List Bio) (fates : List Fate) (old new : KeptFates) → size bios ≡ length fates → AllSettled mode ty ios starts bios fates (length bios) old new → Each mode ty ios starts (blocks_in bios) fates old new
  all_each bios fates old new l s =
      let e = bios_each bios fates (length bios) old new (omega arith) l s in
      let t = take_whole bios in
      let u : take (size bios) fates ≡ fates = ap (λ x. take x fates) l ∙ take_whole fates in
      subst (λ x. Each mode ty ios starts (blocks_in bios) x old new) u (subst (λ x. Each mode ty ios starts (blocks_in x) (take (size x) fates) old new) t e)
    where
      take_whole : {X : Type 0} (xs : List X) → take (length xs) xs ≡ xs
      take_whole [] = refl
      take_whole (x ∷ xs) = ap (λ l. x ∷ l) (take_whole xs)

-- ---- the places of what became of blocks

-- a later request's blocks lie behind
before_less : (ios : List Io) (i j : ℕ) → i < j → j ≤ length ios → blocks_before ios i + (io_at ios i).count ≤ blocks_before ios j
before_less ios i zero h l = absurd (omega arith)
before_less ios i (suc j) h l =
    let z : j + 1 ≡ suc j = omega arith in
    let m = subst (λ x. blocks_before ios x ≡ blocks_before ios j + (io_at ios j).count) z (blocks-more ios j (omega arith)) in
    ⊎_elim
    (λ (e : i ≡ j). subst (λ x. blocks_before ios x + (io_at ios x).count ≤ blocks_before ios (suc j)) (sym e) (omega arith))
    (λ (ne : i ≡ j → ⊥). let r = before_less ios i j (omega (arith, ne)) (omega arith) in omega arith)
    (cases_eq i j)

pub one_place : (ios : List Io) (starts : List ℕ) (held : List Fate) (i k j q : ℕ) → AreFates ios starts held → i < length ios → j < length ios → k < (io_at ios i).count → q < (io_at ios j).count → get_or starts i 0 + k ≡ get_or starts j 0 + q → (i ≡ j) × (k ≡ q)
one_place ios starts held i k j q f li lj hk hq e =
    let a = f.begin i li in
    let b = f.begin j lj in
    ⊎_elim
    (λ (x : i ≡ j). (x, (let c = ap (λ t. get_or starts t 0) x in omega arith)))
    (λ (ne : i ≡ j → ⊥). ⊎_elim (λ (y : i < j). let r = before_less ios i j y (omega arith) in absurd (omega arith)) (λ (y : j ≤ i). let r = before_less ios j i (omega (arith, ne)) (omega arith) in absurd (omega arith)) (cases_lt i j))
    (cases_eq i j)
