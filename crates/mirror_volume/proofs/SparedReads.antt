-- A read of a mirror where store calls may fail: what comes of each of its blocks on a leg.
use Rattle.std.proofs.Common.{◌≡◌, ◌<◌, ◌≤◌, ◌⊎◌, inl, inr, ℕ, zero, suc, ◌+◌, ◌-◌, ◌*◌, List, [], ◌∷◌, ◌++◌, length, get_or, take, drop, Option, Some, None, refl, sym, ap, subst, ◌∙◌, arith}
use Rattle.std.specs.Prelude.{Result, Ok, Err}
use Rattle.std.proofs.lemmas.List.{drop-drop, length-drop, length-take-le, take_all}
use Rattle.page_pool.specs.Cells.{flat}
use Rattle.bio_core.specs.declared.fate.Why.{Why}
use Rattle.bio_core.specs.declared.fate.Why.TheVariants.{Medium}
use Rattle.walk_laws.specs.Settings.{Block, Setting}
use Rattle.walk_laws.specs.Steps.{each_from}
use Rattle.walk_laws.proofs.CalmRuns.{room as block_ends}
use Rattle.walk_laws.proofs.EachFrom.{each_same}
use Rattle.mirror_laws.specs.OnLegs.{landed_by, why_of}
use Rattle.mirror_laws.specs.Repair.{reading}
use Rattle.mirror_volume.specs.Asked.{bytes_after, found_after, pasted}
use Rattle.mirror_volume.specs.LegRuns.{LegRun, found_by, pool_of, replies_of}
use Rattle.mirror_volume.proofs.FellLegs.{ReadEach}
use Rattle.mirror_volume.proofs.Flat.{AllLong, flat-pasted, pasted-long}
use Rattle.mirror_volume.proofs.Glued.{AllParts, OnePart}
use Rattle.mirror_volume.proofs.Painting.{painted}

-- ---- as bytes, and as data of blocks

-- the data of block k
abbrev pub slice : (size : ℕ) → List ℕ → ℕ → List ℕ
slice size xs k = take size (drop (k * size) xs)

take-two : (a b : ℕ) (xs : List ℕ) → take a xs ++ take b (drop a xs) ≡ take (a + b) xs
take-two zero b xs = let z : b ≡ 0 + b = omega arith in ap (λ k. take k xs) z
take-two (suc a) zero [] = let z : suc a ≡ suc a + 0 = omega arith in ap (λ k. take {A = ℕ} k []) z
take-two (suc a) (suc b) [] = let z : suc (a + suc b) ≡ suc a + suc b = omega arith in ap (λ k. take {A = ℕ} k []) z
take-two (suc a) b (x ∷ xs) = let z : suc (a + b) ≡ suc a + b = omega arith in ap (λ ys. x ∷ ys) (take-two a b xs) ∙ ap (λ k. take k (x ∷ xs)) z

slices-from : (size j n : ℕ) (xs : List ℕ) → flat (each_from j n (slice size xs)) ≡ take (n * size) (drop (j * size) xs)
slices-from size j zero xs = let z : 0 ≡ 0 * size = omega arith in ap (λ k. take k (drop (j * size) xs)) z
slices-from size j (suc n) xs =
    let e : suc j * size ≡ j * size + size = omega arith in
    let m : size + n * size ≡ suc n * size = omega arith in
    ap (λ ys. slice size xs j ++ ys) (slices-from size (suc j) n xs ∙ ap (λ k. take (n * size) (drop k xs)) e ∙ ap (take (n * size)) (sym (drop-drop size (j * size) xs) ∙ refl))
    ∙ take-two size (n * size) (drop (j * size) xs)
    ∙ ap (λ k. take k (drop (j * size) xs)) m

pub slices : (size n : ℕ) (xs : List ℕ) → flat (each_from 0 n (slice size xs)) ≡ take (n * size) xs
slices size n xs = let z : 0 * size ≡ 0 = omega arith in slices-from size 0 n xs ∙ ap (λ k. take (n * size) (drop k xs)) z

pub slice-long : (size n k : ℕ) (xs : List ℕ) → n * size ≤ length xs → k < n → length (slice size xs k) ≡ size
slice-long size n k xs l h =
    let ends = block_ends size k n h in
    let d = length-drop (k * size) xs in
    length-take-le size (drop (k * size) xs) (omega (arith, ends, d, l))

-- ---- what comes of a block, by what is found and what lands

abbrev came_by : Option Why → List ℕ → Result (List ℕ) Why
came_by None landing = Ok landing
came_by (Some why) landing = Err why

why-came : (w : Option Why) (landing : List ℕ) → why_of (came_by w landing) ≡ w
why-came None landing = refl
why-came (Some why) landing = refl

module _ (m : Setting) (size : ℕ) (block : ℕ → Block) (blocks : List (List ℕ)) (Named : ℕ → Type 0) where
  -- What comes of block j is the medium, where a request names it, or what comes of the stored block.
  pub record Comes (j : ℕ) (came : Result (List ℕ) Why) : Type 0 where
    pub either : Named j ⊎ (why_of came ≡ why_of (reading m (block j) blocks))
    pub reads : (landing : List ℕ) → came ≡ Ok landing → why_of (reading m (block j) blocks) ≡ None
    pub lands : (frame landing : List ℕ) → came ≡ Ok landing → reading m (block j) blocks ≡ Ok frame → size ≤ length frame → landing ≡ take size frame

  -- one request
  pub record PartCame (q : ℕ × ℕ) (r : LegRun) (f : ℕ → Result (List ℕ) Why) : Type 0 where
    pub found : found_by q.1 (replies_of r) ≡ each_from q.0 q.1 (λ j. why_of (f j))
    pub landed : take (q.1 * size) (flat (pool_of r)) ≡ flat (each_from q.0 q.1 (λ j. landed_by size (f j)))
    pub long : (j : ℕ) → q.0 ≤ j → j < q.0 + q.1 → length (landed_by size (f j)) ≡ size

  pub part-local : (q : ℕ × ℕ) (r : LegRun) (f g : ℕ → Result (List ℕ) Why) → ((j : ℕ) → q.0 ≤ j → j < q.0 + q.1 → f j ≡ g j) → PartCame q r f → PartCame q r g
  part-local q r f g h p = record {
    found = p.found ∙ each_same q.0 q.1 (λ j. why_of (f j)) (λ j. why_of (g j)) (λ j l k. ap why_of (h j l k));
    landed = p.landed ∙ ap flat (each_same q.0 q.1 (λ j. landed_by size (f j)) (λ j. landed_by size (g j)) (λ j l k. ap (landed_by size) (h j l k)));
    long = λ j l k. ap (λ (c : Result (List ℕ) Why). length (landed_by size c)) (sym (h j l k)) ∙ p.long j l k;
  }

  -- where nothing is asked
  abbrev cut : Result (List ℕ) Why → Result (List ℕ) Why
  cut (Ok frame) = Ok (take size frame)
  cut (Err why) = Err why

  cut-why : (came : Result (List ℕ) Why) → why_of (cut came) ≡ why_of came
  cut-why (Ok frame) = refl
  cut-why (Err why) = refl

  cut-lands : (came : Result (List ℕ) Why) (frame landing : List ℕ) → cut came ≡ Ok landing → came ≡ Ok frame → landing ≡ take size frame
  cut-lands (Ok x) frame landing e f = let a : take size x ≡ landing = cc in let b : x ≡ frame = cc in sym a ∙ ap (take size) b
  cut-lands (Err why) frame landing e f = absurd cc

  abbrev pub base : ℕ → Result (List ℕ) Why
  base j = cut (reading m (block j) blocks)

  pub base-comes : (j : ℕ) → Comes j (base j)
  base-comes j = record {
    either = inr (cut-why (reading m (block j) blocks));
    reads = λ landing e. sym (cut-why (reading m (block j) blocks)) ∙ ap why_of e;
    lands = λ frame landing e f more. cut-lands (reading m (block j) blocks) frame landing e f;
  }

  -- ---- of one request

  list-each : {X : Type 0} (d : X) (j : ℕ) (xs ys : List X) → xs ≡ ys → each_from j (length ys) (λ k. get_or ys (k - j) d) ≡ xs
  list-each d j xs [] e = sym e
  list-each d j xs (y ∷ ys) e =
      let z : j - j ≡ 0 = omega arith in
      (λ i. get_or (y ∷ ys) (z i) d ∷ each_same (suc j) (length ys) (λ k. get_or (y ∷ ys) (k - j) d) (λ k. get_or ys (k - suc j) d) (λ k l h. let q : k - j ≡ suc (k - suc j) = omega (arith, l) in ap (λ x. get_or (y ∷ ys) x d) q) i)
      ∙ ap (λ zs. y ∷ zs) (list-each d (suc j) ys ys refl) ∙ sym e

  module _ (a c : ℕ) (r : LegRun) (each : ReadEach m size c (λ k. block (a + k)) blocks (flat (pool_of r)) (found_by c (replies_of r)))
      (named : (k : ℕ) → k < c → get_or (found_by c (replies_of r)) k None ≡ Some Medium → Named (a + k)) where
    abbrev found : List (Option Why)
    found = found_by c (replies_of r)

    abbrev landing : List ℕ
    landing = flat (pool_of r)

    abbrev came : ℕ → Result (List ℕ) Why
    came j = came_by (get_or found (j - a) None) (slice size landing (j - a))

    came-why : (j : ℕ) → why_of (came j) ≡ get_or found (j - a) None
    came-why j = why-came (get_or found (j - a) None) (slice size landing (j - a))

    came-lands : (j : ℕ) → a ≤ j → j < a + c → landed_by size (came j) ≡ slice size landing (j - a)
    came-lands j l h = by (get_or found (j - a) None) refl where
      by : (w : Option Why) → get_or found (j - a) None ≡ w → landed_by size (came_by w (slice size landing (j - a))) ≡ slice size landing (j - a)
      by None e = take_all size (slice size landing (j - a)) (let z = slice-long size c (j - a) landing each.long (omega (arith, l, h)) in omega (arith, z))
      by (Some why) e = sym (each.zeros (j - a) (omega (arith, l, h)) why e)

    found-each : found ≡ each_from a c (λ j. why_of (came j))
    found-each =
        sym (list-each None a found found refl) ∙ ap (λ k. each_from a k (λ j. get_or found (j - a) None)) each.count
        ∙ each_same a c (λ j. get_or found (j - a) None) (λ j. why_of (came j)) (λ j l h. sym (came-why j))

    shifted : (j k : ℕ) → each_from j k (slice size landing) ≡ each_from (a + j) k (λ q. slice size landing (q - a))
    shifted j zero = refl
    shifted j (suc k) =
        let z : (a + j) - a ≡ j = omega arith in
        let up : a + suc j ≡ suc (a + j) = omega arith in
        (λ i. slice size landing (sym z i) ∷ (shifted (suc j) k ∙ ap (λ q. each_from q k (λ q. slice size landing (q - a))) up) i)

    landed-each : take (c * size) landing ≡ flat (each_from a c (λ j. landed_by size (came j)))
    landed-each =
        let z : a + 0 ≡ a = omega arith in
        sym (slices size c landing) ∙ ap flat (shifted 0 c ∙ ap (λ q. each_from q c (λ q. slice size landing (q - a))) z
        ∙ each_same a c (λ j. slice size landing (j - a)) (λ j. landed_by size (came j)) (λ j l h. sym (came-lands j l h)))

    came-fits : (j : ℕ) → a ≤ j → j < a + c → Comes j (came j)
    came-fits j l h = record {
      either = elim (each.either (j - a) inside) [ inl medium ↦ inl (subst Named there (named (j - a) inside medium)) | inr same ↦ inr (came-why j ∙ same ∙ ap (λ q. why_of (reading m (block q) blocks)) there) ];
      reads = λ others e.
          (let none : get_or found (j - a) None ≡ None = sym (came-why j) ∙ ap why_of e in
          elim (each.either (j - a) inside) [ inl medium ↦ absurd (let z : None ≡ Some Medium = sym none ∙ medium in cc) | inr same ↦ sym (same ∙ ap (λ q. why_of (reading m (block q) blocks)) there) ∙ none ]);
      lands = λ frame others e f more. lands-by (get_or found (j - a) None) refl frame others e f more;
    } where
      inside : j - a < c
      inside = omega (arith, l, h)

      there : a + (j - a) ≡ j
      there = omega (arith, l)

      lands-by : (w : Option Why) → get_or found (j - a) None ≡ w → (frame others : List ℕ) → came_by w (slice size landing (j - a)) ≡ Ok others → reading m (block j) blocks ≡ Ok frame → size ≤ length frame → others ≡ take size frame
      lands-by None e frame others q f more =
          let x : slice size landing (j - a) ≡ others = cc in
          sym x ∙ each.lands (j - a) inside e frame (ap (λ q. reading m (block q) blocks) there ∙ f) more
      lands-by (Some why) e frame others q f more = absurd cc

    pub one-came : OnePart PartCame part-local Comes base base-comes (a, c) r
    one-came = record {
      f = came;
      part = record { found = found-each; landed = landed-each; long = λ j l h. ap length (came-lands j l h) ∙ slice-long size c (j - a) landing each.long (omega (arith, l, h)) };
      fits = came-fits;
    }

  -- ---- of all stretches

  pub record LegCame (ss : List (ℕ × ℕ)) (runs : List LegRun) (f : ℕ → Result (List ℕ) Why) (found : List (Option Why)) (xs : List (List ℕ)) : Type 0 where
    pub found_is : found_after ss runs found ≡ painted (λ j. why_of (f j)) ss found
    pub bytes_are : bytes_after size ss runs (flat xs) ≡ flat (painted (λ j. landed_by size (f j)) ss xs)
    pub long : AllLong size (painted (λ j. landed_by size (f j)) ss xs)

  -- as many runs as stretches
  abbrev pub Fit : List (ℕ × ℕ) → List LegRun → Type 0
  Fit [] [] = Unit {0}
  Fit [] (r ∷ runs) = ⊥
  Fit (q ∷ ss) [] = ⊥
  Fit (q ∷ ss) (r ∷ runs) = Fit ss runs

  long-part : (at n : ℕ) (f : ℕ → List ℕ) → ((j : ℕ) → at ≤ j → j < at + n → length (f j) ≡ size) → AllLong size (each_from at n f)
  long-part at zero f h = tt
  long-part at (suc n) f h = (h at (omega arith) (omega arith), long-part (suc at) n f (λ j l k. h j (omega (arith, l)) (omega (arith, k))))

  pub leg-came : (ss : List (ℕ × ℕ)) (runs : List LegRun) (f : ℕ → Result (List ℕ) Why) (found : List (Option Why)) (xs : List (List ℕ)) → Fit ss runs → AllParts PartCame part-local Comes base base-comes ss runs f → AllLong size xs → LegCame ss runs f found xs
  leg-came [] [] f was xs fit parts long = record { found_is = refl; bytes_are = refl; long = long }
  leg-came [] (r ∷ runs) f was xs fit parts long = absurd fit
  leg-came (q ∷ ss) [] f was xs fit parts long = absurd fit
  leg-came (q ∷ ss) (r ∷ runs) f was xs fit parts long =
      let each = each_from q.0 q.1 (λ j. landed_by size (f j)) in
      let each-long : AllLong size each = long-part q.0 q.1 (λ j. landed_by size (f j)) parts.0.long in
      let behind = leg-came ss runs f (pasted q.0 (each_from q.0 q.1 (λ j. why_of (f j))) was) (pasted q.0 each xs) fit parts.1 (pasted-long size q.0 each xs each-long long) in
      record {
        found_is = ap (λ z. found_after ss runs (pasted q.0 z was)) parts.0.found ∙ behind.found_is;
        bytes_are = ap (λ z. bytes_after size ss runs (pasted (q.0 * size) z (flat xs))) parts.0.landed
            ∙ ap (bytes_after size ss runs) (flat-pasted size q.0 each xs each-long long) ∙ behind.bytes_are;
        long = behind.long;
      }
