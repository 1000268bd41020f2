-- The cells of a request's blocks are parts of its lists', and share none.
use Rattle.std.proofs.Common.{◌≡◌, ◌<◌, ◌≤◌, ℕ, zero, suc, ◌+◌, ◌*◌, Bool, true, false, ◌||◌, eqb, List, [], ◌∷◌, ◌++◌, length, set, take, drop, map, refl, sym, ap, ◌∙◌, arith, length-append}
use Rattle.std.specs.List.{take-map, drop-map}
use Rattle.std.proofs.lemmas.Bool.{or_parts, or_from, false≢true, false_from_ne_true, or_from as neither, or_right}
use Rattle.std.proofs.lemmas.List.{length-take-le, length-take}
use Rattle.page_pool.specs.declared.segs.Seg.{Seg}
use Rattle.page_pool.specs.Cells.{cell, gather, is_in, scatter, share_a_cell}
use Rattle.page_pool.specs.Places.{places_in}
use Rattle.range_gate.specs.Cells.{cells_of}
use Rattle.integrity_payload.specs.declared.payload.Owner.{Owner}
use Rattle.integrity_payload.specs.declared.payload.Owner.TheVariants.{Block as OfBlock, App as OfApp}
use Rattle.walk_laws.proofs.Passed.{AllBelow, Distinct, gather_back, apart_at, in_head, share_by, share_back}
use Rattle.walk_laws.specs.Steps.{body_of, tuple_of}
use Rattle.walk_laws.specs.ReadsAs.{landing}
use Rattle.walk_laws.proofs.CalmRuns.{room as later}
use Rattle.walk_laws.proofs.TupleFrames.{below_take, below_drop, below_append}

-- each of these is one of those
abbrev pub AllIn : List ℕ → List ℕ → Type 0
AllIn xs ys = (i : ℕ) → is_in i xs ≡ true → is_in i ys ≡ true

pub in_tail : (i x : ℕ) (xs : List ℕ) → is_in i xs ≡ true → is_in i (x ∷ xs) ≡ true
in_tail i x xs e = or_right (eqb i x) (is_in i xs) e

pub share_within : (xs big ys large : List ℕ) → AllIn xs big → AllIn ys large → share_a_cell big large ≡ false → share_a_cell xs ys ≡ false
share_within [] big ys large a b h = refl
share_within (x ∷ xs) big ys large a b h =
    neither (is_in x ys) (share_a_cell xs ys)
    (false_from_ne_true (is_in x ys) (λ e. false≢true (sym (apart_at big large x h (a x (in_head x xs))) ∙ b x e)))
    (share_within xs big ys large (λ i e. a i (in_tail i x xs e)) b h)

within_cons : (x : ℕ) (xs ys : List ℕ) → AllIn xs ys → AllIn (x ∷ xs) (x ∷ ys)
within_cons x xs ys h i e = by (eqb i x) e where
  by : (c : Bool) → (c || is_in i xs) ≡ true → (c || is_in i ys) ≡ true
  by true e = refl
  by false e = h i e

pub none_within : (xs : List ℕ) → AllIn [] xs
none_within xs i e = absurd (false≢true e)

pub take_within : (n : ℕ) (xs : List ℕ) → AllIn (take n xs) xs
take_within zero xs = none_within xs
take_within (suc n) [] = λ i e. e
take_within (suc n) (x ∷ xs) = within_cons x (take n xs) xs (take_within n xs)

pub drop_within : (n : ℕ) (xs : List ℕ) → AllIn (drop n xs) xs
drop_within zero xs i e = e
drop_within (suc n) [] i e = e
drop_within (suc n) (x ∷ xs) i e = in_tail i x xs (drop_within n xs i e)

-- a part lies in front of each place from its end on, and a later part behind it
front_within : (a b n : ℕ) (xs : List ℕ) → b + a ≤ n → AllIn (take a (drop b xs)) (take n xs)
front_within zero b n xs l = none_within (take n xs)
front_within (suc a) b zero xs l = absurd (omega (arith, l))
front_within (suc a) zero (suc n) [] l = none_within []
front_within (suc a) zero (suc n) (x ∷ xs) l = within_cons x (take a xs) (take n xs) (front_within a zero n xs (omega (arith, l)))
front_within (suc a) (suc b) (suc n) [] l = none_within []
front_within (suc a) (suc b) (suc n) (x ∷ xs) l = λ i e. in_tail i x (take n xs) (front_within (suc a) b n xs (omega (arith, l)) i e)

back_within : (a b n : ℕ) (xs : List ℕ) → n ≤ b → AllIn (take a (drop b xs)) (drop n xs)
back_within a b zero xs l = λ i e. drop_within b xs i (take_within a (drop b xs) i e)
back_within a zero (suc n) xs l = absurd (omega (arith, l))
back_within zero (suc b) (suc n) [] l = none_within []
back_within (suc a) (suc b) (suc n) [] l = none_within []
back_within a (suc b) (suc n) (x ∷ xs) l = back_within a b n xs (omega (arith, l))

not_in : (i : ℕ) (xs ys : List ℕ) → AllIn xs ys → is_in i ys ≡ false → is_in i xs ≡ false
not_in i xs ys h e = false_from_ne_true (is_in i xs) (λ k. false≢true (sym e ∙ h i k))

pub front_back : (n : ℕ) (xs : List ℕ) → Distinct xs → share_a_cell (take n xs) (drop n xs) ≡ false
front_back zero xs d = refl
front_back (suc n) [] d = refl
front_back (suc n) (x ∷ xs) d = neither (is_in x (drop n xs)) (share_a_cell (take n xs) (drop n xs)) (not_in x (drop n xs) xs (drop_within n xs) d.0) (front_back n xs d.1)

pub parts_apart : (a b c d : ℕ) (xs : List ℕ) → Distinct xs → b + a ≤ d → share_a_cell (take a (drop b xs)) (take c (drop d xs)) ≡ false
parts_apart a b c d xs once l =
    share_within (take a (drop b xs)) (take d xs) (take c (drop d xs)) (drop d xs) (front_within a b d xs l) (back_within c d d xs (omega arith)) (front_back d xs once)

pub part_within : (a b : ℕ) (xs : List ℕ) → AllIn (take a (drop b xs)) xs
part_within a b xs i e = drop_within b xs i (take_within a (drop b xs) i e)

in_both : (i : ℕ) (xs ys : List ℕ) → is_in i (xs ++ ys) ≡ (is_in i xs || is_in i ys)
in_both i [] ys = refl
in_both i (x ∷ xs) ys = ap (λ c. eqb i x || c) (in_both i xs ys) ∙ by (eqb i x) where
  by : (c : Bool) → (c || (is_in i xs || is_in i ys)) ≡ ((c || is_in i xs) || is_in i ys)
  by true = refl
  by false = refl

pub share_left : (xs ys zs : List ℕ) → share_a_cell xs zs ≡ false → share_a_cell ys zs ≡ false → share_a_cell (xs ++ ys) zs ≡ false
share_left [] ys zs h k = k
share_left (x ∷ xs) ys zs h k = let p = or_parts (is_in x zs) (share_a_cell xs zs) h in neither (is_in x zs) (share_a_cell (xs ++ ys) zs) p.0 (share_left xs ys zs p.1 k)

pub share_right : (xs ys zs : List ℕ) → share_a_cell zs xs ≡ false → share_a_cell zs ys ≡ false → share_a_cell zs (xs ++ ys) ≡ false
share_right xs ys zs h k = share_back (xs ++ ys) zs (share_left xs ys zs (share_back zs xs h) (share_back zs ys k))

pub distinct_left : (xs ys : List ℕ) → Distinct (xs ++ ys) → Distinct xs
distinct_left [] ys d = tt
distinct_left (x ∷ xs) ys d = ((or_parts (is_in x xs) (is_in x ys) (sym (in_both x xs ys) ∙ d.0)).0, distinct_left xs ys d.1)

pub distinct_right : (xs ys : List ℕ) → Distinct (xs ++ ys) → Distinct ys
distinct_right [] ys d = d
distinct_right (x ∷ xs) ys d = distinct_right xs ys d.1

pub distinct_apart : (xs ys : List ℕ) → Distinct (xs ++ ys) → share_a_cell xs ys ≡ false
distinct_apart [] ys d = refl
distinct_apart (x ∷ xs) ys d = neither (is_in x ys) (share_a_cell xs ys) (or_parts (is_in x xs) (is_in x ys) (sym (in_both x xs ys) ∙ d.0)).1 (distinct_apart xs ys d.1)

pub distinct_both : (xs ys : List ℕ) → Distinct xs → Distinct ys → share_a_cell xs ys ≡ false → Distinct (xs ++ ys)
distinct_both [] ys d e h = e
distinct_both (x ∷ xs) ys d e h =
    let p = or_parts (is_in x ys) (share_a_cell xs ys) h in
    (in_both x xs ys ∙ or_from (is_in x xs) (is_in x ys) d.0 p.0, distinct_both xs ys d.1 e p.1)

distinct_take : (n : ℕ) (xs : List ℕ) → Distinct xs → Distinct (take n xs)
distinct_take zero xs d = tt
distinct_take (suc n) [] d = tt
distinct_take (suc n) (x ∷ xs) d = (not_in x (take n xs) xs (take_within n xs) d.0, distinct_take n xs d.1)

pub distinct_drop : (n : ℕ) (xs : List ℕ) → Distinct xs → Distinct (drop n xs)
distinct_drop zero xs d = d
distinct_drop (suc n) [] d = tt
distinct_drop (suc n) (x ∷ xs) d = distinct_drop n xs d.1

pub distinct_part : (a b : ℕ) (xs : List ℕ) → Distinct xs → Distinct (take a (drop b xs))
distinct_part a b xs d = distinct_take a (drop b xs) (distinct_drop b xs d)

pub below_part : (n a b : ℕ) (xs : List ℕ) → AllBelow n xs → AllBelow n (take a (drop b xs))
below_part n a b xs h = below_take n a (drop b xs) (below_drop n b xs h)

pub below_left : (n : ℕ) (xs ys : List ℕ) → AllBelow n (xs ++ ys) → AllBelow n xs
below_left n [] ys h = tt
below_left n (x ∷ xs) ys h = (h.0, below_left n xs ys h.1)

pub below_right : (n : ℕ) (xs ys : List ℕ) → AllBelow n (xs ++ ys) → AllBelow n ys
below_right n [] ys h = h
below_right n (x ∷ xs) ys h = below_right n xs ys h.1

-- as many values as there are cells count
pub scatter_enough : (at values cells : List ℕ) → scatter at values cells ≡ scatter at (take (length at) values) cells
scatter_enough [] values cells = refl
scatter_enough (i ∷ at) [] cells = refl
scatter_enough (i ∷ at) (v ∷ values) cells = scatter_enough at values (set cells i v)

pub landed : (at values cells : List ℕ) → Distinct at → AllBelow (length cells) at → length at ≤ length values → gather 0 at (scatter at values cells) ≡ take (length at) values
landed at values cells d b l = ap (gather 0 at) (scatter_enough at values cells) ∙ gather_back at (take (length at) values) cells d b (length-take-le (length at) values l)

-- the cells of block k, as a part of those of its list
part_of : (segs : List Seg) (at len : ℕ) → map cell (take len (drop at (places_in segs))) ≡ take len (drop at (cells_of segs))
part_of segs at len = sym (take-map cell len (drop at (places_in segs))) ∙ ap (take len) (sym (drop-map cell at (places_in segs)))

pub body_part : (size : ℕ) (segs : List Seg) (k : ℕ) → body_of size segs k ≡ take size (drop (k * size) (cells_of segs))
body_part size segs k = part_of segs (k * size) size

pub tuple_part : (segs : List Seg) (k : ℕ) → tuple_of segs k ≡ take 8 (drop (8 * k) (cells_of segs))
tuple_part segs k = part_of segs (8 * k) 8

-- the cells in which a read lands: none twice, all in the pages
abbrev pub lists_of : Owner → List Seg → List Seg → List ℕ
lists_of OfBlock body tuples = cells_of body
lists_of OfApp body tuples = cells_of body ++ cells_of tuples

module _ (size : ℕ) (body tuples : List Seg) where
  abbrev pub b_part : ℕ → List ℕ
  b_part k = take size (drop (k * size) (cells_of body))

  abbrev pub t_part : ℕ → List ℕ
  t_part k = take 8 (drop (8 * k) (cells_of tuples))

  frame_part : (k : ℕ) → landing size OfApp body tuples k ≡ b_part k ++ t_part k
  frame_part k = let b = body_part size body k in let t = tuple_part tuples k in cc

  pub blocks_apart : (owner : Owner) (k j : ℕ) → Distinct (lists_of owner body tuples) → k < j → share_a_cell (landing size owner body tuples k) (landing size owner body tuples j) ≡ false
  blocks_apart OfBlock k j d l = rw (body_part size body k, body_part size body j) (parts_apart size (k * size) size (j * size) (cells_of body) d (later size k j l))
  blocks_apart OfApp k j d l = rw (frame_part k, frame_part j) (by k j d l) where
    by : (k j : ℕ) → Distinct (cells_of body ++ cells_of tuples) → k < j → share_a_cell (b_part k ++ t_part k) (b_part j ++ t_part j) ≡ false
    by k j d l =
        let apart = distinct_apart (cells_of body) (cells_of tuples) d in
        share_left (b_part k) (t_part k) (b_part j ++ t_part j)
        (share_right (b_part j) (t_part j) (b_part k)
        (parts_apart size (k * size) size (j * size) (cells_of body) (distinct_left (cells_of body) (cells_of tuples) d) (later size k j l))
        (share_within (b_part k) (cells_of body) (t_part j) (cells_of tuples) (part_within size (k * size) (cells_of body)) (part_within 8 (8 * j) (cells_of tuples)) apart))
        (share_right (b_part j) (t_part j) (t_part k)
        (share_within (t_part k) (cells_of tuples) (b_part j) (cells_of body) (part_within 8 (8 * k) (cells_of tuples)) (part_within size (j * size) (cells_of body)) (share_back (cells_of body) (cells_of tuples) apart))
        (parts_apart 8 (8 * k) 8 (8 * j) (cells_of tuples) (distinct_right (cells_of body) (cells_of tuples) d) (omega (arith, l))))

  pub block_distinct : (owner : Owner) (k : ℕ) → Distinct (lists_of owner body tuples) → Distinct (landing size owner body tuples k)
  block_distinct OfBlock k d = rw (body_part size body k) (distinct_part size (k * size) (cells_of body) d)
  block_distinct OfApp k d = rw (frame_part k)
      (distinct_both (b_part k) (t_part k) (distinct_part size (k * size) (cells_of body) (distinct_left (cells_of body) (cells_of tuples) d))
      (distinct_part 8 (8 * k) (cells_of tuples) (distinct_right (cells_of body) (cells_of tuples) d))
      (share_within (b_part k) (cells_of body) (t_part k) (cells_of tuples) (part_within size (k * size) (cells_of body)) (part_within 8 (8 * k) (cells_of tuples)) (distinct_apart (cells_of body) (cells_of tuples) d)))

  pub block_below : (owner : Owner) (n k : ℕ) → AllBelow n (lists_of owner body tuples) → AllBelow n (landing size owner body tuples k)
  block_below OfBlock n k h = rw (body_part size body k) (below_part n size (k * size) (cells_of body) h)
  block_below OfApp n k h = rw (frame_part k)
      (below_append n (b_part k) (t_part k) (below_part n size (k * size) (cells_of body) (below_left n (cells_of body) (cells_of tuples) h)) (below_part n 8 (8 * k) (cells_of tuples) (below_right n (cells_of body) (cells_of tuples) h)))

-- a frame is never too short for where it lands
pub block_fits : (size : ℕ) (owner : Owner) (body tuples : List Seg) (k : ℕ) → length (landing size owner body tuples k) ≤ size + 8
block_fits size OfBlock body tuples k = let l = length-take size (drop (k * size) (cells_of body)) in let e = ap length (body_part size body k) in omega (arith, l, e)
block_fits size OfApp body tuples k =
    let l = length-take size (drop (k * size) (cells_of body)) in
    let r = length-take 8 (drop (8 * k) (cells_of tuples)) in
    let a = length-append (b_part size body tuples k) (t_part size body tuples k) in
    let e = ap length (frame_part size body tuples k) in
    omega (arith, l, r, a, e)
