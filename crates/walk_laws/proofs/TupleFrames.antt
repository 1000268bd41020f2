-- A frame is its data and its tuple; what is found in it, field by field.
use Rattle.std.proofs.Common.{◌≡◌, ◌<◌, ℕ, zero, suc, ◌+◌, ◌-◌, ◌^◌, Bool, true, false, not, ◌&&◌, ◌||◌, eqb, if◌then◌else◌, List, [], ◌∷◌, ◌++◌, length, take, drop, get_or, set, replicate, None, refl, sym, ap, ◌∙◌, arith, lit<}
use Rattle.std.specs.Prelude.{bit_and}
use Rattle.std.specs.Int.{w16, w32, from_be_bytes, to_be_bytes}
use Rattle.std.proofs.lemmas.Bool.{eq-eqb}
use Rattle.std.proofs.lemmas.List.{take-append-drop, take_at, drop_at}
use Rattle.std.proofs.lemmas.Nat.{be_bytes_2, be_bytes_4, mod_below}
use Rattle.pi_guard.specs.Guards.{guard_of}
use Rattle.pi_guard.specs.declared.GuardKind.{GuardKind}
use Rattle.pi_tuple.specs.Finds.{finding, first_of, has_ref_tag, is_escaped, is_zero}
use Rattle.pi_tuple.specs.Tuples.{tuple_bytes, tuple_in}
use Rattle.pi_tuple.specs.declared.tuple.Tuple.{Tuple}
use Rattle.pi_tuple.specs.declared.checks.PiType.{PiType}
use Rattle.pi_tuple.specs.declared.checks.Check.{Check}
use Rattle.pi_tuple.specs.declared.checks.Checks.{Checks}
use Rattle.pi_tuple.proofs.TupleLaws.{read_back as slices}
use Rattle.page_pool.specs.Cells.{gather, scatter}
use Rattle.block_path.specs.Passed.{remapped, remapped_bytes, data_of, frame_of, tuple_of}
use Rattle.block_path.proofs.Passed.{mapped-bytes}
use Rattle.block_path.proofs.Cells.{AllBelow}
use Rattle.small_laws.proofs.Numbers.{two_bytes}
use Rattle.small_laws.proofs.Lists.{behind_long}

-- a tuple is spelled and read back

quad_below : (x y z w : ℕ) → x < 256 → y < 256 → z < 256 → w < 256 → (i : ℕ) → get_or (x ∷ y ∷ z ∷ w ∷ []) i 0 < 256
quad_below x y z w a b c d zero = a
quad_below x y z w a b c d (suc zero) = b
quad_below x y z w a b c d (suc (suc zero)) = c
quad_below x y z w a b c d (suc (suc (suc zero))) = d
quad_below x y z w a b c d (suc (suc (suc (suc i)))) = lit< tt

pub spelled : (b : List ℕ) → length b ≡ 8 → ((i : ℕ) → get_or b i 0 < 256) → tuple_bytes (tuple_in b) ≡ b
spelled [] l h = absurd (omega arith)
spelled (a ∷ []) l h = absurd (omega arith)
spelled (a ∷ b ∷ []) l h = absurd (omega arith)
spelled (a ∷ b ∷ c ∷ []) l h = absurd (omega arith)
spelled (a ∷ b ∷ c ∷ d ∷ []) l h = absurd (omega arith)
spelled (a ∷ b ∷ c ∷ d ∷ e ∷ []) l h = absurd (omega arith)
spelled (a ∷ b ∷ c ∷ d ∷ e ∷ f ∷ []) l h = absurd (omega arith)
spelled (a ∷ b ∷ c ∷ d ∷ e ∷ f ∷ g ∷ []) l h = absurd (omega arith)
spelled (a ∷ b ∷ c ∷ d ∷ e ∷ f ∷ g ∷ k ∷ []) l h =
    let x : to_be_bytes w16 (from_be_bytes w16 (a ∷ b ∷ [])) ≡ a ∷ b ∷ [] = be_bytes_2 (a ∷ b ∷ []) _ refl (two_bytes a b (h 0) (h 1)) refl in
    let y : to_be_bytes w16 (from_be_bytes w16 (c ∷ d ∷ [])) ≡ c ∷ d ∷ [] = be_bytes_2 (c ∷ d ∷ []) _ refl (two_bytes c d (h 2) (h 3)) refl in
    let z : to_be_bytes w32 (from_be_bytes w32 (e ∷ f ∷ g ∷ k ∷ [])) ≡ e ∷ f ∷ g ∷ k ∷ [] = be_bytes_4 (e ∷ f ∷ g ∷ k ∷ []) _ refl (quad_below e f g k (h 4) (h 5) (h 6) (h 7)) refl in
    ap (λ u. u ++ (to_be_bytes w16 (from_be_bytes w16 (c ∷ d ∷ [])) ++ to_be_bytes w32 (from_be_bytes w32 (e ∷ f ∷ g ∷ k ∷ [])))) x
    ∙ ap (λ u. (a ∷ b ∷ []) ++ (u ++ to_be_bytes w32 (from_be_bytes w32 (e ∷ f ∷ g ∷ k ∷ [])))) y
    ∙ ap (λ u. (a ∷ b ∷ []) ++ ((c ∷ d ∷ []) ++ u)) z
spelled (a ∷ b ∷ c ∷ d ∷ e ∷ f ∷ g ∷ k ∷ m ∷ more) l h = absurd (omega arith)

-- the fields have their widths
pub record Small (t : Tuple) : Type 0 where
  pub guard : t.guard < 2 ^ 16
  pub app : t.app < 2 ^ 16
  pub rtag : t.rtag < 2 ^ 32

pub read_back : (t : Tuple) → Small t → tuple_in (tuple_bytes t) ≡ t
read_back t h = slices t.guard t.app t.rtag h.guard h.app h.rtag

module _ (size : ℕ) (body : List ℕ) (t : Tuple) (l : length body ≡ size) where
  pub data_is : data_of size (frame_of body t) ≡ body
  data_is = take_at body (tuple_bytes t) size l

  pub behind_is : drop size (frame_of body t) ≡ tuple_bytes t
  behind_is = drop_at body (tuple_bytes t) size l

  pub tuple_is : Small t → tuple_of size (frame_of body t) ≡ t
  tuple_is h = ap tuple_in behind_is ∙ read_back t h

  -- a check of a frame is a check of its data and tuple
  pub finds_in_frame : Small t → (kind : GuardKind) (ty : PiType) (what : Checks) (want : ℕ) →
      finding ty what want (guard_of kind (data_of size (frame_of body t))) (tuple_of size (frame_of body t)) ≡ finding ty what want (guard_of kind body) t
  finds_in_frame h kind ty what want =
      ap (λ d. finding ty what want (guard_of kind d) (tuple_of size (frame_of body t))) data_is
      ∙ ap (λ u. finding ty what want (guard_of kind body) u) (tuple_is h)

  -- mapping the tag of a frame maps that of its tuple
  pub mapped_is : Small t → (ty : PiType) (from to : ℕ) → data_of size (frame_of body t) ++ remapped_bytes ty from to (drop size (frame_of body t)) ≡ frame_of body (remapped ty from to t)
  mapped_is h ty from to =
      let spelt : tuple_bytes (tuple_in (tuple_bytes t)) ≡ tuple_bytes t = ap tuple_bytes (read_back t h) in
      ap (λ d. d ++ remapped_bytes ty from to (drop size (frame_of body t))) data_is
      ∙ ap (λ xs. body ++ remapped_bytes ty from to xs) behind_is
      ∙ ap (λ xs. body ++ xs) (sym (mapped-bytes ty from to (tuple_bytes t) refl spelt))
      ∙ ap (λ u. body ++ tuple_bytes (remapped ty from to u)) (read_back t h)

-- Nothing is found where each field that is asked for is the wanted one.
none_of : (skip g a r : Bool) → g ≡ false → a ≡ false → r ≡ false → (c d e : Check) →
    (if skip then None else first_of (record { check = c; differs = g } ∷ record { check = d; differs = a } ∷ record { check = e; differs = r } ∷ [])) ≡ None
none_of true g a r p q u c d e = refl
none_of false g a r p q u c d e = rw (p, q, u) refl

if_asked : (c : Bool) (i j : ℕ) → (c ≡ true → i ≡ j) → (c && not (eqb i j)) ≡ false
if_asked false i j h = refl
if_asked true i j h = let e : eqb i j ≡ true = eq-eqb i j (h refl) in rw e refl

both_asked : (c d : Bool) (i j : ℕ) → (c ≡ true → d ≡ true → i ≡ j) → (c && (d && not (eqb i j))) ≡ false
both_asked false d i j h = refl
both_asked true d i j h = if_asked d i j (h refl)

pub finds_none : (ty : PiType) (what : Checks) (want guard : ℕ) (t : Tuple) →
    (what.guard ≡ true → t.guard ≡ guard) → bit_and t.app what.mask ≡ bit_and what.app what.mask → (what.rtag ≡ true → has_ref_tag ty ≡ true → t.rtag ≡ want) → finding ty what want guard t ≡ None
finds_none ty what want guard t g a r =
    none_of (is_zero ty || is_escaped ty t) _ _ _
    (if_asked what.guard t.guard guard g)
    (let e : eqb (bit_and t.app what.mask) (bit_and what.app what.mask) ≡ true = eq-eqb _ _ a in ap not e)
    (both_asked what.rtag (has_ref_tag ty) t.rtag want r) _ _ _

-- bytes

pub below_at : (n : ℕ) (xs : List ℕ) (i d : ℕ) → d < n → AllBelow n xs → get_or xs i d < n
below_at n [] i d l h = l
below_at n (x ∷ xs) zero d l h = h.0
below_at n (x ∷ xs) (suc i) d l h = below_at n xs i d l h.1

below_set : (n : ℕ) (xs : List ℕ) (i v : ℕ) → v < n → AllBelow n xs → AllBelow n (set xs i v)
below_set n [] i v l h = tt
below_set n (x ∷ xs) zero v l h = (l, h.1)
below_set n (x ∷ xs) (suc i) v l h = (h.0, below_set n xs i v l h.1)

pub below_scatter : (n : ℕ) (at values cells : List ℕ) → AllBelow n values → AllBelow n cells → AllBelow n (scatter at values cells)
below_scatter n [] values cells h k = k
below_scatter n (i ∷ at) [] cells h k = k
below_scatter n (i ∷ at) (v ∷ values) cells h k = below_scatter n at values (set cells i v) h.1 (below_set n cells i v h.0 k)

pub below_gather : (n : ℕ) (at cells : List ℕ) → 0 < n → AllBelow n cells → AllBelow n (gather 0 at cells)
below_gather n [] cells l h = tt
below_gather n (i ∷ at) cells l h = (below_at n cells i 0 l h, below_gather n at cells l h)

pub below_append : (n : ℕ) (xs ys : List ℕ) → AllBelow n xs → AllBelow n ys → AllBelow n (xs ++ ys)
below_append n [] ys h k = k
below_append n (x ∷ xs) ys h k = (h.0, below_append n xs ys h.1 k)

pub below_take : (n i : ℕ) (xs : List ℕ) → AllBelow n xs → AllBelow n (take i xs)
below_take n zero xs h = tt
below_take n (suc i) [] h = tt
below_take n (suc i) (x ∷ xs) h = (h.0, below_take n i xs h.1)

pub below_drop : (n i : ℕ) (xs : List ℕ) → AllBelow n xs → AllBelow n (drop i xs)
below_drop n zero xs h = h
below_drop n (suc i) [] h = tt
below_drop n (suc i) (x ∷ xs) h = below_drop n i xs h.1

pub below_replicate : (n k v : ℕ) → v < n → AllBelow n (replicate k v)
below_replicate n zero v l = tt
below_replicate n (suc k) v l = (l, below_replicate n k v l)

pub two_below : (n : ℕ) → AllBelow 256 (to_be_bytes w16 n)
two_below n = (mod_below _ 256 (omega arith), (mod_below _ 256 (omega arith), tt))

pub four_below : (n : ℕ) → AllBelow 256 (to_be_bytes w32 n)
four_below n = (mod_below _ 256 (omega arith), (mod_below _ 256 (omega arith), (mod_below _ 256 (omega arith), (mod_below _ 256 (omega arith), tt))))

pub tuple_below : (t : Tuple) → AllBelow 256 (tuple_bytes t)
tuple_below t = below_append 256 (to_be_bytes w16 t.guard) (to_be_bytes w16 t.app ++ to_be_bytes w32 t.rtag) (two_below t.guard) (below_append 256 (to_be_bytes w16 t.app) (to_be_bytes w32 t.rtag) (two_below t.app) (four_below t.rtag))

eight_small : (b : List ℕ) → length b ≡ 8 → AllBelow 256 b → Small (tuple_in b)
eight_small [] l h = absurd (omega (arith, l))
eight_small (a ∷ []) l h = absurd (omega (arith, l))
eight_small (a ∷ b ∷ []) l h = absurd (omega (arith, l))
eight_small (a ∷ b ∷ c ∷ []) l h = absurd (omega (arith, l))
eight_small (a ∷ b ∷ c ∷ d ∷ []) l h = absurd (omega (arith, l))
eight_small (a ∷ b ∷ c ∷ d ∷ e ∷ []) l h = absurd (omega (arith, l))
eight_small (a ∷ b ∷ c ∷ d ∷ e ∷ f ∷ []) l h = absurd (omega (arith, l))
eight_small (a ∷ b ∷ c ∷ d ∷ e ∷ f ∷ g ∷ []) l h = absurd (omega (arith, l))
eight_small (a ∷ b ∷ c ∷ d ∷ e ∷ f ∷ g ∷ k ∷ []) l h =
    let p = h.0 in let q = h.1.0 in let r = h.1.1.0 in let s = h.1.1.1.0 in let t = h.1.1.1.1.0 in let u = h.1.1.1.1.1.0 in let v = h.1.1.1.1.1.1.0 in let w = h.1.1.1.1.1.1.1.0 in
    record { guard = omega (arith, p, q); app = omega (arith, r, s); rtag = omega (arith, t, u, v, w) }
eight_small (a ∷ b ∷ c ∷ d ∷ e ∷ f ∷ g ∷ k ∷ m ∷ more) l h = absurd (omega (arith, l))

module _ (size : ℕ) (frame : List ℕ) (l : length frame ≡ size + 8) (h : AllBelow 256 frame) where
  pub frame_small : Small (tuple_of size frame)
  frame_small = eight_small (drop size frame) (behind_long size 8 frame l) (below_drop 256 size frame h)

  -- a frame of bytes is its data under its tuple
  pub frame_is : frame_of (data_of size frame) (tuple_of size frame) ≡ frame
  frame_is =
      ap (λ xs. take size frame ++ xs) (spelled (drop size frame) (behind_long size 8 frame l) (λ i. below_at 256 (drop size frame) i 0 (omega arith) (below_drop 256 size frame h)))
      ∙ take-append-drop size frame
