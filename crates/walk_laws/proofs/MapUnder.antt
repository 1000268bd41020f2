-- The image under a map.
use Rattle.std.proofs.Common.{◌≡◌, ◌≢◌, ◌<◌, ℕ, zero, suc, ◌+◌, false, ◌&&◌, List, [], ◌∷◌, length, get_or, set, Option, Some, None, refl, sym, ap, ◌∙◌, arith}
use Rattle.std.proofs.lemmas.List.{length-set, set-set, set_comm, set-get_or, get_or-set_same, get_or-set_other, length-take-le, take_all}
use Rattle.std.proofs.lemmas.Bool.{and_right}
use Rattle.pi_guard.specs.Guards.{crc}
use Rattle.pi_tuple.specs.Finds.{is_zero}
use Rattle.pi_tuple.specs.Tuples.{ref_tag}
use Rattle.pi_tuple.specs.declared.tuple.Tuple.{Tuple}
use Rattle.pi_tuple.specs.declared.checks.PiType.{PiType}
use Rattle.pi_tuple.specs.declared.checks.PiType.TheVariants.{Zero, One, Two, Three}
use Rattle.pi_tuple.specs.declared.checks.Check.{Check}
use Rattle.block_path.specs.Passed.{data_of, frame_of, stored_size, tuple_of}
use Rattle.block_path.proofs.Cells.{AllBelow, below}
use Rattle.walk_laws.specs.CalmRun.{LiesInImage}
use Rattle.walk_laws.specs.PlainMap.{MapEntry, all_pass, kept_unless, no_entry}
use Rattle.walk_laws.specs.Settings.{Setting}
use Rattle.walk_laws.specs.UnderMap.{IsClean, address_of, held, home, map_from, stored_as, under}
use Rattle.walk_laws.proofs.CalmWays.{IsProper, unmasked}
use Rattle.walk_laws.proofs.TupleFrames.{below_take, frame_is, frame_small}

abbrev pub AllProper : Setting → List MapEntry → Type 0
AllProper m [] = Unit {0}
AllProper m (e ∷ map) = IsProper m e × AllProper m map

pub proper_set : (m : Setting) (map : List MapEntry) (i : ℕ) (e : MapEntry) → IsProper m e → AllProper m map → AllProper m (set map i e)
proper_set m [] i e p h = tt
proper_set m (x ∷ map) zero e p h = (p, h.1)
proper_set m (x ∷ map) (suc i) e p h = (h.0, proper_set m map i e p h.1)

pub proper_at : (m : Setting) (map : List MapEntry) (i : ℕ) → i < length map → AllProper m map → IsProper m (get_or map i no_entry)
proper_at m [] i l h = absurd (omega (arith, l))
proper_at m (x ∷ map) zero l h = h.0
proper_at m (x ∷ map) (suc i) l h = proper_at m map i (omega (arith, l)) h.1

-- what is put for an entry at its block's place
abbrev pub put_at : Setting → ℕ → MapEntry → List (List ℕ) → List (List ℕ)
put_at m v e image = set image (home m v) (stored_as m (address_of m v) e)

abbrev pub put_unless : Setting → Option Check → ℕ → MapEntry → List (List ℕ) → List (List ℕ)
put_unless m None v e image = put_at m v e image
put_unless m (Some check) v e image = image

pub under_length : (m : Setting) (image : List (List ℕ)) (v : ℕ) (map : List MapEntry) → length (under m v map image) ≡ length image
under_length m image v [] = refl
under_length m image v (e ∷ map) = length-set (under m (suc v) map image) (home m v) (stored_as m (address_of m v) e) ∙ under_length m image (suc v) map

module _ (m : Setting) (n : ℕ) (image : List (List ℕ)) (lies : LiesInImage m n image) where
  differ : (u v : ℕ) → u < v → v < n → home m u ≢ home m v
  differ u v l k e = let same = lies.apart u v (omega (arith, l, k)) k e in omega (arith, l, same)

  under_set : (v : ℕ) (map : List MapEntry) (i j : ℕ) (e : MapEntry) → v + length map ≡ n → j ≡ v + i → i < length map → under m v (set map i e) image ≡ put_at m j e (under m v map image)
  under_set v [] i j e s p l = absurd (omega (arith, l))
  under_set v (x ∷ map) zero j e s p l =
      let rest = under m (suc v) map image in
      let same : j ≡ v = omega (arith, p) in
      sym (set-set rest (home m v) (stored_as m (address_of m v) x) (stored_as m (address_of m v) e))
      ∙ ap (λ w. put_at m w e (put_at m v x rest)) (sym same)
  under_set v (x ∷ map) (suc i) j e s p l =
      let rest = under m (suc v) map image in
      ap (put_at m v x) (under_set (suc v) map i j e (omega (arith, s)) (omega (arith, p)) (omega (arith, l)))
      ∙ sym (set_comm rest (home m v) (home m j) (stored_as m (address_of m v) x) (stored_as m (address_of m j) e) (differ v j (omega (arith, p)) (omega (arith, p, s, l))))

  pub under_at : (v : ℕ) (map : List MapEntry) (i j : ℕ) → v + length map ≡ n → j ≡ v + i → i < length map →
      get_or (under m v map image) (home m j) [] ≡ stored_as m (address_of m j) (get_or map i no_entry)
  under_at v [] i j s p l = absurd (omega (arith, l))
  under_at v (x ∷ map) zero j s p l =
      let rest = under m (suc v) map image in
      let same : j ≡ v = omega (arith, p) in
      let size = under_length m image (suc v) map in
      let here = lies.within v (omega (arith, s)) in
      ap (λ w. get_or (put_at m v x rest) (home m w) []) same
      ∙ get_or-set_same rest (home m v) (stored_as m (address_of m v) x) [] (omega (arith, size, here))
      ∙ ap (λ w. stored_as m (address_of m w) x) (sym same)
  under_at v (x ∷ map) (suc i) j s p l =
      let rest = under m (suc v) map image in
      get_or-set_other rest (home m v) (home m j) (stored_as m (address_of m v) x) [] (λ e. differ v j (omega (arith, p)) (omega (arith, p, s, l)) (sym e))
      ∙ under_at (suc v) map i j (omega (arith, s)) (omega (arith, p)) (omega (arith, l))

  pub under_accepted : (map : List MapEntry) (o : Option Check) (v : ℕ) (e : MapEntry) → length map ≡ n → v < n →
      under m 0 (kept_unless o v e map) image ≡ put_unless m o v e (under m 0 map image)
  under_accepted map None v e s l = under_set 0 map v v e (omega (arith, s)) (omega arith) (omega (arith, s, l))
  under_accepted map (Some check) v e s l = refl

  -- The map begins with what the image holds.
  pub map_length : (v k : ℕ) → length (map_from m v k image) ≡ k
  map_length v zero = refl
  map_length v (suc k) = ap suc (map_length (suc v) k)

tuple_parts : (t : Tuple) (g r : ℕ) → t.guard ≡ g → t.rtag ≡ r → (let u : Tuple = record { guard = g; app = t.app; rtag = r } in u) ≡ t
tuple_parts t g r p q = λ i. record { guard = sym p i; app = t.app; rtag = sym q i }

-- a clean block is what is stored for its entry
stored_held : (ty : PiType) (m : Setting) (lba : ℕ) (frame : List ℕ) → let q : Setting = record m { ty = ty } in
    length frame ≡ stored_size ty m.size → AllBelow 256 frame → (is_zero ty ≡ false → IsClean q lba frame) → stored_as q lba (held q frame) ≡ frame
stored_held Zero m lba frame l h own = take_all m.size frame (omega (arith, l))
stored_held One m lba frame l h own =
    let t = tuple_of m.size frame in
    ap (frame_of (data_of m.size frame)) (tuple_parts t (crc (data_of m.size frame)) (ref_tag lba) (own refl).guard ((own refl).rtag refl)) ∙ frame_is m.size frame l h
stored_held Two m lba frame l h own =
    let t = tuple_of m.size frame in
    ap (frame_of (data_of m.size frame)) (tuple_parts t (crc (data_of m.size frame)) (ref_tag lba) (own refl).guard ((own refl).rtag refl)) ∙ frame_is m.size frame l h
stored_held Three m lba frame l h own =
    let t = tuple_of m.size frame in
    ap (frame_of (data_of m.size frame)) (tuple_parts t (crc (data_of m.size frame)) t.rtag (own refl).guard refl) ∙ frame_is m.size frame l h

-- and its entry is proper
proper_held : (ty : PiType) (m : Setting) (lba : ℕ) (frame : List ℕ) → let q : Setting = record m { ty = ty } in
    length frame ≡ stored_size ty m.size → AllBelow 256 frame → (is_zero ty ≡ false → IsClean q lba frame) → (all_pass q ≡ false → m.mode.mask ≡ 0) → IsProper q (held q frame)
proper_held Zero m lba frame l h own free = record {
  size = length-take-le m.size frame (omega (arith, l));
  bytes = below_take 256 m.size frame h;
  app = omega arith;
  own = omega arith;
  expected = unmasked m 0 (free (and_right m.mode.dix (m.mode.dif && false) (and_right m.mode.dif false refl)));
}
proper_held One m lba frame l h own free = record {
  size = length-take-le m.size frame (omega (arith, l));
  bytes = below_take 256 m.size frame h;
  app = (frame_small m.size frame l h).app;
  own = omega arith;
  expected = (own refl).app;
}
proper_held Two m lba frame l h own free = record {
  size = length-take-le m.size frame (omega (arith, l));
  bytes = below_take 256 m.size frame h;
  app = (frame_small m.size frame l h).app;
  own = omega arith;
  expected = (own refl).app;
}
proper_held Three m lba frame l h own free = record {
  size = length-take-le m.size frame (omega (arith, l));
  bytes = below_take 256 m.size frame h;
  app = (frame_small m.size frame l h).app;
  own = (frame_small m.size frame l h).rtag;
  expected = (own refl).app;
}

module _ (m : Setting) (n : ℕ) (image : List (List ℕ)) (lies : LiesInImage m n image) (clean : (v : ℕ) → v < n → is_zero m.ty ≡ false → IsClean m (address_of m v) (get_or image (home m v) []))
    (free : all_pass m ≡ false → m.mode.mask ≡ 0) where
  pub under_opened : (v k : ℕ) → v + k ≡ n → under m v (map_from m v k image) image ≡ image
  under_opened v zero s = refl
  under_opened v (suc k) s =
      let within : v < n = omega (arith, s) in
      let frame = get_or image (home m v) [] in
      ap (put_at m v (held m frame)) (under_opened (suc v) k (omega (arith, s)))
      ∙ ap (set image (home m v)) (stored_held m.ty m (address_of m v) frame (lies.size v within) (below 256 frame (lies.bytes v within)) (clean v within))
      ∙ set-get_or image (home m v) []

  pub proper_opened : (v k : ℕ) → v + k ≡ n → AllProper m (map_from m v k image)
  proper_opened v zero s = tt
  proper_opened v (suc k) s =
      let within : v < n = omega (arith, s) in
      let frame = get_or image (home m v) [] in (
        proper_held m.ty m (address_of m v) frame (lies.size v within) (below 256 frame (lies.bytes v within)) (clean v within) free,
        proper_opened (suc v) k (omega (arith, s)),
      )
