-- A block of which the first part alone is stored over an older one: its tag is that of the place, and its guard shows whether its data are whole.
use Rattle.std.proofs.Common.{◌≡◌, ◌<◌, ℕ, zero, suc, ◌+◌, ◌^◌, Bool, true, false, ◌||◌, eqb, if◌then◌else◌, List, [], ◌∷◌, ◌++◌, take, drop, length, refl, sym, ap, ◌∙◌, arith}
use Rattle.std.specs.Int.{w16, w32, to_be_bytes}
use Rattle.std.proofs.lemmas.Bool.{eq-eqb, eqb-true, false≢true}
use Rattle.std.proofs.lemmas.List.{append_assoc, drop-append-le, length-append, length-drop, length-take-le, take-append-drop, take_all}
use Rattle.std.proofs.lemmas.Nat.{from_be_bytes-to_be_bytes_4}
use Rattle.pi_guard.specs.Guards.{crc}
use Rattle.pi_tuple.specs.Finds.{is_escaped, is_zero}
use Rattle.pi_tuple.specs.Tuples.{ref_tag, tuple_bytes, tuple_in}
use Rattle.pi_tuple.specs.declared.tuple.Tuple.{Tuple}
use Rattle.pi_tuple.specs.declared.checks.PiType.{PiType}
use Rattle.pi_tuple.specs.declared.checks.PiType.TheVariants.{Zero, One, Two, Three}
use Rattle.pi_tuple.proofs.TupleLaws.{tag_below}
use Rattle.fault_schedule.specs.Altered.{kept}
use Rattle.fault_schedule.specs.declared.fault.Crossing.TheVariants.{TargetToMedium}
use Rattle.fault_schedule.specs.declared.fault.FaultKind.TheVariants.{Keep}
use Rattle.integrity_payload.specs.declared.payload.Owner.{Owner}
use Rattle.rig_api.specs.Frames.{data_of, frame_of, tuple_of}
use Rattle.block_path.proofs.Cells.{AllBelow}
use Rattle.walk_laws.specs.Settings.{Block, Setting, route}
use Rattle.walk_laws.specs.PlainMap.{MapEntry, tag_of}
use Rattle.walk_laws.specs.UnderMap.{stored_as}
use Rattle.walk_laws.proofs.CalmWays.{IsProper, here, quiet, unmasked}
use Rattle.walk_laws.proofs.TupleFrames.{below_append, below_drop, below_take, frame_is, frame_small, tuple_below}
use Rattle.mode_map.specs.Finders.{IsCleanBlock, held_by_host, is_served}
use Rattle.mode_map.specs.Failures.{Comes, Delivers, at_home, cell_if, expected, fault_of, read_comes, stored_guard, write_comes, write_end}
use Rattle.mode_map.specs.OtherFailures.{fits_guard, torn_block, written}
use Rattle.mode_map.specs.declared.failures.Cell.TheVariants.{Unseen}
use Rattle.mode_map.specs.declared.failures.Failure.TheVariants.{Torn}
use Rattle.mode_map.proofs.Escapes.{delivers-escape}
use Rattle.mode_map.proofs.Finding.{goes-out, kept as kept_entry, kept-proper, proper, served-some}
use Rattle.mode_map.proofs.Kept.{goes, left, line}
use Rattle.mode_map.proofs.Reading.{delivers, other-guard}

-- ---- two frames that end alike

abbrev torn_of : ℕ → List ℕ → List ℕ → List ℕ
torn_of n new old = take n new ++ drop n old

abbrev Mixed : ℕ → List ℕ → List ℕ → List ℕ → Type 0
Mixed n xs ys behind = (zs : List ℕ) × (length zs ≡ length ys) × (torn_of n (xs ++ behind) (ys ++ behind) ≡ zs ++ behind)

mixed : (n : ℕ) (xs ys behind : List ℕ) → length xs ≡ length ys → Mixed n xs ys behind
mixed zero xs ys behind l = (ys, refl, refl)
mixed (suc n) [] [] behind l = ([], refl, take-append-drop (suc n) behind)
mixed (suc n) [] (y ∷ ys) behind l = absurd (omega (arith, l))
mixed (suc n) (x ∷ xs) [] behind l = absurd (omega (arith, l))
mixed (suc n) (x ∷ xs) (y ∷ ys) behind l = let k = mixed n xs ys behind (omega (arith, l)) in (x ∷ k.0, ap suc k.1, ap (λ r. x ∷ r) k.2)

long : (n : ℕ) (xs ys : List ℕ) → length xs ≡ length ys → length (torn_of n xs ys) ≡ length ys
long zero xs ys l = refl
long (suc n) [] [] l = refl
long (suc n) [] (y ∷ ys) l = absurd (omega (arith, l))
long (suc n) (x ∷ xs) [] l = absurd (omega (arith, l))
long (suc n) (x ∷ xs) (y ∷ ys) l = ap suc (long n xs ys (omega (arith, l)))

below-torn : (n : ℕ) (xs ys : List ℕ) → AllBelow 256 xs → AllBelow 256 ys → AllBelow 256 (torn_of n xs ys)
below-torn n xs ys h k = below_append 256 (take n xs) (drop n ys) (below_take 256 n xs h) (below_drop 256 n ys k)

-- the tag of a tuple behind four bytes
tag-behind : (four : List ℕ) (tag : ℕ) → length four ≡ 4 → tag < 2 ^ 32 → (tuple_in (four ++ to_be_bytes w32 tag)).rtag ≡ tag
tag-behind [] tag l s = absurd (omega (arith, l))
tag-behind (a ∷ []) tag l s = absurd (omega (arith, l))
tag-behind (a ∷ b ∷ []) tag l s = absurd (omega (arith, l))
tag-behind (a ∷ b ∷ c ∷ []) tag l s = absurd (omega (arith, l))
tag-behind (a ∷ b ∷ c ∷ d ∷ []) tag l s = from_be_bytes-to_be_bytes_4 tag s
tag-behind (a ∷ b ∷ c ∷ d ∷ e ∷ more) tag l s = absurd (omega (arith, l))

module _ (size : ℕ) (tag : ℕ) (small : tag < 2 ^ 32) where
  apart : (body : List ℕ) (g a : ℕ) → frame_of body (record { guard = g; app = a; rtag = tag }) ≡ (body ++ (to_be_bytes w16 g ++ to_be_bytes w16 a)) ++ to_be_bytes w32 tag
  apart body g a = sym (append_assoc body (to_be_bytes w16 g ++ to_be_bytes w16 a) (to_be_bytes w32 tag))

  long-front : (body : List ℕ) (g a : ℕ) → length body ≡ size → length (body ++ (to_be_bytes w16 g ++ to_be_bytes w16 a)) ≡ size + 4
  long-front body g a l = length-append body (to_be_bytes w16 g ++ to_be_bytes w16 a) ∙ ap (λ n. n + 4) l

  -- torn at any place, two frames of one tag bear it
  pub tag-stays : (n : ℕ) (new old : List ℕ) (g a h c : ℕ) → length new ≡ size → length old ≡ size →
      (tuple_of size (torn_of n (frame_of new (record { guard = g; app = a; rtag = tag })) (frame_of old (record { guard = h; app = c; rtag = tag })))).rtag ≡ tag
  tag-stays n new old g a h c l k =
      let xs = new ++ (to_be_bytes w16 g ++ to_be_bytes w16 a) in
      let ys = old ++ (to_be_bytes w16 h ++ to_be_bytes w16 c) in
      let lx = long-front new g a l in
      let ly = long-front old h c k in
      let z = mixed n xs ys (to_be_bytes w32 tag) (lx ∙ sym ly) in
      let lz : length z.0 ≡ size + 4 = z.1 ∙ ly in
      ap (λ f. (tuple_of size (torn_of n f (frame_of old (record { guard = h; app = c; rtag = tag })))).rtag) (apart new g a)
      ∙ ap (λ f. (tuple_of size (torn_of n (xs ++ to_be_bytes w32 tag) f)).rtag) (apart old h c)
      ∙ ap (λ f. (tuple_of size f).rtag) z.2
      ∙ ap (λ (f : List ℕ). (tuple_in f).rtag) (drop-append-le size z.0 (to_be_bytes w32 tag) (omega (arith, lz)))
      ∙ tag-behind (drop size z.0) tag (length-drop size z.0 ∙ omega (arith, lz)) small

-- ---- a read of a torn block

long-frame : (size : ℕ) (body : List ℕ) (t : Tuple) → length body ≡ size → length (frame_of body t) ≡ size + 8
long-frame size body t l = length-append body (tuple_bytes t) ∙ ap (λ n. n + 8) l

module _ (m : Setting) (b : Block) (protect : 0 < m.mode.protect) (mask : m.mode.mask ≡ 0) (owner : Owner) where
  abbrev set : Bool → Bool → PiType → Setting
  set dix dif ty = quiet m dix dif ty

  -- what a read of it comes to
  abbrev Told : Bool → Bool → PiType → List ℕ → Type 0
  Told dix dif ty f = read_comes (set dix dif ty) b owner [] f ≡ expected (cell_if Torn (set dix dif ty).mode ty (fits_guard (set dix dif ty) f)) (data_of m.size f)

  module _ (dix dif : Bool) (ty : PiType) (f : List ℕ) (l : length f ≡ m.size + 8) (below : AllBelow 256 f) (z : is_zero ty ≡ false)
      (same : (e : MapEntry) → stored_as (set dix dif ty) (here m b protect) e ≡ frame_of e.body (record { guard = crc e.body; app = e.app; rtag = tag_of ty (here m b protect) e.own }))
      (tag : (tuple_of m.size f).rtag ≡ tag_of ty (here m b protect) (tuple_of m.size f).rtag) where
    long-body : length (data_of m.size f) ≡ m.size
    long-body = length-take-le m.size f (omega (arith, l))

    whole : eqb (tuple_of m.size f).guard (crc (data_of m.size f)) ≡ true → f ≡ stored_as (set dix dif ty) (here m b protect) (record { body = data_of m.size f; app = (tuple_of m.size f).app; own = (tuple_of m.size f).rtag })
    whole fits =
        sym (frame_is m.size f l below)
        ∙ ap (λ g. frame_of (data_of m.size f) (record { guard = g; app = (tuple_of m.size f).app; rtag = (tuple_of m.size f).rtag })) (eqb-true _ _ fits)
        ∙ ap (λ r. frame_of (data_of m.size f) (record { guard = crc (data_of m.size f); app = (tuple_of m.size f).app; rtag = r })) tag
        ∙ sym (same (record { body = data_of m.size f; app = (tuple_of m.size f).app; own = (tuple_of m.size f).rtag }))

    proper-left : IsProper m (record { body = data_of m.size f; app = (tuple_of m.size f).app; own = (tuple_of m.size f).rtag })
    proper-left =
        let s = frame_small m.size f l below in
        record { size = long-body; bytes = below_take 256 m.size f below; app = s.app; own = s.rtag; expected = unmasked m (tuple_of m.size f).app mask }

    differs : eqb (tuple_of m.size f).guard (crc (data_of m.size f)) ≡ false → (tuple_of m.size f).guard ≡ crc (data_of m.size f) → ⊥
    differs other is = let y = eq-eqb (tuple_of m.size f).guard (crc (data_of m.size f)) is in false≢true (sym other ∙ y)

    pub tupled : Told dix dif ty f
    tupled = by (is_escaped ty (tuple_of m.size f)) (eqb (tuple_of m.size f).guard (crc (data_of m.size f))) refl refl
      where
        by : (escaped fits : Bool) → is_escaped ty (tuple_of m.size f) ≡ escaped → eqb (tuple_of m.size f).guard (crc (data_of m.size f)) ≡ fits →
            read_comes (set dix dif ty) b owner [] f ≡ expected (if escaped || fits then Unseen else stored_guard (set dix dif ty).mode ty) (data_of m.size f)
        by true fits escape is =
            ap (read_comes (set dix dif ty) b owner []) (sym (frame_is m.size f l below))
            ∙ delivers-escape m b protect mask owner (data_of m.size f) long-body (tuple_of m.size f) (frame_small m.size f l below) dix dif ty (below_take 256 m.size f below) escape
        by false true free is =
            let left : MapEntry = record { body = data_of m.size f; app = (tuple_of m.size f).app; own = (tuple_of m.size f).rtag } in
            ap (read_comes (set dix dif ty) b owner []) (whole is) ∙ delivers m b protect mask owner dix dif ty left proper-left
        by false false free other =
            ap (read_comes (set dix dif ty) b owner []) (sym (frame_is m.size f l below))
            ∙ other-guard m b protect mask owner (data_of m.size f) (tuple_of m.size f) long-body (frame_small m.size f l below) (differs other) dix dif ty z free

  alone : (f : List ℕ) (c : Bool) → length f ≡ m.size → Delivers f ≡ expected (if c then Unseen else Unseen) (data_of m.size f)
  alone f true l = ap Delivers (sym (take_all m.size f (omega (arith, l))))
  alone f false l = ap Delivers (sym (take_all m.size f (omega (arith, l))))

  module _ (n : ℕ) (new old : MapEntry) (p : IsProper m new) (q : IsProper m old) where
    -- the two blocks under the tuples of a type, torn
    abbrev torn_frames : (ty : PiType) → List ℕ
    torn_frames ty =
        torn_of n (frame_of new.body (record { guard = crc new.body; app = new.app; rtag = tag_of ty (here m b protect) new.own }))
        (frame_of old.body (record { guard = crc old.body; app = old.app; rtag = tag_of ty (here m b protect) old.own }))

    long-torn : (ty : PiType) → length (torn_frames ty) ≡ m.size + 8
    long-torn ty =
        let x = long-frame m.size new.body (record { guard = crc new.body; app = new.app; rtag = tag_of ty (here m b protect) new.own }) p.size in
        let y = long-frame m.size old.body (record { guard = crc old.body; app = old.app; rtag = tag_of ty (here m b protect) old.own }) q.size in
        long n _ _ (x ∙ sym y) ∙ y

    bytes-torn : (ty : PiType) → AllBelow 256 (torn_frames ty)
    bytes-torn ty = below-torn n _ _ (below_append 256 new.body _ p.bytes (tuple_below _)) (below_append 256 old.body _ q.bytes (tuple_below _))

    bare-torn : IsProper m (record { body = torn_of n new.body old.body; app = 0; own = 0 })
    bare-torn = record { size = long n new.body old.body (p.size ∙ sym q.size) ∙ q.size; bytes = below-torn n new.body old.body p.bytes q.bytes; app = omega arith; own = omega arith; expected = unmasked m 0 mask }

    tag-torn : (tuple_of m.size (torn_frames One)).rtag ≡ ref_tag (here m b protect)
    tag-torn = tag-stays m.size (ref_tag (here m b protect)) (tag_below (here m b protect)) n new.body old.body (crc new.body) new.app (crc old.body) old.app p.size q.size

    pub read-torn : (dix dif : Bool) (ty : PiType) → Told dix dif ty (torn_of n (stored_as (set dix dif ty) (here m b protect) new) (stored_as (set dix dif ty) (here m b protect) old))
    read-torn dix false Zero = let f = torn_of n new.body old.body in delivers m b protect mask owner dix false Zero (record { body = f; app = 0; own = 0 }) bare-torn ∙ alone f _ bare-torn.size
    read-torn dix true Zero = let f = torn_of n new.body old.body in delivers m b protect mask owner dix true Zero (record { body = f; app = 0; own = 0 }) bare-torn ∙ alone f _ bare-torn.size
    read-torn dix dif One = tupled dix dif One (torn_frames One) (long-torn One) (bytes-torn One) refl (λ e. refl) tag-torn
    read-torn dix dif Two = tupled dix dif Two (torn_frames Two) (long-torn Two) (bytes-torn Two) refl (λ e. refl) tag-torn
    read-torn dix dif Three = tupled dix dif Three (torn_frames Three) (long-torn Three) (bytes-torn Three) refl (λ e. refl) refl

-- ---- the law

pub torn : (m : Setting) (b : Block) (owner : Owner) (n : ℕ) (old e : MapEntry) → is_served m.mode.protect ≡ true → IsCleanBlock m old → IsCleanBlock m e →
    write_comes m b (fault_of b TargetToMedium (Keep n)) e (λ stored. read_comes m b owner [] (kept (fault_of b TargetToMedium (Keep n)) (route m b).label (at_home m b old) stored))
    ≡ expected (cell_if Torn m.mode m.ty (fits_guard m (torn_block m b n old e))) (data_of m.size (torn_block m b n old e))
torn m b owner n old e served c d =
    let s = served-some m.mode.protect served in
    let next : List ℕ → Comes = λ stored. read_comes m b owner [] (kept (line b n) (route m b).label (at_home m b old) stored) in
    ap (λ w. write_end w next) (goes b n m (held_by_host m b e) ∙ goes-out m b s d.mask m.mode.dix m.mode.dif m.ty e (proper m e d) d.unescaped)
    ∙ ap (read_comes m b owner []) (left b n (at_home m b old) (written m b e))
    ∙ read-torn m b s d.mask owner n (kept_entry m b s d.mask m.mode.dix m.mode.dif m.ty e) old (kept-proper m b s d.mask m.mode.dix m.mode.dif m.ty e (proper m e d)) (proper m old c) m.mode.dix m.mode.dif m.ty
