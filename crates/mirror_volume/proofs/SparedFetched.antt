-- A block of which nothing alters a leg, over a read of a mirror where store calls may fail.
use Rattle.std.proofs.Common.{◌≡◌, ◌<◌, inl, inr, ℕ, ◌+◌, ◌-◌, ◌*◌, Bool, true, false, ◌&&◌, ◌||◌, not, is_none, if◌then◌else◌, List, [], ◌∷◌, ◌++◌, length, get_or, replicate, take, drop, Option, None, refl, sym, ap, subst, ◌∙◌, arith}
use Rattle.std.specs.Prelude.{Result, Ok, Err, is_some}
use Rattle.std.proofs.lemmas.Bool.{false≢true}
use Rattle.std.proofs.lemmas.List.{get_or-drop, get_or-replicate, get_or-take, length-drop, length-map, length-replicate, length-take-le, take_all}
use Rattle.page_pool.specs.declared.segs.Seg.{Seg}
use Rattle.page_pool.specs.Cells.{flat}
use Rattle.bio_core.specs.declared.fate.Why.{Why}
use Rattle.rig_api.specs.Target.{Stored}
use Rattle.volume_table.specs.Tables.{Table}
use Rattle.volume_table.specs.declared.device.DeviceInfo.{DeviceInfo}
use Rattle.dix_adapter.specs.Ways.{blocks_told, shapes_of}
use Rattle.stack_ops.specs.declared.op.Op.TheVariants.{Fetch}
use Rattle.stack_ops.specs.declared.reply.Reply.{Reply}
use Rattle.walk_laws.specs.Past.{Brought, brought_by}
use Rattle.walk_laws.specs.ReadsAs.{listed_in}
use Rattle.walk_laws.specs.Settings.{Block, Setting}
use Rattle.walk_laws.specs.UnderMap.{home}
use Rattle.script_text.specs.declared.script.Script.{Script}
use Rattle.mirror_laws.specs.Mirror.{fresh, marks_of}
use Rattle.mirror_laws.specs.OneGood.{on_leg}
use Rattle.mirror_laws.specs.OnLegs.{landed_by, why_of}
use Rattle.mirror_laws.specs.Repair.{reading}
use Rattle.mirror_laws.specs.declared.marks.Marks.{Marks}
use Rattle.mirror_volume.specs.LegsPassed.{table_of}
use Rattle.mirror_volume.specs.declared.piece.Piece.{Piece}
use Rattle.mirror_volume.specs.Asked.{bytes_after, first_listed, fresh_on0, part_of, rest_wanted, stretches}
use Rattle.mirror_volume.specs.Inner.{first_label, first_virt}
use Rattle.mirror_volume.specs.LegRuns.{AllFallen, LegRun}
use Rattle.mirror_volume.specs.MirrorScript.{IsPiece}
use Rattle.mirror_volume.specs.OnOps.{FetchedBy, Sides, whole_request}
use Rattle.mirror_volume.specs.Spared.{IsUnaltered, LandsRight, fails_on_leg, has_block, named_on, place_on}
use Rattle.mirror_volume.specs.Standing.{IsMirrorOver, half_of, mirror_setting}
use Rattle.mirror_volume.proofs.Fetched.{length-chosen, rest-long}
use Rattle.mirror_volume.proofs.Flat.{AllLong, flat-zeros, long-zeros}
use Rattle.mirror_volume.proofs.Free.{SoundAs}
use Rattle.mirror_volume.proofs.Glued.{Glued, all-ascend, glue}
use Rattle.mirror_volume.proofs.OneLeg.{AllInside, all-inside}
use Rattle.mirror_volume.proofs.Painting.{all-stretches, chosen, painted}
use Rattle.mirror_volume.proofs.Requests.{IsRequest, whole-piece}
use Rattle.mirror_volume.proofs.Readings.{first-long}
use Rattle.mirror_volume.proofs.SparedFetch.{IsRight, chosen-at, first-at, fresh0-at, last-at, listed_of, lands_of, read-right, rest-at, slice-flat}
use Rattle.mirror_volume.proofs.Ground.{fits}
use Rattle.mirror_volume.proofs.SparedGround.{Altered, HasLeg, Stopped, has-later}
use Rattle.mirror_volume.proofs.SparedLegs.{LegFell, leg-fell}
use Rattle.mirror_volume.proofs.SparedNames.{fails-first, fails-last}
use Rattle.mirror_volume.proofs.SparedReads.{Comes, LegCame, PartCame, base, base-comes, leg-came, part-local, slice}
use Rattle.mirror_volume.proofs.SparedWrites.{IsFree, IsShown, delivers-it, listed-at}
use Rattle.mirror_volume.proofs.SparedWrote.{Kept, in-request}

pub fallen-both : (t : Table) (us left : List Stored) (runs later : List LegRun) → AllFallen t us (runs ++ later) left → (next : List Stored) × (AllFallen t us runs next × AllFallen t next later left)
fallen-both t us left [] later h = (us, (refl, h))
fallen-both t us left (r ∷ runs) later h =
    let rest = fallen-both t h.0 left runs later h.1.1 in
    (rest.0, ((h.0, (h.1.0, rest.1.0)), rest.1.1))

-- What isn't a finding is a frame.
from-none : (came : Result (List ℕ) Why) → why_of came ≡ None → (frame : List ℕ) × (came ≡ Ok frame)
from-none (Ok frame) e = (frame, refl)
from-none (Err why) e = absurd cc

module _ (s : Script) (devices : List DeviceInfo) (us : List Stored) (over : IsMirrorOver s devices us) (u : ℕ) (leg : Bool) (p : IsUnaltered s devices us u leg)
    (now : List Stored) (same : shapes_of now ≡ shapes_of us) (old : Sides) (counted : length old.marks ≡ half_of s devices) (e : Brought)
    (at-op : ℕ) (has : HasLeg s devices us u leg at-op e (blocks_told now) (marks_of old.marks u))
    (i v n : ℕ) (body : List Seg) (req : IsRequest s (half_of s devices) v n body)
    (free : has_block v n u ≡ true → IsFree (mirror_setting s devices us) s.block (named_on s devices leg u (Fetch v n body) i))
    (shown : has_block v n u ≡ true → IsShown (mirror_setting s devices us) s.block (Altered s devices us u leg) (Stopped s devices us u leg at-op) (named_on s devices (not leg) u (Fetch v n body) i)) where
  abbrev m : Setting
  m = mirror_setting s devices us

  abbrev half : ℕ
  half = half_of s devices

  abbrev t : Table
  t = table_of s devices

  abbrev size : ℕ
  size = s.block

  abbrev cells : List (List ℕ)
  cells = blocks_told now

  abbrev p0 : Piece
  p0 = whole_request i v n

  abbrev p1 : Piece
  p1 = record (whole_request i v n) { on1 = true }

  fit0 : IsPiece s.block half p0
  fit0 = whole-piece s half i v n body req

  fit1 : IsPiece s.block half p1
  fit1 = record { some = fit0.some; room = fit0.room; inside = fit0.inside }

  abbrev block0 : ℕ → Block
  block0 j = record { op = i; k = j; virt = v + j }

  abbrev block1 : ℕ → Block
  block1 j = record { op = i; k = n + j; virt = half + (v + j) }

  named0 : (a c j : ℕ) → record { op = i; k = first_label (part_of p0 (a, c)) + j; virt = first_virt half (part_of p0 (a, c)) + j } ≡ block0 (a + j)
  named0 a c j =
      let x : (0 + a) + j ≡ a + j = omega arith in
      let y : (v + a) + j ≡ v + (a + j) = omega arith in
      λ z. record { op = i; k = x z; virt = y z }

  named1 : (a c j : ℕ) → record { op = i; k = first_label (part_of p1 (a, c)) + j; virt = first_virt half (part_of p1 (a, c)) + j } ≡ block1 (a + j)
  named1 a c j =
      let x : (n + (0 + a)) + j ≡ n + (a + j) = omega arith in
      let y : (half + (v + a)) + j ≡ half + (v + (a + j)) = omega arith in
      λ z. record { op = i; k = x z; virt = y z }

  abbrev marks : List Marks
  marks = take n (drop v old.marks)

  marks-long : length marks ≡ n
  marks-long = let a = length-drop v old.marks in let w = req.inside in length-take-le n (drop v old.marks) (omega (arith, a, counted, w))

  mark-at : (j : ℕ) → j < n → get_or marks j fresh ≡ marks_of old.marks (v + j)
  mark-at j l = get_or-take n (drop v old.marks) j fresh l ∙ get_or-drop v old.marks j fresh

  wanted0-long : length (fresh_on0 marks) ≡ n
  wanted0-long = length-map marks (λ (k : Marks). k.leg0) ∙ marks-long

  abbrev nones : List (Option Why)
  nones = replicate {A = Option Why} n None

  nones-long : length nones ≡ n
  nones-long = length-replicate {A = Option Why} n None

  abbrev zeros : List (List ℕ)
  zeros = replicate {A = List ℕ} n (replicate {A = ℕ} size 0)

  zeros-long : length zeros ≡ n
  zeros-long = length-replicate n (replicate {A = ℕ} size 0)

  -- ---- one leg, as one thing for each block

  module _ (q : Piece) (fit : IsPiece s.block half q) (block : ℕ → Block) (numbered : q.n ≡ n)
      (named : (a c j : ℕ) → record { op = q.op; k = first_label (part_of q (a, c)) + j; virt = first_virt half (part_of q (a, c)) + j } ≡ block (a + j))
      (wanted : List Bool) (as-many : length wanted ≡ n) (runs : List LegRun) where
    abbrev Bad : ℕ → Type 0
    Bad w = fails_on_leg w runs ≡ true

    abbrev IsBadAt : ℕ → Type 0
    IsBadAt j = Bad (block j).virt

    abbrev ss : List (ℕ × ℕ)
    ss = stretches wanted

    abbrev Fell : List Stored → Type 0
    Fell left = LegFell s t half (fits s devices us over) (shapes_of us) cells q fit block named Bad ss runs left

    abbrev All : Type 0
    All = Glued (PartCame m size block cells IsBadAt) (part-local m size block cells IsBadAt) (Comes m size block cells IsBadAt) (base m size block cells IsBadAt) (base-comes m size block cells IsBadAt) ss runs

    one-thing : (left : List Stored) → Fell left → All
    one-thing left f = glue (PartCame m size block cells IsBadAt) (part-local m size block cells IsBadAt) (Comes m size block cells IsBadAt) (base m size block cells IsBadAt) (base-comes m size block cells IsBadAt) ss runs 0 (all-ascend wanted) f.parts

    came-of : (left : List Stored) (f : Fell left) (g : All) (found : List (Option Why)) (xs : List (List ℕ)) → AllLong size xs → LegCame m size block cells IsBadAt ss runs g.f found xs
    came-of left f g found xs long = leg-came m size block cells IsBadAt ss runs g.f found xs f.fit g.parts long

    -- a block that a request of this leg doesn't name comes as it is stored
    good-comes : (j : ℕ) (came : Result (List ℕ) Why) → Comes m size block cells IsBadAt j came → (fails_on_leg (block j).virt runs ≡ false) → IsFree m size (block j) → SoundAs m (block j).virt e (get_or cells (home m (block j).virt) []) → came ≡ Ok e.body
    good-comes j came c fine free sound =
        let x = free.comes e cells sound in
        let none : why_of came ≡ None = elim c.either [ inl bad ↦ absurd (false≢true (sym fine ∙ bad)) | inr alike ↦ alike ∙ ap why_of x.1.0 ] in
        let y = from-none came none in
        let room = x.1.1.0 in
        let body : take size x.0 ≡ e.body = ap (λ (b : Brought). b.body) x.1.1.1 in
        y.1 ∙ ap Ok (c.lands x.0 y.0 y.1 x.1.0 (omega (arith, room)) ∙ body)

    -- where what is delivered of it is what was written, it comes as that, if at all
    comes-right : (j : ℕ) (came : Result (List ℕ) Why) → Comes m size block cells IsBadAt j came → ((frame : List ℕ) → reading m (block j) cells ≡ Ok frame → (length frame ≡ size + 8) × (brought_by size frame ≡ e))
        → (d : List ℕ) → came ≡ Ok d → (d ≡ e.body) × (take size d ≡ d)
    comes-right j came c only d q =
        let y = from-none (reading m (block j) cells) (c.reads d q) in
        let x = only y.0 y.1 in
        let room = x.0 in
        let body : take size y.0 ≡ e.body = ap (λ (b : Brought). b.body) x.1 in
        let lands = c.lands y.0 d q y.1 (omega (arith, room)) in
        let long : length d ≡ size = ap length lands ∙ length-take-le size y.0 (omega (arith, room)) in
        (lands ∙ body, take_all size d (omega (arith, long)))

  -- ---- both

  module _ (new : Sides) (runs : List LegRun) (reply : Reply) (left : List Stored) (w : FetchedBy s half i v n body old new runs reply) (all : AllFallen t now runs left) (fine : fails_on_leg (place_on s devices leg u) runs ≡ false) where
    both : (next : List Stored) × (AllFallen t now w.runs0 next × AllFallen t next w.runs1 left)
    both = fallen-both t now left w.runs0 w.runs1 (subst (λ (rs : List LegRun). AllFallen t now rs left) w.runs_are all)

    none : fails_on_leg (place_on s devices leg u) (w.runs0 ++ w.runs1) ≡ false
    none = subst (λ (rs : List LegRun). fails_on_leg (place_on s devices leg u) rs ≡ false) w.runs_are fine

    abbrev wanted0 : List Bool
    wanted0 = fresh_on0 marks

    fell0 : Fell p0 fit0 block0 refl named0 wanted0 wanted0-long w.runs0 both.0
    fell0 =
        leg-fell s t half (fits s devices us over) (shapes_of us) cells p0 fit0 block0 named0 (λ w'. fails_on_leg w' w.runs0 ≡ true) (stretches wanted0) w.runs0 now both.0 same refl
        (subst (λ (k : ℕ). AllInside k (stretches wanted0)) wanted0-long (all-inside wanted0)) w.read.on0 both.1.0 (λ x bad. bad)

    all0 : All p0 fit0 block0 refl named0 wanted0 wanted0-long w.runs0
    all0 = one-thing p0 fit0 block0 refl named0 wanted0 wanted0-long w.runs0 both.0 fell0

    came0 : LegCame m size block0 cells (λ j. fails_on_leg (block0 j).virt w.runs0 ≡ true) (stretches wanted0) w.runs0 all0.f nones zeros
    came0 = came-of p0 fit0 block0 refl named0 wanted0 wanted0-long w.runs0 both.0 fell0 all0 nones zeros (long-zeros size n)

    abbrev found0 : List (Option Why)
    found0 = w.read.found0

    found0-is : found0 ≡ chosen (λ j. why_of (all0.f j)) 0 wanted0 nones
    found0-is = w.read.found0_is ∙ came0.found_is ∙ all-stretches (λ j. why_of (all0.f j)) wanted0 nones (nones-long ∙ sym wanted0-long)

    found0-long : length found0 ≡ length marks
    found0-long = ap length found0-is ∙ length-chosen (λ j. why_of (all0.f j)) 0 wanted0 nones (nones-long ∙ sym wanted0-long) ∙ wanted0-long ∙ sym marks-long

    abbrev wanted1 : List Bool
    wanted1 = rest_wanted marks found0

    wanted1-long : length wanted1 ≡ n
    wanted1-long = rest-long marks found0 found0-long ∙ marks-long

    fell1 : Fell p1 fit1 block1 refl named1 wanted1 wanted1-long w.runs1 left
    fell1 =
        leg-fell s t half (fits s devices us over) (shapes_of us) cells p1 fit1 block1 named1 (λ w'. fails_on_leg w' w.runs1 ≡ true) (stretches wanted1) w.runs1 both.0 left fell0.shapes fell0.same
        (subst (λ (k : ℕ). AllInside k (stretches wanted1)) wanted1-long (all-inside wanted1)) w.read.on1 both.1.1 (λ x bad. bad)

    all1 : All p1 fit1 block1 refl named1 wanted1 wanted1-long w.runs1
    all1 = one-thing p1 fit1 block1 refl named1 wanted1 wanted1-long w.runs1 left fell1

    abbrev landed0 : List (List ℕ)
    landed0 = painted (λ j. landed_by size (all0.f j)) (stretches wanted0) zeros

    came1 : LegCame m size block1 cells (λ j. fails_on_leg (block1 j).virt w.runs1 ≡ true) (stretches wanted1) w.runs1 all1.f found0 landed0
    came1 = came-of p1 fit1 block1 refl named1 wanted1 wanted1-long w.runs1 left fell1 all1 found0 landed0 came0.long

    found1-is : w.read.found1 ≡ chosen (λ j. why_of (all1.f j)) 0 wanted1 found0
    found1-is = w.read.found1_is ∙ came1.found_is ∙ all-stretches (λ j. why_of (all1.f j)) wanted1 found0 (found0-long ∙ marks-long ∙ sym wanted1-long)

    found1-long : length w.read.found1 ≡ length marks
    found1-long = ap length found1-is ∙ length-chosen (λ j. why_of (all1.f j)) 0 wanted1 found0 (found0-long ∙ marks-long ∙ sym wanted1-long) ∙ wanted1-long ∙ sym marks-long

    landed0-is : landed0 ≡ chosen (λ j. landed_by size (all0.f j)) 0 wanted0 zeros
    landed0-is = all-stretches (λ j. landed_by size (all0.f j)) wanted0 zeros (zeros-long ∙ sym wanted0-long)

    landed0-long : length landed0 ≡ n
    landed0-long = ap length landed0-is ∙ length-chosen (λ j. landed_by size (all0.f j)) 0 wanted0 zeros (zeros-long ∙ sym wanted0-long) ∙ wanted0-long

    abbrev landed1 : List (List ℕ)
    landed1 = painted (λ j. landed_by size (all1.f j)) (stretches wanted1) landed0

    landed1-is : landed1 ≡ chosen (λ j. landed_by size (all1.f j)) 0 wanted1 landed0
    landed1-is = all-stretches (λ j. landed_by size (all1.f j)) wanted1 landed0 (landed0-long ∙ sym wanted1-long)

    landed1-long : length landed1 ≡ n
    landed1-long = ap length landed1-is ∙ length-chosen (λ j. landed_by size (all1.f j)) 0 wanted1 landed0 (landed0-long ∙ sym wanted1-long) ∙ wanted1-long

    bytes-are : w.bytes ≡ flat landed1
    bytes-are =
        w.read.bytes_are
        ∙ ap (λ z. bytes_after size (stretches wanted1) w.runs1 (bytes_after size (stretches wanted0) w.runs0 z)) (flat-zeros size n (n * size) refl)
        ∙ ap (bytes_after size (stretches wanted1) w.runs1) came0.bytes_are
        ∙ came1.bytes_are

    -- ---- at its place

    module _ (here : has_block v n u ≡ true) where
      abbrev j : ℕ
      j = u - v

      at : v + (u - v) ≡ u
      at = let z = in-request v n u here in let a = z.0 in omega (arith, a)

      under : u - v < n
      under = let z = in-request v n u here in let a = z.0 in let b = z.1 in omega (arith, a, b)

      its : 0 + j ≡ j
      its = omega arith

      abbrev k : Marks
      k = marks_of old.marks u

      its-marks : get_or marks j fresh ≡ k
      its-marks = mark-at j under ∙ ap (marks_of old.marks) at

      abbrev a : Result (List ℕ) Why
      a = all0.f j

      abbrev b : Result (List ℕ) Why
      b = all1.f j

      w0 : get_or wanted0 j false ≡ k.leg0
      w0 = fresh0-at marks j (omega (arith, under, marks-long)) ∙ ap (λ (z : Marks). z.leg0) its-marks

      none-there : get_or nones j None ≡ None
      none-there = get_or-replicate n j None None under

      zeros-there : get_or zeros j [] ≡ replicate {A = ℕ} size 0
      zeros-there = get_or-replicate n j (replicate {A = ℕ} size 0) [] under

      f0 : get_or found0 j None ≡ (if k.leg0 then why_of a else None)
      f0 =
          ap (λ (xs : List (Option Why)). get_or xs j None) found0-is
          ∙ chosen-at (λ j. why_of (all0.f j)) 0 wanted0 nones j None (nones-long ∙ sym wanted0-long) (omega (arith, under, wanted0-long))
          ∙ (λ z. if w0 z then why_of (all0.f (its z)) else none-there z)

      w1 : get_or wanted1 j false ≡ (k.leg1 && (not k.leg0 || is_some (if k.leg0 then why_of a else None)))
      w1 = rest-at marks found0 j found0-long (omega (arith, under, marks-long)) ∙ (λ z. (its-marks z).leg1 && (not (its-marks z).leg0 || is_some (f0 z)))

      abbrev other : Bool
      other = k.leg1 && (not k.leg0 || is_some (if k.leg0 then why_of a else None))

      f1 : get_or w.read.found1 j None ≡ (if other then why_of b else (if k.leg0 then why_of a else None))
      f1 =
          ap (λ (xs : List (Option Why)). get_or xs j None) found1-is
          ∙ chosen-at (λ j. why_of (all1.f j)) 0 wanted1 found0 j None (found0-long ∙ marks-long ∙ sym wanted1-long) (omega (arith, under, wanted1-long))
          ∙ (λ z. if w1 z then why_of (all1.f (its z)) else f0 z)

      first : get_or (first_listed marks found0) j None ≡ (if k.leg0 then (if k.leg0 then why_of a else None) else None)
      first = first-at marks found0 j found0-long (omega (arith, under, marks-long)) ∙ (λ z. if (its-marks z).leg0 then f0 z else None)

      listed : get_or w.listed j None ≡ listed_of k a b
      listed =
          ap (λ (xs : List (Option Why)). get_or xs j None) w.read.listed_is
          ∙ last-at marks wanted1 (first_listed marks found0) w.read.found1 j (rest-long marks found0 found0-long) (first-long marks found0 found0-long) found1-long (omega (arith, under, marks-long))
          ∙ (λ z. if w1 z && (not (its-marks z).leg0 || is_none (f1 z)) then f1 z else first z)

      lands0 : get_or landed0 j [] ≡ (if k.leg0 then landed_by size a else replicate {A = ℕ} size 0)
      lands0 =
          ap (λ (xs : List (List ℕ)). get_or xs j []) landed0-is
          ∙ chosen-at (λ j. landed_by size (all0.f j)) 0 wanted0 zeros j [] (zeros-long ∙ sym wanted0-long) (omega (arith, under, wanted0-long))
          ∙ (λ z. if w0 z then landed_by size (all0.f (its z)) else zeros-there z)

      lands : slice size w.bytes j ≡ lands_of k (landed_by size a) (landed_by size b) (replicate {A = ℕ} size 0) a
      lands =
          ap (λ (xs : List ℕ). slice size xs j) bytes-are
          ∙ slice-flat size landed1 j came1.long (omega (arith, under, landed1-long))
          ∙ ap (λ (xs : List (List ℕ)). get_or xs j []) landed1-is
          ∙ chosen-at (λ j. landed_by size (all1.f j)) 0 wanted1 landed0 j [] (landed0-long ∙ sym wanted1-long) (omega (arith, under, wanted1-long))
          ∙ (λ z. if w1 z then landed_by size (all1.f (its z)) else lands0 z)

      -- ---- what comes of it

      named-first : block0 j ≡ named_on s devices false u (Fetch v n body) i
      named-first = λ z. record { op = i; k = j; virt = at z }

      named-second : block1 j ≡ named_on s devices true u (Fetch v n body) i
      named-second = λ z. record { op = i; k = n + j; virt = half + at z }

      abbrev its-block : Bool → Block
      its-block c = named_on s devices c u (Fetch v n body) i

      -- what a fresh leg delivers of it
      delivers : (c : Bool) → on_leg c k.leg0 k.leg1 ≡ true → (frame : List ℕ) → reading m (its-block c) cells ≡ Ok frame → (length frame ≡ size + 8) × (brought_by size frame ≡ e)
      delivers = delivers-it m size half u leg (Altered s devices us u leg) (Stopped s devices us u leg at-op) e cells k its-block (λ c. refl) (free here) (shown here) has

      only0 : k.leg0 ≡ true → (frame : List ℕ) → reading m (block0 j) cells ≡ Ok frame → (length frame ≡ size + 8) × (brought_by size frame ≡ e)
      only0 f frame q = delivers false f frame (ap (λ (b : Block). reading m b cells) (sym named-first) ∙ q)

      only1 : k.leg1 ≡ true → (frame : List ℕ) → reading m (block1 j) cells ≡ Ok frame → (length frame ≡ size + 8) × (brought_by size frame ≡ e)
      only1 f frame q = delivers true f frame (ap (λ (b : Block). reading m b cells) (sym named-second) ∙ q)

      -- on its leg
      free-on : (c : Bool) → leg ≡ c → IsFree m size (its-block c)
      free-on c g = subst (λ (c : Bool). IsFree m size (its-block c)) g (free here)

      sound-on : (c : Bool) → leg ≡ c → SoundAs m (place_on s devices c u) e (get_or cells (home m (place_on s devices c u)) [])
      sound-on c g = subst (λ (c : Bool). SoundAs m (place_on s devices c u) e (get_or cells (home m (place_on s devices c u)) [])) g has.sound

      free0 : leg ≡ false → IsFree m size (block0 j)
      free0 g = subst (IsFree m size) (sym named-first) (free-on false g)

      free1 : leg ≡ true → IsFree m size (block1 j)
      free1 g = subst (IsFree m size) (sym named-second) (free-on true g)

      sound0 : leg ≡ false → SoundAs m (v + j) e (get_or cells (home m (v + j)) [])
      sound0 g = subst (λ (x : ℕ). SoundAs m x e (get_or cells (home m x) [])) (sym at) (sound-on false g)

      sound1 : leg ≡ true → SoundAs m (half + (v + j)) e (get_or cells (home m (half + (v + j))) [])
      sound1 g = subst (λ (x : ℕ). SoundAs m (half + x) e (get_or cells (home m (half + x)) [])) (sym at) (sound-on true g)

      right : IsRight k a b (landed_by size a) (landed_by size b) (replicate {A = ℕ} size 0) e.body
      right =
          read-right leg k.leg0 k.leg1 a b (landed_by size a) (landed_by size b) (replicate {A = ℕ} size 0) e.body has.good
          (λ g. good-comes p0 fit0 block0 refl named0 wanted0 wanted0-long w.runs0 j a (all0.fits j)
          (fails-first (v + j) w.runs0 w.runs1 (subst (λ (x : ℕ). fails_on_leg x (w.runs0 ++ w.runs1) ≡ false) (ap (λ (c : Bool). on_leg c u (half + u)) g ∙ sym at) none)) (free0 g) (sound0 g))
          (λ g. good-comes p1 fit1 block1 refl named1 wanted1 wanted1-long w.runs1 j b (all1.fits j)
          (fails-last (half + (v + j)) w.runs0 w.runs1 (subst (λ (x : ℕ). fails_on_leg x (w.runs0 ++ w.runs1) ≡ false) (ap (λ (c : Bool). on_leg c u (half + u)) g ∙ ap (λ x. half + x) (sym at)) none)) (free1 g) (sound1 g))
          (λ f d q. (comes-right p0 fit0 block0 refl named0 wanted0 wanted0-long w.runs0 j a (all0.fits j) (only0 f) d q).0)
          (λ f d q. ap (landed_by size) q ∙ (comes-right p0 fit0 block0 refl named0 wanted0 wanted0-long w.runs0 j a (all0.fits j) (only0 f) d q).1)
          (λ f d q. ap (landed_by size) q ∙ (comes-right p1 fit1 block1 refl named1 wanted1 wanted1-long w.runs1 j b (all1.fits j) (only1 f) d q).1)

      lands-right : LandsRight size (u - v) body old new reply e
      lands-right = record {
        unlisted = ap (λ (r : Reply). listed_in r j) w.reply_is ∙ listed-at w.listed j ∙ listed ∙ right.unlisted;
        bytes = w.bytes;
        pages = w.pages;
        data_is = lands ∙ right.lands;
      }

    pub kept-fetch : Kept s devices us u leg at-op old new left (Fetch v n body) reply e
    kept-fetch = record {
      shapes = fell1.shapes;
      counted = ap length w.marks ∙ counted;
      has =
          subst (λ (k : Marks). HasLeg s devices us u leg (at-op + 1) e (blocks_told left) k) (sym (ap (λ (ms : List Marks). marks_of ms u) w.marks))
          (subst (λ (bs : List (List ℕ)). HasLeg s devices us u leg (at-op + 1) e bs (marks_of old.marks u)) (sym fell1.same)
          (has-later s devices us u leg at-op e (blocks_told now) (marks_of old.marks u) has));
      reads = λ here. lands-right here;
    }
