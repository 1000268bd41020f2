-- The repair of a mirror where store calls may fail: a leg's block that no request names is left as it is.
use Rattle.std.proofs.Common.{◌≡◌, ◌<◌, ◌≤◌, inl, inr, ℕ, zero, suc, ◌+◌, ◌-◌, ◌*◌, Bool, true, false, ◌&&◌, ◌||◌, eqb, if◌then◌else◌, List, [], ◌∷◌, ◌++◌, length, min, get_or, replicate, take, drop, Option, None, refl, sym, ap, subst, ◌∙◌, arith}
use Rattle.std.specs.Prelude.{Ok, ℤ, is_some, nat_abs, not, pos, unwrap_or}
use Rattle.std.specs.List.{list_any}
use Rattle.std.proofs.lemmas.Bool.{and_from, and_parts, eqb-true, false≢true, or_from, or_parts}
use Rattle.std.proofs.lemmas.List.{get_or-drop, get_or-map, get_or-replicate, get_or-take, length-drop, length-map, length-replicate, length-take-le}
use Rattle.pi_guard.specs.Guards.{crc}
use Rattle.pi_tuple.proofs.TupleLaws.{same_fields}
use Rattle.fault_schedule.specs.Altered.{fails_by, fails_of, is_fail, is_line_of, is_same, keep_of, keep_or, kept_bytes, moved_by, shift_of}
use Rattle.fault_schedule.specs.declared.fault.Crossing.{Crossing}
use Rattle.fault_schedule.specs.declared.fault.Crossing.TheVariants.{TargetToMedium}
use Rattle.fault_schedule.specs.declared.fault.FaultLine.{FaultLine}
use Rattle.fault_schedule.specs.declared.Label.{Label}
use Rattle.bio_core.specs.declared.fate.Why.{Why}
use Rattle.rig_api.specs.Target.{Stored}
use Rattle.volume_table.specs.Tables.{Table}
use Rattle.volume_table.specs.declared.device.DeviceInfo.{DeviceInfo}
use Rattle.dix_adapter.specs.Ways.{blocks_told, shapes_of}
use Rattle.walk_laws.specs.FirstLayer.{has_shift, is_all, is_flip, is_served, is_stored_whole}
use Rattle.walk_laws.specs.Past.{Brought}
use Rattle.walk_laws.specs.Settings.{Block, Setting}
use Rattle.walk_laws.specs.UnderMap.{home}
use Rattle.script_text.specs.declared.script.Script.{Script}
use Rattle.script_stack.specs.Followed.{HasFallen}
use Rattle.mirror_laws.specs.Mirror.{fresh, marks_of}
use Rattle.mirror_laws.specs.OneGood.{IsUnnamed, on_leg}
use Rattle.mirror_laws.specs.Repair.{reading}
use Rattle.mirror_laws.specs.Stretches.{Fine, Lost, Need, On0, On1, marks_mended}
use Rattle.mirror_laws.specs.declared.marks.Marks.{Marks}
use Rattle.mirror_volume.specs.LegsPassed.{table_of}
use Rattle.mirror_volume.specs.declared.piece.Piece.{Piece}
use Rattle.mirror_volume.specs.Asked.{AreOf, bytes_after, found_after, fresh_on0, part_of, pasted, stretches}
use Rattle.mirror_volume.specs.Inner.{first_label, first_virt, read_pi_script, write_script}
use Rattle.mirror_volume.specs.LegRuns.{AllFallen, LegRun, found_by, pool_of, replies_of}
use Rattle.mirror_volume.specs.Mending.{AreMends, Mended, RepairBy, StretchBy, delivered, fresh_on1, looked, needs_by, tuples_after, whole_stretch, whys_by}
use Rattle.mirror_volume.specs.MirrorScript.{IsPiece}
use Rattle.mirror_volume.specs.Spared.{HoldsOn, IsUnaltered, fails_on_leg, names_medium, place_on}
use Rattle.mirror_volume.specs.Standing.{IsMirrorOver, half_of, mirror_setting}
use Rattle.mirror_volume.proofs.FellElse.{fell-elsewhere}
use Rattle.mirror_volume.proofs.FellLook.{FellLook, fell-look}
use Rattle.mirror_volume.proofs.Free.{SoundAs}
use Rattle.mirror_volume.proofs.Looked.{IsLooked, looked-part}
use Rattle.mirror_volume.proofs.OneLeg.{AllInside, all-inside}
use Rattle.mirror_volume.proofs.Quiet.{NoneOfZero, none-of-zero}
use Rattle.mirror_volume.proofs.Repairs.{marks-long}
use Rattle.mirror_volume.proofs.SparedFetched.{fallen-both}
use Rattle.mirror_volume.proofs.Ground.{fits, small}
use Rattle.mirror_volume.proofs.SparedGround.{free, homes-apart, leg-inside, same-setting}
use Rattle.mirror_volume.proofs.Helds.{goods-long}
use Rattle.mirror_volume.proofs.SparedLists.{SparesLeg, bit_on, bits-spared, delivered-at, delivered-few, goods-at, needs-few, needs-first, needs-second, part-long, part-none}
use Rattle.mirror_volume.proofs.SparedNames.{fails-first, fails-last, lists-it, names-one}

-- no line flips a block of no op
none-flips : (faults : List FaultLine) (at : Crossing) (label : Label) → label.op ≡ 0 → NoneOfZero faults → list_any (λ (line : FaultLine). is_line_of line at label && is_flip line.kind) faults ≡ false
none-flips [] at label e h = refl
none-flips (f ∷ faults) at label e h = by (is_line_of f at label) refl (none-flips faults at label e h.1) where
  by : (c : Bool) → is_line_of f at label ≡ c → list_any (λ (line : FaultLine). is_line_of line at label && is_flip line.kind) faults ≡ false
      → ((c && is_flip f.kind) || list_any (λ (line : FaultLine). is_line_of line at label && is_flip line.kind) faults) ≡ false
  by true k rest =
      absurd (h.0 (eqb-true f.op label.op (and_parts (eqb f.op label.op) (eqb f.k label.k) (and_parts (is_same f.at at) (eqb f.op label.op && eqb f.k label.k) k).1).0 ∙ e))
  by false k rest = rest

-- nor keeps a part of it from the medium
none-keeps : (faults : List FaultLine) (label : Label) → label.op ≡ 0 → NoneOfZero faults → keep_of faults label ≡ None
none-keeps [] label e h = refl
none-keeps (f ∷ faults) label e h = by (is_line_of f TargetToMedium label) refl (none-keeps faults label e h.1) where
  by : (c : Bool) → is_line_of f TargetToMedium label ≡ c → keep_of faults label ≡ None → keep_or (if c then kept_bytes f.kind else None) (keep_of faults label) ≡ None
  by true k rest =
      absurd (h.0 (eqb-true f.op label.op (and_parts (eqb f.op label.op) (eqb f.k label.k) (and_parts (is_same f.at TargetToMedium) (eqb f.op label.op && eqb f.k label.k) k).1).0 ∙ e))
  by false k rest = rest

-- nor moves it
none-moves : (faults : List FaultLine) (at : Crossing) (op : ℕ) → op ≡ 0 → NoneOfZero faults → shift_of faults at op ≡ pos 0
none-moves [] at op e h = refl
none-moves (f ∷ faults) at op e h = by (is_same f.at at && eqb f.op op) refl (none-moves faults at op e h.1) where
  by : (c : Bool) → (is_same f.at at && eqb f.op op) ≡ c → shift_of faults at op ≡ pos 0 → unwrap_or (if c then moved_by f.kind else None) (shift_of faults at op) ≡ pos 0
  by true k rest = absurd (h.0 (eqb-true f.op op (and_parts (is_same f.at at) (eqb f.op op) k).1 ∙ e))
  by false k rest = rest

none-fails : (faults : List FaultLine) (label : Label) → label.op ≡ 0 → NoneOfZero faults → fails_of faults label ≡ false
none-fails [] label e h = refl
none-fails (f ∷ faults) label e h = or_from (fails_by f label) (fails_of faults label) (one (is_fail f.kind) (eqb f.op label.op) refl) (none-fails faults label e h.1) where
  one : (c d : Bool) → eqb f.op label.op ≡ d → (c && (d && eqb f.k label.k)) ≡ false
  one true true k = absurd (h.0 (eqb-true f.op label.op k ∙ e))
  one true false k = refl
  one false d k = refl

-- a request that isn't named, and those behind it
fails-parts : (v : ℕ) (r : LegRun) (runs : List LegRun) → fails_on_leg v (r ∷ runs) ≡ false → (names_medium v r.own.ops (replies_of r) ≡ false) × (fails_on_leg v runs ≡ false)
fails-parts v r runs h = or_parts (names_medium v r.own.ops (replies_of r)) (fails_on_leg v runs) h

module _ (s : Script) (devices : List DeviceInfo) (us : List Stored) (over : IsMirrorOver s devices us) (u : ℕ) (leg : Bool) (p : IsUnaltered s devices us u leg) (e : Brought) where
  abbrev m : Setting
  m = mirror_setting s devices us

  abbrev half : ℕ
  half = half_of s devices

  abbrev t : Table
  t = table_of s devices

  abbrev size : ℕ
  size = s.block

  unnamed-zero : (b : Block) → b.op ≡ 0 → IsUnnamed m b
  unnamed-zero b z at = none-flips s.faults at (record { op = b.op; k = b.k }) z (none-of-zero s t devices over.bound.lines over.bound.bound)

  whole-zero : (b : Block) → b.op ≡ 0 → is_stored_whole m b ≡ true
  whole-zero b z =
      let none = none-of-zero s t devices over.bound.lines over.bound.bound in
      let label : Label = record { op = b.op; k = b.k } in
      let stays = ap (λ (by : ℤ). not (eqb (nat_abs by) 0)) (none-moves s.faults TargetToMedium b.op z none) in
      and_from (is_served m b) (is_all (keep_of s.faults label) && not (has_shift m b TargetToMedium)) (ap not (none-fails s.faults label z none))
      (and_from (is_all (keep_of s.faults label)) (not (has_shift m b TargetToMedium)) (ap is_all (none-keeps s.faults label z none)) (ap not stays))

  -- The leg is fresh, and has what the block was last written with.
  pub record Good (now : List Stored) (marks : List Marks) : Type 0 where
    pub shapes : shapes_of now ≡ shapes_of us
    pub counted : length marks ≡ half
    pub good : bit_on leg (marks_of marks u) ≡ true
    pub sound : SoundAs m (place_on s devices leg u) e (get_or (blocks_told now) (home m (place_on s devices leg u)) [])

  -- ---- a look

  module _ (q : Piece) (fit : IsLooked s.block half q) (block : ℕ → Block) (cells : List (List ℕ))
      (named : (a c j : ℕ) → record { op = q.op; k = first_label (part_of q (a, c)) + j; virt = first_virt half (part_of q (a, c)) + j } ≡ block (a + j)) (j : ℕ) where
    -- what stands at place j is delivered
    abbrev Comes : List LegRun → Type 0
    Comes runs = (frame : List ℕ) × ((reading m (block j) cells ≡ Ok frame) × (fails_on_leg (block j).virt runs ≡ false))

    -- some stretches
    pub record LegLooked (ss : List (ℕ × ℕ)) (runs : List LegRun) (left : List Stored) (found : List (Option Why)) : Type 0 where
      pub shapes : shapes_of left ≡ shapes_of us
      pub same : blocks_told left ≡ cells
      pub long : length (found_after ss runs found) ≡ q.n
      pub none : Comes runs → get_or found j None ≡ None → get_or (found_after ss runs found) j None ≡ None

    module _ (a c : ℕ) (some : 1 ≤ c) (within : a + c ≤ q.n) (r : LegRun) (own : r.own ≡ read_pi_script s half (part_of q (a, c))) (now next : List Stored) (shapes : shapes_of now ≡ shapes_of us) (same : blocks_told now ≡ cells)
        (fell : HasFallen r.own t now next (pool_of r) r.records (replies_of r)) where
      look : FellLook s t half (part_of q (a, c)) (fits s devices us over) (looked-part s.block half q fit a c some within) now next (replies_of r)
      look =
          fell-look s t half (part_of q (a, c)) (fits s devices us over) (looked-part s.block half q fit a c some within) now next (pool_of r) r.records (replies_of r)
          (subst (λ (x : Script). HasFallen x t now next (pool_of r) r.records (replies_of r)) own fell)

      found-none : (k : ℕ) → k < c → a + k ≡ j → (frame : List ℕ) → reading m (block j) cells ≡ Ok frame → names_medium (block j).virt r.own.ops (replies_of r) ≡ false → get_or (found_by c (replies_of r)) k None ≡ None
      found-none k l at frame comes fine =
          let seen : Block = record { op = q.op; k = first_label (part_of q (a, c)) + k; virt = first_virt half (part_of q (a, c)) + k } in
          let there : seen ≡ block j = named a c k ∙ ap block at in
          let here : reading (mirror_setting s devices now) seen (blocks_told now) ≡ Ok frame =
          (λ x. reading (same-setting s devices us over now shapes x) (there x) (same x)) ∙ comes in
          let place : first_virt half (part_of q (a, c)) + k ≡ (block j).virt = ap (λ (b : Block). b.virt) there in
          elim (look.looks-each.each k l frame here) [
            | inl medium ↦ absurd (false≢true (sym fine ∙ names-one (block j).virt r.own.ops (replies_of r) _ _ (ap (λ (x : Script). x.ops) own) look.says
                (lists-it (first_virt half (part_of q (a, c))) (block j).virt k (found_by c (replies_of r)) medium place)))
            | inr none ↦ none
          ]

    pub leg-looked : (ss : List (ℕ × ℕ)) (runs : List LegRun) (now left : List Stored) (found : List (Option Why)) → shapes_of now ≡ shapes_of us → blocks_told now ≡ cells → AllInside q.n ss → AreOf (read_pi_script s half) q ss runs
        → AllFallen t now runs left → length found ≡ q.n → LegLooked ss runs left found
    leg-looked [] [] now left found shapes same inside of all long = record { shapes = ap shapes_of all ∙ shapes; same = ap blocks_told all ∙ same; long = long; none = λ c h. h }
    leg-looked [] (r ∷ runs) now left found shapes same inside of all long = absurd of
    leg-looked (x ∷ ss) [] now left found shapes same inside of all long = absurd of
    leg-looked (x ∷ ss) (r ∷ runs) now left found shapes same inside of all long =
        let f = look x.0 x.1 inside.0.0 inside.0.1 r of.0 now all.0 shapes same all.1.0 in
        let part = found_by x.1 (replies_of r) in
        let many = f.looks-each.count in
        let within = inside.0.1 in
        let room : x.0 + length part ≤ length found = omega (arith, many, within, long) in
        let rest = leg-looked ss runs all.0 left (pasted x.0 part found) (f.shapes ∙ shapes) (f.blocks ∙ same) inside.1 of.1 all.1.1 (part-long x.0 part found room ∙ long) in
        record {
          shapes = rest.shapes;
          same = rest.same;
          long = rest.long;
          none = λ c h.
              (let z = fails-parts (block j).virt r runs c.1.1 in
              rest.none (c.0, (c.1.0, z.1))
              (part-none x.0 part found j room h (λ k l at. found-none x.0 x.1 inside.0.0 inside.0.1 r of.0 now all.0 shapes same all.1.0 k (omega (arith, l, many)) at c.0 c.1.0 z.0)));
        }

  -- ---- mends

  -- A block of another place, or on the other leg, is written.
  module _ (n : ℕ) where
    mend-stays : (on1 : Bool) (c : ℕ) (x : Brought) (r : LegRun) (now next : List Stored) → c < half → shapes_of now ≡ shapes_of us → r.own ≡ write_script s half (record (whole_stretch c n) { n = 1; on1 = on1 }) x.app x.body
        → HasFallen r.own t now next (pool_of r) r.records (replies_of r) → (on_leg on1 c (half + c) ≡ place_on s devices leg u → ⊥)
        → (shapes_of next ≡ shapes_of us) × (get_or (blocks_told next) (home m (place_on s devices leg u)) [] ≡ get_or (blocks_told now) (home m (place_on s devices leg u)) [])
    mend-stays on1 c x r now next l shapes own fell off =
        let q : Piece = record (whole_stretch c n) { n = 1; on1 = on1 } in
        let fit : IsPiece s.block half q = record { some = omega arith; room = omega (arith, small s devices us over); inside = omega (arith, l) } in
        let mine = subst (λ (z : Script). HasFallen z t now next (pool_of r) r.records (replies_of r)) own fell in (
          mine.shapes ∙ shapes,
          fell-elsewhere s t half q (fits s devices us over) fit now x.app x.body next (pool_of r) r.records (replies_of r) mine (home m (place_on s devices leg u))
              (λ k h z. off (at-leg on1 k h (homes-apart s devices us over now shapes (first_virt half q + k) (place_on s devices leg u) (below on1 k h) (leg-inside leg u half p.inside)
              (z ∙ ap (λ (y : Setting). home y (place_on s devices leg u)) (sym (same-setting s devices us over now shapes)))))),
        )
      where
        below : (d : Bool) (k : ℕ) → k < 1 → first_virt half (record (whole_stretch c n) { n = 1; on1 = d }) + k < half + half
        below false k h = omega (arith, h, l)
        below true k h = omega (arith, h, l)

        at-leg : (d : Bool) (k : ℕ) → k < 1 → first_virt half (record (whole_stretch c n) { n = 1; on1 = d }) + k ≡ place_on s devices leg u → on_leg d c (half + c) ≡ place_on s devices leg u
        at-leg false k h z = omega (arith, h, z)
        at-leg true k h z = omega (arith, h, z)

    off-first : (c : ℕ) (x : Brought) → c < half → (c ≡ u → SparesLeg leg (On0 x)) → c ≡ place_on s devices leg u → ⊥
    off-first c x l h = by leg h where
      by : (d : Bool) → (c ≡ u → SparesLeg d (On0 x)) → c ≡ place_on s devices d u → ⊥
      by false h z = h z
      by true h z = omega (arith, z, l)

    off-second : (c : ℕ) (x : Brought) → c < half → (c ≡ u → SparesLeg leg (On1 x)) → half + c ≡ place_on s devices leg u → ⊥
    off-second c x l h = by leg h where
      by : (d : Bool) → (c ≡ u → SparesLeg d (On1 x)) → half + c ≡ place_on s devices d u → ⊥
      by false h z = (let k = p.inside in omega (arith, z, k))
      by true h z = h (omega (arith, z))

    mends-stay : (c : ℕ) (ns : List Need) (now left : List Stored) (runs : List LegRun) → c + length ns ≤ half → shapes_of now ≡ shapes_of us → AreMends s half n c ns runs → AllFallen t now runs left → ((j : ℕ) → c + j ≡ u → SparesLeg leg (get_or ns j Fine))
        → (shapes_of left ≡ shapes_of us) × (get_or (blocks_told left) (home m (place_on s devices leg u)) [] ≡ get_or (blocks_told now) (home m (place_on s devices leg u)) [])
    mends-stay c [] now left [] l shapes of all h = (ap shapes_of all ∙ shapes, ap (λ (z : List Stored). get_or (blocks_told z) (home m (place_on s devices leg u)) []) all)
    mends-stay c [] now left (r ∷ runs) l shapes of all h = absurd of
    mends-stay c (Fine ∷ ns) now left runs l shapes of all h = mends-stay (suc c) ns now left runs (omega (arith, l)) shapes of all (λ j z. h (suc j) (omega (arith, z)))
    mends-stay c (Lost ∷ ns) now left runs l shapes of all h = mends-stay (suc c) ns now left runs (omega (arith, l)) shapes of all (λ j z. h (suc j) (omega (arith, z)))
    mends-stay c (On0 x ∷ ns) now left [] l shapes of all h = absurd of
    mends-stay c (On1 x ∷ ns) now left [] l shapes of all h = absurd of
    mends-stay c (On0 x ∷ ns) now left (r ∷ runs) l shapes of all h =
        let one = mend-stays false c x r now all.0 (omega (arith, l)) shapes of.0 all.1.0 (off-first c x (omega (arith, l)) (λ z. h 0 (omega (arith, z)))) in
        let rest = mends-stay (suc c) ns all.0 left runs (omega (arith, l)) one.0 of.1 all.1.1 (λ j z. h (suc j) (omega (arith, z))) in
        (rest.0, rest.1 ∙ one.1)
    mends-stay c (On1 x ∷ ns) now left (r ∷ runs) l shapes of all h =
        let one = mend-stays true c x r now all.0 (omega (arith, l)) shapes of.0 all.1.0 (off-second c x (omega (arith, l)) (λ z. h 0 (omega (arith, z)))) in
        let rest = mends-stay (suc c) ns all.0 left runs (omega (arith, l)) one.0 of.1 all.1.1 (λ j z. h (suc j) (omega (arith, z))) in
        (rest.0, rest.1 ∙ one.1)

  -- ---- a stretch

  looked-few : (n : ℕ) (wanted : List Bool) (runs : List LegRun) → length (looked s.block n wanted runs) ≤ length wanted
  looked-few n wanted runs =
      let found = found_after (stretches wanted) runs (replicate n None) in
      let a = goods-long size (delivered wanted found) (bytes_after size (stretches wanted) runs (replicate (n * size) 0)) (tuples_after size (stretches wanted) runs (replicate (n * 8) 0)) in
      let b = delivered-few wanted found in
      omega (arith, a, b)

  looked-at : (n : ℕ) (wanted : List Bool) (runs : List LegRun) (j : ℕ) → j < n → get_or wanted j false ≡ true → length (found_after (stretches wanted) runs (replicate n None)) ≡ n → get_or (found_after (stretches wanted) runs (replicate n None)) j None ≡ None
      → is_some (get_or (looked s.block n wanted runs) j None) ≡ true
  looked-at n wanted runs j l w long none =
      let found = found_after (stretches wanted) runs (replicate n None) in
      goods-at size (delivered wanted found) (bytes_after size (stretches wanted) runs (replicate (n * size) 0)) (tuples_after size (stretches wanted) runs (replicate (n * 8) 0)) j
      (delivered-at wanted found j (omega (arith, l, long)) w none)

  module _ (v n : ℕ) (inside : v + n ≤ half) (few : n ≤ 128) (now left : List Stored) (old new : Mended) (runs : List LegRun) (g : Good now old.marks) (by : StretchBy s half v n old new runs) (all : AllFallen t now runs left)
      (fine : fails_on_leg (place_on s devices leg u) runs ≡ false) where
    abbrev block0 : ℕ → Block
    block0 j = record { op = 0; k = j; virt = v + j }

    abbrev block1 : ℕ → Block
    block1 j = record { op = 0; k = n + j; virt = half + (v + j) }

    abbrev p0 : Piece
    p0 = whole_stretch v n

    abbrev p1 : Piece
    p1 = record (whole_stretch v n) { on1 = true }

    fit0 : IsLooked s.block half p0
    fit0 = record { few = few; small = small s devices us over; inside = inside }

    fit1 : IsLooked s.block half p1
    fit1 = record { few = few; small = small s devices us over; inside = inside }

    named0 : (a c j : ℕ) → record { op = 0; k = first_label (part_of p0 (a, c)) + j; virt = first_virt half (part_of p0 (a, c)) + j } ≡ block0 (a + j)
    named0 a c j =
        let x : (0 + a) + j ≡ a + j = omega arith in
        let y : (v + a) + j ≡ v + (a + j) = omega arith in
        λ i. record { op = 0; k = x i; virt = y i }

    named1 : (a c j : ℕ) → record { op = 0; k = first_label (part_of p1 (a, c)) + j; virt = first_virt half (part_of p1 (a, c)) + j } ≡ block1 (a + j)
    named1 a c j =
        let x : (n + (0 + a)) + j ≡ n + (a + j) = omega arith in
        let y : (half + (v + a)) + j ≡ half + (v + (a + j)) = omega arith in
        λ i. record { op = 0; k = x i; virt = y i }

    abbrev marks : List Marks
    marks = take n (drop v old.marks)

    marks-count : length marks ≡ n
    marks-count = let a = length-drop v old.marks in let w = g.counted in length-take-le n (drop v old.marks) (omega (arith, a, w, inside))

    mark-at : (j : ℕ) → j < n → get_or marks j fresh ≡ marks_of old.marks (v + j)
    mark-at j l = get_or-take n (drop v old.marks) j fresh l ∙ get_or-drop v old.marks j fresh

    wanted0-long : length (fresh_on0 marks) ≡ n
    wanted0-long = length-map marks (λ (k : Marks). k.leg0) ∙ marks-count

    wanted1-long : length (fresh_on1 marks) ≡ n
    wanted1-long = length-map marks (λ (k : Marks). k.leg1) ∙ marks-count

    -- ---- the requests, in turn

    first : (next : List Stored) × (AllFallen t now by.looks0 next × AllFallen t next (by.looks1 ++ by.mends) left)
    first = fallen-both t now left by.looks0 (by.looks1 ++ by.mends) (subst (λ (rs : List LegRun). AllFallen t now rs left) by.runs_are all)

    second : (next : List Stored) × (AllFallen t first.0 by.looks1 next × AllFallen t next by.mends left)
    second = fallen-both t first.0 left by.looks1 by.mends first.1.1

    named-none : fails_on_leg (place_on s devices leg u) (by.looks0 ++ (by.looks1 ++ by.mends)) ≡ false
    named-none = subst (λ (rs : List LegRun). fails_on_leg (place_on s devices leg u) rs ≡ false) by.runs_are fine

    nones-long : length (replicate {A = Option Why} n None) ≡ n
    nones-long = length-replicate {A = Option Why} n None

    look0 : (j : ℕ) → LegLooked p0 fit0 block0 (blocks_told now) named0 j (stretches (fresh_on0 marks)) by.looks0 first.0 (replicate n None)
    look0 j =
        leg-looked p0 fit0 block0 (blocks_told now) named0 j (stretches (fresh_on0 marks)) by.looks0 now first.0 (replicate n None) g.shapes refl
        (subst (λ k. AllInside k (stretches (fresh_on0 marks))) wanted0-long (all-inside (fresh_on0 marks))) by.on0 first.1.0 nones-long

    look1 : (j : ℕ) → LegLooked p1 fit1 block1 (blocks_told now) named1 j (stretches (fresh_on1 marks)) by.looks1 second.0 (replicate n None)
    look1 j =
        leg-looked p1 fit1 block1 (blocks_told now) named1 j (stretches (fresh_on1 marks)) by.looks1 first.0 second.0 (replicate n None) (look0 0).shapes (look0 0).same
        (subst (λ k. AllInside k (stretches (fresh_on1 marks))) wanted1-long (all-inside (fresh_on1 marks))) by.on1 second.1.0 nones-long

    -- ---- what the block needs

    abbrev ones : List (Option Brought)
    ones = looked s.block n (fresh_on0 marks) by.looks0

    abbrev others : List (Option Brought)
    others = looked s.block n (fresh_on1 marks) by.looks1

    none-at : (j : ℕ) → j < n → get_or (replicate {A = Option Why} n None) j None ≡ None
    none-at j l = get_or-replicate n j None None l

    good-first : (j : ℕ) → v + j ≡ u → leg ≡ false → j < length ones → is_some (get_or ones j None) ≡ true
    good-first j at on l =
        let a = looked-few n (fresh_on0 marks) by.looks0 in
        let under : j < n = omega (arith, l, a, wanted0-long) in
        let sound : SoundAs m (v + j) e (get_or (blocks_told now) (home m (v + j)) []) =
        subst (λ (x : ℕ). SoundAs m x e (get_or (blocks_told now) (home m x) [])) (ap (λ (c : Bool). place_on s devices c u) on ∙ sym at) g.sound in
        let comes = (free s devices us over u leg p (block0 j) (unnamed-zero (block0 j) refl) (whole-zero (block0 j) refl)).comes e (blocks_told now) sound in
        let fine0 : fails_on_leg (v + j) by.looks0 ≡ false =
        subst (λ (x : ℕ). fails_on_leg x by.looks0 ≡ false) (ap (λ (c : Bool). place_on s devices c u) on ∙ sym at) (fails-first (place_on s devices leg u) by.looks0 (by.looks1 ++ by.mends) named-none) in
        let bit : get_or (fresh_on0 marks) j false ≡ true =
        get_or-map (λ (k : Marks). k.leg0) marks j fresh false (omega (arith, under, marks-count)) ∙ ap (λ (k : Marks). k.leg0) (mark-at j under ∙ ap (marks_of old.marks) at)
        ∙ ap (λ (c : Bool). bit_on c (marks_of old.marks u)) (sym on) ∙ g.good in
        looked-at n (fresh_on0 marks) by.looks0 j under bit (look0 j).long ((look0 j).none (comes.0, (comes.1.0, fine0)) (none-at j under))

    good-second : (j : ℕ) → v + j ≡ u → leg ≡ true → j < length others → is_some (get_or others j None) ≡ true
    good-second j at on l =
        let a = looked-few n (fresh_on1 marks) by.looks1 in
        let under : j < n = omega (arith, l, a, wanted1-long) in
        let place : place_on s devices leg u ≡ half + (v + j) = ap (λ (c : Bool). place_on s devices c u) on ∙ ap (λ (x : ℕ). half + x) (sym at) in
        let sound : SoundAs m (half + (v + j)) e (get_or (blocks_told now) (home m (half + (v + j))) []) =
        subst (λ (x : ℕ). SoundAs m x e (get_or (blocks_told now) (home m x) [])) place g.sound in
        let comes = (free s devices us over u leg p (block1 j) (unnamed-zero (block1 j) refl) (whole-zero (block1 j) refl)).comes e (blocks_told now) sound in
        let fine1 : fails_on_leg (half + (v + j)) by.looks1 ≡ false =
        subst (λ (x : ℕ). fails_on_leg x by.looks1 ≡ false) place (fails-first (place_on s devices leg u) by.looks1 by.mends (fails-last (place_on s devices leg u) by.looks0 (by.looks1 ++ by.mends) named-none)) in
        let bit : get_or (fresh_on1 marks) j false ≡ true =
        get_or-map (λ (k : Marks). k.leg1) marks j fresh false (omega (arith, under, marks-count)) ∙ ap (λ (k : Marks). k.leg1) (mark-at j under ∙ ap (marks_of old.marks) at)
        ∙ ap (λ (c : Bool). bit_on c (marks_of old.marks u)) (sym on) ∙ g.good in
        looked-at n (fresh_on1 marks) by.looks1 j under bit (look1 j).long ((look1 j).none (comes.0, (comes.1.0, fine1)) (none-at j under))

    spares : (j : ℕ) → v + j ≡ u → SparesLeg leg (get_or by.needs j Fine)
    spares j at = subst (λ (ns : List Need). SparesLeg leg (get_or ns j Fine)) (sym by.needs_are) (on leg refl) where
      on : (c : Bool) → leg ≡ c → SparesLeg c (get_or (needs_by ones others) j Fine)
      on false q = needs-first ones others j (good-first j at q)
      on true q = needs-second ones others j (good-second j at q)

    needs-inside : v + length by.needs ≤ half
    needs-inside =
        let a = needs-few ones others in
        let b = looked-few n (fresh_on0 marks) by.looks0 in
        let c : length by.needs ≡ length (needs_by ones others) = ap length by.needs_are in
        omega (arith, a, b, c, wanted0-long, inside)

    pub stretch-keeps : Good left new.marks
    stretch-keeps =
        let stay = mends-stay n v by.needs second.0 left by.mends needs-inside (look1 0).shapes by.mends_are second.1.1 spares in
        let marks-are : new.marks ≡ marks_mended v by.needs (whys_by by.mends) old.marks = ap (λ (d : Mended). d.marks) by.new_is in
        let many = g.counted in
        let inside-half = p.inside in
        record {
          shapes = stay.0;
          counted = ap length marks-are ∙ marks-long v by.needs (whys_by by.mends) old.marks ∙ g.counted;
          good = ap (λ (ms : List Marks). bit_on leg (marks_of ms u)) marks-are ∙ bits-spared leg u v by.needs (whys_by by.mends) old.marks (omega (arith, many, inside-half)) spares ∙ g.good;
          sound = subst (SoundAs m (place_on s devices leg u) e) (sym (stay.1 ∙ ap (λ (bs : List (List ℕ)). get_or bs (home m (place_on s devices leg u)) []) (look1 0).same)) g.sound;
        }

  -- ---- all stretches

  pub repair-keeps : (v many : ℕ) (now left : List Stored) (old new : Mended) (runs : List LegRun) → 128 * many < (half - v) + 128 → Good now old.marks → RepairBy s half v many old new runs → AllFallen t now runs left
      → fails_on_leg (place_on s devices leg u) runs ≡ false → Good left new.marks
  repair-keeps v zero now left old new runs l g by all fine =
      let stayed : left ≡ now = subst (λ (rs : List LegRun). AllFallen t now rs left) by.1 all in
      subst (λ (d : Mended). Good left d.marks) (sym by.0) (subst (λ (z : List Stored). Good z old.marks) (sym stayed) g)
  repair-keeps v (suc many) now left old new runs l g by all fine =
      let first = by.1.0 in
      let later = by.1.1.0 in
      let w = fallen-both t now left first later (subst (λ (rs : List LegRun). AllFallen t now rs left) by.1.1.1.0 all) in
      let none = subst (λ (rs : List LegRun). fails_on_leg (place_on s devices leg u) rs ≡ false) by.1.1.1.0 fine in
      let one = stretch-keeps v (min 128 (half - v)) (omega (arith, l)) (omega arith) now w.0 old by.0 first g by.1.1.1.1.0 w.1.0 (fails-first (place_on s devices leg u) first later none) in
      repair-keeps (v + 128) many w.0 left by.0 new later (omega (arith, l)) one by.1.1.1.1.1 w.1.1 (fails-last (place_on s devices leg u) first later none)

  -- and what stands there
  pub good-holds : (left : List Stored) (marks : List Marks) → Good left marks → HoldsOn s devices us left leg u e
  good-holds left _ g = record {
    size = g.sound.sound.bare.size;
    body = ap (λ (b : Brought). b.body) g.sound.brought;
    tuple = same_fields (g.sound.sound.bears.guard ∙ ap (λ (b : Brought). crc b.body) g.sound.brought) (ap (λ (b : Brought). b.app) g.sound.brought) g.sound.sound.bears.rtag;
  }
