-- The repair of a mirror, done at the target stretch by stretch, is that of its walk.
use Rattle.std.proofs.Common.{◌≡◌, ◌<◌, ◌≤◌, ℕ, zero, suc, ◌+◌, ◌-◌, ◌*◌, Bool, true, false, if◌then◌else◌, List, [], ◌∷◌, ◌++◌, length, map, get_or, set, take, drop, min, Option, Some, None, refl, sym, ap, subst, ◌∙◌, arith, add-zero}
use Rattle.std.specs.Prelude.{IfOk, Result, Ok, Err}
use Rattle.std.specs.List.{All}
use Rattle.std.proofs.lemmas.List.{get_or-drop, get_or-map, get_or-take, length-drop, length-map, length-set, length-take-le}
use Rattle.std.proofs.lemmas.List.Elements.{All-cons, All-head, All-nil, All-tail}
use Rattle.bio_core.specs.declared.fate.Why.{Why}
use Rattle.rig_api.specs.Frames.{stored_size}
use Rattle.rig_api.specs.Target.{Stored, shape_of}
use Rattle.rig_api.specs.declared.units.UnitSpec.{UnitSpec}
use Rattle.rig_discovery.specs.Discovery.{info_of}
use Rattle.volume_table.specs.Tables.{Table}
use Rattle.volume_table.specs.declared.device.DeviceInfo.{DeviceInfo}
use Rattle.dix_adapter.specs.Ways.{blocks_told, shapes_of}
use Rattle.stack_ops.specs.declared.reply.Reply.{Reply}
use Rattle.walk_laws.specs.Past.{brought_by}
use Rattle.walk_laws.specs.Settings.{Block, Setting}
use Rattle.walk_laws.specs.Steps.{each_from}
use Rattle.walk_laws.proofs.InSteps.{each_length}
use Rattle.script_text.specs.declared.script.Script.{Script}
use Rattle.mirror_volume.specs.LegsPassed.{table_of, none_fails, setting_of, AreStored}
use Rattle.mirror_laws.specs.Mirror.{fresh, is_none, marks_of}
use Rattle.mirror_laws.specs.Repair.{WalkedRepair, good, mirror_repair, on_leg0, on_leg1, reading, repair_from, steady}
use Rattle.mirror_laws.specs.Sizes.{KeepsSizes}
use Rattle.mirror_laws.specs.Stretches.{Fine, Lost, Need, On0, On1, accepted_of, after_due, good0, good1, lost_of, marks_mended, needs}
use Rattle.mirror_laws.specs.declared.marks.Marks.{Marks}
use Rattle.mirror_laws.proofs.Sizes.{reading_size, steady_keeps, steady_sizes}
use Rattle.mirror_laws.proofs.Stretches.{repair_join, steady_legs, stretch_is}
use Rattle.mirror_volume.specs.declared.piece.Piece.{Piece}
use Rattle.mirror_volume.specs.Inner.{first_label, first_virt, read_pi_script}
use Rattle.mirror_volume.specs.MirrorScript.{IsMirrorScript, without_faults}
use Rattle.mirror_volume.proofs.Asked.{still_asked}
use Rattle.mirror_volume.specs.Asked.{AreOf, fresh_on0, part_of, stretches}
use Rattle.mirror_volume.specs.LegRuns.{AllWalked, LegRun}
use Rattle.mirror_volume.specs.Mending.{AreMends, Mended, RepairBy, StretchBy, fresh_on1, needs_by, stretches_in, whole_stretch, whys_by}
use Rattle.mirror_volume.specs.OnOps.{Sides}
use Rattle.mirror_volume.specs.Standing.{IsBoundMirror, IsMirrorOver, IsRepairedAs, StandsAt, half_of, mirror_setting, walked}
use Rattle.mirror_volume.proofs.Fetched.{walked-both}
use Rattle.mirror_volume.proofs.Ground.{fits, legs, made-over, sizes, small}
use Rattle.mirror_volume.proofs.Looked.{IsLooked, LookLaw, each_good, looks, taken}
use Rattle.mirror_volume.proofs.Mends.{NeedsWhole, mends-go}
use Rattle.mirror_volume.proofs.Quiet.{NoneOfZero, none-of-zero, read-quiet, reads-under}

-- ---- what is good of each block, and what is needed

good-each : (size : ℕ) (came : ℕ → Result (List ℕ) Why) (g : ℕ → Bool) (F : ℕ → Result (List ℕ) Why) (u at : ℕ) (wanted : List Bool) → ((j : ℕ) → j < length wanted → get_or wanted j true ≡ g (u + (at + j))) →
    ((j : ℕ) → came j ≡ F (u + j)) → each_good size came at wanted ≡ map (taken size) (each_from (u + at) (length wanted) (λ w. good (g w) (F w)))
good-each size came g F u at [] h k = refl
good-each size came g F u at (w ∷ wanted) h k =
    let z : at + 0 ≡ at = omega arith in
    let first : w ≡ g (u + at) = h 0 (omega arith) ∙ ap (λ j. g (u + j)) z in
    let here = k at in
    let next : u + suc at ≡ suc (u + at) = omega arith in
    let rest = good-each size came g F u (suc at) wanted (λ j l. h (suc j) (omega (arith, l)) ∙ (let e : at + suc j ≡ suc at + j = omega arith in ap (λ x. g (u + x)) e)) k
    ∙ ap (λ x. map (taken size) (each_from x (length wanted) (λ w. good (g w) (F w)))) next in
    λ i. taken size (good (first i) (here i)) ∷ rest i

needs-same : (size : ℕ) (ones others : List (Option (List ℕ))) → needs_by (map (taken size) ones) (map (taken size) others) ≡ needs size ones others
needs-same size [] others = refl
needs-same size (one ∷ ones) [] = refl
needs-same size (None ∷ ones) (None ∷ others) = ap (λ ns. Lost ∷ ns) (needs-same size ones others)
needs-same size (None ∷ ones) (Some frame ∷ others) = ap (λ ns. On0 (brought_by size frame) ∷ ns) (needs-same size ones others)
needs-same size (Some frame ∷ ones) (None ∷ others) = ap (λ ns. On1 (brought_by size frame) ∷ ns) (needs-same size ones others)
needs-same size (Some frame ∷ ones) (Some other ∷ others) = ap (λ ns. Fine ∷ ns) (needs-same size ones others)

-- what is good has all data
abbrev WholeIf : (size : ℕ) → Option (List ℕ) → Type 0
WholeIf size None = Unit {0}
WholeIf size (Some frame) = length (take size frame) ≡ size

abbrev AllWhole : (size : ℕ) → List (Option (List ℕ)) → Type 0
AllWhole size [] = Unit {0}
AllWhole size (one ∷ ones) = WholeIf size one × AllWhole size ones

whole-good : (size : ℕ) (bit : Bool) (came : Result (List ℕ) Why) → IfOk came (λ f. length f ≡ size + 8) → WholeIf size (good bit came)
whole-good size true (Ok frame) h = length-take-le size frame (omega (arith, h))
whole-good size true (Err why) h = tt
whole-good size false came h = tt

all-whole : (size at n : ℕ) (f : ℕ → Option (List ℕ)) → ((j : ℕ) → j < at + n → WholeIf size (f j)) → AllWhole size (each_from at n f)
all-whole size at zero f h = tt
all-whole size at (suc n) f h = (h at (omega arith), all-whole size (suc at) n f (λ j l. h j (omega (arith, l))))

needs-whole : (size : ℕ) (ones others : List (Option (List ℕ))) → AllWhole size ones → AllWhole size others → NeedsWhole size (needs size ones others)
needs-whole size [] others a b = tt
needs-whole size (one ∷ ones) [] a b = tt
needs-whole size (None ∷ ones) (None ∷ others) a b = needs-whole size ones others a.1 b.1
needs-whole size (None ∷ ones) (Some frame ∷ others) a b = (b.0, needs-whole size ones others a.1 b.1)
needs-whole size (Some frame ∷ ones) (None ∷ others) a b = (a.0, needs-whole size ones others a.1 b.1)
needs-whole size (Some frame ∷ ones) (Some other ∷ others) a b = needs-whole size ones others a.1 b.1

needs-long : (size : ℕ) (ones others : List (Option (List ℕ))) → length ones ≡ length others → length (needs size ones others) ≡ length ones
needs-long size [] others e = refl
needs-long size (one ∷ ones) [] e = absurd (omega (arith, e))
needs-long size (one ∷ ones) (other ∷ others) e = ap suc (needs-long size ones others (omega (arith, e)))

pub marks-long : (u : ℕ) (ns : List Need) (whys : List (Option Why)) (marks : List Marks) → length (marks_mended u ns whys marks) ≡ length marks
marks-long u [] whys marks = refl
marks-long u (Fine ∷ ns) whys marks = marks-long (suc u) ns whys marks
marks-long u (Lost ∷ ns) whys marks = marks-long (suc u) ns whys marks
marks-long u (On0 e ∷ ns) [] marks = refl
marks-long u (On0 e ∷ ns) (why ∷ whys) marks = marks-long (suc u) ns whys (set marks u (record (marks_of marks u) { leg0 = is_none why })) ∙ length-set marks u (record (marks_of marks u) { leg0 = is_none why })
marks-long u (On1 e ∷ ns) [] marks = refl
marks-long u (On1 e ∷ ns) (why ∷ whys) marks = marks-long (suc u) ns whys (set marks u (record (marks_of marks u) { leg1 = is_none why })) ∙ length-set marks u (record (marks_of marks u) { leg1 = is_none why })

of-quiet : (one other : Piece → Script) (p : Piece) (ss : List (ℕ × ℕ)) (runs : List LegRun) → ((q : ℕ × ℕ) → one (part_of p q) ≡ other (part_of p q)) → AreOf one p ss runs → AreOf other p ss runs
of-quiet one other p [] [] h of = of
of-quiet one other p [] (r ∷ runs) h of = absurd of
of-quiet one other p (q ∷ ss) [] h of = absurd of
of-quiet one other p (q ∷ ss) (r ∷ runs) h of = (of.0 ∙ h q, of-quiet one other p ss runs h of.1)

-- ---- units whose blocks keep their sizes are still units

record StillIn (w : ℕ) (ys more others : List (List ℕ)) : Type 0 where
  mine : All (λ y. length y ≡ w) ys
  behind : (c : ℕ) → length (get_or more c []) ≡ length (get_or others c [])

still-in : (w : ℕ) (xs ys others more : List (List ℕ)) → length ys ≡ length xs → ((c : ℕ) → length (get_or (ys ++ more) c []) ≡ length (get_or (xs ++ others) c [])) → All (λ x. length x ≡ w) xs → StillIn w ys more others
still-in w [] [] others more l h a = record { mine = All-nil _; behind = h }
still-in w [] (y ∷ ys) others more l h a = absurd (omega (arith, l))
still-in w (x ∷ xs) [] others more l h a = absurd (omega (arith, l))
still-in w (x ∷ xs) (y ∷ ys) others more l h a =
    let rest = still-in w xs ys others more (omega (arith, l)) (λ c. h (suc c)) (All-tail (λ (b : List ℕ). length b ≡ w) x xs a) in
    record { mine = All-cons (λ (b : List ℕ). length b ≡ w) y ys (h 0 ∙ All-head (λ (b : List ℕ). length b ≡ w) x xs a) rest.mine; behind = rest.behind }

still-stored : (us left : List Stored) → shapes_of left ≡ shapes_of us → KeepsSizes (blocks_told us) (blocks_told left) → AreStored us → AreStored left
still-stored [] [] s h a = a
still-stored [] (v ∷ vs) s h a = absurd cc
still-stored (u ∷ us) [] s h a = absurd cc
still-stored (u ∷ us) (v ∷ vs) s h a =
    let P = λ (x : Stored). All (λ (block : List ℕ). length block ≡ stored_size x.ty x.size) x.blocks in
    let one : shape_of v ≡ shape_of u = cc in
    let rest : shapes_of vs ≡ shapes_of us = cc in
    let many = ap (λ (z : UnitSpec). z.blocks) one in
    let size : stored_size u.ty u.size ≡ stored_size v.ty v.size = sym (ap (λ (z : UnitSpec). stored_size z.ty z.size) one) in
    let here = still-in (stored_size u.ty u.size) u.blocks v.blocks (blocks_told us) (blocks_told vs) many h (All-head P u us a) in
    All-cons P v vs (subst (λ (w : ℕ). All (λ (block : List ℕ). length block ≡ w) v.blocks) size here.mine) (still-stored us vs rest here.behind (All-tail P u us a))

-- ---- a stretch

-- the walk's repair, as far as it came
abbrev pub stand : List Stored → Mended → WalkedRepair
stand now d = record { blocks = blocks_told now; marks = d.marks; repaired = d.repaired; lost = d.lost }

module _ (law : LookLaw) (s : Script) (devices : List DeviceInfo) (bound : IsBoundMirror s devices) where
  abbrev half : ℕ
  half = half_of s devices

  abbrev t : Table
  t = table_of s devices

  abbrev s' : Script
  s' = without_faults s

  quiet : NoneOfZero s.faults
  quiet = none-of-zero s t devices bound.lines bound.bound

  -- what a repair goes on with
  pub record IsAt (now : List Stored) (d : Mended) : Type 0 where
    pub over : IsMirrorOver s devices now
    pub marked : length d.marks ≡ half

  record Stretched (u n : ℕ) (now left : List Stored) (old new : Mended) : Type 0 where
    is : stand left new ≡ repair_from (steady (mirror_setting s devices now)) half u n (stand now old)
    shapes : shapes_of left ≡ shapes_of now
    at : IsAt left new

  module _ (u n : ℕ) (inside : u + n ≤ half) (few : n ≤ 128) (now : List Stored) (old : Mended) (at : IsAt now old) where
    abbrev m : Setting
    m = mirror_setting s devices now

    abbrev q : Setting
    q = steady m

    abbrev r : WalkedRepair
    r = stand now old

    is-mirror : IsMirrorScript s t half
    is-mirror = fits s devices now at.over

    is-quiet : IsMirrorScript s' t half
    is-quiet = still_asked s t half is-mirror

    -- what is read there is as long as a frame
    exact : (b : Block) → b.virt < half + half → IfOk (reading q b (blocks_told now)) (λ f. length f ≡ s.block + 8)
    exact b l =
        let long = is-mirror.long in
        let dix : (if s.mode.dix then s.block + 8 else s.block) ≡ s.block + 8 = ap (λ (c : Bool). if c then s.block + 8 else s.block) is-mirror.dix in
        subst (λ (k : ℕ). IfOk (reading q b (blocks_told now)) (λ f. length f ≡ k)) dix
        (reading_size q half (blocks_told now) (steady_legs m half (legs s devices now at.over)) (steady_sizes m (blocks_told now) (sizes s devices now at.over)) b (blocks_told now) (omega (arith, l, long)) (λ c. refl))

    -- the blocks, as the requests name them
    abbrev block0 : ℕ → Block
    block0 j = record { op = 0; k = j; virt = u + j }

    abbrev block1 : ℕ → Block
    block1 j = record { op = 0; k = n + j; virt = half + (u + j) }

    abbrev p0 : Piece
    p0 = whole_stretch u n

    abbrev p1 : Piece
    p1 = record (whole_stretch u n) { on1 = true }

    named0 : (a c j : ℕ) → record { op = 0; k = first_label (part_of p0 (a, c)) + j; virt = first_virt half (part_of p0 (a, c)) + j } ≡ block0 (a + j)
    named0 a c j =
        let x : (0 + a) + j ≡ a + j = omega arith in
        let y : (u + a) + j ≡ u + (a + j) = omega arith in
        λ i. record { op = 0; k = x i; virt = y i }

    named1 : (a c j : ℕ) → record { op = 0; k = first_label (part_of p1 (a, c)) + j; virt = first_virt half (part_of p1 (a, c)) + j } ≡ block1 (a + j)
    named1 a c j =
        let x : (n + (0 + a)) + j ≡ n + (a + j) = omega arith in
        let y : (half + (u + a)) + j ≡ half + (u + (a + j)) = omega arith in
        λ i. record { op = 0; k = x i; virt = y i }

    abbrev marks : List Marks
    marks = take n (drop u old.marks)

    marks-count : length marks ≡ n
    marks-count = let a = length-drop u old.marks in let w = at.marked in length-take-le n (drop u old.marks) (omega (arith, a, w, inside))

    mark-at : (j : ℕ) → j < n → get_or marks j fresh ≡ marks_of old.marks (u + j)
    mark-at j l = get_or-take n (drop u old.marks) j fresh l ∙ get_or-drop u old.marks j fresh

    bits0 : (j : ℕ) → j < length (fresh_on0 marks) → get_or (fresh_on0 marks) j true ≡ (marks_of old.marks (u + (0 + j))).leg0
    bits0 j l =
        let a = length-map marks (λ (k : Marks). k.leg0) in
        let z : j ≡ 0 + j = omega arith in
        get_or-map (λ (k : Marks). k.leg0) marks j fresh true (omega (arith, l, a)) ∙ ap (λ (k : Marks). k.leg0) (mark-at j (let c = marks-count in omega (arith, l, a, c))) ∙ ap (λ k. (marks_of old.marks (u + k)).leg0) z

    bits1 : (j : ℕ) → j < length (fresh_on1 marks) → get_or (fresh_on1 marks) j true ≡ (marks_of old.marks (u + (0 + j))).leg1
    bits1 j l =
        let a = length-map marks (λ (k : Marks). k.leg1) in
        let z : j ≡ 0 + j = omega arith in
        get_or-map (λ (k : Marks). k.leg1) marks j fresh true (omega (arith, l, a)) ∙ ap (λ (k : Marks). k.leg1) (mark-at j (let c = marks-count in omega (arith, l, a, c))) ∙ ap (λ k. (marks_of old.marks (u + k)).leg1) z

    wanted0-long : length (fresh_on0 marks) ≡ n
    wanted0-long = length-map marks (λ (k : Marks). k.leg0) ∙ marks-count

    wanted1-long : length (fresh_on1 marks) ≡ n
    wanted1-long = length-map marks (λ (k : Marks). k.leg1) ∙ marks-count

    goods0 : each_good s.block (λ j. reading q (block0 j) (blocks_told now)) 0 (fresh_on0 marks) ≡ map (taken s.block) (good0 q half u n r)
    goods0 =
        good-each s.block (λ j. reading q (block0 j) (blocks_told now)) (λ w. (marks_of old.marks w).leg0) (λ w. reading q (on_leg0 w) (blocks_told now)) u 0 (fresh_on0 marks) bits0
        (λ j. reads-under m 0 j 0 (u + j) (u + j) (blocks_told now))
        ∙ (λ i. map (taken s.block) (each_from (add-zero u i) (wanted0-long i) (λ w. good (marks_of old.marks w).leg0 (reading q (on_leg0 w) (blocks_told now)))))

    goods1 : each_good s.block (λ j. reading q (block1 j) (blocks_told now)) 0 (fresh_on1 marks) ≡ map (taken s.block) (good1 q half u n r)
    goods1 =
        good-each s.block (λ j. reading q (block1 j) (blocks_told now)) (λ w. (marks_of old.marks w).leg1) (λ w. reading q (on_leg1 half w) (blocks_told now)) u 0 (fresh_on1 marks) bits1
        (λ j. reads-under m 0 (n + j) 0 (half + (u + j)) (half + (u + j)) (blocks_told now))
        ∙ (λ i. map (taken s.block) (each_from (add-zero u i) (wanted1-long i) (λ w. good (marks_of old.marks w).leg1 (reading q (on_leg1 half w) (blocks_told now)))))

    abbrev all : List Need
    all = needs s.block (good0 q half u n r) (good1 q half u n r)

    all-fit : NeedsWhole s.block all
    all-fit =
        needs-whole s.block (good0 q half u n r) (good1 q half u n r)
        (all-whole s.block u n (λ w. good (marks_of old.marks w).leg0 (reading q (on_leg0 w) (blocks_told now))) (λ j l. whole-good s.block (marks_of old.marks j).leg0 (reading q (on_leg0 j) (blocks_told now)) (exact (on_leg0 j) (omega (arith, l, inside)))))
        (all-whole s.block u n (λ w. good (marks_of old.marks w).leg1 (reading q (on_leg1 half w) (blocks_told now))) (λ j l. whole-good s.block (marks_of old.marks j).leg1 (reading q (on_leg1 half j) (blocks_told now)) (exact (on_leg1 half j) (omega (arith, l, inside)))))

    all-count : length all ≡ n
    all-count =
        let a : length (good0 q half u n r) ≡ n = each_length u n (λ w. good (marks_of old.marks w).leg0 (reading q (on_leg0 w) (blocks_told now))) in
        let b : length (good1 q half u n r) ≡ n = each_length u n (λ w. good (marks_of old.marks w).leg1 (reading q (on_leg1 half w) (blocks_told now))) in
        needs-long s.block (good0 q half u n r) (good1 q half u n r) (a ∙ sym b) ∙ a

    fit0 : IsLooked s'.block half p0
    fit0 = record { few = few; small = small s devices now at.over; inside = inside }

    fit1 : IsLooked s'.block half p1
    fit1 = record { few = few; small = small s devices now at.over; inside = inside }

    stretch-goes : (new : Mended) (runs : List LegRun) (left : List Stored) → StretchBy s half u n old new runs → AllWalked t now runs left → Stretched u n now left old new
    stretch-goes new runs left by walk =
        let w0 = walked-both t now left by.looks0 (by.looks1 ++ by.mends) (subst (λ (rs : List LegRun). AllWalked t now rs left) by.runs_are walk) in
        let of0 = of-quiet (read_pi_script s half) (read_pi_script s' half) p0 (stretches (fresh_on0 marks)) by.looks0 (λ a. read-quiet s half (part_of p0 a) refl quiet) by.on0 in
        let of1 = of-quiet (read_pi_script s half) (read_pi_script s' half) p1 (stretches (fresh_on1 marks)) by.looks1 (λ a. read-quiet s half (part_of p1 a) refl quiet) by.on1 in
        let l0 = looks law s' t half is-quiet now (made-over s devices now at.over) at.over.stored p0 fit0 block0 named0 (λ j l. exact (block0 j) (omega (arith, l, inside))) (fresh_on0 marks) by.looks0 w0.0 wanted0-long of0 w0.1.0 in
        let w1 = walked-both t now left by.looks1 by.mends (subst (λ (x : List Stored). AllWalked t x (by.looks1 ++ by.mends) left) l0.left_is w0.1.1) in
        let l1 = looks law s' t half is-quiet now (made-over s devices now at.over) at.over.stored p1 fit1 block1 named1 (λ j l. exact (block1 j) (omega (arith, l, inside))) (fresh_on1 marks) by.looks1 w1.0 wanted1-long of1 w1.1.0 in
        let last = subst (λ (x : List Stored). AllWalked t x by.mends left) l1.left_is w1.1.1 in
        let need : by.needs ≡ all =
        by.needs_are ∙ (λ i. needs_by ((l0.good_are ∙ goods0) i) ((l1.good_are ∙ goods1) i)) ∙ needs-same s.block (good0 q half u n r) (good1 q half u n r) in
        let c = all-count in
        let mends = mends-go s t half quiet is-quiet (small s devices now at.over) (shapes_of now) n u all now left by.mends (omega (arith, c, inside)) all-fit refl (subst (λ (ns : List Need). AreMends s half n u ns by.mends) need by.mends_are) last in
        let done : stand left new ≡ after_due q half u all r =
        ap (λ (d : Mended). stand left d) by.new_is
        ∙ (λ i. record {
          blocks = mends.blocks i;
          marks = marks_mended u (need i) (mends.whys i) old.marks;
          repaired = old.repaired + accepted_of (mends.whys i);
          lost = old.lost + lost_of (need i);
        }) in
        let is : stand left new ≡ repair_from q half u n r = done ∙ sym ((stretch_is m half u n r (legs s devices now at.over) inside).writes) in
        let keeps = steady_keeps m half (blocks_told now) u n r (legs s devices now at.over) (sizes s devices now at.over) inside (λ c. refl) in
        record {
          is = is;
          shapes = mends.shapes;
          at = record {
            over = record {
              bound = bound;
              units = at.over.units ∙ ap (λ (xs : List UnitSpec). map info_of xs) (sym mends.shapes);
              stored = still-stored now left mends.shapes (subst (λ (bs : List (List ℕ)). KeepsSizes (blocks_told now) bs) (sym (ap (λ (x : WalkedRepair). x.blocks) is)) keeps) at.over.stored;
            };
            marked = ap (λ (d : Mended). length d.marks) by.new_is ∙ marks-long u by.needs (whys_by by.mends) old.marks ∙ at.marked;
          };
        }

  -- ---- all stretches

  -- so many blocks lie in `many` stretches from u on
  abbrev blocks-in : (u many : ℕ) → ℕ
  blocks-in u many = min (128 * many) (half - u)

  then-more : (q : Setting) (u many : ℕ) (r : WalkedRepair) → 128 * suc many < (half - u) + 128 →
      repair_from q half (u + 128) (blocks-in (u + 128) many) (repair_from q half u (min 128 (half - u)) r) ≡ repair_from q half u (blocks-in u (suc many)) r
  then-more q u zero r l =
      let a : blocks-in (u + 128) 0 ≡ 0 = omega arith in
      let b : min 128 (half - u) ≡ blocks-in u 1 = omega arith in
      ap (λ k. repair_from q half (u + 128) k (repair_from q half u (min 128 (half - u)) r)) a ∙ ap (λ k. repair_from q half u k r) b
  then-more q u (suc many) r l =
      let a : min 128 (half - u) ≡ 128 = omega (arith, l) in
      let b : 128 + blocks-in (u + 128) (suc many) ≡ blocks-in u (suc (suc many)) = omega (arith, l) in
      ap (λ k. repair_from q half (u + 128) (blocks-in (u + 128) (suc many)) (repair_from q half u k r)) a
      ∙ sym (repair_join q half u 128 (blocks-in (u + 128) (suc many)) r) ∙ ap (λ k. repair_from q half u k r) b

  record Repaired (u many : ℕ) (now left : List Stored) (old new : Mended) : Type 0 where
    is : stand left new ≡ repair_from (steady (mirror_setting s devices now)) half u (blocks-in u many) (stand now old)
    shapes : shapes_of left ≡ shapes_of now

  all-go : (u many : ℕ) (now left : List Stored) (old new : Mended) (runs : List LegRun) → 128 * many < (half - u) + 128 → IsAt now old → RepairBy s half u many old new runs → AllWalked t now runs left →
      Repaired u many now left old new
  all-go u zero now left old new runs l at by walk =
      let none : left ≡ now = subst (λ (rs : List LegRun). AllWalked t now rs left) by.1 walk in
      let z : 0 ≡ blocks-in u 0 = omega arith in
      record { is = (λ i. stand (none i) (by.0 i)) ∙ ap (λ k. repair_from (steady (mirror_setting s devices now)) half u k (stand now old)) z; shapes = ap shapes_of none }
  all-go u (suc many) now left old new runs l at by walk =
      let next = by.0 in
      let first = by.1.0 in
      let later = by.1.1.0 in
      let w = walked-both t now left first later (subst (λ (rs : List LegRun). AllWalked t now rs left) by.1.1.1.0 walk) in
      let one = stretch-goes u (min 128 (half - u)) (omega (arith, l)) (omega arith) now old at next first w.0 by.1.1.1.1.0 w.1.0 in
      let rest = all-go (u + 128) many w.0 left next new later (omega (arith, l)) one.at by.1.1.1.1.1 w.1.1 in
      let q = steady (mirror_setting s devices now) in
      let same : mirror_setting s devices w.0 ≡ mirror_setting s devices now = ap (λ (xs : List UnitSpec). setting_of s t xs none_fails) one.shapes in
      record {
        is = rest.is ∙ (λ i. repair_from (steady (same i)) half (u + 128) (blocks-in (u + 128) many) (one.is i)) ∙ then-more q u many (stand now old) l;
        shapes = rest.shapes ∙ one.shapes;
      }

  pub repair-goes : (us now left : List Stored) (sides : Sides) (replies : List Reply) (new : Mended) (runs : List LegRun) → devices ≡ map info_of (shapes_of now) → AreStored now → length sides.marks ≡ half
      → StandsAt s devices us sides replies now → RepairBy s half 0 (stretches_in half) (record { marks = sides.marks; repaired = 0; lost = 0 }) new runs → AllWalked t now runs left
      → IsRepairedAs s devices us (length replies) new.marks new.repaired new.lost left
  repair-goes us now left sides replies new runs units stored marked stands by walk =
      let at : IsAt now (record { marks = sides.marks; repaired = 0; lost = 0 }) = record { over = record { bound = bound; units = units; stored = stored }; marked = marked } in
      let h = all-go 0 (stretches_in half) now left (record { marks = sides.marks; repaired = 0; lost = 0 }) new runs (omega arith) at by walk in
      let same : mirror_setting s devices now ≡ mirror_setting s devices us = ap (λ (xs : List UnitSpec). setting_of s t xs none_fails) stands.shapes in
      let long : blocks-in 0 (stretches_in half) ≡ half = omega arith in
      let is : stand left new ≡ mirror_repair (mirror_setting s devices us) half (walked s devices us (length replies)) =
      h.is ∙ (λ i. repair_from (steady (same i)) half 0 (long i) (record { blocks = stands.blocks i; marks = stands.marks i; repaired = 0; lost = 0 })) in
      record {
        shapes = h.shapes ∙ stands.shapes;
        marks_are = ap (λ (x : WalkedRepair). x.marks) is;
        blocks = ap (λ (x : WalkedRepair). x.blocks) is;
        repaired_is = ap (λ (x : WalkedRepair). x.repaired) is;
        lost_is = ap (λ (x : WalkedRepair). x.lost) is;
      }
