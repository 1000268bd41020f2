-- A read of a mirror, done at the target on leg 0 and then on leg 1, is that of its walk.
use Rattle.std.proofs.Common.{◌≡◌, ◌<◌, ℕ, suc, ◌+◌, ◌*◌, Bool, true, false, ◌||◌, List, [], ◌∷◌, ◌++◌, length, map, get_or, take, drop, replicate, Option, None, refl, sym, ap, ◌∙◌, subst, arith}
use Rattle.std.specs.Prelude.{Result}
use Rattle.std.proofs.lemmas.List.{get_or-drop, get_or-take, length-drop, length-map, length-replicate, length-take-le}
use Rattle.bio_core.specs.declared.fate.Why.{Why}
use Rattle.page_pool.specs.declared.segs.Seg.{Seg}
use Rattle.page_pool.specs.Cells.{flat, scatter}
use Rattle.page_pool.specs.Pages.{AreWhole, Wrote}
use Rattle.page_pool.specs.Places.{PageByte, places_in}
use Rattle.page_pool.specs.Walking.{AllStandIn}
use Rattle.page_pool.proofs.Celled.{wrote-cells}
use Rattle.page_pool.proofs.Spreads.{range-all}
use Rattle.range_gate.specs.Cells.{cells_of}
use Rattle.rig_api.specs.Target.{Stored}
use Rattle.volume_table.specs.declared.device.DeviceInfo.{DeviceInfo}
use Rattle.volume_table.specs.Tables.{Table}
use Rattle.dix_adapter.specs.Ways.{blocks_told, shapes_of}
use Rattle.block_path.specs.Acts.{State}
use Rattle.stack_ops.specs.declared.op.Op.TheVariants.{Fetch}
use Rattle.stack_ops.specs.declared.reply.Reply.{Reply}
use Rattle.walk_laws.specs.ScriptWalk.{bad_from, whole_or_bad}
use Rattle.walk_laws.specs.Settings.{Block, Setting}
use Rattle.walk_laws.specs.Steps.{each_from}
use Rattle.script_text.specs.declared.script.Script.{Script}
use Rattle.mirror_volume.specs.LegsPassed.{table_of}
use Rattle.mirror_laws.specs.Mirror.{fresh, marks_of}
use Rattle.mirror_laws.specs.OnLegs.{all_landed, come, comes_from, landed_by, why_of}
use Rattle.mirror_laws.specs.Repair.{reading}
use Rattle.mirror_laws.specs.declared.marks.Marks.{Marks}
use Rattle.mirror_laws.proofs.ReadByLegs.{reads_by_legs}
use Rattle.mirror_volume.specs.declared.piece.Piece.{Piece}
use Rattle.mirror_volume.specs.Inner.{first_label, first_virt}
use Rattle.mirror_volume.specs.MirrorScript.{IsPiece}
use Rattle.mirror_volume.specs.Asked.{bytes_after, first_listed, fresh_on0, last_listed, part_of, rest_wanted, stretches}
use Rattle.mirror_volume.specs.LegRuns.{AllWalked, LegRun}
use Rattle.mirror_volume.specs.OnOps.{FetchedBy, Sides, whole_request}
use Rattle.mirror_volume.specs.Standing.{IsMirrorOver, half_of, mirror_setting}
use Rattle.mirror_volume.proofs.Coming.{NeverTwo, all-data, all-listed, comes-each, each_comes, found_first, found_last, land0, land1, landed_first, why0, why1}
use Rattle.mirror_volume.proofs.Flat.{flat-zeros, long-zeros}
use Rattle.mirror_volume.proofs.Ground.{delivers, fits, legs, made-over}
use Rattle.mirror_volume.proofs.OneLeg.{AllInside, ReadLaw, all-inside, landed-long, leg-read}
use Rattle.mirror_volume.proofs.Painting.{all-stretches, chosen, painted}
use Rattle.mirror_volume.proofs.Requests.{IsRequest, whole-piece}
use Rattle.mirror_volume.proofs.Wrote.{Goes, standing}

-- ---- lengths, and marks

pub length-chosen : {X : Type 0} (f : ℕ → X) (at : ℕ) (wanted : List Bool) (xs : List X) → length xs ≡ length wanted → length (chosen f at wanted xs) ≡ length wanted
length-chosen f at [] xs e = refl
length-chosen f at (w ∷ wanted) [] e = absurd (omega (arith, e))
length-chosen f at (w ∷ wanted) (x ∷ xs) e = ap suc (length-chosen f (suc at) wanted xs (omega (arith, e)))

pub rest-long : (marks : List Marks) (found : List (Option Why)) → length found ≡ length marks → length (rest_wanted marks found) ≡ length marks
rest-long [] found e = refl
rest-long (k ∷ marks) [] e = absurd (omega (arith, e))
rest-long (k ∷ marks) (why ∷ found) e = ap suc (rest-long marks found (omega (arith, e)))

never-all : (marks : List Marks) → ((j : ℕ) → j < length marks → ((get_or marks j fresh).leg0 || (get_or marks j fresh).leg1) ≡ true) → NeverTwo marks
never-all [] h = tt
never-all (k ∷ marks) h = (h 0 (omega arith), never-all marks (λ j l. h (suc j) (omega (arith, l))))

all-flat : (size : ℕ) (rs : List (Result (List ℕ) Why)) → flat (map (landed_by size) rs) ≡ all_landed size rs
all-flat size [] = refl
all-flat size (r ∷ rs) = ap (λ z. landed_by size r ++ z) (all-flat size rs)

pub walked-both : (t : Table) (us left : List Stored) (runs later : List LegRun) → AllWalked t us (runs ++ later) left → (next : List Stored) × (AllWalked t us runs next × AllWalked t next later left)
walked-both t us left [] later h = (us, (refl, h))
walked-both t us left (r ∷ runs) later h =
    let rest = walked-both t h.0 left runs later h.1.1 in
    (rest.0, ((h.0, (h.1.0, rest.1.0)), rest.1.1))

module _ (law : ReadLaw) (s : Script) (devices : List DeviceInfo) (now : List Stored) (over : IsMirrorOver s devices now) (rest : State) (old : Sides) (whole : AreWhole old.pool) (paged : length old.pool ≡ s.pages)
    (count : ℕ → ℕ) (i v n : ℕ) (body : List Seg) (req : IsRequest s (half_of s devices) v n body) (counted : count i ≡ n)
    (marked : length old.marks ≡ half_of s devices) (never : (u : ℕ) → ((marks_of old.marks u).leg0 || (marks_of old.marks u).leg1) ≡ true) where
  abbrev half : ℕ
  half = half_of s devices

  abbrev t : Table
  t = table_of s devices

  abbrev setting : Setting
  setting = mirror_setting s devices now

  -- its blocks on both legs, and what comes of them
  abbrev block0 : ℕ → Block
  block0 j = record { op = i; k = j; virt = v + j }

  abbrev block1 : ℕ → Block
  block1 j = record { op = i; k = n + j; virt = half + (v + j) }

  abbrev f0 : ℕ → Result (List ℕ) Why
  f0 j = reading setting (block0 j) (blocks_told now)

  abbrev f1 : ℕ → Result (List ℕ) Why
  f1 j = reading setting (block1 j) (blocks_told now)

  abbrev p0 : Piece
  p0 = whole_request i v n

  abbrev p1 : Piece
  p1 = record (whole_request i v n) { on1 = true }

  named0 : (a c j : ℕ) → record { op = i; k = first_label (part_of p0 (a, c)) + j; virt = first_virt half (part_of p0 (a, c)) + j } ≡ block0 (a + j)
  named0 a c j =
      let x : (0 + a) + j ≡ a + j = omega arith in
      let y : (v + a) + j ≡ v + (a + j) = omega arith in
      ap (λ (k : ℕ). record { op = i; k = k; virt = (v + a) + j }) x ∙ ap (λ (u : ℕ). record { op = i; k = a + j; virt = u }) y

  named1 : (a c j : ℕ) → record { op = i; k = first_label (part_of p1 (a, c)) + j; virt = first_virt half (part_of p1 (a, c)) + j } ≡ block1 (a + j)
  named1 a c j =
      let x : (n + (0 + a)) + j ≡ n + (a + j) = omega arith in
      let y : (half + (v + a)) + j ≡ half + (v + (a + j)) = omega arith in
      ap (λ (k : ℕ). record { op = i; k = k; virt = (half + (v + a)) + j }) x ∙ ap (λ (u : ℕ). record { op = i; k = n + (a + j); virt = u }) y

  fit0 : IsPiece s.block half p0
  fit0 = whole-piece s half i v n body req

  fit1 : IsPiece s.block half p1
  fit1 = record { some = fit0.some; room = fit0.room; inside = fit0.inside }

  lands0 : (j : ℕ) → j < n → length (landed_by s.block (f0 j)) ≡ s.block
  lands0 j l =
      let g = (fits s devices now over).long in
      let w = req.inside in
      landed-long s.block (f0 j) (λ frame e. delivers s devices now over (block0 j) frame (omega (arith, l, g, w)) e)

  lands1 : (j : ℕ) → j < n → length (landed_by s.block (f1 j)) ≡ s.block
  lands1 j l =
      let g = (fits s devices now over).long in
      let w = req.inside in
      landed-long s.block (f1 j) (λ frame e. delivers s devices now over (block1 j) frame (omega (arith, l, g, w)) e)

  -- ---- their marks

  abbrev marks : List Marks
  marks = take n (drop v old.marks)

  marks-long : length marks ≡ n
  marks-long = let a = length-drop v old.marks in let w = req.inside in length-take-le n (drop v old.marks) (omega (arith, a, marked, w))

  read-at : (j : ℕ) → j < length marks → get_or marks j fresh ≡ marks_of old.marks (v + (0 + j))
  read-at j l =
      let z : j ≡ 0 + j = omega arith in
      get_or-take n (drop v old.marks) j fresh (omega (arith, l, marks-long)) ∙ get_or-drop v old.marks j fresh ∙ ap (λ k. get_or old.marks (v + k) fresh) z

  never-two : NeverTwo marks
  never-two = never-all marks (λ j l. subst (λ (k : Marks). (k.leg0 || k.leg1) ≡ true) (sym (read-at j l)) (never (v + (0 + j))))

  comes : each_comes f0 f1 0 marks ≡ comes_from setting half i n v 0 n old.marks (blocks_told now)
  comes = comes-each f0 f1 old.marks v 0 marks read-at ∙ ap (λ k. each_from 0 k (λ j. come (marks_of old.marks (v + j)) (f0 j) (f1 j))) marks-long

  -- ---- on leg 0

  wanted0-long : length (fresh_on0 marks) ≡ n
  wanted0-long = length-map marks (λ (k : Marks). k.leg0) ∙ marks-long

  abbrev none-found : List (Option Why)
  none-found = replicate n None

  none-long : length none-found ≡ length (fresh_on0 marks)
  none-long = length-replicate n None ∙ sym wanted0-long

  -- data of zeros
  abbrev zeros : ℕ → List (List ℕ)
  zeros k = replicate k (replicate {A = ℕ} s.block 0)

  zeros-long : (k : ℕ) → length (zeros k) ≡ k
  zeros-long k = length-replicate k (replicate {A = ℕ} s.block 0)

  first-found : painted (why0 f0 f1) (stretches (fresh_on0 marks)) (replicate n None) ≡ found_first f0 f1 0 marks
  first-found = all-stretches (why0 f0 f1) (fresh_on0 marks) (replicate n None) none-long ∙ ap (λ k. chosen (why0 f0 f1) 0 (fresh_on0 marks) (replicate k None)) (sym marks-long)

  abbrev landed : List (List ℕ)
  landed = painted (land0 f0 f1 s.block) (stretches (fresh_on0 marks)) (zeros n)

  first-landed : landed ≡ landed_first f0 f1 s.block 0 marks
  first-landed = all-stretches (land0 f0 f1 s.block) (fresh_on0 marks) (zeros n) (zeros-long n ∙ sym wanted0-long)
      ∙ ap (λ k. chosen (land0 f0 f1 s.block) 0 (fresh_on0 marks) (zeros k)) (sym marks-long)

  found-long : length (found_first f0 f1 0 marks) ≡ length marks
  found-long = length-chosen (why0 f0 f1) 0 (fresh_on0 marks) (replicate (length marks) None) (length-replicate (length marks) None ∙ marks-long ∙ sym wanted0-long) ∙ wanted0-long ∙ sym marks-long

  landed-first-long : length landed ≡ length marks
  landed-first-long =
      ap length first-landed
      ∙ length-chosen (land0 f0 f1 s.block) 0 (fresh_on0 marks) (zeros (length marks)) (zeros-long (length marks) ∙ marks-long ∙ sym wanted0-long) ∙ wanted0-long ∙ sym marks-long

  -- ---- all of it

  pub fetch-goes : (new : Sides) (runs : List LegRun) (reply : Reply) (left : List Stored) → FetchedBy s half i v n body old new runs reply → AllWalked t now runs left → Goes setting half count i (Fetch v n body) (standing rest old now) now left new reply
  fetch-goes new runs reply left w all =
      let both = walked-both t now left w.runs0 w.runs1 (subst (λ (rs : List LegRun). AllWalked t now rs left) w.runs_are all) in
      let size = s.block in
      let made = made-over s devices now over in
      let found0 = w.read.found0 in
      let one = leg-read law s t half (fits s devices now over) now made over.stored p0 fit0 block0 named0 lands0 (stretches (fresh_on0 marks)) w.runs0 both.0 (replicate n None) (zeros n)
      (subst (λ k. AllInside k (stretches (fresh_on0 marks))) wanted0-long (all-inside (fresh_on0 marks))) w.read.on0 both.1.0 (long-zeros s.block n) in
      let F0 : found0 ≡ found_first f0 f1 0 marks = w.read.found0_is ∙ one.found_is ∙ first-found in
      let wanted = rest_wanted marks found0 in
      let found0-long : length found0 ≡ length marks = ap length F0 ∙ found-long in
      let wanted-long : length wanted ≡ length marks = rest-long marks found0 found0-long in
      let two = leg-read law s t half (fits s devices now over) now made over.stored p1 fit1 block1 named1 lands1 (stretches wanted) w.runs1 left found0 landed
      (subst (λ k. AllInside k (stretches wanted)) (wanted-long ∙ marks-long) (all-inside wanted)) w.read.on1 (subst (λ (z : List Stored). AllWalked t z w.runs1 left) one.left_is both.1.1) one.long in
      let F1 : w.read.found1 ≡ found_last f0 f1 0 marks =
      w.read.found1_is ∙ two.found_is ∙ all-stretches (why1 f0 f1) wanted found0 (found0-long ∙ sym wanted-long) ∙ (λ j. chosen (why1 f0 f1) 0 (rest_wanted marks (F0 j)) (F0 j)) in
      let listed : w.listed ≡ map why_of (comes_from setting half i n v 0 n old.marks (blocks_told now)) =
      w.read.listed_is ∙ (λ j. last_listed marks (rest_wanted marks (F0 j)) (first_listed marks (F0 j)) (F1 j)) ∙ all-listed f0 f1 0 marks never-two ∙ ap (map why_of) comes in
      let bytes : w.bytes ≡ all_landed s.block (comes_from setting half i n v 0 n old.marks (blocks_told now)) =
      w.read.bytes_are
      ∙ ap (λ z. bytes_after s.block (stretches wanted) w.runs1 (bytes_after s.block (stretches (fresh_on0 marks)) w.runs0 z)) (flat-zeros s.block n (n * s.block) refl)
      ∙ ap (bytes_after s.block (stretches wanted) w.runs1) one.bytes_are
      ∙ two.bytes_are
      ∙ ap flat (all-stretches (land1 f0 f1 s.block) wanted landed (landed-first-long ∙ sym wanted-long)
      ∙ (λ j. chosen (land1 f0 f1 s.block) 0 (rest_wanted marks (F0 j)) (first-landed j)) ∙ all-data f0 f1 s.block 0 marks never-two)
      ∙ all-flat s.block (each_comes f0 f1 0 marks) ∙ ap (all_landed s.block) comes in
      let stand = subst (λ k. AllStandIn k (places_in body)) (sym paged) req.stand in
      let said = reads_by_legs setting half (legs s devices now over) count i v n body (standing rest old now) counted req.inside req.long req.distinct (delivers s devices now over) in
      record {
        pages = wrote-cells old.pool new.pool (places_in body) w.bytes whole stand (subst (λ (ps : List PageByte). Wrote old.pool new.pool ps w.bytes) (range-all body) w.pages)
            ∙ ap (λ z. scatter (cells_of body) z (flat old.pool)) bytes ∙ sym said.bytes;
        marks = w.marks ∙ sym said.marks;
        shapes = ap shapes_of two.left_is;
        blocks = ap blocks_told two.left_is ∙ sym said.blocks;
        reply_is = w.reply_is ∙ ap (λ z. whole_or_bad (bad_from 0 z)) listed ∙ sym (said.reply false);
      }
