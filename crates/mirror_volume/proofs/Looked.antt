-- The requests of a repair's look at a leg, done at the target: what is good of each block there.
use Rattle.std.proofs.Common.{◌≡◌, ◌<◌, ◌≤◌, ℕ, zero, suc, ◌+◌, ◌*◌, Bool, true, false, ◌&&◌, if◌then◌else◌, is_none, List, [], ◌∷◌, ◌++◌, length, map, replicate, take, drop, Option, Some, None, refl, sym, ap, subst, ◌∙◌, arith}
use Rattle.std.specs.Prelude.{IfOk, Result, Ok, Err}
use Rattle.std.proofs.lemmas.List.{drop_at, length-drop, length-replicate, length-take-le, take_at}
use Rattle.std.proofs.Math.Nat.{mul-le-mul_right}
use Rattle.page_pool.specs.Cells.{flat}
use Rattle.pi_tuple.specs.Tuples.{tuple_in}
use Rattle.bio_core.specs.declared.fate.Why.{Why}
use Rattle.bio_core.specs.declared.fate.Why.TheVariants.{Adapter, App, Block as ByOwner, Medium, Refused, Short, Target}
use Rattle.rig_api.specs.Log.{LogEntry}
use Rattle.rig_discovery.specs.Discovery.{info_of}
use Rattle.rig_api.specs.Target.{Stored}
use Rattle.stack_ops.specs.declared.reply.Reply.{Reply}
use Rattle.volume_table.specs.Tables.{MadeFor, Table}
use Rattle.dix_adapter.specs.Ways.{blocks_told, shapes_of}
use Rattle.walk_laws.specs.Past.{Brought, brought_by}
use Rattle.walk_laws.specs.Settings.{Block, Setting}
use Rattle.walk_laws.specs.Steps.{each_from}
use Rattle.walk_laws.proofs.InSteps.{each_length}
use Rattle.script_text.specs.declared.script.Script.{Script}
use Rattle.mirror_volume.specs.LegsPassed.{HasWalked, AreStored}
use Rattle.mirror_laws.specs.OnLegs.{data_read, landed_by, why_of, whys_read}
use Rattle.mirror_laws.specs.Repair.{good, reading}
use Rattle.mirror_volume.specs.declared.piece.Piece.{Piece}
use Rattle.mirror_volume.specs.Inner.{first_label, first_virt, pages_for, read_pi_script}
use Rattle.mirror_volume.specs.Legs.{ReadPiOnLeg, blocks_of, by_app, mirror_setting, tuple_landed, tuples_read}
use Rattle.mirror_volume.specs.MirrorScript.{IsMirrorScript, IsPieceWithTuples}
use Rattle.mirror_volume.specs.Asked.{AreOf, bytes_after, found_after, part_of, pasted, stretches}
use Rattle.mirror_volume.specs.LegRuns.{AllWalked, LegRun, found_by, pool_of, replies_of}
use Rattle.mirror_volume.specs.Mending.{delivered, goods, looked, tuples_after}
use Rattle.mirror_volume.proofs.Flat.{AllLong, flat-pasted, flat-zeros, long-each, long-zeros, pasted-long}
use Rattle.mirror_volume.proofs.OneLeg.{AllInside, all-inside, blocks-are, data-flat, map-each, same-units}
use Rattle.mirror_volume.proofs.Painting.{all-stretches, chosen, painted}
use Rattle.mirror_volume.proofs.Replied.{found-last}

-- What a leg's law says of a read with tuples.
abbrev pub LookLaw : Type 0
LookLaw = (s : Script) (t : Table) (half : ℕ) (p : Piece) (us left : List Stored) (pool : List (List ℕ)) (log : List LogEntry) (replies : List Reply)
    → IsMirrorScript s t half → IsPieceWithTuples s.block half p → MadeFor t (map info_of (shapes_of us)) s.block → AreStored us → HasWalked (read_pi_script s half p) t us left pool log replies
    → ReadPiOnLeg s t half p us left pool replies

-- ---- what is good of a block

-- of the frame that is good its data and its application tag
abbrev pub taken : (size : ℕ) → Option (List ℕ) → Option Brought
taken size None = None
taken size (Some frame) = Some (brought_by size frame)

-- of each wanted block, by what comes of it, from place `at` on
abbrev pub each_good : (size : ℕ) (came : ℕ → Result (List ℕ) Why) (at : ℕ) → List Bool → List (Option Brought)
each_good size came at [] = []
each_good size came at (w ∷ wanted) = taken size (good w (came at)) ∷ each_good size came (suc at) wanted

never-found : (why : Why) → is_none (by_app (Some why)) ≡ false
never-found (Adapter check) = refl
never-found (Target check) = refl
never-found (ByOwner check) = refl
never-found (App check) = refl
never-found Medium = refl
never-found (Refused key asc ascq) = refl
never-found Short = refl

-- a tuple's tag doesn't depend on what stands behind its eight bytes
tag-of : (tuple rest : List ℕ) → length tuple ≡ 8 → (tuple_in (tuple ++ rest)).app ≡ (tuple_in tuple).app
tag-of [] rest e = absurd (omega (arith, e))
tag-of (a ∷ []) rest e = absurd (omega (arith, e))
tag-of (a ∷ b ∷ []) rest e = absurd (omega (arith, e))
tag-of (a ∷ b ∷ c ∷ []) rest e = absurd (omega (arith, e))
tag-of (a ∷ b ∷ c ∷ d ∷ tuple) rest e = refl

-- what lands of a block, and what was found of it, where it is wanted
abbrev landed-if : (size : ℕ) → Bool → Result (List ℕ) Why → List ℕ
landed-if size w came = if w then landed_by size came else replicate size 0

abbrev tuple-if : (size : ℕ) → Bool → Result (List ℕ) Why → List ℕ
tuple-if size w came = if w then tuple_landed size came else replicate 8 0

abbrev IsExact : (size : ℕ) → Result (List ℕ) Why → Type 0
IsExact size came = IfOk came (λ f. length f ≡ size + 8)

lands-long : (size : ℕ) (came : Result (List ℕ) Why) → IsExact size came → length (landed_by size came) ≡ size
lands-long size (Ok frame) h = length-take-le size frame (omega (arith, h))
lands-long size (Err why) h = length-replicate {A = ℕ} size 0

tuple-long : (size : ℕ) (came : Result (List ℕ) Why) → IsExact size came → length (tuple_landed size came) ≡ 8
tuple-long size (Ok frame) h = let d = length-drop size frame in omega (arith, d, h)
tuple-long size (Err why) h = refl

landed-if-long : (size : ℕ) (w : Bool) (came : Result (List ℕ) Why) → IsExact size came → length (landed-if size w came) ≡ size
landed-if-long size true came h = lands-long size came h
landed-if-long size false came h = length-replicate {A = ℕ} size 0

tuple-if-long : (size : ℕ) (w : Bool) (came : Result (List ℕ) Why) → IsExact size came → length (tuple-if size w came) ≡ 8
tuple-if-long size true came h = tuple-long size came h
tuple-if-long size false came h = refl

one-good : (size : ℕ) (w : Bool) (came : Result (List ℕ) Why) (bytes tuples : List ℕ) → IsExact size came →
    (if w && is_none (if w then by_app (why_of came) else None) then Some (record { body = take size (landed-if size w came ++ bytes); app = (tuple_in (tuple-if size w came ++ tuples)).app }) else None)
    ≡ taken size (good w came)
one-good size true (Ok frame) bytes tuples h =
    let l : length (take size frame) ≡ size = lands-long size (Ok frame) h in
    let body : take size (take size frame ++ bytes) ≡ take size frame = take_at (take size frame) bytes size l in
    let app = tag-of (drop size frame) tuples (tuple-long size (Ok frame) h) in
    λ i. Some (record { body = body i; app = app i })
one-good size true (Err why) bytes tuples h =
    ap (λ (c : Bool). if c then Some (record { body = take size (replicate size 0 ++ bytes); app = (tuple_in (replicate 8 0 ++ tuples)).app }) else None) (never-found why)
one-good size false came bytes tuples h = refl

-- so it is of all of them
all-good : (size : ℕ) (came : ℕ → Result (List ℕ) Why) (at : ℕ) (wanted : List Bool) → ((j : ℕ) → at ≤ j → j < at + length wanted → IsExact size (came j)) →
    goods size (delivered wanted (chosen (λ j. by_app (why_of (came j))) at wanted (replicate (length wanted) None)))
    (flat (chosen (λ j. landed_by size (came j)) at wanted (replicate (length wanted) (replicate size 0)))) (flat (chosen (λ j. tuple_landed size (came j)) at wanted (replicate (length wanted) (replicate 8 0))))
    ≡ each_good size came at wanted
all-good size came at [] h = refl
all-good size came at (w ∷ wanted) h =
    let here = h at (omega arith) (omega arith) in
    let bytes = flat (chosen (λ j. landed_by size (came j)) (suc at) wanted (replicate (length wanted) (replicate size 0))) in
    let tuples = flat (chosen (λ j. tuple_landed size (came j)) (suc at) wanted (replicate (length wanted) (replicate 8 0))) in
    let found = chosen (λ j. by_app (why_of (came j))) (suc at) wanted (replicate (length wanted) None) in
    let a : drop size (landed-if size w (came at) ++ bytes) ≡ bytes = drop_at (landed-if size w (came at)) bytes size (landed-if-long size w (came at) here) in
    let b : drop 8 (tuple-if size w (came at) ++ tuples) ≡ tuples = drop_at (tuple-if size w (came at)) tuples 8 (tuple-if-long size w (came at) here) in
    let first = one-good size w (came at) bytes tuples here in
    let rest = (λ i. goods size (delivered wanted found) (a i) (b i)) ∙ all-good size came (suc at) wanted (λ j l g. h j (omega (arith, l)) (omega (arith, g))) in
    λ i. first i ∷ rest i

tuples-flat : (m : Setting) (bs : List Block) (blocks : List (List ℕ)) → tuples_read m bs blocks ≡ flat (map (λ b. tuple_landed m.size (reading m b blocks)) bs)
tuples-flat m [] blocks = refl
tuples-flat m (b ∷ bs) blocks = ap (λ z. tuple_landed m.size (reading m b blocks) ++ z) (tuples-flat m bs blocks)

-- ---- the requests of a leg

-- blocks of a stretch of the mirror, few enough for a request with tuples
pub record IsLooked (size half : ℕ) (p : Piece) : Type 0 where
  pub few : p.n ≤ 128
  pub small : size ≤ 4096
  pub inside : p.v + p.n ≤ half

pub looked-part : (size half : ℕ) (p : Piece) → IsLooked size half p → (a c : ℕ) → 1 ≤ c → a + c ≤ p.n → IsPieceWithTuples size half (part_of p (a, c))
looked-part size half p fit a c some within =
    let few = fit.few in
    let small = fit.small in
    let inside = fit.inside in
    let less : c * size ≤ 128 * size = mul-le-mul_right size (omega (arith, few, within)) in
    record { some = some; room = omega (arith, less, small, few, within); inside = omega (arith, inside, within) }

module _ (law : LookLaw) (s : Script) (t : Table) (half : ℕ) (is : IsMirrorScript s t half) (us : List Stored) (made : MadeFor t (map info_of (shapes_of us)) s.block) (stored : AreStored us)
    (p : Piece) (fit : IsLooked s.block half p) (block : ℕ → Block)
    (named : (a c j : ℕ) → record { op = p.op; k = first_label (part_of p (a, c)) + j; virt = first_virt half (part_of p (a, c)) + j } ≡ block (a + j)) where
  abbrev leg : Setting
  leg = mirror_setting s t us

  abbrev pub came : ℕ → Result (List ℕ) Why
  came j = reading leg (block j) (blocks_told us)

  abbrev pub finds : ℕ → Option Why
  finds j = by_app (why_of (came j))

  abbrev pub lands : ℕ → List ℕ
  lands j = landed_by s.block (came j)

  abbrev pub brings : ℕ → List ℕ
  brings j = tuple_landed s.block (came j)

  -- the request of a stretch
  record PartLook (a c : ℕ) (left : List Stored) (run : LegRun) : Type 0 where
    pub left_is : left ≡ us
    pub found : found_by c (replies_of run) ≡ each_from a c finds
    pub landed : take (c * s.block) (flat (pool_of run)) ≡ flat (each_from a c lands)
    pub tuples : take (c * 8) (drop (4096 * pages_for (c * s.block)) (flat (pool_of run))) ≡ flat (each_from a c brings)

  part-look : (a c : ℕ) (left : List Stored) (run : LegRun) → 1 ≤ c → a + c ≤ p.n → run.own ≡ read_pi_script s half (part_of p (a, c)) → HasWalked run.own t us left (pool_of run) run.records (replies_of run) → PartLook a c left run
  part-look a c left run some within own w =
      let mine = subst (λ (x : Script). HasWalked x t us left (pool_of run) run.records (replies_of run)) own w in
      let r = law s t half (part_of p (a, c)) us left (pool_of run) run.records (replies_of run) is (looked-part s.block half p fit a c some within) made stored mine in
      let bs = blocks-are half p block named a c in
      let whys : map by_app (whys_read leg (blocks_of half (part_of p (a, c))) (blocks_told us)) ≡ each_from a c finds =
      ap (λ (xs : List Block). map by_app (whys_read leg xs (blocks_told us))) bs ∙ ap (map by_app) (map-each (λ b. why_of (reading leg b (blocks_told us))) a c block)
      ∙ map-each by_app a c (λ j. why_of (came j)) in
      record {
        left_is = same-units us left w.shapes r.blocks;
        found = ap (found_by c) r.replies_are
            ∙ found-last c zero (map by_app (whys_read leg (blocks_of half (part_of p (a, c))) (blocks_told us))) (ap length whys ∙ each_length a c finds) ∙ whys;
        landed = r.landed ∙ ap (λ (xs : List Block). data_read leg xs (blocks_told us)) bs ∙ data-flat leg (each_from a c block) (blocks_told us)
            ∙ ap flat (map-each (λ b. landed_by s.block (reading leg b (blocks_told us))) a c block);
        tuples = r.tuples ∙ ap (λ (xs : List Block). tuples_read leg xs (blocks_told us)) bs ∙ tuples-flat leg (each_from a c block) (blocks_told us)
            ∙ ap flat (map-each (λ b. tuple_landed s.block (reading leg b (blocks_told us))) a c block);
      }

  -- the requests of all stretches
  record LegLook (ss : List (ℕ × ℕ)) (runs : List LegRun) (left : List Stored) (found : List (Option Why)) (xs ys : List (List ℕ)) : Type 0 where
    pub left_is : left ≡ us
    pub found_is : found_after ss runs found ≡ painted finds ss found
    pub bytes_are : bytes_after s.block ss runs (flat xs) ≡ flat (painted lands ss xs)
    pub tuples_are : tuples_after s.block ss runs (flat ys) ≡ flat (painted brings ss ys)

  module _ (whole : (j : ℕ) → j < p.n → IsExact s.block (came j)) where
    leg-look : (ss : List (ℕ × ℕ)) (runs : List LegRun) (left : List Stored) (found : List (Option Why)) (xs ys : List (List ℕ)) → AllInside p.n ss → AreOf (read_pi_script s half) p ss runs → AllWalked t us runs left →
        AllLong s.block xs → AllLong 8 ys → LegLook ss runs left found xs ys
    leg-look [] [] left found xs ys inside of all long eight = record { left_is = all; found_is = refl; bytes_are = refl; tuples_are = refl }
    leg-look [] (r ∷ runs) left found xs ys inside of all long eight = absurd of
    leg-look (q ∷ ss) [] left found xs ys inside of all long eight = absurd of
    leg-look (q ∷ ss) (r ∷ runs) left found xs ys inside of all long eight =
        let within = inside.0.1 in
        let one = part-look q.0 q.1 all.0 r inside.0.0 within of.0 all.1.0 in
        let each = each_from q.0 q.1 lands in
        let its = each_from q.0 q.1 brings in
        let each-long : AllLong s.block each = long-each s.block q.0 q.1 lands (λ j l. lands-long s.block (came j) (whole j (omega (arith, l, within)))) in
        let its-long : AllLong 8 its = long-each 8 q.0 q.1 brings (λ j l. tuple-long s.block (came j) (whole j (omega (arith, l, within)))) in
        let behind = leg-look ss runs left (pasted q.0 (each_from q.0 q.1 finds) found) (pasted q.0 each xs) (pasted q.0 its ys) inside.1 of.1
        (subst (λ (z : List Stored). AllWalked t z runs left) one.left_is all.1.1) (pasted-long s.block q.0 each xs each-long long) (pasted-long 8 q.0 its ys its-long eight) in
        record {
          left_is = behind.left_is;
          found_is = ap (λ z. found_after ss runs (pasted q.0 z found)) one.found ∙ behind.found_is;
          bytes_are = ap (λ z. bytes_after s.block ss runs (pasted (q.0 * s.block) z (flat xs))) one.landed
              ∙ ap (bytes_after s.block ss runs) (flat-pasted s.block q.0 each xs each-long long) ∙ behind.bytes_are;
          tuples_are = ap (λ z. tuples_after s.block ss runs (pasted (q.0 * 8) z (flat ys))) one.tuples
              ∙ ap (tuples_after s.block ss runs) (flat-pasted 8 q.0 its ys its-long eight) ∙ behind.tuples_are;
        }

    -- what is good of each block of the leg
    pub record Looks (wanted : List Bool) (runs : List LegRun) (left : List Stored) : Type 0 where
      pub left_is : left ≡ us
      pub good_are : looked s.block p.n wanted runs ≡ each_good s.block came 0 wanted

    pub looks : (wanted : List Bool) (runs : List LegRun) (left : List Stored) → length wanted ≡ p.n → AreOf (read_pi_script s half) p (stretches wanted) runs → AllWalked t us runs left → Looks wanted runs left
    looks wanted runs left e of all =
        let n = p.n in
        let ss = stretches wanted in
        let nones : List (Option Why) = replicate n None in
        let xs = replicate n (replicate s.block 0) in
        let ys = replicate n (replicate 8 0) in
        let inside : AllInside n ss = subst (λ k. AllInside k ss) e (all-inside wanted) in
        let all-looks = leg-look ss runs left nones xs ys inside of all (long-zeros s.block n) (long-zeros 8 n) in
        let found = all-looks.found_is ∙ all-stretches finds wanted nones (length-replicate n None ∙ sym e) in
        let bytes = ap (bytes_after s.block ss runs) (flat-zeros s.block n (n * s.block) refl) ∙ all-looks.bytes_are ∙ ap flat (all-stretches lands wanted xs (length-replicate n (replicate s.block 0) ∙ sym e)) in
        let tuples = ap (tuples_after s.block ss runs) (flat-zeros 8 n (n * 8) refl) ∙ all-looks.tuples_are ∙ ap flat (all-stretches brings wanted ys (length-replicate n (replicate 8 0) ∙ sym e)) in
        record {
          left_is = all-looks.left_is;
          good_are =
              (λ i. goods s.block (delivered wanted (found i)) (bytes i) (tuples i))
              ∙ ap (λ (k : ℕ). goods s.block (delivered wanted (chosen finds 0 wanted (replicate k None))) (flat (chosen lands 0 wanted (replicate k (replicate s.block 0)))) (flat (chosen brings 0 wanted (replicate k (replicate 8 0))))) (sym e)
              ∙ all-good s.block came 0 wanted (λ j l g. whole j (omega (arith, g, e)));
        }
