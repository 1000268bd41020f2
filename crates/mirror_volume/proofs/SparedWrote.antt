-- A block of which nothing alters a leg, over a write of a mirror where store calls may fail.
use Rattle.std.proofs.Common.{◌≡◌, ◌<◌, ◌≤◌, ◌^◌, ℕ, ◌+◌, ◌-◌, ◌*◌, Bool, true, false, eqb, not, ◌&&◌, is_none, if◌then◌else◌, List, [], ◌∷◌, length, get_or, set, take, drop, Option, Some, None, refl, sym, ap, subst, ◌∙◌, arith}
use Rattle.std.specs.Prelude.{All, nat_le, nat_lt}
use Rattle.std.proofs.lemmas.Bool.{and_from, and_parts, false≢true, leb-true, le-leb, lt-ltb, ltb-true}
use Rattle.std.proofs.lemmas.List.{length-map, length-set}
use Rattle.page_pool.specs.declared.segs.Seg.{Seg}
use Rattle.page_pool.specs.Pages.{byte_at, bytes_in}
use Rattle.page_pool.specs.Places.{range_of, total}
use Rattle.page_pool.proofs.Placing.{length-places_in}
use Rattle.page_pool.proofs.Spreads.{range-all}
use Rattle.block_path.proofs.Cells.{AllBelow, below as all_below}
use Rattle.run_laws.proofs.Passed.{below_drop, below_take}
use Rattle.bio_core.specs.declared.fate.Why.{Why}
use Rattle.bio_core.specs.declared.fate.Why.TheVariants.{Medium}
use Rattle.rig_api.specs.Target.{Stored}
use Rattle.rig_api.specs.declared.units.UnitSpec.{UnitSpec}
use Rattle.volume_table.specs.Tables.{Table}
use Rattle.volume_table.specs.declared.device.DeviceInfo.{DeviceInfo}
use Rattle.dix_adapter.specs.Ways.{blocks_told, shapes_of}
use Rattle.stack_ops.specs.declared.op.Op.{Op}
use Rattle.stack_ops.specs.declared.op.Op.TheVariants.{Write}
use Rattle.stack_ops.specs.declared.reply.Reply.{Reply}
use Rattle.walk_laws.specs.Past.{Brought}
use Rattle.walk_laws.specs.PlainMap.{as_expected}
use Rattle.walk_laws.specs.ReadsAs.{listed_in}
use Rattle.walk_laws.specs.ScriptWalk.{bad_from, whole_or_bad}
use Rattle.walk_laws.specs.FirstLayer.{is_stored_whole}
use Rattle.walk_laws.specs.Settings.{Block, Setting}
use Rattle.walk_laws.proofs.Leaves.{leaves_whole}
use Rattle.walk_laws.specs.UnderMap.{home}
use Rattle.script_text.specs.declared.script.Script.{Script}
use Rattle.script_stack.specs.Followed.{HasFallen, none_fails, setting_of}
use Rattle.mirror_laws.specs.Mirror.{marked, marks_of}
use Rattle.mirror_laws.specs.OneGood.{on_leg}
use Rattle.mirror_laws.specs.OnLegs.{listed_written, marks_written}
use Rattle.mirror_laws.specs.declared.marks.Marks.{Marks}
use Rattle.mirror_volume.specs.LegsPassed.{table_of}
use Rattle.mirror_volume.specs.declared.piece.Piece.{Piece}
use Rattle.mirror_volume.specs.Inner.{first_label, first_virt, page_segs, pages_for, write_script}
use Rattle.mirror_volume.specs.LegRuns.{AllFallen, LegRun, found_by, pool_of, replies_of}
use Rattle.mirror_volume.specs.MirrorScript.{IsPiece}
use Rattle.mirror_volume.specs.OnOps.{Sides, WroteBy, whole_request}
use Rattle.mirror_volume.specs.Spared.{IsUnaltered, ReadsRight, fails_on_leg, has_block, named_on, names_medium, place_on, written_then}
use Rattle.mirror_volume.specs.Standing.{IsMirrorOver, half_of, mirror_setting}
use Rattle.mirror_volume.proofs.FellLegs.{Says, WroteEach}
use Rattle.mirror_volume.proofs.FellWrite.{FellWrite, fell-write}
use Rattle.mirror_volume.proofs.Free.{IsWhole}
use Rattle.mirror_volume.proofs.Requests.{IsRequest, whole-piece}
use Rattle.mirror_volume.proofs.Ground.{fits}
use Rattle.mirror_volume.proofs.SparedGround.{Altered, HasLeg, Stopped, has-later, home-inside, homes-apart}
use Rattle.mirror_volume.proofs.SparedNames.{lists-it, names-it, one-fails, rest-fails}
use Rattle.mirror_volume.proofs.SparedReads.{slice-long}
use Rattle.mirror_volume.proofs.SparedWrites.{IsFree, IsShown, IsWrittenOn, LegWrote, has-still, listed-at, marks-in, marks-out, written-at, written-on}

pub marks-kept : (v : ℕ) (whys others : List (Option Why)) (marks : List Marks) → length (marks_written v whys others marks) ≡ length marks
marks-kept v [] others marks = refl
marks-kept v (w ∷ whys) [] marks = refl
marks-kept v (w ∷ whys) (o ∷ others) marks =
    marks-kept (v + 1) whys others (set marks v (marked w o (marks_of marks v))) ∙ length-set marks v (marked w o (marks_of marks v))

-- a block of so many from v on
pub in-request : (v n u : ℕ) → has_block v n u ≡ true → (v ≤ u) × (u < v + n)
in-request v n u h = let a = and_parts (nat_le v u) (nat_lt u (v + n)) h in (leb-true v u a.0, ltb-true u (v + n) a.1)

pub request-has : (v n u j : ℕ) → j < n → v + j ≡ u → has_block v n u ≡ true
request-has v n u j l e = and_from (nat_le v u) (nat_lt u (v + n)) (le-leb v u (omega (arith, e))) (lt-ltb u (v + n) (omega (arith, e, l)))

-- What holds of block u after op k, counted from 0.
pub record Kept (s : Script) (devices : List DeviceInfo) (us : List Stored) (u : ℕ) (leg : Bool) (k : ℕ) (old new : Sides) (left : List Stored) (op : Op) (reply : Reply) (e : Brought) : Type 0 where
  pub shapes : shapes_of left ≡ shapes_of us
  pub counted : length new.marks ≡ half_of s devices
  pub has : HasLeg s devices us u leg (k + 1) (written_then s.block u op old.pool reply e) (blocks_told left) (marks_of new.marks u)
  pub reads : ReadsRight s.block u op old new reply e

module _ (s : Script) (devices : List DeviceInfo) (us : List Stored) (over : IsMirrorOver s devices us) (u : ℕ) (leg : Bool) (p : IsUnaltered s devices us u leg)
    (now : List Stored) (same : shapes_of now ≡ shapes_of us) (old : Sides) (counted : length old.marks ≡ half_of s devices) (e : Brought)
    (at-op : ℕ) (has : HasLeg s devices us u leg at-op e (blocks_told now) (marks_of old.marks u))
    (i v n : ℕ) (body : List Seg) (app : ℕ) (req : IsRequest s (half_of s devices) v n body) (below : app < 2 ^ 16)
    (right : has_block v n u ≡ true → (as_expected (mirror_setting s devices us) app ≡ true) × (eqb app 0xFFFF ≡ false))
    (free : has_block v n u ≡ true → IsFree (mirror_setting s devices us) s.block (named_on s devices leg u (Write v n body app) i))
    (shown : has_block v n u ≡ true → IsShown (mirror_setting s devices us) s.block (Altered s devices us u leg) (Stopped s devices us u leg at-op) (named_on s devices (not leg) u (Write v n body app) i)) where
  abbrev m : Setting
  m = mirror_setting s devices us

  abbrev half : ℕ
  half = half_of s devices

  abbrev t : Table
  t = table_of s devices

  abbrev size : ℕ
  size = s.block

  abbrev bytes : List ℕ
  bytes = bytes_in old.pool body 0 (total body)

  long : length (bytes_in old.pool body 0 (total body)) ≡ n * s.block
  long = length-map (range_of body 0 (total body)) (byte_at old.pool) ∙ ap length (range-all body) ∙ length-places_in body ∙ req.long

  abbrev p0 : Piece
  p0 = whole_request i v n

  abbrev p1 : Piece
  p1 = record (whole_request i v n) { on1 = true }

  fit0 : IsPiece s.block half p0
  fit0 = whole-piece s half i v n body req

  fit1 : IsPiece s.block half p1
  fit1 = record { some = fit0.some; room = fit0.room; inside = fit0.inside }

  abbrev block0 : ℕ → Block
  block0 j = record { op = i; k = j; virt = v + j }

  abbrev block1 : ℕ → Block
  block1 j = record { op = i; k = n + j; virt = half + (v + j) }

  named0 : (j : ℕ) → record { op = i; k = first_label p0 + j; virt = first_virt half p0 + j } ≡ block0 j
  named0 j = let z : 0 + j ≡ j = omega arith in λ x. record { op = i; k = z x; virt = v + j }

  named1 : (j : ℕ) → record { op = i; k = first_label p1 + j; virt = first_virt half p1 + j } ≡ block1 j
  named1 j =
      let z : (n + 0) + j ≡ n + j = omega arith in
      let y : (half + v) + j ≡ half + (v + j) = omega arith in
      λ x. record { op = i; k = z x; virt = y x }

  abbrev brought : ℕ → Brought
  brought j = record { body = take size (drop (j * size) bytes); app = app }

  -- ---- one leg

  pub record Leg (q : Piece) (block : ℕ → Block) (first left : List Stored) (r : LegRun) : Type 0 where
    pub shapes : shapes_of left ≡ shapes_of us
    pub each : WroteEach m n block brought (blocks_told first) (blocks_told left) (found_by n (replies_of r))
    pub says : Says (pages_for (n * size)) (replies_of r) (found_by n (replies_of r))

  leg0 : (r : LegRun) (left : List Stored) → r.own ≡ write_script s half p0 app bytes → HasFallen r.own t now left (pool_of r) r.records (replies_of r) → Leg p0 block0 now left r
  leg0 r left own w =
      let mine = subst (λ (x : Script). HasFallen x t now left (pool_of r) r.records (replies_of r)) own w in
      let inside = req.inside in
      let f : FellWrite s t half p0 (fits s devices us over) fit0 now app bytes long left (replies_of r) =
      fell-write s t half p0 (fits s devices us over) fit0 now app bytes long
      (λ a b l k q. (let z = homes-apart s devices us over now same (v + a) (v + b) (omega (arith, l, inside)) (omega (arith, k, inside)) q in omega (arith, z)))
      (λ a l. home-inside s devices us over now same (v + a) (omega (arith, l, inside)))
      left (pool_of r) r.records (replies_of r) mine in
      record {
        shapes = f.shapes ∙ same;
        each =
            subst (λ (b : ℕ → Block). WroteEach m n b brought (blocks_told now) (blocks_told left) (found_by n (replies_of r))) (λ x j. named0 j x)
            (subst (λ (units : List UnitSpec). WroteEach (setting_of s t units none_fails) n (λ j. record { op = i; k = first_label p0 + j; virt = first_virt half p0 + j }) brought (blocks_told now) (blocks_told left) (found_by n (replies_of r))) same
            f.wrote-each);
        says = f.says;
      }

  leg1 : (mid : List Stored) (alike : shapes_of mid ≡ shapes_of us) (r : LegRun) (left : List Stored) → r.own ≡ write_script s half p1 app bytes → HasFallen r.own t mid left (pool_of r) r.records (replies_of r) → Leg p1 block1 mid left r
  leg1 mid alike r left own w =
      let mine = subst (λ (x : Script). HasFallen x t mid left (pool_of r) r.records (replies_of r)) own w in
      let inside = req.inside in
      let f : FellWrite s t half p1 (fits s devices us over) fit1 mid app bytes long left (replies_of r) =
      fell-write s t half p1 (fits s devices us over) fit1 mid app bytes long
      (λ a b l k q. (let z = homes-apart s devices us over mid alike ((half + v) + a) ((half + v) + b) (omega (arith, l, inside)) (omega (arith, k, inside)) q in omega (arith, z)))
      (λ a l. home-inside s devices us over mid alike ((half + v) + a) (omega (arith, l, inside)))
      left (pool_of r) r.records (replies_of r) mine in
      record {
        shapes = f.shapes ∙ alike;
        each =
            subst (λ (b : ℕ → Block). WroteEach m n b brought (blocks_told mid) (blocks_told left) (found_by n (replies_of r))) (λ x j. named1 j x)
            (subst (λ (units : List UnitSpec). WroteEach (setting_of s t units none_fails) n (λ j. record { op = i; k = first_label p1 + j; virt = first_virt half p1 + j }) brought (blocks_told mid) (blocks_told left) (found_by n (replies_of r))) alike
            f.wrote-each);
        says = f.says;
      }

  -- a leg's block that failed at the medium is named
  leg-names : (q : Piece) (r : LegRun) (w : ℕ) (j : ℕ) → q.n ≡ n → r.own ≡ write_script s half q app bytes → Says (pages_for (q.n * size)) (replies_of r) (found_by n (replies_of r)) → get_or (found_by n (replies_of r)) j None ≡ Some Medium → first_virt half q + j ≡ w
      → names_medium w r.own.ops (replies_of r) ≡ true
  leg-names q r w j many own says found place =
      let pages = pages_for (q.n * size) in
      let request : Op = Write (first_virt half q) q.n (page_segs 0 pages (q.n * size)) app in
      let reply = whole_or_bad (bad_from 0 (found_by n (replies_of r))) in
      (λ x. names_medium w (ap (λ (z : Script). z.ops) own x) (says x))
      ∙ names-it w 0 pages bytes request reply (lists-it (first_virt half q) w j (found_by n (replies_of r)) found place)

  -- ---- both legs

  module _ (r0 r1 : LegRun) (mid left : List Stored) (own0 : r0.own ≡ write_script s half p0 app bytes) (own1 : r1.own ≡ write_script s half p1 app bytes)
      (l0 : Leg p0 block0 now mid r0) (l1 : Leg p1 block1 mid left r1) (are-bytes : All (λ x. x < 256) bytes) (fine : fails_on_leg (place_on s devices leg u) (r0 ∷ r1 ∷ []) ≡ false) (new : Sides)
      (moved : new.marks ≡ marks_written v (found_by n (replies_of r0)) (found_by n (replies_of r1)) old.marks) (reply : Reply)
      (replied : reply ≡ whole_or_bad (bad_from 0 (listed_written (found_by n (replies_of r0)) (found_by n (replies_of r1))))) where
    abbrev found0 : List (Option Why)
    found0 = found_by n (replies_of r0)

    abbrev found1 : List (Option Why)
    found1 = found_by n (replies_of r1)

    as-long : length (found_by n (replies_of r0)) ≡ length (found_by n (replies_of r1))
    as-long = l0.each.count ∙ sym l1.each.count

    long-marks : length new.marks ≡ half
    long-marks = ap length moved ∙ marks-kept v found0 found1 old.marks ∙ counted

    -- ---- where it has the block

    module _ (here : has_block v n u ≡ true) where
      abbrev j : ℕ
      j = u - v

      at : v + (u - v) ≡ u
      at = let z = in-request v n u here in let a = z.0 in omega (arith, a)

      under : u - v < n
      under = let z = in-request v n u here in let a = z.0 in let b = z.1 in omega (arith, a, b)

      whole : IsWhole size (brought j)
      whole = record {
        size = slice;
        below = below;
        bare = (right here).1;
      } where
        slice : length (take size (drop (j * size) bytes)) ≡ size
        slice = slice-long size n j bytes (omega (arith, long)) under

      off0 : (a : ℕ) → a < n → home m (half + (v + a)) ≡ home m (v + j) → ⊥
      off0 a l q =
          let inside = req.inside in
          let in-range = p.inside in
          let z = homes-apart s devices us over us refl (half + (v + a)) (v + j) (omega (arith, l, inside)) (omega (arith, at, in-range)) q in
          omega (arith, z, at, in-range)

      -- it is stored whole on both legs
      whole-on : (c : Bool) → is_stored_whole m (named_on s devices c u (Write v n body app) i) ≡ true
      whole-on c = by leg c (free here).whole (shown here).whole where
        by : (d c : Bool) → is_stored_whole m (named_on s devices d u (Write v n body app) i) ≡ true → is_stored_whole m (named_on s devices (not d) u (Write v n body app) i) ≡ true → is_stored_whole m (named_on s devices c u (Write v n body app) i) ≡ true
        by false false here there = here
        by false true here there = there
        by true false here there = there
        by true true here there = here

      wrote0 : LegWrote m (named_on s devices false u (Write v n body app) i) (brought j) (blocks_told left) (get_or found0 j None)
      wrote0 =
          let keep : get_or (blocks_told left) (home m (v + j)) [] ≡ get_or (blocks_told mid) (home m (v + j)) [] = l1.each.elsewhere (home m (v + j)) off0 in
          let b : block0 j ≡ named_on s devices false u (Write v n body app) i = λ x. record { op = i; k = j; virt = at x } in
          subst (λ (b : Block). LegWrote m b (brought j) (blocks_told left) (get_or found0 j None)) b
          (record {
            stores = λ q. (let a = l0.each.stores j under q in (a.0, (a.1.0, keep ∙ a.1.1 ∙ leaves_whole m (block0 j) (whole-on false) (get_or (blocks_told now) (home m (v + j)) []) a.0)));
            may = λ stored q. l0.each.may j under stored q;
          })

      wrote1 : LegWrote m (named_on s devices true u (Write v n body app) i) (brought j) (blocks_told left) (get_or found1 j None)
      wrote1 =
          let b : block1 j ≡ named_on s devices true u (Write v n body app) i = λ x. record { op = i; k = n + j; virt = half + at x } in
          subst (λ (b : Block). LegWrote m b (brought j) (blocks_told left) (get_or found1 j None)) b
          (record {
            stores = λ q. (let a = l1.each.stores j under q in (a.0, (a.1.0, a.1.1 ∙ leaves_whole m (block1 j) (whole-on true) (get_or (blocks_told mid) (home m (half + (v + j))) []) a.0)));
            may = λ stored q. l1.each.may j under stored q;
          })

      off : (c : Bool) → leg ≡ c → on_leg c (get_or found0 j None) (get_or found1 j None) ≡ Some Medium → ⊥
      off false g q =
          let fails : fails_on_leg u (r0 ∷ r1 ∷ []) ≡ true = one-fails u r0 (r1 ∷ []) (leg-names p0 r0 u j refl own0 l0.says q at) in
          false≢true (sym (subst (λ (c : Bool). fails_on_leg (place_on s devices c u) (r0 ∷ r1 ∷ []) ≡ false) g fine) ∙ fails)
      off true g q =
          let place : (half + v) + j ≡ half + u = omega (arith, at) in
          let fails : fails_on_leg (half + u) (r0 ∷ r1 ∷ []) ≡ true = rest-fails (half + u) r0 (r1 ∷ []) (one-fails (half + u) r1 [] (leg-names p1 r1 (half + u) j refl own1 l1.says q place)) in
          false≢true (sym (subst (λ (c : Bool). fails_on_leg (place_on s devices c u) (r0 ∷ r1 ∷ []) ≡ false) g fine) ∙ fails)

      wrote : (c : Bool) → LegWrote m (named_on s devices c u (Write v n body app) i) (brought j) (blocks_told left) (on_leg c (get_or found0 j None) (get_or found1 j None))
      wrote false = wrote0
      wrote true = wrote1

      octets : AllBelow 256 (take size (drop (j * size) bytes))
      octets = below_take 256 size (drop (j * size) bytes) (below_drop 256 (j * size) bytes (all_below 256 bytes are-bytes))

      written : IsWrittenOn m size half u leg (Altered s devices us u leg) (Stopped s devices us u leg at-op) (λ c. named_on s devices c u (Write v n body app) i) (λ c. refl) (brought j) whole octets (right here).0 (free here) (shown here)
          (blocks_told left) (get_or found0 j None) (get_or found1 j None) (marks_of old.marks u)
      written =
          written-on m size half u leg (Altered s devices us u leg) (Stopped s devices us u leg at-op) (λ c. named_on s devices c u (Write v n body app) i) (λ c. refl) (brought j) whole octets (right here).0 (free here) (shown here)
          (blocks_told left) (get_or found0 j None) (get_or found1 j None) (marks_of old.marks u) wrote (off leg refl)

      its-mark : marks_of new.marks u ≡ marked (get_or found0 j None) (get_or found1 j None) (marks_of old.marks u)
      its-mark =
          let inside = req.inside in
          let c = l0.each.count in
          ap (λ (ms : List Marks). marks_of ms u) moved
          ∙ ap (marks_of (marks_written v found0 found1 old.marks)) (sym at)
          ∙ marks-in v found0 found1 old.marks j as-long (omega (arith, under, c)) (omega (arith, inside, c, counted))
          ∙ ap (λ (w : ℕ). marked (get_or found0 j None) (get_or found1 j None) (marks_of old.marks w)) at

      unlisted : listed_in reply j ≡ None
      unlisted =
          ap (λ (r : Reply). listed_in r j) replied ∙ listed-at (listed_written found0 found1) j ∙ written-at found0 found1 j as-long ∙ written.unlisted

      last-is : written_then size u (Write v n body app) old.pool reply e ≡ brought j
      last-is =
          (λ x. if here x && is_none (unlisted x) then brought j else e)

      in-it : HasLeg s devices us u leg at-op (written_then size u (Write v n body app) old.pool reply e) (blocks_told left) (marks_of new.marks u)
      in-it =
          subst (λ (x : Brought). HasLeg s devices us u leg at-op x (blocks_told left) (marks_of new.marks u)) (sym last-is)
          (subst (λ (k : Marks). HasLeg s devices us u leg at-op (brought j) (blocks_told left) k) (sym its-mark) written.has)

    -- ---- where it hasn't

    module _ (gone : has_block v n u ≡ false) where
      not-here : (a : ℕ) → a < n → v + a ≡ u → ⊥
      not-here a l q = false≢true (sym gone ∙ request-has v n u a l q)

      out-mark : marks_of new.marks u ≡ marks_of old.marks u
      out-mark =
          let c = l0.each.count in
          ap (λ (ms : List Marks). marks_of ms u) moved ∙ marks-out v found0 found1 old.marks u (λ a l q. not-here a (omega (arith, l, c)) q)

      -- a block of either leg that isn't one of the request
      stays : (w : ℕ) → w < half + half → ((a : ℕ) → a < n → v + a ≡ w → ⊥) → ((a : ℕ) → a < n → half + (v + a) ≡ w → ⊥) → get_or (blocks_told left) (home m w) [] ≡ get_or (blocks_told now) (home m w) []
      stays w l x y =
          let inside = req.inside in
          l1.each.elsewhere (home m w) (λ a k q. y a k (homes-apart s devices us over us refl (half + (v + a)) w (omega (arith, inside, k)) l q))
          ∙ l0.each.elsewhere (home m w) (λ a k q. x a k (homes-apart s devices us over us refl (v + a) w (omega (arith, inside, k)) l q))

      on-first : get_or (blocks_told left) (home m u) [] ≡ get_or (blocks_told now) (home m u) []
      on-first = let below-half = p.inside in stays u (omega (arith, below-half)) not-here (λ a l q. omega (arith, q, below-half))

      on-second : get_or (blocks_told left) (home m (half + u)) [] ≡ get_or (blocks_told now) (home m (half + u)) []
      on-second =
          let below-half = p.inside in
          let inside = req.inside in
          stays (half + u) (omega (arith, below-half)) (λ a l q. omega (arith, q, l, inside)) (λ a l q. not-here a l (omega (arith, q)))

      both-stay : (c : Bool) → get_or (blocks_told left) (home m (on_leg c u (half + u))) [] ≡ get_or (blocks_told now) (home m (on_leg c u (half + u))) []
      both-stay false = on-first
      both-stay true = on-second

      as-before : written_then size u (Write v n body app) old.pool reply e ≡ e
      as-before =
          (λ x. if gone x && is_none (listed_in reply (u - v)) then record { body = take size (drop ((u - v) * size) bytes); app = app } else e)

      out-of-it : HasLeg s devices us u leg at-op (written_then size u (Write v n body app) old.pool reply e) (blocks_told left) (marks_of new.marks u)
      out-of-it =
          subst (λ (x : Brought). HasLeg s devices us u leg at-op x (blocks_told left) (marks_of new.marks u)) (sym as-before)
          (subst (λ (k : Marks). HasLeg s devices us u leg at-op e (blocks_told left) k) (sym out-mark) (has-still m size half u leg (Altered s devices us u leg) (Stopped s devices us u leg at-op) e (blocks_told now) (blocks_told left) (marks_of old.marks u) both-stay has))

    pub after-both : HasLeg s devices us u leg at-op (written_then size u (Write v n body app) old.pool reply e) (blocks_told left) (marks_of new.marks u)
    after-both = by (has_block v n u) refl where
      by : (c : Bool) → has_block v n u ≡ c → HasLeg s devices us u leg at-op (written_then size u (Write v n body app) old.pool reply e) (blocks_told left) (marks_of new.marks u)
      by true q = in-it q
      by false q = out-of-it q

  pub kept-write : (new : Sides) (runs : List LegRun) (reply : Reply) (left : List Stored) → WroteBy s half i v n app (bytes_in old.pool body 0 (total body)) old.marks new.marks runs reply → AllFallen t now runs left
      → fails_on_leg (place_on s devices leg u) runs ≡ false → Kept s devices us u leg at-op old new left (Write v n body app) reply e
  kept-write new runs reply left w all fine =
      let fallen = subst (λ (rs : List LegRun). AllFallen t now rs left) w.runs_are all in
      let mid = fallen.0 in
      let end = fallen.1.1.0 in
      let l0 = leg0 w.on0 mid w.own0 fallen.1.0 in
      let l1 = leg1 mid l0.shapes w.on1 end w.own1 fallen.1.1.1.0 in
      let same-end : end ≡ left = sym fallen.1.1.1.1 in
      let last : Leg p1 block1 mid left w.on1 = subst (λ (z : List Stored). Leg p1 block1 mid z w.on1) same-end l1 in
      let none = subst (λ (rs : List LegRun). fails_on_leg (place_on s devices leg u) rs ≡ false) w.runs_are fine in
      record {
        shapes = last.shapes;
        counted = long-marks w.on0 w.on1 mid left w.own0 w.own1 l0 last w.octets none new w.marks reply w.reply_is;
        has =
            has-later s devices us u leg at-op (written_then size u (Write v n body app) old.pool reply e) (blocks_told left) (marks_of new.marks u)
            (after-both w.on0 w.on1 mid left w.own0 w.own1 l0 last w.octets none new w.marks reply w.reply_is);
        reads = tt;
      }
