-- A read leg by leg. It changes nothing that is stored, so what comes of a block on a leg doesn't depend on the others.
use Rattle.std.proofs.Common.{◌≡◌, ◌<◌, ◌≤◌, ℕ, zero, suc, ◌+◌, ◌*◌, Bool, true, false, List, [], ◌∷◌, ◌++◌, length, map, get_or, replicate, take, drop, Option, Some, refl, sym, ap, subst, ◌∙◌, arith}
use Rattle.std.specs.List.{IsDistinct}
use Rattle.std.specs.Prelude.{nat_eq, Result, Ok, Err}
use Rattle.std.proofs.lemmas.List.{length-replicate, length-take-le, drop_at, drop-drop, take_at, take-append-drop}
use Rattle.page_pool.specs.declared.segs.Seg.{Seg}
use Rattle.page_pool.specs.Cells.{scatter}
use Rattle.page_pool.specs.Places.{total}
use Rattle.range_gate.specs.Cells.{cells_of}
use Rattle.integrity_payload.specs.declared.payload.Owner.TheVariants.{Block as OfBlock}
use Rattle.bio_core.specs.declared.fate.Why.{Why}
use Rattle.block_path.specs.declared.route.Route.{Route}
use Rattle.block_path.specs.Acts.{State, act, tell}
use Rattle.block_path.specs.Blocks.{ActAnswer, own_cell, fetched_cell, read_by}
use Rattle.block_path.specs.Serial.{plain, plain_tells}
use Rattle.block_path.specs.WayIn.{Delivers, Spoils, Stops, WayIn, delivered_of, way_in}
use Rattle.block_path.proofs.Cells.{Distinct, distinct, scatter_append, scatter_none, scatter_twice}
use Rattle.walk_laws.specs.ScriptWalk.{act_of, bad_from, whole_or_bad}
use Rattle.walk_laws.specs.Settings.{Block, Setting, block_of, route}
use Rattle.walk_laws.specs.Steps.{Reads, Step, body_of, each_from}
use Rattle.walk_laws.proofs.CalmRuns.{part_length}
use Rattle.run_laws.proofs.Parts.{body_part, distinct_part, scatter_enough}
use Rattle.mirror_laws.specs.Mirror.{Mirror, answer, asked, done, is_none, listed, marks_of, twin}
use Rattle.mirror_laws.specs.declared.marks.Marks.{Marks}
use Rattle.mirror_laws.specs.Repair.{reading}
use Rattle.mirror_laws.specs.OnLegs.{all_landed, come, comes_from, landed_by, or_other, why_of}
use Rattle.mirror_laws.specs.LegByLeg.{DeliversWhole, HasLegs, ReadsByLegs}
use Rattle.mirror_laws.proofs.WriteByLegs.{each_same}

-- the bytes that a read of one block lands
abbrev lands : (size : ℕ) → Result (List ℕ) Why → List ℕ
lands size (Ok frame) = frame
lands size (Err why) = replicate size 0

lands_by : (r : Route) (w : WayIn) (size after : ℕ) → (read_by r OfBlock w size after).written.bytes ≡ lands size (delivered_of w)
lands_by r (Stops why) size after = refl
lands_by r (Spoils why carried) size after = refl
lands_by r (Delivers carried frame) size after = refl

pub finds : (r : Route) (w : WayIn) (size after : ℕ) → (read_by r OfBlock w size after).answer.why ≡ why_of (delivered_of w)
finds r (Stops why) size after = refl
finds r (Spoils why carried) size after = refl
finds r (Delivers carried frame) size after = refl

-- a frame isn't too short
abbrev LongEnough : (size : ℕ) → Result (List ℕ) Why → Type 0
LongEnough size came = (frame : List ℕ) → came ≡ Ok frame → size ≤ length frame

landed_long : (size : ℕ) (came : Result (List ℕ) Why) → LongEnough size came → length (landed_by size came) ≡ size
landed_long size (Ok frame) h = length-take-le size frame (h frame refl)
landed_long size (Err why) h = length-replicate size 0

lands_long : (size : ℕ) (came : Result (List ℕ) Why) → LongEnough size came → size ≤ length (lands size came)
lands_long size (Ok frame) h = h frame refl
lands_long size (Err why) h = let zeros : List ℕ = replicate size 0 in let e : length zeros ≡ size = length-replicate size 0 in omega (arith, e)

-- of a longer frame only the data land
lands_landed : (size : ℕ) (at cells : List ℕ) (came : Result (List ℕ) Why) → length at ≡ size → scatter at (lands size came) cells ≡ scatter at (landed_by size came) cells
lands_landed size at cells (Ok frame) e = scatter_enough at frame cells ∙ ap (λ n. scatter at (take n frame) cells) e
lands_landed size at cells (Err why) e = refl

-- zeros and then what comes of the other leg
zeros_then : (size : ℕ) (at cells : List ℕ) (came : Result (List ℕ) Why) → length at ≡ size → Distinct at → LongEnough size came →
    scatter at (lands size came) (scatter at (replicate size 0) cells) ≡ scatter at (landed_by size came) cells
zeros_then size at cells came e d h =
    let zeros : List ℕ = replicate size 0 in
    let z : length zeros ≡ size = length-replicate size 0 in
    let l = lands_long size came h in
    scatter_twice at (replicate size 0) (lands size came) cells d (omega (arith, z, l)) ∙ lands_landed size at cells came e

module _ (m : Setting) where
  read_lands : (b : Block) (at : List ℕ) (s : State) → length at ≡ m.size → (act (act_of m (Reads b OfBlock at)) s).bytes ≡ scatter at (lands m.size (reading m b s.blocks)) s.bytes
  read_lands b at s e =
      let w = way_in m.site.faults m.site.device (route m b) OfBlock (get_or s.blocks (fetched_cell m.site (route m b)) []) in
      let after = length (get_or s.logs (own_cell m.site (route m b)) []) in
      ap (λ vs. scatter at vs s.bytes) (lands_by (route m b) w (length at) after) ∙ ap (λ n. scatter at (lands n (delivered_of w)) s.bytes) e

  read_finds : (b : Block) (at : List ℕ) (s : State) → (tell (act_of m (Reads b OfBlock at)) s).why ≡ why_of (reading m b s.blocks)
  read_finds b at s =
      finds (route m b) (way_in m.site.faults m.site.device (route m b) OfBlock (get_or s.blocks (fetched_cell m.site (route m b)) [])) (length at) (length (get_or s.logs (own_cell m.site (route m b)) []))

  -- A block is asked on its legs.
  module _ (b c : Block) (at : List ℕ) (s : State) (long : length at ≡ m.size) (once : Distinct at) (fit0 : LongEnough m.size (reading m b s.blocks)) (fit1 : LongEnough m.size (reading m c s.blocks)) where
    abbrev on0 : Step
    on0 = Reads b OfBlock at

    abbrev on1 : Step
    on1 = Reads c OfBlock at

    -- what is asked, what it leaves, and what is found
    abbrev left : List Step → State
    left steps = plain act (map (act_of m) steps) s

    abbrev found : List Step → Option Why
    found steps = listed (map (λ (a : ActAnswer). a.why) (plain_tells act tell (map (act_of m) steps) s))

    record Comes (steps : List Step) (came : Result (List ℕ) Why) : Type 0 where
      bytes : (left steps).bytes ≡ scatter at (landed_by m.size came) s.bytes
      blocks : (left steps).blocks ≡ s.blocks
      why : found steps ≡ why_of came

    first_comes : (came : Result (List ℕ) Why) → reading m b s.blocks ≡ came → Comes (on0 ∷ []) came
    first_comes came e = record {
      bytes = read_lands b at s long ∙ lands_landed m.size at s.bytes (reading m b s.blocks) long ∙ ap (λ r. scatter at (landed_by m.size r) s.bytes) e;
      blocks = refl;
      why = read_finds b at s ∙ ap why_of e;
    }

    other_comes : (came : Result (List ℕ) Why) → reading m c s.blocks ≡ came → Comes (on1 ∷ []) came
    other_comes came e = record {
      bytes = read_lands c at s long ∙ lands_landed m.size at s.bytes (reading m c s.blocks) long ∙ ap (λ r. scatter at (landed_by m.size r) s.bytes) e;
      blocks = refl;
      why = read_finds c at s ∙ ap why_of e;
    }

    both_come : (why : Why) (other : Result (List ℕ) Why) → reading m b s.blocks ≡ Err why → reading m c s.blocks ≡ other → Comes (on0 ∷ on1 ∷ []) (or_other true (Err why) other)
    both_come why other e k =
        let next = act (act_of m on0) s in
        let first : (tell (act_of m on0) s).why ≡ Some why = read_finds b at s ∙ ap why_of e in
        let second : (tell (act_of m on1) next).why ≡ why_of other = read_finds c at next ∙ ap why_of k in
        let bytes : (act (act_of m on1) next).bytes ≡ scatter at (landed_by m.size other) s.bytes =
        read_lands c at next long
        ∙ ap (λ cells. scatter at (lands m.size (reading m c s.blocks)) cells) (read_lands b at s long ∙ ap (λ r. scatter at (lands m.size r) s.bytes) e)
        ∙ zeros_then m.size at s.bytes (reading m c s.blocks) long once fit1
        ∙ ap (λ r. scatter at (landed_by m.size r) s.bytes) k in
        by other bytes (ap (λ w. listed (w ∷ (tell (act_of m on1) next).why ∷ [])) first ∙ ap (λ w. listed (Some why ∷ w ∷ [])) second)
      where
        by : (other : Result (List ℕ) Why) → (left (on0 ∷ on1 ∷ [])).bytes ≡ scatter at (landed_by m.size other) s.bytes → found (on0 ∷ on1 ∷ []) ≡ listed (Some why ∷ why_of other ∷ []) → Comes (on0 ∷ on1 ∷ []) (or_other true (Err why) other)
        by (Ok frame) p q = record { bytes = p; blocks = refl; why = q }
        by (Err again) p q = record { bytes = p; blocks = refl; why = q }

    asked_come : (f0 f1 d : Bool) (r0 r1 : Result (List ℕ) Why) → reading m b s.blocks ≡ r0 → reading m c s.blocks ≡ r1 → d ≡ is_none (why_of r0) →
        Comes (asked f0 f1 d on0 on1) (come (record { leg0 = f0; leg1 = f1 }) r0 r1)
    asked_come false f1 d r0 r1 p q e = other_comes r1 q
    asked_come true false d (Ok frame) r1 p q e = first_comes (Ok frame) p
    asked_come true false d (Err why) r1 p q e = first_comes (Err why) p
    asked_come true true true (Ok frame) r1 p q e = first_comes (Ok frame) p
    asked_come true true false (Ok frame) r1 p q e = absurd (cc)
    asked_come true true true (Err why) r1 p q e = absurd (cc)
    asked_come true true false (Err why) r1 p q e = both_come why r1 p q

module _ (m : Setting) (half : ℕ) (legs : HasLegs m half) (count : ℕ → ℕ) (i v n : ℕ) (body : List Seg) where
  abbrev f : ℕ → Step
  f k = Reads (block_of i v k) OfBlock (body_of m.size body k)

  -- what comes of block k
  abbrev came : List Marks → List (List ℕ) → ℕ → Result (List ℕ) Why
  came marks blocks k = come (marks_of marks (v + k)) (reading m (block_of i v k) blocks) (reading m (twin m half count (block_of i v k)) blocks)

  module _ (total_is : total body ≡ n * m.size) (once : Distinct (cells_of body)) (within : v + n ≤ half) (marks : List Marks) (blocks : List (List ℕ)) (fit : DeliversWhole m blocks) where
    -- the mirror stands as it did
    record Stands (s : Mirror) : Type 0 where
      blocks_are : s.state.blocks ≡ blocks
      marks_are : s.marks ≡ marks

    record OneRead (k : ℕ) (s : Mirror) : Type 0 where
      stands : Stands (done m half count (f k) s)
      lands : (done m half count (f k) s).state.bytes ≡ scatter (body_of m.size body k) (landed_by m.size (came marks blocks k)) s.state.bytes
      why : (answer m half count (f k) s).why ≡ why_of (came marks blocks k)

    one_read : (k : ℕ) (s : Mirror) → k < n → Stands s → OneRead k s
    one_read k s l h =
        let long = legs.long in
        let b = block_of i v k in
        let c = twin m half count (block_of i v k) in
        let at = body_of m.size body k in
        let once_k : Distinct at = subst Distinct (sym (body_part m.size body k)) (distinct_part m.size (k * m.size) (cells_of body) once) in
        let fit_s : DeliversWhole m s.state.blocks = subst (DeliversWhole m) (sym h.blocks_are) fit in
        let x = asked_come m b c at s.state (part_length body m.size k n total_is l) once_k (λ frame. fit_s b frame (omega (arith, long, l, within))) (λ frame. fit_s c frame (omega (arith, long, l, within)))
        (marks_of s.marks (v + k)).leg0 (marks_of s.marks (v + k)).leg1 (is_none (tell (act_of m (f k)) s.state).why) (reading m b s.state.blocks) (reading m c s.state.blocks) refl refl (ap is_none (read_finds m b at s.state)) in
        let same : come (marks_of s.marks (v + k)) (reading m b s.state.blocks) (reading m c s.state.blocks) ≡ came marks blocks k =
        ap (λ ms. come (marks_of ms (v + k)) (reading m b s.state.blocks) (reading m c s.state.blocks)) h.marks_are ∙ ap (λ bs. come (marks_of marks (v + k)) (reading m b bs) (reading m c bs)) h.blocks_are in
        record {
          stands = record { blocks_are = x.blocks ∙ h.blocks_are; marks_are = h.marks_are };
          lands = x.bytes ∙ ap (λ r. scatter at (landed_by m.size r) s.state.bytes) same;
          why = x.why ∙ ap why_of same;
        }

    came_long : (k : ℕ) → k < n → length (landed_by m.size (came marks blocks k)) ≡ m.size
    came_long k l =
        let long = legs.long in
        landed_long m.size (came marks blocks k) (by (marks_of marks (v + k)).leg0 (marks_of marks (v + k)).leg1 (reading m (block_of i v k) blocks) (reading m (twin m half count (block_of i v k)) blocks)
        (λ frame. fit (block_of i v k) frame (omega (arith, long, l, within))) (λ frame. fit (twin m half count (block_of i v k)) frame (omega (arith, long, l, within))))
      where
        by : (f0 f1 : Bool) (r0 r1 : Result (List ℕ) Why) → LongEnough m.size r0 → LongEnough m.size r1 → LongEnough m.size (come (record { leg0 = f0; leg1 = f1 }) r0 r1)
        by false f1 r0 r1 h j = j
        by true f1 (Ok frame) r1 h j = h
        by true false (Err why) r1 h j = h
        by true true (Err why) (Ok frame) h j = j
        by true true (Err why) (Err again) h j = h

    -- the cells from block k on
    abbrev from : ℕ → List ℕ
    from k = drop (k * m.size) (cells_of body)

    from_split : (k : ℕ) → from k ≡ body_of m.size body k ++ from (suc k)
    from_split k =
        let e : k * m.size + m.size ≡ suc k * m.size = omega arith in
        sym (take-append-drop m.size (from k)) ∙ ap (λ xs. xs ++ drop m.size (from k)) (sym (body_part m.size body k))
        ∙ ap (λ xs. body_of m.size body k ++ xs) (drop-drop m.size (k * m.size) (cells_of body) ∙ ap (λ j. drop j (cells_of body)) e)

    record AllRead (j r : ℕ) (s : Mirror) : Type 0 where
      stands : Stands (plain (done m half count) (each_from j r f) s)
      lands : (plain (done m half count) (each_from j r f) s).state.bytes ≡ scatter (from j) (all_landed m.size (each_from j r (came marks blocks))) s.state.bytes
      whys : map (λ (a : ActAnswer). a.why) (plain_tells (done m half count) (answer m half count) (each_from j r f) s) ≡ map why_of (each_from j r (came marks blocks))

    all_read : (j r : ℕ) (s : Mirror) → j + r ≤ n → Stands s → AllRead j r s
    all_read j zero s l h = record { stands = h; lands = sym (scatter_none (from j) s.state.bytes); whys = refl }
    all_read j (suc r) s l h =
        let now = done m half count (f j) s in
        let one = one_read j s (omega (arith, l)) h in
        let all = all_read (suc j) r now (omega (arith, l)) one.stands in
        let at = body_of m.size body j in
        let vs = landed_by m.size (came marks blocks j) in
        let rest = all_landed m.size (each_from (suc j) r (came marks blocks)) in
        let long_at : length at ≡ m.size = part_length body m.size j n total_is (omega (arith, l)) in
        let long_vs : length vs ≡ length at = came_long j (omega (arith, l)) ∙ sym long_at in
        record {
          stands = all.stands;
          lands =
              all.lands
              ∙ ap (scatter (from (suc j)) rest) (one.lands ∙ ap (λ x. scatter at x s.state.bytes) (sym (take_at vs rest (length at) long_vs)) ∙ sym (scatter_enough at (vs ++ rest) s.state.bytes))
              ∙ ap (λ x. scatter (from (suc j)) x (scatter at (vs ++ rest) s.state.bytes)) (sym (drop_at vs rest (length at) long_vs))
              ∙ sym (scatter_append at (from (suc j)) (vs ++ rest) s.state.bytes)
              ∙ ap (λ xs. scatter xs (vs ++ rest) s.state.bytes) (sym (from_split j));
          whys =
              ap (λ w. w ∷ map (λ (a : ActAnswer). a.why) (plain_tells (done m half count) (answer m half count) (each_from (suc j) r f) now)) one.why
              ∙ ap (λ ws. why_of (came marks blocks j) ∷ ws) all.whys;
        }

module _ (m : Setting) (half : ℕ) (legs : HasLegs m half) (count : ℕ → ℕ) (i v n : ℕ) (body : List Seg) (s : Mirror) (counted : count i ≡ n) where
  same_come : each_from 0 n (came m half legs count i v n body s.marks s.state.blocks) ≡ comes_from m half i n v 0 n s.marks s.state.blocks
  same_come =
      each_same 0 n (came m half legs count i v n body s.marks s.state.blocks)
      (λ j. come (marks_of s.marks (v + j)) (reading m (record { op = i; k = j; virt = v + j }) s.state.blocks) (reading m (record { op = i; k = n + j; virt = half + (v + j) }) s.state.blocks))
      (λ j. ap (λ c. come (marks_of s.marks (v + j)) (reading m (block_of i v j) s.state.blocks) (reading m (record { op = i; k = c + j; virt = half + (v + j) }) s.state.blocks)) counted)

  pub reads_by_legs : v + n ≤ half → total body ≡ n * m.size → IsDistinct nat_eq (cells_of body) → DeliversWhole m s.state.blocks → ReadsByLegs m half count i v n body s
  reads_by_legs within total_is once fit =
      let all = all_read m half legs count i v n body total_is (distinct (cells_of body) once) within s.marks s.state.blocks fit 0 n s (omega arith) (record { blocks_are = refl; marks_are = refl }) in
      let none : 0 * m.size ≡ 0 = omega arith in
      let whys : map (λ (a : ActAnswer). a.why) (plain_tells (done m half count) (answer m half count) (each_from 0 n (f m half legs count i v n body)) s) ≡ map why_of (comes_from m half i n v 0 n s.marks s.state.blocks) = all.whys ∙ ap (map why_of) same_come in
      record {
        blocks = all.stands.blocks_are;
        marks = all.stands.marks_are;
        bytes =
            all.lands
            ∙ ap (λ k. scatter (drop k (cells_of body)) (all_landed m.size (each_from 0 n (came m half legs count i v n body s.marks s.state.blocks))) s.state.bytes) none
            ∙ ap (λ cs. scatter (cells_of body) (all_landed m.size cs) s.state.bytes) same_come;
        whys = whys;
        reply = λ fails. ap (λ ws. whole_or_bad (bad_from 0 ws)) whys;
      }
