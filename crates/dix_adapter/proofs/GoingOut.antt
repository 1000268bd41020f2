-- The blocks of a write at their unit: what it judges is how they end, and the moves of those that were done store them.
use Rattle.std.proofs.Common.{◌≡◌, ◌<◌, ◌≤◌, ℕ, zero, suc, ◌+◌, ◌-◌, true, false, ltb, List, [], ◌∷◌, ◌++◌, length, map, take, drop, get_or, set, replicate, refl, ap, sym, subst, ◌∙◌, arith, ⊎_elim, Option, Some, None}
use Rattle.std.specs.Prelude.{min, if◌then◌else◌, Result, Ok, Err, slice_get}
use Rattle.std.proofs.lemmas.List.{get_or-set_other}
use Rattle.std.proofs.lemmas.Bool.{cases_Bool, or_parts, ltb-true}
use Rattle.page_pool.specs.Cells.{gather, scatter}
use Rattle.pi_tuple.specs.declared.checks.Check.{Check}
use Rattle.bio_core.specs.declared.fate.Fate.{Fate}
use Rattle.bio_core.specs.declared.fate.Fate.TheVariants.{Good, Bad, Untouched}
use Rattle.bio_core.specs.declared.fate.Why.TheVariants.{Medium}
use Rattle.bio_core.specs.declared.request.Io.{Io}
use Rattle.bio_core.specs.Bios.{Block}
use Rattle.fault_schedule.specs.Altered.{kept}
use Rattle.fault_schedule.specs.declared.Label.{Label}
use Rattle.rig_api.specs.Passed.{Flaw, onto_medium, Stop, first_sense, fails_under, flaw_sense, to_medium, kept_over, kept_under, medium_sense, passed, then_kept, write_end}
use Rattle.rig_api.proofs.KeptLaws.{kept-passed}
use Rattle.rig_api.specs.declared.units.UnitSpec.{UnitSpec}
use Rattle.rig_api.proofs.Passed.{few_passed}
use Rattle.rig_api.specs.declared.rig.Outcome.{Outcome}
use Rattle.block_path.specs.Acts.{State, act}
use Rattle.block_path.specs.Blocks.{Site, own_cell, stored_cell, stored_over, written_by}
use Rattle.block_path.specs.Moves.{carry_out}
use Rattle.block_path.specs.Routes.{passage, target}
use Rattle.block_path.specs.Serial.{plain}
use Rattle.block_path.specs.WayOut.{Refuses, Stores, WayOut, at_device, from_adapter, goes_out}
use Rattle.block_path.specs.declared.route.Route.{Route}
use Rattle.dix_adapter.specs.declared.adapter.Adapter.{Adapter}
use Rattle.dix_adapter.specs.Carried.{any_bad, frame_sent, is_bad, sends}
use Rattle.dix_adapter.specs.Groups.{frame_cells, label_of, route_of}
use Rattle.dix_adapter.specs.Outcomes.{done_of, rest_of}
use Rattle.block_path.specs.Senses.{why_ended}
use Rattle.dix_adapter.specs.Ways.{acts_out, cells_out, fates_out, frames_out, left_at, site_of, stopped_out, ways_out}
use Rattle.dix_adapter.proofs.Labels.{label-at}
use Rattle.dix_adapter.proofs.Flaws.{by_flaw, flaw_named, flaw_why, stores-by}
use Rattle.dix_adapter.proofs.Puts.{puts, puts-more}
use Rattle.small_laws.proofs.Tests.{ltb_suc}

abbrev Judged : Type 0
Judged = Result (List ℕ) Flaw

-- what is sent of each block, and what the unit finds in it
abbrev pub all_sent : Adapter → List Io → (cells : List ℕ) → List Block → List (List ℕ)
all_sent a ios cells bs = map frame_sent (map (sends a ios cells) bs)

abbrev pub judged_out : Adapter → List Io → (cells : List ℕ) → List Block → List (Result (List ℕ) Flaw)
judged_out a ios cells [] = []
judged_out a ios cells (b ∷ bs) = onto_medium a.tamper (passage a.tamper (route_of a ios b)) (frame_sent (sends a ios cells b)) ∷ judged_out a ios cells bs

pub judged-long : (a : Adapter) (ios : List Io) (cells : List ℕ) (bs : List Block) → length (judged_out a ios cells bs) ≡ length bs
judged-long a ios cells [] = refl
judged-long a ios cells (b ∷ bs) = ap suc (judged-long a ios cells bs)

pub sent-long : (a : Adapter) (ios : List Io) (cells : List ℕ) (bs : List Block) → length (all_sent a ios cells bs) ≡ length bs
sent-long a ios cells [] = refl
sent-long a ios cells (b ∷ bs) = ap suc (sent-long a ios cells bs)

-- ---- the ways, by what is sent and what is found

abbrev pub ways_by : List (List ℕ) → List (Result (List ℕ) Flaw) → List WayOut
ways_by [] js = []
ways_by (f ∷ fs) [] = []
ways_by (f ∷ fs) (j ∷ js) = at_device f (by_flaw j) ∷ ways_by fs js

way-by : (a : Adapter) (r : Route) (s : Result (List ℕ) Check) → is_bad s ≡ false → from_adapter (target a.tamper) r s ≡ at_device (frame_sent s) (by_flaw (onto_medium a.tamper (passage a.tamper r) (frame_sent s)))
way-by a r (Ok f) h = ap (at_device f) (stores-by (fails_under a.tamper (Some r.label)) (to_medium a.tamper (passage a.tamper r) f))
way-by a r (Err c) h = absurd (let x : true ≡ false = h in cc)

pub ways-are : (a : Adapter) (ios : List Io) (cells : List ℕ) (bs : List Block) → any_bad (map (sends a ios cells) bs) ≡ false → ways_out a ios cells bs ≡ ways_by (all_sent a ios cells bs) (judged_out a ios cells bs)
ways-are a ios cells [] h = refl
ways-are a ios cells (b ∷ bs) h =
    let o = or_parts (is_bad (sends a ios cells b)) (any_bad (map (sends a ios cells) bs)) h in
    ap (λ w. w ∷ ways_out a ios cells bs) (way-by a (route_of a ios b) (sends a ios cells b) o.0)
    ∙ ap (λ ws. at_device (frame_sent (sends a ios cells b)) (by_flaw (onto_medium a.tamper (passage a.tamper (route_of a ios b)) (frame_sent (sends a ios cells b)))) ∷ ws) (ways-are a ios cells bs o.1)

frames-by : (fs : List (List ℕ)) (js : List Judged) → length fs ≡ length js → frames_out (ways_by fs js) ≡ take (length (passed js)) fs
frames-by [] [] e = refl
frames-by [] (j ∷ js) e = absurd (omega arith)
frames-by (f ∷ fs) [] e = absurd (omega arith)
frames-by (f ∷ fs) (Ok g ∷ js) e = ap (λ z. f ∷ z) (frames-by fs js (omega arith))
frames-by (f ∷ fs) (Err c ∷ js) e = refl

pub take-long : {X : Type 0} (n : ℕ) (xs : List X) → n ≤ length xs → length (take n xs) ≡ n
take-long zero xs h = refl
take-long (suc n) [] h = absurd (omega arith)
take-long (suc n) (x ∷ xs) h = ap suc (take-long n xs (omega arith))

frames-count : (fs : List (List ℕ)) (js : List Judged) → length fs ≡ length js → length (frames_out (ways_by fs js)) ≡ length (passed js)
frames-count fs js e = ap length (frames-by fs js e) ∙ take-long (length (passed js)) fs (let x = few_passed js in omega arith)

ways-long : (fs : List (List ℕ)) (js : List Judged) → length fs ≡ length js → length (ways_by fs js) ≡ length js
ways-long [] [] e = refl
ways-long [] (j ∷ js) e = absurd (omega arith)
ways-long (f ∷ fs) [] e = absurd (omega arith)
ways-long (f ∷ fs) (j ∷ js) e = ap suc (ways-long fs js (omega arith))

-- ---- fates

abbrev pub told : ℕ → Outcome → List Fate
told n o = replicate (done_of n o) Good ++ rest_of n o

pub rest-shift : (n : ℕ) (o o' : Outcome) → o'.done ≡ suc o.done → o'.sense ≡ o.sense → rest_of (suc n) o' ≡ rest_of n o
rest-shift n o o' d s =
    let m : suc n - suc (suc o.done) ≡ n - suc o.done = omega arith in
    ap (λ k. if ltb k (suc n) then Bad (why_ended o'.sense) ∷ replicate (suc n - suc k) Untouched else []) d
    ∙ ap (λ k. if ltb (suc o.done) (suc n) then Bad (why_ended k) ∷ replicate (suc n - suc (suc o.done)) Untouched else []) s
    ∙ ap (λ b. if b then Bad (why_ended o.sense) ∷ replicate (suc n - suc (suc o.done)) Untouched else []) (ltb_suc o.done n)
    ∙ ap (λ k. if ltb o.done n then Bad (why_ended o.sense) ∷ replicate k Untouched else []) m

told-more : (n d : ℕ) (s : _) → told (suc n) (record { done = suc d; sense = s }) ≡ Good ∷ told n (record { done = d; sense = s })
told-more n d s =
    let m : min (suc d) (suc n) ≡ suc (min d n) = omega arith in
    ap (λ k. replicate k Good ++ rest_of (suc n) (record { done = suc d; sense = s })) m
    ∙ ap (λ z. Good ∷ (replicate (min d n) Good ++ z)) (rest-shift n (record { done = d; sense = s }) (record { done = suc d; sense = s }) refl refl)

told-end : (n : ℕ) (s : _) → told (suc n) (record { done = 0; sense = s }) ≡ Bad (why_ended s) ∷ replicate n Untouched
told-end n s =
    let m : min 0 (suc n) ≡ 0 = omega arith in
    let t : ltb 0 (suc n) ≡ true = grind arith in
    let k : suc n - 1 ≡ n = omega arith in
    ap (λ j. replicate j Good ++ rest_of (suc n) (record { done = 0; sense = s })) m
    ∙ ap (λ b. if b then Bad (why_ended s) ∷ replicate (suc n - 1) Untouched else []) t
    ∙ ap (λ j. Bad (why_ended s) ∷ replicate j Untouched) k

fates-by : (lba : ℕ) (fs : List (List ℕ)) (js : List Judged) → length fs ≡ length js → fates_out (ways_by fs js) ≡ told (length js) (record { done = length (passed js); sense = first_sense lba js })
fates-by lba [] [] e = refl
fates-by lba [] (j ∷ js) e = absurd (omega arith)
fates-by lba (f ∷ fs) [] e = absurd (omega arith)
fates-by lba (f ∷ fs) (Ok g ∷ js) e = ap (λ z. Good ∷ z) (fates-by (lba + 1) fs js (omega arith)) ∙ sym (told-more (length js) (length (passed js)) (first_sense (lba + 1) js))
fates-by lba (f ∷ fs) (Err c ∷ js) e =
    ap (λ n. Bad (flaw_why c) ∷ replicate n Untouched) (ways-long fs js (omega arith))
    ∙ sym (told-end (length js) (Some (flaw_sense c lba)) ∙ ap (λ w. Bad w ∷ replicate (length js) Untouched) (flaw_named c lba))

-- one at which a store call failed
set-frames : (i : ℕ) (fs : List (List ℕ)) (js : List Judged) → i < length (passed js) → length fs ≡ length js → frames_out (set (ways_by fs js) i (Refuses Medium)) ≡ take i fs
set-frames i [] [] h e = absurd (omega arith)
set-frames i [] (j ∷ js) h e = absurd (omega arith)
set-frames i (f ∷ fs) [] h e = absurd (omega arith)
set-frames i (f ∷ fs) (Err c ∷ js) h e = absurd (omega arith)
set-frames zero (f ∷ fs) (Ok g ∷ js) h e = refl
set-frames (suc i) (f ∷ fs) (Ok g ∷ js) h e = ap (λ z. f ∷ z) (set-frames i fs js (omega arith) (omega arith))

set-fates : (s : _) (i : ℕ) (fs : List (List ℕ)) (js : List Judged) → why_ended s ≡ Medium → i < length (passed js) → length fs ≡ length js → fates_out (set (ways_by fs js) i (Refuses Medium)) ≡ told (length js) (record { done = i; sense = s })
set-fates s i [] [] w h e = absurd (omega arith)
set-fates s i [] (j ∷ js) w h e = absurd (omega arith)
set-fates s i (f ∷ fs) [] w h e = absurd (omega arith)
set-fates s i (f ∷ fs) (Err c ∷ js) w h e = absurd (omega arith)
set-fates s zero (f ∷ fs) (Ok g ∷ js) w h e =
    ap (λ n. Bad Medium ∷ replicate n Untouched) (ways-long fs js (omega arith))
    ∙ sym (told-end (length js) s ∙ ap (λ x. Bad x ∷ replicate (length js) Untouched) w)
set-fates s (suc i) (f ∷ fs) (Ok g ∷ js) w h e = ap (λ z. Good ∷ z) (set-fates s i fs js w (omega arith) (omega arith)) ∙ sym (told-more (length js) i s)

pub medium-why : (lba : ℕ) → why_ended (Some (medium_sense 0x0C lba)) ≡ Medium
medium-why lba = refl

-- how the command ends
pub record EndsOut (stop : Option Stop) (lba : ℕ) (fs : List (List ℕ)) (js : List (Result (List ℕ) Flaw)) : Type 0 where
  pub frames : frames_out (stopped_out stop (ways_by fs js)) ≡ take (write_end lba js stop).done fs
  pub few : (write_end lba js stop).done ≤ length (passed js)
  pub fates : fates_out (stopped_out stop (ways_by fs js)) ≡ told (length js) (record { done = (write_end lba js stop).done; sense = (write_end lba js stop).sense })

pub ends-out : (stop : Option Stop) (lba : ℕ) (fs : List (List ℕ)) (js : List (Result (List ℕ) Flaw)) → length fs ≡ length js → EndsOut stop lba fs js
ends-out None lba fs js e = record { frames = frames-by fs js e; few = omega arith; fates = fates-by lba fs js e }
ends-out (Some s) lba fs js e =
    let n = frames-count fs js e in
    ⊎_elim
    (λ (t : ltb s.at (length (passed js)) ≡ true).
    (let l = ltb-true s.at (length (passed js)) t in
    record {
      frames = rw (n, t) (set-frames s.at fs js l e);
      few = rw t (omega arith);
      fates = rw (n, t) (set-fates (Some (medium_sense 0x0C (lba + s.at))) s.at fs js (medium-why (lba + s.at)) l e);
    }))
    (λ (t : ltb s.at (length (passed js)) ≡ false). record { frames = rw (n, t) (frames-by fs js e); few = rw t (omega arith); fates = rw (n, t) (fates-by lba fs js e) })
    (cases_Bool (ltb s.at (length (passed js))))

-- ---- what is stored

stores-one : (s : Site) (r : Route) (frame : List ℕ) (now : State) (carried stored : List ℕ) → goes_out s.faults s.device r (gather 0 frame now.bytes) ≡ Stores carried stored →
    (act (carry_out s r frame) now).blocks ≡ set now.blocks (stored_cell s r) (s.device.leaves r (get_or now.blocks (stored_cell s r) []) stored)
stores-one s r frame now carried stored e =
    ap (λ w. scatter (stored_cell s r ∷ []) (stored_over s r (get_or now.blocks (stored_cell s r) []) (written_by r w [] (get_or (gather [] (own_cell s r ∷ []) now.logs) 0 []))).written.blocks now.blocks) e

-- the cells of blocks one after another
abbrev pub InTurn : ℕ → List ℕ → Type 0
InTurn c [] = Unit {0}
InTurn c (x ∷ xs) = (x ≡ c) × InTurn (suc c) xs

-- From this cell on stand these.
abbrev pub Stand : ℕ → List (List ℕ) → (blocks : List (List ℕ)) → Type 0
Stand c [] blocks = Unit {0}
Stand c (old ∷ olds) blocks = (get_or blocks c [] ≡ old) × Stand (suc c) olds blocks

stand-behind : (c d : ℕ) (olds blocks : List (List ℕ)) (block : List ℕ) → c < d → Stand d olds blocks → Stand d olds (set blocks c block)
stand-behind c d [] blocks block h s = tt
stand-behind c d (old ∷ olds) blocks block h s = (get_or-set_other blocks c d block [] (λ e. omega (arith, e, h)) ∙ s.0, stand-behind c (suc d) olds blocks block (omega arith) s.1)

pub acts-out : (a : Adapter) (ios : List Io) (units : List UnitSpec) (cells : List ℕ) (labels : List Label) (bs : List Block) (olds : List (List ℕ)) (n c k : ℕ) (now : State) → any_bad (map (sends a ios cells) bs) ≡ false → now.bytes ≡ cells →
    n ≤ length (passed (judged_out a ios cells bs)) → InTurn c (cells_out a ios units bs) → drop k labels ≡ map label_of bs → length olds ≡ length bs → Stand c olds now.blocks →
    (plain act (take n (acts_out a ios units bs)) now).blocks ≡ puts c (take n (passed (kept_over a.tamper labels k olds (judged_out a ios cells bs)))) now.blocks
acts-out a ios units cells labels bs olds zero c k now g b h i d m s = refl
acts-out a ios units cells labels [] olds (suc n) c k now g b h i d m s = absurd (omega arith)
acts-out a ios units cells labels (x ∷ bs) [] (suc n) c k now g b h i d m s = absurd (omega arith)
acts-out a ios units cells labels (x ∷ bs) (old ∷ olds) (suc n) c k now g b h i d m s =
    by (onto_medium a.tamper (passage a.tamper (route_of a ios x)) (frame_sent (sends a ios cells x))) refl
    (λ l z. acts-out a ios units cells labels bs olds n (suc c) (k + 1) (act (carry_out (site_of a units) (route_of a ios x) (frame_cells ios x)) now) o.1 b l i.1 (ap (λ j. drop j labels) next ∙ here.1) (omega arith) z)
  where
    o : (is_bad (sends a ios cells x) ≡ false) × (any_bad (map (sends a ios cells) bs) ≡ false)
    o = or_parts (is_bad (sends a ios cells x)) (any_bad (map (sends a ios cells) bs)) g

    next : k + 1 ≡ suc k
    next = omega arith

    here : (slice_get labels k ≡ Some (label_of x)) × (drop (suc k) labels ≡ map label_of bs)
    here = label-at k labels (map label_of bs) (label_of x) d

    after : State
    after = act (carry_out (site_of a units) (route_of a ios x) (frame_cells ios x)) now

    rest : List Judged
    rest = kept_over a.tamper labels (k + 1) olds (judged_out a ios cells bs)

    by : (j : Judged) → onto_medium a.tamper (passage a.tamper (route_of a ios x)) (frame_sent (sends a ios cells x)) ≡ j →
        (n ≤ length (passed (judged_out a ios cells bs)) → Stand (suc c) olds after.blocks → (plain act (take n (acts_out a ios units bs)) after).blocks ≡ puts (suc c) (take n (passed rest)) after.blocks) →
        (plain act (take n (acts_out a ios units bs)) after).blocks ≡ puts c (take (suc n) (passed (kept_over a.tamper labels k (old ∷ olds) (judged_out a ios cells (x ∷ bs))))) now.blocks
    by (Ok stored) e more =
        let w : goes_out a.tamper (target a.tamper) (route_of a ios x) (gather 0 (frame_cells ios x) now.bytes) ≡ Stores (frame_sent (sends a ios cells x)) stored =
        ap (λ z. goes_out a.tamper (target a.tamper) (route_of a ios x) (gather 0 (frame_cells ios x) z)) b
        ∙ way-by a (route_of a ios x) (sends a ios cells x) o.0 ∙ ap (λ j. at_device (frame_sent (sends a ios cells x)) (by_flaw j)) e in
        let q : passed (judged_out a ios cells (x ∷ bs)) ≡ stored ∷ passed (judged_out a ios cells bs) = ap (λ j. passed (j ∷ judged_out a ios cells bs)) e in
        let left : List ℕ = kept a.tamper (label_of x) old stored in
        let r : passed (kept_over a.tamper labels k (old ∷ olds) (judged_out a ios cells (x ∷ bs))) ≡ left ∷ passed rest =
        ap (λ j. passed (then_kept a.tamper (slice_get labels k) old j ∷ rest)) e ∙ ap (λ l. kept_under a.tamper l old stored ∷ passed rest) here.0 in
        let l : n ≤ length (passed (judged_out a ios cells bs)) = omega (arith, h, ap length q) in
        let p : after.blocks ≡ set now.blocks c left =
        stores-one (site_of a units) (route_of a ios x) (frame_cells ios x) now (frame_sent (sends a ios cells x)) stored w
        ∙ ap (λ j. set now.blocks j (kept a.tamper (label_of x) (get_or now.blocks j []) stored)) i.0
        ∙ ap (λ t. set now.blocks c (kept a.tamper (label_of x) t stored)) s.0 in
        more l (subst (Stand (suc c) olds) (sym p) (stand-behind c (suc c) olds now.blocks left (omega arith) s.1))
        ∙ ap (puts (suc c) (take n (passed rest))) p
        ∙ sym (ap (λ z. puts c (take (suc n) z) now.blocks) r)
    by (Err check) e more = absurd (let q : passed (judged_out a ios cells (x ∷ bs)) ≡ [] = ap (λ j. passed (j ∷ judged_out a ios cells bs)) e in let l : length (passed (judged_out a ios cells (x ∷ bs))) ≡ 0 = ap length q in omega (arith, h, l))

-- the cell at this place
turn-at : (c : ℕ) (xs : List ℕ) (i : ℕ) → InTurn c xs → i < length xs → get_or xs i 0 ≡ c + i
turn-at c [] i t h = absurd (omega arith)
turn-at c (x ∷ xs) zero t h = let z : c ≡ c + 0 = omega arith in t.0 ∙ z
turn-at c (x ∷ xs) (suc i) t h = let z : suc c + i ≡ c + suc i = omega arith in turn-at (suc c) xs i t.1 (omega arith) ∙ z

cells-long : (a : Adapter) (ios : List Io) (units : List UnitSpec) (bs : List Block) → length (cells_out a ios units bs) ≡ length bs
cells-long a ios units [] = refl
cells-long a ios units (b ∷ bs) = ap suc (cells-long a ios units bs)

stored-all : (a : Adapter) (ios : List Io) (units : List UnitSpec) (cells : List ℕ) (bs : List Block) (olds : List (List ℕ)) (c : ℕ) (now : State) → any_bad (map (sends a ios cells) bs) ≡ false → now.bytes ≡ cells → InTurn c (cells_out a ios units bs) →
    length olds ≡ length bs → Stand c olds now.blocks →
    puts c (passed (kept_over a.tamper (map label_of bs) 0 olds (judged_out a ios cells bs))) now.blocks ≡ (plain act (take (length (passed (judged_out a ios cells bs))) (acts_out a ios units bs)) now).blocks
stored-all a ios units cells bs olds c now g b i m s =
    let ks : List (Result (List ℕ) Flaw) = kept_over a.tamper (map label_of bs) 0 olds (judged_out a ios cells bs) in
    let n : length (passed ks) ≡ length (passed (judged_out a ios cells bs)) = kept-passed a.tamper (map label_of bs) 0 olds (judged_out a ios cells bs) in
    sym (acts-out a ios units cells (map label_of bs) bs olds (length (passed (judged_out a ios cells bs))) c 0 now g b (omega arith) i refl m s
    ∙ ap (λ l. puts c (take l (passed ks)) now.blocks) (sym n) ∙ ap (λ z. puts c z now.blocks) (take-whole (passed ks)))
  where
    take-whole : (xs : List (List ℕ)) → take (length xs) xs ≡ xs
    take-whole [] = refl
    take-whole (x ∷ xs) = ap (λ z. x ∷ z) (take-whole xs)

-- what is stored in the end
pub stored-out : (a : Adapter) (ios : List Io) (units : List UnitSpec) (cells : List ℕ) (bs : List Block) (olds : List (List ℕ)) (stop : Option Stop) (lba c : ℕ) (now : State) → any_bad (map (sends a ios cells) bs) ≡ false → now.bytes ≡ cells → InTurn c (cells_out a ios units bs) →
    length olds ≡ length bs → Stand c olds now.blocks →
    puts c (write_end lba (kept_over a.tamper (map label_of bs) 0 olds (judged_out a ios cells bs)) stop).frames now.blocks
    ≡ left_at stop (length (passed (judged_out a ios cells bs))) (cells_out a ios units bs) (plain act (take (write_end lba (judged_out a ios cells bs) stop).done (acts_out a ios units bs)) now).blocks
stored-out a ios units cells bs olds None lba c now g b i m s = stored-all a ios units cells bs olds c now g b i m s
stored-out a ios units cells bs olds (Some s) lba c now g b i m o =
    let js = judged_out a ios cells bs in
    let ks : List (Result (List ℕ) Flaw) = kept_over a.tamper (map label_of bs) 0 olds js in
    let n : length (passed ks) ≡ length (passed js) = kept-passed a.tamper (map label_of bs) 0 olds js in
    ⊎_elim
    (λ (t : ltb s.at (length (passed js)) ≡ true).
    (let l = ltb-true s.at (length (passed js)) t in
    let k : s.at < length (cells_out a ios units bs) = (let x = few_passed js in let y = judged-long a ios cells bs in let z = cells-long a ios units bs in omega arith) in
    let q : c + length (take s.at (passed ks)) ≡ get_or (cells_out a ios units bs) s.at 0 = ap (λ m. c + m) (take-long s.at (passed ks) (omega (arith, n))) ∙ sym (turn-at c (cells_out a ios units bs) s.at i k) in
    rw (n, t) (puts-more c (take s.at (passed ks)) now.blocks s.left ∙ ap (λ m. set (puts c (take s.at (passed ks)) now.blocks) m s.left) q
    ∙ ap (λ z. set z (get_or (cells_out a ios units bs) s.at 0) s.left) (sym (acts-out a ios units cells (map label_of bs) bs olds s.at c 0 now g b (omega arith) i refl m o)))))
    (λ (t : ltb s.at (length (passed js)) ≡ false). rw (n, t) (stored-all a ios units cells bs olds c now g b i m o))
    (cases_Bool (ltb s.at (length (passed js))))
