-- The blocks of a read at their unit: what it judges is how they end, and the moves of those that came land them.
use Rattle.std.proofs.Common.{◌≡◌, ◌<◌, ◌≤◌, ℕ, zero, suc, ◌+◌, ◌-◌, Bool, true, false, not, ◌&&◌, eqb, ltb, List, [], ◌∷◌, ◌++◌, length, take, get_or, set, replicate, refl, ap, sym, ◌∙◌, arith, inl, inr, ⊎_elim, Option, Some, None}
use Rattle.std.specs.Prelude.{if◌then◌else◌, IfOk, Result, Ok, Err}
use Rattle.std.proofs.lemmas.Bool.{cases_Bool}
use Rattle.std.proofs.lemmas.List.{length-take-le, set_past}
use Rattle.page_pool.specs.Cells.{gather, scatter}
use Rattle.pi_tuple.specs.Finds.{is_zero}
use Rattle.pi_tuple.specs.declared.checks.PiType.{PiType}
use Rattle.pi_tuple.specs.declared.checks.PiType.TheVariants.{Zero, One, Two, Three}
use Rattle.pi_tuple.specs.declared.checks.Check.{Check}
use Rattle.bio_core.specs.declared.fate.Fate.TheVariants.{Bad, Untouched}
use Rattle.bio_core.specs.declared.fate.Why.TheVariants.{Medium}
use Rattle.bio_core.specs.declared.request.Io.{Io}
use Rattle.bio_core.specs.Bios.{Block, block_size}
use Rattle.fault_schedule.specs.declared.Label.{Label}
use Rattle.fault_schedule.specs.declared.fault.Crossing.TheVariants.{MediumToTarget, TargetToAdapter}
use Rattle.fault_schedule.specs.declared.fault.FaultLine.{FaultLine}
use Rattle.rig_api.specs.Passed.{Flaw, data_of, stored_size, crossed, fails_under, flaw_sense, found_in, from_medium, off_medium, sent_unless, then_crossed, unless, Stop, first_sense, medium_sense, passed, read_end}
use Rattle.rig_api.specs.declared.passage.Passage.{Passage}
use Rattle.rig_api.specs.declared.units.UnitSpec.{UnitSpec}
use Rattle.block_path.specs.Acts.{State, act}
use Rattle.block_path.specs.Blocks.{fetched_cell, own_cell}
use Rattle.block_path.specs.Moves.{carried_in, carry_in}
use Rattle.block_path.specs.Routes.{passage}
use Rattle.block_path.specs.Serial.{plain}
use Rattle.block_path.specs.WayIn.{Stops, WayIn, at_host, comes_in, from_device, from_wire}
use Rattle.block_path.specs.declared.route.Route.{Route}
use Rattle.block_path.proofs.Sizes.{altered_length, is_protected}
use Rattle.dix_adapter.specs.declared.adapter.Adapter.{Adapter}
use Rattle.dix_adapter.specs.Carried.{arrives, carried, fates_in, land, landed}
use Rattle.dix_adapter.specs.Groups.{IsProtect, frame_cells, label_of, request_of, route_of}
use Rattle.dix_adapter.specs.Outcomes.{rest_of}
use Rattle.block_path.specs.Senses.{why_ended}
use Rattle.block_path.proofs.PathLaws.{crossed_length}
use Rattle.dix_adapter.specs.Ways.{acts_in, fates_of_in, frames_in, site_of, stopped_in, ways_in}
use Rattle.dix_adapter.proofs.Flaws.{by_flaw, flaw_named, flaw_why, sends-by}
use Rattle.dix_adapter.proofs.GoingOut.{rest-shift}
use Rattle.dix_adapter.proofs.Runs.{AllLong, width_for}

-- what the unit finds in each block
abbrev pub judged_in : Adapter → List Io → List UnitSpec → (blocks : List (List ℕ)) → List Block → List (Result (List ℕ) Flaw)
judged_in a ios units blocks [] = []
judged_in a ios units blocks (b ∷ bs) = off_medium a.tamper (passage a.tamper (route_of a ios b)) (get_or blocks (fetched_cell (site_of a units) (route_of a ios b)) []) ∷ judged_in a ios units blocks bs

pub judged-in-long : (a : Adapter) (ios : List Io) (units : List UnitSpec) (blocks : List (List ℕ)) (bs : List Block) → length (judged_in a ios units blocks bs) ≡ length bs
judged-in-long a ios units blocks [] = refl
judged-in-long a ios units blocks (b ∷ bs) = ap suc (judged-in-long a ios units blocks bs)

-- ---- the ways, by what is found

abbrev pub ways_from : Adapter → List Io → List Block → List (Result (List ℕ) Flaw) → List WayIn
ways_from a ios [] js = []
ways_from a ios (b ∷ bs) [] = []
ways_from a ios (b ∷ bs) (j ∷ js) = from_device a.tamper (route_of a ios b) (by_flaw j) ∷ ways_from a ios bs js

way-in : (a : Adapter) (units : List UnitSpec) (r : Route) (stored : List ℕ) → comes_in a.tamper (site_of a units).device r stored ≡ from_device a.tamper r (by_flaw (off_medium a.tamper (passage a.tamper r) stored))
way-in a units r stored = ap (from_device a.tamper r) (sends-by (fails_under a.tamper (Some r.label)) (from_medium a.tamper (passage a.tamper r) stored))

pub ways-in-are : (a : Adapter) (ios : List Io) (units : List UnitSpec) (blocks : List (List ℕ)) (bs : List Block) → ways_in a ios units blocks bs ≡ ways_from a ios bs (judged_in a ios units blocks bs)
ways-in-are a ios units blocks [] = refl
ways-in-are a ios units blocks (b ∷ bs) =
    ap (λ w. w ∷ ways_in a ios units blocks bs) (way-in a units (route_of a ios b) (get_or blocks (fetched_cell (site_of a units) (route_of a ios b)) []))
    ∙ ap (λ ws. from_device a.tamper (route_of a ios b) (by_flaw (off_medium a.tamper (passage a.tamper (route_of a ios b)) (get_or blocks (fetched_cell (site_of a units) (route_of a ios b)) []))) ∷ ws) (ways-in-are a ios units blocks bs)

abbrev Judged : Type 0
Judged = Result (List ℕ) Flaw

came : (f : List ℕ) (x : Result (List ℕ) Check) (ws : List WayIn) → frames_in (at_host f x ∷ ws) ≡ f ∷ frames_in ws
came f (Ok frame) ws = refl
came f (Err c) ws = refl

fate-came : (f : List ℕ) (x : Result (List ℕ) Check) (ws : List WayIn) → fates_of_in (at_host f x ∷ ws) ≡ carried x ∷ fates_of_in ws
fate-came f (Ok frame) ws = refl
fate-came f (Err c) ws = refl

frames-from : (a : Adapter) (ios : List Io) (bs : List Block) (js : List Judged) → length bs ≡ length js → frames_in (ways_from a ios bs js) ≡ passed js
frames-from a ios [] [] e = refl
frames-from a ios [] (j ∷ js) e = absurd (omega arith)
frames-from a ios (b ∷ bs) [] e = absurd (omega arith)
frames-from a ios (b ∷ bs) (Ok f ∷ js) e = came f (from_wire a.tamper (route_of a ios b) f) (ways_from a ios bs js) ∙ ap (λ z. f ∷ z) (frames-from a ios bs js (omega arith))
frames-from a ios (b ∷ bs) (Err c ∷ js) e = refl

ways-long : (a : Adapter) (ios : List Io) (bs : List Block) (js : List Judged) → length bs ≡ length js → length (ways_from a ios bs js) ≡ length js
ways-long a ios [] [] e = refl
ways-long a ios [] (j ∷ js) e = absurd (omega arith)
ways-long a ios (b ∷ bs) [] e = absurd (omega arith)
ways-long a ios (b ∷ bs) (j ∷ js) e = ap suc (ways-long a ios bs js (omega arith))

-- ---- fates

rest-end : (n : ℕ) (s : _) → rest_of (suc n) (record { done = 0; sense = s }) ≡ Bad (why_ended s) ∷ replicate n Untouched
rest-end n s =
    let t : ltb 0 (suc n) ≡ true = grind arith in
    let k : suc n - 1 ≡ n = omega arith in
    ap (λ b. if b then Bad (why_ended s) ∷ replicate (suc n - 1) Untouched else []) t
    ∙ ap (λ j. Bad (why_ended s) ∷ replicate j Untouched) k

fates-from : (a : Adapter) (ios : List Io) (lba : ℕ) (bs : List Block) (js : List Judged) → length bs ≡ length js →
    fates_of_in (ways_from a ios bs js) ≡ fates_in a ios bs (passed js) ++ rest_of (length js) (record { done = length (passed js); sense = first_sense lba js })
fates-from a ios lba [] [] e = refl
fates-from a ios lba [] (j ∷ js) e = absurd (omega arith)
fates-from a ios lba (b ∷ bs) [] e = absurd (omega arith)
fates-from a ios lba (b ∷ bs) (Ok f ∷ js) e =
    fate-came f (from_wire a.tamper (route_of a ios b) f) (ways_from a ios bs js)
    ∙ ap (λ z. carried (arrives a ios b f) ∷ z) (fates-from a ios (lba + 1) bs js (omega arith))
    ∙ ap (λ z. carried (arrives a ios b f) ∷ (fates_in a ios bs (passed js) ++ z))
    (sym (rest-shift (length js) (record { done = length (passed js); sense = first_sense (lba + 1) js }) (record { done = suc (length (passed js)); sense = first_sense (lba + 1) js }) refl refl))
fates-from a ios lba (b ∷ bs) (Err c ∷ js) e =
    ap (λ n. Bad (flaw_why c) ∷ replicate n Untouched) (ways-long a ios bs js (omega arith))
    ∙ sym (rest-end (length js) (Some (flaw_sense c lba)) ∙ ap (λ w. Bad w ∷ replicate (length js) Untouched) (flaw_named c lba))

-- one at which a store call failed
set-frames : (a : Adapter) (ios : List Io) (i : ℕ) (bs : List Block) (js : List Judged) → i ≤ length (passed js) → i < length js → length bs ≡ length js → frames_in (set (ways_from a ios bs js) i (Stops Medium)) ≡ take i (passed js)
set-frames a ios i [] [] h l e = absurd (omega arith)
set-frames a ios i [] (j ∷ js) h l e = absurd (omega arith)
set-frames a ios i (b ∷ bs) [] h l e = absurd (omega arith)
set-frames a ios zero (b ∷ bs) (j ∷ js) h l e = refl
set-frames a ios (suc i) (b ∷ bs) (Err c ∷ js) h l e = absurd (omega arith)
set-frames a ios (suc i) (b ∷ bs) (Ok f ∷ js) h l e =
    came f (from_wire a.tamper (route_of a ios b) f) (set (ways_from a ios bs js) i (Stops Medium)) ∙ ap (λ z. f ∷ z) (set-frames a ios i bs js (omega arith) (omega arith) (omega arith))

set-fates : (a : Adapter) (ios : List Io) (s : _) (i : ℕ) (bs : List Block) (js : List Judged) → why_ended s ≡ Medium → i ≤ length (passed js) → i < length js → length bs ≡ length js →
    fates_of_in (set (ways_from a ios bs js) i (Stops Medium)) ≡ fates_in a ios bs (take i (passed js)) ++ rest_of (length js) (record { done = i; sense = s })
set-fates a ios s i [] [] w h l e = absurd (omega arith)
set-fates a ios s i [] (j ∷ js) w h l e = absurd (omega arith)
set-fates a ios s i (b ∷ bs) [] w h l e = absurd (omega arith)
set-fates a ios s zero (b ∷ bs) (j ∷ js) w h l e =
    ap (λ n. Bad Medium ∷ replicate n Untouched) (ways-long a ios bs js (omega arith))
    ∙ sym (rest-end (length js) s ∙ ap (λ x. Bad x ∷ replicate (length js) Untouched) w)
set-fates a ios s (suc i) (b ∷ bs) (Err c ∷ js) w h l e = absurd (omega arith)
set-fates a ios s (suc i) (b ∷ bs) (Ok f ∷ js) w h l e =
    fate-came f (from_wire a.tamper (route_of a ios b) f) (set (ways_from a ios bs js) i (Stops Medium))
    ∙ ap (λ z. carried (arrives a ios b f) ∷ z) (set-fates a ios s i bs js w (omega arith) (omega arith) (omega arith))
    ∙ ap (λ z. carried (arrives a ios b f) ∷ (fates_in a ios bs (take i (passed js)) ++ z)) (sym (rest-shift (length js) (record { done = i; sense = s }) (record { done = suc i; sense = s }) refl refl))

-- how the command ends
pub record EndsIn (a : Adapter) (ios : List Io) (stop : Option Stop) (lba : ℕ) (bs : List Block) (js : List (Result (List ℕ) Flaw)) : Type 0 where
  pub frames : frames_in (stopped_in stop (ways_from a ios bs js)) ≡ (read_end lba js stop).frames
  pub part : (read_end lba js stop).frames ≡ take (read_end lba js stop).done (passed js)
  pub few : (read_end lba js stop).done ≤ length (passed js)
  pub fates : fates_of_in (stopped_in stop (ways_from a ios bs js)) ≡ fates_in a ios bs (read_end lba js stop).frames ++ rest_of (length js) (record { done = (read_end lba js stop).done; sense = (read_end lba js stop).sense })

take-whole : {X : Type 0} (xs : List X) → xs ≡ take (length xs) xs
take-whole [] = refl
take-whole (x ∷ xs) = ap (λ z. x ∷ z) (take-whole xs)

pub ends-in : (a : Adapter) (ios : List Io) (stop : Option Stop) (lba : ℕ) (bs : List Block) (js : List (Result (List ℕ) Flaw)) → length bs ≡ length js → EndsIn a ios stop lba bs js
ends-in a ios None lba bs js e = record { frames = frames-from a ios bs js e; part = take-whole (passed js); few = omega arith; fates = fates-from a ios lba bs js e }
ends-in a ios (Some s) lba bs js e =
    let n : length (frames_in (ways_from a ios bs js)) + 1 ≡ length (passed js) + 1 = ap (λ z. length z + 1) (frames-from a ios bs js e) in
    ⊎_elim
    (λ (t : ltb s.at (length (passed js) + 1) ≡ true).
    ⊎_elim
    (λ (u : ltb s.at (length js) ≡ true).
    (let h : s.at ≤ length (passed js) = grind arith in
    let l : s.at < length js = grind arith in
    record {
      frames = rw (n, t, u) (set-frames a ios s.at bs js h l e);
      part = rw (t, u) refl;
      few = rw (t, u) h;
      fates = rw (n, t, u) (set-fates a ios (Some (medium_sense 0x11 (lba + s.at))) s.at bs js refl h l e);
    }))
    (λ (u : ltb s.at (length js) ≡ false).
    (let h : length js ≤ s.at = grind arith in
    let p = set_past (ways_from a ios bs js) s.at (Stops Medium) (let x = ways-long a ios bs js e in omega arith) in
    record {
      frames = rw (n, t, u) (ap frames_in p ∙ frames-from a ios bs js e);
      part = rw (t, u) (take-whole (passed js));
      few = rw (t, u) (omega arith);
      fates = rw (n, t, u) (ap fates_of_in p ∙ fates-from a ios lba bs js e);
    }))
    (cases_Bool (ltb s.at (length js))))
    (λ (t : ltb s.at (length (passed js) + 1) ≡ false).
    record {
      frames = rw (n, t) (frames-from a ios bs js e);
      part = rw t (take-whole (passed js));
      few = rw t (omega arith);
      fates = rw (n, t) (fates-from a ios lba bs js e);
    })
    (cases_Bool (ltb s.at (length (passed js) + 1)))

-- ---- what lands

pub scatter-none : (at cells : List ℕ) → scatter at [] cells ≡ cells
scatter-none [] cells = refl
scatter-none (i ∷ at) cells = refl

lands-one : (r : Route) (at cells f : List ℕ) (after : ℕ) (x : Result (List ℕ) Check) → scatter at (carried_in r (at_host f x) after).written.bytes cells ≡ land at x cells
lands-one r at cells f after (Ok frame) = refl
lands-one r at cells f after (Err c) = scatter-none at cells

pub acts-in : (a : Adapter) (ios : List Io) (units : List UnitSpec) (blocks : List (List ℕ)) (kept : Block → ℕ) (bs : List Block) (n : ℕ) (now : State) → now.blocks ≡ blocks → n ≤ length (passed (judged_in a ios units blocks bs)) →
    (plain act (take n (acts_in a ios units kept bs)) now).bytes ≡ landed a ios bs (take n (passed (judged_in a ios units blocks bs))) now.bytes
acts-in a ios units blocks kept [] zero now b h = refl
acts-in a ios units blocks kept (x ∷ bs) zero now b h = refl
acts-in a ios units blocks kept [] (suc n) now b h = absurd (omega arith)
acts-in a ios units blocks kept (x ∷ bs) (suc n) now b h =
    by (off_medium a.tamper (passage a.tamper (route_of a ios x)) (get_or blocks (fetched_cell (site_of a units) (route_of a ios x)) [])) refl
    (λ k. acts-in a ios units blocks kept bs n (act (carry_in (site_of a units) (route_of a ios x) (frame_cells ios x) (kept x)) now) b k)
  where
    by : (j : Judged) → off_medium a.tamper (passage a.tamper (route_of a ios x)) (get_or blocks (fetched_cell (site_of a units) (route_of a ios x)) []) ≡ j →
        (n ≤ length (passed (judged_in a ios units blocks bs)) → (plain act (take n (acts_in a ios units kept bs)) (act (carry_in (site_of a units) (route_of a ios x) (frame_cells ios x) (kept x)) now)).bytes
        ≡ landed a ios bs (take n (passed (judged_in a ios units blocks bs))) (act (carry_in (site_of a units) (route_of a ios x) (frame_cells ios x) (kept x)) now).bytes) →
        (plain act (take n (acts_in a ios units kept bs)) (act (carry_in (site_of a units) (route_of a ios x) (frame_cells ios x) (kept x)) now)).bytes ≡ landed a ios (x ∷ bs) (take (suc n) (passed (judged_in a ios units blocks (x ∷ bs)))) now.bytes
    by (Ok f) e more =
        let q : passed (judged_in a ios units blocks (x ∷ bs)) ≡ f ∷ passed (judged_in a ios units blocks bs) = ap (λ j. passed (j ∷ judged_in a ios units blocks bs)) e in
        let k : n ≤ length (passed (judged_in a ios units blocks bs)) = omega (arith, h, ap length q) in
        let w : comes_in a.tamper (site_of a units).device (route_of a ios x) (get_or now.blocks (fetched_cell (site_of a units) (route_of a ios x)) []) ≡ at_host f (from_wire a.tamper (route_of a ios x) f) =
        ap (λ z. comes_in a.tamper (site_of a units).device (route_of a ios x) (get_or z (fetched_cell (site_of a units) (route_of a ios x)) [])) b
        ∙ way-in a units (route_of a ios x) (get_or blocks (fetched_cell (site_of a units) (route_of a ios x)) [])
        ∙ ap (λ j. from_device a.tamper (route_of a ios x) (by_flaw j)) e in
        more k
        ∙ ap (landed a ios bs (take n (passed (judged_in a ios units blocks bs))))
        (ap (λ y. scatter (frame_cells ios x) (carried_in (route_of a ios x) y (length (get_or (gather [] (own_cell (site_of a units) (route_of a ios x) ∷ []) now.logs) 0 []))).written.bytes now.bytes) w
        ∙ lands-one (route_of a ios x) (frame_cells ios x) now.bytes f (length (get_or (gather [] (own_cell (site_of a units) (route_of a ios x) ∷ []) now.logs) 0 [])) (from_wire a.tamper (route_of a ios x) f))
        ∙ sym (ap (λ z. landed a ios (x ∷ bs) (take (suc n) z) now.bytes) q)
    by (Err check) e more = absurd (let q : passed (judged_in a ios units blocks (x ∷ bs)) ≡ [] = ap (λ j. passed (j ∷ judged_in a ios units blocks bs)) e in let l : length (passed (judged_in a ios units blocks (x ∷ bs))) ≡ 0 = ap length q in omega (arith, h, l))

-- ---- their size

released-long : (faults : List FaultLine) (label : Option Label) (found : Option Check) (frame : List ℕ) (w : ℕ) → length frame ≡ w → IfOk (then_crossed faults label TargetToAdapter (unless found frame)) (λ f. length f ≡ w)
released-long faults label None frame w e = crossed_length faults label TargetToAdapter frame ∙ e
released-long faults label (Some c) frame w e = tt

pub from-long : (faults : List FaultLine) (p : Passage) (stored : List ℕ) (w : ℕ) → length (if eqb p.protect 0 then data_of p.size (crossed faults p.label MediumToTarget stored) else crossed faults p.label MediumToTarget stored) ≡ w → IfOk (from_medium faults p stored) (λ f. length f ≡ w)
unfolding from_medium
from-long faults p stored w h = released-long faults p.label (found_in p (crossed faults p.label MediumToTarget stored)) _ w h

-- of the frame that its unit sends
front-long : (ty : PiType) (size f : ℕ) (passes : Bool) (frame : List ℕ) → IsProtect f → (passes ≡ true → is_zero ty ≡ false) → length frame ≡ stored_size ty size →
    length (if eqb (if passes then f else 0) 0 then take size frame else frame) ≡ (if passes then size + 8 else size)
front-long ty size f true frame p z l = by f p ∙ l ∙ of ty (z refl)
  where
    by : (f : ℕ) → IsProtect f → length (if eqb f 0 then take size frame else frame) ≡ length frame
    by f (inl e) = rw e refl
    by f (inr (inl e)) = rw e refl
    by f (inr (inr e)) = rw e refl

    of : (ty : PiType) → is_zero ty ≡ false → stored_size ty size ≡ size + 8
    of Zero e = absurd (let x : true ≡ false = e in cc)
    of One e = refl
    of Two e = refl
    of Three e = refl
front-long ty size f false frame p z l = length-take-le size frame (let x = least ty in omega arith)
  where
    least : (ty : PiType) → size ≤ stored_size ty size
    least Zero = omega arith
    least One = omega arith
    least Two = omega arith
    least Three = omega arith

unless-long : (w : ℕ) (broken : Bool) (came : Result (List ℕ) Check) → IfOk came (λ f. length f ≡ w) → IfOk (sent_unless broken came) (λ f. length f ≡ w)
unless-long w true came l = tt
unless-long w false (Ok f) l = l
unless-long w false (Err c) l = tt

pub sent-long-in : (a : Adapter) (ios : List Io) (b : Block) (stored : List ℕ) (bytes : ℕ) → IsProtect a.protect → block_size (request_of ios b.op) ≡ bytes → length stored ≡ stored_size a.ty bytes →
    IfOk (off_medium a.tamper (passage a.tamper (route_of a ios b)) stored) (λ f. length f ≡ width_for a bytes)
sent-long-in a ios b stored bytes p e l =
    unless-long (width_for a bytes) (fails_under a.tamper (Some (label_of b))) (from_medium a.tamper (passage a.tamper (route_of a ios b)) stored)
    (from-long a.tamper (passage a.tamper (route_of a ios b)) stored (width_for a bytes)
    (front-long a.ty (block_size (request_of ios b.op)) a.protect (a.dif && not (is_zero a.ty)) (crossed a.tamper (Some (label_of b)) MediumToTarget stored) p (is_protected a.dif (is_zero a.ty))
    (altered_length a.tamper MediumToTarget (label_of b) stored ∙ l ∙ ap (stored_size a.ty) (sym e))
    ∙ ap (width_for a) e))

pub passed-long : (w : ℕ) (j : Result (List ℕ) Flaw) (js : List (Result (List ℕ) Flaw)) → IfOk j (λ f. length f ≡ w) → AllLong w (passed js) → AllLong w (passed (j ∷ js))
passed-long w (Ok f) js l h = (l, h)
passed-long w (Err c) js l h = tt

pub part-long : (w n : ℕ) (fs : List (List ℕ)) → AllLong w fs → AllLong w (take n fs)
part-long w zero fs h = tt
part-long w (suc n) [] h = tt
part-long w (suc n) (f ∷ fs) h = (h.0, part-long w n fs h.1)

pub long-at : (w : ℕ) (fs : List (List ℕ)) (i : ℕ) → AllLong w fs → i < length fs → length (get_or fs i []) ≡ w
long-at w [] i h l = absurd (omega arith)
long-at w (f ∷ fs) zero h l = h.0
long-at w (f ∷ fs) (suc i) h l = long-at w fs i h.1 (omega arith)
