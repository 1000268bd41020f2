-- What was found of a block of a read that is carried and not settled stands in its cell.
use Rattle.std.proofs.Common.{◌≡◌, ℕ, zero, suc, ◌+◌, ◌<◌, ◌≤◌, Bool, true, false, List, [], ◌∷◌, ◌++◌, length, get_or, set, take, Option, Some, None, refl, sym, ap, subst, ◌∙◌, arith, append_assoc}
use Rattle.std.proofs.lemmas.List.{get_or-set_other, get_or-set_same, length-append, length-set}
use Rattle.bio_core.specs.declared.fate.Why.{Why}
use Rattle.page_pool.specs.Cells.{scatter}
use Rattle.block_path.specs.declared.route.Route.{Route}
use Rattle.block_path.specs.Acts.{Act, State, act, effect, seen, tell}
use Rattle.block_path.specs.Blocks.{ActAnswer, Sent, silent}
use Rattle.block_path.specs.Moves.{carried_in, carry_in, settle}
use Rattle.block_path.specs.WayIn.{Delivers, Spoils, Stops, WayIn, comes_in}
use Rattle.block_path.specs.Serial.{Answered, walk}
use Rattle.run_laws.specs.Passed.{Setting, route, Alters, Reads, Seals, Sets, Shows, Step, Writes, WritesPi, steps_of, Op}
use Rattle.run_laws.specs.BoundRun.{fates}
use Rattle.run_laws.specs.ScriptMoves.{all_moves, blocks_from, by_moves, fates_of, lands_in, moves_from, own_at, room_of, write_moves}
use Rattle.stack_walk_laws.specs.Following.{AllStand, Follows, StandFrom}
use Rattle.stack_walk_laws.specs.Slots.{Carried, SlotStands, Status, parts_of, so_far}
use Rattle.stack_walk_laws.specs.Spots.{IsRead, op_in, steps_in}
use Rattle.stack_walk_laws.proofs.Spots.{steps_count}

-- the cells of what is found that an act writes are none below this one
abbrev AllFrom : ℕ → List ℕ → Type 0
AllFrom c [] = Unit {0}
AllFrom c (w ∷ ws) = (c ≤ w) × AllFrom c ws

abbrev pub EachAbove : ℕ → List (Act ActAnswer) → Type 0
EachAbove c [] = Unit {0}
EachAbove c (a ∷ acts) = AllFrom c a.fates.writes × EachAbove c acts

above_join : (c : ℕ) (xs ys : List (Act ActAnswer)) → EachAbove c xs → EachAbove c ys → EachAbove c (xs ++ ys)
above_join c [] ys h k = k
above_join c (x ∷ xs) ys h k = (h.0, above_join c xs ys h.1 k)

from_less : (c d : ℕ) (ws : List ℕ) → c ≤ d → AllFrom d ws → AllFrom c ws
from_less c d [] h a = tt
from_less c d (w ∷ ws) h a = let x = a.0 in (omega arith, from_less c d ws h a.1)

above_less : (c d : ℕ) (acts : List (Act ActAnswer)) → c ≤ d → EachAbove d acts → EachAbove c acts
above_less c d [] h a = tt
above_less c d (x ∷ acts) h a = (from_less c d x.fates.writes h a.0, above_less c d acts h a.1)

step_above : (m : Setting) (own : List ℕ) (f : ℕ) (step : Step) → EachAbove f (by_moves m own f step).moves
step_above m own f (Sets at values) = (tt, tt)
step_above m own f (Shows at) = (tt, tt)
step_above m own f (Seals body tuple app rtag) = (tt, tt)
step_above m own f (Writes b app body) = by m.mode.dix
  where
    by : (dix : Bool) → EachAbove f (write_moves m b app body own dix)
    by true = (tt, (tt, (tt, (tt, tt))))
    by false = (tt, tt)
step_above m own f (WritesPi b frame) = (tt, (tt, (tt, tt)))
step_above m own f (Reads b owner to) = ((omega arith, tt), (tt, tt))
step_above m own f (Alters dev lba change) = (tt, tt)

blocks_above : (m : Setting) (from fate k c : ℕ) (steps : List Step) → c ≤ fate + k → EachAbove c (all_moves (blocks_from m from fate k steps))
blocks_above m from fate k c [] h = tt
blocks_above m from fate k c (step ∷ steps) h =
    above_join c (by_moves m (own_at from k) (fate + k) step).moves (all_moves (blocks_from m from fate (suc k) steps)) (above_less c (fate + k) (by_moves m (own_at from k) (fate + k) step).moves h (step_above m (own_at from k) (fate + k) step))
    (blocks_above m from fate (suc k) c steps (omega arith))

ops_above : (m : Setting) (from fate i c : ℕ) (ops : List Op) → c ≤ fate → EachAbove c (moves_from m from fate i ops)
ops_above m from fate i c [] h = tt
ops_above m from fate i c (op ∷ ops) h =
    above_join c (all_moves (blocks_from m from fate 0 (steps_of m i op))) (moves_from m (from + room_of m op) (fate + fates_of op) (suc i) ops) (blocks_above m from fate 0 c (steps_of m i op) (omega arith))
    (ops_above m (from + room_of m op) (fate + fates_of op) (suc i) c ops (omega arith))

-- ---- what a walk keeps

scatter_keeps : (at : List ℕ) (values cells : List (Option Why)) (c : ℕ) → AllFrom (suc c) at → get_or (scatter at values cells) c None ≡ get_or cells c None
scatter_keeps [] values cells c h = refl
scatter_keeps (i ∷ at) [] cells c h = refl
scatter_keeps (i ∷ at) (v ∷ values) cells c h = let l = h.0 in scatter_keeps at values (set cells i v) c h.1 ∙ get_or-set_other cells i c v None (λ (e : c ≡ i). omega arith)

scatter_long : (at : List ℕ) (values cells : List (Option Why)) → length (scatter at values cells) ≡ length cells
scatter_long [] values cells = refl
scatter_long (i ∷ at) [] cells = refl
scatter_long (i ∷ at) (v ∷ values) cells = scatter_long at values (set cells i v) ∙ length-set cells i v

walk_keeps : (acts : List (Act ActAnswer)) (ds : List (Option ActAnswer)) (s : State) (c : ℕ) → EachAbove (suc c) acts → get_or (walk act acts ds s).fates c None ≡ get_or s.fates c None
walk_keeps [] ds s c h = refl
walk_keeps (a ∷ acts) [] s c h = refl
walk_keeps (a ∷ acts) (None ∷ ds) s c h = walk_keeps acts ds s c h.1
walk_keeps (a ∷ acts) (Some r ∷ ds) s c h = walk_keeps acts ds (act a s) c h.1 ∙ scatter_keeps a.fates.writes (effect a s).written.fates s.fates c h.0

walk_long : (acts : List (Act ActAnswer)) (ds : List (Option ActAnswer)) (s : State) → length (walk act acts ds s).fates ≡ length s.fates
walk_long [] ds s = refl
walk_long (a ∷ acts) [] s = refl
walk_long (a ∷ acts) (None ∷ ds) s = walk_long acts ds s
walk_long (a ∷ acts) (Some r ∷ ds) s = walk_long acts ds (act a s) ∙ scatter_long a.fates.writes (effect a s).written.fates s.fates

-- ---- a walk in two parts

so_long : (moves : List (Act ActAnswer)) (answers : List ActAnswer) → length (so_far moves answers) ≡ length moves
so_long [] answers = refl
so_long (a ∷ moves) [] = ap suc (so_long moves [])
so_long (a ∷ moves) (r ∷ answers) = ap suc (so_long moves answers)

walk_join : (xs ys : List (Act ActAnswer)) (ds es : List (Option ActAnswer)) (s : State) → length ds ≡ length xs → walk act (xs ++ ys) (ds ++ es) s ≡ walk act ys es (walk act xs ds s)
walk_join [] ys [] es s h = refl
walk_join [] ys (d ∷ ds) es s h = absurd (omega arith)
walk_join (x ∷ xs) ys [] es s h = absurd (omega arith)
walk_join (x ∷ xs) ys (None ∷ ds) es s h = walk_join xs ys ds es s (omega arith)
walk_join (x ∷ xs) ys (Some r ∷ ds) es s h = walk_join xs ys ds es (act x s) (omega arith)

answered_front : (xs ys : List (Act ActAnswer)) (ds es : List (Option ActAnswer)) (s : State) → length ds ≡ length xs → Answered act tell (xs ++ ys) (ds ++ es) s → Answered act tell xs ds s
answered_front [] ys [] es s h k = tt
answered_front [] ys (d ∷ ds) es s h k = absurd (omega arith)
answered_front (x ∷ xs) ys [] es s h k = absurd (omega arith)
answered_front (x ∷ xs) ys (None ∷ ds) es s h k = answered_front xs ys ds es s (omega arith) k
answered_front (x ∷ xs) ys (Some r ∷ ds) es s h k = (k.0, answered_front xs ys ds es (act x s) (omega arith) k.1)

answered_behind : (xs ys : List (Act ActAnswer)) (ds es : List (Option ActAnswer)) (s : State) → length ds ≡ length xs → Answered act tell (xs ++ ys) (ds ++ es) s → Answered act tell ys es (walk act xs ds s)
answered_behind [] ys [] es s h k = k
answered_behind [] ys (d ∷ ds) es s h k = absurd (omega arith)
answered_behind (x ∷ xs) ys [] es s h k = absurd (omega arith)
answered_behind (x ∷ xs) ys (None ∷ ds) es s h k = answered_behind xs ys ds es s (omega arith) k
answered_behind (x ∷ xs) ys (Some r ∷ ds) es s h k = answered_behind xs ys ds es (act x s) (omega arith) k.1

-- ---- the block

carried_same : (r : Route) (w : WayIn) (after : ℕ) → (carried_in r w after).written.fates ≡ (carried_in r w after).answer.why ∷ []
carried_same r (Stops why) after = refl
carried_same r (Spoils why carried) after = refl
carried_same r (Delivers carried frame) after = refl

-- a block that is carried, with what is behind it
one_read : (m : Setting) (r : Route) (to : List ℕ) (f : ℕ) (last : Act ActAnswer) (answers : List ActAnswer) (s : State) (why : Option Why) → length answers ≡ 1 → (get_or answers 0 silent).why ≡ why → f < length s.fates → AllFrom (suc f) last.fates.writes →
    Answered act tell (carry_in m.site r to f ∷ (last ∷ [])) (so_far (carry_in m.site r to f ∷ (last ∷ [])) answers) s →
    get_or (walk act (carry_in m.site r to f ∷ (last ∷ [])) (so_far (carry_in m.site r to f ∷ (last ∷ [])) answers) s).fates f None ≡ why
one_read m r to f last [] s why n w l b a = absurd (omega arith)
one_read m r to f last (x ∷ (y ∷ answers)) s why n w l b a = absurd (omega arith)
one_read m r to f last (x ∷ []) s why n w l b a =
    let c = carry_in m.site r to f in
    let e : (effect c s).written.fates ≡ (effect c s).answer.why ∷ [] = carried_same r (comes_in m.site.faults m.site.device r (get_or (gather_of s) 0 [])) (length (get_or (logs_of s) 0 [])) in
    ap (λ v. get_or (scatter (f ∷ []) v s.fates) f None) e ∙ (get_or-set_same s.fates f (effect c s).answer.why None l ∙ (sym (ap (λ (t : ActAnswer). t.why) a.0) ∙ w))
  where
    gather_of : State → List (List ℕ)
    gather_of s = (seen (carry_in m.site r to f) s).blocks

    logs_of : State → List (List (List ℕ))
    logs_of s = (seen (carry_in m.site r to f) s).logs

in_block : (m : Setting) (own : List ℕ) (f : ℕ) (step : Step) (answers : List ActAnswer) (s : State) (why : Option Why) → IsRead step → SlotStands (parts_of m own f step) (by_moves m own f step).join (Carried why) answers → f < length s.fates →
    Answered act tell (by_moves m own f step).moves (so_far (by_moves m own f step).moves answers) s → get_or (walk act (by_moves m own f step).moves (so_far (by_moves m own f step).moves answers) s).fates f None ≡ why
in_block m own f (Sets at values) answers s why r st l a = absurd r
in_block m own f (Shows at) answers s why r st l a = absurd r
in_block m own f (Seals body tuple app rtag) answers s why r st l a = absurd r
in_block m own f (Writes b app body) answers s why r st l a = absurd r
in_block m own f (WritesPi b frame) answers s why r st l a = absurd r
in_block m own f (Reads b owner to) answers s why r st l a = one_read m (route m b) (lands_in owner m.mode.dix to own) f (settle (route m b) owner (lands_in owner m.mode.dix to own) f) answers s why st.count st.tells l tt a
in_block m own f (Alters dev lba change) answers s why r st l a = absurd r

in_steps : (m : Setting) (from fate k q : ℕ) (steps : List Step) (status : ℕ → Status) (done : List (Option ActAnswer)) (rest : List (Act ActAnswer)) (behind : List (Option ActAnswer)) (s : State) (why : Option Why) → q < length steps → IsRead (get_or steps q (Sets [] [])) →
    StandFrom m from fate k steps status done → status (k + q) ≡ Carried why → fate + (k + q) < length s.fates → EachAbove (suc (fate + (k + q))) rest → Answered act tell (all_moves (blocks_from m from fate k steps) ++ rest) (done ++ behind) s →
    get_or (walk act (all_moves (blocks_from m from fate k steps) ++ rest) (done ++ behind) s).fates (fate + (k + q)) None ≡ why
in_steps m from fate k q [] status done rest behind s why l r st c w b a = absurd (omega arith)
in_steps m from fate k zero (step ∷ steps) status done rest behind s why l r st c w b a =
    let z : k + 0 ≡ k = omega arith in
    let v = by_moves m (own_at from k) (fate + k) step in
    let moves = v.moves in
    let more = all_moves (blocks_from m from fate (suc k) steps) ++ rest in
    let here = so_far moves st.0 in
    let ds : done ++ behind ≡ here ++ (st.1.0 ++ behind) = ap (λ x. x ++ behind) st.1.1.0 ∙ append_assoc here st.1.0 behind in
    let ms : all_moves (blocks_from m from fate k (step ∷ steps)) ++ rest ≡ moves ++ more = append_assoc moves (all_moves (blocks_from m from fate (suc k) steps)) rest in
    let long = so_long moves st.0 in
    let all : Answered act tell (moves ++ more) (here ++ (st.1.0 ++ behind)) s = subst (λ x. Answered act tell x (here ++ (st.1.0 ++ behind)) s) ms (subst (λ x. Answered act tell (all_moves (blocks_from m from fate k (step ∷ steps)) ++ rest) x s) ds a) in
    let stands : SlotStands (parts_of m (own_at from k) (fate + k) step) v.join (Carried why) st.0 = subst (λ x. SlotStands (parts_of m (own_at from k) (fate + k) step) v.join x st.0) (ap status (sym z) ∙ c) st.1.1.1.0 in
    let one = in_block m (own_at from k) (fate + k) step st.0 s why r stands (omega arith) (answered_front moves more here (st.1.0 ++ behind) s long all) in
    let up = above_join (suc (fate + k)) (all_moves (blocks_from m from fate (suc k) steps)) rest (blocks_above m from fate (suc k) (suc (fate + k)) steps (omega arith)) (subst (λ x. EachAbove (suc (fate + x)) rest) z b) in
    subst (λ x. get_or (walk act (all_moves (blocks_from m from fate k (step ∷ steps)) ++ rest) (done ++ behind) s).fates (fate + x) None ≡ why) (sym z)
    (ap (λ x. get_or (walk act x (done ++ behind) s).fates (fate + k) None) ms ∙ (ap (λ x. get_or (walk act (moves ++ more) x s).fates (fate + k) None) ds
    ∙ (ap (λ (x : State). get_or x.fates (fate + k) None) (walk_join moves more here (st.1.0 ++ behind) s long) ∙ (walk_keeps more (st.1.0 ++ behind) (walk act moves here s) (fate + k) up ∙ one))))
in_steps m from fate k (suc q) (step ∷ steps) status done rest behind s why l r st c w b a =
    let z : suc k + q ≡ k + suc q = omega arith in
    let v = by_moves m (own_at from k) (fate + k) step in
    let moves = v.moves in
    let more = all_moves (blocks_from m from fate (suc k) steps) ++ rest in
    let here = so_far moves st.0 in
    let ds : done ++ behind ≡ here ++ (st.1.0 ++ behind) = ap (λ x. x ++ behind) st.1.1.0 ∙ append_assoc here st.1.0 behind in
    let ms : all_moves (blocks_from m from fate k (step ∷ steps)) ++ rest ≡ moves ++ more = append_assoc moves (all_moves (blocks_from m from fate (suc k) steps)) rest in
    let long = so_long moves st.0 in
    let all : Answered act tell (moves ++ more) (here ++ (st.1.0 ++ behind)) s = subst (λ x. Answered act tell x (here ++ (st.1.0 ++ behind)) s) ms (subst (λ x. Answered act tell (all_moves (blocks_from m from fate k (step ∷ steps)) ++ rest) x s) ds a) in
    let n = walk_long moves here s in
    let ih = in_steps m from fate (suc k) q steps status st.1.0 rest behind (walk act moves here s) why (omega arith) r st.1.1.1.1 (ap status z ∙ c) (omega arith) (subst (λ x. EachAbove (suc (fate + x)) rest) (sym z) b) (answered_behind moves more here (st.1.0 ++ behind) s long all) in
    subst (λ x. get_or (walk act (all_moves (blocks_from m from fate k (step ∷ steps)) ++ rest) (done ++ behind) s).fates (fate + x) None ≡ why) z
    (ap (λ x. get_or (walk act x (done ++ behind) s).fates (fate + (suc k + q)) None) ms ∙ (ap (λ x. get_or (walk act (moves ++ more) x s).fates (fate + (suc k + q)) None) ds
    ∙ (ap (λ (x : State). get_or x.fates (fate + (suc k + q)) None) (walk_join moves more here (st.1.0 ++ behind) s long) ∙ ih)))

blocks_done_long : (m : Setting) (from fate k : ℕ) (steps : List Step) (status : ℕ → Status) (done : List (Option ActAnswer)) → StandFrom m from fate k steps status done → length done ≡ length (all_moves (blocks_from m from fate k steps))
blocks_done_long m from fate k [] status done st = ap length st
blocks_done_long m from fate k (step ∷ steps) status done st =
    let moves = (by_moves m (own_at from k) (fate + k) step).moves in
    let a = length-append (so_far moves st.0) st.1.0 in
    let b = length-append moves (all_moves (blocks_from m from fate (suc k) steps)) in
    let c = so_long moves st.0 in
    let d = blocks_done_long m from fate (suc k) steps status st.1.0 st.1.1.1.1 in
    let e = ap length st.1.1.0 in
    omega arith

in_ops : (m : Setting) (from fate i p q : ℕ) (ops : List Op) (status : ℕ → ℕ → Status) (done : List (Option ActAnswer)) (s : State) (why : Option Why) → p < length ops → q < fates_of (op_in ops p) → IsRead (get_or (steps_of m (i + p) (op_in ops p)) q (Sets [] [])) →
    AllStand m from fate i ops status done → status (i + p) q ≡ Carried why → (fate + fates (take p ops)) + q < length s.fates → Answered act tell (moves_from m from fate i ops) done s →
    get_or (walk act (moves_from m from fate i ops) done s).fates ((fate + fates (take p ops)) + q) None ≡ why
in_ops m from fate i p q [] status done s why l w r st c b a = absurd (omega arith)
in_ops m from fate i zero q (op ∷ ops) status done s why l w r st c b a =
    let z : i + 0 ≡ i = omega arith in
    let y : (fate + 0) + q ≡ fate + (0 + q) = omega arith in
    let x : 0 + q ≡ q = omega arith in
    let n = steps_count m i op (omega arith) in
    let rest = moves_from m (from + room_of m op) (fate + fates_of op) (suc i) ops in
    let r' : IsRead (get_or (steps_of m i op) q (Sets [] [])) = subst (λ t. IsRead (get_or (steps_of m t op) q (Sets [] []))) z r in
    let c' : status i (0 + q) ≡ Carried why = ap (status i) x ∙ (ap (λ t. status t q) (sym z) ∙ c) in
    let ds = st.1.1.0 in
    let a' : Answered act tell (all_moves (blocks_from m from fate 0 (steps_of m i op)) ++ rest) (st.0 ++ st.1.0) s = subst (λ t. Answered act tell (moves_from m from fate i (op ∷ ops)) t s) ds a in
    subst (λ t. get_or (walk act (moves_from m from fate i (op ∷ ops)) done s).fates t None ≡ why) (sym y)
    (ap (λ t. get_or (walk act (moves_from m from fate i (op ∷ ops)) t s).fates (fate + (0 + q)) None) ds
    ∙ in_steps m from fate 0 q (steps_of m i op) (status i) st.0 rest st.1.0 s why (omega arith) r' st.1.1.1.0 c' (omega arith) (ops_above m (from + room_of m op) (fate + fates_of op) (suc i) (suc (fate + (0 + q))) ops (omega arith)) a')
in_ops m from fate i (suc p) q (op ∷ ops) status done s why l w r st c b a =
    let z : i + suc p ≡ suc i + p = omega arith in
    let f = fates (take p ops) in
    let y : (fate + (fates_of op + f)) + q ≡ ((fate + fates_of op) + f) + q = omega arith in
    let mine = all_moves (blocks_from m from fate 0 (steps_of m i op)) in
    let rest = moves_from m (from + room_of m op) (fate + fates_of op) (suc i) ops in
    let ds = st.1.1.0 in
    let long = blocks_done_long m from fate 0 (steps_of m i op) (status i) st.0 st.1.1.1.0 in
    let a' : Answered act tell (mine ++ rest) (st.0 ++ st.1.0) s = subst (λ t. Answered act tell (mine ++ rest) t s) ds a in
    let n = walk_long mine st.0 s in
    let r' : IsRead (get_or (steps_of m (suc i + p) (op_in ops p)) q (Sets [] [])) = subst (λ t. IsRead (get_or (steps_of m t (op_in ops p)) q (Sets [] []))) z r in
    let ih = in_ops m (from + room_of m op) (fate + fates_of op) (suc i) p q ops status st.1.0 (walk act mine st.0 s) why (omega arith) w r' st.1.1.1.1 (ap (λ t. status t q) (sym z) ∙ c) (omega arith) (answered_behind mine rest st.0 st.1.0 s long a') in
    subst (λ t. get_or (walk act (mine ++ rest) done s).fates t None ≡ why) (sym y)
    (ap (λ t. get_or (walk act (mine ++ rest) t s).fates (((fate + fates_of op) + f) + q) None) ds ∙ (ap (λ (t : State). get_or t.fates (((fate + fates_of op) + f) + q) None) (walk_join mine rest st.0 st.1.0 s long) ∙ ih))

-- what was found of block q of op p, a read, is in its cell
pub found_there : (m : Setting) (n : ℕ) (ops : List Op) (opening now : State) (status : ℕ → ℕ → Status) (es : List Sent) (p q : ℕ) (why : Option Why) → Follows m n ops opening status now es → fates ops ≤ length opening.fates → p < length ops → q < fates_of (op_in ops p) →
    IsRead (get_or (steps_in m ops p) q (Sets [] [])) → status (suc p) q ≡ Carried why → get_or now.fates (fates (take p ops) + q) None ≡ why
found_there m n ops opening now status es p q why h f l w r c =
    let z : 1 + p ≡ suc p = omega arith in
    let e : (0 + fates (take p ops)) + q ≡ fates (take p ops) + q = omega arith in
    let b = fates_below ops p q l w in
    let g = in_ops m n 0 1 p q ops status h.done opening why l w (subst (λ t. IsRead (get_or (steps_of m t (op_in ops p)) q (Sets [] []))) (sym z) r) h.stand (ap (λ t. status t q) z ∙ c) (omega arith) h.serial.answers in
    ap (λ (s : State). get_or s.fates (fates (take p ops) + q) None) h.serial.state ∙ (ap (λ x. get_or (walk act (moves_from m n 0 1 ops) h.done opening).fates x None) (sym e) ∙ g)
  where
    fates_below : (ops : List Op) (p q : ℕ) → p < length ops → q < fates_of (op_in ops p) → fates (take p ops) + q < fates ops
    fates_below [] p q l w = absurd (omega arith)
    fates_below (op ∷ ops) zero q l w = omega arith
    fates_below (op ∷ ops) (suc p) q l w = let i = fates_below ops p q (omega arith) w in omega arith
