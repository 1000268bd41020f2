-- A block is carried.
use Rattle.std.proofs.Common.{◌≡◌, ◌<◌, ℕ, zero, suc, ◌+◌, Bool, true, false, ◌&&◌, eqb, List, [], ◌∷◌, ◌++◌, length, get_or, set, Option, Some, None, refl, sym, ap, subst, ◌∙◌, arith, append-nil, length-append}
use Rattle.std.specs.Prelude.{Result, Ok, Err}
use Rattle.std.proofs.lemmas.Bool.{eqb-false, eqb-true}
use Rattle.std.proofs.lemmas.List.{append_assoc, get_or-set_other, get_or-set_same, length-set}
use Rattle.page_pool.specs.Cells.{gather, scatter}
use Rattle.bio_core.specs.declared.fate.Why.{Why}
use Rattle.block_path.specs.declared.route.Route.{Route}
use Rattle.block_path.specs.Acts.{Act, Effect, State, act, tell}
use Rattle.block_path.specs.Blocks.{ActAnswer, Sent, Site, fetched_cell, own_cell, silent, written_by}
use Rattle.block_path.specs.Moves.{carried_in, carry_in, carry_out}
use Rattle.block_path.specs.WayIn.{Delivers, Spoils, Stops, WayIn, comes_in}
use Rattle.block_path.specs.WayOut.{Fails, Refuses, Stores, WayOut, goes_out}
use Rattle.block_path.specs.Serial.{all_done, none_done}
use Rattle.run_laws.specs.Passed.{Setting, route, Alters, Reads, Seals, Sets, Shows, Step, Writes, WritesPi}
use Rattle.run_laws.specs.EarlierWrites.{HasLog}
use Rattle.run_laws.specs.Records.{Mixed, is_out, put_frame, put_sent, writes_at, sents}
use Rattle.run_laws.specs.BoundRun.{fates, rooms}
use Rattle.run_laws.specs.ScriptMoves.{by_moves, lands_in, own_at}
use Rattle.stack_walk_laws.specs.Following.{Becomes, Follows, sents_so_far}
use Rattle.stack_walk_laws.specs.Gate.{MayMove, BlockSpot, number, ops_of, parts_at, place}
use Rattle.stack_walk_laws.specs.Slots.{Carried, Cut, Status, before_carrying, parts_of, write_parts}
use Rattle.stack_walk_laws.proofs.Runs.{Done, sents_after, sents_before, sents_both}
use Rattle.stack_walk_laws.proofs.Standing.{BlockTurns}
use Rattle.stack_walk_laws.proofs.Moving.{Stretch, block_turns, follow_turn, spot_turn}

-- one more on record, wherever it stands in script order

pub mixed_more : {X : Type 0} (xs ys zs : List X) (x : X) → Mixed (xs ++ ys) zs → Mixed (xs ++ (x ∷ ys)) (zs ++ (x ∷ []))
mixed_more [] ys zs x h = (zs, ([], (refl, subst (Mixed ys) (sym (append-nil zs)) h)))
mixed_more (w ∷ xs) ys zs x h = (
  h.0,
  (
    h.1.0 ++ (x ∷ []),
    (ap (λ t. t ++ (x ∷ [])) h.1.1.0 ∙ append_assoc h.0 (w ∷ h.1.0) (x ∷ []), subst (Mixed (xs ++ (x ∷ ys))) (append_assoc h.0 h.1.0 (x ∷ [])) (mixed_more xs ys (h.0 ++ h.1.0) x h.1.1.1)),
  ),
)

mixed_put : (o : Option Sent) (xs ys zs : List Sent) → Mixed (xs ++ ys) zs → Mixed (xs ++ (put_sent o [] ++ ys)) (zs ++ put_sent o [])
mixed_put None xs ys zs h = subst (Mixed (xs ++ ys)) (sym (append-nil zs)) h
mixed_put (Some e) xs ys zs h = mixed_more xs ys zs e h

-- the write frames of a place

put_frames : (c : Bool) (came : Result (List ℕ) Why) (xs ys : List (List ℕ)) → put_frame c came (xs ++ ys) ≡ put_frame c came xs ++ ys
put_frames true (Ok frame) xs ys = refl
put_frames true (Err why) xs ys = refl
put_frames false came xs ys = refl

pub writes_more : (s : Site) (c : ℕ) (es fs : List Sent) → writes_at s c (es ++ fs) ≡ writes_at s c es ++ writes_at s c fs
writes_more s c [] fs = refl
writes_more s c (e ∷ es) fs =
    let take = is_out e.dir && eqb (s.cell e.dev e.lba) c in
    ap (put_frame take e.came) (writes_more s c es fs) ∙ put_frames take e.came (writes_at s c es) (writes_at s c fs)

-- what a carried block leaves in the logs is what it puts on record
pub record Logs (m : Setting) (a : Act ActAnswer) (now : State) : Type 0 where
  pub grows : (c : ℕ) → get_or (act a now).logs c [] ≡ get_or now.logs c [] ++ writes_at m.site c (put_sent (tell a now).sent [])
  pub room : length (act a now).logs ≡ length now.logs

-- the same of what is written to these logs
record Puts (m : Setting) (writes : List ℕ) (e : Effect ActAnswer) (now : State) : Type 0 where
  grows : (c : ℕ) → get_or (scatter writes e.written.logs now.logs) c [] ≡ get_or now.logs c [] ++ writes_at m.site c (put_sent e.answer.sent [])
  room : length (scatter writes e.written.logs now.logs) ≡ length now.logs

no_write : (take : Bool) (why : Why) → put_frame take (Err why) [] ≡ []
no_write true why = refl
no_write false why = refl

stored_at : (logs : List (List (List ℕ))) (i c : ℕ) (log : List (List ℕ)) (carried : List ℕ) → i < length logs → log ≡ get_or logs i [] →
    get_or (set logs i (log ++ (carried ∷ []))) c [] ≡ get_or logs c [] ++ put_frame (eqb i c) (Ok carried) []
stored_at logs i c log carried l e = by (eqb i c) refl where
  by : (b : Bool) → eqb i c ≡ b → get_or (set logs i (log ++ (carried ∷ []))) c [] ≡ get_or logs c [] ++ put_frame b (Ok carried) []
  by true q =
      let same = eqb-true i c q in
      subst (λ x. get_or (set logs i (log ++ (carried ∷ []))) x [] ≡ get_or logs x [] ++ (carried ∷ [])) same (get_or-set_same logs i (log ++ (carried ∷ [])) [] l ∙ ap (λ x. x ++ (carried ∷ [])) e)
  by false q = get_or-set_other logs i c (log ++ (carried ∷ [])) [] (λ x. eqb-false i c q (sym x)) ∙ sym (append-nil (get_or logs c []))

out_logs : (m : Setting) (r : Route) (frame : List ℕ) (now : State) → own_cell m.site r < length now.logs → Logs m (carry_out m.site r frame) now
out_logs m r frame now l = let p = by (goes_out m.site.faults m.site.device r (gather 0 frame now.bytes)) in record { grows = p.grows; room = p.room } where
  by : (w : WayOut) → Puts m (own_cell m.site r ∷ []) (written_by r w [] (get_or now.logs (own_cell m.site r) [])) now
  by (Fails why) = record { grows = λ c. sym (append-nil (get_or now.logs c [])); room = refl }
  by (Refuses why) = record { grows = λ c. sym (append-nil (get_or now.logs c [])) ∙ ap (λ x. get_or now.logs c [] ++ x) (sym (no_write (eqb (own_cell m.site r) c) why)); room = refl }
  by (Stores carried stored) = record { grows = λ c. stored_at now.logs (own_cell m.site r) c (get_or now.logs (own_cell m.site r) []) carried l refl; room = length-set now.logs (own_cell m.site r) (get_or now.logs (own_cell m.site r) [] ++ (carried ∷ [])) }

in_logs : (m : Setting) (r : Route) (to : List ℕ) (fate : ℕ) (now : State) → Logs m (carry_in m.site r to fate) now
in_logs m r to fate now = let p = by (comes_in m.site.faults m.site.device r (get_or now.blocks (fetched_cell m.site r) [])) in record { grows = p.grows; room = p.room } where
  by : (w : WayIn) → Puts m [] (carried_in r w (length (get_or now.logs (own_cell m.site r) []))) now
  by (Stops why) = record { grows = λ c. sym (append-nil (get_or now.logs c [])); room = refl }
  by (Spoils why carried) = record { grows = λ c. sym (append-nil (get_or now.logs c [])); room = refl }
  by (Delivers carried frame) = record { grows = λ c. sym (append-nil (get_or now.logs c [])); room = refl }

pub step_logs : (m : Setting) (own : List ℕ) (fate : ℕ) (step : Step) (now : State) → HasLog m (length now.logs) step → Logs m (parts_of m own fate step).carrying now
step_logs m own fate (Sets at values) now l = record { grows = λ c. sym (append-nil (get_or now.logs c [])); room = refl }
step_logs m own fate (Shows at) now l = record { grows = λ c. sym (append-nil (get_or now.logs c [])); room = refl }
step_logs m own fate (Seals body tuple app rtag) now l = record { grows = λ c. sym (append-nil (get_or now.logs c [])); room = refl }
step_logs m own fate (Writes b app body) now l = by m.mode.dix where
  by : (dix : Bool) → Logs m (write_parts m b app body own dix).carrying now
  by true = out_logs m (route m b) (body ++ own) now l
  by false = out_logs m (route m b) body now l
step_logs m own fate (WritesPi b frame) now l = out_logs m (route m b) frame now l
step_logs m own fate (Reads b owner to) now l = in_logs m (route m b) (lands_in owner m.mode.dix to own) fate now
step_logs m own fate (Alters dev lba change) now l = record { grows = λ c. sym (append-nil (get_or now.logs c [])); room = refl }

get_last : (xs : List ActAnswer) (t : ActAnswer) (c : ℕ) → length xs ≡ c → get_or (xs ++ (t ∷ [])) c silent ≡ t
get_last [] t c e = rw (← e) refl
get_last (x ∷ xs) t zero e = absurd (omega (arith, e))
get_last (x ∷ xs) t (suc c) e = get_last xs t c (omega (arith, e))

get_nothing : (xs : List ActAnswer) (c : ℕ) → length xs ≡ c → get_or xs c silent ≡ silent
get_nothing [] c e = refl
get_nothing (x ∷ xs) zero e = absurd (omega (arith, e))
get_nothing (x ∷ xs) (suc c) e = get_nothing xs c (omega (arith, e))

-- one answer more
mixed_done : (a : Act ActAnswer) (t : ActAnswer) (done ds bs : Done) (es : List Sent) → done ≡ ds ++ (none_done (a ∷ []) ++ bs) → Mixed (sents_so_far done) es → Mixed (sents_so_far (ds ++ (all_done (t ∷ []) ++ bs))) (es ++ put_sent t.sent [])
mixed_done a t done ds bs es e h =
    let before = ap sents_so_far e ∙ sents_before (a ∷ []) ds bs in
    let mixed = mixed_put t.sent (sents_so_far ds) (sents_so_far bs) es (subst (λ q. Mixed q es) before h) in
    subst (λ q. Mixed q (es ++ put_sent t.sent [])) (sym (sents_after (t ∷ []) ds bs)) mixed

-- only the last answer puts something on record
one_sent : (here : List ActAnswer) (t : ActAnswer) (c : ℕ) → length here ≡ c → sents here ≡ put_sent (get_or here c silent).sent [] → sents (here ++ (t ∷ [])) ≡ put_sent (get_or (here ++ (t ∷ [])) c silent).sent []
one_sent here t c l e =
    sents_both here (t ∷ []) ∙ ap (λ q. q ++ put_sent t.sent []) (e ∙ ap (λ (r : ActAnswer). put_sent r.sent []) (get_nothing here c l)) ∙ ap (λ (r : ActAnswer). put_sent r.sent []) (sym (get_last here t c l))

pub carried : (m : Setting) (n : ℕ) (s : BlockSpot) (opening now : State) (old new : ℕ → ℕ → Status) (es : List Sent) → let a = (parts_at m n s).carrying in
    MayMove m n old s → HasLog m (length opening.logs) s.step → old (number s) (place s) ≡ Cut → Becomes (number s) (place s) (Carried (tell a now).why) old new →
    Follows m n (ops_of s) opening old now es → Follows m n (ops_of s) opening new (act a now) (es ++ put_sent (tell a now).sent [])
carried m n s opening now old new es may has e becomes h =
    let from = n + rooms m s.front in
    let fate = fates s.front in
    let k = place s in
    let p = parts_at m n s in
    let b = by_moves m (own_at from k) (fate + k) s.step in
    let a = p.carrying in
    let t = tell a now in
    let next = Carried t.why in
    let run = a ∷ [] in
    let x = length-append p.made p.cut in
    let logs = step_logs m (own_at from k) (fate + k) s.step now (subst (λ l. HasLog m l s.step) (sym h.room) has) in
    let stretch : Stretch p Cut run = record { front = p.made ++ p.cut; back = p.settled; is = sym (append_assoc p.made p.cut (a ∷ p.settled)); count = sym x } in
    let turns = block_turns m from fate k s.step Cut next run (t ∷ []) stretch refl
    (λ here st. let y = length-append here (t ∷ []) in let z = st.count in record {
      count = omega (arith, y, z);
      sent = one_sent here t (before_carrying p) st.count st.sent;
      tells = ap (λ (r : ActAnswer). r.why) (get_last here t (before_carrying p) st.count);
    }) in
    let turn = spot_turn m n s old new next h.done run (t ∷ []) may becomes (subst (λ w. Stretch p w run) (sym e) stretch) (subst (λ w. BlockTurns m from fate k s.step w next run (t ∷ [])) (sym e) turns) h.stand in
    follow_turn m n (ops_of s) opening now old new es (es ++ put_sent t.sent []) run h turn
    (λ c. logs.grows c ∙ ap (λ q. q ++ writes_at m.site c (put_sent t.sent [])) (h.logs c) ∙ sym (writes_more m.site c es (put_sent t.sent []))) logs.room
    (mixed_done a t h.done turn.ds turn.bs es turn.done_is h.sent)
