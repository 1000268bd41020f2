-- A step keeps what holds of the view, and so the stack shows the next one.
use Rattle.std.proofs.Common.{◌≡◌, ◌<◌, ◌≤◌, ℕ, zero, suc, ◌+◌, ◌-◌, Bool, true, false, not, ◌&&◌, eqb, List, [], ◌∷◌, ◌++◌, length, map, get_or, set, refl, sym, ap, ◌∙◌, ⊎_elim, arith}
use Rattle.std.specs.Prelude.{if◌then◌else◌, nat_lt, ◌^◌}
use Rattle.std.specs.List.{All, remove}
use Rattle.std.proofs.lemmas.Bool.{cases_Bool, and_parts, ltb-true, eqb-false, eqb-true, not-true}
use Rattle.std.proofs.lemmas.List.{get_or_default, length-map, get_or-map, map-set, length-set, get_or-set_same}
use Rattle.std.proofs.lemmas.List.Elements.{All-get_or, All-from_get_or}
use Rattle.bio_core.specs.declared.fate.Fate.{Fate}
use Rattle.bio_core.specs.declared.bio.Bio.{Bio}
use Rattle.merge_queue.specs.Groups.{Group, size, put_all, lba_of, dir_of, same_dir, without, joined, may_follow, group_in, put}
use Rattle.stack_laws.specs.Blocks.{blocks, settled_of}
use Rattle.stack_laws.specs.Plan.{Plan, PlannedOp, no_request, request_at}
use Rattle.stack_laws.specs.Pieces.{greatest_piece, cut_to, bio_of}
use Rattle.stack_laws.specs.Rests.{rests}
use Rattle.merge_queue.specs.Index.{Queued, bios_in}
use Rattle.stack_laws.specs.View.{View, OpView, Command, no_command, is_admitted, no_op, op_at, queue_at, group_at, command_at}
use Rattle.range_gate.specs.declared.phase.Phase.{Phase}
use Rattle.range_gate.specs.declared.phase.Phase.TheVariants.{Waiting, Admitted, Ended}
use Rattle.range_gate.specs.Gates.{Gated, conflict_at, phase_at, is_waiting, has_ended, may_admit}
use Rattle.stack_laws.specs.Open.{in_order}
use Rattle.stack_laws.specs.Steps.{Step, End, Complete, Admit, Cut, Join, Send, can, unended, enabled_below, settle, step}
use Rattle.stack_laws.specs.Runs.{blocks_of_requests}
use Rattle.stack_laws.specs.Sound.{Answered, Settles}
use Rattle.stack_laws.specs.Formed.{IsGroup}
use Rattle.stack_laws.specs.Room.{size_in}
use Rattle.stack_laws.proofs.Keeps.{keeps, set_keeps, queue-there, command-there, open-command, settle-room, piece-some, piece-within, cut-within, waits-ended}
use Rattle.stack_laws.proofs.Ops.{grows-settle, length-settle}
use Rattle.stack_laws.proofs.Open.{completes-at, sent-last}
use Rattle.merge_queue.proofs.Lists.{total-one, without-remove}
use Rattle.stack_laws.proofs.Capacity.{bios-few, few-unsettled}
use Rattle.stack_laws.proofs.Formed.{formed-keeps}
use Rattle.stack_laws.proofs.Room.{accounted-keeps}
use Rattle.stack_laws.proofs.Measure.{counted-keeps}
use Rattle.stack_steps.specs.declared.state.OpState.{OpState}
use Rattle.stack_steps.specs.Fine.{Fine}
use Rattle.stack_steps.specs.State.{state_of, phase_of, no_state, OpIsIn, settle_bios}
use Rattle.stack_steps.specs.Parts.{Divides, Ends}
use Rattle.stack_steps.specs.Flights.{Flights, bios_in_flight, fates_in_flight}
use Rattle.stack_steps.specs.Shows.{live_from, live_ops, groups_of, HasRoom, Windowed, Shows, op_of}
use Rattle.stack_steps.specs.Moves.{more_cut, no_queue, room_of, KeepRoom}
use Rattle.stack_steps.proofs.Settle.{settles}
use Rattle.stack_steps.proofs.Back.{bios-put}
use Rattle.stack_steps.proofs.Sums.{sends-fit, all-divide, all-in, queue-ends, queue-small, one-put, all-put}
use Rattle.stack_steps.proofs.Chosen.{state-there, phase-there, gate-same, lives}

-- ---- the window

abbrev Moves : View → ℕ → OpView → Type 0
Moves v i o = (has_ended (op_at v i).phase ≡ true → has_ended o.phase ≡ true) × (is_admitted o.phase ≡ true → length (unended v i) < 32)

stays-moved : (v : View) → Windowed v → (i : ℕ) → Moves v i (op_at v i)
stays-moved v w i = ((λ e. e), w i)

moves : (p : Plan) (v : View) (t : Step) (cut : ℕ) (fates : List Fate) → Windowed v → can p v t ≡ true → (i : ℕ) → Moves v i (op_at (step p v t cut fates) i)
moves p v (End a) cut fates w h i = set_keeps (Moves v) v.ops a (record (op_at v a) { phase = Ended }) no_op (stays-moved v w) ((λ e. refl), (λ e. cc)) i
moves p v (Complete j) cut fates w h i =
    let g = grows-settle (settled_of (blocks (command_at v j).bios) (command_at v j).fates) v.ops i in
    let f = g.phase in
    ((λ e. ap has_ended f ∙ e), (λ e. w i (sym (ap is_admitted f) ∙ e)))
moves p v (Admit a) cut fates w h i =
    let b = and_parts (is_waiting (op_at v a).phase) _ h in
    let c = and_parts (nat_lt (length (unended v a)) 32) _ b.1 in
    let l = ltb-true (length (unended v a)) 32 c.0 in
    set_keeps (Moves v) v.ops a (record (op_at v a) { phase = if eqb (request_at p a).count 0 then Ended else Admitted }) no_op (stays-moved v w) ((λ e. absurd (waits-ended (op_at v a).phase b.0 e)), (λ e. l)) i
moves p v (Cut a) cut fates w h i =
    set_keeps (Moves v) v.ops a (record (op_at v a) { cut = (op_at v a).cut + cut_to cut (greatest_piece p a (op_at v a).cut) }) no_op (stays-moved v w) ((λ e. e), w a) i
moves p v (Join d a b) cut fates w h i = stays-moved v w i
moves p v (Send d a) cut fates w h i = stays-moved v w i

fewer : (v x : View) → ((j : ℕ) → has_ended (op_at v j).phase ≡ true → has_ended (op_at x j).phase ≡ true) → (i : ℕ) → length (unended x i) ≤ length (unended v i)
fewer v x h zero = omega arith
fewer v x h (suc i) =
    let r = fewer v x h i in
    ⊎_elim
    (λ (e : has_ended (op_at v i).phase ≡ true). let f = h i e in rw (e, f) r)
    (λ (e : has_ended (op_at v i).phase ≡ false).
    ⊎_elim
    (λ (f : has_ended (op_at x i).phase ≡ true). rw (e, f) (omega arith))
    (λ (f : has_ended (op_at x i).phase ≡ false). rw (e, f) (omega arith))
    (cases_Bool (has_ended (op_at x i).phase)))
    (cases_Bool (has_ended (op_at v i).phase))

windowed-keeps : (p : Plan) (v : View) (t : Step) (cut : ℕ) (fates : List Fate) → Windowed v → can p v t ≡ true → Windowed (step p v t cut fates)
windowed-keeps p v t cut fates w h i e =
    let m = moves p v t cut fates w h i in
    let f = fewer v (step p v t cut fates) (λ j. (moves p v t cut fates w h j).0) i in
    let l = m.1 e in
    omega arith

-- ---- the ops that have not ended

pub live-same : (k : ℕ) (os os' : List OpView) → length os' ≡ length os → ((j : ℕ) → has_ended (get_or os' j no_op).phase ≡ has_ended (get_or os j no_op).phase) → live_from k os' ≡ live_from k os
live-same k [] [] l h = refl
live-same k [] (x ∷ xs) l h = absurd (omega arith)
live-same k (o ∷ os) [] l h = absurd (omega arith)
live-same k (o ∷ os) (x ∷ xs) l h =
    let r = live-same (suc k) os xs (omega arith) (λ j. h (suc j)) in
    let e : has_ended x.phase ≡ has_ended o.phase = h 0 in
    rw (e, r) refl

above-cons : (k : ℕ) (xs : List ℕ) → ((q : ℕ) → q < length xs → suc k ≤ get_or xs q 0) → (q : ℕ) → q < length (k ∷ xs) → k ≤ get_or (k ∷ xs) q 0
above-cons k xs h zero l = omega arith
above-cons k xs h (suc q) l = let a = h q (omega arith) in omega arith

above-less : (k : ℕ) (xs : List ℕ) → ((q : ℕ) → q < length xs → suc k ≤ get_or xs q 0) → (q : ℕ) → q < length xs → k ≤ get_or xs q 0
above-less k xs h q l = let a = h q l in omega arith

above : (k : ℕ) (os : List OpView) → (q : ℕ) → q < length (live_from k os) → k ≤ get_or (live_from k os) q 0
above k [] = λ q h. absurd (omega arith)
above k (o ∷ os) =
    let r = above (suc k) os in
    ⊎_elim
    (λ (e : has_ended o.phase ≡ true). rw e (above-less k (live_from (suc k) os) r))
    (λ (e : has_ended o.phase ≡ false). rw e (above-cons k (live_from (suc k) os) r))
    (cases_Bool (has_ended o.phase))

abbrev Goes : ℕ → OpView → List OpView → List ℕ → Type 0
Goes k o os L = (q : ℕ) → q < length L → live_from k (set os (get_or L q 0 - k) o) ≡ without q L

goes-past : (k : ℕ) (o x : OpView) (os : List OpView) (L : List ℕ) → has_ended x.phase ≡ true → ((q : ℕ) → q < length L → suc k ≤ get_or L q 0) → Goes (suc k) o os L → Goes k o (x ∷ os) L
goes-past k o x os L e a r q h =
    let b = a q h in
    let z : get_or L q 0 - k ≡ suc (get_or L q 0 - suc k) = omega arith in
    rw z (rw e (r q h))

goes-on : (k : ℕ) (o x : OpView) (os : List OpView) → has_ended x.phase ≡ false → has_ended o.phase ≡ true → ((q : ℕ) → q < length (live_from (suc k) os) → suc k ≤ get_or (live_from (suc k) os) q 0) →
    Goes (suc k) o os (live_from (suc k) os) → Goes k o (x ∷ os) (k ∷ live_from (suc k) os)
goes-on k o x os e f a r zero h = let z : k - k ≡ 0 = omega arith in rw z (rw f refl)
goes-on k o x os e f a r (suc q) h =
    let b = a q (omega arith) in
    let z : get_or (live_from (suc k) os) q 0 - k ≡ suc (get_or (live_from (suc k) os) q 0 - suc k) = omega arith in
    rw z (rw e (ap (λ w. k ∷ w) (r q (omega arith))))

goes : (k : ℕ) (o : OpView) (os : List OpView) → has_ended o.phase ≡ true → Goes k o os (live_from k os)
goes k o [] f = λ q h. absurd (omega arith)
goes k o (x ∷ os) f =
    let r = goes (suc k) o os f in
    let a = above (suc k) os in
    ⊎_elim
    (λ (e : has_ended x.phase ≡ true). rw e (goes-past k o x os (live_from (suc k) os) e a r))
    (λ (e : has_ended x.phase ≡ false). rw e (goes-on k o x os e f a r))
    (cases_Bool (has_ended x.phase))

pub live-ends : (v : View) (q : ℕ) (o : OpView) → q < length (live_ops v) → has_ended o.phase ≡ true → live_from 0 (set v.ops (get_or (live_ops v) q 0) o) ≡ without q (live_ops v)
live-ends v q o h f = let z : get_or (live_ops v) q 0 - 0 ≡ get_or (live_ops v) q 0 = omega arith in ap (λ n. live_from 0 (set v.ops n o)) (sym z) ∙ goes 0 o v.ops f q h

pub live-stays : (v : View) (i : ℕ) (o : OpView) → has_ended o.phase ≡ has_ended (op_at v i).phase → live_from 0 (set v.ops i o) ≡ live_ops v
live-stays v i o e = live-same 0 v.ops (set v.ops i o) (length-set v.ops i o) (set_keeps (λ j x. has_ended x.phase ≡ has_ended (op_at v j).phase) v.ops i o no_op (λ j. refl) e)

-- ---- rooms

rooms-keep : (n : ℕ) (qs qs' : List Queued) → KeepRoom qs qs' → All (HasRoom n) qs → All (HasRoom n) qs'
rooms-keep n qs qs' k a =
    let l : length qs' ≡ length qs = sym (length-map qs' room_of) ∙ ap length k ∙ length-map qs room_of in
    All-from_get_or (HasRoom n) qs' no_queue (λ i h.
    sym (get_or-map room_of qs' i no_queue 0 h) ∙ ap (λ z. get_or z i 0) k ∙ get_or-map room_of qs i no_queue 0 (omega arith) ∙ All-get_or (HasRoom n) qs i no_queue (omega arith) a)

-- ---- one step

-- an op that has another phase is cut and settled as it was
pub phase-alone : (os : List OpView) (i : ℕ) (x : Phase) → map state_of (set os i (record (get_or os i no_op) { phase = x })) ≡ map state_of os
phase-alone [] i x = refl
phase-alone (o ∷ os) zero x = refl
phase-alone (o ∷ os) (suc i) x = ap (λ w. state_of o ∷ w) (phase-alone os i x)

cut-alone : (os : List OpView) (i n : ℕ) → map phase_of (set os i (record (get_or os i no_op) { cut = (get_or os i no_op).cut + n })) ≡ map phase_of os
cut-alone [] i n = refl
cut-alone (o ∷ os) zero n = refl
cut-alone (o ∷ os) (suc i) n = ap (λ w. o.phase ∷ w) (cut-alone os i n)

phases-same : (os os' : List OpView) → length os' ≡ length os → ((j : ℕ) → (get_or os' j no_op).phase ≡ (get_or os j no_op).phase) → map phase_of os' ≡ map phase_of os
phases-same [] [] l h = refl
phases-same [] (x ∷ xs) l h = absurd (omega arith)
phases-same (o ∷ os) [] l h = absurd (omega arith)
phases-same (o ∷ os) (x ∷ xs) l h = ap (λ z. z ∷ map phase_of xs) (h 0) ∙ ap (λ w. o.phase ∷ w) (phases-same os xs (omega arith) (λ j. h (suc j)))

pub keeps-all : (p : Plan) (gate gate' : Gated) (ops ops' : List OpState) (live live' : List ℕ) (qs qs' : List Queued) (flight flight' : Flights) (steps steps' : ℕ) (held : List (List Group)) (v : View) (t : Step) (cut : ℕ) (fates : List Fate) →
    Fine p → Shows p gate ops live qs flight steps held v → can p v t ≡ true → Answered v t fates →
    gate'.phases ≡ map phase_of (step p v t cut fates).ops → gate'.conflicts ≡ gate.conflicts →
    ops' ≡ map state_of (step p v t cut fates).ops → live' ≡ live_ops (step p v t cut fates) → map groups_of qs' ≡ (step p v t cut fates).queues → flight'.commands ≡ in_order (step p v t cut fates).commands →
    steps' ≡ steps + 1 → KeepRoom qs qs' → flight'.room ≡ flight.room → Shows p gate' ops' live' qs' flight' steps' (step p v t cut fates).queues (step p v t cut fates)
keeps-all p gate gate' ops ops' live live' qs qs' flight flight' steps steps' held v t cut fates f s h a g₁ g₂ e₁ e₂ e₃ e₄ e₅ k r =
    let w = s.taken in
    record {
      phases = g₁;
      conflicts = λ j i l h. ap (λ z. conflict_at z j i) g₂ ∙ s.conflicts j i l h;
      states = e₁;
      listed = e₂;
      queued = e₃;
      flying = e₄;
      taken = omega arith;
      queue_room = rooms-keep (blocks_of_requests p.requests) qs qs' k s.queue_room;
      flight_room = r ∙ s.flight_room;
      sound = keeps p v t cut fates f.on_devices s.sound h a;
      formed = formed-keeps p v t cut fates f.straight f.on_devices s.sound h s.formed;
      accounted = accounted-keeps p v t cut fates f.on_devices s.sound h a s.accounted;
      counted = counted-keeps p v t cut fates s.sound f.on_devices h a s.counted;
      windowed = windowed-keeps p v t cut fates s.windowed h;
    }

pub state-is : (p : Plan) (gate : Gated) (ops : List OpState) (live : List ℕ) (qs : List Queued) (flight : Flights) (steps : ℕ) (v : View) (i : ℕ) → Shows p gate ops live qs flight steps v.queues v → get_or ops i no_state ≡ state_of (op_at v i)
state-is p gate ops live qs flight steps v i s = ap (λ z. get_or z i no_state) s.states ∙ state-there v i

pub phase-is : (p : Plan) (gate : Gated) (ops : List OpState) (live : List ℕ) (qs : List Queued) (flight : Flights) (steps : ℕ) (v : View) (i : ℕ) → Shows p gate ops live qs flight steps v.queues v → phase_at gate.phases i ≡ (op_at v i).phase
phase-is p gate ops live qs flight steps v i s = ap (λ z. phase_at z i) s.phases ∙ phase-there v i

-- an op of the list
pub count-few : (rs : List PlannedOp) (i : ℕ) → (get_or rs i no_request).count ≤ blocks_of_requests rs
count-few [] i = omega arith
count-few (r ∷ rs) zero = omega arith
count-few (r ∷ rs) (suc i) = let e = count-few rs i in omega arith

pub record Listed (p : Plan) (gate : Gated) (ops : List OpState) (live : List ℕ) (q : ℕ) : Type 0 where
  pub place : q < length live
  pub number : get_or live q 0 + 1 < 2 ^ 32
  pub gated : get_or live q 0 < length gate.phases
  pub op : get_or live q 0 < length ops
  pub request : get_or live q 0 < length p.requests

pub listed-there : (p : Plan) (gate : Gated) (ops : List OpState) (live : List ℕ) (qs : List Queued) (flight : Flights) (steps : ℕ) (v : View) (q : ℕ) → Fine p → Shows p gate ops live qs flight steps v.queues v → q < length (live_ops v) → Listed p gate ops live q
listed-there p gate ops live qs flight steps v q f s h =
    let l = lives v q h in
    let t = l.there in
    let a = ap length s.listed in
    let b = ap length s.states ∙ length-map v.ops state_of in
    let d = ap length s.phases ∙ length-map v.ops phase_of in
    let g = ap (λ z. get_or z q 0) s.listed in
    let c = s.sound.ops in
    let n = f.few_ops in
    record { place = omega arith; number = omega arith; gated = omega arith; op = omega arith; request = omega arith }

-- an op that may end, and one that may be admitted
pub may-end : (p : Plan) (gate : Gated) (ops : List OpState) (live : List ℕ) (qs : List Queued) (flight : Flights) (steps : ℕ) (v : View) (q : ℕ) (t : Step) → Shows p gate ops live qs flight steps v.queues v → can p v t ≡ true →
    (q < length (live_ops v)) × (t ≡ End (get_or (live_ops v) q 0)) → phase_at gate.phases (get_or live q 0) ≡ Admitted
may-end p gate ops live qs flight steps v q t s h m =
    let hh : can p v (End (get_or (live_ops v) q 0)) ≡ true = ap (can p v) (sym m.1) ∙ h in
    let g : get_or live q 0 ≡ get_or (live_ops v) q 0 = ap (λ z. get_or z q 0) s.listed in
    ap (phase_at gate.phases) g ∙ phase-is p gate ops live qs flight steps v (get_or (live_ops v) q 0) s
    ∙ is-admitted (op_at v (get_or (live_ops v) q 0)).phase (and_parts (is_admitted (op_at v (get_or (live_ops v) q 0)).phase) _ hh).0
  where
    is-admitted : (x : Phase) → is_admitted x ≡ true → x ≡ Admitted
    is-admitted Waiting e = cc
    is-admitted Admitted e = refl
    is-admitted Ended e = cc

pub may-enter : (p : Plan) (gate : Gated) (ops : List OpState) (live : List ℕ) (qs : List Queued) (flight : Flights) (steps : ℕ) (v : View) (q : ℕ) (t : Step) → Shows p gate ops live qs flight steps v.queues v → can p v t ≡ true →
    (q < length (live_ops v)) × (t ≡ Admit (get_or (live_ops v) q 0)) → may_admit gate (get_or live q 0) ≡ true
may-enter p gate ops live qs flight steps v q t s h m =
    let g : get_or live q 0 ≡ get_or (live_ops v) q 0 = ap (λ z. get_or z q 0) s.listed in
    ap (may_admit gate) g ∙ gate-same p v gate (get_or (live_ops v) q 0) s.phases (s.sound.ops, s.conflicts) ∙ ap (can p v) (sym m.1) ∙ h

pub shows-end : (p : Plan) (gate gate' : Gated) (ops : List OpState) (live live' : List ℕ) (qs : List Queued) (flight : Flights) (steps steps' : ℕ) (v : View) (q : ℕ) (t : Step) (cut : ℕ) →
    Fine p → Shows p gate ops live qs flight steps v.queues v → can p v t ≡ true → (q < length (live_ops v)) × (t ≡ End (get_or (live_ops v) q 0)) →
    gate'.phases ≡ set gate.phases (get_or live q 0) Ended → gate'.conflicts ≡ gate.conflicts → live' ≡ remove live q → steps' ≡ steps + 1 →
    Shows p gate' ops live' qs flight steps' (step p v t cut []).queues (step p v t cut [])
shows-end p gate gate' ops live live' qs flight steps steps' v q t cut f s h m g₁ g₂ e₂ e₃ =
    let hh : can p v (End (get_or (live_ops v) q 0)) ≡ true = ap (can p v) (sym m.1) ∙ h in
    let g : get_or live q 0 ≡ get_or (live_ops v) q 0 = ap (λ z. get_or z q 0) s.listed in
    let n : length live ≡ length (live_ops v) = ap length s.listed in
    let k = m.0 in
    rw m.1 (keeps-all p gate gate' ops ops live live' qs qs flight flight steps steps' v.queues v (End (get_or (live_ops v) q 0)) cut [] f s hh tt
    (g₁ ∙ ap (λ z. set gate.phases z Ended) g ∙ ap (λ z. set z (get_or (live_ops v) q 0) Ended) s.phases ∙ sym (map-set phase_of v.ops (get_or (live_ops v) q 0) (record (op_at v (get_or (live_ops v) q 0)) { phase = Ended }))) g₂
    (s.states ∙ sym (phase-alone v.ops (get_or (live_ops v) q 0) Ended))
    (e₂ ∙ sym (without-remove live q (omega arith)) ∙ ap (without q) s.listed ∙ sym (live-ends v q (record (op_at v (get_or (live_ops v) q 0)) { phase = Ended }) k refl))
    s.queued s.flying e₃ refl refl)

pub shows-admit : (p : Plan) (gate gate' : Gated) (ops : List OpState) (live live' : List ℕ) (qs : List Queued) (flight : Flights) (steps steps' : ℕ) (v : View) (q : ℕ) (t : Step) (cut : ℕ) →
    Fine p → Shows p gate ops live qs flight steps v.queues v → can p v t ≡ true → (q < length (live_ops v)) × (t ≡ Admit (get_or (live_ops v) q 0)) →
    gate'.phases ≡ set gate.phases (get_or live q 0) (if eqb (request_at p (get_or live q 0)).count 0 then Ended else Admitted) → gate'.conflicts ≡ gate.conflicts →
    live' ≡ (if eqb (request_at p (get_or live q 0)).count 0 then remove live q else live) → steps' ≡ steps + 1 →
    Shows p gate' ops live' qs flight steps' (step p v t cut []).queues (step p v t cut [])
shows-admit p gate gate' ops live live' qs flight steps steps' v q t cut f s h m g₁ g₂ e₂ e₃ =
    let hh : can p v (Admit (get_or (live_ops v) q 0)) ≡ true = ap (can p v) (sym m.1) ∙ h in
    let g : get_or live q 0 ≡ get_or (live_ops v) q 0 = ap (λ z. get_or z q 0) s.listed in
    let n : length live ≡ length (live_ops v) = ap length s.listed in
    let k = m.0 in
    let y = (lives v q k).stays in
    rw m.1 (keeps-all p gate gate' ops ops live live' qs qs flight flight steps steps' v.queues v (Admit (get_or (live_ops v) q 0)) cut [] f s hh tt
    (g₁ ∙ ap (λ z. set gate.phases z (if eqb (request_at p z).count 0 then Ended else Admitted)) g ∙ ap (λ z. set z (get_or (live_ops v) q 0) (if eqb (request_at p (get_or (live_ops v) q 0)).count 0 then Ended else Admitted)) s.phases
    ∙ sym (map-set phase_of v.ops (get_or (live_ops v) q 0) (record (op_at v (get_or (live_ops v) q 0)) { phase = if eqb (request_at p (get_or (live_ops v) q 0)).count 0 then Ended else Admitted }))) g₂
    (s.states ∙ sym (phase-alone v.ops (get_or (live_ops v) q 0) (if eqb (request_at p (get_or (live_ops v) q 0)).count 0 then Ended else Admitted)))
    (e₂ ∙ ap (λ z. if eqb (request_at p z).count 0 then remove live q else live) g ∙ listed n k y (eqb (request_at p (get_or (live_ops v) q 0)).count 0))
    s.queued s.flying e₃ refl refl)
  where
    listed : length live ≡ length (live_ops v) → q < length (live_ops v) → has_ended (op_at v (get_or (live_ops v) q 0)).phase ≡ false → (b : Bool) →
        (if b then remove live q else live) ≡ live_from 0 (set v.ops (get_or (live_ops v) q 0) (record (op_at v (get_or (live_ops v) q 0)) { phase = if b then Ended else Admitted }))
    listed n k y true = sym (without-remove live q (omega arith)) ∙ ap (without q) s.listed ∙ sym (live-ends v q (record (op_at v (get_or (live_ops v) q 0)) { phase = Ended }) k refl)
    listed n k y false = s.listed ∙ sym (live-stays v (get_or (live_ops v) q 0) (record (op_at v (get_or (live_ops v) q 0)) { phase = Admitted }) (sym y))

-- what the place of an op in the list says of a step
pub of-op : (p : Plan) (gate : Gated) (ops : List OpState) (live : List ℕ) (qs : List Queued) (flight : Flights) (steps : ℕ) (v : View) (q op : ℕ) → Fine p → Shows p gate ops live qs flight steps v.queues v → q < length (live_ops v) → op ≡ get_or live q op → get_or (live_ops v) q 0 ≡ op
of-op p gate ops live qs flight steps v q op f s m e = let l = listed-there p gate ops live qs flight steps v q f s m in sym (e ∙ get_or_default live q op 0 l.place ∙ ap (λ z. get_or z q 0) s.listed)

pub queue-is : (p : Plan) (gate : Gated) (ops : List OpState) (live : List ℕ) (qs : List Queued) (flight : Flights) (steps : ℕ) (v : View) (d : ℕ) → Shows p gate ops live qs flight steps v.queues v → d < length v.queues → (d < length qs) × ((get_or qs d no_queue).groups ≡ queue_at v d)
queue-is p gate ops live qs flight steps v d s h =
    let a = ap length s.queued in
    let b = length-map qs groups_of in
    (omega arith, sym (get_or-map groups_of qs d no_queue [] (omega arith)) ∙ ap (λ z. get_or z d []) s.queued)

-- two groups that may become one
pub record Joins (p : Plan) (v : View) (qs : List Queued) (d i j : ℕ) : Type 0 where
  pub there : d < length qs
  pub first : i < length (get_or qs d no_queue).groups
  pub second : j < length (get_or qs d no_queue).groups
  pub other : i ≡ j → ⊥
  pub behind : lba_of (group_in (get_or qs d no_queue).groups i) + size (group_in (get_or qs d no_queue).groups i) ≡ lba_of (group_in (get_or qs d no_queue).groups j)

pub joins-there : (p : Plan) (gate : Gated) (ops : List OpState) (live : List ℕ) (qs : List Queued) (flight : Flights) (steps : ℕ) (v : View) (d i j : ℕ) → Shows p gate ops live qs flight steps v.queues v → can p v (Join d i j) ≡ true → Joins p v qs d i j
joins-there p gate ops live qs flight steps v d i j s h =
    let b = and_parts (nat_lt i (length (queue_at v d))) (nat_lt j (length (queue_at v d)) && (not (eqb i j) && may_follow p.limits (group_at v d i) (group_at v d j))) h in
    let c = and_parts (nat_lt j (length (queue_at v d))) (not (eqb i j) && may_follow p.limits (group_at v d i) (group_at v d j)) b.1 in
    let e = and_parts (not (eqb i j)) (may_follow p.limits (group_at v d i) (group_at v d j)) c.1 in
    let k = ltb-true i (length (queue_at v d)) b.0 in
    let l = ltb-true j (length (queue_at v d)) c.0 in
    let q = queue-is p gate ops live qs flight steps v d s (queue-there v d i k) in
    let m = and_parts (same_dir (dir_of (group_at v d i)) (dir_of (group_at v d j))) _ e.1 in
    let n = and_parts (eqb (lba_of (group_at v d i) + size (group_at v d i)) (lba_of (group_at v d j))) _ m.1 in
    let x = eqb-true (lba_of (group_at v d i) + size (group_at v d i)) (lba_of (group_at v d j)) n.0 in
    let y : (get_or qs d no_queue).groups ≡ queue_at v d = q.1 in
    let u = ap length y in
    let gi = ap (λ z. lba_of (group_in z i) + size (group_in z i)) y in
    let gj = ap (λ z. lba_of (group_in z j)) y in
    record { there = q.0; first = omega arith; second = omega arith; other = eqb-false i j (not-true (eqb i j) e.0); behind = gi ∙ x ∙ sym gj }

pub shows-join : (p : Plan) (gate : Gated) (ops : List OpState) (live : List ℕ) (qs qs' : List Queued) (flight : Flights) (steps steps' : ℕ) (v : View) (d i j cut : ℕ) →
    Fine p → Shows p gate ops live qs flight steps v.queues v → can p v (Join d i j) ≡ true → map groups_of qs' ≡ set (map groups_of qs) d (joined (get_or qs d no_queue).groups i j) → KeepRoom qs qs' → steps' ≡ steps + 1 →
    Shows p gate ops live qs' flight steps' (step p v (Join d i j) cut []).queues (step p v (Join d i j) cut [])
shows-join p gate ops live qs qs' flight steps steps' v d i j cut f s h e k e₃ =
    let b = and_parts (nat_lt i (length (queue_at v d))) _ h in
    let q = queue-is p gate ops live qs flight steps v d s (queue-there v d i (ltb-true i (length (queue_at v d)) b.0)) in
    keeps-all p gate gate ops ops live live qs qs' flight flight steps steps' v.queues v (Join d i j) cut [] f s h tt
    s.phases refl
    s.states s.listed
    (e ∙ ap (λ z. set (map groups_of qs) d (joined z i j)) q.1 ∙ ap (λ z. set z d (joined (queue_at v d) i j)) s.queued)
    s.flying e₃ k refl

-- ---- completion

-- the view's command for the i-th in flight
pub record InFlight (p : Plan) (v : View) (i : ℕ) (t : Step) : Type 0 where
  pub j : ℕ
  pub step : t ≡ Complete j
  pub same : command_at v j ≡ get_or (in_order v.commands) i no_command
  pub left : in_order (set v.commands j (record (command_at v j) { completed = true })) ≡ without i (in_order v.commands)

pub in-flight : (p : Plan) (v : View) (i : ℕ) (t : Step) → i < length (in_order v.commands) → t ≡ get_or (enabled_below p v Complete (length v.commands)) i (End 0) → InFlight p v i t
in-flight p v i t h e = let c = completes-at p v i h in record { j = c.j; step = e ∙ c.step; same = c.same; left = c.left }

pub record Completion (p : Plan) (ops : List OpState) (qs : List Queued) (dev : ℕ) (bios : List Bio) (fates : List Fate) : Type 0 where
  pub each : length fates ≡ size bios
  pub inside : All (OpIsIn (length ops)) bios
  pub device : dev < length qs
  pub few : length fates < 2 ^ 32
  pub divide : All (Divides p) bios
  pub short : length bios ≤ blocks_of_requests p.requests
  pub small : length fates ≤ blocks_of_requests p.requests
  pub ends : All Ends (rests p bios fates)
  pub room : bios_in (put_all (rests p bios fates) (get_or qs dev no_queue).groups) ≤ (get_or qs dev no_queue).room

pub completion : (p : Plan) (gate : Gated) (ops : List OpState) (live : List ℕ) (qs : List Queued) (flight : Flights) (steps : ℕ) (v : View) (j : ℕ) → Fine p → Shows p gate ops live qs flight steps v.queues v → can p v (Complete j) ≡ true →
    Completion p ops qs (command_at v j).dev (command_at v j).bios (command_at v j).fates
completion p gate ops live qs flight steps v j f s h =
    let n = not-true (command_at v j).completed h in
    let o = open-command p v j s.sound n in
    let t = command-there v j n in
    let g = All-get_or (λ c. IsGroup p c.dev c.bios) v.commands j no_command t s.formed.commands in
    let z = total-one size_in v.commands j no_command t in
    let m : size_in (command_at v j) ≡ size (command_at v j).bios = open-size (command_at v j) n in
    let u = few-unsettled p v s.sound in
    let a = s.accounted in
    let b = bios-few p (command_at v j).dev (command_at v j).bios g.named in
    let e = o.settles.each in
    let few = f.few_blocks in
    let d = o.device in
    let k = s.sound.devices in
    let w = queue-is p gate ops live qs flight steps v (command_at v j).dev s (omega arith) in
    let s₂ = keeps p v (Complete j) 0 [] f.on_devices s.sound h tt in
    let f₂ = formed-keeps p v (Complete j) 0 [] f.straight f.on_devices s.sound h s.formed in
    let a₂ = accounted-keeps p v (Complete j) 0 [] f.on_devices s.sound h tt s.accounted in
    let x : get_or (set v.queues (command_at v j).dev (put_all (rests p (command_at v j).bios (command_at v j).fates) (queue_at v (command_at v j).dev))) (command_at v j).dev []
    ≡ put_all (rests p (command_at v j).bios (command_at v j).fates) (queue_at v (command_at v j).dev) = get_or-set_same v.queues (command_at v j).dev _ [] (omega arith) in
    let ll = length-set v.queues (command_at v j).dev (put_all (rests p (command_at v j).bios (command_at v j).fates) (queue_at v (command_at v j).dev)) in
    let y = queue-ends p (step p v (Complete j) 0 []) (command_at v j).dev f s₂ f₂ (omega arith) in
    let y₂ : All Ends (put_all (rests p (command_at v j).bios (command_at v j).fates) (queue_at v (command_at v j).dev)) = rw x at y in
    let r = queue-small p (step p v (Complete j) 0 []) (command_at v j).dev s₂ f₂ a₂ in
    let r₂ : bios_in (put_all (rests p (command_at v j).bios (command_at v j).fates) (queue_at v (command_at v j).dev)) ≤ blocks_of_requests p.requests = rw x at r in
    let r₃ = ap (λ q. bios_in (put_all (rests p (command_at v j).bios (command_at v j).fates) q)) w.1 in
    let room = All-get_or (HasRoom (blocks_of_requests p.requests)) qs (command_at v j).dev no_queue w.0 s.queue_room in
    record {
      each = e;
      inside = all-in p (command_at v j).dev (length ops) (command_at v j).bios (ap length s.states ∙ length-map v.ops state_of ∙ s.sound.ops) g.named;
      device = w.0;
      few = omega arith;
      divide = all-divide p (command_at v j).dev (command_at v j).bios f g.named;
      short = omega arith;
      small = omega arith;
      ends = all-put Ends (rests p (command_at v j).bios (command_at v j).fates) (queue_at v (command_at v j).dev) y₂;
      room = omega arith;
    }
  where
    open-size : (c : Command) → c.completed ≡ false → size_in c ≡ size c.bios
    open-size c e = rw e refl

pub shows-complete : (p : Plan) (gate : Gated) (ops ops' : List OpState) (live : List ℕ) (qs qs' : List Queued) (flight flight' : Flights) (steps steps' : ℕ) (v : View) (i j cut : ℕ) (c : Command) →
    Fine p → Shows p gate ops live qs flight steps v.queues v → can p v (Complete j) ≡ true → command_at v j ≡ c →
    in_order (set v.commands j (record (command_at v j) { completed = true })) ≡ without i (in_order v.commands) →
    ops' ≡ settle_bios c.bios c.fates ops → map groups_of qs' ≡ set (map groups_of qs) c.dev (put_all (rests p c.bios c.fates) (get_or qs c.dev no_queue).groups) → KeepRoom qs qs' →
    flight'.commands ≡ without i flight.commands → flight'.room ≡ flight.room → steps' ≡ steps + 1 →
    Shows p gate ops' live qs' flight' steps' (step p v (Complete j) cut []).queues (step p v (Complete j) cut [])
shows-complete p gate ops ops' live qs qs' flight flight' steps steps' v i j cut c f s h same left e₁ e₃ k e₄ r e₅ =
    let n = not-true (command_at v j).completed h in
    let o = open-command p v j s.sound n in
    let w = completion p gate ops live qs flight steps v j f s h in
    let e : length c.fates ≡ size c.bios = rw same at w.each in
    let d = o.device in
    let dv = s.sound.devices in
    let q = queue-is p gate ops live qs flight steps v (command_at v j).dev s (omega arith) in
    let q₂ : (get_or qs c.dev no_queue).groups ≡ queue_at v c.dev = rw same at q.1 in
    let l : length ops ≡ length v.ops = ap length s.states ∙ length-map v.ops state_of in
    let is : All (OpIsIn (length v.ops)) (command_at v j).bios = rw l at w.inside in
    let st = settles (command_at v j).bios (command_at v j).fates v.ops w.each is (settle-room p v j s.sound n) in
    keeps-all p gate gate ops ops' live live qs qs' flight flight' steps steps' v.queues v (Complete j) cut [] f s h tt
    (s.phases ∙ sym (phases-same v.ops (settle (settled_of (blocks (command_at v j).bios) (command_at v j).fates) v.ops) (length-settle (settled_of (blocks (command_at v j).bios) (command_at v j).fates) v.ops) (λ i. (grows-settle (settled_of (blocks (command_at v j).bios) (command_at v j).fates) v.ops i).phase))) refl
    (e₁ ∙ ap (λ (z : Command). settle_bios z.bios z.fates ops) (sym same) ∙ ap (settle_bios (command_at v j).bios (command_at v j).fates) s.states ∙ sym st)
    (s.listed ∙ sym (live-same 0 v.ops (settle (settled_of (blocks (command_at v j).bios) (command_at v j).fates) v.ops) (length-settle (settled_of (blocks (command_at v j).bios) (command_at v j).fates) v.ops)
    (λ m. ap has_ended (grows-settle (settled_of (blocks (command_at v j).bios) (command_at v j).fates) v.ops m).phase)))
    (e₃ ∙ ap (λ z. set (map groups_of qs) c.dev (put_all (rests p c.bios c.fates) z)) q₂ ∙ ap (λ z. set z c.dev (put_all (rests p c.bios c.fates) (queue_at v c.dev))) s.queued
    ∙ ap (λ (z : Command). set v.queues z.dev (put_all (rests p z.bios z.fates) (queue_at v z.dev))) (sym same))
    (e₄ ∙ ap (without i) s.flying ∙ sym left)
    e₅ k r

pub completion-at : (p : Plan) (gate : Gated) (ops : List OpState) (live : List ℕ) (qs : List Queued) (flight : Flights) (steps : ℕ) (v : View) (i : ℕ) (t : Step) (dev : ℕ) (bios : List Bio) (fates : List Fate) →
    Fine p → Shows p gate ops live qs flight steps v.queues v → can p v t ≡ true → (i < length (in_order v.commands)) × (t ≡ get_or (enabled_below p v Complete (length v.commands)) i (End 0)) →
    dev ≡ (get_or flight.commands i no_command).dev → bios ≡ (get_or flight.commands i no_command).bios → fates ≡ (get_or flight.commands i no_command).fates → Completion p ops qs dev bios fates
completion-at p gate ops live qs flight steps v i t dev bios fates f s h m d b e =
    let x = in-flight p v i t m.0 m.1 in
    let c = completion p gate ops live qs flight steps v x.j f s (ap (can p v) (sym x.step) ∙ h) in
    let same : command_at v x.j ≡ get_or flight.commands i no_command = x.same ∙ sym (ap (λ z. get_or z i no_command) s.flying) in
    rw (d, b, e) (rw same at c)

pub complete-whole : (p : Plan) (gate : Gated) (ops ops' : List OpState) (live : List ℕ) (qs qs' : List Queued) (flight flight' : Flights) (steps steps' : ℕ) (v : View) (i : ℕ) (t : Step) (cut dev : ℕ) (bios₁ bios₂ : List Bio) (fates₁ fates₂ : List Fate) →
    Fine p → Shows p gate ops live qs flight steps v.queues v → can p v t ≡ true → (i < length (in_order v.commands)) × (t ≡ get_or (enabled_below p v Complete (length v.commands)) i (End 0)) →
    dev ≡ (get_or flight.commands i no_command).dev → bios₁ ≡ (get_or flight.commands i no_command).bios → fates₁ ≡ (get_or flight.commands i no_command).fates →
    bios₂ ≡ (get_or flight.commands i no_command).bios → fates₂ ≡ (get_or flight.commands i no_command).fates →
    ops' ≡ settle_bios bios₁ fates₁ ops → map groups_of qs' ≡ set (map groups_of qs) dev (put_all (rests p bios₂ fates₂) (get_or qs dev no_queue).groups) → KeepRoom qs qs' →
    flight'.commands ≡ without i flight.commands → flight'.room ≡ flight.room → steps' ≡ steps + 1 →
    Shows p gate ops' live qs' flight' steps' (step p v t cut []).queues (step p v t cut [])
complete-whole p gate ops ops' live qs qs' flight flight' steps steps' v i t cut dev bios₁ bios₂ fates₁ fates₂ f s h m d b₁ x₁ b₂ x₂ e₁ e₃ k e₄ r e₅ =
    let x = in-flight p v i t m.0 m.1 in
    let same : command_at v x.j ≡ get_or flight.commands i no_command = x.same ∙ sym (ap (λ z. get_or z i no_command) s.flying) in
    let y₁ = rw (b₁, x₁) at e₁ in
    let y₃ = rw (d, b₂, x₂) at e₃ in
    let st = x.step in
    let hh : can p v (Complete x.j) ≡ true = ap (can p v) (sym st) ∙ h in
    rw st (shows-complete p gate ops ops' live qs qs' flight flight' steps steps' v i x.j cut (get_or flight.commands i no_command) f s hh same x.left y₁ y₃ k e₄ r e₅)

-- ---- sending

pub record Takes (p : Plan) (v : View) (qs : List Queued) (d i : ℕ) : Type 0 where
  pub there : d < length qs
  pub within : i < length (get_or qs d no_queue).groups
  pub is : (get_or qs d no_queue).groups ≡ queue_at v d
  pub short : length (group_in (get_or qs d no_queue).groups i) ≤ blocks_of_requests p.requests

pub takes : (p : Plan) (gate : Gated) (ops : List OpState) (live : List ℕ) (qs : List Queued) (flight : Flights) (steps : ℕ) (v : View) (d i : ℕ) (t : Step) → Shows p gate ops live qs flight steps v.queues v → can p v t ≡ true → t ≡ Send d i → Takes p v qs d i
takes p gate ops live qs flight steps v d i t s h e =
    let hh : can p v (Send d i) ≡ true = ap (can p v) (sym e) ∙ h in
    let k = ltb-true i (length (queue_at v d)) hh in
    let q = queue-is p gate ops live qs flight steps v d s (queue-there v d i k) in
    let g : group_in (get_or qs d no_queue).groups i ≡ group_at v d i = ap (λ z. get_or z i []) q.1 in
    let f = (sends-fit p v d i s.sound s.formed s.accounted k).short in
    let l = ap length q.1 in
    let m = ap length g in
    record { there = q.0; within = omega arith; is = q.1; short = omega arith }

-- a group was taken
pub shows-taken : (p : Plan) (gate : Gated) (ops : List OpState) (live : List ℕ) (qs qs' : List Queued) (flight : Flights) (steps : ℕ) (v : View) (d i : ℕ) (t : Step) →
    Shows p gate ops live qs flight steps v.queues v → can p v t ≡ true → t ≡ Send d i →
    map groups_of qs' ≡ set (map groups_of qs) d (without i (get_or qs d no_queue).groups) → KeepRoom qs qs' →
    Shows p gate ops live qs' flight steps (set v.queues d (without i (queue_at v d))) v
shows-taken p gate ops live qs qs' flight steps v d i t s h e e₃ k =
    let q = (takes p gate ops live qs flight steps v d i t s h e).is in
    record {
      phases = s.phases;
      conflicts = s.conflicts;
      states = s.states;
      listed = s.listed;
      queued = e₃ ∙ ap (λ z. set (map groups_of qs) d (without i z)) q ∙ ap (λ z. set z d (without i (queue_at v d))) s.queued;
      flying = s.flying;
      taken = s.taken;
      queue_room = rooms-keep (blocks_of_requests p.requests) qs qs' k s.queue_room;
      flight_room = s.flight_room;
      sound = s.sound;
      formed = s.formed;
      accounted = s.accounted;
      counted = s.counted;
      windowed = s.windowed;
    }

-- what a command in flight needs
pub record Room (p : Plan) (flight : Flights) (group : List Bio) (told : List Fate) : Type 0 where
  pub commands : length flight.commands < flight.room
  pub bios : bios_in_flight flight.commands + length group ≤ flight.room
  pub fates : fates_in_flight flight.commands + length told ≤ flight.room

pub flight-room : (p : Plan) (gate : Gated) (ops : List OpState) (live : List ℕ) (qs : List Queued) (flight : Flights) (steps : ℕ) (held : List (List Group)) (v : View) (d i : ℕ) (group : List Bio) (fates : List Fate) →
    Shows p gate ops live qs flight steps held v → can p v (Send d i) ≡ true → group ≡ group_at v d i → Settles group fates → Room p flight group fates
flight-room p gate ops live qs flight steps held v d i group fates s h e a =
    let k = ltb-true i (length (queue_at v d)) h in
    let f = sends-fit p v d i s.sound s.formed s.accounted k in
    let c = ap length s.flying in
    let b = ap bios_in_flight s.flying in
    let t = ap fates_in_flight s.flying in
    let r = s.flight_room in
    let g = ap length e in
    let z = ap size e in
    let n = a.each in
    let x₁ = f.number in
    let x₂ = f.bios in
    let x₃ = f.fates in
    record { commands = omega arith; bios = omega arith; fates = omega arith }

pub shows-send : (p : Plan) (gate : Gated) (ops : List OpState) (live : List ℕ) (qs : List Queued) (flight flight' : Flights) (steps steps' : ℕ) (v : View) (d i cut : ℕ) (group : List Bio) (fates : List Fate) →
    Fine p → Shows p gate ops live qs flight steps (set v.queues d (without i (queue_at v d))) v → can p v (Send d i) ≡ true → Settles group fates → group ≡ group_at v d i →
    flight'.commands ≡ flight.commands ++ record { dev = d; bios = group; fates = fates; completed = false } ∷ [] → flight'.room ≡ flight.room → steps' ≡ steps + 1 →
    Shows p gate ops live qs flight' steps' (step p v (Send d i) cut fates).queues (step p v (Send d i) cut fates)
shows-send p gate ops live qs flight flight' steps steps' v d i cut group fates f s h a b e₄ r e₅ =
    let a₂ : Settles (group_at v d i) fates = rw b at a in
    keeps-all p gate gate ops ops live live qs qs flight flight' steps steps' (set v.queues d (without i (queue_at v d))) v (Send d i) cut fates f s h a₂
    s.phases refl s.states s.listed s.queued
    (e₄ ∙ ap (λ z. z ++ record { dev = d; bios = group; fates = fates; completed = false } ∷ []) s.flying
    ∙ ap (λ (z : List Bio). in_order v.commands ++ record { dev = d; bios = z; fates = fates; completed = false } ∷ []) b
    ∙ sym (sent-last v.commands (record { dev = d; bios = group_at v d i; fates = fates; completed = false }) refl))
    e₅ refl r

-- ---- cutting

-- where a piece goes
pub record Piece (p : Plan) (ops : List OpState) (qs : List Queued) (i : ℕ) (b : Bio) : Type 0 where
  pub there : b.dev < length qs
  pub ends : b.lba + b.count < 2 ^ 64
  pub room : bios_in (get_or qs b.dev no_queue).groups + 1 ≤ (get_or qs b.dev no_queue).room
  pub fits : (get_or ops i no_state).cut + b.count < 2 ^ 32
  pub some : 1 ≤ blocks_of_requests p.requests

pub piece : (p : Plan) (gate : Gated) (ops : List OpState) (live : List ℕ) (qs : List Queued) (flight : Flights) (steps : ℕ) (v : View) (i cut : ℕ) (b : Bio) → Fine p → Shows p gate ops live qs flight steps v.queues v → can p v (Cut i) ≡ true →
    b ≡ bio_of p i (op_at v i).cut (cut_to cut (greatest_piece p i (op_at v i).cut)) → Piece p ops qs i b
piece p gate ops live qs flight steps v i cut b f s h e =
    let c = and_parts (is_admitted (op_at v i).phase) (nat_lt (op_at v i).cut (request_at p i).count) h in
    let l = ltb-true (op_at v i).cut (request_at p i).count c.1 in
    let n = cut_to cut (greatest_piece p i (op_at v i).cut) in
    let one = piece-some p i (op_at v i).cut in
    let most = piece-within p i (op_at v i).cut l in
    let small = cut-within cut (greatest_piece p i (op_at v i).cut) one in
    let d = f.on_devices i (op_at v i).cut l in
    let k = s.sound.devices in
    let w = queue-is p gate ops live qs flight steps v (bio_of p i (op_at v i).cut n).dev s (omega arith) in
    let s₂ = keeps p v (Cut i) cut [] f.on_devices s.sound h tt in
    let f₂ = formed-keeps p v (Cut i) cut [] f.straight f.on_devices s.sound h s.formed in
    let a₂ = accounted-keeps p v (Cut i) cut [] f.on_devices s.sound h tt s.accounted in
    let x : get_or (set v.queues (bio_of p i (op_at v i).cut n).dev (put (bio_of p i (op_at v i).cut n ∷ []) (queue_at v (bio_of p i (op_at v i).cut n).dev))) (bio_of p i (op_at v i).cut n).dev []
    ≡ put (bio_of p i (op_at v i).cut n ∷ []) (queue_at v (bio_of p i (op_at v i).cut n).dev) = get_or-set_same v.queues (bio_of p i (op_at v i).cut n).dev _ [] (omega arith) in
    let ll = length-set v.queues (bio_of p i (op_at v i).cut n).dev (put (bio_of p i (op_at v i).cut n ∷ []) (queue_at v (bio_of p i (op_at v i).cut n).dev)) in
    let y = queue-ends p (step p v (Cut i) cut []) (bio_of p i (op_at v i).cut n).dev f s₂ f₂ (omega arith) in
    let y₂ : All Ends (put (bio_of p i (op_at v i).cut n ∷ []) (queue_at v (bio_of p i (op_at v i).cut n).dev)) = rw x at y in
    let y₃ = (one-put Ends (bio_of p i (op_at v i).cut n ∷ []) (queue_at v (bio_of p i (op_at v i).cut n).dev) y₂).ends in
    let r = queue-small p (step p v (Cut i) cut []) (bio_of p i (op_at v i).cut n).dev s₂ f₂ a₂ in
    let r₂ : bios_in (put (bio_of p i (op_at v i).cut n ∷ []) (queue_at v (bio_of p i (op_at v i).cut n).dev)) ≤ blocks_of_requests p.requests = rw x at r in
    let r₃ = bios-put (bio_of p i (op_at v i).cut n ∷ []) (queue_at v (bio_of p i (op_at v i).cut n).dev) in
    let r₄ = ap bios_in w.1 in
    let room = All-get_or (HasRoom (blocks_of_requests p.requests)) qs (bio_of p i (op_at v i).cut n).dev no_queue w.0 s.queue_room in
    let st = ap (λ (z : OpState). z.cut) (state-is p gate ops live qs flight steps v i s) in
    let sm = count-few p.requests i in let sn = f.few_blocks in
    rw e (record { there = w.0; ends = omega arith; room = omega arith; fits = omega arith; some = omega arith })

pub shows-cut : (p : Plan) (gate : Gated) (ops ops' : List OpState) (live : List ℕ) (qs qs' : List Queued) (flight : Flights) (steps steps' : ℕ) (v : View) (i cut : ℕ) (b : Bio) →
    Fine p → Shows p gate ops live qs flight steps v.queues v → can p v (Cut i) ≡ true →
    b ≡ bio_of p i (op_at v i).cut (cut_to cut (greatest_piece p i (op_at v i).cut)) →
    ops' ≡ set ops i (more_cut b.count (get_or ops i no_state)) → map groups_of qs' ≡ set (map groups_of qs) b.dev (put (b ∷ []) (get_or qs b.dev no_queue).groups) → KeepRoom qs qs' → steps' ≡ steps + 1 →
    Shows p gate ops' live qs' flight steps' (step p v (Cut i) cut []).queues (step p v (Cut i) cut [])
shows-cut p gate ops ops' live qs qs' flight steps steps' v i cut b f s h e e₁ e₃ k e₅ =
    let c = and_parts (is_admitted (op_at v i).phase) (nat_lt (op_at v i).cut (request_at p i).count) h in
    let l = ltb-true (op_at v i).cut (request_at p i).count c.1 in
    let d = f.on_devices i (op_at v i).cut l in
    let m = s.sound.devices in
    let x = state-is p gate ops live qs flight steps v i s in
    let y₁ = rw e at e₁ in
    let y₃ = rw e at e₃ in
    let q = queue-is p gate ops live qs flight steps v (p.place ((request_at p i).first + (op_at v i).cut)).dev s (omega arith) in
    let n = cut_to cut (greatest_piece p i (op_at v i).cut) in
    keeps-all p gate gate ops ops' live live qs qs' flight flight steps steps' v.queues v (Cut i) cut [] f s h tt
    (s.phases ∙ sym (cut-alone v.ops i (cut_to cut (greatest_piece p i (op_at v i).cut)))) refl
    (y₁ ∙ ap (λ (z : OpState). set ops i (more_cut (cut_to cut (greatest_piece p i (op_at v i).cut)) z)) x
    ∙ ap (λ z. set z i (more_cut (cut_to cut (greatest_piece p i (op_at v i).cut)) (state_of (op_at v i)))) s.states
    ∙ sym (map-set state_of v.ops i (record (op_at v i) { cut = (op_at v i).cut + cut_to cut (greatest_piece p i (op_at v i).cut) })))
    (s.listed ∙ sym (live-stays v i (record (op_at v i) { cut = (op_at v i).cut + cut_to cut (greatest_piece p i (op_at v i).cut) }) refl))
    (y₃ ∙ ap (λ z. set (map groups_of qs) (p.place ((request_at p i).first + (op_at v i).cut)).dev (put (bio_of p i (op_at v i).cut (cut_to cut (greatest_piece p i (op_at v i).cut)) ∷ []) z)) q.1
    ∙ ap (λ z. set z (p.place ((request_at p i).first + (op_at v i).cut)).dev (put (bio_of p i (op_at v i).cut (cut_to cut (greatest_piece p i (op_at v i).cut)) ∷ []) (queue_at v (p.place ((request_at p i).first + (op_at v i).cut)).dev))) s.queued)
    s.flying e₅ k refl

pub cut-facts : (p : Plan) (gate : Gated) (ops : List OpState) (live : List ℕ) (qs : List Queued) (flight : Flights) (steps : ℕ) (v : View) (q : ℕ) (op : ℕ) (o : OpState) → Fine p → Shows p gate ops live qs flight steps v.queues v → q < length (live_ops v) →
    op ≡ get_or live q op → o ≡ get_or ops op o → (op ≡ get_or (live_ops v) q 0) × (o.cut ≡ (op_at v op).cut)
cut-facts p gate ops live qs flight steps v q op o f s m e y =
    let l = listed-there p gate ops live qs flight steps v q f s m in
    let x : op ≡ get_or live q 0 = e ∙ get_or_default live q op 0 l.place in
    let z = l.op in
    let w : o ≡ get_or ops op no_state = y ∙ get_or_default ops op o no_state (omega arith) in
    (x ∙ ap (λ z. get_or z q 0) s.listed, ap (λ (z : OpState). z.cut) (w ∙ state-is p gate ops live qs flight steps v op s))

pub piece-at : (p : Plan) (gate : Gated) (ops : List OpState) (live : List ℕ) (qs : List Queued) (flight : Flights) (steps : ℕ) (v : View) (q : ℕ) (t : Step) (cut op : ℕ) (o : OpState) (b : Bio) → Fine p → Shows p gate ops live qs flight steps v.queues v → can p v t ≡ true →
    (q < length (live_ops v)) × (t ≡ Cut (get_or (live_ops v) q 0)) → op ≡ get_or live q op → o ≡ get_or ops op o → b ≡ bio_of p op o.cut (cut_to cut (greatest_piece p op o.cut)) → Piece p ops qs op b
piece-at p gate ops live qs flight steps v q t cut op o b f s h m x y e =
    let c = cut-facts p gate ops live qs flight steps v q op o f s m.0 x y in
    let c₁ = c.1 in
    let hh : can p v (Cut op) ≡ true = ap (λ i. can p v (Cut i)) c.0 ∙ ap (can p v) (sym m.1) ∙ h in
    piece p gate ops live qs flight steps v op cut b f s hh (e ∙ ap (λ k. bio_of p op k (cut_to cut (greatest_piece p op k))) c₁)

pub cut-whole : (p : Plan) (gate : Gated) (ops ops' : List OpState) (live : List ℕ) (qs qs' : List Queued) (flight : Flights) (steps steps' : ℕ) (v : View) (q : ℕ) (t : Step) (cut op : ℕ) (o : OpState) (b : Bio) (run : List Bio) → Fine p → Shows p gate ops live qs flight steps v.queues v → can p v t ≡ true →
    (q < length (live_ops v)) × (t ≡ Cut (get_or (live_ops v) q 0)) → op ≡ get_or live q op → o ≡ get_or ops op o → b ≡ bio_of p op o.cut (cut_to cut (greatest_piece p op o.cut)) → run ≡ b ∷ [] →
    ops' ≡ set ops op (more_cut b.count (get_or ops op no_state)) → map groups_of qs' ≡ set (map groups_of qs) b.dev (put run (get_or qs b.dev no_queue).groups) → KeepRoom qs qs' → steps' ≡ steps + 1 →
    Shows p gate ops' live qs' flight steps' (step p v t cut []).queues (step p v t cut [])
cut-whole p gate ops ops' live qs qs' flight steps steps' v q t cut op o b run f s h m x y e r e₁ e₃ k e₅ =
    let c = cut-facts p gate ops live qs flight steps v q op o f s m.0 x y in
    let c₁ = c.1 in
    let hh : can p v (Cut op) ≡ true = ap (λ i. can p v (Cut i)) c.0 ∙ ap (can p v) (sym m.1) ∙ h in
    let tt' : t ≡ Cut op = m.1 ∙ ap Cut (sym c.0) in
    rw tt' (shows-cut p gate ops ops' live qs qs' flight steps steps' v op cut b f s hh (e ∙ ap (λ k. bio_of p op k (cut_to cut (greatest_piece p op k))) c₁)
    e₁ (e₃ ∙ ap (λ z. set (map groups_of qs) b.dev (put z (get_or qs b.dev no_queue).groups)) r) k e₅)

-- one bio as a group
pub one-ends : (p : Plan) (ops : List OpState) (qs : List Queued) (i : ℕ) (b : Bio) (run : List Bio) → Piece p ops qs i b → run ≡ b ∷ [] →
    (lba_of run + size run < 2 ^ 64) × (bios_in (get_or qs b.dev no_queue).groups + length run ≤ (get_or qs b.dev no_queue).room)
one-ends p ops qs i b run c e = let x = c.ends in let y = c.room in rw e (omega arith, omega arith)

-- the piece is the step's
pub piece-of : (p : Plan) (gate : Gated) (ops : List OpState) (live : List ℕ) (qs : List Queued) (flight : Flights) (steps : ℕ) (v : View) (q : ℕ) (t : Step) (cut op : ℕ) (o : OpState) (b : Bio) → Fine p → Shows p gate ops live qs flight steps v.queues v →
    (q < length (live_ops v)) × (t ≡ Cut (get_or (live_ops v) q 0)) → op ≡ get_or live q op → o ≡ get_or ops op o → b ≡ bio_of p op o.cut (cut_to cut (greatest_piece p op o.cut)) →
    b ≡ bio_of p (op_of t) (op_at v (op_of t)).cut (cut_to cut (greatest_piece p (op_of t) (op_at v (op_of t)).cut))
piece-of p gate ops live qs flight steps v q t cut op o b f s m x y e =
    let c = cut-facts p gate ops live qs flight steps v q op o f s m.0 x y in
    let c₁ = c.1 in
    let t₁ : op_of t ≡ op = ap op_of m.1 ∙ sym c.0 in
    rw t₁ (e ∙ ap (λ k. bio_of p op k (cut_to cut (greatest_piece p op k))) c₁)
