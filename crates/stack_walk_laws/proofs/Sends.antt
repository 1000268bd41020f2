-- A group is sent, block by block.
use Rattle.std.proofs.Common.{◌≡◌, ◌⊎◌, inl, inr, ℕ, suc, ◌+◌, Bool, true, false, ◌&&◌, eqb, if◌then◌else◌, List, [], ◌∷◌, ◌++◌, length, map, get_or, Option, Some, None, refl, sym, ap, subst, ◌∙◌, append-nil}
use Rattle.std.specs.Prelude.{Result, Ok, Err}
use Rattle.std.proofs.lemmas.Bool.{eq-eqb, eqb-true, false≢true}
use Rattle.page_pool.specs.Cells.{gather, scatter}
use Rattle.pi_tuple.specs.declared.checks.Check.{Check}
use Rattle.bio_core.specs.Bios.{Block}
use Rattle.bio_core.specs.declared.fate.Why.{Why}
use Rattle.bio_core.specs.declared.fate.Why.TheVariants.{Adapter as ByAdapter}
use Rattle.bio_core.specs.declared.request.Dir.{Dir}
use Rattle.bio_core.specs.declared.request.Dir.TheVariants.{Read, Write}
use Rattle.bio_core.specs.declared.request.Io.{Io}
use Rattle.block_path.specs.declared.route.Route.{Route}
use Rattle.block_path.specs.Acts.{Act, Effect, State, act, effect, tell}
use Rattle.block_path.specs.Blocks.{ActAnswer, Sent, own_cell, stored_cell, stored_over, written_by}
use Rattle.block_path.specs.Moves.{carried_in, carry_in, carry_out}
use Rattle.block_path.specs.WayIn.{at_host, from_device, from_wire}
use Rattle.block_path.specs.WayOut.{Fails, Refuses, Stores, from_adapter, goes_out, to_wire}
use Rattle.run_laws.specs.Passed.{Setting, route, Alters, Reads, Seals, Sets, Shows, Step, Writes, WritesPi, steps_of, Op}
use Rattle.run_laws.specs.Records.{find, put_sent, stamped, writes_at}
use Rattle.run_laws.specs.BoundRun.{fates, rooms}
use Rattle.run_laws.specs.OpsApart.{OpsConflict}
use Rattle.run_laws.specs.ScriptMoves.{own_at}
use Rattle.dix_adapter.specs.declared.adapter.Adapter.{Adapter}
use Rattle.dix_adapter.specs.Carried.{arrives, carried as fate_of, land, sends, unsent}
use Rattle.dix_adapter.specs.Groups.{frame_cells, frame_in, label_of, route_of}
use Rattle.dix_adapter.proofs.GoingIn.{scatter-none}
use Rattle.stack_walk_laws.specs.OnRecord.{put_each}
use Rattle.stack_walk_laws.specs.Following.{Becomes, Follows}
use Rattle.stack_walk_laws.specs.Gate.{AreOver, LetsIn, BlockSpot, is_over, number, ops_of, parts_at, place}
use Rattle.stack_walk_laws.specs.Sending.{AllComeIn, AllGoOut, AllGoing, Carriage, HeldBack, IsElsewhere, IsGoing, NoneBefore, SentIn, SentOut, carriage_of, fate_in, in_fates, is_carried, out_fates, land_all, land_one, with_fate, with_fates, with_status}
use Rattle.stack_walk_laws.specs.Slots.{Carried, Cut, Status, parts_of, write_parts}
use Rattle.stack_walk_laws.proofs.Carrying.{carried}
use Rattle.stack_walk_laws.proofs.StillFates.{still_out, still_in}

-- statuses

pub with_here : (i k j l : ℕ) (next : Status) (status : ℕ → ℕ → Status) → j ≡ i → l ≡ k → with_status i k next status j l ≡ next
with_here i k j l next status e f = rw (eq-eqb j i e) (rw (eq-eqb l k f) refl)

pub with_other : (i k j l : ℕ) (next : Status) (status : ℕ → ℕ → Status) → (j ≡ i → l ≡ k → ⊥) → with_status i k next status j l ≡ status j l
with_other i k j l next status h = by (eqb j i) (eqb l k) refl refl where
  by : (x y : Bool) → eqb j i ≡ x → eqb l k ≡ y → (if x && y then next else status j l) ≡ status j l
  by true true e f = absurd (h (eqb-true j i e) (eqb-true l k f))
  by true false e f = refl
  by false y e f = refl

-- what is over stays so, and with it what the gate lets in

pub over_stays : (k : ℕ) (steps : List Step) (old new : ℕ → Status) → ((l : ℕ) → is_over (old l) ≡ true → new l ≡ old l) → AreOver k steps old → AreOver k steps new
over_stays k [] old new e h = tt
over_stays k (step ∷ steps) old new e h = (ap is_over (e k h.0) ∙ h.0, over_stays (suc k) steps old new e h.1)

pub lets_stay : (m : Setting) (old new : ℕ → ℕ → Status) (i : ℕ) (ops : List Op) (j : ℕ) (op : Op) → ((i l : ℕ) → is_over (old i l) ≡ true → new i l ≡ old i l) → LetsIn m old i ops j op → LetsIn m new i ops j op
lets_stay m old new i [] j op e h = tt
lets_stay m old new i (x ∷ ops) j op e h = (by h.0, lets_stay m old new (suc i) ops j op e h.1) where
  by : (AreOver 0 (steps_of m i x) (old i) ⊎ (OpsConflict m i x j op → ⊥)) → AreOver 0 (steps_of m i x) (new i) ⊎ (OpsConflict m i x j op → ⊥)
  by (inl over) = inl (over_stays 0 (steps_of m i x) (old i) (new i) (e i) over)
  by (inr apart) = inr apart

-- the move that carries it

-- these three
abbrev carriage : Route → Dir → List ℕ → Carriage
carriage r dir frame = record { route = r; dir = dir; frame = frame }

abbrev the : Carriage → Option Carriage → Carriage
the d None = d
the d (Some c) = c

abbrev is_there : Option Carriage → Bool
is_there None = false
is_there (Some c) = true

abbrev is_write : Dir → Bool
is_write Read = false
is_write Write = true

carries_out : (m : Setting) (own : List ℕ) (fate : ℕ) (step : Step) (r : Route) (frame : List ℕ) → carriage_of m own step ≡ Some (record { route = r; dir = Write; frame = frame }) → (parts_of m own fate step).carrying ≡ carry_out m.site r frame
carries_out m own fate (Sets at values) r frame e = absurd (false≢true (ap is_there e))
carries_out m own fate (Shows at) r frame e = absurd (false≢true (ap is_there e))
carries_out m own fate (Seals body tuple app rtag) r frame e = absurd (false≢true (ap is_there e))
carries_out m own fate (Writes b app body) r frame e = by m.mode.dix e where
  by : (dix : Bool) → Some (carriage (route m b) Write (if dix then body ++ own else body)) ≡ Some (carriage r Write frame) → (write_parts m b app body own dix).carrying ≡ carry_out m.site r frame
  by true e = let c = ap (the (carriage r Write frame)) e in ap (λ (x : Carriage). carry_out m.site x.route x.frame) c
  by false e = let c = ap (the (carriage r Write frame)) e in ap (λ (x : Carriage). carry_out m.site x.route x.frame) c
carries_out m own fate (WritesPi b at) r frame e = let c = ap (the (carriage r Write frame)) e in ap (λ (x : Carriage). carry_out m.site x.route x.frame) c
carries_out m own fate (Reads b owner to) r frame e = let c = ap (the (carriage r Write frame)) e in absurd (false≢true (ap (λ (x : Carriage). is_write x.dir) c))
carries_out m own fate (Alters dev lba change) r frame e = absurd (false≢true (ap is_there e))

carries_in : (m : Setting) (own : List ℕ) (fate : ℕ) (step : Step) (r : Route) (frame : List ℕ) → carriage_of m own step ≡ Some (record { route = r; dir = Read; frame = frame }) → (parts_of m own fate step).carrying ≡ carry_in m.site r frame fate
carries_in m own fate (Sets at values) r frame e = absurd (false≢true (ap is_there e))
carries_in m own fate (Shows at) r frame e = absurd (false≢true (ap is_there e))
carries_in m own fate (Seals body tuple app rtag) r frame e = absurd (false≢true (ap is_there e))
carries_in m own fate (Writes b app body) r frame e = let c = ap (the (carriage r Read frame)) e in absurd (false≢true (sym (ap (λ (x : Carriage). is_write x.dir) c)))
carries_in m own fate (WritesPi b at) r frame e = let c = ap (the (carriage r Read frame)) e in absurd (false≢true (sym (ap (λ (x : Carriage). is_write x.dir) c)))
carries_in m own fate (Reads b owner to) r frame e = let c = ap (the (carriage r Read frame)) e in ap (λ (x : Carriage). carry_in m.site x.route x.frame fate) c
carries_in m own fate (Alters dev lba change) r frame e = absurd (false≢true (ap is_there e))

-- what it tells

pub record Tells (m : Setting) (a : Act ActAnswer) (now : State) (e : Sent) (why : Option Why) : Type 0 where
  pub sent : (tell a now).sent ≡ Some e
  pub why_is : (tell a now).why ≡ why

module _ (m : Setting) (r : Route) (now : State) (es : List Sent) (logs : (c : ℕ) → get_or now.logs c [] ≡ writes_at m.site c es) where
  out_tells : (frame carried stored : List ℕ) → goes_out m.site.faults m.site.device r (gather 0 frame now.bytes) ≡ Stores carried stored → Tells m (carry_out m.site r frame) now (stamped m.site es r.label Write r.dev r.lba (Ok carried)) None
  out_tells frame carried stored e = record {
    sent = ap (λ w. (written_by r w [] (get_or now.logs (own_cell m.site r) [])).answer.sent) e
        ∙ ap (λ (log : List (List ℕ)). Some (record { label = r.label; dir = Write; dev = r.dev; lba = r.lba; came = Ok carried; after = length log })) (logs (own_cell m.site r));
    why_is = ap (λ w. (written_by r w [] (get_or now.logs (own_cell m.site r) [])).answer.why) e;
  }

  out_ends : (frame : List ℕ) (why : Why) → goes_out m.site.faults m.site.device r (gather 0 frame now.bytes) ≡ Refuses why → Tells m (carry_out m.site r frame) now (stamped m.site es r.label Write r.dev r.lba (Err why)) (Some why)
  out_ends frame why e = record {
    sent = ap (λ w. (written_by r w [] (get_or now.logs (own_cell m.site r) [])).answer.sent) e
        ∙ ap (λ (log : List (List ℕ)). Some (record { label = r.label; dir = Write; dev = r.dev; lba = r.lba; came = Err why; after = length log })) (logs (own_cell m.site r));
    why_is = ap (λ w. (written_by r w [] (get_or now.logs (own_cell m.site r) [])).answer.why) e;
  }

-- one block of a group

going_rest : (m : Setting) (n : ℕ) (ops : List Op) (a : Adapter) (ios : List Io) (logs : ℕ) (status : ℕ → ℕ → Status) (b : Block) (next : Status) (bs : List Block) (spots : List BlockSpot) → status b.op b.k ≡ Cut → IsElsewhere b bs →
    AllGoing m n ops a ios logs status bs spots → AllGoing m n ops a ios logs (with_status b.op b.k next status) bs spots
going_rest m n ops a ios logs status b next [] spots c e h = tt
going_rest m n ops a ios logs status b next (x ∷ bs) [] c e h = absurd h
going_rest m n ops a ios logs status b next (x ∷ bs) (s ∷ spots) c e h =
    let g = h.0 in
    let may = g.may in
    let new = with_status b.op b.k next status in
    let same = λ (i l : ℕ) (o : is_over (status i l) ≡ true). with_other b.op b.k i l next status (λ p q. false≢true (sym (ap is_over c) ∙ ap is_over (sym (ap (λ t. status t b.k) p) ∙ sym (ap (status i) q)) ∙ o)) in (
      record {
        script = g.script;
        number = g.number;
        place = g.place;
        carriage = g.carriage;
        log = g.log;
        is_cut = with_other b.op b.k x.op x.k next status e.0 ∙ g.is_cut;
        may = record { one = may.one; placed = may.placed; mine = may.mine; spread = may.spread; steps = may.steps; lets = lets_stay m status new 1 s.front (number s) s.op same may.lets };
      },
      (h.1.0, going_rest m n ops a ios logs status b next bs spots c e.1 h.1.1),
    )

-- whatever it puts on record
put_block : (m : Setting) (n : ℕ) (ops : List Op) (a : Adapter) (ios : List Io) (opening now : State) (status : ℕ → ℕ → Status) (es : List Sent) (b : Block) (s : BlockSpot) (c : Act ActAnswer) (o : Option Sent) (why : Option Why) →
    IsGoing m n ops a ios (length opening.logs) status b s → (parts_at m n s).carrying ≡ c → (tell c now).sent ≡ o → (tell c now).why ≡ why → Follows m n ops opening status now es →
    Follows m n ops opening (with_status b.op b.k (Carried why) status) (act c now) (es ++ put_sent o [])
put_block m n ops a ios opening now status es b s c o why g q put found h =
    let here = subst (λ o. Follows m n o opening status now es) (sym g.script) h in
    let new = with_status b.op b.k (Carried why) status in
    let k = (parts_at m n s).carrying in
    let told : (tell k now).why ≡ why = ap (λ (x : Act ActAnswer). (tell x now).why) q ∙ found in
    let sent : (tell k now).sent ≡ o = ap (λ (x : Act ActAnswer). (tell x now).sent) q ∙ put in
    let becomes : Becomes (number s) (place s) (Carried (tell k now).why) status new = record {
      here = with_here b.op b.k (number s) (place s) (Carried why) status g.number g.place ∙ ap (λ w. Carried w) (sym told);
      elsewhere = λ j l f. with_other b.op b.k j l (Carried why) status (λ x y. f (x ∙ sym g.number) (y ∙ sym g.place));
    } in
    let cut : status (number s) (place s) ≡ Cut = ap (λ i. status i (place s)) g.number ∙ ap (status b.op) g.place ∙ g.is_cut in
    let done = carried m n s opening now status new es g.may g.log cut becomes here in
    subst (λ o'. Follows m n o' opening new (act c now) (es ++ put_sent o [])) g.script
    (subst (λ x. Follows m n (ops_of s) opening new (act x now) (es ++ put_sent o [])) q
    (subst (λ e. Follows m n (ops_of s) opening new (act k now) (es ++ put_sent e [])) sent done))

one_block : (m : Setting) (n : ℕ) (ops : List Op) (a : Adapter) (ios : List Io) (opening now : State) (status : ℕ → ℕ → Status) (es : List Sent) (b : Block) (s : BlockSpot) (c : Act ActAnswer) (e : Sent) (why : Option Why) →
    IsGoing m n ops a ios (length opening.logs) status b s → (parts_at m n s).carrying ≡ c → Tells m c now e why → Follows m n ops opening status now es →
    Follows m n ops opening (with_status b.op b.k (Carried why) status) (act c now) (es ++ (e ∷ []))
one_block m n ops a ios opening now status es b s c e why g q t h = put_block m n ops a ios opening now status es b s c (Some e) why g q t.sent t.why_is h

-- the ones behind stay cut

put_nothing : (m : Setting) (bs : List Block) (es : List Sent) → put_each m.site bs [] es ≡ es
put_nothing m [] es = refl
put_nothing m (b ∷ bs) es = refl

module _ (m : Setting) (n : ℕ) (ops : List Op) (a : Adapter) (ios : List Io) (opening : State) where
  pub out_all : (bs : List Block) (spots : List BlockSpot) (cames : List (Result (List ℕ) Why)) (now : State) (status : ℕ → ℕ → Status) (es : List Sent) → AllGoing m n ops a ios (length opening.logs) status bs spots →
      AllGoOut m a ios now.bytes bs cames → Follows m n ops opening status now es → SentOut m n ops a ios opening now bs cames status es
  out_all [] spots cames now status es g w h = record { after = now; follows = h; bytes = refl; blocks = refl }
  out_all (b ∷ bs) spots [] now status es g w h = record {
    after = now;
    follows = subst (λ s. Follows m n ops opening s now es) (sym (still_out bs status)) h;
    bytes = refl;
    blocks = refl;
  }
  out_all (b ∷ bs) [] (came ∷ cames) now status es g w h = absurd g
  out_all (b ∷ bs) (s ∷ spots) (Ok frame ∷ cames) now status es g w h =
      let r = route_of a ios b in
      let c = carry_out m.site r (frame_cells ios b) in
      let t = out_tells m r now es h.logs (frame_cells ios b) frame w.1.0.0 w.1.0.1 in
      let stamp : Dir → Sent = λ d. stamped m.site es (label_of b) d b.dev b.lba (Ok frame) in
      let q = carries_out m (own_at (n + rooms m s.front) (place s)) (fates s.front + place s) s.step r (frame_cells ios b) (g.0.carriage ∙ ap (λ d. Some (carriage r d (frame_cells ios b))) w.0) in
      let one = one_block m n ops a ios opening now status es b s c (stamp Write) None g.0 q t h in
      let there = subst (λ d. Follows m n ops opening (with_status b.op b.k (Carried None) status) (act c now) (es ++ (stamp d ∷ []))) (sym w.0) one in
      let rest = out_all bs spots cames (act c now) (with_status b.op b.k (Carried None) status) (es ++ (stamp b.dir ∷ []))
      (going_rest m n ops a ios (length opening.logs) status b (Carried None) bs spots g.0.is_cut g.1.0 g.1.1) w.1.1 there in
      record { after = rest.after; follows = rest.follows; bytes = rest.bytes; blocks = rest.blocks }
  out_all (b ∷ bs) (s ∷ spots) (Err why ∷ cames) now status es g w h =
      let r = route_of a ios b in
      let c = carry_out m.site r (frame_cells ios b) in
      let t = out_ends m r now es h.logs (frame_cells ios b) why w.1.0 in
      let stamp : Dir → Sent = λ d. stamped m.site es (label_of b) d b.dev b.lba (Err why) in
      let q = carries_out m (own_at (n + rooms m s.front) (place s)) (fates s.front + place s) s.step r (frame_cells ios b) (g.0.carriage ∙ ap (λ d. Some (carriage r d (frame_cells ios b))) w.0) in
      let one = one_block m n ops a ios opening now status es b s c (stamp Write) (Some why) g.0 q t h in
      let there = subst (λ d. Follows m n ops opening (with_status b.op b.k (Carried (Some why)) status) (act c now) (es ++ (stamp d ∷ []))) (sym w.0) one in
      let new = with_status b.op b.k (Carried (Some why)) status in
      let es' = es ++ (stamp b.dir ∷ []) in
      record {
        after = act c now;
        follows = subst (λ cs. Follows m n ops opening (with_fates bs (out_fates bs cs) new) (act c now) (put_each m.site bs cs es')) (sym w.1.1)
            (subst (λ st. Follows m n ops opening st (act c now) (put_each m.site bs [] es')) (sym (still_out bs new)) (subst (λ x. Follows m n ops opening new (act c now) x) (sym (put_nothing m bs es')) there));
        bytes = refl;
        blocks = ap (λ x. scatter (stored_cell m.site r ∷ []) (stored_over m.site r (get_or now.blocks (stored_cell m.site r) []) (written_by r x [] (get_or now.logs (own_cell m.site r) []))).written.blocks now.blocks) w.1.0;
      }

-- what a block of a read leaves and tells
record Comes (m : Setting) (a : Adapter) (ios : List Io) (b : Block) (now : State) (es : List Sent) (came : Result (List ℕ) Why) (e : Effect ActAnswer) : Type 0 where
  why : Option Why
  sent : e.answer.sent ≡ Some (stamped m.site es (label_of b) Read b.dev b.lba came)
  why_is : e.answer.why ≡ why
  bytes : scatter (frame_cells ios b) e.written.bytes now.bytes ≡ land_one a ios b came now.bytes
  fate : (status : ℕ → ℕ → Status) → with_fate b (fate_in a ios b came) status ≡ with_status b.op b.k (Carried why) status

module _ (m : Setting) (n : ℕ) (ops : List Op) (a : Adapter) (ios : List Io) (opening : State) (faults : m.site.faults ≡ a.tamper) where
  comes : (b : Block) (now : State) (es : List Sent) (came : Result (List ℕ) Why) → ((c : ℕ) → get_or now.logs c [] ≡ writes_at m.site c es) → let r = route_of a ios b in
      Comes m a ios b now es came (carried_in r (from_device m.site.faults r came) (length (get_or now.logs (own_cell m.site r) [])))
  comes b now es (Err why) logs = record {
    why = Some why;
    sent = ap (λ (log : List (List ℕ)). Some (record { label = label_of b; dir = Read; dev = b.dev; lba = b.lba; came = Err why; after = length log })) (logs (own_cell m.site (route_of a ios b)));
    why_is = refl;
    bytes = scatter-none (frame_cells ios b) now.bytes;
    fate = λ status. refl;
  }
  comes b now es (Ok frame) logs =
      subst (λ x. Comes m a ios b now es (Ok frame) (carried_in (route_of a ios b) (at_host frame (from_wire x (route_of a ios b) frame)) (length (get_or now.logs (own_cell m.site (route_of a ios b)) [])))) (sym faults)
      (by (arrives a ios b frame) refl)
    where
      by : (w : Result (List ℕ) Check) → arrives a ios b frame ≡ w → Comes m a ios b now es (Ok frame) (carried_in (route_of a ios b) (at_host frame w) (length (get_or now.logs (own_cell m.site (route_of a ios b)) [])))
      by (Ok got) e = record {
        why = None;
        sent = ap (λ (log : List (List ℕ)). Some (record { label = label_of b; dir = Read; dev = b.dev; lba = b.lba; came = Ok frame; after = length log })) (logs (own_cell m.site (route_of a ios b)));
        why_is = refl;
        bytes = ap (λ x. land (frame_cells ios b) x now.bytes) (sym e);
        fate = λ status. ap (λ x. with_fate b (fate_of x) status) e;
      }
      by (Err check) e = record {
        why = Some (ByAdapter check);
        sent = ap (λ (log : List (List ℕ)). Some (record { label = label_of b; dir = Read; dev = b.dev; lba = b.lba; came = Ok frame; after = length log })) (logs (own_cell m.site (route_of a ios b)));
        why_is = refl;
        bytes = scatter-none (frame_cells ios b) now.bytes ∙ ap (λ x. land (frame_cells ios b) x now.bytes) (sym e);
        fate = λ status. ap (λ x. with_fate b (fate_of x) status) e;
      }

  pub in_all : (bs : List Block) (spots : List BlockSpot) (cames : List (Result (List ℕ) Why)) (now : State) (status : ℕ → ℕ → Status) (es : List Sent) → AllGoing m n ops a ios (length opening.logs) status bs spots →
      AllComeIn m a ios now.blocks bs cames → Follows m n ops opening status now es → SentIn m n ops a ios opening now bs cames status es
  in_all [] spots cames now status es g w h = record { after = now; follows = h; bytes = refl; blocks = refl }
  in_all (b ∷ bs) spots [] now status es g w h = record {
    after = now;
    follows = subst (λ s. Follows m n ops opening s now es) (sym (still_in a ios bs status)) h;
    bytes = refl;
    blocks = refl;
  }
  in_all (b ∷ bs) [] (came ∷ cames) now status es g w h = absurd g
  in_all (b ∷ bs) (s ∷ spots) (came ∷ cames) now status es g w h =
      let r = route_of a ios b in
      let fate = fates s.front + place s in
      let c = carry_in m.site r (frame_cells ios b) fate in
      let stamp : Dir → Sent = λ d. stamped m.site es (label_of b) d b.dev b.lba came in
      let eff : effect c now ≡ carried_in r (from_device m.site.faults r came) (length (get_or now.logs (own_cell m.site r) [])) = ap (λ x. carried_in r (from_device m.site.faults r x) (length (get_or now.logs (own_cell m.site r) []))) w.1.0 in
      let k = subst (Comes m a ios b now es came) (sym eff) (comes b now es came h.logs) in
      let q = carries_in m (own_at (n + rooms m s.front) (place s)) fate s.step r (frame_cells ios b) (g.0.carriage ∙ ap (λ d. Some (carriage r d (frame_cells ios b))) w.0) in
      let t : Tells m c now (stamp Read) k.why = record { sent = k.sent; why_is = k.why_is } in
      let new = with_status b.op b.k (Carried k.why) status in
      let one = one_block m n ops a ios opening now status es b s c (stamp Read) k.why g.0 q t h in
      let there = subst (λ d. Follows m n ops opening new (act c now) (es ++ (stamp d ∷ []))) (sym w.0) one in
      let rest = in_all bs spots cames (act c now) new (es ++ (stamp b.dir ∷ [])) (going_rest m n ops a ios (length opening.logs) status b (Carried k.why) bs spots g.0.is_cut g.1.0 g.1.1) w.1.1 there in
      record {
        after = rest.after;
        follows = subst (λ st. Follows m n ops opening (with_fates bs (in_fates a ios bs cames) st) rest.after (put_each m.site bs cames (es ++ (stamp b.dir ∷ [])))) (sym (k.fate status)) rest.follows;
        bytes = rest.bytes ∙ ap (λ x. land_all a ios bs cames x) k.bytes;
        blocks = rest.blocks;
      }

-- a write that the adapter holds back

module _ (m : Setting) (n : ℕ) (ops : List Op) (a : Adapter) (ios : List Io) (opening : State) (faults : m.site.faults ≡ a.tamper) where
  fails_at : (b : Block) (cells : List ℕ) (check : Check) → sends a ios cells b ≡ Err check → goes_out m.site.faults m.site.device (route_of a ios b) (frame_in ios cells b) ≡ Fails (ByAdapter check)
  fails_at b cells check e = ap (λ x. from_adapter m.site.device (route_of a ios b) (to_wire x (route_of a ios b) (frame_in ios cells b))) faults ∙ ap (from_adapter m.site.device (route_of a ios b)) e

  none_held : (b : Block) (why : Option Why) (status : ℕ → ℕ → Status) (es : List Sent) → status b.op b.k ≡ Cut → NoneBefore status es → NoneBefore (with_status b.op b.k (Carried why) status) es
  none_held b why status es c h i k e = by (eqb i b.op) (eqb k b.k) refl refl e where
    by : (x y : Bool) → eqb i b.op ≡ x → eqb k b.k ≡ y → is_carried (if x && y then Carried why else status i k) ≡ false → find (record { op = i; k = k }) es ≡ None
    by true true p q e = absurd (false≢true (sym e))
    by true false p q e = h i k e
    by false y p q e = h i k e

  abbrev pub AllWrites : List Block → Type 0
  AllWrites [] = Unit {0}
  AllWrites (b ∷ bs) = (b.dir ≡ Write) × AllWrites bs

  pub held_all : (bs : List Block) (spots : List BlockSpot) (now : State) (status : ℕ → ℕ → Status) (es : List Sent) → AllGoing m n ops a ios (length opening.logs) status bs spots → AllWrites bs →
      Follows m n ops opening status now es → HeldBack m n ops opening now status (with_fates bs (map unsent (map (sends a ios now.bytes) bs)) status) es
  held_all [] spots now status es g w h = record { after = now; follows = h; bytes = refl; blocks = refl; none_before = λ k. k }
  held_all (b ∷ bs) [] now status es g w h = absurd g
  held_all (b ∷ bs) (s ∷ spots) now status es g w h =
      by (sends a ios now.bytes b) refl (λ now' status' k f. held_all bs spots now' status' es k w.1 f)
    where
      by : (x : Result (List ℕ) Check) → sends a ios now.bytes b ≡ x →
          ((now' : State) (status' : ℕ → ℕ → Status) → AllGoing m n ops a ios (length opening.logs) status' bs spots → Follows m n ops opening status' now' es → HeldBack m n ops opening now' status' (with_fates bs (map unsent (map (sends a ios now'.bytes) bs)) status') es) →
          HeldBack m n ops opening now status (with_fates bs (map unsent (map (sends a ios now.bytes) bs)) (with_fate b (unsent x) status)) es
      by (Ok frame) e f = f now status g.1.1 h
      by (Err check) e f =
          let r = route_of a ios b in
          let c = carry_out m.site r (frame_cells ios b) in
          let way = fails_at b now.bytes check e in
          let log = get_or now.logs (own_cell m.site r) [] in
          let why = Some (ByAdapter check) in
          let q = carries_out m (own_at (n + rooms m s.front) (place s)) (fates s.front + place s) s.step r (frame_cells ios b) (g.0.carriage ∙ ap (λ d. Some (carriage r d (frame_cells ios b))) w.0) in
          let one = put_block m n ops a ios opening now status es b s c None why g.0 q (ap (λ x. (written_by r x [] log).answer.sent) way) (ap (λ x. (written_by r x [] log).answer.why) way) h in
          let there = subst (λ x. Follows m n ops opening (with_status b.op b.k (Carried why) status) (act c now) x) (append-nil es) one in
          let more = f (act c now) (with_status b.op b.k (Carried why) status) (going_rest m n ops a ios (length opening.logs) status b (Carried why) bs spots g.0.is_cut g.1.0 g.1.1) there in
          record {
            after = more.after;
            follows = more.follows;
            bytes = more.bytes;
            blocks = more.blocks ∙ ap (λ x. scatter (stored_cell m.site r ∷ []) (stored_over m.site r (get_or now.blocks (stored_cell m.site r) []) (written_by r x [] log)).written.blocks now.blocks) way;
            none_before = λ k. more.none_before (none_held b why status es g.0.is_cut k);
          }
