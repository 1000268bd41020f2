-- So a script without faults gets on on a mirror under any protect field as it does under 001b, and so does its repair.
use Rattle.std.proofs.Common.{◌≡◌, ◌<◌, ◌≤◌, ℕ, zero, suc, ◌+◌, Bool, true, false, eqb, List, [], ◌∷◌, ◌++◌, length, map, get_or, set, Option, Some, None, refl, sym, ap, subst, ◌∙◌, arith, length-append}
use Rattle.std.specs.Prelude.{pos, Result, Ok, Err}
use Rattle.std.specs.List.{list_any}
use Rattle.std.proofs.lemmas.Bool.{eqb-false, eqb-true, false≢true, or_parts}
use Rattle.std.proofs.lemmas.List.{get_or-set_other, length-take-le}
use Rattle.page_pool.specs.Cells.{gather, scatter}
use Rattle.pi_tuple.specs.Tuples.{tuple_bytes}
use Rattle.integrity_payload.specs.declared.payload.Owner.{Owner}
use Rattle.integrity_payload.specs.declared.payload.Owner.TheVariants.{Block as OfBlock}
use Rattle.bio_core.specs.declared.fate.Why.{Why}
use Rattle.stack_ops.specs.declared.op.Op.{Op}
use Rattle.stack_ops.specs.declared.op.Op.TheVariants.{Fetch, FetchPi, Fill, Overwrite, Put, Seal, Show, Wait, Write, WritePi}
use Rattle.volume_table.specs.Places.{volume_len}
use Rattle.volume_table.specs.declared.device.DeviceInfo.{DeviceInfo}
use Rattle.block_path.specs.Acts.{State, act, tell}
use Rattle.block_path.specs.Blocks.{ActAnswer, fetched_cell, own_cell, own_frame, own_tuple, read_by, stored_cell, written_by}
use Rattle.block_path.specs.Routes.{moved, target}
use Rattle.block_path.specs.Serial.{plain, plain_tells}
use Rattle.block_path.specs.WayIn.{Delivers, Spoils, Stops, WayIn, delivered_of, way_in}
use Rattle.block_path.specs.WayOut.{Fails, Refuses, Stores, WayOut, stored_of}
use Rattle.block_path.proofs.Cells.{gather_length}
use Rattle.walk_laws.specs.Past.{Brought, Event, brought_by, event_of, steps_from}
use Rattle.walk_laws.specs.ScriptWalk.{act_of, bad_from, reply_of, whole_or_bad}
use Rattle.walk_laws.specs.Settings.{Block, Setting, block_of, route}
use Rattle.walk_laws.specs.Steps.{Alters, Reads, Seals, Sets, Shows, Step, Writes, WritesPi, body_of, each_from, steps_of}
use Rattle.walk_laws.specs.UnderMap.{address_of, home}
use Rattle.walk_laws.proofs.CalmRuns.{part_length}
use Rattle.run_laws.proofs.Layers.{unmoved}
use Rattle.stack_ops.specs.Ops.{is_overwrite}
use Rattle.mirror_laws.specs.Mirror.{Mirror, accepted, answer, asked, asks, done, findings, is_none, listed, marked_by, marks_of, mirror_past, replies_from, twin}
use Rattle.mirror_laws.specs.LegByLeg.{DeliversWhole, HasLegs}
use Rattle.mirror_laws.specs.OneGood.{AllBind, Binds}
use Rattle.mirror_laws.proofs.Sizes.{delivers_whole}
use Rattle.mirror_laws.specs.Repair.{WalkedRepair, good, mended, on_leg0, on_leg1, reading, repair_block, repair_from, repaired_by, writing}
use Rattle.mirror_laws.specs.declared.marks.Marks.{Marks}
use Rattle.mirror_form_laws.proofs.Protects.{Kept, Passes, calm_out, comes-in, goes-out, kept-out, still}

-- ---- a cell that is set

set-here : {X : Type 0} (P : X → Type 0) (cells : List X) (c : ℕ) (x none : X) → P x → P (get_or cells c none) → P (get_or (set cells c x) c none)
set-here P [] c x none h k = k
set-here P (y ∷ cells) zero x none h k = h
set-here P (y ∷ cells) (suc c) x none h k = set-here P cells c x none h k

module _ (m' : Setting) (p : ℕ) (some : eqb p 0 ≡ false) (half : ℕ) (count : ℕ → ℕ) (long : volume_len m'.entries ≡ half + half)
    (apart : (u v : ℕ) → u < volume_len m'.entries → v < volume_len m'.entries → home m' u ≡ home m' v → u ≡ v) where
  abbrev n : ℕ
  n = m'.size

  abbrev len : ℕ
  len = volume_len m'.entries

  -- under this protect field, and under 001b
  abbrev mp : Setting
  mp = still m' p

  abbrev m1 : Setting
  m1 = still m' 1

  -- each stored block of the volume passes at its address
  abbrev AllPass : List (List ℕ) → Type 0
  AllPass blocks = (v : ℕ) → v < len → Passes m' (address_of m' v) (get_or blocks (home m' v) [])

  -- ---- a step on a leg

  abbrev Fits : Step → Type 0
  Fits (Sets at values) = Unit {0}
  Fits (Shows at) = Unit {0}
  Fits (Seals body tuple app rtag) = ⊥
  Fits (Writes b app body) = (b.virt < len) × (length body ≡ n)
  Fits (WritesPi b frame) = ⊥
  Fits (Reads b owner to) = b.virt < len
  Fits (Alters dev lba change) = ⊥

  abbrev AllFit : List Step → Type 0
  AllFit [] = Unit {0}
  AllFit (step ∷ steps) = Fits step × AllFit steps

  home-cell : (b : Block) → stored_cell m1.site (route m1 b) ≡ home m' b.virt
  home-cell b = ap (m'.site.cell (route m' b).dev) (unmoved m' (moved (route m' b).lba (pos 0)) (pos 0) refl ∙ unmoved m' (route m' b).lba (pos 0) refl)

  record Same (step : Step) (s : State) : Type 0 where
    state : act (act_of mp step) s ≡ act (act_of m1 step) s
    why : (tell (act_of mp step) s).why ≡ (tell (act_of m1 step) s).why
    pass : AllPass (act (act_of m1 step) s).blocks

  own-long : (b : Block) (app : ℕ) (x : List ℕ) → length x ≡ n → length (own_frame (route m1 b) app x) ≡ n + 8
  own-long b app x l = length-append x (tuple_bytes (own_tuple (route m1 b) app x)) ∙ ap (λ k. k + 8) l

  written-state : (b : Block) (w : WayOut) (log : List (List ℕ)) → (written_by (route mp b) w [] log).written ≡ (written_by (route m1 b) w [] log).written
  written-state b (Fails why) log = refl
  written-state b (Refuses why) log = refl
  written-state b (Stores carried stored) log = refl

  written-why : (b : Block) (w : WayOut) (log : List (List ℕ)) → (written_by (route mp b) w [] log).answer.why ≡ (written_by (route m1 b) w [] log).answer.why
  written-why b (Fails why) log = refl
  written-why b (Refuses why) log = refl
  written-why b (Stores carried stored) log = refl

  stored-pass : (b : Block) (stored : List ℕ) (blocks : List (List ℕ)) → b.virt < len → Passes m' (address_of m' b.virt) stored → AllPass blocks → AllPass (set blocks (stored_cell m1.site (route m1 b)) stored)
  stored-pass b stored blocks w h all v l = by (eqb (home m' v) c) refl where
    c : ℕ
    c = stored_cell m1.site (route m1 b)

    by : (t : Bool) → eqb (home m' v) (stored_cell m1.site (route m1 b)) ≡ t → Passes m' (address_of m' v) (get_or (set blocks (stored_cell m1.site (route m1 b)) stored) (home m' v) [])
    by true q =
        let e = eqb-true (home m' v) (stored_cell m1.site (route m1 b)) q in
        let same : v ≡ b.virt = apart v b.virt l w (e ∙ home-cell b) in
        subst (λ i. Passes m' (address_of m' v) (get_or (set blocks (stored_cell m1.site (route m1 b)) stored) i [])) (sym e)
        (set-here (Passes m' (address_of m' v)) blocks (stored_cell m1.site (route m1 b)) stored [] (subst (λ u. Passes m' (address_of m' u) stored) (sym same) h)
        (subst (λ i. Passes m' (address_of m' v) (get_or blocks i [])) e (all v l)))
    by false q = subst (Passes m' (address_of m' v)) (sym (get_or-set_other blocks (stored_cell m1.site (route m1 b)) (home m' v) stored [] (eqb-false (home m' v) (stored_cell m1.site (route m1 b)) q))) (all v l)

  written-pass : (b : Block) (w : WayOut) (log : List (List ℕ)) (blocks : List (List ℕ)) → b.virt < len → Kept m' b w → AllPass blocks
      → AllPass (scatter (stored_cell m1.site (route m1 b) ∷ []) (map (λ frame. frame) (written_by (route m1 b) w [] log).written.blocks) blocks)
  written-pass b (Fails why) log blocks l k all = all
  written-pass b (Refuses why) log blocks l k all = all
  written-pass b (Stores carried stored) log blocks l k all = stored-pass b stored blocks l k all

  read-state : (b : Block) (owner : Owner) (w : WayIn) (size after : ℕ) → (read_by (route mp b) owner w size after).written ≡ (read_by (route m1 b) owner w size after).written
  read-state b owner (Stops why) size after = refl
  read-state b owner (Spoils why carried) size after = refl
  read-state b owner (Delivers carried frame) size after = refl

  read-why : (b : Block) (owner : Owner) (w : WayIn) (size after : ℕ) → (read_by (route mp b) owner w size after).answer.why ≡ (read_by (route m1 b) owner w size after).answer.why
  read-why b owner (Stops why) size after = refl
  read-why b owner (Spoils why carried) size after = refl
  read-why b owner (Delivers carried frame) size after = refl

  -- where a read finds its block
  fetched : (b : Block) → fetched_cell m1.site (route m1 b) ≡ home m' b.virt
  fetched b =
      let a : moved (route m' b).lba (pos 0) ≡ (route m' b).lba = unmoved m' (route m' b).lba (pos 0) refl in
      ap (m'.site.cell (route m' b).dev) (unmoved m' (moved (route m' b).lba (pos 0)) (pos 0) refl ∙ a)

  fetched-pass : (b : Block) (blocks : List (List ℕ)) → b.virt < len → AllPass blocks → Passes m' (address_of m' b.virt) (get_or blocks (fetched_cell m1.site (route m1 b)) [])
  fetched-pass b blocks l all = subst (λ i. Passes m' (address_of m' b.virt) (get_or blocks i [])) (sym (fetched b)) (all b.virt l)

  one-step : (step : Step) (s : State) → Fits step → AllPass s.blocks → Same step s
  one-step (Sets at values) s fit all = record { state = refl; why = refl; pass = all }
  one-step (Shows at) s fit all = record { state = refl; why = refl; pass = all }
  one-step (Seals body tuple app rtag) s fit all = absurd fit
  one-step (Writes b app body) s fit all =
      let x = gather 0 body s.bytes in
      let f = own_frame (route m1 b) app x in
      let l = own-long b app x (gather_length 0 body s.bytes ∙ fit.1) in
      let log = get_or s.logs (own_cell m1.site (route m1 b)) [] in
      let ep = goes-out m' p some b f l in
      let e1 = goes-out m' 1 refl b f l in
      record {
        state = ap (λ (w : State). record {
          bytes = scatter [] w.bytes s.bytes;
          blocks = scatter (stored_cell m1.site (route m1 b) ∷ []) (map (λ frame. frame) w.blocks) s.blocks;
          logs = scatter (own_cell m1.site (route m1 b) ∷ []) w.logs s.logs;
          fates = scatter [] w.fates s.fates;
        })
            (ap (λ (w : WayOut). (written_by (route mp b) w [] log).written) ep ∙ written-state b (calm_out m' b f) log ∙ sym (ap (λ (w : WayOut). (written_by (route m1 b) w [] log).written) e1));
        why = ap (λ (w : WayOut). (written_by (route mp b) w [] log).answer.why) ep ∙ written-why b (calm_out m' b f) log ∙ sym (ap (λ (w : WayOut). (written_by (route m1 b) w [] log).answer.why) e1);
        pass = subst (λ (w : WayOut). AllPass (scatter (stored_cell m1.site (route m1 b) ∷ []) (map (λ frame. frame) (written_by (route m1 b) w [] log).written.blocks) s.blocks)) (sym e1)
            (written-pass b (calm_out m' b f) log s.blocks fit.0 (kept-out m' b f l) all);
      }
  one-step (WritesPi b frame) s fit all = absurd fit
  one-step (Reads b owner to) s fit all =
      let stored = get_or s.blocks (fetched_cell m1.site (route m1 b)) [] in
      let after = length (get_or s.logs (own_cell m1.site (route m1 b)) []) in
      let e = comes-in m' p some b owner stored (fetched-pass b s.blocks fit all) in
      let w1 = way_in [] (target []) (route m1 b) owner stored in
      record {
        state = ap (λ (w : State). record {
          bytes = scatter to w.bytes s.bytes;
          blocks = s.blocks;
          logs = s.logs;
          fates = s.fates;
        })
            (ap (λ (w : WayIn). (read_by (route mp b) owner w (length to) after).written) e ∙ read-state b owner w1 (length to) after);
        why = ap (λ (w : WayIn). (read_by (route mp b) owner w (length to) after).answer.why) e ∙ read-why b owner w1 (length to) after;
        pass = all;
      }
  one-step (Alters dev lba change) s fit all = absurd fit

  -- ---- steps on the legs, one after another

  abbrev whys : List ActAnswer → List (Option Why)
  whys list = map (λ (a : ActAnswer). a.why) list

  record AllSame (xs : List Step) (s : State) : Type 0 where
    state : plain act (map (act_of mp) xs) s ≡ plain act (map (act_of m1) xs) s
    found : whys (plain_tells act tell (map (act_of mp) xs) s) ≡ whys (plain_tells act tell (map (act_of m1) xs) s)
    pass : AllPass (plain act (map (act_of m1) xs) s).blocks

  acts-same : (xs : List Step) (s : State) → AllFit xs → AllPass s.blocks → AllSame xs s
  acts-same [] s fit all = record { state = refl; found = refl; pass = all }
  acts-same (x ∷ xs) s fit all =
      let one = one-step x s fit.0 all in
      let rest = acts-same xs (act (act_of m1 x) s) fit.1 one.pass in
      record {
        state = ap (plain act (map (act_of mp) xs)) one.state ∙ rest.state;
        found = (λ j. one.why j ∷ whys (plain_tells act tell (map (act_of mp) xs) (one.state j))) ∙ ap (λ ws. (tell (act_of m1 x) s).why ∷ ws) rest.found;
        pass = rest.pass;
      }

  -- ---- a step of the mirror

  abbrev OnMirror : Step → Type 0
  OnMirror (Sets at values) = Unit {0}
  OnMirror (Shows at) = Unit {0}
  OnMirror (Seals body tuple app rtag) = ⊥
  OnMirror (Writes b app body) = (b.virt < half) × (length body ≡ n)
  OnMirror (WritesPi b frame) = ⊥
  OnMirror (Reads b owner to) = b.virt < half
  OnMirror (Alters dev lba change) = ⊥

  abbrev AllOnMirror : List Step → Type 0
  AllOnMirror [] = Unit {0}
  AllOnMirror (step ∷ steps) = OnMirror step × AllOnMirror steps

  reads-fit : (f0 f1 d : Bool) (b c : Block) (owner : Owner) (to : List ℕ) → b.virt < len → c.virt < len → AllFit (asked f0 f1 d (Reads b owner to) (Reads c owner to))
  reads-fit true true true b c owner to h k = (h, tt)
  reads-fit true true false b c owner to h k = (h, (k, tt))
  reads-fit true false d b c owner to h k = (h, tt)
  reads-fit false f1 d b c owner to h k = (k, tt)

  asks-fit : (step : Step) (s : Mirror) → OnMirror step → AllFit (asks m1 half count step s)
  asks-fit (Sets at values) s h = (tt, tt)
  asks-fit (Shows at) s h = (tt, tt)
  asks-fit (Seals body tuple app rtag) s h = absurd h
  asks-fit (Writes b app body) s h = let l = h.0 in ((omega (arith, long, l), h.1), ((omega (arith, long, l), h.1), tt))
  asks-fit (WritesPi b frame) s h = absurd h
  asks-fit (Reads b owner to) s h = reads-fit _ _ _ b (twin m1 half count b) owner to (omega (arith, long, h)) (omega (arith, long, h))
  asks-fit (Alters dev lba change) s h = absurd h

  asks-same : (step : Step) (s : Mirror) → OnMirror step → AllPass s.state.blocks → asks mp half count step s ≡ asks m1 half count step s
  asks-same (Sets at values) s h all = refl
  asks-same (Shows at) s h all = refl
  asks-same (Seals body tuple app rtag) s h all = absurd h
  asks-same (Writes b app body) s h all = refl
  asks-same (WritesPi b frame) s h all = absurd h
  asks-same (Reads b owner to) s h all =
      ap (λ (why : Option Why). asked (marks_of s.marks b.virt).leg0 (marks_of s.marks b.virt).leg1 (is_none why) (Reads b owner to) (Reads (twin m1 half count b) owner to))
      (one-step (Reads b owner to) s.state (omega (arith, long, h)) all).why
  asks-same (Alters dev lba change) s h all = absurd h

  module _ (step : Step) (s : Mirror) (h : OnMirror step) (all : AllPass s.state.blocks) where
    legs : AllSame (asks m1 half count step s) s.state
    legs = acts-same (asks m1 half count step s) s.state (asks-fit step s h) all

    state-same : (done mp half count step s).state ≡ (done m1 half count step s).state
    state-same = ap (λ xs. plain act (map (act_of mp) xs) s.state) (asks-same step s h all) ∙ legs.state

    found-same : findings mp half count step s ≡ findings m1 half count step s
    found-same = ap (λ xs. whys (plain_tells act tell (map (act_of mp) xs) s.state)) (asks-same step s h all) ∙ legs.found

    after-pass : AllPass (done m1 half count step s).state.blocks
    after-pass = legs.pass

  marks-same : (step : Step) (s : Mirror) (h : OnMirror step) (all : AllPass s.state.blocks) → (done mp half count step s).marks ≡ (done m1 half count step s).marks
  marks-same (Sets at values) s h all = refl
  marks-same (Shows at) s h all = refl
  marks-same (Seals body tuple app rtag) s h all = absurd h
  marks-same (Writes b app body) s h all = ap (λ ws. set s.marks b.virt (marked_by ws (marks_of s.marks b.virt))) (found-same (Writes b app body) s h all)
  marks-same (WritesPi b frame) s h all = absurd h
  marks-same (Reads b owner to) s h all = refl
  marks-same (Alters dev lba change) s h all = absurd h

  done-same : (step : Step) (s : Mirror) (h : OnMirror step) (all : AllPass s.state.blocks) → done mp half count step s ≡ done m1 half count step s
  done-same step s h all = λ j. record { state = state-same step s h all j; marks = marks-same step s h all j }

  why-same : (step : Step) (s : Mirror) (h : OnMirror step) (all : AllPass s.state.blocks) → (answer mp half count step s).why ≡ (answer m1 half count step s).why
  why-same step s h all = ap listed (found-same step s h all)

  accepted-same : (step : Step) (s : Mirror) (h : OnMirror step) (all : AllPass s.state.blocks) → accepted mp half count step s ≡ accepted m1 half count step s
  accepted-same (Sets at values) s h all = refl
  accepted-same (Shows at) s h all = refl
  accepted-same (Seals body tuple app rtag) s h all = absurd h
  accepted-same (Writes b app body) s h all = ap (λ why. event_of why b (record { body = gather 0 body s.state.bytes; app = app })) (why-same (Writes b app body) s h all)
  accepted-same (WritesPi b frame) s h all = absurd h
  accepted-same (Reads b owner to) s h all = refl
  accepted-same (Alters dev lba change) s h all = absurd h

  -- ---- steps of the mirror

  pub record Along (steps : List Step) (s : Mirror) : Type 0 where
    pub walked : plain (done mp half count) steps s ≡ plain (done m1 half count) steps s
    pub found : whys (plain_tells (done mp half count) (answer mp half count) steps s) ≡ whys (plain_tells (done m1 half count) (answer m1 half count) steps s)
    pub past : (old : List Event) → mirror_past mp half count steps s old ≡ mirror_past m1 half count steps s old
    pub pass : AllPass (plain (done m1 half count) steps s).state.blocks

  pub along : (steps : List Step) (s : Mirror) → AllOnMirror steps → AllPass s.state.blocks → Along steps s
  along [] s h all = record { walked = refl; found = refl; past = λ old. refl; pass = all }
  along (step ∷ steps) s h all =
      let e = done-same step s h.0 all in
      let rest = along steps (done m1 half count step s) h.1 (after-pass step s h.0 all) in
      record {
        walked = ap (plain (done mp half count) steps) e ∙ rest.walked;
        found = (λ j. why-same step s h.0 all j ∷ whys (plain_tells (done mp half count) (answer mp half count) steps (e j))) ∙ ap (λ ws. (answer m1 half count step s).why ∷ ws) rest.found;
        past = λ old. (λ j. mirror_past mp half count steps (e j) (accepted-same step s h.0 all j ++ old)) ∙ rest.past (accepted m1 half count step s ++ old);
        pass = rest.pass;
      }

  -- ---- ops

  op-steps : (i : ℕ) (op : Op) → steps_of mp i op ≡ steps_of m1 i op
  op-steps i (Fill seg byte) = refl
  op-steps i (Put page off bytes) = refl
  op-steps i (Show seg) = refl
  op-steps i (Seal n body tuples app rtag) = refl
  op-steps i (Write v n body app) = refl
  op-steps i (Fetch v n body) = refl
  op-steps i (WritePi v n body tuples) = refl
  op-steps i (FetchPi v n body tuples) = refl
  op-steps i (Overwrite dev lba change) = refl
  op-steps i Wait = refl

  pub all-steps : (i : ℕ) (ops : List Op) → steps_from mp i ops ≡ steps_from m1 i ops
  all-steps i [] = refl
  all-steps i (op ∷ ops) = (λ j. op-steps i op j ++ all-steps (suc i) ops j)

  both-on : (xs ys : List Step) → AllOnMirror xs → AllOnMirror ys → AllOnMirror (xs ++ ys)
  both-on [] ys h k = k
  both-on (x ∷ xs) ys h k = (h.0, both-on xs ys h.1 k)

  each-on : (k c : ℕ) (f : ℕ → Step) → ((j : ℕ) → j < k + c → OnMirror (f j)) → AllOnMirror (each_from k c f)
  each-on k zero f h = tt
  each-on k (suc c) f h = (h k (omega arith), each-on (suc k) c f (λ j l. h j (omega (arith, l))))

  op-on : (devices : List DeviceInfo) (bytes i : ℕ) (op : Op) → Binds m1 devices half bytes op → is_overwrite op ≡ false → AllOnMirror (steps_of m1 i op)
  op-on devices bytes i (Fill seg byte) h o = (tt, tt)
  op-on devices bytes i (Put page off values) h o = (tt, tt)
  op-on devices bytes i (Show seg) h o = (tt, tt)
  op-on devices bytes i (Seal c body tuples app rtag) h o = absurd h
  op-on devices bytes i (Write v c body app) h o =
      each-on 0 c (λ k. Writes (block_of i v k) app (body_of n body k)) (λ j l. (let w = h.0 in omega (arith, w, l), part_length body n j c h.1.0 (omega (arith, l))))
  op-on devices bytes i (Fetch v c body) h o = each-on 0 c (λ k. Reads (block_of i v k) OfBlock (body_of n body k)) (λ j l. let w = h.0 in omega (arith, w, l))
  op-on devices bytes i (WritePi v c body tuples) h o = absurd h
  op-on devices bytes i (FetchPi v c body tuples) h o = absurd h
  op-on devices bytes i (Overwrite dev lba change) h o = absurd (false≢true (sym o))
  op-on devices bytes i Wait h o = tt

  pub ops-on : (devices : List DeviceInfo) (bytes i : ℕ) (ops : List Op) → AllBind m1 devices half bytes ops → list_any is_overwrite ops ≡ false → AllOnMirror (steps_from m1 i ops)
  ops-on devices bytes i [] h o = tt
  ops-on devices bytes i (op ∷ ops) h o =
      let none = or_parts (is_overwrite op) (list_any is_overwrite ops) o in
      both-on (steps_of m1 i op) (steps_from m1 (suc i) ops) (op-on devices bytes i op h.0 none.0) (ops-on devices bytes (suc i) ops h.1 none.1)

  reply-same : (fails : Bool) (i : ℕ) (op : Op) (s : Mirror) → AllOnMirror (steps_of m1 i op) → AllPass s.state.blocks
      → reply_of fails op (plain_tells (done mp half count) (answer mp half count) (steps_of mp i op) s) ≡ reply_of fails op (plain_tells (done m1 half count) (answer m1 half count) (steps_of m1 i op) s)
  reply-same fails i (Fill seg byte) s h all = refl
  reply-same fails i (Put page off bytes) s h all = refl
  reply-same fails i (Show seg) s h all = refl
  reply-same fails i (Seal c body tuples app rtag) s h all = refl
  reply-same fails i (Write v c body app) s h all = ap (λ ws. whole_or_bad (bad_from 0 ws)) (along (steps_of m1 i (Write v c body app)) s h all).found
  reply-same fails i (Fetch v c body) s h all = ap (λ ws. whole_or_bad (bad_from 0 ws)) (along (steps_of m1 i (Fetch v c body)) s h all).found
  reply-same fails i (WritePi v c body tuples) s h all = ap (λ ws. whole_or_bad (bad_from 0 ws)) (along (steps_of m1 i (WritePi v c body tuples)) s h all).found
  reply-same fails i (FetchPi v c body tuples) s h all = ap (λ ws. whole_or_bad (bad_from 0 ws)) (along (steps_of m1 i (FetchPi v c body tuples)) s h all).found
  reply-same fails i (Overwrite dev lba change) s h all = refl
  reply-same fails i Wait s h all = refl

  pub replies-same : (devices : List DeviceInfo) (bytes i : ℕ) (ops : List Op) (s : Mirror) → AllBind m1 devices half bytes ops → list_any is_overwrite ops ≡ false → AllPass s.state.blocks
      → replies_from mp half count i ops s ≡ replies_from m1 half count i ops s
  replies-same devices bytes i [] s h o all = refl
  replies-same devices bytes i (op ∷ ops) s h o all =
      let none = or_parts (is_overwrite op) (list_any is_overwrite ops) o in
      let on = op-on devices bytes i op h.0 none.0 in
      let a = along (steps_of m1 i op) s on all in
      let e : plain (done mp half count) (steps_of mp i op) s ≡ plain (done m1 half count) (steps_of m1 i op) s = ap (λ xs. plain (done mp half count) xs s) (op-steps i op) ∙ a.walked in
      (λ j. reply-same (m'.fails i) i op s on all j ∷ replies_from mp half count (suc i) ops (e j))
      ∙ ap (λ rs. reply_of (m'.fails i) op (plain_tells (done m1 half count) (answer m1 half count) (steps_of m1 i op) s) ∷ rs) (replies-same devices bytes (suc i) ops (plain (done m1 half count) (steps_of m1 i op) s) h.1 none.1 a.pass)

  -- ---- the repair

  reading-same : (b : Block) (blocks : List (List ℕ)) → b.virt < len → AllPass blocks → reading mp b blocks ≡ reading m1 b blocks
  reading-same b blocks l all = ap delivered_of (comes-in m' p some b OfBlock (get_or blocks (fetched_cell m1.site (route m1 b)) []) (fetched-pass b blocks l all))

  m1-legs : HasLegs m1 half
  m1-legs = record { unshifted = λ at op. refl; long = long; one_cell_each = apart }

  delivers : (blocks : List (List ℕ)) → AllPass blocks → DeliversWhole m1 blocks
  delivers blocks all = delivers_whole m1 half blocks m1-legs (record { device = refl; protect = omega arith; stored = λ v l. (all v l).size }) blocks (λ c. refl)

  abbrev IsLong : Option (List ℕ) → Type 0
  IsLong None = Unit {0}
  IsLong (Some frame) = n ≤ length frame

  good-long : (fresh : Bool) (came : Result (List ℕ) Why) → ((frame : List ℕ) → came ≡ Ok frame → n ≤ length frame) → IsLong (good fresh came)
  good-long true (Ok frame) h = h frame refl
  good-long true (Err why) h = tt
  good-long false came h = tt

  brought-long : (frame : List ℕ) → n ≤ length frame → length (brought_by n frame).body ≡ n
  brought-long frame l = length-take-le n frame l

  mended-same : (u : ℕ) (b : Block) (mark : Bool → Marks → Marks) (w : Result (List ℕ) Why) (r : WalkedRepair) → mended mp u b mark w r ≡ mended m1 u b mark w r
  mended-same u b mark (Ok stored) r = refl
  mended-same u b mark (Err why) r = refl

  writing-same : (u : ℕ) (b : Block) (mark : Bool → Marks → Marks) (e : Brought) (r : WalkedRepair) → length e.body ≡ n → mended mp u b mark (writing mp b e) r ≡ mended m1 u b mark (writing m1 b e) r
  writing-same u b mark e r l =
      let f = own_frame (route m1 b) e.app e.body in
      let k = own-long b e.app e.body l in
      ap (λ (w : WayOut). mended mp u b mark (stored_of w) r) (goes-out m' p some b f k ∙ sym (goes-out m' 1 refl b f k)) ∙ mended-same u b mark (writing m1 b e) r

  mended-pass : (u : ℕ) (b : Block) (mark : Bool → Marks → Marks) (w : WayOut) (r : WalkedRepair) → b.virt < len → Kept m' b w → AllPass r.blocks → AllPass (mended m1 u b mark (stored_of w) r).blocks
  mended-pass u b mark (Fails why) r l k all = all
  mended-pass u b mark (Refuses why) r l k all = all
  mended-pass u b mark (Stores carried stored) r l k all = stored-pass b stored r.blocks l k all

  writing-pass : (u : ℕ) (b : Block) (mark : Bool → Marks → Marks) (e : Brought) (r : WalkedRepair) → b.virt < len → length e.body ≡ n → AllPass r.blocks → AllPass (mended m1 u b mark (writing m1 b e) r).blocks
  writing-pass u b mark e r v l all =
      let f = own_frame (route m1 b) e.app e.body in
      let k = own-long b e.app e.body l in
      subst (λ (w : WayOut). AllPass (mended m1 u b mark (stored_of w) r).blocks) (sym (goes-out m' 1 refl b f k)) (mended-pass u b mark (calm_out m' b f) r v (kept-out m' b f k) all)

  by-same : (u : ℕ) (g0 g1 : Option (List ℕ)) (r : WalkedRepair) → IsLong g0 → IsLong g1 → repaired_by mp half u g0 g1 r ≡ repaired_by m1 half u g0 g1 r
  by-same u None None r h k = refl
  by-same u (Some frame) None r h k = writing-same u (on_leg1 half u) (λ bit old. record old { leg1 = bit }) (brought_by n frame) r (brought-long frame h)
  by-same u None (Some frame) r h k = writing-same u (on_leg0 u) (λ bit old. record old { leg0 = bit }) (brought_by n frame) r (brought-long frame k)
  by-same u (Some frame) (Some other) r h k = refl

  by-pass : (u : ℕ) (g0 g1 : Option (List ℕ)) (r : WalkedRepair) → u < half → IsLong g0 → IsLong g1 → AllPass r.blocks → AllPass (repaired_by m1 half u g0 g1 r).blocks
  by-pass u None None r l h k all = all
  by-pass u (Some frame) None r l h k all = writing-pass u (on_leg1 half u) (λ bit old. record old { leg1 = bit }) (brought_by n frame) r (omega (arith, l, long)) (brought-long frame h) all
  by-pass u None (Some frame) r l h k all = writing-pass u (on_leg0 u) (λ bit old. record old { leg0 = bit }) (brought_by n frame) r (omega (arith, l, long)) (brought-long frame k) all
  by-pass u (Some frame) (Some other) r l h k all = all

  record BlockSame (u : ℕ) (r : WalkedRepair) : Type 0 where
    same : repair_block mp half u r ≡ repair_block m1 half u r
    pass : AllPass (repair_block m1 half u r).blocks

  block-same : (u : ℕ) (r : WalkedRepair) → u < half → AllPass r.blocks → BlockSame u r
  block-same u r l all =
      let k0 = (marks_of r.marks u).leg0 in
      let k1 = (marks_of r.marks u).leg1 in
      let in0 : (on_leg0 u).virt < len = omega (arith, l, long) in
      let in1 : (on_leg1 half u).virt < len = omega (arith, l, long) in
      let e0 = reading-same (on_leg0 u) r.blocks in0 all in
      let e1 = reading-same (on_leg1 half u) r.blocks in1 all in
      let g0 = good k0 (reading m1 (on_leg0 u) r.blocks) in
      let g1 = good k1 (reading m1 (on_leg1 half u) r.blocks) in
      let l0 = good-long k0 (reading m1 (on_leg0 u) r.blocks) (λ frame e. delivers r.blocks all (on_leg0 u) frame in0 e) in
      let l1 = good-long k1 (reading m1 (on_leg1 half u) r.blocks) (λ frame e. delivers r.blocks all (on_leg1 half u) frame in1 e) in
      record {
        same = (λ j. repaired_by mp half u (good k0 (e0 j)) (good k1 (e1 j)) r) ∙ by-same u g0 g1 r l0 l1;
        pass = by-pass u g0 g1 r l l0 l1 all;
      }

  pub repair-same : (u k : ℕ) (r : WalkedRepair) → u + k ≤ half → AllPass r.blocks → repair_from mp half u k r ≡ repair_from m1 half u k r
  repair-same u zero r l all = refl
  repair-same u (suc k) r l all =
      let one = block-same u r (omega (arith, l)) all in
      ap (repair_from mp half (suc u) k) one.same ∙ repair-same (suc u) k (repair_block m1 half u r) (omega (arith, l)) one.pass
