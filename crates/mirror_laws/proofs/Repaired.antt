-- A repair makes the legs equal where one of them is good.
use Rattle.std.proofs.Common.{◌≡◌, ◌<◌, ◌≤◌, ◌^◌, ℕ, zero, suc, ◌+◌, Bool, true, false, eqb, if◌then◌else◌, List, [], ◌∷◌, ◌++◌, length, map, get_or, Option, Some, None, refl, sym, ap, subst, ◌∙◌, ◌⊎◌, inl, inr, arith}
use Rattle.std.specs.Prelude.{pos}
use Rattle.std.proofs.lemmas.Bool.{eqb-true, eqb-false}
use Rattle.std.proofs.lemmas.List.{length-replicate}
use Rattle.pi_guard.specs.Guards.{crc}
use Rattle.fault_schedule.specs.Altered.{shift_of}
use Rattle.fault_schedule.specs.declared.fault.Crossing.{Crossing}
use Rattle.bio_core.specs.declared.fate.Why.{Why}
use Rattle.stack_ops.specs.declared.op.Op.{Op}
use Rattle.volume_table.specs.Places.{place_in, volume_len}
use Rattle.volume_table.specs.declared.device.DeviceInfo.{DeviceInfo}
use Rattle.page_pool.specs.Cells.{gather}
use Rattle.block_path.specs.Acts.{State, act, effect}
use Rattle.block_path.specs.Serial.{plain}
use Rattle.block_path.proofs.Cells.{below}
use Rattle.walk_laws.specs.FirstLayer.{is_hit}
use Rattle.walk_laws.specs.Past.{Brought, Event, event_of, past_after, steps_from}
use Rattle.walk_laws.specs.ScriptWalk.{act_of}
use Rattle.walk_laws.specs.Settings.{Block, Setting}
use Rattle.walk_laws.specs.Steps.{Alters, Reads, Seals, Sets, Shows, Step, Writes, WritesPi}
use Rattle.walk_laws.specs.UnderMap.{home}
use Rattle.walk_laws.proofs.TupleFrames.{frame_small}
use Rattle.run_laws.specs.ShownRun.{HasCells, LiesOn}
use Rattle.walk_laws.proofs.InSteps.{scatter_length}
use Rattle.mirror_laws.specs.Mirror.{Mirror, accepted, all_asked, answer, asks, count_of, done, fresh, marks_of, mirror_opened, mirror_past, mirror_walk}
use Rattle.mirror_laws.specs.declared.marks.Marks.{Marks}
use Rattle.mirror_laws.specs.OneGood.{AllSpare, AreBytes, HoldsProper, IsMirrorRun, IsRepaired, last_of, on_leg}
use Rattle.mirror_laws.specs.Repair.{WalkedRepair, mirror_repair, repair_block, repair_from, steady}
use Rattle.run_laws.proofs.Along.{begins}
use Rattle.run_laws.proofs.CleanWhereRead.{on_clean_volume}
use Rattle.mirror_laws.proofs.Delivery.{AllFitIn, FitsIn, last_in}
use Rattle.mirror_laws.proofs.Holds.{on_medium, refused_last}
use Rattle.mirror_laws.proofs.Known.{AreKnown, first_known, then_known}
use Rattle.run_laws.proofs.Layers.{checked}
use Rattle.run_laws.proofs.Reading.{checked_form}
use Rattle.mirror_laws.proofs.Mending.{After, Before, Mended, SoundAs, SpoiltAt, at0, at1, block_mended}
use Rattle.mirror_laws.proofs.Steps.{HasIn, Held, asks_fit, held_after, marks_long, step_has}
use Rattle.mirror_laws.proofs.Whole.{known_at, script_fits, starts}
use Rattle.pi_tuple.proofs.TupleLaws.{same_fields}

smaller : (w u : ℕ) → w < suc u → (w ≡ u → ⊥) → w < u
smaller zero zero l off = absurd (off refl)
smaller zero (suc u) l off = omega arith
smaller (suc w) zero l off = absurd (omega (arith, l))
smaller (suc w) (suc u) l off = let r = smaller w u (omega (arith, l)) (λ e. off (ap suc e)) in omega (arith, r)

-- A repair after a script: both legs of each block hold what was last accepted.

module _ (m' : Setting) (opening : State) (half : ℕ) (count : ℕ → ℕ) (still : (at : Crossing) (op : ℕ) → shift_of m'.site.faults at op ≡ pos 0) (devices : List DeviceInfo)
    (lies : LiesOn (checked m') devices) (cells : HasCells (checked m') devices opening.blocks) (long : volume_len m'.entries ≡ half + half) where
  abbrev m : Setting
  m = checked m'

  abbrev HeldHere : List Event → List (List ℕ) → Type 0
  HeldHere past blocks = Held m' opening half count still devices lies cells long past blocks

  abbrev HasHere : (u : ℕ) (leg : Bool) → Marks → (past mirror : List Event) → Type 0
  HasHere u leg marks past mirror = HasIn m' opening half count still devices lies cells long u leg marks past mirror

  abbrev last : ℕ → List Event → Brought
  last u past = last_in m' opening half count still devices lies cells long u past

  -- what is last accepted has a tag of two bytes
  event_below : (u : ℕ) (w : Option Why) (b : Block) (e : Brought) (mirror : List Event) → e.app < 2 ^ 16 → (last u mirror).app < 2 ^ 16 → (last u (event_of w b e ++ mirror)).app < 2 ^ 16
  event_below u (Some why) b e mirror l h = subst (λ (x : Brought). x.app < 2 ^ 16) (sym (refused_last m' opening half count still why b e u mirror)) h
  event_below u None b e mirror l h = by (eqb b.virt u) where
    by : (t : Bool) → (if t then e else last u mirror).app < 2 ^ 16
    by true = l
    by false = h

  step_below : (u : ℕ) (step : Step) (s : Mirror) (mirror : List Event) → FitsIn m' opening half count still devices lies cells long step → (last u mirror).app < 2 ^ 16 → (last u (accepted m half count step s ++ mirror)).app < 2 ^ 16
  step_below u (Sets at values) s mirror f h = h
  step_below u (Shows at) s mirror f h = h
  step_below u (Seals body tuple app rtag) s mirror f h = h
  step_below u (Writes b app body) s mirror f h = event_below u (answer m half count (Writes b app body) s).why b (record { body = gather 0 body s.state.bytes; app = app }) mirror f.1.0 h
  step_below u (WritesPi b frame) s mirror f h = h
  step_below u (Reads b owner to) s mirror f h = h
  step_below u (Alters dev lba change) s mirror f h = h

  -- stored blocks and marks keep their number
  asked_long : (xs : List Step) (s : State) → length (plain act (map (act_of m) xs) s).blocks ≡ length s.blocks
  asked_long [] s = refl
  asked_long (x ∷ xs) s = asked_long xs (act (act_of m x) s) ∙ scatter_length (act_of m x).blocks.writes (effect (act_of m x) s).written.blocks s.blocks

  pub blocks_long : (steps : List Step) (s : Mirror) → length (plain (done m half count) steps s).state.blocks ≡ length s.state.blocks
  blocks_long [] s = refl
  blocks_long (step ∷ steps) s = blocks_long steps (done m half count step s) ∙ asked_long (asks m half count step s) s.state

  pub all_marks : (steps : List Step) (s : Mirror) → length (plain (done m half count) steps s).marks ≡ length s.marks
  all_marks [] s = refl
  all_marks (step ∷ steps) s = all_marks steps (done m half count step s) ∙ marks_long m' opening half count still devices lies cells long step s

  -- what holds of block u where the script ends
  record Ends (u : ℕ) (leg : Bool) (s : Mirror) (mirror : List Event) : Type 0 where
    past : List Event
    held : HeldHere past s.state.blocks
    has : HasHere u leg (marks_of s.marks u) past mirror
    sized : length s.marks ≡ half
    below : (last u mirror).app < 2 ^ 16

  ends : (u : ℕ) (leg : Bool) (steps : List Step) (s : Mirror) (past mirror : List Event) → u < half → AllSpare m half count leg u steps → AllFitIn m' opening half count still devices lies cells long steps →
      AreKnown m (on_leg leg u (half + u)) (all_asked m half count steps s) s.state → length s.marks ≡ half → HeldHere past s.state.blocks → HasHere u leg (marks_of s.marks u) past mirror →
      (last u mirror).app < 2 ^ 16 → Ends u leg (plain (done m half count) steps s) (mirror_past m half count steps s mirror)
  ends u leg [] s past mirror l spares f d z held has below = record { past = past; held = held; has = has; sized = z; below = below }
  ends u leg (step ∷ steps) s past mirror l spares f d z held has below =
      let v = on_leg leg u (half + u) in
      let next = done m half count step s in
      let q = first_known m v (asks m half count step s) (all_asked m half count steps next) s.state d in
      ends u leg steps next (past_after m (asks m half count step s) s.state past) (accepted m half count step s ++ mirror) l spares.1 f.1
      (then_known m v (asks m half count step s) (all_asked m half count steps next) s.state d)
      (marks_long m' opening half count still devices lies cells long step s ∙ z)
      (held_after m' opening half count still devices lies cells long v (asks m half count step s) past s.state (asks_fit m' opening half count still devices lies cells long step s f.0) q held)
      (step_has m' opening half count still devices lies cells long u leg step s past mirror l spares.0 f.0 q z has)
      (step_below u step s mirror f.0 below)

  abbrev SoundHere : (v : ℕ) → Brought → List ℕ → Type 0
  SoundHere v e x = SoundAs m' opening half v e x

  abbrev SpoiltHere : (v : ℕ) → List ℕ → Type 0
  SpoiltHere v x = SpoiltAt m' opening half v x

  -- a block of no op
  abbrev at_rest : ℕ → Block
  at_rest v = record { op = 0; k = 0; virt = v }

  not_hit : (v : ℕ) (e : Brought) (past : List Event) (blocks : List (List ℕ)) → v < half + half → HeldHere past blocks → last v past ≡ e → is_hit m (home m v) past ≡ false → SoundHere v e (get_or blocks (home m v) [])
  not_hit v e past blocks l held q h =
      let k : v < volume_len m'.entries = omega (arith, l, long) in
      let s = held.sound (place_in m'.entries v).0 (place_in m'.entries v).1 (record { b = at_rest v; within = k; here = refl; met = sym (on_medium m' opening half count still (at_rest v)); on = lies.inside v k }) h in
      record { sound = record { bare = s.bare; bears = s.bears; app = s.app }; brought = held.newest (at_rest v) k h ∙ q }

  either : (v : ℕ) (e : Brought) (past : List Event) (blocks : List (List ℕ)) → v < half + half → HeldHere past blocks → last v past ≡ e → SoundHere v e (get_or blocks (home m v) []) ⊎ SpoiltHere v (get_or blocks (home m v) [])
  either v e past blocks l held q = by (is_hit m (home m v) past) refl where
    by : (t : Bool) → is_hit m (home m v) past ≡ t → SoundHere v e (get_or blocks (home m v) []) ⊎ SpoiltHere v (get_or blocks (home m v) [])
    by false h = inl (not_hit v e past blocks l held q h)
    by true h =
        let k : v < volume_len m'.entries = omega (arith, l, long) in
        let s = held.spoilt (place_in m'.entries v).0 (place_in m'.entries v).1 (record { b = at_rest v; within = k; here = refl; met = sym (on_medium m' opening half count still (at_rest v)); on = lies.inside v k }) h in
        inr (record { escape = s.escape; foreign = s.foreign })

  before_repair : (u : ℕ) (leg : Bool) (s : Mirror) (mirror : List Event) → u < half → Ends u leg s mirror →
      Before m' opening half u (last u mirror) (marks_of s.marks u) (get_or s.state.blocks (home m u) []) (get_or s.state.blocks (home m (half + u)) [])
  before_repair u false s mirror l h = record {
    leg = false;
    is_fresh = h.has.good;
    sound = not_hit u (last u mirror) h.past s.state.blocks (omega (arith, l)) h.held (h.has.on0 h.has.good) h.has.unhit;
    other = λ c. either (half + u) (last u mirror) h.past s.state.blocks (omega (arith, l)) h.held (h.has.on1 c);
    below = h.below;
  }
  before_repair u true s mirror l h = record {
    leg = true;
    is_fresh = h.has.good;
    sound = not_hit (half + u) (last u mirror) h.past s.state.blocks (omega (arith, l)) h.held (h.has.on1 h.has.good) h.has.unhit;
    other = λ c. either u (last u mirror) h.past s.state.blocks (omega (arith, l)) h.held (h.has.on0 c);
    below = h.below;
  }

  -- block after block
  module _ (e : ℕ → Brought) where
    abbrev IsAfter : WalkedRepair → ℕ → Type 0
    IsAfter r w = After m' opening half w (e w) (marks_of r.marks w) (at0 m' opening half r w) (at1 m' opening half r w)

    abbrev IsBefore : WalkedRepair → ℕ → Type 0
    IsBefore r w = Before m' opening half w (e w) (marks_of r.marks w) (at0 m' opening half r w) (at1 m' opening half r w)

    after_moves : (w : ℕ) (x : Brought) (k j : Marks) (a b c d : List ℕ) → j ≡ k → b ≡ a → d ≡ c → After m' opening half w x k a c → After m' opening half w x j b d
    after_moves w x k j a b c d p q r h =
        subst (λ j. After m' opening half w x j b d) (sym p) (subst (λ b. After m' opening half w x k b d) (sym q) (subst (λ d. After m' opening half w x k a d) (sym r) h))

    before_moves : (w : ℕ) (x : Brought) (k j : Marks) (a b c d : List ℕ) → j ≡ k → b ≡ a → d ≡ c → Before m' opening half w x k a c → Before m' opening half w x j b d
    before_moves w x k j a b c d p q r h =
        subst (λ j. Before m' opening half w x j b d) (sym p) (subst (λ b. Before m' opening half w x k b d) (sym q) (subst (λ d. Before m' opening half w x k a d) (sym r) h))

    record AllRepaired (r now : WalkedRepair) : Type 0 where
      after : (w : ℕ) → w < half → IsAfter now w
      lost : now.lost ≡ r.lost

    all_repaired : (u c : ℕ) → u + c ≡ half → (r : WalkedRepair) → length r.blocks ≡ length opening.blocks → length r.marks ≡ half →
        ((w : ℕ) → w < half → w < u → IsAfter r w) → ((w : ℕ) → w < half → u ≤ w → IsBefore r w) → AllRepaired r (repair_from (checked (steady m')) half u c r)
    all_repaired u zero z r size sized first rest = record { after = λ w l. first w l (omega (arith, l, z)); lost = refl }
    all_repaired u (suc c) z r size sized first rest =
        let l : u < half = omega (arith, z) in
        let d = block_mended m' opening half devices lies cells long still u l (e u) r size sized (rest u l (omega arith)) in
        let now = repair_block (checked (steady m')) half u r in
        let done = all_repaired (suc u) c (omega (arith, z)) (repair_block (checked (steady m')) half u r) (d.size ∙ size) (d.long ∙ sized)
        (λ w k below. by w k below d (eqb w u) refl)
        (λ w k above.
        let o = d.others w k (λ x. omega (arith, x, above)) in
        before_moves w (e w) (marks_of r.marks w) (marks_of now.marks w) (at0 m' opening half r w) (at0 m' opening half now w) (at1 m' opening half r w) (at1 m' opening half now w) o.1.1 o.0 o.1.0 (rest w k (omega (arith, above)))) in
        record { after = done.after; lost = done.lost ∙ d.lost }
      where
        by : (w : ℕ) → w < half → w < suc u → Mended m' opening half u (e u) r (repair_block (checked (steady m')) half u r) → (t : Bool) → eqb w u ≡ t → IsAfter (repair_block (checked (steady m')) half u r) w
        by w k below d true q = subst (IsAfter (repair_block (checked (steady m')) half u r)) (sym (eqb-true w u q)) d.after
        by w k below d false q =
            let now = repair_block (checked (steady m')) half u r in
            let off = eqb-false w u q in
            let o = d.others w k off in
            after_moves w (e w) (marks_of r.marks w) (marks_of now.marks w) (at0 m' opening half r w) (at0 m' opening half now w) (at1 m' opening half r w) (at1 m' opening half now w) o.1.1 o.0 o.1.0
            (first w k (smaller w u below off))

module _ (m' : Setting) (devices : List DeviceInfo) (half : ℕ) (ops : List Op) (opening : State) (run : IsMirrorRun (checked m') devices half ops opening) (bytes : AreBytes (checked m') half opening.blocks) where
  abbrev base : Setting
  base = checked m'

  abbrev now : Mirror
  now = mirror_walk base half ops opening

  abbrev last_one : ℕ → Brought
  last_one u = last_of base half (count_of ops) (steps_from base 1 ops) opening u

  short : (u : ℕ) → u < half → (last_of base half (count_of ops) [] opening u).app < 2 ^ 16
  short u l =
      let long = run.long in
      let k : u < volume_len m'.entries = omega (arith, l, long) in
      (frame_small m'.size (get_or opening.blocks (home base u) []) (run.cells.size (place_in m'.entries u).0 (place_in m'.entries u).1 (run.lies.inside u k)) (below 256 (get_or opening.blocks (home base u) []) (bytes u l))).app

  at_end : (u : ℕ) (l : u < half) → Ends m' opening half (count_of ops) run.unshifted devices run.lies run.cells run.long u (run.one_good u l).leg now (mirror_past base half (count_of ops) (steps_from base 1 ops) (mirror_opened half opening) [])
  at_end u l =
      let good = run.one_good u l in
      ends m' opening half (count_of ops) run.unshifted devices run.lies run.cells run.long u good.leg (steps_from base 1 ops) (mirror_opened half opening) [] [] l good.spares (script_fits m' devices half ops opening run)
      (known_at m' devices half ops opening run u l) (length-replicate half fresh) (begins m' devices run.lies opening run.cells (on_clean_volume (checked m') devices opening.blocks refl run.unshifted run.clean)) (starts m' devices half ops opening run u good.leg l) (short u l)

  begun : (u : ℕ) → u < half → Before m' opening half u (last_one u) (marks_of now.marks u) (get_or now.state.blocks (home base u) []) (get_or now.state.blocks (home base (half + u)) [])
  begun u l =
      before_repair m' opening half (count_of ops) run.unshifted devices run.lies run.cells run.long u (run.one_good u l).leg now (mirror_past base half (count_of ops) (steps_from base 1 ops) (mirror_opened half opening) []) l (at_end u l)

  abbrev first : WalkedRepair
  first = record { blocks = (mirror_walk base half ops opening).state.blocks; marks = (mirror_walk base half ops opening).marks; repaired = 0; lost = 0 }

  whole : AllRepaired m' opening half (count_of ops) run.unshifted devices run.lies run.cells run.long (λ u. last_of base half (count_of ops) (steps_from base 1 ops) opening u) first (repair_from (checked (steady m')) half 0 half first)
  whole =
      all_repaired m' opening half (count_of ops) run.unshifted devices run.lies run.cells run.long (λ u. last_of base half (count_of ops) (steps_from base 1 ops) opening u) 0 half (omega arith) first
      (blocks_long m' opening half (count_of ops) run.unshifted devices run.lies run.cells run.long (steps_from base 1 ops) (mirror_opened half opening))
      (all_marks m' opening half (count_of ops) run.unshifted devices run.lies run.cells run.long (steps_from base 1 ops) (mirror_opened half opening) ∙ length-replicate half fresh)
      (λ w l b. absurd (omega (arith, b))) (λ w l b. begun w l)

  proper : (v : ℕ) (e : Brought) (blocks : List (List ℕ)) → SoundAs m' opening half v e (get_or blocks (home base v) []) → HoldsProper base v e blocks
  proper v e blocks h = record {
    size = h.sound.bare.size;
    body = ap (λ (b : Brought). b.body) h.brought;
    tuple = same_fields (h.sound.bears.guard ∙ ap (λ (b : Brought). crc b.body) h.brought) (ap (λ (b : Brought). b.app) h.brought) h.sound.bears.rtag;
  }

  pub is_repaired : IsRepaired base half ops opening
  is_repaired = record {
    holds = λ u l leg. by u l leg;
    marks = λ u l. (whole.after u l).marks;
    lost = whole.lost;
  } where
    by : (u : ℕ) → u < half → (leg : Bool) → HoldsProper base (on_leg leg u (half + u)) (last_of base half (count_of ops) (steps_from base 1 ops) opening u) (mirror_repair base half (mirror_walk base half ops opening)).blocks
    by u l false = proper u (last_of base half (count_of ops) (steps_from base 1 ops) opening u) (mirror_repair base half (mirror_walk base half ops opening)).blocks (whole.after u l).on0
    by u l true = proper (half + u) (last_of base half (count_of ops) (steps_from base 1 ops) opening u) (mirror_repair base half (mirror_walk base half ops opening)).blocks (whole.after u l).on1

pub mirror_repaired : (m : Setting) (devices : List DeviceInfo) (half : ℕ) (ops : List Op) (opening : State) → IsMirrorRun m devices half ops opening → AreBytes m half opening.blocks → IsRepaired m half ops opening
mirror_repaired m devices half ops opening run bytes =
    let e = checked_form m run.checked in
    subst (λ x. IsRepaired x half ops opening) (sym e)
    (is_repaired m devices half ops opening (subst (λ x. IsMirrorRun x devices half ops opening) e run) (subst (λ x. AreBytes x half opening.blocks) e bytes))
