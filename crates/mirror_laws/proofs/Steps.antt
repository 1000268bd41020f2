-- One step of a mirror: what is stored, and what holds of one block.
use Rattle.std.proofs.Common.{◌≡◌, ◌<◌, ◌^◌, ℕ, ◌+◌, Bool, true, false, eqb, ◌&&◌, ◌||◌, not, List, [], ◌∷◌, ◌++◌, length, set, map, Option, None, refl, sym, ap, subst, ◌∙◌, arith}
use Rattle.std.specs.Prelude.{pos}
use Rattle.std.proofs.lemmas.Bool.{and_from, and_parts, eqb-false, eqb-true, false≢true, ne_eqb, not-true, not_from_false}
use Rattle.std.proofs.lemmas.List.{length-set, get_or-set_same, get_or-set_other}
use Rattle.pi_guard.specs.Guards.{guard_of}
use Rattle.pi_tuple.specs.Finds.{is_escaped}
use Rattle.pi_tuple.specs.declared.tuple.Tuple.{Tuple}
use Rattle.pi_tuple.specs.declared.checks.PiType.TheVariants.{One}
use Rattle.page_pool.specs.Cells.{gather}
use Rattle.fault_schedule.specs.Altered.{keep_of, shift_of}
use Rattle.fault_schedule.specs.declared.fault.Crossing.{Crossing}
use Rattle.fault_schedule.specs.declared.fault.Crossing.TheVariants.{TargetToMedium}
use Rattle.integrity_payload.specs.declared.payload.Owner.{Owner}
use Rattle.bio_core.specs.declared.fate.Why.{Why}
use Rattle.volume_table.specs.Places.{place_in, volume_len}
use Rattle.volume_table.specs.declared.device.DeviceInfo.{DeviceInfo}
use Rattle.rig_api.specs.Frames.{tuple_of}
use Rattle.block_path.specs.Acts.{State, act, tell}
use Rattle.block_path.specs.Blocks.{own_frame, own_tuple, written_by}
use Rattle.block_path.specs.Serial.{plain}
use Rattle.block_path.specs.WayOut.{Fails, Refuses, Stores, WayOut, way_out}
use Rattle.block_path.proofs.Cells.{gather_length}
use Rattle.walk_laws.specs.Detectable.{accounted, shows_out, step_accounts}
use Rattle.walk_laws.specs.FirstLayer.{has_shift, is_all, is_hit, is_served, is_stored_whole, loses}
use Rattle.walk_laws.specs.Past.{Event, events_of, past_after}
use Rattle.walk_laws.specs.PlainMap.{as_expected}
use Rattle.walk_laws.specs.ScriptWalk.{act_of}
use Rattle.walk_laws.specs.Settings.{Block, Setting, route}
use Rattle.walk_laws.specs.Steps.{Alters, Reads, Seals, Sets, Shows, Step, Writes, WritesPi}
use Rattle.walk_laws.specs.UnderMap.{home}
use Rattle.walk_laws.proofs.TupleFrames.{data_is, tuple_is}
use Rattle.run_laws.specs.ShownRun.{HasBlock, HasCells, LiesOn}
use Rattle.mirror_laws.specs.Mirror.{Mirror, accepted, asked, asks, fresh, marked, marks_after, marks_of}
use Rattle.mirror_laws.specs.declared.marks.Marks.{Marks}
use Rattle.mirror_laws.specs.OneGood.{AllServe, IsUnnamed, Spares, loses_none, on_leg, step_loses, stores_all}
use Rattle.run_laws.proofs.Along.{Marks as Stands, own_bare, own_small}
use Rattle.run_laws.proofs.Counted.{AllFit, Fits, IsPlaced, Placed, marks_after as stands_after}
use Rattle.mirror_laws.proofs.Holds.{Follows, Has, elsewhere, here, near, no_shift, on_medium, on_wire, place, second}
use Rattle.mirror_laws.proofs.Known.{AreKnown, tail_known}
use Rattle.run_laws.proofs.Layers.{checked}
use Rattle.mirror_laws.proofs.Ways.{Expects, IsStored, accepted_expects, unnamed_stores}

module _ (m' : Setting) (opening : State) (half : ℕ) (count : ℕ → ℕ) (still : (at : Crossing) (op : ℕ) → shift_of m'.site.faults at op ≡ pos 0) (devices : List DeviceInfo)
    (lies : LiesOn (checked m') devices) (cells : HasCells (checked m') devices opening.blocks) (long : volume_len m'.entries ≡ half + half) where
  abbrev m : Setting
  m = checked m'

  abbrev n : ℕ
  n = m'.size

  abbrev twin_of : Block → Block
  twin_of b = second m' opening half count still b

  abbrev pub Held : List Event → List (List ℕ) → Type 0
  Held past blocks = Stands m' devices lies opening cells past blocks

  abbrev pub HasIn : (u : ℕ) (leg : Bool) → Marks → (past mirror : List Event) → Type 0
  HasIn u leg marks past mirror = Has m' opening half count still u leg marks past mirror

  -- what binding gives each step
  abbrev pub FitsMirror : Step → Type 0
  FitsMirror (Sets at values) = Unit {0}
  FitsMirror (Shows at) = Unit {0}
  FitsMirror (Seals body tuple app rtag) = Unit {0}
  FitsMirror (Writes b app body) = (b.virt < half) × ((app < 2 ^ 16) × (length body ≡ n))
  FitsMirror (WritesPi b frame) = Unit {0}
  FitsMirror (Reads b owner to) = b.virt < half
  FitsMirror (Alters dev lba change) = HasBlock m devices dev lba

  abbrev pub AllFitMirror : List Step → Type 0
  AllFitMirror [] = Unit {0}
  AllFitMirror (step ∷ steps) = FitsMirror step × AllFitMirror steps

  -- and so each step that is asked of a leg
  pub read_fits : (b : Block) (owner : Owner) (to : List ℕ) → b.virt < half + half → Fits m devices (Reads b owner to)
  read_fits b owner to l =
      let k : b.virt < volume_len m'.entries = omega (arith, l, long) in
      (k, (near m' opening half count still b, subst (HasBlock m devices (route m b).dev) (sym (on_medium m' opening half count still b)) (lies.inside b.virt k)))

  write_fits : (b : Block) (app : ℕ) (body : List ℕ) → b.virt < half + half → app < 2 ^ 16 → length body ≡ n → Fits m devices (Writes b app body)
  write_fits b app body l a z = let k : b.virt < volume_len m'.entries = omega (arith, l, long) in (k, (near m' opening half count still b, (a, z)))

  asked_fit : (f0 f1 d : Bool) (b : Block) (owner : Owner) (to : List ℕ) → b.virt < half → AllFit m devices (asked f0 f1 d (Reads b owner to) (Reads (twin_of b) owner to))
  asked_fit true true true b owner to l = (read_fits b owner to (omega (arith, l)), tt)
  asked_fit true true false b owner to l = (read_fits b owner to (omega (arith, l)), (read_fits (twin_of b) owner to (omega (arith, l)), tt))
  asked_fit true false d b owner to l = (read_fits b owner to (omega (arith, l)), tt)
  asked_fit false f1 d b owner to l = (read_fits (twin_of b) owner to (omega (arith, l)), tt)

  pub asks_fit : (step : Step) (s : Mirror) → FitsMirror step → AllFit m devices (asks m half count step s)
  asks_fit (Sets at values) s f = (tt, tt)
  asks_fit (Shows at) s f = (tt, tt)
  asks_fit (Seals body tuple app rtag) s f = (tt, tt)
  asks_fit (Writes b app body) s f = (write_fits b app body (let l = f.0 in omega (arith, l)) f.1.0 f.1.1, (write_fits (twin_of b) app body (let l = f.0 in omega (arith, l)) f.1.0 f.1.1, tt))
  asks_fit (WritesPi b frame) s f = tt
  asks_fit (Reads b owner to) s f = asked_fit (marks_of s.marks b.virt).leg0 (marks_of s.marks b.virt).leg1 _ b owner to f
  asks_fit (Alters dev lba change) s f = (f, tt)

  -- a block of a write that isn't lost counts
  placed_block : (b : Block) → loses m b ≡ false → IsPlaced m' devices lies opening cells (λ a. true) b
  placed_block b k =
      let direct = no_shift m' opening half count still b TargetToMedium in
      record { lands = λ q. absurd (false≢true (sym direct ∙ q)); counted = sym (λ i. not (k i) && not (direct i)) }

  placed_step : (step : Step) → step_loses m step ≡ false → Placed m' devices lies opening cells (λ a. true) step
  placed_step (Sets at values) k = tt
  placed_step (Shows at) k = tt
  placed_step (Seals body tuple app rtag) k = tt
  placed_step (Writes b app body) k = placed_block b k
  placed_step (WritesPi b frame) k = placed_block b k
  placed_step (Reads b owner to) k = tt
  placed_step (Alters dev lba change) k = tt

  -- what is stored after steps
  pub held_after : (virt : ℕ) (xs : List Step) (past : List Event) (s : State) → AllFit m devices xs → AreKnown m virt xs s → Held past s.blocks →
      Held (past_after m xs s past) (plain act (map (act_of m) xs) s).blocks
  held_after virt [] past s f d h = h
  held_after virt (x ∷ xs) past s f d h =
      let p = and_parts (step_accounts m x s) (accounted m xs (act (act_of m x) s)) d.accounted in
      let q = and_parts (not (step_loses m x)) (loses_none m xs) d.kept in
      held_after virt xs (events_of m x s ++ past) (act (act_of m x) s) f.1 (tail_known m virt x xs s d)
      (stands_after m' devices lies opening cells (λ a. true) x past s f.0 (placed_step x (not-true _ q.0)) d.escapes.0 p.0 h)

  -- a write that is accepted, and one of a block that no fault names
  expects_none : (b : Block) (f back : List ℕ) (log : List (List ℕ)) (w : WayOut) → Expects m' b f w → (written_by (route m b) w back log).answer.why ≡ None → as_expected m (tuple_of n f).app ≡ true
  expects_none b f back log (Fails why) x e = absurd (cc)
  expects_none b f back log (Refuses why) x e = absurd (cc)
  expects_none b f back log (Stores carried stored) x e = x

  stores_none : (b : Block) (back : List ℕ) (log : List (List ℕ)) (w : WayOut) → IsStored w → (written_by (route m b) w back log).answer.why ≡ None
  stores_none b back log w h = ap (λ w. (written_by (route m b) w back log).answer.why) h.is

  module _ (b : Block) (app : ℕ) (x : List ℕ) (size : length x ≡ n) (below : app < 2 ^ 16) (bare : is_escaped One (own_tuple (route m b) app x) ≡ false) where
    abbrev frame : List ℕ
    frame = own_frame (route m b) app x

    tuple_there : tuple_of n (own_frame (route m b) app x) ≡ own_tuple (route m b) app x
    tuple_there = tuple_is n x (own_tuple (route m b) app x) size (own_small m' devices lies opening cells b app x below)

    app_there : (tuple_of n (own_frame (route m b) app x)).app ≡ app
    app_there = ap (λ (t : Tuple). t.app) tuple_there

    pub takes_expected : (back : List ℕ) (log : List (List ℕ)) → shows_out m b frame ≡ true → (written_by (route m b) (way_out m'.site.faults m.site.device (route m b) frame) back log).answer.why ≡ None → as_expected m app ≡ true
    takes_expected back log d e =
        subst (λ a. as_expected m a ≡ true) app_there
        (expects_none b frame back log (way_out m'.site.faults m.site.device (route m b) frame) (accepted_expects m' b frame (own_bare m' devices lies opening cells b app x size below bare) d) e)

    pub takes_unnamed : (back : List ℕ) (log : List (List ℕ)) → as_expected m app ≡ true → IsUnnamed m b → is_served m b ≡ true → (written_by (route m b) (way_out m'.site.faults m.site.device (route m b) frame) back log).answer.why ≡ None
    takes_unnamed back log e free served =
        let body_there = data_is n x (own_tuple (route m b) app x) size in
        stores_none b back log (way_out m'.site.faults m.site.device (route m b) frame)
        (unnamed_stores m' b frame (own_bare m' devices lies opening cells b app x size below bare)
        (record { guard = ap (λ (t : Tuple). t.guard) tuple_there ∙ ap (guard_of m'.mode.kind) (sym body_there); rtag = ap (λ (t : Tuple). t.rtag) tuple_there })
        (subst (λ a. as_expected m a ≡ true) (sym app_there) e) free served (on_wire m' opening half count still b))

  -- a block of a write that the medium stores, all of it, is stored whole
  stored_whole : (b : Block) → stores_all m b ≡ true → is_stored_whole m b ≡ true
  stored_whole b h =
      let all = is_all (keep_of m'.site.faults (route m b).label) in
      let p = and_parts (is_served m b) all h in
      and_from (is_served m b) (all && not (has_shift m b TargetToMedium)) p.0
      (and_from all (not (has_shift m b TargetToMedium)) p.1 (not_from_false (has_shift m b TargetToMedium) (no_shift m' opening half count still b TargetToMedium)))

  -- of a write to both legs, that of the good leg
  good_stored : (leg : Bool) (u : ℕ) (b : Block) (app : ℕ) (body : List ℕ) → b.virt ≡ u → AllServe m (place m' opening half count still leg u) (Writes b app body ∷ Writes (twin_of b) app body ∷ []) →
      stores_all m (on_leg leg b (twin_of b)) ≡ true
  good_stored false u b app body same h = h.0 same
  good_stored true u b app body same h = h.1.0 (ap (λ v. half + v) same)

  -- The good leg of a write accepts what the other accepts.
  follows : (virt : ℕ) (leg : Bool) (b : Block) (app : ℕ) (body : List ℕ) (s : State) → FitsMirror (Writes b app body) → AreKnown m virt (Writes b app body ∷ Writes (twin_of b) app body ∷ []) s →
      is_served m (on_leg leg b (twin_of b)) ≡ true → IsUnnamed m (on_leg leg b (twin_of b)) →
      Follows m' opening half count still leg (tell (act_of m (Writes b app body)) s).why (tell (act_of m (Writes (twin_of b) app body)) (act (act_of m (Writes b app body)) s)).why
  follows virt leg b app body s f d served free = by leg served free where
    x : List ℕ
    x = gather 0 body s.bytes

    size : length (gather 0 body s.bytes) ≡ n
    size = gather_length 0 body s.bytes ∙ f.1.1

    next : State
    next = act (act_of m (Writes b app body)) s

    both : (shows_out m b (own_frame (route m b) app (gather 0 body s.bytes)) ≡ true) × (shows_out m (twin_of b) (own_frame (route m (twin_of b)) app (gather 0 body s.bytes)) ≡ true)
    both =
        let first = step_accounts m (Writes b app body) s in
        let next = act (act_of m (Writes b app body)) s in
        let p = and_parts first (accounted m (Writes (twin_of b) app body ∷ []) next) d.accounted in
        let q = and_parts (step_accounts m (Writes (twin_of b) app body) next) true p.1 in (
          (and_parts (shows_out m b (own_frame (route m b) app (gather 0 body s.bytes))) _ p.0).0,
          (and_parts (shows_out m (twin_of b) (own_frame (route m (twin_of b)) app (gather 0 body s.bytes))) _ q.0).0,
        )

    by : (leg : Bool) → is_served m (on_leg leg b (twin_of b)) ≡ true → IsUnnamed m (on_leg leg b (twin_of b)) →
        Follows m' opening half count still leg (tell (act_of m (Writes b app body)) s).why (tell (act_of m (Writes (twin_of b) app body)) (act (act_of m (Writes b app body)) s)).why
    by false served free k =
        takes_unnamed b app (gather 0 body s.bytes) size f.1.0 (d.escapes.0 refl) [] _ (takes_expected (twin_of b) app (gather 0 body s.bytes) size f.1.0 (d.escapes.1.0 refl) [] _ both.1 k) free served
    by true served free k =
        takes_unnamed (twin_of b) app (gather 0 body s.bytes) size f.1.0 (d.escapes.1.0 refl) [] _ (takes_expected b app (gather 0 body s.bytes) size f.1.0 (d.escapes.0 refl) [] _ both.0 k) free served

  pub read_past : (f0 f1 d : Bool) (b c : Block) (owner : Owner) (to : List ℕ) (s : State) (past : List Event) → past_after m (asked f0 f1 d (Reads b owner to) (Reads c owner to)) s past ≡ past
  read_past true true true b c owner to s past = refl
  read_past true true false b c owner to s past = refl
  read_past true false d b c owner to s past = refl
  read_past false f1 d b c owner to s past = refl

  pub marks_long : (step : Step) (s : Mirror) → length (marks_after m half count step s) ≡ length s.marks
  marks_long (Sets at values) s = refl
  marks_long (Shows at) s = refl
  marks_long (Seals body tuple app rtag) s = refl
  marks_long (Writes b app body) s = length-set s.marks b.virt _
  marks_long (WritesPi b brings) s = refl
  marks_long (Reads b owner to) s = refl
  marks_long (Alters dev lba change) s = refl

  -- One step keeps what holds of block u.
  pub step_has : (u : ℕ) (leg : Bool) (step : Step) (s : Mirror) (past mirror : List Event) → u < half → Spares m half count leg u step → FitsMirror step →
      AreKnown m (place m' opening half count still leg u) (asks m half count step s) s.state → length s.marks ≡ half → HasIn u leg (marks_of s.marks u) past mirror →
      HasIn u leg (marks_of (marks_after m half count step s) u) (past_after m (asks m half count step s) s.state past) (accepted m half count step s ++ mirror)
  step_has u leg (Sets at values) s past mirror l spares f d z h = h
  step_has u leg (Shows at) s past mirror l spares f d z h = h
  step_has u leg (Seals body tuple app rtag) s past mirror l spares f d z h = h
  step_has u leg (WritesPi b frame) s past mirror l spares f d z h = h
  step_has u leg (Reads b owner to) s past mirror l spares f d z h =
      subst (λ p. HasIn u leg (marks_of s.marks u) p mirror) (sym (read_past (marks_of s.marks b.virt).leg0 (marks_of s.marks b.virt).leg1 _ b (twin_of b) owner to s.state past)) h
  step_has u leg (Alters dev lba change) s past mirror l spares f d z h = record {
    on0 = h.on0;
    on1 = h.on1;
    good = h.good;
    unhit = ap (λ c. c || is_hit m (home m (place m' opening half count still leg u)) past) (ne_eqb (m'.site.cell dev lba) (home m (place m' opening half count still leg u)) off) ∙ h.unhit;
  } where
    inside : (leg : Bool) → place m' opening half count still leg u < volume_len m'.entries
    inside false = omega (arith, l, long)
    inside true = omega (arith, l, long)

    off : m'.site.cell dev lba ≡ home m (place m' opening half count still leg u) → ⊥
    off x =
        let v = place m' opening half count still leg u in
        let p = cells.apart dev lba (place_in m'.entries v).0 (place_in m'.entries v).1 f (lies.inside v (inside leg)) x in spares p.0 p.1
  step_has u leg (Writes b app body) s past mirror l spares f d z h = by (eqb b.virt u) refl where
    w0 : Option Why
    w0 = (tell (act_of m (Writes b app body)) s.state).why

    w1 : Option Why
    w1 = (tell (act_of m (Writes (twin_of b) app body)) (act (act_of m (Writes b app body)) s.state)).why

    below : b.virt < length s.marks
    below = let k = f.0 in omega (arith, k, z)

    by : (t : Bool) → eqb b.virt u ≡ t →
        HasIn u leg (marks_of (marks_after m half count (Writes b app body) s) u) (past_after m (asks m half count (Writes b app body) s) s.state past) (accepted m half count (Writes b app body) s ++ mirror)
    by true q =
        let same = eqb-true b.virt u q in
        let free = spares same in
        let all = good_stored leg u b app body same d.serves in
        let served = (and_parts (is_served m (on_leg leg b (twin_of b))) _ all).0 in
        let there : marks_of (set s.marks b.virt (marked w0 w1 (marks_of s.marks b.virt))) u ≡ marked w0 w1 (marks_of s.marks b.virt) =
        ap (λ i. marks_of (set s.marks b.virt (marked w0 w1 (marks_of s.marks b.virt))) i) (sym same) ∙ get_or-set_same s.marks b.virt (marked w0 w1 (marks_of s.marks b.virt)) fresh below in
        subst (λ k. HasIn u leg k (past_after m (asks m half count (Writes b app body) s) s.state past) (accepted m half count (Writes b app body) s ++ mirror)) (sym there)
        (here m' opening half count still devices lies cells long u l b (record { body = gather 0 body s.state.bytes; app = app }) f.0 same leg w0 w1 (marks_of s.marks b.virt) past mirror
        (follows (place m' opening half count still leg u) leg b app body s.state f d served free) (free TargetToMedium) (stored_whole (on_leg leg b (twin_of b)) all) (subst (λ i. HasIn u leg (marks_of s.marks i) past mirror) (sym same) h))
    by false q =
        let apart = eqb-false b.virt u q in
        subst (λ k. HasIn u leg k (past_after m (asks m half count (Writes b app body) s) s.state past) (accepted m half count (Writes b app body) s ++ mirror))
        (sym (get_or-set_other s.marks b.virt u (marked w0 w1 (marks_of s.marks b.virt)) fresh (λ x. apart (sym x))))
        (elsewhere m' opening half count still devices lies cells long u l b (record { body = gather 0 body s.state.bytes; app = app }) f.0 leg w0 w1 (marks_of s.marks u) past mirror apart h)
