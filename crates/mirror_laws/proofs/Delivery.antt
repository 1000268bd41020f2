-- A read of a mirror is delivered, with what was last accepted.
use Rattle.std.proofs.Common.{◌≡◌, ◌<◌, ℕ, ◌+◌, Bool, true, false, ◌||◌, if◌then◌else◌, List, [], ◌∷◌, ◌++◌, length, map, Option, Some, None, refl, sym, ap, subst, ◌∙◌, arith}
use Rattle.std.specs.Prelude.{pos}
use Rattle.std.proofs.lemmas.Bool.{and_parts, false≢true}
use Rattle.pi_tuple.specs.declared.tuple.Tuple.{Tuple}
use Rattle.page_pool.specs.Cells.{scatter}
use Rattle.fault_schedule.specs.Altered.{shift_of}
use Rattle.fault_schedule.specs.declared.fault.Crossing.{Crossing}
use Rattle.fault_schedule.specs.declared.fault.Crossing.TheVariants.{AdapterToHost, AdapterToTarget, MediumToTarget, TargetToAdapter}
use Rattle.integrity_payload.specs.declared.payload.Owner.{Owner}
use Rattle.bio_core.specs.declared.fate.Why.{Why}
use Rattle.volume_table.specs.Places.{volume_len}
use Rattle.volume_table.specs.declared.device.DeviceInfo.{DeviceInfo}
use Rattle.rig_api.specs.Frames.{data_of, tuple_of}
use Rattle.block_path.specs.Acts.{State, act, effect, tell}
use Rattle.block_path.specs.Blocks.{fetched_cell}
use Rattle.block_path.specs.Serial.{plain, plain_tells}
use Rattle.walk_laws.specs.Detectable.{step_accounts}
use Rattle.walk_laws.specs.FirstLayer.{AtAdapter, AtOwner, AtTarget, Layer, first_layer, has_flip, has_shift, is_hit, is_served, last_accepted}
use Rattle.walk_laws.specs.Past.{Brought, Event, past_after}
use Rattle.walk_laws.specs.ScriptWalk.{act_of}
use Rattle.walk_laws.specs.Settings.{Block, Setting, route}
use Rattle.walk_laws.specs.Steps.{Reads, Step}
use Rattle.walk_laws.specs.UnderMap.{home}
use Rattle.run_laws.specs.ShownRun.{HasCells, LiesOn}
use Rattle.walk_laws.proofs.InSteps.{scatter_length}
use Rattle.mirror_laws.specs.Mirror.{Mirror, accepted, all_asked, asked, asks, done, is_none, listed, marks_of, mirror_past, neither}
use Rattle.mirror_laws.specs.declared.marks.Marks.{Marks}
use Rattle.mirror_laws.specs.OneGood.{AllSpare, IsUnnamed, on_leg}
use Rattle.run_laws.proofs.Counted.{EndsAs, EndsWhereServed, IsHanded, ends_as}
use Rattle.mirror_laws.proofs.Holds.{fetched_at, last_at, last_same, no_shift, place, second}
use Rattle.mirror_laws.proofs.Known.{AreKnown, first_known, head_known, tail_known, then_known}
use Rattle.run_laws.proofs.Layers.{checked}
use Rattle.mirror_laws.proofs.Steps.{AllFitMirror, FitsMirror, HasIn, Held, asks_fit, held_after, marks_long, read_fits, step_has}

pub neither_none : (w : Option Why) → neither w None ≡ None
neither_none None = refl
neither_none (Some why) = refl

pub none_is : (w : Option Why) → true ≡ is_none w → w ≡ None
none_is None h = refl
none_is (Some why) h = absurd (false≢true (sym h))

module _ (m' : Setting) (opening : State) (half : ℕ) (count : ℕ → ℕ) (still : (at : Crossing) (op : ℕ) → shift_of m'.site.faults at op ≡ pos 0) (devices : List DeviceInfo)
    (lies : LiesOn (checked m') devices) (cells : HasCells (checked m') devices opening.blocks) (long : volume_len m'.entries ≡ half + half) where
  abbrev m : Setting
  m = checked m'

  abbrev n : ℕ
  n = m'.size

  abbrev twin_of : Block → Block
  twin_of b = second m' opening half count still b

  abbrev HeldIn : List Event → List (List ℕ) → Type 0
  HeldIn past blocks = Held m' opening half count still devices lies cells long past blocks

  abbrev HasBlockIn : (u : ℕ) (leg : Bool) → Marks → (past mirror : List Event) → Type 0
  HasBlockIn u leg marks past mirror = HasIn m' opening half count still devices lies cells long u leg marks past mirror

  abbrev pub last_in : ℕ → List Event → Brought
  last_in u past = last_at m' opening half count still u past

  abbrev pub FitsIn : Step → Type 0
  FitsIn step = FitsMirror m' opening half count still devices lies cells long step

  abbrev pub AllFitIn : List Step → Type 0
  AllFitIn steps = AllFitMirror m' opening half count still devices lies cells long steps

  -- what these steps, one or two reads, deliver
  pub record Gets (xs : List Step) (s : State) (to : List ℕ) (e : Brought) : Type 0 where
    pub why : listed (map (λ a. a.why) (plain_tells act tell (map (act_of m) xs) s)) ≡ None
    pub frame : List ℕ
    pub size : length frame ≡ n + 8
    pub body : data_of n frame ≡ e.body
    pub app : (tuple_of n frame).app ≡ e.app
    pub before : List ℕ
    pub same : length before ≡ length s.bytes
    pub lands : (plain act (map (act_of m) xs) s).bytes ≡ scatter to frame before

  single : (b : Block) (owner : Owner) (to : List ℕ) (s : State) (found e : Brought) → IsHanded m b owner to found s → found ≡ e → Gets (Reads b owner to ∷ []) s to e
  single b owner to s found e h q = record {
    why = h.listed;
    frame = h.frame;
    size = h.size;
    body = h.body ∙ ap (λ (x : Brought). x.body) q;
    app = ap (λ (t : Tuple). t.app) h.tuple ∙ ap (λ (x : Brought). x.app) q;
    before = s.bytes;
    same = refl;
    lands = h.lands;
  }

  after_first : (b c : Block) (owner : Owner) (to : List ℕ) (s : State) (e : Brought) → Gets (Reads c owner to ∷ []) (act (act_of m (Reads b owner to)) s) to e → Gets (Reads b owner to ∷ Reads c owner to ∷ []) s to e
  after_first b c owner to s e g =
      let w0 = (tell (act_of m (Reads b owner to)) s).why in
      record {
        why = ap (neither w0) g.why ∙ neither_none w0;
        frame = g.frame;
        size = g.size;
        body = g.body;
        app = g.app;
        before = g.before;
        same = g.same ∙ scatter_length to (effect (act_of m (Reads b owner to)) s).written.bytes s.bytes;
        lands = g.lands;
      }

  -- a block that no fault names, and whose place isn't hit
  no_layer : (b : Block) (past : List Event) → IsUnnamed m b → is_hit m (home m b.virt) past ≡ false → first_layer m past b ≡ None
  no_layer b past free unhit =
      let at_target : (has_shift m b MediumToTarget || (has_flip m b MediumToTarget || is_hit m (fetched_cell m.site (route m b)) past)) ≡ false =
      ap (λ c. c || (has_flip m b MediumToTarget || is_hit m (fetched_cell m.site (route m b)) past)) (no_shift m' opening half count still b MediumToTarget)
      ∙ ap (λ c. c || is_hit m (fetched_cell m.site (route m b)) past) (free MediumToTarget)
      ∙ ap (λ c. is_hit m c past) (fetched_at m' opening half count still b) ∙ unhit in
      let at_adapter : (has_shift m b AdapterToTarget || has_flip m b TargetToAdapter) ≡ false =
      ap (λ c. c || has_flip m b TargetToAdapter) (no_shift m' opening half count still b AdapterToTarget) ∙ free TargetToAdapter in
      ap (λ c. if c then Some AtTarget else if has_shift m b AdapterToTarget || has_flip m b TargetToAdapter then Some AtAdapter else if has_flip m b AdapterToHost then Some AtOwner else None) at_target
      ∙ ap (λ c. if c then Some AtAdapter else if has_flip m b AdapterToHost then Some AtOwner else None) at_adapter
      ∙ ap (λ c. if c then Some AtOwner else None) (free AdapterToHost)

  if_delivered : (b : Block) (owner : Owner) (to : List ℕ) (o : Option Layer) (e : Brought) (s : State) → EndsAs m b owner to o e s → (tell (act_of m (Reads b owner to)) s).why ≡ None → IsHanded m b owner to e s
  if_delivered b owner to None e s h w = h
  if_delivered b owner to (Some layer) e s h w = absurd (let x = sym w ∙ h.listed in cc)

  -- one read
  ends : (virt : ℕ) (b : Block) (owner : Owner) (to : List ℕ) (past : List Event) (s : State) → b.virt < half + half → AreKnown m virt (Reads b owner to ∷ []) s → HeldIn past s.blocks → (served : Bool) → is_served m b ≡ served →
      EndsWhereServed m' devices lies opening cells (λ a. true) served b owner to past s
  ends virt b owner to past s l d h served q =
      let p = and_parts (step_accounts m (Reads b owner to) s) true d.accounted in
      ends_as m' devices lies opening cells (λ a. true) b owner to past s (read_fits m' opening half count still devices lies cells long b owner to l) p.0 h served q

  free_ends : (b : Block) (owner : Owner) (to : List ℕ) (past : List Event) (s : State) (e : Brought) → b.virt < half + half → AreKnown m b.virt (Reads b owner to ∷ []) s → HeldIn past s.blocks → IsUnnamed m b →
      is_hit m (home m b.virt) past ≡ false → last_in b.virt past ≡ e → Gets (Reads b owner to ∷ []) s to e
  free_ends b owner to past s e l d h free unhit q =
      single b owner to s (last_accepted m opening b past) e
      (subst (λ o. EndsAs m b owner to o (last_accepted m opening b past) s) (no_layer b past free unhit) (ends b.virt b owner to past s l d h true (d.serves.0 refl))) (last_same m' opening half count still b past ∙ q)

  -- what is delivered was served
  fresh_ends : (virt : ℕ) (b : Block) (owner : Owner) (to : List ℕ) (past : List Event) (s : State) (e : Brought) → b.virt < half + half → AreKnown m virt (Reads b owner to ∷ []) s → HeldIn past s.blocks →
      (tell (act_of m (Reads b owner to)) s).why ≡ None → last_in b.virt past ≡ e → Gets (Reads b owner to ∷ []) s to e
  fresh_ends virt b owner to past s e l d h w q = by (is_served m b) refl where
    by : (served : Bool) → is_served m b ≡ served → Gets (Reads b owner to ∷ []) s to e
    by false k = absurd (let x = sym w ∙ ends virt b owner to past s l d h false k in cc)
    by true k = single b owner to s (last_accepted m opening b past) e (if_delivered b owner to (first_layer m past b) (last_accepted m opening b past) s (ends virt b owner to past s l d h true k) w) (last_same m' opening half count still b past ∙ q)

  module _ (b : Block) (owner : Owner) (to : List ℕ) (s : State) (past mirror : List Event) (inside : b.virt < half) (held : HeldIn past s.blocks) where
    abbrev r0 : Step
    r0 = Reads b owner to

    abbrev r1 : Step
    r1 = Reads (twin_of b) owner to

    abbrev e : Brought
    e = last_in b.virt mirror

    low : b.virt < half + half
    low = omega (arith, inside)

    high : half + b.virt < half + half
    high = omega (arith, inside)

    abbrev there : Bool → ℕ
    there leg = place m' opening half count still leg b.virt

    gets : (leg f0 f1 d : Bool) → d ≡ is_none (tell (act_of m r0) s).why → IsUnnamed m (on_leg leg b (twin_of b)) → HasBlockIn b.virt leg (record { leg0 = f0; leg1 = f1 }) past mirror →
        AreKnown m (there leg) (asked f0 f1 d r0 r1) s → Gets (asked f0 f1 d r0 r1) s to e
    gets false false f1 d q free has known = absurd (false≢true has.good)
    gets false true true true q free has known = free_ends b owner to past s e low known held free has.unhit (has.on0 refl)
    gets false true true false q free has known =
        let g = free_ends b owner to past s e low (head_known m b.virt r0 (r1 ∷ []) s known) held free has.unhit (has.on0 refl) in
        absurd (false≢true (q ∙ ap is_none g.why))
    gets false true false d q free has known = free_ends b owner to past s e low known held free has.unhit (has.on0 refl)
    gets true f0 false d q free has known = absurd (false≢true has.good)
    gets true true true true q free has known = fresh_ends (half + b.virt) b owner to past s e low known held (none_is (tell (act_of m r0) s).why q) (has.on0 refl)
    gets true true true false q free has known =
        after_first b (twin_of b) owner to s e (free_ends (twin_of b) owner to past (act (act_of m r0) s) e high (tail_known m (half + b.virt) r0 (r1 ∷ []) s known) held free has.unhit (has.on1 refl))
    gets true false true d q free has known = free_ends (twin_of b) owner to past s e high known held free has.unhit (has.on1 refl)

  -- a read, after the steps before it
  pub read_along : (leg : Bool) (earlier later : List Step) (b : Block) (owner : Owner) (to : List ℕ) (s : Mirror) (past mirror : List Event) → b.virt < half → AllSpare m half count leg b.virt (earlier ++ (Reads b owner to ∷ later)) →
      AllFitIn (earlier ++ (Reads b owner to ∷ later)) → AreKnown m (place m' opening half count still leg b.virt) (all_asked m half count (earlier ++ (Reads b owner to ∷ later)) s) s.state →
      length s.marks ≡ half → HeldIn past s.state.blocks → HasBlockIn b.virt leg (marks_of s.marks b.virt) past mirror →
      let now = plain (done m half count) earlier s in
      Gets (asks m half count (Reads b owner to) now) now.state to (last_in b.virt (mirror_past m half count earlier s mirror))
  read_along leg [] later b owner to s past mirror l spares f d z held has =
      let q = first_known m (place m' opening half count still leg b.virt) (asks m half count (Reads b owner to) s) (all_asked m half count later (done m half count (Reads b owner to) s)) s.state d in
      gets b owner to s.state past mirror l held leg (marks_of s.marks b.virt).leg0 (marks_of s.marks b.virt).leg1 (is_none (tell (act_of m (Reads b owner to)) s.state).why) refl (spares.0 refl) has q
  read_along leg (step ∷ earlier) later b owner to s past mirror l spares f d z held has =
      let v = place m' opening half count still leg b.virt in
      let rest = earlier ++ (Reads b owner to ∷ later) in
      let next = done m half count step s in
      let q = first_known m v (asks m half count step s) (all_asked m half count rest next) s.state d in
      read_along leg earlier later b owner to next (past_after m (asks m half count step s) s.state past) (accepted m half count step s ++ mirror) l spares.1 f.1
      (then_known m v (asks m half count step s) (all_asked m half count rest next) s.state d)
      (marks_long m' opening half count still devices lies cells long step s ∙ z)
      (held_after m' opening half count still devices lies cells long v (asks m half count step s) past s.state (asks_fit m' opening half count still devices lies cells long step s f.0) q held)
      (step_has m' opening half count still devices lies cells long b.virt leg step s past mirror l spares.0 f.0 q z has)
