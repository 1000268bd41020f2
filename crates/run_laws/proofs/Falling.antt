-- A walk in which store calls fail: what is stored for a block that isn't lost.
use Rattle.std.proofs.Common.{◌≡◌, ◌<◌, ◌^◌, ℕ, suc, ◌+◌, Bool, true, false, eqb, if◌then◌else◌, List, [], ◌∷◌, ◌++◌, length, get_or, map, set, drop, Option, Some, None, refl, sym, ap, subst, ◌∙◌, ◌⊎◌, inl, inr, arith, length-append}
use Rattle.std.specs.Prelude.{Result, Ok, Err}
use Rattle.std.proofs.lemmas.Bool.{cond-false, cond-true, eqb-false, eqb-true, false≢true}
use Rattle.std.proofs.lemmas.List.{get_or-set_other, get_or-set_same, length-set}
use Rattle.pi_guard.specs.Guards.{guard_of}
use Rattle.pi_guard.proofs.GuardSizes.{guard_below}
use Rattle.pi_tuple.specs.Finds.{has_ref_tag, is_zero}
use Rattle.pi_tuple.specs.Tuples.{ref_tag}
use Rattle.pi_tuple.specs.declared.tuple.Tuple.{Tuple}
use Rattle.pi_tuple.specs.declared.checks.PiType.{PiType}
use Rattle.pi_tuple.specs.declared.checks.Check.{Check}
use Rattle.pi_tuple.specs.declared.checks.Check.TheVariants.{AppTag}
use Rattle.pi_tuple.proofs.TupleLaws.{tag_below}
use Rattle.page_pool.specs.Cells.{gather, scatter}
use Rattle.integrity_payload.specs.declared.payload.Owner.{Owner}
use Rattle.walk_laws.specs.Passed.{Op, data_of, frame_of, stored_size, tuple_of, Route, Act, State, act, conflict, tell, ActAnswer, fetched_cell, own_cell, own_frame, own_tuple, read_by, stored_cell, stored_over, tuple_after, written_by, host_type, target, Fails, Refuses, Stores, WayOut, from_adapter, mapped_out, to_wire, way_out, volume_len, Why, Adapter, App, Block as ByOwner, TheVariantsMedium as Medium, Refused, Short, Target}
use Rattle.walk_laws.proofs.Passed.{gather_length}
use Rattle.walk_laws.specs.CalmRun.{AllFit, LiesInImage}
use Rattle.walk_laws.specs.FirstLayer.{last_accepted}
use Rattle.walk_laws.specs.Past.{Accepted, Brought, Event, Lost, brought_by, event_of, steps_from}
use Rattle.walk_laws.specs.PlainMap.{all_pass, as_expected, finds_of_app, finds_plainly}
use Rattle.walk_laws.specs.ScriptWalk.{act_of}
use Rattle.walk_laws.specs.Settings.{Block, Setting, route}
use Rattle.walk_laws.specs.Steps.{Alters, Reads, Seals, Sets, Shows, Step, Writes, WritesPi, steps_of}
use Rattle.walk_laws.specs.UnderMap.{AreClean, IsClean, home}
use Rattle.walk_laws.proofs.CalmRuns.{op_meets, silent_form}
use Rattle.walk_laws.proofs.CalmWays.{is_right, quiet, read_same}
use Rattle.walk_laws.proofs.PlainSteps.{AllMeet, Meets}
use Rattle.walk_laws.proofs.TupleFrames.{Small, data_is, tuple_is}
use Rattle.run_laws.specs.StoreFaults.{IsFallingRun, IsServed, LandsAs, events_when, failing, fallen, falling_past, falling_walk, is_lost, leaving, may_fall, or_fallen, over_failing}
use Rattle.run_laws.proofs.Framed.{retag}
use Rattle.run_laws.proofs.Passing.{Kept, Passes, retagged}
use Rattle.run_laws.proofs.QuietWays.{Goes, comes_in, out_bare, out_tuple, out_with_tuple, sent_bare, sent_on}

-- with a device whose store calls fail, a block fails at the adapter, or for the medium
failing_rule : (P : WayOut → Type 0) (r : Route) (came : Result (List ℕ) Check) → ((c : Check) → P (Fails (Adapter c))) → P (Refuses Medium) → P (from_adapter failing r came)
failing_rule P r (Ok carried) fails refuses = refuses
failing_rule P r (Err check) fails refuses = fails check

module _ (m' : Setting) (opening : State) (falls : Block → Option (List ℕ)) (protect : 0 < m'.mode.protect) (loose : all_pass (quiet m' m'.mode.dix m'.mode.dif m'.ty) ≡ false → m'.mode.mask ≡ 0)
    (lies : LiesInImage (quiet m' m'.mode.dix m'.mode.dif m'.ty) (volume_len m'.entries) opening.blocks) where
  abbrev m : Setting
  m = quiet m' m'.mode.dix m'.mode.dif m'.ty

  abbrev n : ℕ
  n = m'.size

  abbrev count : ℕ
  count = volume_len m'.entries

  abbrev lba : Block → ℕ
  lba b = (route m' b).lba

  abbrev KeptAt : Block → List ℕ → Brought → Type 0
  KeptAt b x e = Kept m' m'.mode.dix m'.mode.dif m'.ty (lba b) x e

  abbrev GoesAs : Block → Type 0 → Brought → WayOut → Type 0
  GoesAs b own e w = Goes m' b protect own m'.mode.dix m'.mode.dif m'.ty e w

  abbrev place : Block → ℕ
  place b = own_cell m.site (route m b)

  abbrev goes_to : Block → ℕ
  goes_to b = stored_cell m.site (route m b)

  -- what is stored for a block that isn't lost
  record Marks (past : List Event) (blocks : List (List ℕ)) : Type 0 where
    size : length blocks ≡ length opening.blocks
    kept : (a : Block) → a.virt < count → is_lost a past ≡ false → KeptAt a (get_or blocks (place a) []) (last_accepted m opening a past)

  its_place : (b : Block) → goes_to b ≡ place b
  its_place b = ap (m'.site.cell (route m b).dev) (read_same m' b protect m'.mode.dix m'.mode.dif m'.ty)

  same_home : (a b : Block) → b.virt ≡ a.virt → place b ≡ place a
  same_home a b e = ap (home m) e

  below : (b : Block) (blocks : List (List ℕ)) → b.virt < count → length blocks ≡ length opening.blocks → goes_to b < length blocks
  below b blocks v s = let l = lies.within b.virt v in let o = its_place b in omega (arith, l, s, o)

  here : (a b : Block) (x : List ℕ) (blocks : List (List ℕ)) → b.virt < count → length blocks ≡ length opening.blocks → b.virt ≡ a.virt → get_or (set blocks (goes_to b) x) (place a) [] ≡ x
  here a b x blocks v s e = ap (λ c. get_or (set blocks (goes_to b) x) c []) (sym (its_place b ∙ same_home a b e)) ∙ get_or-set_same blocks (goes_to b) x [] (below b blocks v s)

  elsewhere : (a b : Block) (x : List ℕ) (blocks : List (List ℕ)) → a.virt < count → b.virt < count → eqb b.virt a.virt ≡ false → get_or (set blocks (goes_to b) x) (place a) [] ≡ get_or blocks (place a) []
  elsewhere a b x blocks l v q = get_or-set_other blocks (goes_to b) (place a) x [] (λ e. eqb-false b.virt a.virt q (lies.apart b.virt a.virt v l (sym (its_place b) ∙ sym e)))

  same_kept : (a b : Block) (x : List ℕ) (e : Brought) → b.virt ≡ a.virt → KeptAt b x e → KeptAt a x e
  same_kept a b x e s k = subst (λ v. Kept m' m'.mode.dix m'.mode.dif m'.ty (route m' (record { op = 0; k = 0; virt = v })).lba x e) s k

  accepted : (b : Block) (e : Brought) (stored : List ℕ) (past : List Event) (blocks : List (List ℕ)) → b.virt < count → KeptAt b stored e → Marks past blocks → Marks (Accepted b e ∷ past) (set blocks (goes_to b) stored)
  accepted b e stored past blocks v k h = record { size = length-set blocks (goes_to b) stored ∙ h.size; kept = λ a l lost. by a l (eqb b.virt a.virt) refl lost } where
    by : (a : Block) → a.virt < count → (t : Bool) → eqb b.virt a.virt ≡ t → is_lost a (Accepted b e ∷ past) ≡ false → KeptAt a (get_or (set blocks (goes_to b) stored) (place a) []) (last_accepted m opening a (Accepted b e ∷ past))
    by a l true q lost =
        let same = eqb-true b.virt a.virt q in
        subst (λ y. KeptAt a y (last_accepted m opening a (Accepted b e ∷ past))) (sym (here a b stored blocks v h.size same))
        (subst (λ e. KeptAt a stored e) (sym (cond-true (eqb b.virt a.virt) e (last_accepted m opening a past) q)) (same_kept a b stored e same k))
    by a l false q lost =
        subst (λ y. KeptAt a y (last_accepted m opening a (Accepted b e ∷ past))) (sym (elsewhere a b stored blocks l v q))
        (subst (λ e. KeptAt a (get_or blocks (place a) []) e) (sym (cond-false (eqb b.virt a.virt) e (last_accepted m opening a past) q))
        (h.kept a l (sym (cond-false (eqb b.virt a.virt) false (is_lost a past) q) ∙ lost)))

  -- of a lost block nothing is known
  lost_one : (b : Block) (past : List Event) (blocks after : List (List ℕ)) → length after ≡ length blocks →
      ((a : Block) → a.virt < count → eqb b.virt a.virt ≡ false → get_or after (place a) [] ≡ get_or blocks (place a) []) → Marks past blocks → Marks (Lost b ∷ past) after
  lost_one b past blocks after s others h = record { size = s ∙ h.size; kept = λ a l lost. by a l (eqb b.virt a.virt) refl lost } where
    by : (a : Block) → a.virt < count → (t : Bool) → eqb b.virt a.virt ≡ t → is_lost a (Lost b ∷ past) ≡ false → KeptAt a (get_or after (place a) []) (last_accepted m opening a (Lost b ∷ past))
    by a l true q lost = absurd (false≢true (sym lost ∙ cond-true (eqb b.virt a.virt) true (is_lost a past) q))
    by a l false q lost =
        subst (λ y. KeptAt a y (last_accepted m opening a past)) (sym (others a l q)) (h.kept a l (sym (cond-false (eqb b.virt a.virt) true (is_lost a past) q) ∙ lost))

  not_stored : (b : Block) (e : Brought) (past : List Event) (blocks : List (List ℕ)) (why : Why) → Marks past blocks → Marks (event_of (Some why) b e ++ past) blocks
  not_stored b e past blocks Medium h = lost_one b past blocks blocks refl (λ a l q. refl) h
  not_stored b e past blocks (Adapter check) h = h
  not_stored b e past blocks (Target check) h = h
  not_stored b e past blocks (ByOwner check) h = h
  not_stored b e past blocks (App check) h = h
  not_stored b e past blocks (Refused key asc ascq) h = h
  not_stored b e past blocks Short h = h

  after_write : (b : Block) (own : Type 0) (e : Brought) (back : List ℕ) (log : List (List ℕ)) (past : List Event) (blocks : List (List ℕ)) (w : WayOut) → b.virt < count → GoesAs b own e w → Marks past blocks →
      Marks (event_of (written_by (route m b) w back log).answer.why b e ++ past) (scatter (goes_to b ∷ []) (map (λ frame. frame) (written_by (route m b) w back log).written.blocks) blocks)
  after_write b own e back log past blocks (Fails why) v o h = not_stored b e past blocks why h
  after_write b own e back log past blocks (Refuses why) v o h = not_stored b e past blocks why h
  after_write b own e back log past blocks (Stores carried stored) v o h = accepted b e stored past blocks v o h

  abbrev Fallen : Block → Brought → (back old : List ℕ) → (log : List (List ℕ)) → List ℕ → List Event → List (List ℕ) → WayOut → Type 0
  Fallen b e back old log left past blocks w =
      let eff = leaving left (stored_over (over_failing m).site (route m b) old (written_by (route m b) w back log)) in Marks (event_of eff.answer.why b e ++ past) (scatter (goes_to b ∷ []) eff.written.blocks blocks)

  after_fall : (b : Block) (e : Brought) (f back old : List ℕ) (log : List (List ℕ)) (left : List ℕ) (past : List Event) (blocks : List (List ℕ)) → b.virt < count → Marks past blocks →
      Fallen b e back old log left past blocks (way_out m.site.faults failing (route m b) f)
  after_fall b e f back old log left past blocks v h =
      failing_rule (Fallen b e back old log left past blocks) (route m b) (to_wire m.site.faults (route m b) (mapped_out (route m b) f)) (λ c. h)
      (lost_one b past blocks (set blocks (goes_to b) left) (length-set blocks (goes_to b) left) (λ a l q. elsewhere a b left blocks l v q) h)

  -- the block layer's own tuple passes where the plain map accepts it
  own_small : (b : Block) (app : ℕ) (x : List ℕ) → app < 2 ^ 16 → Small (own_tuple (route m' b) app x)
  own_small b app x a = record { guard = guard_below m'.mode.kind x; app = a; rtag = by (has_ref_tag (host_type m'.ty)) } where
    by : (c : Bool) → (if c then ref_tag b.virt else 0) < 2 ^ 32
    by true = tag_below b.virt
    by false = omega arith

  own_passes : (b : Block) (app : ℕ) (x : List ℕ) → length x ≡ n → app < 2 ^ 16 → finds_plainly m' app ≡ None →
      let f = frame_of x (own_tuple (route m' b) app x) in Passes m' (host_type m'.ty) (guard_of m'.mode.kind (data_of n f)) (lba b) (out_tuple m' b protect m'.ty f)
  own_passes b app x l a own =
      let t = own_tuple (route m' b) app x in
      let tuple = tuple_is n x t l (own_small b app x a) in
      inr (record {
        guard_is = ap (λ (t : Tuple). t.guard) tuple ∙ ap (guard_of m'.mode.kind) (sym (data_is n x t l));
        app_is = ap (λ (t : Tuple). as_expected m' t.app) tuple ∙ expected (as_expected m' app) own;
        rtag_is = λ h. ap (λ (t : Tuple). retag (host_type m'.ty) b.virt (lba b) t.rtag) tuple ∙ ap (λ c. retag (host_type m'.ty) b.virt (lba b) (if c then ref_tag b.virt else 0)) h ∙ retagged (host_type m'.ty) b.virt (lba b) h;
      })
    where
      expected : (c : Bool) → (let none : Option Check = None in (if c then none else Some AppTag) ≡ none) → c ≡ true
      expected true h = refl
      expected false h = cc

  -- and so does the application's
  app_passes : (dix : Bool) (b : Block) (f : List ℕ) → let q = quiet m' dix m'.mode.dif m'.ty in finds_of_app q b (data_of n f) (tuple_of n f) ≡ None →
      Passes m' (host_type m'.ty) (guard_of m'.mode.kind (data_of n f)) (lba b) (out_tuple m' b protect m'.ty f)
  app_passes dix b f own =
      let right = is_right (quiet m' dix m'.mode.dif m'.ty) b (data_of n f) (tuple_of n f) own in
      inr (record { guard_is = right.guard; app_is = right.app; rtag_is = right.rtag })

  -- the way out of the block layer's own frame, and of the application's
  own_goes : (dix : Bool) (b : Block) (app : ℕ) (x : List ℕ) → (all_pass (quiet m' dix m'.mode.dif m'.ty) ≡ false → m'.mode.mask ≡ 0) → length x ≡ n → app < 2 ^ 16 →
      let r = route (quiet m' dix m'.mode.dif m'.ty) b in
      Goes m' b protect (finds_plainly m' app ≡ None) dix m'.mode.dif m'.ty (record { body = x; app = app }) (way_out [] (target []) r (own_frame r app x))
  own_goes true b app x loose l a =
      let q = quiet m' true m'.mode.dif m'.ty in
      let t = own_tuple (route m' b) app x in
      let f = frame_of x t in
      let body = data_is n x t l in
      let tuple = tuple_is n x t l (own_small b app x a) in
      let size = length-append x _ ∙ ap (λ k. k + 8) l in
      let brought : brought_by n f ≡ record { body = x; app = app } = λ i. record { body = body i; app = (tuple i).app } in
      subst (λ e. Goes m' b protect (finds_plainly m' app ≡ None) true m'.mode.dif m'.ty e (way_out [] (target []) (route q b) f)) brought
      (out_with_tuple m' b protect (finds_plainly m' app ≡ None) m'.mode.dif m'.ty f size loose (own_passes b app x l a))
  own_goes false b app x loose l a = out_bare m' b protect (finds_plainly m' app ≡ None) m'.mode.dif m'.ty x app l (loose refl)

  pi_goes : (dix : Bool) (b : Block) (f : List ℕ) → dix ≡ true → (all_pass (quiet m' dix m'.mode.dif m'.ty) ≡ false → m'.mode.mask ≡ 0) → length f ≡ n + 8 →
      let q = quiet m' dix m'.mode.dif m'.ty in
      Goes m' b protect (finds_of_app q b (data_of n f) (tuple_of n f) ≡ None) dix m'.mode.dif m'.ty (brought_by n f) (way_out [] (target []) (route q b) f)
  pi_goes false b f on loose l = absurd (false≢true on)
  pi_goes true b f on loose l =
      let q = quiet m' true m'.mode.dif m'.ty in
      out_with_tuple m' b protect (finds_of_app q b (data_of n f) (tuple_of n f) ≡ None) m'.mode.dif m'.ty f l loose (app_passes true b f)

  -- over a device whose store calls fail they end there
  own_falls : (dix : Bool) (b : Block) (app : ℕ) (x : List ℕ) → length x ≡ n → app < 2 ^ 16 → finds_plainly m' app ≡ None →
      let r = route (quiet m' dix m'.mode.dif m'.ty) b in way_out [] failing r (own_frame r app x) ≡ Refuses Medium
  own_falls true b app x l a own = sent_on m' b protect failing m'.mode.dif m'.ty (frame_of x (own_tuple (route m' b) app x)) (length-append x _ ∙ ap (λ k. k + 8) l) (own_passes b app x l a own)
  own_falls false b app x l a own = sent_bare m' b protect failing m'.mode.dif m'.ty x

  pi_falls : (dix : Bool) (b : Block) (f : List ℕ) → dix ≡ true → length f ≡ n + 8 → let q = quiet m' dix m'.mode.dif m'.ty in finds_of_app q b (data_of n f) (tuple_of n f) ≡ None → way_out [] failing (route q b) f ≡ Refuses Medium
  pi_falls false b f on l own = absurd (false≢true on)
  pi_falls true b f on l own = sent_on m' b protect failing m'.mode.dif m'.ty f l (app_passes true b f own)

  -- one step, whether or not its store call fails
  step_marks : (step : Step) (past : List Event) (s : State) → Meets m count step → Marks past s.blocks → Marks (events_when m (tell (may_fall m falls step) s).why step s ++ past) (act (may_fall m falls step) s).blocks
  step_marks (Sets at values) past s f h = h
  step_marks (Shows at) past s f h = h
  step_marks (Seals body tuple app rtag) past s f h = h
  step_marks (Alters dev lba change) past s f h = absurd f
  step_marks (Reads b owner to) past s f h = by (falls b) where
    by : (o : Option (List ℕ)) → Marks past (act (or_fallen m (Reads b owner to) o) s).blocks
    by None = h
    by (Some left) = h
  step_marks (Writes b app body) past s f h = by (falls b) where
    by : (o : Option (List ℕ)) → let a = or_fallen m (Writes b app body) o in Marks (events_when m (tell a s).why (Writes b app body) s ++ past) (act a s).blocks
    by None =
        let x = gather 0 body s.bytes in
        let e : Brought = record { body = x; app = app } in
        after_write b (finds_plainly m' app ≡ None) e [] (get_or s.logs (place b) []) past s.blocks (way_out m.site.faults m.site.device (route m b) (own_frame (route m b) app x)) f.0
        (own_goes m'.mode.dix b app x loose (gather_length 0 body s.bytes ∙ f.1.0) f.1.1) h
    by (Some left) =
        let x = gather 0 body s.bytes in
        after_fall b (record { body = x; app = app }) (own_frame (route m b) app x) [] (get_or s.blocks (goes_to b) []) (get_or s.logs (place b) []) left past s.blocks f.0 h
  step_marks (WritesPi b frame) past s f h = by (falls b) where
    by : (o : Option (List ℕ)) → let a = or_fallen m (WritesPi b frame) o in Marks (events_when m (tell a s).why (WritesPi b frame) s ++ past) (act a s).blocks
    by None =
        let x = gather 0 frame s.bytes in
        after_write b (finds_of_app m b (data_of n x) (tuple_of n x) ≡ None) (brought_by n x) (tuple_after (route m b) (drop n x)) (get_or s.logs (place b) []) past s.blocks (way_out m.site.faults m.site.device (route m b) x) f.0
        (pi_goes m'.mode.dix b x f.1.1 loose (gather_length 0 frame s.bytes ∙ f.1.0)) h
    by (Some left) =
        let x = gather 0 frame s.bytes in
        after_fall b (brought_by n x) x (tuple_after (route m b) (drop n x)) (get_or s.blocks (goes_to b) []) (get_or s.logs (place b) []) left past s.blocks f.0 h

  accepts : (b : Block) (own : Type 0) (e : Brought) (back : List ℕ) (log : List (List ℕ)) (w : WayOut) → GoesAs b own e w → own → (written_by (route m b) w back log).answer.why ≡ None
  accepts b own e back log (Fails why) o k = absurd (o k)
  accepts b own e back log (Refuses why) o k = absurd (o k)
  accepts b own e back log (Stores carried stored) o k = refl

  -- what a block of a read gets
  lands_as : (b : Block) (owner : Owner) (to : List ℕ) (past : List Event) (s : State) → b.virt < count → Marks past s.blocks → is_lost b past ≡ false → LandsAs m (act_of m (Reads b owner to)) to (last_accepted m opening b past) s
  lands_as b owner to past s v h lost =
      let same = ap (λ a. get_or s.blocks (m'.site.cell (route m b).dev a) []) (read_same m' b protect m'.mode.dix m'.mode.dif m'.ty) in
      let x = get_or s.blocks (fetched_cell m.site (route m b)) [] in
      let k = subst (λ y. KeptAt b y (last_accepted m opening b past)) (sym same) (h.kept b v lost) in
      let r = comes_in m' b protect m'.mode.dix m'.mode.dif m'.ty owner x (last_accepted m opening b past) loose k in
      let logged = length (get_or s.logs (place b) []) in
      record {
        not_listed = ap (λ w. (read_by (route m b) owner w (length to) logged).answer.why) r.way;
        frame = r.frame;
        size = r.size;
        body = r.body;
        app = r.app;
        lands = ap (λ w. scatter to (read_by (route m b) owner w (length to) logged).written.bytes s.bytes) r.way;
      }

  served : (step : Step) (past : List Event) (s : State) → Meets m count step → Marks past s.blocks → IsServed m opening past falls step s
  served (Sets at values) past s f h = tt
  served (Shows at) past s f h = tt
  served (Seals body tuple app rtag) past s f h = tt
  served (Alters dev lba change) past s f h = tt
  served (Reads b owner to) past s f h = λ lost. by (falls b) lost where
    by : (o : Option (List ℕ)) → is_lost b past ≡ false → let a = or_fallen m (Reads b owner to) o in ((tell a s).why ≡ Some Medium) ⊎ LandsAs m a to (last_accepted m opening b past) s
    by None lost = inr (lands_as b owner to past s f h lost)
    by (Some left) lost = inl refl
  served (Writes b app body) past s f h = λ own. by (falls b) own where
    x : List ℕ
    x = gather 0 body s.bytes

    l : length (gather 0 body s.bytes) ≡ n
    l = gather_length 0 body s.bytes ∙ f.1.0

    by : (o : Option (List ℕ)) → finds_plainly m' app ≡ None → let why = (tell (or_fallen m (Writes b app body) o) s).why in (why ≡ Some Medium) ⊎ (why ≡ None)
    by None own = inr (accepts b (finds_plainly m' app ≡ None) (record { body = x; app = app }) [] (get_or s.logs (place b) []) (way_out m.site.faults m.site.device (route m b) (own_frame (route m b) app x))
        (own_goes m'.mode.dix b app x loose l f.1.1) own)
    by (Some left) own = inl (ap (λ w. (leaving left (stored_over (over_failing m).site (route m b) (get_or s.blocks (goes_to b) []) (written_by (route m b) w [] (get_or s.logs (place b) [])))).answer.why) (own_falls m'.mode.dix b app x l f.1.1 own))
  served (WritesPi b frame) past s f h = λ own. by (falls b) own where
    x : List ℕ
    x = gather 0 frame s.bytes

    l : length (gather 0 frame s.bytes) ≡ n + 8
    l = gather_length 0 frame s.bytes ∙ f.1.0

    by : (o : Option (List ℕ)) → finds_of_app m b (data_of n x) (tuple_of n x) ≡ None → let why = (tell (or_fallen m (WritesPi b frame) o) s).why in (why ≡ Some Medium) ⊎ (why ≡ None)
    by None own = inr (accepts b (finds_of_app m b (data_of n x) (tuple_of n x) ≡ None) (brought_by n x) (tuple_after (route m b) (drop n x)) (get_or s.logs (place b) []) (way_out m.site.faults m.site.device (route m b) x)
        (pi_goes m'.mode.dix b x f.1.1 loose l) own)
    by (Some left) own = inl (ap (λ w. (leaving left (stored_over (over_failing m).site (route m b) (get_or s.blocks (goes_to b) []) (written_by (route m b) w (tuple_after (route m b) (drop n x)) (get_or s.logs (place b) [])))).answer.why) (pi_falls m'.mode.dix b x f.1.1 l own))

  served_along : (earlier later : List Step) (step : Step) (past : List Event) (s : State) → AllMeet m count (earlier ++ (step ∷ later)) → Marks past s.blocks →
      IsServed m opening (falling_past m falls earlier s past) falls step (falling_walk m falls earlier s)
  served_along [] later step past s f h = served step past s f.0 h
  served_along (first ∷ earlier) later step past s f h =
      served_along earlier later step (events_when m (tell (may_fall m falls first) s).why first s ++ past) (act (may_fall m falls first) s) f.1 (step_marks first past s f.0 h)

  -- the opening image
  opened : (ty : PiType) (a : ℕ) (x : List ℕ) → length x ≡ stored_size ty n → (is_zero ty ≡ false → IsClean (quiet m' m'.mode.dix m'.mode.dif ty) a x) → Kept m' m'.mode.dix m'.mode.dif ty a x (brought_by n x)
  opened ty a x l c = record { size = l; passing = λ z. inr (record { guard_is = (c z).guard; app_is = (c z).app; rtag_is = (c z).rtag }); body = refl; app = λ h. refl }

  begins : AreClean m opening.blocks → Marks [] opening.blocks
  begins clean = record { size = refl; kept = λ a l lost. opened m'.ty (lba a) (get_or opening.blocks (place a) []) (lies.size a.virt l) (clean a.virt l) }

-- steps of all ops
meet_both : (m : Setting) (n : ℕ) (xs ys : List Step) → AllMeet m n xs → AllMeet m n ys → AllMeet m n (xs ++ ys)
meet_both m n [] ys h k = k
meet_both m n (x ∷ xs) ys h k = (h.0, meet_both m n xs ys h.1 k)

all_meet : (m : Setting) (i : ℕ) (ops : List Op) → AllFit m ops → AllMeet m (volume_len m.entries) (steps_from m i ops)
all_meet m i [] h = tt
all_meet m i (op ∷ ops) h = meet_both m (volume_len m.entries) (steps_of m i op) (steps_from m (suc i) ops) (op_meets m i op h.0) (all_meet m (suc i) ops h.1)

quietly_served : (m' : Setting) (falls : Block → Option (List ℕ)) (ops : List Op) (opening : State) (earlier later : List Step) (step : Step) → let m = quiet m' m'.mode.dix m'.mode.dif m'.ty in
    IsFallingRun m ops opening → steps_from m 1 ops ≡ earlier ++ (step ∷ later) → IsServed m opening (falling_past m falls earlier opening []) falls step (falling_walk m falls earlier opening)
quietly_served m' falls ops opening earlier later step h e =
    let m = quiet m' m'.mode.dix m'.mode.dif m'.ty in
    served_along m' opening falls h.calm.protect h.calm.mask h.lies earlier later step [] opening (subst (AllMeet m (volume_len m.entries)) e (all_meet m 1 ops h.fit))
    (begins m' opening falls h.calm.protect h.calm.mask h.lies h.clean)

pub each_is_served : (m : Setting) (falls : Block → Option (List ℕ)) (ops : List Op) (opening : State) (earlier later : List Step) (step : Step) →
    IsFallingRun m ops opening → steps_from m 1 ops ≡ earlier ++ (step ∷ later) → IsServed m opening (falling_past m falls earlier opening []) falls step (falling_walk m falls earlier opening)
each_is_served m falls ops opening earlier later step h e =
    let q = silent_form m h.calm in
    subst (λ x. IsServed x opening (falling_past x falls earlier opening []) falls step (falling_walk x falls earlier opening)) (sym q)
    (quietly_served m falls ops opening earlier later step (subst (λ x. IsFallingRun x ops opening) q h) (subst (λ x. steps_from x 1 ops ≡ earlier ++ (step ∷ later)) q e))

-- a block whose store call fails has the cells that it would have
abbrev Alike : Setting → Step → Act ActAnswer → Act ActAnswer → Type 0
Alike m step other a = (conflict a other ≡ conflict (act_of m step) other) × (conflict other a ≡ conflict other (act_of m step))

either_alike : (m : Setting) (step : Step) (other : Act ActAnswer) (o : Option (List ℕ)) → ((left : List ℕ) → Alike m step other (fallen m left step)) → Alike m step other (or_fallen m step o)
either_alike m step other None h = (refl, refl)
either_alike m step other (Some left) h = h left

alike : (m : Setting) (falls : Block → Option (List ℕ)) (step : Step) (other : Act ActAnswer) → Alike m step other (may_fall m falls step)
alike m falls (Sets at values) other = (refl, refl)
alike m falls (Shows at) other = (refl, refl)
alike m falls (Seals body tuple app rtag) other = (refl, refl)
alike m falls (Writes b app body) other = either_alike m (Writes b app body) other (falls b) (λ left. (refl, refl))
alike m falls (WritesPi b frame) other = either_alike m (WritesPi b frame) other (falls b) (λ left. (refl, refl))
alike m falls (Reads b owner to) other = either_alike m (Reads b owner to) other (falls b) (λ left. (refl, refl))
alike m falls (Alters dev lba change) other = (refl, refl)

pub conflicts_alike : (m : Setting) (falls : Block → Option (List ℕ)) (step : Step) (other : Act ActAnswer) → conflict (may_fall m falls step) other ≡ conflict (act_of m step) other
conflicts_alike m falls step other = (alike m falls step other).0

pub is_in_conflict_alike : (m : Setting) (falls : Block → Option (List ℕ)) (step : Step) (other : Act ActAnswer) → conflict other (may_fall m falls step) ≡ conflict other (act_of m step)
is_in_conflict_alike m falls step other = (alike m falls step other).1
