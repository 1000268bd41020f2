-- The walk with a flip beside the walk without, step by step.
use Rattle.std.proofs.Common.{◌≡◌, ◌≢◌, ◌<◌, ◌≤◌, ℕ, zero, suc, ◌+◌, ◌%◌, Bool, true, false, eqb, List, [], ◌∷◌, length, drop, get_or, map, set, Option, Some, None, ◌⊎◌, inl, inr, refl, sym, ap, subst, ◌∙◌, arith}
use Rattle.std.proofs.lemmas.Bool.{cases_order, eqb-false, eqb-true}
use Rattle.std.proofs.lemmas.List.{get_or-set_other, get_or-set_same, set-set, set_comm}
use Rattle.pi_guard.specs.Guards.{crc}
use Rattle.pi_tuple.specs.Finds.{finding}
use Rattle.pi_tuple.specs.Tuples.{ref_tag}
use Rattle.pi_tuple.specs.declared.checks.Check.{Check}
use Rattle.pi_tuple.specs.declared.checks.PiType.TheVariants.{One}
use Rattle.integrity_payload.specs.Payloads.{all_asked}
use Rattle.rig_api.specs.Frames.{data_of, tuple_of}
use Rattle.page_pool.specs.Cells.{gather}
use Rattle.fault_schedule.specs.declared.fault.Crossing.{Crossing}
use Rattle.fault_schedule.specs.declared.fault.Crossing.TheVariants.{TargetToMedium}
use Rattle.integrity_payload.specs.declared.payload.Owner.{Owner}
use Rattle.bio_core.specs.declared.fate.Why.{Why}
use Rattle.bio_core.specs.declared.fate.Why.TheVariants.{Target}
use Rattle.volume_table.specs.Places.{place_in, volume_len}
use Rattle.block_path.specs.Acts.{Act, State, act, tell}
use Rattle.block_path.specs.Blocks.{ActAnswer, fetched_cell, own_cell, own_frame, stored_cell, tuple_after}
use Rattle.block_path.specs.Serial.{plain, plain_tells}
use Rattle.block_path.specs.WayIn.{WayIn, adapter_finds_in, mapped_back, owner_finds, received, way_in}
use Rattle.block_path.specs.WayOut.{Fails, Refuses, Stores, WayOut, way_out}
use Rattle.block_path.specs.declared.route.Route.{Route}
use Rattle.walk_laws.specs.CalmRun.{LiesInImage}
use Rattle.walk_laws.specs.ScriptWalk.{act_of, bad_from}
use Rattle.walk_laws.specs.Settings.{Block, Setting, route}
use Rattle.walk_laws.specs.Steps.{Alters, Reads, Seals, Sets, Shows, Step, Writes, WritesPi, each_from}
use Rattle.walk_laws.specs.UnderMap.{NoneEscapes, SuppliesNoEscape, home}
use Rattle.lab_laws.proofs.Flipped.{Whole}
use Rattle.lab_laws.proofs.Ways.{in_of, target_finds}
use Rattle.lab_laws.proofs.OneLine.{Alike, StepIsOther, alike, as_read, as_written, m0, m1, none_shifted}
use Rattle.lab_laws.proofs.Marked.{IsBad, in_why}
use Rattle.lab_laws.proofs.Walking.{Holds, Suits, comes, fetched_is, holds_on, inside, read_why}
use Rattle.lab_laws.proofs.Bad.{BeginsWith, bad_ahead, begins_same, head_quiet, none_ahead}

module _ (m' : Setting) (even : m'.size % 2 ≡ 0) (image : List (List ℕ)) (lies : LiesInImage (m0 m' TargetToMedium 0 0 0 0) (volume_len m'.entries) image) (at : Crossing) (op k off byte : ℕ) (check : Check) where
  abbrev was : Setting
  was = m0 m' at op k off byte

  abbrev now : Setting
  now = m1 m' at op k off byte

  abbrev n : ℕ
  n = m'.size

  abbrev count : ℕ
  count = volume_len m'.entries

  abbrev pub Stands : State → Type 0
  Stands s = Holds m' even image lies s

  abbrev pub Fit : Step → Type 0
  Fit step = Suits m' even image lies step

  abbrev pub AllFit : List Step → Type 0
  AllFit [] = Unit {0}
  AllFit (step ∷ steps) = Fit step × AllFit steps

  abbrev pub IsOther : Step → Type 0
  IsOther step = StepIsOther m' at op k off byte step

  abbrev pub AllOther : List Step → Type 0
  AllOther [] = Unit {0}
  AllOther (step ∷ steps) = IsOther step × AllOther steps

  abbrev pub left : Setting → List Step → State → State
  left m steps s = plain act (map (act_of m) steps) s

  abbrev pub tells : Setting → List Step → State → List ActAnswer
  tells m steps s = plain_tells act tell (map (act_of m) steps) s

  abbrev pub whys : Setting → List Step → State → List (Option Why)
  whys m steps s = map (λ (a : ActAnswer). a.why) (tells m steps s)

  pub stands_on : (steps : List Step) (s : State) → AllFit steps → NoneEscapes was steps s → Stands s → Stands (left was steps s)
  stands_on [] s fit e h = h
  stands_on (step ∷ steps) s fit e h = stands_on steps (act (act_of was step) s) fit.1 e.1 (holds_on m' even image lies step s fit.0 e.0 h)

  -- ---- steps of other blocks

  pub record SameSteps (steps : List Step) (s : State) : Type 0 where
    pub does : left now steps s ≡ left was steps s
    pub answers : tells now steps s ≡ tells was steps s

  pub all_alike : (steps : List Step) (s : State) → AllOther steps → SameSteps steps s
  all_alike [] s o = record { does = refl; answers = refl }
  all_alike (step ∷ steps) s o =
      let a = alike m' at op k off byte step s o.0 in
      let next = act (act_of was step) s in
      let r = all_alike steps next o.1 in
      record {
        does = ap (left now steps) a.does ∙ r.does;
        answers = ap (λ x. x ∷ tells now steps (act (act_of now step) s)) a.answers ∙ ap (λ v. tell (act_of was step) s ∷ tells now steps v) a.does ∙ ap (λ xs. tell (act_of was step) s ∷ xs) r.answers;
      }

  -- ---- a block that is listed at once

  -- the block of this step is listed so, in place of not at all
  abbrev pub IsListed : Step → Why → Type 0
  IsListed step w = (s : State) → Stands s → Fit step → SuppliesNoEscape was step s → (tell (act_of was step) s).why ≡ None → (tell (act_of now step) s).why ≡ Some w

  pub first_bad : (f : ℕ → Step) (w : Why) → ((i : ℕ) → i ≢ k → IsOther (f i)) → IsListed (f k) w → (j c : ℕ) (s : State) → j ≤ k → k < j + c → AllFit (each_from j c f) → NoneEscapes was (each_from j c f) s → Stands s →
      bad_from j (whys was (each_from j c f) s) ≡ [] → BeginsWith k w (bad_from j (whys now (each_from j c f) s))
  first_bad f w others marked j zero s l g fit e h q = absurd (omega arith)
  first_bad f w others marked j (suc c) s l g fit e h q =
      by (λ m. first_bad f w others marked (suc j) c (act (act_of was (f j)) s) m (omega arith) fit.1 e.1 (holds_on m' even image lies (f j) s fit.0 e.0 h) p.1) (cases_order j k)
    where
      p : ((tell (act_of was (f j)) s).why ≡ None) × (bad_from (suc j) (whys was (each_from (suc j) c f) (act (act_of was (f j)) s)) ≡ [])
      p = head_quiet j (tell (act_of was (f j)) s).why (whys was (each_from (suc j) c f) (act (act_of was (f j)) s)) q

      later : (suc j ≤ k → BeginsWith k w (bad_from (suc j) (whys now (each_from (suc j) c f) (act (act_of was (f j)) s)))) → j ≢ k → suc j ≤ k → BeginsWith k w (bad_from j (whys now (each_from j (suc c) f) s))
      later next d m =
          let a = alike m' at op k off byte (f j) s (others j d) in
          let after = act (act_of now (f j)) s in
          let none : (tell (act_of now (f j)) s).why ≡ None = ap (λ (x : ActAnswer). x.why) a.answers ∙ p.0 in
          begins_same k w (bad_from (suc j) (whys now (each_from (suc j) c f) (act (act_of was (f j)) s))) (bad_from j (whys now (each_from j (suc c) f) s))
          (ap (λ v. bad_from (suc j) (whys now (each_from (suc j) c f) v)) (sym a.does) ∙ sym (none_ahead j (tell (act_of now (f j)) s).why (whys now (each_from (suc j) c f) after) none)) (next m)

      by : (suc j ≤ k → BeginsWith k w (bad_from (suc j) (whys now (each_from (suc j) c f) (act (act_of was (f j)) s)))) → (j ≡ k) ⊎ ((j < k) ⊎ (k < j)) → BeginsWith k w (bad_from j (whys now (each_from j (suc c) f) s))
      by next (inl i) =
          let step : f j ≡ f k = ap f i in
          let hit : (tell (act_of now (f j)) s).why ≡ Some w = subst (λ (x : Step). IsListed x w) (sym step) marked s h fit.0 e.0 p.0 in
          let b = bad_ahead j (tell (act_of now (f j)) s).why w (whys now (each_from (suc j) c f) (act (act_of now (f j)) s)) hit in
          subst (λ v. BeginsWith v w (bad_from j (whys now (each_from j (suc c) f) s))) i b
      by next (inr (inl m)) = later next (λ i. omega (arith, i, m)) (omega arith)
      by next (inr (inr m)) = absurd (omega arith)

  -- The block of this step is listed so, or all is done and answered alike.
  abbrev pub MayBeListed : Step → Why → Type 0
  MayBeListed step w = (s : State) → Stands s → Fit step → SuppliesNoEscape was step s → (tell (act_of was step) s).why ≡ None → ((tell (act_of now step) s).why ≡ Some w) ⊎ Alike was now step s

  others_only : (f : ℕ → Step) → ((i : ℕ) → i ≢ k → IsOther (f i)) → (j c : ℕ) → k < j → AllOther (each_from j c f)
  others_only f others j zero l = tt
  others_only f others j (suc c) l = (others j (λ e. omega (arith, e, l)), others_only f others (suc j) c (omega arith))

  -- what steps come to, where the first is done alike
  alike_then : (j : ℕ) (w : Why) (step : Step) (steps : List Step) (s : State) → Alike was now step s → (tell (act_of was step) s).why ≡ None →
      BeginsWith k w (bad_from (suc j) (whys now steps (act (act_of was step) s))) ⊎ SameSteps steps (act (act_of was step) s) → BeginsWith k w (bad_from j (whys now (step ∷ steps) s)) ⊎ SameSteps (step ∷ steps) s
  alike_then j w step steps s a quiet (inl found) =
      let none : (tell (act_of now step) s).why ≡ None = ap (λ (x : ActAnswer). x.why) a.answers ∙ quiet in
      inl (begins_same k w (bad_from (suc j) (whys now steps (act (act_of was step) s))) (bad_from j (whys now (step ∷ steps) s))
      (ap (λ v. bad_from (suc j) (whys now steps v)) (sym a.does) ∙ sym (none_ahead j (tell (act_of now step) s).why (whys now steps (act (act_of now step) s)) none)) found)
  alike_then j w step steps s a quiet (inr r) = inr (record {
    does = ap (left now steps) a.does ∙ r.does;
    answers = ap (λ x. x ∷ tells now steps (act (act_of now step) s)) a.answers ∙ ap (λ v. tell (act_of was step) s ∷ tells now steps v) a.does ∙ ap (λ xs. tell (act_of was step) s ∷ xs) r.answers;
  })

  pub first_or_same : (f : ℕ → Step) (w : Why) → ((i : ℕ) → i ≢ k → IsOther (f i)) → MayBeListed (f k) w → (j c : ℕ) (s : State) → j ≤ k → k < j + c → AllFit (each_from j c f) → NoneEscapes was (each_from j c f) s → Stands s →
      bad_from j (whys was (each_from j c f) s) ≡ [] → BeginsWith k w (bad_from j (whys now (each_from j c f) s)) ⊎ SameSteps (each_from j c f) s
  first_or_same f w others marked j zero s l g fit e h q = absurd (omega arith)
  first_or_same f w others marked j (suc c) s l g fit e h q =
      by (λ m. first_or_same f w others marked (suc j) c (act (act_of was (f j)) s) m (omega arith) fit.1 e.1 (holds_on m' even image lies (f j) s fit.0 e.0 h) p.1) (cases_order j k)
    where
      p : ((tell (act_of was (f j)) s).why ≡ None) × (bad_from (suc j) (whys was (each_from (suc j) c f) (act (act_of was (f j)) s)) ≡ [])
      p = head_quiet j (tell (act_of was (f j)) s).why (whys was (each_from (suc j) c f) (act (act_of was (f j)) s)) q

      at_mark : j ≡ k → ((tell (act_of now (f j)) s).why ≡ Some w) ⊎ Alike was now (f j) s → BeginsWith k w (bad_from j (whys now (each_from j (suc c) f) s)) ⊎ SameSteps (each_from j (suc c) f) s
      at_mark i (inl hit) = inl (subst (λ v. BeginsWith v w (bad_from j (whys now (each_from j (suc c) f) s))) i (bad_ahead j (tell (act_of now (f j)) s).why w (whys now (each_from (suc j) c f) (act (act_of now (f j)) s)) hit))
      at_mark i (inr a) = alike_then j w (f j) (each_from (suc j) c f) s a p.0 (inr (all_alike (each_from (suc j) c f) (act (act_of was (f j)) s) (others_only f others (suc j) c (omega (arith, i)))))

      by : (suc j ≤ k → BeginsWith k w (bad_from (suc j) (whys now (each_from (suc j) c f) (act (act_of was (f j)) s))) ⊎ SameSteps (each_from (suc j) c f) (act (act_of was (f j)) s)) → (j ≡ k) ⊎ ((j < k) ⊎ (k < j)) →
          BeginsWith k w (bad_from j (whys now (each_from j (suc c) f) s)) ⊎ SameSteps (each_from j (suc c) f) s
      by next (inl i) = let step : f j ≡ f k = ap f i in at_mark i (subst (λ (x : Step). MayBeListed x w) (sym step) marked s h fit.0 e.0 p.0)
      by next (inr (inl m)) = alike_then j w (f j) (each_from (suc j) c f) s (alike m' at op k off byte (f j) s (others j (λ i. omega (arith, i, m)))) p.0 (next (omega arith))
      by next (inr (inr m)) = absurd (omega arith)

  -- ---- a stored block that was altered

  module _ (virt : ℕ) (within : virt < count) (y : List ℕ) (whole : Whole n y) (bad : IsBad m' even virt check y) where
    abbrev pub c : ℕ
    c = home was virt

    -- the same with the altered block in its place
    abbrev pub spoilt : State → State
    spoilt s = record s { blocks = set s.blocks c y }

    -- Nothing is found in the block in whose place it stands.
    abbrev pub WasGood : State → Type 0
    WasGood s = (b : Block) → b.virt ≡ virt → target_finds m' [] none_shifted b (get_or s.blocks c []) ≡ None

    -- Both runs stand alike, or this block alone is altered in the one.
    abbrev pub Off : State → State → Type 0
    Off s t = (t ≡ s) ⊎ ((t ≡ spoilt s) × WasGood s)

    -- what one step comes to: the block is found, or both answer the same
    abbrev pub Goes : Step → State → State → Type 0
    Goes step s t = ((tell (act_of was step) t).why ≡ Some (Target check)) ⊎ ((tell (act_of was step) t ≡ tell (act_of was step) s) × Off (act (act_of was step) s) (act (act_of was step) t))

    still_good : (s : State) (d : ℕ) (x : List ℕ) → c ≢ d → WasGood s → WasGood (record s { blocks = set s.blocks d x })
    still_good s d x e g b v = ap (target_finds m' [] none_shifted b) (get_or-set_other s.blocks d c x [] e) ∙ g b v

    -- a block that is written elsewhere, or in its place
    written_off : (r : Route) (d own : ℕ) (reads writes : List ℕ) (w : WayOut) (back : List ℕ) (s : State) → WasGood s →
        Off (act (as_written r d own reads writes w back) s) (act (as_written r d own reads writes w back) (spoilt s))
    written_off r d own reads writes (Fails why) back s g = inr (refl, g)
    written_off r d own reads writes (Refuses why) back s g = inr (refl, g)
    written_off r d own reads writes (Stores carried x) back s g = by (eqb c d) refl
      where
        a : Act ActAnswer
        a = as_written r d own reads writes (Stores carried x) back

        by : (t : Bool) → eqb c d ≡ t → Off (act a s) (act a (spoilt s))
        by true q =
            let e : c ≡ d = eqb-true c d q in
            inl (ap (λ (bs : List (List ℕ)). record (act a s) { blocks = bs }) (ap (λ i. set (set s.blocks i y) d x) e ∙ set-set s.blocks d y x))
        by false q =
            let e = eqb-false c d q in
            inr (ap (λ (bs : List (List ℕ)). record (act a s) { blocks = bs }) (set_comm s.blocks c d y x e), still_good s d x e g)

    -- a read of another block, or of the altered one
    read_off : (b : Block) (owner : Owner) (to : List ℕ) (s : State) → Stands s → Fit (Reads b owner to) → WasGood s → Goes (Reads b owner to) s (spoilt s)
    read_off b owner to s h fit g = by (eqb d c) refl
      where
        r : Route
        r = route was b

        d : ℕ
        d = fetched_cell (was).site r

        own : ℕ
        own = own_cell (was).site r

        way : List ℕ → WayIn
        way x = way_in [] (was).site.device r owner x

        finds : b.virt ≡ virt → target_finds m' [] none_shifted b y ≡ Some check
        finds v = ap (λ (v : ℕ). finding One (all_asked m'.mode.app 0) (ref_tag (place_in m'.entries v).1) (crc (data_of n y)) (tuple_of n y)) v ∙ bad m'.mode.app

        hit : d ≡ c → (tell (act_of was (Reads b owner to)) (spoilt s)).why ≡ Some (Target check)
        hit e =
            let x = get_or (set s.blocks c y) d [] in
            let there : x ≡ y = ap (λ i. get_or (set s.blocks c y) i []) e ∙ get_or-set_same s.blocks c y [] (inside m' even image lies s h virt within) in
            let w = mapped_back r (received r y) in
            read_why m' even image lies b owner (way x) (length to) (length (get_or s.logs own []))
            ∙ ap (λ x. in_why (way x)) there
            ∙ ap in_why (comes m' even image lies b owner y)
            ∙ ap (λ o. in_why (in_of owner o (adapter_finds_in r y) (owner_finds r w) y w)) (finds (lies.apart b.virt virt fit within (sym (fetched_is m' even image lies b) ∙ e)))

        by : (t : Bool) → eqb d c ≡ t → Goes (Reads b owner to) s (spoilt s)
        by true q = inl (hit (eqb-true d c q))
        by false q =
            let there : get_or (set s.blocks c y) d [] ≡ get_or s.blocks d [] = get_or-set_other s.blocks c d y [] (eqb-false d c q) in
            inr (ap (λ x. tell (as_read r owner d own to (way x)) s) there, inr (ap (λ x. spoilt (act (as_read r owner d own to (way x)) s)) there, g))

    goes_spoilt : (step : Step) (s : State) → Stands s → Fit step → WasGood s → Goes step s (spoilt s)
    goes_spoilt (Sets to values) s h fit g = inr (refl, inr (refl, g))
    goes_spoilt (Shows from) s h fit g = inr (refl, inr (refl, g))
    goes_spoilt (Seals body tuple app rtag) s h fit g = inr (refl, inr (refl, g))
    goes_spoilt (Writes b app body) s h fit g =
        let r : Route = route was b in
        let w = way_out [] (was).site.device r (own_frame r app (gather 0 body s.bytes)) in
        inr (refl, written_off r (stored_cell (was).site r) (own_cell (was).site r) body [] w [] s g)
    goes_spoilt (WritesPi b frame) s h fit g =
        let r : Route = route was b in
        let x = gather 0 frame s.bytes in
        inr (refl, written_off r (stored_cell (was).site r) (own_cell (was).site r) frame (drop r.size frame) (way_out [] (was).site.device r x) (tuple_after r (drop r.size x)) s g)
    goes_spoilt (Reads b owner to) s h fit g = read_off b owner to s h fit g
    goes_spoilt (Alters dev lba change) s h fit g = absurd fit

    pub goes_off : (step : Step) (s t : State) → Stands s → Fit step → Off s t → Goes step s t
    goes_off step s t h fit (inl e) = inr (ap (tell (act_of was step)) e, inl (ap (act (act_of was step)) e))
    goes_off step s t h fit (inr o) = subst (Goes step s) (sym o.0) (goes_spoilt step s h fit o.1)

    -- ---- steps behind

    -- what steps come to: the target finds the first bad block, by its guard; or both answer the same
    abbrev pub Ends : ℕ → List Step → State → State → Type 0
    Ends j steps s t = ((i : ℕ) × BeginsWith i (Target check) (bad_from j (whys now steps t))) ⊎ ((tells now steps t ≡ tells was steps s) × Off (left was steps s) (left now steps t))

    -- behind a step that is done alike and isn't listed
    ends_on : (j : ℕ) (step : Step) (steps : List Step) (s t u v : State) → u ≡ act (act_of was step) s → act (act_of now step) t ≡ v → tell (act_of now step) t ≡ tell (act_of was step) s → (tell (act_of was step) s).why ≡ None →
        Ends (suc j) steps u v → Ends j (step ∷ steps) s t
    ends_on j step steps s t u v d e a none (inl found) =
        let why : (tell (act_of now step) t).why ≡ None = ap (λ (x : ActAnswer). x.why) a ∙ none in
        inl (
          found.0,
          begins_same found.0 (Target check) (bad_from (suc j) (whys now steps v)) (bad_from j (whys now (step ∷ steps) t))
              (ap (λ v. bad_from (suc j) (whys now steps v)) (sym e) ∙ sym (none_ahead j (tell (act_of now step) t).why (whys now steps (act (act_of now step) t)) why)) found.1,
        )
    ends_on j step steps s t u v d e a none (inr same) =
        inr (
          ap (λ v. tell (act_of now step) t ∷ tells now steps v) e ∙ ap (λ x. x ∷ tells now steps v) a ∙ ap (λ xs. tell (act_of was step) s ∷ xs) (same.0 ∙ ap (tells was steps) d),
          subst (λ x. Off x (left now steps (act (act_of now step) t))) (ap (left was steps) d) (subst (Off (left was steps u)) (ap (left now steps) (sym e)) same.1),
        )

    pub ends_off : (j : ℕ) (steps : List Step) (s t : State) → AllOther steps → AllFit steps → NoneEscapes was steps s → Stands s → Off s t → bad_from j (whys was steps s) ≡ [] → Ends j steps s t
    ends_off j [] s t o fit e h both q = inr (refl, both)
    ends_off j (step ∷ steps) s t o fit e h both q =
        by (λ v both. ends_off (suc j) steps (act (act_of was step) s) v o.1 fit.1 e.1 (holds_on m' even image lies step s fit.0 e.0 h) both p.1) (goes_off step s t h fit.0 both)
      where
        p : ((tell (act_of was step) s).why ≡ None) × (bad_from (suc j) (whys was steps (act (act_of was step) s)) ≡ [])
        p = head_quiet j (tell (act_of was step) s).why (whys was steps (act (act_of was step) s)) q

        by : ((v : State) → Off (act (act_of was step) s) v → Ends (suc j) steps (act (act_of was step) s) v) → Goes step s t → Ends j (step ∷ steps) s t
        by next (inl hit) =
            let a = alike m' at op k off byte step t o.0 in
            inl (j, bad_ahead j (tell (act_of now step) t).why (Target check) (whys now steps (act (act_of now step) t)) (ap (λ (x : ActAnswer). x.why) a.answers ∙ hit))
        by next (inr same) =
            let a = alike m' at op k off byte step t o.0 in
            ends_on j step steps s t (act (act_of was step) s) (act (act_of was step) t) refl a.does (a.answers ∙ same.0) p.0 (next (act (act_of was step) t) same.1)

    -- steps on pages alone
    abbrev pub AllPages : List Step → Type 0
    AllPages [] = Unit {0}
    AllPages (Sets to values ∷ steps) = AllPages steps
    AllPages (Shows from ∷ steps) = AllPages steps
    AllPages (Seals body tuple app rtag ∷ steps) = AllPages steps
    AllPages (Writes b app body ∷ steps) = ⊥
    AllPages (WritesPi b frame ∷ steps) = ⊥
    AllPages (Reads b owner to ∷ steps) = ⊥
    AllPages (Alters dev lba change ∷ steps) = ⊥

    abbrev pub Passes : List Step → State → State → Type 0
    Passes steps s t = (tells now steps t ≡ tells was steps s) × Off (left was steps s) (left now steps t)

    pages_spoilt : (steps : List Step) (s : State) → AllPages steps → WasGood s → Passes steps s (spoilt s)
    pages_spoilt [] s p g = (refl, inr (refl, g))
    pages_spoilt (Sets to values ∷ steps) s p g =
        let r = pages_spoilt steps (act (act_of was (Sets to values)) s) p g in (ap (λ xs. tell (act_of was (Sets to values)) s ∷ xs) r.0, r.1)
    pages_spoilt (Shows from ∷ steps) s p g =
        let r = pages_spoilt steps (act (act_of was (Shows from)) s) p g in (ap (λ xs. tell (act_of was (Shows from)) s ∷ xs) r.0, r.1)
    pages_spoilt (Seals body tuple app rtag ∷ steps) s p g =
        let r = pages_spoilt steps (act (act_of was (Seals body tuple app rtag)) s) p g in (ap (λ xs. tell (act_of was (Seals body tuple app rtag)) s ∷ xs) r.0, r.1)
    pages_spoilt (Writes b app body ∷ steps) s p g = absurd p
    pages_spoilt (WritesPi b frame ∷ steps) s p g = absurd p
    pages_spoilt (Reads b owner to ∷ steps) s p g = absurd p
    pages_spoilt (Alters dev lba change ∷ steps) s p g = absurd p

    pages_other : (steps : List Step) → AllPages steps → AllOther steps
    pages_other [] p = tt
    pages_other (Sets to values ∷ steps) p = (tt, pages_other steps p)
    pages_other (Shows from ∷ steps) p = (tt, pages_other steps p)
    pages_other (Seals body tuple app rtag ∷ steps) p = (tt, pages_other steps p)
    pages_other (Writes b app body ∷ steps) p = absurd p
    pages_other (WritesPi b frame ∷ steps) p = absurd p
    pages_other (Reads b owner to ∷ steps) p = absurd p
    pages_other (Alters dev lba change ∷ steps) p = absurd p

    pub pages_off : (steps : List Step) (s t : State) → AllPages steps → Off s t → Passes steps s t
    pages_off steps s t p (inl e) =
        let a = all_alike steps s (pages_other steps p) in subst (Passes steps s) (sym e) (a.answers, inl a.does)
    pages_off steps s t p (inr o) = subst (Passes steps s) (sym o.0) (pages_spoilt steps s p o.1)

    -- ---- the block that is altered

    -- the step answers the same, and leaves this block altered
    pub record IsMarked (step : Step) (s : State) : Type 0 where
      pub answers : tell (act_of now step) s ≡ tell (act_of was step) s
      pub does : act (act_of now step) s ≡ spoilt (act (act_of was step) s)
      pub good : WasGood (act (act_of was step) s)

  -- so it does for some altered block
  pub record Altered (virt : ℕ) (within : virt < count) (step : Step) (s : State) : Type 0 where
    pub y : List ℕ
    pub whole : Whole n y
    pub bad : IsBad m' even virt check y
    pub mark : IsMarked virt within y whole bad step s

  abbrev pub Marks : (virt : ℕ) → virt < count → Step → Type 0
  Marks virt within step = (s : State) → Stands s → Fit step → SuppliesNoEscape was step s → (tell (act_of was step) s).why ≡ None → Altered virt within step s

  pub record EndsSome (virt : ℕ) (within : virt < count) (j : ℕ) (steps : List Step) (s t : State) : Type 0 where
    pub y : List ℕ
    pub whole : Whole n y
    pub bad : IsBad m' even virt check y
    pub ends : Ends virt within y whole bad j steps s t

  pub mark_off : (virt : ℕ) (within : virt < count) (f : ℕ → Step) → ((i : ℕ) → i ≢ k → IsOther (f i)) → Marks virt within (f k) → (j c : ℕ) (s : State) → j ≤ k → k < j + c → AllFit (each_from j c f) → NoneEscapes was (each_from j c f) s → Stands s →
      bad_from j (whys was (each_from j c f) s) ≡ [] → EndsSome virt within j (each_from j c f) s s
  mark_off virt within f others marked j zero s l g fit e h q = absurd (omega arith)
  mark_off virt within f others marked j (suc c) s l g fit e h q =
      by (λ m. mark_off virt within f others marked (suc j) c (act (act_of was (f j)) s) m (omega arith) fit.1 e.1 next p.1) (cases_order j k)
    where
      p : ((tell (act_of was (f j)) s).why ≡ None) × (bad_from (suc j) (whys was (each_from (suc j) c f) (act (act_of was (f j)) s)) ≡ [])
      p = head_quiet j (tell (act_of was (f j)) s).why (whys was (each_from (suc j) c f) (act (act_of was (f j)) s)) q

      next : Stands (act (act_of was (f j)) s)
      next = holds_on m' even image lies (f j) s fit.0 e.0 h

      by : (suc j ≤ k → EndsSome virt within (suc j) (each_from (suc j) c f) (act (act_of was (f j)) s) (act (act_of was (f j)) s)) → (j ≡ k) ⊎ ((j < k) ⊎ (k < j)) → EndsSome virt within j (each_from j (suc c) f) s s
      by rest (inl i) =
          let after = act (act_of was (f j)) s in
          let step : f j ≡ f k = ap f i in
          let m : Altered virt within (f j) s = subst (λ (x : Step). Marks virt within x) (sym step) marked s h fit.0 e.0 p.0 in
          let other = spoilt virt within m.y m.whole m.bad after in
          let behind = ends_off virt within m.y m.whole m.bad (suc j) (each_from (suc j) c f) after other (others_only f others (suc j) c (omega (arith, i))) fit.1 e.1 next (inr (refl, m.mark.good)) p.1 in
          record { y = m.y; whole = m.whole; bad = m.bad; ends = ends_on virt within m.y m.whole m.bad j (f j) (each_from (suc j) c f) s s after other refl m.mark.does m.mark.answers p.0 behind }
      by rest (inr (inl m)) =
          let a = alike m' at op k off byte (f j) s (others j (λ i. omega (arith, i, m))) in
          let after = act (act_of was (f j)) s in
          let r = rest (omega arith) in
          record { y = r.y; whole = r.whole; bad = r.bad; ends = ends_on virt within r.y r.whole r.bad j (f j) (each_from (suc j) c f) s s after after refl a.does a.answers p.0 r.ends }
      by rest (inr (inr m)) = absurd (omega arith)
