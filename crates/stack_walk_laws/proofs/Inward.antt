-- A group of a read over a rig whose store call may have failed at one of its blocks.
use Rattle.std.proofs.Common.{◌≡◌, ◌<◌, ◌≤◌, ◌⊎◌, inl, inr, ℕ, zero, suc, ◌+◌, Bool, true, false, if◌then◌else◌, List, [], ◌∷◌, ◌++◌, length, map, get_or, set, Option, Some, None, refl, sym, ap, subst, ◌∙◌, arith}
use Rattle.std.specs.Prelude.{Result, Ok, Err, IfOk, IfSome, ltb}
use Rattle.std.proofs.lemmas.Bool.{false≢true}
use Rattle.pi_tuple.specs.declared.checks.Check.{Check}
use Rattle.fault_schedule.specs.declared.fault.FaultLine.{FaultLine}
use Rattle.block_path.specs.Passed.{UnitSpec, Stop, from_medium}
use Rattle.bio_core.specs.Bios.{Block}
use Rattle.bio_core.specs.declared.fate.Fate.{Fate}
use Rattle.bio_core.specs.declared.fate.Fate.TheVariants.{Bad, Good, Untouched}
use Rattle.bio_core.specs.declared.fate.Why.{Why}
use Rattle.bio_core.specs.declared.fate.Why.TheVariants.{Adapter as ByAdapter, Medium}
use Rattle.bio_core.specs.declared.request.Dir.TheVariants.{Read}
use Rattle.bio_core.specs.declared.request.Io.{Io}
use Rattle.block_path.specs.Blocks.{Site, fetched_cell}
use Rattle.block_path.specs.Routes.{by_target, passage, sends_unless, target}
use Rattle.block_path.specs.WayIn.{Stops, WayIn, at_host, comes_in, from_device, from_wire}
use Rattle.run_laws.specs.Passed.{Setting, Op}
use Rattle.dix_adapter.specs.declared.adapter.Adapter.{Adapter}
use Rattle.dix_adapter.specs.Carried.{arrives, carried}
use Rattle.dix_adapter.specs.Groups.{label_of, route_of}
use Rattle.dix_adapter.specs.Ways.{fates_of_in, frames_in, site_of, stopped_in, ways_in}
use Rattle.dix_adapter.proofs.Runs.{AllLong}
use Rattle.stack_walk_laws.specs.Sending.{AllComeIn, AllSized, in_fates, with_fate, with_fates, with_status}
use Rattle.stack_walk_laws.specs.Slots.{Carried, Status}
use Rattle.stack_walk_laws.proofs.Recording.{arrived}
use Rattle.stack_walk_laws.proofs.Sends.{with_here, with_other}
use Rattle.stack_walk_laws.proofs.Ends.{one as one_more}
use Rattle.stack_walk_laws.specs.Falls.{Falls, forgive, forgiven, left_of, over_falls, really, sends_or, writes_of}
use Rattle.stack_walk_laws.specs.FollowsFalling.{AllFallen, FallsAside, HasFallen}
use Rattle.stack_walk_laws.proofs.Falling.{NoneFall, all_really, aside_by, decide, elsewhere_still, fall_at, fall_if, fails_in, falls_by, here, none_fall, none_of_rest, rest_none, there, with_fall}
use Rattle.stack_walk_laws.proofs.Forgiving.{AllDir, AreFresh}
use Rattle.stack_walk_laws.proofs.Outward.{falls_here, forgiven_here, not_here, some_if, nothing_really}
use Rattle.stack_walk_laws.proofs.StillFates.{still_in}

abbrev Came : Type 0
Came = Result (List ℕ) Why

-- what came of a block and of those behind it
abbrev pub next_in : Came → List Came → List Came
next_in (Ok frame) more = Ok frame ∷ more
next_in (Err why) more = Err why ∷ []

abbrev head : Fate → List Fate → Fate
head d [] = d
head d (f ∷ fs) = f

abbrev rest : List Fate → List Fate
rest [] = []
rest (f ∷ fs) = fs

abbrev is_touched : Fate → Bool
is_touched Good = true
is_touched (Bad why) = true
is_touched Untouched = false

abbrev why_of : Why → Fate → Why
why_of d Good = d
why_of d (Bad why) = why
why_of d Untouched = d

left_unwritten : (ops : List Op) (falls : Falls) (b : Block) → writes_of ops b.op ≡ false → left_of ops falls b.op b.k ≡ None
left_unwritten ops falls b w = ap (λ c. if c then falls (label_of b) else None) w

-- a read's statuses are told as they are
pub in_statuses : (ops : List Op) (falls base : Falls) (bs : List Block) (fs : List Fate) (status : ℕ → ℕ → Status) → AreFresh base ops false bs → with_fates bs fs (forgiven ops falls status) ≡ forgiven ops falls (with_fates bs fs status)
in_statuses ops falls base [] fs status f = refl
in_statuses ops falls base (b ∷ bs) [] status f = refl
in_statuses ops falls base (b ∷ bs) (x ∷ fs) status f = ap (with_fates bs fs) (by x) ∙ in_statuses ops falls base bs fs (with_fate b x status) f.1 where
  by : (x : Fate) → with_fate b x (forgiven ops falls status) ≡ forgiven ops falls (with_fate b x status)
  by Good = forgiven_here ops falls b (Carried None) (Carried None) status (ap (λ o. forgive o (Carried None)) (left_unwritten ops falls b f.0.1.0))
  by (Bad why) = forgiven_here ops falls b (Carried (Some why)) (Carried (Some why)) status (ap (λ o. forgive o (Carried (Some why))) (left_unwritten ops falls b f.0.1.0))
  by Untouched = refl

abbrev unless_fails : Bool → Stop → Option Stop
unless_fails true s = None
unless_fails false s = Some s

-- a store call that failed, but at a block of which a fault line says that the medium fails it
abbrev pub beside : List FaultLine → List Block → Option Stop → Option Stop
beside faults bs None = None
beside faults bs (Some s) = unless_fails (fails_in faults bs s.at) s

pub beside_if : (P : Stop → Type 0) (faults : List FaultLine) (bs : List Block) (stop : Option Stop) → IfSome stop P → IfSome (beside faults bs stop) P
beside_if P faults bs None h = tt
beside_if P faults bs (Some s) h = by (fails_in faults bs s.at) where
  by : (c : Bool) → IfSome (unless_fails c s) P
  by true = tt
  by false = h

beside_not : (faults : List FaultLine) (bs : List Block) (limit : ℕ) (stop : Option Stop) → IfSome (beside faults bs stop) (λ s. ltb s.at limit ≡ true → fails_in faults bs s.at ≡ false)
beside_not faults bs limit None = tt
beside_not faults bs limit (Some s) = by (fails_in faults bs s.at) refl where
  by : (c : Bool) → fails_in faults bs s.at ≡ c → IfSome (unless_fails c s) (λ s. ltb s.at limit ≡ true → fails_in faults bs s.at ≡ false)
  by true e = tt
  by false e = λ l. e

pub aside_in : (faults : List FaultLine) (stop : Option Stop) (limit : ℕ) (bs : List Block) (falls : Falls) → FallsAside faults falls → FallsAside faults (falls_by (beside faults bs stop) limit bs falls)
aside_in faults stop limit bs falls h = aside_by faults (beside faults bs stop) limit bs falls (beside_not faults bs limit stop) h

module _ (a : Adapter) (ios : List Io) (units : List UnitSpec) (blocks : List (List ℕ)) where
  abbrev pub sent : Block → Came
  sent b = (target a.tamper).sends (route_of a ios b) (get_or blocks (fetched_cell (site_of a units) (route_of a ios b)) [])

  -- their ways over the device whose store calls fail, and what came
  abbrev pub ways_fall : Falls → List Block → List WayIn
  ways_fall falls [] = []
  ways_fall falls (b ∷ bs) = from_device a.tamper (route_of a ios b) (sends_or (falls (label_of b)) (sent b)) ∷ ways_fall falls bs

  abbrev pub came_ins : Falls → List Block → List Came
  came_ins falls [] = []
  came_ins falls (b ∷ bs) = next_in (sends_or (falls (label_of b)) (sent b)) (came_ins falls bs)

  -- ways

  fall_none : (falls : Falls) (bs : List Block) → NoneFall falls bs → ways_in a ios units blocks bs ≡ ways_fall falls bs
  fall_none falls [] n = refl
  fall_none falls (b ∷ bs) n = one_more _ _ _ _ (ap (λ o. from_device a.tamper (route_of a ios b) (sends_or o (sent b))) (sym n.0)) (fall_none falls bs n.1)

  set_in : (falls : Falls) (ops : List Op) (bs : List Block) (at : ℕ) (left : List ℕ) → AreFresh falls ops false bs → set (ways_in a ios units blocks bs) at (Stops Medium) ≡ ways_fall (fall_at bs at left falls) bs
  set_in falls ops [] at left f = refl
  set_in falls ops (b ∷ bs) zero left f =
      one_more _ _ _ _ (ap (λ o. from_device a.tamper (route_of a ios b) (sends_or o (sent b))) (sym (here b left falls))) (fall_none (with_fall b left falls) bs (rest_none b left falls bs f.0.1.1 (none_fall falls ops false bs f.1)))
  set_in falls ops (b ∷ bs) (suc at) left f =
      one_more _ _ _ _ (ap (λ o. from_device a.tamper (route_of a ios b) (sends_or o (sent b))) (sym (elsewhere_still bs at left falls b.op b.k (none_of_rest b bs f.0.1.1) ∙ f.0.0))) (set_in falls ops bs at left f.1)

  pub stopped_is : (falls : Falls) (ops : List Op) (stop : Option Stop) (bs : List Block) → AreFresh falls ops false bs →
      stopped_in stop (ways_in a ios units blocks bs) ≡ ways_fall (falls_by stop (length (frames_in (ways_in a ios units blocks bs)) + 1) bs falls) bs
  stopped_is falls ops None bs f = fall_none falls bs (none_fall falls ops false bs f)
  stopped_is falls ops (Some s) bs f = by (ltb s.at (length (frames_in (ways_in a ios units blocks bs)) + 1)) where
    by : (c : Bool) → (if c then set (ways_in a ios units blocks bs) s.at (Stops Medium) else ways_in a ios units blocks bs) ≡ ways_fall (fall_if c bs s.at s.left falls) bs
    by true = set_in falls ops bs s.at s.left f
    by false = fall_none falls bs (none_fall falls ops false bs f)

  -- A failing store call comes to no block of which a fault line says that the medium fails it: the command ends there in the same way.

  failing_still : (bs : List Block) (at : ℕ) → fails_in a.tamper bs at ≡ true → set (ways_in a ios units blocks bs) at (Stops Medium) ≡ ways_in a ios units blocks bs
  failing_still [] at e = refl
  failing_still (b ∷ bs) zero e =
      ap (λ c. from_device a.tamper (route_of a ios b) (sends_unless c (by_target (from_medium a.tamper (passage a.tamper (route_of a ios b)) (get_or blocks (fetched_cell (site_of a units) (route_of a ios b)) [])))) ∷ ways_in a ios units blocks bs) (sym e)
  failing_still (b ∷ bs) (suc at) e = ap (λ ws. comes_in a.tamper (target a.tamper) (route_of a ios b) (get_or blocks (fetched_cell (site_of a units) (route_of a ios b)) []) ∷ ws) (failing_still bs at e)

  pub stops_alike : (stop : Option Stop) (bs : List Block) → stopped_in stop (ways_in a ios units blocks bs) ≡ stopped_in (beside a.tamper bs stop) (ways_in a ios units blocks bs)
  stops_alike None bs = refl
  stops_alike (Some s) bs = by (fails_in a.tamper bs s.at) refl where
    by : (c : Bool) → fails_in a.tamper bs s.at ≡ c → stopped_in (Some s) (ways_in a ios units blocks bs) ≡ stopped_in (unless_fails c s) (ways_in a ios units blocks bs)
    by true e = at (ltb s.at (length (frames_in (ways_in a ios units blocks bs)) + 1)) where
      at : (d : Bool) → (if d then set (ways_in a ios units blocks bs) s.at (Stops Medium) else ways_in a ios units blocks bs) ≡ ways_in a ios units blocks bs
      at true = failing_still bs s.at e
      at false = refl
    by false e = refl

  -- what came

  pub really_in : (falls : Falls) (bs : List Block) → all_really falls bs (came_ins falls bs) ≡ came_ins falls bs
  really_in falls [] = refl
  really_in falls (b ∷ bs) = by (falls (label_of b)) refl (sent b) (really_in falls bs) where
    by : (o : Option (List ℕ)) → falls (label_of b) ≡ o → (came : Came) → all_really falls bs (came_ins falls bs) ≡ came_ins falls bs →
        all_really falls (b ∷ bs) (next_in (sends_or o came) (came_ins falls bs)) ≡ next_in (sends_or o came) (came_ins falls bs)
    by None e (Ok frame) h = ap (λ o. really o (Ok frame) ∷ all_really falls bs (came_ins falls bs)) e ∙ ap (λ cs. Ok frame ∷ cs) h
    by None e (Err why) h = ap (λ o. really o (Err why) ∷ all_really falls bs []) e ∙ ap (λ cs. Err why ∷ cs) (nothing_really falls bs)
    by (Some left) e came h = ap (λ o. really o (Err Medium) ∷ all_really falls bs []) e ∙ ap (λ cs. Err Medium ∷ cs) (nothing_really falls bs)

  pub ends_so : (falls : Falls) (bs : List Block) (c : Bool) (why : Why) → let cames = map arrived (frames_in (ways_fall falls bs)) ++ (if c then Err why ∷ [] else []) in
      length cames ≤ length bs → in_fates a ios bs cames ≡ fates_of_in (ways_fall falls bs) → cames ≡ came_ins falls bs
  ends_so falls [] true why l e = absurd (omega (arith, l))
  ends_so falls [] false why l e = refl
  ends_so falls (b ∷ bs) c why l e = by (sends_or (falls (label_of b)) (sent b)) c l e (ends_so falls bs c why) where
    by : (x : Came) (c : Bool) → let ws = ways_fall falls bs in let way = from_device a.tamper (route_of a ios b) x in let end = if c then Err why ∷ [] else [] in
        length (map arrived (frames_in (way ∷ ws)) ++ end) ≤ suc (length bs) → in_fates a ios (b ∷ bs) (map arrived (frames_in (way ∷ ws)) ++ end) ≡ fates_of_in (way ∷ ws) →
        (length (map arrived (frames_in ws) ++ end) ≤ length bs → in_fates a ios bs (map arrived (frames_in ws) ++ end) ≡ fates_of_in ws → map arrived (frames_in ws) ++ end ≡ came_ins falls bs) →
        map arrived (frames_in (way ∷ ws)) ++ end ≡ next_in x (came_ins falls bs)
    by (Err y) true l e f = ap (λ x. Err x ∷ []) (ap (λ fs. why_of why (head Untouched fs)) e)
    by (Err y) false l e f = absurd (false≢true (ap (λ fs. is_touched (head Good fs)) e))
    by (Ok frame) c l e f = at (from_wire a.tamper (route_of a ios b) frame) l e where
      at : (y : Result (List ℕ) Check) → let ws = ways_fall falls bs in let way = at_host frame y in let end = if c then Err why ∷ [] else [] in
          length (map arrived (frames_in (way ∷ ws)) ++ end) ≤ suc (length bs) → in_fates a ios (b ∷ bs) (map arrived (frames_in (way ∷ ws)) ++ end) ≡ fates_of_in (way ∷ ws) →
          map arrived (frames_in (way ∷ ws)) ++ end ≡ Ok frame ∷ came_ins falls bs
      at (Ok got) l e = ap (λ cs. Ok frame ∷ cs) (f (omega (arith, l)) (ap rest e))
      at (Err check) l e = ap (λ cs. Ok frame ∷ cs) (f (omega (arith, l)) (ap rest e))

  -- which have fallen

  abbrev pub FallsIn : Falls → List Block → (i k : ℕ) → Type 0
  FallsIn falls [] i k = ⊥
  FallsIn falls (b ∷ bs) i k = falls_here (falls (label_of b)) (sent b) b i k (FallsIn falls bs i k)

  abbrev pub Fell : Falls → List Block → (ℕ → ℕ → Status) → Type 0
  Fell falls bs status = (i k : ℕ) (left : List ℕ) → falls (record { op = i; k = k }) ≡ Some left → HasFallen (status i k) ⊎ FallsIn falls bs i k

  -- some status that was carried
  some_carried : (b : Block) (w : Result (List ℕ) Check) → (why : Option Why) × ((status : ℕ → ℕ → Status) → with_fate b (carried w) status ≡ with_status b.op b.k (Carried why) status)
  some_carried b (Ok got) = (None, λ status. refl)
  some_carried b (Err check) = (Some (ByAdapter check), λ status. refl)

  pub has_fallen : (falls : Falls) (bs : List Block) (status : ℕ → ℕ → Status) → Fell falls bs status → (i k : ℕ) (left : List ℕ) → falls (record { op = i; k = k }) ≡ Some left →
      HasFallen (with_fates bs (in_fates a ios bs (came_ins falls bs)) status i k)
  has_fallen falls [] status h i k left e = by (h i k left e) where
    by : HasFallen (status i k) ⊎ ⊥ → HasFallen (status i k)
    by (inl x) = x
    by (inr x) = absurd x
  has_fallen falls (b ∷ bs) status h i k left e = by (falls (label_of b)) refl (sent b) h (λ status h. has_fallen falls bs status h i k left e) where
    keeps : (next : Status) (j l : ℕ) → (j ≡ b.op → l ≡ b.k → ⊥) → HasFallen (status j l) → HasFallen (with_status b.op b.k next status j l)
    keeps next j l f x = subst HasFallen (sym (with_other b.op b.k j l next status f)) x

    by : (o : Option (List ℕ)) → falls (label_of b) ≡ o → (came : Came) →
        ((j l : ℕ) (left : List ℕ) → falls (record { op = j; k = l }) ≡ Some left → HasFallen (status j l) ⊎ falls_here o came b j l (FallsIn falls bs j l)) →
        ((status : ℕ → ℕ → Status) → Fell falls bs status → HasFallen (with_fates bs (in_fates a ios bs (came_ins falls bs)) status i k)) →
        HasFallen (with_fates (b ∷ bs) (in_fates a ios (b ∷ bs) (next_in (sends_or o came) (came_ins falls bs))) status i k)
    by None n (Ok frame) h f =
        let c = some_carried b (arrives a ios b frame) in
        subst (λ (s : ℕ → ℕ → Status). HasFallen (with_fates bs (in_fates a ios bs (came_ins falls bs)) s i k)) (sym (c.1 status)) (f (with_status b.op b.k (Carried c.0) status) (λ j l more q. to c.0 j l more q (h j l more q)))
      where
        to : (why : Option Why) (j l : ℕ) (more : List ℕ) → falls (record { op = j; k = l }) ≡ Some more → HasFallen (status j l) ⊎ FallsIn falls bs j l → HasFallen (with_status b.op b.k (Carried why) status j l) ⊎ FallsIn falls bs j l
        to why j l more q (inl x) = inl (keeps (Carried why) j l (not_here falls b j l more n q) x)
        to why j l more q (inr x) = inr x
    by None n (Err why) h f = subst (λ (s : ℕ → ℕ → Status). HasFallen (s i k)) (sym (still_in a ios bs (with_status b.op b.k (Carried (Some why)) status))) (to (h i k left e)) where
      to : HasFallen (status i k) ⊎ ⊥ → HasFallen (with_status b.op b.k (Carried (Some why)) status i k)
      to (inl x) = keeps (Carried (Some why)) i k (not_here falls b i k left n e) x
      to (inr x) = absurd x
    by (Some there) n came h f = subst (λ (s : ℕ → ℕ → Status). HasFallen (s i k)) (sym (still_in a ios bs (with_status b.op b.k (Carried (Some Medium)) status))) (to (decide i k b) (h i k left e)) where
      to : ((i ≡ b.op) × (k ≡ b.k)) ⊎ (i ≡ b.op → k ≡ b.k → ⊥) → HasFallen (status i k) ⊎ ((i ≡ b.op) × (k ≡ b.k)) → HasFallen (with_status b.op b.k (Carried (Some Medium)) status i k)
      to (inl p) x = subst HasFallen (sym (with_here b.op b.k i k (Carried (Some Medium)) status p.0 p.1)) refl
      to (inr p) (inl x) = keeps (Carried (Some Medium)) i k p x
      to (inr p) (inr x) = absurd (p x.0 x.1)

  falls_first : (falls : Falls) (ops : List Op) (bs : List Block) (at : ℕ) (left : List ℕ) → AreFresh falls ops false bs → at ≤ length (frames_in (ways_in a ios units blocks bs)) → (i k : ℕ) (more : List ℕ) →
      fall_at bs at left falls (record { op = i; k = k }) ≡ Some more → (falls (record { op = i; k = k }) ≡ Some more) ⊎ FallsIn (fall_at bs at left falls) bs i k
  falls_first falls ops [] at left f l i k more e = inl e
  falls_first falls ops (b ∷ bs) zero left f l i k more e = by (decide i k b) where
    by : ((i ≡ b.op) × (k ≡ b.k)) ⊎ (i ≡ b.op → k ≡ b.k → ⊥) → (falls (record { op = i; k = k }) ≡ Some more) ⊎ FallsIn (with_fall b left falls) (b ∷ bs) i k
    by (inl p) = inr (subst (λ o. falls_here o (sent b) b i k (FallsIn (with_fall b left falls) bs i k)) (sym (here b left falls)) p)
    by (inr p) = inl (sym (there b left falls i k p) ∙ e)
  falls_first falls ops (b ∷ bs) (suc at) left f l i k more e = by (sent b) l (falls_first falls ops bs at left f.1) where
    by : (came : Came) → suc at ≤ length (frames_in (from_device a.tamper (route_of a ios b) came ∷ ways_in a ios units blocks bs)) →
        (at ≤ length (frames_in (ways_in a ios units blocks bs)) → (i k : ℕ) (more : List ℕ) → fall_at bs at left falls (record { op = i; k = k }) ≡ Some more → (falls (record { op = i; k = k }) ≡ Some more) ⊎ FallsIn (fall_at bs at left falls) bs i k) →
        (falls (record { op = i; k = k }) ≡ Some more) ⊎ falls_here (fall_at bs at left falls (label_of b)) came b i k (FallsIn (fall_at bs at left falls) bs i k)
    by (Err why) l h = absurd (omega (arith, l))
    by (Ok frame) l h = to (h (less (from_wire a.tamper (route_of a ios b) frame) l) i k more e) where
      less : (y : Result (List ℕ) Check) → suc at ≤ length (frames_in (at_host frame y ∷ ways_in a ios units blocks bs)) → at ≤ length (frames_in (ways_in a ios units blocks bs))
      less (Ok got) l = omega (arith, l)
      less (Err check) l = omega (arith, l)

      to : (falls (record { op = i; k = k }) ≡ Some more) ⊎ FallsIn (fall_at bs at left falls) bs i k → (falls (record { op = i; k = k }) ≡ Some more) ⊎ falls_here (fall_at bs at left falls (label_of b)) (Ok frame) b i k (FallsIn (fall_at bs at left falls) bs i k)
      to (inl x) = inl x
      to (inr x) = inr (subst (λ o. falls_here o (Ok frame) b i k (FallsIn (fall_at bs at left falls) bs i k)) (sym (elsewhere_still bs at left falls b.op b.k (none_of_rest b bs f.0.1.1) ∙ f.0.0)) x)

  pub fell_by : (falls : Falls) (ops : List Op) (stop : Option Stop) (bs : List Block) (status : ℕ → ℕ → Status) → AreFresh falls ops false bs → AllFallen falls status →
      Fell (falls_by stop (length (frames_in (ways_in a ios units blocks bs)) + 1) bs falls) bs status
  fell_by falls ops None bs status f h i k left e = inl (some_if (falls (record { op = i; k = k })) (HasFallen (status i k)) left e (h i k))
  fell_by falls ops (Some s) bs status f h i k left e = by (ltb s.at (length (frames_in (ways_in a ios units blocks bs)) + 1)) refl e where
    by : (c : Bool) → ltb s.at (length (frames_in (ways_in a ios units blocks bs)) + 1) ≡ c → fall_if c bs s.at s.left falls (record { op = i; k = k }) ≡ Some left → HasFallen (status i k) ⊎ FallsIn (fall_if c bs s.at s.left falls) bs i k
    by true q e = to (falls_first falls ops bs s.at s.left f (let u : s.at < length (frames_in (ways_in a ios units blocks bs)) + 1 = grind (arith, q) in omega (arith, u)) i k left e) where
      to : (falls (record { op = i; k = k }) ≡ Some left) ⊎ FallsIn (fall_at bs s.at s.left falls) bs i k → HasFallen (status i k) ⊎ FallsIn (fall_at bs s.at s.left falls) bs i k
      to (inl x) = inl (some_if (falls (record { op = i; k = k })) (HasFallen (status i k)) left x (h i k))
      to (inr x) = inr x
    by false q e = inl (some_if (falls (record { op = i; k = k })) (HasFallen (status i k)) left e (h i k))

  -- over the setting

  module _ (m : Setting) (site : m.site ≡ site_of a units) (falls : Falls) where
    none_come : (bs : List Block) → AllComeIn (over_falls m falls) a ios blocks bs []
    none_come [] = refl
    none_come (b ∷ bs) = tt

    pub all_come : (bs : List Block) → AllDir Read bs → AllComeIn (over_falls m falls) a ios blocks bs (came_ins falls bs)
    all_come [] d = refl
    all_come (b ∷ bs) d =
        by (sends_or (falls (label_of b)) (sent b)) (ap (λ (s : Site). sends_or (falls (label_of b)) (s.device.sends (route_of a ios b) (get_or blocks (fetched_cell s (route_of a ios b)) []))) site) (all_come bs d.1)
      where
        by : (x : Came) → sends_or (falls (label_of b)) (m.site.device.sends (route_of a ios b) (get_or blocks (fetched_cell m.site (route_of a ios b)) [])) ≡ x → AllComeIn (over_falls m falls) a ios blocks bs (came_ins falls bs) →
            AllComeIn (over_falls m falls) a ios blocks (b ∷ bs) (next_in x (came_ins falls bs))
        by (Ok frame) q h = (d.0, (q, h))
        by (Err why) q h = (d.0, (q, none_come bs))

    -- the frames that were carried have the wire's size
    pub long_frames : (w : ℕ) (bs : List Block) → AllSized m a ios blocks w bs → AllLong w (frames_in (ways_fall falls bs))
    long_frames w [] h = tt
    long_frames w (b ∷ bs) h =
        by (falls (label_of b)) (sent b) (subst (λ x. IfOk x (λ frame. length frame ≡ w)) (ap (λ (s : Site). s.device.sends (route_of a ios b) (get_or blocks (fetched_cell s (route_of a ios b)) [])) site) h.0) (long_frames w bs h.1)
      where
        by : (o : Option (List ℕ)) (x : Came) → IfOk x (λ frame. length frame ≡ w) → AllLong w (frames_in (ways_fall falls bs)) → AllLong w (frames_in (from_device a.tamper (route_of a ios b) (sends_or o x) ∷ ways_fall falls bs))
        by (Some left) x l more = tt
        by None (Err why) l more = tt
        by None (Ok frame) l more = at (from_wire a.tamper (route_of a ios b) frame) where
          at : (y : Result (List ℕ) Check) → AllLong w (frames_in (at_host frame y ∷ ways_fall falls bs))
          at (Ok got) = (l, more)
          at (Err check) = (l, more)
