-- A group of a write over a rig whose store call may have failed at one of its blocks.
use Rattle.std.proofs.Common.{◌≡◌, ◌<◌, ◌≤◌, ◌⊎◌, inl, inr, ℕ, zero, suc, Bool, true, false, ◌&&◌, eqb, if◌then◌else◌, List, [], ◌∷◌, ◌++◌, length, map, take, get_or, set, Option, Some, None, refl, sym, ap, subst, ◌∙◌, arith}
use Rattle.std.specs.Prelude.{Result, Ok, Err, IfSome, ltb}
use Rattle.std.proofs.lemmas.Bool.{eqb-true, false≢true, or_parts}
use Rattle.page_pool.specs.Cells.{scatter}
use Rattle.pi_tuple.specs.declared.checks.Check.{Check}
use Rattle.fault_schedule.specs.Altered.{fails_of}
use Rattle.block_path.specs.Passed.{UnitSpec, Stop, to_medium}
use Rattle.bio_core.specs.Bios.{Block}
use Rattle.bio_core.specs.declared.fate.Fate.{Fate}
use Rattle.bio_core.specs.declared.fate.Fate.TheVariants.{Bad, Good, Untouched}
use Rattle.bio_core.specs.declared.fate.Why.{Why}
use Rattle.bio_core.specs.declared.fate.Why.TheVariants.{Medium}
use Rattle.bio_core.specs.declared.request.Dir.TheVariants.{Write}
use Rattle.bio_core.specs.declared.request.Io.{Io}
use Rattle.block_path.specs.Acts.{State, act}
use Rattle.block_path.specs.Blocks.{Site, own_cell, stored_cell, stored_over, written_by}
use Rattle.block_path.specs.Moves.{carry_out}
use Rattle.block_path.specs.Routes.{Device, by_target, passage, stores_unless, target}
use Rattle.block_path.specs.Serial.{plain}
use Rattle.block_path.specs.WayOut.{Fails, Refuses, Stores, WayOut, at_device, from_adapter, goes_out}
use Rattle.run_laws.specs.Passed.{Setting, Op}
use Rattle.dix_adapter.specs.declared.adapter.Adapter.{Adapter}
use Rattle.dix_adapter.specs.Carried.{any_bad, frame_sent, is_bad, sends}
use Rattle.dix_adapter.specs.Groups.{frame_cells, frame_in, label_of, route_of}
use Rattle.dix_adapter.specs.Ways.{acts_out, cells_out, fates_out, frames_out, left_at, site_of, stopped_out, ways_out}
use Rattle.stack_walk_laws.specs.Sending.{AllGoOut, out_acts, out_fates, with_fates, with_status}
use Rattle.stack_walk_laws.specs.Slots.{Carried, Status}
use Rattle.stack_walk_laws.proofs.Recording.{arrived}
use Rattle.stack_walk_laws.proofs.Sends.{with_here, with_other}
use Rattle.stack_walk_laws.specs.Falls.{Falls, falling, forgive, forgiven, leaves_or, left_of, over_falls, really, stores_or, writes_of}
use Rattle.stack_walk_laws.specs.FollowsFalling.{AllFallen, FallsAside, HasFallen}
use Rattle.stack_walk_laws.proofs.Devices.{fall_alike}
use Rattle.stack_walk_laws.proofs.Falling.{NoneFall, all_really, aside_by, decide, elsewhere_still, fall_at, fall_if, fails_in, falls_by, here, none_of_rest, rest_none, there, with_fall}
use Rattle.stack_walk_laws.proofs.Forgiving.{AllDir, AreFresh}
use Rattle.stack_walk_laws.proofs.Switching.{out_same}
use Rattle.stack_walk_laws.proofs.Ends.{one as one_more}
use Rattle.stack_walk_laws.proofs.StillFates.{still_out}

abbrev Came : Type 0
Came = Result (List ℕ) Why

-- what came of a block and of those behind it, over the device whose store calls fail, and the block's way in truth
abbrev pub came_here : Option (List ℕ) → Came → List ℕ → List Came → List Came
came_here None (Ok stored) frame more = Ok frame ∷ more
came_here None (Err why) frame more = Err why ∷ []
came_here (Some left) came frame more = Ok frame ∷ []

abbrev pub real_way : Option (List ℕ) → Came → List ℕ → WayOut
real_way None came frame = at_device frame came
real_way (Some left) came frame = Refuses Medium

-- what came of blocks that went these ways
abbrev pub came_ways : List WayOut → List Came
came_ways [] = []
came_ways (Fails why ∷ ws) = []
came_ways (Refuses why ∷ ws) = Err why ∷ []
came_ways (Stores carried stored ∷ ws) = Ok carried ∷ came_ways ws

abbrev pub fill_here : Option (List ℕ) → Came → ℕ → (more blocks : List (List ℕ)) → List (List ℕ)
fill_here None (Ok stored) c more blocks = more
fill_here None (Err why) c more blocks = blocks
fill_here (Some left) came c more blocks = set blocks c left

abbrev pub falls_here : Option (List ℕ) → Came → Block → (i k : ℕ) → Type 0 → Type 0
falls_here None (Ok stored) b i k More = More
falls_here None (Err why) b i k More = ⊥
falls_here (Some left) came b i k More = (i ≡ b.op) × (k ≡ b.k)

pub nothing_really : (falls : Falls) (bs : List Block) → all_really falls bs [] ≡ []
nothing_really falls [] = refl
nothing_really falls (b ∷ bs) = refl

-- fates

abbrev head : Fate → List Fate → Fate
head d [] = d
head d (f ∷ fs) = f

abbrev rest : List Fate → List Fate
rest [] = []
rest (f ∷ fs) = fs

abbrev is_touched : Fate → Bool
is_touched Good = true
is_touched (Bad why) = true
is_touched Untouched = false

abbrev why_of : Why → Fate → Why
why_of d Good = d
why_of d (Bad why) = why
why_of d Untouched = d

-- statuses

pub forgiven_at : (ops : List Op) (falls : Falls) (i k : ℕ) (next told : Status) (status : ℕ → ℕ → Status) → forgive (left_of ops falls i k) next ≡ told →
    with_status i k told (forgiven ops falls status) ≡ forgiven ops falls (with_status i k next status)
forgiven_at ops falls i k next told status e = λ x j l. at j l x where
  by : (j l : ℕ) (x y : Bool) → eqb j i ≡ x → eqb l k ≡ y → (if x && y then told else forgive (left_of ops falls j l) (status j l)) ≡ forgive (left_of ops falls j l) (if x && y then next else status j l)
  by j l true true p q = sym e ∙ ap (λ u. forgive (left_of ops falls u k) next) (sym (eqb-true j i p)) ∙ ap (λ u. forgive (left_of ops falls j u) next) (sym (eqb-true l k q))
  by j l true false p q = refl
  by j l false y p q = refl

  at : (j l : ℕ) → with_status i k told (forgiven ops falls status) j l ≡ forgiven ops falls (with_status i k next status) j l
  at j l = by j l (eqb j i) (eqb l k) refl refl

pub forgiven_here : (ops : List Op) (falls : Falls) (b : Block) (next told : Status) (status : ℕ → ℕ → Status) → forgive (left_of ops falls b.op b.k) next ≡ told →
    with_status b.op b.k told (forgiven ops falls status) ≡ forgiven ops falls (with_status b.op b.k next status)
forgiven_here ops falls b next told status e = forgiven_at ops falls b.op b.k next told status e

forgive_none : (o : Option (List ℕ)) → forgive o (Carried None) ≡ Carried None
forgive_none None = refl
forgive_none (Some left) = refl

pub left_none : (ops : List Op) (falls : Falls) (b : Block) → falls (label_of b) ≡ None → left_of ops falls b.op b.k ≡ None
left_none ops falls b e = ap (λ (o : Option (List ℕ)). if writes_of ops b.op then o else None) e ∙ by (writes_of ops b.op) None where
  by : (c : Bool) (o : Option (List ℕ)) → (if c then o else o) ≡ o
  by true o = refl
  by false o = refl

left_some : (ops : List Op) (falls : Falls) (b : Block) (left : List ℕ) → writes_of ops b.op ≡ true → falls (label_of b) ≡ Some left → left_of ops falls b.op b.k ≡ Some left
left_some ops falls b left w e = ap (λ c. if c then falls (label_of b) else None) w ∙ e

pub if_some : (o : Option (List ℕ)) (P : Type 0) → ((left : List ℕ) → o ≡ Some left → P) → IfSome o (λ left. P)
if_some None P f = tt
if_some (Some left) P f = f left refl

pub some_if : (o : Option (List ℕ)) (P : Type 0) (left : List ℕ) → o ≡ Some left → IfSome o (λ left. P) → P
some_if o P left e h = subst (λ x. IfSome x (λ left. P)) e h

abbrev is_none : Option (List ℕ) → Bool
is_none None = true
is_none (Some left) = false

pub not_here : (falls : Falls) (b : Block) (i k : ℕ) (left : List ℕ) → falls (label_of b) ≡ None → falls (record { op = i; k = k }) ≡ Some left → i ≡ b.op → k ≡ b.k → ⊥
not_here falls b i k left n e p q = false≢true (sym (ap is_none e) ∙ ap (λ j. is_none (falls (record { op = j; k = k }))) p ∙ ap (λ l. is_none (falls (record { op = b.op; k = l }))) q ∙ ap is_none n)

module _ (a : Adapter) (ios : List Io) (units : List UnitSpec) (cells : List ℕ) where
  abbrev pub sent : Block → List ℕ
  sent b = frame_sent (sends a ios cells b)

  abbrev pub stored : Block → Came
  stored b = (target a.tamper).stores (route_of a ios b) (sent b)

  -- what came of the blocks over the device whose store calls fail
  abbrev pub walk_cames : Falls → List Block → List Came
  walk_cames falls [] = []
  walk_cames falls (b ∷ bs) = came_here (falls (label_of b)) (stored b) (sent b) (walk_cames falls bs)

  abbrev pub real_ways : Falls → List Block → List WayOut
  real_ways falls [] = []
  real_ways falls (b ∷ bs) = real_way (falls (label_of b)) (stored b) (sent b) ∷ real_ways falls bs

  abbrev pub plain_ways : List Block → List WayOut
  plain_ways [] = []
  plain_ways (b ∷ bs) = at_device (sent b) (stored b) ∷ plain_ways bs

  -- ways

  pub way_over : (device : Device) (b : Block) → is_bad (sends a ios cells b) ≡ false → goes_out a.tamper device (route_of a ios b) (frame_in ios cells b) ≡ at_device (sent b) (device.stores (route_of a ios b) (sent b))
  way_over device b good = by (sends a ios cells b) refl good where
    by : (w : Result (List ℕ) Check) → sends a ios cells b ≡ w → is_bad w ≡ false → goes_out a.tamper device (route_of a ios b) (frame_in ios cells b) ≡ at_device (frame_sent w) (device.stores (route_of a ios b) (frame_sent w))
    by (Err check) e good = absurd (false≢true (sym good))
    by (Ok got) e good = ap (from_adapter device (route_of a ios b)) e

  pub ways_plain : (bs : List Block) → any_bad (map (sends a ios cells) bs) ≡ false → ways_out a ios cells bs ≡ plain_ways bs
  ways_plain [] good = refl
  ways_plain (b ∷ bs) good =
      let g = or_parts (is_bad (sends a ios cells b)) (any_bad (map (sends a ios cells) bs)) good in
      one_more _ _ _ _ (way_over (target a.tamper) b g.0) (ways_plain bs g.1)

  real_none : (falls : Falls) (bs : List Block) → NoneFall falls bs → real_ways falls bs ≡ plain_ways bs
  real_none falls [] n = refl
  real_none falls (b ∷ bs) n = one_more _ _ _ _ (ap (λ o. real_way o (stored b) (sent b)) n.0) (real_none falls bs n.1)

  set_is : (falls : Falls) (ops : List Op) (bs : List Block) (at : ℕ) (left : List ℕ) → AreFresh falls ops true bs → set (plain_ways bs) at (Refuses Medium) ≡ real_ways (fall_at bs at left falls) bs
  set_is falls ops [] at left f = refl
  set_is falls ops (b ∷ bs) zero left f =
      one_more _ _ _ _ (ap (λ o. real_way o (stored b) (sent b)) (sym (here b left falls))) (sym (real_none (with_fall b left falls) bs (rest_none b left falls bs f.0.1.1 (fresh_none bs f.1))))
    where
      fresh_none : (bs : List Block) → AreFresh falls ops true bs → NoneFall falls bs
      fresh_none [] f = tt
      fresh_none (b ∷ bs) f = (f.0.0, fresh_none bs f.1)
  set_is falls ops (b ∷ bs) (suc at) left f =
      one_more _ _ _ _ (ap (λ o. real_way o (stored b) (sent b)) (sym (elsewhere_still bs at left falls b.op b.k (none_of_rest b bs f.0.1.1) ∙ f.0.0))) (set_is falls ops bs at left f.1)

  pub stopped_is : (falls : Falls) (ops : List Op) (stop : Option Stop) (limit : ℕ) (bs : List Block) → AreFresh falls ops true bs → NoneFall falls bs → limit ≡ length (frames_out (plain_ways bs)) →
      stopped_out stop (plain_ways bs) ≡ real_ways (falls_by stop limit bs falls) bs
  stopped_is falls ops None limit bs f n l = sym (real_none falls bs n)
  stopped_is falls ops (Some s) limit bs f n l = ap (λ k. if ltb s.at k then set (plain_ways bs) s.at (Refuses Medium) else plain_ways bs) (sym l) ∙ by (ltb s.at limit) where
    by : (c : Bool) → (if c then set (plain_ways bs) s.at (Refuses Medium) else plain_ways bs) ≡ real_ways (fall_if c bs s.at s.left falls) bs
    by true = set_is falls ops bs s.at s.left f
    by false = sym (real_none falls bs n)

  -- what came

  pub really_walk : (falls : Falls) (bs : List Block) → all_really falls bs (walk_cames falls bs) ≡ came_ways (real_ways falls bs)
  really_walk falls [] = refl
  really_walk falls (b ∷ bs) = by (falls (label_of b)) refl (stored b) (really_walk falls bs) where
    by : (o : Option (List ℕ)) → falls (label_of b) ≡ o → (came : Came) → all_really falls bs (walk_cames falls bs) ≡ came_ways (real_ways falls bs) →
        all_really falls (b ∷ bs) (came_here o came (sent b) (walk_cames falls bs)) ≡ came_ways (real_way o came (sent b) ∷ real_ways falls bs)
    by None e (Ok st) h = ap (λ o. really o (Ok (sent b)) ∷ all_really falls bs (walk_cames falls bs)) e ∙ ap (λ cs. Ok (sent b) ∷ cs) h
    by None e (Err why) h = ap (λ o. really o (Err why) ∷ all_really falls bs []) e ∙ ap (λ cs. Err why ∷ cs) (nothing_really falls bs)
    by (Some left) e came h = ap (λ o. really o (Ok (sent b)) ∷ all_really falls bs []) e ∙ ap (λ cs. Err Medium ∷ cs) (nothing_really falls bs)

  pub frames_are : (falls : Falls) (bs : List Block) → take (length (frames_out (real_ways falls bs))) (map frame_sent (map (sends a ios cells) bs)) ≡ frames_out (real_ways falls bs)
  frames_are falls [] = refl
  frames_are falls (b ∷ bs) = by (falls (label_of b)) (stored b) (frames_are falls bs) where
    by : (o : Option (List ℕ)) (came : Came) → take (length (frames_out (real_ways falls bs))) (map frame_sent (map (sends a ios cells) bs)) ≡ frames_out (real_ways falls bs) →
        take (length (frames_out (real_way o came (sent b) ∷ real_ways falls bs))) (sent b ∷ map frame_sent (map (sends a ios cells) bs)) ≡ frames_out (real_way o came (sent b) ∷ real_ways falls bs)
    by None (Ok st) h = ap (λ fs. sent b ∷ fs) h
    by None (Err why) h = refl
    by (Some left) came h = refl

  refused : (b : Block) (bs : List Block) (ws : List WayOut) (c : Bool) (why y : Why) → let cames = (if c then Err why ∷ [] else []) in out_fates (b ∷ bs) cames ≡ fates_out (Refuses y ∷ ws) → cames ≡ came_ways (Refuses y ∷ ws)
  refused b bs ws true why y e = ap (λ x. Err x ∷ []) (ap (λ fs. why_of why (head Untouched fs)) e)
  refused b bs ws false why y e = absurd (false≢true (ap (λ fs. is_touched (head Good fs)) e))

  pub ends_so : (falls : Falls) (bs : List Block) (c : Bool) (why : Why) → let cames = map arrived (frames_out (real_ways falls bs)) ++ (if c then Err why ∷ [] else []) in
      length cames ≤ length bs → out_fates bs cames ≡ fates_out (real_ways falls bs) → cames ≡ came_ways (real_ways falls bs)
  ends_so falls [] true why l e = absurd (omega (arith, l))
  ends_so falls [] false why l e = refl
  ends_so falls (b ∷ bs) c why l e = by (falls (label_of b)) (stored b) l e (ends_so falls bs c why) where
    by : (o : Option (List ℕ)) (came : Came) → let ws = real_ways falls bs in let end = if c then Err why ∷ [] else [] in let cames = map arrived (frames_out (real_way o came (sent b) ∷ ws)) ++ end in
        length cames ≤ suc (length bs) → out_fates (b ∷ bs) cames ≡ fates_out (real_way o came (sent b) ∷ ws) →
        (length (map arrived (frames_out ws) ++ end) ≤ length bs → out_fates bs (map arrived (frames_out ws) ++ end) ≡ fates_out ws → map arrived (frames_out ws) ++ end ≡ came_ways ws) →
        cames ≡ came_ways (real_way o came (sent b) ∷ ws)
    by None (Ok st) l e f = ap (λ cs. Ok (sent b) ∷ cs) (f (omega (arith, l)) (ap rest e))
    by None (Err y) l e f = refused b bs (real_ways falls bs) c why y e
    by (Some left) came l e f = refused b bs (real_ways falls bs) c why Medium e

  -- statuses

  pub out_statuses : (ops : List Op) (falls base : Falls) (bs : List Block) (status : ℕ → ℕ → Status) → AreFresh base ops true bs →
      with_fates bs (out_fates bs (walk_cames falls bs)) (forgiven ops falls status) ≡ forgiven ops falls (with_fates bs (out_fates bs (came_ways (real_ways falls bs))) status)
  out_statuses ops falls base [] status f = refl
  out_statuses ops falls base (b ∷ bs) status f = by (falls (label_of b)) refl (stored b) (λ status. out_statuses ops falls base bs status f.1) where
    by : (o : Option (List ℕ)) → falls (label_of b) ≡ o → (came : Came) →
        ((status : ℕ → ℕ → Status) → with_fates bs (out_fates bs (walk_cames falls bs)) (forgiven ops falls status) ≡ forgiven ops falls (with_fates bs (out_fates bs (came_ways (real_ways falls bs))) status)) →
        with_fates (b ∷ bs) (out_fates (b ∷ bs) (came_here o came (sent b) (walk_cames falls bs))) (forgiven ops falls status)
        ≡ forgiven ops falls (with_fates (b ∷ bs) (out_fates (b ∷ bs) (came_ways (real_way o came (sent b) ∷ real_ways falls bs))) status)
    by None e (Ok st) h =
        ap (with_fates bs (out_fates bs (walk_cames falls bs))) (forgiven_here ops falls b (Carried None) (Carried None) status (forgive_none (left_of ops falls b.op b.k)))
        ∙ h (with_status b.op b.k (Carried None) status)
    by None e (Err why) h =
        still_out bs (with_status b.op b.k (Carried (Some why)) (forgiven ops falls status))
        ∙ forgiven_here ops falls b (Carried (Some why)) (Carried (Some why)) status (ap (λ o. forgive o (Carried (Some why))) (left_none ops falls b e))
        ∙ ap (forgiven ops falls) (sym (still_out bs (with_status b.op b.k (Carried (Some why)) status)))
    by (Some left) e came h =
        still_out bs (with_status b.op b.k (Carried None) (forgiven ops falls status))
        ∙ forgiven_here ops falls b (Carried (Some Medium)) (Carried None) status (ap (λ o. forgive o (Carried (Some Medium))) (left_some ops falls b left f.0.1.0 e))
        ∙ ap (forgiven ops falls) (sym (still_out bs (with_status b.op b.k (Carried (Some Medium)) status)))

  -- which have fallen

  abbrev pub FallsIn : Falls → List Block → (i k : ℕ) → Type 0
  FallsIn falls [] i k = ⊥
  FallsIn falls (b ∷ bs) i k = falls_here (falls (label_of b)) (stored b) b i k (FallsIn falls bs i k)

  abbrev pub Fell : Falls → List Block → (ℕ → ℕ → Status) → Type 0
  Fell falls bs status = (i k : ℕ) (left : List ℕ) → falls (record { op = i; k = k }) ≡ Some left → HasFallen (status i k) ⊎ FallsIn falls bs i k

  pub has_fallen : (falls : Falls) (bs : List Block) (status : ℕ → ℕ → Status) → Fell falls bs status → (i k : ℕ) (left : List ℕ) → falls (record { op = i; k = k }) ≡ Some left →
      HasFallen (with_fates bs (out_fates bs (came_ways (real_ways falls bs))) status i k)
  has_fallen falls [] status h i k left e = by (h i k left e) where
    by : HasFallen (status i k) ⊎ ⊥ → HasFallen (status i k)
    by (inl x) = x
    by (inr x) = absurd x
  has_fallen falls (b ∷ bs) status h i k left e = by (falls (label_of b)) refl (stored b) h (λ status h. has_fallen falls bs status h i k left e) where
    keeps : (next : Status) (j l : ℕ) → (j ≡ b.op → l ≡ b.k → ⊥) → HasFallen (status j l) → HasFallen (with_status b.op b.k next status j l)
    keeps next j l f x = subst HasFallen (sym (with_other b.op b.k j l next status f)) x

    by : (o : Option (List ℕ)) → falls (label_of b) ≡ o → (came : Came) →
        ((j l : ℕ) (left : List ℕ) → falls (record { op = j; k = l }) ≡ Some left → HasFallen (status j l) ⊎ falls_here o came b j l (FallsIn falls bs j l)) →
        ((status : ℕ → ℕ → Status) → Fell falls bs status → HasFallen (with_fates bs (out_fates bs (came_ways (real_ways falls bs))) status i k)) →
        HasFallen (with_fates (b ∷ bs) (out_fates (b ∷ bs) (came_ways (real_way o came (sent b) ∷ real_ways falls bs))) status i k)
    by None n (Ok st) h f = f (with_status b.op b.k (Carried None) status) (λ j l more q. to j l more q (h j l more q)) where
      to : (j l : ℕ) (more : List ℕ) → falls (record { op = j; k = l }) ≡ Some more → HasFallen (status j l) ⊎ FallsIn falls bs j l → HasFallen (with_status b.op b.k (Carried None) status j l) ⊎ FallsIn falls bs j l
      to j l more q (inl x) = inl (keeps (Carried None) j l (not_here falls b j l more n q) x)
      to j l more q (inr x) = inr x
    by None n (Err why) h f = subst (λ (s : ℕ → ℕ → Status). HasFallen (s i k)) (sym (still_out bs (with_status b.op b.k (Carried (Some why)) status))) (to (h i k left e)) where
      to : HasFallen (status i k) ⊎ ⊥ → HasFallen (with_status b.op b.k (Carried (Some why)) status i k)
      to (inl x) = keeps (Carried (Some why)) i k (not_here falls b i k left n e) x
      to (inr x) = absurd x
    by (Some there) n came h f = subst (λ (s : ℕ → ℕ → Status). HasFallen (s i k)) (sym (still_out bs (with_status b.op b.k (Carried (Some Medium)) status))) (to (decide i k b) (h i k left e)) where
      to : ((i ≡ b.op) × (k ≡ b.k)) ⊎ (i ≡ b.op → k ≡ b.k → ⊥) → HasFallen (status i k) ⊎ ((i ≡ b.op) × (k ≡ b.k)) → HasFallen (with_status b.op b.k (Carried (Some Medium)) status i k)
      to (inl p) x = subst HasFallen (sym (with_here b.op b.k i k (Carried (Some Medium)) status p.0 p.1)) refl
      to (inr p) (inl x) = keeps (Carried (Some Medium)) i k p x
      to (inr p) (inr x) = absurd (p x.0 x.1)

  falls_first : (falls : Falls) (ops : List Op) (bs : List Block) (at : ℕ) (left : List ℕ) → AreFresh falls ops true bs → at < length (frames_out (plain_ways bs)) → (i k : ℕ) (more : List ℕ) →
      fall_at bs at left falls (record { op = i; k = k }) ≡ Some more → (falls (record { op = i; k = k }) ≡ Some more) ⊎ FallsIn (fall_at bs at left falls) bs i k
  falls_first falls ops [] at left f l i k more e = inl e
  falls_first falls ops (b ∷ bs) zero left f l i k more e = by (decide i k b) where
    by : ((i ≡ b.op) × (k ≡ b.k)) ⊎ (i ≡ b.op → k ≡ b.k → ⊥) → (falls (record { op = i; k = k }) ≡ Some more) ⊎ FallsIn (with_fall b left falls) (b ∷ bs) i k
    by (inl p) = inr (subst (λ o. falls_here o (stored b) b i k (FallsIn (with_fall b left falls) bs i k)) (sym (here b left falls)) p)
    by (inr p) = inl (sym (there b left falls i k p) ∙ e)
  falls_first falls ops (b ∷ bs) (suc at) left f l i k more e = by (stored b) l (falls_first falls ops bs at left f.1) where
    by : (came : Came) → suc at < length (frames_out (at_device (sent b) came ∷ plain_ways bs)) →
        (at < length (frames_out (plain_ways bs)) → (i k : ℕ) (more : List ℕ) → fall_at bs at left falls (record { op = i; k = k }) ≡ Some more → (falls (record { op = i; k = k }) ≡ Some more) ⊎ FallsIn (fall_at bs at left falls) bs i k) →
        (falls (record { op = i; k = k }) ≡ Some more) ⊎ falls_here (fall_at bs at left falls (label_of b)) came b i k (FallsIn (fall_at bs at left falls) bs i k)
    by (Err why) l h = absurd (omega (arith, l))
    by (Ok st) l h = to (h (omega (arith, l)) i k more e) where
      to : (falls (record { op = i; k = k }) ≡ Some more) ⊎ FallsIn (fall_at bs at left falls) bs i k → (falls (record { op = i; k = k }) ≡ Some more) ⊎ falls_here (fall_at bs at left falls (label_of b)) (Ok st) b i k (FallsIn (fall_at bs at left falls) bs i k)
      to (inl x) = inl x
      to (inr x) = inr (subst (λ o. falls_here o (Ok st) b i k (FallsIn (fall_at bs at left falls) bs i k)) (sym (elsewhere_still bs at left falls b.op b.k (none_of_rest b bs f.0.1.1) ∙ f.0.0)) x)

  pub fell_by : (falls : Falls) (ops : List Op) (stop : Option Stop) (limit : ℕ) (bs : List Block) (status : ℕ → ℕ → Status) → AreFresh falls ops true bs → limit ≡ length (frames_out (plain_ways bs)) → AllFallen falls status →
      Fell (falls_by stop limit bs falls) bs status
  fell_by falls ops None limit bs status f l h i k left e = inl (some_if (falls (record { op = i; k = k })) (HasFallen (status i k)) left e (h i k))
  fell_by falls ops (Some s) limit bs status f l h i k left e = by (ltb s.at limit) refl e where
    by : (c : Bool) → ltb s.at limit ≡ c → fall_if c bs s.at s.left falls (record { op = i; k = k }) ≡ Some left → HasFallen (status i k) ⊎ FallsIn (fall_if c bs s.at s.left falls) bs i k
    by true q e = to (falls_first falls ops bs s.at s.left f (let u : s.at < limit = grind (arith, q) in omega (arith, u, l)) i k left e) where
      to : (falls (record { op = i; k = k }) ≡ Some left) ⊎ FallsIn (fall_at bs s.at s.left falls) bs i k → HasFallen (status i k) ⊎ FallsIn (fall_at bs s.at s.left falls) bs i k
      to (inl x) = inl (some_if (falls (record { op = i; k = k })) (HasFallen (status i k)) left x (h i k))
      to (inr x) = inr x
    by false q e = inl (some_if (falls (record { op = i; k = k })) (HasFallen (status i k)) left e (h i k))

  -- A call fails at a block that was accepted, so not at one of which a fault line says that the medium fails it.
  stores_whole : (broken : Bool) (came : Came) (frame : List ℕ) (ws : List WayOut) → 0 < length (frames_out (at_device frame (stores_unless broken came) ∷ ws)) → broken ≡ false
  stores_whole false came frame ws l = refl
  stores_whole true (Ok st) frame ws l = absurd (omega (arith, l))
  stores_whole true (Err why) frame ws l = absurd (omega (arith, l))

  not_failing : (bs : List Block) (at : ℕ) → at < length (frames_out (plain_ways bs)) → fails_in a.tamper bs at ≡ false
  not_failing [] at l = refl
  not_failing (b ∷ bs) zero l = stores_whole (fails_of a.tamper (label_of b)) (by_target (to_medium a.tamper (passage a.tamper (route_of a ios b)) (sent b))) (sent b) (plain_ways bs) l
  not_failing (b ∷ bs) (suc at) l = by (stored b) l (not_failing bs at) where
    by : (came : Came) → suc at < length (frames_out (at_device (sent b) came ∷ plain_ways bs)) → (at < length (frames_out (plain_ways bs)) → fails_in a.tamper bs at ≡ false) → fails_in a.tamper bs at ≡ false
    by (Err why) l h = absurd (omega (arith, l))
    by (Ok st) l h = h (omega (arith, l))

  pub aside_out : (falls : Falls) (stop : Option Stop) (bs : List Block) → FallsAside a.tamper falls → FallsAside a.tamper (falls_by stop (length (frames_out (plain_ways bs))) bs falls)
  aside_out falls stop bs h = aside_by a.tamper stop (length (frames_out (plain_ways bs))) bs falls (by stop) h where
    by : (stop : Option Stop) → IfSome stop (λ s. ltb s.at (length (frames_out (plain_ways bs))) ≡ true → fails_in a.tamper bs s.at ≡ false)
    by None = tt
    by (Some s) = λ e. not_failing bs s.at (let u : s.at < length (frames_out (plain_ways bs)) = grind (arith, e) in u)

  -- stored blocks

  abbrev pub fill : Falls → List Block → List (List ℕ) → List (List ℕ)
  fill falls [] blocks = blocks
  fill falls (b ∷ bs) blocks = fill_here (falls (label_of b)) (stored b) (stored_cell (site_of a units) (route_of a ios b)) (fill falls bs blocks) blocks

  fill_none : (falls : Falls) (bs : List Block) (blocks : List (List ℕ)) → NoneFall falls bs → fill falls bs blocks ≡ blocks
  fill_none falls [] blocks n = refl
  fill_none falls (b ∷ bs) blocks n = ap (λ o. fill_here o (stored b) (stored_cell (site_of a units) (route_of a ios b)) (fill falls bs blocks) blocks) n.0 ∙ by (stored b) (fill_none falls bs blocks n.1) where
    by : (came : Came) → fill falls bs blocks ≡ blocks → fill_here None came (stored_cell (site_of a units) (route_of a ios b)) (fill falls bs blocks) blocks ≡ blocks
    by (Ok st) h = h
    by (Err why) h = refl

  fill_at : (falls : Falls) (ops : List Op) (bs : List Block) (at : ℕ) (left : List ℕ) (blocks : List (List ℕ)) → AreFresh falls ops true bs → at < length (frames_out (plain_ways bs)) →
      fill (fall_at bs at left falls) bs blocks ≡ set blocks (get_or (cells_out a ios units bs) at 0) left
  fill_at falls ops [] at left blocks f l = absurd (omega (arith, l))
  fill_at falls ops (b ∷ bs) zero left blocks f l = ap (λ o. fill_here o (stored b) (stored_cell (site_of a units) (route_of a ios b)) (fill (with_fall b left falls) bs blocks) blocks) (here b left falls)
  fill_at falls ops (b ∷ bs) (suc at) left blocks f l =
      ap (λ o. fill_here o (stored b) (stored_cell (site_of a units) (route_of a ios b)) (fill (fall_at bs at left falls) bs blocks) blocks) (elsewhere_still bs at left falls b.op b.k (none_of_rest b bs f.0.1.1) ∙ f.0.0)
      ∙ by (stored b) l (fill_at falls ops bs at left blocks f.1)
    where
      by : (came : Came) → suc at < length (frames_out (at_device (sent b) came ∷ plain_ways bs)) → (at < length (frames_out (plain_ways bs)) → fill (fall_at bs at left falls) bs blocks ≡ set blocks (get_or (cells_out a ios units bs) at 0) left) →
          fill_here None came (stored_cell (site_of a units) (route_of a ios b)) (fill (fall_at bs at left falls) bs blocks) blocks ≡ set blocks (get_or (cells_out a ios units bs) at 0) left
      by (Ok st) l h = h (omega (arith, l))
      by (Err why) l h = absurd (omega (arith, l))

  pub fill_is : (falls : Falls) (ops : List Op) (stop : Option Stop) (limit : ℕ) (bs : List Block) (blocks : List (List ℕ)) → AreFresh falls ops true bs → NoneFall falls bs → limit ≡ length (frames_out (plain_ways bs)) →
      fill (falls_by stop limit bs falls) bs blocks ≡ left_at stop limit (cells_out a ios units bs) blocks
  fill_is falls ops None limit bs blocks f n l = fill_none falls bs blocks n
  fill_is falls ops (Some s) limit bs blocks f n l = by (ltb s.at limit) refl where
    by : (c : Bool) → ltb s.at limit ≡ c → fill (fall_if c bs s.at s.left falls) bs blocks ≡ (if c then set blocks (get_or (cells_out a ios units bs) s.at 0) s.left else blocks)
    by true q = fill_at falls ops bs s.at s.left blocks f (let u : s.at < limit = grind (arith, q) in omega (arith, u, l))
    by false q = fill_none falls bs blocks n

  -- over the setting

  module _ (m : Setting) (site : m.site ≡ site_of a units) (falls : Falls) where
    goes : (b : Block) → is_bad (sends a ios cells b) ≡ false → goes_out m.site.faults (falling falls m.site.device) (route_of a ios b) (frame_in ios cells b) ≡ at_device (sent b) (stores_or (falls (label_of b)) (stored b))
    goes b good = ap (λ (s : Site). goes_out s.faults (falling falls s.device) (route_of a ios b) (frame_in ios cells b)) site ∙ way_over (falling falls (target a.tamper)) b good

    none_go : (bs : List Block) → AllGoOut (over_falls m falls) a ios cells bs []
    none_go [] = refl
    none_go (b ∷ bs) = tt

    pub all_go : (bs : List Block) → AllDir Write bs → any_bad (map (sends a ios cells) bs) ≡ false → AllGoOut (over_falls m falls) a ios cells bs (walk_cames falls bs)
    all_go [] d good = refl
    all_go (b ∷ bs) d good = let g = or_parts (is_bad (sends a ios cells b)) (any_bad (map (sends a ios cells) bs)) good in by (falls (label_of b)) (stored b) (goes b g.0) (all_go bs d.1 g.1) where
      by : (o : Option (List ℕ)) (came : Came) → goes_out m.site.faults (falling falls m.site.device) (route_of a ios b) (frame_in ios cells b) ≡ at_device (sent b) (stores_or o came) → AllGoOut (over_falls m falls) a ios cells bs (walk_cames falls bs) →
          AllGoOut (over_falls m falls) a ios cells (b ∷ bs) (came_here o came (sent b) (walk_cames falls bs))
      by None (Ok st) q h = (d.0, ((st, q), h))
      by None (Err why) q h = (d.0, (q, refl))
      by (Some left) came q h = (d.0, ((left, q), none_go bs))

    same_act : (b : Block) (now : State) → falls (label_of b) ≡ None → act (carry_out (over_falls m falls).site (route_of a ios b) (frame_cells ios b)) now ≡ act (carry_out (site_of a units) (route_of a ios b) (frame_cells ios b)) now
    same_act b now e =
        (out_same m (falling falls m.site.device) (falling (λ label. None) m.site.device) (route_of a ios b) (frame_cells ios b) (fall_alike m.site.device falls (λ label. None) (route_of a ios b) e)).state now
        ∙ ap (λ (s : Site). act (carry_out s (route_of a ios b) (frame_cells ios b)) now) site

    no_acts : (bs : List Block) → out_acts (over_falls m falls) a ios bs [] ≡ []
    no_acts [] = refl
    no_acts (b ∷ bs) = refl

    pub blocks_walk : (bs : List Block) (now : State) → now.bytes ≡ cells → any_bad (map (sends a ios cells) bs) ≡ false →
        (plain act (out_acts (over_falls m falls) a ios bs (walk_cames falls bs)) now).blocks ≡ fill falls bs (plain act (take (length (frames_out (real_ways falls bs))) (acts_out a ios units bs)) now).blocks
    blocks_walk [] now p good = refl
    blocks_walk (b ∷ bs) now p good =
        let g = or_parts (is_bad (sends a ios cells b)) (any_bad (map (sends a ios cells) bs)) good in
        by (falls (label_of b)) refl (stored b) (ap (λ x. goes_out m.site.faults (falling falls m.site.device) (route_of a ios b) (frame_in ios x b)) p ∙ goes b g.0) (λ now p. blocks_walk bs now p g.1)
      where
        by : (o : Option (List ℕ)) → falls (label_of b) ≡ o → (came : Came) → goes_out m.site.faults (falling falls m.site.device) (route_of a ios b) (frame_in ios now.bytes b) ≡ at_device (sent b) (stores_or o came) →
            ((now : State) → now.bytes ≡ cells → (plain act (out_acts (over_falls m falls) a ios bs (walk_cames falls bs)) now).blocks ≡ fill falls bs (plain act (take (length (frames_out (real_ways falls bs))) (acts_out a ios units bs)) now).blocks) →
            (plain act (out_acts (over_falls m falls) a ios (b ∷ bs) (came_here o came (sent b) (walk_cames falls bs))) now).blocks
            ≡ fill_here o came (stored_cell (site_of a units) (route_of a ios b)) (fill falls bs (plain act (take (length (frames_out (real_way o came (sent b) ∷ real_ways falls bs))) (acts_out a ios units (b ∷ bs))) now).blocks)
            (plain act (take (length (frames_out (real_way o came (sent b) ∷ real_ways falls bs))) (acts_out a ios units (b ∷ bs))) now).blocks
        by None e (Ok st) q h =
            ap (λ (s : State). (plain act (out_acts (over_falls m falls) a ios bs (walk_cames falls bs)) s).blocks) (same_act b now e)
            ∙ h (act (carry_out (site_of a units) (route_of a ios b) (frame_cells ios b)) now) p
        by None e (Err why) q h = refl
        by (Some left) e came q h =
            let at = stored_cell m.site (route_of a ios b) in
            ap (λ acts. (plain act acts (act (carry_out (over_falls m falls).site (route_of a ios b) (frame_cells ios b)) now)).blocks) (no_acts bs)
            ∙ ap (λ x. scatter (at ∷ []) (stored_over (over_falls m falls).site (route_of a ios b) (get_or now.blocks at []) (written_by (route_of a ios b) x [] (get_or now.logs (own_cell m.site (route_of a ios b)) []))).written.blocks now.blocks) q
            ∙ ap (λ o. set now.blocks at (leaves_or o (m.site.device.leaves (route_of a ios b) (get_or now.blocks at []) left) left)) e
            ∙ ap (λ (s : Site). set now.blocks (stored_cell s (route_of a ios b)) left) site
