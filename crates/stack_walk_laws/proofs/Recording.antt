-- A command of a group over any rig, by what stands on record.
use Rattle.std.proofs.Common.{◌≡◌, ◌<◌, ◌≤◌, ℕ, zero, suc, ◌-◌, Bool, true, false, ◌&&◌, ◌||◌, eqb, if◌then◌else◌, List, [], ◌∷◌, ◌++◌, length, map, take, drop, replicate, Option, Some, None, refl, sym, ap, subst, ◌∙◌, arith, length-append}
use Rattle.std.specs.Prelude.{Result, Ok, Err, min, ltb}
use Rattle.std.proofs.lemmas.Bool.{eq-eqb, eqb-true, false≢true}
use Rattle.std.proofs.lemmas.List.{length-map, length-take}
use Rattle.page_pool.specs.Cells.{flat}
use Rattle.pi_tuple.specs.declared.checks.Check.{Check}
use Rattle.fault_schedule.specs.declared.Label.{Label}
use Rattle.block_path.specs.Passed.{frames_of}
use Rattle.block_path.proofs.Passed.{frames_length}
use Rattle.dix_adapter.specs.Passed.{Outcome, RigState}
use Rattle.bio_core.specs.Bios.{Block}
use Rattle.bio_core.specs.declared.bio.Bio.{Bio}
use Rattle.bio_core.specs.declared.fate.Fate.{Fate}
use Rattle.bio_core.specs.declared.fate.Fate.TheVariants.{Bad, Good, Untouched}
use Rattle.bio_core.specs.declared.fate.Why.{Why}
use Rattle.bio_core.specs.declared.fate.Why.TheVariants.{Adapter as ByAdapter}
use Rattle.bio_core.specs.declared.request.Dir.TheVariants.{Read, Write}
use Rattle.bio_core.specs.declared.request.Io.{Io}
use Rattle.block_path.specs.Acts.{State}
use Rattle.block_path.specs.Blocks.{Sent, Site}
use Rattle.block_path.specs.Routes.{told_by}
use Rattle.block_path.specs.WayOut.{Refuses, Stores, at_device, from_adapter, goes_out, to_wire}
use Rattle.block_path.specs.Senses.{why_ended}
use Rattle.run_laws.specs.Passed.{Setting, Op}
use Rattle.run_laws.specs.Records.{came_of, find, is_labelled, recorded, stamped}
use Rattle.run_laws.specs.ToldRun.{came_by, came_in, told}
use Rattle.dix_adapter.specs.declared.adapter.Adapter.{Adapter}
use Rattle.dix_adapter.specs.Carried.{any_bad, arrives, carried, fates_in, frame_len, frame_sent, is_bad, land, landed, sends}
use Rattle.dix_adapter.specs.Groups.{IsCarriedGroup, IsProtect, blocks_in, first_of, frame_cells, frame_in, label_of, route_of, size}
use Rattle.dix_adapter.specs.Outcomes.{done_of, rest_of}
use Rattle.dix_adapter.specs.Ways.{RecordedIn, RecordedOut}
use Rattle.dix_adapter.proofs.Blocks.{length-in}
use Rattle.stack_walk_laws.specs.OnRecord.{put_each}
use Rattle.stack_walk_laws.proofs.Puts.{InTurn, goes_in, goes_out as went_out, turn}
use Rattle.stack_walk_laws.specs.Following.{Follows}
use Rattle.stack_walk_laws.specs.Gate.{BlockSpot}
use Rattle.stack_walk_laws.specs.Sending.{AllComeIn, AllGoOut, AllGoing, FollowsOn, IsElsewhere, NoneBefore, in_fates, is_carried, land_all, out_fates, with_fate, with_fates, with_status}
use Rattle.stack_walk_laws.specs.Slots.{Carried, Status}
use Rattle.stack_walk_laws.proofs.OverDevice.{going_over}
use Rattle.stack_walk_laws.proofs.Sends.{in_all, out_all, with_here, with_other}
use Rattle.stack_walk_laws.proofs.Switch.{switch}
use Rattle.stack_walk_laws.proofs.StillFates.{still_out, still_in}

abbrev Came : Type 0
Came = Result (List ℕ) Why

abbrev pub arrived : List ℕ → Came
arrived frame = Ok frame

-- finding

abbrev label_at : ℕ → ℕ → Label
label_at i k = record { op = i; k = k }

-- these two numbers are none of these blocks'
abbrev IsNone : (i k : ℕ) → List Block → Type 0
IsNone i k [] = Unit {0}
IsNone i k (b ∷ bs) = (i ≡ b.op → k ≡ b.k → ⊥) × IsNone i k bs

elsewhere_none : (b : Block) (bs : List Block) → IsElsewhere b bs → IsNone b.op b.k bs
elsewhere_none b [] h = tt
elsewhere_none b (c ∷ bs) h = ((λ p q. h.0 (sym p) (sym q)), elsewhere_none b bs h.1)

abbrev is_some : Option Sent → Bool
is_some None = false
is_some (Some e) = true

find_more : (l : Label) (es : List Sent) (e : Sent) → is_labelled l e ≡ false → find l (es ++ (e ∷ [])) ≡ find l es
find_more l [] e h = rw h refl
find_more l (x ∷ es) e h = ap (λ (o : Option Sent). if is_labelled l x then Some x else o) (find_more l es e h)

find_last : (l : Label) (es : List Sent) (e : Sent) → is_labelled l e ≡ true → find l es ≡ None → find l (es ++ (e ∷ [])) ≡ Some e
find_last l [] e h n = rw h refl
find_last l (x ∷ es) e h n = by (is_labelled l x) n (find_last l es e h) where
  by : (c : Bool) → (if c then Some x else find l es) ≡ None → (find l es ≡ None → find l (es ++ (e ∷ [])) ≡ Some e) → (if c then Some x else find l (es ++ (e ∷ []))) ≡ Some e
  by true n f = absurd (false≢true (sym (ap is_some n)))
  by false n f = f n

unlike : (i k j l : ℕ) → (j ≡ i → l ≡ k → ⊥) → (eqb i j && eqb k l) ≡ false
unlike i k j l h = by (eqb i j) (eqb k l) refl refl where
  by : (x y : Bool) → eqb i j ≡ x → eqb k l ≡ y → (x && y) ≡ false
  by true true e f = absurd (h (sym (eqb-true i j e)) (sym (eqb-true k l f)))
  by true false e f = refl
  by false y e f = refl

-- each block of a group that was carried is found, and no other

find_put : (s : Site) (i k : ℕ) (bs : List Block) (cames : List Came) (es : List Sent) → IsNone i k bs → find (label_at i k) (put_each s bs cames es) ≡ find (label_at i k) es
find_put s i k [] cames es h = refl
find_put s i k (b ∷ bs) [] es h = refl
find_put s i k (b ∷ bs) (c ∷ cames) es h =
    find_put s i k bs cames (es ++ (stamped s es (label_of b) b.dir b.dev b.lba c ∷ [])) h.1 ∙ find_more (label_at i k) es (stamped s es (label_of b) b.dir b.dev b.lba c) (unlike b.op b.k i k h.0)

-- a block is found with what came of it
abbrev EachCame : List Sent → List Block → List Came → Type 0
EachCame es [] cames = Unit {0}
EachCame es (b ∷ bs) [] = Unit {0}
EachCame es (b ∷ bs) (c ∷ cames) = (came_by es (label_of b) ≡ c) × EachCame es bs cames

pub same_numbers : (i k : ℕ) → (eqb i i && eqb k k) ≡ true
same_numbers i k = rw (eq-eqb i i refl) (rw (eq-eqb k k refl) refl)

module _ (m : Setting) (n : ℕ) (ops : List Op) (a : Adapter) (ios : List Io) (logs : ℕ) where
  -- nothing stands on record of the blocks behind
  none_more : (b : Block) (c : Came) (why : Option Why) (status : ℕ → ℕ → Status) (es : List Sent) → NoneBefore status es → NoneBefore (with_status b.op b.k (Carried why) status) (es ++ (stamped m.site es (label_of b) b.dir b.dev b.lba c ∷ []))
  none_more b c why status es h i k e = by (eqb i b.op) (eqb k b.k) refl refl where
    by : (x y : Bool) → eqb i b.op ≡ x → eqb k b.k ≡ y → find (label_at i k) (es ++ (stamped m.site es (label_of b) b.dir b.dev b.lba c ∷ [])) ≡ None
    by true true p q = absurd (false≢true (sym e ∙ ap is_carried (with_here b.op b.k i k (Carried why) status (eqb-true i b.op p) (eqb-true k b.k q))))
    by true false p q =
        let other : i ≡ b.op → k ≡ b.k → ⊥ = λ u v. false≢true (sym q ∙ eq-eqb k b.k v) in
        find_more (label_at i k) es (stamped m.site es (label_of b) b.dir b.dev b.lba c) (unlike b.op b.k i k other) ∙ h i k (ap is_carried (sym (with_other b.op b.k i k (Carried why) status other)) ∙ e)
    by false y p q =
        let other : i ≡ b.op → k ≡ b.k → ⊥ = λ u v. false≢true (sym p ∙ eq-eqb i b.op u) in
        find_more (label_at i k) es (stamped m.site es (label_of b) b.dir b.dev b.lba c) (unlike b.op b.k i k other) ∙ h i k (ap is_carried (sym (with_other b.op b.k i k (Carried why) status other)) ∙ e)

  -- what becomes of the blocks that came, and of no others
  abbrev pub AreFates : List Block → List Came → List Fate → Type 0
  AreFates [] cames fs = Unit {0}
  AreFates (b ∷ bs) [] fs = (status : ℕ → ℕ → Status) → with_fates (b ∷ bs) fs status ≡ status
  AreFates (b ∷ bs) (c ∷ cames) [] = ⊥
  AreFates (b ∷ bs) (c ∷ cames) (f ∷ fs) = ((why : Option Why) × ((status : ℕ → ℕ → Status) → with_fate b f status ≡ with_status b.op b.k (Carried why) status)) × AreFates bs cames fs

  pub out_are : (bs : List Block) (cames : List Came) → AreFates bs cames (out_fates bs cames)
  out_are [] cames = tt
  out_are (b ∷ bs) [] = λ status. still_out bs status
  out_are (b ∷ bs) (Ok frame ∷ cames) = ((None, λ status. refl), out_are bs cames)
  out_are (b ∷ bs) (Err why ∷ cames) = ((Some why, λ status. refl), out_are bs cames)

  pub in_are : (bs : List Block) (cames : List Came) → AreFates bs cames (in_fates a ios bs cames)
  in_are [] cames = tt
  in_are (b ∷ bs) [] = λ status. still_in a ios bs status
  in_are (b ∷ bs) (Err why ∷ cames) = ((Some why, λ status. refl), in_are bs cames)
  in_are (b ∷ bs) (Ok frame ∷ cames) = (by (arrives a ios b frame), in_are bs cames) where
    by : (w : Result (List ℕ) Check) → (why : Option Why) × ((status : ℕ → ℕ → Status) → with_fate b (carried w) status ≡ with_status b.op b.k (Carried why) status)
    by (Ok got) = (None, λ status. refl)
    by (Err check) = (Some (ByAdapter check), λ status. refl)

  pub none_after : (bs : List Block) (cames : List Came) (fs : List Fate) (status : ℕ → ℕ → Status) (es : List Sent) → AreFates bs cames fs → NoneBefore status es → NoneBefore (with_fates bs fs status) (put_each m.site bs cames es)
  none_after [] cames fs status es f h = h
  none_after (b ∷ bs) [] fs status es f h = subst (λ st. NoneBefore st es) (sym (f status)) h
  none_after (b ∷ bs) (c ∷ cames) [] status es f h = absurd f
  none_after (b ∷ bs) (c ∷ cames) (x ∷ fs) status es f h =
      none_after bs cames fs (with_fate b x status) (es ++ (stamped m.site es (label_of b) b.dir b.dev b.lba c ∷ [])) f.1
      (subst (λ st. NoneBefore st (es ++ (stamped m.site es (label_of b) b.dir b.dev b.lba c ∷ []))) (sym (f.0.1 status)) (none_more b c f.0.0 status es h))

  abbrev AllNone : List Sent → List Block → Type 0
  AllNone es [] = Unit {0}
  AllNone es (b ∷ bs) = (find (label_of b) es ≡ None) × AllNone es bs

  all_none : (status : ℕ → ℕ → Status) (es : List Sent) (bs : List Block) (spots : List BlockSpot) → AllGoing m n ops a ios logs status bs spots → NoneBefore status es → AllNone es bs
  all_none status es [] spots g h = tt
  all_none status es (b ∷ bs) [] g h = absurd g
  all_none status es (b ∷ bs) (s ∷ spots) g h = (h b.op b.k (ap is_carried g.0.is_cut), all_none status es bs spots g.1.1 h)

  none_still : (es : List Sent) (b : Block) (e : Sent) (bs : List Block) → e.label ≡ label_of b → IsElsewhere b bs → AllNone es bs → AllNone (es ++ (e ∷ [])) bs
  none_still es b e [] q g h = tt
  none_still es b e (c ∷ bs) q g h = (find_more (label_of c) es e (rw q (unlike b.op b.k c.op c.k g.0)) ∙ h.0, none_still es b e bs q g.1 h.1)

  pub each_came : (status : ℕ → ℕ → Status) (bs : List Block) (spots : List BlockSpot) (cames : List Came) (es : List Sent) → AllGoing m n ops a ios logs status bs spots → AllNone es bs → EachCame (put_each m.site bs cames es) bs cames
  each_came status [] spots cames es g h = tt
  each_came status (b ∷ bs) spots [] es g h = tt
  each_came status (b ∷ bs) [] (c ∷ cames) es g h = absurd g
  each_came status (b ∷ bs) (s ∷ spots) (c ∷ cames) es g h =
      let e = stamped m.site es (label_of b) b.dir b.dev b.lba c in
      let es' = es ++ (e ∷ []) in (
        ap came_in (find_put m.site b.op b.k bs cames es' (elsewhere_none b bs g.1.0) ∙ find_last (label_of b) es e (same_numbers b.op b.k) h.0),
        each_came status bs spots cames es' g.1.1 (none_still es b e bs refl g.1.0 h.1),
      )

  carried_none : (status : ℕ → ℕ → Status) (bs : List Block) (spots : List BlockSpot) (i k : ℕ) → AllGoing m n ops a ios logs status bs spots → is_carried (status i k) ≡ true → IsNone i k bs
  carried_none status [] spots i k g h = tt
  carried_none status (b ∷ bs) [] i k g h = absurd g
  carried_none status (b ∷ bs) (s ∷ spots) i k g h =
      ((λ p q. false≢true (ap is_carried (sym g.0.is_cut ∙ sym (ap (λ j. status j b.k) p) ∙ sym (ap (status i) q)) ∙ h)), carried_none status bs spots i k g.1.1 h)

  -- what was carried before is told as before
  pub told_before : (status : ℕ → ℕ → Status) (bs : List Block) (spots : List BlockSpot) (cames : List Came) (es : List Sent) → AllGoing m n ops a ios logs status bs spots → (i k : ℕ) → is_carried (status i k) ≡ true →
      came_by es (label_at i k) ≡ came_by (put_each m.site bs cames es) (label_at i k)
  told_before status bs spots cames es g i k h = sym (ap came_in (find_put m.site i k bs cames es (carried_none status bs spots i k g h)))

-- the fates of a command

out_ahead : (bs : List Block) (frames : List (List ℕ)) (end : List Came) (rest : List Fate) → length frames ≤ length bs → out_fates (drop (length frames) bs) end ≡ rest → out_fates bs (map arrived frames ++ end) ≡ replicate (length frames) Good ++ rest
out_ahead bs [] end rest l e = e
out_ahead [] (f ∷ frames) end rest l e = absurd (omega (arith, l))
out_ahead (b ∷ bs) (f ∷ frames) end rest l e = ap (λ x. Good ∷ x) (out_ahead bs frames end rest (omega (arith, l)) e)

in_ahead : (a : Adapter) (ios : List Io) (bs : List Block) (frames : List (List ℕ)) (end : List Came) (rest : List Fate) → length frames ≤ length bs → in_fates a ios (drop (length frames) bs) end ≡ rest →
    in_fates a ios bs (map arrived frames ++ end) ≡ fates_in a ios bs frames ++ rest
in_ahead a ios [] [] end rest l e = e
in_ahead a ios (b ∷ bs) [] end rest l e = e
in_ahead a ios [] (f ∷ frames) end rest l e = absurd (omega (arith, l))
in_ahead a ios (b ∷ bs) (f ∷ frames) end rest l e = ap (λ x. carried (arrives a ios b f) ∷ x) (in_ahead a ios bs frames end rest (omega (arith, l)) e)

out_rest : (bs : List Block) → out_fates bs [] ≡ replicate (length bs) Untouched
out_rest [] = refl
out_rest (b ∷ bs) = ap (λ x. Untouched ∷ x) (out_rest bs)

in_rest : (a : Adapter) (ios : List Io) (bs : List Block) → in_fates a ios bs [] ≡ replicate (length bs) Untouched
in_rest a ios [] = refl
in_rest a ios (b ∷ bs) = ap (λ x. Untouched ∷ x) (in_rest a ios bs)

drop-length : (bs : List Block) (k : ℕ) → length (drop k bs) ≡ length bs - k
drop-length bs zero = omega arith
drop-length [] (suc k) = omega arith
drop-length (b ∷ bs) (suc k) = drop-length bs k ∙ omega arith

module _ (n : ℕ) (o : Outcome) (bs : List Block) (long : length bs ≡ n) where
  ended : (ds : List Block) (f : List Came → List Fate) → length ds ≡ n - min o.done n → (f [] ≡ replicate (length ds) Untouched) → ((d : Block) (es : List Block) → ds ≡ d ∷ es → f (Err (why_ended o.sense) ∷ []) ≡ Bad (why_ended o.sense) ∷ replicate (length es) Untouched) →
      f (if ltb o.done n then Err (why_ended o.sense) ∷ [] else []) ≡ rest_of n o
  ended ds f l nothing one = by (ltb o.done n) refl where
    by : (c : Bool) → ltb o.done n ≡ c → f (if c then Err (why_ended o.sense) ∷ [] else []) ≡ (if c then Bad (why_ended o.sense) ∷ replicate (n - suc o.done) Untouched else [])
    by true q = some ds l refl where
      some : (xs : List Block) → length xs ≡ n - min o.done n → ds ≡ xs → f (Err (why_ended o.sense) ∷ []) ≡ Bad (why_ended o.sense) ∷ replicate (n - suc o.done) Untouched
      some [] l e = let u : o.done < n = grind (arith, q) in absurd (omega (arith, l, u))
      some (d ∷ es) l e =
          let u : o.done < n = grind (arith, q) in
          let w : length es ≡ n - suc o.done = omega (arith, l, u) in
          one d es e ∙ ap (λ k. Bad (why_ended o.sense) ∷ replicate k Untouched) w
    by false q =
        let u : n ≤ o.done = grind (arith, q) in
        let w : length ds ≡ 0 = omega (arith, l, u) in
        nothing ∙ ap (λ k. replicate k Untouched) w

  pub out_fates_are : (frames : List (List ℕ)) → length frames ≡ min o.done n → out_fates bs (came_of n o.done o.sense frames) ≡ replicate (done_of n o) Good ++ rest_of n o
  out_fates_are frames e =
      let ds = drop (length frames) bs in
      let l : length ds ≡ n - min o.done n = drop-length bs (length frames) ∙ omega (arith, e, long) in
      out_ahead bs frames (if ltb o.done n then Err (why_ended o.sense) ∷ [] else []) (rest_of n o) (omega (arith, e, long))
      (ended ds (out_fates ds) l (out_rest ds) (λ d es q. rw q (ap (λ x. Bad (why_ended o.sense) ∷ x) (out_rest es))))
      ∙ ap (λ k. replicate k Good ++ rest_of n o) e

  pub in_fates_are : (a : Adapter) (ios : List Io) (frames : List (List ℕ)) → length frames ≡ min o.done n → in_fates a ios bs (came_of n o.done o.sense frames) ≡ fates_in a ios bs frames ++ rest_of n o
  in_fates_are a ios frames e =
      let ds = drop (length frames) bs in
      let l : length ds ≡ n - min o.done n = drop-length bs (length frames) ∙ omega (arith, e, long) in
      in_ahead a ios bs frames (if ltb o.done n then Err (why_ended o.sense) ∷ [] else []) (rest_of n o) (omega (arith, e, long))
      (ended ds (in_fates a ios ds) l (in_rest a ios ds) (λ d es q. rw q (ap (λ x. Bad (why_ended o.sense) ∷ x) (in_rest a ios es))))

-- where the blocks of a read land
pub lands : (a : Adapter) (ios : List Io) (bs : List Block) (frames : List (List ℕ)) (c : Bool) (why : Why) (cells : List ℕ) → land_all a ios bs (map arrived frames ++ (if c then Err why ∷ [] else [])) cells ≡ landed a ios bs frames cells
lands a ios [] [] c why cells = refl
lands a ios [] (f ∷ frames) c why cells = refl
lands a ios (b ∷ bs) [] false why cells = refl
lands a ios (b ∷ []) [] true why cells = refl
lands a ios (b ∷ x ∷ bs) [] true why cells = refl
lands a ios (b ∷ bs) (f ∷ frames) c why cells = lands a ios bs frames c why (land (frame_cells ios b) (arrives a ios b f) cells)

-- the ways over what stands on record

module _ (m : Setting) (a : Adapter) (ios : List Io) (faults : m.site.faults ≡ a.tamper) where
  pub comes_all : (dev lba : ℕ) (es : List Sent) (bs : List Block) (cames : List Came) (blocks : List (List ℕ)) → length cames ≤ length bs → InTurn Read dev lba bs → EachCame es bs cames → AllComeIn (told m es) a ios blocks bs cames
  comes_all dev lba es [] [] blocks l t h = refl
  comes_all dev lba es [] (c ∷ cames) blocks l t h = absurd (omega (arith, l))
  comes_all dev lba es (b ∷ bs) [] blocks l t h = tt
  comes_all dev lba es (b ∷ bs) (c ∷ cames) blocks l t h = (t.0.0, (h.0, comes_all dev (suc lba) es bs cames blocks (omega (arith, l)) t.1 h.1))

  stores : (es : List Sent) (b : Block) (cells frame : List ℕ) (w : Result (List ℕ) Check) → to_wire a.tamper (route_of a ios b) (frame_in ios cells b) ≡ w → is_bad w ≡ false → frame_sent w ≡ frame → came_by es (label_of b) ≡ Ok frame →
      goes_out m.site.faults (told m es).site.device (route_of a ios b) (frame_in ios cells b) ≡ Stores frame frame
  stores es b cells frame (Err check) e good f h = absurd (false≢true (sym good))
  stores es b cells frame (Ok got) e good f h =
      ap (λ x. from_adapter (told_by (came_by es)) (route_of a ios b) (to_wire x (route_of a ios b) (frame_in ios cells b))) faults
      ∙ ap (from_adapter (told_by (came_by es)) (route_of a ios b)) (e ∙ ap (λ x. Ok x) f)
      ∙ ap (at_device frame) h

  refuses : (es : List Sent) (b : Block) (cells : List ℕ) (why : Why) (w : Result (List ℕ) Check) → to_wire a.tamper (route_of a ios b) (frame_in ios cells b) ≡ w → is_bad w ≡ false → came_by es (label_of b) ≡ Err why →
      goes_out m.site.faults (told m es).site.device (route_of a ios b) (frame_in ios cells b) ≡ Refuses why
  refuses es b cells why (Err check) e good h = absurd (false≢true (sym good))
  refuses es b cells why (Ok got) e good h =
      ap (λ x. from_adapter (told_by (came_by es)) (route_of a ios b) (to_wire x (route_of a ios b) (frame_in ios cells b))) faults
      ∙ ap (from_adapter (told_by (came_by es)) (route_of a ios b)) e
      ∙ ap (at_device got) h

  both_false : (x y : Bool) → (x || y) ≡ false → (x ≡ false) × (y ≡ false)
  both_false false y h = (refl, h)
  both_false true y h = absurd (false≢true (sym h))

  pub goes_all : (dev lba : ℕ) (es : List Sent) (cells : List ℕ) (bs : List Block) (k : ℕ) (c : Bool) (why : Why) → k ≤ length bs → (c ≡ true → k < length bs) → InTurn Write dev lba bs → any_bad (map (sends a ios cells) bs) ≡ false →
      let cames = map arrived (take k (map frame_sent (map (sends a ios cells) bs))) ++ (if c then Err why ∷ [] else []) in EachCame es bs cames → AllGoOut (told m es) a ios cells bs cames
  goes_all dev lba es cells [] zero true why l u t good h = absurd (let x = u refl in omega (arith, x))
  goes_all dev lba es cells [] zero false why l u t good h = refl
  goes_all dev lba es cells [] (suc k) c why l u t good h = absurd (omega (arith, l))
  goes_all dev lba es cells (b ∷ bs) zero true why l u t good h = (t.0.0, (refuses es b cells why (sends a ios cells b) refl (both_false (is_bad (sends a ios cells b)) (any_bad (map (sends a ios cells) bs)) good).0 h.0, refl))
  goes_all dev lba es cells (b ∷ bs) zero false why l u t good h = tt
  goes_all dev lba es cells (b ∷ bs) (suc k) c why l u t good h =
      let g = both_false (is_bad (sends a ios cells b)) (any_bad (map (sends a ios cells) bs)) good in (
        t.0.0,
        (
          (frame_sent (sends a ios cells b), stores es b cells (frame_sent (sends a ios cells b)) (sends a ios cells b) refl g.0 refl h.0),
          goes_all dev (suc lba) es cells bs k c why (omega (arith, l)) (λ x. let y = u x in omega (arith, y)) t.1 g.1 h.1,
        ),
      )

-- a command

module _ (m : Setting) (n : ℕ) (ops : List Op) (a : Adapter) (ios : List Io) (req : List Bio) (pool : List (List ℕ)) (protect : IsProtect a.protect) (g : IsCarriedGroup a pool m.size ios req) (faults : m.site.faults ≡ a.tamper) where
  abbrev bs : List Block
  bs = blocks_in req

  pub came_length : (o : Outcome) (frames : List (List ℕ)) → length frames ≡ min o.done (size req) → length (came_of (size req) o.done o.sense frames) ≤ length bs
  came_length o frames e = by (ltb o.done (size req)) refl where
    by : (c : Bool) → ltb o.done (size req) ≡ c → length (map arrived frames ++ (if c then Err (why_ended o.sense) ∷ [] else [])) ≤ length bs
    by true q = let u : o.done < size req = grind (arith, q) in let x = length-append (map arrived frames) (Err (why_ended o.sense) ∷ []) in let y = length-map frames arrived in let z = length-in req in omega (arith, x, y, z, e, u)
    by false q = let x = length-append (map arrived frames) [] in let y = length-map frames arrived in let z = length-in req in omega (arith, x, y, z, e)

  -- nothing stands on record of a block that wasn't carried, also once a command was sent
  pub none_in : (pool' : List (List ℕ)) (fates : List Fate) (old new : RigState) (status : ℕ → ℕ → Status) → (first_of req).dir ≡ Read → RecordedIn a ios req pool pool' fates old new →
      NoneBefore status (recorded m old.log) → NoneBefore (with_fates bs fates status) (recorded m new.log)
  none_in pool' fates old new status w r none =
      let o = r.entry.what.outcome in
      let es = recorded m old.log in
      let frames = frames_of (frame_len a ios req) (done_of (size req) o) r.entry.moved in
      let cames = came_of (size req) o.done o.sense frames in
      let count = frames_length (frame_len a ios req) (done_of (size req) o) r.entry.moved in
      let put : recorded m new.log ≡ put_each m.site bs cames es = goes_in m a ios req pool protect g pool' fates old new w r in
      let fate : in_fates a ios bs cames ≡ fates = in_fates_are (size req) o bs (length-in req) a ios frames count ∙ sym r.fates_are in
      subst (λ x. NoneBefore (with_fates bs fates status) x) (sym put) (subst (λ f. NoneBefore (with_fates bs f status) (put_each m.site bs cames es)) fate
      (none_after m n ops a ios 0 bs cames (in_fates a ios bs cames) status es (in_are m n ops a ios 0 bs cames) none))

  pub none_out : (fates : List Fate) (old new : RigState) (status : ℕ → ℕ → Status) → (first_of req).dir ≡ Write → any_bad (map (sends a ios (flat pool)) bs) ≡ false → RecordedOut a ios req (flat pool) fates old new →
      NoneBefore status (recorded m old.log) → NoneBefore (with_fates bs fates status) (recorded m new.log)
  none_out fates old new status w good r none =
      let o = r.entry.what.outcome in
      let es = recorded m old.log in
      let all = map frame_sent (map (sends a ios (flat pool)) bs) in
      let frames = take (done_of (size req) o) all in
      let cames = came_of (size req) o.done o.sense frames in
      let many : length all ≡ size req = length-map (map (sends a ios (flat pool)) bs) frame_sent ∙ length-map bs (sends a ios (flat pool)) ∙ length-in req in
      let taken = length-take (done_of (size req) o) all in
      let count : length frames ≡ min o.done (size req) = omega (arith, taken, many) in
      let put : recorded m new.log ≡ put_each m.site bs cames es = went_out m a ios req pool protect g fates old new w good r in
      let fate : out_fates bs cames ≡ fates = out_fates_are (size req) o bs (length-in req) frames count ∙ sym r.fates_are in
      subst (λ x. NoneBefore (with_fates bs fates status) x) (sym put) (subst (λ f. NoneBefore (with_fates bs f status) (put_each m.site bs cames es)) fate
      (none_after m n ops a ios 0 bs cames (out_fates bs cames) status es (out_are m n ops a ios 0 bs cames) none))

  pub sent_in : (pool' : List (List ℕ)) (fates : List Fate) (old new : RigState) (opening now : State) (status : ℕ → ℕ → Status) (spots : List BlockSpot) → (first_of req).dir ≡ Read → RecordedIn a ios req pool pool' fates old new →
      AllGoing m n ops a ios (length opening.logs) status bs spots → now.bytes ≡ flat pool → NoneBefore status (recorded m old.log) → Follows (told m (recorded m old.log)) n ops opening status now (recorded m old.log) →
      FollowsOn m n ops opening (with_fates bs fates status) (flat pool') new.log
  sent_in pool' fates old new opening now status spots w r going pages none h =
      let o = r.entry.what.outcome in
      let es = recorded m old.log in
      let es' = recorded m new.log in
      let frames = frames_of (frame_len a ios req) (done_of (size req) o) r.entry.moved in
      let cames = came_of (size req) o.done o.sense frames in
      let count = frames_length (frame_len a ios req) (done_of (size req) o) r.entry.moved in
      let put : es' ≡ put_each m.site bs cames es = goes_in m a ios req pool protect g pool' fates old new w r in
      let each = subst (λ x. EachCame x bs cames) (sym put) (each_came m n ops a ios (length opening.logs) status bs spots cames es going (all_none m n ops a ios (length opening.logs) status es bs spots going none)) in
      let before = λ (i k : ℕ) (c : is_carried (status i k) ≡ true). told_before m n ops a ios (length opening.logs) status bs spots cames es going i k c ∙ ap (λ x. came_by x (label_at i k)) (sym put) in
      let follows = switch m (came_by es) (came_by es') n ops opening now status es before h in
      let turns = subst (λ d. InTurn d (first_of req).dev (first_of req).lba bs) w (turn m a ios req pool protect g) in
      let comes = comes_all m a ios faults (first_of req).dev (first_of req).lba es' bs cames now.blocks (came_length o frames count) turns each in
      let sent = in_all (told m es') n ops a ios opening faults bs spots cames now status es (going_over m (told_by (came_by es')) n ops a ios (length opening.logs) status bs spots going) comes follows in
      let fate : in_fates a ios bs cames ≡ fates = in_fates_are (size req) o bs (length-in req) a ios frames count ∙ sym r.fates_are in
      record {
        after = sent.after;
        follows = subst (λ x. Follows (told m es') n ops opening (with_fates bs fates status) sent.after x) (sym put) (subst (λ f. Follows (told m es') n ops opening (with_fates bs f status) sent.after (put_each m.site bs cames es)) fate sent.follows);
        bytes = sent.bytes ∙ ap (land_all a ios bs cames) pages ∙ lands a ios bs frames (ltb o.done (size req)) (why_ended o.sense) (flat pool) ∙ sym r.cells;
        none_before = none_in pool' fates old new status w r none;
      }

  pub sent_out : (fates : List Fate) (old new : RigState) (opening now : State) (status : ℕ → ℕ → Status) (spots : List BlockSpot) → (first_of req).dir ≡ Write → any_bad (map (sends a ios (flat pool)) bs) ≡ false → RecordedOut a ios req (flat pool) fates old new →
      AllGoing m n ops a ios (length opening.logs) status bs spots → now.bytes ≡ flat pool → NoneBefore status (recorded m old.log) → Follows (told m (recorded m old.log)) n ops opening status now (recorded m old.log) →
      FollowsOn m n ops opening (with_fates bs fates status) (flat pool) new.log
  sent_out fates old new opening now status spots w good r going pages none h =
      let o = r.entry.what.outcome in
      let es = recorded m old.log in
      let es' = recorded m new.log in
      let all = map frame_sent (map (sends a ios (flat pool)) bs) in
      let k = done_of (size req) o in
      let frames = take k all in
      let cames = came_of (size req) o.done o.sense frames in
      let many : length all ≡ size req = length-map (map (sends a ios (flat pool)) bs) frame_sent ∙ length-map bs (sends a ios (flat pool)) ∙ length-in req in
      let taken = length-take k all in
      let count : length frames ≡ min o.done (size req) = omega (arith, taken, many) in
      let put : es' ≡ put_each m.site bs cames es = went_out m a ios req pool protect g fates old new w good r in
      let each = subst (λ x. EachCame x bs cames) (sym put) (each_came m n ops a ios (length opening.logs) status bs spots cames es going (all_none m n ops a ios (length opening.logs) status es bs spots going none)) in
      let before = λ (i k : ℕ) (c : is_carried (status i k) ≡ true). told_before m n ops a ios (length opening.logs) status bs spots cames es going i k c ∙ ap (λ x. came_by x (label_at i k)) (sym put) in
      let follows = switch m (came_by es) (came_by es') n ops opening now status es before h in
      let turns = subst (λ d. InTurn d (first_of req).dev (first_of req).lba bs) w (turn m a ios req pool protect g) in
      let long = length-in req in
      let short : ltb o.done (size req) ≡ true → k < length bs = λ q. (let u : o.done < size req = grind (arith, q) in omega (arith, u, long)) in
      let goes = goes_all m a ios faults (first_of req).dev (first_of req).lba es' (flat pool) bs k (ltb o.done (size req)) (why_ended o.sense) (omega (arith, long)) short turns good each in
      let sent = out_all (told m es') n ops a ios opening bs spots cames now status es (going_over m (told_by (came_by es')) n ops a ios (length opening.logs) status bs spots going)
      (subst (λ c. AllGoOut (told m es') a ios c bs cames) (sym pages) goes) follows in
      let fate : out_fates bs cames ≡ fates = out_fates_are (size req) o bs (length-in req) frames count ∙ sym r.fates_are in
      record {
        after = sent.after;
        follows = subst (λ x. Follows (told m es') n ops opening (with_fates bs fates status) sent.after x) (sym put) (subst (λ f. Follows (told m es') n ops opening (with_fates bs f status) sent.after (put_each m.site bs cames es)) fate sent.follows);
        bytes = sent.bytes ∙ pages;
        none_before = none_out fates old new status w good r none;
      }
