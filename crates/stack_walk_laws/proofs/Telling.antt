-- A command of a group over a rig that tells its blocks.
use Rattle.std.proofs.Common.{◌≡◌, ◌<◌, ◌≤◌, ℕ, zero, suc, Bool, true, false, if◌then◌else◌, List, [], ◌∷◌, ◌++◌, length, map, take, get_or, None, refl, sym, ap, subst, ◌∙◌, arith, append-nil}
use Rattle.std.specs.Prelude.{Result, Ok, Err, IfOk, min, ltb}
use Rattle.std.proofs.lemmas.Bool.{false≢true, or_parts}
use Rattle.std.proofs.lemmas.List.{length-map, length-take}
use Rattle.page_pool.specs.Cells.{flat}
use Rattle.pi_tuple.specs.declared.checks.Check.{Check}
use Rattle.block_path.specs.Passed.{frames_of, joined, Stored, UnitSpec}
use Rattle.dix_adapter.specs.Passed.{LogEntry, RigState}
use Rattle.bio_core.specs.Bios.{Block}
use Rattle.bio_core.specs.declared.bio.Bio.{Bio}
use Rattle.bio_core.specs.declared.fate.Fate.{Fate}
use Rattle.bio_core.specs.declared.fate.Fate.TheVariants.{Bad, Good, Untouched}
use Rattle.bio_core.specs.declared.fate.Why.{Why}
use Rattle.bio_core.specs.declared.request.Dir.TheVariants.{Read, Write}
use Rattle.bio_core.specs.declared.request.Io.{Io}
use Rattle.block_path.specs.Acts.{State, act}
use Rattle.block_path.specs.Blocks.{Site, fetched_cell}
use Rattle.block_path.specs.Moves.{carry_out}
use Rattle.block_path.specs.Routes.{target}
use Rattle.block_path.specs.Serial.{plain}
use Rattle.block_path.specs.WayIn.{Delivers, Spoils, Stops, WayIn, at_host, from_device, from_wire}
use Rattle.block_path.specs.WayOut.{Refuses, at_device, from_adapter, goes_out}
use Rattle.block_path.specs.Senses.{why_ended}
use Rattle.run_laws.specs.Passed.{Setting, Op}
use Rattle.run_laws.specs.Records.{came_of, recorded}
use Rattle.dix_adapter.specs.declared.adapter.Adapter.{Adapter}
use Rattle.dix_adapter.specs.Carried.{any_bad, frame_len, frame_sent, is_bad, sends}
use Rattle.dix_adapter.specs.Groups.{IsCarriedGroup, IsProtect, blocks_in, first_of, frame_cells, frame_in, route_of, size}
use Rattle.dix_adapter.specs.Outcomes.{done_of}
use Rattle.dix_adapter.specs.Ways.{CameIn, RecordedIn, RecordedOut, WentOut, acts_out, blocks_told, fates_of_in, fates_out, frames_in, frames_out, shapes_of, site_of, ways_in, ways_out}
use Rattle.dix_adapter.proofs.Blocks.{length-in}
use Rattle.dix_adapter.proofs.Runs.{AllLong, cut-joined}
use Rattle.block_path.proofs.Passed.{frames_length}
use Rattle.stack_walk_laws.specs.OnRecord.{put_each}
use Rattle.stack_walk_laws.proofs.Puts.{InTurn, goes_in, goes_out as went_out, turn}
use Rattle.stack_walk_laws.specs.Following.{Follows}
use Rattle.stack_walk_laws.specs.Gate.{BlockSpot}
use Rattle.stack_walk_laws.specs.Sending.{AllComeIn, AllGoOut, AllGoing, AllSized, FollowsTold, in_fates, land_all, out_acts, out_fates, with_fates}
use Rattle.stack_walk_laws.specs.Slots.{Status}
use Rattle.stack_walk_laws.proofs.Recording.{arrived, came_length, in_fates_are, lands, out_fates_are}
use Rattle.stack_walk_laws.proofs.Sends.{in_all, out_all}

abbrev head : Fate → List Fate → Fate
head d [] = d
head d (f ∷ fs) = f

abbrev rest : List Fate → List Fate
rest [] = []
rest (f ∷ fs) = fs

abbrev is_good : Fate → Bool
is_good Good = true
is_good (Bad why) = false
is_good Untouched = false

abbrev is_touched : Fate → Bool
is_touched Good = true
is_touched (Bad why) = true
is_touched Untouched = false

abbrev why_of : Why → Fate → Why
why_of d Good = d
why_of d (Bad why) = why
why_of d Untouched = d

-- a write's blocks

record Goes (m : Setting) (a : Adapter) (ios : List Io) (units : List UnitSpec) (cells : List ℕ) (bs : List Block) (cames : List (Result (List ℕ) Why)) : Type 0 where
  ways : AllGoOut m a ios cells bs cames
  acts : out_acts m a ios bs cames ≡ take (length (frames_out (ways_out a ios cells bs))) (acts_out a ios units bs)

module _ (m : Setting) (a : Adapter) (ios : List Io) (units : List UnitSpec) (site : m.site ≡ site_of a units) (cells : List ℕ) where
  same_way : (b : Block) → goes_out m.site.faults m.site.device (route_of a ios b) (frame_in ios cells b) ≡ goes_out a.tamper (target a.tamper) (route_of a ios b) (frame_in ios cells b)
  same_way b = ap (λ (s : Site). goes_out s.faults s.device (route_of a ios b) (frame_in ios cells b)) site

  -- a block whose frame the adapter sends
  at_target : (b : Block) (w : Result (List ℕ) Check) → sends a ios cells b ≡ w → is_bad w ≡ false → goes_out a.tamper (target a.tamper) (route_of a ios b) (frame_in ios cells b) ≡ at_device (frame_sent w) ((target a.tamper).stores (route_of a ios b) (frame_sent w))
  at_target b (Err check) e good = absurd (false≢true (sym good))
  at_target b (Ok got) e good = ap (from_adapter (target a.tamper) (route_of a ios b)) e

  here : (b : Block) (w : Result (List ℕ) Why) → (target a.tamper).stores (route_of a ios b) (frame_sent (sends a ios cells b)) ≡ w → is_bad (sends a ios cells b) ≡ false →
      goes_out a.tamper (target a.tamper) (route_of a ios b) (frame_in ios cells b) ≡ at_device (frame_sent (sends a ios cells b)) w
  here b w q good = at_target b (sends a ios cells b) refl good ∙ ap (at_device (frame_sent (sends a ios cells b))) q

  untouched_none : (b : Block) (bs : List Block) (w : Result (List ℕ) Why) → (target a.tamper).stores (route_of a ios b) (frame_sent (sends a ios cells b)) ≡ w → is_bad (sends a ios cells b) ≡ false →
      out_fates (b ∷ bs) [] ≡ fates_out (ways_out a ios cells (b ∷ bs)) → ⊥
  untouched_none b bs (Ok stored) q good e = false≢true (ap (λ fs. is_touched (head Good fs)) (e ∙ ap (λ way. fates_out (way ∷ ways_out a ios cells bs)) (here b (Ok stored) q good)))
  untouched_none b bs (Err why) q good e = false≢true (ap (λ fs. is_touched (head Good fs)) (e ∙ ap (λ way. fates_out (way ∷ ways_out a ios cells bs)) (here b (Err why) q good)))

  ends_here : (b : Block) (bs : List Block) (why : Why) → b.dir ≡ Write → (w : Result (List ℕ) Why) → (target a.tamper).stores (route_of a ios b) (frame_sent (sends a ios cells b)) ≡ w → is_bad (sends a ios cells b) ≡ false →
      out_fates (b ∷ bs) (Err why ∷ []) ≡ fates_out (ways_out a ios cells (b ∷ bs)) → Goes m a ios units cells (b ∷ bs) (Err why ∷ [])
  ends_here b bs why d (Ok stored) q good e = absurd (false≢true (ap (λ fs. is_good (head Untouched fs)) (e ∙ ap (λ way. fates_out (way ∷ ways_out a ios cells bs)) (here b (Ok stored) q good))))
  ends_here b bs why d (Err y) q good e =
      let way = here b (Err y) q good in
      let same : why ≡ y = ap (λ fs. why_of why (head Untouched fs)) (e ∙ ap (λ way. fates_out (way ∷ ways_out a ios cells bs)) way) in
      record {
        ways = (d, (same_way b ∙ way ∙ ap (λ x. Refuses x) (sym same), refl));
        acts = sym (ap (λ x. take (length (frames_out (x ∷ ways_out a ios cells bs))) (acts_out a ios units (b ∷ bs))) way);
      }

  goes_here : (b : Block) (bs : List Block) → b.dir ≡ Write → (cames : List (Result (List ℕ) Why)) (w : Result (List ℕ) Why) → (target a.tamper).stores (route_of a ios b) (frame_sent (sends a ios cells b)) ≡ w → is_bad (sends a ios cells b) ≡ false →
      out_fates (b ∷ bs) (Ok (frame_sent (sends a ios cells b)) ∷ cames) ≡ fates_out (ways_out a ios cells (b ∷ bs)) → (out_fates bs cames ≡ fates_out (ways_out a ios cells bs) → Goes m a ios units cells bs cames) →
      Goes m a ios units cells (b ∷ bs) (Ok (frame_sent (sends a ios cells b)) ∷ cames)
  goes_here b bs d cames (Err y) q good e f = absurd (false≢true (sym (ap (λ fs. is_good (head Untouched fs)) (e ∙ ap (λ way. fates_out (way ∷ ways_out a ios cells bs)) (here b (Err y) q good)))))
  goes_here b bs d cames (Ok stored) q good e f =
      let way = here b (Ok stored) q good in
      let more = f (ap rest (e ∙ ap (λ x. fates_out (x ∷ ways_out a ios cells bs)) way)) in
      record {
        ways = (d, ((stored, same_way b ∙ way), more.ways));
        acts = ap (λ (s : Site). carry_out s (route_of a ios b) (frame_cells ios b) ∷ out_acts m a ios bs cames) site
            ∙ ap (λ xs. carry_out (site_of a units) (route_of a ios b) (frame_cells ios b) ∷ xs) more.acts
            ∙ sym (ap (λ x. take (length (frames_out (x ∷ ways_out a ios cells bs))) (acts_out a ios units (b ∷ bs))) way);
      }

  goes_told : (dev lba : ℕ) (bs : List Block) (k : ℕ) (c : Bool) (why : Why) → InTurn Write dev lba bs → any_bad (map (sends a ios cells) bs) ≡ false → k ≤ length bs → (c ≡ true → k < length bs) →
      let cames = map arrived (take k (map frame_sent (map (sends a ios cells) bs))) ++ (if c then Err why ∷ [] else []) in out_fates bs cames ≡ fates_out (ways_out a ios cells bs) → Goes m a ios units cells bs cames
  goes_told dev lba [] zero true why t good l u e = absurd (let x = u refl in omega (arith, x))
  goes_told dev lba [] zero false why t good l u e = record { ways = refl; acts = refl }
  goes_told dev lba [] (suc k) c why t good l u e = absurd (omega (arith, l))
  goes_told dev lba (b ∷ bs) zero false why t good l u e = absurd (untouched_none b bs ((target a.tamper).stores (route_of a ios b) (frame_sent (sends a ios cells b))) refl (or_parts (is_bad (sends a ios cells b)) (any_bad (map (sends a ios cells) bs)) good).0 e)
  goes_told dev lba (b ∷ bs) zero true why t good l u e = ends_here b bs why t.0.0 ((target a.tamper).stores (route_of a ios b) (frame_sent (sends a ios cells b))) refl (or_parts (is_bad (sends a ios cells b)) (any_bad (map (sends a ios cells) bs)) good).0 e
  goes_told dev lba (b ∷ bs) (suc k) c why t good l u e =
      let g = or_parts (is_bad (sends a ios cells b)) (any_bad (map (sends a ios cells) bs)) good in
      let cames = map arrived (take k (map frame_sent (map (sends a ios cells) bs))) ++ (if c then Err why ∷ [] else []) in
      goes_here b bs t.0.0 cames ((target a.tamper).stores (route_of a ios b) (frame_sent (sends a ios cells b))) refl g.0 e
      (λ f. goes_told dev (suc lba) bs k c why t.1 g.1 (omega (arith, l)) (λ x. let y = u x in omega (arith, y)) f)

-- a read's blocks

module _ (m : Setting) (a : Adapter) (ios : List Io) (units : List UnitSpec) (site : m.site ≡ site_of a units) (blocks : List (List ℕ)) where
  same_sends : (b : Block) → m.site.device.sends (route_of a ios b) (get_or blocks (fetched_cell m.site (route_of a ios b)) []) ≡ (target a.tamper).sends (route_of a ios b) (get_or blocks (fetched_cell (site_of a units) (route_of a ios b)) [])
  same_sends b = ap (λ (s : Site). s.device.sends (route_of a ios b) (get_or blocks (fetched_cell s (route_of a ios b)) [])) site

  -- the frames that were carried have the wire's size
  long_frames : (w : ℕ) (bs : List Block) → AllSized m a ios blocks w bs → AllLong w (frames_in (ways_in a ios units blocks bs))
  long_frames w [] h = tt
  long_frames w (b ∷ bs) h = by ((target a.tamper).sends (route_of a ios b) (get_or blocks (fetched_cell (site_of a units) (route_of a ios b)) [])) (subst (λ x. IfOk x (λ frame. length frame ≡ w)) (same_sends b) h.0) (long_frames w bs h.1) where
    by : (x : Result (List ℕ) Why) → IfOk x (λ frame. length frame ≡ w) → AllLong w (frames_in (ways_in a ios units blocks bs)) → AllLong w (frames_in (from_device a.tamper (route_of a ios b) x ∷ ways_in a ios units blocks bs))
    by (Err why) l more = tt
    by (Ok frame) l more = at (from_wire a.tamper (route_of a ios b) frame) where
      at : (y : Result (List ℕ) Check) → AllLong w (frames_in (at_host frame y ∷ ways_in a ios units blocks bs))
      at (Ok got) = (l, more)
      at (Err check) = (l, more)

  comes_told : (dev lba : ℕ) (bs : List Block) (c : Bool) (why : Why) → InTurn Read dev lba bs →
      let cames = map arrived (frames_in (ways_in a ios units blocks bs)) ++ (if c then Err why ∷ [] else []) in length cames ≤ length bs → in_fates a ios bs cames ≡ fates_of_in (ways_in a ios units blocks bs) → AllComeIn m a ios blocks bs cames
  comes_told dev lba [] true why t l e = absurd (omega (arith, l))
  comes_told dev lba [] false why t l e = refl
  comes_told dev lba (b ∷ bs) c why t l e =
      by ((target a.tamper).sends (route_of a ios b) (get_or blocks (fetched_cell (site_of a units) (route_of a ios b)) [])) (same_sends b) c l e (λ u f. comes_told dev (suc lba) bs c why t.1 u f)
    where
      by : (x : Result (List ℕ) Why) → m.site.device.sends (route_of a ios b) (get_or blocks (fetched_cell m.site (route_of a ios b)) []) ≡ x → (c : Bool) →
          let ways = ways_in a ios units blocks bs in let way = from_device a.tamper (route_of a ios b) x in
          let end = if c then Err why ∷ [] else [] in
          length (map arrived (frames_in (way ∷ ways)) ++ end) ≤ suc (length bs) → in_fates a ios (b ∷ bs) (map arrived (frames_in (way ∷ ways)) ++ end) ≡ fates_of_in (way ∷ ways) →
          (length (map arrived (frames_in ways) ++ end) ≤ length bs → in_fates a ios bs (map arrived (frames_in ways) ++ end) ≡ fates_of_in ways → AllComeIn m a ios blocks bs (map arrived (frames_in ways) ++ end)) →
          AllComeIn m a ios blocks (b ∷ bs) (map arrived (frames_in (way ∷ ways)) ++ end)
      by (Err y) s false l e f = absurd (false≢true (ap (λ fs. is_touched (head Good fs)) e))
      by (Err y) s true l e f = let same : why ≡ y = ap (λ fs. why_of why (head Untouched fs)) e in (t.0.0, (s ∙ ap (λ x. Err x) (sym same), none bs)) where
        none : (bs : List Block) → AllComeIn m a ios blocks bs []
        none [] = refl
        none (b ∷ bs) = tt
      by (Ok frame) s c l e f = at (from_wire a.tamper (route_of a ios b) frame) l e where
        at : (y : Result (List ℕ) Check) → let ways = ways_in a ios units blocks bs in let way = at_host frame y in
            let end = if c then Err why ∷ [] else [] in
            length (map arrived (frames_in (way ∷ ways)) ++ end) ≤ suc (length bs) → in_fates a ios (b ∷ bs) (map arrived (frames_in (way ∷ ways)) ++ end) ≡ fates_of_in (way ∷ ways) → AllComeIn m a ios blocks (b ∷ bs) (map arrived (frames_in (way ∷ ways)) ++ end)
        at (Ok got) l e = (t.0.0, (s, f (omega (arith, l)) (ap rest e)))
        at (Err check) l e = (t.0.0, (s, f (omega (arith, l)) (ap rest e)))

-- the command

pub last_one : {X : Type 0} (xs : List X) (x y : X) → xs ++ (x ∷ []) ≡ xs ++ (y ∷ []) → x ≡ y
last_one [] x y e = ap (λ zs. get_or zs 0 x) e
last_one (z ∷ xs) x y e = last_one xs x y (ap (λ zs. cut zs) e) where
  cut : {X : Type 0} → List X → List X
  cut [] = []
  cut (w ∷ ws) = ws

module _ (m : Setting) (n : ℕ) (ops : List Op) (a : Adapter) (ios : List Io) (req : List Bio) (pool : List (List ℕ)) (us : List Stored) (protect : IsProtect a.protect) (g : IsCarriedGroup a pool m.size ios req) (site : m.site ≡ site_of a (shapes_of us)) where
  abbrev bs : List Block
  bs = blocks_in req

  pub told_out : (fates : List Fate) (old new : RigState) (opening now : State) (status : ℕ → ℕ → Status) (spots : List BlockSpot) → (first_of req).dir ≡ Write → any_bad (map (sends a ios (flat pool)) bs) ≡ false → RecordedOut a ios req (flat pool) fates old new →
      (told : WentOut a ios req (flat pool) us None fates old new) → AllGoing m n ops a ios (length opening.logs) status bs spots → now.bytes ≡ flat pool → now.blocks ≡ blocks_told us → Follows m n ops opening status now (recorded m old.log) →
      FollowsTold m n ops opening (with_fates bs fates status) (flat pool) (blocks_told told.units) new.log
  told_out fates old new opening now status spots w good r told going pages blocks h =
      let o = r.entry.what.outcome in
      let es = recorded m old.log in
      let all = map frame_sent (map (sends a ios (flat pool)) bs) in
      let k = done_of (size req) o in
      let frames = take k all in
      let cames = came_of (size req) o.done o.sense frames in
      let many : length all ≡ size req = length-map (map (sends a ios (flat pool)) bs) frame_sent ∙ length-map bs (sends a ios (flat pool)) ∙ length-in req in
      let taken = length-take k all in
      let count : length frames ≡ min o.done (size req) = omega (arith, taken, many) in
      let put : recorded m new.log ≡ put_each m.site bs cames es = went_out m a ios req pool protect g fates old new w good r in
      let fate : out_fates bs cames ≡ fates = out_fates_are (size req) o bs (length-in req) frames count ∙ sym r.fates_are in
      let turns = subst (λ d. InTurn d (first_of req).dev (first_of req).lba bs) w (turn m a ios req pool protect g) in
      let long = length-in req in
      let short : ltb o.done (size req) ≡ true → k < length bs = λ q. (let u : o.done < size req = grind (arith, q) in omega (arith, u, long)) in
      let goes = goes_told m a ios (shapes_of us) site (flat pool) (first_of req).dev (first_of req).lba bs k (ltb o.done (size req)) (why_ended o.sense) turns good (omega (arith, long)) short (fate ∙ told.fates_are) in
      let sent = out_all m n ops a ios opening bs spots cames now status es going (subst (λ c. AllGoOut m a ios c bs cames) (sym pages) goes.ways) h in
      record {
        after = sent.after;
        follows = subst (λ x. Follows m n ops opening (with_fates bs fates status) sent.after x) (sym put) (subst (λ f. Follows m n ops opening (with_fates bs f status) sent.after (put_each m.site bs cames es)) fate sent.follows);
        bytes = sent.bytes ∙ pages;
        blocks_are = sent.blocks ∙ ap (λ acts. (plain act acts now).blocks) goes.acts ∙ sym (told.blocks now pages blocks);
      }

  pub told_in : (pool' : List (List ℕ)) (fates : List Fate) (old new : RigState) (opening now : State) (status : ℕ → ℕ → Status) (spots : List BlockSpot) → (first_of req).dir ≡ Read → AllSized m a ios (blocks_told us) (frame_len a ios req) bs →
      RecordedIn a ios req pool pool' fates old new → CameIn a ios req pool pool' us None fates old new → AllGoing m n ops a ios (length opening.logs) status bs spots → now.bytes ≡ flat pool → now.blocks ≡ blocks_told us →
      Follows m n ops opening status now (recorded m old.log) → FollowsTold m n ops opening (with_fates bs fates status) (flat pool') (blocks_told us) new.log
  told_in pool' fates old new opening now status spots w sized r told going pages blocks h =
      let o = r.entry.what.outcome in
      let es = recorded m old.log in
      let len = frame_len a ios req in
      let k = done_of (size req) o in
      let frames = frames_of len k r.entry.moved in
      let cames = came_of (size req) o.done o.sense frames in
      let count = frames_length len k r.entry.moved in
      let ways = ways_in a ios (shapes_of us) (blocks_told us) bs in
      let same : r.entry ≡ told.entry = last_one old.log r.entry told.entry (sym r.what.recorded ∙ told.recorded) in
      let done : o.done ≡ length (frames_in ways) = ap (λ (e : LogEntry). e.what.outcome.done) same ∙ told.done in
      let few = frames_few ways in
      let ways_count = ways_length bs in
      let long = length-in req in
      let enough : k ≡ length (frames_in ways) = omega (arith, done, few, ways_count, long) in
      let moved : r.entry.moved ≡ joined (frames_in ways) ++ [] = ap (λ (e : LogEntry). e.moved) same ∙ told.moved ∙ sym (append-nil (joined (frames_in ways))) in
      let cut : frames ≡ frames_in ways = ap (λ j. frames_of len j r.entry.moved) enough ∙ ap (frames_of len (length (frames_in ways))) moved
      ∙ cut-joined len (frames_in ways) [] (long_frames m a ios (shapes_of us) site (blocks_told us) len bs sized) in
      let put : recorded m new.log ≡ put_each m.site bs cames es = goes_in m a ios req pool protect g pool' fates old new w r in
      let fate : in_fates a ios bs cames ≡ fates = in_fates_are (size req) o bs (length-in req) a ios frames count ∙ sym r.fates_are in
      let turns = subst (λ d. InTurn d (first_of req).dev (first_of req).lba bs) w (turn m a ios req pool protect g) in
      let ended = came_of (size req) o.done o.sense (frames_in ways) in
      let alike : cames ≡ ended = ap (came_of (size req) o.done o.sense) cut in
      let short : length ended ≤ length bs = subst (λ c. length c ≤ length bs) alike (came_length m n ops a ios req pool protect g (ap (λ (s : Site). s.faults) site) o frames count) in
      let comes = comes_told m a ios (shapes_of us) site (blocks_told us) (first_of req).dev (first_of req).lba bs (ltb o.done (size req)) (why_ended o.sense) turns short (ap (in_fates a ios bs) (sym alike) ∙ fate ∙ told.fates_are) in
      let sent = in_all m n ops a ios opening (ap (λ (s : Site). s.faults) site) bs spots cames now status es going (subst (λ c. AllComeIn m a ios now.blocks bs c) (sym alike) (subst (λ x. AllComeIn m a ios x bs ended) (sym blocks) comes)) h in
      record {
        after = sent.after;
        follows = subst (λ x. Follows m n ops opening (with_fates bs fates status) sent.after x) (sym put) (subst (λ f. Follows m n ops opening (with_fates bs f status) sent.after (put_each m.site bs cames es)) fate sent.follows);
        bytes = sent.bytes ∙ ap (land_all a ios bs cames) pages ∙ lands a ios bs frames (ltb o.done (size req)) (why_ended o.sense) (flat pool) ∙ sym r.cells;
        blocks_are = sent.blocks ∙ blocks;
      }
    where
      frames_few : (ws : List WayIn) → length (frames_in ws) ≤ length ws
      frames_few [] = omega arith
      frames_few (Stops why ∷ ws) = omega arith
      frames_few (Spoils why carried ∷ ws) = let h = frames_few ws in omega (arith, h)
      frames_few (Delivers carried frame ∷ ws) = let h = frames_few ws in omega (arith, h)

      ways_length : (xs : List Block) → length (ways_in a ios (shapes_of us) (blocks_told us) xs) ≡ length xs
      ways_length [] = refl
      ways_length (x ∷ xs) = ap suc (ways_length xs)
