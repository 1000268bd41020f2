-- The laws of the steps, whichever way a stack follows the walk of its script.
use Rattle.std.proofs.Common.{◌≡◌, ◌<◌, ◌≤◌, ◌+◌, ℕ, zero, suc, Bool, true, false, ◌&&◌, eqb, List, [], ◌∷◌, ◌++◌, length, get_or, map, take, Option, Some, None, refl, set, sym, ap, subst, ◌∙◌, arith, ⊎_elim}
use Rattle.std.specs.Prelude.{IfSome, if◌then◌else◌}
use Rattle.std.proofs.lemmas.Bool.{cases_eq, eqb-true, false≢true}
use Rattle.std.proofs.lemmas.Option.{none-some}
use Rattle.page_pool.specs.Cells.{flat}
use Rattle.bio_core.specs.Bios.{Block}
use Rattle.bio_core.specs.declared.bio.Bio.{Bio}
use Rattle.bio_core.specs.declared.fate.Fate.{Fate}
use Rattle.bio_core.specs.declared.fate.Fate.TheVariants.{Bad, Good, Untouched}
use Rattle.bio_core.specs.declared.fate.Why.{Why}
use Rattle.bio_core.specs.declared.request.Dir.TheVariants.{Read, Write as WriteDir}
use Rattle.bio_core.specs.declared.request.Io.{Io}
use Rattle.rig_api.specs.Frames.{stored_size}
use Rattle.rig_api.specs.Target.{Stop, Stored}
use Rattle.stack_ops.specs.declared.op.Op.{Op}
use Rattle.block_path.specs.Acts.{State, act, tell}
use Rattle.block_path.specs.Blocks.{Sent, silent}
use Rattle.block_path.specs.Moves.{first_why}
use Rattle.block_path.specs.Serial.{plain, plain_tells}
use Rattle.stack_walk_laws.specs.Passed.{fates, rooms, IsPlaced, OneCellEach, fates_of, own_at, recorded, acts_of, Setting, Alters, Reads, Seals, Sets, Shows, Step, Writes, WritesPi, changed, steps_of}
use Rattle.dix_adapter.specs.declared.adapter.Adapter.{Adapter}
use Rattle.dix_adapter.specs.Carried.{Unsent, any_bad, frame_len, sends}
use Rattle.dix_adapter.specs.Groups.{IsCarriedGroup, IsProtect, blocks_in, first_of}
use Rattle.dix_adapter.specs.Ways.{CameIn, RecordedIn, RecordedOut, WentOut, blocks_told, shapes_of, site_of}
use Rattle.stack_walk_laws.specs.Following.{Becomes, Follows}
use Rattle.stack_walk_laws.specs.Gate.{AllPlaced, BecomesDone, IsAlone, LetsIn, MayMove, BlockSpot, number, ops_of, parts_at, place}
use Rattle.stack_walk_laws.specs.Pieces.{AllMayMove, all_cut, all_made, with_all}
use Rattle.stack_walk_laws.specs.Sending.{AllGoing, AllSized, NoneBefore, is_carried, with_fate, with_fates, with_status}
use Rattle.stack_walk_laws.specs.Slots.{Admitted, Carried, Cut, Settled, Status, Waits}
use Rattle.stack_walk_laws.proofs.Begins.{begin_all}
use Rattle.stack_walk_laws.proofs.Holding.{held_back}
use Rattle.stack_walk_laws.proofs.Moving.{settled}
use Rattle.stack_walk_laws.proofs.Quietly.{listed_as, settled_quiet}
use Rattle.stack_walk_laws.proofs.Telling.{told_in, told_out}
use Rattle.stack_walk_laws.proofs.Together.{all_admitted, all_are_cut}
use Rattle.stack_walk_laws.proofs.Wholly.{wholly}
use Rattle.stack_walk_laws.specs.Falls.{falling, forgive, forgiven, is_write, left_of, none_falls, over_falls}
use Rattle.stack_walk_laws.specs.FollowsFalling.{FollowsFalling, HasFallen}
use Rattle.stack_walk_laws.proofs.Forgiving.{AllOf, IsOf, op_of}
use Rattle.stack_walk_laws.proofs.OverDevice.{same_steps}
use Rattle.stack_walk_laws.proofs.SentIn.{fallen_in}
use Rattle.stack_walk_laws.proofs.SentOut.{fallen_out}
use Rattle.stack_walk_laws.proofs.Stepping.{IsNotIn, all_admitted_falling, all_cut_falling, held_falling, kept, settled_falling, whole_falling, wait_still}
use Rattle.stack_walk_laws.specs.Spots.{IsRead, op_in, steps_in}
use Rattle.stack_walk_laws.proofs.Found.{found_there}
use Rattle.stack_walk_laws.proofs.Same.{same_statuses, same_within}
use Rattle.stack_walk_laws.proofs.Spots.{steps_count}
use Rattle.stack_walk_laws.specs.Flips.{Flips, flip_op, with_flips}
use Rattle.stack_walk_laws.proofs.Flipped.{all_may_flip, all_placed_flip, before_flip, behind_flip, cut_flip, fates_flip, fates_take, flip_at, flip_here, flip_spot, going_flip, lets_flip, long_flips, made_flip, may_flip, number_flip, op_flip, ops_flip, parts_flip, request_flip, split_flips, with_all_flip}
use Rattle.stack_walk_laws.proofs.Overwriting.{between, flips_to, overwrite_falling}
use Rattle.stack_walk_laws.specs.Slots.{StepParts}
use Rattle.rig_api.specs.declared.change.Change.{Change}
use Rattle.rig_api.specs.declared.change.Change.TheVariants.{Flip}
use Rattle.rig_api.specs.State.{RigState}
use Rattle.stack_ops.specs.declared.op.Op.TheVariants.{Overwrite}
use Rattle.stack_core.specs.Courses.{AllFlipped, Course, Falling, FollowsBy, Straight}

-- The stack follows on, with pages and stored blocks as of these cells.
pub record GoesTo (c : Course) (m : Setting) (n : ℕ) (ops : List Op) (opening : State) (status : ℕ → ℕ → Status) (es : List Sent) (bytes : List ℕ) (blocks : List (List ℕ)) : Type 0 where
  pub after : State
  pub follows : FollowsBy c m n ops opening status after es
  pub bytes_are : after.bytes ≡ bytes
  pub blocks_are : after.blocks ≡ blocks

straight : (m : Setting) (n : ℕ) (ops : List Op) (opening : State) (status : ℕ → ℕ → Status) (es : List Sent) (now : State) → Follows m n ops opening status now es → GoesTo Straight m n ops opening status es now.bytes now.blocks
straight m n ops opening status es now h = record { after = now; follows = h; bytes_are = refl; blocks_are = refl }

fallen : (flips : Flips) (m : Setting) (n : ℕ) (ops : List Op) (opening : State) (status : ℕ → ℕ → Status) (es : List Sent) (bytes : List ℕ) (blocks : List (List ℕ)) → AllFlipped flips status → FollowsFalling m n (with_flips flips 1 ops) opening status bytes blocks es →
    GoesTo (Falling flips) m n ops opening status es bytes blocks
fallen flips m n ops opening status es bytes blocks c f = record {
  after = f.after;
  follows = (record { falls = f.falls; after = f.after; told = f.told; follows = f.follows; bytes = refl; blocks_are = refl; stamped = f.stamped; on_record = f.on_record; fallen = f.fallen; aside = f.aside; sized = f.sized }, (refl, c));
  bytes_are = f.bytes;
  blocks_are = f.blocks_are;
}

-- ---- what flips its block stays done

still_flipped : (flips : Flips) (old new : ℕ → ℕ → Status) → ((i : ℕ) → is_carried (old i 0) ≡ true → is_carried (new i 0) ≡ true) → AllFlipped flips old → AllFlipped flips new
still_flipped flips old new still h i = by (flips i) (h i) where
  by : (o : Option (List ℕ)) → IfSome o (λ mask. is_carried (old i 0) ≡ true) → IfSome o (λ mask. is_carried (new i 0) ≡ true)
  by None x = tt
  by (Some mask) x = still i x

-- what waits doesn't flip
pub no_flip_yet : (flips : Flips) (status : ℕ → ℕ → Status) (i : ℕ) → AllFlipped flips status → status i 0 ≡ Waits → flips i ≡ None
no_flip_yet flips status i h e = by (flips i) (h i) where
  by : (o : Option (List ℕ)) → IfSome o (λ mask. is_carried (status i 0) ≡ true) → o ≡ None
  by None x = refl
  by (Some mask) x = absurd (false≢true (ap is_carried (sym e) ∙ x))

carried_still : (old new : Status) → (is_carried new ≡ false → is_carried old ≡ false) → is_carried old ≡ true → is_carried new ≡ true
carried_still old new back e = by (is_carried new) refl where
  by : (c : Bool) → is_carried new ≡ c → c ≡ true
  by true q = refl
  by false q = absurd (false≢true (sym (back q) ∙ e))

moved_still : (m : Setting) (n : ℕ) (ops : List Op) (was next : Status) (spots : List BlockSpot) (status : ℕ → ℕ → Status) (i k : ℕ) → is_carried was ≡ false → AllMayMove m n ops status was spots → is_carried (status i k) ≡ true → with_all spots next status i k ≡ status i k
moved_still m n ops was next spots status i k none may e = kept i k next spots status (apart spots may) where
  apart : (spots : List BlockSpot) → AllMayMove m n ops status was spots → IsNotIn i k spots
  apart [] h = tt
  apart (s ∷ spots) h = ((λ p q. false≢true (sym none ∙ (ap is_carried (sym h.1.1.0) ∙ (sym (ap (λ j. is_carried (status j (place s))) p) ∙ (sym (ap (λ l. is_carried (status i l)) q) ∙ e))))), apart spots h.1.1.1.1)

-- ---- statuses that say the same

pub same_by : (c : Course) (m : Setting) (n : ℕ) (ops : List Op) (opening now : State) (old new : ℕ → ℕ → Status) (es : List Sent) → ((j l : ℕ) → new j l ≡ old j l) → FollowsBy c m n ops opening old now es → FollowsBy c m n ops opening new now es
same_by Straight m n ops opening now old new es e h = same_statuses m n ops opening now old new es e h
same_by (Falling flips) m n ops opening now old new es e h =
    let f = h.0 in
    let script = with_flips flips 1 ops in (
      record {
        falls = f.falls;
        after = f.after;
        told = f.told;
        follows = same_statuses (over_falls m f.falls) n script opening f.after (forgiven script f.falls old) (forgiven script f.falls new) f.told (λ j l. ap (forgive (left_of script f.falls j l)) (e j l)) f.follows;
        bytes = f.bytes;
        blocks_are = f.blocks_are;
        stamped = f.stamped;
        on_record = f.on_record;
        fallen = λ i k. subst (λ s. IfSome (f.falls (record { op = i; k = k })) (λ left. HasFallen s)) (sym (e i k)) (f.fallen i k);
        aside = f.aside;
        sized = f.sized;
      },
      (h.1.0, still_flipped flips old new (λ i c. ap is_carried (e i 0) ∙ c) h.1.1),
    )

-- ---- before the first step

-- nothing flips its block before the first step
abbrev pub FlipsNone : Course → Type 0
FlipsNone Straight = Unit {0}
FlipsNone (Falling flips) = (i : ℕ) → flips i ≡ None

pub begins_by : (c : Course) → FlipsNone c → (m : Setting) (n : ℕ) (ops : List Op) (opening : State) (status : ℕ → ℕ → Status) → ((j l : ℕ) → j < length ops → status (suc j) l ≡ Waits) → ((c : ℕ) → get_or opening.logs c [] ≡ []) → FollowsBy c m n ops opening status opening []
begins_by Straight none m n ops opening status w empty = same_within m n ops opening opening (λ i j. Waits) status [] w (begin_all m n ops opening empty)
begins_by (Falling flips) none m n ops opening status w empty =
    let script = with_flips flips 1 ops in (
      record {
        falls = none_falls;
        after = opening;
        told = [];
        follows = same_within (over_falls m none_falls) n script opening opening (λ i j. Waits) (forgiven script none_falls status) []
            (λ j l b. ap (forgive (left_of script none_falls (suc j) l)) (w j l (let x = long_flips flips 1 ops in omega (arith, b, x))) ∙ wait_still (left_of script none_falls (suc j) l)) (begin_all (over_falls m none_falls) n script opening empty);
        bytes = refl;
        blocks_are = refl;
        stamped = refl;
        on_record = refl;
        fallen = λ i k. tt;
        aside = λ label. tt;
        sized = λ label. tt;
      },
      (refl, λ i. subst (λ o. IfSome o (λ mask. is_carried (status i 0) ≡ true)) (sym (none i)) tt),
    )

-- ---- blocks move on together

pub admitted_by : (c : Course) (m : Setting) (n : ℕ) (ops : List Op) (opening : State) (spots : List BlockSpot) (now : State) (status : ℕ → ℕ → Status) (es : List Sent) → AllMayMove m n ops status Waits spots → FollowsBy c m n ops opening status now es →
    let after = plain act (all_made m n spots) now in GoesTo c m n ops opening (with_all spots Admitted status) es after.bytes after.blocks
admitted_by Straight m n ops opening spots now status es may h = straight m n ops opening (with_all spots Admitted status) es (plain act (all_made m n spots) now) (all_admitted m n ops opening spots now status es may h)
admitted_by (Falling flips) m n ops opening spots now status es may h =
    let script = with_flips flips 1 ops in
    let own = map (flip_spot flips) spots in
    let there = all_admitted_falling m n script opening status now.bytes now.blocks es own (all_may_flip m n flips ops status Waits spots may) h.0 in
    let there' = subst (λ st. FollowsFalling m n script opening st (plain act (all_made m n own) (h.0).after).bytes (plain act (all_made m n own) (h.0).after).blocks es) (with_all_flip flips Admitted spots status) there in
    let there'' = subst (λ acts. FollowsFalling m n script opening (with_all spots Admitted status) (plain act acts (h.0).after).bytes (plain act acts (h.0).after).blocks es) (made_flip m n flips spots) there' in
    let still = still_flipped flips status (with_all spots Admitted status) (λ i c. ap is_carried (moved_still m n ops Waits Admitted spots status i 0 refl may c) ∙ c) h.1.1 in
    subst (λ (s : State). GoesTo (Falling flips) m n ops opening (with_all spots Admitted status) es (plain act (all_made m n spots) s).bytes (plain act (all_made m n spots) s).blocks) h.1.0
    (fallen flips m n ops opening (with_all spots Admitted status) es _ _ still there'')

pub cut_by : (c : Course) (m : Setting) (n : ℕ) (ops : List Op) (opening : State) (spots : List BlockSpot) (now : State) (status : ℕ → ℕ → Status) (es : List Sent) → AllMayMove m n ops status Admitted spots → FollowsBy c m n ops opening status now es →
    let after = plain act (all_cut m n spots) now in GoesTo c m n ops opening (with_all spots Cut status) es after.bytes after.blocks
cut_by Straight m n ops opening spots now status es may h = straight m n ops opening (with_all spots Cut status) es (plain act (all_cut m n spots) now) (all_are_cut m n ops opening spots now status es may h)
cut_by (Falling flips) m n ops opening spots now status es may h =
    let script = with_flips flips 1 ops in
    let own = map (flip_spot flips) spots in
    let there = all_cut_falling m n script opening status now.bytes now.blocks es own (all_may_flip m n flips ops status Admitted spots may) h.0 in
    let there' = subst (λ st. FollowsFalling m n script opening st (plain act (all_cut m n own) (h.0).after).bytes (plain act (all_cut m n own) (h.0).after).blocks es) (with_all_flip flips Cut spots status) there in
    let there'' = subst (λ acts. FollowsFalling m n script opening (with_all spots Cut status) (plain act acts (h.0).after).bytes (plain act acts (h.0).after).blocks es) (cut_flip m n flips spots) there' in
    let still = still_flipped flips status (with_all spots Cut status) (λ i c. ap is_carried (moved_still m n ops Admitted Cut spots status i 0 refl may c) ∙ c) h.1.1 in
    subst (λ (s : State). GoesTo (Falling flips) m n ops opening (with_all spots Cut status) es (plain act (all_cut m n spots) s).bytes (plain act (all_cut m n spots) s).blocks) h.1.0
    (fallen flips m n ops opening (with_all spots Cut status) es _ _ still there'')

-- ---- a block is settled

abbrev pub settled_at : (m : Setting) (n : ℕ) (s : BlockSpot) → Option Why → State → Option Why
settled_at m n s fate now = first_why fate (get_or (plain_tells act tell (parts_at m n s).settled now) 0 silent).why

pub settled_by : (c : Course) (m : Setting) (n : ℕ) (s : BlockSpot) (opening now : State) (old new : ℕ → ℕ → Status) (es : List Sent) (fate : Option Why) → MayMove m n old s → old (number s) (place s) ≡ Carried fate → FollowsBy c m n (ops_of s) opening old now es →
    Becomes (number s) (place s) (Settled (settled_at m n s fate now)) old new → let after = plain act (parts_at m n s).settled now in GoesTo c m n (ops_of s) opening new es after.bytes after.blocks
settled_by Straight m n s opening now old new es fate may e h becomes =
    straight m n (ops_of s) opening new es (plain act (parts_at m n s).settled now)
    (settled m n s opening now old new es may h fate (settled_at m n s fate now) e becomes (settled_quiet m (own_at (n + rooms m s.front) (place s)) (fates s.front + place s) s.step)
    (λ here q f. listed_as m (own_at (n + rooms m s.front) (place s)) (fates s.front + place s) s.step now fate here q f))
settled_by (Falling flips) m n s opening now old new es fate may e h becomes =
    let own = flip_spot flips s in
    let j = number_flip flips s in
    let parts = parts_flip m n flips s in
    let found : settled_at m n s fate now ≡ settled_at m n own fate (h.0).after
    = ap (settled_at m n s fate) (sym h.1.0) ∙ ap (λ (p : StepParts). first_why fate (get_or (plain_tells act tell p.settled (h.0).after) 0 silent).why) (sym parts) in
    let becomes' : Becomes (number own) (place s) (Settled (settled_at m n own fate (h.0).after)) old new
    = subst (λ i. Becomes i (place s) (Settled (settled_at m n own fate (h.0).after)) old new) (sym j) (subst (λ w. Becomes (number s) (place s) (Settled w) old new) found becomes) in
    let there = subst (λ (ops : List Op). (f : FollowsFalling m n ops opening old now.bytes now.blocks es) → Becomes (number own) (place s) (Settled (settled_at m n own fate f.after)) old new
    → FollowsFalling m n ops opening new (plain act (parts_at m n own).settled f.after).bytes (plain act (parts_at m n own).settled f.after).blocks es) (ops_flip flips s)
    (λ f b. settled_falling m n own opening old new now.bytes now.blocks es fate (may_flip m n flips old s may) (ap (λ i. old i (place s)) j ∙ e) f b) h.0 becomes' in
    let there' = subst (λ (p : StepParts). FollowsFalling m n (with_flips flips 1 (ops_of s)) opening new (plain act p.settled (h.0).after).bytes (plain act p.settled (h.0).after).blocks es) parts there in
    subst (λ (x : State). GoesTo (Falling flips) m n (ops_of s) opening new es (plain act (parts_at m n s).settled x).bytes (plain act (parts_at m n s).settled x).blocks) h.1.0
    (fallen flips m n (ops_of s) opening new es _ _ (still_flipped flips old new still h.1.1) there')
  where
    still : (i : ℕ) → is_carried (old i 0) ≡ true → is_carried (new i 0) ≡ true
    still i c = ⊎_elim
        (λ (p : i ≡ number s). ⊎_elim
        (λ (q : 0 ≡ place s). ap (λ x. is_carried (new x 0)) p ∙ (ap (λ x. is_carried (new (number s) x)) q ∙ ap is_carried becomes.here))
        (λ (q : 0 ≡ place s → ⊥). ap is_carried (becomes.elsewhere i 0 (λ x y. q y)) ∙ c)
        (cases_eq 0 (place s)))
        (λ (p : i ≡ number s → ⊥). ap is_carried (becomes.elsewhere i 0 (λ x y. p x)) ∙ c)
        (cases_eq i (number s))

-- ---- what was found of a read's block

each_is : (w : Bool) (steps : List Step) (q : ℕ) → q < length steps → AllOf w steps → IsOf w (get_or steps q (Sets [] []))
each_is w [] q l h = absurd (omega arith)
each_is w (step ∷ steps) zero l h = h.0
each_is w (step ∷ steps) (suc q) l h = each_is w steps q (omega arith) h.1

of_read : (w : Bool) (step : Step) → IsOf w step → IsRead step → w ≡ false
of_read w (Sets at values) h r = absurd r
of_read w (Shows at) h r = absurd r
of_read w (Seals body tuple app rtag) h r = absurd r
of_read w (Writes b app body) h r = absurd r
of_read w (WritesPi b frame) h r = absurd r
of_read w (Reads b owner to) h r = h
of_read w (Alters dev lba change) h r = absurd r

found_falling : (m : Setting) (n : ℕ) (ops : List Op) (opening : State) (status : ℕ → ℕ → Status) (pages : List ℕ) (blocks : List (List ℕ)) (es : List Sent) (p q : ℕ) (why : Option Why) → (f : FollowsFalling m n ops opening status pages blocks es) → fates ops ≤ length opening.fates → p < length ops → q < fates_of (op_in ops p) →
    IsRead (get_or (steps_in m ops p) q (Sets [] [])) → status (suc p) q ≡ Carried why → get_or (f.after).fates (fates (take p ops) + q) None ≡ why
found_falling m n ops opening status pages blocks es p q why h f l w r e =
    let falls = h.falls in
    let long = steps_count m (suc p) (op_in ops p) (omega (arith, w)) in
    let reads : is_write (op_in ops p) ≡ false = of_read (is_write (op_in ops p)) (get_or (steps_in m ops p) q (Sets [] [])) (each_is (is_write (op_in ops p)) (steps_in m ops p) q (omega (arith, w, long)) (op_of m (suc p) (op_in ops p))) r in
    let r' : IsRead (get_or (steps_in (over_falls m falls) ops p) q (Sets [] [])) = subst (λ steps. IsRead (get_or steps q (Sets [] []))) (same_steps m (falling falls m.site.device) (suc p) (op_in ops p)) r in
    let e' : forgiven ops falls status (suc p) q ≡ Carried why = ap (λ b. forgive (if b then falls (record { op = suc p; k = q }) else None) (status (suc p) q)) reads ∙ e in
    found_there (over_falls m falls) n ops opening h.after (forgiven ops falls status) h.told p q why h.follows f l w r' e'

pub found_by : (c : Course) (m : Setting) (n : ℕ) (ops : List Op) (opening now : State) (status : ℕ → ℕ → Status) (es : List Sent) (p q : ℕ) (why : Option Why) → FollowsBy c m n ops opening status now es → fates ops ≤ length opening.fates → p < length ops → q < fates_of (op_in ops p) →
    IsRead (get_or (steps_in m ops p) q (Sets [] [])) → status (suc p) q ≡ Carried why → get_or now.fates (fates (take p ops) + q) None ≡ why
found_by Straight m n ops opening now status es p q why h f l w r e = found_there m n ops opening now status es p q why h f l w r e
found_by (Falling flips) m n ops opening now status es p q why h f l w r e =
    let script = with_flips flips 1 ops in
    let one = (let z : suc p ≡ 1 + p = omega arith in z) in
    let same : op_in script p ≡ op_in ops p = op_flip flips 1 p (suc p) ops one ∙ request_flip (flips (suc p)) (op_in ops p) q w in
    let long = long_flips flips 1 ops in
    let few = fates_flip flips 1 ops in
    let there = found_falling m n script opening status now.bytes now.blocks es p q why h.0 (omega (arith, f, few)) (omega (arith, l, long)) (subst (λ op. q < fates_of op) (sym same) w)
    (subst (λ op. IsRead (get_or (steps_of m (suc p) op) q (Sets [] []))) (sym same) r) e in
    ap (λ (s : State). get_or s.fates (fates (take p ops) + q) None) (sym h.1.0) ∙ (ap (λ c. get_or ((h.0).after).fates (c + q) None) (sym (fates_take flips 1 p ops)) ∙ there)

-- ---- an op is done whole

done_still : (old new : ℕ → ℕ → Status) (i : ℕ) → ((j k : ℕ) → (j ≡ i → ⊥) → new j k ≡ old j k) → ((k : ℕ) → old i k ≡ Waits) → (j : ℕ) → is_carried (old j 0) ≡ true → is_carried (new j 0) ≡ true
done_still old new i elsewhere waits j c = ⊎_elim
    (λ (p : j ≡ i). absurd (false≢true (sym (ap (λ x. is_carried (old x 0)) p ∙ ap is_carried (waits 0)) ∙ c)))
    (λ (p : j ≡ i → ⊥). ap is_carried (elsewhere j 0 p) ∙ c)
    (cases_eq j i)

pub whole_by : (c : Course) (m : Setting) (n : ℕ) (front behind : List Op) (op : Op) (opening now : State) (old new : ℕ → ℕ → Status) (es : List Sent) → let i = suc (length front) in
    OneCellEach m → AllPlaced m n front → IsPlaced m n op → IsAlone op → LetsIn m old 1 front i op → BecomesDone m i op now old new → FollowsBy c m n (front ++ (op ∷ behind)) opening old now es →
    let after = plain act (acts_of m i op) now in GoesTo c m n (front ++ (op ∷ behind)) opening new es after.bytes after.blocks
whole_by Straight m n front behind op opening now old new es one placed mine alone lets becomes h =
    straight m n (front ++ (op ∷ behind)) opening new es (plain act (acts_of m (suc (length front)) op) now) (wholly m n front behind op opening now old new es one placed mine alone lets becomes h)
whole_by (Falling flips) m n front behind op opening now old new es one placed mine alone lets becomes h =
    let i = suc (length front) in
    let front' = with_flips flips 1 front in
    let behind' = with_flips flips (suc i) behind in
    let j : suc (length front') ≡ i = ap suc (long_flips flips 1 front) in
    let none = no_flip_yet flips old i h.1.1 (becomes.waits 0) in
    let at : i ≡ 1 + length front = omega arith in
    let same : front' ++ (op ∷ behind') ≡ with_flips flips 1 (front ++ (op ∷ behind)) = sym (split_flips flips 1 i front op behind at ∙ ap (λ o. front' ++ (flip_op o op ∷ behind')) none) in
    let becomes' : BecomesDone m (suc (length front')) op (h.0).after old new = subst (λ x. BecomesDone m x op (h.0).after old new) (sym j) (subst (λ (x : State). BecomesDone m i op x old new) (sym h.1.0) becomes) in
    let lets' = subst (λ o. LetsIn m old 1 front' (suc (length front')) (flip_op o op)) none (subst (λ x. LetsIn m old 1 front' x (flip_op (flips i) op)) (sym j) (lets_flip m old flips 1 front i (flips i) op lets)) in
    let there = subst (λ (ops : List Op). (f : FollowsFalling m n ops opening old now.bytes now.blocks es) → BecomesDone m (suc (length front')) op f.after old new
    → FollowsFalling m n ops opening new (plain act (acts_of m (suc (length front')) op) f.after).bytes (plain act (acts_of m (suc (length front')) op) f.after).blocks es) same
    (λ f b. whole_falling m n front' behind' op opening old new now.bytes now.blocks es one (all_placed_flip m n flips 1 front placed) mine alone lets' f b) h.0 becomes' in
    let there' = subst (λ x. FollowsFalling m n (with_flips flips 1 (front ++ (op ∷ behind))) opening new (plain act (acts_of m x op) (h.0).after).bytes (plain act (acts_of m x op) (h.0).after).blocks es) j there in
    subst (λ (x : State). GoesTo (Falling flips) m n (front ++ (op ∷ behind)) opening new es (plain act (acts_of m i op) x).bytes (plain act (acts_of m i op) x).blocks) h.1.0
    (fallen flips m n (front ++ (op ∷ behind)) opening new es _ _ (still_flipped flips old new (done_still old new i becomes.elsewhere becomes.waits) h.1.1) there')

-- ---- an overwrite's store call fails

-- It leaves this in its block: from here on it flips the block.
pub failed_by : (flips : Flips) (m : Setting) (n : ℕ) (front behind : List Op) (dev lba : ℕ) (change : Change) (left : List ℕ) (opening now : State) (old new : ℕ → ℕ → Status) (es : List Sent) → let i = suc (length front) in let op = Overwrite dev lba change in let was = get_or now.blocks (m.site.cell dev lba) [] in
    OneCellEach m → AllPlaced m n front → IsPlaced m n op → LetsIn m old 1 front i op → BecomesDone m i op now old new → length left ≡ length was → FollowsBy (Falling flips) m n (front ++ (op ∷ behind)) opening old now es →
    GoesTo (Falling (flip_at i (between was left) flips)) m n (front ++ (op ∷ behind)) opening new es now.bytes (set now.blocks (m.site.cell dev lba) left)
failed_by flips m n front behind dev lba change left opening now old new es one placed mine lets becomes long h =
    let i = suc (length front) in
    let op = Overwrite dev lba change in
    let was = get_or now.blocks (m.site.cell dev lba) [] in
    let mask = between was left in
    let flip = Overwrite dev lba (Flip 0 mask) in
    let flips' = flip_at i mask flips in
    let front' = with_flips flips 1 front in
    let behind' = with_flips flips (suc i) behind in
    let j : suc (length front') ≡ i = ap suc (long_flips flips 1 front) in
    let none = no_flip_yet flips old i h.1.1 (becomes.waits 0) in
    let at : i ≡ 1 + length front = omega arith in
    let same : front' ++ (op ∷ behind') ≡ with_flips flips 1 (front ++ (op ∷ behind)) = sym (split_flips flips 1 i front op behind at ∙ ap (λ o. front' ++ (flip_op o op ∷ behind')) none) in
    let after : front' ++ (flip ∷ behind') ≡ with_flips flips' 1 (front ++ (op ∷ behind))
    = sym (split_flips flips' 1 i front op behind at ∙ (ap (λ xs. xs ++ (flip_op (flips' i) op ∷ with_flips flips' (suc i) behind)) (before_flip i mask flips 1 front (omega (arith, at)))
    ∙ (ap (λ xs. front' ++ (flip_op (flips' i) op ∷ xs)) (behind_flip i mask flips (suc i) behind (omega arith)) ∙ ap (λ o. front' ++ (flip_op o op ∷ behind')) (flip_here i mask flips)))) in
    let becomes' : BecomesDone m (suc (length front')) op (h.0).after old new = subst (λ x. BecomesDone m x op (h.0).after old new) (sym j) (subst (λ (x : State). BecomesDone m i op x old new) (sym h.1.0) becomes) in
    let lets' = subst (λ o. LetsIn m old 1 front' (suc (length front')) (flip_op o op)) none (subst (λ x. LetsIn m old 1 front' x (flip_op (flips i) op)) (sym j) (lets_flip m old flips 1 front i (flips i) op lets)) in
    let there = subst (λ (ops : List Op). (f : FollowsFalling m n ops opening old now.bytes now.blocks es) → BecomesDone m (suc (length front')) op f.after old new
    → FollowsFalling m n (front' ++ (flip ∷ behind')) opening new f.after.bytes (set f.after.blocks (m.site.cell dev lba) (changed (Flip 0 mask) (get_or f.after.blocks (m.site.cell dev lba) []))) es) same
    (λ f b. overwrite_falling m n front' behind' dev lba change mask opening old new now.bytes now.blocks es one (all_placed_flip m n flips 1 front placed) mine lets' f b) h.0 becomes' in
    let there' = subst (λ (x : State). FollowsFalling m n (front' ++ (flip ∷ behind')) opening new x.bytes (set x.blocks (m.site.cell dev lba) (changed (Flip 0 mask) (get_or x.blocks (m.site.cell dev lba) []))) es) h.1.0 there in
    let there'' = subst (λ block. FollowsFalling m n (front' ++ (flip ∷ behind')) opening new now.bytes (set now.blocks (m.site.cell dev lba) block) es) (flips_to was left long) there' in
    fallen flips' m n (front ++ (op ∷ behind)) opening new es _ _ still (subst (λ ops. FollowsFalling m n ops opening new now.bytes (set now.blocks (m.site.cell dev lba) left) es) after there'')
  where
    still : AllFlipped (flip_at (suc (length front)) (between (get_or now.blocks (m.site.cell dev lba) []) left) flips) new
    still k = by (eqb k (suc (length front))) refl where
      by : (c : Bool) → eqb k (suc (length front)) ≡ c → IfSome (if c then Some (between (get_or now.blocks (m.site.cell dev lba) []) left) else flips k) (λ mask. is_carried (new k 0) ≡ true)
      by true q = ap (λ x. is_carried (new x 0)) (eqb-true k (suc (length front)) q) ∙ ap is_carried (becomes.done 0)
      by false q = still_flipped flips old new (done_still old new (suc (length front)) becomes.elsewhere becomes.waits) h.1.1 k

-- ---- a write is held back

-- what wasn't carried afterwards wasn't carried before
still_uncarried : (bs : List Block) (fs : List Fate) (status : ℕ → ℕ → Status) (i k : ℕ) → is_carried (with_fates bs fs status i k) ≡ false → is_carried (status i k) ≡ false
still_uncarried [] fs status i k e = e
still_uncarried (b ∷ bs) [] status i k e = e
still_uncarried (b ∷ bs) (f ∷ fs) status i k e = by f (still_uncarried bs fs (with_fate b f status) i k e) where
  one : (next : Status) → is_carried next ≡ true → is_carried (with_status b.op b.k next status i k) ≡ false → is_carried (status i k) ≡ false
  one next c e = at (eqb i b.op && eqb k b.k) e where
    at : (t : Bool) → is_carried (if t then next else status i k) ≡ false → is_carried (status i k) ≡ false
    at true e = absurd (false≢true (sym e ∙ c))
    at false e = e

  by : (f : Fate) → is_carried (with_fate b f status i k) ≡ false → is_carried (status i k) ≡ false
  by Good e = one (Carried None) refl e
  by (Bad why) e = one (Carried (Some why)) refl e
  by Untouched e = e

pub none_held : (bs : List Block) (fs : List Fate) (status : ℕ → ℕ → Status) (es : List Sent) → NoneBefore status es → NoneBefore (with_fates bs fs status) es
none_held bs fs status es none i k e = none i k (still_uncarried bs fs status i k e)

fates_still : (flips : Flips) (bs : List Block) (fs : List Fate) (status : ℕ → ℕ → Status) → AllFlipped flips status → AllFlipped flips (with_fates bs fs status)
fates_still flips bs fs status h = still_flipped flips status (with_fates bs fs status) (λ i c. carried_still (status i 0) (with_fates bs fs status i 0) (still_uncarried bs fs status i 0) c) h

pub held_by : (c : Course) (m : Setting) (n : ℕ) (ops : List Op) (a : Adapter) (ios : List Io) (req : List Bio) (pool pool' : List (List ℕ)) (fates : List Fate) (opening now : State) (status : ℕ → ℕ → Status) (es : List Sent) (spots : List BlockSpot) →
    IsCarriedGroup a pool m.size ios req → (first_of req).dir ≡ WriteDir → m.site.faults ≡ a.tamper → Unsent a ios req pool pool' fates → AllGoing m n ops a ios (length opening.logs) status (blocks_in req) spots → now.bytes ≡ flat pool →
    FollowsBy c m n ops opening status now es → GoesTo c m n ops opening (with_fates (blocks_in req) fates status) es (flat pool) now.blocks
held_by Straight m n ops a ios req pool pool' fates opening now status es spots g w faults u going pages h =
    let held = held_back m n ops a ios req pool pool' fates opening now status es spots g w faults u going pages h in
    record { after = held.after; follows = held.follows; bytes_are = held.bytes ∙ pages; blocks_are = held.blocks }
held_by (Falling flips) m n ops a ios req pool pool' fates opening now status es spots g w faults u going pages h =
    let script = with_flips flips 1 ops in
    fallen flips m n ops opening (with_fates (blocks_in req) fates status) es (flat pool) now.blocks (fates_still flips (blocks_in req) fates status h.1.1)
    (held_falling m n script a ios req pool pool' fates opening status now.blocks es (map (flip_spot flips) spots) g w faults u (going_flip m n flips ops a ios (length opening.logs) status (blocks_in req) spots going)
    (subst (λ bytes. FollowsFalling m n script opening status bytes now.blocks es) pages h.0))

-- ---- a command is sent

-- where store calls fail a command may stop at one of its blocks
abbrev pub StopsBy : Course → (size : ℕ) → Option Stop → Type 0
StopsBy Straight size stop = stop ≡ None
StopsBy (Falling flips) size stop = IfSome stop (λ s. length s.left ≡ size)

module _ (m : Setting) (n : ℕ) (ops : List Op) (a : Adapter) (ios : List Io) (req : List Bio) (pool : List (List ℕ)) (us : List Stored) (protect : IsProtect a.protect) (g : IsCarriedGroup a pool m.size ios req) (site : m.site ≡ site_of a (shapes_of us)) where
  -- cells that are the pool's and the units'
  abbrev AreShown : State → Type 0
  AreShown now = (now.bytes ≡ flat pool) × (now.blocks ≡ blocks_told us)

  of_pool : (flips : Flips) (opening now : State) (status : ℕ → ℕ → Status) (es : List Sent) → AreShown now → FollowsBy (Falling flips) m n ops opening status now es → FollowsFalling m n (with_flips flips 1 ops) opening status (flat pool) (blocks_told us) es
  of_pool flips opening now status es same h =
      subst (λ bytes. FollowsFalling m n (with_flips flips 1 ops) opening status bytes (blocks_told us) es) same.0 (subst (λ blocks. FollowsFalling m n (with_flips flips 1 ops) opening status now.bytes blocks es) same.1 h.0)

  pub out_by : (c : Course) (stop : Option Stop) (fates : List Fate) (old new : RigState) (opening now : State) (status : ℕ → ℕ → Status) (spots : List BlockSpot) → StopsBy c (stored_size m.ty m.size) stop → (first_of req).dir ≡ WriteDir → any_bad (map (sends a ios (flat pool)) (blocks_in req)) ≡ false →
      RecordedOut a ios req (flat pool) fates old new → (told : WentOut a ios req (flat pool) us stop fates old new) → AllGoing m n ops a ios (length opening.logs) status (blocks_in req) spots → NoneBefore status (recorded m old.log) → AreShown now →
      FollowsBy c m n ops opening status now (recorded m old.log) → GoesTo c m n ops opening (with_fates (blocks_in req) fates status) (recorded m new.log) (flat pool) (blocks_told told.units)
  out_by Straight None fates old new opening now status spots stops w good r told going none same h =
      let on = told_out m n ops a ios req pool us protect g site fates old new opening now status spots w good r told going same.0 same.1 h in
      record { after = on.after; follows = on.follows; bytes_are = on.bytes; blocks_are = on.blocks_are }
  out_by Straight (Some s) fates old new opening now status spots stops w good r told going none same h = absurd (none-some s (sym stops))
  out_by (Falling flips) stop fates old new opening now status spots stops w good r told going none same h =
      fallen flips m n ops opening (with_fates (blocks_in req) fates status) (recorded m new.log) (flat pool) (blocks_told told.units) (fates_still flips (blocks_in req) fates status h.1.1)
      (fallen_out m n (with_flips flips 1 ops) a ios req pool us protect g site stop fates old new opening status (map (flip_spot flips) spots) w good r told stops
      (going_flip m n flips ops a ios (length opening.logs) status (blocks_in req) spots going) none (of_pool flips opening now status (recorded m old.log) same h))

  pub in_by : (c : Course) (stop : Option Stop) (pool' : List (List ℕ)) (fates : List Fate) (old new : RigState) (opening now : State) (status : ℕ → ℕ → Status) (spots : List BlockSpot) → StopsBy c (stored_size m.ty m.size) stop → (first_of req).dir ≡ Read →
      AllSized m a ios (blocks_told us) (frame_len a ios req) (blocks_in req) → RecordedIn a ios req pool pool' fates old new → CameIn a ios req pool pool' us stop fates old new → AllGoing m n ops a ios (length opening.logs) status (blocks_in req) spots →
      NoneBefore status (recorded m old.log) → AreShown now → FollowsBy c m n ops opening status now (recorded m old.log) → GoesTo c m n ops opening (with_fates (blocks_in req) fates status) (recorded m new.log) (flat pool') (blocks_told us)
  in_by Straight None pool' fates old new opening now status spots stops w sized r told going none same h =
      let on = told_in m n ops a ios req pool us protect g site pool' fates old new opening now status spots w sized r told going same.0 same.1 h in
      record { after = on.after; follows = on.follows; bytes_are = on.bytes; blocks_are = on.blocks_are }
  in_by Straight (Some s) pool' fates old new opening now status spots stops w sized r told going none same h = absurd (none-some s (sym stops))
  in_by (Falling flips) stop pool' fates old new opening now status spots stops w sized r told going none same h =
      fallen flips m n ops opening (with_fates (blocks_in req) fates status) (recorded m new.log) (flat pool') (blocks_told us) (fates_still flips (blocks_in req) fates status h.1.1)
      (fallen_in m n (with_flips flips 1 ops) a ios req pool us protect g site stop pool' fates old new opening status (map (flip_spot flips) spots) w sized r told stops
      (going_flip m n flips ops a ios (length opening.logs) status (blocks_in req) spots going) none (of_pool flips opening now status (recorded m old.log) same h))
