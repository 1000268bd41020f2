-- The steps of a stack whose store calls may have failed, but for the sending of a command.
use Rattle.std.proofs.Common.{◌≡◌, ◌⊎◌, inl, inr, ℕ, suc, ◌+◌, Bool, true, false, if◌then◌else◌, List, [], ◌∷◌, ◌++◌, length, get_or, Option, Some, None, refl, sym, ap, subst, ◌∙◌}
use Rattle.std.specs.Prelude.{IfSome}
use Rattle.std.proofs.lemmas.Bool.{false≢true}
use Rattle.page_pool.specs.Cells.{flat}
use Rattle.fault_schedule.specs.declared.Label.{Label}
use Rattle.bio_core.specs.Bios.{Block}
use Rattle.bio_core.specs.declared.bio.Bio.{Bio}
use Rattle.bio_core.specs.declared.fate.Fate.{Fate}
use Rattle.bio_core.specs.declared.fate.Fate.TheVariants.{Bad, Good, Untouched}
use Rattle.bio_core.specs.declared.fate.Why.{Why}
use Rattle.bio_core.specs.declared.fate.Why.TheVariants.{Medium}
use Rattle.bio_core.specs.declared.request.Dir.TheVariants.{Read, Write as WriteDir}
use Rattle.bio_core.specs.declared.request.Io.{Io}
use Rattle.block_path.specs.Acts.{State, act, tell}
use Rattle.block_path.specs.Blocks.{ActAnswer, Sent, silent}
use Rattle.block_path.specs.Moves.{first_why}
use Rattle.block_path.specs.Serial.{plain, plain_tells}
use Rattle.run_laws.specs.Passed.{acts_of, Setting, Alters, Reads, Seals, Sets, Shows, Step, Writes, WritesPi, Op}
use Rattle.run_laws.specs.BoundRun.{fates, rooms}
use Rattle.run_laws.specs.OpsApart.{IsPlaced, OneCellEach}
use Rattle.run_laws.specs.ScriptMoves.{own_at}
use Rattle.dix_adapter.specs.declared.adapter.Adapter.{Adapter}
use Rattle.dix_adapter.specs.Carried.{Unsent}
use Rattle.dix_adapter.specs.Groups.{IsCarriedGroup, blocks_in, first_of, label_of}
use Rattle.stack_walk_laws.specs.Following.{Becomes, Follows}
use Rattle.stack_walk_laws.specs.Gate.{AllPlaced, BecomesDone, IsAlone, LetsIn, MayMove, BlockSpot, number, ops_of, parts_at, place}
use Rattle.stack_walk_laws.specs.Pieces.{AllMayMove, all_cut, all_made, with_all}
use Rattle.stack_walk_laws.specs.Sending.{AllGoing, with_fate, with_fates, with_status}
use Rattle.stack_walk_laws.specs.Slots.{Admitted, Carried, Cut, Done, Settled, Status, Waits, parts_of, write_parts}
use Rattle.stack_walk_laws.proofs.Begins.{begin_all}
use Rattle.stack_walk_laws.proofs.Holding.{held_back}
use Rattle.stack_walk_laws.proofs.Moving.{settled}
use Rattle.stack_walk_laws.proofs.Quietly.{listed_as, settled_quiet}
use Rattle.stack_walk_laws.proofs.Sends.{with_other}
use Rattle.stack_walk_laws.proofs.Together.{all_admitted, all_are_cut}
use Rattle.stack_walk_laws.proofs.Wholly.{wholly}
use Rattle.stack_walk_laws.specs.Falls.{Falls, falling, forgive, forgiven, is_write, left_of, none_falls, over_falls, writes_of}
use Rattle.stack_walk_laws.specs.FollowsFalling.{AllFallen, FollowsFalling, HasFallen}
use Rattle.stack_walk_laws.proofs.Falling.{IsNone, NoneFall, decide}
use Rattle.stack_walk_laws.proofs.Forgiving.{AllOf, IsOf, of_midst, op_of, op_there, still_going, still_lets, still_may, still_over, forgive_cut}
use Rattle.stack_walk_laws.proofs.Outward.{forgiven_at, forgiven_here, if_some, left_none, not_here, some_if}
use Rattle.stack_walk_laws.proofs.OverDevice.{acts_over, all_placed_over, going_over, lets_over, may_over, moves_over, placed_over}

abbrev label_at : (i k : ℕ) → Label
label_at i k = record { op = i; k = k }

-- at first

pub wait_still : (o : Option (List ℕ)) → forgive o Waits ≡ Waits
wait_still None = refl
wait_still (Some left) = refl

admitted_still : (o : Option (List ℕ)) → forgive o Admitted ≡ Admitted
admitted_still None = refl
admitted_still (Some left) = refl

done_still : (shown : List ℕ) (o : Option (List ℕ)) → forgive o (Done shown) ≡ Done shown
done_still shown None = refl
done_still shown (Some left) = refl

pub begins : (m : Setting) (n : ℕ) (ops : List Op) (opening : State) → ((c : ℕ) → get_or opening.logs c [] ≡ []) → FollowsFalling m n ops opening (λ i k. Waits) opening.bytes opening.blocks []
begins m n ops opening empty = record {
  falls = none_falls;
  after = opening;
  told = [];
  follows = subst (λ st. Follows (over_falls m none_falls) n ops opening st opening []) (λ x i k. sym (wait_still (left_of ops none_falls i k)) x) (begin_all (over_falls m none_falls) n ops opening empty);
  bytes = refl;
  blocks_are = refl;
  stamped = refl;
  on_record = refl;
  fallen = λ i k. tt;
  aside = λ label. tt;
  sized = λ label. tt;
}

-- blocks that move on together

abbrev pub IsNotIn : (i k : ℕ) → List BlockSpot → Type 0
IsNotIn i k [] = Unit {0}
IsNotIn i k (s ∷ spots) = (i ≡ number s → k ≡ place s → ⊥) × IsNotIn i k spots

pub kept : (i k : ℕ) (next : Status) (spots : List BlockSpot) (status : ℕ → ℕ → Status) → IsNotIn i k spots → with_all spots next status i k ≡ status i k
kept i k next [] status h = refl
kept i k next (s ∷ spots) status h = kept i k next spots (with_status (number s) (place s) next status) h.1 ∙ with_other (number s) (place s) i k next status h.0

not_in : (m : Setting) (n : ℕ) (ops : List Op) (status : ℕ → ℕ → Status) (was : Status) (i k : ℕ) (spots : List BlockSpot) → AllMayMove m n ops status was spots → (HasFallen was → ⊥) → HasFallen (status i k) → IsNotIn i k spots
not_in m n ops status was i k [] may never f = tt
not_in m n ops status was i k (s ∷ spots) may never f =
    ((λ p q. never (subst HasFallen (ap (λ j. status j k) p ∙ ap (status (number s)) q ∙ may.1.1.0) f)), not_in m n ops status was i k spots may.1.1.1.1 never f)

all_fallen : (m : Setting) (n : ℕ) (ops : List Op) (falls : Falls) (status : ℕ → ℕ → Status) (was next : Status) (spots : List BlockSpot) → AllMayMove m n ops status was spots → (HasFallen was → ⊥) → AllFallen falls status → AllFallen falls (with_all spots next status)
all_fallen m n ops falls status was next spots may never h i k =
    if_some (falls (label_at i k)) (HasFallen (with_all spots next status i k))
    (λ left e. let f = some_if (falls (label_at i k)) (HasFallen (status i k)) left e (h i k) in subst HasFallen (sym (kept i k next spots status (not_in m n ops status was i k spots may never f))) f)

all_told : (ops : List Op) (falls : Falls) (next : Status) → ((o : Option (List ℕ)) → forgive o next ≡ next) → (spots : List BlockSpot) (status : ℕ → ℕ → Status) → with_all spots next (forgiven ops falls status) ≡ forgiven ops falls (with_all spots next status)
all_told ops falls next same [] status = refl
all_told ops falls next same (s ∷ spots) status =
    ap (with_all spots next) (forgiven_at ops falls (number s) (place s) next next status (same (left_of ops falls (number s) (place s)))) ∙ all_told ops falls next same spots (with_status (number s) (place s) next status)

module _ (m : Setting) (n : ℕ) (falls : Falls) where
  abbrev over : Setting
  over = over_falls m falls

  may_all : (script ops : List Op) (status : ℕ → ℕ → Status) (was : Status) → ((o : Option (List ℕ)) → forgive o was ≡ was) → (spots : List BlockSpot) → AllMayMove m n ops status was spots → AllMayMove over n ops (forgiven script falls status) was spots
  may_all script ops status was same [] h = tt
  may_all script ops status was same (s ∷ spots) h = (
    h.0,
    (
      still_may over n script falls status s (may_over m (falling falls m.site.device) n status s h.1.0),
      (
        ap (forgive (left_of script falls (number s) (place s))) h.1.1.0 ∙ same (left_of script falls (number s) (place s)),
        (h.1.1.1.0, may_all script ops status was same spots h.1.1.1.1),
      ),
    ),
  )

  made_alike : (spots : List BlockSpot) → all_made over n spots ≡ all_made m n spots
  made_alike [] = refl
  made_alike (s ∷ spots) = ap (λ xs. xs ++ all_made over n spots) (moves_over m (falling falls m.site.device) n s).0 ∙ ap (λ xs. (parts_at m n s).made ++ xs) (made_alike spots)

  cut_alike : (spots : List BlockSpot) → all_cut over n spots ≡ all_cut m n spots
  cut_alike [] = refl
  cut_alike (s ∷ spots) = ap (λ xs. xs ++ all_cut over n spots) (moves_over m (falling falls m.site.device) n s).1.0 ∙ ap (λ xs. (parts_at m n s).cut ++ xs) (cut_alike spots)

module _ (m : Setting) (n : ℕ) (ops : List Op) (opening : State) (status : ℕ → ℕ → Status) (pages : List ℕ) (blocks : List (List ℕ)) (es : List Sent) where
  pub all_admitted_falling : (spots : List BlockSpot) → AllMayMove m n ops status Waits spots → (f : FollowsFalling m n ops opening status pages blocks es) →
      FollowsFalling m n ops opening (with_all spots Admitted status) (plain act (all_made m n spots) f.after).bytes (plain act (all_made m n spots) f.after).blocks es
  all_admitted_falling spots may f =
      let over = over_falls m f.falls in
      let there = all_admitted over n ops opening spots f.after (forgiven ops f.falls status) f.told (may_all m n f.falls ops ops status Waits wait_still spots may) f.follows in
      record {
        falls = f.falls;
        after = plain act (all_made m n spots) f.after;
        told = f.told;
        follows = subst (λ acts. Follows over n ops opening (forgiven ops f.falls (with_all spots Admitted status)) (plain act acts f.after) f.told) (made_alike m n f.falls spots)
            (subst (λ st. Follows over n ops opening st (plain act (all_made over n spots) f.after) f.told) (all_told ops f.falls Admitted admitted_still spots status) there);
        bytes = refl;
        blocks_are = refl;
        stamped = f.stamped;
        on_record = f.on_record;
        fallen = all_fallen m n ops f.falls status Waits Admitted spots may (λ x. x) f.fallen;
        aside = f.aside;
        sized = f.sized;
      }

  pub all_cut_falling : (spots : List BlockSpot) → AllMayMove m n ops status Admitted spots → (f : FollowsFalling m n ops opening status pages blocks es) →
      FollowsFalling m n ops opening (with_all spots Cut status) (plain act (all_cut m n spots) f.after).bytes (plain act (all_cut m n spots) f.after).blocks es
  all_cut_falling spots may f =
      let over = over_falls m f.falls in
      let there = all_are_cut over n ops opening spots f.after (forgiven ops f.falls status) f.told (may_all m n f.falls ops ops status Admitted admitted_still spots may) f.follows in
      record {
        falls = f.falls;
        after = plain act (all_cut m n spots) f.after;
        told = f.told;
        follows = subst (λ acts. Follows over n ops opening (forgiven ops f.falls (with_all spots Cut status)) (plain act acts f.after) f.told) (cut_alike m n f.falls spots)
            (subst (λ st. Follows over n ops opening st (plain act (all_cut over n spots) f.after) f.told) (all_told ops f.falls Cut forgive_cut spots status) there);
        bytes = refl;
        blocks_are = refl;
        stamped = f.stamped;
        on_record = f.on_record;
        fallen = all_fallen m n ops f.falls status Admitted Cut spots may (λ x. x) f.fallen;
        aside = f.aside;
        sized = f.sized;
      }

-- a block is settled

abbrev found : List ActAnswer → Option Why
found answers = (get_or answers 0 silent).why

-- a write's completion finds nothing
settled_silent : (m : Setting) (own : List ℕ) (fate : ℕ) (step : Step) (s : State) → IsOf true step → found (plain_tells act tell (parts_of m own fate step).settled s) ≡ None
settled_silent m own fate (Sets at values) s h = refl
settled_silent m own fate (Shows at) s h = refl
settled_silent m own fate (Seals body tuple app rtag) s h = refl
settled_silent m own fate (Writes b app body) s h = by m.mode.dix where
  by : (dix : Bool) → found (plain_tells act tell (write_parts m b app body own dix).settled s) ≡ None
  by true = refl
  by false = refl
settled_silent m own fate (WritesPi b frame) s h = refl
settled_silent m own fate (Reads b owner to) s h = absurd (false≢true (sym h))
settled_silent m own fate (Alters dev lba change) s h = refl

left_written : (script : List Op) (falls : Falls) (i k : ℕ) (left : List ℕ) → left_of script falls i k ≡ Some left → writes_of script i ≡ true
left_written script falls i k left e = by (writes_of script i) e where
  is_some : Option (List ℕ) → Bool
  is_some None = false
  is_some (Some x) = true

  by : (c : Bool) → (if c then falls (label_at i k) else None) ≡ Some left → c ≡ true
  by true e = refl
  by false e = absurd (false≢true (ap is_some e))

spot_written : (m : Setting) (n : ℕ) (status : ℕ → ℕ → Status) (s : BlockSpot) → MayMove m n status s → writes_of (ops_of s) (number s) ≡ true → IsOf true s.step
spot_written m n status s may w =
    let kind : is_write s.op ≡ true = sym (ap is_write (op_there s.front s.op s.behind)) ∙ w in
    subst (λ c. IsOf c s.step) kind (of_midst (is_write s.op) s.before s.step s.after (subst (AllOf (is_write s.op)) may.steps (op_of m (number s) s.op)))

module _ (m : Setting) (n : ℕ) (s : BlockSpot) (opening : State) (old new : ℕ → ℕ → Status) (pages : List ℕ) (blocks : List (List ℕ)) (es : List Sent) where
  pub settled_falling : (fate : Option Why) → MayMove m n old s → old (number s) (place s) ≡ Carried fate → (f : FollowsFalling m n (ops_of s) opening old pages blocks es) →
      Becomes (number s) (place s) (Settled (first_why fate (get_or (plain_tells act tell (parts_at m n s).settled f.after) 0 silent).why)) old new →
      FollowsFalling m n (ops_of s) opening new (plain act (parts_at m n s).settled f.after).bytes (plain act (parts_at m n s).settled f.after).blocks es
  settled_falling fate may e f becomes =
      let over = over_falls m f.falls in
      let i = number s in
      let k = place s in
      let same = (moves_over m (falling f.falls m.site.device) n s).1.1 in
      let there : Follows over n (ops_of s) opening (forgiven (ops_of s) f.falls new) (plain act (parts_at over n s).settled f.after) f.told = by (left_of (ops_of s) f.falls i k) refl in
      record {
        falls = f.falls;
        after = plain act (parts_at m n s).settled f.after;
        told = f.told;
        follows = subst (λ acts. Follows over n (ops_of s) opening (forgiven (ops_of s) f.falls new) (plain act acts f.after) f.told) same there;
        bytes = refl;
        blocks_are = refl;
        stamped = f.stamped;
        on_record = f.on_record;
        fallen = λ j l. if_some (f.falls (label_at j l)) (HasFallen (new j l)) (λ left q. fell j l (some_if (f.falls (label_at j l)) (HasFallen (old j l)) left q (f.fallen j l)));
        aside = f.aside;
        sized = f.sized;
      }
    where
      at : (fate : Option Why) → forgiven (ops_of s) f.falls old (number s) (place s) ≡ Carried fate →
          Becomes (number s) (place s) (Settled (first_why fate (found (plain_tells act tell (parts_at (over_falls m f.falls) n s).settled f.after)))) (forgiven (ops_of s) f.falls old) (forgiven (ops_of s) f.falls new) →
          Follows (over_falls m f.falls) n (ops_of s) opening (forgiven (ops_of s) f.falls new) (plain act (parts_at (over_falls m f.falls) n s).settled f.after) f.told
      at fate e becomes =
          let over = over_falls m f.falls in
          settled over n s opening f.after (forgiven (ops_of s) f.falls old) (forgiven (ops_of s) f.falls new) f.told
          (still_may over n (ops_of s) f.falls old s (may_over m (falling f.falls m.site.device) n old s may)) f.follows fate
          (first_why fate (found (plain_tells act tell (parts_at over n s).settled f.after))) e becomes
          (settled_quiet over (own_at (n + rooms over s.front) (place s)) (fates s.front + place s) s.step)
          (λ here l q. listed_as over (own_at (n + rooms over s.front) (place s)) (fates s.front + place s) s.step f.after fate here l q)

      elsewhere : (j l : ℕ) → (j ≡ number s → l ≡ place s → ⊥) → forgiven (ops_of s) f.falls new j l ≡ forgiven (ops_of s) f.falls old j l
      elsewhere j l h = ap (forgive (left_of (ops_of s) f.falls j l)) (becomes.elsewhere j l h)

      same_found : found (plain_tells act tell (parts_at m n s).settled f.after) ≡ found (plain_tells act tell (parts_at (over_falls m f.falls) n s).settled f.after)
      same_found = ap (λ acts. found (plain_tells act tell acts f.after)) (sym (moves_over m (falling f.falls m.site.device) n s).1.1)

      by : (o : Option (List ℕ)) → left_of (ops_of s) f.falls (number s) (place s) ≡ o →
          Follows (over_falls m f.falls) n (ops_of s) opening (forgiven (ops_of s) f.falls new) (plain act (parts_at (over_falls m f.falls) n s).settled f.after) f.told
      by None q =
          at fate (ap (λ o. forgive o (old (number s) (place s))) q ∙ e)
          (record { here = ap (λ o. forgive o (new (number s) (place s))) q ∙ becomes.here ∙ ap (λ x. Settled (first_why fate x)) same_found; elsewhere = elsewhere })
      by (Some left) q =
          let none = settled_silent (over_falls m f.falls) (own_at (n + rooms (over_falls m f.falls) s.front) (place s)) (fates s.front + place s) s.step f.after
          (spot_written m n old s may (left_written (ops_of s) f.falls (number s) (place s) left q)) in
          at None (ap (λ o. forgive o (old (number s) (place s))) q ∙ ap (forgive (Some left)) e)
          (record { here = ap (λ o. forgive o (new (number s) (place s))) q ∙ ap (forgive (Some left)) becomes.here ∙ ap (λ x. Settled x) (sym none); elsewhere = elsewhere })

      fell : (j l : ℕ) → HasFallen (old j l) → HasFallen (new j l)
      fell j l h = to (decide j l (record { op = number s; k = place s; dev = 0; lba = 0; dir = Read })) where
        medium : fate ≡ Some Medium → first_why fate (found (plain_tells act tell (parts_at m n s).settled f.after)) ≡ Some Medium
        medium q = ap (λ x. first_why x (found (plain_tells act tell (parts_at m n s).settled f.after))) q

        to : ((j ≡ number s) × (l ≡ place s)) ⊎ (j ≡ number s → l ≡ place s → ⊥) → HasFallen (new j l)
        to (inl p) =
            let was : HasFallen (Carried fate) = subst HasFallen (ap (λ i. old i l) p.0 ∙ ap (old (number s)) p.1 ∙ e) h in
            subst HasFallen (sym (ap (λ i. new i l) p.0 ∙ ap (new (number s)) p.1 ∙ becomes.here)) (medium was)
        to (inr p) = subst HasFallen (sym (becomes.elsewhere j l p)) h

-- an op is done whole

pub whole_falling : (m : Setting) (n : ℕ) (front behind : List Op) (op : Op) (opening : State) (old new : ℕ → ℕ → Status) (pages : List ℕ) (blocks : List (List ℕ)) (es : List Sent) → let i = suc (length front) in
    OneCellEach m → AllPlaced m n front → IsPlaced m n op → IsAlone op → LetsIn m old 1 front i op → (f : FollowsFalling m n (front ++ (op ∷ behind)) opening old pages blocks es) → BecomesDone m i op f.after old new →
    FollowsFalling m n (front ++ (op ∷ behind)) opening new (plain act (acts_of m i op) f.after).bytes (plain act (acts_of m i op) f.after).blocks es
whole_falling m n front behind op opening old new pages blocks es cells placed mine alone lets f becomes =
    let i = suc (length front) in
    let ops = front ++ (op ∷ behind) in
    let device = falling f.falls m.site.device in
    let over = over_falls m f.falls in
    let same = acts_over m device i op alone in
    let there = wholly over n front behind op opening f.after (forgiven ops f.falls old) (forgiven ops f.falls new) f.told cells (all_placed_over m device n front placed) (placed_over m device n op mine) alone
    (still_lets over old (forgiven ops f.falls old) 1 front i op (λ j l. still_over (left_of ops f.falls j l) (old j l)) (lets_over m device old 1 front i op lets))
    (record {
      waits = λ k. ap (forgive (left_of ops f.falls i k)) (becomes.waits k) ∙ wait_still (left_of ops f.falls i k);
      done = λ k. ap (forgive (left_of ops f.falls i k)) (becomes.done k) ∙ done_still (get_or (plain_tells act tell (acts_of m i op) f.after) k silent).shown (left_of ops f.falls i k)
          ∙ ap (λ acts. Done (get_or (plain_tells act tell acts f.after) k silent).shown) (sym same);
      elsewhere = λ j k h. ap (forgive (left_of ops f.falls j k)) (becomes.elsewhere j k h);
    }) f.follows in
    record {
      falls = f.falls;
      after = plain act (acts_of m i op) f.after;
      told = f.told;
      follows = subst (λ acts. Follows over n ops opening (forgiven ops f.falls new) (plain act acts f.after) f.told) same there;
      bytes = refl;
      blocks_are = refl;
      stamped = f.stamped;
      on_record = f.on_record;
      fallen = λ j l. if_some (f.falls (label_at j l)) (HasFallen (new j l)) (λ left q. fell j l (some_if (f.falls (label_at j l)) (HasFallen (old j l)) left q (f.fallen j l)));
      aside = f.aside;
      sized = f.sized;
    }
  where
    fell : (j l : ℕ) → HasFallen (old j l) → HasFallen (new j l)
    fell j l h = subst HasFallen (sym (becomes.elsewhere j l (λ p. subst HasFallen (ap (λ x. old x l) p ∙ becomes.waits l) h))) h

-- a write is held back

fates_told : (ops : List Op) (falls : Falls) (bs : List Block) (fs : List Fate) (status : ℕ → ℕ → Status) → NoneFall falls bs → with_fates bs fs (forgiven ops falls status) ≡ forgiven ops falls (with_fates bs fs status)
fates_told ops falls [] fs status n = refl
fates_told ops falls (b ∷ bs) [] status n = refl
fates_told ops falls (b ∷ bs) (x ∷ fs) status n = ap (with_fates bs fs) (by x) ∙ fates_told ops falls bs fs (with_fate b x status) n.1 where
  by : (x : Fate) → with_fate b x (forgiven ops falls status) ≡ forgiven ops falls (with_fate b x status)
  by Good = forgiven_here ops falls b (Carried None) (Carried None) status (ap (λ o. forgive o (Carried None)) (left_none ops falls b n.0))
  by (Bad why) = forgiven_here ops falls b (Carried (Some why)) (Carried (Some why)) status (ap (λ o. forgive o (Carried (Some why))) (left_none ops falls b n.0))
  by Untouched = refl

fates_other : (i k : ℕ) (bs : List Block) (fs : List Fate) (status : ℕ → ℕ → Status) → IsNone i k bs → with_fates bs fs status i k ≡ status i k
fates_other i k [] fs status h = refl
fates_other i k (b ∷ bs) [] status h = refl
fates_other i k (b ∷ bs) (x ∷ fs) status h = fates_other i k bs fs (with_fate b x status) h.1 ∙ by x where
  by : (x : Fate) → with_fate b x status i k ≡ status i k
  by Good = with_other b.op b.k i k (Carried None) status h.0
  by (Bad why) = with_other b.op b.k i k (Carried (Some why)) status h.0
  by Untouched = refl

none_there : (falls : Falls) (i k : ℕ) (left : List ℕ) (bs : List Block) → falls (label_at i k) ≡ Some left → NoneFall falls bs → IsNone i k bs
none_there falls i k left [] e n = tt
none_there falls i k left (b ∷ bs) e n = (not_here falls b i k left n.0 e, none_there falls i k left bs e n.1)

none_going : (m : Setting) (n : ℕ) (ops : List Op) (a : Adapter) (ios : List Io) (logs : ℕ) (falls : Falls) (status : ℕ → ℕ → Status) (bs : List Block) (spots : List BlockSpot) → AllFallen falls status → AllGoing m n ops a ios logs status bs spots → NoneFall falls bs
none_going m n ops a ios logs falls status [] spots f h = tt
none_going m n ops a ios logs falls status (b ∷ bs) [] f h = absurd h
none_going m n ops a ios logs falls status (b ∷ bs) (s ∷ spots) f h = (by (falls (label_of b)) (f b.op b.k), none_going m n ops a ios logs falls status bs spots f h.1.1) where
  by : (o : Option (List ℕ)) → IfSome o (λ left. HasFallen (status b.op b.k)) → o ≡ None
  by None x = refl
  by (Some left) x = absurd (subst HasFallen h.0.is_cut x)

pub held_falling : (m : Setting) (n : ℕ) (ops : List Op) (a : Adapter) (ios : List Io) (req : List Bio) (pool pool' : List (List ℕ)) (fates : List Fate) (opening : State) (status : ℕ → ℕ → Status) (blocks : List (List ℕ)) (es : List Sent) (spots : List BlockSpot) →
    IsCarriedGroup a pool m.size ios req → (first_of req).dir ≡ WriteDir → m.site.faults ≡ a.tamper → Unsent a ios req pool pool' fates → AllGoing m n ops a ios (length opening.logs) status (blocks_in req) spots →
    FollowsFalling m n ops opening status (flat pool) blocks es → FollowsFalling m n ops opening (with_fates (blocks_in req) fates status) (flat pool) blocks es
held_falling m n ops a ios req pool pool' fates opening status blocks es spots g w faults u going f =
    let bs = blocks_in req in
    let over = over_falls m f.falls in
    let none = none_going m n ops a ios (length opening.logs) f.falls status bs spots f.fallen going in
    let there = still_going over n ops ops a ios (length opening.logs) f.falls status bs spots (going_over m (falling f.falls m.site.device) n ops a ios (length opening.logs) status bs spots going) in
    let held = held_back over n ops a ios req pool pool' fates opening f.after (forgiven ops f.falls status) f.told spots g w faults u there f.bytes f.follows in
    record {
      falls = f.falls;
      after = held.after;
      told = f.told;
      follows = subst (λ st. Follows over n ops opening st held.after f.told) (fates_told ops f.falls bs fates status none) held.follows;
      bytes = held.bytes ∙ f.bytes;
      blocks_are = held.blocks ∙ f.blocks_are;
      stamped = f.stamped;
      on_record = f.on_record;
      fallen = λ i k. if_some (f.falls (label_at i k)) (HasFallen (with_fates bs fates status i k))
          (λ left e. subst HasFallen (sym (fates_other i k bs fates status (none_there f.falls i k left bs e none))) (some_if (f.falls (label_at i k)) (HasFallen (status i k)) left e (f.fallen i k)));
      aside = f.aside;
      sized = f.sized;
    }
