-- Statuses as they are told over a device whose store calls fail.
use Rattle.std.proofs.Common.{◌≡◌, ◌⊎◌, inl, inr, ℕ, zero, suc, Bool, true, false, List, [], ◌∷◌, ◌++◌, length, get_or, Option, Some, None, refl, sym, ap, subst, ◌∙◌}
use Rattle.std.specs.Prelude.{IfSome}
use Rattle.std.proofs.lemmas.Bool.{false≢true}
use Rattle.bio_core.specs.Bios.{Block}
use Rattle.bio_core.specs.declared.request.Dir.{Dir}
use Rattle.bio_core.specs.declared.request.Dir.TheVariants.{Read, Write as WriteDir}
use Rattle.bio_core.specs.declared.request.Io.{Io}
use Rattle.integrity_payload.specs.declared.payload.Owner.TheVariants.{Block as OfBlock, App as OfApp}
use Rattle.run_laws.specs.Passed.{Setting, block_of, Alters, Reads, Seals, Sets, Shows, Step, Writes, WritesPi, body_of, each_from, frame_at, steps_of, Op, Fetch, FetchPi, Fill, Overwrite, Put, Seal, Show, Wait, Write, WritePi}
use Rattle.run_laws.specs.Records.{is_out}
use Rattle.run_laws.specs.OpsApart.{OpsConflict}
use Rattle.dix_adapter.specs.declared.adapter.Adapter.{Adapter}
use Rattle.dix_adapter.specs.Groups.{label_of}
use Rattle.stack_walk_laws.specs.Gate.{AreOver, LetsIn, MayMove, BlockSpot, is_over, number}
use Rattle.stack_walk_laws.specs.Sending.{AllGoing, Carriage, IsElsewhere, IsGoing, carriage_of, is_carried}
use Rattle.stack_walk_laws.specs.Slots.{Admitted, Carried, Cut, Done, Settled, Status, Waits}
use Rattle.stack_walk_laws.specs.Falls.{Falls, forgive, forgiven, is_write, left_of, writes_of}
use Rattle.stack_walk_laws.specs.FollowsFalling.{AllFallen, HasFallen}

pub still_over : (o : Option (List ℕ)) (status : Status) → is_over (forgive o status) ≡ is_over status
still_over None status = refl
still_over (Some left) Waits = refl
still_over (Some left) Admitted = refl
still_over (Some left) Cut = refl
still_over (Some left) (Carried why) = refl
still_over (Some left) (Settled why) = refl
still_over (Some left) (Done shown) = refl

pub still_carried : (o : Option (List ℕ)) (status : Status) → is_carried (forgive o status) ≡ is_carried status
still_carried None status = refl
still_carried (Some left) Waits = refl
still_carried (Some left) Admitted = refl
still_carried (Some left) Cut = refl
still_carried (Some left) (Carried why) = refl
still_carried (Some left) (Settled why) = refl
still_carried (Some left) (Done shown) = refl

pub forgive_cut : (o : Option (List ℕ)) → forgive o Cut ≡ Cut
forgive_cut None = refl
forgive_cut (Some left) = refl

-- what is over is over there

still_all_over : (k : ℕ) (steps : List Step) (old new : ℕ → Status) → ((l : ℕ) → is_over (new l) ≡ is_over (old l)) → AreOver k steps old → AreOver k steps new
still_all_over k [] old new e h = tt
still_all_over k (step ∷ steps) old new e h = (e k ∙ h.0, still_all_over (suc k) steps old new e h.1)

pub still_lets : (m : Setting) (old new : ℕ → ℕ → Status) (i : ℕ) (ops : List Op) (j : ℕ) (op : Op) → ((i l : ℕ) → is_over (new i l) ≡ is_over (old i l)) → LetsIn m old i ops j op → LetsIn m new i ops j op
still_lets m old new i [] j op e h = tt
still_lets m old new i (x ∷ ops) j op e h = (by h.0, still_lets m old new (suc i) ops j op e h.1) where
  by : (AreOver 0 (steps_of m i x) (old i) ⊎ (OpsConflict m i x j op → ⊥)) → AreOver 0 (steps_of m i x) (new i) ⊎ (OpsConflict m i x j op → ⊥)
  by (inl over) = inl (still_all_over 0 (steps_of m i x) (old i) (new i) (e i) over)
  by (inr apart) = inr apart

pub still_may : (m : Setting) (n : ℕ) (ops : List Op) (falls : Falls) (status : ℕ → ℕ → Status) (s : BlockSpot) → MayMove m n status s → MayMove m n (forgiven ops falls status) s
still_may m n ops falls status s h = record {
  one = h.one;
  placed = h.placed;
  mine = h.mine;
  spread = h.spread;
  steps = h.steps;
  lets = still_lets m status (forgiven ops falls status) 1 s.front (number s) s.op (λ i l. still_over (left_of ops falls i l) (status i l)) h.lets;
}

pub still_going : (m : Setting) (n : ℕ) (script ops : List Op) (a : Adapter) (ios : List Io) (logs : ℕ) (falls : Falls) (status : ℕ → ℕ → Status) (bs : List Block) (spots : List BlockSpot) →
    AllGoing m n ops a ios logs status bs spots → AllGoing m n ops a ios logs (forgiven script falls status) bs spots
still_going m n script ops a ios logs falls status [] spots h = tt
still_going m n script ops a ios logs falls status (b ∷ bs) [] h = absurd h
still_going m n script ops a ios logs falls status (b ∷ bs) (s ∷ spots) h =
    let g = h.0 in (
      record {
        script = g.script;
        number = g.number;
        place = g.place;
        carriage = g.carriage;
        log = g.log;
        is_cut = ap (forgive (left_of script falls b.op b.k)) g.is_cut ∙ forgive_cut (left_of script falls b.op b.k);
        may = still_may m n script falls status s g.may;
      },
      (h.1.0, still_going m n script ops a ios logs falls status bs spots h.1.1),
    )

-- an op's blocks are written or read, and so is its carriage

abbrev pub IsOf : Bool → Step → Type 0
IsOf w (Sets at values) = Unit {0}
IsOf w (Shows at) = Unit {0}
IsOf w (Seals body tuple app rtag) = Unit {0}
IsOf w (Writes b app body) = w ≡ true
IsOf w (WritesPi b frame) = w ≡ true
IsOf w (Reads b owner to) = w ≡ false
IsOf w (Alters dev lba change) = Unit {0}

abbrev pub AllOf : Bool → List Step → Type 0
AllOf w [] = Unit {0}
AllOf w (step ∷ steps) = IsOf w step × AllOf w steps

each_of : (w : Bool) (k n : ℕ) (f : ℕ → Step) → ((j : ℕ) → IsOf w (f j)) → AllOf w (each_from k n f)
each_of w k zero f h = tt
each_of w k (suc n) f h = (h k, each_of w (suc k) n f h)

pub op_of : (m : Setting) (i : ℕ) (op : Op) → AllOf (is_write op) (steps_of m i op)
op_of m i (Fill seg byte) = (tt, tt)
op_of m i (Put page off values) = (tt, tt)
op_of m i (Show seg) = (tt, tt)
op_of m i (Seal n body tuples app rtag) = each_of false 0 n _ (λ j. tt)
op_of m i (Write v n body app) = each_of true 0 n (λ k. Writes (block_of i v k) app (body_of m.size body k)) (λ j. refl)
op_of m i (Fetch v n body) = each_of false 0 n (λ k. Reads (block_of i v k) OfBlock (body_of m.size body k)) (λ j. refl)
op_of m i (WritePi v n body tuples) = each_of true 0 n (λ k. WritesPi (block_of i v k) (frame_at m.size body tuples k)) (λ j. refl)
op_of m i (FetchPi v n body tuples) = each_of false 0 n (λ k. Reads (block_of i v k) OfApp (frame_at m.size body tuples k)) (λ j. refl)
op_of m i (Overwrite dev lba change) = (tt, tt)
op_of m i Wait = tt

pub of_midst : (w : Bool) (before : List Step) (step : Step) (after : List Step) → AllOf w (before ++ (step ∷ after)) → IsOf w step
of_midst w [] step after h = h.0
of_midst w (x ∷ before) step after h = of_midst w before step after h.1

abbrev dir_of : Dir → Option Carriage → Dir
dir_of d None = d
dir_of d (Some c) = c.dir

abbrev is_there : Option Carriage → Bool
is_there None = false
is_there (Some c) = true

of_carriage : (m : Setting) (own : List ℕ) (w : Bool) (step : Step) (c : Carriage) → IsOf w step → carriage_of m own step ≡ Some c → w ≡ is_out c.dir
of_carriage m own w (Sets at values) c h e = absurd (false≢true (ap is_there e))
of_carriage m own w (Shows at) c h e = absurd (false≢true (ap is_there e))
of_carriage m own w (Seals body tuple app rtag) c h e = absurd (false≢true (ap is_there e))
of_carriage m own w (Writes b app body) c h e = h ∙ ap (λ o. is_out (dir_of Read o)) e
of_carriage m own w (WritesPi b frame) c h e = h ∙ ap (λ o. is_out (dir_of Read o)) e
of_carriage m own w (Reads b owner to) c h e = h ∙ ap (λ o. is_out (dir_of WriteDir o)) e
of_carriage m own w (Alters dev lba change) c h e = absurd (false≢true (ap is_there e))

pub op_there : (front : List Op) (op : Op) (behind : List Op) → get_or (front ++ (op ∷ behind)) (length front) Wait ≡ op
op_there [] op behind = refl
op_there (x ∷ front) op behind = op_there front op behind

pub out_is : (m : Setting) (n : ℕ) (ops : List Op) (a : Adapter) (ios : List Io) (logs : ℕ) (status : ℕ → ℕ → Status) (b : Block) (s : BlockSpot) → IsGoing m n ops a ios logs status b s → writes_of ops b.op ≡ is_out b.dir
out_is m n ops a ios logs status b s g =
    ap (writes_of ops) (sym g.number) ∙ ap (λ o. writes_of o (number s)) (sym g.script) ∙ ap is_write (op_there s.front s.op s.behind)
    ∙ of_carriage m _ (is_write s.op) s.step _ (of_midst (is_write s.op) s.before s.step s.after (subst (AllOf (is_write s.op)) g.may.steps (op_of m (number s) s.op))) g.carriage

-- the blocks of a group: none has fallen, each goes its op's way, and no two are one

abbrev pub AreFresh : Falls → List Op → Bool → List Block → Type 0
AreFresh falls ops out [] = Unit {0}
AreFresh falls ops out (b ∷ bs) = ((falls (label_of b) ≡ None) × ((writes_of ops b.op ≡ out) × IsElsewhere b bs)) × AreFresh falls ops out bs

none_fallen : (status : Status) (o : Option (List ℕ)) → status ≡ Cut → IfSome o (λ left. HasFallen status) → o ≡ None
none_fallen status None e h = refl
none_fallen status (Some left) e h = absurd (subst HasFallen e h)

abbrev pub AllDir : Dir → List Block → Type 0
AllDir dir [] = Unit {0}
AllDir dir (b ∷ bs) = (b.dir ≡ dir) × AllDir dir bs

pub are_fresh : (m : Setting) (n : ℕ) (ops : List Op) (a : Adapter) (ios : List Io) (logs : ℕ) (falls : Falls) (status : ℕ → ℕ → Status) (dir : Dir) (bs : List Block) (spots : List BlockSpot) →
    AllFallen falls status → AllDir dir bs → AllGoing m n ops a ios logs status bs spots → AreFresh falls ops (is_out dir) bs
are_fresh m n ops a ios logs falls status dir [] spots f d h = tt
are_fresh m n ops a ios logs falls status dir (b ∷ bs) [] f d h = absurd h
are_fresh m n ops a ios logs falls status dir (b ∷ bs) (s ∷ spots) f d h =
    ((none_fallen (status b.op b.k) (falls (label_of b)) h.0.is_cut (f b.op b.k), (out_is m n ops a ios logs status b s h.0 ∙ ap is_out d.0, h.1.0)), are_fresh m n ops a ios logs falls status dir bs spots f d.1 h.1.1)
