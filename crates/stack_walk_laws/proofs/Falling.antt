-- One store call more fails.
use Rattle.std.proofs.Common.{◌≡◌, ◌⊎◌, inl, inr, ℕ, zero, suc, Bool, true, false, ◌&&◌, eqb, if◌then◌else◌, List, [], ◌∷◌, ◌++◌, length, Option, Some, None, refl, sym, ap, ◌∙◌}
use Rattle.std.specs.Prelude.{Result, IfSome, ltb}
use Rattle.std.proofs.lemmas.Bool.{eq-eqb, eqb-true, false≢true}
use Rattle.fault_schedule.specs.Altered.{fails_of}
use Rattle.fault_schedule.specs.declared.Label.{Label}
use Rattle.fault_schedule.specs.declared.fault.FaultLine.{FaultLine}
use Rattle.bio_core.specs.Bios.{Block}
use Rattle.bio_core.specs.declared.fate.Why.{Why}
use Rattle.run_laws.specs.Passed.{Op}
use Rattle.block_path.specs.Blocks.{Sent, Site}
use Rattle.run_laws.specs.Records.{find, is_labelled, is_out, put_frame, stamped, writes_at}
use Rattle.dix_adapter.specs.Groups.{label_of}
use Rattle.stack_walk_laws.specs.OnRecord.{put_each}
use Rattle.stack_walk_laws.specs.Sending.{IsElsewhere, is_carried}
use Rattle.stack_walk_laws.specs.Slots.{Cut, Status}
use Rattle.block_path.specs.Passed.{Stop}
use Rattle.block_path.specs.Routes.{Device}
use Rattle.stack_walk_laws.specs.Falls.{Falls, forgive, forgiven, left_of, none_falls, put_really, really, writes_of}
use Rattle.stack_walk_laws.specs.FollowsFalling.{FallsAside, LeavesSized}
use Rattle.stack_walk_laws.proofs.Recording.{same_numbers}
use Rattle.stack_walk_laws.proofs.Forgiving.{AreFresh}

abbrev label_at : (i k : ℕ) → Label
label_at i k = record { op = i; k = k }

abbrev pub or_left : Bool → List ℕ → Option (List ℕ) → Option (List ℕ)
or_left true left o = Some left
or_left false left o = o

abbrev pub with_fall : Block → List ℕ → Falls → Falls
with_fall b left falls label = or_left (eqb label.op b.op && eqb label.k b.k) left (falls label)

-- that of block `at` of a group, if there is one
abbrev pub fall_at : List Block → ℕ → List ℕ → Falls → Falls
fall_at [] at left falls = falls
fall_at (b ∷ bs) zero left falls = with_fall b left falls
fall_at (b ∷ bs) (suc at) left falls = fall_at bs at left falls

-- if a call failed, at a block of the first so many
abbrev pub fall_if : Bool → List Block → ℕ → List ℕ → Falls → Falls
fall_if true bs at left falls = fall_at bs at left falls
fall_if false bs at left falls = falls

abbrev pub falls_by : Option Stop → (limit : ℕ) → List Block → Falls → Falls
falls_by None limit bs falls = falls
falls_by (Some s) limit bs falls = fall_if (ltb s.at limit) bs s.at s.left falls

-- these two numbers are none of these blocks'
abbrev pub IsNone : (i k : ℕ) → List Block → Type 0
IsNone i k [] = Unit {0}
IsNone i k (b ∷ bs) = (i ≡ b.op → k ≡ b.k → ⊥) × IsNone i k bs

pub none_of_rest : (b : Block) (bs : List Block) → IsElsewhere b bs → IsNone b.op b.k bs
none_of_rest b [] h = tt
none_of_rest b (c ∷ bs) h = ((λ p q. h.0 (sym p) (sym q)), none_of_rest b bs h.1)

pub here : (b : Block) (left : List ℕ) (falls : Falls) → with_fall b left falls (label_of b) ≡ Some left
here b left falls = rw (eq-eqb b.op b.op refl) (rw (eq-eqb b.k b.k refl) refl)

pub there : (b : Block) (left : List ℕ) (falls : Falls) (i k : ℕ) → (i ≡ b.op → k ≡ b.k → ⊥) → with_fall b left falls (label_at i k) ≡ falls (label_at i k)
there b left falls i k h = by (eqb i b.op) (eqb k b.k) refl refl where
  by : (x y : Bool) → eqb i b.op ≡ x → eqb k b.k ≡ y → or_left (x && y) left (falls (label_at i k)) ≡ falls (label_at i k)
  by true true e f = absurd (h (eqb-true i b.op e) (eqb-true k b.k f))
  by true false e f = refl
  by false y e f = refl

pub elsewhere_still : (bs : List Block) (at : ℕ) (left : List ℕ) (falls : Falls) (i k : ℕ) → IsNone i k bs → fall_at bs at left falls (label_at i k) ≡ falls (label_at i k)
elsewhere_still [] at left falls i k h = refl
elsewhere_still (b ∷ bs) zero left falls i k h = there b left falls i k h.0
elsewhere_still (b ∷ bs) (suc at) left falls i k h = elsewhere_still bs at left falls i k h.1

-- a group of which none has fallen
abbrev pub NoneFall : Falls → List Block → Type 0
NoneFall falls [] = Unit {0}
NoneFall falls (b ∷ bs) = (falls (label_of b) ≡ None) × NoneFall falls bs

pub none_fall : (falls : Falls) (ops : List Op) (out : Bool) (bs : List Block) → AreFresh falls ops out bs → NoneFall falls bs
none_fall falls ops out [] h = tt
none_fall falls ops out (b ∷ bs) h = (h.0.0, none_fall falls ops out bs h.1)

pub rest_none : (b : Block) (left : List ℕ) (falls : Falls) (bs : List Block) → IsElsewhere b bs → NoneFall falls bs → NoneFall (with_fall b left falls) bs
rest_none b left falls [] h n = tt
rest_none b left falls (c ∷ bs) h n = (there b left falls c.op c.k (λ p q. h.0 p q) ∙ n.0, rest_none b left falls bs h.1 n.1)

-- whether a label has one more

pub decide : (i k : ℕ) (b : Block) → ((i ≡ b.op) × (k ≡ b.k)) ⊎ (i ≡ b.op → k ≡ b.k → ⊥)
decide i k b = by (eqb i b.op) (eqb k b.k) refl refl where
  by : (x y : Bool) → eqb i b.op ≡ x → eqb k b.k ≡ y → ((i ≡ b.op) × (k ≡ b.k)) ⊎ (i ≡ b.op → k ≡ b.k → ⊥)
  by true true e f = inl (eqb-true i b.op e, eqb-true k b.k f)
  by true false e f = inr (λ p q. false≢true (sym f ∙ eq-eqb k b.k q))
  by false y e f = inr (λ p q. false≢true (sym e ∙ eq-eqb i b.op p))

-- these are all the blocks of a group, with their statuses
abbrev pub AllCut : (ℕ → ℕ → Status) → List Block → Type 0
AllCut status [] = Unit {0}
AllCut status (b ∷ bs) = (status b.op b.k ≡ Cut) × AllCut status bs

cut_alike : (ops : List Op) (falls more : Falls) (status : ℕ → ℕ → Status) (i k : ℕ) → status i k ≡ Cut → forgiven ops falls status i k ≡ forgiven ops more status i k
cut_alike ops falls more status i k e =
    ap (forgive (left_of ops falls i k)) e ∙ cut (left_of ops falls i k) ∙ sym (cut (left_of ops more i k)) ∙ ap (forgive (left_of ops more i k)) (sym e)
  where
    cut : (o : Option (List ℕ)) → forgive o Cut ≡ Cut
    cut None = refl
    cut (Some left) = refl

same_left : (ops : List Op) (falls more : Falls) (i k : ℕ) → falls (label_at i k) ≡ more (label_at i k) → left_of ops falls i k ≡ left_of ops more i k
same_left ops falls more i k e = ap (λ (o : Option (List ℕ)). if writes_of ops i then o else None) e

-- A block that was not carried is told alike, whether its call is to fail or not.
pub alike_at : (ops : List Op) (bs : List Block) (at : ℕ) (left : List ℕ) (falls : Falls) (status : ℕ → ℕ → Status) (i k : ℕ) → AllCut status bs → forgiven ops falls status i k ≡ forgiven ops (fall_at bs at left falls) status i k
alike_at ops [] at left falls status i k h = refl
alike_at ops (b ∷ bs) zero left falls status i k h = by (decide i k b) where
  by : ((i ≡ b.op) × (k ≡ b.k)) ⊎ (i ≡ b.op → k ≡ b.k → ⊥) → forgiven ops falls status i k ≡ forgiven ops (with_fall b left falls) status i k
  by (inl e) = cut_alike ops falls (with_fall b left falls) status i k (ap (λ j. status j k) e.0 ∙ ap (status b.op) e.1 ∙ h.0)
  by (inr f) = ap (λ o. forgive o (status i k)) (same_left ops falls (with_fall b left falls) i k (sym (there b left falls i k f)))
alike_at ops (b ∷ bs) (suc at) left falls status i k h = alike_at ops bs at left falls status i k h.1

pub alike_by : (ops : List Op) (stop : Option Stop) (limit : ℕ) (bs : List Block) (falls : Falls) (status : ℕ → ℕ → Status) (i k : ℕ) → AllCut status bs → forgiven ops falls status i k ≡ forgiven ops (falls_by stop limit bs falls) status i k
alike_by ops None limit bs falls status i k h = refl
alike_by ops (Some s) limit bs falls status i k h = by (ltb s.at limit) where
  by : (c : Bool) → forgiven ops falls status i k ≡ forgiven ops (fall_if c bs s.at s.left falls) status i k
  by true = alike_at ops bs s.at s.left falls status i k h
  by false = refl

-- What was carried falls as before.
pub before_by : (stop : Option Stop) (limit : ℕ) (bs : List Block) (falls : Falls) (i k : ℕ) → IsNone i k bs → falls_by stop limit bs falls (label_at i k) ≡ falls (label_at i k)
before_by None limit bs falls i k h = refl
before_by (Some s) limit bs falls i k h = by (ltb s.at limit) where
  by : (c : Bool) → fall_if c bs s.at s.left falls (label_at i k) ≡ falls (label_at i k)
  by true = elsewhere_still bs s.at s.left falls i k h
  by false = refl

pub carried_none : (status : ℕ → ℕ → Status) (bs : List Block) (i k : ℕ) → AllCut status bs → is_carried (status i k) ≡ true → IsNone i k bs
carried_none status [] i k g h = tt
carried_none status (b ∷ bs) i k g h = ((λ p q. false≢true (ap is_carried (sym g.0 ∙ sym (ap (λ j. status j b.k) p) ∙ sym (ap (status i) q)) ∙ h)), carried_none status bs i k g.1 h)

-- what is left has its size

sized_at : (size : ℕ) (bs : List Block) (at : ℕ) (left : List ℕ) (falls : Falls) → length left ≡ size → LeavesSized size falls → LeavesSized size (fall_at bs at left falls)
sized_at size [] at left falls l h label = h label
sized_at size (b ∷ bs) zero left falls l h label = by (eqb label.op b.op && eqb label.k b.k) where
  by : (c : Bool) → IfSome (or_left c left (falls label)) (λ left. length left ≡ size)
  by true = l
  by false = h label
sized_at size (b ∷ bs) (suc at) left falls l h label = sized_at size bs at left falls l h label

pub sized_by : (size : ℕ) (stop : Option Stop) (limit : ℕ) (bs : List Block) (falls : Falls) → IfSome stop (λ s. length s.left ≡ size) → LeavesSized size falls → LeavesSized size (falls_by stop limit bs falls)
sized_by size None limit bs falls l h = h
sized_by size (Some s) limit bs falls l h = by (ltb s.at limit) where
  by : (c : Bool) → LeavesSized size (fall_if c bs s.at s.left falls)
  by true = sized_at size bs s.at s.left falls l h
  by false = h

-- the record

put_more : (s : Site) (falls : Falls) (told : List Sent) (x : Sent) (es : List Sent) →
    put_really s falls (told ++ (x ∷ [])) es ≡ (let now = put_really s falls told es in now ++ (stamped s now x.label x.dir x.dev x.lba (really (falls x.label) x.came) ∷ []))
put_more s falls [] x es = refl
put_more s falls (y ∷ told) x es = put_more s falls told x (es ++ (stamped s es y.label y.dir y.dev y.lba (really (falls y.label) y.came) ∷ []))

abbrev pub all_really : Falls → List Block → List (Result (List ℕ) Why) → List (Result (List ℕ) Why)
all_really falls [] cames = []
all_really falls (b ∷ bs) [] = []
all_really falls (b ∷ bs) (c ∷ cames) = really (falls (label_of b)) c ∷ all_really falls bs cames

pub put_all : (s other : Site) (falls : Falls) (bs : List Block) (cames : List (Result (List ℕ) Why)) (told es : List Sent) →
    put_really s falls (put_each other bs cames told) es ≡ put_each s bs (all_really falls bs cames) (put_really s falls told es)
put_all s other falls [] cames told es = refl
put_all s other falls (b ∷ bs) [] told es = refl
put_all s other falls (b ∷ bs) (c ∷ cames) told es =
    put_all s other falls bs cames (told ++ (stamped other told (label_of b) b.dir b.dev b.lba c ∷ [])) es
    ∙ ap (put_each s bs (all_really falls bs cames)) (put_more s falls told (stamped other told (label_of b) b.dir b.dev b.lba c) es)

-- each entry there stands after the write entries before it

writes_still : (s : Site) (d : Device) (c : ℕ) (es : List Sent) → writes_at (record s { device = d }) c es ≡ writes_at s c es
writes_still s d c [] = refl
writes_still s d c (e ∷ es) = ap (put_frame (is_out e.dir && eqb (s.cell e.dev e.lba) c) e.came) (writes_still s d c es)

put_still : (s : Site) (d : Device) (bs : List Block) (cames : List (Result (List ℕ) Why)) (es : List Sent) → put_each (record s { device = d }) bs cames es ≡ put_each s bs (all_really none_falls bs cames) es
put_still s d [] cames es = refl
put_still s d (b ∷ bs) [] es = refl
put_still s d (b ∷ bs) (c ∷ cames) es =
    ap (λ ws. put_each (record s { device = d }) bs cames (es ++ (record { label = label_of b; dir = b.dir; dev = b.dev; lba = b.lba; came = c; after = length {A = List ℕ} ws } ∷ []))) (writes_still s d (s.cell b.dev b.lba) es)
    ∙ put_still s d bs cames (es ++ (stamped s es (label_of b) b.dir b.dev b.lba c ∷ []))

pub still_stamped : (s : Site) (d : Device) (bs : List Block) (cames : List (Result (List ℕ) Why)) (told : List Sent) → put_really s none_falls told [] ≡ told →
    put_really s none_falls (put_each (record s { device = d }) bs cames told) [] ≡ put_each (record s { device = d }) bs cames told
still_stamped s d bs cames told h =
    put_all s (record s { device = d }) none_falls bs cames told [] ∙ (ap (put_each s bs (all_really none_falls bs cames)) h ∙ sym (put_still s d bs cames told))

-- whose labels fall alike stands there alike
abbrev AlikeFor : Falls → Falls → List Sent → Type 0
AlikeFor one two [] = Unit {0}
AlikeFor one two (x ∷ told) = (one x.label ≡ two x.label) × AlikeFor one two told

put_alike : (s : Site) (one two : Falls) (told es : List Sent) → AlikeFor one two told → put_really s one told es ≡ put_really s two told es
put_alike s one two [] es h = refl
put_alike s one two (x ∷ told) es h =
    put_alike s one two told (es ++ (stamped s es x.label x.dir x.dev x.lba (really (one x.label) x.came) ∷ [])) h.1
    ∙ ap (λ o. put_really s two told (es ++ (stamped s es x.label x.dir x.dev x.lba (really o x.came) ∷ []))) h.0

abbrev is_some : Option Sent → Bool
is_some None = false
is_some (Some e) = true

-- a label is found there where it is found in truth
find_more : (l : Label) (es : List Sent) (e : Sent) → is_some (find l es) ≡ true → is_some (find l (es ++ (e ∷ []))) ≡ true
find_more l [] e h = absurd (false≢true h)
find_more l (x ∷ es) e h = by (is_labelled l x) h (find_more l es e) where
  by : (c : Bool) → is_some (if c then Some x else find l es) ≡ true → (is_some (find l es) ≡ true → is_some (find l (es ++ (e ∷ []))) ≡ true) → is_some (if c then Some x else find l (es ++ (e ∷ []))) ≡ true
  by true h f = refl
  by false h f = f h

find_last : (l : Label) (es : List Sent) (e : Sent) → is_labelled l e ≡ true → is_some (find l (es ++ (e ∷ []))) ≡ true
find_last l [] e h = rw h refl
find_last l (x ∷ es) e h = by (is_labelled l x) (find_last l es e h) where
  by : (c : Bool) → is_some (find l (es ++ (e ∷ []))) ≡ true → is_some (if c then Some x else find l (es ++ (e ∷ []))) ≡ true
  by true h = refl
  by false h = h

put_finds : (s : Site) (falls : Falls) (l : Label) (told es : List Sent) → is_some (find l es) ≡ true → is_some (find l (put_really s falls told es)) ≡ true
put_finds s falls l [] es h = h
put_finds s falls l (x ∷ told) es h =
    let e = stamped s es x.label x.dir x.dev x.lba (really (falls x.label) x.came) in put_finds s falls l told (es ++ (e ∷ [])) (find_more l es e h)

-- of which nothing stands on record
abbrev pub NoneStand : List Sent → List Block → Type 0
NoneStand es [] = Unit {0}
NoneStand es (b ∷ bs) = (find (label_of b) es ≡ None) × NoneStand es bs

other_label : (b : Block) (i k : ℕ) → ((i ≡ b.op) × (k ≡ b.k)) ⊎ (i ≡ b.op → k ≡ b.k → ⊥) → (es : List Sent) → find (label_of b) es ≡ None → is_some (find (label_at i k) es) ≡ true → i ≡ b.op → k ≡ b.k → ⊥
other_label b i k d es n h p q = false≢true (sym (ap is_some n) ∙ ap (λ j. is_some (find (label_at j b.k) es)) (sym p) ∙ ap (λ j. is_some (find (label_at i j) es)) (sym q) ∙ h)

none_in : (s : Site) (falls : Falls) (l : Label) (bs : List Block) (es : List Sent) → is_some (find l es) ≡ true → NoneStand es bs → IsNone l.op l.k bs
none_in s falls l [] es h n = tt
none_in s falls l (b ∷ bs) es h n = (other_label b l.op l.k (decide l.op l.k b) es n.0 h, none_in s falls l bs es h n.1)

pub stand_alike : (s : Site) (falls : Falls) (stop : Option Stop) (limit : ℕ) (bs : List Block) (told es : List Sent) → NoneStand (put_really s falls told es) bs → AlikeFor falls (falls_by stop limit bs falls) told
stand_alike s falls stop limit bs [] es n = tt
stand_alike s falls stop limit bs (x ∷ told) es n =
    let e = stamped s es x.label x.dir x.dev x.lba (really (falls x.label) x.came) in
    let found = put_finds s falls x.label told (es ++ (e ∷ [])) (find_last x.label es e (same_numbers x.label.op x.label.k)) in (
      sym (before_by stop limit bs falls x.label.op x.label.k (none_in s falls x.label bs (put_really s falls told (es ++ (e ∷ []))) found n)),
      stand_alike s falls stop limit bs told (es ++ (e ∷ [])) n,
    )

-- So the record in truth stays what it was, where more calls fail.
pub record_still : (s : Site) (falls : Falls) (stop : Option Stop) (limit : ℕ) (bs : List Block) (told : List Sent) → NoneStand (put_really s falls told []) bs → put_really s falls told [] ≡ put_really s (falls_by stop limit bs falls) told []
record_still s falls stop limit bs told n = put_alike s falls (falls_by stop limit bs falls) told [] (stand_alike s falls stop limit bs told [] n)

-- none falls of which a fault line says that the medium fails it

-- that block of a group is one
abbrev pub fails_in : List FaultLine → List Block → ℕ → Bool
fails_in faults [] at = false
fails_in faults (b ∷ bs) zero = fails_of faults (label_of b)
fails_in faults (b ∷ bs) (suc at) = fails_in faults bs at

aside_at : (faults : List FaultLine) (bs : List Block) (at : ℕ) (left : List ℕ) (falls : Falls) → fails_in faults bs at ≡ false → FallsAside faults falls → FallsAside faults (fall_at bs at left falls)
aside_at faults [] at left falls f h label = h label
aside_at faults (b ∷ bs) zero left falls f h label = by (eqb label.op b.op) (eqb label.k b.k) refl refl where
  by : (x y : Bool) → eqb label.op b.op ≡ x → eqb label.k b.k ≡ y → IfSome (or_left (x && y) left (falls label)) (λ left. fails_of faults label ≡ false)
  by true true p q = ap (λ i. fails_of faults (label_at i label.k)) (eqb-true label.op b.op p) ∙ ap (λ k. fails_of faults (label_at b.op k)) (eqb-true label.k b.k q) ∙ f
  by true false p q = h label
  by false y p q = h label
aside_at faults (b ∷ bs) (suc at) left falls f h label = aside_at faults bs at left falls f h label

pub aside_by : (faults : List FaultLine) (stop : Option Stop) (limit : ℕ) (bs : List Block) (falls : Falls) → IfSome stop (λ s. ltb s.at limit ≡ true → fails_in faults bs s.at ≡ false) → FallsAside faults falls → FallsAside faults (falls_by stop limit bs falls)
aside_by faults None limit bs falls f h = h
aside_by faults (Some s) limit bs falls f h = by (ltb s.at limit) refl where
  by : (c : Bool) → ltb s.at limit ≡ c → FallsAside faults (fall_if c bs s.at s.left falls)
  by true e = aside_at faults bs s.at s.left falls (f e) h
  by false e = h
