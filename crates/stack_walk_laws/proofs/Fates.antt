-- What became of a block by the commands in flight, and how a command changes it.
use Rattle.std.proofs.Common.{◌≡◌, ℕ, zero, suc, ◌+◌, ◌≤◌, true, false, ◌&&◌, eqb, List, [], ◌∷◌, ◌++◌, get_or, set, refl, ap, ◌∙◌, arith, ⊎_elim}
use Rattle.std.specs.Prelude.{if◌then◌else◌}
use Rattle.std.proofs.lemmas.Bool.{cases_Bool}
use Rattle.bio_core.specs.declared.fate.Fate.{Fate}
use Rattle.bio_core.specs.declared.fate.Fate.TheVariants.{Good, Bad, Untouched}
use Rattle.stack_laws.specs.Blocks.{BlockId, blocks, is_block, times}
use Rattle.stack_laws.specs.Sound.{in_commands}
use Rattle.stack_laws.specs.View.{Command, no_command}
use Rattle.stack_walk_laws.specs.Statuses.{fate_at, fate_by, fate_in, first_fate}

pub other_fate : (f : Fate) → first_fate f Untouched ≡ f
other_fate Good = refl
other_fate (Bad why) = refl
other_fate Untouched = refl

first_assoc : (f g h : Fate) → first_fate f (first_fate g h) ≡ first_fate (first_fate f g) h
first_assoc Good g h = refl
first_assoc (Bad why) g h = refl
first_assoc Untouched g h = refl

-- a block that isn't among them is untouched
pub fate_none : (i k : ℕ) (bs : List BlockId) (fs : List Fate) → times i k bs ≡ 0 → fate_at i k bs fs ≡ Untouched
fate_none i k [] fs h = refl
fate_none i k (b ∷ bs) [] h = refl
fate_none i k (b ∷ bs) (f ∷ fs) h =
    ⊎_elim
    (λ (e : (eqb b.op i && eqb b.k k) ≡ true). let w : is_block i k b ≡ 1 = rw e refl in absurd (omega arith))
    (λ (e : (eqb b.op i && eqb b.k k) ≡ false). rw e (fate_none i k bs fs (omega arith)))
    (cases_Bool (eqb b.op i && eqb b.k k))

-- how often it stands in a command that isn't completed
abbrev pub times_in : (i k : ℕ) → Command → ℕ
times_in i k c = if c.completed then 0 else times i k (blocks c.bios)

pub by_none : (i k : ℕ) (c : Command) → times_in i k c ≡ 0 → fate_by i k c ≡ Untouched
by_none i k c h =
    ⊎_elim
    (λ (e : c.completed ≡ true). rw e refl)
    (λ (e : c.completed ≡ false). let t : times_in i k c ≡ times i k (blocks c.bios) = rw e refl in rw e (fate_none i k (blocks c.bios) c.fates (omega arith)))
    (cases_Bool c.completed)

pub in_none : (i k : ℕ) (cs : List Command) → in_commands i k cs ≡ 0 → fate_in i k cs ≡ Untouched
in_none i k [] h = refl
in_none i k (c ∷ cs) h =
    let t : in_commands i k (c ∷ cs) ≡ times_in i k c + in_commands i k cs = refl in
    rw (by_none i k c (omega arith)) (in_none i k cs (omega arith))

-- one more command
pub in_more : (i k : ℕ) (cs : List Command) (c : Command) → fate_in i k (cs ++ (c ∷ [])) ≡ first_fate (fate_in i k cs) (fate_by i k c)
in_more i k [] c = other_fate (fate_by i k c)
in_more i k (d ∷ cs) c = ap (first_fate (fate_by i k d)) (in_more i k cs c) ∙ first_assoc (fate_by i k d) (fate_in i k cs) (fate_by i k c)

-- ---- a command that is completed

abbrev pub done_with : Command → Command
done_with c = record c { completed = true }

-- a block that isn't in it is as it was
pub in_same : (i k : ℕ) (cs : List Command) (j : ℕ) → times_in i k (get_or cs j no_command) ≡ 0 → fate_in i k (set cs j (done_with (get_or cs j no_command))) ≡ fate_in i k cs
in_same i k [] j h = refl
in_same i k (c ∷ cs) zero h = let e = by_none i k c h in rw e refl
in_same i k (c ∷ cs) (suc j) h = ap (first_fate (fate_by i k c)) (in_same i k cs j h)

-- and one that is in it is in no other
pub in_this : (i k : ℕ) (cs : List Command) (j : ℕ) → 1 ≤ times_in i k (get_or cs j no_command) → in_commands i k cs ≤ 1 →
    (fate_in i k cs ≡ fate_by i k (get_or cs j no_command)) × (fate_in i k (set cs j (done_with (get_or cs j no_command))) ≡ Untouched)
in_this i k [] j h o = absurd (omega arith)
in_this i k (c ∷ cs) zero h o =
    let t : in_commands i k (c ∷ cs) ≡ times_in i k c + in_commands i k cs = refl in
    let e = in_none i k cs (omega arith) in
    (rw e (other_fate (fate_by i k c)), e)
in_this i k (c ∷ cs) (suc j) h o =
    let t : in_commands i k (c ∷ cs) ≡ times_in i k c + in_commands i k cs = refl in
    let l = times_below i k cs j in
    let e = by_none i k c (omega arith) in
    let r = in_this i k cs j h (omega arith) in
    (rw e r.0, rw e r.1)
  where
    times_below : (i k : ℕ) (cs : List Command) (j : ℕ) → times_in i k (get_or cs j no_command) ≤ in_commands i k cs
    times_below i k [] j = omega arith
    times_below i k (c ∷ cs) zero = let t : in_commands i k (c ∷ cs) ≡ times_in i k c + in_commands i k cs = refl in omega arith
    times_below i k (c ∷ cs) (suc j) = let t : in_commands i k (c ∷ cs) ≡ times_in i k c + in_commands i k cs = refl in let l = times_below i k cs j in omega arith
