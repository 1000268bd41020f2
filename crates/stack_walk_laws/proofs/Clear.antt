-- Where no block of a group is bad, all are good.
use Rattle.std.proofs.Common.{◌≡◌, ℕ, zero, suc, true, false, List, [], ◌∷◌, ◌++◌, length, map, replicate, refl, sym, ap, ◌∙◌, ⊎_elim, append-nil}
use Rattle.std.specs.Prelude.{ltb, Result, Ok, Err}
use Rattle.std.proofs.lemmas.Bool.{cases_Bool, false≢true}
use Rattle.bio_core.specs.Bios.{Block}
use Rattle.bio_core.specs.declared.fate.Fate.{Fate}
use Rattle.bio_core.specs.declared.fate.Fate.TheVariants.{Good, Bad, Untouched}
use Rattle.bio_core.specs.declared.request.Io.{Io}
use Rattle.pi_tuple.specs.declared.checks.Check.{Check}
use Rattle.dix_adapter.specs.declared.adapter.Adapter.{Adapter}
use Rattle.dix_adapter.specs.Carried.{any_bad, any_fails, arrives, carried, fates_in, unsent}
use Rattle.dix_adapter.specs.Outcomes.{rest_of}
use Rattle.dix_adapter.specs.Passed.{Outcome}

-- a group that is held back has a bad block
pub held_fails : (rs : List (Result (List ℕ) Check)) → any_bad rs ≡ true → any_fails (map unsent rs) ≡ true
held_fails [] h = absurd (false≢true h)
held_fails (Ok frame ∷ rs) h = held_fails rs h
held_fails (Err check ∷ rs) h = refl

-- there is no rest where nothing in it is bad
no_rest : (n : ℕ) (o : Outcome) → any_fails (rest_of n o) ≡ false → rest_of n o ≡ []
no_rest n o h =
    ⊎_elim
    (λ (e : ltb o.done n ≡ true). let x : true ≡ false = rw e at h in absurd (false≢true (sym x)))
    (λ (e : ltb o.done n ≡ false). rw e refl)
    (cases_Bool (ltb o.done n))

behind_fails : (a b : List Fate) → any_fails (a ++ b) ≡ false → any_fails b ≡ false
behind_fails [] b h = h
behind_fails (Good ∷ a) b h = behind_fails a b h
behind_fails (Untouched ∷ a) b h = behind_fails a b h
behind_fails (Bad why ∷ a) b h = absurd (false≢true (sym h))

front_fails : (a b : List Fate) → any_fails (a ++ b) ≡ false → any_fails a ≡ false
front_fails [] b h = refl
front_fails (Good ∷ a) b h = front_fails a b h
front_fails (Untouched ∷ a) b h = front_fails a b h
front_fails (Bad why ∷ a) b h = absurd (false≢true (sym h))

good_long : (n : ℕ) → replicate (length (replicate n Good)) Good ≡ replicate n Good
good_long zero = refl
good_long (suc n) = ap (λ l. Good ∷ l) (good_long n)

-- of a write that was sent
pub clear_out : (n k : ℕ) (o : Outcome) (fates : List Fate) → fates ≡ replicate n Good ++ rest_of k o → any_fails fates ≡ false → fates ≡ replicate (length fates) Good
clear_out n k o fates e h =
    let r = no_rest k o (behind_fails (replicate n Good) (rest_of k o) (sym (ap any_fails e) ∙ h)) in
    let s : fates ≡ replicate n Good = e ∙ (ap (λ x. replicate n Good ++ x) r ∙ append-nil (replicate n Good)) in
    s ∙ (sym (good_long n) ∙ ap (λ (x : List Fate). replicate (length x) Good) (sym s))

came_good : (a : Adapter) (ios : List Io) (bs : List Block) (fs : List (List ℕ)) → any_fails (fates_in a ios bs fs) ≡ false → fates_in a ios bs fs ≡ replicate (length (fates_in a ios bs fs)) Good
came_good a ios [] fs h = refl
came_good a ios (b ∷ bs) [] h = refl
came_good a ios (b ∷ bs) (f ∷ fs) h = one_more (arrives a ios b f) (fates_in a ios bs fs) h (came_good a ios bs fs)
  where
    one_more : (r : Result (List ℕ) Check) (fates : List Fate) → any_fails (carried r ∷ fates) ≡ false → (any_fails fates ≡ false → fates ≡ replicate (length fates) Good) → carried r ∷ fates ≡ replicate (length (carried r ∷ fates)) Good
    one_more (Ok frame) fates h' more = ap (λ l. Good ∷ l) (more h')
    one_more (Err check) fates h' more = absurd (false≢true (sym h'))

-- and of a read
pub clear_in : (a : Adapter) (ios : List Io) (bs : List Block) (fs : List (List ℕ)) (k : ℕ) (o : Outcome) (fates : List Fate) → fates ≡ fates_in a ios bs fs ++ rest_of k o → any_fails fates ≡ false → fates ≡ replicate (length fates) Good
clear_in a ios bs fs k o fates e h =
    let came = fates_in a ios bs fs in
    let clear = sym (ap any_fails e) ∙ h in
    let r = no_rest k o (behind_fails came (rest_of k o) clear) in
    let s : fates ≡ came = e ∙ (ap (λ x. came ++ x) r ∙ append-nil came) in
    s ∙ (came_good a ios bs fs (front_fails came (rest_of k o) clear) ∙ ap (λ (x : List Fate). replicate (length x) Good) (sym s))
