-- Whether some block is bad, by the fates and by what is sent.
use Rattle.std.proofs.Common.{◌≡◌, ◌<◌, ℕ, zero, suc, ◌+◌, Bool, true, false, List, [], ◌∷◌, length, map, take, get_or, refl, ap, sym, ◌∙◌, arith}
use Rattle.std.specs.Prelude.{◌||◌, Result, Ok, Err}
use Rattle.bio_core.specs.declared.fate.Fate.{Fate}
use Rattle.pi_tuple.specs.declared.checks.Check.{Check}
use Rattle.fault_schedule.specs.declared.Label.{Label}
use Rattle.rig_api.specs.declared.rig.Outcome.{Outcome}
use Rattle.rig_api.specs.State.{RigState, Exchanged}
use Rattle.dix_adapter.specs.Carried.{any_bad, any_fails, fails, unsent}

pub fails-more : (fs : List Fate) (i : ℕ) (d : Fate) → i < length fs → any_fails (take (i + 1) fs) ≡ (any_fails (take i fs) || fails (get_or fs i d))
fails-more [] i d h = absurd (omega arith)
fails-more (f ∷ fs) zero d h = or-none (fails f)
  where
    or-none : (b : Bool) → (b || false) ≡ b
    or-none true = refl
    or-none false = refl
fails-more (f ∷ fs) (suc i) d h = let s : suc i + 1 ≡ suc (i + 1) = omega arith in rw s (ap (λ z. fails f || z) (fails-more fs i d (omega arith)) ∙ sym (or-assoc (fails f) (any_fails (take i fs)) (fails (get_or fs i d))))
  where
    or-assoc : (a b c : Bool) → ((a || b) || c) ≡ (a || (b || c))
    or-assoc true b c = refl
    or-assoc false b c = refl

pub fails-there : (fs : List Fate) (i : ℕ) (d : Fate) → i < length fs → fails (get_or fs i d) ≡ true → any_fails fs ≡ true
fails-there [] i d h e = absurd (omega arith)
fails-there (f ∷ fs) zero d h e = rw e refl
fails-there (f ∷ fs) (suc i) d h e = ap (λ z. fails f || z) (fails-there fs i d (omega arith) e) ∙ or-true (fails f)
  where
    or-true : (b : Bool) → (b || true) ≡ true
    or-true true = refl
    or-true false = refl

pub judged : (rs : List (Result (List ℕ) Check)) → any_fails (map unsent rs) ≡ any_bad rs
judged [] = refl
judged (Ok f ∷ rs) = judged rs
judged (Err c ∷ rs) = refl

pub exchanged-as : (old new : RigState) (dev : ℕ) (cdb cdb' : List ℕ) (labels labels' : List Label) (out out' before came : List ℕ) (o : Outcome) → cdb ≡ cdb' → labels ≡ labels' → out ≡ out' →
    Exchanged old new dev cdb labels out before came o → Exchanged old new dev cdb' labels' out' before came o
exchanged-as old new dev cdb cdb' labels labels' out out' before came o c l f e = rw (c, l, f) at e

pub exchanged-into : (old new : RigState) (dev : ℕ) (cdb cdb' : List ℕ) (labels : List Label) (out before before' came came' : List ℕ) (o : Outcome) → cdb ≡ cdb' → before ≡ before' → came ≡ came' →
    Exchanged old new dev cdb labels out before came o → Exchanged old new dev cdb' labels out before' came' o
exchanged-into old new dev cdb cdb' labels out before before' came came' o c b f e = rw (c, b, f) at e
