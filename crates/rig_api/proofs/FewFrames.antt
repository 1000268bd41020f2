-- A command that ends early sends no more frames than it has blocks.
use Rattle.std.proofs.Common.{List, Result, ℕ, length, ◌≤◌, [], arith, Ok, ◌∷◌, Err, Bool, Option, ◌≡◌, true, ◌<◌, if◌then◌else◌, take, ◌++◌, refl, ◌+◌, length-append, ◌∙◌, ap, false, None, Some, ltb}
use Rattle.rig_api.specs.Target.{passed, Ended, Flaw, Stop, write_end, whole}
use Rattle.sense_codes.specs.declared.Sense.{Sense}
use Rattle.std.proofs.lemmas.List.{length-take}
use Rattle.std.proofs.lemmas.Bool.{ltb-true}

pub few_passed : (rs : List (Result (List ℕ) Flaw)) → length (passed rs) ≤ length rs
few_passed [] = omega arith
few_passed (Ok f ∷ rs) = let h = few_passed rs in omega (arith, h)
few_passed (Err c ∷ rs) = omega arith

pub few_cut : (test : Bool) (k n : ℕ) (left : List ℕ) (frames : List (List ℕ)) (other : Ended) (done : ℕ) (sense : Option Sense) → length frames ≤ n → length other.frames ≤ n → (test ≡ true → k < length frames) →
    length (if test then (record { done = done; sense = sense; frames = take k frames ++ (left ∷ []) }) else other).frames ≤ n
few_cut true k n left frames other done sense h l t =
    let less : k < length frames = t refl in
    let e : length (take k frames ++ (left ∷ [])) ≡ k + 1 = length-append (take k frames) (left ∷ []) ∙ ap (λ v. v + 1) (simp length-take (omega arith)) in
    omega (arith, e)
few_cut false k n left frames other done sense h l t = l

pub few_written : (lba : ℕ) (rs : List (Result (List ℕ) Flaw)) (stop : Option Stop) → length (write_end lba rs stop).frames ≤ length rs
few_written lba rs None = few_passed rs
few_written lba rs (Some s) = few_cut (ltb s.at (length (passed rs))) s.at (length rs) s.left (passed rs) (whole lba rs) s.at _ (few_passed rs) (few_passed rs) (ltb-true s.at (length (passed rs)))
