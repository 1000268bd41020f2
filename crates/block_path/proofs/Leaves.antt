-- What a target leaves where no line lets the medium store but a part, and what a device leaves that stores all of it.
use Rattle.std.proofs.Common.{◌≡◌, ℕ, zero, suc, List, [], ◌∷◌, ◌++◌, length, take, drop, Option, Some, None, map, refl, sym, ap, ◌∙◌, arith}
use Rattle.fault_schedule.specs.Altered.{keep_of, kept, kept_by}
use Rattle.fault_schedule.specs.declared.Label.{Label}
use Rattle.fault_schedule.specs.declared.fault.FaultLine.{FaultLine}
use Rattle.block_path.specs.declared.route.Route.{Route}
use Rattle.block_path.specs.Acts.{Effect}
use Rattle.block_path.specs.Blocks.{ActAnswer, Site, stored_over}

pub leaves_all : (faults : List FaultLine) (label : Label) (old frame : List ℕ) → keep_of faults label ≡ None → kept faults label old frame ≡ frame
leaves_all faults label old frame e = ap (λ n. kept_by n old frame) e

map_same : (f : List ℕ → List ℕ) (xs : List (List ℕ)) → ((x : List ℕ) → f x ≡ x) → map f xs ≡ xs
map_same f [] h = refl
map_same f (x ∷ xs) h = ap (λ y. y ∷ map f xs) (h x) ∙ ap (λ ys. x ∷ ys) (map_same f xs h)

-- where the device leaves each frame whole, an act leaves what it wrote
pub over_whole : (s : Site) (r : Route) (old : List ℕ) (e : Effect ActAnswer) → ((frame : List ℕ) → s.device.leaves r old frame ≡ frame) → stored_over s r old e ≡ e
over_whole s r old e h = ap (λ xs. record e { written = record e.written { blocks = xs } }) (map_same (s.device.leaves r old) e.written.blocks h)

over_length : (k : ℕ) (old frame : List ℕ) → length old ≡ length frame → length (take k frame ++ drop k old) ≡ length frame
over_length zero [] [] e = refl
over_length zero (x ∷ old) (y ∷ frame) e = e
over_length (suc k) [] [] e = refl
over_length k [] (y ∷ frame) e = absurd (omega (arith, e))
over_length k (x ∷ old) [] e = absurd (omega (arith, e))
over_length (suc k) (x ∷ old) (y ∷ frame) e = let rest = over_length k old frame (omega (arith, e)) in omega (arith, rest)

-- what is left is as long as a frame and what stood there
pub kept_length : (faults : List FaultLine) (label : Label) (old frame : List ℕ) (n : ℕ) → length old ≡ n → length frame ≡ n → length (kept faults label old frame) ≡ n
kept_length faults label old frame n o f = by (keep_of faults label) where
  by : (k : Option ℕ) → length (kept_by k old frame) ≡ n
  by None = f
  by (Some k) = over_length k old frame (o ∙ sym f) ∙ f
