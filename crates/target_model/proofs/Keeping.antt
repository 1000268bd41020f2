-- Of blocks that are judged one after another, what each leaves in its place.
use Rattle.std.proofs.Common.{ℕ, zero, suc, ◌≡◌, ◌+◌, ◌*◌, List, ◌∷◌, take, drop, refl, ap, ◌∙◌, arith}
use Rattle.std.specs.Prelude.{slice_get}
use Rattle.fault_schedule.specs.declared.Label.{Label}
use Rattle.fault_schedule.specs.declared.fault.FaultLine.{FaultLine}
use Rattle.rig_api.specs.Frames.{frames_of}
use Rattle.rig_api.specs.Target.{each, kept_over, then_kept}
use Rattle.target_model.proofs.Bytes.{drop_both}
use Rattle.target_model.proofs.Ends.{Judge}

-- what stands in the place of block k, whose blocks lie in these bytes from this place on
abbrev pub keeps : List FaultLine → List Label → (size place : ℕ) → (was : List ℕ) → Judge → Judge
keeps faults labels size place was judge k frame = then_kept faults (slice_get labels k) (take size (drop (place + size * k) was)) (judge k frame)

kept_from : (faults : List FaultLine) (labels : List Label) (judge : Judge) (size place len n k : ℕ) (rest was : List ℕ)
    → kept_over faults labels k (frames_of size n (drop (place + size * k) was)) (each judge k (frames_of len n rest)) ≡ each (keeps faults labels size place was judge) k (frames_of len n rest)
kept_from faults labels judge size place len zero k rest was = refl
kept_from faults labels judge size place len (suc n) k rest was =
    let at : place + size * k + size ≡ place + size * (k + 1) = omega arith in
    let next : drop size (drop (place + size * k) was) ≡ drop (place + size * (k + 1)) was = drop_both size (place + size * k) was ∙ ap (λ m. drop m was) at in
    ap (λ t. keeps faults labels size place was judge k (take len rest) ∷ kept_over faults labels (k + 1) (frames_of size n t) (each judge (k + 1) (frames_of len n (drop len rest)))) next
    ∙ ap (λ t. keeps faults labels size place was judge k (take len rest) ∷ t) (kept_from faults labels judge size place len n (k + 1) (drop len rest) was)

pub kept_each : (faults : List FaultLine) (labels : List Label) (judge : Judge) (size place len n : ℕ) (all was : List ℕ)
    → kept_over faults labels 0 (frames_of size n (drop place was)) (each judge 0 (frames_of len n all)) ≡ each (keeps faults labels size place was judge) 0 (frames_of len n all)
kept_each faults labels judge size place len n all was =
    let at : place ≡ place + size * 0 = omega arith in
    ap (λ m. kept_over faults labels 0 (frames_of size n (drop m was)) (each judge 0 (frames_of len n all))) at ∙ kept_from faults labels judge size place len n 0 all was
