-- What a write leaves where a line lets the medium store but a part of a block.
use Rattle.std.proofs.Common.{ℕ, suc, ◌≡◌, ◌+◌, Bool, true, false, ltb, if◌then◌else◌, List, [], ◌∷◌, ◌++◌, length, take, Option, Some, None, Result, Ok, Err, refl, ap, arith, length-append}
use Rattle.std.specs.Prelude.{slice_get}
use Rattle.std.proofs.lemmas.List.{length-take, length-drop}
use Rattle.fault_schedule.specs.Altered.{keep_of, kept_by}
use Rattle.fault_schedule.specs.declared.Label.{Label}
use Rattle.fault_schedule.specs.declared.fault.FaultLine.{FaultLine}
use Rattle.sense_codes.specs.declared.codes.TheConstants.{WRITE_ERROR}
use Rattle.rig_api.specs.Target.{Ended, Flaw, Stop, first_sense, kept_over, kept_under, medium_sense, passed, then_kept, whole, write_end}

-- it has the length of a block that is stored whole
pub kept-by-length : (bytes : Option ℕ) (old frame : List ℕ) → length old ≡ length frame → length (kept_by bytes old frame) ≡ length frame
kept-by-length None old frame e = refl
kept-by-length (Some n) old frame e = simp (length-append, length-take, length-drop) (omega (arith, e))

pub kept-length : (faults : List FaultLine) (label : Option Label) (old frame : List ℕ) → length old ≡ length frame → length (kept_under faults label old frame) ≡ length frame
kept-length faults None old frame e = refl
kept-length faults (Some label) old frame e = kept-by-length (keep_of faults label) old frame e

-- where no line keeps anything back, a block is stored whole
pub stored-whole : (faults : List FaultLine) (label : Option Label) (old : List ℕ) (judged : Result (List ℕ) Flaw) → ((l : Label) → label ≡ Some l → keep_of faults l ≡ None) → then_kept faults label old judged ≡ judged
stored-whole faults None old (Ok frame) none = refl
stored-whole faults (Some l) old (Ok frame) none = rw (none l refl) refl
stored-whole faults label old (Err flaw) none = refl

pub all-stored-whole : (faults : List FaultLine) (labels : List Label) (k : ℕ) (olds : List (List ℕ)) (judged : List (Result (List ℕ) Flaw)) → ((l : Label) → keep_of faults l ≡ None) → kept_over faults labels k olds judged ≡ judged
all-stored-whole faults labels k olds [] none = refl
all-stored-whole faults labels k [] (j ∷ js) none = refl
all-stored-whole faults labels k (old ∷ olds) (j ∷ js) none =
    rw (stored-whole faults (slice_get labels k) old j (λ l e. none l), all-stored-whole faults labels (k + 1) olds js none) refl

-- without lines
pub no-lines-keep : (labels : List Label) (k : ℕ) (olds : List (List ℕ)) (judged : List (Result (List ℕ) Flaw)) → kept_over [] labels k olds judged ≡ judged
no-lines-keep labels k olds judged = all-stored-whole [] labels k olds judged (λ l. refl)

-- How a write ends is the same, and so is how many blocks it stores.
pub kept-many : (faults : List FaultLine) (labels : List Label) (k : ℕ) (olds : List (List ℕ)) (judged : List (Result (List ℕ) Flaw)) → length (kept_over faults labels k olds judged) ≡ length judged
kept-many faults labels k olds [] = refl
kept-many faults labels k [] (j ∷ js) = refl
kept-many faults labels k (old ∷ olds) (j ∷ js) = ap suc (kept-many faults labels (k + 1) olds js)

pub kept-passed : (faults : List FaultLine) (labels : List Label) (k : ℕ) (olds : List (List ℕ)) (judged : List (Result (List ℕ) Flaw)) → length (passed (kept_over faults labels k olds judged)) ≡ length (passed judged)
kept-passed faults labels k olds [] = refl
kept-passed faults labels k [] (j ∷ js) = refl
kept-passed faults labels k (old ∷ olds) (Ok frame ∷ js) = ap suc (kept-passed faults labels (k + 1) olds js)
kept-passed faults labels k (old ∷ olds) (Err flaw ∷ js) = refl

pub kept-sense : (faults : List FaultLine) (labels : List Label) (k lba : ℕ) (olds : List (List ℕ)) (judged : List (Result (List ℕ) Flaw)) → first_sense lba (kept_over faults labels k olds judged) ≡ first_sense lba judged
kept-sense faults labels k lba olds [] = refl
kept-sense faults labels k lba [] (j ∷ js) = refl
kept-sense faults labels k lba (old ∷ olds) (Ok frame ∷ js) = kept-sense faults labels (k + 1) (lba + 1) olds js
kept-sense faults labels k lba (old ∷ olds) (Err flaw ∷ js) = refl

end-alike : (lba at a b : ℕ) (left : List ℕ) (x y : Ended) (p q : List (List ℕ)) → a ≡ b → x.done ≡ y.done → x.sense ≡ y.sense →
    ((if ltb at a then (record { done = at; sense = Some (medium_sense WRITE_ERROR (lba + at)); frames = p ++ (left ∷ []) }) else x).done
    ≡ (if ltb at b then (record { done = at; sense = Some (medium_sense WRITE_ERROR (lba + at)); frames = q ++ (left ∷ []) }) else y).done)
    × ((if ltb at a then (record { done = at; sense = Some (medium_sense WRITE_ERROR (lba + at)); frames = p ++ (left ∷ []) }) else x).sense
    ≡ (if ltb at b then (record { done = at; sense = Some (medium_sense WRITE_ERROR (lba + at)); frames = q ++ (left ∷ []) }) else y).sense)
end-alike lba at a b left x y p q e d s = rw e (by (ltb at b))
  where
    by : (t : Bool)
        → ((if t then (record { done = at; sense = Some (medium_sense WRITE_ERROR (lba + at)); frames = p ++ (left ∷ []) }) else x).done
        ≡ (if t then (record { done = at; sense = Some (medium_sense WRITE_ERROR (lba + at)); frames = q ++ (left ∷ []) }) else y).done)
        × ((if t then (record { done = at; sense = Some (medium_sense WRITE_ERROR (lba + at)); frames = p ++ (left ∷ []) }) else x).sense
        ≡ (if t then (record { done = at; sense = Some (medium_sense WRITE_ERROR (lba + at)); frames = q ++ (left ∷ []) }) else y).sense)
    by true = (refl, refl)
    by false = (d, s)

-- the outcome of a write
pub kept-end : (faults : List FaultLine) (labels : List Label) (k lba : ℕ) (olds : List (List ℕ)) (judged : List (Result (List ℕ) Flaw)) (stop : Option Stop)
    → ((write_end lba (kept_over faults labels k olds judged) stop).done ≡ (write_end lba judged stop).done) × ((write_end lba (kept_over faults labels k olds judged) stop).sense ≡ (write_end lba judged stop).sense)
kept-end faults labels k lba olds judged None = (kept-passed faults labels k olds judged, kept-sense faults labels k lba olds judged)
kept-end faults labels k lba olds judged (Some s) =
    let kept : List (Result (List ℕ) Flaw) = kept_over faults labels k olds judged in
    end-alike lba s.at (length (passed kept)) (length (passed judged)) s.left (whole lba kept) (whole lba judged) (take s.at (passed kept)) (take s.at (passed judged))
    (kept-passed faults labels k olds judged) (kept-passed faults labels k olds judged) (kept-sense faults labels k lba olds judged)
