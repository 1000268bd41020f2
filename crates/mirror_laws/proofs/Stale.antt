-- No block has two stale marks.
use Rattle.std.proofs.Common.{◌≡◌, ℕ, zero, suc, true, ◌||◌, List, [], ◌∷◌, set, replicate, Option, Some, None, refl}
use Rattle.bio_core.specs.declared.fate.Why.{Why}
use Rattle.stack_ops.specs.declared.op.Op.{Op}
use Rattle.block_path.specs.Acts.{State}
use Rattle.block_path.specs.Serial.{plain}
use Rattle.walk_laws.specs.Past.{steps_from}
use Rattle.walk_laws.specs.Settings.{Setting}
use Rattle.walk_laws.specs.Steps.{Alters, Reads, Seals, Sets, Shows, Step, Writes, WritesPi}
use Rattle.mirror_laws.specs.Mirror.{Mirror, count_of, done, findings, fresh, marked, marked_by, marks_after, marks_of, mirror_opened, mirror_walk}
use Rattle.mirror_laws.specs.declared.marks.Marks.{Marks}

abbrev pub OnOne : Marks → Type 0
OnOne k = (k.leg0 || k.leg1) ≡ true

abbrev pub AllOnOne : List Marks → Type 0
AllOnOne marks = (u : ℕ) → OnOne (marks_of marks u)

set_one : (marks : List Marks) (i : ℕ) (k : Marks) → OnOne k → AllOnOne marks → AllOnOne (set marks i k)
set_one [] i k h all u = all u
set_one (x ∷ marks) zero k h all zero = h
set_one (x ∷ marks) zero k h all (suc u) = all (suc u)
set_one (x ∷ marks) (suc i) k h all zero = all zero
set_one (x ∷ marks) (suc i) k h all (suc u) = set_one marks i k h (λ u. all (suc u)) u

marked_one : (why other : Option Why) (old : Marks) → OnOne old → OnOne (marked why other old)
marked_one None None old h = refl
marked_one None (Some x) old h = refl
marked_one (Some w) None old h = refl
marked_one (Some w) (Some x) old h = h

by_one : (whys : List (Option Why)) (old : Marks) → OnOne old → OnOne (marked_by whys old)
by_one [] old h = h
by_one (why ∷ []) old h = h
by_one (why ∷ other ∷ rest) old h = marked_one why other old h

step_one : (m : Setting) (half : ℕ) (count : ℕ → ℕ) (step : Step) (s : Mirror) → AllOnOne s.marks → AllOnOne (marks_after m half count step s)
step_one m half count (Sets at values) s h = h
step_one m half count (Shows at) s h = h
step_one m half count (Seals body tuple app rtag) s h = h
step_one m half count (Writes b app body) s h =
    set_one s.marks b.virt (marked_by (findings m half count (Writes b app body) s) (marks_of s.marks b.virt)) (by_one (findings m half count (Writes b app body) s) (marks_of s.marks b.virt) (h b.virt)) h
step_one m half count (WritesPi b frame) s h = h
step_one m half count (Reads b owner to) s h = h
step_one m half count (Alters dev lba change) s h = h

pub steps_one : (m : Setting) (half : ℕ) (count : ℕ → ℕ) (steps : List Step) (s : Mirror) → AllOnOne s.marks → AllOnOne (plain (done m half count) steps s).marks
steps_one m half count [] s h = h
steps_one m half count (step ∷ steps) s h = steps_one m half count steps (done m half count step s) (step_one m half count step s h)

pub all_fresh : (half : ℕ) → AllOnOne (replicate half fresh)
all_fresh zero u = refl
all_fresh (suc half) zero = refl
all_fresh (suc half) (suc u) = all_fresh half u

pub never_two_stale : (m : Setting) (half : ℕ) (ops : List Op) (opening : State) (u : ℕ) → OnOne (marks_of (mirror_walk m half ops opening).marks u)
never_two_stale m half ops opening u = steps_one m half (count_of ops) (steps_from m 1 ops) (mirror_opened half opening) (all_fresh half) u
