-- What the lines of faults that have the form come to for a block.
use Rattle.std.proofs.Common.{◌≡◌, ◌<◌, ℕ, suc, Bool, true, false, not, ◌&&◌, ◌||◌, eqb, if◌then◌else◌, List, [], ◌∷◌, get_or, Option, None, refl, sym, ap, ◌∙◌, arith, lit<}
use Rattle.std.specs.Prelude.{All, ℤ, pos, unwrap_or}
use Rattle.std.specs.List.{list_all, list_any}
use Rattle.std.proofs.lemmas.Bool.{and_parts, eqb-true, false≢true, or_parts}
use Rattle.std.proofs.lemmas.Nat.{xor_of_8}
use Rattle.pi_guard.specs.declared.GuardKind.{GuardKind}
use Rattle.fault_schedule.specs.Altered.{fails_of, flip_at, is_fail, is_line_of, is_same, keep_of, keep_or, kept_bytes, moved_by, named, named_by, shift_of}
use Rattle.fault_schedule.specs.declared.Label.{Label}
use Rattle.fault_schedule.specs.declared.fault.Crossing.{Crossing}
use Rattle.fault_schedule.specs.declared.fault.Crossing.TheVariants.{AdapterToHost, AdapterToTarget, HostToAdapter, MediumToTarget, TargetToAdapter, TargetToMedium}
use Rattle.fault_schedule.specs.declared.fault.FaultKind.{FaultKind}
use Rattle.fault_schedule.specs.declared.fault.FaultKind.TheVariants.{Flip, Shift, Keep, Fail}
use Rattle.fault_schedule.specs.declared.fault.FaultLine.{FaultLine}
use Rattle.stack_ops.specs.declared.op.Op.{Op}
use Rattle.run_laws.specs.Passed.{is_flip}
use Rattle.pi_guard.proofs.Division.{are_bytes}
use Rattle.guard_laws.proofs.Flips.{below_if}
use Rattle.run_premises.specs.Forms.{is_good_line, is_shown_line, label_of, may_mend, may_undo}
use Rattle.run_premises.specs.FormedRun.{IsOfBytes}

pub same_crossing : (a b : Crossing) → is_same a b ≡ true → a ≡ b
same_crossing HostToAdapter HostToAdapter h = refl
same_crossing HostToAdapter AdapterToTarget h = absurd (false≢true h)
same_crossing HostToAdapter TargetToMedium h = absurd (false≢true h)
same_crossing HostToAdapter MediumToTarget h = absurd (false≢true h)
same_crossing HostToAdapter TargetToAdapter h = absurd (false≢true h)
same_crossing HostToAdapter AdapterToHost h = absurd (false≢true h)
same_crossing AdapterToTarget HostToAdapter h = absurd (false≢true h)
same_crossing AdapterToTarget AdapterToTarget h = refl
same_crossing AdapterToTarget TargetToMedium h = absurd (false≢true h)
same_crossing AdapterToTarget MediumToTarget h = absurd (false≢true h)
same_crossing AdapterToTarget TargetToAdapter h = absurd (false≢true h)
same_crossing AdapterToTarget AdapterToHost h = absurd (false≢true h)
same_crossing TargetToMedium HostToAdapter h = absurd (false≢true h)
same_crossing TargetToMedium AdapterToTarget h = absurd (false≢true h)
same_crossing TargetToMedium TargetToMedium h = refl
same_crossing TargetToMedium MediumToTarget h = absurd (false≢true h)
same_crossing TargetToMedium TargetToAdapter h = absurd (false≢true h)
same_crossing TargetToMedium AdapterToHost h = absurd (false≢true h)
same_crossing MediumToTarget HostToAdapter h = absurd (false≢true h)
same_crossing MediumToTarget AdapterToTarget h = absurd (false≢true h)
same_crossing MediumToTarget TargetToMedium h = absurd (false≢true h)
same_crossing MediumToTarget MediumToTarget h = refl
same_crossing MediumToTarget TargetToAdapter h = absurd (false≢true h)
same_crossing MediumToTarget AdapterToHost h = absurd (false≢true h)
same_crossing TargetToAdapter HostToAdapter h = absurd (false≢true h)
same_crossing TargetToAdapter AdapterToTarget h = absurd (false≢true h)
same_crossing TargetToAdapter TargetToMedium h = absurd (false≢true h)
same_crossing TargetToAdapter MediumToTarget h = absurd (false≢true h)
same_crossing TargetToAdapter TargetToAdapter h = refl
same_crossing TargetToAdapter AdapterToHost h = absurd (false≢true h)
same_crossing AdapterToHost HostToAdapter h = absurd (false≢true h)
same_crossing AdapterToHost AdapterToTarget h = absurd (false≢true h)
same_crossing AdapterToHost TargetToMedium h = absurd (false≢true h)
same_crossing AdapterToHost MediumToTarget h = absurd (false≢true h)
same_crossing AdapterToHost TargetToAdapter h = absurd (false≢true h)
same_crossing AdapterToHost AdapterToHost h = refl

-- ---- one among them

-- a line at which a test holds, where another holds at each
pub record Both (p q : FaultLine → Bool) : Type 0 where
  pub line : FaultLine
  pub one : p line ≡ true
  pub other : q line ≡ true

pick_by : (p q : FaultLine → Bool) (x : FaultLine) (xs : List FaultLine) → (list_any p xs ≡ true → Both p q) → q x ≡ true → (c : Bool) → p x ≡ c → (c || list_any p xs) ≡ true → Both p q
pick_by p q x xs next k true e h = record { line = x; one = e; other = k }
pick_by p q x xs next k false e h = next h

pub pick : (p q : FaultLine → Bool) (xs : List FaultLine) → list_any p xs ≡ true → list_all q xs ≡ true → Both p q
pick p q [] h k = absurd (false≢true h)
pick p q (x ∷ xs) h k =
    let all = and_parts (q x) (list_all q xs) k in
    pick_by p q x xs (λ e. pick p q xs e all.1) all.0 (p x) refl h

none_by : (p r : FaultLine → Bool) (x : FaultLine) (xs : List FaultLine) → (p x ≡ true → r x ≡ true) → r x ≡ false → list_any p xs ≡ false → (c : Bool) → p x ≡ c → (c || list_any p xs) ≡ false
none_by p r x xs h k rest true e = absurd (false≢true (sym k ∙ h e))
none_by p r x xs h k rest false e = rest

-- what holds at no line, and what a stronger test doesn't either
pub none_of : (p r : FaultLine → Bool) (xs : List FaultLine) → ((x : FaultLine) → p x ≡ true → r x ≡ true) → list_any r xs ≡ false → list_any p xs ≡ false
none_of p r [] h k = refl
none_of p r (x ∷ xs) h k =
    let none = or_parts (r x) (list_any r xs) k in
    none_by p r x xs (h x) none.0 (none_of p r xs h none.1) (p x) refl

-- a line of a label, at a crossing
pub record IsLineOf (line : FaultLine) (at : Crossing) (label : Label) : Type 0 where
  pub crossing : line.at ≡ at
  pub labelled : label_of line ≡ label
  pub flips : is_flip line.kind ≡ true

pub line_of : (line : FaultLine) (at : Crossing) (label : Label) → (is_line_of line at label && is_flip line.kind) ≡ true → IsLineOf line at label
line_of line at label h =
    let p = and_parts (is_line_of line at label) (is_flip line.kind) h in
    let q = and_parts (is_same line.at at) (eqb line.op label.op && eqb line.k label.k) p.0 in
    let r = and_parts (eqb line.op label.op) (eqb line.k label.k) q.1 in
    let op = eqb-true line.op label.op r.0 in
    let k = eqb-true line.k label.k r.1 in
    record { crossing = same_crossing line.at at q.0; labelled = λ i. record { op = op i; k = k i }; flips = p.1 }

-- ---- bytes

flip_below : (kind : FaultKind) (i : ℕ) → IsOfBytes kind → flip_at kind i < 256
flip_below (Flip off bytes) i h = below_if _ (get_or bytes _ 0) (are_bytes bytes h _)
flip_below (Shift by) i h = lit< tt
flip_below (Keep bytes) i h = lit< tt
flip_below Fail i h = lit< tt

pub named_below : (faults : List FaultLine) (at : Crossing) (label : Label) → All (λ (line : FaultLine). IsOfBytes line.kind) faults → (i : ℕ) → named faults at label i < 256
named_below [] at label h i = lit< tt
named_below (f ∷ faults) at label h i =
    xor_of_8 (named_by f at label i) (named faults at label i)
    (below_if (is_line_of f at label) (flip_at f.kind i) (flip_below f.kind i (h 0 f (omega arith))))
    (named_below faults at label (λ k d l. h (suc k) d (omega arith)) i)

-- ---- no shift

still : (c : Bool) (kind : FaultKind) (rest : ℤ) → is_flip kind ≡ true → unwrap_or (if c then moved_by kind else None) rest ≡ rest
still false kind rest h = refl
still true (Flip off bytes) rest h = refl
still true (Shift by) rest h = absurd (false≢true h)
still true (Keep bytes) rest h = absurd (false≢true h)
still true Fail rest h = absurd (false≢true h)

pub no_shift : (kind : GuardKind) (size : ℕ) (all : List FaultLine) (ops : List Op) (faults : List FaultLine) → list_all (is_good_line kind size all ops) faults ≡ true → (at : Crossing) (op : ℕ) → shift_of faults at op ≡ pos 0
no_shift kind size all ops [] h at op = refl
no_shift kind size all ops (f ∷ faults) h at op =
    let p = and_parts (is_good_line kind size all ops f) (list_all (is_good_line kind size all ops) faults) h in
    let q = and_parts (is_shown_line kind size all f) (not (may_mend ops f) && not (may_undo ops all f)) p.0 in
    let flips = (and_parts (is_flip f.kind) _ q.0).0 in
    still (is_same f.at at && eqb f.op op) f.kind (shift_of faults at op) flips ∙ no_shift kind size all ops faults p.1 at op

-- ---- no block that is stored in part

all_kept : (c : Bool) (kind : FaultKind) (rest : Option ℕ) → is_flip kind ≡ true → keep_or (if c then kept_bytes kind else None) rest ≡ rest
all_kept false kind rest h = refl
all_kept true (Flip off bytes) rest h = refl
all_kept true (Shift by) rest h = refl
all_kept true (Keep bytes) rest h = absurd (false≢true h)
all_kept true Fail rest h = refl

pub no_keep : (kind : GuardKind) (size : ℕ) (all : List FaultLine) (ops : List Op) (faults : List FaultLine) → list_all (is_good_line kind size all ops) faults ≡ true → (label : Label) → keep_of faults label ≡ None
no_keep kind size all ops [] h label = refl
no_keep kind size all ops (f ∷ faults) h label =
    let p = and_parts (is_good_line kind size all ops f) (list_all (is_good_line kind size all ops) faults) h in
    let q = and_parts (is_shown_line kind size all f) (not (may_mend ops f) && not (may_undo ops all f)) p.0 in
    let flips = (and_parts (is_flip f.kind) _ q.0).0 in
    all_kept (is_line_of f TargetToMedium label) f.kind (keep_of faults label) flips ∙ no_keep kind size all ops faults p.1 label

-- ---- no block that the medium fails

no_flip_fails : (kind : FaultKind) → is_flip kind ≡ true → is_fail kind ≡ false
no_flip_fails (Flip off bytes) h = refl
no_flip_fails (Shift by) h = refl
no_flip_fails (Keep bytes) h = refl
no_flip_fails Fail h = absurd (false≢true h)

pub no_fail : (kind : GuardKind) (size : ℕ) (all : List FaultLine) (ops : List Op) (faults : List FaultLine) → list_all (is_good_line kind size all ops) faults ≡ true → (label : Label) → fails_of faults label ≡ false
no_fail kind size all ops [] h label = refl
no_fail kind size all ops (f ∷ faults) h label =
    let p = and_parts (is_good_line kind size all ops f) (list_all (is_good_line kind size all ops) faults) h in
    let q = and_parts (is_shown_line kind size all f) (not (may_mend ops f) && not (may_undo ops all f)) p.0 in
    let flips = (and_parts (is_flip f.kind) _ q.0).0 in
    ap (λ c. (c && (eqb f.op label.op && eqb f.k label.k)) || fails_of faults label) (no_flip_fails f.kind flips) ∙ no_fail kind size all ops faults p.1 label
