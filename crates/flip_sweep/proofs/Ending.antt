-- How the parts of a sweep's text follow one another, and what a sweep comes to.
use Rattle.std.proofs.Common.{◌≡◌, ℕ, ◌≤◌, Bool, ltb, List, ◌++◌, Option, Result, Ok, Err, OnErr, refl, sym, ap, subst, ◌∙◌}
use Rattle.std.specs.Prelude.{IfErr, IfOk, IsErrAnd, IsErrOf, OnOk}
use Rattle.std.proofs.lemmas.Result.{err_from_is_err_and}
use Rattle.dix_base.specs.Told.{Appended, AppendedSome, Rose}
use Rattle.dix_base.proofs.Appending.{appended_both}
use Rattle.report_text.proofs.Flow.{part_first, part_second, whole_is_part}
use Rattle.dix_base.proofs.Counts.{rose_later}
use Rattle.flip_sweep.specs.Flips.{sites_of}
use Rattle.flip_sweep.specs.Rows.{first_line, last_line, none_yet}
use Rattle.flip_sweep.specs.Swept.{IsFree, Sweep, SweepEnds, all_rows, counts_of, counts_with, sweep_text, unseen_in}
use Rattle.flip_sweep.specs.declared.counts.Counts.{Counts}
use Rattle.flip_sweep.specs.declared.flips.Site.{Site}
use Rattle.flip_sweep.specs.declared.sweep.Halt.{Halt}
use Rattle.flip_sweep.specs.declared.sweep.Halt.TheVariants as halt
use Rattle.flip_sweep.specs.declared.sweep.Unswept.{Unswept}
use Rattle.flip_sweep.specs.declared.sweep.Unswept.TheVariants as unswept

-- ---- counts of faults

-- what a part that ended in a fault passes on
pub passed_on : {T : Type 0} (r : Result T Halt) (x : Halt) → IsErrAnd r (λ y. y ≡ x) → x ≡ halt.Sink → IsErrAnd r (λ y. y ≡ halt.Sink)
passed_on (Ok v) x h e = h
passed_on (Err y) x h e = h ∙ e

-- a sink that failed is said to have failed
pub by_sink : {T : Type 0} (r : Result T Halt) → IsErrAnd r (λ y. y ≡ halt.Sink) → IfErr r (λ y. y ≡ halt.Sink)
by_sink (Ok v) h = tt
by_sink (Err y) h = h

-- and no call that let it be says so
pub not_calm : {T P : Type 0} (r : Result T Halt) → IsErrAnd r (λ y. y ≡ halt.Sink) → (IsErrOf r halt.Sink → ⊥) → P
not_calm r h calm = let p = err_from_is_err_and r h in absurd (calm (p.1 ∙ ap Err p.2))

abbrev halt_in : {T : Type 0} → Result T Halt → Halt
halt_in (Err x) = x
halt_in (Ok v) = halt.Memory

pub not_sink : {T U : Type 0} (r : Result T Halt) (x : Halt) → IsErrAnd r (λ y. y ≡ x) → (IsErrOf r halt.Sink → ⊥) → IsErrOf {T = U} (Err x) halt.Sink → ⊥
not_sink r x h calm e = let p = err_from_is_err_and r h in calm (p.1 ∙ ap Err (p.2 ∙ ap halt_in e))

-- ---- the parts of the text

rows_at_sites : (w : Sweep) (sites : List Site) (P : List ℕ → Type 0) → sites ≡ sites_of w.script → P (all_rows w sites) → P (all_rows w (sites_of w.script))
rows_at_sites w sites P e p = subst (λ (xs : List Site). P (all_rows w xs)) e p

pub all_counts : (w : Sweep) (sites : List Site) (c : Counts) → sites ≡ sites_of w.script → c ≡ counts_with w none_yet sites → c ≡ counts_of w
all_counts w sites c e k = k ∙ ap (counts_with w none_yet) e

pub first_breaks : (w : Sweep) (a b : Option (List ℕ)) → AppendedSome first_line a b → AppendedSome (sweep_text w) a b
first_breaks w a b p = part_first first_line (all_rows w (sites_of w.script) ++ last_line (counts_of w)) a b p

pub rows_break : (w : Sweep) (sites : List Site) (a b c : Option (List ℕ)) → sites ≡ sites_of w.script → Appended first_line a b → AppendedSome (all_rows w sites) b c → AppendedSome (sweep_text w) a c
rows_break w sites a b c e p q =
    let rows = all_rows w (sites_of w.script) in
    part_second first_line (rows ++ last_line (counts_of w)) a b c p
    (part_first rows (last_line (counts_of w)) b c (rows_at_sites w sites (λ t. AppendedSome t b c) e q))

pub last_breaks : (w : Sweep) (sites : List Site) (counts : Counts) (a b c d : Option (List ℕ)) → sites ≡ sites_of w.script → counts ≡ counts_with w none_yet sites
    → Appended first_line a b → Appended (all_rows w sites) b c → AppendedSome (last_line counts) c d → AppendedSome (sweep_text w) a d
last_breaks w sites counts a b c d e k p q r =
    let rows = all_rows w (sites_of w.script) in
    let same : last_line counts ≡ last_line (counts_of w) = ap last_line (all_counts w sites counts e k) in
    part_second first_line (rows ++ last_line (counts_of w)) a b d p
    (part_second rows (last_line (counts_of w)) b c d (rows_at_sites w sites (λ t. Appended t b c) e q) (subst (λ t. AppendedSome t c d) same r))

pub all_written : (w : Sweep) (sites : List Site) (counts : Counts) (a b c d : Option (List ℕ)) → sites ≡ sites_of w.script → counts ≡ counts_with w none_yet sites
    → Appended first_line a b → Appended (all_rows w sites) b c → Appended (last_line counts) c d → Appended (sweep_text w) a d
all_written w sites counts a b c d e k p q r =
    let rows = all_rows w (sites_of w.script) in
    let same : last_line counts ≡ last_line (counts_of w) = ap last_line (all_counts w sites counts e k) in
    appended_both first_line (rows ++ last_line (counts_of w)) a b d p
    (appended_both rows (last_line (counts_of w)) b c d (rows_at_sites w sites (λ t. Appended t b c) e q) (subst (λ t. Appended t c d) same r))

-- ---- the end

-- what the writing of a sweep came to, with this count of faults before it and that behind it
pub record IsWritten (r : Result Counts Halt) (w : Sweep) (o p : ℕ) (a b : Option (List ℕ)) : Type 0 where
  pub free : IsFree w
  pub counts : IfOk r (λ c. c ≡ counts_of w)
  pub whole : OnOk r (Appended (sweep_text w) a b)
  pub part : OnErr r (AppendedSome (sweep_text w) a b)
  pub cause : IsErrOf r halt.Sink → Rose o p
  pub count : o ≤ p

-- the sink passed on all that it held
pub ends : (r : Result Counts Halt) (w : Sweep) (o p q : ℕ) (a b c : Option (List ℕ)) → IsWritten r w o p a b → q ≡ p → c ≡ b → SweepEnds (unseen_in r) w o q a c
ends (Ok x) w o p q a b c h k e = (h.free, ap (λ (y : Counts). ltb 0 y.unseen) h.counts, subst (λ t. Appended (sweep_text w) a t) (sym e) h.whole)
ends (Err halt.Memory) w o p q a b c h k e = (h.free, subst (λ t. AppendedSome (sweep_text w) a t) (sym e) h.part)
ends (Err halt.Sink) w o p q a b c h k e = (h.free, subst (λ n. Rose o n) (sym k) (h.cause refl), subst (λ t. AppendedSome (sweep_text w) a t) (sym e) h.part)

part_of : (r : Result Counts Halt) (w : Sweep) (o p : ℕ) (a b c : Option (List ℕ)) → IsWritten r w o p a b → c ≡ b → AppendedSome (sweep_text w) a c
part_of (Ok x) w o p a b c h e = whole_is_part (sweep_text w) a b c h.whole e
part_of (Err x) w o p a b c h e = subst (λ t. AppendedSome (sweep_text w) a t) (sym e) h.part

-- it didn't
pub fails : (r : Result Counts Halt) (w : Sweep) (o p q : ℕ) (a b c : Option (List ℕ)) → IsWritten r w o p a b → Rose p q → c ≡ b → SweepEnds (Err (unswept.Halted halt.Sink)) w o q a c
fails r w o p q a b c h k e = (h.free, rose_later o p q h.count k, part_of r w o p a b c h e)
