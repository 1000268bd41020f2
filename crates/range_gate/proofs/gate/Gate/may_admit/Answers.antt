use Rattle.std.proofs.Common.{◌≡◌, ◌-◌, ◌<◌, ◌≤◌, length, arith, ap, ◌∙◌, sym, subst, true, false}
use Rattle.std.specs.Prelude.{nat_lt}
use Rattle.std.proofs.lemmas.Bool.{le-ltb}
use Rattle.range_gate.specs.Gates.{conflict_at, is_waiting, may_admit, none_conflicts, phase_at}
use Rattle.range_gate.specs.Windows.{Falls, clashes}
use Rattle.range_gate.proofs.Unended.{Looked, few, looked_at, too_many, unended-falls}
use Rattle.range_gate.proofs.gate.Gate.may_admit.Goals as goal

pub count_below-requires : goal.count_below-requires
count_below-requires c = subst Falls (sym (c.deref.ensures.value ∙ c.self.invariant.2)) (unended-falls c.self.inside.phases.items (length c.self.inside.phases.items))

pub returns-then-earlier-lt-WINDOW : goal.returns-then-earlier-lt-WINDOW
returns-then-earlier-lt-WINDOW c =
    let us = c.self.inside.live.items in
    let ps = c.self.inside.phases.items in
    let ds = c.deref.result.now in
    let e = c.deref.ensures.value in
    let g = ap (λ v. v.phases) c.self.view_is in
    let n = ap length g in
    let k = c.count_below.result in
    let i = c.args.op - 1 in
    let x : Looked ps ds i k = record { live = e ∙ c.self.invariant.2; op = omega arith; within = c.count_below.ensures.within; most = c.count_below.ensures.most; below = c.count_below.ensures.below; all = c.count_below.ensures.all } in
    let f : c.len.result - k ≡ length ds - k = ap (λ m. m - k) (c.len.ensures ∙ sym c.deref.ensures.len) in
    let e₂ : c.deref-2.result.now ≡ ds = c.deref-2.ensures.value ∙ sym e in
    let w : is_waiting (phase_at ps i) ≡ true = ap (λ v. is_waiting (phase_at v i)) g ∙ (sym c.waiting.ensures ∙ c.if-not-waiting.false) in
    let first = c.len.result - k in
    let l : length (looked_at ds first) < 32 = subst (λ v. length (looked_at v first) < 32) e₂ c.if-earlier-lt-WINDOW.true in
    let r : c.conflicts_with_none.result ≡ none_conflicts (conflict_at (clashes c.self.inside.prints.items)) i (looked_at ds first) =
    c.conflicts_with_none.ensures ∙ ap (λ v. none_conflicts (conflict_at (clashes v)) i (looked_at c.deref-2.result.now first)) c.deref-then-earlier-lt-WINDOW.ensures.value
    ∙ ap (λ v. none_conflicts (conflict_at (clashes c.self.inside.prints.items)) i (looked_at v first)) e₂ in
    few (clashes c.self.inside.prints.items) ps ds first i k c.conflicts_with_none.result x w f l r ∙ ap (λ v. may_admit v i) c.self.view_is

pub returns-else-earlier-lt-WINDOW : goal.returns-else-earlier-lt-WINDOW
returns-else-earlier-lt-WINDOW c =
    let us = c.self.inside.live.items in
    let ps = c.self.inside.phases.items in
    let ds = c.deref.result.now in
    let e = c.deref.ensures.value in
    let g = ap (λ v. v.phases) c.self.view_is in
    let n = ap length g in
    let k = c.count_below.result in
    let i = c.args.op - 1 in
    let x : Looked ps ds i k = record { live = e ∙ c.self.invariant.2; op = omega arith; within = c.count_below.ensures.within; most = c.count_below.ensures.most; below = c.count_below.ensures.below; all = c.count_below.ensures.all } in
    let f : c.len.result - k ≡ length ds - k = ap (λ m. m - k) (c.len.ensures ∙ sym c.deref.ensures.len) in
    let e₂ : c.deref-2.result.now ≡ ds = c.deref-2.ensures.value ∙ sym e in
    let first = c.len.result - k in
    let l : 32 ≤ length (looked_at ds first) = subst (λ v. 32 ≤ length (looked_at v first)) e₂ c.if-earlier-lt-WINDOW.false in
    let r : nat_lt (length (looked_at c.deref-2.result.now first)) 32 ≡ false = le-ltb _ 32 c.if-earlier-lt-WINDOW.false in
    too_many (clashes c.self.inside.prints.items) ps ds first i k _ x f l r ∙ ap (λ v. may_admit v i) c.self.view_is
