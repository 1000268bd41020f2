-- A block is altered, kept and failed, and an op shifted, by the lines of its op alone, and these stand between the first and the last of them.
use Rattle.std.proofs.Common.{◌≡◌, ℕ, suc, ◌+◌, ◌-◌, ◌%◌, ◌<◌, ◌≤◌, min, eqb, List, [], ◌∷◌, ◌++◌, length, get_or, set, take, drop, refl, sym, ap, ◌∙◌, arith, inl, inr, bit_xor, cond, ◌||◌, unwrap_or, length-take, length-drop}
use Rattle.std.proofs.lemmas.List.{append-nil, get_or-drop, get_or-take, get_or_default, get_or-set_other, get_or-set_same, take-append-drop}
use Rattle.std.proofs.lemmas.List.Elements.{filter-append}
use Rattle.std.proofs.lemmas.Bool.{cases_eq, ne_eqb, and_right}
use Rattle.std.proofs.lemmas.Bool.Decides.{eqb_tells}
use Rattle.fault_schedule.specs.declared.Label.{Label}
use Rattle.fault_schedule.specs.declared.fault.Crossing.{Crossing}
use Rattle.fault_schedule.specs.declared.fault.FaultLine.{FaultLine}
use Rattle.fault_schedule.specs.declared.tamper.Span.{Span}
use Rattle.fault_schedule.specs.declared.fault.Crossing.TheVariants.{TargetToMedium}
use Rattle.fault_schedule.specs.Altered.{altered, fails_by, fails_of, is_fail, is_same, keep_by, keep_of, keep_or, named, named_by, shift_by, shift_of}
use Rattle.fault_schedule.specs.AnyOrder.{xored-same}
use Rattle.fault_schedule.specs.Spans.{IsAround, lines_of_op}
use Rattle.small_laws.proofs.Tests.{second_no}

named-by-op : (lines : List FaultLine) (at : Crossing) (label : Label) (i : ℕ) → named (lines_of_op label.op lines) at label i ≡ named lines at label i
named-by-op [] at label i = refl
named-by-op (line ∷ lines) at label i = elim (eqb_tells line.op label.op) [
  | inl e ↦ ap (λ b. named (cond b (line ∷ lines_of_op label.op lines) (lines_of_op label.op lines)) at label i) e.0 ∙ ap (bit_xor (named_by line at label i)) (named-by-op lines at label i)
  | inr e ↦ rw (second_no (is_same line.at at) (eqb line.op label.op) (eqb line.k label.k) e.0, e.0, named-by-op lines at label i) refl
]

-- other lines with the same ones of this op alter its block in the same way
pub altered-same : (some lines : List FaultLine) (at : Crossing) (label : Label) (block : List ℕ) → lines_of_op label.op some ≡ lines_of_op label.op lines → altered some at label block ≡ altered lines at label block
altered-same some lines at label block e = xored-same _ _ 0 block (λ i.
    sym (named-by-op some at label i) ∙ (ap (λ t. named t at label i) e ∙ named-by-op lines at label i))

shift-by-op : (lines : List FaultLine) (at : Crossing) (op : ℕ) → shift_of (lines_of_op op lines) at op ≡ shift_of lines at op
shift-by-op [] at op = refl
shift-by-op (line ∷ lines) at op = elim (eqb_tells line.op op) [
  | inl e ↦ ap (λ b. shift_of (cond b (line ∷ lines_of_op op lines) (lines_of_op op lines)) at op) e.0 ∙ ap (unwrap_or (shift_by line at op)) (shift-by-op lines at op)
  | inr e ↦ rw (and_right (is_same line.at at) (eqb line.op op) e.0, e.0, shift-by-op lines at op) refl
]

-- and shift its address in the same way
pub shift-same : (some lines : List FaultLine) (at : Crossing) (op : ℕ) → lines_of_op op some ≡ lines_of_op op lines → shift_of some at op ≡ shift_of lines at op
shift-same some lines at op e = sym (shift-by-op some at op) ∙ (ap (λ t. shift_of t at op) e ∙ shift-by-op lines at op)

keep-by-op : (lines : List FaultLine) (label : Label) → keep_of (lines_of_op label.op lines) label ≡ keep_of lines label
keep-by-op [] label = refl
keep-by-op (line ∷ lines) label = elim (eqb_tells line.op label.op) [
  | inl e ↦ ap (λ b. keep_of (cond b (line ∷ lines_of_op label.op lines) (lines_of_op label.op lines)) label) e.0 ∙ ap (keep_or (keep_by line label)) (keep-by-op lines label)
  | inr e ↦ rw (second_no (is_same line.at TargetToMedium) (eqb line.op label.op) (eqb line.k label.k) e.0, e.0, keep-by-op lines label) refl
]

-- and keep as many bytes of its block
pub keep-same : (some lines : List FaultLine) (label : Label) → lines_of_op label.op some ≡ lines_of_op label.op lines → keep_of some label ≡ keep_of lines label
keep-same some lines label e = sym (keep-by-op some label) ∙ (ap (λ t. keep_of t label) e ∙ keep-by-op lines label)

fails-by-op : (lines : List FaultLine) (label : Label) → fails_of (lines_of_op label.op lines) label ≡ fails_of lines label
fails-by-op [] label = refl
fails-by-op (line ∷ lines) label = elim (eqb_tells line.op label.op) [
  | inl e ↦ ap (λ b. fails_of (cond b (line ∷ lines_of_op label.op lines) (lines_of_op label.op lines)) label) e.0 ∙ ap (λ t. fails_by line label || t) (fails-by-op lines label)
  | inr e ↦ rw (second_no (is_fail line.kind) (eqb line.op label.op) (eqb line.k label.k) e.0, e.0, fails-by-op lines label) refl
]

-- and say alike whether the medium fails it
pub fails-same : (some lines : List FaultLine) (label : Label) → lines_of_op label.op some ≡ lines_of_op label.op lines → fails_of some label ≡ fails_of lines label
fails-same some lines label e = sym (fails-by-op some label) ∙ (ap (λ t. fails_of t label) e ∙ fails-by-op lines label)

none-of-op : (op : ℕ) (xs : List FaultLine) → ((k : ℕ) (d : FaultLine) → k < length xs → (get_or xs k d).op ≡ op → ⊥) → lines_of_op op xs ≡ []
none-of-op op [] none = refl
none-of-op op (x ∷ xs) none = rw (ne_eqb x.op op (none 0 x (omega arith))) (none-of-op op xs (λ k d h. none (suc k) d (omega arith)))

-- the lines of an op from the first to the last
pub all-between : (op first end : ℕ) (lines : List FaultLine)
    → ((k : ℕ) (d : FaultLine) → k < length lines → (get_or lines k d).op ≡ op → (first ≤ k) × (k < end))
    → lines_of_op op (take (end - first) (drop first lines)) ≡ lines_of_op op lines
all-between op first end lines between =
    let back : List FaultLine = drop first lines in
    let m : ℕ = end - first in
    let before : lines_of_op op (take first lines) ≡ [] = none-of-op op (take first lines) (λ k d h e.
    let short : k < first = omega (arith, length-take first lines, h) in
    let b = between k d (omega (arith, length-take first lines, h)) (sym (ap (λ (x : FaultLine). x.op) (get_or-take first lines k d short)) ∙ e) in
    absurd (omega (arith, b.0, short))) in
    let behind : lines_of_op op (drop m back) ≡ [] = none-of-op op (drop m back) (λ k d h e.
    let here : get_or (drop m back) k d ≡ get_or lines (first + (m + k)) d = get_or-drop m back k d ∙ get_or-drop first lines (m + k) d in
    let b = between (first + (m + k)) d (omega (arith, length-drop m back, length-drop first lines, h)) (sym (ap (λ (x : FaultLine). x.op) here) ∙ e) in
    absurd (omega (arith, b.1))) in
    let tail : lines_of_op op back ≡ lines_of_op op (take m back) =
    ap (lines_of_op op) (sym (take-append-drop m back)) ∙ (filter-append _ (take m back) (drop m back) ∙ (ap (λ t. lines_of_op op (take m back) ++ t) behind ∙ append-nil _)) in
    sym (ap (lines_of_op op) (sym (take-append-drop first lines)) ∙ (filter-append _ (take first lines) back ∙ (ap (λ t. t ++ lines_of_op op back) before ∙ tail)))

-- one line more is in its op's span
pub one-more-within : (spans : List Span) (lines : List FaultLine) (i : ℕ) (line : FaultLine) (old new : Span) → length spans ≡ 1024 → i < length lines
    → ((k : ℕ) (d : FaultLine) (s : Span) → k < i → IsAround (get_or spans ((get_or lines k d).op % 1024) s) k)
    → new.first ≡ min (get_or spans ((get_or lines i line).op % 1024) old).first (min i 255) → new.last ≡ min i 255
    → (k : ℕ) (d : FaultLine) (s : Span) → k < i + 1 → IsAround (get_or (set spans ((get_or lines i line).op % 1024) new) ((get_or lines k d).op % 1024) s) k
one-more-within spans lines i line old new long there before f l k d s h =
    let place : ℕ = (get_or lines i line).op % 1024 in
    elim (cases_eq k i) [
      | inl e ↦
          let same : (get_or lines k d).op % 1024 ≡ place = ap (λ (x : FaultLine). x.op % 1024) (ap (λ n. get_or lines n d) e ∙ get_or_default lines i d line there) in
          rw (same, get_or-set_same spans place new s (omega arith)) (omega arith, omega arith)
      | inr ne ↦ elim (cases_eq ((get_or lines k d).op % 1024) place) [
        | inl same ↦
            let b : IsAround (get_or spans place old) k = rw same at (before k d old (omega arith)) in
            rw (same, get_or-set_same spans place new s (omega arith)) (omega (arith, b.0), omega (arith, b.1))
        | inr e ↦ rw (get_or-set_other spans place ((get_or lines k d).op % 1024) new s e) (before k d s (omega arith))
      ]
    ]
