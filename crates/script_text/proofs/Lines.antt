-- One fault line after another, and one op after another.
use Rattle.std.proofs.Common.{ℕ, suc, ◌≡◌, ◌+◌, ◌<◌, ◌≤◌, true, false, List, [], ◌∷◌, ◌++◌, length, get_or, take, drop, Some, None, sym, ap, ◌∙◌, arith, add-one, drop-cons}
use Rattle.std.specs.Prelude.{if◌then◌else◌}
use Rattle.std.proofs.Math.ListN.{drop_of_length-le}
use Rattle.std.proofs.Math.Seq.{take-suc}
use Rattle.fault_schedule.specs.declared.fault.FaultLine.{FaultLine}
use Rattle.script_lines.specs.declared.kind.ScriptKind.{ScriptKind}
use Rattle.script_lines.specs.declared.kind.ScriptKind.TheVariants.{BadFault}
use Rattle.stack_ops.specs.declared.op.Op.{Op}
use Rattle.volume_table.specs.declared.device.DeviceInfo.{DeviceInfo}
use Rattle.volume_table.specs.Tables.{Table}
use Rattle.script_text.specs.Bindings.{faults_fault, is_bad_on, at_line, op_fault, ops_fault, request_at}
use Rattle.script_text.specs.Crossings.{is_read}

-- The fault line at i is the first of those that are left.
left : (t : Table) (devices : List DeviceInfo) (size : ℕ) (ops : List Op) (faults : List FaultLine) (lines : List ℕ) (i : ℕ) (f : FaultLine) → i < length faults → i < length lines → get_or faults i f ≡ f
    → faults_fault t devices size ops (take i faults) (drop i faults) (drop i lines)
    ≡ (if is_bad_on t devices size (take i faults) f (is_read ops f.op) (request_at ops f.op) then Some (record { line = get_or lines i 0; kind = BadFault })
    else faults_fault t devices size ops (take i faults ++ (f ∷ [])) (drop (suc i) faults) (drop (suc i) lines))
left t devices size ops faults lines i f h l e =
    ap (λ fs. faults_fault t devices size ops (take i faults) fs (drop i lines)) (drop-cons faults i f h ∙ ap (λ x. x ∷ drop (suc i) faults) e)
    ∙ ap (faults_fault t devices size ops (take i faults) (f ∷ drop (suc i) faults)) (drop-cons lines i 0 l)

-- the lines up to the next one
pub taken_more : (faults : List FaultLine) (i : ℕ) (f : FaultLine) → i < length faults → get_or faults i f ≡ f → take (i + 1) faults ≡ take i faults ++ (f ∷ [])
taken_more faults i f h e = ap (λ k. take k faults) (add-one i) ∙ take-suc faults i f h ∙ ap (λ x. take i faults ++ (x ∷ [])) e

pub passes : (t : Table) (devices : List DeviceInfo) (size : ℕ) (ops : List Op) (faults : List FaultLine) (lines : List ℕ) (i : ℕ) (f : FaultLine) → i < length faults → i < length lines → get_or faults i f ≡ f
    → is_bad_on t devices size (take i faults) f (is_read ops f.op) (request_at ops f.op) ≡ false
    → faults_fault t devices size ops (take i faults) (drop i faults) (drop i lines) ≡ faults_fault t devices size ops (take (i + 1) faults) (drop (i + 1) faults) (drop (i + 1) lines)
passes t devices size ops faults lines i f h l e good =
    left t devices size ops faults lines i f h l e
    ∙ ap (λ b. if b then Some (record { line = get_or lines i 0; kind = BadFault }) else faults_fault t devices size ops (take i faults ++ (f ∷ [])) (drop (suc i) faults) (drop (suc i) lines)) good
    ∙ ap (λ fs. faults_fault t devices size ops fs (drop (suc i) faults) (drop (suc i) lines)) (sym (taken_more faults i f h e))
    ∙ ap (λ k. faults_fault t devices size ops (take (i + 1) faults) (drop k faults) (drop k lines)) (sym (add-one i))

-- The op at i is the first of those that are left.
ops_left : (t : Table) (devices : List DeviceInfo) (size : ℕ) (ops : List Op) (lines : List ℕ) (k i : ℕ) (op : Op) → i < length ops → k + i < length lines → get_or ops i op ≡ op
    → ops_fault t devices size (drop i ops) (drop (k + i) lines) ≡ at_line (get_or lines (k + i) 0) (op_fault t devices size op) (ops_fault t devices size (drop (suc i) ops) (drop (suc (k + i)) lines))
ops_left t devices size ops lines k i op h l e =
    ap (λ os. ops_fault t devices size os (drop (k + i) lines)) (drop-cons ops i op h ∙ ap (λ x. x ∷ drop (suc i) ops) e)
    ∙ ap (ops_fault t devices size (op ∷ drop (suc i) ops)) (drop-cons lines (k + i) 0 l)

pub op_at_fault : (t : Table) (devices : List DeviceInfo) (size : ℕ) (ops : List Op) (lines : List ℕ) (k i : ℕ) (op : Op) (kind : ScriptKind) → i < length ops → k + i < length lines → get_or ops i op ≡ op
    → op_fault t devices size op ≡ Some kind → ops_fault t devices size (drop i ops) (drop (k + i) lines) ≡ Some (record { line = get_or lines (k + i) 0; kind = kind })
op_at_fault t devices size ops lines k i op kind h l e bad =
    ops_left t devices size ops lines k i op h l e ∙ ap (λ f. at_line (get_or lines (k + i) 0) f (ops_fault t devices size (drop (suc i) ops) (drop (suc (k + i)) lines))) bad

pub op_passes : (t : Table) (devices : List DeviceInfo) (size : ℕ) (ops : List Op) (lines : List ℕ) (k i : ℕ) (op : Op) → i < length ops → k + i < length lines → get_or ops i op ≡ op
    → op_fault t devices size op ≡ None → ops_fault t devices size (drop i ops) (drop (k + i) lines) ≡ ops_fault t devices size (drop (i + 1) ops) (drop (k + (i + 1)) lines)
op_passes t devices size ops lines k i op h l e good =
    let next : suc (k + i) ≡ k + (i + 1) = omega arith in
    ops_left t devices size ops lines k i op h l e
    ∙ ap (λ f. at_line (get_or lines (k + i) 0) f (ops_fault t devices size (drop (suc i) ops) (drop (suc (k + i)) lines))) good
    ∙ ap (λ n. ops_fault t devices size (drop n ops) (drop (suc (k + i)) lines)) (sym (add-one i))
    ∙ ap (λ n. ops_fault t devices size (drop (i + 1) ops) (drop n lines)) next

pub no_ops_left : (t : Table) (devices : List DeviceInfo) (size : ℕ) (ops : List Op) (lines : List ℕ) (i : ℕ) → length ops ≤ i → ops_fault t devices size (drop i ops) lines ≡ None
no_ops_left t devices size ops lines i h = ap (λ os. ops_fault t devices size os lines) (drop_of_length-le ops h)
