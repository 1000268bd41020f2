-- What a text holds, as the source held it.
use Rattle.std.proofs.Common.{ℕ, ◌≡◌, ◌⊎◌, inl, inr, true, false, if◌then◌else◌, List, Option, Some, Result, Ok, Err, sym, ap, subst, ◌∙◌}
use Rattle.std.specs.Prelude.{IfErr, IfOk, MatchResult}
use Rattle.script_lines.specs.declared.kind.ScriptKind.{ScriptKind}
use Rattle.script_lines.specs.declared.kind.ScriptKind.TheVariants.{Memory}
use Rattle.call_refusal.specs.Refusals.{of_kind, of_script}
use Rattle.call_refusal.proofs.WantOfMemory.{of_either}
use Rattle.script_text.specs.Language.{script_in}
use Rattle.script_text.specs.declared.fault.ScriptFault.{ScriptFault}
use Rattle.script_text.specs.declared.script.Script.{Script}
use Rattle.call_refusal.specs.declared.refusal.Refusal.{Refusal}
use Rattle.call_refusal.specs.declared.refusal.Refusal.TheVariants as refusal
use Rattle.run_command.proofs.Refusing.{within}
use Rattle.script_words.specs.Cuts.{lines_of}
use Rattle.dix_base.specs.Reading.{IsWhole}
use Rattle.vector_lines.specs.Texts.{is_list, list_in}
use Rattle.vector_runs.specs.Taken.{CauseNotHeld, CauseNotTaken, HasTaken, Holds, list_fault, script_fault, text_fault}
use Rattle.vector_runs.specs.declared.wanted.Wanted.{Wanted}
use Rattle.vector_runs.specs.declared.wanted.Wanted.TheVariants as wanted

pub list_at_fault : (text : List ℕ) (f : ScriptFault) → is_list (lines_of text) ≡ true → list_in text ≡ Err f → text_fault text ≡ Some f
list_at_fault text f l e = ap (λ b. if b then list_fault (list_in text) else script_fault (script_in text)) l ∙ ap list_fault e

pub script_at_fault : (text : List ℕ) (f : ScriptFault) → is_list (lines_of text) ≡ false → script_in text ≡ Err f → text_fault text ≡ Some f
script_at_fault text f l e = ap (λ b. if b then list_fault (list_in text) else script_fault (script_in text)) l ∙ ap script_fault e

held_by : (text : List ℕ) (f : ScriptFault) (r : Refusal) → text_fault text ≡ Some f → (r ≡ refusal.Memory) ⊎ (r ≡ refusal.Script f) → CauseNotHeld r text
held_by text f r e (inl m) = inl m
held_by text f r e (inr s) = inr (f, s, e)

-- a fault of another kind than want of memory is the text's
pub list_bad : (text : List ℕ) (f : ScriptFault) → is_list (lines_of text) ≡ true → (f.kind ≡ Memory) ⊎ (list_in text ≡ Err f) → CauseNotHeld (of_script f) text
list_bad text f l (inl k) = inl (ap (λ (v : ScriptKind). of_kind v f) k)
list_bad text f l (inr e) = held_by text f (of_script f) (list_at_fault text f l e) (of_either f.kind f)

pub script_bad : (text : List ℕ) (f : ScriptFault) → is_list (lines_of text) ≡ false → (f.kind ≡ Memory) ⊎ (script_in text ≡ Err f) → CauseNotHeld (of_script f) text
script_bad text f l (inl k) = inl (ap (λ (v : ScriptKind). of_kind v f) k)
script_bad text f l (inr e) = held_by text f (of_script f) (script_at_fault text f l e) (of_either f.kind f)

-- ---- over a source

pub taken_so : (r : Result Wanted Refusal) (text : List ℕ) (a b : Option (List ℕ)) (o n : ℕ) → IsWhole text a b → n ≡ o → MatchResult r (λ w. Holds w text) (λ x. CauseNotHeld x text) → IfOk r (λ w. HasTaken w a b o n)
taken_so (Ok (wanted.Lines lines)) text a b o n w k h = record { text = text; whole = w; list = h.0; reads = h.1; calm = k }
taken_so (Ok (wanted.Script s)) text a b o n w k h = record { text = text; whole = w; script_is = h.0; reads = h.1; plays = h.2; calm = k }
taken_so (Err r) text a b o n w k h = tt

not_taken : (r : Refusal) (text : List ℕ) (a b : Option (List ℕ)) (o n : ℕ) → IsWhole text a b → CauseNotHeld r text → CauseNotTaken r a b o n
not_taken r text a b o n w (inl m) = subst (λ x. CauseNotTaken x a b o n) (sym m) (within text a b w)
not_taken r text a b o n w (inr s) = subst (λ x. CauseNotTaken x a b o n) (sym s.1) (inl (text, w, s.2))

pub not_taken_so : (r : Result Wanted Refusal) (text : List ℕ) (a b : Option (List ℕ)) (o n : ℕ) → IsWhole text a b → MatchResult r (λ w. Holds w text) (λ x. CauseNotHeld x text) → IfErr r (λ x. CauseNotTaken x a b o n)
not_taken_so (Ok w) text a b o n whole h = tt
not_taken_so (Err r) text a b o n whole h = not_taken r text a b o n whole h
