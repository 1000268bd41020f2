-- Where nothing is at fault in text and image, what is refused comes from outside.
use Rattle.std.proofs.Common.{ℕ, ◌≡◌, ◌⊎◌, inl, inr, ◌≤◌, Bool, true, false, if◌then◌else◌, List, length, Option, Some, None, Result, Ok, refl, sym, ap, subst, ◌∙◌, arith}
use Rattle.std.specs.Prelude.{nat_lt}
use Rattle.std.proofs.lemmas.Bool.{ltb-false}
use Rattle.dix_base.specs.Told.{Calm, Rose}
use Rattle.dix_base.proofs.Counts.{never_rose}
use Rattle.rig_api.specs.Head.{Head, head_fault, head_of, units_of}
use Rattle.rig_api.specs.State.{RigState}
use Rattle.rig_api.proofs.HeadLaws.{headed}
use Rattle.script_text.specs.Language.{script_in}
use Rattle.script_text.specs.declared.fault.ScriptFault.{ScriptFault}
use Rattle.script_text.specs.declared.script.Script.{Script}
use Rattle.run_command.proofs.Completing.{stops_from_outside}
use Rattle.run_command.specs.Verdict.{CauseStopped, Facts, IsFromOutside}
use Rattle.call_refusal.specs.declared.refusal.Refusal.{Refusal}
use Rattle.call_refusal.specs.declared.refusal.Refusal.TheVariants as refusal
use Rattle.script_words.specs.Cuts.{lines_of}
use Rattle.dix_base.proofs.Taking.{most_is, over_long, whole_text}
use Rattle.vector_lines.specs.Texts.{is_list, list_in}
use Rattle.vector_lines.specs.declared.line.VectorLine.{VectorLine}
use Rattle.vector_runs.specs.Answered.{CauseUnanswered, IsReady}
use Rattle.vector_runs.specs.Played.{CauseNotPlayed, HasPlayed, ListIsComplete, ScriptIsComplete}
use Rattle.vector_runs.specs.Ranges.{out_of_range}
use Rattle.vector_runs.specs.Taken.{CauseNotTaken, HoldsFault, HoldsList, HoldsScript, list_fault, script_fault, text_fault}
use Rattle.vector_runs.specs.Unplayed.{unplayed}
use Rattle.vector_runs.specs.declared.playing.Played.{Played}
use Rattle.vector_runs.specs.declared.playing.Played.TheVariants as played
use Rattle.rig_discovery.proofs.Opened.{right_head}

pub list_right : (text : List ℕ) (lines : List VectorLine) → is_list (lines_of text) ≡ true → list_in text ≡ Ok lines → text_fault text ≡ None
list_right text lines l e = ap (λ b. if b then list_fault (list_in text) else script_fault (script_in text)) l ∙ ap list_fault e

pub script_right : (text : List ℕ) (s : Script) → is_list (lines_of text) ≡ false → script_in text ≡ Ok s → unplayed s ≡ None → text_fault text ≡ None
script_right text s l e u = ap (λ b. if b then list_fault (list_in text) else script_fault (script_in text)) l ∙ ap script_fault e ∙ u

pub no_fault : (x : Option ScriptFault) (f : ScriptFault) → x ≡ None → x ≡ Some f → ⊥
no_fault x f a b = let k : ◌≡◌ {A = Option ScriptFault} None (Some f) = sym a ∙ b in absurd (cc)

-- a text that was read isn't too long
list_short : (text : List ℕ) (lines : List VectorLine) → list_in text ≡ Ok lines → length text ≤ 4194304
list_short text lines e = by (nat_lt 4194304 (length text)) refl
  where
    by : (b : Bool) → nat_lt 4194304 (length text) ≡ b → length text ≤ 4194304
    by false p = ltb-false 4194304 (length text) p
    by true p = let u = rw p at e in absurd (cc)

script_short : (text : List ℕ) (script : Script) → script_in text ≡ Ok script → length text ≤ 4194304
script_short text script e = by (nat_lt 4194304 (length text)) refl
  where
    by : (b : Bool) → nat_lt 4194304 (length text) ≡ b → length text ≤ 4194304
    by false p = ltb-false 4194304 (length text) p
    by true p = let u = rw p at e in absurd (cc)

not_faulty : (f : Facts) (text : List ℕ) (bad : ScriptFault) → f.left ≡ Some text → text_fault text ≡ None → length text ≤ 4194304 → HoldsFault bad f.left f.left_after → ⊥
not_faulty f text bad l none s (inl h) = no_fault (text_fault text) bad none (ap text_fault (sym (whole_text h.0 text f.left f.left_after l h.1)) ∙ h.2)
not_faulty f text bad l none s (inr h) = let m = most_is in over_long text h.0.0 f.left f.left_after l h.0.1 h.0.2 (omega (arith, m, s))

pub untaken_for_memory : (r : Refusal) (f : Facts) (text : List ℕ) → f.left ≡ Some text → text_fault text ≡ None → length text ≤ 4194304 → Calm f.reads f.reads_after → CauseNotTaken r f.left f.left_after f.reads f.reads_after → r ≡ refusal.Memory
untaken_for_memory (refusal.Script bad) f text l none s calm c = absurd (not_faulty f text bad l none s c)
untaken_for_memory refusal.Memory f text l none s calm c = refl
untaken_for_memory refusal.ReadFault f text l none s calm c = absurd (never_rose f.reads f.reads_after calm c.0)
untaken_for_memory _ f text l none s calm c = absurd c

-- a text is either a list or a script
pub not_both : (a b : List ℕ) → a ≡ b → is_list (lines_of a) ≡ true → is_list (lines_of b) ≡ false → ⊥
not_both a b e x y = let k : true ≡ false = sym x ∙ ap (λ v. is_list (lines_of v)) e ∙ y in absurd (cc)

same_script : (a b : Script) (x y : List ℕ) → x ≡ y → script_in x ≡ Ok a → script_in y ≡ Ok b → a ≡ b
same_script a b x y e p q = let k : ◌≡◌ {A = Result Script ScriptFault} (Ok a) (Ok b) = sym p ∙ ap script_in e ∙ q in cc

pub same_lines : (a b : List VectorLine) (x y : List ℕ) → x ≡ y → list_in x ≡ Ok a → list_in y ≡ Ok b → a ≡ b
same_lines a b x y e p q = let k : ◌≡◌ {A = Result (List VectorLine) ScriptFault} (Ok a) (Ok b) = sym p ∙ ap list_in e ∙ q in cc

pub script_complete : (r : Refusal) (f : Facts) → CauseNotPlayed r f → ScriptIsComplete r f
script_complete r f (inl c) = λ text image script l n s u i h t b calm. inl (untaken_for_memory r f text l (script_right text script n s u) (script_short text script s) calm c.0)
script_complete r f (inr (inl c)) = λ text image script l n s u i h t b calm.
    let e : c.0 ≡ script = same_script c.0 script c.1.text text (whole_text c.1.text text f.left f.left_after l c.1.whole) c.1.reads s in
    stops_from_outside r script f.name f.rig f.rig_after (subst (λ (v : Script). CauseStopped r v f.name f.rig f.rig_after) e c.2) image i h t b
script_complete r f (inr (inr c)) = λ text image script l n s u i h t b calm. absurd (not_both c.1.text text (whole_text c.1.text text f.left f.left_after l c.1.whole) c.1.list n)

-- an image that is told has the devices of its head
pub devices_are : (name image : List ℕ) (old new : RigState) → old.image ≡ Some image → IsReady name old new → new.standing.devices ≡ length (units_of (head_of image))
devices_are name image old new i r = r.counted ∙ ap (λ (h : Head). length (units_of h)) (headed new.standing.head image new.image (r.image ∙ i) r.opened.head)

in_range : (lines : List VectorLine) (bad : ScriptFault) (n m : ℕ) → n ≡ m → out_of_range m lines ≡ None → out_of_range n lines ≡ Some bad → ⊥
in_range lines bad n m e a b = let k : ◌≡◌ {A = Option ScriptFault} None (Some bad) = sym a ∙ ap (λ v. out_of_range v lines) (sym e) ∙ b in absurd (cc)

list_from_outside : (r : Refusal) (lines : List VectorLine) (name image : List ℕ) (old new : RigState) → old.image ≡ Some image → head_fault (head_of image) ≡ None → out_of_range (length (units_of (head_of image))) lines ≡ None → CauseUnanswered r name lines old new → IsFromOutside r
list_from_outside (refusal.Script bad) lines name image old new i h o c = absurd (in_range lines bad new.standing.devices (length (units_of (head_of image))) (devices_are name image old new i c.0) o c.1)
list_from_outside (refusal.Image x) lines name image old new i h o c = absurd (right_head image x name old new i c.1.image h c.0)
list_from_outside refusal.RigFault lines name image old new i h o c = inr refl
list_from_outside refusal.Memory lines name image old new i h o c = inl refl
list_from_outside _ lines name image old new i h o c = absurd c.0

pub list_complete : (r : Refusal) (f : Facts) → CauseNotPlayed r f → ListIsComplete r f
list_complete r f (inl c) = λ text image lines l n s i h o calm. inl (untaken_for_memory r f text l (list_right text lines n s) (list_short text lines s) calm c.0)
list_complete r f (inr (inl c)) = λ text image lines l n s i h o calm. absurd (not_both text c.1.text (sym (whole_text c.1.text text f.left f.left_after l c.1.whole)) n c.1.script_is)
list_complete r f (inr (inr c)) = λ text image lines l n s i h o calm.
    let e : c.0 ≡ lines = same_lines c.0 lines c.1.text text (whole_text c.1.text text f.left f.left_after l c.1.whole) c.1.reads s in
    list_from_outside r lines f.name image f.rig f.rig_after i h o (subst (λ (v : List VectorLine). CauseUnanswered r f.name v f.rig f.rig_after) e c.2)

-- ---- what a text at fault comes to

one_fault : (x : Option ScriptFault) (f : ScriptFault) → x ≡ Some f → x ≡ None → ⊥
one_fault x f a b = no_fault x f b a

held_list : (lines : List VectorLine) (f : Facts) → HoldsList lines f.left f.left_after f.reads f.reads_after → (text : List ℕ) → f.left ≡ Some text → text_fault text ≡ None
held_list lines f h text l = ap text_fault (sym (whole_text h.text text f.left f.left_after l h.whole)) ∙ list_right h.text lines h.list h.reads

held_script : (script : Script) (f : Facts) → HoldsScript script f.left f.left_after f.reads f.reads_after → (text : List ℕ) → f.left ≡ Some text → text_fault text ≡ None
held_script script f h text l = ap text_fault (sym (whole_text h.text text f.left f.left_after l h.whole)) ∙ script_right h.text script h.script_is h.reads h.plays

pub not_played_faulty : (p : Played) (f : Facts) (text : List ℕ) (bad : ScriptFault) → f.left ≡ Some text → text_fault text ≡ Some bad → HasPlayed p f → ⊥
not_played_faulty (played.Listed lines first) f text bad l t h = one_fault (text_fault text) bad t (held_list lines.items f h.held text l)
not_played_faulty (played.Ran run) f text bad l t h = one_fault (text_fault text) bad t (held_script h.0 f h.1 text l)

untaken : (r : Refusal) (f : Facts) → Calm f.reads f.reads_after → CauseNotTaken r f.left f.left_after f.reads f.reads_after → ((x : ScriptFault) × (r ≡ refusal.Script x)) ⊎ (r ≡ refusal.Memory)
untaken (refusal.Script x) f calm c = inl (x, refl)
untaken refusal.Memory f calm c = inr refl
untaken refusal.ReadFault f calm c = absurd (never_rose f.reads f.reads_after calm c.0)
untaken _ f calm c = absurd c

pub faulty_refused : (r : Refusal) (f : Facts) (text : List ℕ) (bad : ScriptFault) → f.left ≡ Some text → text_fault text ≡ Some bad → Calm f.reads f.reads_after → CauseNotPlayed r f → ((x : ScriptFault) × (r ≡ refusal.Script x)) ⊎ (r ≡ refusal.Memory)
faulty_refused r f text bad l t calm (inl c) = untaken r f calm c.0
faulty_refused r f text bad l t calm (inr (inl c)) = absurd (one_fault (text_fault text) bad t (held_script c.0 f c.1 text l))
faulty_refused r f text bad l t calm (inr (inr c)) = absurd (one_fault (text_fault text) bad t (held_list c.0 f c.1 text l))

-- ---- what failed was counted

rig_rose : (f : Facts) → CauseNotPlayed refusal.RigFault f → Rose f.rig.faults f.rig_after.faults
rig_rose f (inl c) = absurd c.0
rig_rose f (inr (inl c)) = c.2.0
rig_rose f (inr (inr c)) = c.2.0.0

pub rig_failed : (r : Refusal) (f : Facts) → r ≡ refusal.RigFault → CauseNotPlayed r f → Rose f.rig.faults f.rig_after.faults
rig_failed r f e c = rig_rose f (subst (λ (x : Refusal). CauseNotPlayed x f) e c)
