-- Where the head of an image that is told has a fault, or a list isn't in range, that is what is told.
use Rattle.std.proofs.Common.{ℕ, ◌≡◌, ◌≤◌, ◌⊎◌, inl, inr, Bool, true, false, cond, if◌then◌else◌, List, length, Option, Some, None, Ok, Err, refl, sym, ap, ◌∙◌}
use Rattle.std.specs.Prelude.{nat_lt}
use Rattle.std.proofs.lemmas.Bool.{ltb-false}
use Rattle.script_lines.specs.declared.kind.ScriptKind.TheVariants.{TooMany}
use Rattle.script_text.specs.Language.{lines_read, nothing_read}
use Rattle.script_words.specs.Cuts.{lines_of}
use Rattle.vector_lines.specs.Texts.{head_read, is_list, list_in}
use Rattle.dix_base.proofs.Taking.{whole_text}
use Rattle.dix_base.specs.Told.{Calm}
use Rattle.dix_base.proofs.Counts.{never_rose}
use Rattle.rig_discovery.specs.Openings.{HasOpened, ImageWasOpened}
use Rattle.rig_discovery.proofs.Opened.{right_head}
use Rattle.rig_api.specs.Head.{head_fault, head_of, units_of}
use Rattle.rig_api.specs.declared.rig.RigFault.{RigFault}
use Rattle.rig_api.specs.State.{RigState}
use Rattle.rig_api.proofs.HeadLaws.{headed}
use Rattle.script_text.specs.declared.fault.ScriptFault.{ScriptFault}
use Rattle.script_text.specs.declared.script.Script.{Script}
use Rattle.run_command.specs.Verdict.{CauseStopped, Facts}
use Rattle.call_refusal.specs.declared.refusal.Refusal.{Refusal}
use Rattle.call_refusal.specs.declared.refusal.Refusal.TheVariants as refusal
use Rattle.vector_lines.specs.declared.line.VectorLine.{VectorLine}
use Rattle.vector_runs.specs.Answered.{CauseUnanswered, IsReady}
use Rattle.vector_runs.specs.Played.{CauseNotPlayed, HasPlayed}
use Rattle.vector_runs.specs.Ranges.{out_of_range}
use Rattle.vector_runs.specs.Taken.{CauseNotTaken, text_fault}
use Rattle.vector_runs.specs.declared.playing.Played.{Played}
use Rattle.vector_runs.specs.declared.playing.Played.TheVariants as played
use Rattle.vector_runs.proofs.Wanting.{list_at_fault, script_at_fault}
use Rattle.vector_runs.proofs.Whole.{devices_are, list_right, no_fault as no_text_fault, not_both, same_lines, untaken_for_memory}

-- a text without a fault isn't too long
long_at : (text : List ℕ) (b : Bool) → is_list (lines_of text) ≡ b → nat_lt 4194304 (length text) ≡ true → text_fault text ≡ Some (record { line = 0; kind = TooMany })
long_at text true l t = list_at_fault text (record { line = 0; kind = TooMany }) l (ap (λ (b : Bool). if b then Err (record { line = 0; kind = TooMany }) else head_read 1 (lines_of text)) t)
long_at text false l t = script_at_fault text (record { line = 0; kind = TooMany }) l (ap (λ (b : Bool). cond b (Err (record { line = 0; kind = TooMany })) (lines_read 1 (lines_of text) nothing_read)) t)

short_right : (text : List ℕ) → text_fault text ≡ None → length text ≤ 4194304
short_right text e = by (nat_lt 4194304 (length text)) refl
  where
    by : (b : Bool) → nat_lt 4194304 (length text) ≡ b → length text ≤ 4194304
    by false p = ltb-false 4194304 (length text) p
    by true p = absurd (no_text_fault (text_fault text) (record { line = 0; kind = TooMany }) e (long_at text (is_list (lines_of text)) refl p))

untaken_right : (r : Refusal) (f : Facts) (text : List ℕ) → f.left ≡ Some text → text_fault text ≡ None → Calm f.reads f.reads_after → CauseNotTaken r f.left f.left_after f.reads f.reads_after → r ≡ refusal.Memory
untaken_right r f text l t k c = untaken_for_memory r f text l t (short_right text t) k c

-- an image that was opened has no fault in its head
no_fault : (name image : List ℕ) (old new : RigState) (x : RigFault) → old.image ≡ Some image → new.image ≡ old.image → head_fault (head_of image) ≡ Some x → ImageWasOpened name None old new → ⊥
no_fault name image old new x i same h w =
    let e = headed new.standing.head image new.image (same ∙ i) w.head in
    let k : ◌≡◌ {A = Option RigFault} None (Some x) = sym w.judged ∙ ap head_fault e ∙ h in
    absurd (cc)

not_opened : (name image : List ℕ) (old between new : RigState) (x : RigFault) → old.image ≡ Some image → head_fault (head_of image) ≡ Some x → HasOpened name old between new → ⊥
not_opened name image old between new x i h o = no_fault name image old between x i o.kept.image h o.opened

not_ready : (name image : List ℕ) (old new : RigState) (x : RigFault) → old.image ≡ Some image → head_fault (head_of image) ≡ Some x → IsReady name old new → ⊥
not_ready name image old new x i h r = no_fault name image old new x i r.image h r.opened

pub not_played_over : (p : Played) (f : Facts) (image : List ℕ) (x : RigFault) → f.rig.image ≡ Some image → head_fault (head_of image) ≡ Some x → HasPlayed p f → ⊥
not_played_over (played.Listed lines first) f image x i h c = not_ready f.name image f.rig c.answered.between x i h c.answered.ready
not_played_over (played.Ran run) f image x i h c = not_opened f.name image f.rig c.2.asked.told.between c.2.told x i h c.2.asked.told.since

abbrev pub IsHead : Refusal → Type 0
IsHead r = ((y : RigFault) × (r ≡ refusal.Image y)) ⊎ (r ≡ refusal.Memory)

stopped_at : (r : Refusal) (script : Script) (name image : List ℕ) (old new : RigState) (x : RigFault) → old.image ≡ Some image → head_fault (head_of image) ≡ Some x → Calm old.faults new.faults → CauseStopped r script name old new → IsHead r
stopped_at (refusal.Script bad) script name image old new x i h k c = absurd (not_opened name image old c.asked.told.between new x i h c.asked.told.since)
stopped_at (refusal.Image y) script name image old new x i h k c = inl (y, refl)
stopped_at (refusal.BadCapacity dev) script name image old new x i h k c = absurd (not_opened name image old c.between new x i h c.since)
stopped_at (refusal.Volume entry kind) script name image old new x i h k c = absurd (not_opened name image old c.asked.told.between new x i h c.asked.told.since)
stopped_at refusal.RigFault script name image old new x i h k c = absurd (never_rose old.faults new.faults k c.0)
stopped_at refusal.Memory script name image old new x i h k c = inr refl
stopped_at refusal.ReadFault script name image old new x i h k c = absurd c

unanswered_at : (r : Refusal) (lines : List VectorLine) (name image : List ℕ) (old new : RigState) (x : RigFault) → old.image ≡ Some image → head_fault (head_of image) ≡ Some x → Calm old.faults new.faults → CauseUnanswered r name lines old new → IsHead r
unanswered_at (refusal.Script bad) lines name image old new x i h k c = absurd (not_ready name image old new x i h c.0)
unanswered_at (refusal.Image y) lines name image old new x i h k c = inl (y, refl)
unanswered_at refusal.RigFault lines name image old new x i h k c = absurd (never_rose old.faults new.faults k c.0.0)
unanswered_at refusal.Memory lines name image old new x i h k c = inr refl
unanswered_at _ lines name image old new x i h k c = absurd c.0

pub head_refused : (r : Refusal) (f : Facts) (text image : List ℕ) (x : RigFault) → f.left ≡ Some text → text_fault text ≡ None → f.rig.image ≡ Some image → head_fault (head_of image) ≡ Some x → Calm f.reads f.reads_after → Calm f.rig.faults f.rig_after.faults → CauseNotPlayed r f → IsHead r
head_refused r f text image x l t i h k m (inl c) = inr (untaken_right r f text l t k c.0)
head_refused r f text image x l t i h k m (inr (inl c)) = stopped_at r c.0 f.name image f.rig f.rig_after x i h m c.2
head_refused r f text image x l t i h k m (inr (inr c)) = unanswered_at r c.0 f.name image f.rig f.rig_after x i h m c.2

-- ---- a list out of range

range_twice : (lines : List VectorLine) (bad : ScriptFault) (n m : ℕ) → n ≡ m → out_of_range m lines ≡ Some bad → out_of_range n lines ≡ None → ⊥
range_twice lines bad n m e a b = let k : ◌≡◌ {A = Option ScriptFault} (Some bad) None = sym a ∙ ap (λ v. out_of_range v lines) (sym e) ∙ b in absurd (cc)

pub not_played_out : (p : Played) (f : Facts) (text image : List ℕ) (lines : List VectorLine) (bad : ScriptFault) → f.left ≡ Some text → is_list (lines_of text) ≡ true → list_in text ≡ Ok lines → f.rig.image ≡ Some image → out_of_range (length (units_of (head_of image))) lines ≡ Some bad → HasPlayed p f → ⊥
not_played_out (played.Listed ls first) f text image lines bad l n s i o c =
    let e : ls.items ≡ lines = same_lines ls.items lines c.held.text text (whole_text c.held.text text f.left f.left_after l c.held.whole) c.held.reads s in
    range_twice lines bad c.answered.between.standing.devices (length (units_of (head_of image))) (devices_are f.name image f.rig c.answered.between i c.answered.ready) o
    (ap (out_of_range c.answered.between.standing.devices) (sym e) ∙ c.answered.inside)
not_played_out (played.Ran run) f text image lines bad l n s i o c = absurd (not_both text c.1.text (sym (whole_text c.1.text text f.left f.left_after l c.1.whole)) n c.1.script_is)

abbrev pub IsLine : Refusal → Type 0
IsLine r = ((y : ScriptFault) × (r ≡ refusal.Script y)) ⊎ (r ≡ refusal.Memory)

unanswered_out : (r : Refusal) (lines : List VectorLine) (name image : List ℕ) (old new : RigState) → old.image ≡ Some image → head_fault (head_of image) ≡ None → Calm old.faults new.faults → CauseUnanswered r name lines old new → IsLine r
unanswered_out (refusal.Script bad) lines name image old new i h k c = inl (bad, refl)
unanswered_out (refusal.Image y) lines name image old new i h k c = absurd (right_head image y name old new i c.1.image h c.0)
unanswered_out refusal.RigFault lines name image old new i h k c = absurd (never_rose old.faults new.faults k c.0.0)
unanswered_out refusal.Memory lines name image old new i h k c = inr refl
unanswered_out _ lines name image old new i h k c = absurd c.0

pub range_refused : (r : Refusal) (f : Facts) (text image : List ℕ) (lines : List VectorLine) → f.left ≡ Some text → is_list (lines_of text) ≡ true → list_in text ≡ Ok lines → f.rig.image ≡ Some image → head_fault (head_of image) ≡ None → Calm f.reads f.reads_after → Calm f.rig.faults f.rig_after.faults → CauseNotPlayed r f → IsLine r
range_refused r f text image lines l n s i h k m (inl c) = inr (untaken_right r f text l (list_right text lines n s) k c.0)
range_refused r f text image lines l n s i h k m (inr (inl c)) = absurd (not_both text c.1.text (sym (whole_text c.1.text text f.left f.left_after l c.1.whole)) n c.1.script_is)
range_refused r f text image lines l n s i h k m (inr (inr c)) = unanswered_out r c.0 f.name image f.rig f.rig_after i h m c.2
