-- Lines that fit over a right image are refused for want of memory alone.
use Rattle.std.proofs.Common.{ℕ, ◌≡◌, ◌≤◌, inl, inr, Bool, true, false, if◌then◌else◌, List, [], ◌∷◌, length, Option, Some, None, refl, sym, ap, subst, ◌∙◌, arith}
use Rattle.std.specs.Prelude.{Result, Ok, Err, map, nat_lt}
use Rattle.std.proofs.lemmas.Bool.Decides.{nat_tests}
use Rattle.std.proofs.lemmas.List.{take_all}
use Rattle.dix_base.specs.Told.{Calm}
use Rattle.dix_base.proofs.Counts.{never_rose}
use Rattle.dix_base.specs.Reading.{most_bytes}
use Rattle.dix_base.proofs.Taking.{most_is, over_long, whole_text}
use Rattle.rig_api.specs.Head.{head_fault, head_of, units_of}
use Rattle.rig_api.specs.Image.{units_in}
use Rattle.rig_api.specs.Telling.{Standing, specs_of, units_told}
use Rattle.rig_api.specs.State.{RigState}
use Rattle.rig_api.proofs.HeadLaws.{headed}
use Rattle.volume_table.specs.declared.device.DeviceInfo.{DeviceInfo}
use Rattle.rig_discovery.specs.Discovery.{info_of}
use Rattle.rig_discovery.specs.Openings.{OpenedOnce}
use Rattle.rig_discovery.proofs.Opened.{right_head, told_is_good}
use Rattle.call_refusal.specs.declared.refusal.Refusal.{Refusal}
use Rattle.call_refusal.specs.declared.refusal.Refusal.TheVariants as refusal
use Rattle.nvme_command.proofs.Kept.{told-is}
use Rattle.nvme_command.specs.Texts.{lines_read, text_in}
use Rattle.script_words.specs.Cuts.{lines_of}
use Rattle.nvme_command.specs.declared.line.NvmLine.{NvmLine}
use Rattle.script_text.specs.declared.fault.ScriptFault.{ScriptFault}
use Rattle.nvme_command.specs.Causes.{CauseNotDone, CauseUndone, HasAsked, HasDoneInPart, HasLines, HasMisfit, HasNoLines, HasTold, WereDone}
use Rattle.nvme_command.specs.Done.{AllDone}
use Rattle.nvme_command.specs.Fits.{misfit}
use Rattle.nvme_command.specs.Replies.{LineReply}

not_long : (b : Bool) (x : Result (List NvmLine) ScriptFault) (e : ScriptFault) (lines : List NvmLine) → (if b then Err e else x) ≡ Ok lines → b ≡ false
not_long true x e lines h = absurd (cc)
not_long false x e lines h = refl

below : (a n : ℕ) → nat_lt a n ≡ false → n ≤ a
below a n h = grind (arith, nat_tests)

-- a text of lines has at most so many bytes
text_short : (text : List ℕ) (lines : List NvmLine) → text_in text ≡ Ok lines → length text ≤ most_bytes
text_short text lines h = rw most_is (below 4194304 (length text) (not_long (nat_lt 4194304 (length text)) (lines_read 1 (lines_of text) []) _ lines h))

no_lines : (f : ScriptFault) (left left' : Option (List ℕ)) (text : List ℕ) (lines : List NvmLine) → left ≡ Some text → text_in text ≡ Ok lines → HasNoLines f left left' → ⊥
no_lines f left left' text lines e t (inl n) = let same = whole_text n.0 text left left' e n.1 in let both = sym n.2 ∙ ap text_in same ∙ t in cc
no_lines f left left' text lines e t (inr n) = over_long text n.1.0 left left' e n.1.1 n.1.2 (text_short text lines t)

same_lines : (text : List ℕ) (lines lines' : List NvmLine) (left left' : Option (List ℕ)) (reads reads' : ℕ) → left ≡ Some text → text_in text ≡ Ok lines → HasLines lines' left left' reads reads' → lines' ≡ lines
same_lines text lines lines' left left' reads reads' e t h = let both = sym h.lines_are ∙ ap text_in (whole_text h.text text left left' e h.whole) ∙ t in cc

-- the devices that a told image's rig told are those of its head
devices_told : (image name : List ℕ) (devices : List DeviceInfo) (old new : RigState) → old.image ≡ Some image → HasTold name devices old new → devices ≡ map info_of (units_of (head_of image))
devices_told image name devices old new e t =
    let b = t.asked.between in
    let since = t.asked.since in
    let told : b.image ≡ Some image = since.kept.image ∙ e in
    let head : b.standing.head ≡ head_of image = headed b.standing.head image b.image told since.opened.head in
    let units : new.units ≡ Some (units_in (specs_of b.standing) image) = since.units ∙ since.laid ∙ ap (units_told b.standing) told in
    let shape = told-is b.standing (Some image) (units_in (specs_of b.standing) image) refl in
    let all : specs_of b.standing ≡ units_of b.standing.head = take_all b.standing.devices (units_of b.standing.head) (omega (arith, t.asked.counted)) in
    t.devices_are.told (units_in (specs_of b.standing) image) units ∙ shape.1 ∙ ap (map info_of) (all ∙ ap units_of head)

no_misfit : (f : ScriptFault) (name : List ℕ) (lines' lines : List NvmLine) (old new : RigState) (image : List ℕ) → lines' ≡ lines → old.image ≡ Some image → misfit (map info_of (units_of (head_of image))) lines ≡ None → HasMisfit f name lines' old new → ⊥
no_misfit f name lines' lines old new image same i m h =
    let devices = devices_told image name h.devices old new i h.told in
    let both : ◌≡◌ {A = Option ScriptFault} (Some f) None = sym h.line_is ∙ ap (λ (v : List DeviceInfo). misfit v lines') devices ∙ ap (misfit (map info_of (units_of (head_of image)))) same ∙ m in
    cc

-- why no command of such lines is done
pub spared_alone : (f : Refusal) (name : List ℕ) (left left' : Option (List ℕ)) (reads reads' : ℕ) (old new : RigState) (text image : List ℕ) (lines : List NvmLine) → left ≡ Some text → text_in text ≡ Ok lines → old.image ≡ Some image → head_fault (head_of image) ≡ None →
    misfit (map info_of (units_of (head_of image))) lines ≡ None → Calm reads reads' → Calm old.faults new.faults → CauseNotDone f name left left' reads reads' old new → f ≡ refusal.Memory
spared_alone (refusal.Script f) name left left' reads reads' old new text image lines l t i h m cr cf (inl c) = absurd (no_lines f left left' text lines l t c.0)
spared_alone (refusal.Script f) name left left' reads reads' old new text image lines l t i h m cr cf (inr c) = absurd (no_misfit f name c.0 lines old new image (same_lines text lines c.0 left left' reads reads' l t c.1) i m c.2)
spared_alone (refusal.Image x) name left left' reads reads' old new text image lines l t i h m cr cf (inr c) = absurd (right_head image x name old new i c.2.1.image h c.2.0)
spared_alone (refusal.BadCapacity dev) name left left' reads reads' old new text image lines l t i h m cr cf (inr c) = absurd (told_is_good image name dev old new i c.2)
spared_alone refusal.RigFault name left left' reads reads' old new text image lines l t i h m cr cf (inr c) = absurd (never_rose old.faults new.faults cf c.2.0)
spared_alone refusal.Memory name left left' reads reads' old new text image lines l t i h m cr cf c = refl
spared_alone refusal.ReadFault name left left' reads reads' old new text image lines l t i h m cr cf (inl c) = absurd (never_rose reads reads' cr c.0)
spared_alone _ name left left' reads reads' old new text image lines l t i h m cr cf (inl c) = absurd c.0
spared_alone _ name left left' reads reads' old new text image lines l t i h m cr cf (inr c) = absurd c.2

-- ---- the rig is opened at most once

asked_opens : (name : List ℕ) (devices : List DeviceInfo) (old new : RigState) → HasAsked name devices old new → OpenedOnce name old.standing new.standing
asked_opens name devices old new a =
    let to = a.since.standing in
    inr (ap (λ (s : Standing). s.openings) to ∙ a.since.opened.opened.0, ap (λ (s : Standing). s.name) to ∙ a.since.opened.opened.1)

opens_on : (name : List ℕ) (old between new : Standing) → new ≡ between → OpenedOnce name old between → OpenedOnce name old new
opens_on name old between new e o = subst (λ (s : Standing). OpenedOnce name old s) (sym e) o

stands_all : (ds : List DeviceInfo) (ls : List NvmLine) (rs : List LineReply) (a b : RigState) → AllDone ds ls rs a b → b.standing ≡ a.standing
stands_all ds [] [] a b d = ap (λ (v : RigState). v.standing) d
stands_all ds [] (x ∷ rs) a b d = absurd d
stands_all ds (x ∷ ls) [] a b d = absurd d
stands_all ds (x ∷ ls) (y ∷ rs) a b d = stands_all ds ls rs d.0 b d.2 ∙ d.1.standing

in_part_opens : (name : List ℕ) (lines : List NvmLine) (old new : RigState) → HasDoneInPart name lines old new → OpenedOnce name old.standing new.standing
in_part_opens name lines old new d =
    opens_on name old.standing d.between.standing new.standing (d.came.stays.standing ∙ stands_all d.devices d.came.first d.came.replies d.between d.came.last d.came.done) (asked_opens name d.devices old d.between d.told.asked)

undone_opens : (f : Refusal) (name : List ℕ) (lines : List NvmLine) (old new : RigState) → CauseUndone f name lines old new → OpenedOnce name old.standing new.standing
undone_opens (refusal.Script f) name lines old new c = asked_opens name c.devices old new c.told.asked
undone_opens (refusal.Image x) name lines old new c = inr c.0.opened
undone_opens (refusal.BadCapacity dev) name lines old new c =
    let to = c.since.standing in inr (ap (λ (s : Standing). s.openings) to ∙ c.since.opened.opened.0, ap (λ (s : Standing). s.name) to ∙ c.since.opened.opened.1)
undone_opens refusal.RigFault name lines old new c = inr c.1
undone_opens refusal.Memory name lines old new (inl (inl c)) = c.1
undone_opens refusal.Memory name lines old new (inl (inr c)) = asked_opens name c.0 old new c.1
undone_opens refusal.Memory name lines old new (inr c) = in_part_opens name lines old new c
undone_opens _ name lines old new c = absurd c

pub not_done_opens : (f : Refusal) (name : List ℕ) (left left' : Option (List ℕ)) (reads reads' : ℕ) (old new : RigState) → CauseNotDone f name left left' reads reads' old new → OpenedOnce name old.standing new.standing
not_done_opens f name left left' reads reads' old new (inl c) = inl (ap (λ (v : RigState). v.standing.openings) c.1, ap (λ (v : RigState). v.standing.name) c.1)
not_done_opens f name left left' reads reads' old new (inr c) = undone_opens f name c.0 old new c.2

pub done_opens : (name text : List ℕ) (bad : Bool) (left left' : Option (List ℕ)) (reads reads' : ℕ) (old new : RigState) → WereDone name text bad left left' reads reads' old new → OpenedOnce name old.standing new.standing
done_opens name text bad left left' reads reads' old new w =
    opens_on name old.standing w.done.between.standing new.standing (stands_all w.done.devices w.lines w.done.came.replies w.done.between new w.done.came.done) (asked_opens name w.done.devices old w.done.between w.done.told.asked)
