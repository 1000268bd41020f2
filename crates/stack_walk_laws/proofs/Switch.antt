-- What was not carried may be told otherwise: a device that tells what came of each block is a device.
use Rattle.std.proofs.Common.{◌≡◌, ℕ, true, List, refl, sym, ap, ◌∙◌}
use Rattle.std.specs.Prelude.{Result}
use Rattle.bio_core.specs.declared.fate.Why.{Why}
use Rattle.fault_schedule.specs.declared.Label.{Label}
use Rattle.block_path.specs.declared.route.Route.{Route}
use Rattle.block_path.specs.Acts.{State}
use Rattle.block_path.specs.Blocks.{Sent}
use Rattle.block_path.specs.Routes.{told_by}
use Rattle.run_laws.specs.Passed.{Setting, Op}
use Rattle.stack_walk_laws.specs.Following.{Follows}
use Rattle.stack_walk_laws.specs.Sending.{is_carried}
use Rattle.stack_walk_laws.specs.Slots.{Status}
use Rattle.stack_walk_laws.proofs.Switching.{SameFor, switch as switch_device}

-- what came of the block of each label
abbrev pub Told : Type 0
Told = Label → Result (List ℕ) Why

abbrev pub over : Setting → Told → Setting
over m came = record m { site = record m.site { device = told_by came } }

-- a block of which both tell the same
told_same : (one two : Told) (r : Route) → one r.label ≡ two r.label → SameFor (told_by one) (told_by two) r
told_same one two r e = record { stores = λ frame. e; sends = λ stored. e; leaves = λ old frame. refl }

pub switch : (m : Setting) (one two : Told) (n : ℕ) (ops : List Op) (opening now : State) (status : ℕ → ℕ → Status) (es : List Sent)
    → ((j l : ℕ) → is_carried (status j l) ≡ true → one (record { op = j; k = l }) ≡ two (record { op = j; k = l })) → Follows (over m one) n ops opening status now es → Follows (over m two) n ops opening status now es
switch m one two n ops opening now status es t h =
    switch_device m (told_by one) (told_by two) n ops opening now status es (λ j l c r e. told_same one two r (ap one e ∙ t j l c ∙ sym (ap two e))) h
