-- What a unit answers to a block, as a flaw and as why it failed.
use Rattle.std.proofs.Common.{◌≡◌, ℕ, Bool, true, false, eqb, if◌then◌else◌, List, refl, ap, ◌∙◌, Some, None}
use Rattle.std.specs.Prelude.{Result, Ok, Err}
use Rattle.pi_tuple.specs.declared.checks.Check.{Check}
use Rattle.bio_core.specs.declared.fate.Why.{Why}
use Rattle.bio_core.specs.declared.fate.Why.TheVariants.{Target}
use Rattle.fault_schedule.specs.declared.fault.FaultLine.{FaultLine}
use Rattle.rig_api.specs.Passed.{Broken, Flaw, Found, fails_under, flaw_sense, from_medium, medium_sense, off_medium, onto_medium, sent_unless, stored_unless, to_medium}
use Rattle.rig_api.specs.declared.passage.Passage.{Passage}
use Rattle.block_path.specs.Routes.{by_target, sends_unless, stores_unless}
use Rattle.block_path.specs.Senses.{why_ended, why_of}
use Rattle.block_path.proofs.PathLaws.{check_named}
use Rattle.dix_adapter.proofs.Asking.{Alike, alike-in, alike-out}

abbrev pub flaw_why : Flaw → Why
flaw_why (Found check) = Target check
flaw_why (Broken asc) = why_ended (Some (medium_sense asc 0))

-- The sense of a command names its flaw.
pub flaw_named : (flaw : Flaw) (lba : ℕ) → why_ended (Some (flaw_sense flaw lba)) ≡ flaw_why flaw
flaw_named (Found check) lba = check_named check lba
flaw_named (Broken asc) lba = by (eqb asc 16) where
  by : (c : Bool) → why_of (if c then None else None) (medium_sense asc lba) ≡ why_of (if c then None else None) (medium_sense asc 0)
  by true = refl
  by false = refl

abbrev pub by_flaw : Result (List ℕ) Flaw → Result (List ℕ) Why
by_flaw (Ok frame) = Ok frame
by_flaw (Err flaw) = Err (flaw_why flaw)

pub stores-by : (broken : Bool) (came : Result (List ℕ) Check) → stores_unless broken (by_target came) ≡ by_flaw (stored_unless broken came)
stores-by false (Ok frame) = refl
stores-by true (Ok frame) = refl
stores-by false (Err check) = refl
stores-by true (Err check) = refl

pub sends-by : (broken : Bool) (came : Result (List ℕ) Check) → sends_unless broken (by_target came) ≡ by_flaw (sent_unless broken came)
sends-by true came = refl
sends-by false (Ok frame) = refl
sends-by false (Err check) = refl

-- two passages of one block, with the medium
pub onto-alike : (faults : List FaultLine) (p q : Passage) (frame : List ℕ) → Alike p q → onto_medium faults p frame ≡ onto_medium faults q frame
onto-alike faults p q frame e = ap (λ l. stored_unless (fails_under faults l) (to_medium faults p frame)) e.label ∙ ap (stored_unless (fails_under faults q.label)) (alike-out faults p q frame e)

pub off-alike : (faults : List FaultLine) (p q : Passage) (stored : List ℕ) → Alike p q → off_medium faults p stored ≡ off_medium faults q stored
off-alike faults p q stored e = ap (λ l. sent_unless (fails_under faults l) (from_medium faults p stored)) e.label ∙ ap (sent_unless (fails_under faults q.label)) (alike-in faults p q stored e)
