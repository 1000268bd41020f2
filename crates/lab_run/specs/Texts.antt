use Rattle.std.specs.Prelude.{ℕ, List, ◌++◌, codes, decimal}
use Rattle.call_refusal.specs.Refusals.{of_rig}
use Rattle.call_refusal.specs.Texts.{refusal_text as stop_text}
use Rattle.call_refusal.specs.declared.refusal.Refusal.{Refusal as Stop}
use Rattle.call_refusal.specs.declared.refusal.Refusal.TheVariants as stop
use Rattle.call_verdict.specs.Verdicts.{Program, stop_status}
use Rattle.call_verdict.specs.declared.status.Status.{Status}
use Rattle.call_verdict.specs.declared.status.Status.TheVariants as status
use Rattle.image_blocks.specs.Places.{place_fault_name}
use Rattle.image_text.specs.declared.dumps_fault.ImportFault.{ImportFault}
use Rattle.image_text.specs.declared.dumps_fault.ImportFault.TheVariants as halt
use Rattle.rig_api.specs.Head.{fault_name}
use Rattle.rig_api.specs.declared.rig.RigFault.{RigFault}
use Rattle.lab_run.specs.Calls.{Facts}
use Rattle.lab_run.specs.declared.finding.Unfound.{Unfound}
use Rattle.lab_run.specs.declared.finding.Unfound.TheVariants as unfound
use Rattle.lab_run.specs.declared.refusal.Refusal.{Refusal}
use Rattle.lab_run.specs.declared.refusal.Refusal.TheVariants as refusal
use Rattle.lab_run.specs.declared.usage.TheConstants.{HELP, USAGE}

-- the text of `--help`, as the program has it
abbrev pub help_text : List ℕ
help_text = HELP.now

-- the text of `--version`
abbrev pub version_text : List ℕ
version_text = codes "dixlab 1\n"

-- the line of blocks that were imported
abbrev pub imported_text : (count : ℕ) → List ℕ
imported_text count = codes "imported " ++ (decimal count ++ codes "\n")

-- ---- refusals

-- want of memory
abbrev pub no_memory : Refusal
no_memory = refusal.Stopped stop.Memory

-- the refusal of an image that isn't opened
abbrev pub of_head : RigFault → Refusal
of_head fault = refusal.Stopped (of_rig fault)

-- the refusal of a place that isn't found
abbrev pub of_place : Unfound → Refusal
of_place (unfound.Stopped s) = refusal.Stopped s
of_place (unfound.Place fault) = refusal.Place fault

-- that of the second one of a `diff`
abbrev pub of_second : Unfound → Refusal
of_second (unfound.Stopped (stop.Image fault)) = refusal.SecondImage fault
of_second (unfound.Stopped s) = refusal.Stopped s
of_second (unfound.Place fault) = refusal.SecondPlace fault

-- the refusal of a dump that isn't taken whole
abbrev pub of_import : ImportFault → Refusal
of_import (halt.Short pieces) = refusal.Short pieces
of_import halt.Long = refusal.Long
of_import halt.Store = refusal.Stopped stop.RigFault
of_import halt.Source = refusal.Stopped stop.ReadFault

-- the status of a refusal
abbrev pub status_of : Refusal → Status
status_of refusal.Words = status.Words
status_of (refusal.Stopped s) = stop_status s
status_of (refusal.Place fault) = status.Image
status_of refusal.NoTuples = status.Image
status_of (refusal.SecondImage fault) = status.Image
status_of (refusal.SecondPlace fault) = status.Image
status_of refusal.OtherSize = status.Image
status_of refusal.OtherCount = status.Image
status_of (refusal.Size has wanted) = status.Input
status_of (refusal.Short pieces) = status.Input
status_of refusal.Long = status.Input

-- the text of a refusal
abbrev pub refusal_text : Refusal → List ℕ
refusal_text refusal.Words = USAGE.now
refusal_text (refusal.Stopped s) = stop_text s
refusal_text (refusal.Place fault) = codes "place " ++ (place_fault_name fault ++ codes "\n")
refusal_text refusal.NoTuples = codes "layout NoTuples\n"
refusal_text (refusal.SecondImage fault) = codes "second image " ++ (fault_name fault ++ codes "\n")
refusal_text (refusal.SecondPlace fault) = codes "second place " ++ (place_fault_name fault ++ codes "\n")
refusal_text refusal.OtherSize = codes "places OtherSize\n"
refusal_text refusal.OtherCount = codes "places OtherCount\n"
refusal_text (refusal.Size has wanted) = codes "dump of " ++ (decimal has ++ (codes " bytes in place of " ++ (decimal wanted ++ codes ", imported 0\n")))
refusal_text (refusal.Short pieces) = codes "dump short, imported " ++ (decimal pieces ++ codes "\n")
refusal_text refusal.Long = codes "dump long, imported all\n"

-- the program: what its calls speak of, and why it refuses one
abbrev pub lab : Program
lab = record { Facts = Facts; Refusal = Refusal; status_of = status_of; text_of = refusal_text }
