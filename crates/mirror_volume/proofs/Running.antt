-- Requests on the legs of a mirror: none was run, some and then others, and what else is said of some.
use Rattle.std.proofs.Common.{ℕ, ◌≡◌, ◌≤◌, List, [], ◌++◌, is_some, length, refl, subst, sym, ◌∙◌}
use Rattle.rig_api.specs.State.{RigState}
use Rattle.script_text.specs.declared.script.Script.{Script}
use Rattle.script_stack.specs.Causes.{table_of}
use Rattle.mirror_volume.specs.LegRuns.{LegRun}
use Rattle.mirror_volume.specs.Standing.{HasLegDevices}
use Rattle.mirror_volume.proofs.OwnEach.{all_own-append, all_own-so}
use Rattle.mirror_volume.proofs.Runs.{go_on-append, ran-append, ran-nothing}
use Rattle.mirror_volume.specs.declared.legs.Plan.{Plan}
use Rattle.mirror_volume.specs.Running.{CanRun, HasRunOnLegs}

pub none-run : {p : Plan} {used : ℕ} {now : RigState} {Own : Script → Type 0} (Came : List LegRun → Type 0) → Came [] → HasRunOnLegs p used used now now Own Came
none-run {p} {used} {now} Came h = record { runs = []; ran = ran-nothing (table_of p.script p.devices.items) p.devices.items now; goes_on = refl; own = tt; came = h; tells = refl }

-- The same runs, of which more is said.
abbrev pub run-so : {p : Plan} {used used' : ℕ} {before after : RigState} {Own Own' : Script → Type 0} {Came : List LegRun → Type 0} (Came' : List LegRun → Type 0) (h : HasRunOnLegs p used used' before after Own Came)
    → ((s : Script) → Own s → Own' s) → Came' h.runs → HasRunOnLegs p used used' before after Own' Came'
run-so {Own = Own} {Own' = Own'} Came' h own came = record { runs = h.runs; ran = h.ran; goes_on = h.goes_on; own = all_own-so Own Own' h.runs own h.own; came = came; tells = h.tells }

-- Some, and then others.
abbrev pub run-both : {p : Plan} {used then used' : ℕ} {before between after : RigState} {Own : Script → Type 0} {Came Came' : List LegRun → Type 0} (All : List LegRun → Type 0) (h : HasRunOnLegs p used then before between Own Came)
    (k : HasRunOnLegs p then used' between after Own Came') → All (h.runs ++ k.runs) → HasRunOnLegs p used used' before after Own All
run-both {p} {used} {then} {used'} {before} {between} {after} {Own} All h k came = record {
  runs = h.runs ++ k.runs;
  ran = ran-append (table_of p.script p.devices.items) p.devices.items h.runs k.runs before between after h.ran k.ran;
  goes_on = go_on-append p.script.schedule used then used' h.runs k.runs h.goes_on k.goes_on;
  own = all_own-append Own h.runs k.runs h.own k.own;
  came = came;
  tells = k.tells ∙ h.tells;
}

-- The next can be run, where the rig stands as before.
pub can-still : {p : Plan} {used : ℕ} {before : RigState} (used' : ℕ) (after : RigState) → CanRun p used before → used' ≤ length p.script.schedule → is_some after.image ≡ is_some before.image → after.standing ≡ before.standing → CanRun p used' after
can-still {p} {used} {before} used' after h few tells standing = record {
  plan = h.plan;
  rig = subst (λ st. HasLegDevices p.devices.items (is_some after.image) st) (sym standing) (subst (λ t. HasLegDevices p.devices.items t before.standing) (sym tells) h.rig);
  few = few;
}
